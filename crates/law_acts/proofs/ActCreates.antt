-- The act Creates: a member makes a first view of itself alone.
use Rattle.std.proofs.Common.{◌≡◌, true, false, cond, Option, Some, None, List, [], ◌∷◌, ◌++◌, refl, sym, ap, ◌∙◌, subst, is_some, ◌⊎◌, inl, inr}
use Rattle.std.specs.Option.{option_map_or, option_eq}
use Rattle.std.proofs.lemmas.Bool.{or_left}
use Rattle.std.proofs.lemmas.Option.{none-some}
use Rattle.std.proofs.lemmas.List.{append-nil}
use Rattle.address.specs.Ids.{Address, ViewId, same_address, same_view_id}
use Rattle.view.specs.Members.{View, stands_in}
use Rattle.state_transfer.specs.Meanings.{Meaning}
use Rattle.trace_props.specs.declared.event.Event.{Event}
use Rattle.trace_props.specs.declared.event.Event.TheVariants.{Installed}
use Rattle.trace_props.specs.declared.event.Install.{Install}
use Rattle.trace_props.specs.Observed.{current_view, entry_of}
use Rattle.trace_props.specs.Rules.{EntersAbove}
use Rattle.address.proofs.SameIds.{same_address-refl, same_address-true}
use Rattle.trace_props.proofs.InstallsOfRisingViews.{not-entered}
use Rattle.law_acts.specs.Histories.{History, flush_of, report_of, install_of, goes_from}
use Rattle.law_acts.specs.Cores.{Core, id_of, left_of}
use Rattle.law_acts.specs.Acts.{Creates, MayCreate, lone_view, gone_into, deliveries, entering}
use Rattle.law_acts.specs.Steps.{System, put, acted}
use Rattle.law_acts.specs.Members.{IsNotPast, MemberFact}
use Rattle.law_acts.specs.Invariant.{Invariant}
use Rattle.law_acts.proofs.KeepTrace.{views-of}
use Rattle.law_acts.proofs.KeepWithoutInstall.{quiet-refl}
use Rattle.law_acts.proofs.ActBegins.{or-cases}
use Rattle.law_acts.proofs.KeepByInstall.{entry-now}
use Rattle.law_acts.proofs.FirstToInstall.{none-of, unentered}
use Rattle.law_acts.proofs.KeepByFirstInstall.{made_on, coordinator-goes, made}

-- the install by which a member is alone in its first view
abbrev pub lone_install : Address → Install
lone_install p = record { member = p; previous = None; view = lone_view p; together = p ∷ []; handed_back = []; given = None }

-- without a view it is all that happens
entering-lone : {S : Type 0} (c : Core S) → c.view ≡ None → entering c [] (lone_view c.me) (c.me ∷ []) None ≡ Installed (lone_install c.me) ∷ []
entering-lone c none =
    ap (λ (o : Option View). deliveries c.me o [] ++ Installed (record {
      member = c.me;
      previous = id_of o;
      view = lone_view c.me;
      together = c.me ∷ [];
      handed_back = option_map_or (λ v. left_of c.me [] c.view_state.outstanding) o [];
      given = None;
    }) ∷ []) none

-- nobody else stands in a list of one
only-one : (q p : Address) → stands_in q (p ∷ []) ≡ true → q ≡ p
only-one q p there = by (or-cases (same_address q p) false there)
  where
    by : (same_address q p ≡ true) ⊎ (false ≡ true) → q ≡ p
    by (inl e) = same_address-true q p e
    by (inr e) = absurd (let n : false ≡ true = e in cc)

module _ {S : Type 0} (meaning : Meaning S) where
  abbrev Fact : History → Address → Core S → Type 0
  Fact h p c = MemberFact meaning h p c

  -- the act keeps the invariant
  pub creates-keep : (s : System S) (c : Core S) → Invariant meaning s → Fact s.history c.me c → MayCreate c → Invariant meaning (acted meaning s c.me Creates c)
  creates-keep s c inv x a =
      let h = s.history in
      let t = h.trace in
      let p = c.me in
      let i = lone_install p in
      let w = i.view.id in
      let k = made_on h [] i in
      let outside : current_view p t ≡ None = x.standing.current ∙ ap id_of a.outside in
      let alone : stands_in p (p ∷ []) ≡ true = or_left (same_address p p) false (same_address-refl p) in
      let above : EntersAbove t i = record { inside = alone; previous = sym outside; rises = λ v e. absurd (none-some v e) } in
      let none : entry_of p w t ≡ None = none-of (entry_of p w t) (not-entered t i (views-of meaning h inv.trace) above) in
      let goes : goes_from k w p ≡ Some None = coordinator-goes k w p i (same_address-refl p) (entry-now h i none) in
      let past : (u : ViewId) → IsNotPast c.promise u → ⊥ = λ u y. subst (λ (o : Option View). IsNotPast o u) a.unpromised y in
      subst (λ (u : List Event). Invariant meaning (record { running = put p (Some (gone_into (lone_view p) c.state [] None c)) s.running; history = record { pool = h.pool ++ []; trace = t ++ u } }))
      (sym (entering-lone c a.outside))
      (made meaning s c h [] i c.state [] None inv (quiet-refl meaning p h inv.trace) refl (record {
        itself = refl;
        may = record {
          mine = refl;
          running = x.standing.running;
          above = above;
          new = unentered h w inv.entries none;
          inside = λ q there. there;
          before = λ v e. absurd (none-some v e);
          itself = alone;
          back = refl;
          nothing = refl;
        };
        state = x.state.now;
        is = x.state.is;
        from = λ n m at. absurd (none-some m at);
        other_installs = λ u q other. ap (install_of u q) (append-nil h.pool);
        below = record {
          announced = λ u l mine e. absurd (past u (x.below.announced u l mine (sym (ap (flush_of u) (append-nil h.pool)) ∙ e)));
          reported = λ u r e. absurd (past u (x.below.reported u r (sym (ap (report_of p u) (append-nil h.pool)) ∙ e)));
        };
        keeps = λ q j e. absurd (none-some j e);
        packets = λ n m at. absurd (none-some m at);
        complete = λ q there. ap (λ r. is_some (goes_from k w r)) (only-one q p there) ∙ ap is_some goes;
        together = ap (λ o. cond (option_map_or (λ u. option_eq same_view_id u None) o false) (p ∷ []) []) (sym goes);
        gives = λ u q j e. inl (sym (ap (install_of u q) (append-nil h.pool)) ∙ e);
        begins = λ v e. absurd (none-some v e);
      }))
