-- A member has gone into a view: what then holds of it.
use Rattle.std.proofs.Common.{◌≡◌, ℕ, ◌<◌, ◌≤◌, true, false, Option, Some, None, List, [], ◌∷◌, ◌++◌, length, map, refl, sym, ap, ◌∙◌, subst, arith}
use Rattle.std.specs.Option.{option_map}
use Rattle.std.proofs.lemmas.Bool.{and_from, cond-true}
use Rattle.std.proofs.lemmas.Option.{none-some, same_Some}
use Rattle.address.specs.Ids.{Address, ViewId, same_address, same_view_id}
use Rattle.view.specs.Members.{View, stands_in}
use Rattle.wire_values.specs.Values as wire
use Rattle.state_transfer.specs.Meanings.{Meaning}
use Rattle.trace_props.specs.declared.event.Event.{Event}
use Rattle.trace_props.specs.declared.event.Event.TheVariants.{Installed}
use Rattle.trace_props.specs.declared.event.Install.{Install}
use Rattle.trace_props.specs.Observed.{current_view, is_blocked, delivered_in, own, entry_of}
use Rattle.trace_props.specs.Rules.{IsRunning}
use Rattle.trace_props.specs.State.{state_of, entry_state}
use Rattle.address.proofs.SameIds.{same_view_id-refl, same_address-from}
use Rattle.trace_props.proofs.ObservedGrow.{has_started-stays, has_ended-still, current_view-now, is_blocked-open}
use Rattle.trace_props.proofs.DeliveredGrow.{enters, delivered_in-still, sent_in-still}
use Rattle.law_acts.specs.Words.{entry_for, Open, list_of, tally_after, no_tally}
use Rattle.law_acts.specs.Histories.{History, flush_of}
use Rattle.law_acts.specs.Cores.{Core, fresh_view_core}
use Rattle.law_acts.specs.Acts.{gone_into}
use Rattle.law_acts.specs.Packets.{state_with}
use Rattle.law_acts.specs.Members.{LiesBelow, KeepsInstructions, ViewFact, MemberFact, installed_as}
use Rattle.law_acts.specs.Invariant.{NothingBefore}
use Rattle.law_acts.proofs.TalliesGrow.{list_of-still, tally_of-push}
use Rattle.law_acts.proofs.KeepByInstall.{installed_on, entry-now}

-- where no message was delivered no entry was
list-none : (p : Address) (v : ViewId) (t : List Event) → delivered_in p v t ≡ [] → list_of p v t ≡ []
unfolding list_of
list-none p v t e = ap (map entry_for) e

module _ {S : Type 0} (meaning : Meaning S) where
  -- what is to be shown of a member that goes into a view by this install; the history is that right before it, with all packets of the act
  pub record Comes (h : History) (c : Core S) (i : Install) (s : S) (kept : List (Address × wire.Install)) : Type 0 where
    pub itself : i.member ≡ c.me
    pub before : NothingBefore h.trace
    pub running : IsRunning c.me h.trace
    pub new : entry_of c.me i.view.id h.trace ≡ None
    pub listed : stands_in c.me i.view.members ≡ true
    pub first : installed_as i.view.id.creator i.view.id (installed_on h i).trace ≡ Some i.view
    pub announced : same_address i.view.id.creator c.me ≡ false → flush_of i.view.id h.pool ≡ Some i.view.members
    pub below : LiesBelow h.pool c.me (Some i.view)
    pub keeps : KeepsInstructions h.pool c.me kept i.view
    pub now : state_of meaning c.me (installed_on h i).trace ≡ s
    pub is : meaning.is_state s
    pub begins : entry_state meaning i.view.id (installed_on h i).trace ≡ Some s

  -- so it is open in that view, with nothing delivered, sent or held there yet
  pub arrives : (h : History) (c : Core S) (i : Install) (s : S) (kept : List (Address × wire.Install)) (kept_state : Option (List ℕ)) → Comes h c i s kept
      → MemberFact meaning (installed_on h i) c.me (gone_into i.view s kept kept_state c)
  arrives h c i s kept kept_state x =
      let t = h.trace in
      let me = c.me in
      let v = i.view in
      let happened = Installed i in
      let k : History = installed_on h i in
      let was = x.before me v.id x.new in
      let delivered_now : delivered_in me v.id k.trace ≡ [] = delivered_in-still me v.id t happened refl ∙ was.none_delivered in
      let list : list_of me v.id k.trace ≡ [] = list_of-still me v.id t happened refl ∙ list-none me v.id t was.none_delivered in
      let sent = sent_in-still me v.id t happened refl ∙ was.sent in
      let mine : enters me v.id i ≡ true = and_from (same_address i.member me) (same_view_id v.id v.id) (same_address-from i.member me x.itself) (same_view_id-refl v.id) in
      let fact : ViewFact k me true fresh_view_core kept v = record {
        inside = record {
          own = ap (λ q. installed_as q v.id k.trace) (sym x.itself)
              ∙ ap (option_map (λ (e : Install). e.view)) (entry-now h i (ap (λ q. entry_of q v.id t) x.itself ∙ x.new));
          first = x.first;
          listed = x.listed;
        };
        counts = record {
          delivered_count = ap length list;
          tally = tally_of-push me v.id t happened ∙ ap (λ z. tally_after me v.id z happened) was.tally
              ∙ cond-true (enters me v.id i) (record { phase = Open; count = 0 }) no_tally mine;
        };
        mine = record { sent = sent ∙ ap (λ l. own me l ++ []) (sym delivered_now); count = ap length sent };
        window = record {
          order = λ g e at. absurd (none-some e at);
          all = λ g past within. absurd (let a : 0 < g = past in let b : g ≤ 0 = within in omega arith);
          near = λ g there. absurd (let n : false ≡ true = there in cc);
          all_have = λ q there. omega arith;
        };
        acks = λ q. omega arith;
        waiting = λ n e at. absurd (none-some e at);
        ordered = λ q first. ap (λ l. length (own q l)) (sym delivered_now);
        keeps = x.keeps;
      } in
      record {
        standing = record {
          itself = refl;
          running = record { started = has_started-stays me t (happened ∷ []) x.running.started; going = has_ended-still me t happened refl ∙ x.running.going };
          current = ap (λ q. current_view q k.trace) (sym x.itself) ∙ current_view-now t i;
          block = ap (λ q. is_blocked q k.trace) (sym x.itself) ∙ is_blocked-open t i;
        };
        promise = record {
          inside = λ e. refl;
          is = λ e. refl;
          above = λ e. absurd (let n : true ≡ false = e in cc);
          listed = λ u e. subst (λ (w : View). stands_in me w.members ≡ true) (same_Some v u e) x.listed;
        };
        announced = λ u e. subst (λ (w : View). same_address w.id.creator me ≡ false → flush_of w.id h.pool ≡ Some w.members) (same_Some v u e) x.announced;
        below = x.below;
        reported = λ waits. absurd (let n : true ≡ false = waits in cc);
        flush = λ g e. absurd (none-some g e);
        view = λ u e. subst (λ (w : View). ViewFact k me true fresh_view_core kept w) (same_Some v u e) fact;
        state = record {
          now = x.now;
          is = x.is;
          in_view = λ u e.
              subst (λ (w : View). state_with meaning w.id (list_of me w.id k.trace) k.trace ≡ Some s) (same_Some v u e)
              (ap (λ l. state_with meaning v.id l k.trace) list ∙ ap (option_map _) x.begins);
        };
      }
