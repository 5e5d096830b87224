-- A member promises a proposal: it is blocked in its view, if it has one and was open there, and what holds of it then.
use Rattle.std.proofs.Common.{◌≡◌, Bool, true, false, cond, Option, Some, None, List, [], ◌∷◌, ◌++◌, length, refl, sym, ap, ◌∙◌, subst, is_some}
use Rattle.std.specs.Prelude.{IsSome}
use Rattle.std.specs.Option.{ForSome, IsSomeAnd, option_map}
use Rattle.std.proofs.lemmas.Bool.{cond-true}
use Rattle.std.proofs.lemmas.Option.{none-some, same_Some}
use Rattle.std.proofs.lemmas.List.{append-nil}
use Rattle.address.specs.Ids.{Address, ViewId, same_address}
use Rattle.view.specs.Members.{View, stands_in}
use Rattle.wire_values.specs.Values as wire
use Rattle.state_transfer.specs.Meanings.{Meaning}
use Rattle.trace_props.specs.declared.event.Event.{Event}
use Rattle.trace_props.specs.declared.event.Event.TheVariants.{Blocked}
use Rattle.trace_props.specs.Observed.{current_view, own}
use Rattle.trace_props.specs.Rules.{IsBelow}
use Rattle.trace_props.specs.Verdicts.{GoesOn}
use Rattle.address.proofs.SameIds.{same_address-refl}
use Rattle.trace_props.proofs.ObservedGrow.{has_started-stays, has_ended-still, current_view-push, is_blocked-now}
use Rattle.trace_props.proofs.DeliveredGrow.{delivered_in-still, sent_in-still}
use Rattle.trace_props.proofs.RuleOfEntry.{state_of-push}
use Rattle.trace_props.proofs.InstallsOfRisingViews.{IsBelow-trans}
use Rattle.law_acts.specs.Words.{Tally, blocked, tally_of}
use Rattle.law_acts.specs.Histories.{History}
use Rattle.law_acts.specs.Cores.{ViewCore, is_open, id_of, report_with}
use Rattle.law_acts.specs.Acts.{IsAbovePromise}
use Rattle.law_acts.specs.Packets.{SaysOf, state_with}
use Rattle.law_acts.specs.Members.{HasStanding, ViewFact, HasState, PromiseOf, IsNotPast}
use Rattle.law_acts.specs.Invariant.{TraceFact}
use Rattle.law_acts.proofs.TalliesGrow.{list_of-still, tally_of-push}
use Rattle.law_acts.proofs.KeepOthers.{inside-later, window-later, acks-later, waiting-later, first-entered}
use Rattle.law_acts.proofs.KeepWithoutInstall.{Quiet, quiet-refl, quiet-event}
use Rattle.law_acts.proofs.ActChangesOwn.{members-are}

-- the events by which a member that stands so is blocked
abbrev pub blocked_by : Address → Option View → Bool → List Event
blocked_by p view installed = cond (is_open view installed) (Blocked p ∷ []) []

abbrev pub with_blocked : History → Address → Option View → Bool → History
with_blocked h p view installed = record { pool = h.pool; trace = h.trace ++ blocked_by p view installed }

-- what holds of a member once it is blocked
pub record IsHalted {S : Type 0} (meaning : Meaning S) (h k : History) (p : Address)
    (view : Option View) (view_state : ViewCore) (kept : List (Address × wire.Install)) (state : S) : Type 0 where
  pub quiet : Quiet meaning p h k
  pub standing : HasStanding k.trace p p view false
  pub inside : ForSome view (ViewFact k p false view_state kept)
  pub own : HasState meaning k.trace p view state

module _ {S : Type 0} (meaning : Meaning S) where
  blocked-goes : (t : List Event) (p : Address) (v : View) → HasStanding t p p (Some v) true → GoesOn meaning t (Blocked p)
  blocked-goes t p v x = record {
    seven = (tt, (tt, (tt, (tt, (tt, (tt, ((x.running, there, x.block), tt)))))));
    enters = tt;
  }
    where
      there : IsSome (current_view p t)
      there = ap is_some x.current

  -- an open member is blocked
  halts-open : (h : History) (p : Address) (v : View) (view_state : ViewCore) (kept : List (Address × wire.Install)) (state : S) → TraceFact meaning h → HasStanding h.trace p p (Some v) true
      → ForSome (Some v) (ViewFact h p true view_state kept) → HasState meaning h.trace p (Some v) state
      → IsHalted meaning h (record { pool = h.pool; trace = h.trace ++ Blocked p ∷ [] }) p (Some v) view_state kept state
  halts-open h p v view_state kept state trace standing view own_state =
      let t = h.trace in
      let x = Blocked p in
      let k : History = record { pool = h.pool; trace = t ++ x ∷ [] } in
      let quiet = quiet-event meaning p h x refl refl trace (blocked-goes t p v standing) tt in
      let m = quiet.later in
      let f = view v refl in
      let list = list_of-still p v.id t x refl in
      let delivered_now = delivered_in-still p v.id t x refl in
      let sent = sent_in-still p v.id t x refl in
      let fact : ViewFact k p false view_state kept v = record {
        inside = inside-later h k p v m f.inside;
        counts = record {
          delivered_count = ap length list ∙ f.counts.delivered_count;
          tally = tally_of-push p v.id t x
              ∙ cond-true (same_address p p) (record { phase = blocked (tally_of p v.id t).phase; count = (tally_of p v.id t).count }) (tally_of p v.id t) (same_address-refl p)
              ∙ ap (λ (s : Tally). record { phase = blocked s.phase; count = s.count }) f.counts.tally;
        };
        mine = record { sent = sent ∙ f.mine.sent ∙ ap (λ l. own p l ++ view_state.outstanding) (sym delivered_now); count = ap length sent ∙ f.mine.count };
        window = window-later h k v.id view_state.stable view_state.delivered view_state.held m (first-entered t v.id.creator v f.inside.first) f.window;
        acks = acks-later h k v.id view_state.acks m f.acks;
        waiting = waiting-later h k v.id view_state.waiting m f.waiting;
        ordered = λ q first. f.ordered q first ∙ ap (λ l. length (own q l)) (sym delivered_now);
        keeps = λ q i there. let was = f.keeps q i there in (was.0, m.install v.id q i was.1);
      } in
      record {
        quiet = quiet;
        standing = record {
          itself = refl;
          running = record { started = has_started-stays p t (x ∷ []) standing.running.started; going = has_ended-still p t x refl ∙ standing.running.going };
          current = current_view-push p t x ∙ standing.current;
          block = is_blocked-now p t;
        };
        inside = λ u e. subst (λ (w : View). ViewFact k p false view_state kept w) (same_Some v u e) fact;
        own = record {
          now = state_of-push meaning p t x ∙ own_state.now;
          is = own_state.is;
          in_view = λ u e.
              ap (λ l. state_with meaning u.id l (t ++ x ∷ [])) (list_of-still p u.id t x refl)
              ∙ ap (option_map _) (quiet.begun u.id) ∙ own_state.in_view u e;
        };
      }

  -- a member without a view, or one that waits, already is
  halts-still : (h : History) (p : Address) (view : Option View) (view_state : ViewCore) (kept : List (Address × wire.Install)) (state : S) → TraceFact meaning h
      → HasStanding h.trace p p view false → ForSome view (ViewFact h p false view_state kept) → HasState meaning h.trace p view state
      → IsHalted meaning h (record { pool = h.pool; trace = h.trace ++ [] }) p view view_state kept state
  halts-still h p view view_state kept state trace standing fact own_state =
      subst (λ (t : List Event). IsHalted meaning h (record { pool = h.pool; trace = t }) p view view_state kept state) (sym (append-nil h.trace))
      (record { quiet = quiet-refl meaning p h trace; standing = standing; inside = fact; own = own_state })

  pub halts : (h : History) (p : Address) (view : Option View) (installed : Bool) (view_state : ViewCore) (kept : List (Address × wire.Install)) (state : S) → TraceFact meaning h
      → (installed ≡ true → is_some view ≡ true) → HasStanding h.trace p p view installed → ForSome view (ViewFact h p installed view_state kept)
      → HasState meaning h.trace p view state
      → IsHalted meaning h (with_blocked h p view installed) p view view_state kept state
  halts h p None true view_state kept state trace there standing fact own_state = absurd (let n : false ≡ true = there refl in cc)
  halts h p None false view_state kept state trace there standing fact own_state = halts-still h p None view_state kept state trace standing fact own_state
  halts h p (Some v) true view_state kept state trace there standing fact own_state = halts-open h p v view_state kept state trace standing fact own_state
  halts h p (Some v) false view_state kept state trace there standing fact own_state = halts-still h p (Some v) view_state kept state trace standing fact own_state

-- ---- what it reports then is so

says_of-by : (t : List Event) (h : History) (p : Address) (view_state : ViewCore) (kept : List (Address × wire.Install)) (v : View) → ViewFact h p false view_state kept v
    → SaysOf h.trace p (report_with (Some v) view_state) v.id
says_of-by t h p view_state kept v f = record {
  closed = ap (λ (s : Tally). s.phase) f.counts.tally;
  entered = first-entered h.trace p v f.inside.own;
  member = ap (stands_in p) (members-are h.trace v f.inside.first) ∙ f.inside.listed;
  delivered = sym (ap (λ (s : Tally). s.count) f.counts.tally);
  all = f.window.all;
  order = f.window.order;
  stable = f.window.all_have;
}

pub says_of : (h : History) (p : Address) (view : Option View) (view_state : ViewCore) (kept : List (Address × wire.Install)) → ForSome view (ViewFact h p false view_state kept)
    → ForSome (id_of view) (SaysOf h.trace p (report_with view view_state))
says_of h p None view_state kept fact v e = absurd (none-some v e)
says_of h p (Some u) view_state kept fact v e =
    subst (λ (w : ViewId). SaysOf h.trace p (report_with (Some u) view_state) w) (same_Some u.id v e) (says_of-by h.trace h p view_state kept u (fact u refl))

-- ---- the promise

-- a view that is at most promised lies below a higher promise
pub view-below : (b : Bool) (p : Address) (promise view : Option View) (installed : Bool) (w : View) → installed ≡ b → PromiseOf p promise view installed
    → IsAbovePromise w.id promise → ForSome view (λ v. IsBelow v.id w.id)
view-below true p promise view installed w test x above v e = above v (x.is test ∙ e)
view-below false p promise view installed w test x above v e = by promise (x.above test v e) above
  where
    by : (o : Option View) → IsSomeAnd o (λ u. IsBelow v.id u.id) → IsAbovePromise w.id o → IsBelow v.id w.id
    by None y z = absurd y
    by (Some u) y z = IsBelow-trans v.id u.id w.id y (z u refl)

-- what is not past a promise is not past a higher one
pub not-past : (promise : Option View) (w : View) (u : ViewId) → IsAbovePromise w.id promise → IsNotPast promise u → IsNotPast (Some w) u
not-past None w u above x = absurd x
not-past (Some v) w u above x = λ b. x (IsBelow-trans v.id w.id u (above v refl) b)

-- what lies past the promise was neither announced nor reported for
pub is-past : (promise : Option View) (w : ViewId) → IsAbovePromise w promise → IsNotPast promise w → ⊥
is-past None w above x = absurd x
is-past (Some v) w above x = x (above v refl)
