-- A member starts at an address that never started: nothing of the history is its own.
use Rattle.std.proofs.Common.{◌≡◌, Bool, true, false, Some, None, List, [], ◌∷◌, ◌++◌, refl, sym, ap, ◌∙◌, subst}
use Rattle.std.proofs.lemmas.Option.{none-some, same_Some}
use Rattle.std.proofs.lemmas.List.{append-nil}
use Rattle.address.specs.Ids.{Address, ViewId, IsAddress, same_address}
use Rattle.wire_values.specs.Values.{Report}
use Rattle.state_transfer.specs.Meanings.{Meaning}
use Rattle.trace_props.specs.declared.event.Event.{Event}
use Rattle.trace_props.specs.declared.event.Event.TheVariants.{Started, Sent, Delivered, Blocked, Installed, Left, Crashed}
use Rattle.trace_props.specs.Observed.{member_of, has_started, has_ended, current_view, is_blocked, sent_in}
use Rattle.trace_props.specs.Places.{EachEvent}
use Rattle.trace_props.specs.Rules.{MayStand}
use Rattle.trace_props.specs.State.{state_of}
use Rattle.trace_props.specs.Verdicts.{GoesOn}
use Rattle.trace_props.proofs.RulesAlongLists.{EachEvent-before, EachEvent-last}
use Rattle.address.proofs.SameIds.{same_address-true}
use Rattle.trace_props.proofs.ObservedGrow.{has_started-now, has_started-stays, has_ended-still, has_ended-other, current_view-push, current_view-other, is_blocked-push, is_blocked-other}
use Rattle.trace_props.proofs.InstallsOfRisingViews.{by_pushes}
use Rattle.trace_props.proofs.DeliveredGrow.{sent_in-other}
use Rattle.trace_props.proofs.RuleOfEntry.{state_of-push}
use Rattle.law_acts.specs.Histories.{History, flush_of, report_of}
use Rattle.wire_values.specs.declared.packet.Body.{Body}
use Rattle.wire_values.specs.declared.packet.Body.TheVariants as bodies
use Rattle.law_acts.specs.Packets.{BodyFact}
use Rattle.law_acts.specs.Cores.{Core, idle}
use Rattle.law_acts.specs.Steps.{System, put, grown}
use Rattle.law_acts.specs.Members.{MemberFact}
use Rattle.law_acts.specs.Invariant.{EachPacket, HasRealSenders, Invariant}
use Rattle.law_acts.proofs.KeepTrace.{rules-of, state-still}
use Rattle.law_acts.proofs.RegistersHoldPackets.{flush-stands, report-stands}
use Rattle.law_acts.proofs.KeepByMove.{moved}
use Rattle.law_acts.proofs.KeepWithoutInstall.{quiet-event, quiet-moves, grown-trace}

-- ---- nothing happened to one who never started

-- whoever something happens to has started by then
started-by : (t : List Event) (x : Event) → MayStand t x → has_started (member_of x) (t ++ x ∷ []) ≡ true
started-by t (Started q) stands = has_started-now q t
started-by t (Sent s) stands = has_started-stays s.member t (Sent s ∷ []) stands.0.started
started-by t (Delivered d) stands = has_started-stays d.member t (Delivered d ∷ []) stands.0.started
started-by t (Blocked q) stands = has_started-stays q t (Blocked q ∷ []) stands.0.started
started-by t (Installed i) stands = has_started-stays i.member t (Installed i ∷ []) stands.started
started-by t (Left q) stands = has_started-stays q t (Left q ∷ []) stands.started
started-by t (Crashed q) stands = has_started-stays q t (Crashed q ∷ []) stands.started

not-member : (p : Address) (t : List Event) (x : Event) (b : Bool) → same_address (member_of x) p ≡ b → MayStand t x → has_started p (t ++ x ∷ []) ≡ false → same_address (member_of x) p ≡ false
not-member p t x false e stands fresh = e
not-member p t x true e stands fresh =
    absurd (let n : true ≡ false = sym (started-by t x stands) ∙ ap (λ q. has_started q (t ++ x ∷ [])) (same_address-true (member_of x) p e) ∙ fresh in cc)

started-before : (p : Address) (t : List Event) (x : Event) (b : Bool) → has_started p t ≡ b → has_started p (t ++ x ∷ []) ≡ false → has_started p t ≡ false
started-before p t x false e fresh = e
started-before p t x true e fresh = absurd (let n : true ≡ false = sym (has_started-stays p t (x ∷ []) e) ∙ fresh in cc)

-- what the trace says of one to whom nothing happened
pub record IsNobody {S : Type 0} (meaning : Meaning S) (p : Address) (t : List Event) : Type 0 where
  pub going : has_ended p t ≡ false
  pub outside : current_view p t ≡ None
  pub free : is_blocked p t ≡ false
  pub state : state_of meaning p t ≡ meaning.opening
  pub silent : (v : ViewId) → sent_in p v t ≡ []

Nobody : {S : Type 0} → Meaning S → Address → List Event → Type 0
Nobody meaning p t = EachEvent MayStand t → has_started p t ≡ false → IsNobody meaning p t

nobody-push : {S : Type 0} (meaning : Meaning S) (p : Address) (t : List Event) (x : Event) → Nobody meaning p t → Nobody meaning p (t ++ x ∷ [])
unfolding Nobody
nobody-push meaning p t x later placed fresh =
    let before = later (EachEvent-before MayStand t x placed) (started-before p t x (has_started p t) refl fresh) in
    let other = not-member p t x (same_address (member_of x) p) refl (EachEvent-last MayStand t x placed) fresh in
    record {
      going = has_ended-other p t x other ∙ before.going;
      outside = current_view-other p t x other ∙ before.outside;
      free = is_blocked-other p t x other ∙ before.free;
      state = state_of-push meaning p t x ∙ state-still meaning p (state_of meaning p t) x other ∙ before.state;
      silent = λ v. sent_in-other p v t x other ∙ before.silent v;
    }

pub nobody : {S : Type 0} (meaning : Meaning S) (p : Address) (t : List Event) → EachEvent MayStand t → has_started p t ≡ false → IsNobody meaning p t
unfolding Nobody
nobody meaning p t =
    by_pushes (Nobody meaning p) (λ placed fresh. record { going = refl; outside = refl; free = refl; state = refl; silent = λ v. refl })
    (λ u x later. nobody-push meaning p u x later) t

-- ---- nothing was put out by it

no-flush : (h : History) (p : Address) (w : ViewId) (l : List Address) → EachPacket h → HasRealSenders h → has_started p h.trace ≡ false → same_address w.creator p ≡ true
    → flush_of w h.pool ≡ Some l → ⊥
no-flush h p w l each real fresh mine e =
    let s = flush-stands w l h.pool e in
    let out = s.2 in
    let fact : BodyFact h out.posted.source out.posted.destination (bodies.Flush (record { id = w; members = l })) =
    subst (λ (b : Body). BodyFact h out.posted.source out.posted.destination b) out.says (each out.place out.posted out.stands) in
    let source : out.posted.source ≡ p = sym fact.own ∙ same_address-true w.creator p mine in
    let n : true ≡ false = sym (real out.place out.posted out.stands) ∙ ap (λ q. has_started q h.trace) source ∙ fresh in
    absurd cc

no-report : (h : History) (p : Address) (w : ViewId) (r : Report) → HasRealSenders h → has_started p h.trace ≡ false → report_of p w h.pool ≡ Some r → ⊥
no-report h p w r real fresh e =
    let s = report-stands p w r h.pool e in
    let n : true ≡ false = sym (real s.1.place s.1.posted s.1.stands) ∙ ap (λ q. has_started q h.trace) s.1.source ∙ fresh in
    absurd cc

-- ---- the step

module _ {S : Type 0} (meaning : Meaning S) where
  starts-goes : (t : List Event) (p : Address) → has_started p t ≡ false → GoesOn meaning t (Started p)
  starts-goes t p fresh = record { seven = (tt, (tt, (tt, (tt, (tt, (tt, (fresh, tt))))))); enters = tt }

  pub starts-keep : (s : System S) (p : Address) → meaning.is_state meaning.opening → Invariant meaning s → IsAddress p → has_started p s.history.trace ≡ false
      → Invariant meaning (record { running = put p (Some (idle meaning.opening p)) s.running; history = grown s.history [] (Started p ∷ []) })
  starts-keep s p opens i proper fresh =
      let h = s.history in
      let t = h.trace in
      let k : History = record { pool = h.pool; trace = t ++ Started p ∷ [] } in
      let rules = rules-of meaning h i.trace in
      let quiet = quiet-event meaning p h (Started p) refl refl i.trace (starts-goes t p fresh) proper in
      let was = nobody meaning p t rules.ordered.placed fresh in
      let fact : MemberFact meaning k p (idle meaning.opening p) = record {
        standing = record {
          itself = refl;
          running = record { started = has_started-now p t; going = has_ended-still p t (Started p) refl ∙ was.going };
          current = current_view-push p t (Started p) ∙ was.outside;
          block = is_blocked-push p t (Started p) ∙ was.free;
        };
        promise = record {
          inside = λ e. absurd (let n : false ≡ true = e in cc);
          is = λ e. absurd (let n : false ≡ true = e in cc);
          above = λ e v y. absurd (none-some v y);
          listed = λ w y. absurd (none-some w y);
        };
        announced = λ w y. absurd (none-some w y);
        below = record {
          announced = λ w l mine e. no-flush h p w l i.packets i.trace.senders fresh mine e;
          reported = λ w r e. no-report h p w r i.trace.senders fresh e;
        };
        reported = λ waits w y. absurd (none-some w y);
        flush = λ f y. absurd (none-some f y);
        view = λ v y. absurd (none-some v y);
        state = record {
          now = state_of-push meaning p t (Started p) ∙ was.state;
          is = opens;
          in_view = λ v y. absurd (none-some v y);
        };
      } in
      subst (λ (l : History). Invariant meaning (record { running = put p (Some (idle meaning.opening p)) s.running; history = l }))
      (sym (grown-trace meaning h (Started p ∷ [])))
      (moved meaning s p k (Some (idle meaning.opening p)) i
      (quiet-moves meaning s p k [] (Some (idle meaning.opening p)) i quiet (sym (append-nil h.pool)) (λ n m at. absurd (none-some m at))
      (λ c e. subst (λ (z : Core S). MemberFact meaning k p z) (same_Some (idle meaning.opening p) c e) fact)))
