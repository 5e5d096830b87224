-- A message of the member's own: why it is not refused, and what happens by it.
use Rattle.std.proofs.Common.{◌≡◌, ℕ, ◌+◌, ◌-◌, Bool, true, false, not, ◌&&◌, Option, None, Some, List, [], ◌∷◌, ◌++◌, map, length, refl, sym, ap, ◌∙◌, append_assoc, subst, arith, is_some}
use Rattle.std.specs.Prelude.{nat_lt, nat_le, if◌then◌else◌}
use Rattle.std.proofs.lemmas.List.{length-append}
use Rattle.std.proofs.lemmas.Bool.{and_parts, not-false}
use Rattle.std.proofs.lemmas.Bool.Decides.{nat_tests}
use Rattle.std.proofs.lemmas.Option.{none-some}
use Rattle.address.specs.Ids.{Address}
use Rattle.address.specs.declared.limits.TheConstants.{PAYLOAD, WINDOW, OUTSTANDING, GREATEST_NUMBER}
use Rattle.state_transfer.specs.Meanings.{Meaning}
use Rattle.trace_props.specs.declared.event.Event.{Event}
use Rattle.trace_props.specs.declared.event.Event.TheVariants.{Sent}
use Rattle.sequencer.specs.Queues.{may_order}
use Rattle.law_acts.specs.Acts.{delivery}
use Rattle.law_acts.specs.Cores.{is_frozen}
use Rattle.step_output.specs.declared.output.Output.{Output}
use Rattle.traffic.specs.declared.coordinator.Coordinator.{Coordinator}
use Rattle.traffic.specs.declared.follower.Follower.{Follower}
use Rattle.traffic.specs.declared.view_state.ViewState.{ViewState}
use Rattle.traffic.specs.declared.view_state.ViewState.TheVariants as kinds
use Rattle.traffic.specs.Coordinators.{IsCoordinator}
use Rattle.traffic.specs.Goings.{sending}
use Rattle.traffic.specs.Takes.{follower_pushing, SendsForward}
use Rattle.traffic.specs.Turns.{SendsOrdering, DeliversOwnAtOnce, IsFewMore, own_entry}
use Rattle.membership.specs.declared.member_state.MemberState.{MemberState}
use Rattle.membership.specs.MemberStates.{core_of, view_in, view_core_in}
use Rattle.address.specs.declared.refusal.Refusal.{Refusal}
use Rattle.address.specs.declared.refusal.Refusal.TheVariants.{NotConnected, TooLong, Blocked, Busy, Exhausted}
use Rattle.member_rules.specs.Refusals.{send_refusal}
use Rattle.member_rules.specs.Messages.{Sends, SendsNext, SendsFirst, DeliversNext, DeliversAtOnce, has_room}
use Rattle.member_rules.proofs.MembersAreOpen.{going_on}
use Rattle.member_rules.proofs.MessagesAreCalm.{deliveries-quiet}
use Rattle.step_output.specs.Steps.{who}
use Rattle.traffic.specs.InViews.{in_view}
use Rattle.membership.specs.InSteps.{in_step}

-- ---- nothing refuses it

abbrev refusal_by : Bool → Bool → Bool → Bool → Bool → Option Refusal
refusal_by a b c d e = if a then Some NotConnected else if b then Some TooLong else if c then Some Blocked else if d then Some Busy else if e then Some Exhausted else None

none-by : (a b c d e : Bool) → refusal_by a b c d e ≡ None → (a ≡ false) × (b ≡ false) × (c ≡ false) × (d ≡ false) × (e ≡ false)
none-by true b c d e x = absurd (none-some _ (sym x))
none-by false true c d e x = absurd (none-some _ (sym x))
none-by false false true d e x = absurd (none-some _ (sym x))
none-by false false false true e x = absurd (none-some _ (sym x))
none-by false false false false true x = absurd (none-some _ (sym x))
none-by false false false false false x = (refl, refl, refl, refl, refl)

-- it is in the view that is the promised one
pub promised-in : {S : Type 0} (me : Address) (l : MemberState S) (payload : List ℕ) (t : ViewState) → send_refusal (core_of me l) payload ≡ None → l.view_state ≡ Some t → l.promise.is_installed ≡ true
promised-in me l payload t free there =
    let view_state = view_core_in l.view_state in
    let parts = none-by (not (is_some (view_in l.view_state))) (nat_lt PAYLOAD (length payload)) (is_frozen (view_in l.view_state) l.promise.is_installed) (nat_le OUTSTANDING (length view_state.outstanding))
    (nat_le GREATEST_NUMBER view_state.sent) free in
    not-false l.promise.is_installed (subst (λ (o : Option ViewState). (is_some (view_in o) && not l.promise.is_installed) ≡ false) there parts.2)

-- ---- what happens

module _ {S : Type 0} (meaning : Meaning S) where
  pub sends-next : (p : Address) (group : List ℕ) (x : List ℕ) (m : Coordinator) (s : S) (out : Output) (n : Coordinator) (t : S) (later : Output) → SendsOrdering meaning (who p group) x (in_view m s out) (in_view n t later)
      → IsFewMore out later → SendsNext p m.view.id m.forwards.sent x out later
  sends-next p group x m s out n t later sent few =
      let e = Sent (sending p m.view.id (m.forwards.sent + 1) x) in
      let more = map (delivery p m.view.id) sent.orders.entries in
      let grows : later.events.items ≡ out.events.items ++ e ∷ more =
      sent.orders.grows.events ∙ ap (λ (l : List Event). l ++ more) sent.sent.events ∙ append_assoc out.events.items (e ∷ []) more in
      let l : length later.events.items ≡ length out.events.items + length (e ∷ more) = ap length grows ∙ length-append out.events.items (e ∷ more) in
      record { more = more; grows = grows; few = omega (arith, l, few); quiet = deliveries-quiet p m.view.id sent.orders.entries }

pub delivers-next : (p : Address) (x : List ℕ) (m : Coordinator) (out later : Output) → DeliversOwnAtOnce p x m out later → IsFewMore out later → DeliversNext p m.view.id m.forwards.sent x out later
delivers-next p x m out later at_once few =
    let more = map (delivery p m.view.id) at_once.rest in
    let l = ap length at_once.happens ∙ length-append out.events.items (Sent (sending p m.view.id (m.forwards.sent + 1) x) ∷ delivery p m.view.id (own_entry p m x) ∷ more) in
    record { more = more; grows = at_once.happens; few = omega (arith, l, few); quiet = deliveries-quiet p m.view.id at_once.rest }

pub room-fact : (p : Address) (m : Coordinator) → IsCoordinator p m → (nat_lt m.window.delivered (m.window.stable + WINDOW) && nat_lt m.window.delivered GREATEST_NUMBER) ≡ true → may_order m.window.stable m.orderer ≡ true
room-fact p m i room =
    let parts = and_parts (nat_lt m.window.delivered (m.window.stable + WINDOW)) (nat_lt m.window.delivered GREATEST_NUMBER) room in
    let ordered : m.orderer.ordered ≡ m.window.delivered = i.ordered in
    let near : nat_lt (m.orderer.ordered - m.window.stable) WINDOW ≡ true = let a = parts.0 in grind (arith, nat_tests) in
    let small : nat_lt m.orderer.ordered GREATEST_NUMBER ≡ true = let b = parts.1 in grind (arith, nat_tests) in
    rw (near, small) refl

-- ---- of the whole member

module _ {S : Type 0} (meaning : Meaning S) where
  pub sends-first : (p : Address) (group x y : List ℕ) (l : MemberState S) (m : Coordinator) (out : Output) (n : Coordinator) (t : S) (later : Output) → y ≡ x → l.view_state ≡ Some (kinds.Coordinator m)
      → SendsOrdering meaning (who p group) y (in_view m l.receiver out) (in_view n t later) → IsFewMore out later → SendsFirst p x (in_step l out) later
  sends-first p group x y l m out n t later same there sent few =
      let next = subst (λ (z : List ℕ). SendsNext p m.view.id m.forwards.sent z out later) same (sends-next meaning p group y m l.receiver out n t later sent few) in
      rw there next

  pub sends-other : (p : Address) (group x y : List ℕ) (l : MemberState S) (m : Follower) (out : Output) (n : Follower) (later : Output) → y ≡ x → l.view_state ≡ Some (kinds.Follower m) → n ≡ follower_pushing y m
      → SendsForward (who p group) y m out later → Sends meaning (who p group) x (in_step l out) (in_step (going_on l (kinds.Follower n) l.receiver) later)
  sends-other p group x y l m out n later same there now sent =
      let does : (n ≡ follower_pushing x m) × (l.receiver ≡ l.receiver) × SendsForward (who p group) x m out later =
      subst (λ (z : List ℕ). (n ≡ follower_pushing z m) × (l.receiver ≡ l.receiver) × SendsForward (who p group) z m out later) same (now, refl, sent) in
      (refl, rw there does)

pub delivers-first : {S : Type 0} (p : Address) (x y : List ℕ) (l : MemberState S) (m : Coordinator) (out later : Output) → y ≡ x → l.view_state ≡ Some (kinds.Coordinator m) → IsCoordinator p m
    → (may_order m.window.stable m.orderer ≡ true → DeliversOwnAtOnce p y m out later) → IsFewMore out later → has_room l.view_state ≡ true → DeliversAtOnce p x (in_step l out) later
delivers-first p x y l m out later same there i prompt few room =
    let here = subst (λ (o : Option ViewState). has_room o ≡ true) there room in
    let next = subst (λ (z : List ℕ). DeliversNext p m.view.id m.forwards.sent z out later) same (delivers-next p y m out later (prompt (room-fact p m i here)) few) in
    rw there next
