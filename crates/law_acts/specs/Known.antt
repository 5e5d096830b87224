-- What a member knows that runs: its receiver's state, its view, how much of it it has delivered, and how much of it is stable.
use Rattle.std.specs.Prelude.{◌≡◌, ℕ, ◌≤◌, true, List, ◌++◌, Some, length, take}
use Rattle.std.specs.Option.{ForSome}
use Rattle.address.specs.Ids.{Address}
use Rattle.view.specs.Members.{View, stands_in}
use Rattle.state_transfer.specs.Meanings.{Meaning}
use Rattle.trace_props.specs.declared.event.Event.{Event}
use Rattle.trace_props.specs.Observed.{current_view, is_blocked, delivered_in}
use Rattle.trace_props.specs.State.{state_of}
use Rattle.law_acts.specs.Cores.{Core, id_of, is_frozen}
use Rattle.law_acts.specs.Steps.{System}
use Rattle.law_acts.specs.Members.{installed_as}
use Rattle.law_acts.specs.Invariant.{Kept}

-- STABLE: each member of a view has delivered so many of its messages there, the first of its order
abbrev pub AllDelivered : List Event → View → ℕ → Type 0
AllDelivered t v n =
    (q : Address) → stands_in q v.members ≡ true → (n ≤ length (delivered_in q v.id t)) × (take n (delivered_in q v.id t) ≡ take n (delivered_in v.id.creator v.id t))

-- what a member knows is what the trace says: the state of its receiver, its view, whether it is blocked, how much of its view it has delivered; and what it knows to be stable is
pub record Knows {S : Type 0} (meaning : Meaning S) (t : List Event) (p : Address) (c : Core S) : Type 0 where
  pub state : state_of meaning p t ≡ c.state
  pub current : current_view p t ≡ id_of c.view
  pub installed : ForSome c.view (λ v. installed_as p v.id t ≡ Some v)
  pub blocked : is_blocked p t ≡ is_frozen c.view c.installed
  pub delivered : ForSome c.view (λ v. length (delivered_in p v.id t) ≡ c.view_state.delivered)
  pub stable : ForSome c.view (λ v. AllDelivered t v c.view_state.stable)

-- each member that runs knows so, where the invariant holds
abbrev pub MembersKnow : {S : Type 0} → Meaning S → Type 0
MembersKnow {S} meaning = (s : System S) (p : Address) (c : Core S) → Kept meaning s → s.running p ≡ Some c → Knows meaning s.history.trace p c

-- what is stable stays so, whatever happens then: the same messages
abbrev pub StableStays : Type 0
StableStays = (t more : List Event) (v : View) (n : ℕ) → AllDelivered t v n
    → (q : Address) → stands_in q v.members ≡ true → take n (delivered_in q v.id (t ++ more)) ≡ take n (delivered_in v.id.creator v.id t)
