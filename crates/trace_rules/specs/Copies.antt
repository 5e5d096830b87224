-- What a checker keeps of states: a receiver for each member, and with which state each view was entered.
use Rattle.std.specs.Prelude.{◌≡◌, ℕ, Bool, Option, Some, List, unwrap_or, option_map, MatchOption, cond, ◌&&◌}
use Rattle.std.specs.Str.{bytes_eq}
use Rattle.address.specs.Ids.{Address, ViewId, same_view_id}
use Rattle.state_transfer.specs.Meanings.{Meaning}
use Rattle.trace_props.specs.declared.event.Event.{Event}
use Rattle.trace_props.specs.State.{state_of, entry_state}

-- what is kept says what the trace says, and all of it are states that a receiver can be in
pub record KnowsStates {S : Type 0} (meaning : Meaning S) (states : Address → Option S) (entering : ViewId → Option (List ℕ)) (t : List Event) : Type 0 where
  pub states_known : (p : Address) → unwrap_or (states p) meaning.opening ≡ state_of meaning p t
  pub are_states : (p : Address) → meaning.is_state (state_of meaning p t)
  pub entering_known : (v : ViewId) → entering v ≡ option_map meaning.encode (entry_state meaning v t)
  pub are_entered : (v : ViewId) (s : S) → entry_state meaning v t ≡ Some s → meaning.is_state s

-- a view is entered: by its coordinator first, by all others with equal bytes
abbrev pub EntersWith : (old new : ViewId → Option (List ℕ)) → ViewId → Bool → List ℕ → Bool → Type 0
EntersWith old new view first bytes ok =
    MatchOption (old view)
    ((ok ≡ first) × ((w : ViewId) → new w ≡ cond (first && same_view_id view w) (Some bytes) (old w)))
    (λ e. (ok ≡ bytes_eq e bytes) × ((w : ViewId) → new w ≡ old w))
