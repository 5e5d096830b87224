-- Acts one after another: what a member does in one step.
use Rattle.std.specs.Prelude.{◌≡◌, Option, None, Some, List, [], ◌∷◌, ◌++◌}
use Rattle.state_transfer.specs.Meanings.{Meaning}
use Rattle.trace_props.specs.declared.event.Event.{Event}
use Rattle.wire_values.specs.Posted.{Posted}
use Rattle.law_acts.specs.Cores.{Core}
use Rattle.law_acts.specs.Acts.{Act, Allowed, after, packets_of, events_of}

-- each act is allowed after those before it, on the one packet that the member was handed; one who has left does nothing more
abbrev pub Chain : {S : Type 0} → Meaning S → Option Posted → Option (Core S) → List Act → Option (Core S) → Type 0
Chain meaning came c [] end = c ≡ end
Chain meaning came None (a ∷ acts) end = ⊥
Chain meaning came (Some c) (a ∷ acts) end = Allowed meaning came c a × Chain meaning came (after meaning c a) acts end

-- what they put out, and what happens by them
abbrev pub packets_along : {S : Type 0} → Meaning S → Option (Core S) → List Act → List Posted
packets_along meaning c [] = []
packets_along meaning None (a ∷ acts) = []
packets_along meaning (Some c) (a ∷ acts) = packets_of meaning c a ++ packets_along meaning (after meaning c a) acts

abbrev pub events_along : {S : Type 0} → Meaning S → Option (Core S) → List Act → List Event
events_along meaning c [] = []
events_along meaning None (a ∷ acts) = []
events_along meaning (Some c) (a ∷ acts) = events_of c a ++ events_along meaning (after meaning c a) acts

-- a member went from one core to another by nothing but acts, which put out these packets and let this happen
pub record Acted {S : Type 0} (meaning : Meaning S) (came : Option Posted) (c : Option (Core S)) (packets : List Posted)
    (events : List Event) (end : Option (Core S)) : Type 0 where
  pub acts : List Act
  pub chain : Chain meaning came c acts end
  pub puts : packets ≡ packets_along meaning c acts
  pub happens : events ≡ events_along meaning c acts

-- its three laws: nothing was done, one act that is allowed, one stretch and then another
abbrev pub NothingActed : {S : Type 0} → Meaning S → Type 0
NothingActed {S} meaning = (came : Option Posted) (c : Option (Core S)) → Acted meaning came c [] [] c

abbrev pub OneActed : {S : Type 0} → Meaning S → Type 0
OneActed {S} meaning = (came : Option Posted) (c : Core S) (a : Act) → Allowed meaning came c a
    → Acted meaning came (Some c) (packets_of meaning c a) (events_of c a) (after meaning c a)

abbrev pub ThenActed : {S : Type 0} → Meaning S → Type 0
ThenActed {S} meaning = (came : Option Posted) (c d e : Option (Core S)) (packets more : List Posted) (events later : List Event)
    → Acted meaning came c packets events d → Acted meaning came d more later e
    → Acted meaning came c (packets ++ more) (events ++ later) e
