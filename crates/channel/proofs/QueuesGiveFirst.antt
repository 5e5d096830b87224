-- The first event of a step, among those that wait.
use Rattle.std.proofs.Common.{◌≡◌, ℕ, ◌++◌, length, Option, List, [], ◌∷◌, refl}
use Rattle.std.specs.Option.{option_map}
use Rattle.std.specs.List.{slice_get}
use Rattle.trace_props.specs.declared.event.Event.{Event}
use Rattle.channel.specs.Queues.{sent_at}

behind : {X : Type 0} (xs ys : List X) → slice_get (xs ++ ys) (length xs) ≡ slice_get ys 0
behind [] ys = refl
behind (x ∷ xs) ys = behind xs ys

-- the first of a step is the first behind those that waited
pub first-behind : (old new events shown : List Event) (n : Option ℕ) → n ≡ option_map (λ m. m.number) (sent_at 0 shown) → shown ≡ events → new ≡ old ++ events
    → n ≡ option_map (λ m. m.number) (sent_at (length old) new)
first-behind old new events shown n is same put =
    rw (put, behind old events, ← same) is
