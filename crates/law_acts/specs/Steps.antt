-- Steps: an address starts, crashes, or does one act, on a packet of the pool or on none.
use Rattle.std.specs.Prelude.{◌≡◌, ℕ, false, not, Option, None, Some, List, [], ◌∷◌, ◌++◌, slice_get, IsSome, if◌then◌else◌}
use Rattle.std.specs.Option.{IsSomeAnd, option_and_then, option_map_or}
use Rattle.address.specs.Ids.{Address, IsAddress, same_address}
use Rattle.state_transfer.specs.Meanings.{Meaning}
use Rattle.trace_props.specs.declared.event.Event.{Event}
use Rattle.trace_props.specs.declared.event.Event.TheVariants.{Started, Crashed}
use Rattle.trace_props.specs.Observed.{has_started}
use Rattle.wire_values.specs.Posted.{Posted}
use Rattle.law_acts.specs.Histories.{History}
use Rattle.law_acts.specs.Cores.{Core, idle}
use Rattle.law_acts.specs.Acts.{Act, Allowed, after, packets_of, events_of, handed}

-- the members that run, by address, and what was
pub record System (S : Type 0) : Type 0 where
  pub running : Address → Option (Core S)
  pub history : History

abbrev pub no_history : History
no_history = record { pool = []; trace = [] }

abbrev pub nothing_yet : {S : Type 0} → System S
nothing_yet = record { running = λ p. None; history = no_history }

-- the members that run, with one changed
abbrev pub put : {S : Type 0} → Address → Option (Core S) → (Address → Option (Core S)) → Address → Option (Core S)
put p c running q = if same_address q p then c else running q

-- what a member is handed of the pool
abbrev pub came_of : {S : Type 0} → Core S → List Posted → Option ℕ → Option Posted
came_of c pool which = option_and_then (handed c) (option_and_then (slice_get pool) which)

-- an address starts, crashes, or does an act, on the packet of a place in the pool or on none
pub data Step : Type 0 where
  Start : Address → Step
  Crash : Address → Step
  Does : Address → Option ℕ → Act → Step

-- an address starts once; all else is done while it runs
abbrev pub MayStep : {S : Type 0} → Meaning S → System S → Step → Type 0
MayStep meaning s (Start p) = IsAddress p × (has_started p s.history.trace ≡ false)
MayStep meaning s (Crash p) = IsSome (s.running p)
MayStep meaning s (Does p which act) = IsSomeAnd (s.running p) (λ c. Allowed meaning (came_of c s.history.pool which) c act)

-- the history with packets and events more
abbrev pub grown : History → List Posted → List Event → History
grown h packets events = record { pool = h.pool ++ packets; trace = h.trace ++ events }

-- the system after a member did an act
abbrev pub acted : {S : Type 0} → Meaning S → System S → Address → Act → Core S → System S
acted meaning s p act c = record {
  running = put p (after meaning c act) s.running;
  history = grown s.history (packets_of meaning c act) (events_of c act);
}

-- the system after a step
abbrev pub stepped : {S : Type 0} → Meaning S → System S → Step → System S
stepped meaning s (Start p) =
    record { running = put p (Some (idle meaning.opening p)) s.running; history = grown s.history [] (Started p ∷ []) }
stepped meaning s (Crash p) = record { running = put p None s.running; history = grown s.history [] (Crashed p ∷ []) }
stepped meaning s (Does p which act) = option_map_or (acted meaning s p act) (s.running p) s

-- steps that are each allowed after those before
abbrev pub MayRun : {S : Type 0} → Meaning S → System S → List Step → Type 0
MayRun meaning s [] = Unit {0}
MayRun meaning s (x ∷ steps) = MayStep meaning s x × MayRun meaning (stepped meaning s x) steps

abbrev pub after_steps : {S : Type 0} → Meaning S → System S → List Step → System S
after_steps meaning s [] = s
after_steps meaning s (x ∷ steps) = after_steps meaning (stepped meaning s x) steps
