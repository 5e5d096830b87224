-- Events that are played one after another: each is carried out with no growth refused to a member, or the first that is not ends them.
use Rattle.std.specs.Prelude.{◌≡◌, ℕ, ◌+◌, ◌-◌, zero, suc, Bool, true, false, length, ◌⊎◌}
use Rattle.address.specs.Refusals.{is_memory}
use Rattle.state_transfer.specs.Meanings.{Meaning}
use Rattle.world_model.specs.declared.WorldEvent.{WorldEvent}
use Rattle.world_model.specs.declared.WorldEvent.TheVariants.{Deliver}
use Rattle.world_model.specs.declared.Answer.{Answer}
use Rattle.world_model.specs.declared.Answer.TheVariants.{Done, Sent, Refused}
use Rattle.world.specs.Worlds.{WorldModel, WorldStep}

-- memory was refused in a step: 7
abbrev pub lacks_memory : Answer → Bool
lacks_memory Done = false
lacks_memory (Sent n) = false
lacks_memory (Refused r) = is_memory r

module _ {S : Type 0} (meaning : Meaning S) where
  -- one event, carried out with no growth refused to a member
  pub record Plays (old : WorldModel S) (e : WorldEvent) (new : WorldModel S) : Type 0 where
    pub step : WorldStep meaning old e new
    pub whole : lacks_memory step.answer ≡ false

  -- a delivery of so many packets past a number, one after another
  pub data Delivers : ℕ → ℕ → WorldModel S → WorldModel S → Type 0 where
    Still : (past : ℕ) (w : WorldModel S) → Delivers past zero w w
    Next : (past count : ℕ) (old mid new : WorldModel S) → Plays old (Deliver (past + 1)) mid → Delivers (past + 1) count mid new → Delivers past (suc count) old new

  -- a delivery of all packets past so many
  abbrev pub DeliversPast : ℕ → WorldModel S → WorldModel S → Type 0
  DeliversPast past old new = Delivers past (length old.history.pool - past) old new

  -- ---- what an error leaves

  -- it was not begun, and all is as it was; or a growth was refused to a member in it
  abbrev pub Fails : WorldModel S → WorldEvent → WorldModel S → Type 0
  Fails old e new = (new ≡ old) ⊎ ((step : WorldStep meaning old e new) × (lacks_memory step.answer ≡ true))

  -- so many deliveries that end in an error
  pub data Breaks : ℕ → ℕ → WorldModel S → WorldModel S → Type 0 where
    Here : (past count : ℕ) (old new : WorldModel S) → Fails old (Deliver (past + 1)) new → Breaks past (suc count) old new
    Later : (past count : ℕ) (old mid new : WorldModel S) → Plays old (Deliver (past + 1)) mid → Breaks (past + 1) count mid new → Breaks past (suc count) old new

  abbrev pub BreaksPast : ℕ → WorldModel S → WorldModel S → Type 0
  BreaksPast past old new = Breaks past (length old.history.pool - past) old new
