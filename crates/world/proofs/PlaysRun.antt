-- Events that are played are a run of events, of all of them or of the first few.
use Rattle.std.proofs.Common.{ℕ, List, [], ◌∷◌, ◌++◌, inl, inr, sym, subst}
use Rattle.state_transfer.specs.Meanings.{Meaning}
use Rattle.world_model.specs.declared.WorldEvent.{WorldEvent}
use Rattle.world.specs.Worlds.{WorldModel, WorldStep, Runs, IsLonger}
use Rattle.world.specs.Worlds.Runs.{Still as NoEvent, Next as OneMore}
use Rattle.world.specs.Plays.{Fails, Delivers, Breaks}
use Rattle.world.specs.Plays.Delivers.{Still, Next}
use Rattle.world.specs.Plays.Breaks.{Here, Later}
use Rattle.world.proofs.EventsInTurn.{runs-longer}

module _ {S : Type 0} (meaning : Meaning S) where
  -- some events run from one world to another
  pub record Ran (from new : WorldModel S) : Type 0 where
    pub events : List WorldEvent
    pub runs : Runs meaning from events new

  pub none-yet : (from : WorldModel S) → Ran from from
  none-yet from = record { events = []; runs = NoEvent }

  pub stepped : (from mid new : WorldModel S) (e : WorldEvent) → Ran from mid → WorldStep meaning mid e new → Ran from new
  stepped from mid new e r x = record { events = r.events ++ e ∷ []; runs = OneMore r.events mid e new r.runs x }

  pub failed : (from mid new : WorldModel S) (e : WorldEvent) → Ran from mid → Fails meaning mid e new → Ran from new
  failed from mid new e r (inl same) = subst (Ran from) (sym same) r
  failed from mid new e r (inr x) = stepped from mid new e r x.0

  pub delivered : (from : WorldModel S) (past n : ℕ) (mid new : WorldModel S) → Ran from mid → Delivers meaning past n mid new → Ran from new
  delivered from _ _ _ _ r (Still past w) = r
  delivered from _ _ _ _ r (Next past count old mid new plays rest) = delivered from _ count mid new (stepped from old mid _ r plays.step) rest

  pub broken : (from : WorldModel S) (past n : ℕ) (mid new : WorldModel S) → Ran from mid → Breaks meaning past n mid new → Ran from new
  broken from _ _ _ _ r (Here past count old new fails) = failed from old new _ r fails
  broken from _ _ _ _ r (Later past count old mid new plays rest) = broken from _ count mid new (stepped from old mid _ r plays.step) rest

  -- so what was there is the beginning of what is there
  pub ran-longer : (old new : WorldModel S) → Ran old new → IsLonger old.history new.history
  ran-longer old new r = runs-longer meaning old new r.events r.runs
