-- What every world keeps, from the steps of a world alone: nothing of the code is asked.
use Rattle.std.proofs.Common.{List, sym, subst}
use Rattle.state_transfer.specs.Meanings.{Meaning}
use Rattle.law_acts.proofs.KeepBySteps
use Rattle.world_model.specs.declared.WorldEvent.{WorldEvent}
use Rattle.world_model.specs.Histories.{History, target_of, after}
use Rattle.world.specs.Turns.{about, Carries}
use Rattle.world.specs.Invariant.{IsWorld}
use Rattle.world.specs.Worlds.{WorldModel, WorldStep, Runs, IsReached, no_world}
use Rattle.world.specs.Worlds.Runs.{Still, Next}
use Rattle.world.proofs.WorldsAfterEvents

module _ {S : Type 0} (meaning : Meaning S) (laws : KeepBySteps.Laws meaning) where
  -- what every world keeps
  abbrev pub Keeps : WorldModel S → Type 0
  Keeps w = IsWorld meaning w.node_states w.history

  -- a step keeps it
  pub step-keeps : (old new : WorldModel S) (e : WorldEvent) → WorldStep meaning old e new → Keeps old → Keeps new
  step-keeps old new e g w =
      let h = after old.history e g.answer g.packets g.stretch in
      subst (IsWorld meaning new.node_states) (sym g.goes_on)
      (WorldsAfterEvents.world-carries meaning laws old.node_states new.node_states old.history e g.answer h.trace h.pool w
      (subst (λ (k : History). Carries meaning (target_of e) e g.answer (about old.node_states old.history.trace old.history.pool) (about new.node_states k.trace k.pool)) g.goes_on g.does))

  -- and so do steps one after another
  pub runs-keep : (from new : WorldModel S) (events : List WorldEvent) → Runs meaning from events new → Keeps from → Keeps new
  runs-keep from _ _ Still w = w
  runs-keep from _ _ (Next events mid e new so step) w = step-keeps mid new e step (runs-keep from mid events so w)

  -- so every world keeps it
  pub reached-keeps : (w : WorldModel S) → IsReached meaning w → Keeps w
  reached-keeps w r = runs-keep no_world w r.events r.runs (WorldsAfterEvents.no-world meaning)
