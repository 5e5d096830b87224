-- A catch-up is a run of events, of all of its steps or of the first few.
use Rattle.std.proofs.Common.{ℕ, Option, Some, None, sym, subst}
use Rattle.std.specs.Option.{IsSomeAnd}
use Rattle.state_transfer.specs.Meanings.{Meaning}
use Rattle.world_model.specs.declared.WorldEvent.TheVariants.{Deliver}
use Rattle.world.specs.Worlds.{WorldModel, IsLonger}
use Rattle.world.specs.Plays.{Fails}
use Rattle.world.proofs.PlaysRun.{Ran, none-yet, stepped, failed, delivered, broken, ran-longer}
use Rattle.world.specs.declared.gaps.Pair.{Pair}
use Rattle.world.specs.Gaps.{Hands, CatchesUp, Stops}
use Rattle.world.specs.Gaps.Stops.{AtTick, AtStatus, AtRequest, AtAnswer}

module _ {S : Type 0} (meaning : Meaning S) where
  handed : (from mid new : WorldModel S) (o : Option ℕ) → Ran meaning from mid → Hands meaning o mid new → Ran meaning from new
  handed from mid new None r same = subst (Ran meaning from) (sym same) r
  handed from mid new (Some k) r x = stepped meaning from mid new (Deliver k) r x.step

  failed-at : (from mid new : WorldModel S) (o : Option ℕ) → Ran meaning from mid → IsSomeAnd o (λ k. Fails meaning mid (Deliver k) new) → Ran meaning from new
  failed-at from mid new None r x = absurd x
  failed-at from mid new (Some k) r x = failed meaning from mid new (Deliver k) r x

  pub catches-ran : (pair : Pair) (old new : WorldModel S) → CatchesUp meaning pair old new → Ran meaning old new
  catches-ran pair old new x =
      let announced = stepped meaning old old x.announced _ (none-yet meaning old) x.ticks.step in
      let asked = handed old x.announced x.asked _ announced x.hears in
      let answered = delivered meaning old _ _ x.asked x.answered asked x.asks in
      delivered meaning old _ _ x.answered new answered x.answers

  pub stops-ran : (pair : Pair) (old new : WorldModel S) → Stops meaning pair old new → Ran meaning old new
  stops-ran pair old _ (AtTick new fails) = failed meaning old old new _ (none-yet meaning old) fails
  stops-ran pair old _ (AtStatus announced new ticks fails) = failed-at old announced new _ (stepped meaning old old announced _ (none-yet meaning old) ticks.step) fails
  stops-ran pair old _ (AtRequest announced asked new ticks hands breaks) =
      broken meaning old _ _ asked new (handed old announced asked _ (stepped meaning old old announced _ (none-yet meaning old) ticks.step) hands) breaks
  stops-ran pair old _ (AtAnswer announced asked answered new ticks hands asks breaks) =
      broken meaning old _ _ answered new (delivered meaning old _ _ asked answered (handed old announced asked _ (stepped meaning old old announced _ (none-yet meaning old) ticks.step) hands) asks) breaks

  -- so what was there is the beginning of what is there
  pub catches-longer : (pair : Pair) (old new : WorldModel S) → CatchesUp meaning pair old new → IsLonger old.history new.history
  catches-longer pair old new x = ran-longer meaning old new (catches-ran pair old new x)

  pub stops-longer : (pair : Pair) (old new : WorldModel S) → Stops meaning pair old new → IsLonger old.history new.history
  stops-longer pair old new x = ran-longer meaning old new (stops-ran pair old new x)
