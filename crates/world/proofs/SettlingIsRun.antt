-- A settling is a run of events, of all of its steps or of the first few.
use Rattle.std.proofs.Common.{◌≡◌, ℕ, ◌-◌, length, subst, arith}
use Rattle.state_transfer.specs.Meanings.{Meaning}
use Rattle.world_model.specs.declared.WorldEvent.TheVariants.{Tick}
use Rattle.world.specs.Worlds.{WorldModel, IsLonger}
use Rattle.world.specs.Plays.{Plays, Delivers, DeliversPast, Breaks, BreaksPast}
use Rattle.world.proofs.PlaysRun.{Ran, none-yet, stepped, failed, delivered, broken, ran-longer}
use Rattle.world.specs.Settles.{begun_in, Settles, SettlesShort}
use Rattle.world.specs.Settles.SettlesShort.{AtTick, AtFlush, AtReport, AtInstall}

module _ {S : Type 0} (meaning : Meaning S) (from : WorldModel S) where
  pub settles-ran : (n : ℕ) (old new : WorldModel S) → Ran meaning from old → Settles meaning n old new → Ran meaning from new
  settles-ran n old new r x =
      let announced = stepped meaning from old x.announced _ r x.ticks.step in
      let reported = delivered meaning from _ _ x.announced x.reported announced x.flushes in
      let instructed = delivered meaning from _ _ x.reported x.instructed reported x.reports in
      delivered meaning from _ _ x.instructed new instructed x.installs

  pub short-ran : (n : ℕ) (old new : WorldModel S) → Ran meaning from old → SettlesShort meaning n old new → Ran meaning from new
  short-ran n old _ r (AtTick new fails) = failed meaning from old new _ r fails
  short-ran n old _ r (AtFlush announced new ticks breaks) = broken meaning from _ _ announced new (stepped meaning from old announced _ r ticks.step) breaks
  short-ran n old _ r (AtReport announced reported new ticks flushes breaks) =
      broken meaning from _ _ reported new (delivered meaning from _ _ announced reported (stepped meaning from old announced _ r ticks.step) flushes) breaks
  short-ran n old _ r (AtInstall announced reported instructed new ticks flushes reports breaks) =
      broken meaning from _ _ instructed new
      (delivered meaning from _ _ reported instructed (delivered meaning from _ _ announced reported (stepped meaning from old announced _ r ticks.step) flushes) reports) breaks

module _ {S : Type 0} (meaning : Meaning S) where
  -- so what was there is the beginning of what is there
  pub settles-longer : (n : ℕ) (old new : WorldModel S) → Settles meaning n old new → IsLonger old.history new.history
  settles-longer n old new x = ran-longer meaning old new (settles-ran meaning old n old new (none-yet meaning old) x)

  pub short-longer : (n : ℕ) (old new : WorldModel S) → SettlesShort meaning n old new → IsLonger old.history new.history
  short-longer n old new x = ran-longer meaning old new (short-ran meaning old n old new (none-yet meaning old) x)

-- ---- from what the code did

module _ {S : Type 0} (meaning : Meaning S) (n : ℕ) (old announced : WorldModel S) (ticks : Plays meaning old (Tick n) announced) where
  pub at-flush : (past : ℕ) (new : WorldModel S) → past ≡ length old.history.pool → BreaksPast meaning past announced new → SettlesShort meaning n old new
  at-flush past new is x = AtFlush announced new ticks (subst (λ (k : ℕ). BreaksPast meaning k announced new) is x)

  module _ (past : ℕ) (reported : WorldModel S) (is : past ≡ length old.history.pool) (flushed : DeliversPast meaning past announced reported) where
    flushes : DeliversPast meaning (length old.history.pool) announced reported
    flushes = subst (λ (k : ℕ). DeliversPast meaning k announced reported) is flushed

    pub at-report : (more : ℕ) (new : WorldModel S) → more ≡ length announced.history.pool → BreaksPast meaning more reported new → SettlesShort meaning n old new
    at-report more new so x = AtReport announced reported new ticks flushes (subst (λ (k : ℕ). BreaksPast meaning k reported new) so x)

    module _ (more : ℕ) (instructed : WorldModel S) (so : more ≡ length announced.history.pool) (told : DeliversPast meaning more reported instructed) (first all begun last : ℕ)
        (from : first ≡ length reported.history.pool) (whole : all ≡ length instructed.history.pool) (own : begun ≡ begun_in (instructed.node_states n)) (to : last ≡ all - begun) where
      reports : DeliversPast meaning (length announced.history.pool) reported instructed
      reports = subst (λ (k : ℕ). DeliversPast meaning k reported instructed) so told

      many : last - first ≡ length instructed.history.pool - length reported.history.pool - begun_in (instructed.node_states n)
      many = omega (arith, from, whole, own, to)

      pub at-install : (new : WorldModel S) → Breaks meaning first (last - first) instructed new → SettlesShort meaning n old new
      at-install new x =
          AtInstall announced reported instructed new ticks flushes reports (subst (λ (k : ℕ). Breaks meaning (length reported.history.pool) k instructed new) many
          (subst (λ (k : ℕ). Breaks meaning k (last - first) instructed new) from x))

      pub all-of-it : (new : WorldModel S) → Delivers meaning first (last - first) instructed new → Settles meaning n old new
      all-of-it new x = record {
        announced = announced;
        reported = reported;
        instructed = instructed;
        ticks = ticks;
        flushes = flushes;
        reports = reports;
        installs = subst (λ (k : ℕ). Delivers meaning (length reported.history.pool) k instructed new) many (subst (λ (k : ℕ). Delivers meaning k (last - first) instructed new) from x);
      }
