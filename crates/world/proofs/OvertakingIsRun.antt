-- Rounds and the settling behind them are a run of events, of all of their steps or of the first few.
use Rattle.std.proofs.Common.{◌≡◌, ℕ, Option, Some, None, length, refl, sym, subst}
use Rattle.std.specs.Prelude.{MatchOption}
use Rattle.std.specs.Option.{IsSomeAnd}
use Rattle.address.specs.Ids.{Address}
use Rattle.state_transfer.specs.Meanings.{Meaning}
use Rattle.world_model.specs.declared.WorldEvent.TheVariants.{Deliver, Tick}
use Rattle.world.specs.Pools.{first_for}
use Rattle.world.specs.Worlds.{WorldModel, IsLonger}
use Rattle.world.specs.Plays.{Plays, Fails}
use Rattle.world.proofs.PlaysRun.{Ran, none-yet, stepped, failed, ran-longer}
use Rattle.world.specs.LowProposals.{asked_at, Raises, RaisesShort, RaisesTwice, RaisesTwiceShort, Overtakes, OvertakesAndSettles, OvertakesShort}
use Rattle.world.specs.LowProposals.RaisesTwiceShort.{InSecond}
use Rattle.world.specs.LowProposals.RaisesShort.{AtTick, AtFlush, AtBehind}
use Rattle.world.specs.LowProposals.OvertakesShort.{AtFirst, AtSecond, AtSettling}
use Rattle.world.proofs.SettlingIsRun

module _ {S : Type 0} (meaning : Meaning S) (from : WorldModel S) where
  handed : (mid new : WorldModel S) (o : Option ℕ) → Ran meaning from mid → MatchOption o (new ≡ mid) (λ k. Plays meaning mid (Deliver k) new) → Ran meaning from new
  handed mid new None r same = subst (Ran meaning from) (sym same) r
  handed mid new (Some k) r x = stepped meaning from mid new (Deliver k) r x.step

  failed-at : (mid new : WorldModel S) (o : Option ℕ) → Ran meaning from mid → IsSomeAnd o (λ k. Fails meaning mid (Deliver k) new) → Ran meaning from new
  failed-at mid new None r x = absurd x
  failed-at mid new (Some k) r x = failed meaning from mid new (Deliver k) r x

  round-ran : (n : ℕ) (q : Address) (old new : WorldModel S) → Ran meaning from old → Raises meaning n q old new → Ran meaning from new
  round-ran n q old new r x =
      let announced = stepped meaning from old x.announced (Tick n) r x.ticks.step in
      let answered = handed x.announced x.answered (first_for q (length old.history.pool) x.announced.history.pool) announced x.flush in
      stepped meaning from x.answered new (Deliver (length x.answered.history.pool)) answered x.behind.step

  short-ran : (n : ℕ) (q : Address) (old new : WorldModel S) → Ran meaning from old → RaisesShort meaning n q old new → Ran meaning from new
  short-ran n q old _ r (AtTick new fails) = failed meaning from old new (Tick n) r fails
  short-ran n q old _ r (AtFlush announced new ticks fails) =
      failed-at announced new (first_for q (length old.history.pool) announced.history.pool) (stepped meaning from old announced (Tick n) r ticks.step) fails
  short-ran n q old _ r (AtBehind announced answered new ticks flush fails) =
      failed meaning from answered new (Deliver (length answered.history.pool))
      (handed announced answered (first_for q (length old.history.pool) announced.history.pool) (stepped meaning from old announced (Tick n) r ticks.step) flush) fails

  if-ran : (n : ℕ) (o : Option Address) (old new : WorldModel S) → Ran meaning from old → MatchOption o (new ≡ old) (λ q. Raises meaning n q old new) → Ran meaning from new
  if-ran n None old new r same = subst (Ran meaning from) (sym same) r
  if-ran n (Some q) old new r x = round-ran n q old new r x

  short-if-ran : (n : ℕ) (o : Option Address) (old new : WorldModel S) → Ran meaning from old → IsSomeAnd o (λ q. RaisesShort meaning n q old new) → Ran meaning from new
  short-if-ran n None old new r x = absurd x
  short-if-ran n (Some q) old new r x = short-ran n q old new r x

  rounds-ran : (n : ℕ) (old new : WorldModel S) → Ran meaning from old → Overtakes meaning n old new → Ran meaning from new
  rounds-ran n old new r x = if-ran n (asked_at x.raised.node_states n) x.raised new (if-ran n (asked_at old.node_states n) old x.raised r x.first) x.second

module _ {S : Type 0} (meaning : Meaning S) (n : ℕ) (old : WorldModel S) where
  -- so what was there is the beginning of what is there
  pub overtakes-longer : (new : WorldModel S) → OvertakesAndSettles meaning n old new → IsLonger old.history new.history
  overtakes-longer new x =
      ran-longer meaning old new (SettlingIsRun.settles-ran meaning old n x.raised new (rounds-ran meaning old n old x.raised (none-yet meaning old) x.overtakes) x.settles)

  pub short-longer : (new : WorldModel S) → OvertakesShort meaning n old new → IsLonger old.history new.history
  short-longer _ (AtFirst new short) = ran-longer meaning old new (short-if-ran meaning old n (asked_at old.node_states n) old new (none-yet meaning old) short)
  short-longer _ (AtSecond raised new first short) =
      ran-longer meaning old new (short-if-ran meaning old n (asked_at raised.node_states n) raised new (if-ran meaning old n (asked_at old.node_states n) old raised (none-yet meaning old) first) short)
  short-longer _ (AtSettling raised new rounds short) =
      ran-longer meaning old new (SettlingIsRun.short-ran meaning old n raised new (rounds-ran meaning old n old raised (none-yet meaning old) rounds) short)

-- ---- from what the code did

module _ {S : Type 0} (meaning : Meaning S) (n : ℕ) (q : Address) (old announced : WorldModel S) (ticks : Plays meaning old (Tick n) announced) (number : Option ℕ)
    (is : number ≡ first_for q (length old.history.pool) announced.history.pool) where
  pub at-flush : (new : WorldModel S) → IsSomeAnd number (λ k. Fails meaning announced (Deliver k) new) → RaisesShort meaning n q old new
  at-flush new fails = AtFlush announced new ticks (subst (λ (o : Option ℕ). IsSomeAnd o (λ k. Fails meaning announced (Deliver k) new)) is fails)

  module _ (answered : WorldModel S) (hands : MatchOption number (answered ≡ announced) (λ k. Plays meaning announced (Deliver k) answered)) (last : ℕ) (so : last ≡ length answered.history.pool) where
    flush : MatchOption (first_for q (length old.history.pool) announced.history.pool) (answered ≡ announced) (λ k. Plays meaning announced (Deliver k) answered)
    flush = subst (λ (o : Option ℕ). MatchOption o (answered ≡ announced) (λ k. Plays meaning announced (Deliver k) answered)) is hands

    pub at-behind : (new : WorldModel S) → Fails meaning answered (Deliver last) new → RaisesShort meaning n q old new
    at-behind new fails = AtBehind announced answered new ticks flush (subst (λ (k : ℕ). Fails meaning answered (Deliver k) new) so fails)

    pub all-of-it : (new : WorldModel S) → Plays meaning answered (Deliver last) new → Raises meaning n q old new
    all-of-it new plays = record { announced = announced; answered = answered; ticks = ticks; flush = flush; behind = subst (λ (k : ℕ). Plays meaning answered (Deliver k) new) so plays }

module _ {S : Type 0} (meaning : Meaning S) (n : ℕ) (first : Address) (second : Option Address) (old raised : WorldModel S) (one : Raises meaning n first old raised) where
  pub alone : second ≡ None → RaisesTwice meaning n first second old raised
  alone none = record { raised = raised; one = one; other = subst (λ (o : Option Address). MatchOption o (raised ≡ raised) (λ q. Raises meaning n q raised raised)) (sym none) refl }

  pub once-more : (new : WorldModel S) (q : Address) → second ≡ Some q → Raises meaning n q raised new → RaisesTwice meaning n first second old new
  once-more new q some x = record { raised = raised; one = one; other = subst (λ (o : Option Address). MatchOption o (new ≡ raised) (λ p. Raises meaning n p raised new)) (sym some) x }

  pub once-short : (new : WorldModel S) (q : Address) → second ≡ Some q → RaisesShort meaning n q raised new → RaisesTwiceShort meaning n first second old new
  once-short new q some x = InSecond raised new one (subst (λ (o : Option Address). IsSomeAnd o (λ p. RaisesShort meaning n p raised new)) (sym some) x)
