-- Two rounds and a settling that end in an error: one of the list has crashed for want of memory, or a step was not begun, and all of the list run. And the
-- rounds that are known before are these.
use Rattle.std.proofs.Common.{◌≡◌, ℕ, true, Option, Some, None, refl, sym, ap, ◌∙◌, subst}
use Rattle.std.specs.Prelude.{MatchOption}
use Rattle.std.specs.Option.{ForSome, IsSomeAnd, option_map, option_map_or, option_and_then}
use Rattle.address.specs.Ids.{Address}
use Rattle.view.specs.Members.{View, stands_in}
use Rattle.state_transfer.specs.Meanings.{Meaning}
use Rattle.law_acts.proofs.KeepBySteps
use Rattle.world.specs.declared.node_state.NodeState.{NodeState}
use Rattle.world.specs.Worlds.{WorldModel}
use Rattle.world.specs.Settles.{Settles, SettlesShort, EndsSettling}
use Rattle.world.specs.LowProposals.{promised_past, furthest, beyond, beyond_all, raised_at, asked_at, asked_past, round_at, overtaking_at, Raises, RaisesShort, RaisesTwice, RaisesTwiceShort, RaisesIf, Overtakes, OvertakesAndSettles, OvertakesShort}
use Rattle.world.specs.LowProposals.RaisesTwiceShort.{InFirst, InSecond}
use Rattle.world.specs.LowProposals.OvertakesShort.{AtFirst, AtSecond, AtSettling}
use Rattle.world.proofs.RoundEnds
use Rattle.world.proofs.RoundRaises
use Rattle.world.proofs.RoundRaises.{Low, Rose}
use Rattle.world.proofs.SettlingEnds
use Rattle.world.proofs.StageOfFlushes.{Keeps}
use Rattle.world.proofs.TwoRounds
use Rattle.world.proofs.TwoRounds.{Sees, furthest-is, beyond-is}

-- past all promises it is of the same members
same-members : {S : Type 0} (at : ℕ → NodeState S) (w v : View) → beyond_all at w ≡ Some v → v.members ≡ w.members
same-members at w v e = by (furthest (λ q. promised_past w q (at q.node)) w.members) e
  where
    by : (o : Option (Address × ℕ)) → option_map_or (λ x. beyond x.1 w) o (Some w) ≡ Some v → v.members ≡ w.members
    by None e = cc
    by (Some x) e = ap (λ (u : View). u.members) (sym (beyond-is x.1 w v e).1)

module _ {S : Type 0} (meaning : Meaning S) (laws : KeepBySteps.Laws meaning) (old : WorldModel S) (n : ℕ) (v : View) (keeps : Keeps meaning laws old) (at : overtaking_at old.node_states n ≡ Some v) where
  abbrev s : Sees meaning laws old n v
  s = TwoRounds.sees meaning laws old n v at

  abbrev low : Low meaning laws old n s.q s.first
  low = RoundRaises.low meaning laws old n s.q s.first s.raised

  same : v.members ≡ s.first.members
  same = same-members old.node_states s.first v s.last

  all : SettlingEnds.AllStand meaning laws old v
  all = RoundEnds.all-follow meaning laws old v keeps s.all

  mine : stands_in low.member.address v.members ≡ true
  mine = ap (stands_in low.member.address) same ∙ RoundEnds.creator-listed meaning laws old n s.q s.first keeps low

  -- a round by what was seen
  first-round : (raised : WorldModel S) → RaisesIf meaning n old raised → Raises meaning n s.q old raised
  first-round raised first = subst (λ (o : Option Address). MatchOption o (raised ≡ old) (λ q. Raises meaning n q old raised)) s.asked first

  first-ends : (new : WorldModel S) → IsSomeAnd (asked_at old.node_states n) (λ q. RaisesShort meaning n q old new) → EndsSettling v new
  first-ends new short =
      RoundEnds.round-ends meaning laws old n s.q s.first keeps low v all mine (ap (stands_in s.q) same ∙ low.listed) new
      (subst (λ (o : Option Address). IsSomeAnd o (λ q. RaisesShort meaning n q old new)) s.asked short)

  -- whom the second round asks is known before the first
  asked-again : (raised : WorldModel S) → Raises meaning n s.q old raised → asked_at raised.node_states n ≡ asked_past old.node_states s.first
  asked-again raised round = TwoRounds.asked-then meaning laws old raised n s.q s.first low (RoundRaises.rises meaning laws old raised n s.q s.first keeps low round)

  second-ends : (raised new : WorldModel S) → Raises meaning n s.q old raised → IsSomeAnd (asked_at raised.node_states n) (λ q. RaisesShort meaning n q raised new) → EndsSettling v new
  second-ends raised new round short =
      by (RoundRaises.rises meaning laws old raised n s.q s.first keeps low round) (furthest (λ p. promised_past s.first p (old.node_states p.node)) s.first.members) refl
      (subst (λ (o : Option Address). IsSomeAnd o (λ q. RaisesShort meaning n q raised new)) (asked-again raised round) short)
    where
      by : (y : Rose meaning laws old raised n s.q s.first low) (o : Option (Address × ℕ)) → furthest (λ p. promised_past s.first p (old.node_states p.node)) s.first.members ≡ o
          → IsSomeAnd (option_map (λ (b : Address × ℕ). b.0) (furthest (λ p. promised_past s.first p (old.node_states p.node)) s.first.members)) (λ q. RaisesShort meaning n q raised new) → EndsSettling v new
      by y None top short = absurd (subst (λ (o : Option (Address × ℕ)). IsSomeAnd (option_map (λ (b : Address × ℕ). b.0) o) (λ q. RaisesShort meaning n q raised new)) top short)
      by y (Some b) top short =
          let last : beyond b.1 s.first ≡ Some v = sym (ap (λ (o : Option (Address × ℕ)). option_map_or (λ d. beyond d.1 s.first) o (Some s.first)) top) ∙ s.last in
          let d = TwoRounds.low-then meaning laws old raised n s.q s.first low y b v top last in
          let c = low.member.address in
          let stand = SettlingEnds.all-still meaning laws old raised v c low.member_state all y.stood y.others (record { member_state = y.after; stands = y.stands }) in
          let one = furthest-is (λ p. promised_past s.first p (old.node_states p.node)) s.first.members b top in
          RoundEnds.round-ends meaning laws raised n b.0 v y.keeps d.0 v stand (subst (λ (p : Address). stands_in p v.members ≡ true) (sym d.1) mine) (ap (stands_in b.0) same ∙ one.there) new
          (subst (λ (o : Option (Address × ℕ)). IsSomeAnd (option_map (λ (e : Address × ℕ). e.0) o) (λ q. RaisesShort meaning n q raised new)) top short)

  pub ends : (new : WorldModel S) → OvertakesShort meaning n old new → EndsSettling v new
  ends _ (AtFirst new short) = first-ends new short
  ends _ (AtSecond raised new first short) = second-ends raised new (first-round raised first) short
  ends _ (AtSettling raised new rounds short) =
      let z = TwoRounds.overtakes meaning laws old raised n v keeps at rounds in
      SettlingEnds.ends meaning laws raised new n v z.1 z.0 short

  -- ---- the rounds that are known before

  module _ (first : Address) (second : Option Address) (known : ForSome (round_at old.node_states n) (λ one. (first ≡ one.asked) × (second ≡ asked_past old.node_states one.raised))) where
    round-is : round_at old.node_states n ≡ Some (record { asked = s.q; raised = s.first })
    round-is =
        ap (option_and_then (λ q. option_map (λ w. record { asked = q; raised = w }) (raised_at old.node_states n q))) s.asked ∙ ap (option_map (λ w. record { asked = s.q; raised = w })) s.raised

    said : (first ≡ s.q) × (second ≡ asked_past old.node_states s.first)
    said = known (record { asked = s.q; raised = s.first }) round-is

    first-so : (raised : WorldModel S) → Raises meaning n first old raised → Raises meaning n s.q old raised
    first-so raised x = subst (λ (q : Address). Raises meaning n q old raised) said.0 x

    first-if : (raised : WorldModel S) → Raises meaning n first old raised → RaisesIf meaning n old raised
    first-if raised x = subst (λ (o : Option Address). MatchOption o (raised ≡ old) (λ q. Raises meaning n q old raised)) (sym s.asked) (first-so raised x)

    second-so : (raised : WorldModel S) → Raises meaning n first old raised → second ≡ asked_at raised.node_states n
    second-so raised x = said.1 ∙ sym (asked-again raised (first-so raised x))

    pub played : (new : WorldModel S) → RaisesTwice meaning n first second old new → Overtakes meaning n old new
    played new x = record {
      raised = x.raised;
      first = first-if x.raised x.one;
      second = subst (λ (o : Option Address). MatchOption o (new ≡ x.raised) (λ q. Raises meaning n q x.raised new)) (second-so x.raised x.one) x.other;
    }

    pub played-short : (new : WorldModel S) → RaisesTwiceShort meaning n first second old new → OvertakesShort meaning n old new
    played-short _ (InFirst new short) =
        AtFirst new (subst (λ (o : Option Address). IsSomeAnd o (λ q. RaisesShort meaning n q old new)) (sym s.asked) (subst (λ (q : Address). RaisesShort meaning n q old new) said.0 short))
    played-short _ (InSecond raised new one short) =
        AtSecond raised new (first-if raised one) (subst (λ (o : Option Address). IsSomeAnd o (λ q. RaisesShort meaning n q raised new)) (second-so raised one) short)

-- ---- from what the code found

module _ {S : Type 0} (meaning : Meaning S) (laws : KeepBySteps.Laws meaning) (old : WorldModel S) (n : ℕ) (v : View) (first : Address) (second : Option Address) (keeps : Keeps meaning laws old)
    (found : Some v ≡ overtaking_at old.node_states n) (known : ForSome (round_at old.node_states n) (λ one. (first ≡ one.asked) × (second ≡ asked_past old.node_states one.raised))) where
  there : {P : Type 0} → P → IsSomeAnd (overtaking_at old.node_states n) (λ u. P)
  there {P} p = subst (λ (o : Option View). IsSomeAnd o (λ u. P)) found p

  -- a round failed
  pub rounds-stop : (new : WorldModel S) → RaisesTwiceShort meaning n first second old new → IsSomeAnd (overtaking_at old.node_states n) (λ u. OvertakesShort meaning n old new)
  rounds-stop new x = there (played-short meaning laws old n v keeps (sym found) first second known new x)

  module _ (raised new : WorldModel S) (rounds : RaisesTwice meaning n first second old raised) where
    -- the settling did
    pub settling-stops : SettlesShort meaning n raised new → IsSomeAnd (overtaking_at old.node_states n) (λ u. OvertakesShort meaning n old new)
    settling-stops x = there (AtSettling raised new (played meaning laws old n v keeps (sym found) first second known raised rounds) x)

    -- all are played
    pub overtaken : Settles meaning n raised new → ForSome (overtaking_at old.node_states n) (λ u. OvertakesAndSettles meaning n old new)
    overtaken x = λ u at. record { raised = raised; overtakes = played meaning laws old n v keeps (sym found) first second known raised rounds; settles = x }
