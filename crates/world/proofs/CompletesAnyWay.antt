-- A change of view completes in one of three ways: by a flush that goes on, by INSTALLs that come again, or by rounds that raise its proposal.
use Rattle.std.proofs.Common.{◌≡◌, ◌≤◌, ℕ, ◌+◌, Bool, true, false, Option, None, Some, Result, Ok, Err, OnOk, length, is_some, inl, inr, ◌⊎◌, refl, sym, ap, ◌∙◌, subst}
use Rattle.std.specs.Prelude.{MatchBool, IfOk, OnErr, if◌then◌else◌}
use Rattle.std.specs.Option.{ForSome, IsSomeAnd, option_or}
use Rattle.std.proofs.lemmas.Option.{same_Some}
use Rattle.view.specs.Members.{View}
use Rattle.state_transfer.specs.Meanings.{Meaning}
use Rattle.law_acts.proofs.KeepBySteps
use Rattle.world.specs.Worlds.{WorldModel, IsLonger}
use Rattle.world.specs.Settles.{settling_at, Settles, SettlesShort, IsSettled, EndsSettling}
use Rattle.world.specs.LostInstalls.{awaited_at, BringsAll, BringsShort}
use Rattle.world.specs.LowProposals.{overtaking_at, OvertakesAndSettles, OvertakesShort}
use Rattle.world.specs.Completing.{ready_at, completing_at, most_events, Completes, CompletesShort, IsUntried}
use Rattle.world.proofs.BringingEnds
use Rattle.world.proofs.BringingIsRun
use Rattle.world.proofs.BroughtBriefly
use Rattle.world.proofs.InstallsComeAgain
use Rattle.world.proofs.SettlingsSettle
use Rattle.world.proofs.OvertakingEnds
use Rattle.world.proofs.OvertakingIsRun
use Rattle.world.proofs.SettlingEnds
use Rattle.world.proofs.SettlingIsRun
use Rattle.world.proofs.StageOfFlushes.{Keeps}
use Rattle.world.proofs.TwoRounds

-- ---- from what the code tested: the first is there, or the second, or the third, or none

module _ {X : Type 0} where
  -- neither of the first two
  pub none-there : (o p : Option X) (b : Bool) → b ≡ is_some o → b ≡ false → p ≡ None → option_or o p ≡ None
  none-there (Some y) p b tells off none = absurd (let n : true ≡ false = sym tells ∙ off in cc)
  none-there None p b tells off none = none

  -- what holds of the view by the way that it is
  abbrev pub Way : Option X → Option X → Type 0 → (X → Type 0) → Type 0 → X → Type 0
  Way o p A B C x = MatchBool (is_some (option_or o p)) (MatchBool (is_some o) A (B x)) C

  module _ (A : Type 0) (B : X → Type 0) (C : Type 0) where
    pub all-first : (o p r : Option X) (b : Bool) → b ≡ is_some o → b ≡ true → A → ForSome (option_or (option_or o p) r) (Way o p A B C)
    all-first (Some x) p r b tells on a = λ y at. a
    all-first None p r b tells on a = absurd (let n : false ≡ true = sym tells ∙ on in cc)

    pub short-first : (o p r : Option X) (b : Bool) → b ≡ is_some o → b ≡ true → A → IsSomeAnd (option_or (option_or o p) r) (Way o p A B C)
    short-first (Some x) p r b tells on a = a
    short-first None p r b tells on a = absurd (let n : false ≡ true = sym tells ∙ on in cc)

    all-some : (x : X) (r : Option X) → B x → ForSome (option_or (option_or None (Some x)) r) (Way None (Some x) A B C)
    all-some x r y = λ z at. subst B (same_Some x z at) y

    pub all-second : (o p r : Option X) (b : Bool) (x : X) → b ≡ is_some o → b ≡ false → p ≡ Some x → B x → ForSome (option_or (option_or o p) r) (Way o p A B C)
    all-second (Some z) p r b x tells off there y = absurd (let n : true ≡ false = sym tells ∙ off in cc)
    all-second None p r b x tells off there y = subst (λ (q : Option X). ForSome (option_or (option_or None q) r) (Way None q A B C)) (sym there) (all-some x r y)

    pub short-second : (o p r : Option X) (b : Bool) (x : X) → b ≡ is_some o → b ≡ false → p ≡ Some x → B x → IsSomeAnd (option_or (option_or o p) r) (Way o p A B C)
    short-second (Some z) p r b x tells off there y = absurd (let n : true ≡ false = sym tells ∙ off in cc)
    short-second None p r b x tells off there y = subst (λ (q : Option X). IsSomeAnd (option_or (option_or None q) r) (Way None q A B C)) (sym there) y

    -- the third, if neither of the first two is there
    pub all-third : (o p r : Option X) → option_or o p ≡ None → ForSome r (λ x. C) → ForSome (option_or (option_or o p) r) (Way o p A B C)
    all-third o p r none c = λ x at.
        subst (λ (d : Bool). MatchBool d (MatchBool (is_some o) A (B x)) C) (sym (ap is_some none)) (c x (sym (ap (λ (z : Option X). option_or z r) none) ∙ at))

    pub short-third : (o p r : Option X) → option_or o p ≡ None → IsSomeAnd r (λ x. C) → IsSomeAnd (option_or (option_or o p) r) (Way o p A B C)
    short-third o p r none c =
        subst (λ (z : Option X). IsSomeAnd (option_or z r) (λ x. MatchBool (is_some z) (MatchBool (is_some o) A (B x)) C)) (sym none) c

  pub answer-third : {E : Type 0} (a : Result Bool E) (o p r : Option X) → option_or o p ≡ None → IfOk a (λ b. b ≡ is_some r) → IfOk a (λ b. b ≡ is_some (option_or (option_or o p) r))
  answer-third (Ok b) o p r none e = e ∙ ap (λ (z : Option X). is_some (option_or z r)) (sym none)
  answer-third (Err e) o p r none x = tt

-- what an outcome of the third way says
pub ok-third : {E P Q : Type 0} (a : Result Bool E) → (P → Q) → OnOk a P → OnOk a Q
ok-third (Ok b) f x = f x
ok-third (Err e) f x = tt

pub err-third : {E P Q : Type 0} (a : Result Bool E) → (P → Q) → OnErr a P → OnErr a Q
err-third (Ok b) f x = tt
err-third (Err e) f x = f x

module _ {S : Type 0} (meaning : Meaning S) where
  -- which of two it is
  either : (o p : Option View) (v : View) (A B C : Type 0) → option_or o p ≡ Some v → MatchBool (is_some o) A B → (o ≡ Some v → A → C) → (o ≡ None → p ≡ Some v → B → C) → C
  either (Some u) p v A B C e x first second = first e x
  either None p v A B C e x first second = second refl e x

  -- memory was refused where rounds were looked for, or in them
  pub untried-or : (n : ℕ) (old new : WorldModel S) → ready_at old.node_states n ≡ None → (new ≡ old) ⊎ IsSomeAnd (overtaking_at old.node_states n) (λ v. OvertakesShort meaning n old new)
      → IsUntried n old new ⊎ IsSomeAnd (completing_at old.node_states n) (λ v. CompletesShort meaning n v old new)
  untried-or n old new none (inl same) = inl (record { behind = none; same = same })
  untried-or n old new none (inr short) =
      inr (short-third (SettlesShort meaning n old new) (λ v. BringsShort meaning n v old new) (OvertakesShort meaning n old new) (settling_at old.node_states n) (awaited_at old.node_states n)
      (overtaking_at old.node_states n) none short)

  module _ (laws : KeepBySteps.Laws meaning) (old new : WorldModel S) (n : ℕ) (v : View) (keeps : Keeps meaning laws old) (at : completing_at old.node_states n ≡ Some v) where
    pub settled : Completes meaning n v old new → IsSettled v new.history.trace
    settled x =
        either (ready_at old.node_states n) (overtaking_at old.node_states n) v _ _ (IsSettled v new.history.trace) at x
        (λ ready y. either (settling_at old.node_states n) (awaited_at old.node_states n) v _ _ (IsSettled v new.history.trace) ready y
        (λ e z. SettlingsSettle.settled meaning laws old new n v keeps e z) (λ none e z. InstallsComeAgain.settled meaning laws old new n v keeps e z))
        (λ none e y. TwoRounds.overtakes-settle meaning laws old y.raised new n v keeps e y.overtakes y.settles)

    abbrev few : ℕ → Type 0
    few most = length new.history.events ≤ length old.history.events + most

    pub brief : Completes meaning n v old new → length new.history.events ≤ length old.history.events + most_events old.node_states n
    brief x =
        either (ready_at old.node_states n) (overtaking_at old.node_states n) v _ _ (few (most_events old.node_states n)) at x
        (λ ready y. subst few (ap (λ (o : Option View). if is_some o then 526 else 532) (sym ready))
        (either (settling_at old.node_states n) (awaited_at old.node_states n) v _ _ (few 526) ready y
        (λ e z. SettlingsSettle.brief meaning laws old new n v keeps e z) (λ none e z. BroughtBriefly.brief meaning laws old new n v keeps e z)))
        (λ none e y. subst few (ap (λ (o : Option View). if is_some o then 526 else 532) (sym none)) (TwoRounds.overtakes-brief meaning laws old y.raised new n v keeps e y.overtakes y.settles))

    pub ends : CompletesShort meaning n v old new → EndsSettling v new
    ends x =
        either (ready_at old.node_states n) (overtaking_at old.node_states n) v _ _ (EndsSettling v new) at x
        (λ ready y. either (settling_at old.node_states n) (awaited_at old.node_states n) v _ _ (EndsSettling v new) ready y
        (λ e z. SettlingEnds.ends meaning laws old new n v keeps e z) (λ none e z. BringingEnds.ends meaning laws old new n v keeps e z))
        (λ none e y. OvertakingEnds.ends meaning laws old n v keeps e new y)

  -- what was there is the beginning of what is there
  pub completes-longer : (n : ℕ) (v : View) (old new : WorldModel S) → Completes meaning n v old new → IsLonger old.history new.history
  completes-longer n v old new x = by (is_some (ready_at old.node_states n)) (is_some (settling_at old.node_states n)) x
    where
      by : (b d : Bool) → MatchBool b (MatchBool d (Settles meaning n old new) (BringsAll meaning n v old v.members new)) (OvertakesAndSettles meaning n old new) → IsLonger old.history new.history
      by true true y = SettlingIsRun.settles-longer meaning n old new y
      by true false y = BringingIsRun.brings-longer meaning n v old v.members new y
      by false d y = OvertakingIsRun.overtakes-longer meaning n old new y

  pub short-longer : (n : ℕ) (v : View) (old new : WorldModel S) → CompletesShort meaning n v old new → IsLonger old.history new.history
  short-longer n v old new x = by (is_some (ready_at old.node_states n)) (is_some (settling_at old.node_states n)) x
    where
      by : (b d : Bool) → MatchBool b (MatchBool d (SettlesShort meaning n old new) (BringsShort meaning n v old new)) (OvertakesShort meaning n old new) → IsLonger old.history new.history
      by true true y = SettlingIsRun.short-longer meaning n old new y
      by true false y = BringingIsRun.short-longer meaning n v old new y
      by false d y = OvertakingIsRun.short-longer meaning n old new y
