-- Deliveries one after another: none, one more at the end, and the first of them.
use Rattle.std.proofs.Common.{Result, Ok, Err, ◌≡◌, ℕ, zero, suc, ◌+◌, ◌-◌, ◌<◌, ◌≤◌, ◌⊎◌, inl, inr, refl, subst, arith}
use Rattle.std.specs.Prelude.{OnErr, OnOk}
use Rattle.state_transfer.specs.Meanings.{Meaning}
use Rattle.world_model.specs.declared.WorldEvent.TheVariants.{Deliver}
use Rattle.world.specs.Worlds.{WorldModel}
use Rattle.world.specs.Plays.{Plays, Fails, Delivers, Breaks}
use Rattle.world.specs.Plays.Delivers.{Still, Next}
use Rattle.world.specs.Plays.Breaks.{Here, Later}

pub on-err-map : {T E : Type 0} (r : Result T E) (P Q : Type 0) → (P → Q) → OnErr r P → OnErr r Q
on-err-map (Ok x) P Q f p = tt
on-err-map (Err e) P Q f p = f p

pub on-ok-map : {T E : Type 0} (r : Result T E) (P Q : Type 0) → (P → Q) → OnOk r P → OnOk r Q
on-ok-map (Ok x) P Q f p = f p
on-ok-map (Err e) P Q f p = tt

-- ---- one more delivery

module _ {S : Type 0} (meaning : Meaning S) where
  pub delivers-on : (past n k : ℕ) (old mid new : WorldModel S) → Delivers meaning past n old mid → k ≡ past + n + 1 → Plays meaning mid (Deliver k) new
      → Delivers meaning past (n + 1) old new
  delivers-on _ _ k _ _ new (Still past w) e x =
      let same : k ≡ past + 1 = omega (arith, e) in
      let one : suc zero ≡ zero + 1 = omega arith in
      subst (λ (j : ℕ). Delivers meaning past j w new) one
      (Next past zero w new new (subst (λ (j : ℕ). Plays meaning w (Deliver j) new) same x) (Still (past + 1) new))
  delivers-on _ _ k _ _ new (Next past count old m mid plays rest) e x =
      let one : suc (count + 1) ≡ suc count + 1 = omega arith in
      subst (λ (j : ℕ). Delivers meaning past j old new) one
      (Next past (count + 1) old m new plays (delivers-on (past + 1) count k m mid new rest (omega (arith, e)) x))

  pub breaks-on : (past n k total : ℕ) (old mid new : WorldModel S) → Delivers meaning past n old mid → k ≡ past + n + 1 → n < total → Fails meaning mid (Deliver k) new
      → Breaks meaning past total old new
  breaks-on _ _ k total _ _ new (Still past w) e low x =
      let same : k ≡ past + 1 = omega (arith, e) in
      let one : suc (total - 1) ≡ total = omega (arith, low) in
      subst (λ (j : ℕ). Breaks meaning past j w new) one
      (Here past (total - 1) w new (subst (λ (j : ℕ). Fails meaning w (Deliver j) new) same x))
  breaks-on _ _ k total _ _ new (Next past count old m mid plays rest) e low x =
      let one : suc (total - 1) ≡ total = omega (arith, low) in
      subst (λ (j : ℕ). Breaks meaning past j old new) one
      (Later past (total - 1) old m new plays (breaks-on (past + 1) count k (total - 1) m mid new rest (omega (arith, e)) (omega (arith, low)) x))

  -- the same, counted from where they begin
  pub delivers-start : (past : ℕ) (w : WorldModel S) → Delivers meaning past (past - past) w w
  delivers-start past w = let none : zero ≡ past - past = omega arith in subst (λ (j : ℕ). Delivers meaning past j w w) none (Still past w)

  pub delivers-one : (past number : ℕ) (old mid new : WorldModel S) → past ≤ number → Delivers meaning past (number - past) old mid
      → Plays meaning mid (Deliver (number + 1)) new → Delivers meaning past (number + 1 - past) old new
  delivers-one past number old mid new low all x =
      let more : (number - past) + 1 ≡ number + 1 - past = omega (arith, low) in
      subst (λ (j : ℕ). Delivers meaning past j old new) more
      (delivers-on past (number - past) (number + 1) old mid new all (omega (arith, low)) x)

  pub breaks-one : (past number total : ℕ) (old mid new : WorldModel S) → past ≤ number → number < total → Delivers meaning past (number - past) old mid
      → Fails meaning mid (Deliver (number + 1)) new → Breaks meaning past (total - past) old new
  breaks-one past number total old mid new low high all x = breaks-on past (number - past) (number + 1) (total - past) old mid new all (omega (arith, low)) (omega (arith, low, high)) x

  -- ---- none, and the first of them

  pub delivers-none : (past n : ℕ) (old new : WorldModel S) → n ≡ 0 → Delivers meaning past n old new → new ≡ old
  delivers-none _ _ old _ e (Still past w) = refl
  delivers-none _ _ old _ e (Next past count w mid new plays rest) = absurd (omega (arith, e))

  pub record Delivered (past n : ℕ) (old new : WorldModel S) : Type 0 where
    pub mid : WorldModel S
    pub plays : Plays meaning old (Deliver (past + 1)) mid
    pub rest : Delivers meaning (past + 1) n mid new

  pub delivers-next : (past m n : ℕ) (old new : WorldModel S) → m ≡ suc n → Delivers meaning past m old new → Delivered past n old new
  delivers-next _ _ n old _ e (Still past w) = absurd (omega (arith, e))
  delivers-next _ _ n _ _ e (Next past count old mid new plays rest) =
      let same : count ≡ n = omega (arith, e) in
      record { mid = mid; plays = plays; rest = subst (λ (k : ℕ). Delivers meaning (past + 1) k mid new) same rest }

  pub breaks-none : (past n : ℕ) (old new : WorldModel S) → n ≡ 0 → Breaks meaning past n old new → ⊥
  breaks-none _ _ _ _ e (Here past count old new fails) = absurd (omega (arith, e))
  breaks-none _ _ _ _ e (Later past count old mid new plays rest) = absurd (omega (arith, e))

  pub record BreaksLater (past n : ℕ) (old new : WorldModel S) : Type 0 where
    pub mid : WorldModel S
    pub plays : Plays meaning old (Deliver (past + 1)) mid
    pub rest : Breaks meaning (past + 1) n mid new

  pub breaks-next : (past m n : ℕ) (old new : WorldModel S) → m ≡ suc n → Breaks meaning past m old new
      → Fails meaning old (Deliver (past + 1)) new ⊎ BreaksLater past n old new
  breaks-next _ _ n _ _ e (Here past count old new fails) = inl fails
  breaks-next _ _ n _ _ e (Later past count old mid new plays rest) =
      let same : count ≡ n = omega (arith, e) in
      inr (record { mid = mid; plays = plays; rest = subst (λ (k : ℕ). Breaks meaning (past + 1) k mid new) same rest })
