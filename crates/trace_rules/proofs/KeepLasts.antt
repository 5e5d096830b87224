-- A number that is kept for a sender is found for that sender, and all others are as before.
use Rattle.std.proofs.Common.{◌≡◌, ℕ, ◌+◌, ◌<◌, ◌≤◌, Bool, true, false, List, [], ◌∷◌, ◌++◌, length, set, not, cond, nat_lt, None, Some, refl, sym, ◌∙◌, ap, zero, suc, arith, if◌then◌else◌}
use Rattle.std.proofs.lemmas.Bool.{false_from_ne_true, false≢true}
use Rattle.std.proofs.lemmas.Bool.Decides.{nat_tests}
use Rattle.std.specs.List.{position_or_len, position_from}
use Rattle.std.proofs.lemmas.Iterator.Adapters.{position_from-zero}
use Rattle.address.specs.Ids.{Address, same_address}
use Rattle.address.proofs.SameIds.{same_address-true, same_address-from}
use Rattle.trace_rules.specs.declared.known.lasts.Last.{Last}
use Rattle.trace_rules.specs.Lasts.{number_of}

abbrev pub is_of : Address → Last → Bool
is_of p l = same_address l.sender p

apart : (a p q : Address) → same_address a p ≡ false → same_address a q ≡ true → same_address p q ≡ false
apart a p q h e = false_from_ne_true (same_address p q) (λ t. false≢true (sym h ∙ same_address-from a p (same_address-true a q e ∙ sym (same_address-true p q t))))

-- another sender's number is passed by
passed : (a p q : Address) (n m k : ℕ) → same_address a p ≡ false
    → (if same_address a q then n else (if same_address p q then m else k)) ≡ (if same_address p q then m else (if same_address a q then n else k))
passed a p q n m k h =
    elim (same_address a q) as (λ t. (same_address a q ≡ t) → (if t then n else (if same_address p q then m else k)) ≡ (if same_address p q then m else (if t then n else k)))
    [ true ↦ λ e. rw (apart a p q h e) refl | false ↦ λ e. refl ] refl

-- the sender's own number is replaced
replaced : (l : Last) (ls : List Last) (p q : Address) (n : ℕ) → is_of p l ≡ true
    → (if same_address p q then n else number_of ls q) ≡ (if same_address p q then n else number_of (l ∷ ls) q)
replaced l ls p q n o =
    elim (same_address p q) as (λ t. (same_address p q ≡ t) → (if t then n else number_of ls q) ≡ (if t then n else number_of (l ∷ ls) q)) [
      | true ↦ λ e. refl
      | false ↦ λ e. let other : same_address l.sender q ≡ false = ap (λ x. same_address x q) (same_address-true l.sender p o) ∙ e in rw other refl
    ] refl

some_at : (n len i : ℕ) → Some i ≡ cond (nat_lt n len) (Some n) None → (i ≡ n) × (n < len)
some_at n len i e =
    elim (nat_lt n len) as (λ t. (nat_lt n len ≡ t) → Some i ≡ cond t (Some n) None → (i ≡ n) × (n < len))
    [ true ↦ λ b at. (cc, grind (arith, nat_tests)) | false ↦ λ b at. absurd cc ] refl e

none_at : (n len : ℕ) → None ≡ cond (nat_lt n len) (Some n) None → len ≤ n
none_at n len e =
    elim (nat_lt n len) as (λ t. (nat_lt n len ≡ t) → None ≡ cond t (Some n) None → len ≤ n)
    [ true ↦ λ b at. absurd cc | false ↦ λ b at. grind (arith, nat_tests) ] refl e

kept_set : (ls : List Last) (p q : Address) (n i : ℕ) → i ≡ position_or_len (is_of p) ls → i < length ls
    → number_of (set ls i (record { sender = p; number = n })) q ≡ (if same_address p q then n else number_of ls q)
kept_set [] p q n i e h = absurd (omega arith)
kept_set (l ∷ ls) p q n zero e h =
    elim (is_of p l) as (λ t. (is_of p l ≡ t) → 0 ≡ cond (not t) (1 + position_or_len (is_of p) ls) 0
    → (if same_address p q then n else number_of ls q) ≡ (if same_address p q then n else number_of (l ∷ ls) q))
    [ true ↦ λ o at. replaced l ls p q n o | false ↦ λ o at. absurd (omega arith) ] refl e
kept_set (l ∷ ls) p q n (suc j) e h =
    elim (is_of p l) as (λ t. (is_of p l ≡ t) → suc j ≡ cond (not t) (1 + position_or_len (is_of p) ls) 0
    → (if same_address l.sender q then l.number else number_of (set ls j (record { sender = p; number = n })) q) ≡ (if same_address p q then n else number_of (l ∷ ls) q)) [
      | true ↦ λ o at. absurd (omega arith)
      | false ↦ λ o at.
          ap (λ k. if same_address l.sender q then l.number else k) (kept_set ls p q n j (omega arith) (omega arith)) ∙ passed l.sender p q l.number n (number_of ls q) o
    ] refl e

kept_push : (ls : List Last) (p q : Address) (n i : ℕ) → i ≡ position_or_len (is_of p) ls → length ls ≤ i
    → number_of (ls ++ record { sender = p; number = n } ∷ []) q ≡ (if same_address p q then n else number_of ls q)
kept_push [] p q n i e h = refl
kept_push (l ∷ ls) p q n i e h =
    elim (is_of p l) as (λ t. (is_of p l ≡ t) → i ≡ cond (not t) (1 + position_or_len (is_of p) ls) 0
    → (if same_address l.sender q then l.number else number_of (ls ++ record { sender = p; number = n } ∷ []) q) ≡ (if same_address p q then n else number_of (l ∷ ls) q)) [
      | true ↦ λ o at. absurd (omega arith)
      | false ↦ λ o at.
          ap (λ k. if same_address l.sender q then l.number else k) (kept_push ls p q n (position_or_len (is_of p) ls) refl (omega arith)) ∙ passed l.sender p q l.number n (number_of ls q) o
    ] refl e

-- a place that is found is one
pub place_within : (ls : List Last) (p : Address) (i : ℕ) → Some i ≡ position_from (is_of p) 0 ls → i < length ls
place_within ls p i e =
    let at = some_at (position_or_len (is_of p) ls) (length ls) i (e ∙ sym (position_from-zero (is_of p) ls)) in
    omega (arith, at.0, at.1)

-- a number is kept where the sender's stands
pub kept_at : (ls : List Last) (p q : Address) (n i : ℕ) → Some i ≡ position_from (is_of p) 0 ls
    → number_of (set ls i (record { sender = p; number = n })) q ≡ (if same_address p q then n else number_of ls q)
kept_at ls p q n i e =
    let at = some_at (position_or_len (is_of p) ls) (length ls) i (e ∙ sym (position_from-zero (is_of p) ls)) in
    kept_set ls p q n i at.0 (omega (arith, at.0, at.1))

-- a number is kept behind all others
pub kept_behind : (ls : List Last) (p q : Address) (n : ℕ) → None ≡ position_from (is_of p) 0 ls
    → number_of (ls ++ record { sender = p; number = n } ∷ []) q ≡ (if same_address p q then n else number_of ls q)
kept_behind ls p q n e = kept_push ls p q n (position_or_len (is_of p) ls) refl (none_at (position_or_len (is_of p) ls) (length ls) (e ∙ sym (position_from-zero (is_of p) ls)))
