-- What was acknowledged, in the words of agreement.
use Rattle.std.proofs.Common.{◌≡◌, ℕ, Bool, true, false, max, List, [], ◌∷◌, refl, sym, ap, ◌∙◌, subst}
use Rattle.std.specs.Prelude.{if◌then◌else◌}
use Rattle.std.proofs.lemmas.Bool.{cond-true, cond-false}
use mathlib.Core.Path.{fun_ext}
use Rattle.address.specs.Ids.{Address, same_address}
use Rattle.view.specs.Members.{stands_in}
use Rattle.stability.specs.declared.Ack.{Ack}
use Rattle.stability.specs.Counts.{noted, members_of, count_of}
use Rattle.address.proofs.SameIds.{same_address-refl, same_address-true}
use Rattle.law_acts.specs.Acts.{heard}
use Rattle.address.proofs.Plain.{or-rest}

other-by : (b c : Bool) (p q : Address) (n k m : ℕ) (a : Ack) → same_address q a.member ≡ b → same_address p a.member ≡ c → same_address p q ≡ false → k ≡ m
    → (let r : Ack = if b then record { member = a.member; count = max a.count n } else a in if same_address p r.member then r.count else k) ≡ (if c then a.count else m)
other-by true true p q n k m a s t d e =
    let same : p ≡ q = same_address-true p a.member t ∙ sym (same_address-true q a.member s) in
    let x : true ≡ false = sym (ap (λ (r : Address). same_address r q) same ∙ same_address-refl q) ∙ d in cc
other-by true false p q n k m a s t d e = cond-false (same_address p a.member) (max a.count n) k t ∙ e
other-by false true p q n k m a s t d e = cond-true (same_address p a.member) a.count k t
other-by false false p q n k m a s t d e = cond-false (same_address p a.member) a.count k t ∙ e

-- a count that was noted is no other's
pub noted-other : (p q : Address) (n : ℕ) (acks : List Ack) → same_address p q ≡ false → count_of p (noted q n acks) ≡ count_of p acks
noted-other p q n [] d = refl
noted-other p q n (a ∷ acks) d =
    other-by (same_address q a.member) (same_address p a.member) p q n (count_of p (noted q n acks)) (count_of p acks) a refl refl d (noted-other p q n acks d)

itself-by : (b : Bool) (q : Address) (n k m : ℕ) (a : Ack) → same_address q a.member ≡ b → (b ≡ false → k ≡ max m n)
    → (let r : Ack = if b then record { member = a.member; count = max a.count n } else a in if same_address q r.member then r.count else k) ≡ max (if b then a.count else m) n
itself-by true q n k m a s e = cond-true (same_address q a.member) (max a.count n) k s
itself-by false q n k m a s e = cond-false (same_address q a.member) a.count k s ∙ e refl

pub noted-itself : (q : Address) (n : ℕ) (acks : List Ack) → stands_in q (members_of acks) ≡ true → count_of q (noted q n acks) ≡ max (count_of q acks) n
noted-itself q n [] h = cc
noted-itself q n (a ∷ acks) h =
    itself-by (same_address q a.member) q n (count_of q (noted q n acks)) (count_of q acks) a refl
    (λ f. noted-itself q n acks (or-rest (same_address q a.member) (stands_in q (members_of acks)) h f))

noted-by : (b : Bool) (p q : Address) (n : ℕ) (acks : List Ack) → same_address p q ≡ b → stands_in q (members_of acks) ≡ true
    → count_of p (noted q n acks) ≡ (if b then max (count_of p acks) n else count_of p acks)
noted-by true p q n acks s there =
    subst (λ (r : Address). count_of r (noted q n acks) ≡ max (count_of r acks) n) (sym (same_address-true p q s)) (noted-itself q n acks there)
noted-by false p q n acks s there = noted-other p q n acks s

-- the counts afterwards are those of agreement
pub noted-heard : (q : Address) (n : ℕ) (acks : List Ack) → stands_in q (members_of acks) ≡ true
    → ◌≡◌ {A = Address → ℕ} (λ p. count_of p (noted q n acks)) (heard q n (λ p. count_of p acks))
noted-heard q n acks there = fun_ext (λ p. noted-by (same_address p q) p q n acks refl there)
