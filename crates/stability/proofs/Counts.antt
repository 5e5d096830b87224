-- What a member acknowledged bounds the stable count, and is never lowered.
use Rattle.std.proofs.Common.{◌≡◌, ℕ, ◌≤◌, Bool, true, false, List, [], ◌∷◌, refl, ap, ◌∙◌, subst, arith, map, max, min, length}
use Rattle.std.specs.Prelude.{nat_eq, if◌then◌else◌}
use Rattle.std.proofs.lemmas.Bool.Decides.{nat_tests}
use Rattle.address.specs.Ids.{Address, same_address}
use Rattle.view.specs.Members.{stands_in}
use Rattle.stability.specs.declared.Ack.{Ack}
use Rattle.stability.specs.Counts.{unheard, noted, stable_count, members_of, count_of}
use Rattle.address.proofs.Plain.{or-rest}

pub members-unheard : (members : List Address) → members_of (map unheard members) ≡ members
members-unheard [] = refl
members-unheard (p ∷ members) = ap (λ ps. p ∷ ps) (members-unheard members)

member-stays : (b : Bool) (n : ℕ) (a : Ack) → (if b then record { member = a.member; count = max a.count n } else a).member ≡ a.member
member-stays true n a = refl
member-stays false n a = refl

pub members-noted : (p : Address) (n : ℕ) (acks : List Ack) → members_of (noted p n acks) ≡ members_of acks
members-noted p n [] = refl
members-noted p n (a ∷ acks) =
    ap (λ q. q ∷ members_of (noted p n acks)) (member-stays (same_address p a.member) n a) ∙ ap (λ qs. a.member ∷ qs) (members-noted p n acks)

pub zero-either : (b : Bool) (m : ℕ) → m ≡ 0 → (if b then 0 else m) ≡ 0
zero-either true m z = refl
zero-either false m z = z

pub count-unheard : (q : Address) (members : List Address) → count_of q (map unheard members) ≡ 0
count-unheard q [] = refl
count-unheard q (p ∷ members) = zero-either (same_address q p) _ (count-unheard q members)

not-empty : (q : Address) (acks : List Ack) → stands_in q (members_of acks) ≡ true → nat_eq (length acks) 0 ≡ false
not-empty q [] h = cc
not-empty q (a ∷ acks) h = grind (arith, nat_tests)

least-by : (b c : Bool) (m s k : ℕ) → (b ≡ false → (c ≡ false) × (s ≤ k)) → (if c then m else min m s) ≤ (if b then m else k)
least-by true true m s k rest = omega arith
least-by true false m s k rest = omega arith
least-by false true m s k rest = let n : true ≡ false = (rest refl).0 in cc
least-by false false m s k rest = omega (arith, (rest refl).1)

-- what is stable, each member acknowledged
pub stable-le-count : (q : Address) (acks : List Ack) → stands_in q (members_of acks) ≡ true → stable_count acks ≤ count_of q acks
stable-le-count q [] h = omega arith
stable-le-count q (a ∷ acks) h =
    least-by (same_address q a.member) (nat_eq (length acks) 0) a.count (stable_count acks) (count_of q acks)
    (λ f. let there : stands_in q (members_of acks) ≡ true = or-rest (same_address q a.member) _ h f in (not-empty q acks there, stable-le-count q acks there))

same-both : (p q m : Address) → same_address p m ≡ true → same_address q m ≡ true → same_address p q ≡ true
same-both p q m h i = grind (arith, nat_tests)

le-by : (t : Bool) (x k b : ℕ) → (t ≡ true → x ≤ b) → (t ≡ false → k ≤ b) → (if t then x else k) ≤ b
le-by true x k b one two = one refl
le-by false x k b one two = two refl

raised-le : (s : Bool) (p q : Address) (n b k : ℕ) (a : Ack) → same_address p a.member ≡ s → (same_address p q ≡ true → n ≤ b)
    → (same_address q a.member ≡ true → a.count ≤ b) → (same_address q a.member ≡ false → k ≤ b)
    → (if same_address q (if s then record { member = a.member; count = max a.count n } else a).member then (if s then record { member = a.member; count = max a.count n } else a).count else k) ≤ b
raised-le true p q n b k a e new first rest =
    le-by (same_address q a.member) (max a.count n) k b (λ t. omega (arith, new (same-both p q a.member e t), first t)) rest
raised-le false p q n b k a e new first rest = le-by (same_address q a.member) a.count k b first rest

-- a bound of a member's count is kept by what is heard, where that is within it
pub count-noted-le : (p q : Address) (n b : ℕ) (acks : List Ack) → (same_address p q ≡ true → n ≤ b) → count_of q acks ≤ b → count_of q (noted p n acks) ≤ b
count-noted-le p q n b [] new old = old
count-noted-le p q n b (a ∷ acks) new old =
    raised-le (same_address p a.member) p q n b (count_of q (noted p n acks)) a refl new
    (λ t. subst (λ s. (if s then a.count else count_of q acks) ≤ b) t old)
    (λ f. count-noted-le p q n b acks new (subst (λ s. (if s then a.count else count_of q acks) ≤ b) f old))
