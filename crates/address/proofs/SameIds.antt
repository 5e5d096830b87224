-- Addresses and view ids: what the tests of equality say.
use Rattle.std.proofs.Common.{◌≡◌, ℕ, Bool, true, false, ◌&&◌, nat_eq, nat_cmp, is_eq, arith, sym, refl, ap, ◌∙◌, subst}
use Rattle.std.proofs.lemmas.Bool.{and_parts, eqb-true, eq-eqb}
use Rattle.std.proofs.lemmas.Bool.Decides.{nat_tests}
use Rattle.address.specs.Ids.{Address, ViewId, same_address, same_view_id}

-- equal addresses by the test
pub same_address-true : (a b : Address) → same_address a b ≡ true → a ≡ b
same_address-true a b e =
    let parts = and_parts (nat_eq a.node b.node) (nat_eq a.incarnation b.incarnation) e in
    ap {B = Address} (λ (x : ℕ). record { node = x; incarnation = a.incarnation }) (eqb-true a.node b.node parts.0)
    ∙ ap {B = Address} (λ (y : ℕ). record { node = b.node; incarnation = y }) (eqb-true a.incarnation b.incarnation parts.1)

-- an address is the same as itself
pub same_address-refl : (a : Address) → same_address a a ≡ true
same_address-refl a = ap (λ (x : Bool). x && nat_eq a.incarnation a.incarnation) (eq-eqb a.node a.node refl) ∙ eq-eqb a.incarnation a.incarnation refl

-- equal addresses pass the test
pub same_address-from : (a b : Address) → a ≡ b → same_address a b ≡ true
same_address-from a b e = subst (λ (x : Address). same_address a x ≡ true) e (same_address-refl a)

-- two tests that are true together are equal
bool-same : (x y : Bool) → (x ≡ true → y ≡ true) → (y ≡ true → x ≡ true) → x ≡ y
bool-same true y f g = sym (f refl)
bool-same false true f g = g refl
bool-same false false f g = refl

-- the test does not ask for an order
pub same_address-sym : (a b : Address) → same_address a b ≡ same_address b a
same_address-sym a b = bool-same (same_address a b) (same_address b a)
    (λ e. same_address-from b a (sym (same_address-true a b e)))
    (λ e. same_address-from a b (sym (same_address-true b a e)))

-- equal view ids by the test
pub same_view_id-true : (v w : ViewId) → same_view_id v w ≡ true → v ≡ w
same_view_id-true v w e =
    let parts = and_parts (nat_eq v.counter w.counter) (same_address v.creator w.creator) e in
    ap {B = ViewId} (λ (x : ℕ). record { counter = x; creator = v.creator }) (eqb-true v.counter w.counter parts.0)
    ∙ ap {B = ViewId} (λ (y : Address). record { counter = w.counter; creator = y }) (same_address-true v.creator w.creator parts.1)

-- a view id is the same as itself
pub same_view_id-refl : (v : ViewId) → same_view_id v v ≡ true
same_view_id-refl v = ap (λ (x : Bool). x && same_address v.creator v.creator) (eq-eqb v.counter v.counter refl) ∙ same_address-refl v.creator

-- equal view ids pass the test
pub same_view_id-from : (v w : ViewId) → v ≡ w → same_view_id v w ≡ true
same_view_id-from v w e = subst (λ (x : ViewId). same_view_id v x ≡ true) e (same_view_id-refl v)

-- two numbers compare equal exactly if they are
pub is_eq-nat : (a b : ℕ) → is_eq (nat_cmp a b) ≡ nat_eq a b
is_eq-nat a b = grind (arith, nat_tests)

-- who is not another, turned about
pub turned-about : (b : Bool) (p q : Address) → same_address q p ≡ b → same_address p q ≡ false → same_address q p ≡ false
turned-about true p q s d = let x : true ≡ false = sym (same_address-refl p) ∙ ap (same_address p) (sym (same_address-true q p s)) ∙ d in cc
turned-about false p q s d = s
