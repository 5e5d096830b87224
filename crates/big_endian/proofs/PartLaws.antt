-- What a part of the format is read from is its spelling, and its spelling is read as it, whatever follows.
use Rattle.std.proofs.Common.{◌≡◌, ℕ, zero, suc, ◌^◌, ◌<◌, ◌≤◌, Bool, true, cond, eqb, leb, ◌&&◌, List, [], ◌∷◌, ◌++◌, length, take, drop, Option, Some, None, refl, sym, ap, subst, ◌∙◌, append_assoc, arith}
use Rattle.std.specs.List.{flat_map, AllByRecursion}
use Rattle.std.proofs.lemmas.Bool.{eqb-true, leb-true, le-leb, and_parts}
use Rattle.std.proofs.lemmas.List.{append-nil, nil_from_length, take_at, drop_at, take-append-drop, length-append, length-take}
use Rattle.byteorder.specs.Endian.{big_bytes, big_number}
use Rattle.address.specs.Ids.{Address, IsAddress}
use Rattle.address.specs.declared.limits.TheConstants.{GREATEST_INCARNATION, GREATEST_NODE}
use Rattle.big_endian.specs.Spelled.{address_bytes}
use Rattle.big_endian.specs.Reading.{Read, ◌>>=◌, are_bytes, bytes_at, number_at, sized_bytes, sized_at, address_at, list_at, read_to_end}
use Rattle.big_endian.proofs.Bytes.{IsWide, wide2, wide4, number_back, length-big_bytes}
use Rattle.big_endian.specs.NumberLaws.{tested_bytes, big_bytes-are_bytes}
use Rattle.std.proofs.lemmas.Option.{cond_some}

-- the value of a step that found one
pub bind_some : {A B : Type 0} (r : Option A) (f : A → Option B) (y : B) → (r >>= f) ≡ Some y → (x : A) × (r ≡ Some x) × (f x ≡ Some y)
bind_some (Some x) f y e = (x, refl, e)
bind_some None f y e = absurd cc

abbrev found : {A : Type 0} → A → Option A
found x = Some x

pub some_is : {A : Type 0} (x y : A) → found x ≡ found y → x ≡ y
some_is x y e = cc

-- two texts, one behind the other
pub joined : (a x b y c : List ℕ) → a ≡ x ++ b → b ≡ y ++ c → a ≡ (x ++ y) ++ c
joined a x b y c p q = p ∙ ap (λ (t : List ℕ). x ++ t) q ∙ sym (append_assoc x y c)

-- the laws of a part of the format
pub record IsPart {A : Type 0} (read : List ℕ → Read A) (spell : A → List ℕ) (Fits : A → Type 0) : Type 0 where
  pub takes : (bytes : List ℕ) (x : A) (rest : List ℕ) → read bytes ≡ Some (x, rest) → (bytes ≡ spell x ++ rest) × Fits x
  pub again : (x : A) (rest : List ℕ) → Fits x → read (spell x ++ rest) ≡ Some (x, rest)

-- ---- bytes

pub bytes_takes : (n : ℕ) (bytes front rest : List ℕ) → bytes_at n bytes ≡ Some (front, rest) → (bytes ≡ front ++ rest) × (length front ≡ n)
unfolding bytes_at
bytes_takes n bytes front rest e =
    let g = cond_some (leb n (length bytes)) (take n bytes, drop n bytes) (front, rest) e in
    let long : n ≤ length bytes = leb-true _ _ g.0 in
    let whole : (bytes ≡ take n bytes ++ drop n bytes) × (length (take n bytes) ≡ n) = (sym (take-append-drop n bytes), omega (arith, length-take n bytes)) in
    subst (λ (p : List ℕ × List ℕ). (bytes ≡ p.0 ++ p.1) × (length p.0 ≡ n)) g.1 whole

pub bytes_again : (n : ℕ) (front rest : List ℕ) → length front ≡ n → bytes_at n (front ++ rest) ≡ Some (front, rest)
unfolding bytes_at
bytes_again n front rest len =
    let long : leb n (length (front ++ rest)) ≡ true = le-leb _ _ (omega (arith, length-append front rest)) in
    rw (long, take_at front rest n len, drop_at front rest n len) refl

-- ---- numbers

abbrev pub IsWithin : ℕ → ℕ → ℕ → Type 0
IsWithin low high x = (low ≤ x) × (x ≤ high)

-- whether bytes spell a number of a range
abbrev may_be : ℕ → ℕ → ℕ → List ℕ → Bool
may_be n low high front = are_bytes front && (leb low (big_number n front) && leb (big_number n front) high)

pub number_takes : (n : ℕ) → IsWide n → (low high : ℕ) (bytes : List ℕ) (x : ℕ) (rest : List ℕ) → number_at n low high bytes ≡ Some (x, rest)
    → (bytes ≡ big_bytes n x ++ rest) × IsWithin low high x
unfolding number_at
number_takes n wide low high bytes x rest e =
    let value = λ (t : List ℕ). big_number n t in
    let b = bind_some (bytes_at n bytes) (λ front. cond (may_be n low high front.0) (Some (value front.0, front.1)) None) (x, rest) e in
    let t = bytes_takes n bytes b.0.0 b.0.1 b.1 in
    let g = cond_some (may_be n low high b.0.0) (value b.0.0, b.0.1) (x, rest) b.2 in
    let tests = and_parts (are_bytes b.0.0) (leb low (value b.0.0) && leb (value b.0.0) high) g.0 in
    let range = and_parts (leb low (value b.0.0)) (leb (value b.0.0) high) tests.1 in
    let back : big_bytes n (value b.0.0) ≡ b.0.0 = wide.back b.0.0 t.1 (tested_bytes b.0.0 tests.0) in
    let whole : (bytes ≡ big_bytes n (value b.0.0) ++ b.0.1) × IsWithin low high (value b.0.0) = (rw back t.0, (leb-true _ _ range.0, leb-true _ _ range.1)) in
    subst (λ (p : ℕ × List ℕ). (bytes ≡ big_bytes n p.0 ++ p.1) × IsWithin low high p.0) g.1 whole

pub number_again : (n low high : ℕ) (x : ℕ) (rest : List ℕ) → x < 256 ^ n → IsWithin low high x → number_at n low high (big_bytes n x ++ rest) ≡ Some (x, rest)
unfolding number_at
number_again n low high x rest lt in_range =
    rw (bytes_again n (big_bytes n x) rest (length-big_bytes n x), big_bytes-are_bytes n x, number_back n x lt, le-leb low x in_range.0, le-leb x high in_range.1) refl

pub number_part : (n low high : ℕ) → IsWide n → high < 256 ^ n → IsPart (number_at n low high) (big_bytes n) (IsWithin low high)
number_part n low high wide small = record {
  takes = number_takes n wide low high;
  again = λ x rest in_range. number_again n low high x rest (omega (arith, in_range.1)) in_range;
}

-- ---- bytes behind their length

sized_takes : (most : ℕ) → most < 65536 → (bytes x rest : List ℕ) → sized_at most bytes ≡ Some (x, rest) → (bytes ≡ sized_bytes x ++ rest) × (length x ≤ most)
unfolding sized_at
sized_takes most few bytes x rest e =
    let a = bind_some (number_at 2 0 most bytes) (λ len. bytes_at len.0 len.1) (x, rest) e in
    let t = number_takes 2 wide2 0 most bytes a.0.0 a.0.1 a.1 in
    let u = bytes_takes a.0.0 a.0.1 x rest a.2 in
    let both : bytes ≡ (big_bytes 2 a.0.0 ++ x) ++ rest = joined bytes (big_bytes 2 a.0.0) a.0.1 x rest t.0 u.0 in
    (subst (λ (n : ℕ). bytes ≡ (big_bytes 2 n ++ x) ++ rest) (sym u.1) both, omega (arith, u.1, t.1.1))

sized_again : (most : ℕ) → most < 65536 → (x rest : List ℕ) → length x ≤ most → sized_at most (sized_bytes x ++ rest) ≡ Some (x, rest)
unfolding sized_at
sized_again most few x rest short =
    ap (sized_at most) (append_assoc (big_bytes 2 (length x)) x rest)
    ∙ rw (number_again 2 0 most (length x) (x ++ rest) (omega (arith, few, short)) (omega arith, short), bytes_again (length x) x rest refl) refl

pub sized_part : (most : ℕ) → most < 65536 → IsPart (sized_at most) sized_bytes (λ x. length x ≤ most)
sized_part most few = record { takes = sized_takes most few; again = sized_again most few }

-- ---- addresses

pub address_takes : (bytes : List ℕ) (a : Address) (rest : List ℕ) → address_at bytes ≡ Some (a, rest) → (bytes ≡ address_bytes a ++ rest) × IsAddress a
unfolding address_at
address_takes bytes a rest e =
    let b = bind_some (number_at 2 1 GREATEST_NODE bytes) (λ node. number_at 4 1 GREATEST_INCARNATION node.1 >>= λ incarnation. Some (record { node = node.0; incarnation = incarnation.0 }, incarnation.1)) (a, rest) e in
    let c = bind_some (number_at 4 1 GREATEST_INCARNATION b.0.1) (λ incarnation. Some (record { node = b.0.0; incarnation = incarnation.0 }, incarnation.1)) (a, rest) b.2 in
    let t = number_takes 2 wide2 1 GREATEST_NODE bytes b.0.0 b.0.1 b.1 in
    let u = number_takes 4 wide4 1 GREATEST_INCARNATION b.0.1 c.0.0 c.0.1 c.1 in
    let made : Address = record { node = b.0.0; incarnation = c.0.0 } in
    let is : IsAddress made = record { node = t.1.0; node_fits = omega (arith, t.1.1); incarnation = u.1.0; incarnation_fits = omega (arith, u.1.1) } in
    subst (λ (p : Address × List ℕ). (bytes ≡ address_bytes p.0 ++ p.1) × IsAddress p.0) (some_is (made, c.0.1) (a, rest) c.2)
    (joined bytes (big_bytes 2 b.0.0) b.0.1 (big_bytes 4 c.0.0) c.0.1 t.0 u.0, is)

pub address_again : (a : Address) (rest : List ℕ) → IsAddress a → address_at (address_bytes a ++ rest) ≡ Some (a, rest)
unfolding address_at
address_again a rest is =
    ap address_at (append_assoc (big_bytes 2 a.node) (big_bytes 4 a.incarnation) rest)
    ∙ rw (number_again 2 1 GREATEST_NODE a.node (big_bytes 4 a.incarnation ++ rest) is.node_fits (is.node, omega (arith, is.node_fits)), number_again 4 1 GREATEST_INCARNATION a.incarnation rest is.incarnation_fits (is.incarnation, omega (arith, is.incarnation_fits))) refl

pub address_part : IsPart address_at address_bytes IsAddress
address_part = record { takes = address_takes; again = address_again }

-- ---- so many values, one behind the other

pub list_takes : {A : Type 0} (read : List ℕ → Read A) (spell : A → List ℕ) (Fits : A → Type 0) → IsPart read spell Fits → (n : ℕ) (bytes : List ℕ) (xs : List A) (rest : List ℕ) → list_at read n bytes ≡ Some (xs, rest)
    → (bytes ≡ flat_map spell xs ++ rest) × (length xs ≡ n) × AllByRecursion Fits xs
unfolding list_at
list_takes {A = A} read spell Fits part zero bytes xs rest e =
    subst (λ (p : List A × List ℕ). (bytes ≡ flat_map spell p.0 ++ p.1) × (length p.0 ≡ 0) × AllByRecursion Fits p.0) (some_is ([], bytes) (xs, rest) e) (refl, refl, tt)
list_takes {A = A} read spell Fits part (suc n) bytes xs rest e =
    let a = bind_some (read bytes) (λ first. list_at read n first.1 >>= λ others. Some (first.0 ∷ others.0, others.1)) (xs, rest) e in
    let b = bind_some (list_at read n a.0.1) (λ others. Some (a.0.0 ∷ others.0, others.1)) (xs, rest) a.2 in
    let t = part.takes bytes a.0.0 a.0.1 a.1 in
    let u = list_takes read spell Fits part n a.0.1 b.0.0 b.0.1 b.1 in
    let both = joined bytes (spell a.0.0) a.0.1 (flat_map spell b.0.0) b.0.1 t.0 u.0 in
    subst (λ (p : List A × List ℕ). (bytes ≡ flat_map spell p.0 ++ p.1) × (length p.0 ≡ suc n) × AllByRecursion Fits p.0) (some_is (a.0.0 ∷ b.0.0, b.0.1) (xs, rest) b.2) (both, ap suc u.1, (t.1, u.2))

pub list_again : {A : Type 0} (read : List ℕ → Read A) (spell : A → List ℕ) (Fits : A → Type 0) → IsPart read spell Fits → (xs : List A) (rest : List ℕ) → AllByRecursion Fits xs → list_at read (length xs) (flat_map spell xs ++ rest) ≡ Some (xs, rest)
unfolding list_at
list_again read spell Fits part [] rest fits = refl
list_again read spell Fits part (x ∷ xs) rest fits =
    ap (list_at read (suc (length xs))) (append_assoc (spell x) (flat_map spell xs) rest)
    ∙ rw (part.again x (flat_map spell xs ++ rest) fits.0, list_again read spell Fits part xs rest fits.1) refl

-- ---- what is read to its end

module _ {A : Type 0} (read : List ℕ → Read A) (spell : A → List ℕ) (Fits : A → Type 0) (part : IsPart read spell Fits) where
  -- what bytes are read as is spelled by them
  pub to_end_takes : (bytes : List ℕ) (x : A) → read_to_end read bytes ≡ Some x → Fits x × (spell x ≡ bytes)
  to_end_takes bytes x e =
      let a = bind_some (read bytes) (λ p. cond (eqb (length p.1) 0) (Some p.0) None) x e in
      let t = cond_some (eqb (length a.0.1) 0) a.0.0 x a.2 in
      let nothing : a.0.1 ≡ [] = nil_from_length a.0.1 (eqb-true _ _ t.0) in
      let u = part.takes bytes a.0.0 a.0.1 a.1 in
      let whole : bytes ≡ spell a.0.0 = u.0 ∙ ap (λ (r : List ℕ). spell a.0.0 ++ r) nothing ∙ append-nil (spell a.0.0) in
      subst (λ (y : A). Fits y × (spell y ≡ bytes)) t.1 (u.1, sym whole)

  pub to_end_again : (x : A) → Fits x → read_to_end read (spell x) ≡ Some x
  to_end_again x fits =
      let again : read (spell x) ≡ Some (x, []) = ap read (sym (append-nil (spell x))) ∙ part.again x [] fits in
      rw again refl
