-- The laws of a part of the format that is two parts, one behind the other, of values behind their number, and of parts behind a number that says which they are.
use Rattle.std.proofs.Common.{◌≡◌, ℕ, ◌^◌, ◌<◌, List, ◌++◌, length, Some, refl, sym, ap, subst, ◌∙◌, append_assoc}
use Rattle.std.specs.List.{flat_map, AllByRecursion}
use Rattle.byteorder.specs.Endian.{big_bytes}
use Rattle.big_endian.proofs.Bytes.{IsWide}
use Rattle.big_endian.specs.Reading.{Read, ◌>>=◌, number_at, list_at}
use Rattle.big_endian.proofs.PartLaws.{bind_some, some_is, joined, IsPart, IsWithin, number_part, list_takes, list_again}
use Rattle.keyed_state.specs.Spelling.{made_at, both_at, counted_at, counted_bytes}

module _ {A B C : Type 0} {read_a : List ℕ → Read A} {spell_a : A → List ℕ} {FitsA : A → Type 0} {read_b : List ℕ → Read B} {spell_b : B → List ℕ} {FitsB : B → Type 0} where
  -- a value of two fields, which are spelled one behind the other
  pub two_parts : IsPart read_a spell_a FitsA → IsPart read_b spell_b FitsB → (make : A → B → C) (a_of : C → A) (b_of : C → B) (Fits : C → Type 0) → ((c : C) → make (a_of c) (b_of c) ≡ c)
      → ((a : A) (b : B) → FitsA a → FitsB b → (spell_a (a_of (make a b)) ++ spell_b (b_of (make a b)) ≡ spell_a a ++ spell_b b) × Fits (make a b)) → ((c : C) → Fits c → FitsA (a_of c) × FitsB (b_of c))
      → IsPart (λ bytes. read_a bytes >>= λ a. read_b a.1 >>= λ b. Some (make a.0 b.0, b.1)) (λ c. spell_a (a_of c) ++ spell_b (b_of c)) Fits
  two_parts first second make a_of b_of Fits whole made parts = record {
    takes = λ bytes c rest e.
        let a = bind_some (read_a bytes) (λ a. read_b a.1 >>= λ b. Some (make a.0 b.0, b.1)) (c, rest) e in
        let b = bind_some (read_b a.0.1) (λ b. Some (make a.0.0 b.0, b.1)) (c, rest) a.2 in
        let t = first.takes bytes a.0.0 a.0.1 a.1 in
        let u = second.takes a.0.1 b.0.0 b.0.1 b.1 in
        let m = made a.0.0 b.0.0 t.1 u.1 in
        subst (λ (p : C × List ℕ). (bytes ≡ (spell_a (a_of p.0) ++ spell_b (b_of p.0)) ++ p.1) × Fits p.0) (some_is (make a.0.0 b.0.0, b.0.1) (c, rest) b.2)
        (joined bytes (spell_a a.0.0) a.0.1 (spell_b b.0.0) b.0.1 t.0 u.0 ∙ ap (λ (l : List ℕ). l ++ b.0.1) (sym m.0), m.1);
    again = λ c rest fits.
        ap (λ (bytes : List ℕ). read_a bytes >>= λ a. read_b a.1 >>= λ b. Some (make a.0 b.0, b.1)) (append_assoc (spell_a (a_of c)) (spell_b (b_of c)) rest)
        ∙ rw (first.again (a_of c) (spell_b (b_of c) ++ rest) (parts c fits).0, second.again (b_of c) rest (parts c fits).1) (ap (λ (x : C). Some (x, rest)) (whole c));
  }

-- a pair
pub both_part : {A B : Type 0} {read_a : List ℕ → Read A} {spell_a : A → List ℕ} {FitsA : A → Type 0} {read_b : List ℕ → Read B} {spell_b : B → List ℕ} {FitsB : B → Type 0} → IsPart read_a spell_a FitsA → IsPart read_b spell_b FitsB
    → IsPart (both_at read_a read_b) (λ p. spell_a p.0 ++ spell_b p.1) (λ p. FitsA p.0 × FitsB p.1)
both_part {A = A} {B = B} {FitsA = FitsA} {FitsB = FitsB} first second = two_parts first second (λ a b. (a, b)) (λ p. p.0) (λ p. p.1) (λ (p : A × B). FitsA p.0 × FitsB p.1) (λ p. refl) (λ a b p q. (refl, (p, q))) (λ p fits. fits)

module _ {A : Type 0} {read : List ℕ → Read A} {spell : A → List ℕ} {Fits : A → Type 0} where
  -- two texts that are the same begin with the same part, and are the same behind it
  pub same_parts : IsPart read spell Fits → (x y : A) (r s : List ℕ) → Fits x → Fits y → spell x ++ r ≡ spell y ++ s → (x ≡ y) × (r ≡ s)
  same_parts part x y r s p q same =
      let both = some_is (x, r) (y, s) (sym (part.again x r p) ∙ ap read same ∙ part.again y s q) in
      (ap (λ (t : A × List ℕ). t.0) both, ap (λ (t : A × List ℕ). t.1) both)

  -- so many values, behind their number
  pub counted_part : IsPart read spell Fits → (n low high : ℕ) → IsWide n → high < 256 ^ n → IsPart (counted_at n low high read) (counted_bytes n spell) (λ xs. IsWithin low high (length xs) × AllByRecursion Fits xs)
  counted_part part n low high wide small = record {
    takes = λ bytes xs rest e.
        let a = bind_some (number_at n low high bytes) (λ count. list_at read count.0 count.1) (xs, rest) e in
        let t = (number_part n low high wide small).takes bytes a.0.0 a.0.1 a.1 in
        let u = list_takes read spell Fits part a.0.0 a.0.1 xs rest a.2 in
        subst (λ (m : ℕ). (bytes ≡ (big_bytes n m ++ flat_map spell xs) ++ rest) × (IsWithin low high m × AllByRecursion Fits xs)) (sym u.1)
        (joined bytes (big_bytes n a.0.0) a.0.1 (flat_map spell xs) rest t.0 u.0, (t.1, u.2));
    again = λ xs rest fits.
        ap (counted_at n low high read) (append_assoc (big_bytes n (length xs)) (flat_map spell xs) rest)
        ∙ rw ((number_part n low high wide small).again (length xs) (flat_map spell xs ++ rest) fits.0) (list_again read spell Fits part xs rest fits.1);
  }

  -- what is made of a part behind a number of one byte
  pub kind_takes : {C : Type 0} → IsPart read spell Fits → (make : A → C) (spell_c : C → List ℕ) (FitsC : C → Type 0) (n : ℕ) → ((x : A) → Fits x → (spell_c (make x) ≡ big_bytes 1 n ++ spell x) × FitsC (make x))
      → (bytes : List ℕ) (c : C) (rest : List ℕ) → made_at make (read bytes) ≡ Some (c, rest) → (big_bytes 1 n ++ bytes ≡ spell_c c ++ rest) × FitsC c
  kind_takes {C = C} part make spell_c FitsC n made bytes c rest e =
      let a = bind_some (read bytes) (λ x. Some (make x.0, x.1)) (c, rest) e in
      let t = part.takes bytes a.0.0 a.0.1 a.1 in
      let m = made a.0.0 t.1 in
      subst (λ (p : C × List ℕ). (big_bytes 1 n ++ bytes ≡ spell_c p.0 ++ p.1) × FitsC p.0) (some_is (make a.0.0, a.0.1) (c, rest) a.2)
      (joined (big_bytes 1 n ++ bytes) (big_bytes 1 n) bytes (spell a.0.0) a.0.1 refl t.0 ∙ ap (λ (l : List ℕ). l ++ a.0.1) (sym m.0), m.1)
