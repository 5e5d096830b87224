-- What is for a node in a frame for several is packets of the list.
use Rattle.std.proofs.Common.{◌≡◌, ◌≤◌, ◌+◌, ◌*◌, ◌%◌, ℕ, suc, Bool, true, false, List, [], ◌∷◌, ◌++◌, length, take, drop, refl, sym, ap, ◌∙◌, subst, append_assoc, Option, Some, None, arith}
use Rattle.std.specs.Prelude.{get_or, nat_eq, if◌then◌else◌}
use Rattle.std.specs.List.{AllByRecursion}
use Rattle.std.proofs.Math.Seq.{drop-append_seam, drop-drop}
use Rattle.std.proofs.lemmas.List.{length-append, take-append-drop}
use Rattle.std.proofs.lemmas.Option.{none-some, same_Some}
use Rattle.byteorder.specs.Endian.{big_number}
use Rattle.frames.specs.declared.several.Variant.{Variant}
use Rattle.frames.specs.Parts.{bytes_for, first_part, part_of, rows_of, several_bytes, varied, varied_by}
use Rattle.frames.proofs.ReadAsCarried.{front-of}

-- a content with the six bytes of another one that is the same but for these
pub varied-is : (place : ℕ) (content other : List ℕ) → take place content ≡ take place other → drop 6 (drop place content) ≡ drop 6 (drop place other)
    → varied place (take 6 (drop place other)) content ≡ other
varied-is place content other front back =
    ap (λ (f : List ℕ). f ++ take 6 (drop place other) ++ drop (place + 6) content) front
    ∙ ap (λ (b : List ℕ). take place other ++ take 6 (drop place other) ++ b) (sym (drop-drop 6 place content) ∙ back)
    ∙ append_assoc (take place other) (take 6 (drop place other)) (drop 6 (drop place other))
    ∙ ap (λ (r : List ℕ). take place other ++ r) (take-append-drop 6 (drop place other)) ∙ take-append-drop place other

-- ---- rows

abbrev pub HasSix : Variant → Type 0
HasSix v = length v.bytes ≡ 6

pub length-rows : (variants : List Variant) → AllByRecursion HasSix variants → length (rows_of variants) ≡ 8 * length variants
length-rows [] six = refl
length-rows (v ∷ variants) six =
    let rest : length (rows_of variants) ≡ 8 * length variants = length-rows variants six.1 in
    let row : length (v.bytes ++ rows_of variants) ≡ length v.bytes + length (rows_of variants) = length-append v.bytes (rows_of variants) in
    let all : length (rows_of (v ∷ variants)) ≡ suc (suc (length (v.bytes ++ rows_of variants))) = refl in
    omega (arith, rest, row, all, six.0)

small : (n : ℕ) → n ≤ 255 → n % 256 ≡ n
small n fits = omega arith

behind-six : (b c r : List ℕ) → length b ≡ 6 → drop 6 ((b ++ c) ++ r) ≡ c ++ r
behind-six b c r l = ap (λ (n : ℕ). drop n ((b ++ c) ++ r)) (sym l) ∙ ap (drop (length b)) (append_assoc b c r) ∙ drop-append_seam b (c ++ r)

-- the rows behind the first one
pub bytes-behind : (node count n : ℕ) (rest rows : List ℕ) → count ≡ suc n → rest ≡ drop 8 rows → nat_eq (big_number 2 rows) node ≡ false → bytes_for node count rows ≡ bytes_for node n rest
bytes-behind node count n rest rows e f other =
    ap (λ (m : ℕ). bytes_for node m rows) e ∙ ap (λ (b : Bool). if b then Some (take 6 (drop 2 rows)) else bytes_for node n (drop 8 rows)) other ∙ ap (bytes_for node n) (sym f)

-- ---- what holds of each variant of a content holds of what a node is sent

module _ (Good : List ℕ → Type 0) (place : ℕ) (content : List ℕ) where
  abbrev pub IsGood : Variant → Type 0
  IsGood v = (length v.bytes ≡ 6) × Good (varied place v.bytes content)

  good-six : (variants : List Variant) → AllByRecursion IsGood variants → AllByRecursion HasSix variants
  good-six [] good = tt
  good-six (v ∷ variants) good = (good.0.0, good-six variants good.1)

  module _ (node : ℕ) where
    found-by : (v : Variant) (variants : List Variant) (rest bytes : List ℕ) (b : Bool) → IsGood v
        → (if b then Some (take 6 (drop 2 (rows_of (v ∷ variants) ++ rest))) else bytes_for node (length variants) (drop 8 (rows_of (v ∷ variants) ++ rest))) ≡ Some bytes
        → (bytes_for node (length variants) (rows_of variants ++ rest) ≡ Some bytes → Good (varied place bytes content)) → Good (varied place bytes content)
    found-by v variants rest bytes true good e others =
        subst (λ (b : List ℕ). Good (varied place b content)) (sym (front-of 6 v.bytes (rows_of variants) rest good.0) ∙ same_Some _ bytes e) good.1
    found-by v variants rest bytes false good e others =
        others (ap (bytes_for node (length variants)) (sym (behind-six v.bytes (rows_of variants) rest good.0)) ∙ e)

    found : (variants : List Variant) (rest bytes : List ℕ) → AllByRecursion IsGood variants → bytes_for node (length variants) (rows_of variants ++ rest) ≡ Some bytes
        → Good (varied place bytes content)
    found [] rest bytes good e = absurd (none-some bytes e)
    found (v ∷ variants) rest bytes good e =
        found-by v variants rest bytes (nat_eq (big_number 2 (rows_of (v ∷ variants) ++ rest)) node) good.0 e (λ f. found variants rest bytes good.1 f)

    by-found : (at : ℕ) (first : List ℕ) (found : Option (List ℕ)) (part : List ℕ) → at ≡ place → first ≡ content
        → ((bytes : List ℕ) → found ≡ Some bytes → Good (varied place bytes content)) → varied_by at first found ≡ Some part → Good part
    by-found at first None part e f good is = absurd (none-some part is)
    by-found at first (Some bytes) part e f good is =
        subst Good
        (ap (λ (c : List ℕ). varied place bytes c) (sym f) ∙ ap (λ (p : ℕ). varied p bytes first) (sym e) ∙ same_Some (varied at bytes first) part is) (good bytes refl)

    part-by : (b : Bool) (at : ℕ) (first : List ℕ) (found : Option (List ℕ)) (part : List ℕ) → at ≡ place → first ≡ content → Good content
        → ((bytes : List ℕ) → found ≡ Some bytes → Good (varied place bytes content)) → (if b then Some first else varied_by at first found) ≡ Some part → Good part
    part-by true at first found part e f whole good is = subst Good (sym f ∙ same_Some first part is) whole
    part-by false at first found part e f whole good is = by-found at first found part e f good is

    pub part-is : (variants : List Variant) (first : ℕ) (part : List ℕ) → place ≤ 255 → length variants ≤ 255 → Good content → AllByRecursion IsGood variants
        → part_of node first (several_bytes place variants content) ≡ Some part → Good part
    part-is variants first part place_fits count_fits whole good is =
        let all : List ℕ = several_bytes place variants content in
        let at : get_or all 0 0 ≡ place = small place place_fits in
        let count : get_or all 1 0 ≡ length variants = small (length variants) count_fits in
        let begin : first_part all ≡ content =
        ap (λ (n : ℕ). drop (8 * n) (rows_of variants ++ content)) count ∙ ap (λ (n : ℕ). drop n (rows_of variants ++ content)) (sym (length-rows variants (good-six variants good)))
        ∙ drop-append_seam (rows_of variants) content in
        part-by (nat_eq first node) (get_or all 0 0) (first_part all) (bytes_for node (get_or all 1 0) (drop 2 all)) part at begin whole
        (λ bytes e. found variants content bytes good (ap (λ (n : ℕ). bytes_for node n (rows_of variants ++ content)) (sym count) ∙ e)) is
