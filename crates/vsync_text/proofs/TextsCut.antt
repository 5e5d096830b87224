-- Where a text is cut at a byte: texts without that byte, and texts of bytes from one on.
use Rattle.std.proofs.Common.{◌≡◌, ℕ, ◌+◌, ◌<◌, ◌≤◌, Bool, true, false, List, [], ◌∷◌, ◌++◌, length, take, drop, nat_eq, not, cond, refl, ◌∙◌, ap, arith, if◌then◌else◌}
use Rattle.std.proofs.lemmas.Bool.{ne_eqb}
use Rattle.std.proofs.Math.Seq.{take-append_seam, drop-append_seam}
use Rattle.std.specs.List.{position_or_len, AllByRecursion, onto_first}
use Rattle.vsync_text.specs.Lines.{before_byte, behind_byte, behind, lines_of, in_front}
use Rattle.vsync_text.specs.Forms.{parts_of}

-- no byte of a text is this one
abbrev pub Without : ℕ → List ℕ → Type 0
Without byte text = AllByRecursion (λ b. nat_eq b byte ≡ false) text

-- each byte of a text is at least this one
abbrev pub From : ℕ → List ℕ → Type 0
From low text = AllByRecursion (λ b. low ≤ b) text

-- a text is empty, or begins with this byte
abbrev pub is_cut : ℕ → List ℕ → Bool
is_cut byte [] = true
is_cut byte (b ∷ bs) = nat_eq b byte

pub all_append : (P : ℕ → Type 0) (xs ys : List ℕ) → AllByRecursion P xs → AllByRecursion P ys → AllByRecursion P (xs ++ ys)
all_append P [] ys hx hy = hy
all_append P (x ∷ xs) ys hx hy = (hx.0, all_append P xs ys hx.1 hy)

pub all_weaker : (P Q : ℕ → Type 0) (xs : List ℕ) → ((x : ℕ) → P x → Q x) → AllByRecursion P xs → AllByRecursion Q xs
all_weaker P Q [] w h = tt
all_weaker P Q (x ∷ xs) w h = (w x h.0, all_weaker P Q xs w h.1)

-- bytes that are greater are not this one
pub without_below : (low byte : ℕ) (text : List ℕ) → byte < low → From low text → Without byte text
without_below low byte text less h =
    all_weaker (λ b. low ≤ b) (λ b. nat_eq b byte ≡ false) text (λ b le. ne_eqb b byte (λ e. absurd (omega arith))) h

pub from_lower : (low high : ℕ) (text : List ℕ) → low ≤ high → From high text → From low text
from_lower low high text le h = all_weaker (λ b. high ≤ b) (λ b. low ≤ b) text (λ b more. omega arith) h

-- the byte at which a text is cut is found
pub cut_at : (byte : ℕ) (text tail : List ℕ) → Without byte text → is_cut byte tail ≡ true
    → position_or_len (λ b. nat_eq b byte) (text ++ tail) ≡ length text
cut_at byte [] [] w c = refl
cut_at byte [] (b ∷ bs) w c = ap (λ t. cond (not t) (1 + position_or_len (λ b. nat_eq b byte) bs) 0) c
cut_at byte (x ∷ xs) tail w c =
    let here : nat_eq x byte ≡ false = w.0 in
    let there : position_or_len (λ b. nat_eq b byte) (xs ++ tail) ≡ length xs = cut_at byte xs tail w.1 c in
    rw here (omega arith)

pub before_cut : (byte : ℕ) (text tail : List ℕ) → Without byte text → is_cut byte tail ≡ true → before_byte byte (text ++ tail) ≡ text
before_cut byte text tail w c = ap (λ n. take n (text ++ tail)) (cut_at byte text tail w c) ∙ take-append_seam text tail

pub behind_cut : (byte : ℕ) (text tail : List ℕ) → Without byte text → is_cut byte tail ≡ true → behind_byte byte (text ++ tail) ≡ behind tail
behind_cut byte text tail w c = ap (λ n. behind (drop n (text ++ tail))) (cut_at byte text tail w c) ∙ ap behind (drop-append_seam text tail)

-- a part and its comma
pub part_cut : (text rest : List ℕ) → Without 44 text → parts_of (text ++ 44 ∷ rest) ≡ text ∷ parts_of rest
part_cut [] rest w = refl
part_cut (b ∷ bs) rest w =
    let here : nat_eq b 44 ≡ false = w.0 in
    ap (λ t. cond t ([] ∷ parts_of (bs ++ 44 ∷ rest)) (onto_first b (parts_of (bs ++ 44 ∷ rest)))) here ∙ ap (onto_first b) (part_cut bs rest w.1)

-- the last part
pub part_last : (text : List ℕ) → Without 44 text → parts_of text ≡ text ∷ []
part_last [] w = refl
part_last (b ∷ bs) w =
    let here : nat_eq b 44 ≡ false = w.0 in
    ap (λ t. cond t ([] ∷ parts_of bs) (onto_first b (parts_of bs))) here ∙ ap (onto_first b) (part_last bs w.1)

-- a line and its line feed
pub line_cut : (text rest : List ℕ) → Without 10 text → lines_of (text ++ 10 ∷ rest) ≡ text ∷ lines_of rest
line_cut [] rest w = refl
line_cut (b ∷ bs) rest w =
    let here : nat_eq b 10 ≡ false = w.0 in
    ap (λ t. if t then [] ∷ lines_of (bs ++ 10 ∷ rest) else in_front b (lines_of (bs ++ 10 ∷ rest))) here ∙ ap (in_front b) (line_cut bs rest w.1)
