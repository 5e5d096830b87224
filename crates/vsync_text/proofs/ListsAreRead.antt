-- How bytes and lists are read, one at a time, on to what was read before.
use Rattle.std.proofs.Common.{◌≡◌, ℕ, ◌+◌, ◌<◌, Bool, true, false, List, [], ◌∷◌, ◌++◌, Option, None, Some, length, nat_eq, take, drop, not, cond, refl, sym, ◌∙◌, ap, subst, append_assoc, append-nil, zero, suc, arith, ◌≤◌}
use Rattle.std.specs.List.{onto_first, position_or_len}
use Rattle.std.specs.Prelude.{IfSome}
use Rattle.address.specs.declared.limits.TheConstants.{PAYLOAD}
use Rattle.trace_props.specs.declared.event.Numbered.{Numbered}
use Rattle.vsync_text.specs.Lines.{before_byte, behind_byte, behind}
use Rattle.vsync_text.specs.Spelling.{AreShort}
use Rattle.vsync_text.specs.Forms.{in_front, bytes_of_hex, hex_byte, hex_value, parts_of, parts_left, left_len, each_of}

-- what was read, and what is read after it
abbrev pub with_front : {A : Type 0} → List A → Option (List A) → Option (List A)
with_front xs None = None
with_front xs (Some ys) = Some (xs ++ ys)

-- nothing is read yet
pub none_yet : {A : Type 0} (xs : List A) (o : Option (List A)) → xs ≡ [] → o ≡ with_front xs o
none_yet xs None e = refl
none_yet xs (Some ys) e = ap (λ l. Some (l ++ ys)) (sym e)

-- one more is read
pub one_more : {A : Type 0} (xs : List A) (x : A) (o : Option (List A)) → with_front xs (in_front (Some x) o) ≡ with_front (xs ++ x ∷ []) o
one_more xs x None = refl
one_more xs x (Some ys) = rw append_assoc refl

abbrev pub is_comma : ℕ → Bool
is_comma b = nat_eq b 44

part_step : (b p : ℕ) (bs : List ℕ) (t : Bool) → parts_of bs ≡ take p bs ∷ parts_left (behind (drop p bs))
    → cond t ([] ∷ parts_of bs) (onto_first b (parts_of bs))
    ≡ take (cond (not t) (1 + p) 0) (b ∷ bs) ∷ parts_left (behind (drop (cond (not t) (1 + p) 0) (b ∷ bs)))
part_step b p bs true h = refl
part_step b p bs false h =
    let e : 1 + p ≡ suc p = omega arith in
    rw e (ap (onto_first b) h)

-- the parts of a text are the part before its first comma, and those behind
pub first_of_parts : (text : List ℕ) → parts_of text ≡ before_byte 44 text ∷ parts_left (behind_byte 44 text)
first_of_parts [] = refl
first_of_parts (b ∷ bs) = part_step b (position_or_len is_comma bs) bs (nat_eq b 44) (first_of_parts bs)

shorter_behind : (text : List ℕ) (n : ℕ) → left_len (behind (drop n text)) ≤ length text
shorter_behind [] zero = omega arith
shorter_behind [] (suc n) = omega arith
shorter_behind (b ∷ bs) zero = omega arith
shorter_behind (b ∷ bs) (suc n) = omega (arith, shorter_behind bs n)

-- less is left behind a byte
pub less_left : (byte : ℕ) (text : List ℕ) → left_len (behind_byte byte text) < left_len (Some text)
less_left byte text = omega (arith, shorter_behind text (position_or_len (λ b. nat_eq b byte) text))

-- a part is read
pub part_read : {A : Type 0} (spells : List ℕ → Option A) (xs : List A) (x : A) (part : List ℕ) (left : Option (List ℕ)) (parts : List (List ℕ)) (o : Option (List A))
    → o ≡ with_front xs (each_of spells parts) → parts ≡ part ∷ parts_left left → spells part ≡ Some x
    → o ≡ with_front (xs ++ x ∷ []) (each_of spells (parts_left left))
part_read spells xs x part left parts o e p s =
    e ∙ ap (λ ps. with_front xs (each_of spells ps)) p
    ∙ ap (λ r. with_front xs (in_front r (each_of spells (parts_left left)))) s
    ∙ one_more xs x _

-- a part is not read
pub part_fails : {A : Type 0} (spells : List ℕ → Option A) (xs : List A) (part : List ℕ) (left : Option (List ℕ)) (parts : List (List ℕ)) (o : Option (List A))
    → o ≡ with_front xs (each_of spells parts) → parts ≡ part ∷ parts_left left → spells part ≡ None → o ≡ None
part_fails spells xs part left parts o e p s =
    e ∙ ap (λ ps. with_front xs (each_of spells ps)) p
    ∙ ap (λ r. with_front xs (in_front r (each_of spells (parts_left left)))) s

-- no part is left
pub all_read : {A : Type 0} (spells : List ℕ → Option A) (xs : List A) (parts : List (List ℕ)) (o : Option (List A))
    → o ≡ with_front xs (each_of spells parts) → parts ≡ [] → o ≡ Some xs
all_read spells xs parts o e p = e ∙ ap (λ ps. with_front xs (each_of spells ps)) p ∙ ap Some (append-nil xs)

-- two digits are read
pub byte_read : (xs ys : List ℕ) (byte high low : ℕ) (rest behind digits : List ℕ) (o : Option (List ℕ))
    → o ≡ with_front xs (bytes_of_hex rest) → rest ≡ high ∷ behind → behind ≡ low ∷ digits
    → Some byte ≡ hex_byte (hex_value high) (hex_value low) → ys ≡ xs ++ byte ∷ []
    → o ≡ with_front ys (bytes_of_hex digits)
byte_read xs ys byte high low rest behind digits o e r b s y =
    e ∙ ap (λ d. with_front xs (bytes_of_hex d)) (r ∙ ap (λ d. high ∷ d) b)
    ∙ ap (λ v. with_front xs (in_front v (bytes_of_hex digits))) (sym s)
    ∙ one_more xs byte _ ∙ ap (λ l. with_front l (bytes_of_hex digits)) (sym y)

-- one more short message
pub short_push : (xs : List Numbered) (m : Numbered) → AreShort xs → length m.payload ≤ PAYLOAD → AreShort (xs ++ m ∷ [])
short_push [] m h s zero n e = let P : Option Numbered → Type 0 = λ o. IfSome o (λ k. length k.payload ≤ PAYLOAD) in subst P e s
short_push [] m h s (suc k) n e = absurd cc
short_push (x ∷ xs) m h s zero n e = h zero n e
short_push (x ∷ xs) m h s (suc k) n e = short_push xs m (λ j. h (suc j)) s k n e
