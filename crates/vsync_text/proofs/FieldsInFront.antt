-- A number, an address or a view id that is read at the front of what is left of a line is its next field, if that ends there.
use Rattle.std.proofs.Common.{◌≡◌, ℕ, ◌+◌, Bool, true, false, ◌&&◌, List, [], ◌∷◌, ◌++◌, Option, None, Some, Ok, Err, nat_eq, refl, sym, ◌∙◌, ap, append-nil, arith, suc, inl, inr, ◌⊎◌, if◌then◌else◌}
use Rattle.std.proofs.lemmas.Bool.{ne_eqb, false≢true}
use Rattle.std.proofs.lemmas.Bool.Decides.{nat_tests}
use Rattle.std.specs.Char.{is_ascii_digit}
use Rattle.std.specs.List.{list_all, position_or_len}
use Rattle.std.specs.Prelude.{option_and_then, unwrap_or}
use Rattle.address.specs.Ids.{Address, ViewId}
use Rattle.address.specs.declared.limits.TheConstants.{GREATEST_NUMBER, GREATEST_INCARNATION, GREATEST_NODE}
use Rattle.vsync_text.specs.AddressText.{address_of_text, address_from}
use Rattle.vsync_text.specs.Fields.{spelled_at, field_at, and_rest}
use Rattle.vsync_text.specs.Lines.{before_byte, behind_byte, field_of, behind_field}
use Rattle.vsync_text.specs.Numbers.{number_in, is_plain, has_plain_front}
use Rattle.vsync_text.specs.declared.fault.Fault.TheVariants.{BadNumber}
use Rattle.vsync_text.specs.Forms.{◌>>=◌}
use Rattle.vsync_text.specs.Fronts.{digits_of, behind_digits, behind_mark, with_behind, number_in_front, address_in_front, view_id_in_front, left_behind}
use Rattle.vsync_text.specs.Spelling.{view_id_of_text}
use Rattle.vsync_text.proofs.TextsCut.{Without}

-- WHERE DIGITS END

not_digit : (b byte : ℕ) → is_ascii_digit byte ≡ false → is_ascii_digit b ≡ true → nat_eq b byte ≡ false
not_digit b byte n d = ne_eqb b byte (λ e. false≢true (sym n ∙ ap is_ascii_digit (sym e) ∙ d))

digits_without : (byte : ℕ) (text : List ℕ) → is_ascii_digit byte ≡ false → Without byte (digits_of text)
digits_without byte [] n = tt
digits_without byte (b ∷ bs) n =
    elim (is_ascii_digit b) as (λ t. (is_ascii_digit b ≡ t) → Without byte (if t then b ∷ digits_of bs else []))
    [ true ↦ λ e. (not_digit b byte n e, digits_without byte bs n) | false ↦ λ e. tt ] refl

split : (text : List ℕ) → digits_of text ++ behind_digits text ≡ text
split [] = refl
split (b ∷ bs) =
    elim (is_ascii_digit b) as (λ t. (if t then b ∷ digits_of bs else []) ++ (if t then behind_digits bs else b ∷ bs) ≡ b ∷ bs)
    [ true ↦ ap (λ xs. b ∷ xs) (split bs) | false ↦ refl ]

-- a text does not begin with a digit
abbrev NoDigitFirst : List ℕ → Type 0
NoDigitFirst [] = Unit
NoDigitFirst (b ∷ bs) = is_ascii_digit b ≡ false

no_digit_first : (text : List ℕ) → NoDigitFirst (behind_digits text)
no_digit_first [] = tt
no_digit_first (b ∷ bs) =
    elim (is_ascii_digit b) as (λ t. (is_ascii_digit b ≡ t) → NoDigitFirst (if t then behind_digits bs else b ∷ bs))
    [ true ↦ λ e. no_digit_first bs | false ↦ λ e. e ] refl

before_one : (byte b : ℕ) (bs : List ℕ) → nat_eq b byte ≡ false → before_byte byte (b ∷ bs) ≡ b ∷ before_byte byte bs
before_one byte b bs h =
    let e : 1 + position_or_len (λ x. nat_eq x byte) bs ≡ suc (position_or_len (λ x. nat_eq x byte) bs) = omega arith in
    rw (h, e) refl

behind_one : (byte b : ℕ) (bs : List ℕ) → nat_eq b byte ≡ false → behind_byte byte (b ∷ bs) ≡ behind_byte byte bs
behind_one byte b bs h =
    let e : 1 + position_or_len (λ x. nat_eq x byte) bs ≡ suc (position_or_len (λ x. nat_eq x byte) bs) = omega arith in
    rw (h, e) refl

before_on : (byte : ℕ) (ds more : List ℕ) → Without byte ds → before_byte byte (ds ++ more) ≡ ds ++ before_byte byte more
before_on byte [] more h = refl
before_on byte (d ∷ ds) more h = before_one byte d (ds ++ more) h.0 ∙ ap (λ xs. d ∷ xs) (before_on byte ds more h.1)

behind_on : (byte : ℕ) (ds more : List ℕ) → Without byte ds → behind_byte byte (ds ++ more) ≡ behind_byte byte more
behind_on byte [] more h = refl
behind_on byte (d ∷ ds) more h = behind_one byte d (ds ++ more) h.0 ∙ behind_on byte ds more h.1

-- the field is the digits, and what of the field is behind them
field_split : (text : List ℕ) → field_of text ≡ digits_of text ++ field_of (behind_digits text)
field_split text = ap field_of (sym (split text)) ∙ before_on 32 (digits_of text) (behind_digits text) (digits_without 32 text refl)

field_behind : (text : List ℕ) → behind_field text ≡ behind_field (behind_digits text)
field_behind text = ap behind_field (sym (split text)) ∙ behind_on 32 (digits_of text) (behind_digits text) (digits_without 32 text refl)

-- NUMBERS

fails_at : (ds : List ℕ) (c : ℕ) (more : List ℕ) → is_ascii_digit c ≡ false → list_all is_ascii_digit (ds ++ c ∷ more) ≡ false
fails_at [] c more h = rw h refl
fails_at (d ∷ ds) c more h = rw (fails_at ds c more h) (elim (is_ascii_digit d) as (λ t. (t && false) ≡ false) [ true ↦ refl | false ↦ refl ])

not_plain : (field : List ℕ) → list_all is_ascii_digit field ≡ false → is_plain field ≡ false
not_plain field h = rw h (elim (has_plain_front field) as (λ t. (t && false) ≡ false) [ true ↦ refl | false ↦ refl ])

-- digits with another byte behind them are no number
no_number : (low high : ℕ) (ds : List ℕ) (c : ℕ) (more : List ℕ) → is_ascii_digit c ≡ false → number_in low high (ds ++ c ∷ more) ≡ None
no_number low high ds c more h = rw (not_plain (ds ++ c ∷ more) (fails_at ds c more h)) refl

-- whether a field ends where a text begins
abbrev ends : List ℕ → Bool
ends [] = true
ends (b ∷ bs) = nat_eq b 32

-- no more of a field is there
field_end : (b : ℕ) (bs : List ℕ) → nat_eq b 32 ≡ true → field_of (b ∷ bs) ≡ []
field_end b bs h = rw h refl

number_ends : (low high : ℕ) (ds rest : List ℕ) → NoDigitFirst rest → number_in low high (ds ++ field_of rest) ≡ (if ends rest then number_in low high ds else None)
number_ends low high ds [] h = ap (number_in low high) (append-nil ds)
number_ends low high ds (b ∷ bs) h =
    elim (nat_eq b 32) as (λ t. (nat_eq b 32 ≡ t) → number_in low high (ds ++ field_of (b ∷ bs)) ≡ (if t then number_in low high ds else None)) [
      | true ↦ λ e. ap (λ xs. number_in low high (ds ++ xs)) (field_end b bs e) ∙ ap (number_in low high) (append-nil ds)
      | false ↦ λ e. ap (λ xs. number_in low high (ds ++ xs)) (before_one 32 b bs e) ∙ no_number low high ds b (field_of bs) h
    ] refl

-- FRONTS

-- what was read at the front, if the field ends behind it
abbrev if_ended : {A : Type 0} → Option (A × List ℕ) → Option A
if_ended None = None
if_ended (Some (x, rest)) = if ends rest then Some x else None

-- what is read at the front is what the next field spells, if that ends there
pub record IsFront {A : Type 0} (spells : List ℕ → Option A) (front : List ℕ → Option (A × List ℕ)) : Type 0 where
  pub read : (text : List ℕ) → spells (field_of text) ≡ if_ended (front text)
  pub rest : (text : List ℕ) (x : A) (left : List ℕ) → front text ≡ Some (x, left) → behind_field text ≡ behind_field left

abbrev left_of : {A : Type 0} → Option (A × List ℕ) → List ℕ
left_of None = []
left_of (Some (x, rest)) = rest

either_none : {A : Type 0} (t : Bool) → (if◌then◌else◌ {A = Option A} t None None) ≡ None
either_none true = refl
either_none false = refl

if_ended_with : {A : Type 0} (o : Option A) (rest : List ℕ) → (if ends rest then o else None) ≡ if_ended (with_behind o rest)
if_ended_with None rest = either_none (ends rest)
if_ended_with (Some x) rest = refl

left_is : {A : Type 0} (o : Option A) (rest : List ℕ) (x : A) (left : List ℕ) → with_behind o rest ≡ Some (x, left) → rest ≡ left
left_is None rest x left e = absurd cc
left_is (Some y) rest x left e = ap left_of e

pub number_is_front : (high : ℕ) → IsFront (number_in 1 high) (number_in_front high)
unfolding number_in_front
number_is_front high = record {
  read = λ text. ap (number_in 1 high) (field_split text) ∙ number_ends 1 high (digits_of text) (behind_digits text) (no_digit_first text)
      ∙ if_ended_with (number_in 1 high (digits_of text)) (behind_digits text);
  rest = λ text x left e. field_behind text ∙ ap behind_field (left_is (number_in 1 high (digits_of text)) (behind_digits text) x left e);
}

-- MARKS

-- a mark stands behind the digits, or the digits and the mark are not all that stands before the mark in the field
abbrev Marked : (mark low high : ℕ) (ds rest : List ℕ) → Option (List ℕ) → Type 0
Marked mark low high ds rest None = (number_in low high (ds ++ before_byte mark (field_of rest)) ≡ None) ⊎ (behind_byte mark (field_of rest) ≡ None)
Marked mark low high ds rest (Some more) =
    (before_byte mark (field_of rest) ≡ []) × (behind_byte mark (field_of rest) ≡ Some (field_of more)) × (behind_field rest ≡ behind_field more)

marked_else : (mark low high : ℕ) (ds : List ℕ) (b : ℕ) (bs : List ℕ) → is_ascii_digit b ≡ false → nat_eq b mark ≡ false → Marked mark low high ds (b ∷ bs) None
marked_else mark low high ds b bs h m =
    elim (nat_eq b 32) as (λ t. (nat_eq b 32 ≡ t) → Marked mark low high ds (b ∷ bs) None) [
      | true ↦ λ e. inr (ap (behind_byte mark) (field_end b bs e))
      | false ↦ λ e.
          let field : field_of (b ∷ bs) ≡ b ∷ field_of bs = before_one 32 b bs e in
          inl (ap (λ xs. number_in low high (ds ++ before_byte mark xs)) field ∙ ap (λ xs. number_in low high (ds ++ xs)) (before_one mark b (field_of bs) m)
          ∙ no_number low high ds b (before_byte mark (field_of bs)) h)
    ] refl

at_mark : (mark low high : ℕ) (ds : List ℕ) (b : ℕ) (bs : List ℕ) → nat_eq b 32 ≡ false → nat_eq b mark ≡ true → Marked mark low high ds (b ∷ bs) (Some bs)
at_mark mark low high ds b bs h m =
    let field : field_of (b ∷ bs) ≡ b ∷ field_of bs = before_one 32 b bs h in
    (ap (before_byte mark) field ∙ rw m refl, ap (behind_byte mark) field ∙ rw m refl, behind_one 32 b bs h)

marked : (mark low high : ℕ) (ds rest : List ℕ) → nat_eq mark 32 ≡ false → NoDigitFirst rest → Marked mark low high ds rest (behind_mark mark rest)
marked mark low high ds [] n h = inr refl
marked mark low high ds (b ∷ bs) n h =
    elim (nat_eq b mark) as (λ t. (nat_eq b mark ≡ t) → Marked mark low high ds (b ∷ bs) (if t then Some bs else None)) [
      | true ↦ λ e. let same : b ≡ mark = grind (arith, nat_tests) in at_mark mark low high ds b bs (ap (λ k. nat_eq k 32) same ∙ n) e
      | false ↦ λ e. marked_else mark low high ds b bs h e
    ] refl

-- A NUMBER, A MARK AND A PART BEHIND IT

-- both parts in one, if both are there
abbrev both : {A B : Type 0} → (ℕ → A → B) → Option ℕ → Option A → Option B
both make None part = None
both make (Some n) None = None
both make (Some n) (Some x) = Some (make n x)

-- a number with the part behind it
abbrev with_part : {A B : Type 0} → (ℕ → A → B) → ℕ → Option (A × List ℕ) → Option (B × List ℕ)
with_part make n None = None
with_part make n (Some (x, left)) = Some (make n x, left)

-- a number, and what is read behind the mark
abbrev by_parts : {A B : Type 0} → (ℕ → A → B) → (List ℕ → Option (A × List ℕ)) → Option ℕ → Option (List ℕ) → Option (B × List ℕ)
by_parts make front None more = None
by_parts make front (Some n) None = None
by_parts make front (Some n) (Some more) = with_part make n (front more)

not_both : {A B : Type 0} (make : ℕ → A → B) (n : Option ℕ) (part : Option A) → ((n ≡ None) ⊎ (part ≡ None)) → both make n part ≡ None
not_both make None part h = refl
not_both make (Some n) None h = refl
not_both make (Some n) (Some x) (inl e) = absurd cc
not_both make (Some n) (Some x) (inr e) = absurd cc

no_part : {A B : Type 0} (make : ℕ → A → B) (front : List ℕ → Option (A × List ℕ)) (n : Option ℕ) → by_parts make front n None ≡ None
no_part make front None = refl
no_part make front (Some n) = refl

part_ends : {A B : Type 0} (make : ℕ → A → B) (front : List ℕ → Option (A × List ℕ)) (n : ℕ) (part : Option (A × List ℕ))
    → both make (Some n) (if_ended part) ≡ if_ended (with_part make n part)
part_ends make front n None = refl
part_ends {A} {B} make front n (Some (x, left)) =
    elim (ends left) as (λ t. both make (Some n) (if◌then◌else◌ {A = Option A} t (Some x) None) ≡ (if◌then◌else◌ {A = Option B} t (Some (make n x)) None)) [ true ↦ refl | false ↦ refl ]

parts_end : {A B : Type 0} (make : ℕ → A → B) (front : List ℕ → Option (A × List ℕ)) (n : Option ℕ) (more : List ℕ)
    → both make n (if_ended (front more)) ≡ if_ended (by_parts make front n (Some more))
parts_end make front None more = refl
parts_end make front (Some n) more = part_ends make front n (front more)

-- the field of a number and a part, where the number's digits are ds and this is behind them
parts_read : {A B : Type 0} (make : ℕ → A → B) (spells : List ℕ → Option A) (front : List ℕ → Option (A × List ℕ)) (mark high : ℕ) (ds rest : List ℕ) (more : Option (List ℕ))
    → IsFront spells front → Marked mark 1 high ds rest more
    → both make (number_in 1 high (ds ++ before_byte mark (field_of rest))) (option_and_then spells (behind_byte mark (field_of rest)))
    ≡ if_ended (by_parts make front (number_in 1 high ds) more)
parts_read make spells front mark high ds rest None f (inl e) = not_both make _ _ (inl e) ∙ ap if_ended (sym (no_part make front (number_in 1 high ds)))
parts_read make spells front mark high ds rest None f (inr e) =
    not_both make _ _ (inr (ap (option_and_then spells) e)) ∙ ap if_ended (sym (no_part make front (number_in 1 high ds)))
parts_read make spells front mark high ds rest (Some more) f m =
    ap (λ xs. both make (number_in 1 high (ds ++ xs)) (option_and_then spells (behind_byte mark (field_of rest)))) m.0
    ∙ ap (λ xs. both make (number_in 1 high xs) (option_and_then spells (behind_byte mark (field_of rest)))) (append-nil ds)
    ∙ ap (λ o. both make (number_in 1 high ds) (option_and_then spells o)) m.1
    ∙ ap (both make (number_in 1 high ds)) (f.read more)
    ∙ parts_end make front (number_in 1 high ds) more

part_left : {A B : Type 0} (make : ℕ → A → B) (n : ℕ) (part : Option (A × List ℕ)) (y : B) (left : List ℕ) → with_part make n part ≡ Some (y, left)
    → (x : A) × (part ≡ Some (x, left))
part_left make n None y left e = absurd cc
part_left make n (Some (x, rest)) y left e = (x, ap (λ t. Some (x, t)) (ap left_of e))

parts_left : {A B : Type 0} (make : ℕ → A → B) (spells : List ℕ → Option A) (front : List ℕ → Option (A × List ℕ)) (mark high : ℕ) (ds rest : List ℕ) (n : Option ℕ) (more : Option (List ℕ))
    (y : B) (left : List ℕ) → IsFront spells front → Marked mark 1 high ds rest more → by_parts make front n more ≡ Some (y, left) → behind_field rest ≡ behind_field left
parts_left make spells front mark high ds rest None more y left f m e = absurd cc
parts_left make spells front mark high ds rest (Some n) None y left f m e = absurd cc
parts_left make spells front mark high ds rest (Some n) (Some more) y left f m e =
    let part = part_left make n (front more) y left e in
    m.2 ∙ f.rest more part.0 left part.1

parts_are_front : {A B : Type 0} (make : ℕ → A → B) (spells : List ℕ → Option A) (front : List ℕ → Option (A × List ℕ)) (mark high : ℕ)
    → IsFront spells front → is_ascii_digit mark ≡ false → nat_eq mark 32 ≡ false
    → IsFront (λ field. both make (number_in 1 high (before_byte mark field)) (option_and_then spells (behind_byte mark field)))
    (λ text. by_parts make front (number_in 1 high (digits_of text)) (behind_mark mark (behind_digits text)))
parts_are_front make spells front mark high f d n =
    let at : (text : List ℕ) → Marked mark 1 high (digits_of text) (behind_digits text) (behind_mark mark (behind_digits text)) =
    λ text. marked mark 1 high (digits_of text) (behind_digits text) n (no_digit_first text) in
    record {
      read = λ text.
          let ds = digits_of text in
          let field = field_of (behind_digits text) in
          ap (λ xs. both make (number_in 1 high (before_byte mark xs)) (option_and_then spells (behind_byte mark xs))) (field_split text)
          ∙ ap (λ xs. both make (number_in 1 high xs) (option_and_then spells (behind_byte mark (ds ++ field)))) (before_on mark ds field (digits_without mark text d))
          ∙ ap (λ o. both make (number_in 1 high (ds ++ before_byte mark field)) (option_and_then spells o)) (behind_on mark ds field (digits_without mark text d))
          ∙ parts_read make spells front mark high ds (behind_digits text) (behind_mark mark (behind_digits text)) f (at text);
      rest = λ text y left e.
          field_behind text ∙ parts_left make spells front mark high (digits_of text) (behind_digits text) (number_in 1 high (digits_of text)) _ y left f (at text) e;
    }

alike : {A : Type 0} (spells spells' : List ℕ → Option A) (front front' : List ℕ → Option (A × List ℕ))
    → ((field : List ℕ) → spells' field ≡ spells field) → ((text : List ℕ) → front' text ≡ front text) → IsFront spells front → IsFront spells' front'
alike spells spells' front front' s f is = record {
  read = λ text. s (field_of text) ∙ is.read text ∙ ap if_ended (sym (f text));
  rest = λ text x left e. is.rest text x left (sym (f text) ∙ e);
}

made_part : {A B : Type 0} (make : ℕ → A → B) (n : ℕ) (part : Option (A × List ℕ)) → (do
  x ← part
  Some (make n x.0, x.1)) ≡ with_part make n part
made_part make n None = refl
made_part make n (Some (x, left)) = refl

made_behind : {A B : Type 0} (make : ℕ → A → B) (front : List ℕ → Option (A × List ℕ)) (n : ℕ) (more : Option (List ℕ)) → (do
  rest ← more
  x ← front rest
  Some (make n x.0, x.1)) ≡ by_parts make front (Some n) more
made_behind make front n None = refl
made_behind make front n (Some more) = made_part make n (front more)

made_parts : {A B : Type 0} (make : ℕ → A → B) (mark : ℕ) (front : List ℕ → Option (A × List ℕ)) (n : Option ℕ) (text : List ℕ) → (do
  number ← with_behind n text
  rest ← behind_mark mark number.1
  x ← front rest
  Some (make number.0 x.0, x.1)) ≡ by_parts make front n (behind_mark mark text)
made_parts make mark front None text = refl
made_parts make mark front (Some n) text = made_behind make front n (behind_mark mark text)

-- ADDRESSES AND VIEW IDS

abbrev made_address : ℕ → ℕ → Address
made_address node incarnation = record { node = node; incarnation = incarnation }

address_both : (n i : Option ℕ) → address_from n i ≡ both made_address n i
address_both None i = refl
address_both (Some n) None = refl
address_both (Some n) (Some i) = refl

address_by_parts : (text : List ℕ)
    → address_in_front text ≡ by_parts made_address (number_in_front GREATEST_INCARNATION) (number_in 1 GREATEST_NODE (digits_of text)) (behind_mark 46 (behind_digits text))
unfolding address_in_front number_in_front
address_by_parts text = made_parts made_address 46 (number_in_front GREATEST_INCARNATION) (number_in 1 GREATEST_NODE (digits_of text)) (behind_digits text)

pub address_is_front : IsFront address_of_text address_in_front
address_is_front =
    alike _ address_of_text _ address_in_front
    (λ field. address_both (number_in 1 GREATEST_NODE (before_byte 46 field)) (option_and_then (number_in 1 GREATEST_INCARNATION) (behind_byte 46 field)))
    address_by_parts
    (parts_are_front made_address (number_in 1 GREATEST_INCARNATION) (number_in_front GREATEST_INCARNATION) 46 GREATEST_NODE (number_is_front GREATEST_INCARNATION) refl refl)

abbrev made_view_id : ℕ → Address → ViewId
made_view_id counter creator = record { counter = counter; creator = creator }

creator_said : (n : ℕ) (creator : Option Address) → (do
  c ← creator
  Some (made_view_id n c)) ≡ both made_view_id (Some n) creator
creator_said n None = refl
creator_said n (Some c) = refl

creator_behind : (n : ℕ) (more : Option (List ℕ)) → (do
  rest ← more
  creator ← address_of_text rest
  Some (made_view_id n creator)) ≡ both made_view_id (Some n) (option_and_then address_of_text more)
creator_behind n None = refl
creator_behind n (Some more) = creator_said n (address_of_text more)

view_id_said : (n : Option ℕ) (more : Option (List ℕ)) → (do
  counter ← n
  rest ← more
  creator ← address_of_text rest
  Some (made_view_id counter creator)) ≡ both made_view_id n (option_and_then address_of_text more)
view_id_said None more = refl
view_id_said (Some n) more = creator_behind n more

view_id_both : (field : List ℕ) → view_id_of_text field ≡ both made_view_id (number_in 1 GREATEST_NUMBER (before_byte 64 field)) (option_and_then address_of_text (behind_byte 64 field))
unfolding view_id_of_text
view_id_both field = view_id_said (number_in 1 GREATEST_NUMBER (before_byte 64 field)) (behind_byte 64 field)

view_id_by_parts : (text : List ℕ)
    → view_id_in_front text ≡ by_parts made_view_id address_in_front (number_in 1 GREATEST_NUMBER (digits_of text)) (behind_mark 64 (behind_digits text))
unfolding view_id_in_front number_in_front
view_id_by_parts text = made_parts made_view_id 64 address_in_front (number_in 1 GREATEST_NUMBER (digits_of text)) (behind_digits text)

pub view_id_is_front : IsFront view_id_of_text view_id_in_front
view_id_is_front =
    alike _ view_id_of_text _ view_id_in_front view_id_both view_id_by_parts
    (parts_are_front made_view_id address_of_text address_in_front 64 GREATEST_NUMBER address_is_front refl refl)

-- FIELDS

left_at_end : (rest : List ℕ) (left : Option (List ℕ)) → left_behind rest ≡ Some left → (ends rest ≡ true) × (behind_field rest ≡ left)
left_at_end [] left e = (refl, ap (λ o. unwrap_or o None) e)
left_at_end (b ∷ bs) left e =
    elim (nat_eq b 32) as (λ t. (nat_eq b 32 ≡ t) → (if t then Some (Some bs) else None) ≡ Some left → (nat_eq b 32 ≡ true) × (behind_field (b ∷ bs) ≡ left)) [
      | true ↦ λ h some. (h, rw h (ap (λ o. unwrap_or o None) some))
      | false ↦ λ h none. absurd cc
    ] refl e

not_at_end : (rest : List ℕ) → left_behind rest ≡ None → ends rest ≡ false
not_at_end [] e = absurd cc
not_at_end (b ∷ bs) e =
    elim (nat_eq b 32) as (λ t. (nat_eq b 32 ≡ t) → (if t then Some (Some bs) else None) ≡ None → nat_eq b 32 ≡ false)
    [ true ↦ λ h some. absurd cc | false ↦ λ h none. h ] refl e

-- what the field spells, by whether it ends behind what was read
spelled_as : {A : Type 0} (spells : List ℕ → Option A) (front : List ℕ → Option (A × List ℕ)) (text : List ℕ) (read : Option (A × List ℕ))
    → IsFront spells front → front text ≡ read → spelled_at spells (Some text) ≡ and_rest (if_ended read) (behind_field text)
unfolding spelled_at field_at
spelled_as spells front text read f e = ap (λ o. and_rest o (behind_field text)) (f.read text ∙ ap if_ended e)

-- the field ends behind what was read
pub field_read : {A : Type 0} (spells : List ℕ → Option A) (front : List ℕ → Option (A × List ℕ)) (line : Option (List ℕ)) (text rest : List ℕ) (x : A) (left : Option (List ℕ))
    → IsFront spells front → line ≡ Some text → front text ≡ Some (x, rest) → Some left ≡ left_behind rest → spelled_at spells line ≡ Ok (x, left)
field_read {A} spells front line text rest x left f s e l =
    let at = left_at_end rest left (sym l) in
    ap (spelled_at spells) s
    ∙ spelled_as spells front text (Some (x, rest)) f e
    ∙ ap (λ t. and_rest (if◌then◌else◌ {A = Option A} t (Some x) None) (behind_field text)) at.0
    ∙ ap (λ r. Ok (x, r)) (f.rest text x rest e ∙ at.1)

-- the field goes on
pub field_goes_on : {A : Type 0} (spells : List ℕ → Option A) (front : List ℕ → Option (A × List ℕ)) (line : Option (List ℕ)) (text rest : List ℕ) (x : A)
    → IsFront spells front → line ≡ Some text → front text ≡ Some (x, rest) → None ≡ left_behind rest → spelled_at spells line ≡ Err BadNumber
field_goes_on {A} spells front line text rest x f s e l =
    ap (spelled_at spells) s
    ∙ spelled_as spells front text (Some (x, rest)) f e
    ∙ ap (λ t. and_rest (if◌then◌else◌ {A = Option A} t (Some x) None) (behind_field text)) (not_at_end rest (sym l))

-- nothing was read
pub field_fails : {A : Type 0} (spells : List ℕ → Option A) (front : List ℕ → Option (A × List ℕ)) (line : Option (List ℕ)) (text : List ℕ)
    → IsFront spells front → line ≡ Some text → front text ≡ None → spelled_at spells line ≡ Err BadNumber
field_fails spells front line text f s e = ap (spelled_at spells) s ∙ spelled_as spells front text None f e

-- ADDRESSES AND VIEW IDS AS FIELDS

pub address_read : (line : Option (List ℕ)) (text rest : List ℕ) (x : Address) (left : Option (List ℕ))
    → line ≡ Some text → address_in_front text ≡ Some (x, rest) → Some left ≡ left_behind rest → spelled_at address_of_text line ≡ Ok (x, left)
address_read line text rest x left s e l = field_read address_of_text address_in_front line text rest x left address_is_front s e l

pub address_goes_on : (line : Option (List ℕ)) (text rest : List ℕ) (x : Address)
    → line ≡ Some text → address_in_front text ≡ Some (x, rest) → None ≡ left_behind rest → spelled_at address_of_text line ≡ Err BadNumber
address_goes_on line text rest x s e l = field_goes_on address_of_text address_in_front line text rest x address_is_front s e l

pub view_id_read : (line : Option (List ℕ)) (text rest : List ℕ) (x : ViewId) (left : Option (List ℕ))
    → line ≡ Some text → view_id_in_front text ≡ Some (x, rest) → Some left ≡ left_behind rest → spelled_at view_id_of_text line ≡ Ok (x, left)
view_id_read line text rest x left s e l = field_read view_id_of_text view_id_in_front line text rest x left view_id_is_front s e l

pub view_id_goes_on : (line : Option (List ℕ)) (text rest : List ℕ) (x : ViewId)
    → line ≡ Some text → view_id_in_front text ≡ Some (x, rest) → None ≡ left_behind rest → spelled_at view_id_of_text line ≡ Err BadNumber
view_id_goes_on line text rest x s e l = field_goes_on view_id_of_text view_id_in_front line text rest x view_id_is_front s e l
