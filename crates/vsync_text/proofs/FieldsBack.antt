-- What a field spells is read back from it.
use Rattle.std.proofs.Common.{◌≡◌, ℕ, ◌+◌, ◌/◌, ◌%◌, ◌<◌, ◌≤◌, true, false, ◌&&◌, List, [], ◌∷◌, ◌++◌, Option, Some, None, length, nat_eq, nat_lt, nat_le, refl, ◌∙◌, ap, arith, append_assoc, append-nil, map, if◌then◌else◌}
use Rattle.std.proofs.lemmas.Bool.{ne_eqb, le-leb}
use Rattle.std.proofs.lemmas.List.Elements.{recursion_from_All}
use Rattle.std.specs.Prelude.{All, flat_map}
use Rattle.std.specs.List.{AllByRecursion, join_by}
use Rattle.std.specs.Option.{ForSome}
use Rattle.std.specs.Str.{bytes_eq}
use Rattle.std.specs.Fmt.{decimal}
use Rattle.address.specs.Ids.{Address, ViewId, IsAddress, text_of_address, text_of_view_id}
use Rattle.address.specs.declared.limits.TheConstants.{GREATEST_NUMBER, PAYLOAD, GREATEST_INCARNATION, GREATEST_NODE}
use Rattle.view.specs.Members.{View, is_distinct}
use Rattle.view.specs.View.{view_refusal}
use Rattle.trace_props.specs.declared.event.Numbered.{Numbered}
use Rattle.vsync_text.specs.AddressText.{address_of_text}
use Rattle.vsync_text.specs.TraceText.{dash, hex_digit, hex_of, text_of_payload, text_of_previous, text_of_addresses, text_of_numbered, text_of_handed_back, text_of_given}
use Rattle.vsync_text.specs.Forms.{parts_of, each_of, in_front}
use Rattle.vsync_text.specs.Spelling.{number_of_text, view_id_of_text, previous_of_text, short_of_hex, payload_of_text, addresses_of_text, view_of_text, together_of_text, message_of_text, messages_of_text, handed_back_of_text, state_of_text, given_of_text}
use Rattle.vsync_text.specs.Spellable.{IsNumber, IsViewId, AreBytes, IsPayload, IsMessage}
use Rattle.vsync_text.proofs.TextsCut.{Without, From, all_append, all_weaker, without_below, from_lower, before_cut, behind_cut, part_cut, part_last}
use Rattle.vsync_text.proofs.Numerals.{IsDigit, IsLed, decimal_are_digits, decimal_spells, number_back, hex_back}

-- a text of no byte below `,` that spells this
pub record Spells {A : Type 0} (spells : List ℕ → Option A) (text : List ℕ) (x : A) : Type 0 where
  pub from : From 44 text
  pub back : spells text ≡ Some x

-- DIGITS

digits_from : (n : ℕ) → From 48 (decimal n)
digits_from n = all_weaker IsDigit (λ b. 48 ≤ b) (decimal n) (λ b d. d.0) (decimal_are_digits n)

pub digits_from_least : (low n : ℕ) → low ≤ 48 → From low (decimal n)
digits_from_least low n le = from_lower low 48 (decimal n) le (digits_from n)

digits_without : (n byte : ℕ) → 57 < byte → Without byte (decimal n)
digits_without n byte great = all_weaker IsDigit (λ b. nat_eq b byte ≡ false) (decimal n) (λ b d. ne_eqb b byte (λ e. absurd (omega (arith, d.1)))) (decimal_are_digits n)

hex_digit_from : (n : ℕ) → 48 ≤ hex_digit n
hex_digit_from n = elim (nat_lt n 10) as (λ t. 48 ≤ (if t then 48 + n else 87 + n)) [ true ↦ omega arith | false ↦ omega arith ]

pub hex_from : (bytes : List ℕ) → From 48 (hex_of bytes)
hex_from [] = tt
hex_from (b ∷ bs) = (hex_digit_from (b / 16), (hex_digit_from (b % 16), hex_from bs))

-- a text that begins with no byte below `.`
abbrev pub IsFull : List ℕ → Type 0
IsFull [] = ⊥
IsFull (b ∷ bs) = 46 ≤ b

full_append : (xs ys : List ℕ) → IsFull xs → IsFull (xs ++ ys)
full_append [] ys h = absurd h
full_append (x ∷ xs) ys h = h

led_is_full : (ds : List ℕ) → IsLed ds → From 48 ds → IsFull ds
led_is_full [] l f = absurd l
led_is_full (d ∷ ds) l f = omega (arith, f.0)

number_is_full : (n : ℕ) → IsNumber n → IsFull (decimal n)
number_is_full n h = led_is_full (decimal n) ((decimal_spells n (omega arith)).1 h.0) (digits_from n)

full_is_no_dash : (text : List ℕ) → IsFull text → bytes_eq text dash ≡ false
full_is_no_dash [] h = absurd h
full_is_no_dash (b ∷ bs) h =
    let e : nat_eq b 45 ≡ false = ne_eqb b 45 (λ e. absurd (omega arith)) in
    ap (λ t. t && bytes_eq bs []) e

-- IDS

pub number_spells : (n : ℕ) → IsNumber n → Spells number_of_text (decimal n) n
number_spells n h = record { from = digits_from_least 44 n (omega arith); back = number_back 1 GREATEST_NUMBER n (omega arith) h.0 h.1 (omega arith) }

address_parts : (a : Address) → text_of_address a ≡ decimal a.node ++ 46 ∷ decimal a.incarnation
address_parts a = append_assoc (decimal a.node) (46 ∷ []) (decimal a.incarnation)

pub address_from : (a : Address) → From 46 (text_of_address a)
address_from a =
    rw (address_parts a) (all_append (λ b. 46 ≤ b) (decimal a.node) (46 ∷ decimal a.incarnation) (digits_from_least 46 a.node (omega arith)) (omega arith, digits_from_least 46 a.incarnation (omega arith)))

address_back : (a : Address) → IsAddress a → address_of_text (text_of_address a) ≡ Some a
address_back a h =
    let w : Without 46 (decimal a.node) = without_below 48 46 (decimal a.node) (omega arith) (digits_from a.node) in
    rw (
      address_parts a,
      before_cut 46 (decimal a.node) (46 ∷ decimal a.incarnation) w refl,
      behind_cut 46 (decimal a.node) (46 ∷ decimal a.incarnation) w refl,
      number_back 1 GREATEST_NODE a.node (omega arith) h.node (omega (arith, h.node_fits)) (omega (arith, h.node_fits)),
      number_back 1 GREATEST_INCARNATION a.incarnation (omega arith) h.incarnation (omega (arith, h.incarnation_fits)) (omega (arith, h.incarnation_fits)),
    ) refl

pub address_spells : (a : Address) → IsAddress a → Spells address_of_text (text_of_address a) a
address_spells a h = record { from = from_lower 44 46 (text_of_address a) (omega arith) (address_from a); back = address_back a h }

view_id_parts : (v : ViewId) → text_of_view_id v ≡ decimal v.counter ++ 64 ∷ text_of_address v.creator
view_id_parts v = append_assoc (decimal v.counter) (64 ∷ []) (text_of_address v.creator)

view_id_back : (v : ViewId) → IsViewId v → view_id_of_text (text_of_view_id v) ≡ Some v
unfolding view_id_of_text
view_id_back v h =
    let w : Without 64 (decimal v.counter) = digits_without v.counter 64 (omega arith) in
    rw (
      view_id_parts v,
      before_cut 64 (decimal v.counter) (64 ∷ text_of_address v.creator) w refl,
      behind_cut 64 (decimal v.counter) (64 ∷ text_of_address v.creator) w refl,
      (number_spells v.counter h.counter).back,
      address_back v.creator h.creator,
    ) refl

view_id_from : (v : ViewId) → From 44 (text_of_view_id v)
view_id_from v =
    rw (view_id_parts v) (all_append (λ b. 44 ≤ b) (decimal v.counter) (64 ∷ text_of_address v.creator) (digits_from_least 44 v.counter (omega arith)) (omega arith, from_lower 44 46 _ (omega arith) (address_from v.creator)))

pub view_id_spells : (v : ViewId) → IsViewId v → Spells view_id_of_text (text_of_view_id v) v
view_id_spells v h = record { from = view_id_from v; back = view_id_back v h }

view_id_is_full : (v : ViewId) → IsViewId v → IsFull (text_of_view_id v)
view_id_is_full v h = rw (view_id_parts v) (full_append (decimal v.counter) _ (number_is_full v.counter h.counter))

pub previous_spells : (v : Option ViewId) → ForSome v IsViewId → Spells previous_of_text (text_of_previous v) v
unfolding previous_of_text
previous_spells None h = record { from = (omega arith, tt); back = refl }
previous_spells (Some v) h = record {
  from = view_id_from v;
  back = rw (full_is_no_dash _ (view_id_is_full v (h v refl)), view_id_back v (h v refl)) refl;
}

-- PAYLOADS

short_back : (x : List ℕ) → IsPayload x → short_of_hex (hex_of x) ≡ Some x
unfolding short_of_hex
short_back x h =
    let short : nat_le (length x) PAYLOAD ≡ true = le-leb (length x) PAYLOAD h.short in
    rw (hex_back x (recursion_from_All (λ b. b < 256) x h.bytes), short) refl

pub payload_spells : (x : List ℕ) → IsPayload x → Spells payload_of_text (text_of_payload x) x
unfolding payload_of_text
payload_spells [] h = record { from = (omega arith, tt); back = refl }
payload_spells (b ∷ bs) h =
    let e : nat_eq (hex_digit (b / 16)) 45 ≡ false = ne_eqb _ 45 (λ e. absurd (omega (arith, hex_digit_from (b / 16)))) in
    record { from = from_lower 44 48 (hex_of (b ∷ bs)) (omega arith) (hex_from (b ∷ bs)); back = rw e (short_back (b ∷ bs) h) }

pub given_spells : (g : Option (List ℕ)) → ForSome g AreBytes → Spells given_of_text (text_of_given g) g
unfolding given_of_text state_of_text
given_spells None h = record { from = (omega arith, tt); back = refl }
given_spells (Some x) h = record {
  from = (omega arith, from_lower 44 48 (hex_of x) (omega arith) (hex_from x));
  back = rw (hex_back x (recursion_from_All (λ b. b < 256) x (h x refl))) refl;
}

-- LISTS

more_from : {A : Type 0} (f : A → List ℕ) (xs : List A) → AllByRecursion (λ x. From 44 (f x)) xs → From 44 (flat_map (λ y. (44 ∷ []) ++ f y) xs)
more_from f [] h = tt
more_from f (x ∷ xs) h = (omega arith, all_append (λ b. 44 ≤ b) (f x) (flat_map (λ y. (44 ∷ []) ++ f y) xs) h.0 (more_from f xs h.1))

joined_from : {A : Type 0} (f : A → List ℕ) (xs : List A) → AllByRecursion (λ x. From 44 (f x)) xs → From 44 (join_by f (44 ∷ []) xs)
joined_from f [] h = tt
joined_from f (x ∷ xs) h = all_append (λ b. 44 ≤ b) (f x) (flat_map (λ y. (44 ∷ []) ++ f y) xs) h.0 (more_from f xs h.1)

-- the parts of what was joined by commas
joined_parts : {A : Type 0} (f : A → List ℕ) (x : A) (xs : List A) → AllByRecursion (λ y. Without 44 (f y)) (x ∷ xs)
    → parts_of (join_by f (44 ∷ []) (x ∷ xs)) ≡ map f (x ∷ xs)
joined_parts f x [] w = rw (append-nil (f x)) (part_last (f x) w.0)
joined_parts f x (y ∷ ys) w =
    part_cut (f x) (f y ++ flat_map (λ z. (44 ∷ []) ++ f z) ys) w.0 ∙ ap (λ ps. f x ∷ ps) (joined_parts f y ys w.1)

each_back : {A : Type 0} (spells : List ℕ → Option A) (f : A → List ℕ) (xs : List A) → AllByRecursion (λ x. spells (f x) ≡ Some x) xs
    → each_of spells (map f xs) ≡ Some xs
each_back spells f [] h = refl
each_back spells f (x ∷ xs) h =
    ap (λ o. in_front o (each_of spells (map f xs))) h.0 ∙ ap (λ o. in_front (Some x) o) (each_back spells f xs h.1)

-- what spells x, and may stand in a list
pub record SpellsPart {A : Type 0} (spells : List ℕ → Option A) (text : List ℕ) (x : A) : Type 0 where
  pub from : From 46 text
  pub back : spells text ≡ Some x

parts_from : {A : Type 0} (spells : List ℕ → Option A) (f : A → List ℕ) (xs : List A) → AllByRecursion (λ x. SpellsPart spells (f x) x) xs
    → AllByRecursion (λ x. From 44 (f x)) xs
parts_from spells f [] h = tt
parts_from spells f (x ∷ xs) h = (from_lower 44 46 (f x) (omega arith) h.0.from, parts_from spells f xs h.1)

parts_without : {A : Type 0} (spells : List ℕ → Option A) (f : A → List ℕ) (xs : List A) → AllByRecursion (λ x. SpellsPart spells (f x) x) xs
    → AllByRecursion (λ x. Without 44 (f x)) xs
parts_without spells f [] h = tt
parts_without spells f (x ∷ xs) h = (without_below 46 44 (f x) (omega arith) h.0.from, parts_without spells f xs h.1)

parts_back : {A : Type 0} (spells : List ℕ → Option A) (f : A → List ℕ) (xs : List A) → AllByRecursion (λ x. SpellsPart spells (f x) x) xs
    → AllByRecursion (λ x. spells (f x) ≡ Some x) xs
parts_back spells f [] h = tt
parts_back spells f (x ∷ xs) h = (h.0.back, parts_back spells f xs h.1)

-- a list that is joined by commas is read back
pub list_spells : {A : Type 0} (spells : List ℕ → Option A) (f : A → List ℕ) (x : A) (xs : List A) → AllByRecursion (λ y. SpellsPart spells (f y) y) (x ∷ xs)
    → Spells (λ text. each_of spells (parts_of text)) (join_by f (44 ∷ []) (x ∷ xs)) (x ∷ xs)
list_spells spells f x xs h = record {
  from = joined_from f (x ∷ xs) (parts_from spells f (x ∷ xs) h);
  back = ap (each_of spells) (joined_parts f x xs (parts_without spells f (x ∷ xs) h)) ∙ each_back spells f (x ∷ xs) (parts_back spells f (x ∷ xs) h);
}

address_parts_spell : (xs : List Address) → AllByRecursion IsAddress xs → AllByRecursion (λ a. SpellsPart address_of_text (text_of_address a) a) xs
address_parts_spell [] h = tt
address_parts_spell (a ∷ xs) h = (record { from = address_from a; back = address_back a h.0 }, address_parts_spell xs h.1)

pub addresses_spell : (xs : List Address) → 1 ≤ length xs → All IsAddress xs → Spells addresses_of_text (text_of_addresses xs) xs
unfolding addresses_of_text
addresses_spell [] some h = absurd (omega arith)
addresses_spell (x ∷ xs) some h = list_spells address_of_text text_of_address x xs (address_parts_spell (x ∷ xs) (recursion_from_All IsAddress (x ∷ xs) h))

some_member : (id : ViewId) (members : List Address) → view_refusal id members ≡ None → 1 ≤ length members
some_member id [] h = absurd cc
some_member id (m ∷ members) h = omega arith

pub view_spells : (v : View) → All IsAddress v.members → view_refusal v.id v.members ≡ None → Spells (view_of_text v.id) (text_of_addresses v.members) v
unfolding view_of_text
view_spells v h sound =
    let s = addresses_spell v.members (some_member v.id v.members sound) h in
    record { from = s.from; back = rw (s.back, sound) refl }

pub together_spells : (xs : List Address) → 1 ≤ length xs → All IsAddress xs → is_distinct xs ≡ true → Spells together_of_text (text_of_addresses xs) xs
unfolding together_of_text
together_spells xs some h once =
    let s = addresses_spell xs some h in
    record { from = s.from; back = rw (s.back, once) refl }

-- MESSAGES

message_back : (m : Numbered) → IsMessage m → message_of_text (text_of_numbered m) ≡ Some m
unfolding message_of_text
message_back m h =
    let w : Without 58 (decimal m.number) = digits_without m.number 58 (omega arith) in
    rw (
      before_cut 58 (decimal m.number) (58 ∷ hex_of m.payload) w refl,
      behind_cut 58 (decimal m.number) (58 ∷ hex_of m.payload) w refl,
      (number_spells m.number h.number).back,
      short_back m.payload h.payload,
    ) refl

message_from : (m : Numbered) → From 46 (text_of_numbered m)
message_from m =
    all_append (λ b. 46 ≤ b) (decimal m.number) (58 ∷ hex_of m.payload) (digits_from_least 46 m.number (omega arith)) (omega arith, from_lower 46 48 (hex_of m.payload) (omega arith) (hex_from m.payload))

message_parts_spell : (xs : List Numbered) → AllByRecursion IsMessage xs → AllByRecursion (λ m. SpellsPart message_of_text (text_of_numbered m) m) xs
message_parts_spell [] h = tt
message_parts_spell (m ∷ xs) h = (record { from = message_from m; back = message_back m h.0 }, message_parts_spell xs h.1)

messages_are_full : (m : Numbered) (xs : List Numbered) → IsMessage m → IsFull (text_of_handed_back (m ∷ xs))
messages_are_full m xs h = full_append (text_of_numbered m) _ (full_append (decimal m.number) _ (number_is_full m.number h.number))

pub handed_back_spells : (xs : List Numbered) → All IsMessage xs → Spells handed_back_of_text (text_of_handed_back xs) xs
unfolding handed_back_of_text messages_of_text
handed_back_spells [] h = record { from = (omega arith, tt); back = refl }
handed_back_spells (m ∷ xs) h =
    let each : AllByRecursion IsMessage (m ∷ xs) = recursion_from_All IsMessage (m ∷ xs) h in
    let s = list_spells message_of_text text_of_numbered m xs (message_parts_spell (m ∷ xs) each) in
    record { from = s.from; back = rw (full_is_no_dash _ (messages_are_full m xs each.0)) s.back }
