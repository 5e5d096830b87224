-- Lines that spell what happened are read back as that.
use Rattle.std.proofs.Common.{◌≡◌, ℕ, ◌+◌, ◌≤◌, true, false, List, [], ◌∷◌, ◌++◌, Some, None, Result, Ok, nat_eq, nat_le, slice_get, refl, sym, ◌∙◌, ap, arith, append_assoc, append-nil, codes}
use Rattle.std.proofs.lemmas.Bool.{and_parts, or_parts, leb-true}
use Rattle.std.specs.List.{list_all, list_any, concat}
use Rattle.std.specs.Fmt.{decimal}
use Rattle.address.specs.Ids.{Address, ViewId, text_of_address, text_of_view_id}
use Rattle.trace_props.specs.declared.event.Event.{Event}
use Rattle.trace_props.specs.declared.event.Event.TheVariants.{Started, Sent, Delivered, Blocked, Installed, Left, Crashed}
use Rattle.vsync_text.specs.Lines.{lines_of}
use Rattle.vsync_text.specs.Texts.{FaultAt, is_skipped, reading_by, after_line}
use Rattle.vsync_text.proofs.TextsRead.{going_on, then_on}
use Rattle.vsync_text.specs.TraceText.{text_of_payload, text_of_previous, text_of_addresses, text_of_handed_back, text_of_given, event_word, fields_of, field, install_view, install_rest}
use Rattle.vsync_text.specs.Traces.{trace_of, said_in_line, with_said}
use Rattle.vsync_text.specs.Spellable.{IsInFormat, IsNote, stable_text, IsStableText, Spell}
use Rattle.vsync_text.specs.Spellable.Spell.{Nothing, Note, Stable, Line}
use Rattle.vsync_text.proofs.TextsCut.{Without, From, all_append, without_below, from_lower, line_cut}
use Rattle.vsync_text.proofs.FieldsBack.{number_spells, address_spells, view_id_spells, previous_spells, payload_spells, given_spells, view_spells, together_spells, handed_back_spells}
use Rattle.vsync_text.proofs.LinesBack.{body_of, body_back, stable_says_nothing}
use Rattle.vsync_text.proofs.TracesRead.{trace_is_going_on}

-- A LINE HAS NO LINE FEED INSIDE

both : (xs ys : List ℕ) → From 32 xs → From 32 ys → From 32 (xs ++ ys)
both xs ys a b = all_append (λ b. 32 ≤ b) xs ys a b

field_from : (text : List ℕ) → From 44 text → From 32 (field text)
field_from text f = (omega arith, from_lower 32 44 text (omega arith) f)

three_from : (a b c : List ℕ) → From 44 a → From 44 b → From 44 c → From 32 (field a ++ field b ++ field c)
three_from a b c fa fb fc = both (field a ++ field b) (field c) (both (field a) (field b) (field_from a fa) (field_from b fb)) (field_from c fc)

four_from : (a b c d : List ℕ) → From 44 a → From 44 b → From 44 c → From 44 d → From 32 (field a ++ field b ++ field c ++ field d)
four_from a b c d fa fb fc fd = both (field a ++ field b ++ field c) (field d) (three_from a b c fa fb fc) (field_from d fd)

fields_from : (h : Event) → IsInFormat h → From 32 (fields_of h)
fields_from (Started p) h = field_from (text_of_address p) (address_spells p h).from
fields_from (Sent s) h =
    four_from (text_of_address s.member) (text_of_view_id s.view) (decimal s.message.number) (text_of_payload s.message.payload)
    (address_spells s.member h.member).from (view_id_spells s.view h.view).from (number_spells s.message.number h.number).from (payload_spells s.message.payload h.payload).from
fields_from (Delivered d) h =
    both (field (text_of_address d.member) ++ field (text_of_view_id d.view) ++ field (text_of_address d.message.sender) ++ field (decimal d.message.number)) (field (text_of_payload d.message.payload))
    (four_from (text_of_address d.member) (text_of_view_id d.view) (text_of_address d.message.sender) (decimal d.message.number)
    (address_spells d.member h.member).from (view_id_spells d.view h.view).from (address_spells d.message.sender h.sender).from (number_spells d.message.number h.number).from)
    (field_from (text_of_payload d.message.payload) (payload_spells d.message.payload h.payload).from)
fields_from (Blocked p) h = field_from (text_of_address p) (address_spells p h).from
fields_from (Installed i) h =
    both (install_view i) (install_rest i)
    (four_from (text_of_address i.member) (text_of_previous i.previous) (text_of_view_id i.view.id) (text_of_addresses i.view.members)
    (address_spells i.member h.member).from (previous_spells i.previous h.previous).from (view_id_spells i.view.id h.id).from (view_spells i.view h.members h.view).from)
    (three_from (text_of_addresses i.together) (text_of_handed_back i.handed_back) (text_of_given i.given)
    (together_spells i.together h.somebody h.together h.once).from (handed_back_spells i.handed_back h.handed_back).from (given_spells i.given h.given).from)
fields_from (Left p) h = field_from (text_of_address p) (address_spells p h).from
fields_from (Crashed p) h = field_from (text_of_address p) (address_spells p h).from

pub from_test : (low : ℕ) (text : List ℕ) → list_all (λ b. nat_le low b) text ≡ true → From low text
from_test low [] h = tt
from_test low (b ∷ bs) h =
    let p : (nat_le low b ≡ true) × (list_all (λ c. nat_le low c) bs ≡ true) = and_parts _ _ h in
    (leb-true low b p.0, from_test low bs p.1)

word_from : (h : Event) → From 32 (event_word h)
word_from (Started p) = from_test 32 (codes "started") refl
word_from (Sent s) = from_test 32 (codes "sent") refl
word_from (Delivered d) = from_test 32 (codes "delivered") refl
word_from (Blocked p) = from_test 32 (codes "blocked") refl
word_from (Installed i) = from_test 32 (codes "installed") refl
word_from (Left p) = from_test 32 (codes "left") refl
word_from (Crashed p) = from_test 32 (codes "crashed") refl

body_is_one_line : (h : Event) → IsInFormat h → Without 10 (body_of h)
body_is_one_line h r = without_below 32 10 (body_of h) (omega arith) (both (event_word h) (fields_of h) (word_from h) (fields_from h r))

stable_is_one_line : (p : Address) (v : ViewId) (n : ℕ) → IsStableText p v n → Without 10 (stable_text p v n)
stable_is_one_line p v n h =
    without_below 32 10 (stable_text p v n) (omega arith)
    (both (codes "stable") (field (text_of_address p) ++ field (text_of_view_id v) ++ field (decimal n)) (from_test 32 (codes "stable") refl)
    (three_from (text_of_address p) (text_of_view_id v) (decimal n) (address_spells p h.member).from (view_id_spells v h.view).from (number_spells n h.number).from))

-- NOTES

without_test : (byte : ℕ) (text : List ℕ) → list_any (λ b. nat_eq b byte) text ≡ false → Without byte text
without_test byte [] h = tt
without_test byte (b ∷ bs) h =
    let p : (nat_eq b byte ≡ false) × (list_any (λ c. nat_eq c byte) bs ≡ false) = or_parts _ _ h in
    (p.0, without_test byte bs p.1)

note_is_skipped : (note : List ℕ) → slice_get note 0 ≡ Some 35 → is_skipped note ≡ true
note_is_skipped [] h = absurd cc
note_is_skipped (b ∷ bs) h = let e : b ≡ 35 = cc in ap (λ c. nat_eq c 35) e

note_says_nothing : (note : List ℕ) → IsNote note → reading_by said_in_line note ≡ Ok None
note_says_nothing note h = rw (note_is_skipped note h.begins) refl

-- TEXTS

-- lines from a number on are read on to events
abbrev reads_on : List Event → ℕ → List (List ℕ) → Result (List Event) FaultAt
reads_on u k lines = going_on said_in_line with_said u k lines

-- the first line of what is left is read on
one_line : (u : List Event) (k : ℕ) (body : List ℕ) (lines : List (List ℕ)) → Without 10 body
    → reads_on u k (lines_of (concat ((body ++ 10 ∷ []) ∷ lines))) ≡ then_on (λ v. reads_on v (k + 1) (lines_of (concat lines))) (after_line with_said u k (reading_by said_in_line body))
one_line u k body lines w =
    ap (λ text. reads_on u k (lines_of text)) (append_assoc body (10 ∷ []) (concat lines)) ∙ ap (reads_on u k) (line_cut body (concat lines) w)

delivered_on : (lines : List (List ℕ)) (t : List Event) → Spell lines t → (u : List Event) (k : ℕ) → reads_on u k (lines_of (concat lines)) ≡ Ok (u ++ t)
delivered_on _ _ Nothing u k = ap Ok (sym (append-nil u))
delivered_on _ _ (Note note lines t n rest) u k =
    one_line u k note lines (without_test 10 note n.one_line)
    ∙ ap (λ said. then_on (λ v. reads_on v (k + 1) (lines_of (concat lines))) (after_line with_said u k said)) (note_says_nothing note n)
    ∙ delivered_on lines t rest u (k + 1)
delivered_on _ _ (Stable p v n lines t s rest) u k =
    one_line u k (stable_text p v n) lines (stable_is_one_line p v n s)
    ∙ ap (λ said. then_on (λ v. reads_on v (k + 1) (lines_of (concat lines))) (after_line with_said u k said)) (stable_says_nothing p v n s)
    ∙ delivered_on lines t rest u (k + 1)
delivered_on _ _ (Line h lines t s rest) u k =
    one_line u k (body_of h) lines (body_is_one_line h s.fields)
    ∙ ap (λ said. then_on (λ v. reads_on v (k + 1) (lines_of (concat lines))) (after_line with_said u k said)) (body_back h s)
    ∙ delivered_on lines t rest (u ++ h ∷ []) (k + 1)
    ∙ ap Ok (append_assoc u (h ∷ []) t)

-- lines that spell what happened are read back as that
pub trace_back : (lines : List (List ℕ)) (t : List Event) → Spell lines t → trace_of (concat lines) ≡ Ok t
trace_back lines t spell = trace_is_going_on (concat lines) ∙ delivered_on lines t spell [] 1
