-- Labels have no bracket, and titles have no byte that means anything but itself.
use Rattle.std.proofs.Common.{◌≡◌, ℕ, ◌+◌, ◌/◌, ◌%◌, Bool, true, false, ◌&&◌, ◌||◌, ◌==◌, not, cond, nat_eq, nat_lt, List, [], ◌∷◌, ◌++◌, length, take, codes, suc, zero, Option, Some, None, Result, Ok, Err, refl, ap, ◌∙◌, arith}
use Rattle.std.specs.Prelude.{flat_map}
use Rattle.std.specs.List.{list_all, join_by}
use Rattle.std.specs.Fmt.{digits_onto, digits, decimal}
use Rattle.std.proofs.lemmas.Bool.{and_from, and_parts, ne_eqb, ltb-true}
use Rattle.std.proofs.lemmas.List.Folds.{list_all-append}
use Rattle.address.specs.Ids.{Address, ViewId, text_of_address, text_of_view_id}
use Rattle.trace_props.specs.declared.event.Event.{Event}
use Rattle.trace_props.specs.declared.event.Event.TheVariants.{Started, Sent, Delivered, Blocked, Installed, Left, Crashed}
use Rattle.trace_props.specs.declared.event.Numbered.{Numbered}
use Rattle.trace_props.specs.declared.verdict.Rule.{Rule}
use Rattle.trace_props.specs.declared.verdict.Rule.TheVariants.{WellPlaced, RisingViews, SoundMessages, OneOrder, SameNext, Together, HandedBack, StateOfEntry}
use Rattle.wire_values.specs.declared.error.WireError.{WireError}
use Rattle.wire_values.specs.declared.packet.Body.{Body}
use Rattle.wire_values.specs.declared.packet.Body.TheVariants as bodies
use Rattle.wire_values.specs.declared.packet.Packet.{Packet}
use Rattle.wire.specs.Packets.{packet_of}
use Rattle.vsync_text.specs.PacketText.{kind_name, kind_of, kind_in, packet_fields, packet_line}
use Rattle.vsync_text.specs.TraceText.{hex_digit, hex_of_byte, hex_of, text_of_payload, text_of_previous, text_of_addresses, text_of_numbered, text_of_handed_back, text_of_given, field, line_with, install_view, install_rest, event_word, fields_of, line_of}
use Rattle.trace_drawing.specs.declared.labels.TheConstants.{LETTERS, BYTES}
use Rattle.trace_drawing.specs.Labels.{escaped_byte, escaped, is_text, dots, label}
use Rattle.trace_drawing.specs.Broken.{words_of}
use Rattle.trace_drawing.specs.Promises.{is_no_bracket, is_plain}

-- TEXTS OF PLAIN BYTES

both : (p : ℕ → Bool) (xs ys : List ℕ) → list_all p xs ≡ true → list_all p ys ≡ true → list_all p (xs ++ ys) ≡ true
both p xs ys a b = list_all-append p xs ys ∙ and_from (list_all p xs) (list_all p ys) a b

each : {X : Type 0} (p : ℕ → Bool) (f : X → List ℕ) (xs : List X) → ((x : X) → list_all p (f x) ≡ true) → list_all p (flat_map f xs) ≡ true
each p f [] all = refl
each p f (x ∷ xs) all = both p (f x) (flat_map f xs) (all x) (each p f xs all)

-- LABELS

escaped-at : (b : ℕ) (x y z : Bool) → nat_eq b 60 ≡ x → nat_eq b 62 ≡ y → list_all is_no_bracket (cond x (codes "&lt;") (cond y (codes "&gt;") (cond z (codes "&amp;") (b ∷ [])))) ≡ true
escaped-at b true y z e f = refl
escaped-at b false true z e f = refl
escaped-at b false false true e f = refl
escaped-at b false false false e f = ap (λ u. not (u || nat_eq b 62) && true) e ∙ ap (λ u. not (false || u) && true) f

escaped-no_bracket : (b : ℕ) → list_all is_no_bracket (escaped_byte b) ≡ true
escaped-no_bracket b = escaped-at b (nat_eq b 60) (nat_eq b 62) (nat_eq b 38) refl refl

itself-at : (b : ℕ) (x y z : Bool) → (not (x || y) && not z) ≡ true → cond x (codes "&lt;") (cond y (codes "&gt;") (cond z (codes "&amp;") (b ∷ []))) ≡ b ∷ []
itself-at b true y z e = absurd (let bad : false ≡ true = e in cc)
itself-at b false true z e = absurd (let bad : false ≡ true = e in cc)
itself-at b false false true e = absurd (let bad : false ≡ true = e in cc)
itself-at b false false false e = refl

-- a text of bytes that mean themselves is not escaped
pub escaped-plain : (bytes : List ℕ) → list_all is_plain bytes ≡ true → escaped bytes ≡ bytes
escaped-plain [] plain = refl
escaped-plain (b ∷ bs) plain =
    let parts = and_parts (is_plain b) (list_all is_plain bs) plain in
    ap (λ t. t ++ escaped bs) (itself-at b (nat_eq b 60) (nat_eq b 62) (nat_eq b 38) parts.0) ∙ ap (λ t. b ∷ t) (escaped-plain bs parts.1)

plain-from : (n : ℕ) → (n ≡ 60 → ⊥) → (n ≡ 62 → ⊥) → (n ≡ 38 → ⊥) → is_plain n ≡ true
plain-from n a b c =
    ap (λ u. not (u || nat_eq n 62) && not (nat_eq n 38)) (ne_eqb n 60 a) ∙ ap (λ u. not (false || u) && not (nat_eq n 38)) (ne_eqb n 62 b) ∙ ap (λ u. true && not u) (ne_eqb n 38 c)

digit-at : (n : ℕ) (b : Bool) → nat_lt n 10 ≡ b → is_plain (cond b (48 + n) (87 + n)) ≡ true
digit-at n true e = let small = ltb-true n 10 e in plain-from (48 + n) (λ h. omega (arith, small, h)) (λ h. omega (arith, small, h)) (λ h. omega (arith, small, h))
digit-at n false e = plain-from (87 + n) (λ h. omega (arith, h)) (λ h. omega (arith, h)) (λ h. omega (arith, h))

digit-plain : (n : ℕ) → is_plain (hex_digit n) ≡ true
digit-plain n = digit-at n (nat_lt n 10) refl

byte-plain : (b : ℕ) → list_all is_plain (hex_of_byte b) ≡ true
byte-plain b = and_from _ _ (digit-plain (b / 16)) (and_from _ _ (digit-plain (b % 16)) refl)

hex-plain : (bytes : List ℕ) → list_all is_plain (hex_of bytes) ≡ true
hex-plain bytes = each is_plain hex_of_byte bytes byte-plain

-- plain bytes are no brackets
weaker : (xs : List ℕ) → list_all is_plain xs ≡ true → list_all is_no_bracket xs ≡ true
weaker [] all = refl
weaker (x ∷ xs) all = let h = and_parts (is_plain x) (list_all is_plain xs) all in and_from _ _ (and_parts (is_no_bracket x) (not (nat_eq x 38)) h.0).0 (weaker xs h.1)

dots-at : (b : Bool) → list_all is_no_bracket (cond b (codes "&#8230;") []) ≡ true
dots-at true = refl
dots-at false = refl

label-at : (b : Bool) (payload : List ℕ)
    → list_all is_no_bracket (cond b (escaped (take LETTERS payload) ++ dots LETTERS payload) (codes "0x" ++ hex_of (take BYTES payload) ++ dots BYTES payload)) ≡ true
label-at true payload = both is_no_bracket (escaped (take LETTERS payload)) (dots LETTERS payload) (each is_no_bracket escaped_byte (take LETTERS payload) escaped-no_bracket) (dots-at (nat_lt LETTERS (length payload)))
label-at false payload = both is_no_bracket (codes "0x" ++ hex_of (take BYTES payload)) (dots BYTES payload)
    (both is_no_bracket (codes "0x") (hex_of (take BYTES payload)) refl (weaker (hex_of (take BYTES payload)) (hex-plain (take BYTES payload)))) (dots-at (nat_lt BYTES (length payload)))

-- a label has no bracket
pub label-plain : (payload : List ℕ) → list_all is_no_bracket (label payload) ≡ true
label-plain payload = label-at (is_text payload) payload

-- TITLES

onto-at : (b : Bool) (xs ys : List ℕ) → list_all is_plain xs ≡ true → list_all is_plain ys ≡ true → list_all is_plain (cond b xs ys) ≡ true
onto-at true xs ys a c = a
onto-at false xs ys a c = c

digits_onto-plain : (k base n : ℕ) (acc : List ℕ) → list_all is_plain acc ≡ true → list_all is_plain (digits_onto k base false n acc) ≡ true
digits_onto-plain zero base n acc all = all
digits_onto-plain (suc k) base n acc all =
    let more = and_from _ _ (digit-plain (n % base)) all in
    onto-at (n / base == 0) (hex_digit (n % base) ∷ acc) (digits_onto k base false (n / base) (hex_digit (n % base) ∷ acc)) more (digits_onto-plain k base (n / base) (hex_digit (n % base) ∷ acc) more)

decimal-plain : (n : ℕ) → list_all is_plain (decimal n) ≡ true
unfolding digits
decimal-plain n = digits_onto-plain 64 10 n [] refl

-- two plain texts, and a plain byte between them
apart : (b : ℕ) (xs ys : List ℕ) → is_plain b ≡ true → list_all is_plain xs ≡ true → list_all is_plain ys ≡ true → list_all is_plain (xs ++ b ∷ [] ++ ys) ≡ true
apart b xs ys e x y = both is_plain (xs ++ b ∷ []) ys (both is_plain xs (b ∷ []) x (and_from _ _ e refl)) y

address-plain : (a : Address) → list_all is_plain (text_of_address a) ≡ true
address-plain a = apart 46 (decimal a.node) (decimal a.incarnation) refl (decimal-plain a.node) (decimal-plain a.incarnation)

view_id-plain : (v : ViewId) → list_all is_plain (text_of_view_id v) ≡ true
view_id-plain v = apart 64 (decimal v.counter) (text_of_address v.creator) refl (decimal-plain v.counter) (address-plain v.creator)

behind : (b : ℕ) (xs : List ℕ) → is_plain b ≡ true → list_all is_plain xs ≡ true → list_all is_plain (b ∷ xs) ≡ true
behind b xs e all = and_from _ _ e all

payload-plain : (bytes : List ℕ) → list_all is_plain (text_of_payload bytes) ≡ true
payload-plain [] = refl
payload-plain (b ∷ bs) = hex-plain (b ∷ bs)

previous-plain : (v : Option ViewId) → list_all is_plain (text_of_previous v) ≡ true
previous-plain None = refl
previous-plain (Some v) = view_id-plain v

joined-plain : {X : Type 0} (f : X → List ℕ) (xs : List X) → ((x : X) → list_all is_plain (f x) ≡ true) → list_all is_plain (join_by f (44 ∷ []) xs) ≡ true
joined-plain f [] all = refl
joined-plain f (x ∷ xs) all = both is_plain (f x) (flat_map (λ y. (44 ∷ []) ++ f y) xs) (all x) (each is_plain (λ y. (44 ∷ []) ++ f y) xs (λ y. behind 44 (f y) refl (all y)))

addresses-plain : (members : List Address) → list_all is_plain (text_of_addresses members) ≡ true
addresses-plain members = joined-plain text_of_address members address-plain

numbered-plain : (m : Numbered) → list_all is_plain (text_of_numbered m) ≡ true
numbered-plain m = both is_plain (decimal m.number) (58 ∷ hex_of m.payload) (decimal-plain m.number) (behind 58 (hex_of m.payload) refl (hex-plain m.payload))

back-plain : (messages : List Numbered) → list_all is_plain (text_of_handed_back messages) ≡ true
back-plain [] = refl
back-plain (m ∷ ms) = joined-plain text_of_numbered (m ∷ ms) numbered-plain

given-plain : (state : Option (List ℕ)) → list_all is_plain (text_of_given state) ≡ true
given-plain None = refl
given-plain (Some state) = behind 61 (hex_of state) refl (hex-plain state)

-- fields, one behind another
two : (xs ys : List ℕ) → list_all is_plain xs ≡ true → list_all is_plain ys ≡ true → list_all is_plain (xs ++ field ys) ≡ true
two xs ys x y = both is_plain xs (field ys) x (behind 32 ys refl y)

line-plain : (word fields : List ℕ) → list_all is_plain word ≡ true → list_all is_plain fields ≡ true → list_all is_plain (line_with word fields) ≡ true
line-plain word fields w f = both is_plain (word ++ fields) (10 ∷ []) (both is_plain word fields w f) refl

alone-plain : (p : Address) → list_all is_plain (field (text_of_address p)) ≡ true
alone-plain p = behind 32 (text_of_address p) refl (address-plain p)

fields-plain : (e : Event) → list_all is_plain (fields_of e) ≡ true
fields-plain (Started p) = alone-plain p
fields-plain (Sent s) = two (field (text_of_address s.member) ++ field (text_of_view_id s.view) ++ field (decimal s.message.number)) (text_of_payload s.message.payload)
    (two (field (text_of_address s.member) ++ field (text_of_view_id s.view)) (decimal s.message.number)
    (two (field (text_of_address s.member)) (text_of_view_id s.view) (alone-plain s.member) (view_id-plain s.view)) (decimal-plain s.message.number))
    (payload-plain s.message.payload)
fields-plain (Delivered d) = two (field (text_of_address d.member) ++ field (text_of_view_id d.view) ++ field (text_of_address d.message.sender) ++ field (decimal d.message.number)) (text_of_payload d.message.payload)
    (two (field (text_of_address d.member) ++ field (text_of_view_id d.view) ++ field (text_of_address d.message.sender)) (decimal d.message.number)
    (two (field (text_of_address d.member) ++ field (text_of_view_id d.view)) (text_of_address d.message.sender)
    (two (field (text_of_address d.member)) (text_of_view_id d.view) (alone-plain d.member) (view_id-plain d.view)) (address-plain d.message.sender))
    (decimal-plain d.message.number))
    (payload-plain d.message.payload)
fields-plain (Blocked p) = alone-plain p
fields-plain (Installed i) = both is_plain (install_view i) (install_rest i)
    (two (field (text_of_address i.member) ++ field (text_of_previous i.previous) ++ field (text_of_view_id i.view.id)) (text_of_addresses i.view.members)
    (two (field (text_of_address i.member) ++ field (text_of_previous i.previous)) (text_of_view_id i.view.id)
    (two (field (text_of_address i.member)) (text_of_previous i.previous) (alone-plain i.member) (previous-plain i.previous)) (view_id-plain i.view.id))
    (addresses-plain i.view.members))
    (two (field (text_of_addresses i.together) ++ field (text_of_handed_back i.handed_back)) (text_of_given i.given)
    (two (field (text_of_addresses i.together)) (text_of_handed_back i.handed_back) (behind 32 (text_of_addresses i.together) refl (addresses-plain i.together)) (back-plain i.handed_back))
    (given-plain i.given))
fields-plain (Left p) = alone-plain p
fields-plain (Crashed p) = alone-plain p

word-plain : (e : Event) → list_all is_plain (event_word e) ≡ true
word-plain (Started p) = refl
word-plain (Sent s) = refl
word-plain (Delivered d) = refl
word-plain (Blocked p) = refl
word-plain (Installed i) = refl
word-plain (Left p) = refl
word-plain (Crashed p) = refl

-- a title is plain
pub title-plain : (e : Event) → list_all is_plain (line_of e) ≡ true
title-plain e = line-plain (event_word e) (fields_of e) (word-plain e) (fields-plain e)

-- the name of what a packet says is plain
name-plain : (body : Body) → list_all is_plain (kind_name body) ≡ true
name-plain bodies.Join = refl
name-plain (bodies.Redirect coordinator) = refl
name-plain bodies.Leave = refl
name-plain (bodies.Forward view number payload) = refl
name-plain (bodies.Order view place entry) = refl
name-plain (bodies.Nak view missing) = refl
name-plain (bodies.Ack view delivered) = refl
name-plain (bodies.Status view progress) = refl
name-plain (bodies.Flush proposal) = refl
name-plain (bodies.Behind proposal counter) = refl
name-plain (bodies.Report proposal report) = refl
name-plain (bodies.Install install) = refl
name-plain (bodies.Merge view) = refl
name-plain (bodies.State proposal chunk) = refl

kind-at : (packet : Result Packet WireError) → list_all is_plain (kind_of packet) ≡ true
kind-at (Ok p) = name-plain p.body
kind-at (Err e) = refl

-- the kind of a packet is plain
pub kind-plain : (bytes : List ℕ) → list_all is_plain (kind_in bytes) ≡ true
kind-plain bytes = kind-at (packet_of bytes)

packet_fields-plain : (packet : Result Packet WireError) → list_all is_plain (packet_fields packet) ≡ true
packet_fields-plain (Ok p) = two (field (kind_name p.body) ++ field (text_of_address p.source)) (text_of_address p.destination)
    (two (field (kind_name p.body)) (text_of_address p.source) (behind 32 (kind_name p.body) refl (name-plain p.body)) (address-plain p.source)) (address-plain p.destination)
packet_fields-plain (Err e) = refl

-- the title of a packet is plain
pub packet-plain : (n : ℕ) (bytes : List ℕ) → list_all is_plain (packet_line n bytes) ≡ true
packet-plain n bytes = line-plain (decimal n) (packet_fields (packet_of bytes) ++ field (hex_of bytes)) (decimal-plain n)
    (two (packet_fields (packet_of bytes)) (hex_of bytes) (packet_fields-plain (packet_of bytes)) (hex-plain bytes))

-- the words of a broken rule are plain
pub words-plain : (rule : Rule) → list_all is_plain (words_of rule) ≡ true
words-plain WellPlaced = refl
words-plain RisingViews = refl
words-plain SoundMessages = refl
words-plain OneOrder = refl
words-plain SameNext = refl
words-plain Together = refl
words-plain HandedBack = refl
words-plain StateOfEntry = refl
