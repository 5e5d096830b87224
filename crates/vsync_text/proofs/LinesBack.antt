-- The line of an event is read back.
use Rattle.std.proofs.Common.{◌≡◌, ℕ, true, false, List, [], ◌∷◌, ◌++◌, Option, Some, None, Ok, length, nat_lt, refl, sym, ◌∙◌, ap, arith, append_assoc, append-nil, length-append, codes}
use Rattle.std.proofs.lemmas.Bool.{le-ltb}
use Rattle.std.specs.Fmt.{decimal}
use Rattle.std.specs.Str.{bytes_eq}
use Rattle.address.specs.Ids.{Address, ViewId, IsAddress, text_of_address, text_of_view_id}
use Rattle.trace_props.specs.declared.event.Event.{Event}
use Rattle.trace_props.specs.declared.event.Event.TheVariants as event
use Rattle.trace_props.specs.declared.event.Sending.{Sending}
use Rattle.trace_props.specs.declared.event.Delivery.{Delivery}
use Rattle.trace_props.specs.declared.event.Install.{Install}
use Rattle.vsync_text.specs.Lines.{field_of, behind_field, behind}
use Rattle.vsync_text.specs.Texts.{is_skipped, reading_by}
use Rattle.vsync_text.specs.AddressText.{address_of_text}
use Rattle.vsync_text.specs.TraceText.{text_of_payload, text_of_previous, text_of_addresses, text_of_handed_back, text_of_given, event_word, fields_of, field, sending_fields, delivery_fields, install_view, install_rest}
use Rattle.vsync_text.specs.declared.read_line.Word.{Word}
use Rattle.vsync_text.specs.declared.read_line.Word.TheVariants.{Started, Sent, Delivered, Blocked, Installed, Left, Crashed}
use Rattle.address.specs.declared.limits.TheConstants.{TRACE_LINE}
use Rattle.vsync_text.specs.Spelling.{number_of_text, view_id_of_text, previous_of_text, payload_of_text, view_of_text, together_of_text, handed_back_of_text, given_of_text}
use Rattle.vsync_text.specs.Fields.{field_at, spelled_at, end_at, last}
use Rattle.vsync_text.specs.LineFields.{sending_at, delivery_at, view_at, install_at, stable_at}
use Rattle.vsync_text.specs.Traces.{word_of, event_of, said_in_line}
use Rattle.vsync_text.specs.Spellable.{stable_text, IsStableText, IsSendable, IsSpellableDelivery, IsInstallable, IsInFormat, IsSpellable}
use Rattle.vsync_text.proofs.TextsCut.{Without, is_cut, without_below, before_cut, behind_cut}
use Rattle.vsync_text.proofs.FieldsBack.{Spells, number_spells, address_spells, view_id_spells, previous_spells, payload_spells, given_spells, view_spells, together_spells, handed_back_spells}

-- FIELDS

-- a field is read, and what stands behind it is left
spelled_then : {A : Type 0} (spells : List ℕ → Option A) (text tail : List ℕ) (x : A) → Spells spells text x → is_cut 32 tail ≡ true
    → spelled_at spells (Some (text ++ tail)) ≡ Ok (x, behind tail)
unfolding spelled_at field_at
spelled_then spells text tail x s c =
    let w : Without 32 text = without_below 44 32 text (omega arith) s.from in
    rw (before_cut 32 text tail w c, behind_cut 32 text tail w c, s.back) refl

spelled_last : {A : Type 0} (spells : List ℕ → Option A) (text : List ℕ) (x : A) → Spells spells text x → spelled_at spells (Some text) ≡ Ok (x, None)
spelled_last spells text x s = ap (λ t. spelled_at spells (Some t)) (sym (append-nil text)) ∙ spelled_then spells text [] x s refl

sending_back : (s : Sending) → IsSendable s → sending_at (behind (sending_fields s)) ≡ Ok (s, None)
unfolding sending_at
sending_back s h =
    let a = text_of_address s.member in
    let v = text_of_view_id s.view in
    let n = decimal s.message.number in
    let x = text_of_payload s.message.payload in
    let parts : ((a ++ 32 ∷ v) ++ 32 ∷ n) ++ 32 ∷ x ≡ a ++ 32 ∷ (v ++ 32 ∷ (n ++ 32 ∷ x)) = simp append_assoc in
    rw (
      parts,
      spelled_then address_of_text a (32 ∷ (v ++ 32 ∷ (n ++ 32 ∷ x))) s.member (address_spells s.member h.member) refl,
      spelled_then view_id_of_text v (32 ∷ (n ++ 32 ∷ x)) s.view (view_id_spells s.view h.view) refl,
      spelled_then number_of_text n (32 ∷ x) s.message.number (number_spells s.message.number h.number) refl,
      spelled_last payload_of_text x s.message.payload (payload_spells s.message.payload h.payload),
    ) refl

five_parts : (a b c d e : List ℕ) → (((a ++ 32 ∷ b) ++ 32 ∷ c) ++ 32 ∷ d) ++ 32 ∷ e ≡ a ++ 32 ∷ (b ++ 32 ∷ (c ++ 32 ∷ (d ++ 32 ∷ e)))
five_parts a b c d e = simp append_assoc

delivery_back : (d : Delivery) → IsSpellableDelivery d → delivery_at (behind (delivery_fields d)) ≡ Ok (d, None)
unfolding delivery_at
delivery_back d h =
    let a = text_of_address d.member in
    let v = text_of_view_id d.view in
    let q = text_of_address d.message.sender in
    let n = decimal d.message.number in
    let x = text_of_payload d.message.payload in
    rw (
      five_parts a v q n x,
      spelled_then address_of_text a (32 ∷ (v ++ 32 ∷ (q ++ 32 ∷ (n ++ 32 ∷ x)))) d.member (address_spells d.member h.member) refl,
      spelled_then view_id_of_text v (32 ∷ (q ++ 32 ∷ (n ++ 32 ∷ x))) d.view (view_id_spells d.view h.view) refl,
      spelled_then address_of_text q (32 ∷ (n ++ 32 ∷ x)) d.message.sender (address_spells d.message.sender h.sender) refl,
      spelled_then number_of_text n (32 ∷ x) d.message.number (number_spells d.message.number h.number) refl,
      spelled_last payload_of_text x d.message.payload (payload_spells d.message.payload h.payload),
    ) refl

install_back : (i : Install) → IsInstallable i → install_at (behind (install_view i ++ install_rest i)) ≡ Ok (i, None)
unfolding install_at view_at
install_back i h =
    let a = text_of_address i.member in
    let p = text_of_previous i.previous in
    let w = text_of_view_id i.view.id in
    let m = text_of_addresses i.view.members in
    let t = text_of_addresses i.together in
    let b = text_of_handed_back i.handed_back in
    let g = text_of_given i.given in
    let r = t ++ 32 ∷ (b ++ 32 ∷ g) in
    let behind_view : (t ++ 32 ∷ b) ++ 32 ∷ g ≡ r = append_assoc t (32 ∷ b) (32 ∷ g) in
    let parts : (((a ++ 32 ∷ p) ++ 32 ∷ w) ++ 32 ∷ m) ++ 32 ∷ ((t ++ 32 ∷ b) ++ 32 ∷ g) ≡ a ++ 32 ∷ (p ++ 32 ∷ (w ++ 32 ∷ (m ++ 32 ∷ r)))
    = five_parts a p w m ((t ++ 32 ∷ b) ++ 32 ∷ g) ∙ ap (λ l. a ++ 32 ∷ (p ++ 32 ∷ (w ++ 32 ∷ (m ++ 32 ∷ l)))) behind_view in
    rw (
      parts,
      spelled_then address_of_text a (32 ∷ (p ++ 32 ∷ (w ++ 32 ∷ (m ++ 32 ∷ (t ++ 32 ∷ (b ++ 32 ∷ g)))))) i.member (address_spells i.member h.member) refl,
      spelled_then previous_of_text p (32 ∷ (w ++ 32 ∷ (m ++ 32 ∷ (t ++ 32 ∷ (b ++ 32 ∷ g))))) i.previous (previous_spells i.previous h.previous) refl,
      spelled_then view_id_of_text w (32 ∷ (m ++ 32 ∷ (t ++ 32 ∷ (b ++ 32 ∷ g)))) i.view.id (view_id_spells i.view.id h.id) refl,
      spelled_then (view_of_text i.view.id) m (32 ∷ (t ++ 32 ∷ (b ++ 32 ∷ g))) i.view (view_spells i.view h.members h.view) refl,
      spelled_then together_of_text t (32 ∷ (b ++ 32 ∷ g)) i.together (together_spells i.together h.somebody h.together h.once) refl,
      spelled_then handed_back_of_text b (32 ∷ g) i.handed_back (handed_back_spells i.handed_back h.handed_back) refl,
      spelled_last given_of_text g i.given (given_spells i.given h.given),
    ) refl

address_last : (a : Address) → IsAddress a → spelled_at address_of_text (behind (field (text_of_address a))) ≡ Ok (a, None)
address_last a h = spelled_last address_of_text (text_of_address a) a (address_spells a h)

last_back : {A : Type 0} (x : A) → last (Ok (x, None)) ≡ Ok x
unfolding last end_at
last_back x = refl

-- LINES

-- the line of an event, without its line feed
abbrev pub body_of : Event → List ℕ
body_of h = event_word h ++ fields_of h

abbrev pub word_back : (h : Event) → Word
word_back (event.Started p) = Started
word_back (event.Sent s) = Sent
word_back (event.Delivered d) = Delivered
word_back (event.Blocked p) = Blocked
word_back (event.Installed i) = Installed
word_back (event.Left p) = Left
word_back (event.Crashed p) = Crashed

event_back : (h : Event) → IsInFormat h → event_of (word_back h) (behind (fields_of h)) ≡ Ok h
unfolding event_of
event_back (event.Started p) h = rw (address_last p h, last_back p) refl
event_back (event.Sent s) h = rw (sending_back s h, last_back s) refl
event_back (event.Delivered d) h = rw (delivery_back d h, last_back d) refl
event_back (event.Blocked p) h = rw (address_last p h, last_back p) refl
event_back (event.Installed i) h = rw (install_back i h, last_back i) refl
event_back (event.Left p) h = rw (address_last p h, last_back p) refl
event_back (event.Crashed p) h = rw (address_last p h, last_back p) refl

-- how the line of an event is read: as one that says something, and not which messages are stable; by its word and its fields
pub record IsReadAs (h : Event) : Type 0 where
  pub is_said : is_skipped (body_of h) ≡ false
  pub not_stable : bytes_eq (field_of (body_of h)) (codes "stable") ≡ false
  pub word : word_of (field_of (body_of h)) ≡ Some (word_back h)
  pub fields : behind_field (body_of h) ≡ behind (fields_of h)

is_read : (h : Event) → IsReadAs h
is_read (event.Started p) = record { is_said = refl; not_stable = refl; word = refl; fields = refl }
is_read (event.Sent s) = record { is_said = refl; not_stable = refl; word = refl; fields = refl }
is_read (event.Delivered d) = record { is_said = refl; not_stable = refl; word = refl; fields = refl }
is_read (event.Blocked p) = record { is_said = refl; not_stable = refl; word = refl; fields = refl }
is_read (event.Installed i) = record { is_said = refl; not_stable = refl; word = refl; fields = refl }
is_read (event.Left p) = record { is_said = refl; not_stable = refl; word = refl; fields = refl }
is_read (event.Crashed p) = record { is_said = refl; not_stable = refl; word = refl; fields = refl }

-- the line of an event is read back
pub body_back : (h : Event) → IsSpellable h → reading_by said_in_line (body_of h) ≡ Ok (Some (Some h))
unfolding said_in_line
body_back h s =
    let short : nat_lt TRACE_LINE (length (body_of h)) ≡ false = le-ltb TRACE_LINE (length (body_of h)) (omega (arith, s.line, length-append (body_of h) (10 ∷ []))) in
    let r = is_read h in
    rw (r.is_said, short, r.not_stable, r.word, r.fields, event_back h s.fields) refl

-- a line that says which messages are stable

stable_back : (p : Address) (v : ViewId) (n : ℕ) → IsStableText p v n → stable_at (behind (field (text_of_address p) ++ field (text_of_view_id v) ++ field (decimal n))) ≡ Ok (n, None)
unfolding stable_at
stable_back p v n h =
    let a = text_of_address p in
    let w = text_of_view_id v in
    let d = decimal n in
    let parts : (a ++ 32 ∷ w) ++ 32 ∷ d ≡ a ++ 32 ∷ (w ++ 32 ∷ d) = simp append_assoc in
    rw (
      parts,
      spelled_then address_of_text a (32 ∷ (w ++ 32 ∷ d)) p (address_spells p h.member) refl,
      spelled_then view_id_of_text w (32 ∷ d) v (view_id_spells v h.view) refl,
      spelled_last number_of_text d n (number_spells n h.number),
    ) refl

-- is read, and says no event
pub stable_says_nothing : (p : Address) (v : ViewId) (n : ℕ) → IsStableText p v n → reading_by said_in_line (stable_text p v n) ≡ Ok (Some None)
unfolding said_in_line
stable_says_nothing p v n h =
    let short : nat_lt TRACE_LINE (length (stable_text p v n)) ≡ false = le-ltb TRACE_LINE (length (stable_text p v n)) h.line in
    rw (short, stable_back p v n h, last_back n) refl
