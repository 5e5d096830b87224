-- The text of a trace: one line an event.
use Rattle.std.specs.Prelude.{◌≡◌, ℕ, ◌+◌, ◌/◌, ◌%◌, ◌∷◌, [], ◌++◌, List, Option, None, Some, length, take, codes, nat_lt, flat_map, if◌then◌else◌}
use Rattle.std.specs.List.{join_by}
use Rattle.std.specs.Fmt.{decimal}
use Rattle.address.specs.Ids.{Address, ViewId, text_of_address, text_of_view_id}
use Rattle.trace_props.specs.declared.event.Event.{Event}
use Rattle.trace_props.specs.declared.event.Event.TheVariants.{Started, Sent, Delivered, Blocked, Installed, Left, Crashed}
use Rattle.trace_props.specs.declared.event.Sending.{Sending}
use Rattle.trace_props.specs.declared.event.Delivery.{Delivery}
use Rattle.trace_props.specs.declared.event.Install.{Install}
use Rattle.trace_props.specs.declared.event.Numbered.{Numbered}

abbrev pub hex_digit : ℕ → ℕ
hex_digit n = if nat_lt n 10 then 48 + n else 87 + n

-- a byte as two lower case hexadecimal digits
abbrev pub hex_of_byte : ℕ → List ℕ
hex_of_byte b = hex_digit (b / 16) ∷ hex_digit (b % 16) ∷ []

abbrev pub hex_of : List ℕ → List ℕ
hex_of bytes = flat_map hex_of_byte bytes

-- what stands for nothing: `-`
abbrev pub dash : List ℕ
dash = 45 ∷ []

-- a payload in hexadecimal, `-` for none
abbrev pub text_of_payload : List ℕ → List ℕ
text_of_payload [] = dash
text_of_payload (b ∷ bs) = hex_of (b ∷ bs)

abbrev pub text_of_previous : Option ViewId → List ℕ
text_of_previous None = dash
text_of_previous (Some v) = text_of_view_id v

-- addresses, joined by commas
abbrev pub text_of_addresses : List Address → List ℕ
text_of_addresses members = join_by text_of_address (44 ∷ []) members

-- `n:hex`
abbrev pub text_of_numbered : Numbered → List ℕ
text_of_numbered m = decimal m.number ++ 58 ∷ hex_of m.payload

-- messages, joined by commas, `-` for none
abbrev pub text_of_handed_back : List Numbered → List ℕ
text_of_handed_back [] = dash
text_of_handed_back (m ∷ ms) = join_by text_of_numbered (44 ∷ []) (m ∷ ms)

-- a given state: `=` and its hexadecimal, `-` for none
abbrev pub text_of_given : Option (List ℕ) → List ℕ
text_of_given None = dash
text_of_given (Some state) = 61 ∷ hex_of state

-- a field stands behind a space
abbrev pub field : List ℕ → List ℕ
field text = 32 ∷ text

-- a line: a word and its fields
abbrev pub line_with : List ℕ → List ℕ → List ℕ
line_with word fields = word ++ fields ++ 10 ∷ []

-- who installs a view, from which view, and the view
abbrev pub install_view : Install → List ℕ
install_view i =
    field (text_of_address i.member) ++ field (text_of_previous i.previous) ++ field (text_of_view_id i.view.id)
    ++ field (text_of_addresses i.view.members)

-- who comes together, what is handed back, and the given state
abbrev pub install_rest : Install → List ℕ
install_rest i = field (text_of_addresses i.together) ++ field (text_of_handed_back i.handed_back) ++ field (text_of_given i.given)

abbrev pub sending_fields : Sending → List ℕ
sending_fields s =
    field (text_of_address s.member) ++ field (text_of_view_id s.view) ++ field (decimal s.message.number)
    ++ field (text_of_payload s.message.payload)

abbrev pub delivery_fields : Delivery → List ℕ
delivery_fields d =
    field (text_of_address d.member) ++ field (text_of_view_id d.view) ++ field (text_of_address d.message.sender)
    ++ field (decimal d.message.number) ++ field (text_of_payload d.message.payload)

-- the word with which the line of an event begins
abbrev pub event_word : Event → List ℕ
event_word (Started p) = codes "started"
event_word (Sent s) = codes "sent"
event_word (Delivered d) = codes "delivered"
event_word (Blocked p) = codes "blocked"
event_word (Installed i) = codes "installed"
event_word (Left p) = codes "left"
event_word (Crashed p) = codes "crashed"

abbrev pub fields_of : Event → List ℕ
fields_of (Started p) = field (text_of_address p)
fields_of (Sent s) = sending_fields s
fields_of (Delivered d) = delivery_fields d
fields_of (Blocked p) = field (text_of_address p)
fields_of (Installed i) = install_view i ++ install_rest i
fields_of (Left p) = field (text_of_address p)
fields_of (Crashed p) = field (text_of_address p)

-- the line of an event, with its line feed
abbrev pub line_of : Event → List ℕ
line_of h = line_with (event_word h) (fields_of h)

-- a text goes on from another
pub record GoesOnFrom (old new : List ℕ) : Type 0 where
  pub front : take (length old) new ≡ old
