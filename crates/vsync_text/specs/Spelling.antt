-- What a field of a trace spells, if it is of its form and range.
use Rattle.std.specs.Prelude.{◌≡◌, ℕ, ◌≤◌, slice_get, List, [], ◌∷◌, Option, None, Some, length, nat_le, if◌then◌else◌}
use Rattle.std.specs.Str.{bytes_eq}
use Rattle.address.specs.Ids.{Address, ViewId}
use Rattle.address.specs.declared.limits.TheConstants.{GREATEST_NUMBER, PAYLOAD}
use Rattle.view.specs.Members.{View, is_distinct}
use Rattle.view.specs.View.{view_refusal}
use Rattle.view.specs.declared.ViewError.{ViewError}
use Rattle.trace_props.specs.declared.event.Numbered.{Numbered}
use Rattle.vsync_text.specs.Lines.{before_byte, behind_byte}
use Rattle.vsync_text.specs.Numbers.{number_in}
use Rattle.vsync_text.specs.AddressText.{address_of_text}
use Rattle.vsync_text.specs.TraceText.{dash}
use Rattle.vsync_text.specs.Fronts.{behind_mark}
use Rattle.vsync_text.specs.Forms.{◌>>=◌, bytes_of_hex, parts_of, each_of}

-- the number of a message in its view, 1 to `GREATEST_NUMBER`
abbrev pub number_of_text : List ℕ → Option ℕ
number_of_text text = number_in 1 GREATEST_NUMBER text

-- `C@N.I`
unfoldable pub view_id_of_text : List ℕ → Option ViewId
view_id_of_text text = do
  counter ← number_of_text (before_byte 64 text)
  behind ← behind_byte 64 text
  creator ← address_of_text behind
  Some (record { counter = counter; creator = creator })

-- a view id, or `-` for none
unfoldable pub previous_of_text : List ℕ → Option (Option ViewId)
previous_of_text text = if bytes_eq text dash then Some None else do
  view ← view_id_of_text text
  Some (Some view)

-- bytes, if they are no more than a payload may have
abbrev pub if_short : List ℕ → Option (List ℕ)
if_short bytes = if nat_le (length bytes) PAYLOAD then Some bytes else None

-- a payload in hexadecimal
unfoldable pub short_of_hex : List ℕ → Option (List ℕ)
short_of_hex digits = do
  bytes ← bytes_of_hex digits
  if_short bytes

-- a payload in hexadecimal, `-` for the empty one
unfoldable pub payload_of_text : List ℕ → Option (List ℕ)
payload_of_text [] = None
payload_of_text (b ∷ bs) = if bytes_eq (b ∷ bs) dash then Some [] else short_of_hex (b ∷ bs)

-- addresses, joined by commas
unfoldable pub addresses_of_text : List ℕ → Option (List Address)
addresses_of_text text = each_of address_of_text (parts_of text)

-- a view, if nothing speaks against it
abbrev pub view_unless : Option ViewError → View → Option View
view_unless None view = Some view
view_unless (Some error) view = None

-- the members of a view of this id
unfoldable pub view_of_text : ViewId → List ℕ → Option View
view_of_text id text = do
  members ← addresses_of_text text
  view_unless (view_refusal id members) (record { id = id; members = members })

-- addresses of which none stands twice
unfoldable pub together_of_text : List ℕ → Option (List Address)
together_of_text text = do
  together ← addresses_of_text text
  if is_distinct together then Some together else None

-- `n:hex`
unfoldable pub message_of_text : List ℕ → Option Numbered
message_of_text text = do
  number ← number_of_text (before_byte 58 text)
  behind ← behind_byte 58 text
  payload ← short_of_hex behind
  Some (record { number = number; payload = payload })

-- messages, joined by commas
unfoldable pub messages_of_text : List ℕ → Option (List Numbered)
messages_of_text text = each_of message_of_text (parts_of text)

-- messages joined by commas, `-` for none
unfoldable pub handed_back_of_text : List ℕ → Option (List Numbered)
handed_back_of_text text = if bytes_eq text dash then Some [] else messages_of_text text

-- each payload has at most `PAYLOAD` bytes
abbrev pub AreShort : List Numbered → Type 0
AreShort messages = (k : ℕ) (m : Numbered) → slice_get messages k ≡ Some m → length m.payload ≤ PAYLOAD

-- `=` and a state in hexadecimal
unfoldable pub state_of_text : List ℕ → Option (List ℕ)
state_of_text text = do
  digits ← behind_mark 61 text
  bytes_of_hex digits

-- a given state, `-` for none
unfoldable pub given_of_text : List ℕ → Option (Option (List ℕ))
given_of_text text = if bytes_eq text dash then Some None else do
  state ← state_of_text text
  Some (Some state)
