-- How the fields of a line of a trace are read, from the left.
use Rattle.std.specs.Prelude.{ℕ, List, Option, Ok}
use Rattle.view.specs.Members.{View}
use Rattle.trace_props.specs.declared.event.Sending.{Sending}
use Rattle.trace_props.specs.declared.event.Delivery.{Delivery}
use Rattle.trace_props.specs.declared.event.Install.{Install}
use Rattle.vsync_text.specs.Fields.{Read, ◌>>=◌, spelled_at}
use Rattle.vsync_text.specs.AddressText.{address_of_text}
use Rattle.vsync_text.specs.Spelling.{number_of_text, view_id_of_text, previous_of_text, payload_of_text, view_of_text, together_of_text, handed_back_of_text, given_of_text}

-- `P V N X`
unfoldable pub sending_at : Option (List ℕ) → Read Sending
sending_at rest = do
  member ← spelled_at address_of_text rest
  view ← spelled_at view_id_of_text member.1
  number ← spelled_at number_of_text view.1
  payload ← spelled_at payload_of_text number.1
  Ok (record { member = member.0; view = view.0; message = record { number = number.0; payload = payload.0 } }, payload.1)

-- `P V Q N X`
unfoldable pub delivery_at : Option (List ℕ) → Read Delivery
delivery_at rest = do
  member ← spelled_at address_of_text rest
  view ← spelled_at view_id_of_text member.1
  sender ← spelled_at address_of_text view.1
  number ← spelled_at number_of_text sender.1
  payload ← spelled_at payload_of_text number.1
  Ok (record { member = member.0; view = view.0; message = record { sender = sender.0; number = number.0; payload = payload.0 } }, payload.1)

-- `W MEMBERS`
unfoldable pub view_at : Option (List ℕ) → Read View
view_at rest = do
  id ← spelled_at view_id_of_text rest
  spelled_at (view_of_text id.0) id.1

-- `P PREV W MEMBERS TOGETHER BACK STATE`
unfoldable pub install_at : Option (List ℕ) → Read Install
install_at rest = do
  member ← spelled_at address_of_text rest
  previous ← spelled_at previous_of_text member.1
  view ← view_at previous.1
  together ← spelled_at together_of_text view.1
  back ← spelled_at handed_back_of_text together.1
  given ← spelled_at given_of_text back.1
  Ok (record { member = member.0; previous = previous.0; view = view.0; together = together.0; handed_back = back.0; given = given.0 }, given.1)

-- `P V N`
unfoldable pub stable_at : Option (List ℕ) → Read ℕ
stable_at rest = do
  member ← spelled_at address_of_text rest
  view ← spelled_at view_id_of_text member.1
  spelled_at number_of_text view.1
