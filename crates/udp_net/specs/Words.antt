-- What nodes say of themselves to each other: which words there are, how each is spelled, how it is read.
use Rattle.std.specs.Prelude.{◌≤◌, ℕ, Bool, List, [], ◌++◌, length, Option, Some, None, Result, Ok, Err, ◌==◌, IfSome, nat_eq, if◌then◌else◌}
use Rattle.std.specs.List.{starts_with}
use Rattle.byteorder.specs.Endian.{big_bytes}
use Rattle.std.specs.Option.{option_map}
use Rattle.address.specs.Ids.{IsAddress, ViewId}
use Rattle.address.specs.declared.limits.TheConstants.{MEMBERS}
use Rattle.step_output.specs.Names.{same_name}
use Rattle.wire_values.specs.declared.error.WireError.{WireError}
use Rattle.wire_values.specs.declared.error.WireError.TheVariants.{NotOurs, Version, Value, Trailing}
use Rattle.wire_values.specs.Reading.{Read, ◌>>=◌, number_at}
use Rattle.wire_values.specs.Fields.{IsViewId, address_bytes, number_bytes, view_id_bytes, address_at, view_id_at}
use Rattle.wire_values.specs.Texts.{group_bytes, group_at}
use Rattle.udp_net.specs.declared.word.Word.{Word}
use Rattle.udp_net.specs.declared.word.Echo.{Echo}
use Rattle.udp_net.specs.declared.word.Place.{Place}
use Rattle.udp_net.specs.declared.word.WordVersion.{WordVersion}
use Rattle.udp_net.specs.declared.word.WordVersion.TheVariants.{First, Second}
use Rattle.udp_net.specs.declared.word.TheConstants.{WORD_MAGIC, FIRST_VERSION, WORD_VERSION, GREATEST_CLOCK}

-- ---- which words there are

pub record IsEcho (e : Echo) : Type 0 where
  pub address : IsAddress e.address
  pub said : e.said ≤ GREATEST_CLOCK

-- the greatest history that a word of a version tells of a view: no message was delivered in a later one
abbrev pub greatest_history : WordVersion → ViewId → ℕ
greatest_history First view = 0
greatest_history Second view = view.counter

pub record IsPlace (v : WordVersion) (p : Place) : Type 0 where
  pub view : IsViewId p.view
  pub some : 1 ≤ p.members
  pub few : p.members ≤ MEMBERS
  pub history : p.history ≤ greatest_history v p.view

pub record IsWord (w : Word) : Type 0 where
  pub source : IsAddress w.source
  pub said : w.said ≤ GREATEST_CLOCK
  pub echo : IfSome w.echo IsEcho
  pub place : IfSome w.place (IsPlace w.version)

-- ---- how they are spelled

-- the letters `VF`
abbrev pub begins_as_word : List ℕ → Bool
begins_as_word bytes = starts_with nat_eq bytes (big_bytes 2 WORD_MAGIC)

abbrev pub version_number : WordVersion → ℕ
version_number First = FIRST_VERSION
version_number Second = WORD_VERSION

-- what stands before what is said
abbrev pub word_head : WordVersion → List ℕ → List ℕ
word_head version group = big_bytes 2 WORD_MAGIC ++ big_bytes 1 (version_number version) ++ group_bytes group

abbrev pub echo_bytes : Option Echo → List ℕ
echo_bytes None = big_bytes 1 0
echo_bytes (Some e) = big_bytes 1 1 ++ address_bytes e.address ++ number_bytes e.said

-- 1, or 2 for a coordinator that stays
abbrev pub place_flag : Bool → ℕ
place_flag stays = if stays then 2 else 1

-- version 1 tells no history
abbrev pub history_bytes : WordVersion → ℕ → List ℕ
history_bytes First history = []
history_bytes Second history = number_bytes history

abbrev pub held_place_bytes : WordVersion → Place → List ℕ
held_place_bytes version p = big_bytes 1 (place_flag p.stays) ++ view_id_bytes p.view ++ big_bytes 1 p.members ++ history_bytes version p.history

abbrev pub place_bytes : WordVersion → Option Place → List ℕ
place_bytes version None = big_bytes 1 0
place_bytes version (Some p) = held_place_bytes version p

-- what is said
abbrev pub said_bytes : Word → List ℕ
said_bytes w = address_bytes w.source ++ number_bytes w.said ++ echo_bytes w.echo ++ place_bytes w.version w.place

-- the one spelling of a word in a group
abbrev pub word_bytes : List ℕ → Word → List ℕ
word_bytes group w = word_head w.version group ++ said_bytes w

-- the same word in version 1
abbrev pub first_place : Place → Place
first_place p = record p { history = 0 }

abbrev pub first_word : Word → Word
first_word w = record w { version = First; place = option_map first_place w.place }

-- ---- how they are read

unfoldable pub version_at : List ℕ → Read WordVersion
version_at bytes = do
  magic ← number_at 2 WORD_MAGIC WORD_MAGIC NotOurs bytes
  number ← number_at 1 FIRST_VERSION WORD_VERSION Version magic.1
  Ok (if number.0 == FIRST_VERSION then First else Second, number.1)

unfoldable pub echo_at : List ℕ → Read (Option Echo)
echo_at bytes = do
  flag ← number_at 1 0 1 Value bytes
  if flag.0 == 0 then Ok (None, flag.1) else do
    address ← address_at flag.1
    said ← number_at 8 0 GREATEST_CLOCK Value address.1
    Ok (Some (record { address = address.0; said = said.0 }), said.1)

unfoldable pub history_at : WordVersion → ViewId → List ℕ → Read ℕ
history_at First view bytes = Ok (0, bytes)
history_at Second view bytes = number_at 8 0 view.counter Value bytes

unfoldable pub place_at : WordVersion → List ℕ → Read (Option Place)
place_at version bytes = do
  flag ← number_at 1 0 2 Value bytes
  if flag.0 == 0 then Ok (None, flag.1) else do
    view ← view_id_at flag.1
    members ← number_at 1 1 MEMBERS Value view.1
    history ← history_at version view.0 members.1
    Ok (Some (record { view = view.0; members = members.0; stays = flag.0 == 2; history = history.0 }), history.1)

unfoldable pub said_at : WordVersion → List ℕ → Read Word
said_at version bytes = do
  source ← address_at bytes
  said ← number_at 8 0 GREATEST_CLOCK Value source.1
  echo ← echo_at said.1
  place ← place_at version echo.1
  Ok (record { version = version; source = source.0; said = said.0; echo = echo.0; place = place.0 }, place.1)

-- the word of a group at the front of some bytes
unfoldable pub word_at : List ℕ → List ℕ → Read Word
word_at group bytes = do
  version ← version_at bytes
  name ← group_at version.1
  if same_name name.0 group then said_at version.0 name.1 else Err Value

-- the word of a group that a datagram spells, or the refusal of its first field that fails
unfoldable pub word_of : List ℕ → List ℕ → Result Word WireError
word_of group bytes = do
  word ← word_at group bytes
  if length word.1 == 0 then Ok word.0 else Err Trailing
