-- The fields that packets are made of: which values they have, how each is spelled, how it is read.
use Rattle.std.specs.Prelude.{◌≤◌, ◌<◌, ℕ, List, ◌++◌, length, take, drop, Ok, Err, nat_le, ◌&&◌, if◌then◌else◌}
use Rattle.byteorder.specs.Endian.{big_bytes, big_number}
use Rattle.address.specs.Ids.{Address, ViewId}
pub use Rattle.address.specs.Ids.{IsAddress}
pub use Rattle.big_endian.specs.Spelled.{address_bytes}
use Rattle.address.specs.declared.limits.TheConstants.{GREATEST_NUMBER, PAYLOAD}
use Rattle.wire_values.specs.declared.error.WireError.TheVariants.{Length, Value}
use Rattle.wire_values.specs.Values.{Entry}
use Rattle.wire_values.specs.Reading.{Read, ◌>>=◌, bytes_at, number_at}

-- ---- an address: the node in two bytes, the incarnation in four; neither is 0

abbrev pub node_in : List ℕ → ℕ
node_in front = big_number 2 (take 2 front)

abbrev pub incarnation_in : List ℕ → ℕ
incarnation_in front = big_number 4 (drop 2 front)

unfoldable pub address_at : List ℕ → Read Address
address_at bytes = do
  front ← bytes_at 6 bytes
  if nat_le 1 (node_in front.0) && nat_le 1 (incarnation_in front.0)
      then Ok (record { node = node_in front.0; incarnation = incarnation_in front.0 }, front.1)
      else Err Value

-- ---- a number: 1 to the greatest, in eight bytes; and a count, which may be 0

abbrev pub IsNumber : ℕ → Type 0
IsNumber n = (1 ≤ n) × (n ≤ GREATEST_NUMBER)

abbrev pub IsCount : ℕ → Type 0
IsCount n = n ≤ GREATEST_NUMBER

abbrev pub number_bytes : ℕ → List ℕ
number_bytes n = big_bytes 8 n

-- ---- a view id: the counter, a number, and the creator's address

pub record IsViewId (v : ViewId) : Type 0 where
  pub counter : IsNumber v.counter
  pub creator : IsAddress v.creator

abbrev pub view_id_bytes : ViewId → List ℕ
view_id_bytes v = number_bytes v.counter ++ address_bytes v.creator

unfoldable pub view_id_at : List ℕ → Read ViewId
view_id_at bytes = do
  counter ← number_at 8 1 GREATEST_NUMBER Value bytes
  creator ← address_at counter.1
  Ok (record { counter = counter.0; creator = creator.0 }, creator.1)

-- ---- a payload: its length in two bytes, and the bytes

abbrev pub payload_bytes : List ℕ → List ℕ
payload_bytes x = big_bytes 2 (length x) ++ x

unfoldable pub payload_at : List ℕ → Read (List ℕ)
payload_at bytes = do
  len ← number_at 2 0 PAYLOAD Length bytes
  bytes_at len.0 len.1

-- ---- an entry: sender, number, payload; in a report its place stands before it

pub record IsEntry (e : Entry) : Type 0 where
  pub sender : IsAddress e.sender
  pub number : IsNumber e.number
  pub payload : length e.payload ≤ PAYLOAD

abbrev pub entry_bytes : Entry → List ℕ
entry_bytes e = address_bytes e.sender ++ number_bytes e.number ++ payload_bytes e.payload

unfoldable pub entry_at : List ℕ → Read Entry
entry_at bytes = do
  sender ← address_at bytes
  number ← number_at 8 1 GREATEST_NUMBER Value sender.1
  payload ← payload_at number.1
  Ok (record { sender = sender.0; number = number.0; payload = payload.0 }, payload.1)

pub record IsPlaced (h : ℕ × Entry) : Type 0 where
  pub place : IsNumber h.0
  pub entry : IsEntry h.1

abbrev pub placed_bytes : ℕ × Entry → List ℕ
placed_bytes h = number_bytes h.0 ++ entry_bytes h.1

unfoldable pub placed_at : List ℕ → Read (ℕ × Entry)
placed_at bytes = do
  place ← number_at 8 1 GREATEST_NUMBER Value bytes
  entry ← entry_at place.1
  Ok ((place.0, entry.0), entry.1)
