-- The lists in packets: members, entries with their places, entries in a row.
use Rattle.std.specs.Prelude.{◌≡◌, ◌≤◌, ◌+◌, ℕ, zero, suc, Bool, true, false, List, [], ◌∷◌, ◌++◌, length, Option, Some, None, Ok, Err, nat_le, nat_lt, ◌==◌, ◌&&◌, not, min, if◌then◌else◌, IfSome}
use Rattle.std.specs.List.{flat_map, AllByRecursion}
use Rattle.std.specs.Option.{option_map_or}
use Rattle.byteorder.specs.Endian.{big_bytes}
use Rattle.address.specs.Ids.{Address, ViewId, same_address}
use Rattle.address.specs.declared.limits.TheConstants.{GREATEST_NUMBER, MEMBERS, WINDOW, STATE, WHOLE_STATE}
use Rattle.view.specs.Members.{View, stands_in}
use Rattle.view.specs.View.{view_refusal}
use Rattle.wire_values.specs.declared.error.WireError.TheVariants.{Length, Value}
use Rattle.wire_values.specs.Values.{Entry, Report, Install, Chunk, nothing_reported}
use Rattle.wire_values.specs.declared.values.state.GivenState.{GivenState}
use Rattle.wire_values.specs.declared.values.state.GivenState.TheVariants as given
use Rattle.wire_values.specs.Chunks.{IsTotal, IsPlace, IsCut, before_chunk, chunk_len}
use Rattle.wire_values.specs.Reading.{Read, ◌>>=◌, bytes_at, number_at, list_at}
use Rattle.wire_values.specs.Fields.{IsAddress, IsViewId, IsEntry, IsPlaced, address_bytes, number_bytes, view_id_bytes, entry_bytes, placed_bytes, address_at, view_id_at, entry_at}

-- ---- a list of addresses: how many in a byte, and the addresses

abbrev pub addresses_bytes : List Address → List ℕ
addresses_bytes addresses = big_bytes 1 (length addresses) ++ flat_map address_bytes addresses

-- ---- a view: its id and its members, each once, the creator first

pub record IsView (v : View) : Type 0 where
  pub id : IsViewId v.id
  pub members : AllByRecursion IsAddress v.members
  pub sound : view_refusal v.id v.members ≡ None

abbrev pub view_bytes : View → List ℕ
view_bytes v = view_id_bytes v.id ++ addresses_bytes v.members

-- whether an address may stand behind those before it
abbrev pub may_follow : ViewId → List Address → Address → Bool
may_follow id [] a = same_address id.creator a
may_follow id (b ∷ before) a = not (stands_in a (b ∷ before))

-- n members behind those before them
unfoldable pub members_at : ViewId → ℕ → List Address → List ℕ → Read (List Address)
members_at id zero before bytes = Ok (before, bytes)
members_at id (suc n) before bytes = do
  a ← address_at bytes
  if may_follow id before a.0 then members_at id n (before ++ a.0 ∷ []) a.1 else Err Value

unfoldable pub view_at : List ℕ → Read View
view_at bytes = do
  id ← view_id_at bytes
  count ← number_at 1 1 MEMBERS Length id.1
  members ← members_at id.0 count.0 [] count.1
  Ok (record { id = id.0; members = members.0 }, members.1)

-- ---- those who go together: one or more of the members, in member order

-- the members behind an address
abbrev pub rest_after : Address → List Address → Option (List Address)
rest_after a [] = None
rest_after a (m ∷ members) = if same_address a m then Some members else rest_after a members

abbrev pub is_in_order : List Address → List Address → Bool
is_in_order [] members = true
is_in_order (a ∷ others) members = option_map_or (is_in_order others) (rest_after a members) false

-- n of the members that are left, behind those before them
unfoldable pub together_at : ℕ → List Address → List Address → List ℕ → Read (List Address)
together_at zero left before bytes = Ok (before, bytes)
together_at (suc n) left before bytes = do
  a ← address_at bytes
  option_map_or (λ rest. together_at n rest (before ++ a.0 ∷ []) a.1) (rest_after a.0 left) (Err Value)

-- ---- a report

-- the greatest place that may follow: the very next until the delivered count is reached
abbrev pub highest_next : ℕ → ℕ → ℕ → ℕ
highest_next stable delivered last = if nat_lt last delivered then last + 1 else min (stable + WINDOW) GREATEST_NUMBER

-- each place is above the last and at most the highest that may follow it
abbrev pub are_held : ℕ → ℕ → ℕ → List (ℕ × Entry) → Bool
are_held stable delivered last [] = true
are_held stable delivered last (h ∷ held) =
    (nat_le (last + 1) h.0 && nat_le h.0 (highest_next stable delivered last)) && are_held stable delivered h.0 held

-- a report of a view: the counts lie at most the window apart, and there are at most so many entries as the
-- window has, but at least those up to the delivered count
abbrev pub is_filled : Report → Bool
is_filled r =
    nat_le r.stable r.delivered && nat_le r.delivered (min (r.stable + WINDOW) GREATEST_NUMBER)
    && nat_le (length r.held) WINDOW && nat_le r.delivered (r.stable + length r.held)
    && are_held r.stable r.delivered r.stable r.held

-- a report of no view has no counts and no entries
abbrev pub is_nothing : Report → Bool
is_nothing r = r.stable == 0 && r.delivered == 0 && length r.held == 0

abbrev pub is_report : Report → Bool
is_report r = option_map_or (λ _. is_filled r) r.previous (is_nothing r)

pub record IsReport (r : Report) : Type 0 where
  pub previous : IfSome r.previous IsViewId
  pub entries : AllByRecursion IsPlaced r.held
  pub rules : is_report r ≡ true

abbrev pub held_bytes : List (ℕ × Entry) → List ℕ
held_bytes held = big_bytes 1 (length held) ++ flat_map placed_bytes held

abbrev pub filled_bytes : ViewId → Report → List ℕ
filled_bytes previous r = view_id_bytes previous ++ number_bytes r.stable ++ number_bytes r.delivered ++ held_bytes r.held

abbrev pub report_bytes : Report → List ℕ
report_bytes r = option_map_or (λ v. big_bytes 1 1 ++ filled_bytes v r) r.previous (big_bytes 1 0)

-- n entries, the places of which are above the last
unfoldable pub held_at : ℕ → ℕ → ℕ → ℕ → List ℕ → Read (List (ℕ × Entry))
held_at stable delivered last zero bytes = Ok ([], bytes)
held_at stable delivered last (suc n) bytes = do
  place ← number_at 8 (last + 1) (highest_next stable delivered last) Value bytes
  entry ← entry_at place.1
  others ← held_at stable delivered place.0 n entry.1
  Ok ((place.0, entry.0) ∷ others.0, others.1)

-- how many entries there are: above the window is a wrong length, too few for the delivered count a wrong value
unfoldable pub held_count_at : ℕ → ℕ → List ℕ → Read ℕ
held_count_at stable delivered bytes = do
  count ← number_at 1 0 WINDOW Length bytes
  if nat_le delivered (stable + count.0) then Ok count else Err Value

unfoldable pub filled_at : List ℕ → Read Report
filled_at bytes = do
  previous ← view_id_at bytes
  stable ← number_at 8 0 GREATEST_NUMBER Value previous.1
  delivered ← number_at 8 stable.0 (min (stable.0 + WINDOW) GREATEST_NUMBER) Value stable.1
  count ← held_count_at stable.0 delivered.0 delivered.1
  held ← held_at stable.0 delivered.0 stable.0 count.0 count.1
  Ok (record { previous = Some previous.0; stable = stable.0; delivered = delivered.0; held = held.0 }, held.1)

unfoldable pub report_at : List ℕ → Read Report
report_at bytes = do
  flag ← number_at 1 0 1 Value bytes
  if flag.0 == 0 then Ok (nothing_reported, flag.1) else filled_at flag.1

-- ---- an install

abbrev pub is_install : Install → Bool
is_install i =
    nat_le 1 (length i.together) && nat_le (length i.together) MEMBERS && is_in_order i.together i.view.members
    && nat_le (length i.items) WINDOW && nat_le (i.base + length i.items) GREATEST_NUMBER

-- the state itself only where it is short
abbrev pub IsGiven : GivenState → Type 0
IsGiven given.Nothing = Unit {0}
IsGiven (given.Whole s) = length s ≤ WHOLE_STATE
IsGiven (given.Chunked total) = IsTotal total

pub record IsInstall (i : Install) : Type 0 where
  pub view : IsView i.view
  pub together : AllByRecursion IsAddress i.together
  pub items : AllByRecursion IsEntry i.items
  pub state : IsGiven i.state
  pub rules : is_install i ≡ true

abbrev pub items_bytes : List Entry → List ℕ
items_bytes items = big_bytes 1 (length items) ++ flat_map entry_bytes items

abbrev pub state_bytes : GivenState → List ℕ
state_bytes given.Nothing = big_bytes 1 0
state_bytes (given.Whole s) = big_bytes 1 1 ++ (big_bytes 4 (length s) ++ s)
state_bytes (given.Chunked total) = big_bytes 1 2 ++ big_bytes 4 total

-- what is given to the one that is instructed
abbrev pub given_bytes : Install → List ℕ
given_bytes i = number_bytes i.base ++ items_bytes i.items ++ state_bytes i.state

abbrev pub install_bytes : Install → List ℕ
install_bytes i = view_bytes i.view ++ addresses_bytes i.together ++ given_bytes i

-- how many entries there are: above the window is a wrong length, past the greatest number a wrong value
unfoldable pub items_count_at : ℕ → List ℕ → Read ℕ
items_count_at base bytes = do
  count ← number_at 1 0 WINDOW Length bytes
  if nat_le (base + count.0) GREATEST_NUMBER then Ok count else Err Value

unfoldable pub total_at : List ℕ → Read ℕ
total_at bytes = number_at 4 (WHOLE_STATE + 1) STATE Length bytes

unfoldable pub whole_at : List ℕ → Read GivenState
whole_at bytes = do
  len ← number_at 4 0 WHOLE_STATE Length bytes
  state ← bytes_at len.0 len.1
  Ok (given.Whole state.0, state.1)

unfoldable pub chunked_at : List ℕ → Read GivenState
chunked_at bytes = do
  total ← total_at bytes
  Ok (given.Chunked total.0, total.1)

unfoldable pub state_at : List ℕ → Read GivenState
state_at bytes = do
  flag ← number_at 1 0 2 Value bytes
  if flag.0 == 0 then Ok (given.Nothing, flag.1) else if flag.0 == 1 then whole_at flag.1 else chunked_at flag.1

unfoldable pub given_at : View → List Address → List ℕ → Read Install
given_at view together bytes = do
  base ← number_at 8 0 GREATEST_NUMBER Value bytes
  count ← items_count_at base.0 base.1
  items ← list_at entry_at count.0 count.1
  state ← state_at items.1
  Ok (record { view = view; together = together; base = base.0; items = items.0; state = state.0 }, state.1)

unfoldable pub install_at : List ℕ → Read Install
install_at bytes = do
  view ← view_at bytes
  len ← number_at 1 1 MEMBERS Length view.1
  together ← together_at len.0 view.0.members [] len.1
  given_at view.0 together.0 together.1

-- ---- a chunk of a state

pub record IsChunk (c : Chunk) : Type 0 where
  pub total : IsTotal c.total
  pub place : IsPlace c.total c.index
  pub cut : IsCut c.total c.index c.bytes

abbrev pub chunk_bytes : Chunk → List ℕ
chunk_bytes c = big_bytes 4 c.total ++ big_bytes 1 c.index ++ c.bytes

-- which chunk of a state with so many bytes: one that it has not is a wrong value
unfoldable pub index_at : ℕ → List ℕ → Read ℕ
index_at total bytes = do
  index ← number_at 1 1 255 Value bytes
  if nat_lt (before_chunk index.0) total then Ok index else Err Value

unfoldable pub chunk_at : List ℕ → Read Chunk
chunk_at bytes = do
  total ← total_at bytes
  index ← index_at total.0 total.1
  text ← bytes_at (chunk_len total.0 index.0) index.1
  Ok (record { total = total.0; index = index.0; bytes = text.0 }, text.1)
