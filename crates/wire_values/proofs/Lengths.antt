-- How long the spellings of entries are.
use Rattle.std.proofs.Common.{◌≡◌, ℕ, ◌+◌, ◌*◌, ◌≤◌, List, [], ◌∷◌, ◌++◌, length, arith}
use Rattle.std.specs.List.{flat_map, AllByRecursion}
use Rattle.std.proofs.lemmas.List.{length-append}
use Rattle.byteorder.specs.Endian.{big_bytes}
use Rattle.address.specs.declared.limits.TheConstants.{PAYLOAD}
use Rattle.wire_values.specs.Values.{Entry}
use Rattle.wire_values.specs.Fields.{IsEntry, IsPlaced, address_bytes, number_bytes, payload_bytes, entry_bytes, placed_bytes}

pub length-entry : (m : Entry) → length (entry_bytes m) ≡ 16 + length m.payload
length-entry m = omega (arith, length-append (address_bytes m.sender ++ number_bytes m.number) (payload_bytes m.payload), length-append (big_bytes 2 (length m.payload)) m.payload)

pub length-items : (items : List Entry) → AllByRecursion IsEntry items → length (flat_map entry_bytes items) ≤ (16 + PAYLOAD) * length items
length-items [] fits = omega arith
length-items (m ∷ items) fits = let e = length-items items fits.1 in omega (arith, length-append (entry_bytes m) (flat_map entry_bytes items), length-entry m, fits.0.payload)

pub length-held : (held : List (ℕ × Entry)) → AllByRecursion IsPlaced held → length (flat_map placed_bytes held) ≤ (24 + PAYLOAD) * length held
length-held [] fits = omega arith
length-held (h ∷ held) fits = let e = length-held held fits.1 in omega (arith, length-append (placed_bytes h) (flat_map placed_bytes held), length-append (number_bytes h.0) (entry_bytes h.1), length-entry h.1, fits.0.entry.payload)
