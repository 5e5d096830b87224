-- What is stamped with a view spells it.
use Rattle.std.proofs.Common.{◌≡◌, ℕ, Bool, true, false, cond, leb, ◌&&◌, List, ◌++◌, length, Option, Some, None, Result, Ok, Err, refl, sym, ap, subst, ◌∙◌, arith}
use Rattle.std.specs.Prelude.{codes}
use Rattle.std.specs.Str.{bytes_eq}
use Rattle.std.proofs.lemmas.Bool.{leb-true, and_parts}
use Rattle.std.proofs.lemmas.Option.{same_Some, cond_some}
use Rattle.address.specs.Ids.{ViewId, same_view_id}
use Rattle.address.proofs.SameIds.{same_view_id-true}
use Rattle.byteorder.specs.Endian.{big_bytes}
use Rattle.big_endian.proofs.Bytes.{wide1}
use Rattle.big_endian.proofs.PartLaws.{IsWithin, number_part}
use Rattle.vsync_text.specs.declared.fault.Fault.{Fault}
use Rattle.vsync_text.specs.declared.fault.Fault.TheVariants.{BadNumber}
use Rattle.vsync_text.specs.Lines.{field_of, behind_field}
use Rattle.vsync_text.specs.Fields.{made, and_rest, spelled_at, field_at, end_at, last}
use Rattle.keyed_state.specs.declared.entries.TheConstants.{KEY}
use Rattle.keyed_state.specs.Keys.{IsKey}
use Rattle.keyed_state.specs.Words.{key_of_text, key_field}
use Rattle.lock_table.specs.declared.command.Command.{Command}
use Rattle.lock_table.specs.declared.command.Command.TheVariants.{Acquire, Release, Roll}
use Rattle.lock_table.specs.Locks.{view_of}
use Rattle.lock_table.specs.Commands.{IsCommand, view_bytes, command_bytes, command_of}
use Rattle.keyed_state.specs.PartLaws.{same_parts}
use Rattle.keyed_state.specs.SpellingLaws.{view_id_part}
use Rattle.lock_table.specs.CommandLaws.{command_is_spelled, spelled_is_read}
use Rattle.lock_table.specs.Stamps.{FirstSpells, SaidSpells, StampedSpells}

-- a command that is stamped anew spells its view
pub stamped-spells : StampedSpells
stamped-spells view (Acquire v name) d is x e = subst (λ (y : Command). IsCommand y × (view_of y ≡ view)) (same_Some (Acquire view name) d e) ((is, x.1), refl)
stamped-spells view (Release v name) d is x e = subst (λ (y : Command). IsCommand y × (view_of y ≡ view)) (same_Some (Release view name) d e) ((is, x.1), refl)
stamped-spells view (Roll w) d is x e =
    let parts = cond_some (same_view_id w.id view) (Roll w) d e in
    subst (λ (y : Command). IsCommand y × (view_of y ≡ view)) parts.1 (x, same_view_id-true w.id view parts.0)

-- a command that is read from the spelling of another one spells the same view
read-view : (d c : Command) → IsCommand d → command_of (command_bytes d) ≡ Some c → view_of c ≡ view_of d
read-view d c is e = ap view_of (sym (same_Some d c (sym (spelled_is_read d is) ∙ e)))

-- the roll that is sent first in a view spells it
pub first-spells : FirstSpells
first-spells view c is e = let read = command_is_spelled (command_bytes (Roll view)) c e in by c read.0 read.1 where
  -- it begins with the same number
  same-kind : (n : ℕ) (r : List ℕ) → IsWithin 1 3 n → big_bytes 1 n ++ r ≡ command_bytes (Roll view) → (n ≡ 3) × (r ≡ view_bytes view)
  same-kind n r fits same = same_parts (number_part 1 1 3 wide1 (omega arith)) n 3 r (view_bytes view) fits (omega arith, omega arith) same

  by : (c : Command) → IsCommand c → command_bytes c ≡ command_bytes (Roll view) → view_of c ≡ view.id
  by (Acquire v name) fits same = absurd (let bad : 1 ≡ 3 = (same-kind 1 _ (omega arith, omega arith) same).0 in cc)
  by (Release v name) fits same = absurd (let bad : 2 ≡ 3 = (same-kind 2 _ (omega arith, omega arith) same).0 in cc)
  by (Roll w) fits same = (same_parts view_id_part w.id view.id _ _ fits.id is (same-kind 3 _ (omega arith, omega arith) same).1).0

-- a key that ends a line is one
text-key : (field name : List ℕ) → key_of_text field ≡ Some name → IsKey name
text-key field name e =
    let parts = cond_some (leb 1 (length field) && leb (length field) KEY) field name e in
    let both = and_parts (leb 1 (length field)) (leb (length field) KEY) parts.0 in
    subst IsKey parts.1 (leb-true 1 (length field) both.0, leb-true (length field) KEY both.1)

-- what is read of a field with which a text ends
ended : (o : Option (List ℕ)) (behind : Option (List ℕ)) (name : List ℕ) → last (and_rest o behind) ≡ Ok name → o ≡ Some name
unfolding last end_at
ended None behind name e = absurd cc
ended (Some x) None name e = let same : x ≡ name = cc in ap Some same
ended (Some x) (Some more) name e = absurd cc

-- the key with which a text ends is one
last-key : (rest : Option (List ℕ)) (name : List ℕ) → last (key_field rest) ≡ Ok name → IsKey name
unfolding last spelled_at field_at
last-key None name e = absurd cc
last-key (Some text) name e = text-key (field_of text) name (ended (key_of_text (field_of text)) (behind_field text) name e)

-- a command of words that are said in a view, whatever it asks for the name, spells that view
named-spells : (make : List ℕ → Command) (view : ViewId) (rest : Option (List ℕ)) (payload : List ℕ) (c : Command) → ((name : List ℕ) → IsKey name → IsCommand (make name) × (view_of (make name) ≡ view))
    → made command_bytes (made make (last (key_field rest))) ≡ Ok payload → command_of payload ≡ Some c → view_of c ≡ view
named-spells make view rest payload c is = by (last (key_field rest)) refl where
  by : (r : Result (List ℕ) Fault) → last (key_field rest) ≡ r → made command_bytes (made make r) ≡ Ok payload → command_of payload ≡ Some c → view_of c ≡ view
  by (Err f) at e read = absurd cc
  by (Ok name) at e read =
      let key = is name (last-key rest name at) in
      let bytes : command_bytes (make name) ≡ payload = cc in
      read-view (make name) c key.0 (ap command_of bytes ∙ read) ∙ key.1

-- the payload of words that are said in a view spells it
pub said-spells : SaidSpells
said-spells view text payload c is = by (bytes_eq (field_of text) (codes "acquire")) (bytes_eq (field_of text) (codes "release")) where
  by : (x y : Bool) → made command_bytes (cond x (made (Acquire view) (last (key_field (behind_field text)))) (cond y (made (Release view) (last (key_field (behind_field text)))) (Err BadNumber))) ≡ Ok payload
      → command_of payload ≡ Some c → view_of c ≡ view
  by true y e read = named-spells (Acquire view) view (behind_field text) payload c (λ name key. ((is, key), refl)) e read
  by false true e read = named-spells (Release view) view (behind_field text) payload c (λ name key. ((is, key), refl)) e read
  by false false e read = absurd cc
