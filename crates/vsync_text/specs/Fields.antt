-- How the fields of a line are read, from the left. What is left of a line is None where no space stands there, and else the
-- text behind that space.
use Rattle.std.specs.Prelude.{ℕ, List, Option, None, Some, Result, Ok, Err}
use Rattle.address.specs.Ids.{Address}
use Rattle.address.specs.declared.limits.TheConstants.{GREATEST_NUMBER, GREATEST_NODE}
use Rattle.vsync_text.specs.declared.fault.Fault.{Fault}
use Rattle.vsync_text.specs.declared.fault.Fault.TheVariants.{BadNumber, MissingField}
use Rattle.vsync_text.specs.Lines.{field_of, behind_field}
use Rattle.vsync_text.specs.Numbers.{number_in}
use Rattle.vsync_text.specs.AddressText.{address_of_text}

-- a value with what is left behind it, or a fault
abbrev pub Read : Type 0 → Type 0
Read A = Result (A × Option (List ℕ)) Fault

infixl 10 ◌>>=◌
abbrev pub ◌>>=◌ : {A B : Type 0} → Result A Fault → (A → Result B Fault) → Result B Fault
(Ok x) >>= f = f x
(Err e) >>= f = Err e

-- what is made of what was read
abbrev pub made : {A B : Type 0} → (A → B) → Result A Fault → Result B Fault
made f (Ok x) = Ok (f x)
made f (Err e) = Err e

-- the next field, if there is one
unfoldable pub field_at : Option (List ℕ) → Read (List ℕ)
field_at None = Err MissingField
field_at (Some text) = Ok (field_of text, behind_field text)

-- what a field spells, if it spells something, with what is left behind it
abbrev pub and_rest : {A : Type 0} → Option A → Option (List ℕ) → Read A
and_rest None rest = Err BadNumber
and_rest (Some x) rest = Ok (x, rest)

-- the next field, as what it spells
unfoldable pub spelled_at : {A : Type 0} → (List ℕ → Option A) → Option (List ℕ) → Read A
spelled_at spells rest = do
  field ← field_at rest
  and_rest (spells field.0) field.1

-- nothing is left
unfoldable pub end_at : Option (List ℕ) → Result Unit Fault
end_at None = Ok tt
end_at (Some more) = Err BadNumber

-- what stands last on a line
unfoldable pub last : {A : Type 0} → Read A → Result A Fault
last read = do
  value ← read
  end ← end_at value.1
  Ok value.0

-- the next field as a node, 1 to 65535
abbrev pub node_field : Option (List ℕ) → Read ℕ
node_field rest = spelled_at (number_in 1 GREATEST_NODE) rest

-- the next field as an address
abbrev pub address_field : Option (List ℕ) → Read Address
address_field rest = spelled_at address_of_text rest

-- the next field as a packet's number, 1 to `GREATEST_NUMBER`
abbrev pub packet_field : Option (List ℕ) → Read ℕ
packet_field rest = spelled_at (number_in 1 GREATEST_NUMBER) rest
