-- How a field is read from the front of some bytes: its value and the bytes after it, or its refusal.
use Rattle.std.specs.Prelude.{◌≡◌, ℕ, zero, suc, List, [], ◌∷◌, length, take, drop, Result, Ok, Err, nat_lt, nat_le, ◌&&◌, if◌then◌else◌, Bool, false, ◌==◌}
use Rattle.byteorder.specs.Endian.{big_number}
use Rattle.wire_values.specs.declared.error.WireError.{WireError}
use Rattle.wire_values.specs.declared.error.WireError.TheVariants.{Short, NotOurs, Version, Kind, Length, Value, Trailing}

abbrev pub Read : Type 0 → Type 0
Read A = Result (A × List ℕ) WireError

infixl 10 ◌>>=◌
abbrev pub ◌>>=◌ : {A B : Type 0} → Result A WireError → (A → Result B WireError) → Result B WireError
(Ok x) >>= f = f x
(Err e) >>= f = Err e

-- what a function returned, seen by view, is what reading gives
abbrev pub IsRead : {A B : Type 0} → (A → B) → Result A WireError → Result B WireError → Type 0
IsRead view (Ok x) read = read ≡ Ok (view x)
IsRead view (Err e) read = read ≡ Err e

-- n bytes; refused as short where fewer remain
unfoldable pub bytes_at : ℕ → List ℕ → Read (List ℕ)
bytes_at n bytes = if nat_lt (length bytes) n then Err Short else Ok (take n bytes, drop n bytes)

-- a number of n bytes, from low to high; another one is refused as e
unfoldable pub number_at : ℕ → ℕ → ℕ → WireError → List ℕ → Read ℕ
number_at n low high e bytes = do
  front ← bytes_at n bytes
  if nat_le low (big_number n front.0) && nat_le (big_number n front.0) high then Ok (big_number n front.0, front.1) else Err e

-- n values, each read as read says
unfoldable pub list_at : {A : Type 0} → (List ℕ → Read A) → ℕ → List ℕ → Read (List A)
list_at read zero bytes = Ok ([], bytes)
list_at read (suc n) bytes = do
  first ← read bytes
  others ← list_at read n first.1
  Ok (first.0 ∷ others.0, others.1)

-- the values that were read
abbrev pub listed : {A : Type 0} → Read (List A) → List A
listed (Ok x) = x.0
listed (Err e) = []

-- whether reading took all of the bytes
abbrev pub is_whole : {A : Type 0} → Read A → Bool
is_whole (Ok x) = length x.1 == 0
is_whole (Err e) = false

-- the bytes behind what was read
abbrev pub rest_of : {A : Type 0} → Read A → Result (List ℕ) WireError
rest_of (Ok x) = Ok x.1
rest_of (Err e) = Err e

-- the number of each refusal
abbrev pub error_number : WireError → ℕ
error_number Short = 20
error_number NotOurs = 21
error_number Version = 22
error_number Kind = 23
error_number Length = 24
error_number Value = 25
error_number Trailing = 26
