-- How a value is read from the front of some bytes: the value and what follows it, if the bytes begin with one.
use Rattle.std.specs.Prelude.{◌≡◌, ℕ, zero, suc, List, [], ◌∷◌, ◌++◌, length, take, drop, Option, Some, None, nat_eq, nat_lt, nat_le, Bool, ◌&&◌, if◌then◌else◌}
use Rattle.std.specs.List.{list_all}
use Rattle.byteorder.specs.Endian.{big_bytes, big_number}
use Rattle.address.specs.Ids.{Address}
use Rattle.address.specs.declared.limits.TheConstants.{GREATEST_INCARNATION, GREATEST_NODE}

abbrev pub Read : Type 0 → Type 0
Read A = Option (A × List ℕ)

infixl 10 ◌>>=◌
abbrev pub ◌>>=◌ : {A B : Type 0} → Option A → (A → Option B) → Option B
(Some x) >>= f = f x
None >>= f = None

-- what a function returned, seen by view, is what reading gives
abbrev pub IsReadOrNone : {A B : Type 0} → (A → B) → Option A → Option B → Type 0
IsReadOrNone view (Some x) read = read ≡ Some (view x)
IsReadOrNone view None read = read ≡ None

-- whether each is a byte, below 256
abbrev pub are_bytes : List ℕ → Bool
are_bytes numbers = list_all (λ n. nat_lt n 256) numbers

-- n bytes, as they stand
unfoldable pub bytes_at : ℕ → List ℕ → Read (List ℕ)
bytes_at n bytes = if nat_le n (length bytes) then Some (take n bytes, drop n bytes) else None

-- a number of n bytes, from low to high
unfoldable pub number_at : ℕ → ℕ → ℕ → List ℕ → Read ℕ
number_at n low high bytes = do
  front ← bytes_at n bytes
  if are_bytes front.0 && (nat_le low (big_number n front.0) && nat_le (big_number n front.0) high)
      then Some (big_number n front.0, front.1)
      else None

-- bytes behind their length, which takes two bytes: at most so many
abbrev pub sized_bytes : List ℕ → List ℕ
sized_bytes bytes = big_bytes 2 (length bytes) ++ bytes

unfoldable pub sized_at : ℕ → List ℕ → Read (List ℕ)
sized_at most bytes = do
  len ← number_at 2 0 most bytes
  bytes_at len.0 len.1

-- an address: the node in two bytes, the incarnation in four; neither is 0
unfoldable pub address_at : List ℕ → Read Address
address_at bytes = do
  node ← number_at 2 1 GREATEST_NODE bytes
  incarnation ← number_at 4 1 GREATEST_INCARNATION node.1
  Some (record { node = node.0; incarnation = incarnation.0 }, incarnation.1)

-- n values one behind the other, each read as read says
unfoldable pub list_at : {A : Type 0} → (List ℕ → Read A) → ℕ → List ℕ → Read (List A)
list_at read zero bytes = Some ([], bytes)
list_at read (suc n) bytes = do
  first ← read bytes
  others ← list_at read n first.1
  Some (first.0 ∷ others.0, others.1)

-- what is read of bytes behind which nothing follows
abbrev pub read_to_end : {A : Type 0} → (List ℕ → Read A) → List ℕ → Option A
read_to_end read bytes = read bytes >>= λ x. if nat_eq (length x.1) 0 then Some x.0 else None
