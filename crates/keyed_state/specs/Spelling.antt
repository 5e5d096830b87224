-- How bytes spell view ids and tokens, pairs and lists.
use Rattle.std.specs.Prelude.{ℕ, List, ◌++◌, length, Some}
use Rattle.std.specs.List.{flat_map}
use Rattle.byteorder.specs.Endian.{big_bytes}
use Rattle.address.specs.Ids.{ViewId}
use Rattle.address.specs.declared.limits.TheConstants.{GREATEST_NUMBER}
use Rattle.big_endian.specs.Spelled.{address_bytes}
use Rattle.big_endian.specs.Reading.{Read, ◌>>=◌, number_at, address_at, list_at}
use Rattle.keyed_state.specs.declared.token.Token.{Token}

-- ---- a view id: its counter in eight bytes, and its creator

abbrev pub view_id_bytes : ViewId → List ℕ
view_id_bytes v = big_bytes 8 v.counter ++ address_bytes v.creator

unfoldable pub view_id_at : List ℕ → Read ViewId
view_id_at bytes = do
  counter ← number_at 8 1 GREATEST_NUMBER bytes
  creator ← address_at counter.1
  Some (record { counter = counter.0; creator = creator.0 }, creator.1)

-- ---- a token: its view, and its count in eight bytes

abbrev pub token_bytes : Token → List ℕ
token_bytes t = view_id_bytes t.view ++ big_bytes 8 t.count

unfoldable pub token_at : List ℕ → Read Token
token_at bytes = do
  view ← view_id_at bytes
  count ← number_at 8 0 GREATEST_NUMBER view.1
  Some (record { view = view.0; count = count.0 }, count.1)

-- ---- what is made of a value

abbrev pub made_at : {A B : Type 0} → (A → B) → Read A → Read B
made_at {B = B} make read = ◌>>=◌ {B = B × List ℕ} read (λ x. Some (make x.0, x.1))

-- ---- two values, one behind the other

abbrev pub both_at : {A B : Type 0} → (List ℕ → Read A) → (List ℕ → Read B) → List ℕ → Read (A × B)
both_at first second bytes = do
  a ← first bytes
  b ← second a.1
  Some ((a.0, b.0), b.1)

-- ---- so many values, behind their number in n bytes, which is from low to high

abbrev pub counted_bytes : {A : Type 0} → ℕ → (A → List ℕ) → List A → List ℕ
counted_bytes n spell xs = big_bytes n (length xs) ++ flat_map spell xs

abbrev pub counted_at : {A : Type 0} → ℕ → ℕ → ℕ → (List ℕ → Read A) → List ℕ → Read (List A)
counted_at n low high read bytes = do
  count ← number_at n low high bytes
  list_at read count.0 count.1
