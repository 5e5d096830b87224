-- The commands of the table leave it a table, and each is read from its spelling and from no other bytes.
use Rattle.std.proofs.Common.{◌≡◌, ℕ, ◌+◌, ◌≤◌, Bool, true, false, cond, eqb, ltb, List, ◌++◌, length, Option, Some, None, refl, sym, ap, subst, ◌∙◌, append_assoc, arith}
use Rattle.std.specs.Option.{is_none}
use Rattle.std.specs.List.{AllByRecursion}
use Rattle.std.proofs.lemmas.Bool.{eqb-true, eqb-false, ltb-false}
use Rattle.std.proofs.lemmas.Option.{cond_some}
use Rattle.byteorder.specs.Endian.{big_bytes}
use Rattle.big_endian.proofs.Bytes.{wide1}
use Rattle.big_endian.specs.Spelled.{address_bytes}
use Rattle.address.specs.Ids.{Address, ViewId, IsAddress, same_address}
use Rattle.view.specs.Members.{View}
use Rattle.view.specs.View.{view_refusal}
use Rattle.address.specs.declared.limits.TheConstants.{PAYLOAD, MEMBERS, GREATEST_NUMBER}
use Rattle.big_endian.specs.Reading.{number_at, address_at}
use Rattle.big_endian.proofs.PartLaws.{bind_some, IsPart, IsWithin, number_part, address_part, to_end_takes, to_end_again}
use Rattle.keyed_state.specs.KeyLaws.{key_part}
use Rattle.lock_table.specs.declared.command.Command.{Command}
use Rattle.lock_table.specs.declared.command.Command.TheVariants.{Acquire, Release, Roll}
use Rattle.keyed_state.specs.Tokens.{next_token, IsViewId}
use Rattle.lock_table.specs.Locks.{Table, IsTable, members, rolled, view_of, is_used_up, obeyed, carried_out}
use Rattle.keyed_state.specs.Spelling.{view_id_bytes, view_id_at, made_at, both_at, counted_at, counted_bytes}
use Rattle.keyed_state.specs.PartLaws.{both_part, counted_part, kind_takes}
use Rattle.keyed_state.specs.SpellingLaws.{view_id_part}
use Rattle.lock_table.specs.StepLaws.{acquired-is-table, released-is-table, rolled-is-table}
use Rattle.lock_table.specs.Commands.{IsView, view_bytes, view_at, IsRequest, request_bytes, request_at, requested, command_bytes, command_at, command_of, IsCommand, after_command, table_apply}

-- ---- views

none-is : {X : Type 0} (o : Option X) → is_none o ≡ true → o ≡ None
none-is None e = refl
none-is (Some x) e = absurd cc

-- a view's members are 1 to 16
count-of : (v : View) → view_refusal v.id v.members ≡ None → IsWithin 1 MEMBERS (length v.members)
count-of v sound = by (eqb (length v.members) 0) (ltb MEMBERS (length v.members)) refl refl sound where
  by : (a b : Bool) → eqb (length v.members) 0 ≡ a → ltb MEMBERS (length v.members) ≡ b → view_refusal v.id v.members ≡ None → IsWithin 1 MEMBERS (length v.members)
  by true b p q e = absurd (let n = rw p at e in cc)
  by false true p q e = absurd (let n = rw (p, q) at e in cc)
  by false false p q e = (let some = eqb-false _ _ p in omega (arith, some), ltb-false _ _ q)

view_parts : IsPart (both_at view_id_at (counted_at 1 1 MEMBERS address_at)) (λ p. view_id_bytes p.0 ++ counted_bytes 1 address_bytes p.1) (λ p. IsViewId p.0 × (IsWithin 1 MEMBERS (length p.1) × AllByRecursion IsAddress p.1))
view_parts = both_part view_id_part (counted_part address_part 1 1 MEMBERS wide1 (omega arith))

view_takes : (bytes : List ℕ) (v : View) (rest : List ℕ) → view_at bytes ≡ Some (v, rest) → (bytes ≡ view_bytes v ++ rest) × IsView v
unfolding view_at
view_takes bytes v rest e =
    let a = bind_some (both_at view_id_at (counted_at 1 1 MEMBERS address_at) bytes) (λ p. cond (is_none (view_refusal p.0.0 p.0.1)) (Some (record { id = p.0.0; members = p.0.1 }, p.1)) None) (v, rest) e in
    let t = view_parts.takes bytes a.0.0 a.0.1 a.1 in
    let d = cond_some (is_none (view_refusal a.0.0.0 a.0.0.1)) (record { id = a.0.0.0; members = a.0.0.1 }, a.0.1) (v, rest) a.2 in
    subst (λ (p : View × List ℕ). (bytes ≡ view_bytes p.0 ++ p.1) × IsView p.0) d.1 (t.0, record { id = t.1.0; members = t.1.1.1; sound = none-is (view_refusal a.0.0.0 a.0.0.1) d.0 })

view_again : (v : View) (rest : List ℕ) → IsView v → view_at (view_bytes v ++ rest) ≡ Some (v, rest)
unfolding view_at
view_again v rest is = rw (view_parts.again (v.id, v.members) rest (is.id, (count-of v is.sound, is.members)), is.sound) refl

view_part : IsPart view_at view_bytes IsView
view_part = record { takes = view_takes; again = view_again }

-- ---- a request

request_part : IsPart request_at request_bytes IsRequest
request_part = both_part view_id_part key_part

-- ---- the commands, behind their kind

abbrev kind_part : IsPart (number_at 1 1 3) (big_bytes 1) (IsWithin 1 3)
kind_part = number_part 1 1 3 wide1 (omega arith)

abbrev by_kind : ℕ → List ℕ → Option (Command × List ℕ)
by_kind n at = cond (eqb n 3) (made_at Roll (view_at at)) (made_at (requested n) (request_at at))

command_takes : (bytes : List ℕ) (c : Command) (rest : List ℕ) → command_at bytes ≡ Some (c, rest) → (bytes ≡ command_bytes c ++ rest) × IsCommand c
unfolding command_at
command_takes bytes c rest e =
    let a = bind_some (number_at 1 1 3 bytes) (λ kind. by_kind kind.0 kind.1) (c, rest) e in
    let t = kind_part.takes bytes a.0.0 a.0.1 a.1 in
    let f = by a.0.0 a.0.1 (eqb a.0.0 3) (eqb a.0.0 1) refl refl t.1 a.2 in
    (t.0 ∙ f.0, f.1)
  where
    Follows : ℕ → List ℕ → Type 0
    Follows n at = (big_bytes 1 n ++ at ≡ command_bytes c ++ rest) × IsCommand c

    -- a request of this kind
    asked : (n m : ℕ) (at : List ℕ) → n ≡ m → ((r : ViewId × List ℕ) → IsRequest r → (command_bytes (requested m r) ≡ big_bytes 1 m ++ request_bytes r) × IsCommand (requested m r)) → made_at (requested n) (request_at at) ≡ Some (c, rest) → Follows n at
    asked n m at same made f =
        subst (λ (i : ℕ). Follows i at) (sym same) (kind_takes request_part (requested m) command_bytes IsCommand m made at c rest (ap (λ (i : ℕ). made_at (requested i) (request_at at)) (sym same) ∙ f))

    by : (n : ℕ) (at : List ℕ) (x y : Bool) → eqb n 3 ≡ x → eqb n 1 ≡ y → IsWithin 1 3 n → cond x (made_at Roll (view_at at)) (made_at (requested n) (request_at at)) ≡ Some (c, rest) → Follows n at
    by n at true y p q within f = subst (λ (i : ℕ). Follows i at) (sym (eqb-true n 3 p)) (kind_takes view_part Roll command_bytes IsCommand 3 (λ v is. (refl, is)) at c rest f)
    by n at false true p q within f = asked n 1 at (eqb-true n 1 q) (λ r is. (refl, is)) f
    by n at false false p q within f = asked n 2 at (let three = eqb-false n 3 p in let one = eqb-false n 1 q in omega (arith, three, one, within.0, within.1)) (λ r is. (refl, is)) f

command_again : (c : Command) (rest : List ℕ) → IsCommand c → command_at (command_bytes c ++ rest) ≡ Some (c, rest)
unfolding command_at
command_again (Acquire view name) rest fits =
    ap command_at (append_assoc (big_bytes 1 1) (request_bytes (view, name)) rest)
    ∙ rw (kind_part.again 1 (request_bytes (view, name) ++ rest) (omega arith, omega arith), request_part.again (view, name) rest fits) refl
command_again (Release view name) rest fits =
    ap command_at (append_assoc (big_bytes 1 2) (request_bytes (view, name)) rest)
    ∙ rw (kind_part.again 2 (request_bytes (view, name) ++ rest) (omega arith, omega arith), request_part.again (view, name) rest fits) refl
command_again (Roll view) rest fits =
    ap command_at (append_assoc (big_bytes 1 3) (view_bytes view) rest)
    ∙ rw (kind_part.again 3 (view_bytes view ++ rest) (omega arith, omega arith), view_again view rest fits) refl

command_part : IsPart command_at command_bytes IsCommand
command_part = record { takes = command_takes; again = command_again }

-- what a payload says is spelled by it
pub command_is_spelled : (payload : List ℕ) (c : Command) → command_of payload ≡ Some c → IsCommand c × (command_bytes c ≡ payload)
unfolding command_of
command_is_spelled payload c e = to_end_takes command_at command_bytes IsCommand command_part payload c e

pub spelled_is_read : (c : Command) → IsCommand c → command_of (command_bytes c) ≡ Some c
unfolding command_of
spelled_is_read c fits = to_end_again command_at command_bytes IsCommand command_part c fits

-- ---- a message leaves a table a table

pub view-fits : (c : Command) → IsCommand c → IsViewId (view_of c)
view-fits (Acquire view name) fits = fits.0
view-fits (Release view name) fits = fits.0
view-fits (Roll view) fits = fits.id

obeyed-is-table : (from : Address) (c : Command) (s : Table) → IsTable s → IsAddress from → IsCommand c → (next_token (view_of c) s.last).count + length s.entries ≤ GREATEST_NUMBER → IsTable (obeyed from c s)
obeyed-is-table from (Acquire view name) s is address fits few = acquired-is-table from view name s is address fits.0 fits.1 (omega (arith, few))
obeyed-is-table from (Release view name) s is address fits few = released-is-table from view name s is fits.0 fits.1 (omega (arith, few))
obeyed-is-table from (Roll view) s is address fits few = by (same_address from view.id.creator) where
  by : (b : Bool) → IsTable (cond b (rolled (members view) view.id s.last s.entries) s)
  by true = rolled-is-table (members view) view.id s fits.id is few
  by false = is

pub carried_out-is-table : (from : Address) (c : Command) (s : Table) → IsTable s → IsAddress from → IsCommand c → IsTable (carried_out from c s)
carried_out-is-table from c s is address fits = by (is_used_up (view_of c) s) refl where
  by : (b : Bool) → is_used_up (view_of c) s ≡ b → IsTable (cond b s (obeyed from c s))
  by true e = is
  by false e = obeyed-is-table from c s is address fits (ltb-false _ _ e)

pub applied_is_table : (s : Table) (from : Address) (payload : List ℕ) → IsTable s → IsAddress from → length payload ≤ PAYLOAD → IsTable (table_apply s from payload)
applied_is_table s from payload is address short = by (command_of payload) refl where
  by : (o : Option Command) → command_of payload ≡ o → IsTable (after_command from s o)
  by None e = is
  by (Some c) e = carried_out-is-table from c s is address (command_is_spelled payload c e).0
