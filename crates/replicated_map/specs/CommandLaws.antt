-- The commands of the map leave it a map, and each is read from its spelling and from no other bytes.
use Rattle.std.proofs.Common.{◌≡◌, ℕ, ◌≤◌, Bool, true, false, cond, eqb, List, ◌++◌, length, Option, Some, None, refl, sym, ap, subst, ◌∙◌, append_assoc, arith}
use Rattle.std.proofs.lemmas.Bool.{eqb-true, eqb-false}
use Rattle.byteorder.specs.Endian.{big_bytes}
use Rattle.big_endian.proofs.Bytes.{wide1}
use Rattle.address.specs.Ids.{Address, IsAddress}
use Rattle.address.specs.declared.limits.TheConstants.{PAYLOAD}
use Rattle.big_endian.specs.Reading.{number_at}
use Rattle.big_endian.proofs.PartLaws.{bind_some, some_is, IsPart, IsWithin, number_part, to_end_takes, to_end_again}
use Rattle.keyed_state.specs.Keys.{IsKey, key_bytes, key_at}
use Rattle.keyed_state.specs.KeyLaws.{key_part}
use Rattle.keyed_state.specs.Tokens.{IsViewId, IsToken}
use Rattle.keyed_state.specs.PartLaws.{both_part, kind_takes}
use Rattle.keyed_state.specs.Spelling.{view_id_bytes, view_id_at, token_bytes, token_at, made_at, both_at}
use Rattle.keyed_state.specs.SpellingLaws.{view_id_part, token_part}
use Rattle.replicated_map.specs.declared.command.Command.{Command}
use Rattle.replicated_map.specs.declared.command.Command.TheVariants.{Put, Remove, Replace, Clear, ReplaceAt, RemoveAt}
use Rattle.replicated_map.specs.Entries.{MapState, IsMap, held_of, value_in, put_within, removed}
use Rattle.replicated_map.specs.Values.{value_bytes, value_at}
use Rattle.replicated_map.specs.Commands.{is_expected, has_version, carried_out, expected_bytes, pair_bytes, command_bytes, expected_at, pair_at, put_at, replace_at, replace_version_at, remove_version_at, command_by, command_at, command_of, IsExpected, IsPair, IsCommand, after_command, map_apply}
use Rattle.replicated_map.specs.EncodingLaws.{value_part}
use Rattle.replicated_map.specs.MapLaws.{cleared_is_map, put_is_map, removed_is_map}

-- ---- an expected value

abbrev flag_part : IsPart (number_at 1 0 1) (big_bytes 1) (IsWithin 0 1)
flag_part = number_part 1 0 1 wide1 (omega arith)

-- what bytes behind a number of one byte are read as
abbrev Follows : {A : Type 0} → (A → List ℕ) → (A → Type 0) → ℕ → List ℕ → A × List ℕ → Type 0
Follows spell Fits n bytes p = (big_bytes 1 n ++ bytes ≡ spell p.0 ++ p.1) × Fits p.0

abbrev by_flag : ℕ → List ℕ → Option (Option (List ℕ) × List ℕ)
by_flag n at = cond (eqb n 0) (Some (None, at)) (made_at Some (value_at at))

expected_takes : (bytes : List ℕ) (w : Option (List ℕ)) (rest : List ℕ) → expected_at bytes ≡ Some (w, rest) → (bytes ≡ expected_bytes w ++ rest) × IsExpected w
unfolding expected_at
expected_takes bytes w rest e =
    let a = bind_some (number_at 1 0 1 bytes) (λ flag. by_flag flag.0 flag.1) (w, rest) e in
    let t = flag_part.takes bytes a.0.0 a.0.1 a.1 in
    let f = by a.0.0 a.0.1 (eqb a.0.0 0) refl t.1 a.2 in
    (t.0 ∙ f.0, f.1)
  where
    by : (n : ℕ) (at : List ℕ) (b : Bool) → eqb n 0 ≡ b → IsWithin 0 1 n → cond b (Some (None, at)) (made_at Some (value_at at)) ≡ Some (w, rest) → Follows expected_bytes IsExpected n at (w, rest)
    by n at true test in_range f =
        subst (λ (m : ℕ). Follows expected_bytes IsExpected m at (w, rest)) (sym (eqb-true n 0 test))
        (subst (λ (p : Option (List ℕ) × List ℕ). Follows expected_bytes IsExpected 0 at p) (some_is (None, at) (w, rest) f) (refl, tt))
    by n at false test in_range f =
        let one : 1 ≡ n = let other = eqb-false n 0 test in omega (arith, other, in_range.0, in_range.1) in
        subst (λ (m : ℕ). Follows expected_bytes IsExpected m at (w, rest)) one (kind_takes value_part Some expected_bytes IsExpected 1 (λ v is. (refl, is)) at w rest f)

expected_again : (w : Option (List ℕ)) (rest : List ℕ) → IsExpected w → expected_at (expected_bytes w ++ rest) ≡ Some (w, rest)
unfolding expected_at
expected_again None rest fits = rw (flag_part.again 0 rest (omega arith, omega arith)) refl
expected_again (Some w) rest fits =
    ap expected_at (append_assoc (big_bytes 1 1) (value_bytes w) rest)
    ∙ rw (flag_part.again 1 (value_bytes w ++ rest) (omega arith, omega arith), value_part.again w rest fits) refl

expected_part : IsPart expected_at expected_bytes IsExpected
expected_part = record { takes = expected_takes; again = expected_again }

-- ---- the parts of the commands, behind their kind

pair_part : IsPart pair_at (λ p. pair_bytes p.0 p.1) IsPair
pair_part = both_part key_part value_part

put_part : IsPart (both_at view_id_at pair_at) (λ p. view_id_bytes p.0 ++ pair_bytes p.1.0 p.1.1) (λ p. IsViewId p.0 × IsPair p.1)
put_part = both_part view_id_part pair_part

replace_part : IsPart (both_at view_id_at (both_at expected_at pair_at)) (λ p. view_id_bytes p.0 ++ (expected_bytes p.1.0 ++ pair_bytes p.1.1.0 p.1.1.1)) (λ p. IsViewId p.0 × (IsExpected p.1.0 × IsPair p.1.1))
replace_part = both_part view_id_part (both_part expected_part pair_part)

replace_version_part : IsPart (both_at view_id_at (both_at token_at pair_at)) (λ p. view_id_bytes p.0 ++ (token_bytes p.1.0 ++ pair_bytes p.1.1.0 p.1.1.1)) (λ p. IsViewId p.0 × (IsToken p.1.0 × IsPair p.1.1))
replace_version_part = both_part view_id_part (both_part token_part pair_part)

remove_version_part : IsPart (both_at token_at key_at) (λ p. token_bytes p.0 ++ key_bytes p.1) (λ p. IsToken p.0 × IsKey p.1)
remove_version_part = both_part token_part key_part

-- ---- the commands

abbrev kind_part : IsPart (number_at 1 1 6) (big_bytes 1) (IsWithin 1 6)
kind_part = number_part 1 1 6 wide1 (omega arith)

abbrev FollowsKind : ℕ → List ℕ → Command × List ℕ → Type 0
FollowsKind n at p = Follows command_bytes IsCommand n at p

as_kind : (n m : ℕ) (at : List ℕ) (p : Command × List ℕ) → n ≡ m → FollowsKind m at p → FollowsKind n at p
as_kind n m at p same f = subst (λ (i : ℕ). FollowsKind i at p) (sym same) f

command_takes : (bytes : List ℕ) (c : Command) (rest : List ℕ) → command_at bytes ≡ Some (c, rest) → (bytes ≡ command_bytes c ++ rest) × IsCommand c
unfolding command_at put_at replace_at replace_version_at remove_version_at
command_takes bytes c rest e =
    let a = bind_some (number_at 1 1 6 bytes) (λ kind. command_by kind.0 kind.1) (c, rest) e in
    let t = kind_part.takes bytes a.0.0 a.0.1 a.1 in
    let f = by a.0.0 a.0.1 (eqb a.0.0 1) (eqb a.0.0 2) (eqb a.0.0 3) (eqb a.0.0 4) (eqb a.0.0 5) refl refl refl refl refl t.1 a.2 in
    (t.0 ∙ f.0, f.1)
  where
    by : (n : ℕ) (at : List ℕ) (x y z u v : Bool) → eqb n 1 ≡ x → eqb n 2 ≡ y → eqb n 3 ≡ z → eqb n 4 ≡ u → eqb n 5 ≡ v → IsWithin 1 6 n
        → cond x (put_at at) (cond y (made_at Remove (key_at at)) (cond z (replace_at at) (cond u (Some (Clear, at)) (cond v (replace_version_at at) (remove_version_at at))))) ≡ Some (c, rest) → FollowsKind n at (c, rest)
    by n at true y z u v p q r s t within f = as_kind n 1 at (c, rest) (eqb-true n 1 p) (kind_takes put_part (λ p. Put p.0 p.1.0 p.1.1) command_bytes IsCommand 1 (λ p is. (refl, is)) at c rest f)
    by n at false true z u v p q r s t within f = as_kind n 2 at (c, rest) (eqb-true n 2 q) (kind_takes key_part Remove command_bytes IsCommand 2 (λ p is. (refl, is)) at c rest f)
    by n at false false true u v p q r s t within f =
        as_kind n 3 at (c, rest) (eqb-true n 3 r) (kind_takes replace_part (λ p. Replace p.0 p.1.0 p.1.1.0 p.1.1.1) command_bytes IsCommand 3 (λ p is. (refl, (is.0, is.1.0, is.1.1))) at c rest f)
    by n at false false false true v p q r s t within f = as_kind n 4 at (c, rest) (eqb-true n 4 s) (subst (λ (b : Command × List ℕ). FollowsKind 4 at b) (some_is (Clear, at) (c, rest) f) (refl, tt))
    by n at false false false false true p q r s t within f =
        as_kind n 5 at (c, rest) (eqb-true n 5 t) (kind_takes replace_version_part (λ p. ReplaceAt p.0 p.1.0 p.1.1.0 p.1.1.1) command_bytes IsCommand 5 (λ p is. (refl, (is.0, is.1.0, is.1.1))) at c rest f)
    by n at false false false false false p q r s t within f =
        let six : n ≡ 6 = let one = eqb-false n 1 p in let two = eqb-false n 2 q in let three = eqb-false n 3 r in let four = eqb-false n 4 s in let five = eqb-false n 5 t in omega (arith, one, two, three, four, five, within.0, within.1) in
        as_kind n 6 at (c, rest) six (kind_takes remove_version_part (λ p. RemoveAt p.0 p.1) command_bytes IsCommand 6 (λ p is. (refl, is)) at c rest f)

command_again : (c : Command) (rest : List ℕ) → IsCommand c → command_at (command_bytes c ++ rest) ≡ Some (c, rest)
unfolding command_at put_at replace_at replace_version_at remove_version_at
command_again (Put view k v) rest fits =
    ap command_at (append_assoc (big_bytes 1 1) (view_id_bytes view ++ pair_bytes k v) rest)
    ∙ rw (kind_part.again 1 ((view_id_bytes view ++ pair_bytes k v) ++ rest) (omega arith, omega arith), put_part.again (view, (k, v)) rest fits) refl
command_again (Remove k) rest fits =
    ap command_at (append_assoc (big_bytes 1 2) (key_bytes k) rest)
    ∙ rw (kind_part.again 2 (key_bytes k ++ rest) (omega arith, omega arith), key_part.again k rest fits) refl
command_again (Replace view w k v) rest fits =
    ap command_at (append_assoc (big_bytes 1 3) (view_id_bytes view ++ (expected_bytes w ++ pair_bytes k v)) rest)
    ∙ rw (kind_part.again 3 ((view_id_bytes view ++ (expected_bytes w ++ pair_bytes k v)) ++ rest) (omega arith, omega arith), replace_part.again (view, (w, (k, v))) rest (fits.0, (fits.1, fits.2))) refl
command_again Clear rest fits = rw (kind_part.again 4 rest (omega arith, omega arith)) refl
command_again (ReplaceAt view t k v) rest fits =
    ap command_at (append_assoc (big_bytes 1 5) (view_id_bytes view ++ (token_bytes t ++ pair_bytes k v)) rest)
    ∙ rw (kind_part.again 5 ((view_id_bytes view ++ (token_bytes t ++ pair_bytes k v)) ++ rest) (omega arith, omega arith), replace_version_part.again (view, (t, (k, v))) rest (fits.0, (fits.1, fits.2))) refl
command_again (RemoveAt t k) rest fits =
    ap command_at (append_assoc (big_bytes 1 6) (token_bytes t ++ key_bytes k) rest)
    ∙ rw (kind_part.again 6 ((token_bytes t ++ key_bytes k) ++ rest) (omega arith, omega arith), remove_version_part.again (t, k) rest fits) refl

command_part : IsPart command_at command_bytes IsCommand
command_part = record { takes = command_takes; again = command_again }

-- what a payload says is spelled by it
pub command_is_spelled : (payload : List ℕ) (c : Command) → command_of payload ≡ Some c → IsCommand c × (command_bytes c ≡ payload)
unfolding command_of
command_is_spelled payload c e = to_end_takes command_at command_bytes IsCommand command_part payload c e

pub spelled_is_read : (c : Command) → IsCommand c → command_of (command_bytes c) ≡ Some c
unfolding command_of
spelled_is_read c fits = to_end_again command_at command_bytes IsCommand command_part c fits

-- ---- a message leaves a map a map

pub carried_out_is_map : (s : MapState) (c : Command) → IsMap s → IsCommand c → IsMap (carried_out s c)
carried_out_is_map s (Put view k v) is fits = put_is_map view k v s is fits.0 fits.1.0 fits.1.1
carried_out_is_map s (Remove k) is fits = removed_is_map k s is
carried_out_is_map s (Replace view w k v) is fits = by (is_expected (value_in (held_of k s)) w) where
  by : (b : Bool) → IsMap (cond b (put_within view k v s) s)
  by true = put_is_map view k v s is fits.0 fits.2.0 fits.2.1
  by false = is
carried_out_is_map s Clear is fits = cleared_is_map s is
carried_out_is_map s (ReplaceAt view t k v) is fits = by (has_version (held_of k s) t) where
  by : (b : Bool) → IsMap (cond b (put_within view k v s) s)
  by true = put_is_map view k v s is fits.0 fits.2.0 fits.2.1
  by false = is
carried_out_is_map s (RemoveAt t k) is fits = by (has_version (held_of k s) t) where
  by : (b : Bool) → IsMap (cond b (removed k s) s)
  by true = removed_is_map k s is
  by false = is

pub applied_is_map : (s : MapState) (from : Address) (payload : List ℕ) → IsMap s → IsAddress from → length payload ≤ PAYLOAD → IsMap (map_apply s from payload)
applied_is_map s from payload is address short = by (command_of payload) refl where
  by : (o : Option Command) → command_of payload ≡ o → IsMap (after_command s o)
  by None e = is
  by (Some c) e = carried_out_is_map s c is (command_is_spelled payload c e).0
