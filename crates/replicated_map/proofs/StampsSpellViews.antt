-- What is stamped with a view spells it.
use Rattle.std.proofs.Common.{◌≡◌, ◌≢◌, ℕ, Bool, true, false, cond, List, ◌++◌, Option, Some, Result, Ok, Err, refl, sym, ap, subst, ◌∙◌, arith}
use Rattle.std.specs.Prelude.{codes}
use Rattle.std.specs.Str.{bytes_eq}
use Rattle.address.specs.Ids.{ViewId}
use Rattle.byteorder.specs.Endian.{big_bytes}
use Rattle.big_endian.proofs.Bytes.{wide1}
use Rattle.big_endian.specs.Reading.{number_at}
use Rattle.big_endian.proofs.PartLaws.{IsPart, IsWithin, number_part}
use Rattle.vsync_text.specs.declared.fault.Fault.{Fault}
use Rattle.vsync_text.specs.declared.fault.Fault.TheVariants.{BadNumber}
use Rattle.vsync_text.specs.Lines.{field_of, behind_field}
use Rattle.vsync_text.specs.Fields.{made, last, end_at, ◌>>=◌}
use Rattle.keyed_state.specs.Words.{key_field}
use Rattle.keyed_state.specs.Tokens.{IsViewId}
use Rattle.keyed_state.specs.PartLaws.{same_parts}
use Rattle.keyed_state.specs.Spelling.{view_id_bytes}
use Rattle.keyed_state.specs.SpellingLaws.{view_id_part}
use Rattle.replicated_map.specs.declared.command.Command.{Command}
use Rattle.replicated_map.specs.declared.command.Command.TheVariants.{Put, Remove, Replace, Clear, ReplaceAt, RemoveAt}
use Rattle.replicated_map.specs.Commands.{IsCommand, command_bytes, command_of}
use Rattle.replicated_map.specs.CommandLaws.{command_is_spelled}
use Rattle.replicated_map.specs.Words.{expected_field, last_value, version_field, put_said, remove_said, replaced, replace_said, clear_said, version_replaced, replace_at_said, remove_at_said, command_said}
use Rattle.replicated_map.specs.Stamps.{Spells, StampedSpells, SaidSpells}

pub stamped-spells : StampedSpells
stamped-spells view (Put v k x) is fits = ((is, fits.1), refl)
stamped-spells view (Remove k) is fits = (fits, refl)
stamped-spells view (Replace v w k x) is fits = ((is, fits.1, fits.2), refl)
stamped-spells view Clear is fits = (fits, refl)
stamped-spells view (ReplaceAt v t k x) is fits = ((is, fits.1, fits.2), refl)
stamped-spells view (RemoveAt t k) is fits = (fits, refl)

-- ---- two commands that are spelled by the same bytes

abbrev kind : IsPart (number_at 1 1 6) (big_bytes 1) (IsWithin 1 6)
kind = number_part 1 1 6 wide1 (omega arith)

-- behind the same kind, the view that is spelled is the one of the other command
same-view : (n : ℕ) (view v u : ViewId) (r s : List ℕ) → IsWithin 1 6 n → IsViewId v → IsViewId view → view ≡ u → big_bytes 1 n ++ (view_id_bytes v ++ r) ≡ big_bytes 1 n ++ (view_id_bytes u ++ s) → view ≡ v
same-view n view v u r s within fits is at same =
    at ∙ sym (same_parts view_id_part v u r s fits (subst IsViewId at is) (same_parts kind n n (view_id_bytes v ++ r) (view_id_bytes u ++ s) within within same).1).0

-- other kinds are not
other-kind : {X : Type 0} (n m : ℕ) (r s : List ℕ) → IsWithin 1 6 n → IsWithin 1 6 m → n ≢ m → big_bytes 1 n ++ r ≡ big_bytes 1 m ++ s → X
other-kind n m r s fits fits' other same = absurd (other (same_parts kind n m r s fits fits' same).0)

-- a command that is spelled as one that spells a view spells it
spells-too : (view : ViewId) (c d : Command) → IsViewId view → IsCommand c → Spells view d → command_bytes c ≡ command_bytes d → Spells view c
spells-too view (Remove k) d is fits spells same = refl
spells-too view Clear d is fits spells same = refl
spells-too view (RemoveAt t k) d is fits spells same = refl
spells-too view (Put v k x) (Put u l y) is fits spells same = let at : view ≡ u = cc in ap (λ (i : ViewId). Put i k x) (same-view 1 view v u _ _ (omega arith, omega arith) fits.0 is at same)
spells-too view (Put v k x) (Remove l) is fits spells same = other-kind 1 2 _ _ (omega arith, omega arith) (omega arith, omega arith) (λ e. cc) same
spells-too view (Put v k x) (Replace u z l y) is fits spells same = other-kind 1 3 _ _ (omega arith, omega arith) (omega arith, omega arith) (λ e. cc) same
spells-too view (Put v k x) Clear is fits spells same = other-kind 1 4 _ _ (omega arith, omega arith) (omega arith, omega arith) (λ e. cc) same
spells-too view (Put v k x) (ReplaceAt u q l y) is fits spells same = other-kind 1 5 _ _ (omega arith, omega arith) (omega arith, omega arith) (λ e. cc) same
spells-too view (Put v k x) (RemoveAt q l) is fits spells same = other-kind 1 6 _ _ (omega arith, omega arith) (omega arith, omega arith) (λ e. cc) same
spells-too view (Replace v w k x) (Put u l y) is fits spells same = other-kind 3 1 _ _ (omega arith, omega arith) (omega arith, omega arith) (λ e. cc) same
spells-too view (Replace v w k x) (Remove l) is fits spells same = other-kind 3 2 _ _ (omega arith, omega arith) (omega arith, omega arith) (λ e. cc) same
spells-too view (Replace v w k x) (Replace u z l y) is fits spells same = let at : view ≡ u = cc in ap (λ (i : ViewId). Replace i w k x) (same-view 3 view v u _ _ (omega arith, omega arith) fits.0 is at same)
spells-too view (Replace v w k x) Clear is fits spells same = other-kind 3 4 _ _ (omega arith, omega arith) (omega arith, omega arith) (λ e. cc) same
spells-too view (Replace v w k x) (ReplaceAt u q l y) is fits spells same = other-kind 3 5 _ _ (omega arith, omega arith) (omega arith, omega arith) (λ e. cc) same
spells-too view (Replace v w k x) (RemoveAt q l) is fits spells same = other-kind 3 6 _ _ (omega arith, omega arith) (omega arith, omega arith) (λ e. cc) same
spells-too view (ReplaceAt v t k x) (Put u l y) is fits spells same = other-kind 5 1 _ _ (omega arith, omega arith) (omega arith, omega arith) (λ e. cc) same
spells-too view (ReplaceAt v t k x) (Remove l) is fits spells same = other-kind 5 2 _ _ (omega arith, omega arith) (omega arith, omega arith) (λ e. cc) same
spells-too view (ReplaceAt v t k x) (Replace u z l y) is fits spells same = other-kind 5 3 _ _ (omega arith, omega arith) (omega arith, omega arith) (λ e. cc) same
spells-too view (ReplaceAt v t k x) Clear is fits spells same = other-kind 5 4 _ _ (omega arith, omega arith) (omega arith, omega arith) (λ e. cc) same
spells-too view (ReplaceAt v t k x) (ReplaceAt u q l y) is fits spells same = let at : view ≡ u = cc in ap (λ (i : ViewId). ReplaceAt i t k x) (same-view 5 view v u _ _ (omega arith, omega arith) fits.0 is at same)
spells-too view (ReplaceAt v t k x) (RemoveAt q l) is fits spells same = other-kind 5 6 _ _ (omega arith, omega arith) (omega arith, omega arith) (λ e. cc) same

-- ---- what words say

-- what is made of what was read spells a view, if it does for each that can be read
bound : {A : Type 0} (view : ViewId) (r : Result A Fault) (f : A → Result Command Fault) → ((x : A) (d : Command) → f x ≡ Ok d → Spells view d) → (d : Command) → ◌>>=◌ {B = Command} r f ≡ Ok d → Spells view d
bound view (Ok x) f each d e = each x d e
bound view (Err fault) f each d e = absurd cc

of-made : {A : Type 0} (view : ViewId) (make : A → Command) → ((x : A) → Spells view (make x)) → (r : Result A Fault) (d : Command) → made make r ≡ Ok d → Spells view d
of-made view make each (Ok x) d e = let same : make x ≡ d = cc in subst (Spells view) same (each x)
of-made view make each (Err fault) d e = absurd cc

is-ok : (view : ViewId) (c d : Command) → Spells view c → ◌≡◌ {A = Result Command Fault} (Ok c) (Ok d) → Spells view d
is-ok view c d spells e = let same : c ≡ d = cc in subst (Spells view) same spells

put-spells : (view : ViewId) (rest : Option (List ℕ)) (d : Command) → put_said view rest ≡ Ok d → Spells view d
put-spells view rest d e =
    bound view (key_field rest) (λ key. last_value key.1 >>= λ value. Ok (Put view key.0 value))
    (λ key c f. bound view (last_value key.1) (λ value. Ok (Put view key.0 value)) (λ value b g. is-ok view (Put view key.0 value) b refl g) c f) d e

replaced-spells : (view : ViewId) (key : List ℕ) (rest : Option (List ℕ)) (d : Command) → replaced view key rest ≡ Ok d → Spells view d
replaced-spells view key rest d e =
    bound view (expected_field rest) (λ expected. last_value expected.1 >>= λ value. Ok (Replace view expected.0 key value))
    (λ expected c f. bound view (last_value expected.1) (λ value. Ok (Replace view expected.0 key value)) (λ value b g. is-ok view (Replace view expected.0 key value) b refl g) c f) d e

version-spells : (view : ViewId) (key : List ℕ) (rest : Option (List ℕ)) (d : Command) → version_replaced view key rest ≡ Ok d → Spells view d
version-spells view key rest d e =
    bound view (version_field rest) (λ version. last_value version.1 >>= λ value. Ok (ReplaceAt view version.0 key value))
    (λ version c f. bound view (last_value version.1) (λ value. Ok (ReplaceAt view version.0 key value)) (λ value b g. is-ok view (ReplaceAt view version.0 key value) b refl g) c f) d e

removal-spells : (view : ViewId) (rest : Option (List ℕ)) (d : Command) → remove_at_said rest ≡ Ok d → Spells view d
removal-spells view rest d e =
    bound view (key_field rest) (λ key. last (version_field key.1) >>= λ version. Ok (RemoveAt version key.0))
    (λ key c f. bound view (last (version_field key.1)) (λ version. Ok (RemoveAt version key.0)) (λ version b g. is-ok view (RemoveAt version key.0) b refl g) c f) d e

-- the command of words spells the view in which they are said
said : (view : ViewId) (text : List ℕ) (d : Command) → command_said view text ≡ Ok d → Spells view d
said view text d = by (bytes_eq (field_of text) (codes "put")) (bytes_eq (field_of text) (codes "remove")) (bytes_eq (field_of text) (codes "replace")) (bytes_eq (field_of text) (codes "clear")) (bytes_eq (field_of text) (codes "replace_at")) (bytes_eq (field_of text) (codes "remove_at")) where
  rest : Option (List ℕ)
  rest = behind_field text

  by : (p q r s t u : Bool)
      → cond p (put_said view rest) (cond q (remove_said rest) (cond r (replace_said view rest) (cond s (clear_said rest) (cond t (replace_at_said view rest) (cond u (remove_at_said rest) (Err BadNumber)))))) ≡ Ok d → Spells view d
  by true q r s t u e = put-spells view rest d e
  by false true r s t u e = of-made view Remove (λ k. refl) (last (key_field rest)) d e
  by false false true s t u e = bound view (key_field rest) (λ key. replaced view key.0 key.1) (λ key c f. replaced-spells view key.0 key.1 c f) d e
  by false false false true t u e = of-made view (λ end. Clear) (λ end. refl) (end_at rest) d e
  by false false false false true u e = bound view (key_field rest) (λ key. version_replaced view key.0 key.1) (λ key c f. version-spells view key.0 key.1 c f) d e
  by false false false false false true e = removal-spells view rest d e
  by false false false false false false e = absurd cc

-- and so does the command that is read from its spelling
pub said-spells : SaidSpells
said-spells view text payload c is = by (command_said view text) refl where
  by : (r : Result Command Fault) → command_said view text ≡ r → made command_bytes r ≡ Ok payload → command_of payload ≡ Some c → Spells view c
  by (Err fault) at e read = absurd cc
  by (Ok d) at e read =
      let bytes : command_bytes d ≡ payload = cc in
      let spelled = command_is_spelled payload c read in
      spells-too view c d is spelled.0 (said view text d at) (spelled.1 ∙ sym bytes)
