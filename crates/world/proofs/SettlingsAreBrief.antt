-- How many events a settling has at most: a tick, a FLUSH and a REPORT of each other of the list, and 32 chunks and an INSTALL for each.
use Rattle.std.proofs.Common.{◌≡◌, ◌≤◌, ◌+◌, ℕ, Bool, true, false, cond, not, Option, Some, None, List, [], ◌∷◌, filter, length, nat_eq, nat_le, nat_lt, refl, sym, ap, ◌∙◌, arith}
use Rattle.std.specs.Prelude.{IfSome, ◌||◌, unwrap_or}
use Rattle.std.proofs.lemmas.Bool.Decides.{nat_tests}
use Rattle.std.proofs.lemmas.Option.{none-some}
use Rattle.address.specs.declared.limits.TheConstants.{MEMBERS, STATE, WHOLE_STATE}
use Rattle.address.specs.Ids.{Address, ViewId, same_address}
use Rattle.address.proofs.SameIds.{same_address-true}
use Rattle.view.specs.Members.{stands_in}
use Rattle.view.specs.View.{view_refusal, begins_with}
use Rattle.view.specs.declared.ViewError.TheVariants as errors
use Rattle.view.specs.Members.{is_distinct}
use Rattle.wire_values.specs.Chunks.{IsTotal}
use Rattle.wire_values.specs.declared.values.state.GivenState.TheVariants as forms
use Rattle.law_acts.specs.Decisions.{form_of, kept_of}
use Rattle.world.proofs.StageOfInstalls.{chunks_said}

-- a list without one of its elements is shorter
pub shorter : (test : Address → Bool) (c : Address) (l : List Address) → test c ≡ false → stands_in c l ≡ true → length (filter test l) + 1 ≤ length l
shorter test c [] none there = absurd (let n : false ≡ true = there in cc)
shorter test c (p ∷ l) none there = by (test p) (same_address c p) refl refl there (shorter test c l none) (no-longer l)
  where
    no-longer : (xs : List Address) → length (filter test xs) ≤ length xs
    no-longer [] = omega arith
    no-longer (x ∷ xs) = step (test x) (no-longer xs)
      where
        step : (b : Bool) → length (filter test xs) ≤ length xs → length (cond b (x ∷ filter test xs) (filter test xs)) ≤ length (x ∷ xs)
        step true h = omega (arith, h)
        step false h = omega (arith, h)

    by : (b d : Bool) → test p ≡ b → same_address c p ≡ d → d || stands_in c l ≡ true → (stands_in c l ≡ true → length (filter test l) + 1 ≤ length l) → length (filter test l) ≤ length l
        → length (cond b (p ∷ filter test l) (filter test l)) + 1 ≤ length (p ∷ l)
    by true true e x there later most = absurd (let n : true ≡ false = sym e ∙ ap test (sym (same_address-true c p x)) ∙ none in cc)
    by true false e x there later most = let h = later there in omega (arith, h)
    by false d e x there later most = omega (arith, most)

-- a view has at most so many members
pub members-few : (id : ViewId) (list : List Address) → view_refusal id list ≡ None → length list ≤ MEMBERS
members-few id list e = by (nat_eq (length list) 0) (nat_lt MEMBERS (length list)) refl e
  where
    by : (a b : Bool) → nat_lt MEMBERS (length list) ≡ b → cond a (Some errors.Empty) (cond b (Some errors.TooMany) (cond (not (is_distinct list)) (Some errors.Repeated) (cond (not (begins_with id.creator list)) (Some errors.NotFirst) None))) ≡ None
        → length list ≤ MEMBERS
    by true b t x = absurd (none-some errors.Empty (sym x))
    by false true t x = absurd (none-some errors.TooMany (sym x))
    by false false t x = grind (arith, nat_tests)

-- a state has at most 32 chunks
pub chunks-few : (given : Option (List ℕ)) (b : Bool) → IfSome (kept_of given) (λ bytes. IsTotal (length bytes)) → chunks_said (cond b forms.Nothing (form_of given)) (unwrap_or given []) ≤ 32
chunks-few given true total = omega arith
chunks-few None false total = omega arith
chunks-few (Some bytes) false total = by (nat_le (length bytes) WHOLE_STATE) refl total
  where
    by : (b : Bool) → nat_le (length bytes) WHOLE_STATE ≡ b → IfSome (kept_of (Some bytes)) (λ x. IsTotal (length x)) → chunks_said (cond b (forms.Whole bytes) (forms.Chunked (length bytes))) bytes ≤ 32
    by true e total = omega arith
    by false e total =
        let t : IsTotal (length bytes) = rw e at total in
        let high : length bytes ≤ STATE = t.1 in
        omega (arith, high)
