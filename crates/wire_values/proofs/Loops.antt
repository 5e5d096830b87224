-- What the loops of the readers keep, and what they found.
use Rattle.std.proofs.Common.{◌≡◌, ℕ, zero, suc, ◌+◌, ◌-◌, ◌<◌, ◌≤◌, true, false, List, [], ◌∷◌, ◌++◌, length, take, Option, Some, None, Result, Ok, Err, refl, sym, ap, ◌∙◌, append_assoc, arith}
use Rattle.std.specs.List.{flat_map, AllByRecursion}
use Rattle.std.specs.Option.{option_map_or}
use Rattle.std.proofs.lemmas.Bool.{eqb-true}
use Rattle.std.proofs.lemmas.List.{take_at, length-append, append-nil, nil_from_length}
use Rattle.address.specs.Ids.{Address, ViewId}
use Rattle.address.specs.declared.limits.TheConstants.{GREATEST_NUMBER}
use Rattle.wire_values.specs.declared.error.WireError.{WireError}
use Rattle.wire_values.specs.declared.error.WireError.TheVariants.{Value}
use Rattle.wire_values.specs.Values.{Entry}
use Rattle.wire_values.specs.Reading.{Read, ◌>>=◌, number_at, list_at, listed, is_whole, rest_of}
use Rattle.wire_values.specs.Fields.{IsPlaced, placed_bytes, address_at, entry_at, placed_at}
use Rattle.wire_values.specs.Lists.{may_follow, members_at, rest_after, is_in_order, together_at, highest_next, are_held, held_at}
use Rattle.big_endian.specs.Spelled.{IsBytes}
use Rattle.wire_values.proofs.FieldLaws.{bind_ok, ok_is, along, back, Takes, IsPart, placed_part}
use Rattle.wire_values.proofs.ListLaws.{list_takes, list_again, held_takes}
use Rattle.wire_values.proofs.MemberLaws.{found_rest}

-- ---- so many values, one behind the other

rest_behind : {A : Type 0} (x : A) (r : Read (List A)) → rest_of (r >>= λ others. Ok (x ∷ others.0, others.1)) ≡ rest_of r
rest_behind x (Ok y) = refl
rest_behind x (Err e) = refl

pub list_goes_on : {A : Type 0} (read : List ℕ → Read A) (count i : ℕ) (bytes : List ℕ) (x : A) (rest : List ℕ) (total : Result (List ℕ) WireError) → i < count → read bytes ≡ Ok (x, rest)
    → rest_of (list_at read (count - i) bytes) ≡ total → rest_of (list_at read (count - (i + 1)) rest) ≡ total
unfolding list_at
list_goes_on read count i bytes x rest total lt h so_far =
    let k : count - i ≡ suc (count - (i + 1)) = omega arith in
    let one : rest_of (list_at read (count - i) bytes) ≡ rest_of (list_at read (count - (i + 1)) rest) = rw (k, h) (rest_behind x (list_at read (count - (i + 1)) rest)) in
    sym one ∙ so_far

pub list_ends : {A : Type 0} (read : List ℕ → Read A) (count i : ℕ) (bytes : List ℕ) (e : WireError) (total : Result (List ℕ) WireError) → i < count → read bytes ≡ Err e
    → rest_of (list_at read (count - i) bytes) ≡ total → total ≡ Err e
unfolding list_at
list_ends read count i bytes e total lt h so_far =
    let k : count - i ≡ suc (count - (i + 1)) = omega arith in
    let one : rest_of (list_at read (count - i) bytes) ≡ Err e = rw (k, h) refl in
    sym so_far ∙ one

pub list_is_done : {A : Type 0} (read : List ℕ → Read A) (count i : ℕ) (bytes : List ℕ) (total : Result (List ℕ) WireError) → count ≤ i → rest_of (list_at read (count - i) bytes) ≡ total → total ≡ Ok bytes
unfolding list_at
list_is_done read count i bytes total le so_far =
    let k : count - i ≡ 0 = omega arith in
    let one : rest_of (list_at read (count - i) bytes) ≡ Ok bytes = rw k refl in
    sym so_far ∙ one

pub list_count : {A : Type 0} (read : List ℕ → Read A) (n : ℕ) (bytes : List ℕ) (found : List A × List ℕ) → list_at read n bytes ≡ Ok found → length found.0 ≡ n
unfolding list_at
list_count {A = A} read zero bytes found e = along (λ (p : List A × List ℕ). length p.0 ≡ 0) ([], bytes) found (ok_is ([], bytes) found e) refl
list_count {A = A} read (suc n) bytes found e =
    let a = bind_ok (read bytes) (λ first. list_at read n first.1 >>= λ others. Ok (first.0 ∷ others.0, others.1)) found e in
    let b = bind_ok (list_at read n a.0.1) (λ others. Ok (a.0.0 ∷ others.0, others.1)) found a.2 in
    along (λ (p : List A × List ℕ). length p.0 ≡ suc n) (a.0.0 ∷ b.0.0, b.0.1) found (ok_is (a.0.0 ∷ b.0.0, b.0.1) found b.2) (ap suc (list_count read n a.0.1 b.0 b.1))

-- a list that took all of its bytes
pub whole_ok : {A : Type 0} (r : Read (List A)) → is_whole r ≡ true → r ≡ Ok (listed r, [])
whole_ok (Ok x) e = ap (λ (t : List ℕ). Ok (x.0, t)) (nil_from_length x.1 (eqb-true _ _ e))
whole_ok (Err d) e = absurd cc

pub whole_count : {A : Type 0} (read : List ℕ → Read A) (n : ℕ) (bytes : List ℕ) → is_whole (list_at read n bytes) ≡ true → length (listed (list_at read n bytes)) ≡ n
whole_count read n bytes e = list_count read n bytes (listed (list_at read n bytes), []) (whole_ok (list_at read n bytes) e)

-- no value
pub list_empty : {A : Type 0} (read : List ℕ → Read A) (n : ℕ) (bytes : List ℕ) → n ≡ 0 → listed (list_at read n bytes) ≡ []
unfolding list_at
list_empty read n bytes e = rw (e) refl

-- its first value, and what is left
abbrev pub Stepped : {A : Type 0} → (List ℕ → Read A) → ℕ → List ℕ → A → List ℕ → Type 0
Stepped read n bytes x rest = (listed (list_at read n bytes) ≡ x ∷ listed (list_at read (n - 1) rest)) × (is_whole (list_at read (n - 1) rest) ≡ true)

pub list_first : {A : Type 0} (read : List ℕ → Read A) (n : ℕ) (bytes : List ℕ) (x : A) (rest : List ℕ) → 1 ≤ n → read bytes ≡ Ok (x, rest) → is_whole (list_at read n bytes) ≡ true → Stepped read n bytes x rest
unfolding list_at
list_first read zero bytes x rest some h e = absurd (omega arith)
list_first {A = A} read (suc n) bytes x rest some h e =
    let step : list_at read (suc n) bytes ≡ (list_at read n rest >>= λ others. Ok (x ∷ others.0, others.1)) = rw (h) refl in
    let k : suc n - 1 ≡ n = omega arith in
    back (λ (m : ℕ). (listed (list_at read (suc n) bytes) ≡ x ∷ listed (list_at read m rest)) × (is_whole (list_at read m rest) ≡ true)) (suc n - 1) n k
    (by_rest x (list_at read n rest) (list_at read (suc n) bytes) step e) where
      by_rest : {A : Type 0} (x : A) (r whole : Read (List A)) → whole ≡ (r >>= λ others. Ok (x ∷ others.0, others.1)) → is_whole whole ≡ true → (listed whole ≡ x ∷ listed r) × (is_whole r ≡ true)
      by_rest x (Ok y) whole step e = (ap listed step, ap is_whole (sym step) ∙ e)
      by_rest x (Err d) whole step e = absurd (let f : false ≡ true = ap is_whole (sym step) ∙ e in cc)

pub list_not_err : {A : Type 0} (read : List ℕ → Read A) (n : ℕ) (bytes : List ℕ) (d : WireError) → 1 ≤ n → read bytes ≡ Err d → is_whole (list_at read n bytes) ≡ true → ⊥
unfolding list_at
list_not_err read zero bytes d some h e = omega arith
list_not_err read (suc n) bytes d some h e =
    let step : is_whole (list_at read (suc n) bytes) ≡ false = rw (h) refl in
    let f : false ≡ true = sym step ∙ e in cc

-- a list that is spelled so is whole
pub spelled_whole : {A : Type 0} (read : List ℕ → Read A) (spell : A → List ℕ) (Fits : A → Type 0) → IsPart read spell Fits → (n : ℕ) (bytes : List ℕ) (values : List A) → AllByRecursion Fits values → length values ≡ n → bytes ≡ flat_map spell values
    → list_at read n bytes ≡ Ok (values, [])
spelled_whole read spell Fits part n bytes values fits count e =
    ap (list_at read n) (e ∙ sym (append-nil (flat_map spell values))) ∙ ap (λ (k : ℕ). list_at read k (flat_map spell values ++ [])) (sym count) ∙ list_again read spell Fits part values [] fits

-- what such a list leaves behind it is nothing
pub rest_nothing : {A : Type 0} (r : Read (List A)) (values : List A) (rest : List ℕ) → r ≡ Ok (values, []) → rest_of r ≡ Ok rest → rest ≡ []
rest_nothing r values rest e h = sym (ok_is [] rest (sym (ap rest_of e) ∙ h))

pub rest_no_error : {A : Type 0} (r : Read (List A)) (values : List A) (d : WireError) → r ≡ Ok (values, []) → rest_of r ≡ Err d → ⊥
rest_no_error r values d e h = let f : (let t : Result (List ℕ) WireError = Ok [] in t) ≡ Err d = sym (ap rest_of e) ∙ h in cc

-- what lies in lent bytes is spelled there
pub whole_text : {A : Type 0} (read : List ℕ → Read A) (spell : A → List ℕ) (Fits : A → Type 0) → IsPart read spell Fits → (n : ℕ) (bytes : List ℕ) → IsBytes bytes → is_whole (list_at read n bytes) ≡ true
    → (bytes ≡ flat_map spell (listed (list_at read n bytes))) × AllByRecursion Fits (listed (list_at read n bytes))
whole_text read spell Fits part n bytes fits e =
    let values = listed (list_at read n bytes) in
    let t = list_takes read spell Fits part n bytes values [] fits (whole_ok (list_at read n bytes) e) in
    (t.0.parts ∙ append-nil (flat_map spell values), t.2)

pub rest_ok : {A : Type 0} (r : Read (List A)) (rest : List ℕ) → rest_of r ≡ Ok rest → (xs : List A) × (r ≡ Ok (xs, rest))
rest_ok (Ok x) rest e = (x.0, ap (λ (t : List ℕ). Ok (x.0, t)) (ok_is x.1 rest e))
rest_ok (Err d) rest e = absurd cc

pub rest_err : {A : Type 0} (r : Read (List A)) (d : WireError) → rest_of r ≡ Err d → r ≡ Err d
rest_err (Ok x) d e = absurd cc
rest_err (Err f) d e = cc

-- values were passed at the front of some bytes: reading the front gives them
pub record Passed {A : Type 0} (read : List ℕ → Read A) (n : ℕ) (bytes rest front : List ℕ) (Are : List A → Type 0) : Type 0 where
  pub behind : length rest ≤ length bytes
  pub whole : is_whole (list_at read n front) ≡ true
  pub are : Are (listed (list_at read n front))

passed : {A : Type 0} (read : List ℕ → Read A) (spell : A → List ℕ) (Fits : A → Type 0) → IsPart read spell Fits → (n : ℕ) (bytes rest front : List ℕ) (Are : List A → Type 0) (values : List A) → Takes bytes (flat_map spell values) rest → length values ≡ n → AllByRecursion Fits values
    → front ≡ take (length bytes - length rest) bytes → Are values → Passed read n bytes rest front Are
passed {A = A} read spell Fits part n bytes rest front Are values t count fits e are =
    let text = flat_map spell values in
    let len : length bytes ≡ length text + length rest = ap length t.parts ∙ length-append text rest in
    let size : length bytes - length rest ≡ length text = omega arith in
    let there : take (length bytes - length rest) bytes ≡ text = rw (size, t.parts) (take_at text rest (length text) refl) in
    let r : list_at read n front ≡ Ok (values, []) = spelled_whole read spell Fits part n front values fits count (e ∙ there) in
    record { behind = omega arith; whole = ap is_whole r; are = back Are (listed (list_at read n front)) values (ap listed r) are }

pub list_passed : {A : Type 0} (read : List ℕ → Read A) (spell : A → List ℕ) (Fits : A → Type 0) → IsPart read spell Fits → (count i : ℕ) (old from bytes rest front : List ℕ) → IsBytes bytes → bytes ≡ old → rest ≡ from → count ≤ i
    → rest_of (list_at read (count - i) from) ≡ rest_of (list_at read count old) → front ≡ take (length bytes - length rest) bytes → Passed read count bytes rest front (λ xs. (list_at read count old ≡ Ok (xs, from)) × (length xs ≡ count))
list_passed {A = A} read spell Fits part count i old from bytes rest front fits here there le so_far e =
    let done : rest_of (list_at read count bytes) ≡ Ok rest = ap (λ (t : List ℕ). rest_of (list_at read count t)) here ∙ list_is_done read count i from (rest_of (list_at read count old)) le so_far ∙ ap (λ (t : List ℕ). Ok t) (sym there) in
    let r = rest_ok (list_at read count bytes) rest done in
    let values : List A = r.0 in
    let t = list_takes read spell Fits part count bytes values rest fits r.1 in
    let gives : list_at read count old ≡ Ok (values, from) = ap (list_at read count) (sym here) ∙ r.1 ∙ ap (λ (t : List ℕ). Ok (values, t)) there in
    passed read spell Fits part count bytes rest front (λ xs. (list_at read count old ≡ Ok (xs, from)) × (length xs ≡ count)) values t.0 t.1 t.2 e (gives, t.1)

-- ---- a report's entries

pub held_goes_on : (stable delivered last count i : ℕ) (bytes : List ℕ) (place : ℕ) (mid : List ℕ) (m : Entry) (rest : List ℕ) (total : Result (List ℕ) WireError) → i < count
    → number_at 8 (last + 1) (highest_next stable delivered last) Value bytes ≡ Ok (place, mid) → entry_at mid ≡ Ok (m, rest)
    → rest_of (held_at stable delivered last (count - i) bytes) ≡ total → rest_of (held_at stable delivered place (count - (i + 1)) rest) ≡ total
unfolding held_at
held_goes_on stable delivered last count i bytes place mid m rest total lt h g so_far =
    let k : count - i ≡ suc (count - (i + 1)) = omega arith in
    let one : rest_of (held_at stable delivered last (count - i) bytes) ≡ rest_of (held_at stable delivered place (count - (i + 1)) rest) = rw (k, h, g) (rest_behind (place, m) (held_at stable delivered place (count - (i + 1)) rest)) in
    sym one ∙ so_far

pub held_no_place : (stable delivered last count i : ℕ) (bytes : List ℕ) (e : WireError) (total : Result (List ℕ) WireError) → i < count → number_at 8 (last + 1) (highest_next stable delivered last) Value bytes ≡ Err e
    → rest_of (held_at stable delivered last (count - i) bytes) ≡ total → total ≡ Err e
unfolding held_at
held_no_place stable delivered last count i bytes e total lt h so_far =
    let k : count - i ≡ suc (count - (i + 1)) = omega arith in
    let one : rest_of (held_at stable delivered last (count - i) bytes) ≡ Err e = rw (k, h) refl in
    sym so_far ∙ one

pub held_no_entry : (stable delivered last count i : ℕ) (bytes : List ℕ) (place : ℕ) (mid : List ℕ) (e : WireError) (total : Result (List ℕ) WireError) → i < count → number_at 8 (last + 1) (highest_next stable delivered last) Value bytes ≡ Ok (place, mid) → entry_at mid ≡ Err e
    → rest_of (held_at stable delivered last (count - i) bytes) ≡ total → total ≡ Err e
unfolding held_at
held_no_entry stable delivered last count i bytes place mid e total lt h g so_far =
    let k : count - i ≡ suc (count - (i + 1)) = omega arith in
    let one : rest_of (held_at stable delivered last (count - i) bytes) ≡ Err e = rw (k, h, g) refl in
    sym so_far ∙ one

pub held_is_done : (stable delivered last count i : ℕ) (bytes : List ℕ) (total : Result (List ℕ) WireError) → count ≤ i → rest_of (held_at stable delivered last (count - i) bytes) ≡ total → total ≡ Ok bytes
unfolding held_at
held_is_done stable delivered last count i bytes total le so_far =
    let k : count - i ≡ 0 = omega arith in
    let one : rest_of (held_at stable delivered last (count - i) bytes) ≡ Ok bytes = rw k refl in
    sym so_far ∙ one

pub held_passed : (stable delivered last count i : ℕ) (old from bytes rest front : List ℕ) → delivered ≤ GREATEST_NUMBER → IsBytes bytes → bytes ≡ old → rest ≡ from → count ≤ i
    → rest_of (held_at stable delivered last (count - i) from) ≡ rest_of (held_at stable delivered stable count old) → front ≡ take (length bytes - length rest) bytes
    → Passed placed_at count bytes rest front (λ held. (held_at stable delivered stable count old ≡ Ok (held, from)) × (length held ≡ count) × (are_held stable delivered stable held ≡ true))
held_passed stable delivered last count i old from bytes rest front small fits here there le so_far e =
    let read = held_at stable delivered stable count in
    let done : rest_of (read bytes) ≡ Ok rest = ap (λ (t : List ℕ). rest_of (read t)) here ∙ held_is_done stable delivered last count i from (rest_of (read old)) le so_far ∙ ap (λ (t : List ℕ). Ok t) (sym there) in
    let r = rest_ok (read bytes) rest done in
    let held : List (ℕ × Entry) = r.0 in
    let t = held_takes stable delivered stable count bytes held rest small fits r.1 in
    let gives : read old ≡ Ok (held, from) = ap read (sym here) ∙ r.1 ∙ ap (λ (t : List ℕ). Ok (held, t)) there in
    passed placed_at placed_bytes IsPlaced placed_part count bytes rest front (λ held. (held_at stable delivered stable count old ≡ Ok (held, from)) × (length held ≡ count) × (are_held stable delivered stable held ≡ true)) held t.0 t.1 t.2 e (gives, t.1, t.3)

-- ---- members

pub members_go_on : (id : ViewId) (count i : ℕ) (before : List Address) (bytes : List ℕ) (a : Address) (rest : List ℕ) (total : Read (List Address)) → i < count → address_at bytes ≡ Ok (a, rest) → may_follow id before a ≡ true
    → members_at id (count - i) before bytes ≡ total → members_at id (count - (i + 1)) (before ++ a ∷ []) rest ≡ total
unfolding members_at
members_go_on id count i before bytes a rest total lt h ok so_far =
    let k : count - i ≡ suc (count - (i + 1)) = omega arith in
    let one : members_at id (count - i) before bytes ≡ members_at id (count - (i + 1)) (before ++ a ∷ []) rest = rw (k, h, ok) refl in
    sym one ∙ so_far

pub members_no_address : (id : ViewId) (count i : ℕ) (before : List Address) (bytes : List ℕ) (e : WireError) (total : Read (List Address)) → i < count → address_at bytes ≡ Err e
    → members_at id (count - i) before bytes ≡ total → total ≡ Err e
unfolding members_at
members_no_address id count i before bytes e total lt h so_far =
    let k : count - i ≡ suc (count - (i + 1)) = omega arith in
    let one : members_at id (count - i) before bytes ≡ Err e = rw (k, h) refl in
    sym so_far ∙ one

pub members_wrong : (id : ViewId) (count i : ℕ) (before : List Address) (bytes : List ℕ) (a : Address) (rest : List ℕ) (total : Read (List Address)) → i < count → address_at bytes ≡ Ok (a, rest) → may_follow id before a ≡ false
    → members_at id (count - i) before bytes ≡ total → total ≡ Err Value
unfolding members_at
members_wrong id count i before bytes a rest total lt h wrong so_far =
    let k : count - i ≡ suc (count - (i + 1)) = omega arith in
    let one : members_at id (count - i) before bytes ≡ Err Value = rw (k, h, wrong) refl in
    sym so_far ∙ one

pub members_done : (id : ViewId) (count i : ℕ) (before : List Address) (bytes : List ℕ) (total : Read (List Address)) → count ≤ i → members_at id (count - i) before bytes ≡ total → total ≡ Ok (before, bytes)
unfolding members_at
members_done id count i before bytes total le so_far =
    let k : count - i ≡ 0 = omega arith in
    let one : members_at id (count - i) before bytes ≡ Ok (before, bytes) = rw k refl in
    sym so_far ∙ one

-- ---- those who go together

pub together_goes_on : (count i : ℕ) (left before : List Address) (bytes : List ℕ) (a : Address) (rest : List ℕ) (others : List Address) (total : Read (List Address)) → i < count → address_at bytes ≡ Ok (a, rest) → rest_after a left ≡ Some others
    → together_at (count - i) left before bytes ≡ total → together_at (count - (i + 1)) others (before ++ a ∷ []) rest ≡ total
unfolding together_at
together_goes_on count i left before bytes a rest others total lt h ok so_far =
    let k : count - i ≡ suc (count - (i + 1)) = omega arith in
    let one : together_at (count - i) left before bytes ≡ together_at (count - (i + 1)) others (before ++ a ∷ []) rest = rw (k, h, ok) refl in
    sym one ∙ so_far

pub together_no_address : (count i : ℕ) (left before : List Address) (bytes : List ℕ) (e : WireError) (total : Read (List Address)) → i < count → address_at bytes ≡ Err e → together_at (count - i) left before bytes ≡ total → total ≡ Err e
unfolding together_at
together_no_address count i left before bytes e total lt h so_far =
    let k : count - i ≡ suc (count - (i + 1)) = omega arith in
    let one : together_at (count - i) left before bytes ≡ Err e = rw (k, h) refl in
    sym so_far ∙ one

pub together_wrong : (count i : ℕ) (left before : List Address) (bytes : List ℕ) (a : Address) (rest : List ℕ) (total : Read (List Address)) → i < count → address_at bytes ≡ Ok (a, rest) → rest_after a left ≡ None → together_at (count - i) left before bytes ≡ total → total ≡ Err Value
unfolding together_at
together_wrong count i left before bytes a rest total lt h wrong so_far =
    let k : count - i ≡ suc (count - (i + 1)) = omega arith in
    let one : together_at (count - i) left before bytes ≡ Err Value = rw (k, h, wrong) refl in
    sym so_far ∙ one

pub together_done : (count i : ℕ) (left before : List Address) (bytes : List ℕ) (total : Read (List Address)) → count ≤ i → together_at (count - i) left before bytes ≡ total → total ≡ Ok (before, bytes)
unfolding together_at
together_done count i left before bytes total le so_far =
    let k : count - i ≡ 0 = omega arith in
    let one : together_at (count - i) left before bytes ≡ Ok (before, bytes) = rw k refl in
    sym so_far ∙ one

-- what was found behind those before it is in member order
pub record InOrder (n : ℕ) (left before found : List Address) : Type 0 where
  pub new : List Address
  pub whole : found ≡ before ++ new
  pub count : length new ≡ n
  pub ordered : is_in_order new left ≡ true

pub together_ordered : (n : ℕ) (left before : List Address) (bytes : List ℕ) (found : List Address × List ℕ) → together_at n left before bytes ≡ Ok found → InOrder n left before found.0
unfolding together_at
together_ordered zero left before bytes found e = along (λ (p : List Address × List ℕ). InOrder 0 left before p.0) (before, bytes) found (ok_is (before, bytes) found e) (record { new = []; whole = sym (append-nil before); count = refl; ordered = refl })
together_ordered (suc n) left before bytes found e =
    let a = bind_ok (address_at bytes) (λ a. option_map_or (λ rest. together_at n rest (before ++ a.0 ∷ []) a.1) (rest_after a.0 left) (Err Value)) found e in
    let g = found_rest (λ rest. together_at n rest (before ++ a.0.0 ∷ []) a.0.1) (rest_after a.0.0 left) found a.2 in
    let o = together_ordered n g.0 (before ++ a.0.0 ∷ []) a.0.1 found g.2 in
    record {
      new = a.0.0 ∷ o.new;
      whole = o.whole ∙ append_assoc before (a.0.0 ∷ []) o.new;
      count = ap suc o.count;
      ordered = ap (λ (r : Option (List Address)). option_map_or (is_in_order o.new) r false) g.1 ∙ o.ordered;
    }
