-- The laws of a view's members, and of those who go together.
use Rattle.std.proofs.Common.{◌≡◌, ℕ, zero, suc, ◌+◌, ◌<◌, ◌≤◌, Bool, true, false, cond, ltb, eqb, ◌||◌, List, [], ◌∷◌, ◌++◌, length, get_or, take, drop, Option, Some, None, Result, Ok, Err, refl, sym, ap, subst, ◌∙◌, append_assoc, arith}
use Rattle.std.specs.Prelude.{not}
use Rattle.std.specs.List.{flat_map, AllByRecursion}
use Rattle.std.specs.Option.{option_map_or}
use Rattle.std.proofs.lemmas.Bool.{ltb-false, le-ltb, not-true, not-false, and_parts}
use Rattle.std.proofs.lemmas.Bool.Decides.{nat_tests}
use Rattle.std.proofs.lemmas.List.{append-nil, take-append-drop, take_more}
use Rattle.std.proofs.Math.Seq.{drop-cons}
use Rattle.std.proofs.lemmas.List.Folds.{list_any-append}
use Rattle.byteorder.specs.Endian.{big_bytes}
use Rattle.address.specs.Ids.{Address, ViewId, same_address}
use Rattle.view.specs.Members.{View, stands_in, is_distinct}
use Rattle.view.specs.View.{view_refusal, begins_with}
use Rattle.address.specs.declared.limits.TheConstants.{MEMBERS}
use Rattle.view.specs.declared.ViewError.TheVariants.{Empty, TooMany, Repeated, NotFirst}
use Rattle.wire_values.specs.declared.error.WireError.{WireError}
use Rattle.wire_values.specs.declared.error.WireError.TheVariants.{Length, Value}
use Rattle.wire_values.specs.Reading.{◌>>=◌, number_at}
use Rattle.wire_values.specs.Fields.{IsAddress, address_bytes, view_id_bytes, address_at, view_id_at}
use Rattle.wire_values.specs.Lists.{IsView, addresses_bytes, view_bytes, may_follow, members_at, view_at, rest_after, is_in_order, together_at}
use Rattle.big_endian.specs.Spelled.{IsBytes}
use Rattle.big_endian.proofs.Bytes.{wide1}
use Rattle.wire_values.proofs.FieldLaws.{bind_ok, ok_is, test_ok, Takes, Takes-then, IsPart, address_part, view_id_part, number_takes, number_again}
use Rattle.address.proofs.SameIds.{same_address-sym}
use Rattle.view.proofs.MembersListed.{distinct-push}

-- ---- which lists of addresses are a view's

-- one of two tests
pub either_false : (a b : Bool) → (a || b) ≡ false → (a ≡ false) × (b ≡ false)
either_false true b e = absurd cc
either_false false b e = (refl, e)

-- the first is the creator, and no address stands twice
abbrev pub Sound : ViewId → List Address → Type 0
Sound id [] = Unit {0}
Sound id (m ∷ members) = (same_address id.creator m ≡ true) × (is_distinct (m ∷ members) ≡ true)

pub sound_push : (id : ViewId) (before : List Address) (a : Address) → Sound id before → may_follow id before a ≡ true → Sound id (before ++ a ∷ [])
sound_push id [] a h e = (e, refl)
sound_push id (b ∷ before) a h e = (h.0, distinct-push a (b ∷ before) h.1 (not-true (stands_in a (b ∷ before)) e))

distinct_apart : (xs : List Address) (a : Address) (ys : List Address) → is_distinct (xs ++ a ∷ ys) ≡ true → stands_in a xs ≡ false
distinct_apart [] a ys h = refl
distinct_apart (x ∷ xs) a ys h =
    let tests = and_parts (not (stands_in x (xs ++ a ∷ ys))) (is_distinct (xs ++ a ∷ ys)) h in
    let out : (stands_in x xs || (same_address x a || stands_in x ys)) ≡ false = sym (list_any-append (same_address x) xs (a ∷ ys)) ∙ not-true (stands_in x (xs ++ a ∷ ys)) tests.0 in
    let apart = either_false (same_address x a) (stands_in x ys) (either_false (stands_in x xs) (same_address x a || stands_in x ys) out).1 in
    rw (same_address-sym a x ∙ apart.0) (distinct_apart xs a ys tests.1)

pub sound_next : (id : ViewId) (before : List Address) (a : Address) (others : List Address) → Sound id (before ++ a ∷ others) → may_follow id before a ≡ true
sound_next id [] a others h = h.0
sound_next id (b ∷ before) a others h = ap not (distinct_apart (b ∷ before) a others h.1)

-- one more member
pub take_one : (members : List Address) (i : ℕ) (a : Address) → i < length members → a ≡ get_or members i a → take (i + 1) members ≡ take i members ++ a ∷ []
take_one members i a lt is = take_more members i a lt ∙ ap (λ (x : Address). take i members ++ x ∷ []) (sym is)

-- at each place of sound members
pub sound_at : (id : ViewId) (members : List Address) (i : ℕ) (a : Address) → i < length members → a ≡ get_or members i a → Sound id members → may_follow id (take i members) a ≡ true
sound_at id members i a lt is h =
    let parts : members ≡ take i members ++ a ∷ drop (suc i) members = sym (take-append-drop i members) ∙ ap (λ (t : List Address). take i members ++ t) (drop-cons members i a lt ∙ ap (λ (x : Address). x ∷ drop (suc i) members) (sym is)) in
    sound_next id (take i members) a (drop (suc i) members) (subst (λ (m : List Address). Sound id m) parts h)

-- the tests of a view, one after the other
none_of : (a b c d : Bool) → cond a (Some Empty) (cond b (Some TooMany) (cond c (Some Repeated) (cond d (Some NotFirst) None))) ≡ None → (b ≡ false) × (c ≡ false) × (d ≡ false)
none_of true b c d e = absurd cc
none_of false true c d e = absurd cc
none_of false false true d e = absurd cc
none_of false false false true e = absurd cc
none_of false false false false e = (refl, refl, refl)

pub sound_view : (id : ViewId) (members : List Address) → view_refusal id members ≡ None → (1 ≤ length members) × (length members ≤ MEMBERS) × Sound id members
sound_view id [] e = absurd cc
sound_view id (m ∷ members) e =
    let t = none_of (eqb (length (m ∷ members)) 0) (ltb MEMBERS (length (m ∷ members))) (not (is_distinct (m ∷ members))) (not (begins_with id.creator (m ∷ members))) e in
    (omega arith, ltb-false _ _ t.0, (not-false _ t.2, not-false _ t.1))

nonzero : (n : ℕ) → eqb (suc n) 0 ≡ false
nonzero n = grind (arith, nat_tests)

pub view_sound : (id : ViewId) (members : List Address) → 1 ≤ length members → length members ≤ MEMBERS → Sound id members → view_refusal id members ≡ None
view_sound id [] some few h = absurd (omega arith)
view_sound id (m ∷ members) some few h =
    let fits : ltb MEMBERS (length (m ∷ members)) ≡ false = le-ltb _ _ few in
    rw (nonzero (length members), fits, h.1, h.0) refl

-- ---- members behind those before them

-- what was read behind those before it
pub record Listed (before : List Address) (n : ℕ) (bytes : List ℕ) (found : List Address × List ℕ) : Type 0 where
  pub new : List Address
  pub whole : found.0 ≡ before ++ new
  pub takes : Takes bytes (flat_map address_bytes new) found.1
  pub count : length new ≡ n
  pub fits : AllByRecursion IsAddress new

none_listed : (before : List Address) (bytes : List ℕ) → IsBytes bytes → Listed before 0 bytes (before, bytes)
none_listed before bytes fits = record { new = []; whole = sym (append-nil before); takes = record { parts = refl; rest_fits = fits }; count = refl; fits = tt }

one_listed : (before : List Address) (a : Address) (n : ℕ) (bytes after : List ℕ) (found : List Address × List ℕ) → Takes bytes (address_bytes a) after → IsAddress a → Listed (before ++ a ∷ []) n after found → Listed before (suc n) bytes found
one_listed before a n bytes after found t is l = record {
  new = a ∷ l.new;
  whole = l.whole ∙ append_assoc before (a ∷ []) l.new;
  takes = Takes-then bytes (address_bytes a) after (flat_map address_bytes l.new) found.1 t l.takes;
  count = ap suc l.count;
  fits = (is, l.fits);
}

pub members_take : (id : ViewId) (n : ℕ) (before : List Address) (bytes : List ℕ) (found : List Address × List ℕ) → IsBytes bytes → members_at id n before bytes ≡ Ok found → Listed before n bytes found
unfolding members_at
members_take id zero before bytes found fits e = subst (λ (p : List Address × List ℕ). Listed before 0 bytes p) (ok_is (before, bytes) found e) (none_listed before bytes fits)
members_take id (suc n) before bytes found fits e =
    let a = bind_ok (address_at bytes) (λ a. cond (may_follow id before a.0) (members_at id n (before ++ a.0 ∷ []) a.1) (Err Value)) found e in
    let g = test_ok (may_follow id before a.0.0) Value (members_at id n (before ++ a.0.0 ∷ []) a.0.1) found a.2 in
    let t = address_part.takes bytes a.0.0 a.0.1 fits a.1 in
    one_listed before a.0.0 n bytes a.0.1 found t.0 t.1 (members_take id n (before ++ a.0.0 ∷ []) a.0.1 found t.0.rest_fits g.1)

pub members_sound : (id : ViewId) (n : ℕ) (before : List Address) (bytes : List ℕ) (found : List Address × List ℕ) → Sound id before → members_at id n before bytes ≡ Ok found → Sound id found.0
unfolding members_at
members_sound id zero before bytes found h e = subst (λ (p : List Address × List ℕ). Sound id p.0) (ok_is (before, bytes) found e) h
members_sound id (suc n) before bytes found h e =
    let a = bind_ok (address_at bytes) (λ a. cond (may_follow id before a.0) (members_at id n (before ++ a.0 ∷ []) a.1) (Err Value)) found e in
    let g = test_ok (may_follow id before a.0.0) Value (members_at id n (before ++ a.0.0 ∷ []) a.0.1) found a.2 in
    members_sound id n (before ++ a.0.0 ∷ []) a.0.1 found (sound_push id before a.0.0 h g.0) g.1

pub members_again : (id : ViewId) (before new : List Address) (rest : List ℕ) → AllByRecursion IsAddress new → Sound id (before ++ new) → members_at id (length new) before (flat_map address_bytes new ++ rest) ≡ Ok (before ++ new, rest)
unfolding members_at
members_again id before [] rest fits h = ap (λ (m : List Address). Ok (m, rest)) (sym (append-nil before))
members_again id before (a ∷ new) rest fits h =
    let left = flat_map address_bytes new ++ rest in
    let pushed : before ++ a ∷ new ≡ (before ++ a ∷ []) ++ new = sym (append_assoc before (a ∷ []) new) in
    ap (members_at id (suc (length new)) before) (append_assoc (address_bytes a) (flat_map address_bytes new) rest)
    ∙ rw (address_part.again a left fits.0, sound_next id before a new h) (members_again id (before ++ a ∷ []) new rest fits.1 (subst (λ (m : List Address). Sound id m) pushed h))
    ∙ ap (λ (m : List Address). Ok (m, rest)) (sym pushed)

-- ---- views

view_takes : (bytes : List ℕ) (v : View) (rest : List ℕ) → IsBytes bytes → view_at bytes ≡ Ok (v, rest) → Takes bytes (view_bytes v) rest × IsView v
unfolding view_at
view_takes bytes v rest fits e =
    let a = bind_ok (view_id_at bytes) (λ id. number_at 1 1 MEMBERS Length id.1 >>= λ count. members_at id.0 count.0 [] count.1 >>= λ members. Ok (record { id = id.0; members = members.0 }, members.1)) (v, rest) e in
    let b = bind_ok (number_at 1 1 MEMBERS Length a.0.1) (λ count. members_at a.0.0 count.0 [] count.1 >>= λ members. Ok (record { id = a.0.0; members = members.0 }, members.1)) (v, rest) a.2 in
    let c = bind_ok (members_at a.0.0 b.0.0 [] b.0.1) (λ members. Ok (record { id = a.0.0; members = members.0 }, members.1)) (v, rest) b.2 in
    let t = view_id_part.takes bytes a.0.0 a.0.1 fits a.1 in
    let u = number_takes 1 wide1 1 MEMBERS Length a.0.1 b.0.0 b.0.1 t.0.rest_fits b.1 in
    let l = members_take a.0.0 b.0.0 [] b.0.1 c.0 u.0.rest_fits c.1 in
    let members : List Address = c.0.0 in
    let made : View = record { id = a.0.0; members = members } in
    let len : length members ≡ b.0.0 = ap length l.whole ∙ l.count in
    let w : Takes b.0.1 (flat_map address_bytes members) c.0.1 = subst (λ (m : List Address). Takes b.0.1 (flat_map address_bytes m) c.0.1) (sym l.whole) l.takes in
    let uw : Takes a.0.1 (addresses_bytes members) c.0.1 = subst (λ (n : ℕ). Takes a.0.1 (big_bytes 1 n ++ flat_map address_bytes members) c.0.1) (sym len) (Takes-then a.0.1 (big_bytes 1 b.0.0) b.0.1 (flat_map address_bytes members) c.0.1 u.0 w) in
    let is : IsView made = record {
      id = t.1;
      members = subst (λ (m : List Address). AllByRecursion IsAddress m) (sym l.whole) l.fits;
      sound = view_sound a.0.0 members (omega (arith, len, u.1)) (omega (arith, len, u.2)) (members_sound a.0.0 b.0.0 [] b.0.1 c.0 tt c.1);
    } in
    subst (λ (p : View × List ℕ). Takes bytes (view_bytes p.0) p.1 × IsView p.0) (ok_is (made, c.0.1) (v, rest) c.2)
    (Takes-then bytes (view_id_bytes a.0.0) a.0.1 (addresses_bytes members) c.0.1 t.0 uw, is)

view_again : (v : View) (rest : List ℕ) → IsView v → view_at (view_bytes v ++ rest) ≡ Ok (v, rest)
unfolding view_at
view_again v rest fits =
    let s = sound_view v.id v.members fits.sound in
    let left = flat_map address_bytes v.members ++ rest in
    let regrouped : view_bytes v ++ rest ≡ view_id_bytes v.id ++ (big_bytes 1 (length v.members) ++ left) =
    append_assoc (view_id_bytes v.id) (addresses_bytes v.members) rest ∙ ap (λ (x : List ℕ). view_id_bytes v.id ++ x) (append_assoc (big_bytes 1 (length v.members)) (flat_map address_bytes v.members) rest) in
    ap view_at regrouped
    ∙ rw (view_id_part.again v.id (big_bytes 1 (length v.members) ++ left) fits.id, number_again 1 1 MEMBERS Length (length v.members) left (omega (arith, s.1)) s.0 s.1, members_again v.id [] v.members rest fits.members s.2) refl

pub view_part : IsPart view_at view_bytes IsView
view_part = record { takes = view_takes; again = view_again }

-- ---- those who go together

-- a step that found the rest of the members
pub found_rest : {A : Type 0} (f : List Address → Result A WireError) (o : Option (List Address)) (y : A) → option_map_or f o (Err Value) ≡ Ok y → (left : List Address) × (o ≡ Some left) × (f left ≡ Ok y)
found_rest f None y e = absurd cc
found_rest f (Some left) y e = (left, refl, e)

rest_true : (f : List Address → Bool) (o : Option (List Address)) → option_map_or f o false ≡ true → (left : List Address) × (o ≡ Some left) × (f left ≡ true)
rest_true f None e = absurd cc
rest_true f (Some left) e = (left, refl, e)

pub record Ordered (left before : List Address) (n : ℕ) (bytes : List ℕ) (found : List Address × List ℕ) : Type 0 where
  pub listed : Listed before n bytes found
  pub ordered : is_in_order listed.new left ≡ true

pub together_take : (n : ℕ) (left before : List Address) (bytes : List ℕ) (found : List Address × List ℕ) → IsBytes bytes → together_at n left before bytes ≡ Ok found → Ordered left before n bytes found
unfolding together_at none_listed one_listed
together_take zero left before bytes found fits e = subst (λ (p : List Address × List ℕ). Ordered left before 0 bytes p) (ok_is (before, bytes) found e) (record { listed = none_listed before bytes fits; ordered = refl })
together_take (suc n) left before bytes found fits e =
    let a = bind_ok (address_at bytes) (λ a. option_map_or (λ rest. together_at n rest (before ++ a.0 ∷ []) a.1) (rest_after a.0 left) (Err Value)) found e in
    let g = found_rest (λ rest. together_at n rest (before ++ a.0.0 ∷ []) a.0.1) (rest_after a.0.0 left) found a.2 in
    let t = address_part.takes bytes a.0.0 a.0.1 fits a.1 in
    let o = together_take n g.0 (before ++ a.0.0 ∷ []) a.0.1 found t.0.rest_fits g.2 in
    record { listed = one_listed before a.0.0 n bytes a.0.1 found t.0 t.1 o.listed; ordered = ap (λ (r : Option (List Address)). option_map_or (is_in_order o.listed.new) r false) g.1 ∙ o.ordered }

pub together_again : (left before new : List Address) (rest : List ℕ) → AllByRecursion IsAddress new → is_in_order new left ≡ true → together_at (length new) left before (flat_map address_bytes new ++ rest) ≡ Ok (before ++ new, rest)
unfolding together_at
together_again left before [] rest fits h = ap (λ (m : List Address). Ok (m, rest)) (sym (append-nil before))
together_again left before (a ∷ new) rest fits h =
    let g = rest_true (is_in_order new) (rest_after a left) h in
    ap (together_at (suc (length new)) left before) (append_assoc (address_bytes a) (flat_map address_bytes new) rest)
    ∙ rw (address_part.again a (flat_map address_bytes new ++ rest) fits.0, g.1) (together_again g.0 (before ++ a ∷ []) new rest fits.1 g.2)
    ∙ ap (λ (m : List Address). Ok (m, rest)) (append_assoc before (a ∷ []) new)
