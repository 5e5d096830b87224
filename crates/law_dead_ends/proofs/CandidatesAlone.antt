-- Who stands among the candidates of a member, and when it stands there alone.
use Rattle.std.proofs.Common.{◌≡◌, ℕ, zero, suc, ◌+◌, ◌≤◌, ◌<◌, Bool, true, false, cond, not, ◌&&◌, ◌||◌, ◌⊎◌, inl, inr, Some, None, List, [], ◌∷◌, ◌++◌, take, length, max, refl, sym, ap, ◌∙◌, subst, arith}
use Rattle.std.specs.Prelude.{filter, fold, nat_eq, nat_lt, if◌then◌else◌}
use Rattle.std.specs.List.{list_all, list_any, position_or_len}
use Rattle.std.specs.Option.{option_map_or}
use Rattle.std.specs.Cmp.Lexicographic.{pointwise}
use Rattle.std.proofs.lemmas.Bool.{and_parts, and_from, or_parts, or_cases, or_left, or_right, not-true}
use Rattle.std.proofs.lemmas.Bool.Decides.{nat_tests}
use Rattle.std.proofs.lemmas.List.{take_all}
use Rattle.std.proofs.lemmas.Option.{none-some}
use Rattle.address.specs.Ids.{Address, ViewId, same_address}
use Rattle.address.proofs.SameIds.{same_address-true, same_address-refl, same_address-sym}
use Rattle.address.specs.declared.limits.TheConstants.{MEMBERS}
use Rattle.view.specs.Members.{stands_in, is_distinct}
use Rattle.view.specs.View.{view_refusal, begins_with}
use Rattle.suspicion.specs.Suspicion.{leads}
use Rattle.next_view.specs.ViewNotes.{NotesModel, is_later}
use Rattle.next_view.specs.Candidates.{with_one, unsuspected, is_current, all_candidates, candidates}
use Rattle.view.specs.declared.ViewError.TheVariants.{Empty, TooMany, Repeated, NotFirst}
use Rattle.law_acts.specs.Acts.{others_of}

-- ---- who stands in a list

-- one who stands there, and is another
pub record Other (me : Address) (list : List Address) : Type 0 where
  pub who : Address
  pub stands : stands_in who list ≡ true
  pub apart : same_address who me ≡ false

pub stands-front : (q : Address) (xs ys : List Address) → stands_in q xs ≡ true → stands_in q (xs ++ ys) ≡ true
stands-front q [] ys e = absurd (let n : false ≡ true = e in cc)
stands-front q (x ∷ xs) ys e = by (or_cases (same_address q x) (stands_in q xs) e) (stands-front q xs ys)
  where
    by : (same_address q x ≡ true) ⊎ (stands_in q xs ≡ true) → (stands_in q xs ≡ true → stands_in q (xs ++ ys) ≡ true) → stands_in q (x ∷ xs ++ ys) ≡ true
    by (inl same) later = or_left (same_address q x) (stands_in q (xs ++ ys)) same
    by (inr there) later = or_right (same_address q x) (stands_in q (xs ++ ys)) (later there)

pub stands-behind : (q : Address) (xs ys : List Address) → stands_in q ys ≡ true → stands_in q (xs ++ ys) ≡ true
stands-behind q [] ys e = e
stands-behind q (x ∷ xs) ys e = or_right (same_address q x) (stands_in q (xs ++ ys)) (stands-behind q xs ys e)

pub stands-then : (q : Address) (xs ys : List Address) → stands_in q (xs ++ ys) ≡ true → (stands_in q xs ≡ true) ⊎ (stands_in q ys ≡ true)
stands-then q [] ys e = inr e
stands-then q (x ∷ xs) ys e = by (or_cases (same_address q x) (stands_in q (xs ++ ys)) e) (stands-then q xs ys)
  where
    by : (same_address q x ≡ true) ⊎ (stands_in q (xs ++ ys) ≡ true) → (stands_in q (xs ++ ys) ≡ true → (stands_in q xs ≡ true) ⊎ (stands_in q ys ≡ true))
        → (stands_in q (x ∷ xs) ≡ true) ⊎ (stands_in q ys ≡ true)
    by (inl same) later = inl (or_left (same_address q x) (stands_in q xs) same)
    by (inr there) later = next (later there)
      where
        next : (stands_in q xs ≡ true) ⊎ (stands_in q ys ≡ true) → (stands_in q (x ∷ xs) ≡ true) ⊎ (stands_in q ys ≡ true)
        next (inl a) = inl (or_right (same_address q x) (stands_in q xs) a)
        next (inr b) = inr b

-- a test that holds of who stands there holds of the one that is the same
same-test : (t : Address → Bool) (q x : Address) → same_address q x ≡ true → t x ≡ true → t q ≡ true
same-test t q x same e = ap t (same_address-true q x same) ∙ e

-- what a filter keeps
pub from-filter : (t : Address → Bool) (q : Address) (xs : List Address) → stands_in q (filter t xs) ≡ true → (stands_in q xs ≡ true) × (t q ≡ true)
from-filter t q [] e = absurd (let n : false ≡ true = e in cc)
from-filter t q (x ∷ xs) e = by (t x) refl e (from-filter t q xs)
  where
    more : (stands_in q xs ≡ true) × (t q ≡ true) → (stands_in q (x ∷ xs) ≡ true) × (t q ≡ true)
    more (there, passes) = (or_right (same_address q x) (stands_in q xs) there, passes)

    by : (b : Bool) → t x ≡ b → stands_in q (cond b (x ∷ filter t xs) (filter t xs)) ≡ true → (stands_in q (filter t xs) ≡ true → (stands_in q xs ≡ true) × (t q ≡ true))
        → (stands_in q (x ∷ xs) ≡ true) × (t q ≡ true)
    by true is there later = here (or_cases (same_address q x) (stands_in q (filter t xs)) there)
      where
        here : (same_address q x ≡ true) ⊎ (stands_in q (filter t xs) ≡ true) → (stands_in q (x ∷ xs) ≡ true) × (t q ≡ true)
        here (inl same) = (or_left (same_address q x) (stands_in q xs) same, same-test t q x same is)
        here (inr behind) = more (later behind)
    by false is there later = more (later there)

pub into-filter : (t : Address → Bool) (q : Address) (xs : List Address) → stands_in q xs ≡ true → t q ≡ true → stands_in q (filter t xs) ≡ true
into-filter t q [] e passes = absurd (let n : false ≡ true = e in cc)
into-filter t q (x ∷ xs) e passes = by (or_cases (same_address q x) (stands_in q xs) e) (t x) refl (λ there. into-filter t q xs there passes)
  where
    by : (same_address q x ≡ true) ⊎ (stands_in q xs ≡ true) → (b : Bool) → t x ≡ b → (stands_in q xs ≡ true → stands_in q (filter t xs) ≡ true)
        → stands_in q (cond b (x ∷ filter t xs) (filter t xs)) ≡ true
    by (inl same) true is later = or_left (same_address q x) (stands_in q (filter t xs)) same
    by (inl same) false is later = absurd (let n : true ≡ false = sym passes ∙ ap t (same_address-true q x same) ∙ is in cc)
    by (inr there) true is later = or_right (same_address q x) (stands_in q (filter t xs)) (later there)
    by (inr there) false is later = later there

pub from-take : (n : ℕ) (q : Address) (xs : List Address) → stands_in q (take n xs) ≡ true → stands_in q xs ≡ true
from-take zero q xs e = absurd (let n : false ≡ true = e in cc)
from-take (suc n) q [] e = e
from-take (suc n) q (x ∷ xs) e = by (or_cases (same_address q x) (stands_in q (take n xs)) e) (from-take n q xs)
  where
    by : (same_address q x ≡ true) ⊎ (stands_in q (take n xs) ≡ true) → (stands_in q (take n xs) ≡ true → stands_in q xs ≡ true) → stands_in q (x ∷ xs) ≡ true
    by (inl same) later = or_left (same_address q x) (stands_in q xs) same
    by (inr there) later = or_right (same_address q x) (stands_in q xs) (later there)

-- ---- those who are not suspected

stands-with : (s acc : List Address) (q x : Address) (b : Bool) → (stands_in x s || stands_in x acc) ≡ b → stands_in q (if b then acc else acc ++ x ∷ []) ≡ true
    → (stands_in q acc ≡ true) ⊎ ((stands_in q s ≡ false) × (same_address q x ≡ true))
stands-with s acc q x true is e = inl e
stands-with s acc q x false is e = by (stands-then q acc (x ∷ []) e)
  where
    by : (stands_in q acc ≡ true) ⊎ (stands_in q (x ∷ []) ≡ true) → (stands_in q acc ≡ true) ⊎ ((stands_in q s ≡ false) × (same_address q x ≡ true))
    by (inl there) = inl there
    by (inr here) =
        let same : same_address q x ≡ true = one (or_cases (same_address q x) false here) in
        inr (ap (λ a. stands_in a s) (same_address-true q x same) ∙ (or_parts (stands_in x s) (stands_in x acc) is).0, same)
      where
        one : (same_address q x ≡ true) ⊎ (false ≡ true) → same_address q x ≡ true
        one (inl e) = e
        one (inr e) = absurd (let n : false ≡ true = e in cc)

from-fold : (s : List Address) (q : Address) (acc xs : List Address) → stands_in q (fold (with_one s) acc xs) ≡ true
    → (stands_in q acc ≡ true) ⊎ ((stands_in q s ≡ false) × (stands_in q xs ≡ true))
from-fold s q acc [] e = inl e
from-fold s q acc (x ∷ xs) e = by (from-fold s q (with_one s acc x) xs e)
  where
    by : (stands_in q (with_one s acc x) ≡ true) ⊎ ((stands_in q s ≡ false) × (stands_in q xs ≡ true)) → (stands_in q acc ≡ true) ⊎ ((stands_in q s ≡ false) × (stands_in q (x ∷ xs) ≡ true))
    by (inr (free, there)) = inr (free, or_right (same_address q x) (stands_in q xs) there)
    by (inl there) = next (stands-with s acc q x (stands_in x s || stands_in x acc) refl there)
      where
        next : (stands_in q acc ≡ true) ⊎ ((stands_in q s ≡ false) × (same_address q x ≡ true)) → (stands_in q acc ≡ true) ⊎ ((stands_in q s ≡ false) × (stands_in q (x ∷ xs) ≡ true))
        next (inl a) = inl a
        next (inr (free, same)) = inr (free, or_left (same_address q x) (stands_in q xs) same)

keep-with : (s acc : List Address) (q x : Address) (b : Bool) → stands_in q acc ≡ true → stands_in q (if b then acc else acc ++ x ∷ []) ≡ true
keep-with s acc q x true e = e
keep-with s acc q x false e = stands-front q acc (x ∷ []) e

keep-fold : (s : List Address) (q : Address) (acc xs : List Address) → stands_in q acc ≡ true → stands_in q (fold (with_one s) acc xs) ≡ true
keep-fold s q acc [] e = e
keep-fold s q acc (x ∷ xs) e = keep-fold s q (with_one s acc x) xs (keep-with s acc q x (stands_in x s || stands_in x acc) e)

add-with : (s acc : List Address) (q x : Address) (b : Bool) → (stands_in x s || stands_in x acc) ≡ b → same_address q x ≡ true → stands_in q s ≡ false
    → stands_in q (if b then acc else acc ++ x ∷ []) ≡ true
add-with s acc q x true is same free = by (or_cases (stands_in x s) (stands_in x acc) is)
  where
    by : (stands_in x s ≡ true) ⊎ (stands_in x acc ≡ true) → stands_in q acc ≡ true
    by (inl bad) = absurd (let n : true ≡ false = sym bad ∙ ap (λ a. stands_in a s) (sym (same_address-true q x same)) ∙ free in cc)
    by (inr there) = ap (λ a. stands_in a acc) (same_address-true q x same) ∙ there
add-with s acc q x false is same free = stands-behind q acc (x ∷ []) (or_left (same_address q x) false same)

into-fold : (s : List Address) (q : Address) (acc xs : List Address) → stands_in q s ≡ false → stands_in q xs ≡ true → stands_in q (fold (with_one s) acc xs) ≡ true
into-fold s q acc [] free e = absurd (let n : false ≡ true = e in cc)
into-fold s q acc (x ∷ xs) free e = by (or_cases (same_address q x) (stands_in q xs) e) (into-fold s q (with_one s acc x) xs free)
  where
    by : (same_address q x ≡ true) ⊎ (stands_in q xs ≡ true) → (stands_in q xs ≡ true → stands_in q (fold (with_one s) (with_one s acc x) xs) ≡ true)
        → stands_in q (fold (with_one s) (with_one s acc x) xs) ≡ true
    by (inl same) later = keep-fold s q (with_one s acc x) xs (add-with s acc q x (stands_in x s || stands_in x acc) refl same free)
    by (inr there) later = later there

pub any-passing : (t : Address → Bool) (q : Address) (list : List Address) → stands_in q list ≡ true → t q ≡ true → list_any t list ≡ true
any-passing t q [] e passes = absurd (let n : false ≡ true = e in cc)
any-passing t q (x ∷ list) e passes = by (or_cases (same_address q x) (stands_in q list) e) (λ there. any-passing t q list there passes)
  where
    by : (same_address q x ≡ true) ⊎ (stands_in q list ≡ true) → (stands_in q list ≡ true → list_any t list ≡ true) → list_any t (x ∷ list) ≡ true
    by (inl same) later = or_left (t x) (list_any t list) (ap t (sym (same_address-true q x same)) ∙ passes)
    by (inr there) later = or_right (t x) (list_any t list) (later there)

-- ---- candidates

-- a candidate is not suspected, is of the view or noted, and no later incarnation of its node is among them
pub record IsCandidate (me : Address) (members : List Address) (b : NotesModel) (q : Address) : Type 0 where
  pub free : stands_in q b.suspects ≡ false
  pub from : stands_in q (members ++ b.joiners ++ b.merging) ≡ true
  pub current : is_current me (unsuspected b.suspects (members ++ b.joiners ++ b.merging)) q ≡ true

all-mean : (me : Address) (members : List Address) (b : NotesModel) (q : Address) → stands_in q (all_candidates me members b) ≡ true → IsCandidate me members b q
all-mean me members b q e =
    let all = members ++ b.joiners ++ b.merging in
    let f = from-filter (is_current me (unsuspected b.suspects all)) q (unsuspected b.suspects all) e in
    by (from-fold b.suspects q [] all f.0) f.1
  where
    by : (stands_in q [] ≡ true) ⊎ ((stands_in q b.suspects ≡ false) × (stands_in q (members ++ b.joiners ++ b.merging) ≡ true))
        → is_current me (unsuspected b.suspects (members ++ b.joiners ++ b.merging)) q ≡ true → IsCandidate me members b q
    by (inl bad) current = absurd (let n : false ≡ true = bad in cc)
    by (inr (free, from)) current = record { free = free; from = from; current = current }

pub candidate-means : (me : Address) (members : List Address) (b : NotesModel) (q : Address) → stands_in q (candidates me members b) ≡ true → IsCandidate me members b q
candidate-means me members b q e = all-mean me members b q (from-take MEMBERS q (all_candidates me members b) e)

-- of a member that is a candidate itself no candidate is an earlier incarnation
pub candidate-latest : (me : Address) (members : List Address) (b : NotesModel) → stands_in me (candidates me members b) ≡ true → (q : Address) → stands_in q (candidates me members b) ≡ true
    → is_later me q ≡ false
candidate-latest me members b own q e = by (or_cases (same_address q me) (not (list_any (λ r. is_later r q) list)) (candidate-means me members b q e).current)
  where
    list : List Address
    list = unsuspected b.suspects (members ++ b.joiners ++ b.merging)

    itself : is_later me me ≡ false
    itself = grind (arith, nat_tests)

    there : stands_in me list ≡ true
    there = (from-filter (is_current me list) me list (from-take MEMBERS me (all_candidates me members b) own)).0

    by : (same_address q me ≡ true) ⊎ (not (list_any (λ r. is_later r q) list) ≡ true) → is_later me q ≡ false
    by (inl same) = ap (λ (a : Address). is_later me a) (same_address-true q me same) ∙ itself
    by (inr none) = cases (is_later me q) refl
      where
        cases : (b : Bool) → is_later me q ≡ b → is_later me q ≡ false
        cases false is = is
        cases true is = absurd (let n : true ≡ false = sym (any-passing (λ r. is_later r q) me list there is) ∙ not-true (list_any (λ r. is_later r q) list) none in cc)

-- ---- alone, or not

pub alone-or-other : (me : Address) (list : List Address) → (others_of me list ≡ []) ⊎ Other me list
alone-or-other me [] = inl refl
alone-or-other me (x ∷ list) = by (same_address x me) refl (alone-or-other me list)
  where
    by : (b : Bool) → same_address x me ≡ b → (others_of me list ≡ []) ⊎ Other me list → (others_of me (x ∷ list) ≡ []) ⊎ Other me (x ∷ list)
    by true same (inl none) = inl (rw (same) none)
    by true same (inr o) = inr (record { who = o.who; stands = or_right (same_address o.who x) (stands_in o.who list) o.stands; apart = o.apart })
    by false apart later = inr (record { who = x; stands = or_left (same_address x x) (stands_in x list) (same_address-refl x); apart = apart })

-- where there are no others, whoever stands there is itself
pub alone-same : (me q : Address) (list : List Address) → others_of me list ≡ [] → stands_in q list ≡ true → same_address q me ≡ true
alone-same me q list none there = by (same_address q me) refl
  where
    by : (b : Bool) → same_address q me ≡ b → same_address q me ≡ true
    by true same = same
    by false apart =
        let bad : stands_in q (others_of me list) ≡ true = into-filter (λ p. not (same_address p me)) q list there (ap not apart) in
        absurd (let n : false ≡ true = sym (ap (stands_in q) none) ∙ bad in cc)

-- the tests of a view, one after the other
none-of : {E : Type 0} (a b c d : Bool) (w x y z : E) → cond a (Some w) (cond b (Some x) (cond (not c) (Some y) (cond (not d) (Some z) None))) ≡ None → (d ≡ true) × (c ≡ true)
none-of true b c d w x y z e = absurd (none-some w (sym e))
none-of false true c d w x y z e = absurd (none-some x (sym e))
none-of false false false d w x y z e = absurd (none-some y (sym e))
none-of false false true false w x y z e = absurd (none-some z (sym e))
none-of false false true true w x y z e = (refl, refl)

view-parts : (id : ViewId) (list : List Address) → view_refusal id list ≡ None → (begins_with id.creator list ≡ true) × (is_distinct list ≡ true)
view-parts id list e =
    none-of (nat_eq (length list) 0) (nat_lt MEMBERS (length list)) (is_distinct list) (begins_with id.creator list) Empty TooMany Repeated NotFirst e

-- a view that has no others is a list of one
pub only-me : (id : ViewId) (list : List Address) → view_refusal id list ≡ None → others_of id.creator list ≡ [] → list ≡ id.creator ∷ []
only-me id list sound none = by list (view-parts id list sound) none
  where
    by : (l : List Address) → (begins_with id.creator l ≡ true) × (is_distinct l ≡ true) → others_of id.creator l ≡ [] → l ≡ id.creator ∷ []
    by [] parts none = absurd (let n : false ≡ true = parts.0 in cc)
    by (x ∷ []) parts none = ap (λ (a : Address). a ∷ []) (sym (same_address-true id.creator x parts.0))
    by (x ∷ y ∷ rest) parts none =
        let here : id.creator ≡ x = same_address-true id.creator x parts.0 in
        let there : stands_in y (x ∷ y ∷ rest) ≡ true = or_right (same_address y x) (stands_in y (y ∷ rest)) (or_left (same_address y y) (stands_in y rest) (same_address-refl y)) in
        let same : y ≡ id.creator = same_address-true y id.creator (alone-same id.creator y (x ∷ y ∷ rest) none there) in
        let once = not-true (stands_in x (y ∷ rest)) (and_parts (not (stands_in x (y ∷ rest))) (is_distinct (y ∷ rest)) parts.1).0 in
        let bad : stands_in x (y ∷ rest) ≡ true = or_left (same_address x y) (stands_in x rest) (subst (λ (a : Address). same_address x a ≡ true) (sym (same ∙ here)) (same_address-refl x)) in
        absurd (let n : true ≡ false = sym bad ∙ once in cc)

-- of a list where a test fails, one fails it
pub record Failing (t : Address → Bool) (list : List Address) : Type 0 where
  pub who : Address
  pub stands : stands_in who list ≡ true
  pub fails : t who ≡ false

pub find-failing : (t : Address → Bool) (list : List Address) → list_all t list ≡ false → Failing t list
find-failing t [] e = absurd (let n : true ≡ false = e in cc)
find-failing t (x ∷ list) e = by (t x) refl e (find-failing t list)
  where
    by : (b : Bool) → t x ≡ b → (b && list_all t list) ≡ false → (list_all t list ≡ false → Failing t list) → Failing t (x ∷ list)
    by true is rest later =
        let f = later rest in
        record { who = f.who; stands = or_right (same_address f.who x) (stands_in f.who list) f.stands; fails = f.fails }
    by false is rest later = record { who = x; stands = or_left (same_address x x) (stands_in x list) (same_address-refl x); fails = is }

-- and of one where a test holds of some, one passes it
pub record Passing (t : Address → Bool) (list : List Address) : Type 0 where
  pub who : Address
  pub stands : stands_in who list ≡ true
  pub passes : t who ≡ true

pub find-passing : (t : Address → Bool) (list : List Address) → list_any t list ≡ true → Passing t list
find-passing t [] e = absurd (let n : false ≡ true = e in cc)
find-passing t (x ∷ list) e = by (or_cases (t x) (list_any t list) e) (find-passing t list)
  where
    by : (t x ≡ true) ⊎ (list_any t list ≡ true) → (list_any t list ≡ true → Passing t list) → Passing t (x ∷ list)
    by (inl is) later = record { who = x; stands = or_left (same_address x x) (stands_in x list) (same_address-refl x); passes = is }
    by (inr rest) later =
        let f = later rest in
        record { who = f.who; stands = or_right (same_address f.who x) (stands_in f.who list) f.stands; passes = f.passes }

-- ---- who suspects all others leads

shift-back : (b : Bool) (s : List Address) (m : Address) (members : List Address) (k : ℕ) → stands_in m s ≡ true
    → option_map_or (λ rank. list_all (λ q. stands_in q s) (take rank members)) (cond b (Some k) None) false ≡ true
    → option_map_or (λ rank. list_all (λ q. stands_in q s) (take rank (m ∷ members))) (cond b (Some (suc k)) None) false ≡ true
shift-back true s m members k out e = and_from (stands_in m s) (list_all (λ q. stands_in q s) (take k members)) out e
shift-back false s m members k out e = absurd (let n : false ≡ true = e in cc)

less-less : (k n : ℕ) → nat_lt k n ≡ nat_lt (suc k) (suc n)
less-less k n = grind (arith, nat_tests)

-- all others of a list are suspected
abbrev pub OthersSuspected : Address → List Address → List Address → Type 0
OthersSuspected me members suspects = (q : Address) → stands_in q members ≡ true → same_address q me ≡ false → stands_in q suspects ≡ true

pub leads-all : (s : List Address) (p : Address) (members : List Address) → stands_in p members ≡ true → OthersSuspected p members s → leads s members p ≡ true
leads-all s p [] e all = absurd (let n : false ≡ true = e in cc)
leads-all s p (m ∷ members) e all = by (same_address p m) refl (or_cases (same_address p m) (stands_in p members) e) (λ there. leads-all s p members there (λ q in_it. all q (or_right (same_address q m) (stands_in q members) in_it)))
  where
    some : nat_lt 0 (suc (length members)) ≡ true
    some = grind (arith, nat_tests)

    by : (b : Bool) → same_address p m ≡ b → (same_address p m ≡ true) ⊎ (stands_in p members ≡ true) → (stands_in p members ≡ true → leads s members p ≡ true) → leads s (m ∷ members) p ≡ true
    by true same x later =
        let at : position_or_len (same_address p) (m ∷ members) ≡ 0 = ap (λ t. cond (not t) (1 + position_or_len (same_address p) members) 0) same in
        subst (λ k. option_map_or (λ rank. list_all (λ q. stands_in q s) (take rank (m ∷ members))) (cond (nat_lt k (suc (length members))) (Some k) None) false ≡ true) (sym at)
        (subst (λ b. option_map_or (λ rank. list_all (λ q. stands_in q s) (take rank (m ∷ members))) (cond b (Some 0) None) false ≡ true) (sym some) refl)
    by false apart (inl same) later = absurd (let n : true ≡ false = sym same ∙ apart in cc)
    by false apart (inr there) later =
        let k = position_or_len (same_address p) members in
        let at : position_or_len (same_address p) (m ∷ members) ≡ suc k = ap (λ t. cond (not t) (1 + k) 0) apart ∙ omega arith in
        let out : stands_in m s ≡ true = all m (or_left (same_address m m) (stands_in m members) (same_address-refl m)) (same_address-sym m p ∙ apart) in
        subst (λ j. option_map_or (λ rank. list_all (λ q. stands_in q s) (take rank (m ∷ members))) (cond (nat_lt j (suc (length members))) (Some j) None) false ≡ true) (sym at)
        (subst (λ t. option_map_or (λ rank. list_all (λ q. stands_in q s) (take rank (m ∷ members))) (cond t (Some (suc k)) None) false ≡ true) (less-less k (length members))
        (shift-back (nat_lt k (length members)) s m members k out (later there)))

-- ---- lists that are equal

pub pointwise-stands : (q : Address) (xs ys : List Address) → pointwise same_address xs ys ≡ true → stands_in q ys ≡ true → stands_in q xs ≡ true
pointwise-stands q [] [] e there = there
pointwise-stands q [] (y ∷ ys) e there = absurd (let n : false ≡ true = e in cc)
pointwise-stands q (x ∷ xs) [] e there = absurd (let n : false ≡ true = e in cc)
pointwise-stands q (x ∷ xs) (y ∷ ys) e there =
    let parts = and_parts (same_address x y) (pointwise same_address xs ys) e in
    by (or_cases (same_address q y) (stands_in q ys) there) (same_address-true x y parts.0) (pointwise-stands q xs ys parts.1)
  where
    by : (same_address q y ≡ true) ⊎ (stands_in q ys ≡ true) → x ≡ y → (stands_in q ys ≡ true → stands_in q xs ≡ true) → stands_in q (x ∷ xs) ≡ true
    by (inl same) is later = or_left (same_address q x) (stands_in q xs) (subst (λ (a : Address). same_address q a ≡ true) (sym is) same)
    by (inr behind) is later = or_right (same_address q x) (stands_in q xs) (later behind)

-- ---- a current one

top : List Address → ℕ
top [] = 0
top (x ∷ list) = max x.incarnation (top list)

below-top : (q : Address) (list : List Address) → stands_in q list ≡ true → q.incarnation ≤ top list
unfolding top
below-top q [] e = absurd (let n : false ≡ true = e in cc)
below-top q (x ∷ list) e = by (or_cases (same_address q x) (stands_in q list) e) (below-top q list)
  where
    by : (same_address q x ≡ true) ⊎ (stands_in q list ≡ true) → (stands_in q list ≡ true → q.incarnation ≤ top list) → q.incarnation ≤ top (x ∷ list)
    by (inl same) later = subst (λ (a : Address). a.incarnation ≤ max x.incarnation (top list)) (sym (same_address-true q x same)) (omega arith)
    by (inr there) later = let l = later there in omega (arith, l)

later-above : (q x : Address) → is_later q x ≡ true → x.incarnation < q.incarnation
later-above q x e = let p = and_parts (nat_eq q.node x.node) (nat_lt x.incarnation q.incarnation) e in grind (arith, nat_tests, p.1)

later-then : (p q x : Address) → is_later p q ≡ true → is_later q x ≡ true → is_later p x ≡ true
later-then p q x e f =
    let a = and_parts (nat_eq p.node q.node) (nat_lt q.incarnation p.incarnation) e in
    let b = and_parts (nat_eq q.node x.node) (nat_lt x.incarnation q.incarnation) f in
    and_from (nat_eq p.node x.node) (nat_lt x.incarnation p.incarnation) (grind (arith, nat_tests, a.0, b.0)) (grind (arith, nat_tests, a.1, b.1))

-- one of whom no later incarnation stands there, and who is another
pub record Current (me : Address) (list : List Address) : Type 0 where
  pub who : Address
  pub stands : stands_in who list ≡ true
  pub apart : same_address who me ≡ false
  pub current : list_any (λ q. is_later q who) list ≡ false

-- who is later than another is no other's later one, where that is not
later-other : (me x q : Address) → is_later q x ≡ true → is_later me x ≡ false → (same_address q me ≡ false) × (is_later me q ≡ false)
later-other me x q later never = (apart (same_address q me) refl, earlier (is_later me q) refl)
  where
    apart : (b : Bool) → same_address q me ≡ b → same_address q me ≡ false
    apart false is = is
    apart true same = absurd (let n : true ≡ false = sym later ∙ ap (λ a. is_later a x) (same_address-true q me same) ∙ never in cc)

    earlier : (b : Bool) → is_later me q ≡ b → is_later me q ≡ false
    earlier false is = is
    earlier true bad = absurd (let n : true ≡ false = sym (later-then me q x bad later) ∙ never in cc)

climb-by : (n : ℕ) (me : Address) (list : List Address) (x : Address) (b : Bool) → list_any (λ q. is_later q x) list ≡ b → stands_in x list ≡ true → same_address x me ≡ false → is_later me x ≡ false
    → top list ≤ x.incarnation + n → Current me list
climb-by n me list x false is there apart never bound = record { who = x; stands = there; apart = apart; current = is }
climb-by zero me list x true is there apart never bound =
    let f = find-passing (λ q. is_later q x) list is in
    let above = later-above f.who x f.passes in
    let under = below-top f.who list f.stands in
    absurd (omega (arith, above, under, bound))
climb-by (suc n) me list x true is there apart never bound =
    let f = find-passing (λ q. is_later q x) list is in
    let above = later-above f.who x f.passes in
    let o = later-other me x f.who f.passes never in
    climb-by n me list f.who (list_any (λ q. is_later q f.who) list) refl f.stands o.0 o.1 (omega (arith, above, bound))

climb : (n : ℕ) (me : Address) (list : List Address) (x : Address) → stands_in x list ≡ true → same_address x me ≡ false → is_later me x ≡ false → top list ≤ x.incarnation + n
    → Current me list
climb n me list x there apart never bound = climb-by n me list x (list_any (λ q. is_later q x) list) refl there apart never bound

-- who suspects nobody, in a view with others, of whom it is no later incarnation, has other candidates
pub other-candidate : (id : ViewId) (members : List Address) (b : NotesModel) → b.suspects ≡ [] → view_refusal id (candidates id.creator members b) ≡ None → (o : Other id.creator members)
    → is_later id.creator o.who ≡ false → Other id.creator (candidates id.creator members b)
other-candidate id members b nobody sound o never = by (alone-or-other id.creator (candidates id.creator members b))
  where
    me : Address
    me = id.creator

    all : List Address
    all = members ++ b.joiners ++ b.merging

    list : List Address
    list = unsuspected b.suspects all

    c : Current me list
    c = climb (top list) me list o.who
        (into-fold b.suspects o.who [] all (ap (stands_in o.who) nobody) (stands-front o.who (members ++ b.joiners) b.merging (stands-front o.who members b.joiners o.stands)))
        o.apart never (omega arith)

    passes : is_current me list c.who ≡ true
    passes = ap (λ t. same_address c.who me || not t) c.current ∙ or_right (same_address c.who me) true refl

    among : stands_in c.who (all_candidates me members b) ≡ true
    among = into-filter (is_current me list) c.who list c.stands passes

    by : (others_of me (candidates me members b) ≡ []) ⊎ Other me (candidates me members b) → Other me (candidates me members b)
    by (inr other) = other
    by (inl none) = absurd (short (all_candidates me members b) (only-me id (candidates me members b) sound none) among)
      where
        short : (l : List Address) → take MEMBERS l ≡ me ∷ [] → stands_in c.who l ≡ true → ⊥
        short [] e there = let n : false ≡ true = there in cc
        short (x ∷ []) e there =
            let same : x ∷ [] ≡ me ∷ [] = sym (take_all MEMBERS (x ∷ []) (omega arith)) ∙ e in
            let there' : stands_in c.who (me ∷ []) ≡ true = subst (λ (l : List Address). stands_in c.who l ≡ true) same there in
            two (or_cases (same_address c.who me) false there')
          where
            two : (same_address c.who me ≡ true) ⊎ (false ≡ true) → ⊥
            two (inl s) = let n : true ≡ false = sym s ∙ c.apart in cc
            two (inr f) = let n : false ≡ true = f in cc
        short (x ∷ y ∷ l) e there = let n : 2 ≤ 1 = subst (λ (k : List Address). 2 ≤ length k) e (omega arith) in omega (arith, n)
