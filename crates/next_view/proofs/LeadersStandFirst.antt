-- Whoever leads its view stands first among its candidates, and these are a view of each id that it makes.
use Rattle.std.proofs.Common.{◌≡◌, ℕ, suc, ◌+◌, ◌≤◌, Bool, true, false, cond, not, ◌||◌, Some, None, List, [], ◌∷◌, ◌++◌, take, length, refl, sym, ap, ◌∙◌, subst, arith, append_assoc, nat_eq, nat_lt}
use Rattle.std.specs.Prelude.{filter, fold, if◌then◌else◌}
use Rattle.std.specs.List.{list_any, list_all, position_or_len}
use Rattle.std.specs.Option.{option_map_or}
use Rattle.std.proofs.lemmas.Bool.{and_parts}
use Rattle.std.proofs.lemmas.Bool.Decides.{nat_tests}
use Rattle.std.proofs.lemmas.List.{length-take}
use Rattle.address.specs.Ids.{Address, ViewId, same_address}
use Rattle.view.specs.Members.{stands_in, is_distinct}
use Rattle.view.specs.View.{begins_with, view_refusal}
use Rattle.address.specs.declared.limits.TheConstants.{MEMBERS}
use Rattle.suspicion.specs.Suspicion.{leads}
use Rattle.next_view.specs.ViewNotes.{is_later}
use Rattle.next_view.specs.Candidates.{with_one, unsuspected, is_current, all_candidates}
use Rattle.next_view.specs.Law.{CandidatesAreAView}
use Rattle.next_view.proofs.AddressesOnce.{distinct-unsuspected, distinct-filter, distinct-take}
use Rattle.address.proofs.SameIds.{same_address-true, same_address-sym}

-- ---- who leads

-- whether the first k of some members are suspected, where k is below n
abbrev leads_at : List Address → List Address → ℕ → ℕ → Bool
leads_at s members k n = option_map_or (λ rank. list_all (λ m. stands_in m s) (take rank members)) (cond (nat_lt k n) (Some k) None) false

shift-by : (b : Bool) (s : List Address) (m : Address) (members : List Address) (k : ℕ)
    → option_map_or (λ rank. list_all (λ q. stands_in q s) (take rank (m ∷ members))) (cond b (Some (suc k)) None) false ≡ true
    → (stands_in m s ≡ true) × (option_map_or (λ rank. list_all (λ q. stands_in q s) (take rank members)) (cond b (Some k) None) false ≡ true)
shift-by true s m members k e = and_parts (stands_in m s) (list_all (λ q. stands_in q s) (take k members)) e
shift-by false s m members k e = absurd (let n : false ≡ true = e in cc)

less-less : (k n : ℕ) → nat_lt (suc k) (suc n) ≡ nat_lt k n
less-less k n = grind (arith, nat_tests)

-- behind another than itself, who is suspected, it leads as well
leads-behind : (s : List Address) (m p : Address) (members : List Address) → same_address p m ≡ false → leads s (m ∷ members) p ≡ true
    → (stands_in m s ≡ true) × (leads s members p ≡ true)
leads-behind s m p members apart e =
    let k = position_or_len (same_address p) members in
    let far : position_or_len (same_address p) (m ∷ members) ≡ suc k = ap (λ t. cond (not t) (1 + k) 0) apart ∙ omega arith in
    let at : leads_at s (m ∷ members) (suc k) (suc (length members)) ≡ true = subst (λ j. leads_at s (m ∷ members) j (suc (length members)) ≡ true) far e in
    shift-by (nat_lt k (length members)) s m members k (subst (λ t. option_map_or (λ rank. list_all (λ q. stands_in q s) (take rank (m ∷ members))) (cond t (Some (suc k)) None) false ≡ true) (less-less k (length members)) at)

-- ---- who stands first

first-with-by : (b : Bool) (p a : Address) (list : List Address) → begins_with p list ≡ true → begins_with p (if b then list else list ++ a ∷ []) ≡ true
first-with-by true p a list first = first
first-with-by false p a [] first = absurd (let n : false ≡ true = first in cc)
first-with-by false p a (x ∷ list) first = first

-- what is added comes behind
first-fold : (s : List Address) (p : Address) (list xs : List Address) → begins_with p list ≡ true → begins_with p (fold (with_one s) list xs) ≡ true
first-fold s p list [] first = first
first-fold s p list (x ∷ xs) first = first-fold s p (with_one s list x) xs (first-with-by (stands_in x s || stands_in x list) p x list first)

first-by : (b : Bool) (s : List Address) (p m : Address) (members more : List Address) → same_address p m ≡ b → leads s (m ∷ members) p ≡ true → stands_in p s ≡ false
    → (leads s members p ≡ true → begins_with p (fold (with_one s) [] (members ++ more)) ≡ true) → begins_with p (fold (with_one s) (with_one s [] m) (members ++ more)) ≡ true
first-by true s p m members more q it_leads free later =
    let out : stands_in m s ≡ false = subst (λ a. stands_in a s ≡ false) (same_address-true p m q) free in
    let here : with_one s [] m ≡ m ∷ [] = rw (out) refl in
    subst (λ (l : List Address). begins_with p (fold (with_one s) l (members ++ more)) ≡ true) (sym here) (first-fold s p (m ∷ []) (members ++ more) q)
first-by false s p m members more q it_leads free later =
    let behind = leads-behind s m p members q it_leads in
    let here : with_one s [] m ≡ [] = rw (behind.0) refl in
    subst (λ (l : List Address). begins_with p (fold (with_one s) l (members ++ more)) ≡ true) (sym here) (later behind.1)

-- of those who are not suspected the one that leads is the first
first-unsuspected : (s : List Address) (p : Address) (members more : List Address) → leads s members p ≡ true → stands_in p s ≡ false → begins_with p (unsuspected s (members ++ more)) ≡ true
first-unsuspected s p [] more it_leads free = absurd (let n : false ≡ true = it_leads in cc)
first-unsuspected s p (m ∷ members) more it_leads free =
    first-by (same_address p m) s p m members more refl it_leads free (λ l. first-unsuspected s p members more l free)

first-filter-by : (b : Bool) (t : Address → Bool) (p x : Address) (xs : List Address) → t x ≡ b → b ≡ true → same_address p x ≡ true
    → begins_with p (cond b (x ∷ filter t xs) (filter t xs)) ≡ true
first-filter-by true t p x xs q on same = same
first-filter-by false t p x xs q on same = absurd (let n : false ≡ true = on in cc)

-- and it is never left out
first-current : (p : Address) (all xs : List Address) → begins_with p xs ≡ true → begins_with p (filter (is_current p all) xs) ≡ true
first-current p all [] first = absurd (let n : false ≡ true = first in cc)
first-current p all (x ∷ xs) first =
    let on : is_current p all x ≡ true = ap (λ b. b || not (list_any (λ q. is_later q x) all)) (same_address-sym x p ∙ first) in
    first-filter-by (is_current p all x) (is_current p all) p x xs refl on first

first-take : (n : ℕ) (p : Address) (xs : List Address) → begins_with p xs ≡ true → begins_with p (take (suc n) xs) ≡ true
first-take n p [] first = absurd (let n : false ≡ true = first in cc)
first-take n p (x ∷ xs) first = first

-- ---- a view

view-by : (id : ViewId) (list : List Address) → begins_with id.creator list ≡ true → is_distinct list ≡ true → length list ≤ MEMBERS → view_refusal id list ≡ None
view-by id [] first once few = absurd (let n : false ≡ true = first in cc)
view-by id (x ∷ list) first once few =
    let some : nat_eq (length (x ∷ list)) 0 ≡ false = grind (arith, nat_tests) in
    let short : nat_lt MEMBERS (length (x ∷ list)) ≡ false = grind (arith, nat_tests) in
    rw (some, short, once, first) refl

pub candidates-are-a-view : CandidatesAreAView
candidates-are-a-view id members b it_leads free =
    let list = unsuspected b.suspects (members ++ b.joiners ++ b.merging) in
    let all = all_candidates id.creator members b in
    let first : begins_with id.creator list ≡ true =
    subst (λ l. begins_with id.creator (unsuspected b.suspects l) ≡ true) (sym (append_assoc members b.joiners b.merging))
    (first-unsuspected b.suspects id.creator members (b.joiners ++ b.merging) it_leads free) in
    view-by id (take MEMBERS all)
    (first-take 15 id.creator all (first-current id.creator list list first))
    (distinct-take MEMBERS all (distinct-filter (is_current id.creator list) list (distinct-unsuspected b.suspects (members ++ b.joiners ++ b.merging))))
    (let l = length-take MEMBERS all in omega (arith, l))
