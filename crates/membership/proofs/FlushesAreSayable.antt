-- What a flush to which all have reported says to each of its list can be said.
use Rattle.std.proofs.Common.{◌≡◌, ℕ, zero, suc, ◌+◌, ◌≤◌, Bool, true, false, cond, not, ◌&&◌, ◌||◌, Option, Some, None, List, [], ◌∷◌, length, refl, sym, ap, ◌∙◌, subst, arith, is_some, ◌⊎◌, inl, inr, nat_eq, nat_lt}
use Rattle.std.specs.Prelude.{IsSome, slice_get, filter, nat_le, ◌==◌, min}
use Rattle.std.specs.List.{AllByRecursion}
use Rattle.std.specs.Option.{option_map_or}
use Rattle.std.proofs.lemmas.Bool.{and_parts, or_cases, eqb-true, or_right}
use Rattle.std.proofs.lemmas.Bool.Decides.{nat_tests}
use Rattle.std.proofs.lemmas.List.Sums.{length-filter, count_by-le-length}
use Rattle.std.proofs.lemmas.Option.{none-some, same_Some}
use Rattle.address.specs.Ids.{Address, ViewId, same_address}
use Rattle.address.specs.declared.limits.TheConstants.{GREATEST_NUMBER, MEMBERS, WINDOW}
use Rattle.view.specs.Members.{stands_in, is_distinct}
use Rattle.view.specs.View.{view_refusal, begins_with}
use Rattle.view.specs.declared.ViewError.TheVariants.{Empty, TooMany, Repeated, NotFirst}
use Rattle.wire_values.specs.Values.{Entry, held_at, Report}
use Rattle.wire_values.specs.Lists.{rest_after, is_in_order, highest_next, are_held, is_filled, is_nothing, is_report}
use Rattle.flush.specs.Flushes.{FlushModel, IsFlush, report_from, has_reported, comes_from, has_come_from, group, together_of, previous_of}
use Rattle.flush.specs.Cuts.{held_among, greatest_stable, cut_base, cut_items}
use Rattle.flush.specs.Covers.{EachReport}
use Rattle.flush.proofs.Covers.{first-stands, greatest-le}
use Rattle.flush.proofs.Groups.{groups-are-reported}
use Rattle.flush.proofs.CutItems.{cut-is}
use Rattle.address.proofs.SameIds.{same_address-true, same_address-refl, same_view_id-refl}
use Rattle.law_acts.specs.Acts.{others_of, base_for, items_for}
use Rattle.law_acts.specs.Decisions.{cuts_of}
use Rattle.membership.specs.MemberStates.{is_complete}
use Rattle.membership.specs.Installs.{IsSayable}
use Rattle.view.proofs.MembersListed.{all-by}
use Rattle.flush.proofs.FewItems.{cut-few}

-- ---- those who go together stand in the members' order

in-order-by : (o : Option (List Address)) (others : List Address) (P : Type 0) → ((rest : List Address) → o ≡ Some rest → is_in_order others rest ≡ true → P)
    → option_map_or (is_in_order others) o false ≡ true → P
in-order-by None others P later e = absurd (let n : false ≡ true = e in cc)
in-order-by (Some rest) others P later e = later rest refl e

in-order-behind : (a : Address) (others members rest : List Address) → ((m : Address) (list : List Address) → is_in_order others list ≡ true → is_in_order others (m ∷ list) ≡ true)
    → rest_after a members ≡ Some rest → is_in_order others rest ≡ true → is_in_order others members ≡ true
in-order-behind a others [] rest more e sound = absurd (none-some rest e)
in-order-behind a others (m ∷ members) rest more e sound = by (same_address a m) e (λ q. in-order-behind a others members rest more q sound)
  where
    by : (b : Bool) → cond b (Some members) (rest_after a members) ≡ Some rest → (rest_after a members ≡ Some rest → is_in_order others members ≡ true) → is_in_order others (m ∷ members) ≡ true
    by true e later = more m members (subst (λ (l : List Address). is_in_order others l ≡ true) (sym (same_Some members rest e)) sound)
    by false e later = more m members (later e)

-- a member more does not change their order
in-order-more : (list : List Address) (m : Address) (members : List Address) → is_in_order list members ≡ true → is_in_order list (m ∷ members) ≡ true
in-order-more [] m members e = refl
in-order-more (a ∷ others) m members e = by (same_address a m) (in-order-more others)
  where
    by : (b : Bool) → ((n : Address) (list : List Address) → is_in_order others list ≡ true → is_in_order others (n ∷ list) ≡ true)
        → option_map_or (is_in_order others) (cond b (Some members) (rest_after a members)) false ≡ true
    by true more = in-order-by (rest_after a members) others (is_in_order others members ≡ true) (λ rest q sound. in-order-behind a others members rest more q sound) e
    by false more = e

in-order-filter : (t : Address → Bool) (members : List Address) → is_in_order (filter t members) members ≡ true
in-order-filter t [] = refl
in-order-filter t (m ∷ members) = by (t m) (in-order-filter t members)
  where
    by : (b : Bool) → is_in_order (filter t members) members ≡ true → is_in_order (cond b (m ∷ filter t members) (filter t members)) (m ∷ members) ≡ true
    by true rest = ap (λ b. option_map_or (is_in_order (filter t members)) (cond b (Some members) (rest_after m members)) false) (same_address-refl m) ∙ rest
    by false rest = in-order-more (filter t members) m members rest

-- ---- they are at least one and at most the members

one-filter : (t : Address → Bool) (members : List Address) (q : Address) → t q ≡ true → stands_in q members ≡ true → 1 ≤ length (filter t members)
one-filter t [] q e there = absurd (let n : false ≡ true = there in cc)
one-filter t (m ∷ members) q e there = by (t m) refl (or_cases (same_address q m) (stands_in q members) there) (λ later. one-filter t members q e later)
  where
    by : (b : Bool) → t m ≡ b → (same_address q m ≡ true) ⊎ (stands_in q members ≡ true) → (stands_in q members ≡ true → 1 ≤ length (filter t members))
        → 1 ≤ length (cond b (m ∷ filter t members) (filter t members))
    by true w x rest = omega arith
    by false w (inl same) rest = absurd (let n : true ≡ false = sym e ∙ ap t (same_address-true q m same) ∙ w in cc)
    by false w (inr later) rest = rest later

all-filter : (P : Address → Type 0) (t : Address → Bool) (members : List Address) → ((q : Address) → stands_in q members ≡ true → P q) → AllByRecursion P (filter t members)
all-filter P t [] each = tt
all-filter P t (m ∷ members) each = by (t m) (all-filter P t members (λ q there. each q (or_right (same_address q m) (stands_in q members) there)))
  where
    by : (b : Bool) → AllByRecursion P (filter t members) → AllByRecursion P (cond b (m ∷ filter t members) (filter t members))
    by true later = (each m (ap (λ b. b || stands_in m members) (same_address-refl m)), later)
    by false later = later

-- ---- what the flush knows of one of its list

few-by : (a b d e : Bool) → cond a (Some Empty) (cond b (Some TooMany) (cond d (Some Repeated) (cond e (Some NotFirst) None))) ≡ None → b ≡ false
few-by true b d e q = absurd (none-some Empty (sym q))
few-by false true d e q = absurd (none-some TooMany (sym q))
few-by false false d e q = refl

few-members : (f : FlushModel) → view_refusal f.proposal f.members ≡ None → length f.members ≤ MEMBERS
few-members f e =
    let n : nat_lt MEMBERS (length f.members) ≡ false = few-by (nat_eq (length f.members) 0) (nat_lt MEMBERS (length f.members)) (not (is_distinct f.members)) (not (begins_with f.proposal.creator f.members)) e in
    grind (arith, nat_tests)

comes-from-own : (r : Report) → comes_from r.previous r ≡ true
comes-from-own r = by r.previous
  where
    by : (o : Option ViewId) → comes_from o (record r { previous = o }) ≡ true
    by None = refl
    by (Some v) = same_view_id-refl v

-- who goes together with one of the list
record AreTogether (q : Address) (f : FlushModel) : Type 0 where
  one : 1 ≤ length (together_of q f)
  few : length (together_of q f) ≤ MEMBERS
  ordered : is_in_order (together_of q f) f.members ≡ true

together-by : (o : Option Report) (q : Address) (f : FlushModel) → report_from q f.reports ≡ o → is_some o ≡ true → stands_in q f.members ≡ true → length f.members ≤ MEMBERS
    → AreTogether q f
together-by None q f e there stands few = absurd (let n : false ≡ true = there in cc)
together-by (Some r) q f e there stands few =
    let t : Address → Bool = λ m. has_come_from r.previous m f.reports in
    let is : together_of q f ≡ filter t f.members = ap (λ (o : Option Report). option_map_or (λ (x : Report). filter (λ m. has_come_from x.previous m f.reports) f.members) o []) e in
    let own : t q ≡ true = ap (λ (o : Option Report). option_map_or (comes_from r.previous) o false) e ∙ comes-from-own r in
    let n : length (filter t f.members) ≤ length f.members = omega (arith, length-filter t f.members, count_by-le-length t f.members) in
    record {
      one = subst (λ (l : List Address). 1 ≤ length l) (sym is) (one-filter t f.members q own stands);
      few = subst (λ (l : List Address). length l ≤ MEMBERS) (sym is) (omega (arith, n, few));
      ordered = subst (λ (l : List Address). is_in_order l f.members ≡ true) (sym is) (in-order-filter t f.members);
    }

-- ---- the numbers of a cut are at most the greatest

small-next : (s d last x : ℕ) → d ≤ GREATEST_NUMBER → nat_le x (highest_next s d last) ≡ true → x ≤ GREATEST_NUMBER
small-next s d last x small e = grind (arith, nat_tests)

small-held : (s d last : ℕ) (held : List (ℕ × Entry)) → d ≤ GREATEST_NUMBER → are_held s d last held ≡ true → (g : ℕ) → IsSome (held_at g held) → g ≤ GREATEST_NUMBER
small-held s d last [] small rises g found = absurd (let n : false ≡ true = found in cc)
small-held s d last (h ∷ held) small rises g found =
    let tests = and_parts (nat_le (last + 1) h.0 && nat_le h.0 (highest_next s d last)) (are_held s d h.0 held) rises in
    let range = and_parts (nat_le (last + 1) h.0) (nat_le h.0 (highest_next s d last)) tests.0 in
    by (nat_eq g h.0) refl (small-next s d last h.0 small range.1) (λ later. small-held s d h.0 held small tests.1 g later) found
  where
    by : (b : Bool) → nat_eq g h.0 ≡ b → h.0 ≤ GREATEST_NUMBER → (IsSome (held_at g held) → g ≤ GREATEST_NUMBER) → is_some (cond b (Some h.1) (held_at g held)) ≡ true → g ≤ GREATEST_NUMBER
    by true q low rest found = let n : g ≡ h.0 = eqb-true g h.0 q in omega (arith, n, low)
    by false q low rest found = rest found

-- what a report says is at most the greatest number
record IsSmall (r : Report) : Type 0 where
  stable : r.stable ≤ GREATEST_NUMBER
  held : (g : ℕ) → IsSome (held_at g r.held) → g ≤ GREATEST_NUMBER

none-held : (held : List (ℕ × Entry)) (g : ℕ) → length held == 0 ≡ true → IsSome (held_at g held) → g ≤ GREATEST_NUMBER
none-held [] g e found = absurd (let n : false ≡ true = found in cc)
none-held (h ∷ held) g e found = absurd (grind (arith, nat_tests))

zero-small : (n : ℕ) → n == 0 ≡ true → n ≤ GREATEST_NUMBER
zero-small n e = grind (arith, nat_tests)

least-small : (m n o : ℕ) → nat_le m (min n o) ≡ true → m ≤ o
least-small m n o e = grind (arith, nat_tests)

under-small : (s d : ℕ) → nat_le s d ≡ true → d ≤ GREATEST_NUMBER → s ≤ GREATEST_NUMBER
under-small s d e small = grind (arith, nat_tests)

small-by : (r : Report) (o : Option ViewId) → option_map_or (λ _. is_filled r) o (is_nothing r) ≡ true → IsSmall r
small-by r None e =
    let a = and_parts (r.stable == 0 && r.delivered == 0) (length r.held == 0) e in
    let b = and_parts (r.stable == 0) (r.delivered == 0) a.0 in
    record { stable = zero-small r.stable b.0; held = λ g found. none-held r.held g a.1 found }
small-by r (Some v) e =
    let a = and_parts (nat_le r.stable r.delivered && nat_le r.delivered (min (r.stable + WINDOW) GREATEST_NUMBER) && nat_le (length r.held) WINDOW && nat_le r.delivered (r.stable + length r.held)) (are_held r.stable r.delivered r.stable r.held) e in
    let b = and_parts (nat_le r.stable r.delivered && nat_le r.delivered (min (r.stable + WINDOW) GREATEST_NUMBER) && nat_le (length r.held) WINDOW) (nat_le r.delivered (r.stable + length r.held)) a.0 in
    let c = and_parts (nat_le r.stable r.delivered && nat_le r.delivered (min (r.stable + WINDOW) GREATEST_NUMBER)) (nat_le (length r.held) WINDOW) b.0 in
    let d = and_parts (nat_le r.stable r.delivered) (nat_le r.delivered (min (r.stable + WINDOW) GREATEST_NUMBER)) c.0 in
    let small : r.delivered ≤ GREATEST_NUMBER = least-small r.delivered (r.stable + WINDOW) GREATEST_NUMBER d.1 in
    record { stable = under-small r.stable r.delivered d.0 small; held = λ g found. small-held r.stable r.delivered r.stable r.held small a.1 g found }

report-small : (r : Report) → is_report r ≡ true → IsSmall r
report-small r e = small-by r r.previous e

among-small : (reports : List Report) (g : ℕ) (e : Entry) → EachReport (λ r. is_report r ≡ true) reports → held_among reports g ≡ Some e → g ≤ GREATEST_NUMBER
among-small reports g e sound found =
    let s = first-stands (λ r. held_at g r.held) reports e found in
    (report-small s.element (sound s.index s.element s.stands)).held g (ap is_some s.gives)

last-of : (items : List Entry) (k : ℕ) → length items ≡ suc k → (e : Entry) × (slice_get items k ≡ Some e)
last-of [] k e = absurd (omega (arith, e))
last-of (x ∷ []) zero e = (x, refl)
last-of (x ∷ []) (suc k) e = absurd (omega (arith, e))
last-of (x ∷ y ∷ items) zero e = absurd (omega (arith, e))
last-of (x ∷ y ∷ items) (suc k) e = last-of (y ∷ items) k (let n : length (y ∷ items) ≡ suc k = omega (arith, e) in n)

-- a base and items that an INSTALL can list
record IsListed (base : ℕ) (items : List Entry) : Type 0 where
  few : length items ≤ WINDOW
  small : base + length items ≤ GREATEST_NUMBER

cut-small : (f : FlushModel) → IsFlush f → (u : ViewId) (n : ℕ) → length (cut_items (group (Some u) f.reports)) ≡ n → cut_base (group (Some u) f.reports) + n ≤ GREATEST_NUMBER
cut-small f i u zero e =
    let sound = (groups-are-reported f i (Some u)).sound in
    let n : greatest_stable (group (Some u) f.reports) ≤ GREATEST_NUMBER = greatest-le GREATEST_NUMBER (group (Some u) f.reports) (λ i r at. (report-small r (sound i r at)).stable) in
    omega (arith, n)
cut-small f i u (suc k) e =
    let reports = group (Some u) f.reports in
    let last = last-of (cut_items reports) k e in
    let n : cut_base reports + k + 1 ≤ GREATEST_NUMBER = among-small reports (cut_base reports + k + 1) last.0 (groups-are-reported f i (Some u)).sound ((cut-is f i (Some u)).each k last.0 last.1) in
    omega (arith, n)

listed-by : (f : FlushModel) → IsFlush f → (v : Option ViewId) → IsListed (base_for (cuts_of f) v) (items_for (cuts_of f) v)
listed-by f i None = record { few = omega arith; small = omega arith }
listed-by f i (Some u) = record { few = cut-few (group (Some u) f.reports); small = cut-small f i u (length (cut_items (group (Some u) f.reports))) refl }

-- ---- so each INSTALL of the flush can be said

install-by : (t i b : ℕ) (c : Bool) → 1 ≤ t → t ≤ MEMBERS → c ≡ true → i ≤ WINDOW → b + i ≤ GREATEST_NUMBER
    → (nat_le 1 t && nat_le t MEMBERS && c && nat_le i WINDOW && nat_le (b + i) GREATEST_NUMBER) ≡ true
install-by t i b c one few ordered short small = grind (arith, nat_tests)

pub sayable : (f : FlushModel) (v : ViewId) (given : Option (List ℕ)) (q : Address) → IsFlush f → is_complete f ≡ true → view_refusal f.proposal f.members ≡ None → stands_in q f.members ≡ true
    → IsSayable f v given q
sayable f v given q i complete sound stands =
    let there : has_reported q f.reports ≡ true = all-by (λ m. has_reported m f.reports) f.members q complete stands in
    let t = together-by (report_from q f.reports) q f refl there stands (few-members f sound) in
    let l = listed-by f i (previous_of q f) in
    install-by (length (together_of q f)) (length (items_for (cuts_of f) (previous_of q f))) (base_for (cuts_of f) (previous_of q f)) (is_in_order (together_of q f) f.members)
    t.one t.few t.ordered l.few l.small

pub all-sayable : (f : FlushModel) (v : ViewId) (given : Option (List ℕ)) (me : Address) → IsFlush f → is_complete f ≡ true → view_refusal f.proposal f.members ≡ None
    → AllByRecursion (IsSayable f v given) (others_of me f.members)
all-sayable f v given me i complete sound = all-filter (IsSayable f v given) (λ q. not (same_address q me)) f.members (λ q stands. sayable f v given q i complete sound stands)
