-- Rows and columns of a whole trace, and what its lines refer to.
use Rattle.std.proofs.Common.{◌≡◌, ◌↔◌, ℕ, ◌+◌, ◌-◌, ◌<◌, ◌≤◌, Bool, true, false, cond, List, [], ◌∷◌, ◌++◌, length, take, drop, slice_get, suc, zero, nat_le, Option, Some, None, sym, refl, ap, ◌∙◌, subst, arith, append_assoc, append-nil, length-take, IsSomeAnd}
use Rattle.std.specs.List.{position_from}
use Rattle.std.specs.Option.{option_or}
use Rattle.std.proofs.lemmas.Bool.{ne_eqb, leb-true, leb-false}
use Rattle.std.proofs.lemmas.Option.{none-some, same_Some, slice_get_within, cond_some}
use Rattle.address.specs.Ids.{Address, same_address}
use Rattle.address.proofs.SameIds.{same_address-true}
use Rattle.trace_props.specs.declared.event.Event.{Event}
use Rattle.trace_props.specs.declared.event.Event.TheVariants.{Started, Sent, Delivered, Blocked, Installed, Left, Crashed}
use Rattle.trace_props.specs.declared.verdict.Rule.{Rule}
use Rattle.trace_props.specs.declared.verdict.Verdict.TheVariants.{Breaks}
use Rattle.trace_props.specs.Observed.{member_of}
use Rattle.trace_props.proofs.RulesAlongLists.{slice_get-take}
use Rattle.trace_drawing.specs.declared.aside.Aside.{Aside}
use Rattle.trace_drawing.specs.Layout.{last_from, last_place, rank_in, members_in, column_of, sends, installs, origin_of, above, level_of, row_of, rows_from, rows_of}
use Rattle.trace_drawing.specs.declared.broken.TheConstants.{BROKEN_STYLE}
use Rattle.trace_drawing.specs.Broken.{broken_group, broken_in, broken_text}
use Rattle.trace_drawing.specs.Promises.{IsReachedFrom}
use Rattle.trace_drawing.proofs.FirstAndLast.{first_from-push}
use Rattle.trace_drawing.proofs.KeepKnown.{members-push, rank-now}

-- ROWS

each-from : (level : ℕ → ℕ) (past t : List Event) (k : ℕ) (e : Event) → slice_get t k ≡ Some e → slice_get (rows_from level past t) k ≡ Some (row_of level (past ++ take k t) e)
each-from level past [] k e at = absurd (none-some e at)
each-from level past (x ∷ xs) zero e at = ap (λ p. Some (row_of level p x)) (sym (append-nil past)) ∙ ap (λ y. Some (row_of level (past ++ []) y)) (same_Some x e at)
each-from level past (x ∷ xs) (suc k) e at = each-from level (past ++ x ∷ []) xs k e at ∙ ap (λ p. Some (row_of level p e)) (append_assoc past (x ∷ []) (take k xs))

-- the row of each event is laid out by what stands before it
pub row-each : (level : ℕ → ℕ) (t : List Event) (k : ℕ) (e : Event) → slice_get t k ≡ Some e → slice_get (rows_of level t) k ≡ Some (row_of level (take k t) e)
row-each level t k e at = each-from level [] t k e at

-- it stands at its level
pub level-each : (level : ℕ → ℕ) (t : List Event) (k : ℕ) (e : Event) → slice_get t k ≡ Some e → (row_of level (take k t) e).level ≡ level k
level-each level t k e at = let whole : length (take k t) ≡ k = omega (arith, length-take k t, slice_get_within t k e at) in ap level whole

more-at : (r : Aside) (rs : List Aside) (j k : ℕ) (b c : Bool) → nat_le r.place j ≡ b → nat_le r.place k ≡ c → j < k → above rs j ≤ above rs k → cond b (above rs j + 1) 0 ≤ cond c (above rs k + 1) 0
more-at r rs j k true true e f less rest = omega (arith, rest)
more-at r rs j k true false e f less rest = absurd (omega (arith, leb-true r.place j e, leb-false r.place k f, less))
more-at r rs j k false c e f less rest = omega arith

-- more stands above a later event
above-later : (asides : List Aside) (j k : ℕ) → j < k → above asides j ≤ above asides k
above-later [] j k less = omega arith
above-later (r ∷ rs) j k less = more-at r rs j k (nat_le r.place j) (nat_le r.place k) refl refl less (above-later rs j k less)

-- later events have greater levels
pub level-order : (asides : List Aside) (j k : ℕ) → j < k → level_of asides j < level_of asides k
level-order asides j k less = omega (arith, less, above-later asides j k less)

-- COLUMNS

rank-kept : (p : Address) (u : List Event) (x : Event) (c : ℕ) (b : Bool) → rank_in p (members_in u) ≡ Some c → rank_in p (cond b (members_in u) (members_in u ++ member_of x ∷ [])) ≡ Some c
rank-kept p u x c true e = e
rank-kept p u x c false e = first_from-push (same_address p) 0 (members_in u) (member_of x)
    ∙ ap (λ o. option_or o (cond (same_address p (member_of x)) (Some (0 + length (members_in u))) None)) e

-- who has come up keeps its rank
rank-stays : (p : Address) (u w : List Event) (c : ℕ) → rank_in p (members_in u) ≡ Some c → rank_in p (members_in (u ++ w)) ≡ Some c
rank-stays p u [] c e = ap (λ t. rank_in p (members_in t)) (append-nil u) ∙ e
rank-stays p u (x ∷ xs) c e =
    ap (λ t. rank_in p (members_in t)) (sym (append_assoc u (x ∷ []) xs))
    ∙ rank-stays p (u ++ x ∷ []) xs c (ap (rank_in p) (members-push u x) ∙ rank-kept p u x c _ e)

split-at : {X : Type 0} (t : List X) (k : ℕ) (e : X) → slice_get t k ≡ Some e → (take k t ++ e ∷ []) ++ drop (suc k) t ≡ t
split-at [] k e at = absurd (none-some e at)
split-at (x ∷ xs) zero e at = ap (λ y. y ∷ xs) (sym (same_Some x e at))
split-at (x ∷ xs) (suc k) e at = ap (λ ys. x ∷ ys) (split-at xs k e at)

-- an event's column is its member's rank among all members of the trace
column-whole : (t : List Event) (k : ℕ) (e : Event) → slice_get t k ≡ Some e → rank_in (member_of e) (members_in t) ≡ Some (column_of (member_of e) (take k t))
column-whole t k e at =
    ap (λ u. rank_in (member_of e) (members_in u)) (sym (split-at t k e at))
    ∙ rank-stays (member_of e) (take k t ++ e ∷ []) (drop (suc k) t) (column_of (member_of e) (take k t)) (rank-now (take k t) e)

above-at : {X : Type 0} (test : X → Bool) (b : Bool) (k : ℕ) (xs : List X) (n : ℕ) → cond b (Some k) (position_from test (k + 1) xs) ≡ Some n
    → (position_from test (k + 1) xs ≡ Some n → k + 1 ≤ n) → k ≤ n
above-at test true k xs n e rest = omega (arith, same_Some k n e)
above-at test false k xs n e rest = omega (arith, rest e)

first-above : {X : Type 0} (test : X → Bool) (k : ℕ) (xs : List X) (n : ℕ) → position_from test k xs ≡ Some n → k ≤ n
first-above test k [] n e = absurd (none-some n e)
first-above test k (x ∷ xs) n e = above-at test (test x) k xs n e (first-above test (k + 1) xs n)

not-above : (k n : ℕ) → k ≡ n → k + 1 ≤ n → ⊥
not-above k n e above = omega (arith, e, above)

same-at : (p q x : Address) (k : ℕ) (xs : List Address) (n : ℕ) (b d : Bool) → same_address p x ≡ b → same_address q x ≡ d
    → cond b (Some k) (position_from (same_address p) (k + 1) xs) ≡ Some n → cond d (Some k) (position_from (same_address q) (k + 1) xs) ≡ Some n
    → (position_from (same_address p) (k + 1) xs ≡ Some n → position_from (same_address q) (k + 1) xs ≡ Some n → p ≡ q) → p ≡ q
same-at p q x k xs n true true is_p is_q e f rest = same_address-true p x is_p ∙ sym (same_address-true q x is_q)
same-at p q x k xs n true false is_p is_q e f rest = absurd (not-above k n (same_Some k n e) (first-above (same_address q) (k + 1) xs n f))
same-at p q x k xs n false true is_p is_q e f rest = absurd (not-above k n (same_Some k n f) (first-above (same_address p) (k + 1) xs n e))
same-at p q x k xs n false false is_p is_q e f rest = rest e f

-- two addresses of one rank are one
same-rank : (p q : Address) (k : ℕ) (xs : List Address) (n : ℕ) → position_from (same_address p) k xs ≡ Some n → position_from (same_address q) k xs ≡ Some n → p ≡ q
same-rank p q k [] n e f = absurd (none-some n e)
same-rank p q k (x ∷ xs) n e f = same-at p q x k xs n (same_address p x) (same_address q x) refl refl e f (same-rank p q (k + 1) xs n)

-- one column for one member, and for no other
pub column-same : (t : List Event) (j k : ℕ) (e f : Event) → slice_get t j ≡ Some e → slice_get t k ≡ Some f
    → (column_of (member_of e) (take j t) ≡ column_of (member_of f) (take k t)) ↔ (member_of e ≡ member_of f)
column-same t j k e f at_j at_k =
    let first = column-whole t j e at_j in
    let second = column-whole t k f at_k in (
      λ same. same-rank (member_of e) (member_of f) 0 (members_in t) (column_of (member_of f) (take k t)) (first ∙ ap Some same) second,
      λ same. same_Some _ _ (sym first ∙ ap (λ p. rank_in p (members_in t)) same ∙ second),
    )

-- LINES

-- where the last place is, one stands that passes
pub record IsFound {X : Type 0} (test : X → Bool) (k : ℕ) (xs : List X) (n : ℕ) : Type 0 where
  pub place : ℕ
  pub is : n ≡ k + place
  pub found : X
  pub there : slice_get xs place ≡ Some found
  pub passes : test found ≡ true

found-at : {X : Type 0} (test : X → Bool) (k : ℕ) (x : X) (xs : List X) (n : ℕ) (o : Option ℕ) → last_from test (k + 1) xs ≡ o → option_or o (cond (test x) (Some k) None) ≡ Some n
    → ((m : ℕ) → last_from test (k + 1) xs ≡ Some m → IsFound test (k + 1) xs m) → IsFound test k (x ∷ xs) n
found-at test k x xs n None is e rest =
    let here = cond_some (test x) k n e in
    record { place = 0; is = omega (arith, here.1); found = x; there = refl; passes = here.0 }
found-at test k x xs n (Some m) is e rest =
    let later = rest m is in
    record { place = suc later.place; is = omega (arith, same_Some m n e, later.is); found = later.found; there = later.there; passes = later.passes }

pub last-found : {X : Type 0} (test : X → Bool) (k : ℕ) (xs : List X) (n : ℕ) → last_from test k xs ≡ Some n → IsFound test k xs n
last-found test k [] n e = absurd (none-some n e)
last-found test k (x ∷ xs) n e = found-at test k x xs n (last_from test (k + 1) xs) refl e (last-found test (k + 1) xs)

-- what is found last before an event stands earlier, and passes the test
earlier : (test : Event → Bool) (t : List Event) (k o : ℕ) → last_place test (take k t) ≡ Some o → (o < k) × IsSomeAnd (slice_get t o) (λ f. test f ≡ true)
earlier test t k o e =
    let last = last-found test 0 (take k t) o e in
    let same : last.place ≡ o = omega (arith, last.is) in
    let stands : slice_get (take k t) o ≡ Some last.found = ap (λ n. slice_get (take k t) n) (sym same) ∙ last.there in (
      omega (arith, length-take k t, slice_get_within (take k t) o last.found stands),
      subst (λ x. IsSomeAnd x (λ f. test f ≡ true)) (sym (slice_get-take k t o last.found stands)) last.passes,
    )

-- what reaches an event comes from an earlier one, of its kind
pub reached-earlier : (t : List Event) (k o : ℕ) (e : Event) → slice_get t k ≡ Some e → origin_of (take k t) e ≡ Some o → (o < k) × IsSomeAnd (slice_get t o) (IsReachedFrom e)
reached-earlier t k o (Started p) at is = absurd (none-some o is)
reached-earlier t k o (Sent s) at is = absurd (none-some o is)
reached-earlier t k o (Delivered d) at is = earlier (sends (record { view = d.view; sender = d.message.sender; number = d.message.number })) t k o is
reached-earlier t k o (Blocked p) at is = absurd (none-some o is)
reached-earlier t k o (Installed i) at is = earlier (installs i.view.id) t k o is
reached-earlier t k o (Left p) at is = absurd (none-some o is)
reached-earlier t k o (Crashed p) at is = absurd (none-some o is)

-- A BROKEN RULE

-- the rule that an event breaks is drawn in that event's row and column
pub broken-marked : (level : ℕ → ℕ) (t : List Event) (rule : Rule) (k : ℕ) (e : Event) → slice_get t k ≡ Some e
    → broken_text (rows_of level t) t (Breaks rule (k + 1)) ≡ BROKEN_STYLE.now ++ broken_group rule (row_of level (take k t) e) e
broken-marked level t rule k e at =
    let i : k + 1 - 1 ≡ k = omega arith in
    ap (λ b. cond b [] (broken_in rule (slice_get (rows_of level t) (k + 1 - 1)) (slice_get t (k + 1 - 1)))) (ne_eqb (k + 1) 0 (λ x. omega (arith, x)))
    ∙ ap (λ n. broken_in rule (slice_get (rows_of level t) n) (slice_get t n)) i
    ∙ ap (λ r. broken_in rule r (slice_get t k)) (row-each level t k e at) ∙ ap (λ x. broken_in rule (Some (row_of level (take k t) e)) x) at
