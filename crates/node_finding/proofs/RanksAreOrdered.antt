-- Of two views one is the greater, and history decides first; and which is the greatest of some.
use Rattle.std.proofs.Common.{◌≡◌, ℕ, zero, suc, ◌+◌, ◌<◌, ◌≤◌, Bool, true, false, ◌&&◌, ◌||◌, Option, Some, None, List, [], ◌∷◌, ◌++◌, filter_map, take, refl, sym, ap, ap₂, subst, ◌∙◌, arith, nat_eq, nat_lt, Contains, inl, inr, length, get_or, if◌then◌else◌}
use Rattle.std.specs.Ordering.{nat_cmp, ordering_then, is_gt}
use Rattle.std.proofs.lemmas.Bool.Decides.{nat_tests}
use Rattle.std.proofs.lemmas.List.Elements.{Contains-append_left, Contains-append_right, Contains-append_cases, filter_map-append}
use Rattle.address.specs.Ids.{ViewId, same_view_id}
use Rattle.node_finding.specs.declared.ranks.Rank.{Rank}
use Rattle.node_finding.specs.declared.ranks.Offer.{Offer}
use Rattle.node_finding.specs.declared.ranks.Moment.{Moment}
use Rattle.std.specs.List.{cons_option, slice_get}
use Rattle.std.proofs.lemmas.List.{take_more, append-nil}
use Rattle.udp_net.specs.declared.word.Neighbour.{Neighbour}
use Rattle.node_finding.specs.Ranks.{has_more, outranks, IsGreatest, greater_of, other_of, told}

-- ---- members and ids in four numbers, of which the first that differs decides

strict-parts : (m a x k : ℕ) → nat_lt m m || (nat_eq m m && is_gt (ordering_then (nat_cmp a a) (ordering_then (nat_cmp x x) (nat_cmp k k)))) ≡ false
strict-parts m a x k = grind (arith, nat_tests)

anti-parts : (m n a b x y k l : ℕ) → nat_lt n m || (nat_eq m n && is_gt (ordering_then (nat_cmp a b) (ordering_then (nat_cmp x y) (nat_cmp k l)))) ≡ true
    → nat_lt m n || (nat_eq n m && is_gt (ordering_then (nat_cmp b a) (ordering_then (nat_cmp y x) (nat_cmp l k)))) ≡ false
anti-parts m n a b x y k l p = grind (arith, nat_tests)

total-parts : (m n a b x y k l : ℕ) → nat_lt n m || (nat_eq m n && is_gt (ordering_then (nat_cmp a b) (ordering_then (nat_cmp x y) (nat_cmp k l)))) ≡ false
    → nat_lt m n || (nat_eq n m && is_gt (ordering_then (nat_cmp b a) (ordering_then (nat_cmp y x) (nat_cmp l k)))) ≡ false
    → nat_eq a b && (nat_eq x y && nat_eq k l) ≡ true
total-parts m n a b x y k l p q = grind (arith, nat_tests)

loose-parts : (m n o a b c x y z i j k : ℕ) → nat_lt n m || (nat_eq m n && is_gt (ordering_then (nat_cmp a b) (ordering_then (nat_cmp x y) (nat_cmp i j)))) ≡ false
    → nat_lt o n || (nat_eq n o && is_gt (ordering_then (nat_cmp b c) (ordering_then (nat_cmp y z) (nat_cmp j k)))) ≡ false
    → nat_lt o m || (nat_eq m o && is_gt (ordering_then (nat_cmp a c) (ordering_then (nat_cmp x z) (nat_cmp i k)))) ≡ false
loose-parts m n o a b c x y z i j k p q = grind (arith, nat_tests)

-- ---- history above what decides else

above-strict : (h : ℕ) (x : Bool) → x ≡ false → nat_lt h h || (nat_eq h h && x) ≡ false
above-strict h x p = grind (arith, nat_tests)

above-anti : (g h : ℕ) (x y : Bool) → (x ≡ true → y ≡ false) → nat_lt h g || (nat_eq g h && x) ≡ true → nat_lt g h || (nat_eq h g && y) ≡ false
above-anti g h true y back p = let q = back refl in grind (arith, nat_tests)
above-anti g h false y back p = grind (arith, nat_tests)

true-parts : (g h : ℕ) (y : Bool) → nat_lt h g || (nat_eq g h && true) ≡ false → nat_lt g h || (nat_eq h g && y) ≡ false → ⊥
true-parts g h y p q = grind (arith, nat_tests)

above-total : (g h : ℕ) (x y same : Bool) → (x ≡ false → y ≡ false → same ≡ true) → nat_lt h g || (nat_eq g h && x) ≡ false → nat_lt g h || (nat_eq h g && y) ≡ false → same ≡ true
above-total g h false false same one p q = one refl refl
above-total g h true y same one p q = absurd (true-parts g h y p q)
above-total g h false true same one p q = absurd (true-parts h g false q p)

above-loose : (g h i : ℕ) (x y z : Bool) → (x ≡ false → y ≡ false → z ≡ false) → nat_lt h g || (nat_eq g h && x) ≡ false → nat_lt i h || (nat_eq h i && y) ≡ false
    → nat_lt i g || (nat_eq g i && z) ≡ false
above-loose g h i false false z on p q = let r = on refl refl in grind (arith, nat_tests)
above-loose g h i true y z on p q = grind (arith, nat_tests)
above-loose g h i false true z on p q = grind (arith, nat_tests)

above-none : (g h : ℕ) (x : Bool) → 1 ≤ g → h ≡ 0 → nat_lt h g || (nat_eq g h && x) ≡ true
above-none g h x some none = grind (arith, nat_tests)

-- ---- ranks

-- no view is greater than itself
more-strict : (a : Rank) → has_more a a ≡ false
more-strict a = strict-parts a.members a.view.counter a.view.creator.node a.view.creator.incarnation

pub strict : (a : Rank) → outranks a a ≡ false
strict a = above-strict a.history (has_more a a) (more-strict a)

-- of two views one at most is the greater
more-anti : (a b : Rank) → has_more a b ≡ true → has_more b a ≡ false
more-anti a b p =
    anti-parts a.members b.members a.view.counter b.view.counter a.view.creator.node b.view.creator.node a.view.creator.incarnation b.view.creator.incarnation p

pub antisymmetric : (a b : Rank) → outranks a b ≡ true → outranks b a ≡ false
antisymmetric a b p = above-anti a.history b.history (has_more a b) (has_more b a) (more-anti a b) p

-- and one is, unless they have the same id
more-total : (a b : Rank) → has_more a b ≡ false → has_more b a ≡ false → same_view_id a.view b.view ≡ true
more-total a b p q =
    total-parts a.members b.members a.view.counter b.view.counter a.view.creator.node b.view.creator.node a.view.creator.incarnation b.view.creator.incarnation p q

pub total : (a b : Rank) → outranks a b ≡ false → outranks b a ≡ false → same_view_id a.view b.view ≡ true
total a b p q = above-total a.history b.history (has_more a b) (has_more b a) (same_view_id a.view b.view) (more-total a b) p q

-- what is no greater than a view is no greater than one that it is no greater than
more-loose : (a b c : Rank) → has_more a b ≡ false → has_more b c ≡ false → has_more a c ≡ false
more-loose a b c p q =
    loose-parts a.members b.members c.members a.view.counter b.view.counter c.view.counter a.view.creator.node b.view.creator.node c.view.creator.node a.view.creator.incarnation
    b.view.creator.incarnation c.view.creator.incarnation p q

pub loose : (a b c : Rank) → outranks a b ≡ false → outranks b c ≡ false → outranks a c ≡ false
loose a b c p q = above-loose a.history b.history c.history (has_more a b) (has_more b c) (has_more a c) (more-loose a b c) p q

-- a view with a history is greater than one without
pub with_history : (a b : Rank) → 1 ≤ a.history → b.history ≡ 0 → outranks a b ≡ true
with_history a b some none = above-none a.history b.history (has_more a b) some none

-- ---- the greatest

only-one : (o x : Offer) → Contains (o ∷ []) x → x ≡ o
only-one o x (zero, w, e) = sym e
only-one o x (suc k, w, e) = absurd (omega (arith, w))

first-one : (o : Offer) → Contains (o ∷ []) o
first-one o = (0, omega arith, refl)

-- one more is told of
pub greatest-push : (os : List Offer) (best : Option Offer) (o : Offer) → IsGreatest os best → IsGreatest (os ++ o ∷ []) (Some (greater_of best o))
greatest-push os None o none =
    subst (λ (l : List Offer). IsGreatest (l ++ o ∷ []) (Some o)) (sym none) (first-one o, λ x c. subst (λ (y : Offer). outranks y.rank o.rank ≡ false) (sym (only-one o x c)) (strict o.rank))
greatest-push os (Some best) o (is, most) = by (outranks o.rank best.rank) refl
  where
    -- those before, and the new one
    each : (top : Offer) → ((x : Offer) → Contains os x → outranks x.rank top.rank ≡ false) → outranks o.rank top.rank ≡ false → (x : Offer) → Contains (os ++ o ∷ []) x
        → outranks x.rank top.rank ≡ false
    each top old new x c = elim (Contains-append_cases os (o ∷ []) x c) [
      | inl a ↦ old x a
      | inr b ↦ subst (λ (y : Offer). outranks y.rank top.rank ≡ false) (sym (only-one o x b)) new
    ]

    by : (b : Bool) → outranks o.rank best.rank ≡ b → IsGreatest (os ++ o ∷ []) (Some (if b then o else best))
    by true e = (
      Contains-append_right os (o ∷ []) o (first-one o),
      each o (λ x c. loose x.rank best.rank o.rank (most x c) (antisymmetric o.rank best.rank e)) (strict o.rank),
    )
    by false e = (Contains-append_left os (o ∷ []) best is, each best most e)

-- ---- by one more node

abbrev next_best : Option Offer → Option Offer → Option Offer
next_best best None = best
next_best best (Some o) = Some (greater_of best o)

next-greatest : (os : List Offer) (best o : Option Offer) → IsGreatest os best → IsGreatest (os ++ cons_option o []) (next_best best o)
next-greatest os best None is = subst (λ (l : List Offer). IsGreatest l best) (sym (append-nil os)) is
next-greatest os best (Some o) is = greatest-push os best o is

module _ (m : Moment) (nodes : List Neighbour) (i : ℕ) (n : Neighbour) (w : i < length nodes) (e : n ≡ get_or nodes i n) where
  -- the nodes so far, and the next one
  so-far : {X : Type 0} (f : Neighbour → Option X) → filter_map f (take (i + 1) nodes) ≡ filter_map f (take i nodes) ++ cons_option (f n) []
  so-far f = ap (filter_map f) (take_more nodes i n w) ∙ filter_map-append f (take i nodes) (get_or nodes i n ∷ [])
      ∙ ap (λ (x : Neighbour). filter_map f (take i nodes) ++ cons_option (f x) []) (sym e)

  -- it tells of no view
  pub greatest-still : (but : Option ViewId) (best : Option Offer) → other_of m but n ≡ None → IsGreatest (told m but (take i nodes)) best
      → IsGreatest (told m but (take (i + 1) nodes)) best
  greatest-still but best none is = subst (λ (l : List Offer). IsGreatest l best) (sym (so-far (other_of m but)))
      (subst (λ (o : Option Offer). IsGreatest (told m but (take i nodes) ++ cons_option o []) best) (sym none) (next-greatest (told m but (take i nodes)) best None is))

  -- it tells of one
  pub greatest-next : (but : Option ViewId) (best : Option Offer) (o : Offer) → other_of m but n ≡ Some o → IsGreatest (told m but (take i nodes)) best
      → IsGreatest (told m but (take (i + 1) nodes)) (Some (greater_of best o))
  greatest-next but best o one is = subst (λ (l : List Offer). IsGreatest l (Some (greater_of best o))) (sym (so-far (other_of m but)))
      (subst (λ (x : Option Offer). IsGreatest (told m but (take i nodes) ++ cons_option x []) (Some (greater_of best o))) (sym one)
      (next-greatest (told m but (take i nodes)) best (Some o) is))

  -- none so far tells of a view, and it does not either
  pub none-still : {X : Type 0} (f : Neighbour → Option X) → filter_map f (take i nodes) ≡ [] → f n ≡ None → filter_map f (take (i + 1) nodes) ≡ []
  none-still {X} f before none = so-far f ∙ ap₂ (λ (l : List X) (o : Option X). l ++ cons_option o []) before none

-- the first that tells of it
found-behind : {X Y : Type 0} (f : X → Option Y) (xs : List X) (x' : X) (before : List Y) (y : Y) → cons_option (f x') before ≡ []
    → (before ≡ [] → slice_get (filter_map f xs) 0 ≡ Some y) → slice_get (filter_map f (x' ∷ xs)) 0 ≡ Some y
found-behind {X} {Y} f xs x' before y none later = by (f x') refl
  where
    by : (o : Option Y) → f x' ≡ o → slice_get (cons_option (f x') (filter_map f xs)) 0 ≡ Some y
    by None q = ap (λ (o : Option Y). slice_get (cons_option o (filter_map f xs)) 0) q ∙ later (sym (ap (λ (o : Option Y). cons_option o before) q) ∙ none)
    by (Some z) q = let bad : z ∷ before ≡ [] = sym (ap (λ (o : Option Y). cons_option o before) q) ∙ none in cc

pub first-found : {X Y : Type 0} (f : X → Option Y) (xs : List X) (i : ℕ) (x : X) (y : Y) → i < length xs → x ≡ get_or xs i x → filter_map f (take i xs) ≡ [] → f x ≡ Some y
    → slice_get (filter_map f xs) 0 ≡ Some y
first-found f [] i x y w e before is = absurd (omega (arith, w))
first-found {X} {Y} f (x' ∷ xs) zero x y w e before is = ap (λ (o : Option Y). slice_get (cons_option o (filter_map f xs)) 0) (ap f (sym e) ∙ is)
first-found f (x' ∷ xs) (suc i) x y w e before is =
    found-behind f xs x' (filter_map f (take i xs)) y before (λ none. first-found f xs i x y (omega (arith, w)) e none is)
