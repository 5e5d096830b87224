-- The order of tokens, and what the next one is.
use Rattle.std.proofs.Common.{◌≡◌, ℕ, ◌+◌, ◌≤◌, Bool, true, false, cond, refl, ap, ◌∙◌, subst, arith}
use Rattle.std.specs.Ordering.{nat_cmp, ordering_then, is_lt, is_le, is_eq}
use Rattle.std.specs.declared.cmp.Ordering.{Ordering}
use Rattle.std.specs.declared.cmp.Ordering.TheVariants.{Less, Equal, Greater}
use Rattle.std.proofs.lemmas.Bool.Decides.{nat_tests}
use Rattle.address.specs.Ids.{ViewId, view_id_cmp}
use Rattle.address.specs.declared.limits.TheConstants.{GREATEST_NUMBER}
use Rattle.keyed_state.specs.declared.token.Token.{Token}
use Rattle.keyed_state.specs.Tokens.{token_cmp, is_up_to, is_token, IsBelow, next_token, IsViewId, IsToken}

-- the order of numbers in four parts, of which the first that differs decides
abbrev four : ℕ → ℕ → ℕ → ℕ → ℕ → ℕ → ℕ → ℕ → Ordering
four a x m s b y n t = ordering_then (ordering_then (nat_cmp a b) (ordering_then (nat_cmp x y) (nat_cmp m n))) (nat_cmp s t)

lt-le : (a x m s b y n t : ℕ) → is_lt (four a x m s b y n t) ≡ true → is_le (four a x m s b y n t) ≡ true
lt-le a x m s b y n t p = grind (arith, nat_tests)

lt-irrefl : (a x m s : ℕ) → is_lt (four a x m s a x m s) ≡ false
lt-irrefl a x m s = grind (arith, nat_tests)

le-refl : (a x m s : ℕ) → is_le (four a x m s a x m s) ≡ true
le-refl a x m s = grind (arith, nat_tests)

more-count : (a x m s : ℕ) → is_lt (four a x m s a x m (s + 1)) ≡ true
more-count a x m s = grind (arith, nat_tests)

later-view : (a x m s b y n t : ℕ) → is_lt (ordering_then (nat_cmp a b) (ordering_then (nat_cmp x y) (nat_cmp m n))) ≡ true → is_lt (four a x m s b y n t) ≡ true
later-view a x m s b y n t p = grind (arith, nat_tests)

same-view : (a x m : ℕ) → is_lt (ordering_then (nat_cmp a a) (ordering_then (nat_cmp x x) (nat_cmp m m))) ≡ false
same-view a x m = grind (arith, nat_tests)

-- how three orderings belong together: that of a first value and a second, of the second and a third, and of the first and the third
record Chains (x y z : Ordering) : Type 0 where
  le : is_le x ≡ true → is_le y ≡ true → is_le z ≡ true
  lt-le : is_lt x ≡ true → is_le y ≡ true → is_lt z ≡ true
  le-lt : is_le x ≡ true → is_lt y ≡ true → is_lt z ≡ true
  eq : x ≡ Equal → y ≡ Equal → z ≡ Equal

is-less : (o : Ordering) → is_lt o ≡ true → o ≡ Less
is-less Less e = refl
is-less Equal e = absurd cc
is-less Greater e = absurd cc

chains-then : (x y z p q r : Ordering) → Chains x y z → Chains p q r → Chains (ordering_then x p) (ordering_then y q) (ordering_then z r)
chains-then Less Less z p q r c d = let less : z ≡ Less = is-less z (c.lt-le refl refl) in rw less (record { le = λ e f. refl; lt-le = λ e f. refl; le-lt = λ e f. refl; eq = λ e f. absurd cc })
chains-then Less Equal z p q r c d = let less : z ≡ Less = is-less z (c.lt-le refl refl) in rw less (record { le = λ e f. refl; lt-le = λ e f. refl; le-lt = λ e f. refl; eq = λ e f. absurd cc })
chains-then Less Greater z p q r c d = record { le = λ e f. absurd cc; lt-le = λ e f. absurd cc; le-lt = λ e f. absurd cc; eq = λ e f. absurd cc }
chains-then Equal Less z p q r c d = let less : z ≡ Less = is-less z (c.le-lt refl refl) in rw less (record { le = λ e f. refl; lt-le = λ e f. refl; le-lt = λ e f. refl; eq = λ e f. absurd cc })
chains-then Equal Equal z p q r c d = rw (c.eq refl refl) d
chains-then Equal Greater z p q r c d = record { le = λ e f. absurd cc; lt-le = λ e f. absurd cc; le-lt = λ e f. absurd cc; eq = λ e f. absurd cc }
chains-then Greater y z p q r c d = record { le = λ e f. absurd cc; lt-le = λ e f. absurd cc; le-lt = λ e f. absurd cc; eq = λ e f. absurd cc }

chains-nat : (a b c : ℕ) → Chains (nat_cmp a b) (nat_cmp b c) (nat_cmp a c)
chains-nat a b c = record { le = λ e f. grind (arith, nat_tests); lt-le = λ e f. grind (arith, nat_tests); le-lt = λ e f. grind (arith, nat_tests); eq = λ e f. grind (arith, nat_tests) }

view-chains : (a b c : ViewId) → Chains (view_id_cmp a b) (view_id_cmp b c) (view_id_cmp a c)
view-chains a b c =
    chains-then _ _ _ _ _ _ (chains-nat a.counter b.counter c.counter)
    (chains-then _ _ _ _ _ _ (chains-nat a.creator.node b.creator.node c.creator.node) (chains-nat a.creator.incarnation b.creator.incarnation c.creator.incarnation))

three-not-lower : (a x m b y n : ℕ) → is_lt (ordering_then (nat_cmp a b) (ordering_then (nat_cmp x y) (nat_cmp m n))) ≡ false → is_le (ordering_then (nat_cmp b a) (ordering_then (nat_cmp y x) (nat_cmp n m))) ≡ true
three-not-lower a x m b y n e = grind (arith, nat_tests)

chains : (a b c : Token) → Chains (token_cmp a b) (token_cmp b c) (token_cmp a c)
chains a b c =
    let creators = chains-then _ _ _ _ _ _ (chains-nat a.view.creator.node b.view.creator.node c.view.creator.node) (chains-nat a.view.creator.incarnation b.view.creator.incarnation c.view.creator.incarnation) in
    chains-then _ _ _ _ _ _ (chains-then _ _ _ _ _ _ (chains-nat a.view.counter b.view.counter c.view.counter) creators) (chains-nat a.count b.count c.count)

pub up-trans : (a b c : Token) → is_up_to a b ≡ true → is_up_to b c ≡ true → is_up_to a c ≡ true
up-trans a b c p q = (chains a b c).le p q

pub up-below : (a b c : Token) → is_up_to a b ≡ true → IsBelow b c → IsBelow a c
up-below a b c p q = (chains a b c).le-lt p q

pub below-up : (a b c : Token) → IsBelow a b → is_up_to b c ≡ true → IsBelow a c
below-up a b c p q = (chains a b c).lt-le p q

pub below-is-up : (a b : Token) → IsBelow a b → is_up_to a b ≡ true
below-is-up a b p = lt-le a.view.counter a.view.creator.node a.view.creator.incarnation a.count b.view.counter b.view.creator.node b.view.creator.incarnation b.count p

pub not-below-itself : (a : Token) → is_lt (token_cmp a a) ≡ false
not-below-itself a = lt-irrefl a.view.counter a.view.creator.node a.view.creator.incarnation a.count

pub up-refl : (a : Token) → is_up_to a a ≡ true
up-refl a = le-refl a.view.counter a.view.creator.node a.view.creator.incarnation a.count

pub below-trans : (a b c : Token) → IsBelow a b → IsBelow b c → IsBelow a c
below-trans a b c p q = below-up a b c p (below-is-up b c q)

-- ---- when two tokens are one

record AreFour (a x m s b y n t : ℕ) : Type 0 where
  counter : a ≡ b
  node : x ≡ y
  incarnation : m ≡ n
  count : s ≡ t

four-equal : (a x m s b y n t : ℕ) → is_eq (four a x m s b y n t) ≡ true → AreFour a x m s b y n t
four-equal a x m s b y n t e = record { counter = grind (arith, nat_tests); node = grind (arith, nat_tests); incarnation = grind (arith, nat_tests); count = grind (arith, nat_tests) }

four-same : (a x m s : ℕ) → is_eq (four a x m s a x m s) ≡ true
four-same a x m s = grind (arith, nat_tests)

abbrev token_with : ℕ → ℕ → ℕ → ℕ → Token
token_with a x m s = record { view = record { counter = a; creator = record { node = x; incarnation = m } }; count = s }

pub token-is : (a b : Token) → is_token a b ≡ true → a ≡ b
token-is a b e =
    let f = four-equal a.view.counter a.view.creator.node a.view.creator.incarnation a.count b.view.counter b.view.creator.node b.view.creator.incarnation b.count e in
    ap (λ (n : ℕ). token_with n a.view.creator.node a.view.creator.incarnation a.count) f.counter
    ∙ ap (λ (n : ℕ). token_with b.view.counter n a.view.creator.incarnation a.count) f.node
    ∙ ap (λ (n : ℕ). token_with b.view.counter b.view.creator.node n a.count) f.incarnation
    ∙ ap (λ (n : ℕ). token_with b.view.counter b.view.creator.node b.view.creator.incarnation n) f.count

pub is-token : (a b : Token) → a ≡ b → is_token a b ≡ true
is-token a b same = subst (λ (x : Token). is_token a x ≡ true) same (four-same a.view.counter a.view.creator.node a.view.creator.incarnation a.count)

-- ---- the next token

-- it is above the last one
pub next-above : (view : ViewId) (last : Token) → IsBelow last (next_token view last)
next-above view last = by (is_lt (view_id_cmp last.view view)) refl where
  by : (b : Bool) → is_lt (view_id_cmp last.view view) ≡ b → IsBelow last (cond b (record { view = view; count = 1 }) (record { view = last.view; count = last.count + 1 }))
  by true e = later-view last.view.counter last.view.creator.node last.view.creator.incarnation last.count view.counter view.creator.node view.creator.incarnation 1 e
  by false e = more-count last.view.counter last.view.creator.node last.view.creator.incarnation last.count

-- it is above each token of a lower view than the command's
pub next-above-views : (view : ViewId) (last t : Token) → is_lt (view_id_cmp t.view view) ≡ true → IsBelow t (next_token view last)
next-above-views view last t lower = by (is_lt (view_id_cmp last.view view)) refl where
  not-lower : is_lt (view_id_cmp last.view view) ≡ false → is_le (view_id_cmp view last.view) ≡ true
  not-lower e = three-not-lower last.view.counter last.view.creator.node last.view.creator.incarnation view.counter view.creator.node view.creator.incarnation e

  by : (b : Bool) → is_lt (view_id_cmp last.view view) ≡ b → IsBelow t (cond b (record { view = view; count = 1 }) (record { view = last.view; count = last.count + 1 }))
  by true e = later-view t.view.counter t.view.creator.node t.view.creator.incarnation t.count view.counter view.creator.node view.creator.incarnation 1 lower
  by false e =
      let up = (view-chains t.view view last.view).lt-le lower (not-lower e) in
      later-view t.view.counter t.view.creator.node t.view.creator.incarnation t.count last.view.counter last.view.creator.node last.view.creator.incarnation (last.count + 1) up

-- the one after it counts one more
pub next-next : (view : ViewId) (last : Token) → (next_token view (next_token view last)).count ≡ (next_token view last).count + 1
next-next view last = by (is_lt (view_id_cmp last.view view)) refl where
  after-first : (b : Bool) → b ≡ false → (cond {A = Token} b (record { view = view; count = 1 }) (record { view = view; count = 1 + 1 })).count ≡ 1 + 1
  after-first true e = absurd cc
  after-first false e = refl

  after-more : (b : Bool) → b ≡ false → (cond {A = Token} b (record { view = view; count = 1 }) (record { view = last.view; count = last.count + 1 + 1 })).count ≡ last.count + 1 + 1
  after-more true e = absurd cc
  after-more false e = refl

  by : (b : Bool) → is_lt (view_id_cmp last.view view) ≡ b
      → (next_token view (cond b (record { view = view; count = 1 }) (record { view = last.view; count = last.count + 1 }))).count ≡ (cond {A = Token} b (record { view = view; count = 1 }) (record { view = last.view; count = last.count + 1 })).count + 1
  by true e = after-first (is_lt (view_id_cmp view view)) (same-view view.counter view.creator.node view.creator.incarnation)
  by false e = after-more (is_lt (view_id_cmp last.view view)) e

-- it can be spelled, where its count is no greater than a number may be
pub next-is-token : (view : ViewId) (last : Token) → IsViewId view → IsToken last → (next_token view last).count ≤ GREATEST_NUMBER → IsToken (next_token view last)
next-is-token view last is old few = by (is_lt (view_id_cmp last.view view)) few where
  by : (b : Bool) → (cond {A = Token} b (record { view = view; count = 1 }) (record { view = last.view; count = last.count + 1 })).count ≤ GREATEST_NUMBER
      → IsToken (cond b (record { view = view; count = 1 }) (record { view = last.view; count = last.count + 1 }))
  by true few = record { view = is; count = few }
  by false few = record { view = old.view; count = few }
