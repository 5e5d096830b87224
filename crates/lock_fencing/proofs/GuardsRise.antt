-- The token that a guard keeps only rises.
use Rattle.std.proofs.Common.{◌≡◌, ℕ, Bool, true, false, cond, Option, Some, None, List, [], ◌∷◌, ◌++◌, fold, refl, sym, ap, subst, ◌∙◌, arith}
use Rattle.std.specs.Ordering.{nat_cmp, ordering_then, is_lt, is_le}
use Rattle.std.proofs.lemmas.Bool.Decides.{nat_tests}
use Rattle.std.proofs.lemmas.List.Sums.{fold-append}
use Rattle.keyed_state.specs.declared.token.Token.{Token}
use Rattle.keyed_state.specs.Tokens.{is_up_to, IsBelow}
use Rattle.keyed_state.specs.TokenLaws.{up-refl, up-trans, below-up, not-below-itself}
use Rattle.lock_fencing.specs.Fencing.{token_at}
use Rattle.lock_fencing.specs.Guards.{serves, kept_after, kept_by, RefusesBelow, NeverBack, NoneBelow, NoneOlder}
use Rattle.lock_fencing.proofs.TokensRiseInViews.{tokens-rise}

-- ---- one request

not-up : (a x m s b y n t : ℕ) → is_le (ordering_then (ordering_then (nat_cmp a b) (ordering_then (nat_cmp x y) (nat_cmp m n))) (nat_cmp s t)) ≡ false
    → is_lt (ordering_then (ordering_then (nat_cmp b a) (ordering_then (nat_cmp y x) (nat_cmp n m))) (nat_cmp t s)) ≡ true
not-up a x m s b y n t e = grind (arith, nat_tests)

-- a token below another one is not at least that one
not-both : (a b : Token) → IsBelow a b → is_up_to b a ≡ true → false ≡ true
not-both a b below up = sym (not-below-itself a) ∙ below-up a b a below up

refused : (a b : Token) → IsBelow a b → is_up_to b a ≡ false
refused a b below = by (is_up_to b a) refl where
  by : (c : Bool) → is_up_to b a ≡ c → c ≡ false
  by true e = absurd (let bad = not-both a b below e in cc)
  by false e = refl

pub refuses-below : RefusesBelow
refuses-below greatest asked = (
  λ e. not-up greatest.view.counter greatest.view.creator.node greatest.view.creator.incarnation greatest.count asked.view.counter asked.view.creator.node asked.view.creator.incarnation asked.count e,
  λ below. refused asked greatest below,
)

-- ---- many requests

-- the token that is kept is another one or above it
abbrev keeps-up : Token → Option Token → Bool
keeps-up a None = false
keeps-up a (Some kept) = is_up_to a kept

kept-up : (a : Token) (kept : Option Token) (asked : Token) → keeps-up a kept ≡ true → keeps-up a (kept_after kept asked) ≡ true
kept-up a None asked up = absurd cc
kept-up a (Some kept) asked up = by (is_up_to kept asked) refl where
  by : (b : Bool) → is_up_to kept asked ≡ b → keeps-up a (cond b (Some asked) (Some kept)) ≡ true
  by true e = up-trans a kept asked up e
  by false e = up

all-up : (a : Token) (asked : List Token) (kept : Option Token) → keeps-up a kept ≡ true → keeps-up a (fold kept_after kept asked) ≡ true
all-up a [] kept up = up
all-up a (b ∷ asked) kept up = all-up a asked (kept_after kept b) (kept-up a kept b up)

-- what was served is kept, or a higher one
served-up : (before between : List Token) (a : Token) → serves (kept_by before) a ≡ true → keeps-up a (kept_by (before ++ a ∷ between)) ≡ true
served-up before between a e =
    let now : kept_after (kept_by before) a ≡ Some a = ap (λ (b : Bool). cond b (Some a) (kept_by before)) e in
    let later : kept_by (before ++ a ∷ between) ≡ fold kept_after (Some a) between =
    fold-append kept_after None before (a ∷ between) ∙ ap (λ (k : Option Token). fold kept_after k between) now in
    subst (λ (k : Option Token). keeps-up a k ≡ true) (sym later) (all-up a between (Some a) (up-refl a))

pub never-back : NeverBack
never-back before between a b first then = by (kept_by (before ++ a ∷ between)) (served-up before between a first) then where
  by : (o : Option Token) → keeps-up a o ≡ true → serves o b ≡ true → is_up_to a b ≡ true
  by None up e = absurd cc
  by (Some kept) up e = up-trans a kept b up e

pub none-below : NoneBelow
none-below before between a b below served = by (kept_by (before ++ b ∷ between)) (served-up before between b served) where
  by : (o : Option Token) → keeps-up b o ≡ true → serves o a ≡ false
  by None up = absurd cc
  by (Some kept) up = refused a kept (below-up a b kept below up)

pub none-older : NoneOlder
none-older t is spells a b older before between served = none-below before between (token_at a) (token_at b) (tokens-rise t is spells a b older) served
