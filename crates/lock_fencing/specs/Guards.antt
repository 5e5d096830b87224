-- A guard keeps the greatest token that it served, and refuses each lower one.
use Rattle.std.specs.Prelude.{◌≡◌, ◌↔◌, Bool, true, false, List, ◌∷◌, ◌++◌, fold, Option, Some, None, if◌then◌else◌}
use Rattle.trace_props.specs.declared.event.Event.{Event}
use Rattle.keyed_state.specs.declared.token.Token.{Token}
use Rattle.keyed_state.specs.Tokens.{IsBelow, is_up_to}
use Rattle.lock_fencing.specs.Fencing.{Grant, token_at, IsOfTables, SpellsViews, IsOlder}

-- whether a guard serves a request with a token: the first one, and then each that is not below the greatest that it served
abbrev pub serves : Option Token → Token → Bool
serves None asked = true
serves (Some greatest) asked = is_up_to greatest asked

-- the greatest token that it served, after that request
abbrev pub kept_after : Option Token → Token → Option Token
kept_after kept asked = if serves kept asked then Some asked else kept

-- the same after requests with these tokens, one after another, since the beginning
abbrev pub kept_by : List Token → Option Token
kept_by asked = fold kept_after None asked

-- it refuses the tokens below the greatest one, and no others
abbrev pub RefusesBelow : Type 0
RefusesBelow = (greatest asked : Token) → (serves (Some greatest) asked ≡ false) ↔ IsBelow asked greatest

-- NEVER BACK: of two requests that it serves the later one has no lower token
abbrev pub NeverBack : Type 0
NeverBack = (before between : List Token) (a b : Token) → serves (kept_by before) a ≡ true → serves (kept_by (before ++ a ∷ between)) b ≡ true → is_up_to a b ≡ true

-- NONE BELOW: after it has served a token it refuses each lower one, whatever else is asked of it, also with tokens that were never granted
abbrev pub NoneBelow : Type 0
NoneBelow = (before between : List Token) (a b : Token) → IsBelow a b → serves (kept_by before) b ≡ true → serves (kept_by (before ++ b ∷ between)) a ≡ false

-- NO OLDER ONE AFTER A NEWER ONE: after it has served the holder of a grant it refuses the holder of each older grant
abbrev pub NoneOlder : Type 0
NoneOlder = (t : List Event) → IsOfTables t → SpellsViews t → (a b : Grant t) → IsOlder a b → (before between : List Token)
    → serves (kept_by before) (token_at b) ≡ true → serves (kept_by (before ++ token_at b ∷ between)) (token_at a) ≡ false
