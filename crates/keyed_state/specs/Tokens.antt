-- Tokens: their order, and which comes next.
use Rattle.std.specs.Prelude.{◌≡◌, ◌+◌, ◌≤◌, Bool, true, if◌then◌else◌}
use Rattle.std.specs.Ordering.{nat_cmp, ordering_then, is_lt, is_le, is_eq}
use Rattle.std.specs.declared.cmp.Ordering.{Ordering}
use Rattle.address.specs.Ids.{ViewId, view_id_cmp, IsAddress}
use Rattle.address.specs.declared.limits.TheConstants.{GREATEST_NUMBER}
use Rattle.keyed_state.specs.declared.token.Token.{Token}

-- the order of tokens: by their views, then by their counts
abbrev pub token_cmp : Token → Token → Ordering
token_cmp a b = ordering_then (view_id_cmp a.view b.view) (nat_cmp a.count b.count)

abbrev pub IsBelow : Token → Token → Type 0
IsBelow a b = is_lt (token_cmp a b) ≡ true

-- whether a token is another one or below it
abbrev pub is_up_to : Token → Token → Bool
is_up_to a b = is_le (token_cmp a b)

-- whether two tokens are one
abbrev pub is_token : Token → Token → Bool
is_token a b = is_eq (token_cmp a b)

-- the least token, which is given to nothing
abbrev pub least_token : Token
least_token = record { view = record { counter = 1; creator = record { node = 1; incarnation = 1 } }; count = 0 }

-- the next token, by a command of a view: the view's first where it is above that of the last token, or else the one after the last
abbrev pub next_token : ViewId → Token → Token
next_token view last = if is_lt (view_id_cmp last.view view) then record { view = view; count = 1 } else record { view = last.view; count = last.count + 1 }

-- ---- the tokens that can be spelled

pub record IsViewId (v : ViewId) : Type 0 where
  pub counter : 1 ≤ v.counter
  pub counter_fits : v.counter ≤ GREATEST_NUMBER
  pub creator : IsAddress v.creator

pub record IsToken (t : Token) : Type 0 where
  pub view : IsViewId t.view
  pub count : t.count ≤ GREATEST_NUMBER
