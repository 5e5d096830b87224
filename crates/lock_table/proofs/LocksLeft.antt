-- What a lock is after some have left it.
use Rattle.std.proofs.Common.{◌≡◌, Bool, true, false, cond, List, [], ◌∷◌, refl, sym, ap, subst, ◌∙◌}
use Rattle.std.specs.List.{filter}
use Rattle.address.specs.Ids.{Address, ViewId}
use Rattle.keyed_state.specs.declared.token.Token.{Token}
use Rattle.keyed_state.specs.Tokens.{next_token}
use Rattle.lock_table.specs.Locks.{Lock, passed, passed_on, left_to, in_place, IsLeft}

abbrev with_waiters : Lock → List Address → Lock
with_waiters l ps = record { holder = l.holder; token = l.token; waiters = ps }

filter-first : (stays : Address → Bool) (xs : List Address) (p : Address) (ps : List Address) → filter stays xs ≡ p ∷ ps → stays p ≡ true
filter-first stays [] p ps e = absurd cc
filter-first stays (x ∷ xs) p ps e = by (stays x) refl (filter-first stays xs p ps) e where
  by : (b : Bool) → stays x ≡ b → (filter stays xs ≡ p ∷ ps → stays p ≡ true) → cond b (x ∷ filter stays xs) (filter stays xs) ≡ p ∷ ps → stays p ≡ true
  by true is rest e = let same : x ≡ p = cc in ap stays (sym same) ∙ is
  by false is rest e = rest e

abbrev left_in_place : (Address → Bool) → ViewId → Token → Lock → Bool → Lock × Token
left_in_place stays view last l b = in_place (with_waiters l (filter stays l.waiters)) (passed b view last (with_waiters l (filter stays l.waiters)))

-- only those who stay wait, and the lock is passed on where its holder does not stay
pub passed-left : (stays : Address → Bool) (view : ViewId) (last : Token) (l : Lock)
    → IsLeft stays (left_to stays view last l) (left_in_place stays view last l (stays l.holder)).0 (left_in_place stays view last l (stays l.holder)).1
passed-left stays view last l = by (stays l.holder) refl where
  by-first : (ps : List Address) → filter stays l.waiters ≡ ps → stays l.holder ≡ false
      → IsLeft stays (passed_on last (next_token view last) ps) (in_place (with_waiters l ps) (passed_on last (next_token view last) ps)).0 (in_place (with_waiters l ps) (passed_on last (next_token view last) ps)).1
  by-first [] e goes = record { lock = rw goes refl; last = refl }
  by-first (p ∷ ps) e goes = record { lock = rw (filter-first stays l.waiters p ps e) refl; last = refl }

  by : (b : Bool) → stays l.holder ≡ b
      → IsLeft stays (passed b view last (with_waiters l (filter stays l.waiters))) (left_in_place stays view last l b).0 (left_in_place stays view last l b).1
  by true is = record { lock = rw is refl; last = refl }
  by false is = by-first (filter stays l.waiters) refl is

-- the same, as the code has it
pub left-as-passed : (stays : Address → Bool) (view : ViewId) (last : Token) (l : Lock) (ps : List Address) (b : Bool) (new : Lock) (token : Token) → ps ≡ filter stays l.waiters → b ≡ stays l.holder
    → (new, token) ≡ in_place (with_waiters l ps) (passed b view last (with_waiters l ps)) → IsLeft stays (left_to stays view last l) new token
left-as-passed stays view last l ps b new token few at e =
    let whole = passed-left stays view last l in
    let same : (new, token) ≡ left_in_place stays view last l (stays l.holder) =
    e ∙ ap (λ (c : Bool). in_place (with_waiters l ps) (passed c view last (with_waiters l ps))) at
    ∙ ap (λ (qs : List Address). in_place (with_waiters l qs) (passed (stays l.holder) view last (with_waiters l qs))) few in
    subst (λ (x : Lock × Token). IsLeft stays (left_to stays view last l) x.0 x.1) (sym same) whole
