-- The first ticket that waits for a message is found at its index, and the others are what is left there.
use Rattle.std.proofs.Common.{◌≡◌, ℕ, ◌+◌, ◌<◌, ◌≤◌, ◌==◌, Bool, true, false, List, [], ◌∷◌, ◌++◌, suc, length, take, get_or, cond, ltb, map, count_by, Option, None, Some, refl, sym, ap, ◌∙◌, arith}
use Rattle.std.specs.List.{remove, position, position_or_len, slice_get}
use Rattle.std.specs.Option.{option_map}
use Rattle.std.proofs.Math.ListN.{drop_of_length-le}
use Rattle.std.proofs.lemmas.Bool.{ltb-true, ltb-false}
use Rattle.std.proofs.lemmas.List.{append-nil, take_all, get_or_default}
use Rattle.std.proofs.lemmas.List.Folds.{find_at}
use Rattle.std.proofs.lemmas.List.Sums.{sum_by-cons, sum_by-remove}
use Rattle.std.proofs.lemmas.Option.{slice_get_read, slice_get_past, same_Some}
use Rattle.application.specs.declared.waiting.Waiting.{Waiting}
use Rattle.application.specs.Waits.{waits_for, ticket_of, others_of, waits_with}

pub record IsFirst (number : ℕ) (ws : List Waiting) (i : ℕ) : Type 0 where
  pub within : i < length ws
  pub found : (x : Waiting) → x ≡ get_or ws i x → ticket_of number ws ≡ Some x.ticket
  pub others : others_of number ws ≡ remove ws i

pub record IsNobody (number : ℕ) (ws : List Waiting) : Type 0 where
  pub found : ticket_of number ws ≡ None
  pub others : others_of number ws ≡ ws

first-at : (number : ℕ) (ws : List Waiting) (i : ℕ) → i ≡ position_or_len (waits_for number) ws → i < length ws → IsFirst number ws i
first-at number ws i is within = record {
  within = within;
  found = λ x at. ap (option_map (λ (w : Waiting). w.ticket)) (find_at (waits_for number) ws ∙ ap (slice_get ws) (sym is) ∙ slice_get_read ws (length ws) i x refl within at);
  others = ap (remove ws) (sym is);
}

-- nothing is taken out past the end
none-out : (ws : List Waiting) (i : ℕ) → length ws ≤ i → remove ws i ≡ ws
none-out ws i past =
    ap (λ (l : List Waiting). take i ws ++ l) (drop_of_length-le ws {i = suc i} (omega (arith, past)))
    ∙ append-nil (take i ws) ∙ take_all i ws past

nobody-at : (number : ℕ) (ws : List Waiting) → length ws ≤ position_or_len (waits_for number) ws → IsNobody number ws
nobody-at number ws past = record {
  found = ap (option_map (λ (w : Waiting). w.ticket)) (find_at (waits_for number) ws ∙ slice_get_past ws (position_or_len (waits_for number) ws) past);
  others = none-out ws (position_or_len (waits_for number) ws) past;
}

pub first-is : (number : ℕ) (ws : List Waiting) (i : ℕ) → position (waits_for number) ws ≡ Some i → IsFirst number ws i
first-is number ws i = by (ltb (position_or_len (waits_for number) ws) (length ws)) refl where
  by : (b : Bool) → ltb (position_or_len (waits_for number) ws) (length ws) ≡ b → cond b (Some (position_or_len (waits_for number) ws)) None ≡ Some i → IsFirst number ws i
  by true test e = let same = same_Some (position_or_len (waits_for number) ws) i e in first-at number ws i (sym same) (let within = ltb-true _ _ test in omega (arith, same, within))
  by false test e = absurd cc

pub nobody-is : (number : ℕ) (ws : List Waiting) → position (waits_for number) ws ≡ None → IsNobody number ws
nobody-is number ws = by (ltb (position_or_len (waits_for number) ws) (length ws)) refl where
  by : (b : Bool) → ltb (position_or_len (waits_for number) ws) (length ws) ≡ b → cond b (Some (position_or_len (waits_for number) ws)) None ≡ None → IsNobody number ws
  by true test e = absurd cc
  by false test e = nobody-at number ws (ltb-false _ _ test)

-- how often a ticket is the one that is taken
abbrev pub is_taken : ℕ → Option ℕ → ℕ
is_taken ticket None = 0
is_taken ticket (Some n) = cond (n == ticket) 1 0

-- who is taken out waits no more, and all others wait on
pub taken-once : (number : ℕ) (ws : List Waiting) (ticket : ℕ) → waits_with ticket (others_of number ws) + is_taken ticket (ticket_of number ws) ≡ waits_with ticket ws
taken-once number ws ticket = by (ltb (position_or_len (waits_for number) ws) (length ws)) refl where
  some : (i : ℕ) → i < length ws → IsFirst number ws i → (x : Waiting) → x ≡ get_or ws i x → waits_with ticket (others_of number ws) + is_taken ticket (ticket_of number ws) ≡ waits_with ticket ws
  some i within first x at =
      let without = sum_by-remove (λ w. cond (w.ticket == ticket) 1 0) ws i x within in
      let this = ap {B = ℕ} (λ (w : Waiting). cond (w.ticket == ticket) 1 0) at in
      rw (first.others, first.found x at) (omega (arith, without, this))

  by : (b : Bool) → ltb (position_or_len (waits_for number) ws) (length ws) ≡ b → waits_with ticket (others_of number ws) + is_taken ticket (ticket_of number ws) ≡ waits_with ticket ws
  by true test =
      let i = position_or_len (waits_for number) ws in
      let nobody : Waiting = record { number = 0; ticket = 0 } in
      some i (ltb-true _ _ test) (first-at number ws i refl (ltb-true _ _ test)) (get_or ws i nobody) (get_or_default ws i nobody (get_or ws i nobody) (ltb-true _ _ test))
  by false test = let nobody = nobody-at number ws (ltb-false _ _ test) in rw (nobody.others, nobody.found) (omega arith)

-- each that waits is answered once, as the view ends
pub backs : {A : Type 0} (ticket_in : A → ℕ) (back : Waiting → A) → ((w : Waiting) → ticket_in (back w) ≡ w.ticket) → (ws : List Waiting) (ticket : ℕ)
    → count_by (λ a. ticket_in a == ticket) (map back ws) ≡ waits_with ticket ws
backs ticket_in back same [] ticket = refl
backs ticket_in back same (w ∷ ws) ticket =
    sum_by-cons (λ a. cond (ticket_in a == ticket) 1 0) (back w) (map back ws)
    ∙ ap (λ (n : ℕ). cond (n == ticket) 1 0 + count_by (λ a. ticket_in a == ticket) (map back ws)) (same w)
    ∙ ap (λ (n : ℕ). cond (w.ticket == ticket) 1 0 + n) (backs ticket_in back same ws ticket)
    ∙ sym (sum_by-cons (λ v. cond (v.ticket == ticket) 1 0) w ws)
