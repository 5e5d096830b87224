-- The first end of a ticket is found at its index, and the others are what is left there.
use Rattle.std.proofs.Common.{◌≡◌, ℕ, ◌<◌, ◌≤◌, Bool, true, false, List, ◌++◌, suc, length, take, get_or, cond, ltb, None, Some, refl, sym, ap, ◌∙◌, arith}
use Rattle.std.specs.List.{remove, position, position_or_len, slice_get}
use Rattle.std.specs.Option.{option_map}
use Rattle.std.proofs.Math.ListN.{drop_of_length-le}
use Rattle.std.proofs.lemmas.Bool.{ltb-true, ltb-false}
use Rattle.std.proofs.lemmas.List.{append-nil, take_all}
use Rattle.std.proofs.lemmas.List.Folds.{find_at}
use Rattle.std.proofs.lemmas.Option.{slice_get_read, slice_get_past, same_Some}
use Rattle.tickets.specs.declared.tickets.Ended.{Ended}
use Rattle.tickets.specs.Ledger.{Ledger, end_taken, has_ended, taken_of}

-- a ticket's first end is at this index
pub record IsFirst (ticket : ℕ) (l : Ledger) (i : ℕ) : Type 0 where
  pub within : i < length l.ended
  pub found : (x : Ended) → x ≡ get_or l.ended i x → end_taken ticket l ≡ Some x.end
  pub others : taken_of ticket l ≡ record l { ended = remove l.ended i }

-- a ticket has no end
pub record IsNone (ticket : ℕ) (l : Ledger) : Type 0 where
  pub found : end_taken ticket l ≡ None
  pub others : taken_of ticket l ≡ l

abbrev pub with_ended : Ledger → List Ended → Ledger
with_ended l es = record l { ended = es }

-- the index of the first end that is the ticket's: `take` answers with it, and leaves the others
first-at : (ticket : ℕ) (l : Ledger) (i : ℕ) → i ≡ position_or_len (has_ended ticket) l.ended → i < length l.ended → IsFirst ticket l i
first-at ticket l i is within = record {
  within = within;
  found = λ x at. ap (option_map (λ (e : Ended). e.end)) (find_at (has_ended ticket) l.ended ∙ ap (slice_get l.ended) (sym is) ∙ slice_get_read l.ended (length l.ended) i x refl within at);
  others = ap (λ (n : ℕ). with_ended l (remove l.ended n)) (sym is);
}

-- nothing is taken out past the end
none-out : (es : List Ended) (i : ℕ) → length es ≤ i → remove es i ≡ es
none-out es i past =
    ap (λ (l : List Ended). take i es ++ l) (drop_of_length-le es {i = suc i} (omega (arith, past)))
    ∙ append-nil (take i es) ∙ take_all i es past

-- where no end is the ticket's, `take` answers nothing and changes nothing
none-at : (ticket : ℕ) (l : Ledger) → length l.ended ≤ position_or_len (has_ended ticket) l.ended → IsNone ticket l
none-at ticket l past = record {
  found = ap (option_map (λ (e : Ended). e.end)) (find_at (has_ended ticket) l.ended ∙ slice_get_past l.ended (position_or_len (has_ended ticket) l.ended) past);
  others = ap (with_ended l) (none-out l.ended (position_or_len (has_ended ticket) l.ended) past);
}

-- the same, from the `Some` that `position` gives
pub first-is : (ticket : ℕ) (l : Ledger) (i : ℕ) → position (has_ended ticket) l.ended ≡ Some i → IsFirst ticket l i
first-is ticket l i = by (ltb (position_or_len (has_ended ticket) l.ended) (length l.ended)) refl where
  by : (b : Bool) → ltb (position_or_len (has_ended ticket) l.ended) (length l.ended) ≡ b → cond b (Some (position_or_len (has_ended ticket) l.ended)) None ≡ Some i → IsFirst ticket l i
  by true test e = let same = same_Some (position_or_len (has_ended ticket) l.ended) i e in first-at ticket l i (sym same) (let within = ltb-true _ _ test in omega (arith, same, within))
  by false test e = absurd cc

-- the same, from the `None` that `position` gives
pub none-is : (ticket : ℕ) (l : Ledger) → position (has_ended ticket) l.ended ≡ None → IsNone ticket l
none-is ticket l = by (ltb (position_or_len (has_ended ticket) l.ended) (length l.ended)) refl where
  by : (b : Bool) → ltb (position_or_len (has_ended ticket) l.ended) (length l.ended) ≡ b → cond b (Some (position_or_len (has_ended ticket) l.ended)) None ≡ None → IsNone ticket l
  by true test e = absurd cc
  by false test e = none-at ticket l (ltb-false _ _ test)
