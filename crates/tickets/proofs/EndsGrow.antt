-- The ends of tickets, one ticket more at a time.
use Rattle.std.proofs.Common.{◌≡◌, ℕ, ◌+◌, ◌<◌, not, cond, List, [], ◌∷◌, ◌++◌, Option, None, Some, get_or, length, take, refl, sym, ap, ◌∙◌, append_assoc, arith}
use Rattle.std.specs.List.{filter, filter_map, cons_option}
use Rattle.std.specs.Option.{option_to_list, option_map, is_some}
use Rattle.std.proofs.lemmas.List.{take_more}
use Rattle.std.proofs.lemmas.List.Elements.{filter_map-append}
use Rattle.tickets.specs.declared.tickets.Pending.{Pending}
use Rattle.tickets.specs.declared.tickets.End.{End}
use Rattle.tickets.specs.declared.tickets.Ended.{Ended}
use Rattle.tickets.specs.declared.tickets.Change.{Change}
use Rattle.tickets.specs.Ledger.{end_by, ended_by, stays_open}

-- the end of one ticket
of-one : {X Y : Type 0} (f : X → Option Y) (x : X) → option_to_list (f x) ≡ filter_map f (x ∷ [])
of-one {X} {Y} f x = by (f x) refl where
  by : (o : Option Y) → f x ≡ o → option_to_list (f x) ≡ filter_map f (x ∷ [])
  by None e = rw e refl
  by (Some y) e = rw e refl

-- the end of the next ticket is appended
pub next-end : {X Y : Type 0} (f : X → Option Y) (a b c : List Y) (xs : List X) (i : ℕ) (x : X) → x ≡ get_or xs i x → i < length xs → b ≡ a ++ filter_map f (take i xs) → c ≡ b ++ option_to_list (f x) → c ≡ a ++ filter_map f (take (i + 1) xs)
next-end f a b c xs i x at inside before more =
    more ∙ ap (λ l. l ++ option_to_list (f x)) before ∙ append_assoc a (filter_map f (take i xs)) (option_to_list (f x))
    ∙ ap (λ l. a ++ (filter_map f (take i xs) ++ l)) (of-one f x)
    ∙ ap (λ l. a ++ l) (sym (filter_map-append f (take i xs) (x ∷ [])))
    ∙ ap (λ l. a ++ filter_map f l) (ap (λ y. take i xs ++ y ∷ []) at ∙ sym (take_more xs i x inside))

-- each ticket stays open or has an end
pub each-stays-or-ends : (c : Change) (os : List Pending) → length (filter_map (ended_by c) os) + length (filter (stays_open c) os) ≡ length os
each-stays-or-ends c [] = refl
each-stays-or-ends c (o ∷ os) = by (end_by c o) (each-stays-or-ends c os) where
  es : List Ended
  es = filter_map (ended_by c) os

  rest : List Pending
  rest = filter (stays_open c) os

  by : (e : Option End) → length es + length rest ≡ length os → length (cons_option (option_map (λ x. record { ticket = o.ticket; end = x }) e) es) + length (cond (not (is_some e)) (o ∷ rest) rest) ≡ length (o ∷ os)
  by None more = omega (arith, more)
  by (Some x) more = omega (arith, more)
