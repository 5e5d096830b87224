-- The lines of the nodes' states, one after another.
use Rattle.std.proofs.Common.{◌≡◌, ℕ, zero, suc, ◌+◌, ◌-◌, ◌≤◌, List, [], ◌∷◌, ◌++◌, length, take, Option, Some, None, refl, sym, ap, ◌∙◌, append_assoc, arith, option_to_list}
use Rattle.std.specs.List.{concat, filter_map, range_with_len}
use Rattle.std.proofs.Math.Seq.{take-append_seam}
use Rattle.std.proofs.lemmas.List.Elements.{filter_map-append}
use Rattle.state_transfer.specs.Meanings.{Meaning}
use Rattle.trace_props.specs.declared.event.Event.{Event}
use Rattle.address.specs.Ids.{Address}
use Rattle.commands.specs.States.{state_line_at, state_lines_to, state_lines_of}
use Rattle.vsync_text.proofs.LinesWritten.{concat_append}
use Rattle.address.specs.declared.limits.TheConstants.{GREATEST_NODE}

range-next : (a n : ℕ) → range_with_len a (suc n) ≡ range_with_len a n ++ (a + n) ∷ []
range-next a zero = let e : a ≡ a + 0 = omega arith in ap (λ x. x ∷ []) e
range-next a (suc n) = let e : a + 1 + n ≡ a + suc n = omega arith in ap (λ l. a ∷ l) (range-next (a + 1) n ∙ ap (λ x. range_with_len (a + 1) n ++ x ∷ []) e)

pub range-split : (a n m : ℕ) → range_with_len a (n + m) ≡ range_with_len a n ++ range_with_len (a + n) m
range-split a zero m = ap (λ x. range_with_len a x) (let e : 0 + m ≡ m = omega arith in e) ∙ ap (λ x. range_with_len x m) (let e : a ≡ a + 0 = omega arith in e)
range-split a (suc n) m =
    ap (range_with_len a) (let e : suc n + m ≡ suc (n + m) = omega arith in e) ∙ ap (λ l. a ∷ l) (range-split (a + 1) n m
    ∙ ap (λ x. range_with_len (a + 1) n ++ range_with_len x m) (let e : a + 1 + n ≡ a + suc n = omega arith in e))

one : {X Y : Type 0} (f : X → Option Y) (x : X) → filter_map f (x ∷ []) ≡ option_to_list (f x)
one f x = go (f x) refl
  where
    go : (o : Option _) → f x ≡ o → filter_map f (x ∷ []) ≡ option_to_list o
    go None e = rw e refl
    go (Some y) e = rw e refl

-- the line of one node more
pub printed-next : {S : Type 0} (meaning : Meaning S) (line_of : Address → S → List ℕ) (t : List Event) (n : ℕ) (old now new : List ℕ)
    → now ≡ old ++ concat (state_lines_to meaning line_of t n) → new ≡ now ++ concat (option_to_list (state_line_at meaning line_of t (n + 1)))
    → new ≡ old ++ concat (state_lines_to meaning line_of t (n + 1))
printed-next meaning line_of t n old now new before more =
    let f : ℕ → Option (List ℕ) = state_line_at meaning line_of t in
    let up : suc n ≡ n + 1 = omega arith in
    let next : 1 + n ≡ n + 1 = omega arith in
    let split : filter_map f (range_with_len 1 (n + 1)) ≡ filter_map f (range_with_len 1 n) ++ option_to_list (f (n + 1)) =
    ap (λ (k : ℕ). filter_map f (range_with_len 1 k)) (sym up) ∙ ap (filter_map f) (range-next 1 n) ∙ filter_map-append f (range_with_len 1 n) ((1 + n) ∷ [])
    ∙ ap (λ l. filter_map f (range_with_len 1 n) ++ l) (one f (1 + n)) ∙ ap (λ (k : ℕ). filter_map f (range_with_len 1 n) ++ option_to_list (f k)) next in
    more ∙ ap (λ (x : List ℕ). x ++ concat (option_to_list (f (n + 1)))) before
    ∙ append_assoc old (concat (filter_map f (range_with_len 1 n))) (concat (option_to_list (f (n + 1))))
    ∙ ap (λ (x : List ℕ). old ++ x) (sym (concat_append (filter_map f (range_with_len 1 n)) (option_to_list (f (n + 1)))) ∙ ap concat (sym split))

-- those of the first nodes are the first of all
front : {S : Type 0} (meaning : Meaning S) (line_of : Address → S → List ℕ) (t : List Event) (n m : ℕ)
    → (count : ℕ) × (state_lines_to meaning line_of t n ≡ take count (state_lines_to meaning line_of t (n + m)))
front meaning line_of t n m =
    let f : ℕ → Option (List ℕ) = state_line_at meaning line_of t in
    let split : filter_map f (range_with_len 1 (n + m)) ≡ filter_map f (range_with_len 1 n) ++ filter_map f (range_with_len (1 + n) m) =
    ap (filter_map f) (range-split 1 n m) ∙ filter_map-append f (range_with_len 1 n) (range_with_len (1 + n) m) in
    let own : List (List ℕ) = filter_map f (range_with_len 1 n) in
    (length own, sym (take-append_seam own (filter_map f (range_with_len (1 + n) m))) ∙ ap (take (length own)) (sym split))

-- memory was refused after the lines of a few nodes
pub printed-some : {S : Type 0} (meaning : Meaning S) (line_of : Address → S → List ℕ) (t : List Event) (n : ℕ) (old new : List ℕ)
    → n ≤ GREATEST_NODE → new ≡ old ++ concat (state_lines_to meaning line_of t n)
    → (count : ℕ) × (new ≡ old ++ concat (take count (state_lines_of meaning line_of t)))
unfolding state_lines_of
printed-some meaning line_of t n old new few is =
    let (count, e) = front meaning line_of t n (GREATEST_NODE - n) in
    (count, is ∙ ap (λ (x : List (List ℕ)). old ++ concat x) (e ∙ ap (λ (m : ℕ). take count (state_lines_to meaning line_of t m)) (let all : n + (GREATEST_NODE - n) ≡ GREATEST_NODE = omega arith in all)))

-- those of all nodes are printed
pub printed-all : {S : Type 0} (meaning : Meaning S) (line_of : Address → S → List ℕ) (t : List Event) (n : ℕ) (old new : List ℕ)
    → n ≡ GREATEST_NODE → new ≡ old ++ concat (state_lines_to meaning line_of t n) → new ≡ old ++ concat (state_lines_of meaning line_of t)
unfolding state_lines_of
printed-all meaning line_of t n old new all is = is ∙ ap (λ (m : ℕ). old ++ concat (state_lines_to meaning line_of t m)) all
