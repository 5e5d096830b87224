-- What a loop keeps that rolls the locks one after another.
use Rattle.std.proofs.Common.{◌≡◌, ℕ, zero, suc, ◌<◌, ◌≤◌, length, take, drop, set, get_or, arith, Bool, true, false, cond, List, [], ◌∷◌, ◌++◌, Some, None, refl, sym, ap, subst, ◌∙◌, append_assoc}
use Rattle.std.specs.List.{filter}
use Rattle.std.proofs.lemmas.List.{append-nil, take_all, drop_all}
use Rattle.std.proofs.lemmas.List.Elements.{filter-append}
use Rattle.address.specs.Ids.{Address, ViewId}
use Rattle.keyed_state.specs.declared.entries.KeyedEntry.{KeyedEntry}
use Rattle.keyed_state.specs.Entries.{entry_of}
use Rattle.keyed_state.specs.declared.token.Token.{Token}
use Rattle.lock_table.specs.Locks.{Lock, Table, table_of, left_to, rolled, before, holder_in, IsLeft}
use Rattle.lock_table.specs.StepLaws.{MayRoll, first-sound, roll-goes-on}

-- locks before a table's
abbrev pub behind : List (KeyedEntry Lock) → Table → Table
behind front s = table_of s.last (front ++ s.entries)

-- one more lock is left in its place
pub goes-on : (stays : Address → Bool) (view : ViewId) (last token : Token) (front : List (KeyedEntry Lock)) (e : KeyedEntry Lock) (es : List (KeyedEntry Lock)) (l : Lock) (total : Table)
    → IsLeft stays (left_to stays view last e.value) l token → behind front (rolled stays view last (e ∷ es)) ≡ total
    → behind (front ++ filter (holder_in stays) (entry_of e.key l ∷ [])) (rolled stays view token es) ≡ total
goes-on stays view last token front e es l total left so_far = by (stays l.holder) left.lock ∙ so_far where
  rest : Table
  rest = rolled stays view (left_to stays view last e.value).last es

  at : rolled stays view token es ≡ rest
  at = ap (λ (t : Token). rolled stays view t es) (sym left.last)

  by : (b : Bool) → (left_to stays view last e.value).lock ≡ cond b (Some l) None → behind (front ++ cond b (entry_of e.key l ∷ []) []) (rolled stays view token es) ≡ behind front (before e.key (left_to stays view last e.value).lock rest)
  by true is = rw (is, at) (ap (table_of rest.last) (append_assoc front (entry_of e.key l ∷ []) rest.entries))
  by false is = rw (is, at) (ap (table_of rest.last) (append_assoc front [] rest.entries))

-- ---- a lock that is written in its place

take-through : (xs : List (KeyedEntry Lock)) (i : ℕ) (y : KeyedEntry Lock) → i < length xs → take (suc i) (set xs i y) ≡ take i xs ++ y ∷ []
take-through [] i y lt = absurd (omega (arith, lt))
take-through (x ∷ xs) zero y lt = refl
take-through (x ∷ xs) (suc i) y lt = ap (λ (l : List (KeyedEntry Lock)). x ∷ l) (take-through xs i y (omega (arith, lt)))

drop-through : (xs : List (KeyedEntry Lock)) (i : ℕ) (y : KeyedEntry Lock) → drop (suc i) (set xs i y) ≡ drop (suc i) xs
drop-through [] i y = refl
drop-through (x ∷ xs) zero y = refl
drop-through (x ∷ xs) (suc i) y = drop-through xs i y

drop-here : (xs : List (KeyedEntry Lock)) (i : ℕ) (e : KeyedEntry Lock) → i < length xs → e ≡ get_or xs i e → drop i xs ≡ e ∷ drop (suc i) xs
drop-here [] i e lt at = absurd (omega (arith, lt))
drop-here (x ∷ xs) zero e lt at = ap (λ (y : KeyedEntry Lock). y ∷ xs) (sym at)
drop-here (x ∷ xs) (suc i) e lt at = drop-here xs i e (omega (arith, lt)) at

-- what a loop keeps at each lock
pub record Rolls (stays : Address → Bool) (view : ViewId) (last : Token) (entries : List (KeyedEntry Lock)) (i : ℕ) (total : Table) : Type 0 where
  pub all : behind (filter (holder_in stays) (take i entries)) (rolled stays view last (drop i entries)) ≡ total
  pub may : MayRoll view last (drop i entries)

pub rolls-on : (stays : Address → Bool) (view : ViewId) (last token : Token) (entries : List (KeyedEntry Lock)) (i n : ℕ) (e : KeyedEntry Lock) (k : List ℕ) (l : Lock) (total : Table) → i < length entries → n ≡ suc i → e ≡ get_or entries i e → k ≡ e.key
    → IsLeft stays (left_to stays view last e.value) l token → Rolls stays view last entries i total → Rolls stays view token (set entries i (entry_of k l)) n total
rolls-on stays view last token entries i n e k l total lt next at name left so_far =
    let here = drop-here entries i e lt at in
    let may : MayRoll view last (e ∷ drop (suc i) entries) = subst (MayRoll view last) here so_far.may in
    let all : behind (filter (holder_in stays) (take i entries)) (rolled stays view last (e ∷ drop (suc i) entries)) ≡ total = ap (λ (es : List (KeyedEntry Lock)). behind (filter (holder_in stays) (take i entries)) (rolled stays view last es)) (sym here) ∙ so_far.all in
    let sound = first-sound stays view last e (drop (suc i) entries) may in
    let more : MayRoll view token (drop (suc i) entries) = subst (λ (t : Token). MayRoll view t (drop (suc i) entries)) left.last (roll-goes-on view last e (drop (suc i) entries) (left_to stays view last e.value) may sound) in
    let front : filter (holder_in stays) (take (suc i) (set entries i (entry_of e.key l))) ≡ filter (holder_in stays) (take i entries) ++ filter (holder_in stays) (entry_of e.key l ∷ []) =
    ap (filter (holder_in stays)) (take-through entries i (entry_of e.key l) lt) ∙ filter-append (holder_in stays) (take i entries) (entry_of e.key l ∷ []) in
    rw (next, name) (record {
      all = rw (front, drop-through entries i (entry_of e.key l)) (goes-on stays view last token (filter (holder_in stays) (take i entries)) e (drop (suc i) entries) l total left all);
      may = rw (drop-through entries i (entry_of e.key l)) more;
    })

-- the loop has come to the end
pub rolls-end : (stays : Address → Bool) (view : ViewId) (last : Token) (entries : List (KeyedEntry Lock)) (i : ℕ) (total : Table) → Rolls stays view last entries i total → length entries ≤ i → table_of last (filter (holder_in stays) entries) ≡ total
rolls-end stays view last entries i total so_far end =
    let front : filter (holder_in stays) (take i entries) ≡ filter (holder_in stays) entries = ap (filter (holder_in stays)) (take_all i entries end) in
    let nothing : rolled stays view last (drop i entries) ≡ table_of last [] = ap (rolled stays view last) (drop_all i entries end) in
    let whole : behind (filter (holder_in stays) (take i entries)) (rolled stays view last (drop i entries)) ≡ table_of last (filter (holder_in stays) entries) =
    rw (nothing, front) (ap (table_of last) (append-nil (filter (holder_in stays) entries))) in
    sym whole ∙ so_far.all

-- a lock that was left, by another name of its entry
pub left-at : (stays : Address → Bool) (view : ViewId) (last : Token) (e x : KeyedEntry Lock) (l : Lock) (token : Token) → e ≡ x → IsLeft stays (left_to stays view last x.value) l token → IsLeft stays (left_to stays view last e.value) l token
left-at stays view last e x l token same left = subst (λ (y : KeyedEntry Lock). IsLeft stays (left_to stays view last y.value) l token) (sym same) left
