-- Rows and lines by what is kept.
use Rattle.std.proofs.Common.{◌≡◌, ℕ, ◌+◌, ◌<◌, Bool, false, List, [], ◌∷◌, ◌++◌, length, take, get_or, suc, Option, unwrap_or, option_map, filter_map, sym, refl, ap, ◌∙◌, arith, append_assoc, append-nil, length-take, subst}
use Rattle.std.proofs.Math.Seq.{take-suc}
use Rattle.std.proofs.lemmas.List.Elements.{filter_map-append}
use Rattle.std.specs.List.{cons_option}
use Rattle.address.specs.Ids.{Address, ViewId}
use Rattle.trace_props.specs.declared.event.Event.{Event}
use Rattle.trace_props.specs.declared.event.Event.TheVariants.{Started, Sent, Delivered, Blocked, Installed, Left, Crashed}
use Rattle.trace_props.specs.Observed.{member_of, is_blocked}
use Rattle.trace_drawing.specs.declared.row.Row.{Row}
use Rattle.trace_drawing.specs.declared.row.Line.{Line}
use Rattle.trace_drawing.specs.declared.row.MessageKey.{MessageKey}
use Rattle.trace_drawing.specs.declared.known.Lifeline.{Lifeline}
use Rattle.trace_drawing.specs.Layout.{last_place, rank_in, members_in, column_of, happens_to, reached_by, origin_of, row_of, rows_from, rows_of, member_line}
use Rattle.trace_drawing.specs.Known.{row_after, KnowsMembers, KnowsSends, KnowsInstalls, Knows}

-- ROWS

origin-known : (s : MessageKey → Option ℕ) (v : ViewId → Option ℕ) (t : List Event) (e : Event) → KnowsSends s t → KnowsInstalls v t → reached_by s v e ≡ origin_of t e
origin-known s v t (Started p) a b = refl
origin-known s v t (Sent m) a b = refl
origin-known s v t (Delivered d) a b = a (record { view = d.view; sender = d.message.sender; number = d.message.number })
origin-known s v t (Blocked p) a b = refl
origin-known s v t (Installed i) a b = b i.view.id
origin-known s v t (Left p) a b = refl
origin-known s v t (Crashed p) a b = refl

abbrev row : ℕ → ℕ → Option ℕ → Bool → Option ℕ → Row
row c n b k o = record { column = c; level = n; before = b; blocked = k; origin = o }

row-same : (c d n m : ℕ) (a b : Option ℕ) (k l : Bool) (o q : Option ℕ) → c ≡ d → n ≡ m → a ≡ b → k ≡ l → o ≡ q → row c n a k o ≡ row d m b l q
row-same c d n m a b k l o q e i f g h = ap (λ x. row x n a k o) e ∙ ap (λ x. row d x a k o) i ∙ ap (λ x. row d m x k o) f ∙ ap (λ x. row d m b x o) g ∙ ap (λ x. row d m b l x) h

-- what is kept of the member of the next event has its column
pub column-kept : (at : ℕ → ℕ) (ms : List Address) (m : Address → Option Lifeline) (t : List Event) (e : Event) → KnowsMembers at ms m t
    → unwrap_or (option_map (λ l. l.column) (m (member_of e))) (length ms) ≡ column_of (member_of e) t
column-kept at ms m t e knows = ap (λ o. unwrap_or o (length ms)) (knows.columns (member_of e)) ∙ ap (λ xs. unwrap_or (rank_in (member_of e) (members_in t)) (length xs)) knows.come_up

-- the row of the next event, by what is kept
pub row-kept : (at : ℕ → ℕ) (ms : List Address) (m : Address → Option Lifeline) (s : MessageKey → Option ℕ) (v : ViewId → Option ℕ) (t : List Event) (e : Event) (o : Option ℕ) (n : ℕ)
    → o ≡ reached_by s v e → n ≡ at (length t) → Knows at ms m s v t → row_after (m (member_of e)) (length ms) n o ≡ row_of at t e
row-kept at ms m s v t e o n reached here knows =
    let p = member_of e in
    row-same (unwrap_or (option_map (λ l. l.column) (m p)) (length ms)) (column_of p t) n (at (length t)) (option_map (λ l. l.last) (m p)) (option_map at (last_place (happens_to p) t))
    (unwrap_or (option_map (λ l. l.blocked) (m p)) false) (is_blocked p t) o (origin_of t e)
    (column-kept at ms m t e knows.of_members) here (knows.of_members.lasts p) (knows.of_members.blocked p)
    (reached ∙ origin-known s v t e knows.of_sends knows.of_installs)

-- the rows of a trace, one event further
rows_from-push : (at : ℕ → ℕ) (past t : List Event) (e : Event) → rows_from at past (t ++ e ∷ []) ≡ rows_from at past t ++ row_of at (past ++ t) e ∷ []
rows_from-push at past [] e = ap (λ p. row_of at p e ∷ []) (sym (append-nil past))
rows_from-push at past (x ∷ xs) e = ap (λ rs. row_of at past x ∷ rs) (rows_from-push at (past ++ x ∷ []) xs e ∙ ap (λ p. rows_from at (past ++ x ∷ []) xs ++ row_of at p e ∷ []) (append_assoc past (x ∷ []) xs))

pub next-take-at : {X : Type 0} (xs : List X) (i : ℕ) (x d : X) → x ≡ get_or xs i d → i < length xs → take (i + 1) xs ≡ take i xs ++ x ∷ []
next-take-at xs i x d at inside =
    ap (λ n. take n xs) (let e : i + 1 ≡ suc i = omega arith in e) ∙ take-suc xs i d inside ∙ ap (λ y. take i xs ++ y ∷ []) (sym at)

pub length-front : {X : Type 0} (xs : List X) (i : ℕ) → i < length xs → i ≡ length (take i xs)
length-front xs i inside = omega (arith, length-take i xs)

-- one row more, and what is kept serves one event further
pub rows-next : (at : ℕ → ℕ) (events : List Event) (i : ℕ) (e : Event) (rows more : List Row) (r : Row) → e ≡ get_or events i e → i < length events
    → rows ≡ rows_of at (take i events) → r ≡ row_of at (take i events) e → more ≡ rows ++ r ∷ [] → more ≡ rows_of at (take (i + 1) events)
rows-next at events i e rows more r stands inside so_far is pushed =
    pushed ∙ ap (λ rs. rs ++ r ∷ []) so_far ∙ ap (λ x. rows_of at (take i events) ++ x ∷ []) is
    ∙ sym (ap (rows_of at) (next-take-at events i e e stands inside) ∙ rows_from-push at [] (take i events) e)

pub known-next : (events : List Event) (i : ℕ) (e : Event) (K : List Event → Type 0) → e ≡ get_or events i e → i < length events
    → (i ≡ length (take i events) → K (take i events ++ e ∷ [])) → K (take (i + 1) events)
known-next events i e K at inside then = subst K (sym (next-take-at events i e e at inside)) (then (length-front events i inside))

-- LINES

-- one member more
pub lines-next : (at : ℕ → ℕ) (t : List Event) (members items : List Address) (i : ℕ) (p : Address) (lines : List Line) → items ≡ members → p ≡ get_or items i p → i < length items
    → lines ≡ filter_map (member_line at t) (take i members) → (o : Option Line) → o ≡ member_line at t p → lines ++ cons_option o [] ≡ filter_map (member_line at t) (take (i + 1) members)
lines-next at t members items i p lines same stands inside so_far o is =
    ap (λ ls. ls ++ cons_option o []) so_far ∙ ap (λ xs. filter_map (member_line at t) (take i xs) ++ cons_option o []) (sym same) ∙ ap (λ x. filter_map (member_line at t) (take i items) ++ cons_option x []) is
    ∙ sym (ap (filter_map (member_line at t)) (next-take-at items i p p stands inside) ∙ filter_map-append (member_line at t) (take i items) (p ∷ []))
    ∙ ap (λ xs. filter_map (member_line at t) (take (i + 1) xs)) same
