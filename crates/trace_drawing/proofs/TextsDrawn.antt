-- Texts that are drawn one behind another.
use Rattle.std.proofs.Common.{◌≡◌, ◌==◌, true, false, ℕ, ◌+◌, ◌<◌, List, [], ◌∷◌, ◌++◌, length, drop, codes, get_or, suc, sym, refl, ap, ◌∙◌, arith, append_assoc}
use Rattle.std.proofs.Math.Seq.{drop-cons}
use Rattle.std.specs.Prelude.{flat_map}
use Rattle.std.specs.Fmt.{decimal}
use Rattle.trace_props.specs.declared.event.Event.{Event}
use Rattle.trace_drawing.specs.declared.row.Row.{Row}
use Rattle.trace_drawing.specs.declared.asides.TheConstants.{ASIDE_STYLE}
use Rattle.trace_drawing.specs.declared.aside.AsideRow.{AsideRow}
use Rattle.trace_drawing.specs.Asides.{aside_group, asides_text}
use Rattle.trace_drawing.specs.Layout.{rows_from, rows_of}
use Rattle.trace_props.specs.declared.event.Numbered.{Numbered}
use Rattle.trace_drawing.specs.Marks.{x_of, y_of}
use Rattle.trace_drawing.specs.Spelling.{start_behind}
use Rattle.trace_drawing.specs.Picture.{back_text, event_group, event_groups}

-- how many messages are handed back, where there are some
pub back-drawn : (a b c : List ℕ) (back : List Numbered) (level column : ℕ) → (length back == 0) ≡ false → b ≡ a ++ start_behind (codes "<text class='t' x='") (x_of column + 44) (y_of level + 4)
    → c ≡ b ++ (decimal (length back) ++ codes " back</text>") → c ≡ a ++ back_text back level column
back-drawn a b c [] level column some e f = absurd (let n : true ≡ false = some in cc)
back-drawn a b c (m ∷ ms) level column some e f =
    let start = start_behind (codes "<text class='t' x='") (x_of column + 44) (y_of level + 4) in
    let count = decimal (length (m ∷ ms)) in
    f ∙ ap (λ u. u ++ (count ++ codes " back</text>")) e ∙ append_assoc a start (count ++ codes " back</text>") ∙ ap (λ t. a ++ t) (ap (λ t. start ++ t) (sym (append_assoc count (codes " back") (codes "</text>"))) ∙ sym (append_assoc start (count ++ codes " back") (codes "</text>")))

-- one event's group more, and the rest is one shorter
pub groups-next : (rows : List Row) (events : List Event) (k : ℕ) (r d : Row) (e : Event) (out new whole : List ℕ) → r ≡ get_or rows k d → e ≡ get_or events k e → k < length rows → k < length events
    → out ++ event_groups rows k (drop k rows) (drop k events) ≡ whole → new ≡ out ++ event_group rows k r e → new ++ event_groups rows (k + 1) (drop (k + 1) rows) (drop (k + 1) events) ≡ whole
groups-next rows events k r d e out new whole at_row at_event in_rows in_events so_far more =
    let s : k + 1 ≡ suc k = omega arith in
    let rest_of_rows = drop-cons rows k d in_rows ∙ ap (λ x. x ∷ drop (suc k) rows) (sym at_row) ∙ ap (λ n. r ∷ drop n rows) (sym s) in
    let rest_of_events = drop-cons events k e in_events ∙ ap (λ x. x ∷ drop (suc k) events) (sym at_event) ∙ ap (λ n. e ∷ drop n events) (sym s) in
    ap (λ t. t ++ event_groups rows (k + 1) (drop (k + 1) rows) (drop (k + 1) events)) more
    ∙ append_assoc out (event_group rows k r e) (event_groups rows (k + 1) (drop (k + 1) rows) (drop (k + 1) events))
    ∙ ap (λ t. out ++ t) (sym (ap (λ xs. event_groups rows k xs (drop k events)) rest_of_rows ∙ ap (λ xs. event_groups rows k (r ∷ drop (k + 1) rows) xs) rest_of_events))
    ∙ so_far

-- what is drawn of asides, where there are some
pub asides-all : (rows : List AsideRow) (packets : List (List ℕ)) → (length rows == 0) ≡ false → ASIDE_STYLE.now ++ flat_map (aside_group rows packets) rows ≡ asides_text rows packets
asides-all [] packets e = absurd (let n : true ≡ false = e in cc)
asides-all (r ∷ rs) packets e = refl

rows_from-length : (at : ℕ → ℕ) (past t : List Event) → length (rows_from at past t) ≡ length t
rows_from-length at past [] = refl
rows_from-length at past (e ∷ es) = ap suc (rows_from-length at (past ++ e ∷ []) es)

-- a row for each event
pub rows-length : (at : ℕ → ℕ) (t : List Event) → length (rows_of at t) ≡ length t
rows-length at t = rows_from-length at [] t
