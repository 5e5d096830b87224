-- The text of a run spells what happened in it.
use Rattle.std.proofs.Common.{◌≡◌, ℕ, ◌+◌, ◌-◌, ◌≤◌, true, false, List, [], ◌∷◌, ◌++◌, Ok, length, drop, map, nat_eq, refl, sym, ◌∙◌, ap, subst, arith, append_assoc, length-append, codes, if◌then◌else◌}
use Rattle.std.proofs.Math.Seq.{drop-length}
use Rattle.std.proofs.lemmas.Bool.{or_from}
use Rattle.std.proofs.lemmas.List.{take-append-drop, drop-drop}
use Rattle.std.proofs.lemmas.List.Elements.{recursion_from_All, All-take, All-drop}
use Rattle.std.specs.Prelude.{All}
use Rattle.std.specs.List.{AllByRecursion, list_any}
use Rattle.std.specs.Fmt.{decimal}
use Rattle.trace_props.specs.declared.event.Event.{Event}
use Rattle.world_model.specs.declared.Answer.{Answer}
use Rattle.world_model.specs.declared.Answer.TheVariants.{Done, Sent, Refused}
use Rattle.address.specs.declared.refusal.Refusal.{Refusal}
use Rattle.address.specs.declared.refusal.Refusal.TheVariants.{Memory}
use Rattle.world_model.specs.declared.Reply.{Reply}
use Rattle.address.specs.Refusals.{number_of}
use Rattle.world_model.specs.Histories.{History}
use Rattle.world_model.specs.Faithful.{IsFaithful}
use Rattle.world_model.specs.Faithful.IsFaithful.{Nothing as Began, Next}
use Rattle.vsync_text.specs.TraceText.{line_of, field}
use Rattle.vsync_text.specs.Runs.{refusal_line, refused_lines, answer_lines, stretch, reply_lines, lines_from, text_of_run, lines_of_run}
use Rattle.vsync_text.specs.Traces.{trace_of}
use Rattle.vsync_text.specs.Spellable.{IsSpellable, IsNote, Spell}
use Rattle.vsync_text.specs.Spellable.Spell.{Nothing, Note, Line}
use Rattle.vsync_text.proofs.TextsCut.{Without, From, all_append, without_below}
use Rattle.vsync_text.proofs.FieldsBack.{digits_from_least}
use Rattle.vsync_text.proofs.TextsBack.{trace_back, from_test}

-- PLACES

-- the places of replies rise from one place to the last
abbrev pub Rises : ℕ → List Reply → ℕ → Type 0
Rises from [] last = from ≡ last
Rises from (reply ∷ replies) last = (from ≤ reply.place) × Rises reply.place replies last

rises_push : (from : ℕ) (replies : List Reply) (last : ℕ) (next : Reply) → Rises from replies last → last ≤ next.place → Rises from (replies ++ next ∷ []) next.place
rises_push from [] last next r le = (omega arith, refl)
rises_push from (reply ∷ replies) last next r le = (r.0, rises_push reply.place replies last next r.1 le)

faithful_rises : (h : History) → IsFaithful h → Rises 0 h.replies (length h.trace)
faithful_rises _ Began = refl
faithful_rises _ (Next h event a ps s f answers prompt) =
    rises_push 0 h.replies (length h.trace) (record { answer = a; place = length (h.trace ++ s) }) (faithful_rises h f) (omega (arith, length-append h.trace s))

faithful_answers : (h : History) → IsFaithful h → length h.replies ≡ length h.events
faithful_answers _ Began = refl
faithful_answers _ (Next h event a ps s f answers prompt) =
    omega (arith, faithful_answers h f, length-append h.replies (record { answer = a; place = length (h.trace ++ s) } ∷ []), length-append h.events (event ∷ []))

-- REFUSALS

no_feed : (text : List ℕ) → Without 10 text → list_any (λ b. nat_eq b 10) text ≡ false
no_feed [] w = refl
no_feed (b ∷ bs) w = or_from (nat_eq b 10) _ w.0 (no_feed bs w.1)

number_field_from : (n : ℕ) → From 32 (field (decimal n))
number_field_from n = (omega arith, digits_from_least 32 n (omega arith))

-- a refusal, without its line feed
abbrev pub refusal_text : ℕ → ℕ → List ℕ
refusal_text line number = codes "# refused" ++ (field (decimal line) ++ field (decimal number))

refusal_from : (line number : ℕ) → From 32 (refusal_text line number)
refusal_from line number =
    all_append (λ b. 32 ≤ b) (codes "# refused") (field (decimal line) ++ field (decimal number)) (from_test 32 (codes "# refused") refl)
    (all_append (λ b. 32 ≤ b) (field (decimal line)) (field (decimal number)) (number_field_from line) (number_field_from number))

refusal_is_note : (line number : ℕ) → IsNote (refusal_text line number)
refusal_is_note line number = record {
  begins = refl;
  one_line = no_feed (refusal_text line number) (without_below 32 10 (refusal_text line number) (omega arith) (refusal_from line number));
}

refused_spells : (line : ℕ) (r : Refusal) (lines : List (List ℕ)) (t : List Event) → Spell lines t → Spell (refused_lines line r ++ lines) t
refused_spells line r lines t spell =
    elim (nat_eq (number_of r) (number_of Memory)) as (λ b. Spell ((if b then [] else refusal_line line (number_of r) ∷ []) ++ lines) t)
    [ true ↦ spell | false ↦ Note (refusal_text line (number_of r)) lines t (refusal_is_note line (number_of r)) spell ]

answer_spells : (line : ℕ) (a : Answer) (lines : List (List ℕ)) (t : List Event) → Spell lines t → Spell (answer_lines line a ++ lines) t
answer_spells line Done lines t spell = spell
answer_spells line (Sent n) lines t spell = spell
answer_spells line (Refused r) lines t spell = refused_spells line r lines t spell

-- RUNS

events_spell : (s : List Event) (lines : List (List ℕ)) (t : List Event) → AllByRecursion IsSpellable s → Spell lines t → Spell (map line_of s ++ lines) (s ++ t)
events_spell [] lines t a spell = spell
events_spell (h ∷ s) lines t a spell = Line h (map line_of s ++ lines) (s ++ t) a.0 (events_spell s lines t a.1 spell)

stretch_then : (from to : ℕ) (t : List Event) → from ≤ to → stretch from to t ++ drop to t ≡ drop from t
stretch_then from to t le =
    let far : from + (to - from) ≡ to = omega arith in
    ap (λ r. stretch from to t ++ r) (sym (drop-drop (to - from) from t ∙ ap (λ n. drop n t) far)) ∙ take-append-drop (to - from) (drop from t)

lines_spell : (from : ℕ) (lines : List ℕ) (replies : List Reply) (t : List Event) → length lines ≡ length replies → Rises from replies (length t) → All IsSpellable t
    → Spell (lines_from from lines replies t) (drop from t)
lines_spell from [] [] t e r a = let P : List Event → Type 0 = λ s. Spell [] s in subst P (sym (drop-length t) ∙ ap (λ n. drop n t) (sym r)) Nothing
lines_spell from [] (reply ∷ replies) t e r a = absurd (omega arith)
lines_spell from (line ∷ lines) [] t e r a = absurd (omega arith)
lines_spell from (line ∷ lines) (reply ∷ replies) t e r a =
    let s = stretch from reply.place t in
    let rest = lines_from reply.place lines replies t in
    let next : Spell rest (drop reply.place t) = lines_spell reply.place lines replies t (omega arith) r.1 a in
    let answered : Spell (answer_lines line reply.answer ++ rest) (drop reply.place t) = answer_spells line reply.answer rest (drop reply.place t) next in
    let whole : Spell (map line_of s ++ (answer_lines line reply.answer ++ rest)) (s ++ drop reply.place t) = events_spell s _ _ (recursion_from_All IsSpellable s (All-take IsSpellable (reply.place - from) (drop from t) (All-drop IsSpellable from t a))) answered in
    let P : List Event → Type 0 = λ u. Spell (reply_lines from line reply t ++ rest) u in
    let Q : List (List ℕ) → Type 0 = λ ls. Spell ls (s ++ drop reply.place t) in
    subst P (stretch_then from reply.place t r.0) (subst Q (sym (append_assoc (map line_of s) (answer_lines line reply.answer) rest)) whole)

-- the text of a run is read back as what happened in it
pub run_back : (h : History) (lines : List ℕ) → IsFaithful h → length lines ≡ length h.events → All IsSpellable h.trace
    → trace_of (text_of_run lines h.replies h.trace) ≡ Ok h.trace
run_back h lines f e a =
    trace_back (lines_of_run lines h.replies h.trace) h.trace
    (lines_spell 0 lines h.replies h.trace (e ∙ sym (faithful_answers h f)) (faithful_rises h f) a)
