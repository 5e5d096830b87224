-- How lines are written through a buffer.
use Rattle.std.proofs.Common.{◌≡◌, ℕ, ◌+◌, ◌-◌, ◌*◌, ◌<◌, arith, List, [], ◌∷◌, ◌++◌, Option, None, Some, length, take, drop, get_or, refl, sym, ◌∙◌, ap, append_assoc, append-nil, suc, zero, subst, nat_eq, false, ne_eqb, drop-cons, ⊎_elim}
use Rattle.std.proofs.lemmas.Bool.{cases_lt}
use Rattle.std.proofs.lemmas.List.{drop_all}
use Rattle.std.proofs.Math.Nat.{suc-mul}
use Rattle.std.proofs.Math.Seq.{take-append-add, take-append_seam, take-add, take-nil}
use Rattle.std.specs.List.{concat}
use Rattle.std.specs.Io.KnownBytes.{Appends}
use Rattle.trace_props.specs.declared.event.Event.{Event}
use Rattle.world_model.specs.declared.Reply.{Reply}
use Rattle.address.specs.declared.refusal.Refusal.{Refusal}
use Rattle.address.specs.Refusals.{number_of}
use Rattle.vsync_text.specs.TraceText.{line_of}
use Rattle.vsync_text.specs.Writing.{lines_left, Advances}
use Rattle.vsync_text.specs.declared.run.Rest.{Rest}
use Rattle.vsync_text.specs.Runs.{stretch, answer_lines, refusal_line, refused_lines, lines_from}

pub appends_nothing : (a : Option (List ℕ)) → Appends a a []
appends_nothing None = tt
appends_nothing (Some xs) = sym (append-nil xs)

pub appends_then : (a b c : Option (List ℕ)) (s t : List ℕ) → Appends a b s → Appends b c t → Appends a c (s ++ t)
appends_then None b c s t ab bc = tt
appends_then (Some xs) None c s t ab bc = absurd ab
appends_then (Some xs) (Some ys) None s t ab bc = absurd bc
appends_then (Some xs) (Some ys) (Some zs) s t ab bc = bc ∙ ap (λ l. l ++ t) ab ∙ append_assoc xs s t

pub concat_append : (xs ys : List (List ℕ)) → concat (xs ++ ys) ≡ concat xs ++ concat ys
concat_append [] ys = refl
concat_append (x ∷ xs) ys = ap (λ l. x ++ l) (concat_append xs ys) ∙ sym (append_assoc x (concat xs) (concat ys))

-- one piece more of a text was taken
pub took_more : (a b c : Option (List ℕ)) (bytes rest : List ℕ) (m n : ℕ) → rest ≡ drop m bytes
    → Appends a b (take m bytes) → Appends b c (take n rest) → Appends a c (take (m + n) bytes)
took_more a b c bytes rest m n e ab bc =
    let joined : take (m + n) bytes ≡ take m bytes ++ take n rest = take-add m n bytes ∙ ap (λ l. take m bytes ++ take n l) (sym e) in
    rw joined (appends_then a b c (take m bytes) (take n rest) ab bc)

-- THE NEXT LINES OF A RUN

-- a refusal for another reason than memory is printed
pub one_line : (line number : ℕ) (refusal : Refusal) → number ≡ number_of refusal → (number ≡ 7 → ⊥) → concat (refused_lines line refusal) ≡ refusal_line line number
one_line line number refusal e other =
    let f : nat_eq (number_of refusal) 7 ≡ false = ne_eqb (number_of refusal) 7 (λ x. other (e ∙ x)) in
    rw f (append-nil _ ∙ ap (refusal_line line) (sym e))

-- the next event is the first of its stretch, where `d` stands for what is not there
pub next_event : (from line : ℕ) (lines later_lines : List ℕ) (reply : Reply) (replies later : List Reply) (t : List Event) (d : Event)
    → lines ≡ line ∷ later_lines → replies ≡ reply ∷ later → from < reply.place → from < length t
    → lines_from from lines replies t ≡ (line_of (get_or t from d) ∷ []) ++ lines_from (from + 1) lines replies t
next_event from line lines later_lines reply replies later t d e f rises inside =
    let next : from + 1 ≡ suc from = omega arith in
    let count : reply.place - from ≡ suc (reply.place - (from + 1)) = omega (arith, rises) in
    let first : stretch from reply.place t ≡ get_or t from d ∷ stretch (from + 1) reply.place t = rw (count, drop-cons t from d inside, next) refl in
    rw (e, f, first) refl

-- no event is left before a reply
no_event : (from to : ℕ) (t : List Event) → (from < to → from < length t → ⊥) → stretch from to t ≡ []
no_event from to t h =
    ⊎_elim
    (λ rises. ⊎_elim (λ inside. absurd (h rises inside)) (λ over. ap (take (to - from)) (drop_all from t over) ∙ take-nil (to - from)) (cases_lt from (length t)))
    (λ falls. let none : to - from ≡ 0 = omega (arith, falls) in ap (λ n. take n (drop from t)) none)
    (cases_lt from to)

-- the answer stands behind them
pub answer_next : (from line : ℕ) (lines later_lines : List ℕ) (reply : Reply) (replies later : List Reply) (t : List Event)
    → lines ≡ line ∷ later_lines → replies ≡ reply ∷ later → (from < reply.place → from < length t → ⊥)
    → lines_from from lines replies t ≡ answer_lines line reply.answer ++ lines_from reply.place later_lines later t
answer_next from line lines later_lines reply replies later t e f over = rw (e, f, no_event from reply.place t over) refl

-- fewer steps are left behind a reply
pub steps_fall : (lines later events from place : ℕ) → lines ≡ suc later → later * (events + 1) + (events - place) < lines * (events + 1) + (events - from)
steps_fall lines later events from place e = rw e (omega (arith, suc-mul later (events + 1)))

-- ALL LINES OF A RUN

-- what was written and what is held are lines, and these are all with those that are left
pub record GoesOn (old new : Option (List ℕ)) (held : List ℕ) (left all : List (List ℕ)) : Type 0 where
  pub past : List (List ℕ)
  pub written : List ℕ
  pub appended : Appends old new written
  pub whole : written ++ held ≡ concat past
  pub split : past ++ left ≡ all

pub begins : (a : Option (List ℕ)) (held : List ℕ) (all : List (List ℕ)) → held ≡ [] → GoesOn a a held all all
begins a held all e = record { past = []; written = []; appended = appends_nothing a; whole = e; split = refl }

-- lines are appended to what is held
goes : (a b : Option (List ℕ)) (held longer : List ℕ) (these left later all : List (List ℕ))
    → GoesOn a b held left all → longer ≡ held ++ concat these → left ≡ these ++ later → GoesOn a b longer later all
goes a b held longer these left later all g e s = record {
  past = g.past ++ these;
  written = g.written;
  appended = g.appended;
  whole = ap (λ t. g.written ++ t) e ∙ sym (append_assoc g.written held (concat these)) ∙ ap (λ t. t ++ concat these) g.whole ∙ sym (concat_append g.past these);
  split = append_assoc g.past these later ∙ ap (λ t. g.past ++ t) (sym s) ∙ g.split;
}

pub advanced : (a b : Option (List ℕ)) (held longer : List ℕ) (old new : Rest) (all : List (List ℕ))
    → GoesOn a b held (lines_left old) all → Advances old new held longer → GoesOn a b longer (lines_left new) all
advanced a b held longer old new all g s = goes a b held longer s.these (lines_left old) (lines_left new) all g s.appended s.split

-- nothing is
pub same_held : (a b : Option (List ℕ)) (held now : List ℕ) (left all : List (List ℕ)) → GoesOn a b held left all → now ≡ held → GoesOn a b now left all
same_held a b held now left all g e = subst (λ l. GoesOn a b l left all) (sym e) g

-- what is held is written
pub settled : (a b c : Option (List ℕ)) (held empty : List ℕ) (left all : List (List ℕ))
    → GoesOn a b held left all → Appends b c held → empty ≡ [] → GoesOn a c empty left all
settled a b c held empty left all g w e = record {
  past = g.past;
  written = g.written ++ held;
  appended = appends_then a b c g.written held g.appended w;
  whole = ap (λ t. (g.written ++ held) ++ t) e ∙ append-nil (g.written ++ held) ∙ g.whole;
  split = g.split;
}

-- the lines before those that are left are written
pub lines_taken : (a b c : Option (List ℕ)) (held : List ℕ) (left all : List (List ℕ))
    → GoesOn a b held left all → Appends b c held → (n : ℕ) × Appends a c (concat (take n all))
lines_taken a b c held left all g w =
    let past : take (length g.past) all ≡ g.past = ap (take (length g.past)) (sym g.split) ∙ take-append_seam g.past left in
    (length g.past, rw (past, ← g.whole) (appends_then a b c g.written held g.appended w))

-- no line is left, and all are written
pub all_taken : (a b c : Option (List ℕ)) (held : List ℕ) (left all : List (List ℕ))
    → GoesOn a b held left all → left ≡ [] → Appends b c held → Appends a c (concat all)
all_taken a b c held left all g e w =
    let past : g.past ≡ all = sym (append-nil g.past) ∙ ap (λ t. g.past ++ t) (sym e) ∙ g.split in
    rw (← past, ← g.whole) (appends_then a b c g.written held g.appended w)

-- the first few of a list are the first few of a longer one
few : (xs ys : List ℕ) (j : ℕ) → (n : ℕ) × (take n (xs ++ ys) ≡ take j xs)
few [] ys zero = (0, refl)
few [] ys (suc j) = (0, refl)
few (x ∷ xs) ys zero = (0, refl)
few (x ∷ xs) ys (suc j) = let (n, e) = few xs ys j in (suc n, ap (λ l. x ∷ l) e)

-- a beginning of what is held is written
pub part_taken : (a b c : Option (List ℕ)) (held : List ℕ) (left all : List (List ℕ))
    → GoesOn a b held left all → (count : ℕ) × Appends b c (take count held) → (n : ℕ) × Appends a c (take n (concat all))
part_taken a b c held left all g (count, w) =
    let (n, e) = few (concat g.past) (concat left) (length g.written + count) in
    let part : take n (concat all) ≡ g.written ++ take count held =
    ap (take n) (ap concat (sym g.split) ∙ concat_append g.past left) ∙ e ∙ ap (take (length g.written + count)) (sym g.whole) ∙ take-append-add g.written held count in
    (n, rw part (appends_then a b c g.written (take count held) g.appended w))

pub nothing_taken : (a : Option (List ℕ)) (lines : List (List ℕ)) → (n : ℕ) × Appends a a (concat (take n lines))
nothing_taken a lines = (0, appends_nothing a)
