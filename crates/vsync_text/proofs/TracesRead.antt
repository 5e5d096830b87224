-- How the text of a trace is read.
use Rattle.std.proofs.Common.{◌≡◌, ℕ, ◌+◌, List, [], ◌∷◌, ◌++◌, filter_map, Option, None, Some, Result, Ok, Err, refl, sym, ◌∙◌, ap, subst, append_assoc, append-nil}
use Rattle.trace_props.specs.declared.event.Event.{Event}
use Rattle.vsync_text.specs.Lines.{lines_of}
use Rattle.vsync_text.specs.Texts.{FaultAt, said_by, reading_by, after_line, IsUnread}
use Rattle.vsync_text.specs.declared.fault.Unread.{Unread}
use Rattle.vsync_text.specs.declared.fault.Unread.TheVariants as unread
use Rattle.vsync_text.proofs.TextsRead.{going_on, AddsAll, going_on_is, with_more, then_on}
use Rattle.vsync_text.specs.Traces.{trace_of, said_in_line, said_alone, events_of, with_said}
use Rattle.vsync_text.specs.Pieces.{behind_read, text_from}

-- the events of what lines say, behind those before
abbrev all_said : List Event → List (Option Event) → List Event
all_said t said = t ++ filter_map (λ e. e) said

one_said : (t : List Event) (k : ℕ) (said : Option Event) (more : List (Option Event)) → all_said (with_said t k said) more ≡ all_said t (said_alone k said ∷ more)
one_said t k None more = refl
one_said t k (Some e) more = append_assoc t (e ∷ []) (filter_map (λ x. x) more)

adds_said : AddsAll said_alone with_said all_said
adds_said = record { none = λ t. append-nil t; one = one_said }

with_nothing : (said : Result (List (Option Event)) FaultAt) → events_of said ≡ with_more all_said [] said
with_nothing (Ok said) = refl
with_nothing (Err f) = refl

-- line by line, and the event of each behind those before it
pub trace_is_going_on : (text : List ℕ) → trace_of text ≡ going_on said_in_line with_said [] 1 (lines_of text)
trace_is_going_on text = with_nothing (said_by said_in_line said_alone text) ∙ sym (going_on_is said_in_line said_alone with_said all_said adds_said [] 1 (lines_of text))

behind_is : (t : List Event) (said : Result (List (Option Event)) FaultAt) → behind_read t said ≡ with_more all_said t said
behind_is t (Ok said) = refl
behind_is t (Err f) = refl

-- a text is read on line by line
pub text_goes_on : (t : List Event) (k : ℕ) (text : List ℕ) → text_from t k text ≡ going_on said_in_line with_said t k (lines_of text)
text_goes_on t k text = behind_is t _ ∙ sym (going_on_is said_in_line said_alone with_said all_said adds_said t k (lines_of text))

-- the text of a trace is read on from nothing
pub trace_is_text_from : (text : List ℕ) → trace_of text ≡ text_from [] 1 text
trace_is_text_from text = trace_is_going_on text ∙ sym (text_goes_on [] 1 text)

-- what is said after a line that was read
line_on : (t s : List Event) (k : ℕ) (line : List ℕ) (lines : List (List ℕ)) → after_line with_said t k (reading_by said_in_line line) ≡ Ok s
    → going_on said_in_line with_said t k (line ∷ lines) ≡ going_on said_in_line with_said s (k + 1) lines
line_on t s k line lines e = ap (then_on (λ u. going_on said_in_line with_said u (k + 1) lines)) e

-- a line is read on, and a text goes on behind it
pub line_read : (o : Result (List Event) FaultAt) (t s : List Event) (k : ℕ) (text line behind : List ℕ) → o ≡ text_from t k text
    → lines_of text ≡ line ∷ lines_of behind → after_line with_said t k (reading_by said_in_line line) ≡ Ok s → o ≡ text_from s (k + 1) behind
line_read o t s k text line behind o_is l e =
    o_is ∙ text_goes_on t k text ∙ ap (going_on said_in_line with_said t k) l ∙ line_on t s k line (lines_of behind) e ∙ sym (text_goes_on s (k + 1) behind)

unread_same : (o p : Result (List Event) FaultAt) (u : Unread) → o ≡ p → IsUnread p u → IsUnread o u
unread_same o p u e is = subst (λ r. IsUnread r u) (sym e) is

-- what is said of a text whose first line is not read
stops : (t : List Event) (k : ℕ) (line : List ℕ) (lines : List (List ℕ)) (u : Unread) (said : Result (List Event) FaultAt)
    → IsUnread said u → IsUnread (then_on (λ s. going_on said_in_line with_said s (k + 1) lines) said) u
stops t k line lines (unread.Fault n f) said is = ap (then_on (λ s. going_on said_in_line with_said s (k + 1) lines)) is
stops t k line lines unread.Memory said is = tt

-- a line is not read
pub line_unread : (o : Result (List Event) FaultAt) (t : List Event) (k : ℕ) (text line behind : List ℕ) (u : Unread) → o ≡ text_from t k text
    → lines_of text ≡ line ∷ lines_of behind → IsUnread (after_line with_said t k (reading_by said_in_line line)) u → IsUnread o u
line_unread o t k text line behind u o_is l is =
    unread_same o _ u (o_is ∙ text_goes_on t k text ∙ ap (going_on said_in_line with_said t k) l) (stops t k line (lines_of behind) u _ is)
