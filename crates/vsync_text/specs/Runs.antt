-- The text of a run: the lines of its events, with the refusals at their places.
use Rattle.std.specs.Prelude.{ℕ, ◌-◌, ◌∷◌, [], ◌++◌, List, take, drop, map, codes, nat_eq, if◌then◌else◌}
use Rattle.std.specs.List.{concat}
use Rattle.std.specs.Fmt.{decimal}
use Rattle.trace_props.specs.declared.event.Event.{Event}
use Rattle.world_model.specs.declared.Answer.{Answer}
use Rattle.world_model.specs.declared.Answer.TheVariants.{Done, Sent, Refused}
use Rattle.address.specs.declared.refusal.Refusal.{Refusal}
use Rattle.address.specs.declared.refusal.Refusal.TheVariants.{Memory}
use Rattle.world_model.specs.declared.Reply.{Reply}
use Rattle.address.specs.Refusals.{number_of}
use Rattle.vsync_text.specs.TraceText.{field, line_with, line_of}

-- `# refused LINE NUMBER`, with its line feed
abbrev pub refusal_line : ℕ → ℕ → List ℕ
refusal_line line number = line_with (codes "# refused") (field (decimal line) ++ field (decimal number))

-- the refusal of the event of a line, unless it is that memory was refused
abbrev pub refused_lines : ℕ → Refusal → List (List ℕ)
refused_lines line r = if nat_eq (number_of r) (number_of Memory) then [] else refusal_line line (number_of r) ∷ []

-- what stands at the place of a reply to the event of a line
abbrev pub answer_lines : ℕ → Answer → List (List ℕ)
answer_lines line Done = []
answer_lines line (Sent n) = []
answer_lines line (Refused r) = refused_lines line r

-- the events from one place up to another
abbrev pub stretch : ℕ → ℕ → List Event → List Event
stretch from to t = take (to - from) (drop from t)

-- the lines of one event: what happened since the place before it, and its refusal
abbrev pub reply_lines : ℕ → ℕ → Reply → List Event → List (List ℕ)
reply_lines from line reply t = map line_of (stretch from reply.place t) ++ answer_lines line reply.answer

-- the lines from a place on
abbrev pub lines_from : ℕ → List ℕ → List Reply → List Event → List (List ℕ)
lines_from from [] replies t = []
lines_from from (line ∷ lines) [] t = []
lines_from from (line ∷ lines) (reply ∷ replies) t = reply_lines from line reply t ++ lines_from reply.place lines replies t

-- the lines of a run: of the events' line numbers, of the replies and of what happened
abbrev pub lines_of_run : List ℕ → List Reply → List Event → List (List ℕ)
lines_of_run lines replies t = lines_from 0 lines replies t

abbrev pub text_of_run : List ℕ → List Reply → List Event → List ℕ
text_of_run lines replies t = concat (lines_of_run lines replies t)
