-- What is written is read back.
use Rattle.std.specs.Prelude.{◌≡◌, ℕ, List, Ok, length, All}
use Rattle.std.specs.List.{concat}
use Rattle.trace_props.specs.declared.event.Event.{Event}
use Rattle.world_model.specs.Histories.{History}
use Rattle.world_model.specs.Faithful.{IsFaithful}
use Rattle.vsync_text.specs.Runs.{text_of_run}
use Rattle.vsync_text.specs.Traces.{trace_of}
use Rattle.vsync_text.specs.Spellable.{IsSpellable, Spell}

-- lines that spell what happened, each the line of an event, a note, or what says which messages are stable, are read back as that
abbrev pub LinesReadBack : Type 0
LinesReadBack = (lines : List (List ℕ)) (t : List Event) → Spell lines t → trace_of (concat lines) ≡ Ok t

-- the text of a run, whose events stood on these lines of a script, is read back as what happened in it
abbrev pub RunsReadBack : Type 0
RunsReadBack =
    (h : History) (lines : List ℕ) → IsFaithful h → length lines ≡ length h.events → All IsSpellable h.trace
    → trace_of (text_of_run lines h.replies h.trace) ≡ Ok h.trace
