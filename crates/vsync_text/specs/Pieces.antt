-- How the text of a trace is read on, a part of it at a time, and what is read of a reader.
use Rattle.std.specs.Prelude.{◌≡◌, ℕ, ◌++◌, List, [], Option, Result, Ok, Err, IfSome}
use Rattle.std.specs.Io.KnownBytes.{Consumes, IsAtEnd}
use Rattle.std.specs.List.{filter_map, enumerate_from}
use Rattle.trace_props.specs.declared.event.Event.{Event}
use Rattle.vsync_text.specs.Lines.{lines_of}
use Rattle.vsync_text.specs.Texts.{FaultAt, said_in_lines}
use Rattle.vsync_text.specs.declared.fault.Unread.{Unread}
use Rattle.vsync_text.specs.declared.fault.Unread.TheVariants as unread
use Rattle.vsync_text.specs.Traces.{trace_of, said_in_line, said_alone}
use Rattle.vsync_text.specs.declared.pieces.Untold.{Untold}
use Rattle.vsync_text.specs.declared.pieces.Untold.TheVariants as untold

-- the events of what was said, behind those before
abbrev pub behind_read : List Event → Result (List (Option Event)) FaultAt → Result (List Event) FaultAt
behind_read t (Ok said) = Ok (t ++ filter_map (λ e. e) said)
behind_read t (Err fault) = Err fault

-- what a text says whose first line has the number k, behind what was read before it
abbrev pub text_from : List Event → ℕ → List ℕ → Result (List Event) FaultAt
text_from t k text = behind_read t (said_in_lines said_in_line said_alone (enumerate_from k (lines_of text)))

-- what a text says; it is all that a reader had left, where that is known
pub record Told (left : Option (List ℕ)) (said : Result (List Event) FaultAt) : Type 0 where
  pub bytes : List ℕ
  pub whole : IfSome left (λ all. bytes ≡ all)
  pub says : trace_of bytes ≡ said

-- why no trace was read of a reader: by the first fault of its text; or memory was refused, or the reader failed
abbrev pub IsUntold : Option (List ℕ) → Untold → Type 0
IsUntold left (untold.Fault k f) = Told left (Err (record { line = k; fault = f }))
IsUntold left untold.Memory = Unit {0}
IsUntold left untold.Failed = Unit {0}

-- why no trace was read of a reader whose text was not read
abbrev pub untold_of : Unread → Untold
untold_of (unread.Fault k f) = untold.Fault k f
untold_of unread.Memory = untold.Memory

-- a reader gave these bytes: none at its end
abbrev pub Gave : Option (List ℕ) → Option (List ℕ) → List ℕ → ℕ → Type 0
Gave old new piece count = Consumes old new piece × (count ≡ 0 → (piece ≡ []) × IsAtEnd new)
