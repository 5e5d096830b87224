-- What a command writes, and with which exit status it ends.
use Rattle.std.specs.Prelude.{◌≡◌, ℕ, List, ◌∷◌, ◌++◌, [], Option, Result, Ok, Err, take, codes, IfSome, Bool, true}
use Rattle.std.specs.List.{concat}
use Rattle.std.specs.Fmt.{decimal}
use Rattle.std.specs.Io.KnownBytes.{Appends}
use Rattle.vsync_text.specs.declared.script.Script.{Script}
use Rattle.vsync_text.specs.declared.fault.Fault.{Fault}
use Rattle.vsync_text.specs.Script.{script_by, fault_number}
use Rattle.vsync_text.specs.declared.status.Status.{Status}
use Rattle.vsync_text.specs.declared.status.Status.TheVariants.{Done, Broken, Usage, Refused, Memory, Outside}

abbrev pub status_code : Status → ℕ
status_code Done = 0
status_code Broken = 1
status_code Usage = 2
status_code Refused = 3
status_code Memory = 4
status_code Outside = 5

-- the line that ends a text for want of memory
abbrev pub memory_line : List ℕ
memory_line = codes "# memory\n"

-- the line for an input's first fault
abbrev pub fault_line : ℕ → ℕ → List ℕ
fault_line line number = codes "fault " ++ (decimal line ++ 32 ∷ (decimal number ++ 10 ∷ []))

-- a writer took a text whole, and the command ends with this status; or the writer failed, and took a beginning of it
pub data Ends (old new : Option (List ℕ)) (text : List ℕ) (status : Status) : Status → Type 0 where
  Whole : Appends old new text → Ends old new text status status
  Cut : (count : ℕ) → Appends old new (take count text) → Ends old new text status Outside

-- the texts of some lines: all of them, where there is nothing more to say; or the first few and `# memory`
pub data IsLinesText (lines : List (List ℕ)) (whole : Bool) : Status → List ℕ → Type 0 where
  Printed : whole ≡ true → IsLinesText lines whole Done (concat lines)
  Unprinted : (count : ℕ) → IsLinesText lines whole Memory (concat (take count lines) ++ memory_line)

-- the texts of an input's first fault: its line; or `# memory`, where memory is refused
pub data IsFaultText (line number : ℕ) : Status → List ℕ → Type 0 where
  Printed : IsFaultText line number Refused (fault_line line number)
  Unprinted : IsFaultText line number Memory memory_line

-- the texts of a script's bytes that are not run: their first fault; or `# memory`, before they are read whole. `payload_of` is how a text of the script says a payload
pub data IsUnreadText (payload_of : List ℕ → Result (List ℕ) Fault) (bytes : List ℕ) : Status → List ℕ → Type 0 where
  Faulty : (line : ℕ) (fault : Fault) (status : Status) (text : List ℕ) → script_by payload_of bytes ≡ Err (record { line = line; fault = fault })
      → IsFaultText line (fault_number fault) status text → IsUnreadText payload_of bytes status text
  Unread : IsUnreadText payload_of bytes Memory memory_line

-- the texts of a script's bytes: what they say of the script; or why it is not run
pub data IsScriptText (payload_of : List ℕ → Result (List ℕ) Fault) (Prints : Script → Status → List ℕ → Type 0) (bytes : List ℕ) : Status → List ℕ → Type 0 where
  Runs : (script : Script) (status : Status) (text : List ℕ) → script_by payload_of bytes ≡ Ok script → Prints script status text → IsScriptText payload_of Prints bytes status text
  Unrun : (status : Status) (text : List ℕ) → IsUnreadText payload_of bytes status text → IsScriptText payload_of Prints bytes status text

-- how writing the text of something ends: with that text and its status; or the writer failed and took a beginning of it
pub record Written (Says : Status → List ℕ → Type 0) (old new : Option (List ℕ)) (status : Status) : Type 0 where
  pub meant : Status
  pub text : List ℕ
  pub says : Says meant text
  pub ends : Ends old new text meant status

-- a command reads an input from a reader, and writes a text that says of its bytes what the command says
pub data IsAnswer (Says : List ℕ → Status → List ℕ → Type 0) (left old new : Option (List ℕ)) : Status → Type 0 where
  -- the reader failed: nothing is written
  ReaderFails : Appends old new [] → IsAnswer Says left old new Outside
  Answers : (bytes : List ℕ) (status : Status) → IfSome left (λ all. bytes ≡ all) → Written (Says bytes) old new status → IsAnswer Says left old new status

-- a script is read from a reader; or the command ends, for it is not run
abbrev pub ReadsScript : (List ℕ → Result (List ℕ) Fault) → Option (List ℕ) → Option (List ℕ) → Option (List ℕ) → Result Script Status → Type 0
ReadsScript payload_of left old new (Ok script) = (bytes : List ℕ) × IfSome left (λ all. bytes ≡ all) × (script_by payload_of bytes ≡ Ok script) × Appends old new []
ReadsScript payload_of left old new (Err status) = IsAnswer (IsUnreadText payload_of) left old new status
