-- What a text says, line by line. A format has two parts: `says` is what it reads in a line that is not skipped, and `keep` is
-- what it makes of the number of a line and of what that line says.
use Rattle.std.specs.Prelude.{◌≡◌, ℕ, Bool, true, ◌∷◌, [], ◌++◌, List, Option, None, Some, Result, Ok, Err, nat_eq, slice_get, if◌then◌else◌}
use Rattle.std.specs.List.{filter_map, enumerate_from}
use Rattle.vsync_text.specs.declared.fault.Fault.{Fault}
use Rattle.vsync_text.specs.declared.fault.Unheard.{Unheard}
use Rattle.vsync_text.specs.declared.fault.Unheard.TheVariants as unheard
use Rattle.vsync_text.specs.declared.fault.Unread.{Unread}
use Rattle.vsync_text.specs.declared.fault.Unread.TheVariants as unread
use Rattle.vsync_text.specs.Lines.{lines_of}
use Rattle.vsync_text.specs.Fields.{made}

-- LINES

-- empty lines, and lines that begin with `#`
abbrev pub is_skipped : List ℕ → Bool
is_skipped [] = true
is_skipped (b ∷ bs) = nat_eq b 35

-- what a line says: nothing where it is skipped, and else what is read in it, or a fault
abbrev pub reading_by : {A : Type 0} → (List ℕ → Result A Fault) → List ℕ → Result (Option A) Fault
reading_by says line = if is_skipped line then Ok None else made Some (says line)

-- TEXTS

-- a fault, and the number of its line
pub record FaultAt : Type 0 where
  pub line : ℕ
  pub fault : Fault

-- the lines of a text with their numbers, from 1
abbrev pub numbered_lines : List ℕ → List (ℕ × List ℕ)
numbered_lines text = enumerate_from 1 (lines_of text)

-- the fault of a line, if it is one
abbrev pub fault_in : {A : Type 0} → ℕ → Result (Option A) Fault → Option FaultAt
fault_in k (Ok said) = None
fault_in k (Err f) = Some (record { line = k; fault = f })

-- what is kept of a line, if it says something
abbrev pub said_in : {A B : Type 0} → (ℕ → A → B) → ℕ → Result (Option A) Fault → Option B
said_in keep k (Ok None) = None
said_in keep k (Ok (Some x)) = Some (keep k x)
said_in keep k (Err f) = None

-- what was said, if there is no fault
abbrev pub unless_fault : {B : Type 0} → Option FaultAt → List B → Result (List B) FaultAt
unless_fault None said = Ok said
unless_fault (Some f) said = Err f

-- what numbered lines say: the first that is a fault decides, and else what is kept of those that say something, in order
abbrev pub said_in_lines : {A B : Type 0} → (List ℕ → Result A Fault) → (ℕ → A → B) → List (ℕ × List ℕ) → Result (List B) FaultAt
said_in_lines says keep lines =
    unless_fault (slice_get (filter_map (λ l. fault_in l.0 (reading_by says l.1)) lines) 0)
    (filter_map (λ l. said_in keep l.0 (reading_by says l.1)) lines)

-- what a text says: what its lines do, numbered from 1
abbrev pub said_by : {A B : Type 0} → (List ℕ → Result A Fault) → (ℕ → A → B) → List ℕ → Result (List B) FaultAt
said_by says keep text = said_in_lines says keep (numbered_lines text)

-- ANSWERS

-- a line was not heard: by its fault, or because memory was refused
abbrev pub IsUnheard : {A : Type 0} → Result A Fault → Unheard → Type 0
IsUnheard said (unheard.Fault f) = said ≡ Err f
IsUnheard said unheard.Memory = Unit {0}

-- a text was not read: by its first fault, or because memory was refused
abbrev pub IsUnread : {A : Type 0} → Result A FaultAt → Unread → Type 0
IsUnread said (unread.Fault k f) = said ≡ Err (record { line = k; fault = f })
IsUnread said unread.Memory = Unit {0}

-- why a text is not read whose line of this number was not heard
abbrev pub unread_at : ℕ → Unheard → Unread
unread_at k (unheard.Fault f) = unread.Fault k f
unread_at k unheard.Memory = unread.Memory

-- what a function returned, seen by view, is what reading gives, unless memory was refused
abbrev pub IsReadUnlessRefused : {A B : Type 0} → (A → B) → Result A Unheard → Result B Fault → Type 0
IsReadUnlessRefused view (Ok x) read = read ≡ Ok (view x)
IsReadUnlessRefused view (Err u) read = IsUnheard read u

-- what lines said, with what one line more says behind it
abbrev pub and_then : {A B : Type 0} → (ℕ → A → B) → List B → ℕ → A → List B
and_then keep said k x = said ++ keep k x ∷ []

-- what was read, after one line more, if the line is no fault; `add` is how something that a line says is added to it
abbrev pub after_line : {A S : Type 0} → (S → ℕ → A → S) → S → ℕ → Result (Option A) Fault → Result S FaultAt
after_line add s k (Ok None) = Ok s
after_line add s k (Ok (Some x)) = Ok (add s k x)
after_line add s k (Err f) = Err (record { line = k; fault = f })

-- one line was read on to what was read before
abbrev pub HasRead : {A S : Type 0} → (S → ℕ → A → S) → S → ℕ → Result (Option A) Fault → Result Unit Unread → S → Type 0
HasRead add s k said (Ok done) s' = after_line add s k said ≡ Ok s'
HasRead add s k said (Err u) s' = IsUnread (after_line add s k said) u
