-- What a command does, and how the program ends where there is none.
use Rattle.std.specs.Prelude.{◌≡◌, ◌⊎◌, ℕ, Bool, true, false, List, Option, Result}
use Rattle.clap.specs.Words.{IsAmong, Kinds}
use Rattle.clap.specs.declared.error.kind.ErrorKind.{ErrorKind}
use Rattle.clap.specs.declared.error.kind.ErrorKind.TheVariants.{DisplayHelp, DisplayVersion, OutOfMemory}
use Rattle.state_transfer.specs.Meanings.{Meaning}
use Rattle.address.specs.Ids.{Address}
use Rattle.vsync_text.specs.declared.fault.Fault.{Fault}
use Rattle.vsync_text.specs.Script.{as_written}
use Rattle.chat_log.specs.ChatText.{chat_line}
use Rattle.replicated_map.specs.Meanings.{map_meaning}
use Rattle.replicated_map.specs.Words.{map_payload}
use Rattle.replicated_map.specs.MapText.{map_line}
use Rattle.lock_table.specs.Meanings.{table_meaning}
use Rattle.lock_table.specs.Words.{lock_payload}
use Rattle.lock_table.specs.TableText.{table_line}
use Rattle.chat_log.specs.Meanings.{chat_meaning, long_meaning}
use Rattle.commands.specs.Outcomes.{RunsScript}
use Rattle.commands.specs.States.{RunsStates}
use Rattle.commands.specs.Packets.{RunsPackets}
use Rattle.commands.specs.Settled.{SettlesScript}
use Rattle.commands.specs.Checks.{ChecksTrace}
use Rattle.commands.specs.Processes.{ChecksProcesses}
use Rattle.commands.specs.Draws.{DrawsScript, DrawsTrace}
use Rattle.vsync_text.specs.declared.status.Status.{Status}
use Rattle.vsync_text.specs.declared.status.Status.TheVariants.{Done, Memory, Outside, Usage}
use Rattle.vsync.specs.declared.kept_words.Kept.{Kept}
use Rattle.vsync.specs.declared.kept_words.Kept.TheVariants as kept
use Rattle.vsync.specs.declared.text_words.Task.{Task}
use Rattle.vsync.specs.declared.text_words.Task.TheVariants.{World, States, Packets, Settle, SettleDeliver, Check, Draw, DrawPackets, DrawTrace}

-- the task is done, from a reader with these bytes left to a writer: a script is run; or it is run and the states, or the packets, are
-- printed; or a trace is checked; or a picture is drawn of a script's run, or of a trace. Its members keep what has this meaning, these words and this line
abbrev pub DoesWith : {S : Type 0} → Meaning S → (List ℕ → Result (List ℕ) Fault) → (Address → S → List ℕ) → Task → Option (List ℕ) → Option (List ℕ) → Option (List ℕ) → Status → Type 0
DoesWith meaning payload_of line_of World left old new status = RunsScript meaning left old new status
DoesWith meaning payload_of line_of States left old new status = RunsStates meaning payload_of line_of left old new status
DoesWith meaning payload_of line_of Packets left old new status = RunsPackets meaning left old new status
DoesWith meaning payload_of line_of Settle left old new status = SettlesScript meaning false left old new status
DoesWith meaning payload_of line_of SettleDeliver left old new status = SettlesScript meaning true left old new status
DoesWith meaning payload_of line_of Check left old new status = ChecksTrace meaning left old new status
DoesWith meaning payload_of line_of Draw left old new status = DrawsScript meaning false left old new status
DoesWith meaning payload_of line_of DrawPackets left old new status = DrawsScript meaning true left old new status
DoesWith meaning payload_of line_of DrawTrace left old new status = DrawsTrace meaning left old new status

-- the task is done, and its members keep the chat, the long chat, the map or the table of locks
abbrev pub DoesBy : Kept → Task → Option (List ℕ) → Option (List ℕ) → Option (List ℕ) → Status → Type 0
DoesBy kept.Chat = DoesWith chat_meaning as_written chat_line
DoesBy kept.LongChat = DoesWith long_meaning as_written chat_line
DoesBy kept.Map = DoesWith map_meaning map_payload map_line
DoesBy kept.Locks = DoesWith table_meaning lock_payload table_line

-- the texts of several processes are checked, to a writer; their members keep the chat, the long chat, the map or the table of locks
abbrev pub DoesProcesses : Kept → List (List ℕ) → Option (List ℕ) → Option (List ℕ) → Status → Type 0
DoesProcesses kept.Chat = ChecksProcesses chat_meaning
DoesProcesses kept.LongChat = ChecksProcesses long_meaning
DoesProcesses kept.Map = ChecksProcesses map_meaning
DoesProcesses kept.Locks = ChecksProcesses table_meaning

-- it ends with this status, or with 5 where the output failed
abbrev pub EndsBy : Status → Status → Type 0
EndsBy wanted status = (status ≡ wanted) ⊎ (status ≡ Outside)

-- the status of an error in the words, or of help that was asked for
abbrev pub status_of_error : ErrorKind → Status
status_of_error OutOfMemory = Memory
status_of_error DisplayHelp = Done
status_of_error DisplayVersion = Done
status_of_error _ = Usage

-- it ends as an error of one of these kinds does, or one for want of memory
abbrev pub EndsByFault : Kinds → Status → Type 0
EndsByFault kinds status =
    (k : ErrorKind) × ((k ≡ OutOfMemory) ⊎ IsAmong k kinds) × EndsBy (status_of_error k) status
