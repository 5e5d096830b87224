-- What a command writes that prints the packets of a script's run.
use Rattle.std.specs.Prelude.{ℕ, List, Option}
use Rattle.state_transfer.specs.Meanings.{Meaning}
use Rattle.vsync_text.specs.PacketText.{packet_lines}
use Rattle.vsync_text.specs.declared.script.Script.{Script}
use Rattle.vsync_text.specs.declared.status.Status.{Status}
use Rattle.vsync_text.specs.Script.{as_written}
use Rattle.vsync_text.specs.Outcomes.{IsScriptText, IsAnswer}
use Rattle.commands.specs.Outcomes.{IsEndText}

-- the texts of the packets that were put out in a script's run, in order
abbrev pub IsPacketText : {S : Type 0} → Meaning S → Script → Status → List ℕ → Type 0
IsPacketText meaning = IsEndText meaning (λ h. packet_lines h.pool)

-- a script is run from a reader, and the packets are written to a writer
abbrev pub RunsPackets : {S : Type 0} → Meaning S → Option (List ℕ) → Option (List ℕ) → Option (List ℕ) → Status → Type 0
RunsPackets meaning left old new status = IsAnswer (IsScriptText as_written (IsPacketText meaning)) left old new status
