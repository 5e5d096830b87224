-- How a command ends that runs nodes over datagrams by a script.
use Rattle.std.proofs.Common.{◌≡◌, ℕ, List, [], ◌++◌, Option, Result, Ok, Err, IfSome, unwrap_or, subst}
use Rattle.std.specs.List.{concat}
use Rattle.address.specs.Ids.{Address}
use Rattle.state_transfer.specs.Meanings.{Meaning}
use Rattle.udp_net.specs.declared.node_ports.NodePort.{NodePort}
use Rattle.udp_net.specs.Logs.{Log}
use Rattle.law_runners.specs.Systems.{Gone}
use Rattle.udp_runs.specs.declared.ends.Cut.TheVariants as cut
use Rattle.udp_runs.specs.Playing.{RunsLines}
use Rattle.udp_runs.specs.Texts.{texts_of}
use Rattle.vsync_text.specs.declared.fault.Fault.{Fault}
use Rattle.vsync_text.specs.declared.udp_script.UdpLine.{UdpLine}
use Rattle.vsync_text.specs.Script.{fault_number}
use Rattle.vsync_text.specs.UdpScript.{udp_script_of}
use Rattle.udp_net.specs.declared.error.BindError.{BindError}
use Rattle.vsync_text.specs.declared.status.Status.{Status}
use Rattle.vsync_text.specs.declared.status.Status.TheVariants.{Memory}
use Rattle.vsync_text.specs.Outcomes.{Ends, Written, IsFaultText, IsAnswer, memory_line}
use Rattle.vsync_text.specs.Outcomes.IsAnswer.{Answers}
use Rattle.vsync_text.proofs.TextsFollow.{written-as, answer-as, left-of, ends-then, after-none}
use Rattle.udp_runs.specs.declared.ends.Cut.{Cut as Why}
use Rattle.udp_runs.specs.declared.ends.Stop.{Stop}
use Rattle.udp_runs.specs.declared.ends.Stop.TheVariants.{Cut, NoNet}
use Rattle.udp_runs.specs.Ends.{IsEndOf, IsNetlessText}
use Rattle.udp_runs.specs.Scripts.{IsRunText, IsUnreadText, IsScriptText, RunsUdp, ReadsLines, texts_with}
use Rattle.udp_runs.specs.Scripts.IsRunText.{Goes, Lacks, Stops}
use Rattle.udp_runs.specs.Scripts.IsUnreadText.{Faulty, Unread}
use Rattle.udp_runs.specs.Scripts.IsScriptText.{Runs, Unrun}
use Rattle.udp_runs.proofs.RunTextsEnd.{ended-so, lacking-so, failing-so}

-- memory was refused before the script was read
pub unread-text : (left a b : Option (List ℕ)) (status : Status) → Ends a b memory_line Memory status → IsAnswer IsUnreadText left a b status
unread-text left a b status e = Answers (unwrap_or left []) status (left-of left) (record { meant = Memory; text = memory_line; says = Unread; ends = e })

-- it was read and has a fault
pub fault-text : (left a b : Option (List ℕ)) (bytes : List ℕ) (line : ℕ) (fault : Fault) (status : Status) → IfSome left (λ all. bytes ≡ all)
    → udp_script_of bytes ≡ Err (record { line = line; fault = fault }) → Written (IsFaultText line (fault_number fault)) a b status → IsAnswer IsUnreadText left a b status
fault-text left a b bytes line fault status is read w =
    Answers bytes status is (written-as (IsFaultText line (fault_number fault)) (IsUnreadText bytes) a b status (λ s x says. Faulty line fault s x read says) w)

module _ {N S : Type 0} (log : N → Option Log) (failed : N → ℕ) (meaning : Meaning S) (line_of : Address → S → List ℕ) (group : List ℕ) (listed : List NodePort)
    (given given' : Option (List (Gone N))) where
  abbrev Ran : List UdpLine → Status → List ℕ → Type 0
  Ran script = IsRunText log failed meaning line_of group listed given given' script

  abbrev Runs_so : Option (List ℕ) → Option (List ℕ) → Option (List ℕ) → Status → Type 0
  Runs_so left old new status = RunsUdp log failed meaning line_of group listed given given' left old new status

  abbrev Lines_so : List UdpLine → Option (List ℕ) → Option (List ℕ) → Result Unit Stop → Type 0
  Lines_so script old new result = RunsLines log failed meaning line_of group listed given given' script old new result

  -- it is not run
  pub unrun : (left a b : Option (List ℕ)) (status : Status) → IsAnswer IsUnreadText left a b status → Runs_so left a b status
  unrun left a b status answer =
      answer-as IsUnreadText (IsScriptText log failed meaning line_of group listed given given') left a b status (λ bytes s x says. Unrun s x says) answer

  -- it was read and run
  run-text : (left a b c : Option (List ℕ)) (script : List UdpLine) (status : Status) → ReadsLines left a b script → Written (Ran script) b c status → Runs_so left a c status
  run-text left a b c script status (bytes, is, read, none) w =
      Answers bytes status is (written-as (Ran script) (IsScriptText log failed meaning line_of group listed given given' bytes) a c status (λ s x says. Runs script s x read says)
      (after-none (Ran script) a b c status none w))

  -- it was run to its end
  pub run-ended : (left a b c d : Option (List ℕ)) (script script' : List UdpLine) (status : Status) → script' ≡ script → ReadsLines left a b script → Lines_so script' b c (Ok tt)
      → Written (IsEndOf (Ok tt)) c d status → Runs_so left a d status
  run-ended left a b c d script script' status same reads ran w = by (subst (λ (s : List UdpLine). Lines_so s b c (Ok tt)) same ran)
    where
      by : Lines_so script b c (Ok tt) → Runs_so left a d status
      by (processes, gone, lines, has, gives, took) =
          run-text left a b d script status reads
          (ended-so (Ran script) (concat (texts_with line_of lines processes)) b c d status (Goes processes gone lines has gives) took w)

  -- memory was refused, or the writer failed
  pub run-cut : (left a b c d : Option (List ℕ)) (script script' : List UdpLine) (why : Why) (status : Status) → script' ≡ script → ReadsLines left a b script
      → Lines_so script' b c (Err (Cut why)) → Written (IsEndOf (Err why)) c d status → Runs_so left a d status
  run-cut left a b c d script script' why status same reads ran w = by why (subst (λ (s : List UdpLine). Lines_so s b c (Err (Cut why))) same ran) w
    where
      by : (why : Why) → Lines_so script b c (Err (Cut why)) → Written (IsEndOf (Err why)) c d status → Runs_so left a d status
      by cut.Memory (begun, is, took) w = run-text left a b d script status reads (lacking-so (Ran script) begun b c d status (Lacks begun is) took w)
      by cut.Failed (begun, is, (count, took)) w = run-text left a b d script status reads (failing-so (Ran script) begun count b c d status (Lacks begun is) took w)

  -- it was run until the node of a line had no net
  pub run-stopped : (left a b c d : Option (List ℕ)) (script script' : List UdpLine) (line : ℕ) (error : BindError) (status : Status) → script' ≡ script → ReadsLines left a b script
      → Lines_so script' b c (Err (NoNet line error)) → Written (IsNetlessText line error) c d status → Runs_so left a d status
  run-stopped left a b c d script script' line error status same reads ran w = by (subst (λ (s : List UdpLine). Lines_so s b c (Err (NoNet line error))) same ran)
    where
      by : Lines_so script b c (Err (NoNet line error)) → Runs_so left a d status
      by (before, rest, node, processes, gone, lines, split, has, gives, took) =
          run-text left a b d script status reads (record {
            meant = w.meant;
            text = concat (texts_of lines) ++ w.text;
            says = Stops before rest processes gone lines line node error w.meant w.text split has gives w.says;
            ends = ends-then b c d (concat (texts_of lines)) w.text w.meant status took w.ends;
          })
