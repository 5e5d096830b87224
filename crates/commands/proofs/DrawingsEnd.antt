-- How the drawing of a trace, or of a script's run, ends.
use Rattle.std.proofs.Common.{◌≡◌, ℕ, Bool, List, [], Option, Ok, unwrap_or, subst, ap, ◌∙◌}
use Rattle.state_transfer.specs.Meanings.{Meaning}
use Rattle.trace_props.specs.declared.event.Event.{Event}
use Rattle.trace_props.specs.declared.verdict.Verdict.{Verdict}
use Rattle.trace_drawing.specs.declared.aside.Aside.{Aside}
use Rattle.vsync_text.specs.Traces.{trace_of}
use Rattle.vsync_text.specs.declared.script.Script.{Script}
use Rattle.vsync_text.specs.declared.fault.Fault.{Fault}
use Rattle.vsync_text.specs.Script.{script_of, fault_number}
use Rattle.trace_drawing.specs.Picture.{picture_of}
use Rattle.vsync_text.specs.declared.status.Status.{Status}
use Rattle.vsync_text.specs.declared.status.Status.TheVariants.{Done, Refused, Memory}
use Rattle.vsync_text.specs.Outcomes.{Ends, Written, IsAnswer, fault_line}
use Rattle.vsync_text.specs.Outcomes.IsAnswer.{Answers}
use Rattle.commands.specs.Draws.{IsPictureText, IsRefusalText, IsDrawingText, TellsRun, IsJudgedAs, IsDrawnScript, IsDrawnTrace}
use Rattle.commands.specs.Draws.IsPictureText.{Drawn, Undrawn}
use Rattle.commands.specs.Draws.IsRefusalText.{Said, Unsaid}
use Rattle.commands.specs.Draws.IsDrawingText.{Draws, Faulty, Unread}
use Rattle.vsync_text.proofs.TextsFollow.{written-as, left-of}

-- a picture was written
pub drawn-picture : (t : List Event) (rs : List Aside) (ps : List (List ℕ)) (v : Verdict) (a b : Option (List ℕ)) (status : Status) (picture taken : List ℕ) → picture ≡ picture_of t rs ps v → taken ≡ picture → Ends a b taken Done status → Written (IsPictureText t rs ps v) a b status
drawn-picture t rs ps v a b status picture taken is all e =
    record { meant = Done; text = picture_of t rs ps v; says = Drawn; ends = subst (λ x. Ends a b x Done status) is (subst (λ x. Ends a b x Done status) all e) }

-- memory was refused for it
pub undrawn-picture : (t : List Event) (rs : List Aside) (ps : List (List ℕ)) (v : Verdict) (a b : Option (List ℕ)) (status : Status) → Ends a b [] Memory status → Written (IsPictureText t rs ps v) a b status
undrawn-picture t rs ps v a b status e = record { meant = Memory; text = []; says = Undrawn; ends = e }

-- a fault was written
pub said-fault : (line number : ℕ) (a b : Option (List ℕ)) (status : Status) (text : List ℕ) → text ≡ fault_line line number → Ends a b text Refused status → Written (IsRefusalText line number) a b status
said-fault line number a b status text is e = record { meant = Refused; text = fault_line line number; says = Said; ends = subst (λ x. Ends a b x Refused status) is e }

-- memory was refused for it
pub unsaid-fault : (line number : ℕ) (a b : Option (List ℕ)) (status : Status) → Ends a b [] Memory status → Written (IsRefusalText line number) a b status
unsaid-fault line number a b status e = record { meant = Memory; text = []; says = Unsaid; ends = e }

module _ (Tells : List Event → List Aside → List (List ℕ) → Verdict → Type 0) (Faults : ℕ → Fault → Type 0) where
  -- what happened was drawn
  pub drawn-as : (t : List Event) (rs : List Aside) (ps : List (List ℕ)) (v : Verdict) (a b : Option (List ℕ)) (status : Status) → Tells t rs ps v → Written (IsPictureText t rs ps v) a b status → Written (IsDrawingText Tells Faults) a b status
  drawn-as t rs ps v a b status tells w = written-as (IsPictureText t rs ps v) (IsDrawingText Tells Faults) a b status (λ s x says. Draws t rs ps v s x tells says) w

  -- the fault was said
  pub faulty-as : (line : ℕ) (fault : Fault) (a b : Option (List ℕ)) (status : Status) → Faults line fault → Written (IsRefusalText line (fault_number fault)) a b status → Written (IsDrawingText Tells Faults) a b status
  faulty-as line fault a b status is w = written-as (IsRefusalText line (fault_number fault)) (IsDrawingText Tells Faults) a b status (λ s x says. Faulty line fault s x is says) w

  -- memory was refused
  pub unread-as : (a b : Option (List ℕ)) (status : Status) → Ends a b [] Memory status → Written (IsDrawingText Tells Faults) a b status
  unread-as a b status e = record { meant = Memory; text = []; says = Unread; ends = e }

-- a picture of the same events and packets
pub picture-of-same : (t u : List Event) (rs : List Aside) (ps qs : List (List ℕ)) (v : Verdict) (a b : Option (List ℕ)) (status : Status) → t ≡ u → ps ≡ qs → Written (IsPictureText t rs ps v) a b status → Written (IsPictureText u rs qs v) a b status
picture-of-same t u rs ps qs v a b status same packed w = subst (λ x. Written (IsPictureText u rs x v) a b status) packed (subst (λ x. Written (IsPictureText x rs ps v) a b status) same w)

from-run : {S : Type 0} (meaning : Meaning S) (with_packets : Bool) (bytes : List ℕ) (script : Script) → script_of bytes ≡ Ok script → (status : Status) (text : List ℕ)
    → IsDrawingText (TellsRun meaning with_packets script) (λ line fault. ⊥) status text → IsDrawnScript meaning with_packets bytes status text
from-run meaning with_packets bytes script read status text (Draws t rs ps v _ _ run says) = Draws t rs ps v status text (record { script = script; read = read; run = run }) says
from-run meaning with_packets bytes script read status text (Faulty line fault _ _ none says) = absurd none
from-run meaning with_packets bytes script read status text Unread = Unread

-- the run of a script that was read was drawn
pub drawn-run : {S : Type 0} (meaning : Meaning S) (with_packets : Bool) (bytes : List ℕ) (script : Script) (a b : Option (List ℕ)) (status : Status) → script_of bytes ≡ Ok script
    → Written (IsDrawingText (TellsRun meaning with_packets script) (λ line fault. ⊥)) a b status → Written (IsDrawnScript meaning with_packets bytes) a b status
drawn-run meaning with_packets bytes script a b status read w = written-as (IsDrawingText (TellsRun meaning with_packets script) (λ line fault. ⊥)) (IsDrawnScript meaning with_packets bytes) a b status (from-run meaning with_packets bytes script read) w

from-judged : {S : Type 0} (meaning : Meaning S) (bytes : List ℕ) (events : List Event) → trace_of bytes ≡ Ok events → (status : Status) (text : List ℕ)
    → IsDrawingText (IsJudgedAs meaning events) (λ line fault. ⊥) status text → IsDrawnTrace meaning bytes status text
from-judged meaning bytes events read status text (Draws t rs ps v _ _ tells says) = Draws t rs ps v status text (record { read = read ∙ ap Ok tells.is; none = tells.none; unpacked = tells.unpacked; judged = tells.judged }) says
from-judged meaning bytes events read status text (Faulty line fault _ _ none says) = absurd none
from-judged meaning bytes events read status text Unread = Unread

-- the trace that was read was checked and drawn
pub drawn-judged : {S : Type 0} (meaning : Meaning S) (bytes : List ℕ) (events : List Event) (a b : Option (List ℕ)) (status : Status) → trace_of bytes ≡ Ok events
    → Written (IsDrawingText (IsJudgedAs meaning events) (λ line fault. ⊥)) a b status → Written (IsDrawnTrace meaning bytes) a b status
drawn-judged meaning bytes events a b status read w =
    written-as (IsDrawingText (IsJudgedAs meaning events) (λ line fault. ⊥)) (IsDrawnTrace meaning bytes) a b status (from-judged meaning bytes events read) w

-- memory was refused before anything was read
pub unread-answer : (Says : List ℕ → Status → List ℕ → Type 0) (left a b : Option (List ℕ)) (status : Status) → ((bytes : List ℕ) → Written (Says bytes) a b status) → IsAnswer Says left a b status
unread-answer Says left a b status w = Answers (unwrap_or left []) status (left-of left) (w (unwrap_or left []))
