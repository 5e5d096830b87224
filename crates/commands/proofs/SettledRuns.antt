-- A run of events after which the changes of view complete that can, and calm views deliver everything; and what is printed of it.
use Rattle.std.proofs.Common.{◌≡◌, ℕ, Bool, true, false, List, ◌++◌, length, drop, Option, Result, Ok, Err, OnOk, is_ok, sym, ap, ◌∙◌, subst}
use Rattle.std.proofs.lemmas.List.{take-append-drop}
use Rattle.state_transfer.specs.Meanings.{Meaning}
use Rattle.trace_props.specs.Places.{IsBeginningOf}
use Rattle.trace_props.proofs.RulesAlongLists.{IsBeginningOf-same, IsBeginningOf-grow}
use Rattle.world_model.specs.declared.WorldEvent.{WorldEvent}
use Rattle.world_model.specs.Histories.{History}
use Rattle.world.specs.Worlds.{WorldModel, no_world, IsLonger}
use Rattle.vsync_text.specs.declared.script.Script.{Script}
use Rattle.vsync_text.specs.Runs.{lines_of_run}
use Rattle.vsync_text.specs.declared.status.Status.{Status}
use Rattle.vsync_text.specs.declared.status.Status.TheVariants.{Memory}
use Rattle.vsync_text.specs.Outcomes.{Ends, IsLinesText, Written, memory_line}
use Rattle.vsync_text.specs.Outcomes.IsLinesText.{Printed, Unprinted}
use Rattle.commands.specs.Settled.{KeepsRules, RunsAndSettles, RunsInPart, padded, IsSettledText}
use Rattle.commands.specs.Settled.IsSettledText.{All, Part}
use Rattle.vsync_text.proofs.TextsFollow.{written-as}

-- ---- longer histories

begins-then : {X : Type 0} (xs ys zs : List X) → IsBeginningOf xs ys → IsBeginningOf ys zs → IsBeginningOf xs zs
begins-then xs ys zs a b =
    subst (IsBeginningOf xs) (ap (λ (l : List _). l ++ drop (length ys) zs) b ∙ take-append-drop (length ys) zs) (IsBeginningOf-grow xs ys (drop (length ys) zs) a)

pub longer-then : (a b c : History) → IsLonger a b → IsLonger b c → IsLonger a c
longer-then a b c x y = record {
  events = begins-then a.events b.events c.events x.events y.events;
  replies = begins-then a.replies b.replies c.replies x.replies y.replies;
  pool = begins-then a.pool b.pool c.pool x.pool y.pool;
  trace = begins-then a.trace b.trace c.trace x.trace y.trace;
}

pub longer-same : (a : History) → IsLonger a a
longer-same a = record { events = IsBeginningOf-same a.events; replies = IsBeginningOf-same a.replies; pool = IsBeginningOf-same a.pool; trace = IsBeginningOf-same a.trace }

module _ {S : Type 0} (meaning : Meaning S) (delivers : Bool) where
  -- ---- a script's run

  -- what is printed of it, all of it or a beginning, is a text of it
  settled-text : (script : Script) (w : WorldModel S) (ran : Bool) → KeepsRules meaning w → RunsInPart meaning no_world script.events w
      → (ran ≡ true → RunsAndSettles meaning delivers no_world script.events w) → (s : Status) (t : List ℕ)
      → IsLinesText (lines_of_run (padded script.lines (length w.history.events)) w.history.replies w.history.trace) ran s t → IsSettledText meaning delivers script s t
  settled-text script w ran rules some all s t (Printed whole) = All w (all whole) rules
  settled-text script w ran rules some all s t (Unprinted count) = Part w count some rules

  on-ok : {A E : Type 0} (r : Result A E) (P : Type 0) (b : Bool) → OnOk r P → b ≡ is_ok r → b ≡ true → P
  on-ok (Ok x) P b p is whole = p
  on-ok (Err x) P b p is whole = absurd (let bad : true ≡ false = sym whole ∙ is in cc)

  pub settled-played : {A E : Type 0} (script : Script) (lines : List ℕ) (given : List WorldEvent) (old w : WorldModel S) (ran : Bool) (r : Result A E) (a b : Option (List ℕ)) (status : Status)
      → lines ≡ padded script.lines (length w.history.events) → given ≡ script.events → old ≡ no_world → KeepsRules meaning w → RunsInPart meaning old given w
      → OnOk r (RunsAndSettles meaning delivers old given w) → ran ≡ is_ok r → Written (IsLinesText (lines_of_run lines w.history.replies w.history.trace) ran) a b status
      → Written (IsSettledText meaning delivers script) a b status
  settled-played script lines given old w ran r a b status same all empty rules some whole is written =
      let at = λ (P : WorldModel S → List WorldEvent → Type 0) (x : P old given). subst (λ (o : WorldModel S). P o script.events) empty (subst (λ (g : List WorldEvent). P old g) all x) in
      written-as (IsLinesText (lines_of_run (padded script.lines (length w.history.events)) w.history.replies w.history.trace) ran) (IsSettledText meaning delivers script) a b status
      (settled-text script w ran rules (at (λ o g. RunsInPart meaning o g w) some) (λ to-end. at (λ o g. RunsAndSettles meaning delivers o g w) (on-ok r (RunsAndSettles meaning delivers old given w) ran whole is to-end)))
      (subst (λ (l : List ℕ). Written (IsLinesText (lines_of_run l w.history.replies w.history.trace) ran) a b status) same written)

  -- it stopped before it was printed
  pub settled-stopped : (script : Script) (given : List WorldEvent) (old w : WorldModel S) (a b : Option (List ℕ)) (status : Status) → given ≡ script.events → old ≡ no_world → KeepsRules meaning w
      → RunsInPart meaning old given w → Ends a b memory_line Memory status → Written (IsSettledText meaning delivers script) a b status
  settled-stopped script given old w a b status all empty rules some e = record {
    meant = Memory;
    text = memory_line;
    says = Part w 0 (subst (λ (o : WorldModel S). RunsInPart meaning o script.events w) empty (subst (λ (g : List WorldEvent). RunsInPart meaning old g w) all some)) rules;
    ends = e;
  }
