use Rattle.std.proofs.Common.{◌≡◌, ◌∙◌, sym, subst, List, ℕ, codes, rules}
use Rattle.trace_props.specs.declared.verdict.Verdict.{Verdict}
use Rattle.trace_props.specs.declared.verdict.Verdict.TheVariants.{Breaks}
use Rattle.vsync_text.specs.declared.status.Status.TheVariants.{Done, Broken, Memory}
use Rattle.vsync_text.specs.Outcomes.{memory_line}
use Rattle.commands.specs.Checks.{broken_line, IsVerdictText}
use Rattle.commands.specs.Checks.IsVerdictText.{Held, Broke, Unprinted}
use Rattle.commands.proofs.checks.print_verdict.Goals as goal

pub returns-in-Holds : goal.returns-in-Holds
returns-in-Holds g c =
    record { meant = Done; text = codes "holds\n"; says = subst (λ (v : Verdict). IsVerdictText v Done (codes "holds\n")) (sym c.in-Holds.is) Held; ends = c.end_with.ensures }

pub returns-in-Ok : goal.returns-in-Ok
returns-in-Ok g c =
    let line : c.as_slice.result.now ≡ broken_line c.in-Breaks.rule c.in-Breaks.place = c.as_slice.ensures.value ∙ search rules in
    record {
      meant = Broken;
      text = c.as_slice.result.now;
      says = subst (λ (v : Verdict). IsVerdictText v Broken c.as_slice.result.now) (sym c.in-Breaks.is)
          (subst (λ (x : List ℕ). IsVerdictText (Breaks c.in-Breaks.rule c.in-Breaks.place) Broken x) (sym line) (Broke c.in-Breaks.rule c.in-Breaks.place));
      ends = c.end_with-in-Ok.ensures;
    }

pub returns : goal.returns
returns g c = record { meant = Memory; text = memory_line; says = Unprinted c.args.verdict; ends = c.end_in_memory.ensures }
