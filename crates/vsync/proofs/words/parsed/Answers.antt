use Rattle.std.proofs.Common.{◌≡◌, ◌∙◌, ap, ap₂, sym, subst, map, string_bytes, Option, List, [], IfOk, IsSomeAnd}
use Rattle.clap.specs.Kinds.{FailsBy, HasKind, Kinds, or_else}
use Rattle.clap.specs.Words.{App, Row, Text, fault_of, is_simple, subcommand_of}
use Rattle.clap.specs.Faults.{is_simple_and_free}
use Rattle.clap.proofs.WalkLemmas.{both}
use Rattle.vsync.proofs.Answering.{by_clap, fails_as}
use Rattle.vsync.proofs.Entering.{simple}
use Rattle.vsync.specs.Grammar.{program_app}
use Rattle.vsync.specs.Words.{IsSaid, faults_of, stray_fault}
use Rattle.vsync.proofs.words.parsed.Goals as goal

pub returns-in_err-matches-clause-refused : goal.returns-in_err-matches-clause-refused
returns-in_err-matches-clause-refused c =
    let words = map string_bytes c.args.words.now in
    let is = c.in_ok-grammar.ensures in
    fails_as (faults_of words) c.from_residual-in_err-matches.result c.in_err-matches.field-0.0 c.from_residual-in_err-matches.ensures.1
    (by_clap (fault_of program_app words) _ c.in_err-matches.field-0.0 (subst (λ (a : App). HasKind (fault_of a words) c.in_err-matches.field-0.0) is (c.in_err-matches.ensures.kinds (ap is_simple_and_free is ∙ simple))))

pub returns : goal.returns
returns c =
    let words = map string_bytes c.args.words.now in
    let is = c.in_ok-grammar.ensures in
    let said = (c.in_ok-matches.ensures.matches (ap is_simple is ∙ (both _ _ simple).0)).1 ∙ ap (λ (a : App). subcommand_of a words) is in
    let none : fault_of program_app words ≡ [] = ap (λ (a : App). fault_of a words) (sym is) ∙ c.in_ok-matches.ensures.kinds (ap is_simple_and_free is ∙ simple) in
    record {
      said = subst (λ (o : Option (Text × List Row)). IfOk c.asked.result (λ i. IsSomeAnd o (λ s. IsSaid s i))) said c.asked.ensures.said;
      refused = subst (λ (k : Kinds). FailsBy k c.asked.result) (sym (ap₂ or_else none (ap stray_fault (sym said)))) c.asked.ensures.refused;
    }
