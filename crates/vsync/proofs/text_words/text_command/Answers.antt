use Rattle.std.proofs.Common.{◌∙◌, ap, sym, option_map}
use Rattle.clap.specs.Words.{Text, first_of, found_of, rows_of}
use Rattle.clap.proofs.WalkLemmas.{first_value-rows}
use Rattle.vsync.proofs.text_words.text_command.Goals as goal

pub returns : goal.returns
returns c =
    let f = found_of c.args.matches.now in
    record {
      task = sym c.task_in.ensures ∙ c.in_ok-task.was;
      path = ap (λ (t : Text). first_of t (rows_of f)) (sym c.argument_of.ensures)
          ∙ (sym (first_value-rows f c.argument_of.result.now) ∙ (sym c.get_str.ensures ∙ ap (option_map (λ s. s.now)) c.in_ok-path.was));
      flags = c.kept_flags-flags.ensures;
    }
