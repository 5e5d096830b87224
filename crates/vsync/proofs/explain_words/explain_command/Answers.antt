use Rattle.std.proofs.Common.{◌∙◌, ap, refl, sym, codes, option_map}
use Rattle.clap.specs.Words.{found_of}
use Rattle.clap.proofs.WalkLemmas.{first_value-rows}
use Rattle.vsync.proofs.explain_words.explain_command.Goals as goal

pub returns : goal.returns
returns c =
    (refl, sym (first_value-rows (found_of c.args.matches.now) (codes "CODE")) ∙ (sym c.get_str.ensures ∙ ap (option_map (λ s. s.now)) c.in_ok-code.was))
