use Rattle.std.proofs.Common.{◌∙◌, ap, refl, sym, codes, option_map}
use Rattle.clap.specs.Words.{found_of}
use Rattle.clap.proofs.WalkLemmas.{first_value-rows}
use Rattle.vsync.proofs.udp_words.udp_command.Goals as goal

pub returns : goal.returns
returns c = (
  refl,
  record {
    config = sym (first_value-rows (found_of c.args.matches.now) (codes "CONFIG")) ∙ (sym c.get_str.ensures ∙ ap (option_map (λ s. s.now)) c.in_ok-config.was);
    script = sym (first_value-rows (found_of c.args.matches.now) (codes "SCRIPT")) ∙ (sym c.get_str-2.ensures ∙ ap (option_map (λ s. s.now)) c.in_ok-script.was);
  },
)
