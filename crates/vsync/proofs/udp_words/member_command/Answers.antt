use Rattle.std.proofs.Common.{◌∙◌, ap, refl, sym, codes, option_map}
use Rattle.clap.specs.Words.{found_of}
use Rattle.clap.proofs.WalkLemmas.{first_value-rows}
use Rattle.vsync.proofs.udp_words.member_command.Goals as goal

pub returns : goal.returns
returns c = (
  refl,
  record {
    config = sym (first_value-rows (found_of c.args.matches.now) (codes "CONFIG")) ∙ (sym c.get_str.ensures ∙ ap (option_map (λ s. s.now)) c.in_ok-config.was);
    node = c.in_ok-address.ensures.0;
    incarnation = c.in_ok-address.ensures.1;
    rounds = c.in_ok-rounds.ensures;
    contact = sym (first_value-rows (found_of c.args.matches.now) (codes "contact")) ∙ sym c.get_str-2.ensures;
    send = sym (first_value-rows (found_of c.args.matches.now) (codes "send")) ∙ sym c.get_str-3.ensures;
    options = c.in_ok-member_options.ensures;
  },
)
