use Rattle.std.proofs.Common.{◌∙◌, sym, codes}
use Rattle.clap.specs.Words.{found_of}
use Rattle.clap.proofs.WalkLemmas.{first_value-rows}
use Rattle.vsync.proofs.member_options.member_options.Goals as goal

pub returns : goal.returns
returns c =
    let f = found_of c.args.matches.now in
    record {
      tick = c.in_ok-tick.ensures;
      merge = c.in_ok-merge.ensures;
      incarnation_file = sym (first_value-rows f (codes "incarnation-file")) ∙ sym c.get_str.ensures;
      say = sym (first_value-rows f (codes "say")) ∙ sym c.get_str-2.ensures;
      bind = sym (first_value-rows f (codes "bind")) ∙ sym c.get_str-3.ensures;
      peers = c.in-Ok.ensures;
      http = sym (first_value-rows f (codes "http")) ∙ sym c.get_str-4.ensures;
      forever = c.stands.ensures;
      leave = c.stands-2.ensures;
      text = c.stands-3.ensures;
      stats = c.stands-4.ensures;
      flags = c.kept_flags.ensures;
      find = c.stands-5.ensures;
      any_source = c.stands-6.ensures;
      stable = c.stands-7.ensures;
      quorum = c.in_ok-quorum.ensures;
      status = sym (first_value-rows f (codes "status")) ∙ sym c.get_str-5.ensures;
      key_file = sym (first_value-rows f (codes "key-file")) ∙ sym c.get_str-6.ensures;
    }
