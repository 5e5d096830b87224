use Rattle.std.proofs.Common.{◌∙◌, ap, List, ℕ}
use Rattle.std.proofs.lemmas.List.{take_rest}
use Rattle.byteorder.specs.Endian.{big_number}
use Rattle.frames.proofs.head.head_of.Goals as goal

pub returns : goal.returns
returns c =
    let body : List ℕ = c.args.body.now in
    record {
      long = c.if-body-lt-HEAD.false;
      first = c.if-body-ne-FIRST.false;
      kind = c.in_ok-kind.ensures;
      to = c.in_ok-to.ensures.1 ∙ c.read_u16.ensures ∙ ap (big_number 2) (take_rest body 2);
      boot = c.copy_from_slice.ensures.after;
      counter = c.read_u64.ensures ∙ ap (big_number 8) (take_rest body 20);
    }
