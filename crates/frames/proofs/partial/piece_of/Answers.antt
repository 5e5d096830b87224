use Rattle.std.proofs.Common.{◌∙◌, ap, ℕ, List}
use Rattle.std.proofs.lemmas.List.{take_rest}
use Rattle.byteorder.specs.Endian.{big_number}
use Rattle.frames.proofs.partial.piece_of.Goals as goal

pub returns : goal.returns
returns c =
    let content : List ℕ = c.args.content.now in
    record {
      long = c.if-content-lt-PIECE_HEAD.false;
      number = c.read_u64.ensures;
      index = c.read_u16.ensures ∙ ap (big_number 2) (take_rest content 8);
      count = c.read_u16-2.ensures ∙ ap (big_number 2) (take_rest content 10);
      bytes = take_rest content 12;
    }
