use Rattle.std.proofs.Common.{List, [], ℕ, ap, sym, subst, ◌∙◌}
use Rattle.std.specs.List.{AllByRecursion}
use Rattle.frames.specs.Frames.{IsRead, IsShort, packed}
use Rattle.frames.proofs.Opened.{packets-come}
use Rattle.frames.proofs.opener.Opener.open_packets.Goals as goal

pub returns-in-Ok-true-clause-stands : goal.returns-in-Ok-true-clause-stands
returns-in-Ok-true-clause-stands c =
    let packets = c.read_packets.new.packets in
    let read : IsRead [] [] c.args.content.now packets =
    subst (λ (l : List ℕ). IsRead l [] c.args.content.now packets) c.clear-2.ensures.items
    (subst (λ (l : List (List ℕ)). IsRead c.clear-2.new.self.items l c.args.content.now packets) c.clear.ensures (c.in-Ok-true.ensures c.in-Ok-true.field-0-test)) in
    λ l key frame h g o kind stands. (
      stands.0,
      packets-come l key c.args.self.now.node frame h c.args.content.now packets g o kind (subst (AllByRecursion IsShort) (sym read.behind) read.short)
          (ap packed read.behind ∙ sym read.content_is),
    )
