use Rattle.std.proofs.Common.{arith, subst, sym}
use Rattle.std.proofs.lemmas.Result.{on_ok_weaker}
use Rattle.frames.specs.Sendings.{Adds, AreLongs, AreOf, IsFrameOf}
use Rattle.frames.proofs.AllPieces.{long-behind}
use Rattle.frames.proofs.Logs.{grows-on}
use Rattle.frames.proofs.Opened.{if-ok}
use Rattle.frames.proofs.SendsCarried.{adds-none, adds-on, longs-on, numbered-from}
use Rattle.frames.proofs.outlet.Outlet.send.Goals.{then-not-has_place+in_ok-flush-2, else-not-has_place}
use Rattle.frames.proofs.outlet.Outlet.send.Goals as goal

pub returns-in_err-flush-clause-sends : goal.returns-in_err-flush-clause-sends
returns-in_err-flush-clause-sends g c = λ long sent of known stands numbered.
    let s = c.flush.ensures.sends long sent of in
    (s.0, s.1, longs-on long c.args.self.now c.flush.new.self c.flush.ensures.node c.flush.ensures.longs known)

pub returns-then-packet-gt-WHOLE-clause-sends : goal.returns-then-packet-gt-WHOLE-clause-sends
returns-then-packet-gt-WHOLE-clause-sends g c = λ long sent of known stands numbered.
    let s = c.flush.ensures.sends long sent of in
    let longs = longs-on long c.args.self.now c.flush.new.self c.flush.ensures.node c.flush.ensures.longs known in
    let is = numbered-from long c.args.packet.now c.args.self.now c.flush.new.self c.send_long.new.self c.flush.ensures.node c.flush.ensures.longs (numbered c.if-packet-gt-WHOLE.true) in
    let pieces = c.send_long.ensures.sends long sent longs stands is in (
      adds-on (IsFrameOf c.args.seal.now long sent) (g.N.Net.log c.args.net.now) (g.N.Net.log c.flush.new.net) (g.N.Net.log c.send_long.new.net) s.0 pieces.0,
      subst (AreOf sent) (sym c.send_long.ensures.waiting) s.1,
      pieces.1,
    )

pub returns-in_err-flush-2-clause-sends : goal.returns-in_err-flush-2-clause-sends
returns-in_err-flush-2-clause-sends g c = λ long sent of known stands numbered.
    let flush = c.flush-then-not-has_place in
    let s = flush.ensures.sends long sent of in
    (s.0, s.1, longs-on long c.args.self.now flush.new.self flush.ensures.node flush.ensures.longs known)

pub returns-clause-sends : goal.returns-clause-sends
returns-clause-sends g c = λ long sent of known stands numbered.
    let both : Adds (IsFrameOf c.args.seal.now long sent) (g.N.Net.log c.args.net.now) (g.N.Net.log c.if-not-has_place.net) × AreOf sent c.if-not-has_place.self.waiting × AreLongs long c.if-not-has_place.self =
    elim c.if-not-has_place.branch [
      | then-not-has_place+in_ok-flush-2 w ↦
          rw (w.net-is, w.self-is)
          (let s = w.flush-then-not-has_place.ensures.sends long sent of in
          (s.0, s.1, longs-on long c.args.self.now w.flush-then-not-has_place.new.self w.flush-then-not-has_place.ensures.node w.flush-then-not-has_place.ensures.longs known))
      | else-not-has_place w ↦ rw (w.net-is, w.self-is) (adds-none (IsFrameOf c.args.seal.now long sent) (g.N.Net.log c.args.net.now), of, known)
    ] in
    (both.0, c.wait.ensures.of sent both.1 stands, longs-on long c.if-not-has_place.self c.wait.new.self c.wait.ensures.node c.wait.ensures.longs both.2)

pub returns-then-packet-gt-WHOLE-clause-grows : goal.returns-then-packet-gt-WHOLE-clause-grows
returns-then-packet-gt-WHOLE-clause-grows g c =
    grows-on (g.N.Net.log c.args.net.now) (g.N.Net.log c.flush.new.net) (g.N.Net.log c.send_long.new.net) c.flush.ensures.grows c.send_long.ensures.grows

pub returns-then-packet-gt-WHOLE-clause-pieces : goal.returns-then-packet-gt-WHOLE-clause-pieces
returns-then-packet-gt-WHOLE-clause-pieces g c =
    on_ok_weaker c.send_long.result
    (λ pieces is_long within.
    long-behind c.args.seal.now c.args.packet.now c.args.self.now c.flush.new.self c.send_long.new.self.longs.next (g.N.Net.log c.args.net.now) (g.N.Net.log c.flush.new.net)
    (g.N.Net.log c.send_long.new.net) c.in_ok-flush.ensures.node c.in_ok-flush.ensures.frames c.in_ok-flush.ensures.longs (pieces within) c.in_ok-flush.ensures.lists)
    c.send_long.ensures.pieces

pub returns-then-packet-gt-WHOLE-clause-waits : goal.returns-then-packet-gt-WHOLE-clause-waits
returns-then-packet-gt-WHOLE-clause-waits g c = if-ok c.send_long.result _ (λ x short. absurd (omega (arith, short, c.if-packet-gt-WHOLE.true)))

pub returns-then-packet-gt-WHOLE-clause-lists : goal.returns-then-packet-gt-WHOLE-clause-lists
returns-then-packet-gt-WHOLE-clause-lists g c = if-ok c.send_long.result _ (λ x short. absurd (omega (arith, short, c.if-packet-gt-WHOLE.true)))

pub returns-clause-pieces : goal.returns-clause-pieces
returns-clause-pieces g c = if-ok c.wait.result _ (λ x is_long. absurd (omega (arith, is_long, c.if-packet-gt-WHOLE.false)))
