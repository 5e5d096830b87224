use Rattle.std.proofs.Common.{◌≡◌, ◌∙◌, Bool, true, false, cond, nat_eq, ap, sym, codes, append_assoc}
use Rattle.std.proofs.lemmas.Bool.{eq-eqb, ne_eqb}
use Rattle.trace_drawing.specs.declared.marks.Place.{Place}
use Rattle.trace_drawing.specs.declared.marks.Mark.{Mark}
use Rattle.trace_drawing.specs.declared.marks.Mark.TheVariants.{Message}
use Rattle.trace_drawing.specs.Spelling.{point, path, straight, bow, mark_text}
use Rattle.vsync_text.proofs.TextsAppend.{same-text}
use Rattle.trace_drawing.proofs.spelling.put_mark.Goals as goal

-- a shape around its place
pub returns-in-Start : goal.returns-in-Start
returns-in-Start c =
    same-text (sym (append_assoc (point (codes "<path class='k' d='M") c.in-Start.at.x c.in-Start.at.y) (codes "m-8 0h16") (codes "'/>")) ∙ ap mark_text (sym c.in-Start.is)) c.put_shape.ensures

pub returns-in-Send : goal.returns-in-Send
returns-in-Send c =
    same-text (sym (append_assoc (point (codes "<path class='u' d='M") c.in-Send.at.x c.in-Send.at.y) (codes "h0") (codes "'/>")) ∙ ap mark_text (sym c.in-Send.is)) c.put_shape-in-Send.ensures

pub returns-in-Delivery : goal.returns-in-Delivery
returns-in-Delivery c =
    same-text (sym (append_assoc (point (codes "<path class='d' d='M") c.in-Delivery.at.x c.in-Delivery.at.y) (codes "h0") (codes "'/>")) ∙ ap mark_text (sym c.in-Delivery.is)) c.put_shape-in-Delivery.ensures

pub returns-in-Block : goal.returns-in-Block
returns-in-Block c =
    same-text (sym (append_assoc (point (codes "<path class='k' d='M") c.in-Block.at.x c.in-Block.at.y) (codes "m-6-2h12m0 4h-12") (codes "'/>")) ∙ ap mark_text (sym c.in-Block.is)) c.put_shape-in-Block.ensures

pub returns-in-View : goal.returns-in-View
returns-in-View c =
    same-text (sym (append_assoc (point (codes "<path class='p' d='M") c.in-View.at.x c.in-View.at.y) (codes "m-30-9h60a9 9 0 0 1 0 18h-60a9 9 0 0 1 0-18z") (codes "'/>")) ∙ ap mark_text (sym c.in-View.is)) c.put_shape-in-View.ensures

pub returns-in-Leave : goal.returns-in-Leave
returns-in-Leave c =
    same-text (sym (append_assoc (point (codes "<path class='o' d='M") c.in-Leave.at.x c.in-Leave.at.y) (codes "m-6 0a6 6 0 1 0 12 0a6 6 0 1 0-12 0") (codes "'/>")) ∙ ap mark_text (sym c.in-Leave.is)) c.put_shape-in-Leave.ensures

pub returns-in-Crash : goal.returns-in-Crash
returns-in-Crash c =
    same-text (sym (append_assoc (point (codes "<path class='x' d='M") c.in-Crash.at.x c.in-Crash.at.y) (codes "m-7-7l14 14m0-14l-14 14") (codes "'/>")) ∙ ap mark_text (sym c.in-Crash.is)) c.put_shape-in-Crash.ensures

pub returns-in-Packet : goal.returns-in-Packet
returns-in-Packet c =
    same-text (sym (append_assoc (point (codes "<path class='y' d='M") c.in-Packet.at.x c.in-Packet.at.y) (codes "m-4-4h8v8h-8z") (codes "'/>")) ∙ ap mark_text (sym c.in-Packet.is)) c.put_shape-in-Packet.ensures

pub returns-in-Broken : goal.returns-in-Broken
returns-in-Broken c =
    same-text (sym (append_assoc (point (codes "<path class='f' d='M") c.in-Broken.at.x c.in-Broken.at.y) (codes "m-60-10h165v20h-165z") (codes "'/>")) ∙ ap mark_text (sym c.in-Broken.is)) c.put_shape-in-Broken.ensures

-- a line from end to end
pub returns-in-Lifeline : goal.returns-in-Lifeline
returns-in-Lifeline c = same-text (ap mark_text (sym c.in-Lifeline.is)) c.put_straight.ensures

pub returns-in-Hatch : goal.returns-in-Hatch
returns-in-Hatch c = same-text (ap mark_text (sym c.in-Hatch.is)) c.put_straight-in-Hatch.ensures

pub returns-in-Band : goal.returns-in-Band
returns-in-Band c = same-text (ap mark_text (sym c.in-Band.is)) c.put_straight-in-Band.ensures

pub returns-in-Lost : goal.returns-in-Lost
returns-in-Lost c = same-text (ap mark_text (sym c.in-Lost.is)) c.put_straight-in-Lost.ensures

pub returns-in-Way : goal.returns-in-Way
returns-in-Way c = same-text (ap mark_text (sym c.in-Way.is)) c.put_straight-in-Way.ensures

-- a message's line, by whether it goes to its own sender
message-drawn : (mark : Mark) (from to : Place) (b : Bool) → mark ≡ Message from to → nat_eq from.x to.x ≡ b → cond b (path (codes "m") from (bow from to)) (straight (codes "m") from to) ≡ mark_text mark
message-drawn mark from to b is e = ap (λ d. cond d (path (codes "m") from (bow from to)) (straight (codes "m") from to)) (sym e) ∙ ap mark_text (sym is)

pub returns-then-from-to : goal.returns-then-from-to
returns-then-from-to c = same-text (message-drawn c.args.mark c.in-Message.from c.in-Message.to true c.in-Message.is (eq-eqb _ _ c.if-from-to.true)) c.put_bowed.ensures

pub returns-else-from-to : goal.returns-else-from-to
returns-else-from-to c =
    same-text (message-drawn c.args.mark c.in-Message.from c.in-Message.to false c.in-Message.is (ne_eqb _ _ c.if-from-to.false)) c.put_straight-else-from-to.ensures
