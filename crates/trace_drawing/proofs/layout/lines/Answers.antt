use Rattle.std.proofs.Common.{◌∙◌, ◌≤◌, length, filter_map, ap, arith}
use Rattle.std.proofs.lemmas.List.{take_all}
use Rattle.trace_drawing.specs.Layout.{member_line}
use Rattle.trace_drawing.proofs.RowsAndLines.{lines-next}
use Rattle.trace_drawing.proofs.layout.lines.Goals as goal

-- no member is gone through yet
pub loop-member-init : goal.loop-member-init
loop-member-init c = λ at t knows. c.new-lines.ensures.items

-- one member more
pub loop-member-preserved : goal.loop-member-preserved
loop-member-preserved c = λ at t knows. c.in_ok-add.ensures ∙ lines-next at t c.args.known.now.members.items c.deref-member-items.result.now c.loop-member.member-index c.member-item.result c.loop-member.lines.items
    c.deref-member-items.ensures.value c.member-item.is c.loop-member-test.true (c.loop-member.invariant at t knows) c.line.result (c.line.ensures at t knows)

-- all members
pub returns : goal.returns
returns c = λ at t knows. (let all : length c.args.known.now.members.items ≤ c.loop-member.member-index = omega (arith, ap length c.deref-member-items.ensures.value, c.loop-member-test.false) in
    c.loop-member.invariant at t knows ∙ ap (filter_map (member_line at t)) (take_all c.loop-member.member-index c.args.known.now.members.items all ∙ knows.of_members.come_up))
