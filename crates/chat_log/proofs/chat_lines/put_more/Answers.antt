use Rattle.std.proofs.Common.{refl, rules, sym, arith}
use Rattle.std.proofs.lemmas.Option.{slice_get_within}
use Rattle.vsync_text.proofs.KeepFront.{stays, goes_on}
use Rattle.chat_log.proofs.LinesNotPrinted.{printed-one, printed-all}
use Rattle.chat_log.proofs.chat_lines.put_more.Goals as goal

pub loop-sender-init : goal.loop-sender-init
loop-sender-init g c = (refl, stays c.args.out.now.items)

pub overflow_add-index : goal.overflow_add-index
overflow_add-index g c = omega (arith, slice_get_within (g.C.Chat.lines_of c.args.chat.now) c.loop-sender.index _ (sym c.in-Some.ensures.line), c.in-Some.ensures.few)

pub loop-sender-smaller : goal.loop-sender-smaller
loop-sender-smaller g c = omega (arith, slice_get_within (g.C.Chat.lines_of c.args.chat.now) c.loop-sender.index _ (sym c.in-Some.ensures.line))

pub loop-sender-preserved : goal.loop-sender-preserved
loop-sender-preserved g c =
    printed-one (g.C.Chat.lines_of c.args.chat.now) c.loop-sender.index _ _ _ _ _ (sym c.in-Some.ensures.line) c.loop-sender.invariant (search rules) c.in_ok-put_said.ensures.kept

pub returns-in_err-put_said-clause-kept : goal.returns-in_err-put_said-clause-kept
returns-in_err-put_said-clause-kept g c = goes_on _ _ _ c.loop-sender.invariant.1 c.in_err-put_said.ensures.kept

pub returns-clause-text : goal.returns-clause-text
returns-clause-text g c = printed-all (g.C.Chat.lines_of c.args.chat.now) c.loop-sender.index _ _ (sym c.in_default.ensures.line) c.loop-sender.invariant.0

pub returns-clause-kept : goal.returns-clause-kept
returns-clause-kept g c = c.loop-sender.invariant.1
