use Rattle.std.proofs.Common.{◌≡◌, None, Some, sym, ◌∙◌, arith}
use Rattle.std.specs.List.{position}
use Rattle.application.specs.Waits.{waits_for}
use Rattle.application.proofs.FirstWaits.{first-is, nobody-is}
use Rattle.application.proofs.waiting.take_ticket.Goals as goal

pub remove-requires : goal.remove-requires
remove-requires c =
    let at : position (waits_for c.args.number) c.args.waiting.now.items ≡ Some c.in_ok-index.index = rw c.as_slice.ensures.value at (sym c.index_of.ensures ∙ c.in_ok-index.was) in
    let first = first-is c.args.number c.args.waiting.now.items c.in_ok-index.index at in
    omega (arith, first.within)

pub returns-in_err-index-clause-ticket : goal.returns-in_err-index-clause-ticket
returns-in_err-index-clause-ticket c =
    let at : position (waits_for c.args.number) c.args.waiting.now.items ≡ None = rw c.as_slice.ensures.value at (sym c.index_of.ensures ∙ c.in_err-index.was) in
    c.from_residual.ensures ∙ sym (nobody-is c.args.number c.args.waiting.now.items at).found

pub returns-in_err-index-clause-others : goal.returns-in_err-index-clause-others
returns-in_err-index-clause-others c =
    let at : position (waits_for c.args.number) c.args.waiting.now.items ≡ None = rw c.as_slice.ensures.value at (sym c.index_of.ensures ∙ c.in_err-index.was) in
    sym (nobody-is c.args.number c.args.waiting.now.items at).others

pub returns-clause-ticket : goal.returns-clause-ticket
returns-clause-ticket c =
    let at : position (waits_for c.args.number) c.args.waiting.now.items ≡ Some c.in_ok-index.index = rw c.as_slice.ensures.value at (sym c.index_of.ensures ∙ c.in_ok-index.was) in
    sym ((first-is c.args.number c.args.waiting.now.items c.in_ok-index.index at).found c.remove.result c.remove.ensures.value)

pub returns-clause-others : goal.returns-clause-others
returns-clause-others c =
    let at : position (waits_for c.args.number) c.args.waiting.now.items ≡ Some c.in_ok-index.index = rw c.as_slice.ensures.value at (sym c.index_of.ensures ∙ c.in_ok-index.was) in
    c.remove.ensures.items ∙ sym (first-is c.args.number c.args.waiting.now.items c.in_ok-index.index at).others
