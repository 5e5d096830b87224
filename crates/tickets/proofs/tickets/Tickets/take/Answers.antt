use Rattle.std.proofs.Common.{◌≡◌, None, Some, sym, ◌∙◌, ap, arith}
use Rattle.std.specs.List.{position}
use Rattle.tickets.specs.Ledger.{Ledger, has_ended}
use Rattle.tickets.proofs.FirstEnd.{first-is, none-is, with_ended}
use Rattle.tickets.proofs.tickets.Tickets.take.Goals as goal

pub remove-requires : goal.remove-requires
remove-requires c =
    let l : Ledger = record { pending = c.self.inside.pending.items; ended = c.self.inside.ended.items } in
    let at : position (has_ended c.args.ticket) l.ended ≡ Some c.in_ok-index.index = rw c.as_slice.ensures.value at (sym c.index_of.ensures ∙ c.in_ok-index.was) in
    let first = first-is c.args.ticket l c.in_ok-index.index at in
    omega (arith, first.within)

pub returns-in_err-index-clause-end : goal.returns-in_err-index-clause-end
returns-in_err-index-clause-end c =
    let l : Ledger = record { pending = c.self.inside.pending.items; ended = c.self.inside.ended.items } in
    let at : position (has_ended c.args.ticket) l.ended ≡ None = rw c.as_slice.ensures.value at (sym c.index_of.ensures ∙ c.in_err-index.was) in
    rw (← c.self.view_is) (c.from_residual.ensures ∙ sym (none-is c.args.ticket l at).found)

pub returns-in_err-index-clause-rest : goal.returns-in_err-index-clause-rest
returns-in_err-index-clause-rest c =
    let l : Ledger = record { pending = c.self.inside.pending.items; ended = c.self.inside.ended.items } in
    let at : position (has_ended c.args.ticket) l.ended ≡ None = rw c.as_slice.ensures.value at (sym c.index_of.ensures ∙ c.in_err-index.was) in
    rw (← c.self.view_is) (sym (none-is c.args.ticket l at).others)

pub returns-clause-end : goal.returns-clause-end
returns-clause-end c =
    let l : Ledger = record { pending = c.self.inside.pending.items; ended = c.self.inside.ended.items } in
    let at : position (has_ended c.args.ticket) l.ended ≡ Some c.in_ok-index.index = rw c.as_slice.ensures.value at (sym c.index_of.ensures ∙ c.in_ok-index.was) in
    rw (← c.self.view_is) (sym ((first-is c.args.ticket l c.in_ok-index.index at).found c.remove.result c.remove.ensures.value))

pub returns-clause-rest : goal.returns-clause-rest
returns-clause-rest c =
    let l : Ledger = record { pending = c.self.inside.pending.items; ended = c.self.inside.ended.items } in
    let at : position (has_ended c.args.ticket) l.ended ≡ Some c.in_ok-index.index = rw c.as_slice.ensures.value at (sym c.index_of.ensures ∙ c.in_ok-index.was) in
    rw (← c.self.view_is) (ap (with_ended l) c.remove.ensures.items ∙ sym (first-is c.args.ticket l c.in_ok-index.index at).others)
