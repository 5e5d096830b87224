use Rattle.std.proofs.Common.{◌∙◌, ap, subst}
use Rattle.std.specs.HashMap.{get}
use Rattle.address.specs.Ids.{ViewId, same_address, same_view_id}
use Rattle.trace_rules.specs.Copies.{EntersWith}
use Rattle.trace_rules.proofs.EntryStatesKept.{install-known}
use Rattle.trace_rules.proofs.known.states.enter.Goals as goal

-- the bytes are compared, or are the first
pub returns : goal.returns
returns g c = λ t r.
    install-known g.R.Receiver.meaning g.met.R.Receiver.decodes g.met.R.Receiver.reads_back
    (get same_address c.args.states.now.states) (get same_address c.take.new.states) (get same_view_id c.args.states.now.entering) (get same_view_id c.enter_with.new.entering) t c.args.install.now
    c.as_slice.result.now c.eq-first.result c.in_ok-alike.alike c.in_ok-take.ensures.takes (c.in_ok-take.ensures.read.0 c.if-not-branch.false) (c.as_slice.ensures.value ∙ c.in_ok-write_state.ensures)
    (c.eq-first.ensures ∙ ap (same_address c.args.install.now.member) c.first.ensures.creator)
    (subst (λ (v : ViewId). EntersWith (get same_view_id c.args.states.now.entering) (get same_view_id c.enter_with.new.entering) v c.eq-first.result c.as_slice.result.now c.in_ok-alike.alike) c.id-view.ensures c.in_ok-alike.ensures) r
