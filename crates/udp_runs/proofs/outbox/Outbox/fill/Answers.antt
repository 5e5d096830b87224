use Rattle.udp_runs.proofs.LinesFilled.{fills-none, fills-err, fills-lost}
use Rattle.udp_runs.proofs.outbox.Outbox.fill.Goals as goal

pub returns-then-self : goal.returns-then-self
returns-then-self g c = fills-none _ _ _

pub returns-in_err-rest : goal.returns-in_err-rest
returns-in_err-rest g c = fills-err _ _ _ _ c.from_residual.ensures.0

pub returns-in_err-more : goal.returns-in_err-more
returns-in_err-more g c = fills-lost _ _ _ _ _ _ _ _ c.from_residual-in_err-more.ensures.0 c.more.ensures

pub returns-in_err-extend_from_slice : goal.returns-in_err-extend_from_slice
returns-in_err-extend_from_slice g c = fills-lost _ _ _ _ _ _ _ _ c.from_residual-in_err-extend_from_slice.ensures.0 c.more.ensures
