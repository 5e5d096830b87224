use Rattle.std.proofs.Common.{◌≡◌, ◌∷◌, true, cond, Some, nat_eq, eq-eqb, ap, sym, ◌∙◌}
use Rattle.std.specs.Prelude.{is_some}
use Rattle.wire_values.specs.Values.{held_at}
use Rattle.flush.proofs.Reports.{report-near}
use Rattle.flush.proofs.owned_report.OwnedReport.held_at.Goals as goal

-- it is one of the report's, so it lies within the window
pub returns-then-number-get-clause-near : goal.returns-then-number-get-clause-near
returns-then-number-get-clause-near c =
    let first : c.loop-place.left ≡ (c.in-Some.place, c.in-Some.entry) ∷ c.take_first.new.self = c.in-Some.ensures.first in
    let is : c.args.number ≡ c.in-Some.place = cc in
    let here : nat_eq c.args.number c.in-Some.place ≡ true = eq-eqb c.args.number c.in-Some.place is in
    let there : is_some (held_at c.args.number ((c.in-Some.place, c.in-Some.entry) ∷ c.take_first.new.self)) ≡ true = ap (λ b. is_some (cond b (Some c.in-Some.entry) (held_at c.args.number c.take_first.new.self))) here in
    (report-near c.args.self.now c.held-left.ensures.report c.args.number (ap is_some (sym c.loop-place.invariant.same ∙ ap (held_at c.args.number) first) ∙ there)).1
