use Rattle.std.proofs.Common.{◌≡◌, ℕ, [], ◌++◌, map, take, refl, sym, ap, ◌∙◌}
use Rattle.udp_runs.proofs.LinesOwed.{noted-keeps, on-any, unsaid-then-same}
use Rattle.std.specs.List.{concat}
use Rattle.std.proofs.lemmas.List.{append-nil}
use Rattle.udp_runs.specs.Texts.{Happens, texts_of}
use Rattle.udp_runs.proofs.NodesTell.{appends-begun, appends-said, told-one}
use Rattle.udp_runs.proofs.LinesAndEvents.{took-last, took-some}
use Rattle.udp_runs.proofs.telling.Teller.append_turn.Goals as goal

pub returns-in_err-append_blocked-clause-text : goal.returns-in_err-append_blocked-clause-text
returns-in_err-append_blocked-clause-text g c is =
    let none : (count : ℕ) × (c.append_blocked.new.text.items ≡ c.args.self.now.text.items ++ concat (take count (texts_of (map Happens c.args.channel.now.happened))))
    = (0, c.append_blocked.ensures is ∙ sym (append-nil c.args.self.now.text.items)) in
    appends-begun _ _ c.args.channel.now _ _ _ c.from_residual.ensures.0 none

pub returns-in_err-append-clause-text : goal.returns-in_err-append-clause-text
returns-in_err-append-clause-text g c is =
    appends-begun _ _ c.args.channel.now _ _ _ c.from_residual-in_err-append.ensures.0 (took-some _ _ _ _ _ (c.loop-event.invariant.0.0 is) (c.in_err-append.ensures.err (ap (λ v. v.speaks) c.loop-event.invariant.0.2 ∙ is)))

pub loop-event-preserved : goal.loop-event-preserved
loop-event-preserved g c = (
  told-one _ _ _ _ _ _ _ _ _ c.in-Some.event c.loop-event.invariant.0 c.in-Some.ensures.first c.happened.ensures.others c.in_ok-append.ensures.text c.append.ensures.voice,
  (noted-keeps _ _ _ c.in-Some.event c.loop-event.invariant.1.0 c.in_ok-append.ensures.unsaid, c.hear.ensures ∙ c.loop-event.invariant.1.1),
)

pub returns-clause-text : goal.returns-clause-text
returns-clause-text g c is =
    let last = took-last _ _ _ _ _ (c.loop-event.invariant.0.0 is) c.in_default.ensures.first c.happened.ensures.others in
    appends-said _ _ c.args.channel.now _ _ _ _ _ last.0 last.1 (rw c.loop-event.invariant.0.2 at c.append_known.ensures.text) c.append_known.ensures.err

pub returns-clause-unsaid : goal.returns-clause-unsaid
returns-clause-unsaid g c = on-any _ c.append_known.result (unsaid-then-same _ _ _ c.loop-event.invariant.1.0 c.append_known.ensures.unsaid)

pub loop-event-init : goal.loop-event-init
loop-event-init g c = ((λ is. ([], refl, c.append_blocked.ensures is ∙ sym (append-nil c.args.self.now.text.items), refl), refl, refl), (λ o start came x. x, refl))
