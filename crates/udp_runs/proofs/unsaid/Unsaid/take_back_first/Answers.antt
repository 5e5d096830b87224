use Rattle.std.proofs.Common.{◌++◌, take, drop, flat_map, sym, ap, ◌∙◌}
use Rattle.std.proofs.Math.Seq.{drop-drop, take-add}
use Rattle.std.proofs.lemmas.Grind.{flat_map-append}
use Rattle.udp_runs.specs.Unsaid.{line_in}
use Rattle.udp_runs.proofs.unsaid.Unsaid.take_back_first.Goals as goal

pub loop-preserved : goal.loop-preserved
loop-preserved c =
    let one = c.in_ok-take_back_oldest.ensures in
    let was = c.loop.invariant in
    let k = c.loop.counter in
    let sent = c.args.self.now.sent in (
      one.sent ∙ ap (drop 1) was.0 ∙ drop-drop 1 k sent,
      one.lines ∙ ap (λ l. l ++ flat_map line_in (take 1 c.loop.self.sent)) was.1
          ∙ ap (λ s. flat_map line_in (take k sent) ++ flat_map line_in (take 1 s)) was.0 ∙ sym (flat_map-append line_in (take k sent) (take 1 (drop k sent)))
          ∙ ap (flat_map line_in) (sym (take-add k 1 sent)),
      one.back ∙ was.2,
    )
