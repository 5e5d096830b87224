use Rattle.std.proofs.Common.{refl, ◌∙◌}
use Rattle.udp_runs.proofs.LinesKept.{earlier-refl, earlier-trans}
use Rattle.udp_runs.proofs.NodesTell.{tells-none, tells-then, told-all}
use Rattle.udp_runs.proofs.LinesOwed.{same-keeps}
use Rattle.udp_runs.proofs.lone.LoneNode.turns.Goals as goal

pub loop-round-init : goal.loop-round-init
loop-round-init g c = (λ start later owed earlier none. tells-none _ _ _ _ c.args.settings.now.group _ _ _ _ none, refl, refl, refl, earlier-refl _, λ start owed. owed)

pub returns-in-Err-clause-tells : goal.returns-in-Err-clause-tells
returns-in-Err-clause-tells g c start later owed earlier none =
    let (told, voice, gone, once, grows, owes) = c.loop-round.invariant in
    let so_far = told start later owed (earlier-trans _ _ _ c.listen_until.ensures.grows earlier) none in
    tells-then _ _ _ _ c.args.settings.now.group _ _ _ _ _ _ _ _ _ so_far (rw (voice, once) at c.in-Err.ensures.tells c.args.settings.now.group start later (owes start owed) earlier (told-all _ _ _ _ c.args.settings.now.group _ _ _ _ _ _ so_far))

pub returns-in-Err-clause-grows : goal.returns-in-Err-clause-grows
returns-in-Err-clause-grows g c =
    let (told, voice, gone, once, grows, owes) = c.loop-round.invariant in
    earlier-trans _ _ _ grows c.listen_until.ensures.grows

pub returns-in-Err-turn-clause-tells : goal.returns-in-Err-turn-clause-tells
returns-in-Err-turn-clause-tells g c start later owed earlier none =
    let (told, voice, gone, once, grows, owes) = c.loop-round.invariant in
    let onward = earlier-trans _ _ _ c.turn.ensures.grows earlier in
    let so_far = told start later owed (earlier-trans _ _ _ c.listen_until.ensures.grows onward) none in
    let rested = tells-then _ _ _ _ c.args.settings.now.group _ _ _ _ _ _ _ _ _ so_far (rw (voice, once) at c.in-Ok.ensures.tells c.args.settings.now.group start later (owes start owed) onward (told-all _ _ _ _ c.args.settings.now.group _ _ _ _ _ _ so_far)) in
    tells-then _ _ _ _ c.args.settings.now.group _ _ _ _ _ _ _ _ _ rested (rw (c.listen_until.ensures.same.0, voice, c.listen_until.ensures.same.1, once) at c.in-Err-turn.ensures.tells start later (c.in-Ok.ensures.owes start (owes start owed)) earlier)

pub returns-in-Err-turn-clause-grows : goal.returns-in-Err-turn-clause-grows
returns-in-Err-turn-clause-grows g c =
    let (told, voice, gone, once, grows, owes) = c.loop-round.invariant in
    earlier-trans _ _ _ (earlier-trans _ _ _ grows c.listen_until.ensures.grows) c.turn.ensures.grows

pub loop-round-preserved : goal.loop-round-preserved
loop-round-preserved g c =
    let (told, voice, gone, once, grows, owes) = c.loop-round.invariant in (
      λ start later owed earlier none. rw c.look.ensures.same.0 (
          let onward = earlier-trans _ _ _ c.turn.ensures.grows earlier in
          let so_far = told start later owed (earlier-trans _ _ _ c.listen_until.ensures.grows onward) none in
          let rested = tells-then _ _ _ _ c.args.settings.now.group _ _ _ _ _ _ _ _ _ so_far (rw (voice, once) at c.in-Ok.ensures.tells c.args.settings.now.group start later (owes start owed) onward (told-all _ _ _ _ c.args.settings.now.group _ _ _ _ _ _ so_far)) in
          tells-then _ _ _ _ c.args.settings.now.group _ _ _ _ _ _ _ _ _ rested (rw (c.listen_until.ensures.same.0, voice, c.listen_until.ensures.same.1, once) at c.in-Ok-turn.ensures.tells start later (c.in-Ok.ensures.owes start (owes start owed)) earlier)),
      c.look.ensures.same.1 ∙ c.turn.ensures.same.0 ∙ c.listen_until.ensures.same.0 ∙ voice,
      c.look.ensures.gone ∙ c.listen_until.ensures.gone ∙ gone,
      c.look.ensures.same.2.0 ∙ c.turn.ensures.same.1 ∙ c.listen_until.ensures.same.1 ∙ once,
      earlier-trans _ _ _ (earlier-trans _ _ _ grows c.listen_until.ensures.grows) c.turn.ensures.grows,
      λ start owed. same-keeps _ _ _ _ _ _ c.look.ensures.same.2 start _ (c.in-Ok-turn.ensures.owes start (c.in-Ok.ensures.owes start (owes start owed))),
    )

pub returns-then-is_over-self-clause-owes : goal.returns-then-is_over-self-clause-owes
returns-then-is_over-self-clause-owes g c = let (told, voice, gone, once, grows, owes) = c.loop-round.invariant in owes

pub returns-clause-owes : goal.returns-clause-owes
returns-clause-owes g c = let (told, voice, gone, once, grows, owes) = c.loop-round.invariant in owes

pub returns-then-is_over-self-clause-same : goal.returns-then-is_over-self-clause-same
returns-then-is_over-self-clause-same g c = let (told, voice, gone, once, grows, owes) = c.loop-round.invariant in (voice, once)

pub returns-then-is_over-self-clause-tells : goal.returns-then-is_over-self-clause-tells
returns-then-is_over-self-clause-tells g c = let (told, voice, gone, once, grows, owes) = c.loop-round.invariant in told

pub returns-then-is_over-self-clause-grows : goal.returns-then-is_over-self-clause-grows
returns-then-is_over-self-clause-grows g c = let (told, voice, gone, once, grows, owes) = c.loop-round.invariant in grows

pub returns-then-is_over-self-clause-gone : goal.returns-then-is_over-self-clause-gone
returns-then-is_over-self-clause-gone g c = let (told, voice, gone, once, grows, owes) = c.loop-round.invariant in gone

pub returns-in-Err-clause-same : goal.returns-in-Err-clause-same
returns-in-Err-clause-same g c = let (told, voice, gone, once, grows, owes) = c.loop-round.invariant in (c.listen_until.ensures.same.0 ∙ voice, c.listen_until.ensures.same.1 ∙ once)

pub returns-in-Err-clause-owes : goal.returns-in-Err-clause-owes
returns-in-Err-clause-owes g c = λ start owed. tt

pub returns-in-Err-clause-gone : goal.returns-in-Err-clause-gone
returns-in-Err-clause-gone g c = let (told, voice, gone, once, grows, owes) = c.loop-round.invariant in c.listen_until.ensures.gone ∙ gone

pub returns-in-Err-turn-clause-same : goal.returns-in-Err-turn-clause-same
returns-in-Err-turn-clause-same g c = let (told, voice, gone, once, grows, owes) = c.loop-round.invariant in (c.turn.ensures.same.0 ∙ c.listen_until.ensures.same.0 ∙ voice, c.turn.ensures.same.1 ∙ c.listen_until.ensures.same.1 ∙ once)

pub returns-in-Err-turn-clause-owes : goal.returns-in-Err-turn-clause-owes
returns-in-Err-turn-clause-owes g c = λ start owed. tt

pub returns-in-Err-turn-clause-gone : goal.returns-in-Err-turn-clause-gone
returns-in-Err-turn-clause-gone g c = let (told, voice, gone, once, grows, owes) = c.loop-round.invariant in c.listen_until.ensures.gone ∙ gone

pub returns-clause-same : goal.returns-clause-same
returns-clause-same g c = let (told, voice, gone, once, grows, owes) = c.loop-round.invariant in (voice, once)

pub returns-clause-tells : goal.returns-clause-tells
returns-clause-tells g c = let (told, voice, gone, once, grows, owes) = c.loop-round.invariant in told

pub returns-clause-grows : goal.returns-clause-grows
returns-clause-grows g c = let (told, voice, gone, once, grows, owes) = c.loop-round.invariant in grows

pub returns-clause-gone : goal.returns-clause-gone
returns-clause-gone g c = let (told, voice, gone, once, grows, owes) = c.loop-round.invariant in gone
