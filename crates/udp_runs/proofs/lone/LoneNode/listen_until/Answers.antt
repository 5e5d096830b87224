use Rattle.std.proofs.Common.{refl, ◌∙◌}
use Rattle.udp_runs.proofs.LinesKept.{earlier-refl, earlier-trans}
use Rattle.udp_runs.proofs.NodesTell.{tells-none, tells-then}
use Rattle.udp_runs.proofs.lone.LoneNode.listen_until.Goals as goal

pub returns-then-round-eq0-clause-tells : goal.returns-then-round-eq0-clause-tells
returns-then-round-eq0-clause-tells g c group start later owed earlier none = tells-none _ _ _ _ group _ _ _ _ none

pub loop-init : goal.loop-init
loop-init g c = (λ group start later owed earlier none. tells-none _ _ _ _ group _ _ _ _ none, refl, c.now.ensures, refl, earlier-refl _, λ start owed. owed)

pub returns-in-Err-clause-tells : goal.returns-in-Err-clause-tells
returns-in-Err-clause-tells g c group start later owed earlier none =
    let (told, voice, gone, once, grows, owes) = c.loop.invariant in
    tells-then _ _ _ _ group _ _ _ _ _ _ _ _ _ (told group start later owed (earlier-trans _ _ _ (rw c.look.ensures at c.listen_for.ensures.grows) earlier) none)
    (rw (voice, once) at c.in-Err.ensures.tells group start later (rw c.look.ensures (owes start owed)) earlier)

pub returns-in-Err-clause-grows : goal.returns-in-Err-clause-grows
returns-in-Err-clause-grows g c =
    let (told, voice, gone, once, grows, owes) = c.loop.invariant in
    earlier-trans _ _ _ grows (rw c.look.ensures at c.listen_for.ensures.grows)

pub loop-preserved : goal.loop-preserved
loop-preserved g c =
    let (told, voice, gone, once, grows, owes) = c.loop.invariant in (
      λ group start later owed earlier none. tells-then _ _ _ _ group _ _ _ _ _ _ _ _ _ (told group start later owed (earlier-trans _ _ _ (rw c.look.ensures at c.listen_for.ensures.grows) earlier) none)
          (rw (voice, once) at c.in-Ok.ensures.tells group start later (rw c.look.ensures (owes start owed)) earlier),
      c.listen_for.ensures.same.0 ∙ voice,
      c.now-self.ensures ∙ gone,
      c.listen_for.ensures.same.1 ∙ once,
      earlier-trans _ _ _ grows (rw c.look.ensures at c.listen_for.ensures.grows),
      λ start owed. c.in-Ok.ensures.owes start (rw c.look.ensures (owes start owed)),
    )

pub returns-then-is_over-leaves-clause-owes : goal.returns-then-is_over-leaves-clause-owes
returns-then-is_over-leaves-clause-owes g c = let (told, voice, gone, once, grows, owes) = c.loop.invariant in owes

pub returns-clause-owes : goal.returns-clause-owes
returns-clause-owes g c = let (told, voice, gone, once, grows, owes) = c.loop.invariant in owes

pub returns-then-round-eq0-clause-same : goal.returns-then-round-eq0-clause-same
returns-then-round-eq0-clause-same g c = (refl, refl)

pub returns-then-round-eq0-clause-owes : goal.returns-then-round-eq0-clause-owes
returns-then-round-eq0-clause-owes g c = λ start owed. owed

pub returns-then-round-eq0-clause-gone : goal.returns-then-round-eq0-clause-gone
returns-then-round-eq0-clause-gone g c = refl

pub returns-then-round-eq0-clause-grows : goal.returns-then-round-eq0-clause-grows
returns-then-round-eq0-clause-grows g c = earlier-refl _

pub returns-then-is_over-leaves-clause-same : goal.returns-then-is_over-leaves-clause-same
returns-then-is_over-leaves-clause-same g c = let (told, voice, gone, once, grows, owes) = c.loop.invariant in (voice, once)

pub returns-then-is_over-leaves-clause-tells : goal.returns-then-is_over-leaves-clause-tells
returns-then-is_over-leaves-clause-tells g c = let (told, voice, gone, once, grows, owes) = c.loop.invariant in told

pub returns-then-is_over-leaves-clause-grows : goal.returns-then-is_over-leaves-clause-grows
returns-then-is_over-leaves-clause-grows g c = let (told, voice, gone, once, grows, owes) = c.loop.invariant in grows

pub returns-then-is_over-leaves-clause-gone : goal.returns-then-is_over-leaves-clause-gone
returns-then-is_over-leaves-clause-gone g c = let (told, voice, gone, once, grows, owes) = c.loop.invariant in c.now-self.ensures ∙ gone

pub returns-in-Err-clause-same : goal.returns-in-Err-clause-same
returns-in-Err-clause-same g c = let (told, voice, gone, once, grows, owes) = c.loop.invariant in (c.listen_for.ensures.same.0 ∙ voice, c.listen_for.ensures.same.1 ∙ once)

pub returns-in-Err-clause-owes : goal.returns-in-Err-clause-owes
returns-in-Err-clause-owes g c = λ start owed. tt

pub returns-in-Err-clause-gone : goal.returns-in-Err-clause-gone
returns-in-Err-clause-gone g c = let (told, voice, gone, once, grows, owes) = c.loop.invariant in c.now-self.ensures ∙ gone

pub returns-clause-same : goal.returns-clause-same
returns-clause-same g c = let (told, voice, gone, once, grows, owes) = c.loop.invariant in (voice, once)

pub returns-clause-tells : goal.returns-clause-tells
returns-clause-tells g c = let (told, voice, gone, once, grows, owes) = c.loop.invariant in told

pub returns-clause-grows : goal.returns-clause-grows
returns-clause-grows g c = let (told, voice, gone, once, grows, owes) = c.loop.invariant in grows

pub returns-clause-gone : goal.returns-clause-gone
returns-clause-gone g c = let (told, voice, gone, once, grows, owes) = c.loop.invariant in gone
