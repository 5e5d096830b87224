use Rattle.std.proofs.Common.{◌∷◌, ◌∙◌, refl, subst, sym, List}
use Rattle.frames.specs.Outlets.{OutletModel}
use Rattle.frames.specs.Sendings.{AreSameWays, IsFrameOf, KeepLongs, WaitOf}
use Rattle.frames.proofs.GatheredSends.{ways-on}
use Rattle.frames.proofs.Logs.{grows-none, grows-on, up}
use Rattle.frames.proofs.SendsCarried.{adds-none, adds-on, same-ways}
use Rattle.frames.proofs.framed_net.+flush_all.Goals as goal

pub returns-clause-sends : goal.returns-clause-sends
returns-clause-sends g t c = λ long sent of known.
    let both = subst (λ (xs : List OutletModel). WaitOf sent xs) c.in-Some.ensures.cases.0 of in
    let longs = subst (λ (xs : List OutletModel). KeepLongs long xs) c.in-Some.ensures.cases.0 known in
    let one = c.flush_first.ensures.sends long sent both longs in
    let others = c.flush_all.ensures.sends long sent one.1.1 one.2.1 in (
      adds-on (IsFrameOf c.args.seal.now long sent) (g.N.Net.log c.args.net.now) (g.N.Net.log c.flush_first.new.net) (g.N.Net.log c.flush_all.new.net) one.0 others.0,
      (one.1.0, others.1),
      (one.2.0, others.2),
    )

pub returns-clause-ways : goal.returns-clause-ways
returns-clause-ways g t c =
    let one = c.flush_first.ensures.ways in
    subst (λ (xs : List OutletModel). AreSameWays xs (c.flush_first.new.first ∷ c.flush_all.new.outlets)) (sym c.in-Some.ensures.cases.0)
    (one.0, one.1, ways-on c.in-Some.rest.now c.flush_first.new.rest c.flush_all.new.outlets one.2 c.flush_all.ensures.ways)

pub returns-clause-grows : goal.returns-clause-grows
returns-clause-grows g t c =
    grows-on (g.N.Net.log c.args.net.now) (g.N.Net.log c.flush_first.new.net) (g.N.Net.log c.flush_all.new.net)
    c.flush_first.ensures.grows c.flush_all.ensures.grows

pub returns-in_default-clause-grows : goal.returns-in_default-clause-grows
returns-in_default-clause-grows g t c = grows-none (g.N.Net.log c.args.net.now)

pub returns-in_default-clause-ways : goal.returns-in_default-clause-ways
returns-in_default-clause-ways g t c = same-ways c.args.outlets.now

pub returns-clause-failed : goal.returns-clause-failed
returns-clause-failed g t c = c.flush_all.ensures.failed ∙ c.flush_first.ensures.failed

pub returns-clause-unsent : goal.returns-clause-unsent
returns-clause-unsent g t c = up _ _ _ _ c.flush_first.ensures.unsent refl c.flush_all.ensures.unsent

pub returns-in_default-clause-sends : goal.returns-in_default-clause-sends
returns-in_default-clause-sends g t c = λ long sent of known. (adds-none (IsFrameOf c.args.seal.now long sent) (g.N.Net.log c.args.net.now), of, known)
