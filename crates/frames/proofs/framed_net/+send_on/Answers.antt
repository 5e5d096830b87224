use Rattle.std.proofs.Common.{List, ◌∷◌, ◌∙◌, refl, subst, sym}
use Rattle.std.proofs.lemmas.Bool.{eqb-false, eqb-true}
use Rattle.frames.specs.Outlets.{OutletModel}
use Rattle.frames.specs.Sendings.{AreSameWays, IsFrameOf, IsLongOn, KeepLongs, WaitOf}
use Rattle.frames.proofs.Logs.{grows-none, stays}
use Rattle.frames.proofs.SendsCarried.{adds-none, same-ways}
use Rattle.frames.proofs.framed_net.+send_on.Goals as goal

pub returns-then-eq-clause-sends : goal.returns-then-eq-clause-sends
returns-then-eq-clause-sends g t c = λ long sent of known stands numbered.
    let both = subst (λ (xs : List OutletModel). WaitOf sent xs) c.in-Some.ensures.cases.0 of in
    let longs = subst (λ (xs : List OutletModel). KeepLongs long xs) c.in-Some.ensures.cases.0 known in
    let numbers = subst (λ (xs : List OutletModel). IsLongOn long c.args.node c.args.packet.now xs (c.send.new.self ∷ c.in-Some.rest.now)) c.in-Some.ensures.cases.0 numbered in
    let one = c.send.ensures.sends long sent both.0 longs.0 stands (numbers.0 (sym c.node.ensures ∙ eqb-true _ _ (sym c.if-eq.ensures))) in
    (one.0, (one.1, both.1), (one.2, longs.1))

pub returns-then-eq-clause-ways : goal.returns-then-eq-clause-ways
returns-then-eq-clause-ways g t c =
    subst (λ (xs : List OutletModel). AreSameWays xs (c.send.new.self ∷ c.in-Some.rest.now)) (sym c.in-Some.ensures.cases.0) (c.send.ensures.node, c.send.ensures.next, same-ways c.in-Some.rest.now)

pub returns-clause-sends : goal.returns-clause-sends
returns-clause-sends g t c = λ long sent of known stands numbered.
    let both = subst (λ (xs : List OutletModel). WaitOf sent xs) c.in-Some.ensures.cases.0 of in
    let longs = subst (λ (xs : List OutletModel). KeepLongs long xs) c.in-Some.ensures.cases.0 known in
    let numbers = subst (λ (xs : List OutletModel). IsLongOn long c.args.node c.args.packet.now xs (c.in-Some.first.now ∷ c.send_on.new.outlets)) c.in-Some.ensures.cases.0 numbered in
    let others = c.send_on.ensures.sends long sent both.1 longs.1 stands (numbers.1 (λ is. eqb-false _ _ (sym c.if-eq.ensures) (c.node.ensures ∙ is))) in
    (others.0, (both.0, others.1), (longs.0, others.2))

pub returns-clause-failed : goal.returns-clause-failed
returns-clause-failed g t c = c.send_on.ensures.failed

pub returns-clause-unsent : goal.returns-clause-unsent
returns-clause-unsent g t c = c.send_on.ensures.unsent

pub returns-clause-grows : goal.returns-clause-grows
returns-clause-grows g t c = c.send_on.ensures.grows

pub returns-then-eq-clause-failed : goal.returns-then-eq-clause-failed
returns-then-eq-clause-failed g t c = c.send.ensures.failed

pub returns-then-eq-clause-unsent : goal.returns-then-eq-clause-unsent
returns-then-eq-clause-unsent g t c = c.send.ensures.unsent

pub returns-then-eq-clause-grows : goal.returns-then-eq-clause-grows
returns-then-eq-clause-grows g t c = c.send.ensures.grows

pub returns-clause-ways : goal.returns-clause-ways
returns-clause-ways g t c = subst (λ (xs : List OutletModel). AreSameWays xs (c.in-Some.first.now ∷ c.send_on.new.outlets)) (sym c.in-Some.ensures.cases.0) (refl, stays c.in-Some.first.now.longs.next, c.send_on.ensures.ways)

pub returns-in_default-clause-grows : goal.returns-in_default-clause-grows
returns-in_default-clause-grows g t c = grows-none (g.N.Net.log c.args.net.now)

pub returns-in_default-clause-sends : goal.returns-in_default-clause-sends
returns-in_default-clause-sends g t c = λ long sent of known stands numbered. (adds-none (IsFrameOf c.args.seal.now long sent) (g.N.Net.log c.args.net.now), of, known)

pub returns-in_default-clause-ways : goal.returns-in_default-clause-ways
returns-in_default-clause-ways g t c = same-ways c.args.outlets.now
