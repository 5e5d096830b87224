use Rattle.std.proofs.Common.{◌≡◌, ◌++◌, ◌∙◌, ap, drop, length, refl, sym, subst, take, ℕ, List}
use Rattle.std.proofs.Math.Seq.{take-append_seam}
use Rattle.frames.specs.Outlets.{OutletModel}
use Rattle.frames.specs.Sendings.{AreSameWays, IsLongOn, KeepLongs, WaitOf}
use Rattle.frames.proofs.KeepsCame.{keeps-on}
use Rattle.frames.proofs.framed_net.FramedNetNet.send.Goals as goal

pub invariant_of-self : goal.invariant_of-self
invariant_of-self g c =
    keeps-on (g.N.Net.log c.self.inside.inner) (g.N.Net.log c.send_on-lost.new.net) c.self.inside.seal.key c.self.inside.opener c.send_on-lost.ensures.grows c.self.invariant

pub returns-clause-sends : goal.returns-clause-sends
returns-clause-sends g c = rw (← c.self.view_is) (
    let old : List OutletModel = c.self.inside.outlets.items in
    let new : List OutletModel = c.send_on-lost.new.outlets in
    let rest : List OutletModel = drop (length new) old in
    let whole : take c.self.inside.outlets.len (new ++ rest) ≡ new =
    ap (λ (n : ℕ). take n (new ++ rest)) (sym (c.send_on-lost.auto.outlets ∙ c.as_mut_slice.ensures.len)) ∙ take-append_seam new rest in
    record {
      sends = λ long sent of known stands numbered.
          let here =
          subst (λ (xs : List OutletModel). IsLongOn long c.args.node c.args.bytes.now xs new) (sym c.as_mut_slice.ensures.value)
          (subst (λ (xs : List OutletModel). IsLongOn long c.args.node c.args.bytes.now old xs) whole numbered) in
          let all =
          c.send_on-lost.ensures.sends long sent (subst (λ (xs : List OutletModel). WaitOf sent xs) (sym c.as_mut_slice.ensures.value) of)
          (subst (λ (xs : List OutletModel). KeepLongs long xs) (sym c.as_mut_slice.ensures.value) known) stands here in
          (all.0, subst (λ (xs : List OutletModel). WaitOf sent xs) (sym whole) all.1, subst (λ (xs : List OutletModel). KeepLongs long xs) (sym whole) all.2);
      ways = subst (λ (xs : List OutletModel). AreSameWays old xs) (sym whole) (subst (λ (xs : List OutletModel). AreSameWays xs new) c.as_mut_slice.ensures.value c.send_on-lost.ensures.ways);
      same = record { node = refl; seal = refl };
    })
