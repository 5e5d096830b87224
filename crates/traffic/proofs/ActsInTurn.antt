-- One stretch of acts after another.
use Rattle.std.proofs.Common.{◌≡◌, Option, Some, [], ◌++◌, refl, ◌∙◌, subst}
use Rattle.view.specs.Members.{View}
use Rattle.state_transfer.specs.Meanings.{Meaning}
use Rattle.wire_values.specs.Posted.{Posted}
use Rattle.law_acts.specs.Cores.{ViewCore}
use Rattle.law_acts.proofs.LawsOfActs.{nothing-acted, then-acted}
use Rattle.step_output.proofs.GrowthAdds.{grows-nothing, grows-then}
use Rattle.traffic.specs.declared.coordinator.Coordinator.{Coordinator}
use Rattle.traffic.specs.declared.follower.Follower.{Follower}
use Rattle.traffic.specs.ViewStates.{coordinator_core, follower_core}
use Rattle.traffic.specs.Coordinators.{IsCoordinator}
use Rattle.traffic.specs.Goings.{Beside, open_core, Goes, CoordinatorGoes, FollowerGoes}
use Rattle.step_output.specs.Steps.{Who}
use Rattle.traffic.specs.InViews.{InView, in_view}

module _ {S : Type 0} (meaning : Meaning S) where
  nothing-goes : (came : Option Posted) (who : Who) (v : View) (a : InView ViewCore S) → Goes meaning came who v a a
  nothing-goes came who v a = record {
    posted = [];
    happened = [];
    acted = λ kept. nothing-acted meaning came (Some (open_core who.address v kept a.part a.state));
    grows = grows-nothing who.group a.out;
  }

  then-goes : (came : Option Posted) (who : Who) (v w : View) (a b c : InView ViewCore S) → w ≡ v → Goes meaning came who v a b → Goes meaning came who w b c → Goes meaning came who v a c
  then-goes came who v w a b c same x y =
      let z : Goes meaning came who v b c = subst (λ (r : View). Goes meaning came who r b c) same y in
      let core = λ (kept : Beside) (n : InView ViewCore S). Some (open_core who.address v kept n.part n.state) in
      record {
        posted = x.posted ++ z.posted;
        happened = x.happened ++ z.happened;
        acted = λ kept. then-acted meaning came (core kept a) (core kept b) (core kept c) x.posted z.posted x.happened z.happened (x.acted kept) (z.acted kept);
        grows = grows-then who.group a.out b.out c.out x.posted z.posted x.happened z.happened x.grows z.grows;
      }

  -- ---- the coordinator

  pub goes-nothing : (came : Option Posted) (who : Who) (a : InView Coordinator S) → IsCoordinator who.address a.part → CoordinatorGoes meaning came who a a
  goes-nothing came who a i = record { goes = nothing-goes came who a.part.view (in_view (coordinator_core a.part) a.state a.out); view = refl; coordinator = i }

  pub goes-then : (came : Option Posted) (who : Who) (a b c : InView Coordinator S) → CoordinatorGoes meaning came who a b → CoordinatorGoes meaning came who b c → CoordinatorGoes meaning came who a c
  goes-then came who a b c x y = record {
    goes = then-goes came who a.part.view b.part.view (in_view (coordinator_core a.part) a.state a.out) (in_view (coordinator_core b.part) b.state b.out) (in_view (coordinator_core c.part) c.state c.out)
        x.view x.goes y.goes;
    view = y.view ∙ x.view;
    coordinator = y.coordinator;
  }

  -- ---- another member

  pub other-nothing : (came : Option Posted) (who : Who) (a : InView Follower S) → FollowerGoes meaning came who a a
  other-nothing came who a = (nothing-goes came who a.part.view (in_view (follower_core a.part) a.state a.out), refl)

  pub other-then : (came : Option Posted) (who : Who) (a b c : InView Follower S) → FollowerGoes meaning came who a b → FollowerGoes meaning came who b c → FollowerGoes meaning came who a c
  other-then came who a b c x y = (
    then-goes came who a.part.view b.part.view (in_view (follower_core a.part) a.state a.out) (in_view (follower_core b.part) b.state b.out) (in_view (follower_core c.part) c.state c.out)
        x.1 x.0 y.0,
    y.1 ∙ x.1,
  )
