-- What a step does in a view may be done there.
use Rattle.std.proofs.Common.{◌≡◌, ℕ, Bool, true, false, ◌&&◌, Option, Some, None, List, refl, sym, subst, ap, ◌∙◌, unwrap_or, if◌then◌else◌}
use Rattle.std.specs.Option.{is_some}
use Rattle.udp_net.specs.declared.word.Neighbour.{Neighbour}
use Rattle.node_finding.specs.declared.ranks.Offer.{Offer}
use Rattle.node_finding.specs.declared.ranks.Moment.{Moment}
use Rattle.node_finding.specs.declared.finding.Finder.{Finder}
use Rattle.node_finding.specs.declared.finding.Standing.{Standing}
use Rattle.node_finding.specs.declared.finding.Step.{Step}
use Rattle.node_finding.specs.declared.finding.Step.TheVariants.{Stay, Again}
use Rattle.node_finding.specs.declared.finding.TheConstants.{GIVE}
use Rattle.node_finding.specs.Ranks.{IsGreatest, outranks, told}
use Rattle.node_finding.specs.Finding.{MayDoInView, StepsInView, greater_than, is_ago, rank_there, wanted_after, way_of}

module _ (old : Finder) (m : Moment) (at : Standing) (nodes : List Neighbour) where
  -- the greatest view is greater than its own, or not
  by_greater : (best : Offer) (greater : Bool) → IsGreatest (told m (Some at.view) nodes) (Some best) → outranks best.rank (rank_there old m at nodes) ≡ greater
      → MayDoInView old m nodes at (way_of old.tick m.time (wanted_after old.wanted m.time (is_some (if greater then Some best else None))) (if greater then Some best else None))
  by_greater best false is e = tt
  by_greater best true is e = by best.stays (is_ago old.tick m.time (unwrap_or old.wanted m.time) GIVE) refl refl
    where
      by : (stays long : Bool) → best.stays ≡ stays → is_ago old.tick m.time (unwrap_or old.wanted m.time) GIVE ≡ long → MayDoInView old m nodes at (if stays && long then Again else Stay)
      by true true s l = record { best = best; greatest = is; greater = e; stays = s; wanted = l }
      by true false s l = tt
      by false long s l = tt

  by_best : (best : Option Offer) → IsGreatest (told m (Some at.view) nodes) best
      → MayDoInView old m nodes at (way_of old.tick m.time (wanted_after old.wanted m.time (is_some (greater_than (rank_there old m at nodes) best))) (greater_than (rank_there old m at nodes) best))
  by_best None is = tt
  by_best (Some best) is = by_greater best (outranks best.rank (rank_there old m at nodes)) is refl

  pub steps-may : (new : Finder) (step : Step) → StepsInView old new m at nodes step → MayDoInView old m nodes at step
  steps-may new step s =
      subst (MayDoInView old m nodes at) (sym (s.gives ∙ ap (λ (w : Option ℕ). way_of old.tick m.time w (greater_than (rank_there old m at nodes) s.best)) s.wants)) (by_best s.best s.greatest)
