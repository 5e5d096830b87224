-- After an ORDER and a STATUS another member does not hold the number that comes next.
use Rattle.std.proofs.Common.{◌≡◌, ℕ, ◌+◌, Bool, true, false, cond, min, Option, None, List, refl, sym, ◌∙◌, subst}
use Rattle.std.specs.Prelude.{nat_lt, if◌then◌else◌}
use Rattle.address.specs.Ids.{Address, same_address}
use Rattle.view.specs.Members.{View}
use Rattle.wire_values.specs.Values.{Entry, Progress, held_at}
use Rattle.state_transfer.specs.Meanings.{Meaning}
use Rattle.nak_stream.specs.Windows.{WindowModel, collected, held_above}
use Rattle.nak_stream.proofs.Windows.{held_at-above}
use Rattle.step_output.specs.declared.output.Output.{Output}
use Rattle.traffic.specs.declared.follower.Follower.{Follower}
use Rattle.traffic.specs.declared.view_state.ViewState.TheVariants as kinds
use Rattle.traffic.specs.Followers.{collected_to}
use Rattle.traffic.specs.Takes.{TakesOrder, TakesStatus}
use Rattle.member_rules.specs.Ordered.{HasNoneNext, IsOrderly}
use Rattle.step_output.specs.Steps.{who}
use Rattle.traffic.specs.InViews.{in_view}

either : (b : Bool) (o : Option Entry) → o ≡ None → cond b o None ≡ None
either true o e = e
either false o e = refl

next-by : (b : Bool) (t : ℕ) (w : WindowModel) → HasNoneNext w → HasNoneNext (if b then record { stable = t; delivered = w.delivered; held = held_above t w.held } else w)
next-by true t w none = held_at-above (w.delivered + 1) t w.held ∙ either (nat_lt t (w.delivered + 1)) (held_at (w.delivered + 1) w.held) none
next-by false t w none = none

-- what is let go of is not held after it
next-collected : (t : ℕ) (w : WindowModel) → HasNoneNext w → HasNoneNext (collected t w)
next-collected t w none = next-by (nat_lt w.stable (min t w.delivered)) (min t w.delivered) w none

-- of the same view, with no number that comes next
pub other-orderly : (me : Address) (m n : Follower) → IsOrderly me (kinds.Follower m) → n.view ≡ m.view → HasNoneNext n.window → IsOrderly me (kinds.Follower n)
other-orderly me m n orderly same none = (subst (λ (v : View). same_address me v.id.creator ≡ false) (sym same) orderly.0, none)

-- ---- an ORDER

module _ {S : Type 0} (meaning : Meaning S) (me : Address) (group : List ℕ) where
  pub order-orderly : (g : ℕ) (e : Entry) (m : Follower) (s : S) (out : Output) (n : Follower) (t : S) (later : Output) → TakesOrder meaning (who me group) g e (in_view m s out) (in_view n t later) → n.view ≡ m.view
      → IsOrderly me (kinds.Follower m) → IsOrderly me (kinds.Follower n)
  order-orderly g e m s out n t later x same orderly = other-orderly me m n orderly same x.ready

-- ---- a STATUS

pub status-orderly : (me : Address) (group : List ℕ) (a : Progress) (m : Follower) (out : Output) (n : Follower) (later : Output) → TakesStatus (who me group) a m out n later
    → IsOrderly me (kinds.Follower m) → IsOrderly me (kinds.Follower n)
status-orderly me group a m out n later x orderly =
    subst (λ (o : Follower). IsOrderly me (kinds.Follower o)) (sym x.0) (other-orderly me m (collected_to a.stable m) orderly refl (next-collected a.stable m.window orderly.1))
