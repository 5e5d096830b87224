-- In a change of view a member's messages stay in order; and small facts that the kinds of packets share.
use Rattle.std.proofs.Common.{◌≡◌, ℕ, ◌+◌, ◌≤◌, Bool, true, false, ◌&&◌, Some, List, length, nat_le, sym, ap, ◌∙◌, subst, refl}
use Rattle.std.specs.Prelude.{if◌then◌else◌}
use Rattle.std.proofs.lemmas.Bool.{and_parts, leb-true}
use Rattle.std.proofs.lemmas.Option.{same_Some}
use Rattle.address.specs.declared.limits.TheConstants.{GREATEST_NUMBER, MEMBERS, WINDOW}
use Rattle.address.specs.Ids.{Address, same_address}
use Rattle.view.specs.Members.{View, stands_in}
use Rattle.wire_values.specs.Values as wire
use Rattle.wire_values.specs.Lists.{is_install, is_in_order}
use Rattle.traffic.specs.declared.view_state.ViewState.TheVariants as kinds
use Rattle.traffic.specs.ViewStates.{fresh_coordinator, fresh_follower, fresh_in}
use Rattle.traffic.proofs.NewViewTraffic.{fresh-is-coordinator, fresh-settled-in, fresh-rested, fresh-view}
use Rattle.membership.specs.declared.member_state.MemberState.{MemberState}
use Rattle.membership.specs.MemberStates.{IsMemberState, view_in}
use Rattle.member_rules.specs.Ordered.{IsOrderly, IsOrdered}
use Rattle.member_rules.proofs.KeepSteady.{Steady, Same, Fresh}
use Rattle.step_output.specs.Steps.{who}

fresh-by : (b : Bool) (me : Address) (v : View) → same_address me v.id.creator ≡ b → stands_in me v.members ≡ true
    → IsOrderly me (if b then kinds.Coordinator (fresh_coordinator v) else kinds.Follower (fresh_follower v))
fresh-by true me v own there = (fresh-is-coordinator me v own, fresh-settled-in me v there, fresh-rested v)
fresh-by false me v own there = (own, refl)

-- it keeps what it keeps of its view, or begins a view anew
pub steady-ordered : {S : Type 0} (group : List ℕ) (me : Address) (old new : MemberState S) → Steady me old new → IsMemberState (who me group) new → IsOrdered me old → IsOrdered me new
steady-ordered group me old new (Same e) member_state ordered = λ t is. ordered t (sym e ∙ is)
steady-ordered group me old new (Fresh w e) member_state ordered = λ t is.
    subst (IsOrderly me) (same_Some (fresh_in me w) t (sym e ∙ is))
    (fresh-by (same_address me w.id.creator) me w refl (member_state.inside w (ap view_in e ∙ ap Some (fresh-view me w))))

-- an INSTALL has at most as many entries as the window has places
few-by : (n : ℕ) (x y b d : Bool) → (x && y && b && nat_le n WINDOW && d) ≡ true → n ≤ WINDOW
few-by n x y b d e =
    let p = and_parts (x && y && b && nat_le n WINDOW) d e in
    leb-true n WINDOW (and_parts (x && y && b) (nat_le n WINDOW) p.0).1

pub items-few : (i : wire.Install) → is_install i ≡ true → length i.items ≤ WINDOW
items-few i e =
    few-by (length i.items) (nat_le 1 (length i.together)) (nat_le (length i.together) MEMBERS) (is_in_order i.together i.view.members) (nat_le (i.base + length i.items) GREATEST_NUMBER) e
