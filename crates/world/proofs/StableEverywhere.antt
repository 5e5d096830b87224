-- What a member of a world knows to be stable each member of its view has delivered.
use Rattle.std.proofs.Common.{◌≡◌, ℕ, Option, None, Some, List, refl, sym, ap, ◌∙◌, subst}
use Rattle.std.specs.Option.{IsSomeAnd, option_map_or, option_and_then}
use Rattle.std.proofs.lemmas.Option.{none-some, same_Some}
use Rattle.address.specs.Ids.{Address, ViewId}
use Rattle.view.specs.Members.{View}
use Rattle.state_transfer.specs.Meanings.{Meaning}
use Rattle.trace_props.specs.declared.event.Event.{Event}
use Rattle.trace_props.specs.Observed.{current_view}
use Rattle.law_acts.specs.Cores.{Core, id_of}
use Rattle.law_acts.specs.Known.{AllDelivered, Knows}
use Rattle.law_acts.specs.Members.{installed_as}
use Rattle.member.specs.Members.{MemberModel, core_of}
use Rattle.world_model.specs.Histories.{running}
use Rattle.world.specs.declared.node_state.NodeState.TheVariants.{Running}
use Rattle.world.specs.Worlds.{WorldModel}
use Rattle.world.specs.Known.{MembersKnow, IsStableAt}

module _ {S : Type 0} (meaning : Meaning S) (t : List Event) (p : Address) where
  -- its view is the one that the trace says
  same-view : (c : Core S) → Knows meaning t p c → (o : Option View) → c.view ≡ o → (v : View) → option_and_then (λ (i : ViewId). installed_as p i t) (current_view p t) ≡ Some v → AllDelivered t v c.view_state.stable
  same-view c k None e v at = absurd (none-some v (sym (ap (option_and_then (λ (i : ViewId). installed_as p i t)) (k.current ∙ ap id_of e)) ∙ at))
  same-view c k (Some u) e v at =
      let is : Some u ≡ Some v = sym (k.installed u e) ∙ sym (ap (option_and_then (λ (i : ViewId). installed_as p i t)) (k.current ∙ ap id_of e)) ∙ at in
      subst (λ (w : View). AllDelivered t w c.view_state.stable) (same_Some u v is) (k.stable u e)

  stable-by : (o : Option (Core S)) → IsSomeAnd o (Knows meaning t p) → (v : View) → option_and_then (λ (i : ViewId). installed_as p i t) (current_view p t) ≡ Some v
      → AllDelivered t v (option_map_or (λ (c : Core S). c.view_state.stable) o 0)
  stable-by None k v at = absurd k
  stable-by (Some c) k v at = same-view c k c.view refl v at

pub stable-is : {S : Type 0} (meaning : Meaning S) (w : WorldModel S) (n : ℕ) (m : MemberModel S) → MembersKnow meaning w → w.node_states n ≡ Running m → running n w.history.trace ≡ Some m.address
    → IsStableAt n w.history.trace (option_map_or (λ (c : Core S). c.view_state.stable) (core_of m) 0)
stable-is meaning w n m know there runs v at =
    stable-by meaning w.history.trace m.address (core_of m) (know n m there) v
    (sym (ap (option_and_then (λ (p : Address). option_and_then (λ (i : ViewId). installed_as p i w.history.trace) (current_view p w.history.trace))) runs) ∙ at)
