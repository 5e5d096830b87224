-- The members that run at the nodes, as those of a deployment, and as a system of agreement.
use Rattle.std.proofs.Common.{◌≡◌, ℕ, Bool, true, false, cond, Option, Some, None, List, refl, sym, ap, ◌∙◌, subst, nat_eq}
use Rattle.std.specs.Option.{option_and_then}
use Rattle.std.proofs.lemmas.Bool.{cond-true, cond-false, eqb-true}
use Rattle.address.specs.Ids.{Address, same_address}
use Rattle.address.proofs.SameIds.{same_address-true, same_address-refl}
use Rattle.trace_props.specs.declared.event.Event.{Event}
use Rattle.law_acts.specs.Cores.{Core}
use Rattle.law_acts.specs.Steps.{System}
use Rattle.member.specs.Members.{MemberModel, core_of}
use Rattle.law_processes.specs.Deployments.{with_member}
use Rattle.law_processes.proofs.PostsAreSpelled.{posts_in}
use Rattle.world.specs.declared.node_state.NodeState.{NodeState}
use Rattle.world.specs.declared.node_state.NodeState.TheVariants.{Ended, Running}
use Rattle.world.specs.NodeStates.{member_here}
use Rattle.world.specs.Turns.{SameNodeStates, OthersStand}

module _ {S : Type 0} where
  -- the members that run at these nodes
  abbrev pub members : (ℕ → NodeState S) → Address → Option (MemberModel S)
  members at p = member_here p (at p.node)

  -- and by what they decide, as a system of agreement
  abbrev pub core_here : Address → NodeState S → Option (Core S)
  core_here p s = option_and_then core_of (member_here p s)

  abbrev pub runs : (ℕ → NodeState S) → Address → Option (Core S)
  runs at p = core_here p (at p.node)

  abbrev pub system_of : (ℕ → NodeState S) → List (List ℕ) → List Event → System S
  system_of at pool t = record { running = runs at; history = record { pool = posts_in pool; trace = t } }

  -- nobody but this one runs at a node
  abbrev pub OnlyHere : Address → NodeState S → Type 0
  OnlyHere p s = (q : Address) → same_address q p ≡ false → member_here q s ≡ None

  pub only-ended : (p r : Address) → OnlyHere p (Ended r)
  only-ended p r q e = refl

  pub only-running : (p : Address) (m : MemberModel S) → m.address ≡ p → OnlyHere p (Running m)
  only-running p m is q e = cond-false (same_address q m.address) (Some m) None (ap (same_address q) is ∙ e)

  pub member-running : (p : Address) (m : MemberModel S) → m.address ≡ p → member_here p (Running m) ≡ Some m
  member-running p m is = cond-true (same_address p m.address) (Some m) None (ap (same_address p) is ∙ same_address-refl p)

  pub core-running : (p : Address) (m : MemberModel S) → m.address ≡ p → core_here p (Running m) ≡ core_of m
  core-running p m is = ap (option_and_then core_of) (member-running p m is)

  module _ (at new : ℕ → NodeState S) (p : Address) where
    apart : (q : Address) → OnlyHere p (at p.node) → OnlyHere p (new p.node) → OthersStand p.node at new → same_address q p ≡ false
        → (b : Bool) → nat_eq p.node q.node ≡ b → members new q ≡ members at q
    apart q old now others e true b =
        let node : p.node ≡ q.node = eqb-true p.node q.node b in
        subst (λ (m : ℕ). member_here q (new m) ≡ member_here q (at m)) node (now q e ∙ sym (old q e))
    apart q old now others e false b = ap (member_here q) (others q.node b)

    seen : (q : Address) → OnlyHere p (at p.node) → OnlyHere p (new p.node) → OthersStand p.node at new
        → (b : Bool) → same_address q p ≡ b → members new q ≡ cond b (member_here p (new p.node)) (members at q)
    seen q old now others true e = ap (members new) (same_address-true q p e)
    seen q old now others false e = apart q old now others e (nat_eq p.node q.node) refl

    -- where one member goes on, the members that run are those before with that one changed
    pub members-with : OnlyHere p (at p.node) → OnlyHere p (new p.node) → OthersStand p.node at new → members new ≡ with_member p (member_here p (new p.node)) (members at)
    members-with old now others = λ i q. seen q old now others (same_address q p) refl i

  -- all nodes stand as they stood where one node does and the others do
  pub same-at : (at new : ℕ → NodeState S) (n : ℕ) → OthersStand n at new → new n ≡ at n → SameNodeStates at new
  same-at at new n others is k = by (nat_eq n k) refl
    where
      by : (b : Bool) → nat_eq n k ≡ b → new k ≡ at k
      by true b = subst (λ (j : ℕ). new j ≡ at j) (eqb-true n k b) is
      by false b = others k b

  pub members-same : (at new : ℕ → NodeState S) → SameNodeStates at new → members new ≡ members at
  members-same at new same = λ i q. member_here q (same q.node i)
