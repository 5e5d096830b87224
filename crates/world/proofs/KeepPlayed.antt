-- What happens at a node is steps of a deployment: a call with its input, a start, a crash, or a start and a crash.
use Rattle.std.proofs.Common.{◌≡◌, ℕ, Bool, true, false, cond, Option, Some, None, Ok, List, [], ◌∷◌, ◌++◌, map, is_some, refl, sym, ap, ◌∙◌, subst}
use Rattle.std.proofs.lemmas.List.{append-nil, append_assoc}
use Rattle.address.specs.Ids.{Address, IsAddress, same_address}
use Rattle.address.proofs.SameIds.{same_address-refl}
use Rattle.state_transfer.specs.Meanings.{Meaning}
use Rattle.trace_props.specs.declared.event.Event.{Event}
use Rattle.trace_props.specs.declared.event.Event.TheVariants.{Started, Crashed}
use Rattle.trace_props.specs.Observed.{has_started}
use Rattle.member.specs.declared.input.Input.{Input}
use Rattle.member.specs.Members.{MemberModel}
use Rattle.member.specs.Handling.{Handled}
use Rattle.step_output.specs.declared.output.Output.{Output}
use Rattle.law_processes.specs.Deployments.{Step, Start, Call, Crash, Deployment, with_member, whose, left_with, puts_of, happens_by, after, running_on, IsNew, DoesSo, StartsOnce, HandsOver, MayBeHanded, IsPlayed, bytes_of}
use Rattle.world_model.specs.Packets.{world_group}
use Rattle.world.specs.declared.node_state.NodeState.{NodeState}
use Rattle.world.specs.NodeStates.{member_here, deployment_of}
use Rattle.world.specs.Turns.{SameNodeStates, OthersStand}
use Rattle.world.proofs.MembersAsSystem.{OnlyHere, members, members-with, members-same}
use Rattle.law_processes.proofs.DeploymentsGoOn.{step-plays}
use Rattle.law_processes.proofs.NewMembers.{new_member, is-new}

module _ {S : Type 0} (meaning : Meaning S) where
  -- a world's deployment was played
  abbrev pub Plays : (ℕ → NodeState S) → List (List ℕ) → List Event → Type 0
  Plays at pool t = IsPlayed meaning world_group (deployment_of at pool t)

  -- what stands at a node before and after: nobody but this member of the node ran or runs there
  pub record Moves (at new : ℕ → NodeState S) (n : ℕ) (p : Address) (old : NodeState S) (now : NodeState S) : Type 0 where
    pub node : p.node ≡ n
    pub was : at n ≡ old
    pub is : new n ≡ now
    pub only_old : OnlyHere p old
    pub only_now : OnlyHere p now
    pub others : OthersStand n at new

  abbrev made : (Address → Option (MemberModel S)) → List (List ℕ) → List Event → Deployment S
  made ms pool t = record { members = ms; offered = pool; trace = t }

  -- where nothing changes
  pub same-plays : (at new : ℕ → NodeState S) (pool : List (List ℕ)) (t : List Event) → SameNodeStates at new → Plays at pool t → Plays new (pool ++ []) (t ++ [])
  same-plays at new pool t same y =
      subst (IsPlayed meaning world_group) (λ i. made (sym (members-same at new same) i) (sym (append-nil pool) i) (sym (append-nil t) i)) y

  module _ (at new : ℕ → NodeState S) (n : ℕ) (p : Address) (old now : NodeState S) (x : Moves at new n p old now) where
    -- who ran, and who runs
    pub ran : members at p ≡ member_here p old
    ran = ap (λ (k : ℕ). member_here p (at k)) x.node ∙ ap (member_here p) x.was

    goes : member_here p (new p.node) ≡ member_here p now
    goes = ap (λ (k : ℕ). member_here p (new k)) x.node ∙ ap (member_here p) x.is

    moved : members new ≡ with_member p (member_here p now) (members at)
    moved =
        members-with at new p
        (subst (OnlyHere p) (sym (ap (λ (k : ℕ). at k) x.node ∙ x.was)) x.only_old)
        (subst (OnlyHere p) (sym (ap (λ (k : ℕ). new k) x.node ∙ x.is)) x.only_now)
        (subst (λ (k : ℕ). OthersStand k at new) (sym x.node) x.others)
        ∙ ap (λ (o : Option (MemberModel S)). with_member p o (members at)) goes

    -- the deployment that the world is afterwards
    to-world : (ms : Address → Option (MemberModel S)) (pool : List (List ℕ)) (t : List Event) → ms ≡ with_member p (member_here p now) (members at) → IsPlayed meaning world_group (made ms pool t) → Plays new pool t
    to-world ms pool t e y = subst (λ (r : Address → Option (MemberModel S)). IsPlayed meaning world_group (made r pool t)) (e ∙ sym moved) y

    module _ (pool : List (List ℕ)) (t : List Event) (y : Plays at pool t) where
      -- one step of this member
      one-plays : (step : Step S) (end : Option (MemberModel S)) → end ≡ member_here p now → with_member (whose step) (left_with step) (members at) ≡ with_member p end (members at)
          → DoesSo meaning world_group (deployment_of at pool t) step → StartsOnce (deployment_of at pool t) step → HandsOver world_group (deployment_of at pool t) step
          → Plays new (pool ++ puts_of step) (t ++ happens_by step)
      one-plays step end e is does once over =
          to-world (with_member (whose step) (left_with step) (members at)) (pool ++ puts_of step) (t ++ happens_by step)
          (is ∙ ap (λ (o : Option (MemberModel S)). with_member p o (members at)) e) (step-plays meaning world_group (deployment_of at pool t) step y does once over)

      -- ---- it took an input, which may be handed to it
      pub call-plays : (m left : MemberModel S) (input : Input) (out : Output) → member_here p old ≡ Some m → running_on left ≡ member_here p now → Handled meaning m input (Ok out) left
          → MayBeHanded world_group pool input → Plays new (pool ++ map bytes_of out.packets.items) (t ++ out.events.items)
      call-plays m left input out was is handled may =
          one-plays (Call p input (Ok out) left) (running_on left) is refl (record { member = m; runs = ran ∙ was; handled = handled }) tt may

      -- ---- it crashed
      pub crash-plays : (m : MemberModel S) → member_here p old ≡ Some m → None ≡ member_here p now → Plays new (pool ++ []) (t ++ Crashed p ∷ [])
      crash-plays m was is = one-plays (Crash p) None is refl (ap is_some (ran ∙ was)) tt tt

      -- ---- it started
      pub start-plays : (m : MemberModel S) → IsNew meaning world_group p m → Some m ≡ member_here p now → has_started p t ≡ false → Plays new (pool ++ []) (t ++ Started p ∷ [])
      start-plays m fresh is once = one-plays (Start p m) (Some m) is refl fresh once tt

      -- ---- or it started and crashed
      again-by : (b : Bool) (u v w : Option (MemberModel S)) → cond b u (cond b v w) ≡ cond b u w
      again-by true u v w = refl
      again-by false u v w = refl

      pub fail-plays : IsAddress p → None ≡ member_here p now → has_started p t ≡ false → Plays new (pool ++ []) (t ++ Started p ∷ Crashed p ∷ [])
      fail-plays real is once =
          let m = new_member meaning world_group p in
          let d = after (deployment_of at pool t) (Start p m) in
          let one = step-plays meaning world_group (deployment_of at pool t) (Start p m) y (is-new meaning world_group p real) once tt in
          let two = step-plays meaning world_group d (Crash p) one (ap (λ (b : Bool). is_some (cond b (Some m) (members at p))) (same_address-refl p)) tt tt in
          subst (IsPlayed meaning world_group) (λ i. made (sym moved i) (append-nil (pool ++ []) i) (append_assoc t (Started p ∷ []) (Crashed p ∷ []) i))
          (subst (λ (r : Address → Option (MemberModel S)). IsPlayed meaning world_group (made r ((pool ++ []) ++ []) ((t ++ Started p ∷ []) ++ Crashed p ∷ [])))
          ((λ i q. again-by (same_address q p) None (Some m) (members at q) i) ∙ ap (λ (o : Option (MemberModel S)). with_member p o (members at)) is) two)
