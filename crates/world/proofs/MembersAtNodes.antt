-- What is known of a running member: by its node, and by agreement.
use Rattle.std.proofs.Common.{◌≡◌, ℕ, ◌+◌, false, Option, Some, None, List, length, refl, sym, ap, ◌∙◌, subst, arith, length-append}
use Rattle.std.specs.Option.{IsSomeAnd, option_map_or, option_and_then}
use Rattle.address.specs.Ids.{Address}
use Rattle.view.specs.Members.{View}
use Rattle.state_transfer.specs.Meanings.{Meaning}
use Rattle.trace_props.specs.declared.event.Event.{Event}
use Rattle.trace_props.specs.Observed.{has_ended, current_view, sent_in, delivered_in, own}
use Rattle.law_acts.specs.Cores.{Core, id_of}
use Rattle.law_acts.specs.Members.{MemberFact, ViewFact}
use Rattle.law_acts.proofs.OrderedDeliveries.{many-delivered}
use Rattle.member.specs.declared.error.Error.{Error}
use Rattle.address.specs.declared.refusal.Refusal.TheVariants.{Closed}
use Rattle.member.specs.declared.error.Error.TheVariants.{Refused}
use Rattle.member.specs.declared.input.Input.{Input}
use Rattle.member.specs.Members.{MemberModel, core_of, refusal_in, refusal_of}
use Rattle.world_model.specs.Histories.{History, last_of, is_connected, running}
use Rattle.world_model.specs.Packets.{world_group}
use Rattle.world_model.specs.Faithful.{outstanding, AtMember}
use Rattle.world_model.specs.declared.Answer.{Answer}
use Rattle.world.specs.declared.node_state.NodeState.{NodeState}
use Rattle.world.specs.declared.node_state.NodeState.TheVariants.{Running}
use Rattle.world.specs.Invariant.{IsNodeStateOf}
use Rattle.law_acts.proofs.KeepBySteps
use Rattle.law_acts.specs.Invariant.{Kept}
use Rattle.law_processes.proofs.KeepBySteps.{IsDeployment, IsHere}
use Rattle.law_processes.proofs.PostsAreSpelled.{posts_in}
use Rattle.world.specs.NodeStates.{deployment_of, member_here}
use Rattle.world.proofs.MembersAsSystem.{members, member-running, system_of}
use Rattle.law_processes.proofs.DeploymentsGoOn.{played-keeps}
use Rattle.world.proofs.KeepByTurn

-- the core of a member that runs
core-there : {S : Type 0} (o : Option (Core S)) (P : Core S → Type 0) → IsSomeAnd o P → (c : Core S) × (o ≡ Some c) × P c
core-there None P x = absurd x
core-there (Some c) P x = (c, refl, x)

module _ {S : Type 0} (meaning : Meaning S) where
  -- a node's running member
  pub record Runs (h : History) (n : ℕ) (m : MemberModel S) (c : Core S) : Type 0 where
    pub last : last_of n h.trace ≡ Some m.address
    pub node : m.address.node ≡ n
    pub core : core_of m ≡ Some c
    pub joined : is_connected n h ≡ c.connected
    pub fact : MemberFact meaning (record { pool = posts_in h.pool; trace = h.trace }) m.address c

  -- it is the member of its address in the deployment
  pub member-at : (at : ℕ → NodeState S) (h : History) (n : ℕ) (m : MemberModel S) → KeepByTurn.World meaning at h → at n ≡ Running m → m.address.node ≡ n → members at m.address ≡ Some m
  member-at at h n m w there node = subst (λ (k : ℕ). member_here m.address (at k) ≡ Some m) (sym node) (ap (member_here m.address) there ∙ member-running m.address m refl)

  -- what deployments keep
  pub deployed : (laws : KeepBySteps.Laws meaning) (at : ℕ → NodeState S) (h : History) → KeepByTurn.World meaning at h → IsDeployment meaning laws world_group (deployment_of at h.pool h.trace)
  deployed laws at h w = played-keeps meaning world_group laws (deployment_of at h.pool h.trace) w.played

  -- among them: it is of the world's group, and what holds of a member between its calls holds of it
  pub is-here : (laws : KeepBySteps.Laws meaning) (at : ℕ → NodeState S) (h : History) (n : ℕ) (m : MemberModel S) → KeepByTurn.World meaning at h → at n ≡ Running m → m.address.node ≡ n → IsHere world_group m.address m
  is-here laws at h n m w there node = (deployed laws at h w).here m.address m (member-at at h n m w there node)

  pub agreed : KeepBySteps.Laws meaning → (at : ℕ → NodeState S) (h : History) → KeepByTurn.World meaning at h → Kept meaning (system_of at h.pool h.trace)
  agreed laws at h w = (deployed laws at h w).agreed

  pub running-here : KeepBySteps.Laws meaning → (at : ℕ → NodeState S) (h : History) (n : ℕ) (m : MemberModel S) → KeepByTurn.World meaning at h → at n ≡ Running m → (c : Core S) × Runs h n m c
  running-here laws at h n m w there =
      let k : IsNodeStateOf n (last_of n h.trace) (is_connected n h) h.trace (Running m) = subst (IsNodeStateOf n (last_of n h.trace) (is_connected n h) h.trace) there (w.node_states n) in
      let x = core-there (core_of m) (λ c. is_connected n h ≡ c.connected) k.2 in (
        x.0,
        record {
          last = k.0;
          node = k.1;
          core = x.1;
          joined = x.2;
          fact = (agreed laws at h w).agreed.members m.address x.0 (ap (option_and_then core_of) (member-at at h n m w there k.1) ∙ x.1);
        },
      )

  module _ (h : History) (n : ℕ) (m : MemberModel S) (c : Core S) (x : Runs h n m c) where
    pub going : has_ended m.address h.trace ≡ false
    going = x.fact.standing.running.going

    pub is-running : running n h.trace ≡ Some m.address
    is-running = rw (x.last, going) refl

    pub at-member : (a : Answer) (s : List Event) (At : Address → Type 0) → At m.address → AtMember n h a s At
    at-member a s At y = rw (x.last, going) y

    pub connected : is_connected m.address.node h ≡ c.connected
    connected = ap (λ k. is_connected k h) x.node ∙ x.joined

    pub view-is : (o : Option View) → c.view ≡ o → current_view m.address h.trace ≡ id_of o
    view-is o e = x.fact.standing.current ∙ ap id_of e

    pub free-is : (input : Input) (o : Option Error) → refusal_of m input ≡ o → refusal_in c input ≡ o
    free-is input o e = sym (ap (λ (p : Option (Core S)). option_map_or (λ d. refusal_in d input) p (Some (Refused Closed))) x.core) ∙ e

    module _ (v : View) (inside : c.view ≡ Some v) where
      facts : ViewFact (record { pool = posts_in h.pool; trace = h.trace }) m.address c.installed c.view_state c.sent_installs v
      facts = x.fact.view v inside

      pub sent-count : length (sent_in m.address v.id h.trace) ≡ c.view_state.sent
      sent-count = facts.mine.count

      pub outstanding-is : outstanding m.address v.id h.trace ≡ length c.view_state.outstanding
      outstanding-is =
          let mine = own m.address (delivered_in m.address v.id h.trace) in
          let e : length (sent_in m.address v.id h.trace) ≡ length mine + length c.view_state.outstanding = ap length facts.mine.sent ∙ length-append mine c.view_state.outstanding in
          omega arith

      pub count-delivered : length (delivered_in m.address v.id h.trace) ≡ c.view_state.delivered
      count-delivered = sym (many-delivered m.address v.id h.trace) ∙ facts.counts.delivered_count
