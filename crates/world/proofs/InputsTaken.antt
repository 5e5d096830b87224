-- An input that is handed to a running member, for any event: what has to be known of the event, and the turn that it is then.
use Rattle.std.proofs.Common.{◌≡◌, ℕ, true, false, Bool, cond, Option, Some, None, Result, Ok, Err, List, [], ◌∷◌, ◌++◌, map, nat_eq, inl, inr, refl, sym, ap, ◌∙◌, subst}
use Rattle.std.specs.Prelude.{MatchBool}
use Rattle.std.proofs.lemmas.List.{append-nil}
use Rattle.std.proofs.lemmas.Option.{none-some}
use Rattle.address.specs.Ids.{Address}
use Rattle.state_transfer.specs.Meanings.{Meaning}
use Rattle.trace_props.specs.declared.event.Event.{Event}
use Rattle.trace_props.specs.declared.event.Event.TheVariants.{Crashed}
use Rattle.trace_props.specs.Observed.{has_ended}
use Rattle.trace_props.proofs.ObservedGrow.{has_ended-now}
use Rattle.law_acts.specs.Cores.{Core}
use Rattle.law_acts.specs.Chains.{Acted}
use Rattle.law_acts.proofs.KeepBySteps
use Rattle.member.specs.declared.error.Error.{Error}
use Rattle.member.specs.declared.error.Error.TheVariants as error
use Rattle.member.specs.declared.input.Input.{Input}
use Rattle.step_output.specs.declared.output.Output.{Output}
use Rattle.member.specs.Errors.{is_memory}
use Rattle.member.specs.Members.{MemberModel, core_of, leaves, came_at, refusal_in, refusal_of, is_unreadable}
use Rattle.member.specs.Handling.{Handled}
use Rattle.world_model.specs.declared.WorldEvent.{WorldEvent}
use Rattle.world_model.specs.declared.Answer.{Answer}
use Rattle.world_model.specs.declared.Answer.TheVariants.{Refused}
use Rattle.address.specs.declared.refusal.Refusal.{Refusal}
use Rattle.address.specs.declared.refusal.Refusal.TheVariants.{Memory}
use Rattle.address.specs.declared.refusal.Refusal.TheVariants as refusal
use Rattle.address.specs.Refusals as refusals
use Rattle.world_model.specs.Histories.{History, last_of, is_connected, connects_after}
use Rattle.world_model.specs.Faithful.{Answers, SendsPromptly}
use Rattle.world.specs.declared.node_state.NodeState.{NodeState}
use Rattle.world.specs.declared.node_state.NodeState.TheVariants.{Ended, Running}
use Rattle.law_processes.specs.Deployments.{MayBeHanded, running_on}
use Rattle.world_model.specs.Packets.{world_group}
use Rattle.world.specs.NodeStates.{member_here, deployment_of, bytes_of, answer_for, is_closed, answer_to}
use Rattle.world.specs.Turns.{about, OthersStand, Takes, Crashes, Refuses, CallGives, HandsHere}
use Rattle.world.specs.Invariant.{IsMember, IsNodeStateOf}
use Rattle.world.proofs.NodesConnected.{refused-prompt}
use Rattle.law_processes.proofs.ActsAreOwn.{EachOwn, own-acted}
use Rattle.world.proofs.TracesOfNodes.{last_of-own, starts-own}
use Rattle.world.proofs.MembersAsSystem.{OnlyHere, only-ended, only-running, member-running, same-at, members}
use Rattle.world.proofs.KeepByTurn
use Rattle.world.proofs.MembersAtNodes
use Rattle.world.proofs.KeepPlayed
use Rattle.law_processes.proofs.StatesAreReadable
use Rattle.std.specs.Prelude.{is_some}
use Rattle.std.specs.Option.{IsSomeAnd, option_map}
use Rattle.std.proofs.lemmas.Bool.{cond-true, cond-false}
use Rattle.membership.specs.declared.member_state.MemberState.{MemberState}
use Rattle.membership.specs.MemberStates.{core_of as core_at}

-- ---- what a call that answered an error says

-- one that is closed
six-is : (r : Refusal) → refusals.is_closed r ≡ true → r ≡ refusal.Closed
six-is refusal.NotConnected x = absurd (let bad : false ≡ true = x in cc)
six-is refusal.Blocked x = absurd (let bad : false ≡ true = x in cc)
six-is refusal.Busy x = absurd (let bad : false ≡ true = x in cc)
six-is refusal.TooLong x = absurd (let bad : false ≡ true = x in cc)
six-is refusal.AlreadyConnected x = absurd (let bad : false ≡ true = x in cc)
six-is refusal.Closed x = refl
six-is refusal.Memory x = absurd (let bad : false ≡ true = x in cc)
six-is refusal.Exhausted x = absurd (let bad : false ≡ true = x in cc)
six-is refusal.BadName x = absurd (let bad : false ≡ true = x in cc)

closed-is : (e : Error) → is_closed e ≡ true → e ≡ error.Refused refusal.Closed
closed-is (error.Refused r) x = ap error.Refused (six-is r x)
closed-is (error.Wire w) x = absurd (let bad : false ≡ true = x in cc)

-- by a test
pub when-true : (b : Bool) (P Q : Type 0) → b ≡ true → MatchBool b P Q → P
when-true true P Q e x = x
when-true false P Q e x = absurd (let bad : false ≡ true = e in cc)

pub when-false : (b : Bool) (P Q : Type 0) → b ≡ false → MatchBool b P Q → Q
when-false true P Q e x = absurd (let bad : true ≡ false = e in cc)
when-false false P Q e x = x

module _ {S : Type 0} (meaning : Meaning S) where
  -- what an event comes to whose input a running member takes
  pub record TakesSo (h : History) (n : ℕ) (m : MemberModel S) (e : WorldEvent) (input : Input) (a : Answer) (s : List Event) (left : MemberModel S) : Type 0 where
    pub answers : Answers h e a s
    pub prompt : SendsPromptly h.trace e a s
    pub ends : leaves input ≡ true → (core_of left ≡ None) × (has_ended m.address (h.trace ++ s) ≡ true)
    pub stays : leaves input ≡ false → IsMember (connects_after n (is_connected n h) e a) left

  -- and where it refuses it
  pub record RefusesSo (h : History) (e : WorldEvent) (a : Answer) : Type 0 where
    pub answers : Answers h e a []
    pub prompt : SendsPromptly h.trace e a []
    pub connected : (k : ℕ) → connects_after k (is_connected k h) e a ≡ is_connected k h

  -- what has to be known of an event and its input
  pub record Tabled (h : History) (n : ℕ) (m : MemberModel S) (c : Core S) (e : WorldEvent) (input : Input) : Type 0 where
    pub elsewhere : (a : Answer) (k : ℕ) → nat_eq n k ≡ false → connects_after k (is_connected k h) e a ≡ is_connected k h
    pub may : MayBeHanded world_group h.pool input
    pub lost : refusal_in c input ≡ None → Answers h e (Refused Memory) (Crashed m.address ∷ [])
    pub not : (err : Error) → refusal_in c input ≡ Some err → RefusesSo h e (answer_for err)
    pub taken : (out : Output) (left : MemberModel S) → Handled meaning m input (Ok out) left → refusal_in c input ≡ None → EachOwn m.address out.events.items
        → TakesSo h n m e input (answer_to out.events.items) out.events.items left

  -- an event is a turn: what it put out, what happened
  pub record Turned (new : ℕ → NodeState S) (n : ℕ) (h : History) (e : WorldEvent) (a : Answer) (t : List Event) (pool : List (List ℕ)) : Type 0 where
    pub ps : List (List ℕ)
    pub s : List Event
    pub trace : t ≡ h.trace ++ s
    pub puts : pool ≡ h.pool ++ ps
    pub turn : KeepByTurn.Turn meaning new n h e a ps s

  module _ (laws : KeepBySteps.Laws meaning) (at new : ℕ → NodeState S) (n : ℕ) (h : History) (e : WorldEvent) (m : MemberModel S) (c : Core S)
      (w : KeepByTurn.World meaning at h) (there : at n ≡ Running m) (x : MembersAtNodes.Runs meaning h n m c)
      (others : OthersStand n at new) (elsewhere : (a : Answer) (k : ℕ) → nat_eq n k ≡ false → connects_after k (is_connected k h) e a ≡ is_connected k h) where
    pub moves-to : (now : NodeState S) → new n ≡ now → OnlyHere m.address now → KeepPlayed.Moves meaning at new n m.address (Running m) now
    moves-to now is only = record { node = x.node; was = there; is = is; only_old = only-running m.address m refl; only_now = only; others = others }

    -- ---- it crashes

    crash-own : EachOwn m.address (Crashed m.address ∷ [])
    crash-own = ((refl, refl), tt)

    pub crash-turn : (a : Answer) → new n ≡ Ended m.address → Answers h e a (Crashed m.address ∷ []) → SendsPromptly h.trace e a (Crashed m.address ∷ [])
        → KeepByTurn.Turn meaning new n h e a [] (Crashed m.address ∷ [])
    crash-turn a is answers prompt =
        let last : last_of n (h.trace ++ Crashed m.address ∷ []) ≡ Some m.address = last_of-own n m.address h.trace (Crashed m.address ∷ []) crash-own ∙ x.last in
        record {
          answers = answers;
          prompt = prompt;
          played = KeepPlayed.crash-plays meaning at new n m.address (Running m) (Ended m.address) (moves-to (Ended m.address) is (only-ended m.address m.address))
              h.pool h.trace w.played m (member-running m.address m refl) refl;
          starts = starts-own m.address h.trace (Crashed m.address ∷ []) crash-own w.starts;
          lasts = λ k o. last_of-own k m.address h.trace (Crashed m.address ∷ []) crash-own;
          connected = λ k o. elsewhere a k o;
          node_state = subst (IsNodeStateOf n (last_of n (h.trace ++ Crashed m.address ∷ [])) (connects_after n (is_connected n h) e a) (h.trace ++ Crashed m.address ∷ [])) (sym is)
              (last, x.node, has_ended-now h.trace (Crashed m.address) refl);
        }

  module _ (laws : KeepBySteps.Laws meaning) (at new : ℕ → NodeState S) (n : ℕ) (h : History) (e : WorldEvent) (input : Input) (m : MemberModel S) (c : Core S)
      (w : KeepByTurn.World meaning at h) (there : at n ≡ Running m) (x : MembersAtNodes.Runs meaning h n m c)
      (table : Tabled h n m c e input) (others : OthersStand n at new) where
    -- ---- it takes the input

    left-only : (b : Bool) (left : MemberModel S) → left.address ≡ m.address → OnlyHere m.address (cond b (Ended m.address) (Running left))
    left-only true left same = only-ended m.address m.address
    left-only false left same = only-running m.address left same

    -- a member that does not leave runs on
    runs-on : (o : Option (MemberState S)) (P : Core S → Type 0) → IsSomeAnd (option_map (core_at m.address) o) P → is_some o ≡ true
    runs-on None P s = absurd s
    runs-on (Some l) P s = refl

    has-ended : (o : Option (MemberState S)) → option_map (core_at m.address) o ≡ None → is_some o ≡ false
    has-ended None e = refl
    has-ended (Some l) e = absurd (none-some (core_at m.address l) (sym e))

    left-member : (b connected : Bool) (left : MemberModel S) → leaves input ≡ b → left.address ≡ m.address → (leaves input ≡ true → core_of left ≡ None) → (leaves input ≡ false → IsMember connected left)
        → running_on left ≡ member_here m.address (cond b (Ended m.address) (Running left))
    left-member true connected left e same ends stays =
        cond-false (is_some left.member_state) (Some left) None (has-ended left.member_state (subst (λ (p : Address). option_map (core_at p) left.member_state ≡ None) same (ends e)))
    left-member false connected left e same ends stays =
        cond-true (is_some left.member_state) (Some left) None
        (runs-on left.member_state (λ d. connected ≡ d.connected) (subst (λ (p : Address). IsSomeAnd (option_map (core_at p) left.member_state) (λ d. connected ≡ d.connected)) same (stays e)))
        ∙ sym (member-running m.address left same)

    left-node_state : (b connected : Bool) (s : List Event) (left : MemberModel S) → leaves input ≡ b → left.address ≡ m.address → last_of n (h.trace ++ s) ≡ Some m.address
        → (leaves input ≡ true → has_ended m.address (h.trace ++ s) ≡ true) → (leaves input ≡ false → IsMember connected left)
        → IsNodeStateOf n (last_of n (h.trace ++ s)) connected (h.trace ++ s) (cond b (Ended m.address) (Running left))
    left-node_state true connected s left e same last ended stays = (last, x.node, ended e)
    left-node_state false connected s left e same last ended stays = (last ∙ ap Some (sym same), ap (λ (p : Address). p.node) same ∙ x.node, stays e)

    taken-turn : (out : Output) (left : MemberModel S) (now : NodeState S) → new n ≡ now → now ≡ cond (leaves input) (Ended m.address) (Running left)
        → Handled meaning m input (Ok out) left → refusal_in c input ≡ None
        → KeepByTurn.Turn meaning new n h e (answer_to out.events.items) (map bytes_of out.packets.items) out.events.items
    taken-turn out left now is node_state handled free =
        let s = out.events.items in
        let did = handled.acted in
        let acted : Acted meaning (came_at m input) (Some c) did.posted s (core_of left) =
        subst (λ (o : Option (Core S)). Acted meaning (came_at m input) o did.posted s (core_of left)) x.core did.acted in
        let own : EachOwn m.address s = own-acted meaning m.address c (came_at m input) did.posted s (core_of left) x.fact.standing.itself acted in
        let so : TakesSo h n m e input (answer_to s) s left = table.taken out left handled free own in
        let last : last_of n (h.trace ++ s) ≡ Some m.address = last_of-own n m.address h.trace s own ∙ x.last in
        let node_state_is : new n ≡ cond (leaves input) (Ended m.address) (Running left) = is ∙ node_state in
        record {
          answers = so.answers;
          prompt = so.prompt;
          played = KeepPlayed.call-plays meaning at new n m.address (Running m) (cond (leaves input) (Ended m.address) (Running left))
              (moves-to laws at new n h e m c w there x others table.elsewhere (cond (leaves input) (Ended m.address) (Running left)) node_state_is (left-only (leaves input) left handled.address))
              h.pool h.trace w.played m left input out (member-running m.address m refl)
              (left-member (leaves input) (connects_after n (is_connected n h) e (answer_to s)) left refl handled.address (λ l. (so.ends l).0) so.stays) handled table.may;
          starts = starts-own m.address h.trace s own w.starts;
          lasts = λ k o. last_of-own k m.address h.trace s own;
          connected = λ k o. table.elsewhere (answer_to s) k o;
          node_state = subst (IsNodeStateOf n (last_of n (h.trace ++ s)) (connects_after n (is_connected n h) e (answer_to s)) (h.trace ++ s)) (sym node_state_is)
              (left-node_state (leaves input) (connects_after n (is_connected n h) e (answer_to s)) s left refl handled.address last (λ l. (so.ends l).1) so.stays);
        }

    -- ---- whatever it answers

    is-free : refusal_of m input ≡ None → refusal_in c input ≡ None
    is-free free = MembersAtNodes.free-is meaning h n m c x input None free

    runs-there : members at m.address ≡ Some m
    runs-there = MembersAtNodes.member-at meaning at h n m w there x.node

    readable : is_unreadable meaning m input ≡ false
    readable = StatesAreReadable.call-readable meaning laws world_group (deployment_of at h.pool h.trace) (MembersAtNodes.deployed meaning laws at h w) m.address m runs-there input table.may

    taken : (out : Output) (left : MemberModel S) (a : Answer) (now : NodeState S) (t : List Event) (pool : List (List ℕ)) → new n ≡ now → Handled meaning m input (Ok out) left
        → Takes m.address input out left a (about (Running m) h.trace h.pool) (about now t pool) → Turned new n h e a t pool
    taken out left a now t pool is handled g = record {
      ps = map bytes_of out.packets.items;
      s = out.events.items;
      trace = g.trace;
      puts = g.puts;
      turn = subst (λ (b : Answer). KeepByTurn.Turn meaning new n h e b (map bytes_of out.packets.items) out.events.items) (sym g.answer)
          (taken-turn out left now is g.node_state handled (is-free handled.refused.0));
    }

    lost : (a : Answer) (now : NodeState S) (t : List Event) (pool : List (List ℕ)) → new n ≡ now → refusal_of m input ≡ None → Crashes m.address a (about (Running m) h.trace h.pool) (about now t pool)
        → Turned new n h e a t pool
    lost a now t pool is free g = record {
      ps = [];
      s = Crashed m.address ∷ [];
      trace = g.trace;
      puts = g.puts ∙ sym (append-nil h.pool);
      turn = subst (λ (b : Answer). KeepByTurn.Turn meaning new n h e b [] (Crashed m.address ∷ [])) (sym g.answer)
          (crash-turn laws at new n h e m c w there x others table.elsewhere (Refused Memory) (is ∙ g.node_state) (table.lost (is-free free)) (refused-prompt h.trace e Memory (Crashed m.address ∷ [])));
    }

    refused : (err : Error) (left : MemberModel S) (a : Answer) (now : NodeState S) (t : List Event) (pool : List (List ℕ)) → new n ≡ now → is_closed err ≡ false
        → (refusal_of m input ≡ Some err) × (left ≡ m) → Refuses m.address err left a (about (Running m) h.trace h.pool) (about now t pool) → Turned new n h e a t pool
    refused err left a now t pool is runs says g =
        let so : RefusesSo h e (answer_for err) = table.not err (MembersAtNodes.free-is meaning h n m c x input (Some err) says.0) in
        let stays : now ≡ Running m = g.node_state ∙ ap {B = NodeState S} (λ (b : Bool). cond b (Ended m.address) (Running left)) runs ∙ ap {B = NodeState S} Running says.1 in
        record {
          ps = [];
          s = [];
          trace = g.trace ∙ sym (append-nil h.trace);
          puts = g.puts ∙ sym (append-nil h.pool);
          turn = subst (λ (b : Answer). KeepByTurn.Turn meaning new n h e b [] []) (sym g.answer)
              (KeepByTurn.turn-still meaning at new n h e (answer_for err) w (same-at at new n others (is ∙ stays ∙ sym there)) so.answers so.prompt so.connected);
        }

    -- a running member of a world is not closed
    never-closed : (err : Error) (left : MemberModel S) → Handled meaning m input (Err err) left → is_closed err ≡ true → ⊥
    never-closed err left handled is =
        StatesAreReadable.never-closed meaning laws world_group (deployment_of at h.pool h.trace) (MembersAtNodes.deployed meaning laws at h w) m.address m runs-there input table.may left
        (subst (λ (e : Error). Handled meaning m input (Err e) left) (closed-is err is) handled)

    not-taken : (err : Error) (left : MemberModel S) (a : Answer) (now : NodeState S) (t : List Event) (pool : List (List ℕ)) (b k : Bool) → new n ≡ now → is_memory err ≡ b → is_closed err ≡ k
        → Handled meaning m input (Err err) left → CallGives m.address input (Err err) left a (about (Running m) h.trace h.pool) (about now t pool) → Turned new n h e a t pool
    not-taken err left a now t pool true k is memory closed handled g =
        lost a now t pool is (when-true (is_memory err) (refusal_of m input ≡ None) _ memory handled.refused) (when-true (is_memory err) _ _ memory g)
    not-taken err left a now t pool false true is memory closed handled g = absurd (never-closed err left handled closed)
    not-taken err left a now t pool false false is memory closed handled g =
        refused err left a now t pool is closed (when-false (is_unreadable meaning m input) _ _ readable (when-false (is_memory err) _ _ memory handled.refused)) (when-false (is_memory err) _ _ memory g)

    called : (result : Result Output Error) (left : MemberModel S) (a : Answer) (now : NodeState S) (t : List Event) (pool : List (List ℕ)) → new n ≡ now
        → Handled meaning m input result left → CallGives m.address input result left a (about (Running m) h.trace h.pool) (about now t pool) → Turned new n h e a t pool
    called (Ok out) left a now t pool is handled (inl g) = taken out left a now t pool is handled g
    called (Ok out) left a now t pool is handled (inr g) = lost a now t pool is handled.refused.0 g.1
    called (Err err) left a now t pool is handled g = not-taken err left a now t pool (is_memory err) (is_closed err) is refl refl handled g

    -- one call of `handle` is a turn
    pub hands-turn : (a : Answer) (now : NodeState S) (t : List Event) (pool : List (List ℕ)) → new n ≡ now → HandsHere meaning input m a (about (Running m) h.trace h.pool) (about now t pool)
        → Turned new n h e a t pool
    hands-turn a now t pool is g = called g.result g.left a now t pool is g.handled g.gives
