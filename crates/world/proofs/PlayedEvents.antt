-- One event that is played: where no growth was refused in it the member took its input, and did by it what its rules say; else it crashed.
use Rattle.std.proofs.Common.{◌≡◌, ℕ, Bool, true, false, Option, Some, None, Result, Ok, Err, List, [], ◌∷◌, ◌++◌, map, inl, inr, ◌⊎◌, refl, sym, ap, ◌∙◌, subst}
use Rattle.std.specs.Prelude.{if◌then◌else◌}
use Rattle.std.specs.Borrow.{Bor}
use Rattle.std.proofs.lemmas.Option.{none-some}
use Rattle.address.specs.Ids.{Address}
use Rattle.state_transfer.specs.Meanings.{Meaning}
use Rattle.trace_props.specs.declared.event.Event.{Event}
use Rattle.trace_props.specs.declared.event.Event.TheVariants.{Started, Delivered, Blocked, Installed, Left, Crashed}
use Rattle.trace_props.specs.declared.event.Event.TheVariants as event
use Rattle.step_output.specs.declared.output.Output.{Output}
use Rattle.member.specs.declared.error.Error.{Error}
use Rattle.member.specs.declared.input.Input.{Input}
use Rattle.member.specs.declared.input.Input.TheVariants as input
use Rattle.member.specs.Errors.{is_memory}
use Rattle.member.specs.Members.{MemberModel, leaves, refusal_of, is_unreadable}
use Rattle.member.specs.Handling.{Handled}
use Rattle.world_model.specs.declared.WorldEvent.TheVariants.{Deliver, Tick, MergeHint}
use Rattle.world_model.specs.declared.Answer.{Answer}
use Rattle.world_model.specs.Packets.{packet_numbered, destination_of}
use Rattle.world.specs.declared.node_state.NodeState.{NodeState}
use Rattle.world.specs.declared.node_state.NodeState.TheVariants.{Ended, Running}
use Rattle.world.specs.NodeStates.{bytes_of, answer_to}
use Rattle.world.specs.Turns.{about, OthersStand, CallGives, HandsHere, Hands, HandsOver, Delivers, HandsPacket}
use Rattle.world.specs.Worlds.{WorldModel, WorldStep}
use Rattle.world.specs.Plays.{lacks_memory}
use Rattle.world.proofs.InputsTaken.{when-true, when-false}

-- what happened is no want of memory
lacks-nothing : (hs : List Event) → lacks_memory (answer_to hs) ≡ false
lacks-nothing [] = refl
lacks-nothing (Started p ∷ hs) = refl
lacks-nothing (event.Sent s ∷ hs) = refl
lacks-nothing (Delivered d ∷ hs) = refl
lacks-nothing (Blocked p ∷ hs) = refl
lacks-nothing (Installed i ∷ hs) = refl
lacks-nothing (Left p ∷ hs) = refl
lacks-nothing (Crashed p ∷ hs) = refl

module _ {S : Type 0} (meaning : Meaning S) where
  -- a running member took an input, and runs on
  pub record Taken (input : Input) (m : MemberModel S) (t : List Event) (pool : List (List ℕ)) (new : NodeState S) (t' : List Event) (pool' : List (List ℕ)) : Type 0 where
    pub out : Output
    pub left : MemberModel S
    pub handled : Handled meaning m input (Ok out) left
    pub node_state : new ≡ (if leaves input then Ended m.address else Running left)
    pub trace : t' ≡ t ++ out.events.items
    pub puts : pool' ≡ pool ++ map bytes_of out.packets.items

  -- or it crashed for want of memory
  pub record Lost (p : Address) (t : List Event) (pool : List (List ℕ)) (t' : List Event) (pool' : List (List ℕ)) : Type 0 where
    pub trace : t' ≡ t ++ Crashed p ∷ []
    pub puts : pool' ≡ pool

  abbrev pub Outcome : Input → MemberModel S → List Event → List (List ℕ) → Answer → NodeState S → List Event → List (List ℕ) → Type 0
  Outcome input m t pool a new t' pool' = ((lacks_memory a ≡ false) × Taken input m t pool new t' pool') ⊎ ((lacks_memory a ≡ true) × Lost m.address t pool t' pool')

  module _ (input : Input) (m : MemberModel S) (t : List Event) (pool : List (List ℕ)) (a : Answer) (new : NodeState S) (t' : List Event) (pool' : List (List ℕ))
      (free : refusal_of m input ≡ None) (readable : is_unreadable meaning m input ≡ false) where
    by-error : (b : Bool) (e : Error) (left : MemberModel S) → is_memory e ≡ b → Handled meaning m input (Err e) left → CallGives m.address input (Err e) left a (about (Running m) t pool) (about new t' pool')
        → Outcome input m t pool a new t' pool'
    by-error true e left is handled g =
        let x = when-true (is_memory e) _ _ is g in
        inr (ap lacks_memory x.answer, record { trace = x.trace; puts = x.puts })
    by-error false e left is handled g =
        let x = when-false (is_unreadable meaning m input) _ _ readable (when-false (is_memory e) _ _ is handled.refused) in
        absurd (none-some e (sym free ∙ x.0))

    by-result : (result : Result Output Error) (left : MemberModel S) → Handled meaning m input result left → CallGives m.address input result left a (about (Running m) t pool) (about new t' pool')
        → Outcome input m t pool a new t' pool'
    by-result (Ok out) left handled (inl g) =
        inl (ap lacks_memory g.answer ∙ lacks-nothing out.events.items, record { out = out; left = left; handled = handled; node_state = g.node_state; trace = g.trace; puts = g.puts })
    by-result (Ok out) left handled (inr g) = inr (ap lacks_memory g.1.answer, record { trace = g.1.trace; puts = g.1.puts })
    by-result (Err e) left handled g = by-error (is_memory e) e left refl handled g

    pub outcome : HandsHere meaning input m a (about (Running m) t pool) (about new t' pool') → Outcome input m t pool a new t' pool'
    outcome g = by-result g.result g.left g.handled g.gives

  -- ---- a tick

  pub tick-here : (old new : WorldModel S) (n : ℕ) (m : MemberModel S) (step : WorldStep meaning old (Tick n) new) → old.node_states n ≡ Running m
      → HandsHere meaning input.Tick m step.answer (about (Running m) old.history.trace old.history.pool) (about (new.node_states n) new.history.trace new.history.pool)
  tick-here old new n m step there =
      subst (λ (s : NodeState S). Hands meaning input.Tick step.answer (about s old.history.trace old.history.pool) (about (new.node_states n) new.history.trace new.history.pool)) there step.does.0

  -- ---- a delivery

  pub record Handed (m : MemberModel S) (bytes : List ℕ) (old new : WorldModel S) (a : Answer) (n : ℕ) : Type 0 where
    pub lent : Bor (List ℕ)
    pub is : lent.now ≡ bytes
    pub here : HandsHere meaning (input.Datagram lent) m a (about (Running m) old.history.trace old.history.pool) (about (new.node_states n) new.history.trace new.history.pool)
    pub others : OthersStand n old.node_states new.node_states

  pub delivered-here : (old new : WorldModel S) (k : ℕ) (bytes : List ℕ) (q : Address) (m : MemberModel S) (step : WorldStep meaning old (Deliver k) new)
      → packet_numbered k old.history.pool ≡ Some bytes → destination_of bytes ≡ Some q → old.node_states q.node ≡ Running m → Handed m bytes old new step.answer q.node
  delivered-here old new k bytes q m step there goes node_state =
      let x : Delivers meaning (Some bytes) step.answer (about old.node_states old.history.trace old.history.pool) (about new.node_states new.history.trace new.history.pool) =
      subst (λ (o : Option (List ℕ)). Delivers meaning o step.answer (about old.node_states old.history.trace old.history.pool) (about new.node_states new.history.trace new.history.pool)) there step.does in
      let y : HandsOver meaning bytes (Some q) step.answer (about old.node_states old.history.trace old.history.pool) (about new.node_states new.history.trace new.history.pool) =
      subst (λ (o : Option Address). HandsOver meaning bytes o step.answer (about old.node_states old.history.trace old.history.pool) (about new.node_states new.history.trace new.history.pool)) goes x in
      let z : HandsPacket meaning bytes step.answer (about (Running m) old.history.trace old.history.pool) (about (new.node_states q.node) new.history.trace new.history.pool) =
      subst (λ (s : NodeState S). HandsPacket meaning bytes step.answer (about s old.history.trace old.history.pool) (about (new.node_states q.node) new.history.trace new.history.pool)) node_state y.0 in
      record { lent = z.0; is = z.1; here = z.2; others = y.1 }

  -- ---- a hint

  pub hint-here : (old new : WorldModel S) (n : ℕ) (p : Address) (m : MemberModel S) (step : WorldStep meaning old (MergeHint n p) new) → old.node_states n ≡ Running m
      → HandsHere meaning (input.MergeHint p) m step.answer (about (Running m) old.history.trace old.history.pool) (about (new.node_states n) new.history.trace new.history.pool)
  hint-here old new n p m step there =
      subst (λ (s : NodeState S). Hands meaning (input.MergeHint p) step.answer (about s old.history.trace old.history.pool) (about (new.node_states n) new.history.trace new.history.pool)) there step.does.0
