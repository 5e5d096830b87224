-- One event further: what has to be shown of an event, and that it then keeps all that a world keeps.
use Rattle.std.proofs.Common.{◌≡◌, ℕ, ◌+◌, true, false, Bool, Option, List, [], ◌∷◌, ◌++◌, length, nat_eq, sym, refl, ap, ◌∙◌, subst, length-append}
use Rattle.std.proofs.lemmas.Bool.{eqb-true}
use Rattle.std.proofs.lemmas.List.{append-nil}
use Rattle.address.specs.Ids.{Address}
use Rattle.state_transfer.specs.Meanings.{Meaning}
use Rattle.trace_props.specs.declared.event.Event.{Event}
use Rattle.trace_props.proofs.ObservedGrow.{has_ended-stays}
use Rattle.world_model.specs.declared.WorldEvent.{WorldEvent}
use Rattle.world_model.specs.declared.Answer.{Answer}
use Rattle.world_model.specs.Histories.{History, last_of, is_connected, connects_after, after}
use Rattle.world_model.specs.Faithful.{Answers, SendsPromptly}
use Rattle.world_model.specs.Faithful.IsFaithful.{Next}
use Rattle.world.specs.declared.node_state.NodeState.{NodeState}
use Rattle.world.specs.declared.node_state.NodeState.TheVariants.{Vacant, Ended, Running}
use Rattle.world.specs.Turns.{SameNodeStates, OthersStand}
use Rattle.world.specs.Invariant.{IsNodeStateOf, IsWorld, StartsInTurn}
use Rattle.world.proofs.NodesConnected.{is_connected-push}
use Rattle.world.proofs.KeepPlayed.{Plays, same-plays}

-- what stands at another node stays what it was
node_state-kept : {S : Type 0} (n : ℕ) (last : Option Address) (connected : Bool) (t s : List Event) (node_state : NodeState S) → IsNodeStateOf n last connected t node_state → IsNodeStateOf n last connected (t ++ s) node_state
node_state-kept n last connected t s Vacant k = k
node_state-kept n last connected t s (Ended p) k = (k.0, k.1, has_ended-stays p t s k.2)
node_state-kept n last connected t s (Running m) k = k

module _ {S : Type 0} (meaning : Meaning S) where
  abbrev pub World : (ℕ → NodeState S) → History → Type 0
  World at h = IsWorld meaning at h

  -- what has to be shown of an event at a node, with its answer, what is put out and what happens
  pub record Turn (new : ℕ → NodeState S) (n : ℕ) (h : History) (e : WorldEvent) (a : Answer) (ps : List (List ℕ)) (s : List Event) : Type 0 where
    pub answers : Answers h e a s
    pub prompt : SendsPromptly h.trace e a s
    pub played : Plays meaning new (h.pool ++ ps) (h.trace ++ s)
    pub starts : StartsInTurn (h.trace ++ s)
    pub lasts : (m : ℕ) → nat_eq n m ≡ false → last_of m (h.trace ++ s) ≡ last_of m h.trace
    pub connected : (m : ℕ) → nat_eq n m ≡ false → connects_after m (is_connected m h) e a ≡ is_connected m h
    pub node_state : IsNodeStateOf n (last_of n (h.trace ++ s)) (connects_after n (is_connected n h) e a) (h.trace ++ s) (new n)

  node_state-turned : (at new : ℕ → NodeState S) (n : ℕ) (h : History) (e : WorldEvent) (a : Answer) (ps : List (List ℕ)) (s : List Event) → World at h → Turn new n h e a ps s → OthersStand n at new
      → (m : ℕ) (b : Bool) → nat_eq n m ≡ b → IsNodeStateOf m (last_of m (h.trace ++ s)) (connects_after m (is_connected m h) e a) (h.trace ++ s) (new m)
  node_state-turned at new n h e a ps s w turn others m true b =
      subst (λ (k : ℕ). IsNodeStateOf k (last_of k (h.trace ++ s)) (connects_after k (is_connected k h) e a) (h.trace ++ s) (new k)) (eqb-true n m b) turn.node_state
  node_state-turned at new n h e a ps s w turn others m false b =
      rw (others m b, turn.lasts m b, turn.connected m b) (node_state-kept m (last_of m h.trace) (is_connected m h) h.trace s (at m) (w.node_states m))

  -- with that, the world keeps what every world keeps
  pub turned : (at new : ℕ → NodeState S) (n : ℕ) (h : History) (e : WorldEvent) (a : Answer) (ps : List (List ℕ)) (s : List Event) → World at h → Turn new n h e a ps s → OthersStand n at new
      → World new (after h e a ps s)
  turned at new n h e a ps s w turn others = record {
    faithful = Next h e a ps s w.faithful turn.answers turn.prompt;
    paired = length-append h.events (e ∷ []) ∙ ap (λ n. n + 1) w.paired ∙ sym (length-append h.replies (record { answer = a; place = length (h.trace ++ s) } ∷ []));
    played = turn.played;
    starts = turn.starts;
    node_states = λ m. rw (is_connected-push m h e a ps s w.paired) (node_state-turned at new n h e a ps s w turn others m (nat_eq n m) refl);
  }

  -- ---- where nothing changes

  -- an event in whose step nothing happens, nothing is put out, and no node changes
  pub turn-still : (at new : ℕ → NodeState S) (n : ℕ) (h : History) (e : WorldEvent) (a : Answer) → World at h → SameNodeStates at new → Answers h e a [] → SendsPromptly h.trace e a []
      → ((m : ℕ) → connects_after m (is_connected m h) e a ≡ is_connected m h) → Turn new n h e a [] []
  turn-still at new n h e a w same answers prompt same_answers = record {
    answers = answers;
    prompt = prompt;
    played = same-plays meaning at new h.pool h.trace same w.played;
    starts = subst StartsInTurn (sym (append-nil h.trace)) w.starts;
    lasts = λ m o. ap (last_of m) (append-nil h.trace);
    connected = λ m o. same_answers m;
    node_state = rw (append-nil h.trace, same_answers n, same n) (w.node_states n);
  }
