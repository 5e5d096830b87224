-- A start keeps what a world keeps.
use Rattle.std.proofs.Common.{◌≡◌, ℕ, ◌+◌, ◌<◌, ◌≤◌, ◌^◌, Bool, true, false, Option, Some, None, List, [], ◌∷◌, ◌++◌, nat_eq, nat_lt, sym, refl, ap, ◌∙◌, subst, arith, inl, inr}
use Rattle.std.specs.Option.{IsSomeAnd, option_map_or}
use Rattle.std.proofs.lemmas.Bool.{cond-true, eq-eqb}
use Rattle.std.proofs.lemmas.List.{append-nil, append_assoc}
use Rattle.address.specs.Ids.{Address, IsAddress}
use Rattle.state_transfer.specs.Meanings.{Meaning}
use Rattle.trace_props.specs.declared.event.Event.{Event}
use Rattle.trace_props.specs.declared.event.Event.TheVariants.{Started, Crashed}
use Rattle.trace_props.specs.Observed.{has_started, has_ended}
use Rattle.trace_props.proofs.ObservedGrow.{has_ended-now}
use Rattle.law_acts.specs.Cores.{Core}
use Rattle.law_acts.proofs.KeepBySteps
use Rattle.world_model.specs.declared.WorldEvent.TheVariants.{Start}
use Rattle.world_model.specs.declared.Answer.{Answer}
use Rattle.world_model.specs.declared.Answer.TheVariants.{Done, Sent, Refused}
use Rattle.address.specs.declared.refusal.Refusal.{Refusal}
use Rattle.address.specs.declared.refusal.Refusal.TheVariants.{NotConnected, Blocked, Busy, TooLong, AlreadyConnected, Closed, Memory, Exhausted, BadName}
use Rattle.world_model.specs.Histories.{History, last_of, is_connected, connects_after}
use Rattle.world_model.specs.Faithful.{Answers}
use Rattle.world.specs.declared.node_state.NodeState.{NodeState}
use Rattle.world.specs.declared.node_state.NodeState.TheVariants.{Vacant, Ended, Running}
use Rattle.world.specs.NodeStates.{member_here}
use Rattle.world.specs.Turns.{Begun, BeginsSo, Begins, Stays, StartGives, OthersStand}
use Rattle.world.specs.Invariant.{IsNodeStateOf, StartsInTurn, top_of}
use Rattle.world.proofs.NodesConnected.{connects_after-other, refused-connects}
use Rattle.world.proofs.TracesOfNodes.{last_of-push, last_of-still, last_of-other, starts-push}
use Rattle.world.proofs.MembersAsSystem.{OnlyHere, only-ended, only-running, member-running, same-at}
use Rattle.world.proofs.AnswersByTable.{done-here}
use Rattle.world.proofs.KeepByTurn
use Rattle.world.proofs.MembersAtNodes
use Rattle.world.proofs.KeepPlayed
use Rattle.world.proofs.InputsTaken

-- an incarnation above all of its node has not started
unstarted : (q : Address) (t : List Event) → StartsInTurn t → top_of q.node t < q.incarnation → (b : Bool) → has_started q t ≡ b → b ≡ false
unstarted q t i above false e = refl
unstarted q t i above true e = let low : q.incarnation ≤ top_of q.node t = i q e in absurd (omega arith)

last-now : (q : Address) (n : ℕ) (t : List Event) → q.node ≡ n → last_of n (t ++ Started q ∷ []) ≡ Some q
last-now q n t e = last_of-push n t (Started q) ∙ cond-true (nat_eq q.node n) (Some q) (last_of n t) (eq-eqb q.node n e)

module _ {S : Type 0} (meaning : Meaning S)
    (laws : KeepBySteps.Laws meaning) (at new : ℕ → NodeState S) (n : ℕ) (h : History) (w : KeepByTurn.World meaning at h)
    (others : OthersStand n at new) where
  abbrev Turned : Answer → List Event → List (List ℕ) → Type 0
  Turned a t pool = InputsTaken.Turned meaning new n h (Start n) a t pool

  -- the next member of the node, which nobody is yet
  record IsNext (q : Address) (old : NodeState S) : Type 0 where
    node : q.node ≡ n
    real : IsAddress q
    was : at n ≡ old
    nobody : (p : Address) → member_here p old ≡ None
    above : top_of n h.trace < q.incarnation
    done : Answers h (Start n) Done (Started q ∷ [])
    memory : Answers h (Start n) (Refused Memory) (Started q ∷ Crashed q ∷ [])

  module _ (q : Address) (old : NodeState S) (x : IsNext q old) where
    higher : top_of q.node h.trace < q.incarnation
    higher = subst (λ (k : ℕ). top_of k h.trace < q.incarnation) (sym x.node) x.above

    new-one : has_started q h.trace ≡ false
    new-one = unstarted q h.trace w.starts higher (has_started q h.trace) refl

    moves-to : (now : NodeState S) → new n ≡ now → OnlyHere q now → KeepPlayed.Moves meaning at new n q old now
    moves-to now is only = record { node = x.node; was = x.was; is = is; only_old = λ p e. x.nobody p; only_now = only; others = others }

    starts-now : StartsInTurn (h.trace ++ Started q ∷ [])
    starts-now = starts-push h.trace (Started q) w.starts (let low : top_of q.node h.trace < q.incarnation = higher in omega arith)

    lasts-now : (k : ℕ) → nat_eq n k ≡ false → last_of k (h.trace ++ Started q ∷ []) ≡ last_of k h.trace
    lasts-now k o = last_of-other k h.trace (Started q) (subst (λ (j : ℕ). nat_eq j k ≡ false) (sym x.node) o)

    -- it runs
    begun : (t : List Event) (now : NodeState S) → new n ≡ now → Begun meaning q h.trace now t → Turned Done t h.pool
    begun t now is g =
        let m = g.member in
        let here : new n ≡ Running g.member = is ∙ g.node_state in
        record {
          ps = [];
          s = Started q ∷ [];
          trace = g.trace;
          puts = sym (append-nil h.pool);
          turn = record {
            answers = x.done;
            prompt = tt;
            played = KeepPlayed.start-plays meaning at new n q old (Running g.member) (moves-to (Running g.member) here (only-running q g.member g.address))
                h.pool h.trace w.played g.member (record { real = x.real; address = g.address; group_is = g.group; core = g.core; alive = g.alive }) (sym (member-running q g.member g.address)) new-one;
            starts = starts-now;
            lasts = lasts-now;
            connected = λ k o. connects_after-other k (is_connected k h) (Start n) Done o;
            node_state = subst (IsNodeStateOf n (last_of n (h.trace ++ Started q ∷ [])) (connects_after n (is_connected n h) (Start n) Done) (h.trace ++ Started q ∷ [])) (sym here) (
              last-now q n h.trace x.node ∙ ap Some (sym g.address),
              ap (λ (p : Address). p.node) g.address ∙ x.node,
              subst (λ (o : Option (Core S)). IsSomeAnd o (λ d. connects_after n (is_connected n h) (Start n) Done ≡ d.connected)) (sym g.core) (done-here n false (is_connected n h)),
            );
          };
        }

    -- or it crashed
    failed : (t : List Event) → new n ≡ Ended q → t ≡ h.trace ++ Started q ∷ [] ++ Crashed q ∷ [] → Turned (Refused Memory) t h.pool
    failed t is trace =
        let one = h.trace ++ Started q ∷ [] in
        let two : (h.trace ++ Started q ∷ []) ++ Crashed q ∷ [] ≡ h.trace ++ Started q ∷ Crashed q ∷ [] = append_assoc h.trace (Started q ∷ []) (Crashed q ∷ []) in
        let last : last_of n (h.trace ++ Started q ∷ Crashed q ∷ []) ≡ Some q =
        ap (last_of n) (sym two) ∙ last_of-still n (h.trace ++ Started q ∷ []) (Crashed q) refl ∙ last-now q n h.trace x.node in
        record {
          ps = [];
          s = Started q ∷ Crashed q ∷ [];
          trace = trace ∙ two;
          puts = sym (append-nil h.pool);
          turn = record {
            answers = x.memory;
            prompt = tt;
            played = KeepPlayed.fail-plays meaning at new n q old (Ended q) (moves-to (Ended q) is (only-ended q q)) h.pool h.trace w.played x.real refl new-one;
            starts = subst StartsInTurn two (starts-push (h.trace ++ Started q ∷ []) (Crashed q) starts-now tt);
            lasts = λ k o. ap (last_of k) (sym two) ∙ last_of-still k (h.trace ++ Started q ∷ []) (Crashed q) refl ∙ lasts-now k o;
            connected = λ k o. connects_after-other k (is_connected k h) (Start n) (Refused Memory) o;
            node_state = subst (IsNodeStateOf n (last_of n (h.trace ++ Started q ∷ Crashed q ∷ [])) (connects_after n (is_connected n h) (Start n) (Refused Memory)) (h.trace ++ Started q ∷ Crashed q ∷ [])) (sym is)
                (last, x.node, subst (λ (t : List Event). has_ended q t ≡ true) two (has_ended-now (h.trace ++ Started q ∷ []) (Crashed q) refl));
          };
        }

    begins : (a : Answer) (t : List Event) (now : NodeState S) → new n ≡ now → BeginsSo meaning q a h.trace now t → Turned a t h.pool
    begins Done t now is g = begun t now is g
    begins (Sent k) t now is g = absurd g
    begins (Refused Memory) t now is g = failed t (is ∙ g.0) g.1
    begins (Refused NotConnected) t now is g = absurd g
    begins (Refused Blocked) t now is g = absurd g
    begins (Refused Busy) t now is g = absurd g
    begins (Refused TooLong) t now is g = absurd g
    begins (Refused AlreadyConnected) t now is g = absurd g
    begins (Refused Closed) t now is g = absurd g
    begins (Refused Exhausted) t now is g = absurd g
    begins (Refused BadName) t now is g = absurd g

  -- ---- a start, at any node

  top-at : (o : Option Address) → last_of n h.trace ≡ o → top_of n h.trace ≡ option_map_or (λ (p : Address). p.incarnation) o 0
  top-at o e = ap (λ l. option_map_or (λ (p : Address). p.incarnation) l 0) e

  -- it is refused
  refused : (r : Refusal) (old now : NodeState S) (a : Answer) (t : List Event) → at n ≡ old → new n ≡ now → Answers h (Start n) (Refused r) [] → Stays r a old h.trace now t
      → Turned a t h.pool
  refused r old now a t was is answers g = subst (λ (b : Answer). Turned b t h.pool) (sym g.answer) (record {
    ps = [];
    s = [];
    trace = g.trace ∙ sym (append-nil h.trace);
    puts = sym (append-nil h.pool);
    turn = KeepByTurn.turn-still meaning at new n h (Start n) (Refused r) w (same-at at new n others (is ∙ g.node_state ∙ sym was)) answers tt
        (λ k. refused-connects k (is_connected k h) (Start n) r);
  })

  first-at : (a : Answer) (now : NodeState S) (t : List Event) → at n ≡ Vacant → new n ≡ now → last_of n h.trace ≡ None
      → Begins meaning (record { node = n; incarnation = 1 }) a h.trace now t → Turned a t h.pool
  first-at a now t was is k g =
      let top : top_of n h.trace ≡ 0 = top-at None k in
      begins (record { node = n; incarnation = 1 }) Vacant (record {
        node = refl;
        real = g.0;
        was = was;
        nobody = λ p. refl;
        above = omega arith;
        done = rw k (inl (refl, refl));
        memory = rw k (inr (refl, refl));
      }) a t now is g.1

  -- after an ended member, by whether there is a next incarnation
  after-ended : (p : Address) (a : Answer) (now : NodeState S) (t : List Event) → at n ≡ Ended p → new n ≡ now → IsNodeStateOf {S = S} n (last_of n h.trace) (is_connected n h) h.trace (Ended p)
      → (b : Bool) → nat_lt (p.incarnation + 1) (2 ^ 32) ≡ b → StartGives meaning n a (Ended p) h.trace now t → Turned a t h.pool
  after-ended p a now t was is k true e g =
      let top : top_of n h.trace ≡ p.incarnation = top-at (Some p) k.0 in
      let begun : Begins meaning (record { node = p.node; incarnation = p.incarnation + 1 }) a h.trace now t = rw e at g in
      begins (record { node = p.node; incarnation = p.incarnation + 1 }) (Ended p) (record {
        node = k.1;
        real = begun.0;
        was = was;
        nobody = λ q. refl;
        above = omega arith;
        done = rw (k.0, k.2, e) (inl (refl, ap (λ (m : ℕ). Started (record { node = m; incarnation = p.incarnation + 1 }) ∷ []) k.1));
        memory = rw (k.0, k.2, e) (inr (refl, ap (λ (m : ℕ). Started (record { node = m; incarnation = p.incarnation + 1 }) ∷ Crashed (record { node = m; incarnation = p.incarnation + 1 }) ∷ []) k.1));
      }) a t now is begun.1
  after-ended p a now t was is k false e g =
      let stays : Stays Exhausted a (Ended p) h.trace now t = rw e at g in
      refused Exhausted (Ended p) now a t was is (rw (k.0, k.2, e) (refl, refl)) stays

  start-here : (old : NodeState S) (a : Answer) (now : NodeState S) (t : List Event) → at n ≡ old → new n ≡ now → IsNodeStateOf n (last_of n h.trace) (is_connected n h) h.trace old
      → StartGives meaning n a old h.trace now t → Turned a t h.pool
  start-here Vacant a now t was is k g = first-at a now t was is k g
  start-here (Ended p) a now t was is k g = after-ended p a now t was is k (nat_lt (p.incarnation + 1) (2 ^ 32)) refl g
  start-here (Running m) a now t was is k g =
      let x = MembersAtNodes.running-here meaning laws at h n m w was in
      refused AlreadyConnected (Running m) now a t was is (rw (k.0, MembersAtNodes.going meaning h n m x.0 x.1) (refl, refl)) g

  pub start-turns : (a : Answer) (t : List Event) → StartGives meaning n a (at n) h.trace (new n) t → Turned a t h.pool
  start-turns a t g = start-here (at n) a (new n) t refl refl (w.node_states n) g
