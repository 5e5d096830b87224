-- Every event keeps what a world keeps.
use Rattle.std.proofs.Common.{◌≡◌, ℕ, List, ◌∷◌, [], Some, None, subst, sym, refl, ◌∙◌}
use Rattle.std.specs.Borrow.{Bor}
use Rattle.std.proofs.lemmas.List.{append-nil}
use Rattle.address.specs.Ids.{Address}
use Rattle.state_transfer.specs.Meanings.{Meaning}
use Rattle.trace_props.specs.declared.event.Event.{Event}
use Rattle.trace_props.specs.declared.event.Event.TheVariants.{Crashed}
use Rattle.law_acts.specs.Cores.{Core}
use Rattle.law_acts.proofs.KeepBySteps
use Rattle.member.specs.declared.input.Input.{Input}
use Rattle.member.specs.declared.input.Input.TheVariants as input
use Rattle.member.specs.Members.{MemberModel}
use Rattle.world_model.specs.declared.WorldEvent.{WorldEvent}
use Rattle.world_model.specs.declared.WorldEvent.TheVariants.{Start, Create, Join, Send, Deliver, Tick, Suspect, MergeHint, Leave, Crash}
use Rattle.world_model.specs.declared.Target.TheVariants as target
use Rattle.world_model.specs.declared.Answer.{Answer}
use Rattle.world_model.specs.declared.Answer.TheVariants.{Done, Refused}
use Rattle.address.specs.declared.refusal.Refusal.{Refusal}
use Rattle.address.specs.declared.refusal.Refusal.TheVariants.{NotConnected, Closed}
use Rattle.world_model.specs.Histories.{History, last_of, is_connected, target_of}
use Rattle.world_model.specs.Faithful.{Answers, AtMember, AnswersCrash}
use Rattle.world.specs.declared.node_state.NodeState.{NodeState}
use Rattle.world.specs.declared.node_state.NodeState.TheVariants.{Vacant, Ended, Running}
use Rattle.world.specs.Turns.{about, OthersStand, Stays, Hands, HandsLent, CrashGives, Acts}
use Rattle.world.specs.Invariant.{IsNodeStateOf}
use Rattle.world.proofs.NodesConnected.{refused-connects, refused-prompt, connects_after-other}
use Rattle.world.proofs.MembersAsSystem.{same-at}
use Rattle.world.proofs.KeepByTurn
use Rattle.world.proofs.MembersAtNodes
use Rattle.world.proofs.InputsTaken
use Rattle.world.proofs.EventsInTable
use Rattle.world.proofs.KeepByStart

module _ {S : Type 0} (meaning : Meaning S)
    (laws : KeepBySteps.Laws meaning) (at new : ℕ → NodeState S) (n : ℕ) (h : History) (w : KeepByTurn.World meaning at h)
    (others : OthersStand n at new) where
  abbrev Turned : WorldEvent → Answer → List Event → List (List ℕ) → Type 0
  Turned e a t pool = InputsTaken.Turned meaning new n h e a t pool

  -- ---- where no member runs

  refused : (e : WorldEvent) (r : Refusal) (old now : NodeState S) (a : Answer) (t : List Event) (pool : List (List ℕ)) → at n ≡ old → new n ≡ now → Answers h e (Refused r) []
      → Stays r a old h.trace now t → pool ≡ h.pool → Turned e a t pool
  refused e r old now a t pool was is answers g same = subst (λ (b : Answer). Turned e b t pool) (sym g.answer) (record {
    ps = [];
    s = [];
    trace = g.trace ∙ sym (append-nil h.trace);
    puts = same ∙ sym (append-nil h.pool);
    turn = KeepByTurn.turn-still meaning at new n h e (Refused r) w (same-at at new n others (is ∙ g.node_state ∙ sym was)) answers (refused-prompt h.trace e r [])
        (λ k. refused-connects k (is_connected k h) e r);
  })

  -- ---- an input that is handed to whoever runs

  -- what has to be known of the event: what it is refused where no member runs, and its table where one does
  record Handed (e : WorldEvent) (i : Input) : Type 0 where
    never : last_of n h.trace ≡ None → Answers h e (Refused NotConnected) []
    over : (p : Address) → last_of n h.trace ≡ Some p → IsNodeStateOf {S = S} n (last_of n h.trace) (is_connected n h) h.trace (Ended p) → Answers h e (Refused Closed) []
    table : (m : MemberModel S) (c : Core S) → MembersAtNodes.Runs meaning h n m c → InputsTaken.Tabled meaning h n m c e i

  handed-at : (e : WorldEvent) (i : Input) (old now : NodeState S) (a : Answer) (t : List Event) (pool : List (List ℕ)) → Handed e i → at n ≡ old → new n ≡ now
      → IsNodeStateOf n (last_of n h.trace) (is_connected n h) h.trace old → Hands meaning i a (about old h.trace h.pool) (about now t pool) → Turned e a t pool
  handed-at e i Vacant now a t pool x was is k g = refused e NotConnected Vacant now a t pool was is (x.never k) g.0 g.1
  handed-at e i (Ended p) now a t pool x was is k g = refused e Closed (Ended p) now a t pool was is (x.over p k.0 k) g.0 g.1
  handed-at e i (Running m) now a t pool x was is k g =
      let y = MembersAtNodes.running-here meaning laws at h n m w was in
      InputsTaken.hands-turn meaning laws at new n h e i m y.0 w was y.1 (x.table m y.0 y.1) others a now t pool is g

  handed : (e : WorldEvent) (i : Input) (a : Answer) (t : List Event) (pool : List (List ℕ)) → Handed e i → Hands meaning i a (about (at n) h.trace h.pool) (about (new n) t pool)
      → Turned e a t pool
  handed e i a t pool x g = handed-at e i (at n) (new n) a t pool x refl refl (w.node_states n) g

  at-none : (At : Address → Type 0) → last_of n h.trace ≡ None → AtMember n h (Refused NotConnected) [] At
  at-none At k = rw k (refl, refl)

  at-ended : (At : Address → Type 0) (p : Address) → IsNodeStateOf {S = S} n (last_of n h.trace) (is_connected n h) h.trace (Ended p) → AtMember n h (Refused Closed) [] At
  at-ended At p k = rw (k.0, k.2) (refl, refl)

  create-handed : Handed (Create n) input.Create
  create-handed = record {
    never = at-none _;
    over = λ p e k. at-ended _ p k;
    table = λ m c x. EventsInTable.create-table meaning h n m c x;
  }

  join-handed : (contact : Address) → Handed (Join n contact) (input.Join contact)
  join-handed contact = record {
    never = at-none _;
    over = λ p e k. at-ended _ p k;
    table = λ m c x. EventsInTable.join-table meaning h n m c x contact;
  }

  send-handed : (b : Bor (List ℕ)) → Handed (Send n b.now) (input.Send b)
  send-handed b = record {
    never = at-none _;
    over = λ p e k. at-ended _ p k;
    table = λ m c x. EventsInTable.send-table meaning h n m c x b;
  }

  tick-handed : Handed (Tick n) input.Tick
  tick-handed = record {
    never = at-none _;
    over = λ p e k. at-ended _ p k;
    table = λ m c x. EventsInTable.tick-table meaning h n m c x;
  }

  suspect-handed : (q : Address) → Handed (Suspect n q) (input.Suspect q)
  suspect-handed q = record {
    never = at-none _;
    over = λ p e k. at-ended _ p k;
    table = λ m c x. EventsInTable.suspect-table meaning h n m c x q;
  }

  hint-handed : (q : Address) → Handed (MergeHint n q) (input.MergeHint q)
  hint-handed q = record {
    never = at-none _;
    over = λ p e k. at-ended _ p k;
    table = λ m c x. EventsInTable.hint-table meaning h n m c x q;
  }

  leave-handed : Handed (Leave n) input.Leave
  leave-handed = record {
    never = at-none _;
    over = λ p e k. at-ended _ p k;
    table = λ m c x. EventsInTable.leave-table meaning h n m c x;
  }

  -- ---- a crash

  crash-at : (old now : NodeState S) (a : Answer) (t : List Event) (pool : List (List ℕ)) → at n ≡ old → new n ≡ now
      → IsNodeStateOf n (last_of n h.trace) (is_connected n h) h.trace old → CrashGives a old h.trace now t → pool ≡ h.pool → Turned (Crash n) a t pool
  crash-at Vacant now a t pool was is k g same = refused (Crash n) NotConnected Vacant now a t pool was is (at-none _ k) g same
  crash-at (Ended p) now a t pool was is k g same = refused (Crash n) Closed (Ended p) now a t pool was is (at-ended _ p k) g same
  crash-at (Running m) now a t pool was is k g same =
      let y = MembersAtNodes.running-here meaning laws at h n m w was in
      subst (λ (b : Answer). Turned (Crash n) b t pool) (sym g.0) (record {
        ps = [];
        s = Crashed m.address ∷ [];
        trace = g.2;
        puts = same ∙ sym (append-nil h.pool);
        turn = InputsTaken.crash-turn meaning laws at new n h (Crash n) m y.0 w was y.1 others (λ b k o. connects_after-other k (is_connected k h) (Crash n) b o) Done (is ∙ g.1)
            (MembersAtNodes.at-member meaning h n m y.0 y.1 Done (Crashed m.address ∷ []) (λ p. AnswersCrash p Done (Crashed m.address ∷ [])) (refl, refl)) tt;
      })

  -- ---- any event of the node's member

  to-node : (k : ℕ) (P : ℕ → Type 0) → target.Member k ≡ target.Member n → P n → P k
  to-node k P e y = subst P (let back : n ≡ k = sym (member-is k e) in back) y
    where
      member-is : (j : ℕ) → target.Member j ≡ target.Member n → j ≡ n
      member-is j e = let same : target.Member j ≡ target.Member n = e in cc

  -- a payload is lent only to one that runs
  sent-at : (payload : List ℕ) (a : Answer) (t : List Event) (pool : List (List ℕ)) (old : NodeState S) → at n ≡ old → IsNodeStateOf n (last_of n h.trace) (is_connected n h) h.trace old
      → HandsLent meaning input.Send payload a (about old h.trace h.pool) (about (new n) t pool) → Turned (Send n payload) a t pool
  sent-at payload a t pool Vacant was k g = refused (Send n payload) NotConnected Vacant (new n) a t pool was refl (at-none _ k) g.0 g.1
  sent-at payload a t pool (Ended p) was k g = refused (Send n payload) Closed (Ended p) (new n) a t pool was refl (at-ended _ p k) g.0 g.1
  sent-at payload a t pool (Running m) was k g =
      subst (λ (y : List ℕ). Turned (Send n y) a t pool) g.1 (handed-at (Send n g.0.now) (input.Send g.0) (Running m) (new n) a t pool (send-handed g.0) was refl k g.2)

  pub acts-turn : (e : WorldEvent) (a : Answer) (t : List Event) (pool : List (List ℕ)) → target_of e ≡ target.Member n
      → Acts meaning e a (about (at n) h.trace h.pool) (about (new n) t pool) → Turned e a t pool
  acts-turn (Start k) a t pool here g =
      to-node k (λ j. Acts meaning (Start j) a (about (at n) h.trace h.pool) (about (new n) t pool) → Turned (Start j) a t pool) here
      (λ y. subst (λ (l : List (List ℕ)). Turned (Start n) a t l) (sym y.1) (KeepByStart.start-turns meaning laws at new n h w others a t y.0)) g
  acts-turn (Create k) a t pool here g = to-node k (λ j. Turned (Create j) a t pool) here (handed (Create n) input.Create a t pool create-handed g)
  acts-turn (Join k contact) a t pool here g = to-node k (λ j. Turned (Join j contact) a t pool) here (handed (Join n contact) (input.Join contact) a t pool (join-handed contact) g)
  acts-turn (Send k payload) a t pool here g =
      to-node k (λ j. Turned (Send j payload) a t pool) here
      (sent-at payload a t pool (at n) refl (w.node_states n) g)
  acts-turn (Deliver k) a t pool here g = absurd (let bad : target.Packet k ≡ target.Member n = here in cc)
  acts-turn (Tick k) a t pool here g = to-node k (λ j. Turned (Tick j) a t pool) here (handed (Tick n) input.Tick a t pool tick-handed g)
  acts-turn (Suspect k q) a t pool here g = to-node k (λ j. Turned (Suspect j q) a t pool) here (handed (Suspect n q) (input.Suspect q) a t pool (suspect-handed q) g)
  acts-turn (MergeHint k q) a t pool here g = to-node k (λ j. Turned (MergeHint j q) a t pool) here (handed (MergeHint n q) (input.MergeHint q) a t pool (hint-handed q) g)
  acts-turn (Leave k) a t pool here g = to-node k (λ j. Turned (Leave j) a t pool) here (handed (Leave n) input.Leave a t pool leave-handed g)
  acts-turn (Crash k) a t pool here g =
      to-node k (λ j. Turned (Crash j) a t pool) here (crash-at (at n) (new n) a t pool refl refl (w.node_states n) g.0 g.1)
