-- A packet that is handed over, of whatever kind: what is known of it, and the turn that a delivery is.
use Rattle.std.proofs.Common.{◌≡◌, ℕ, ◌-◌, Bool, true, false, cond, Option, Some, None, Ok, List, [], nat_eq, refl, sym, ap, ◌∙◌, subst, inl, inr}
use Rattle.std.specs.Borrow.{Bor}
use Rattle.std.specs.Option.{option_map}
use Rattle.std.specs.List.{slice_get}
use Rattle.std.proofs.lemmas.Option.{none-some}
use Rattle.std.proofs.lemmas.List.{append-nil}
use Rattle.address.specs.Ids.{Address}
use Rattle.wire.specs.Packets.{wire_refusal}
use Rattle.state_transfer.specs.Meanings.{Meaning}
use Rattle.trace_props.specs.declared.event.Event.{Event}
use Rattle.law_acts.specs.Cores.{Core}
use Rattle.law_acts.proofs.KeepBySteps
use Rattle.member.specs.declared.error.Error.{Error}
use Rattle.member.specs.declared.error.Error.TheVariants.{Wire}
use Rattle.member.specs.declared.input.Input.TheVariants.{Datagram}
use Rattle.step_output.specs.declared.output.Output.{Output}
use Rattle.member.specs.Members.{MemberModel, refusal_in}
use Rattle.member.specs.Handling.{Handled}
use Rattle.world_model.specs.declared.WorldEvent.TheVariants.{Deliver}
use Rattle.world_model.specs.declared.Answer.{Answer}
use Rattle.world_model.specs.declared.Answer.TheVariants.{Done}
use Rattle.world_model.specs.Histories.{History}
use Rattle.world_model.specs.Packets.{world_group, recipient, packet_numbered, destination_of}
use Rattle.world_model.specs.Faithful.{AnswersDeliver}
use Rattle.world.specs.declared.node_state.NodeState.{NodeState}
use Rattle.world.specs.declared.node_state.NodeState.TheVariants.{Vacant, Ended, Running}
use Rattle.world.specs.NodeStates.{answer_to}
use Rattle.world.specs.Turns.{about, OthersStand, SameNodeStates, Idles, HandsPacket, HandsOver, Delivers}
use Rattle.law_processes.proofs.ActsAreOwn.{EachOwn}
use Rattle.law_processes.proofs.PostsAreSpelled.{IsSpelled, is-read}
use Rattle.world.proofs.MembersAsSystem.{same-at}
use Rattle.world.proofs.AnswersByTable
use Rattle.world.proofs.AnswersByTable.{quiet-done}
use Rattle.world.proofs.KeepByTurn
use Rattle.world.proofs.MembersAtNodes
use Rattle.world.proofs.InputsTaken
use Rattle.world.proofs.EventsInTable

-- whoever is handed a packet, nothing may happen
pub answers-deliver : (k : ℕ) (h : History) (o : Option Address) → recipient k h ≡ o → AnswersDeliver k h Done []
answers-deliver k h None e = rw e (refl, refl)
answers-deliver k h (Some p) e = rw e (inl (refl, refl))

-- bytes that spell a packet are not refused
spelled-free : (bytes : List ℕ) → IsSpelled world_group bytes → wire_refusal bytes ≡ None
spelled-free bytes s = let r = is-read world_group bytes s in rw r.packet refl

numbered-by : (b : Bool) (o : Option (List ℕ)) (x : List ℕ) → cond b None o ≡ Some x → o ≡ Some x
numbered-by true o x e = absurd (none-some x e)
numbered-by false o x e = e

-- ---- a delivery

module _ {S : Type 0} (meaning : Meaning S) (laws : KeepBySteps.Laws meaning) (at : ℕ → NodeState S) (h : History) (w : KeepByTurn.World meaning at h) (k : ℕ) where
  -- the packet of that number, and whom it is for
  pub record IsPacketFor (bytes : List ℕ) (p : Address) : Type 0 where
    pub there : packet_numbered k h.pool ≡ Some bytes
    pub goes : destination_of bytes ≡ Some p

  in-pool : (bytes : List ℕ) → packet_numbered k h.pool ≡ Some bytes → slice_get h.pool (k - 1) ≡ Some bytes
  in-pool bytes e = numbered-by (nat_eq k 0) (slice_get h.pool (k - 1)) bytes e

  -- what has to be known of a delivery to a member that runs
  module _ (b : Bor (List ℕ)) (p : Address) (f : IsPacketFor b.now p) (m : MemberModel S) (c : Core S) (x : MembersAtNodes.Runs meaning h p.node m c) where
    is-recipient : recipient k h ≡ Some m.address
    is-recipient = rw (f.there, f.goes) (MembersAtNodes.is-running meaning h p.node m c x)

    spelled : IsSpelled world_group b.now
    spelled = (MembersAtNodes.deployed meaning laws at h w).spelled (k - 1) b.now (in-pool b.now f.there)

    deliver-taken : (out : Output) (left : MemberModel S) → Handled meaning m (Datagram b) (Ok out) left → EachOwn m.address out.events.items
        → InputsTaken.TakesSo meaning h p.node m (Deliver k) (Datagram b) (answer_to out.events.items) out.events.items left
    deliver-taken out left handled own =
        let r = EventsInTable.replies meaning h p.node m c x (Datagram b) out left handled in
        let s = out.events.items in
        subst (λ (a : Answer). InputsTaken.TakesSo meaning h p.node m (Deliver k) (Datagram b) a s left) (sym (quiet-done s r.0)) (record {
          answers = rw is-recipient (AnswersByTable.quiet-taken meaning h p.node m c x s own r.0);
          prompt = tt;
          ends = λ e. absurd (let bad : false ≡ true = e in cc);
          stays = λ e. EventsInTable.stays-so meaning h p.node m c x left r.1;
        })

    not-refused : (err : Error) → refusal_in c (Datagram b) ≡ Some err → ⊥
    not-refused err e = none-some err (sym (ap (option_map Wire) (spelled-free b.now spelled)) ∙ e)

    deliver-table : InputsTaken.Tabled meaning h p.node m c (Deliver k) (Datagram b)
    deliver-table = record {
      elsewhere = λ a j o. refl;
      may = inl (k - 1, in-pool b.now f.there);
      lost = λ free. rw is-recipient (inr (refl, refl));
      not = λ err refused. absurd (not-refused err refused);
      taken = λ out left handled free own. deliver-taken out left handled own;
    }

  module _ (new : ℕ → NodeState S) where
    abbrev Turned : ℕ → Answer → List Event → List (List ℕ) → Type 0
    Turned n a t pool = InputsTaken.Turned meaning new n h (Deliver k) a t pool

    -- where nothing changes
    still : (n : ℕ) (a : Answer) (t : List Event) (pool : List (List ℕ)) → a ≡ Done → SameNodeStates at new → t ≡ h.trace → pool ≡ h.pool → Turned n a t pool
    still n a t pool answer same trace puts = subst (λ (b : Answer). Turned n b t pool) (sym answer) (record {
      ps = [];
      s = [];
      trace = trace ∙ sym (append-nil h.trace);
      puts = puts ∙ sym (append-nil h.pool);
      turn = KeepByTurn.turn-still meaning at new n h (Deliver k) Done w same (answers-deliver k h (recipient k h) refl) tt (λ m. refl);
    })

    idle : (n : ℕ) (s : NodeState S) (a : Answer) (t : List Event) (pool : List (List ℕ)) → at n ≡ s → OthersStand n at new → Idles a (about s h.trace h.pool) (about (new n) t pool) → Turned n a t pool
    idle n s a t pool was others g = still n a t pool g.answer (same-at at new n others (g.node_state ∙ sym was)) g.trace g.puts

    -- at the node of whom it is for
    heard : (bytes : List ℕ) (p : Address) (s : NodeState S) (a : Answer) (t : List Event) (pool : List (List ℕ)) → IsPacketFor bytes p → at p.node ≡ s → OthersStand p.node at new
        → HandsPacket meaning bytes a (about s h.trace h.pool) (about (new p.node) t pool) → Turned p.node a t pool
    heard bytes p Vacant a t pool f was others g = idle p.node Vacant a t pool was others g
    heard bytes p (Ended q) a t pool f was others g = idle p.node (Ended q) a t pool was others g
    heard bytes p (Running m) a t pool f was others g =
        let x = MembersAtNodes.running-here meaning laws at h p.node m w was in
        let table = deliver-table g.0 p (subst (λ (l : List ℕ). IsPacketFor l p) (sym g.1) f) m x.0 x.1 in
        InputsTaken.hands-turn meaning laws at new p.node h (Deliver k) (Datagram g.0) m x.0 w was x.1 table others a (new p.node) t pool refl g.2

    over : (bytes : List ℕ) (d : Option Address) (a : Answer) (t : List Event) (pool : List (List ℕ)) → packet_numbered k h.pool ≡ Some bytes → destination_of bytes ≡ d
        → HandsOver meaning bytes d a (about at h.trace h.pool) (about new t pool) → (n : ℕ) × OthersStand n at new × Turned n a t pool
    over bytes None a t pool there goes g = (0, λ m o. g.node_states m, still 0 a t pool g.answer g.node_states g.trace g.puts)
    over bytes (Some p) a t pool there goes g = (p.node, g.1, heard bytes p (at p.node) a t pool (record { there = there; goes = goes }) refl g.1 g.0)

    -- a delivery is a turn at some node
    pub delivered : (o : Option (List ℕ)) (a : Answer) (t : List Event) (pool : List (List ℕ)) → packet_numbered k h.pool ≡ o → Delivers meaning o a (about at h.trace h.pool) (about new t pool)
        → (n : ℕ) × OthersStand n at new × Turned n a t pool
    delivered None a t pool there g = (0, λ m o. g.node_states m, still 0 a t pool g.answer g.node_states g.trace g.puts)
    delivered (Some bytes) a t pool there g = over bytes (destination_of bytes) a t pool there refl g
