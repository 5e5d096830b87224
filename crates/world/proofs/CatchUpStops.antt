-- A catch-up that ends in an error: the coordinator or the member has crashed at last, or both run as before.
use Rattle.std.proofs.Common.{◌≡◌, ℕ, zero, suc, ◌+◌, ◌-◌, ◌<◌, ◌≤◌, true, false, Option, Some, List, ◌∷◌, length, nat_eq, inl, inr, ◌⊎◌, refl, sym, ap, ◌∙◌, subst, arith, ⊎_elim}
use Rattle.std.specs.Option.{IsSomeAnd, option_map_or}
use Rattle.std.proofs.lemmas.Bool.{and_from}
use Rattle.address.specs.Ids.{Address, ViewId, same_address, same_view_id}
use Rattle.view.specs.Members.{View}
use Rattle.wire_values.specs.declared.packet.Body.TheVariants as bodies
use Rattle.wire_values.specs.Posted.{Posted, packet}
use Rattle.state_transfer.specs.Meanings.{Meaning}
use Rattle.address.proofs.SameIds.{same_address-refl, same_address-sym, same_view_id-refl}
use Rattle.law_acts.proofs.KeepBySteps
use Rattle.traffic.specs.declared.coordinator.Coordinator.{Coordinator}
use Rattle.traffic.specs.declared.follower.Follower.{Follower}
use Rattle.traffic.specs.declared.view_state.ViewState.{ViewState}
use Rattle.traffic.specs.declared.view_state.ViewState.TheVariants as kinds
use Rattle.traffic.specs.ViewStates.{view_of}
use Rattle.traffic.specs.Takes.{AsksUpTo}
use Rattle.membership.specs.declared.member_state.MemberState.{MemberState}
use Rattle.world_model.specs.declared.WorldEvent.TheVariants.{Deliver, Tick}
use Rattle.world_model.specs.Packets.{world_group}
use Rattle.world.specs.declared.gaps.Pair.{Pair}
use Rattle.world.specs.declared.node_state.NodeState.{NodeState}
use Rattle.world.specs.declared.node_state.NodeState.TheVariants.{Running}
use Rattle.world.specs.Invariant.{IsWorld}
use Rattle.world.specs.Worlds.{WorldModel}
use Rattle.world.specs.Pools.{first_for}
use Rattle.world.specs.Plays.{lacks_memory, Plays, Fails, Breaks, BreaksPast, DeliversPast}
use Rattle.world.specs.Gaps.{open_view, is_open_in, pair_at, Hands, Stops, LosesOne, BothRun, EndsSo}
use Rattle.world.specs.Gaps.Stops.{AtTick, AtStatus, AtRequest, AtAnswer}
use Rattle.world.proofs.WindowFills.{MissesWithin}
use Rattle.law_processes.proofs.PostsAreSpelled.{EachSound}
use Rattle.world.proofs.KeepOfWorlds
use Rattle.world.proofs.RepliesPlayed
use Rattle.world.proofs.Standing
use Rattle.world.proofs.CatchUpLevels
use Rattle.world.proofs.CatchUpEnds
use Rattle.step_output.specs.Steps.{who}
use Rattle.world.proofs.PoolPackets.{AreNext, next-rest, next-first}
use Rattle.world.proofs.Deliveries.{breaks-none, breaks-next}

module _ {S : Type 0} (meaning : Meaning S) where
  -- who runs in a view is open there
  pub open-run : (w : WorldModel S) (p : Address) (l : MemberState S) (t : ViewState) (v : ViewId) (r : RepliesPlayed.RunsAs meaning w p l t) → (view_of t).id ≡ v → is_open_in p v (w.node_states p.node) ≡ true
  open-run w p l t v r id =
      let view : open_view (Running r.stands.member) ≡ Some (view_of t) = rw (Standing.core-is meaning w p l r.stands, r.view_state, r.installed) refl in
      let same : same_address r.stands.member.address p ≡ true = ap (λ z. same_address z p) r.stands.address ∙ same_address-refl p in
      let seen : option_map_or (λ (x : View). same_view_id x.id v) (open_view (Running r.stands.member)) false ≡ true =
      ap (λ (o : Option View). option_map_or (λ (x : View). same_view_id x.id v) o false) view ∙ ap (λ (x : ViewId). same_view_id x v) id ∙ same_view_id-refl v in
      subst (λ (s : NodeState S). is_open_in p v s ≡ true) (sym r.stands.node_state) (and_from (same_address r.stands.member.address p) _ same seen)

module _ {S : Type 0} (meaning : Meaning S) (laws : KeepBySteps.Laws meaning) where
  abbrev Couple : WorldModel S → Address → Address → MemberState S → MemberState S → Coordinator → Follower → Type 0
  Couple w c q lc lq kc kq = CatchUpLevels.Couple meaning laws w c q lc lq kc kq

  -- both of a couple run
  both-run : (w : WorldModel S) (pair : Pair) (lc lq : MemberState S) (kc : Coordinator) (kq : Follower) → Couple w pair.view.creator pair.member lc lq kc kq → kc.view.id ≡ pair.view → BothRun pair w
  both-run w pair lc lq kc kq x id = record {
    coordinator = open-run meaning w pair.view.creator lc (kinds.Coordinator kc) pair.view x.first id;
    member = open-run meaning w pair.member lq (kinds.Follower kq) pair.view x.other (ap (λ (v : View). v.id) x.same ∙ id);
  }

  -- nobody else did anything
  abbrev pub Rest : Pair → WorldModel S → WorldModel S → Type 0
  Rest pair old new = (n : ℕ) → nat_eq pair.view.creator.node n ≡ false → nat_eq pair.member.node n ≡ false → new.node_states n ≡ old.node_states n

  -- nobody was lost
  pub record Unharmed (pair : Pair) (old new : WorldModel S) : Type 0 where
    pub both : BothRun pair new
    pub rest : Rest pair old new

  abbrev pub Ends : Pair → WorldModel S → WorldModel S → Type 0
  Ends pair old new = LosesOne pair new ⊎ Unharmed pair old new

  -- ---- one step that fails, in a catch-up that began in a world `old`

  module _ (old w new : WorldModel S) (pair : Pair) (lc lq : MemberState S) (kc : Coordinator) (kq : Follower) (x : Couple w pair.view.creator pair.member lc lq kc kq) (id : kc.view.id ≡ pair.view) (rest : Rest pair old w) where
    -- it was not begun
    not-begun : new ≡ w → Ends pair old new
    not-begun same = inr (subst (Unharmed pair old) (sym same) (record { both = both-run w pair lc lq kc kq x id; rest = rest }))

    -- the tick of the coordinator
    ends-tick : Fails meaning w (Tick pair.view.creator.node) new → Ends pair old new
    ends-tick (inl same) = not-begun same
    ends-tick (inr f) =
        let y = CatchUpLevels.lost meaning laws (lacks_memory f.0.answer) f.1 (RepliesPlayed.ticked meaning w new pair.view.creator lc kc x.first f.0) in
        inl (record { before = w.history.trace; crash = inl y.trace })

    -- a packet to the coordinator
    ends-first : (k : ℕ) (m : Posted) → Standing.IsFor meaning w k pair.view.creator m → Fails meaning w (Deliver k) new → Ends pair old new
    ends-first k m f (inl same) = not-begun same
    ends-first k m f (inr y) =
        let z = CatchUpLevels.lost meaning laws (lacks_memory y.0.answer) y.1 (Standing.heard meaning laws w new x.keeps k pair.view.creator lc x.first.stands m f y.0) in
        inl (record { before = w.history.trace; crash = inl z.trace })

    -- and one to the member
    ends-other : (k : ℕ) (m : Posted) → Standing.IsFor meaning w k pair.member m → Fails meaning w (Deliver k) new → Ends pair old new
    ends-other k m f (inl same) = not-begun same
    ends-other k m f (inr y) =
        let z = CatchUpLevels.lost meaning laws (lacks_memory y.0.answer) y.1 (Standing.heard meaning laws w new x.keeps k pair.member lq x.other.stands m f y.0) in
        inl (record { before = w.history.trace; crash = inr z.trace })

  -- ---- the answers

  rounds-break : (n g past : ℕ) (old w new : WorldModel S) (pair : Pair) (lc lq : MemberState S) (kc : Coordinator) (kq : Follower) (last : ℕ) → Couple w pair.view.creator pair.member lc lq kc kq
      → kc.view.id ≡ pair.view → Rest pair old w → MissesWithin g last kc.window.delivered kq.window → g + n ≡ last + 1 → kc.window.stable < g → last ≤ kc.window.delivered
      → EachSound world_group (CatchUpLevels.orders meaning laws pair.view.creator pair.member kc g n)
      → AreNext past (CatchUpLevels.orders meaning laws pair.view.creator pair.member kc g n) w.history.pool
      → Breaks meaning past (length (CatchUpLevels.orders meaning laws pair.view.creator pair.member kc g n)) w new → Ends pair old new
  rounds-break zero g past old w new pair lc lq kc kq last x id rest within count low high sound next all = absurd (breaks-none meaning past 0 w new refl all)
  rounds-break (suc n) g past old w new pair lc lq kc kq last x id stand within count low high sound next all =
      let c = pair.view.creator in
      let q = pair.member in
      let o = CatchUpLevels.order-at meaning laws w c q lc lq kc kq n g last x count low high in
      let m = packet c (bodies.Order kc.view.id g o.entry) q in
      let rest = CatchUpLevels.orders meaning laws c q kc (g + 1) n in
      let sounds : EachSound world_group (m ∷ rest) = subst (EachSound world_group) o.is sound in
      let nexts : AreNext past (m ∷ rest) w.history.pool = subst (λ (l : List Posted). AreNext past l w.history.pool) o.is next in
      let f : Standing.IsFor meaning w (past + 1) q m =
      record { there = next-first past m rest w.history.pool nexts; sound = sounds.0; goes = refl; other = same_address-sym c q ∙ x.apart } in
      ⊎_elim (λ fails. ends-other old w new pair lc lq kc kq x id stand (past + 1) m f fails)
      (λ d.
      let h = CatchUpLevels.sure meaning laws (lacks_memory d.plays.step.answer) d.plays.whole
      (Standing.heard meaning laws w d.mid x.keeps (past + 1) q lq x.other.stands m f d.plays.step) in
      let keeps = KeepOfWorlds.step-keeps meaning laws w d.mid (Deliver (past + 1)) d.plays.step x.keeps in
      let known : g ≤ kc.window.delivered = omega (arith, count, high) in
      let r = CatchUpLevels.round meaning laws w d.mid c q lc lq kc kq g last o.entry x within known sounds.0 keeps h in
      rounds-break n (g + 1) (past + 1) old d.mid new pair lc r.member_state kc r.now last r.couple id (λ j a b. r.others j b ∙ stand j a b) r.within (omega (arith, count)) (omega (arith, low)) high sounds.1
      (subst (AreNext (past + 1) rest) (sym r.puts) (next-rest past m rest w.history.pool r.more nexts)) d.rest)
      (breaks-next meaning past (length (m ∷ rest)) (length rest) w new refl (subst (λ (l : List Posted). Breaks meaning past (length l) w new) o.is all))

  -- ---- all stages

  pub ends-from : (old new : WorldModel S) (pair : Pair) → CatchUpEnds.Found meaning laws old pair → Stops meaning pair old new → Ends pair old new
  ends-from old _ pair f (AtTick new fails) = ends-tick old old new pair f.first f.other f.leads f.follows f.couple f.id (λ n a b. refl) fails
  ends-from old _ pair f (AtStatus announced new ticks fails) =
      let t = CatchUpEnds.announced-so meaning laws old announced pair f ticks in
      let x : Fails meaning announced (Deliver t.number) new =
      subst (λ (o : Option ℕ). IsSomeAnd o (λ k. Fails meaning announced (Deliver k) new)) t.found fails in
      ends-other old announced new pair f.first f.other f.leads f.follows t.couple f.id (λ n a b. t.others n a) t.number _ t.status x
  ends-from old _ pair f (AtRequest announced asked new ticks hands breaks) = by s.asks
    where
      t : CatchUpLevels.AnnouncedSo meaning laws old announced pair.view.creator pair.member f.first f.other f.leads f.follows
      t = CatchUpEnds.announced-so meaning laws old announced pair f ticks

      s : CatchUpLevels.AskedSo meaning laws announced asked pair.view.creator pair.member f.first f.leads f.follows
      s = CatchUpEnds.asked-so meaning laws old announced asked pair f t hands

      by : AsksUpTo (who pair.member world_group) f.leads.window.delivered s.now s.start s.out → Ends pair old new
      by (inl k) =
          let nak = CatchUpLevels.nak-of meaning laws announced asked pair.view.creator pair.member f.first f.leads f.follows s k in
          ⊎_elim (λ fails. ends-first old asked new pair f.first s.after f.leads s.now s.couple f.id (λ n a b. s.others n b ∙ t.others n a) (length announced.history.pool + 1)
          (packet pair.member (bodies.Nak f.leads.view.id k.missing) pair.view.creator) nak.packet fails)
          (λ d. absurd (breaks-none meaning (length announced.history.pool + 1) 0 d.mid new refl d.rest))
          (breaks-next meaning (length announced.history.pool) (length asked.history.pool - length announced.history.pool) 0 asked new nak.many breaks)
      by (inr k) =
          absurd (breaks-none meaning (length announced.history.pool) (length asked.history.pool - length announced.history.pool) asked new
          (CatchUpLevels.no-more meaning laws asked.history.pool announced.history.pool
          (CatchUpLevels.silent-pool meaning laws announced asked pair.view.creator pair.member f.first f.leads f.follows s k.1)) breaks)
  ends-from old _ pair f (AtAnswer announced asked replied new ticks hands asks breaks) = by s.asks
    where
      t : CatchUpLevels.AnnouncedSo meaning laws old announced pair.view.creator pair.member f.first f.other f.leads f.follows
      t = CatchUpEnds.announced-so meaning laws old announced pair f ticks

      s : CatchUpLevels.AskedSo meaning laws announced asked pair.view.creator pair.member f.first f.leads f.follows
      s = CatchUpEnds.asked-so meaning laws old announced asked pair f t hands

      by : AsksUpTo (who pair.member world_group) f.leads.window.delivered s.now s.start s.out → Ends pair old new
      by (inl k) =
          let r = CatchUpLevels.replied-so meaning laws announced asked replied pair.view.creator pair.member f.first f.leads f.follows s asks k in
          rounds-break (r.last + 1 - r.first) r.first (length asked.history.pool) old replied new pair f.first s.after f.leads s.now r.last r.couple f.id (λ n a b. r.others n a ∙ s.others n b ∙ t.others n a)
          r.within r.count r.low r.high r.sound r.next (subst (λ (j : ℕ). Breaks meaning (length asked.history.pool) j replied new) r.many breaks)
      by (inr k) =
          let a : replied ≡ asked = CatchUpLevels.none-asked meaning laws announced asked replied pair.view.creator pair.member f.first f.leads f.follows s asks k.1 in
          absurd (breaks-none meaning (length asked.history.pool) (length replied.history.pool - length asked.history.pool) replied new
          (CatchUpLevels.no-more meaning laws replied.history.pool asked.history.pool (ap (λ (w : WorldModel S). w.history.pool) a)) breaks)

  pub ends : (old new : WorldModel S) (n : ℕ) (pair : Pair) → IsWorld meaning old.node_states old.history → pair_at old.node_states n ≡ Some pair
      → Stops meaning pair old new → EndsSo pair new
  ends old new n pair keeps e x = by (ends-from old new pair (CatchUpEnds.found meaning laws old n pair keeps e) x)
    where
      by : Ends pair old new → EndsSo pair new
      by (inl lost) = inl lost
      by (inr unharmed) = inr unharmed.both

-- ---- from what the code did

module _ {S : Type 0} (meaning : Meaning S) (pair : Pair) (old : WorldModel S) (n : ℕ) (node : n ≡ pair.view.creator.node) where
  pub at-tick : (new : WorldModel S) → Fails meaning old (Tick n) new → Stops meaning pair old new
  at-tick new x = AtTick new (subst (λ (k : ℕ). Fails meaning old (Tick k) new) node x)

  module _ (announced : WorldModel S) (ticks : Plays meaning old (Tick n) announced) (o : Option ℕ) (first : o ≡ first_for pair.member (length old.history.pool) announced.history.pool) where
    ticked : Plays meaning old (Tick pair.view.creator.node) announced
    ticked = subst (λ (k : ℕ). Plays meaning old (Tick k) announced) node ticks

    pub at-status : (new : WorldModel S) → IsSomeAnd o (λ k. Fails meaning announced (Deliver k) new) → Stops meaning pair old new
    at-status new x = AtStatus announced new ticked (subst (λ (p : Option ℕ). IsSomeAnd p (λ k. Fails meaning announced (Deliver k) new)) first x)

    module _ (asked : WorldModel S) (hands : Hands meaning o announced asked) where
      handed : Hands meaning (first_for pair.member (length old.history.pool) announced.history.pool) announced asked
      handed = subst (λ (p : Option ℕ). Hands meaning p announced asked) first hands

      pub at-request : (past : ℕ) (new : WorldModel S) → past ≡ length announced.history.pool → BreaksPast meaning past asked new → Stops meaning pair old new
      at-request past new is x = AtRequest announced asked new ticked handed (subst (λ (k : ℕ). BreaksPast meaning k asked new) is x)

      pub at-answer : (past more : ℕ) (answered new : WorldModel S) → past ≡ length announced.history.pool → DeliversPast meaning past asked answered → more ≡ length asked.history.pool
          → BreaksPast meaning more answered new → Stops meaning pair old new
      at-answer past more answered new is asks so x =
          AtAnswer announced asked answered new ticked handed (subst (λ (k : ℕ). DeliversPast meaning k asked answered) is asks)
          (subst (λ (k : ℕ). BreaksPast meaning k answered new) so x)
