-- A settling that ends in an error: one of the proposal's list has crashed for want of memory, or a step was not begun, and all of the list run.
use Rattle.std.proofs.Common.{◌≡◌, ℕ, zero, suc, ◌+◌, Bool, true, false, not, List, [], ◌∷◌, Option, Some, length, inl, inr, ◌⊎◌, ⊎_elim, refl, sym, ap, ◌∙◌, subst, arith}
use Rattle.std.specs.Prelude.{MatchBool, unwrap_or}
use Rattle.std.specs.List.{AllByRecursion}
use Rattle.std.proofs.lemmas.Bool.{and_parts, not-true}
use Rattle.address.specs.Ids.{Address, ViewId, same_address}
use Rattle.address.proofs.SameIds.{same_address-true}
use Rattle.view.specs.Members.{View, stands_in, is_distinct}
use Rattle.view.proofs.MembersListed.{coordinator-in}
use Rattle.wire_values.specs.Values.{Report}
use Rattle.wire_values.specs.declared.packet.Body.TheVariants as bodies
use Rattle.wire_values.specs.Posted.{Posted, packet}
use Rattle.state_transfer.specs.Meanings.{Meaning}
use Rattle.flush.specs.Flushes.{FlushModel, previous_of}
use Rattle.law_acts.specs.Acts.{proposed, others_of}
use Rattle.law_acts.proofs.KeepBySteps
use Rattle.traffic.specs.declared.view_state.ViewState.{ViewState}
use Rattle.traffic.specs.ViewStates.{view_of}
use Rattle.membership.specs.declared.member_state.MemberState.{MemberState}
use Rattle.membership.specs.Installs.{instruction_to}
use Rattle.world_model.specs.declared.WorldEvent.TheVariants.{Deliver, Tick}
use Rattle.world_model.specs.Histories.{running}
use Rattle.world_model.specs.Packets.{world_group}
use Rattle.world.specs.Turns.{OthersStand}
use Rattle.world.specs.Worlds.{WorldModel}
use Rattle.world.proofs.MembersAtNodes
use Rattle.law_processes.proofs.PostsAreSpelled.{EachSound}
use Rattle.world.specs.Plays.{lacks_memory, Fails, Delivers, Breaks}
use Rattle.world.specs.Plays.Delivers.{Still, Next}
use Rattle.world.specs.Plays.Breaks.{Here, Later}
use Rattle.world.proofs.Deliveries.{breaks-none, breaks-next, BreaksLater}
use Rattle.world.proofs.PlayedEvents
use Rattle.world.proofs.PoolPackets.{AreNext}
use Rattle.world.proofs.Standing
use Rattle.world.proofs.Standing.{Stands}
use Rattle.world.specs.Settles.{settling_at, SettlesShort, EndsSettling}
use Rattle.world.specs.Settles.SettlesShort.{AtTick, AtFlush, AtReport, AtInstall}
use Rattle.world.proofs.ChunksInOrder.{chunks_from}
use Rattle.world.proofs.ReportsMissing.{awaited_by}
use Rattle.world.proofs.SettlingsSettle
use Rattle.world.proofs.StageOfFlushes
use Rattle.world.proofs.StageOfFlushes.{Keeps, AreOthers, flush_packets, report_packet, report_packets}
use Rattle.world.proofs.StageOfReports
use Rattle.world.proofs.StageOfReports.{Waits, Gathers, senders, AreForeign, with_report, flushing}
use Rattle.world.proofs.StageOfInstalls
use Rattle.world.proofs.StageOfInstalls.{Holds, Inside, Entering, Leaves, state_packets}

-- the last of these has happened
pub lost : {A B : Type 0} (b : Bool) → b ≡ true → ((b ≡ false) × A) ⊎ ((b ≡ true) × B) → B
lost b e (inl x) = absurd (let n : true ≡ false = sym e ∙ x.0 in cc)
lost b e (inr x) = x.1

module _ {S : Type 0} (meaning : Meaning S) (laws : KeepBySteps.Laws meaning) where
  -- the member of an address runs, and is connected
  pub record Stood (w : WorldModel S) (q : Address) : Type 0 where
    pub member_state : MemberState S
    pub stands : Stands meaning w q member_state

  -- and so do all of a view
  abbrev pub AllStand : WorldModel S → View → Type 0
  AllStand w v = (q : Address) → stands_in q v.members ≡ true → Stood w q

  -- the creator and the others of it
  all-by : (w : WorldModel S) (v : View) (c : Address) → Stood w c → ((q : Address) → stands_in q v.members ≡ true → same_address q c ≡ false → Stood w q) → AllStand w v
  all-by w v c first others q listed = by (same_address q c) refl
    where
      by : (b : Bool) → same_address q c ≡ b → Stood w q
      by true e = subst (Stood w) (sym (same_address-true q c e)) first
      by false e = others q listed e

  -- after a step at one of them, by which it still stands
  pub all-still : (w mid : WorldModel S) (v : View) (q : Address) (l : MemberState S) → AllStand w v → Stands meaning w q l → OthersStand q.node w.node_states mid.node_states → Stood mid q → AllStand mid v
  all-still w mid v q l all here others now p listed = by (same_address p q) refl
    where
      by : (b : Bool) → same_address p q ≡ b → Stood mid p
      by true e = subst (Stood mid) (sym (same_address-true p q e)) now
      by false e =
          let x = all p listed in
          record { member_state = x.member_state; stands = Standing.stands-still meaning w p x.member_state x.stands mid q (Standing.nodes-apart meaning w q p l x.member_state here x.stands e) others }

  runs-there : (w : WorldModel S) (q : Address) → Keeps meaning laws w → Stood w q → running q.node w.history.trace ≡ Some q
  runs-there w q keeps x =
      let m = x.stands.member in
      let r = MembersAtNodes.running-here meaning laws w.node_states w.history q.node m keeps x.stands.node_state in
      MembersAtNodes.is-running meaning w.history q.node m r.0 r.1 ∙ ap Some x.stands.address

  -- ---- one step that fails

  pub not-begun : (w new : WorldModel S) (v : View) → Keeps meaning laws w → AllStand w v → new ≡ w → EndsSettling v new
  not-begun w new v keeps all same = inr (λ q listed. ap (λ (u : WorldModel S). running q.node u.history.trace) same ∙ runs-there w q keeps (all q listed))

  pub crashed : (w new : WorldModel S) (v : View) (q : Address) → stands_in q v.members ≡ true → PlayedEvents.Lost meaning q w.history.trace w.history.pool new.history.trace new.history.pool → EndsSettling v new
  crashed w new v q listed x = inl (record { lost = q; listed = listed; before = w.history.trace; crash = x.trace })

  pub fails-at : (w new : WorldModel S) (v : View) (q : Address) (l : MemberState S) (k : ℕ) (m : Posted) → Keeps meaning laws w → AllStand w v → stands_in q v.members ≡ true → Stands meaning w q l
      → Standing.IsFor meaning w k q m → Fails meaning w (Deliver k) new → EndsSettling v new
  fails-at w new v q l k m keeps all listed here to (inl same) = not-begun w new v keeps all same
  fails-at w new v q l k m keeps all listed here to (inr x) =
      crashed w new v q listed (lost (lacks_memory x.0.answer) x.1 (Standing.heard meaning laws w new keeps k q l here m to x.0))

  -- ---- the FLUSHes

  all-flushed : (w : WorldModel S) (c : Address) (l : MemberState S) (f : FlushModel) (rest : List Address) → StageOfFlushes.Flushes meaning laws w c l f rest → AllStand w (proposed f)
  all-flushed w c l f rest x =
      all-by w (proposed f) c (record { member_state = l; stands = x.stands }) (λ q listed other. by q (stands_in q rest) (x.follows q listed other))
    where
      by : (q : Address) (b : Bool) → MatchBool b (StageOfFlushes.Accepts meaning laws w (proposed f) q) (StageOfFlushes.Awaits meaning laws w (proposed f) q) → Stood w q
      by q true y = record { member_state = y.member_state; stands = y.stands }
      by q false y = record { member_state = y.member_state; stands = y.stands }

  flushes-break : (qs : List Address) (past : ℕ) (w new : WorldModel S) (c : Address) (l : MemberState S) (f : FlushModel) → StageOfFlushes.Flushes meaning laws w c l f qs → f.proposal.creator ≡ c
      → is_distinct qs ≡ true → AreOthers meaning laws c (proposed f) qs → EachSound world_group (flush_packets meaning laws c (proposed f) qs)
      → AreNext past (flush_packets meaning laws c (proposed f) qs) w.history.pool → Breaks meaning past (length (flush_packets meaning laws c (proposed f) qs)) w new → EndsSettling (proposed f) new
  flushes-break [] past w new c l f x own distinct listed sound next all = absurd (breaks-none meaning past 0 w new refl all)
  flushes-break (q ∷ qs) past w new c l f x own distinct listed sound next all =
      let rest = flush_packets meaning laws c (proposed f) qs in
      let a = StageOfFlushes.first-of meaning laws _ _ q qs (x.follows q listed.0.0 listed.0.1) in
      ⊎_elim (λ fails.
      fails-at w new (proposed f) q a.member_state (past + 1) (packet c (bodies.Flush (proposed f)) q) x.keeps (all-flushed w c l f (q ∷ qs) x) listed.0.0 a.stands
      (StageOfFlushes.flush-for meaning laws w past c q (proposed f) qs listed sound next) fails)
      (λ d.
      let y = StageOfFlushes.first-answered meaning laws q qs past w d.mid c l f x own distinct listed sound next d.plays in
      flushes-break qs (past + 1) d.mid new c l f y.flushes own (and_parts (not (stands_in q qs)) (is_distinct qs) distinct).1 listed.1 sound.1 y.next d.rest)
      (breaks-next meaning past (suc (length rest)) (length rest) w new refl all)

  -- ---- the REPORTs

  all-gathered : (w : WorldModel S) (c : Address) (l : MemberState S) (f : FlushModel) (t : ViewState) (rest : List Address) → Gathers meaning laws w c l f t rest → AllStand w (proposed f)
  all-gathered w c l f t rest g =
      all-by w (proposed f) c (record { member_state = l; stands = g.stands }) (λ q listed other. let a = g.awaits q listed other in record { member_state = a.member_state; stands = a.stands })

  reports-break : (xs : List (Address × Report)) (x : Address × Report) (past : ℕ) (w new : WorldModel S) (c : Address) (l : MemberState S) (f : FlushModel) (t : ViewState)
      → Gathers meaning laws w c l f t (senders meaning laws (x ∷ xs)) → stands_in c f.members ≡ true → is_distinct (senders meaning laws (x ∷ xs)) ≡ true → AreForeign meaning laws c (x ∷ xs)
      → EachSound world_group (report_packets meaning laws c f.proposal (x ∷ xs)) → AreNext past (report_packets meaning laws c f.proposal (x ∷ xs)) w.history.pool
      → Breaks meaning past (length (report_packets meaning laws c f.proposal (x ∷ xs))) w new → EndsSettling (proposed f) new
  reports-break [] x past w new c l f t g listed distinct foreign sound next all =
      ⊎_elim (λ fails.
      fails-at w new (proposed f) c l (past + 1) (report_packet c f.proposal x) g.keeps (all-gathered w c l f t (x.0 ∷ []) g) listed g.stands
      (StageOfReports.report-for meaning laws w past c f.proposal x [] foreign sound next) fails)
      (λ d. absurd (breaks-none meaning (past + 1) 0 d.mid new refl d.rest))
      (breaks-next meaning past 1 0 w new refl all)
  reports-break (y ∷ ys) x past w new c l f t g listed distinct foreign sound next all =
      let rest = report_packets meaning laws c f.proposal (y ∷ ys) in
      ⊎_elim (λ fails.
      fails-at w new (proposed f) c l (past + 1) (report_packet c f.proposal x) g.keeps (all-gathered w c l f t (senders meaning laws (x ∷ y ∷ ys)) g) listed g.stands
      (StageOfReports.report-for meaning laws w past c f.proposal x (y ∷ ys) foreign sound next) fails)
      (λ d.
      let z = StageOfReports.first-taken meaning laws x y ys past w d.mid c l f t g distinct foreign sound next d.plays in
      reports-break ys y (past + 1) d.mid new c (flushing (with_report meaning laws f x) l) (with_report meaning laws f x) t z.gathers listed z.distinct foreign.1 sound.1 z.next d.rest)
      (breaks-next meaning past (suc (length rest)) (length rest) w new refl all)

  -- ---- the STATEs and INSTALLs

  -- so many deliveries that end in an error: in the first part, or in the second
  pub record BreaksIn (past a b : ℕ) (w new : WorldModel S) : Type 0 where
    pub mid : WorldModel S
    pub first : Delivers meaning past a w mid
    pub second : Breaks meaning (past + a) b mid new

  pub breaks-split : (a b past n : ℕ) (w new : WorldModel S) → n ≡ a + b → Breaks meaning past n w new → Breaks meaning past a w new ⊎ BreaksIn past a b w new
  breaks-split zero b past n w new e all =
      let z : past + 0 ≡ past = omega arith in
      let same : n ≡ b = omega (arith, e) in
      inr (record { mid = w; first = Still past w; second = subst (λ (k : ℕ). Breaks meaning k b w new) (sym z) (subst (λ (k : ℕ). Breaks meaning past k w new) same all) })
  breaks-split (suc a) b past n w new e all =
      ⊎_elim (λ fails. inl (Here past a w new fails)) (λ d. by d (breaks-split a b (past + 1) (a + b) d.mid new refl d.rest)) (breaks-next meaning past n (a + b) w new (omega (arith, e)) all)
    where
      by : (d : BreaksLater meaning past (a + b) w new) → Breaks meaning (past + 1) a d.mid new ⊎ BreaksIn (past + 1) a b d.mid new → Breaks meaning past (suc a) w new ⊎ BreaksIn past (suc a) b w new
      by d (inl x) = inl (Later past a w d.mid new d.plays x)
      by d (inr x) =
          let z : past + 1 + a ≡ past + suc a = omega arith in
          inr (record { mid = x.mid; first = Next past a w d.mid x.mid d.plays x.first; second = subst (λ (k : ℕ). Breaks meaning k b x.mid new) z x.second })

  -- at a STATE
  states-break : (n k past : ℕ) (w new : WorldModel S) (c q : Address) (v : View) (from : Option ViewId) (bytes : List ℕ) → Keeps meaning laws w → AllStand w v → stands_in q v.members ≡ true
      → Holds meaning laws w v q from (chunks_from bytes 1 k) → v.id.creator ≡ c → same_address q c ≡ false → EachSound world_group (state_packets c q v.id bytes (1 + k) n)
      → AreNext past (state_packets c q v.id bytes (1 + k) n) w.history.pool → Breaks meaning past n w new → EndsSettling v new
  states-break zero k past w new c q v from bytes keeps all listed x own other sound next breaks = absurd (breaks-none meaning past 0 w new refl breaks)
  states-break (suc n) k past w new c q v from bytes keeps all listed x own other sound next breaks =
      ⊎_elim (λ fails. fails-at w new v q x.member_state (past + 1) _ keeps all listed x.stands (StageOfInstalls.state-for meaning laws w past n (1 + k) c q v bytes other sound next) fails)
      (λ d.
      let y = StageOfInstalls.first-held meaning laws n k past w d.mid c q v from bytes keeps x own other sound next d.plays in
      states-break n (suc k) (past + 1) d.mid new c q v from bytes y.leaves.keeps
      (all-still w d.mid v q x.member_state all x.stands y.leaves.others (record { member_state = y.holds.member_state; stands = y.holds.stands })) listed y.holds own other y.sound y.next d.rest)
      (breaks-next meaning past (suc n) n w new refl breaks)

  -- at one of the packets to one of the list
  one-breaks : (past n : ℕ) (w new : WorldModel S) (c q : Address) (f : FlushModel) (u : ViewId) (given : Option (List ℕ)) → Keeps meaning laws w → AllStand w (proposed f) → stands_in q f.members ≡ true
      → Waits meaning laws w (proposed f) q (previous_of q f) → f.proposal.creator ≡ c → same_address q c ≡ false → EachSound world_group (StageOfInstalls.packets_to meaning laws c q f u given n)
      → AreNext past (StageOfInstalls.packets_to meaning laws c q f u given n) w.history.pool → Breaks meaning past (n + 1) w new → EndsSettling (proposed f) new
  one-breaks past n w new c q f u given keeps all listed x own other sound next breaks =
      let bytes = unwrap_or given [] in
      let chunks = state_packets c q f.proposal bytes 1 n in
      let m = packet c (bodies.Install (instruction_to f u given q)) q in
      ⊎_elim (λ y.
      states-break n 0 past w new c q (proposed f) (previous_of q f) bytes keeps all listed (StageOfInstalls.start-of meaning laws w (proposed f) q (previous_of q f) bytes x) own other
      (StageOfInstalls.all-front meaning laws _ chunks (m ∷ []) sound) (StageOfInstalls.next-front meaning laws past chunks (m ∷ []) w.history.pool next) y)
      (λ y.
      let i = StageOfInstalls.instructed meaning laws past n w y.mid c q f u given keeps x own other sound next y.first in
      let now = all-still w y.mid (proposed f) q x.member_state all x.stands i.leaves.others (record { member_state = i.holds.member_state; stands = i.holds.stands }) in
      ⊎_elim (λ fails. fails-at y.mid new (proposed f) q i.holds.member_state (past + n + 1) m i.leaves.keeps now listed i.holds.stands i.to fails)
      (λ d. absurd (breaks-none meaning (past + n + 1) 0 d.mid new refl d.rest))
      (breaks-next meaning (past + n) 1 0 y.mid new refl y.second))
      (breaks-split n 1 past (n + 1) w new refl breaks)

  all-entering : (w : WorldModel S) (c : Address) (f : FlushModel) (rest : List Address) → Entering meaning laws w c f rest → AllStand w (proposed f)
  all-entering w c f rest x =
      all-by w (proposed f) c (record { member_state = x.first.member_state; stands = x.first.stands }) (λ q listed other. by q (stands_in q rest) (x.each q listed other))
    where
      by : (q : Address) (b : Bool) → MatchBool b (Waits meaning laws w (proposed f) q (previous_of q f)) (Inside meaning laws w (proposed f) q) → Stood w q
      by q true y = record { member_state = y.member_state; stands = y.stands }
      by q false y = record { member_state = y.member_state; stands = y.stands }

  installs-break : (qs : List Address) (past : ℕ) (w new : WorldModel S) (c : Address) (f : FlushModel) (u : ViewId) (given : Option (List ℕ)) → Entering meaning laws w c f qs → f.proposal.creator ≡ c
      → is_distinct qs ≡ true → AllByRecursion (λ q. (stands_in q f.members ≡ true) × (same_address q c ≡ false)) qs → EachSound world_group (StageOfInstalls.all_packets meaning laws c f u given qs)
      → AreNext past (StageOfInstalls.all_packets meaning laws c f u given qs) w.history.pool → Breaks meaning past (length (StageOfInstalls.all_packets meaning laws c f u given qs)) w new
      → EndsSettling (proposed f) new
  installs-break [] past w new c f u given x own distinct listed sound next breaks = absurd (breaks-none meaning past 0 w new refl breaks)
  installs-break (q ∷ qs) past w new c f u given x own distinct listed sound next breaks =
      let n = StageOfInstalls.chunks_to meaning laws f u given q in
      let rest = StageOfInstalls.all_packets meaning laws c f u given qs in
      let two = StageOfInstalls.parted meaning laws q qs past w.history.pool c f u given sound next in
      let parts = and_parts (not (stands_in q qs)) (is_distinct qs) distinct in
      let here : Waits meaning laws w (proposed f) q (previous_of q f) = StageOfFlushes.first-of meaning laws _ _ q qs (x.each q listed.0.0 listed.0.1) in
      ⊎_elim (λ y. one-breaks past n w new c q f u given x.keeps (all-entering w c f (q ∷ qs) x) listed.0.0 here own listed.0.1 two.sound two.next y)
      (λ y.
      let g = StageOfInstalls.one-goes-in meaning laws past n w y.mid c q f u given x.keeps here own listed.0.1 refl two.sound two.next y.first in
      let z = StageOfInstalls.after-one meaning laws w y.mid c q f qs x here.member_state here.stands listed.0.1 (not-true (stands_in q qs) parts.0) g in
      installs-break qs (past + (n + 1)) y.mid new c f u given z own parts.1 listed.1 two.sounds
      (subst (λ (pool : List (List ℕ)). AreNext (past + (n + 1)) rest pool) (sym g.leaves.pool) two.nexts) y.second)
      (breaks-split (n + 1) (length rest) past (length (StageOfInstalls.all_packets meaning laws c f u given (q ∷ qs))) w new two.total breaks)

  -- ---- at whatever step

  module _ (old : WorldModel S) (n : ℕ) (v : View) (keeps : Keeps meaning laws old) (a : SettlingsSettle.Asks meaning laws old n v) where
    abbrev c : Address
    c = a.member.address

    abbrev r : SettlingsSettle.Ready meaning laws old n c a.member_state a.flush
    r = SettlingsSettle.prepared meaning laws old n v keeps a

    listed : stands_in c a.flush.members ≡ true
    listed = ap (λ (p : Address). stands_in p a.flush.members) (sym r.flushing.own) ∙ coordinator-in a.flush.proposal a.flush.members r.flushing.list

    at-tick : (new : WorldModel S) → Fails meaning old (Tick c.node) new → EndsSettling (proposed a.flush) new
    at-tick new (inl same) = not-begun old new (proposed a.flush) keeps (all-flushed old c a.member_state a.flush (awaited_by a.flush) r.flushes) same
    at-tick new (inr x) = crashed old new (proposed a.flush) c listed (lost (lacks_memory x.0.answer) x.1 (Standing.ticked meaning old new c a.member_state r.flushes.stands x.0))

    ends-so : (new : WorldModel S) → SettlesShort meaning n old new → EndsSettling (proposed a.flush) new
    ends-so _ (AtTick new fails) = at-tick new (subst (λ (k : ℕ). Fails meaning old (Tick k) new) (sym r.node) fails)
    ends-so _ (AtFlush announced new ticks breaks) =
        let x = SettlingsSettle.flushing-next meaning laws old n v keeps a announced ticks in
        flushes-break (awaited_by a.flush) (length old.history.pool) announced new c a.member_state a.flush x.flushes r.flushing.own x.distinct x.others x.sound x.next
        (subst (λ (k : ℕ). Breaks meaning (length old.history.pool) k announced new) x.many breaks)
    ends-so _ (AtReport announced reported new ticks flushes breaks) =
        let x = SettlingsSettle.reporting-next meaning laws old n v keeps a announced reported ticks flushes in
        reports-break x.more x.one (length announced.history.pool) reported new c a.member_state a.flush x.view x.gathers listed x.distinct x.foreign x.sound x.next
        (subst (λ (k : ℕ). Breaks meaning (length announced.history.pool) k reported new) x.many breaks)
    ends-so _ (AtInstall announced reported instructed new ticks flushes reports breaks) =
        let e = SettlingsSettle.finishes meaning laws old n v keeps a announced reported instructed ticks flushes reports in
        let x = SettlingsSettle.installing-next meaning laws old n v keeps a announced reported instructed ticks flushes reports in
        subst (λ (u : View). EndsSettling u new) e.same
        (installs-break (others_of c e.flush.members) (length reported.history.pool) instructed new c e.flush (view_of e.previous).id e.given x.entering x.own x.distinct x.listed x.sound x.next
        (subst (λ (k : ℕ). Breaks meaning (length reported.history.pool) k instructed new) x.many breaks))

  pub ends : (old new : WorldModel S) (n : ℕ) (v : View) → Keeps meaning laws old → settling_at old.node_states n ≡ Some v → SettlesShort meaning n old new → EndsSettling v new
  ends old new n v keeps at short =
      let a = SettlingsSettle.asks meaning laws old n v at in
      subst (λ (u : View). EndsSettling u new) a.is (ends-so old n v keeps a new short)
