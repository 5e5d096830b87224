-- The last stage of a settling: a delivery of each STATE and INSTALL. By its INSTALL each of the list goes into the view.
use Rattle.std.proofs.Common.{◌≡◌, ℕ, zero, suc, ◌+◌, Bool, true, false, cond, not, Option, Some, None, List, [], ◌∷◌, ◌++◌, map, length, nat_eq, nat_le, refl, sym, ap, ◌∙◌, subst, arith, length-append}
use Rattle.std.specs.Prelude.{slice_get, ◌&&◌, ◌||◌, MatchBool, unwrap_or}
use Rattle.std.specs.List.{AllByRecursion, flat_map}
use Rattle.std.specs.Option.{option_eq}
use Rattle.std.proofs.lemmas.List.{append-nil}
use Rattle.std.proofs.lemmas.Bool.{and_from, and_parts, not-true}
use Rattle.std.proofs.lemmas.Option.{none-some}
use Rattle.address.specs.declared.limits.TheConstants.{WHOLE_STATE}
use Rattle.address.specs.Ids.{Address, ViewId, same_address, same_view_id}
use Rattle.address.proofs.SameIds.{same_address-true, same_address-from, same_address-sym, same_view_id-refl}
use Rattle.view.specs.Members.{View, stands_in, is_distinct}
use Rattle.wire_values.specs.Values.{Chunk}
use Rattle.wire_values.specs.declared.packet.Body.TheVariants as bodies
use Rattle.wire_values.specs.declared.values.state.GivenState.{GivenState}
use Rattle.wire_values.specs.declared.values.state.GivenState.TheVariants as forms
use Rattle.wire_values.specs.Posted.{Posted, packet}
use Rattle.state_transfer.specs.Meanings.{Meaning}
use Rattle.flush.specs.Flushes.{FlushModel, previous_of}
use Rattle.law_acts.specs.Cores.{id_of}
use Rattle.law_acts.specs.Given.{chunk_at, chunks_of}
use Rattle.law_acts.specs.Acts.{proposed, chunk_packets}
use Rattle.law_acts.specs.Decisions.{form_of, is_entry}
use Rattle.law_acts.specs.Packets.{IsInstruction}
use Rattle.law_acts.proofs.KeepBySteps
use Rattle.step_output.specs.declared.output.Output.{Output}
use Rattle.step_output.specs.Steps.{who}
use Rattle.membership.specs.HeldChunks.{chunk_count, is_new, is_there, has_all, given_in}
use Rattle.traffic.proofs.NewViewTraffic.{fresh-view}
use Rattle.membership.specs.InSteps.{in_step}
use Rattle.membership.specs.declared.member_state.MemberState.{MemberState}
use Rattle.membership.specs.MemberStates.{core_of as core_at, view_in, awaits, would_hold}
use Rattle.membership.specs.Installs.{instruction_to, instructing}
use Rattle.membership.specs.Changes.{TakesChunk, TakesInstall, Enters}
use Rattle.world_model.specs.declared.WorldEvent.TheVariants.{Deliver}
use Rattle.world_model.specs.Packets.{world_group}
use Rattle.world.specs.NodeStates.{bytes_of}
use Rattle.world.proofs.MembersAsSystem.{system_of}
use Rattle.world.specs.Turns.{OthersStand}
use Rattle.world.specs.Worlds.{WorldModel}
use Rattle.world.specs.Plays.{lacks_memory, Plays, Delivers}
use Rattle.world.specs.Plays.Delivers.{Still, Next}
use Rattle.law_processes.proofs.PostsAreSpelled.{EachSound}
use Rattle.world.proofs.KeepOfWorlds
use Rattle.world.proofs.PoolPackets.{put-out, AreNext, next-first, next-rest}
use Rattle.world.proofs.Deliveries.{delivers-none, delivers-next}
use Rattle.world.proofs.ChunksInOrder.{chunks_from, next-is-new, all-there, one-further}
use Rattle.world.proofs.PromisedGoIn
use Rattle.world.proofs.RulesByPacket
use Rattle.world.proofs.Standing
use Rattle.world.proofs.Standing.{Stands}
use Rattle.world.proofs.StageOfFlushes
use Rattle.world.proofs.StageOfFlushes.{Keeps, sure}
use Rattle.world.proofs.StageOfReports
use Rattle.world.proofs.StageOfReports.{Waits}

-- ---- what is said of a state

-- a state that goes in chunks is as long as it is said to be
chunked-by : (b : Bool) (given : Option (List ℕ)) (g : GivenState) (total : ℕ) → g ≡ cond b forms.Nothing (form_of given) → g ≡ forms.Chunked total → total ≡ length (unwrap_or given [])
chunked-by true given g total is e = absurd (let n : forms.Nothing ≡ forms.Chunked total = sym is ∙ e in cc)
chunked-by false None g total is e = absurd (let n : forms.Nothing ≡ forms.Chunked total = sym is ∙ e in cc)
chunked-by false (Some bytes) g total is e = by (nat_le (length bytes) WHOLE_STATE) (sym e ∙ is)
  where
    total-of : GivenState → ℕ
    total-of forms.Nothing = 0
    total-of (forms.Whole x) = 0
    total-of (forms.Chunked n) = n

    by : (b : Bool) → forms.Chunked total ≡ cond b (forms.Whole bytes) (forms.Chunked (length bytes)) → total ≡ length bytes
    by true x = absurd (let n : forms.Chunked total ≡ forms.Whole bytes = x in cc)
    by false x = ap total-of x

-- so many chunks are put out before the INSTALL
abbrev pub chunks_said : GivenState → List ℕ → ℕ
chunks_said forms.Nothing bytes = 0
chunks_said (forms.Whole x) bytes = 0
chunks_said (forms.Chunked total) bytes = chunk_count (length bytes)

abbrev pub state_packets : Address → Address → ViewId → List ℕ → ℕ → ℕ → List Posted
state_packets c q w bytes first n = map (λ chunk. packet c (bodies.State w chunk) q) (chunks_from bytes first n)

pub said-so : (c q : Address) (w : ViewId) (bytes : List ℕ) (g : GivenState) → chunk_packets c q w bytes g ≡ state_packets c q w bytes 1 (chunks_said g bytes)
said-so c q w bytes forms.Nothing = refl
said-so c q w bytes (forms.Whole x) = refl
said-so c q w bytes (forms.Chunked total) = refl

there-by : (g : GivenState) (bytes : List ℕ) (held : List Chunk) → ((total : ℕ) → g ≡ forms.Chunked total → total ≡ length bytes) → held ≡ chunks_from bytes 1 (chunks_said g bytes) → is_there g held ≡ true
there-by forms.Nothing bytes held long is = refl
there-by (forms.Whole x) bytes held long is = refl
there-by (forms.Chunked total) bytes held long is = ap (has_all total) is ∙ ap (λ (n : ℕ). has_all n (chunks_of bytes)) (long total refl) ∙ all-there bytes

others-trans : {X : Type 0} (n : ℕ) (a b c : ℕ → X) → ((m : ℕ) → nat_eq n m ≡ false → b m ≡ a m) → ((m : ℕ) → nat_eq n m ≡ false → c m ≡ b m) → (m : ℕ) → nat_eq n m ≡ false → c m ≡ a m
others-trans n a b c f g m e = g m e ∙ f m e

module _ {S : Type 0} (meaning : Meaning S) (laws : KeepBySteps.Laws meaning) where
  -- so many deliveries, in two parts
  pub record Split (past a b : ℕ) (w new : WorldModel S) : Type 0 where
    pub mid : WorldModel S
    pub first : Delivers meaning past a w mid
    pub second : Delivers meaning (past + a) b mid new

  pub delivers-split : (a b past n : ℕ) (w new : WorldModel S) → n ≡ a + b → Delivers meaning past n w new → Split past a b w new
  delivers-split zero b past n w new e all =
      let z : past + 0 ≡ past = omega arith in
      let same : n ≡ b = omega (arith, e) in
      record { mid = w; first = Still past w; second = subst (λ (k : ℕ). Delivers meaning k b w new) (sym z) (subst (λ (k : ℕ). Delivers meaning past k w new) same all) }
  delivers-split (suc a) b past n w new e all =
      let d = delivers-next meaning past n (a + b) w new (omega (arith, e)) all in
      let r = delivers-split a b (past + 1) (a + b) d.mid new refl d.rest in
      let z : past + 1 + a ≡ past + suc a = omega arith in
      record { mid = r.mid; first = Next past a w d.mid r.mid d.plays r.first; second = subst (λ (k : ℕ). Delivers meaning k b r.mid new) z r.second }

  -- ---- who waits, with these chunks

  pub record Holds (w : WorldModel S) (v : View) (q : Address) (from : Option ViewId) (held : List Chunk) : Type 0 where
    pub member_state : MemberState S
    pub stands : Stands meaning w q member_state
    pub promise : member_state.promise.proposal ≡ Some v
    pub waits : member_state.promise.is_installed ≡ false
    pub chunks : member_state.chunks ≡ held
    pub comes : id_of (view_in member_state.view_state) ≡ from

  -- what one packet to it leaves
  pub record Leaves (w new : WorldModel S) (q : Address) : Type 0 where
    pub keeps : Keeps meaning laws new
    pub others : OthersStand q.node w.node_states new.node_states
    pub pool : new.history.pool ≡ w.history.pool

  pub record HoldsOn (w new : WorldModel S) (v : View) (q : Address) (from : Option ViewId) (held : List Chunk) : Type 0 where
    pub holds : Holds new v q from held
    pub leaves : Leaves w new q

  abbrev pub IsFor : WorldModel S → ℕ → Address → Posted → Type 0
  IsFor w k q m = Standing.IsFor meaning w k q m

  pub would-hold : (c : Address) (v : View) (chunk : Chunk) (l : MemberState S) → v.id.creator ≡ c → l.promise.proposal ≡ Some v → l.promise.is_installed ≡ false → is_new chunk l.chunks ≡ true
      → would_hold c v.id chunk l ≡ true
  would-hold c v chunk l own promise waits new =
      let waiting : awaits v.id l ≡ true = rw (promise, waits, same_view_id-refl v.id) refl in
      and_from (same_address c v.id.creator && awaits v.id l) (is_new chunk l.chunks)
      (and_from (same_address c v.id.creator) (awaits v.id l) (same_address-from c v.id.creator (sym own)) waiting) new

  -- a STATE
  one-held : (w new : WorldModel S) (c q : Address) (v : View) (from : Option ViewId) (held : List Chunk) (chunk : Chunk) (k : ℕ) → Keeps meaning laws w → Holds w v q from held → v.id.creator ≡ c
      → is_new chunk held ≡ true → IsFor w k q (packet c (bodies.State v.id chunk) q) → Plays meaning w (Deliver k) new → HoldsOn w new v q from (held ++ chunk ∷ [])
  one-held w new c q v from held chunk k keeps x own fresh to plays =
      let l = x.member_state in
      let h = sure (lacks_memory plays.step.answer) plays.whole (Standing.heard meaning laws w new keeps k q l x.stands (packet c (bodies.State v.id chunk) q) to plays.step) in
      let rule : TakesChunk c v.id chunk (in_step l h.start) (in_step h.after h.out) = h.hears in
      let y = RulesByPacket.chunk-held meaning (who q world_group) c v.id chunk (in_step l h.start) (in_step h.after h.out)
      (would-hold c v chunk l own x.promise x.waits (ap (is_new chunk) x.chunks ∙ fresh)) rule in
      let is : h.after ≡ record l { chunks = l.chunks ++ chunk ∷ [] } = y.0 in
      record {
        holds = record {
          member_state = h.after;
          stands = h.stands;
          promise = ap (λ (z : MemberState S). z.promise.proposal) is ∙ x.promise;
          waits = ap (λ (z : MemberState S). z.promise.is_installed) is ∙ x.waits;
          chunks = ap (λ (z : MemberState S). z.chunks) is ∙ ap (λ (z : List Chunk). z ++ chunk ∷ []) x.chunks;
          comes = ap (λ (z : MemberState S). id_of (view_in z.view_state)) is ∙ x.comes;
        };
        leaves = record {
          keeps = KeepOfWorlds.step-keeps meaning laws w new (Deliver k) plays.step keeps;
          others = h.others;
          pool = h.puts ∙ ap (λ (z : List _). w.history.pool ++ map bytes_of z) (ap (λ (o : Output). o.packets.items) y.1 ∙ h.nothing.packets) ∙ append-nil w.history.pool;
        };
      }

  -- the first of them
  pub state-for : (w : WorldModel S) (past n first : ℕ) (c q : Address) (v : View) (bytes : List ℕ) → same_address q c ≡ false → EachSound world_group (state_packets c q v.id bytes first (suc n))
      → AreNext past (state_packets c q v.id bytes first (suc n)) w.history.pool → IsFor w (past + 1) q (packet c (bodies.State v.id (chunk_at bytes first)) q)
  state-for w past n first c q v bytes other sound next = record {
    there = next-first past (packet c (bodies.State v.id (chunk_at bytes first)) q) (state_packets c q v.id bytes (first + 1) n) w.history.pool next;
    sound = sound.0;
    goes = refl;
    other = same_address-sym c q ∙ other;
  }

  pub record FirstHeld (w mid : WorldModel S) (past n k : ℕ) (c q : Address) (v : View) (from : Option ViewId) (bytes : List ℕ) : Type 0 where
    pub holds : Holds mid v q from (chunks_from bytes 1 (suc k))
    pub leaves : Leaves w mid q
    pub sound : EachSound world_group (state_packets c q v.id bytes (1 + suc k) n)
    pub next : AreNext (past + 1) (state_packets c q v.id bytes (1 + suc k) n) mid.history.pool

  pub first-held : (n k past : ℕ) (w mid : WorldModel S) (c q : Address) (v : View) (from : Option ViewId) (bytes : List ℕ) → Keeps meaning laws w → Holds w v q from (chunks_from bytes 1 k) → v.id.creator ≡ c
      → same_address q c ≡ false → EachSound world_group (state_packets c q v.id bytes (1 + k) (suc n)) → AreNext past (state_packets c q v.id bytes (1 + k) (suc n)) w.history.pool
      → Plays meaning w (Deliver (past + 1)) mid → FirstHeld w mid past n k c q v from bytes
  first-held n k past w mid c q v from bytes keeps x own other sound next plays =
      let chunk = chunk_at bytes (1 + k) in
      let m = packet c (bodies.State v.id chunk) q in
      let rest = state_packets c q v.id bytes (1 + k + 1) n in
      let to = state-for w past n (1 + k) c q v bytes other sound next in
      let y = one-held w mid c q v from (chunks_from bytes 1 k) chunk (past + 1) keeps x own (next-is-new bytes 1 k (1 + k) (omega arith)) to plays in
      let later : AreNext (past + 1) rest mid.history.pool = subst (AreNext (past + 1) rest) (append-nil w.history.pool ∙ sym y.leaves.pool) (next-rest past m rest w.history.pool [] next) in
      let e : 1 + k + 1 ≡ 1 + suc k = omega arith in
      record {
        holds = subst (Holds mid v q from) (one-further bytes 1 k) y.holds;
        leaves = y.leaves;
        sound = subst (λ (j : ℕ). EachSound world_group (state_packets c q v.id bytes j n)) e sound.1;
        next = subst (λ (j : ℕ). AreNext (past + 1) (state_packets c q v.id bytes j n) mid.history.pool) e later;
      }

  -- all of them
  all-held : (n k past : ℕ) (w new : WorldModel S) (c q : Address) (v : View) (from : Option ViewId) (bytes : List ℕ) → Keeps meaning laws w → Holds w v q from (chunks_from bytes 1 k) → v.id.creator ≡ c
      → same_address q c ≡ false → EachSound world_group (state_packets c q v.id bytes (1 + k) n) → AreNext past (state_packets c q v.id bytes (1 + k) n) w.history.pool → Delivers meaning past n w new
      → HoldsOn w new v q from (chunks_from bytes 1 (k + n))
  all-held zero k past w new c q v from bytes keeps x own other sound next all =
      let is : new ≡ w = delivers-none meaning past 0 w new refl all in
      let z : k + 0 ≡ k = omega arith in
      subst (λ (j : ℕ). HoldsOn w new v q from (chunks_from bytes 1 j)) (sym z)
      (subst (λ (u : WorldModel S). HoldsOn w u v q from (chunks_from bytes 1 k)) (sym is) (record { holds = x; leaves = record { keeps = keeps; others = λ m e. refl; pool = refl } }))
  all-held (suc n) k past w new c q v from bytes keeps x own other sound next all =
      let d = delivers-next meaning past (suc n) n w new refl all in
      let y = first-held n k past w d.mid c q v from bytes keeps x own other sound next d.plays in
      let r = all-held n (suc k) (past + 1) d.mid new c q v from bytes y.leaves.keeps y.holds own other y.sound y.next d.rest in
      let z : suc k + n ≡ k + suc n = omega arith in
      subst (λ (j : ℕ). HoldsOn w new v q from (chunks_from bytes 1 j)) z (record {
        holds = r.holds;
        leaves = record {
          keeps = r.leaves.keeps;
          others = others-trans q.node w.node_states d.mid.node_states new.node_states y.leaves.others r.leaves.others;
          pool = r.leaves.pool ∙ y.leaves.pool;
        };
      })

  -- ---- the INSTALL

  -- a member runs in the view
  pub record Inside (w : WorldModel S) (v : View) (q : Address) : Type 0 where
    pub member_state : MemberState S
    pub stands : Stands meaning w q member_state
    pub inside : view_in member_state.view_state ≡ Some v

  pub inside-still : (w new : WorldModel S) (v : View) (p q : Address) → Inside w v q → nat_eq p.node q.node ≡ false → OthersStand p.node w.node_states new.node_states → Inside new v q
  inside-still w new v p q x apart others = record { member_state = x.member_state; stands = Standing.stands-still meaning w q x.member_state x.stands new p apart others; inside = x.inside }

  pub record GoesIn (w new : WorldModel S) (v : View) (q : Address) : Type 0 where
    pub inside : Inside new v q
    pub leaves : Leaves w new q

  one-enters : (w new : WorldModel S) (c q : Address) (f : FlushModel) (u : ViewId) (given : Option (List ℕ)) (k : ℕ) → Keeps meaning laws w
      → Holds w (proposed f) q (previous_of q f) (chunks_from (unwrap_or given []) 1 (chunks_said (instruction_to f u given q).state (unwrap_or given []))) → f.proposal.creator ≡ c
      → IsFor w k q (packet c (bodies.Install (instruction_to f u given q)) q) → Plays meaning w (Deliver k) new → GoesIn w new (proposed f) q
  one-enters w new c q f u given k keeps x own to plays =
      let i = instruction_to f u given q in
      let l = x.member_state in
      let bytes = unwrap_or given [] in
      let s = system_of w.node_states w.history.pool w.history.trace in
      let h = sure (lacks_memory plays.step.answer) plays.whole (Standing.heard meaning laws w new keeps k q l x.stands (packet c (bodies.Install i) q) to plays.step) in
      let instruction : IsInstruction s.history c q i = Standing.fact-at meaning laws w keeps k (packet c (bodies.Install i) q) to.there to.sound in
      let entry : is_entry (core_at q l) c i ≡ true = PromisedGoIn.enters meaning s (Standing.agreed-in meaning laws w keeps).agreed c q (core_at q l) i (record {
        running = Standing.runs-in meaning w q l x.stands;
        promise = x.promise;
        installed = x.waits;
        instruction = instruction;
      }) in
      let there : is_there i.state l.chunks ≡ true =
      there-by i.state bytes l.chunks (λ total e. chunked-by (option_eq same_view_id (previous_of q f) (Some u)) given i.state total refl e) x.chunks in
      let rule : TakesInstall meaning (who q world_group) c i (in_step l h.start) (in_step h.after h.out) = h.hears in
      let y : Enters meaning (who q world_group) l.view_state i (given_in i.state l.chunks) (in_step l h.start) (in_step h.after h.out) =
      RulesByPacket.install-enters meaning (who q world_group) c i (in_step l h.start) (in_step h.after h.out)
      (and_from (is_entry (core_at q l) c i) (is_there i.state l.chunks) entry there) rule in
      let is = y.member_state in
      record {
        inside = record {
          member_state = h.after;
          stands = h.stands;
          inside = ap (λ (z : MemberState S). view_in z.view_state) is ∙ ap Some (fresh-view q (proposed f));
        };
        leaves = record {
          keeps = KeepOfWorlds.step-keeps meaning laws w new (Deliver k) plays.step keeps;
          others = h.others;
          pool = h.puts ∙ ap (λ (z : List (List ℕ)). w.history.pool ++ z) (put-out h.start h.out h.nothing [] _ y.grows) ∙ append-nil w.history.pool;
        };
      }

  -- ---- one of the list: its chunks, and its INSTALL

  -- the next packets, in two parts
  pub next-front : (past : ℕ) (a b : List Posted) (pool : List (List ℕ)) → AreNext past (a ++ b) pool → AreNext past a pool
  next-front past [] b pool each j m at = absurd (none-some m at)
  next-front past (x ∷ a) b pool each zero m at = each zero m at
  next-front past (x ∷ a) b pool each (suc j) m at = each (suc j) m (front a b j m at)
    where
      front : (a b : List Posted) (j : ℕ) (m : Posted) → slice_get a j ≡ Some m → slice_get (a ++ b) j ≡ Some m
      front [] b j m at = absurd (none-some m at)
      front (x ∷ a) b zero m at = at
      front (x ∷ a) b (suc j) m at = front a b j m at

  pub next-behind : (past : ℕ) (a b : List Posted) (pool : List (List ℕ)) → AreNext past (a ++ b) pool → AreNext (past + length a) b pool
  next-behind past [] b pool each = let e : past ≡ past + 0 = omega arith in subst (λ (k : ℕ). AreNext k b pool) e each
  next-behind past (x ∷ a) b pool each =
      let e : past + 1 + length a ≡ past + suc (length a) = omega arith in
      subst (λ (k : ℕ). AreNext k b pool) e (next-behind (past + 1) a b pool (subst (AreNext (past + 1) (a ++ b)) (append-nil pool) (next-rest past x (a ++ b) pool [] each)))

  pub all-front : {X : Type 0} (P : X → Type 0) (xs ys : List X) → AllByRecursion P (xs ++ ys) → AllByRecursion P xs
  all-front P [] ys x = tt
  all-front P (a ∷ xs) ys x = (x.0, all-front P xs ys x.1)

  pub all-behind : {X : Type 0} (P : X → Type 0) (xs ys : List X) → AllByRecursion P (xs ++ ys) → AllByRecursion P ys
  all-behind P [] ys x = x
  all-behind P (a ∷ xs) ys x = all-behind P xs ys x.1

  pub long-of : (c q : Address) (w : ViewId) (bytes : List ℕ) (first n : ℕ) → length (state_packets c q w bytes first n) ≡ n
  long-of c q w bytes first zero = refl
  long-of c q w bytes first (suc n) = let e : length (state_packets c q w bytes (first + 1) n) ≡ n = long-of c q w bytes (first + 1) n in ap suc e

  pub leaves-then : (a b c : WorldModel S) (q : Address) → Leaves a b q → Leaves b c q → Leaves a c q
  leaves-then a b c q x y = record { keeps = y.keeps; others = others-trans q.node a.node_states b.node_states c.node_states x.others y.others; pool = y.pool ∙ x.pool }

  -- it holds all chunks, and its INSTALL is next
  pub record Instructed (w mid : WorldModel S) (past n : ℕ) (c q : Address) (f : FlushModel) (u : ViewId) (given : Option (List ℕ)) : Type 0 where
    pub holds : Holds mid (proposed f) q (previous_of q f) (chunks_from (unwrap_or given []) 1 n)
    pub leaves : Leaves w mid q
    pub to : IsFor mid (past + n + 1) q (packet c (bodies.Install (instruction_to f u given q)) q)

  pub start-of : (w : WorldModel S) (v : View) (q : Address) (from : Option ViewId) (bytes : List ℕ) → Waits meaning laws w v q from → Holds w v q from (chunks_from bytes 1 0)
  start-of w v q from bytes x = record { member_state = x.member_state; stands = x.stands; promise = x.promise; waits = x.waits; chunks = x.chunks; comes = x.comes }

  abbrev pub packets_to : Address → Address → FlushModel → ViewId → Option (List ℕ) → ℕ → List Posted
  packets_to c q f u given n = state_packets c q f.proposal (unwrap_or given []) 1 n ++ packet c (bodies.Install (instruction_to f u given q)) q ∷ []

  pub instructed : (past n : ℕ) (w mid : WorldModel S) (c q : Address) (f : FlushModel) (u : ViewId) (given : Option (List ℕ)) → Keeps meaning laws w → Waits meaning laws w (proposed f) q (previous_of q f)
      → f.proposal.creator ≡ c → same_address q c ≡ false → EachSound world_group (packets_to c q f u given n) → AreNext past (packets_to c q f u given n) w.history.pool
      → Delivers meaning past n w mid → Instructed w mid past n c q f u given
  instructed past n w mid c q f u given keeps x own other sound next all =
      let bytes = unwrap_or given [] in
      let chunks = state_packets c q f.proposal bytes 1 n in
      let m = packet c (bodies.Install (instruction_to f u given q)) q in
      let y = all-held n 0 past w mid c q (proposed f) (previous_of q f) bytes keeps (start-of w (proposed f) q (previous_of q f) bytes x) own other (all-front _ chunks (m ∷ []) sound)
      (next-front past chunks (m ∷ []) w.history.pool next) all in
      let behind : AreNext (past + n) (m ∷ []) mid.history.pool =
      subst (λ (pool : List (List ℕ)). AreNext (past + n) (m ∷ []) pool) (sym y.leaves.pool)
      (subst (λ (k : ℕ). AreNext (past + k) (m ∷ []) w.history.pool) (long-of c q f.proposal bytes 1 n) (next-behind past chunks (m ∷ []) w.history.pool next)) in
      let z : 0 + n ≡ n = omega arith in
      record {
        holds = subst (λ (k : ℕ). Holds mid (proposed f) q (previous_of q f) (chunks_from bytes 1 k)) z y.holds;
        leaves = y.leaves;
        to = record {
          there = next-first (past + n) m [] mid.history.pool behind;
          sound = (all-behind _ chunks (m ∷ []) sound).0;
          goes = refl;
          other = same_address-sym c q ∙ other;
        };
      }

  pub one-goes-in : (past n : ℕ) (w new : WorldModel S) (c q : Address) (f : FlushModel) (u : ViewId) (given : Option (List ℕ)) → Keeps meaning laws w → Waits meaning laws w (proposed f) q (previous_of q f)
      → f.proposal.creator ≡ c → same_address q c ≡ false → n ≡ chunks_said (instruction_to f u given q).state (unwrap_or given [])
      → EachSound world_group (packets_to c q f u given n) → AreNext past (packets_to c q f u given n) w.history.pool → Delivers meaning past (n + 1) w new → GoesIn w new (proposed f) q
  one-goes-in past n w new c q f u given keeps x own other many sound next all =
      let p = delivers-split n 1 past (n + 1) w new refl all in
      let y = instructed past n w p.mid c q f u given keeps x own other sound next p.first in
      let d = delivers-next meaning (past + n) 1 0 p.mid new refl p.second in
      let is : new ≡ d.mid = delivers-none meaning (past + n + 1) 0 d.mid new refl d.rest in
      let held = subst (λ (k : ℕ). Holds p.mid (proposed f) q (previous_of q f) (chunks_from (unwrap_or given []) 1 k)) many y.holds in
      let g = one-enters p.mid d.mid c q f u given (past + n + 1) y.leaves.keeps held own y.to d.plays in
      subst (λ (v : WorldModel S). GoesIn w v (proposed f) q) (sym is) (record { inside = g.inside; leaves = leaves-then w p.mid d.mid q y.leaves g.leaves })

  -- ---- all of them

  abbrev pub Enters_or_waits : WorldModel S → Address → FlushModel → List Address → Address → Type 0
  Enters_or_waits w c f rest q =
      stands_in q f.members ≡ true → same_address q c ≡ false → MatchBool (stands_in q rest) (Waits meaning laws w (proposed f) q (previous_of q f)) (Inside w (proposed f) q)

  pub record Entering (w : WorldModel S) (c : Address) (f : FlushModel) (rest : List Address) : Type 0 where
    pub keeps : Keeps meaning laws w
    pub first : Inside w (proposed f) c
    pub each : (q : Address) → Enters_or_waits w c f rest q

  pub after-one : (w mid : WorldModel S) (c q : Address) (f : FlushModel) (rest : List Address) → Entering w c f (q ∷ rest) → (k : MemberState S) → Stands meaning w q k → same_address q c ≡ false → stands_in q rest ≡ false
      → GoesIn w mid (proposed f) q → Entering mid c f rest
  after-one w mid c q f rest x k here other alone g = record {
    keeps = g.leaves.keeps;
    first = inside-still w mid (proposed f) q c x.first (Standing.nodes-apart meaning w q c k x.first.member_state here x.first.stands (same_address-sym c q ∙ other)) g.leaves.others;
    each = λ p listed foreign. by p (same_address p q) refl (x.each p listed foreign);
  }
    where
      apart : (p : Address) (m : MemberState S) → Stands meaning w p m → same_address p q ≡ false → nat_eq q.node p.node ≡ false
      apart p m there e = Standing.nodes-apart meaning w q p k m here there e

      by : (p : Address) (b : Bool) → same_address p q ≡ b → MatchBool (b || stands_in p rest) (Waits meaning laws w (proposed f) p (previous_of p f)) (Inside w (proposed f) p)
          → MatchBool (stands_in p rest) (Waits meaning laws mid (proposed f) p (previous_of p f)) (Inside mid (proposed f) p)
      by p true e _ =
          let is : q ≡ p = sym (same_address-true p q e) in
          let none : stands_in p rest ≡ false = ap (λ (z : Address). stands_in z rest) (sym is) ∙ alone in
          subst (λ (b : Bool). MatchBool b (Waits meaning laws mid (proposed f) p (previous_of p f)) (Inside mid (proposed f) p)) (sym none) (subst (Inside mid (proposed f)) is g.inside)
      by p false e y =
          StageOfFlushes.match-map meaning laws (stands_in p rest) y (λ z. StageOfReports.waits-still meaning laws w mid (proposed f) q p (previous_of p f) z (apart p z.member_state z.stands e) g.leaves.others)
          (λ z. inside-still w mid (proposed f) q p z (apart p z.member_state z.stands e) g.leaves.others)

  abbrev pub all_packets : Address → FlushModel → ViewId → Option (List ℕ) → List Address → List Posted
  all_packets c f u given qs = flat_map (instructing c f u given) qs

  -- the packets to the first of them, and those to the others
  pub record Parted (pool : List (List ℕ)) (past : ℕ) (c : Address) (f : FlushModel) (u : ViewId) (given : Option (List ℕ)) (q : Address) (qs : List Address) (n : ℕ) : Type 0 where
    pub sound : EachSound world_group (packets_to c q f u given n)
    pub next : AreNext past (packets_to c q f u given n) pool
    pub sounds : EachSound world_group (all_packets c f u given qs)
    pub nexts : AreNext (past + (n + 1)) (all_packets c f u given qs) pool
    pub total : length (all_packets c f u given (q ∷ qs)) ≡ n + 1 + length (all_packets c f u given qs)

  abbrev pub chunks_to : FlushModel → ViewId → Option (List ℕ) → Address → ℕ
  chunks_to f u given q = chunks_said (instruction_to f u given q).state (unwrap_or given [])

  pub parted : (q : Address) (qs : List Address) (past : ℕ) (pool : List (List ℕ)) (c : Address) (f : FlushModel) (u : ViewId) (given : Option (List ℕ)) → EachSound world_group (all_packets c f u given (q ∷ qs))
      → AreNext past (all_packets c f u given (q ∷ qs)) pool → Parted pool past c f u given q qs (chunks_to f u given q)
  parted q qs past pool c f u given sound next =
      let bytes = unwrap_or given [] in
      let i = instruction_to f u given q in
      let n = chunks_to f u given q in
      let mine = packets_to c q f u given n in
      let rest = all_packets c f u given qs in
      let is : all_packets c f u given (q ∷ qs) ≡ mine ++ rest = ap (λ (z : List Posted). (z ++ packet c (bodies.Install i) q ∷ []) ++ rest) (said-so c q f.proposal bytes i.state) in
      let sounds : EachSound world_group (mine ++ rest) = subst (EachSound world_group) is sound in
      let nexts : AreNext past (mine ++ rest) pool = subst (λ (l : List Posted). AreNext past l pool) is next in
      let long : length mine ≡ n + 1 = length-append (state_packets c q f.proposal bytes 1 n) (packet c (bodies.Install i) q ∷ []) ∙ ap (λ (k : ℕ). k + 1) (long-of c q f.proposal bytes 1 n) in
      record {
        sound = all-front _ mine rest sounds;
        next = next-front past mine rest pool nexts;
        sounds = all-behind _ mine rest sounds;
        nexts = subst (λ (k : ℕ). AreNext (past + k) rest pool) long (next-behind past mine rest pool nexts);
        total = ap length is ∙ length-append mine rest ∙ ap (λ (k : ℕ). k + length rest) long;
      }

  pub all-in : (qs : List Address) (past : ℕ) (w new : WorldModel S) (c : Address) (f : FlushModel) (u : ViewId) (given : Option (List ℕ)) → Entering w c f qs → f.proposal.creator ≡ c → is_distinct qs ≡ true
      → AllByRecursion (λ q. (stands_in q f.members ≡ true) × (same_address q c ≡ false)) qs → EachSound world_group (all_packets c f u given qs) → AreNext past (all_packets c f u given qs) w.history.pool
      → Delivers meaning past (length (all_packets c f u given qs)) w new → Entering new c f []
  all-in [] past w new c f u given x own distinct listed sound next all =
      subst (λ (v : WorldModel S). Entering v c f []) (sym (delivers-none meaning past 0 w new refl all)) x
  all-in (q ∷ qs) past w new c f u given x own distinct listed sound next all =
      let n = chunks_to f u given q in
      let rest = all_packets c f u given qs in
      let two = parted q qs past w.history.pool c f u given sound next in
      let parts = and_parts (not (stands_in q qs)) (is_distinct qs) distinct in
      let here : Waits meaning laws w (proposed f) q (previous_of q f) = StageOfFlushes.first-of meaning laws _ _ q qs (x.each q listed.0.0 listed.0.1) in
      let p = delivers-split (n + 1) (length rest) past (length (all_packets c f u given (q ∷ qs))) w new two.total all in
      let g = one-goes-in past n w p.mid c q f u given x.keeps here own listed.0.1 refl two.sound two.next p.first in
      let y = after-one w p.mid c q f qs x here.member_state here.stands listed.0.1 (not-true (stands_in q qs) parts.0) g in
      let later : AreNext (past + (n + 1)) rest p.mid.history.pool = subst (λ (pool : List (List ℕ)). AreNext (past + (n + 1)) rest pool) (sym g.leaves.pool) two.nexts in
      all-in qs (past + (n + 1)) p.mid new c f u given y own parts.1 listed.1 two.sounds later p.second
