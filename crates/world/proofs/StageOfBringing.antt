-- One member is brought in: by its tick its REPORT is put out, by that the chunks and its INSTALL are put out again, and by these it goes into the view.
use Rattle.std.proofs.Common.{◌≡◌, ◌≤◌, ℕ, zero, suc, ◌+◌, Bool, true, false, cond, Option, Some, None, List, [], ◌∷◌, ◌++◌, map, length, is_some, refl, sym, ap, ◌∙◌, subst, arith, length-append, append_assoc}
use Rattle.std.specs.Prelude.{IfSome, ◌&&◌, ◌||◌, find}
use Rattle.std.specs.List.{list_any}
use Rattle.std.specs.Option.{option_eq, option_map, option_map_or, option_to_list}
use Rattle.std.proofs.lemmas.List.{append-nil, map-append}
use Rattle.std.proofs.lemmas.Bool.{and_from}
use Rattle.address.specs.Ids.{Address, ViewId, same_address, same_view_id}
use Rattle.address.proofs.SameIds.{same_view_id-refl}
use Rattle.address.proofs.Plain.{found}
use Rattle.view.specs.Members.{View}
use Rattle.address.specs.declared.limits.TheConstants.{STATE}
use Rattle.wire_values.specs.Chunks.{IsTotal}
use Rattle.wire_values.specs.Values as wire
use Rattle.wire_values.specs.Values.{Chunk}
use Rattle.wire_values.specs.declared.packet.Body.TheVariants as bodies
use Rattle.wire_values.specs.declared.values.state.GivenState.{GivenState}
use Rattle.wire_values.specs.declared.values.state.GivenState.TheVariants as forms
use Rattle.wire_values.specs.Posted.{Posted, packet}
use Rattle.state_transfer.specs.Meanings.{Meaning}
use Rattle.flush.specs.Flushes.{FlushModel}
use Rattle.law_acts.specs.Histories.{report_of}
use Rattle.law_acts.specs.Given.{Tells, chunk_at, chunks_of}
use Rattle.trace_props.specs.State.{entry_state}
use Rattle.law_acts.specs.Decisions.{is_entry}
use Rattle.law_acts.specs.Packets.{IsInstruction}
use Rattle.law_acts.proofs.KeepBySteps
use Rattle.step_output.specs.declared.output.Output.{Output}
use Rattle.step_output.specs.declared.output.Outgoing.{Outgoing}
use Rattle.step_output.specs.Outputs.{Puts, Grows, spelled}
use Rattle.step_output.specs.Steps.{who}
use Rattle.membership.specs.InSteps.{in_step}
use Rattle.membership.specs.declared.member_state.MemberState.{MemberState}
use Rattle.membership.specs.declared.sent_install.SentInstall.{SentInstall}
use Rattle.membership.specs.MemberStates.{view_in, is_connected, report_in, is_chunked, is_sent_to, sent_install, awaits, would_hold, core_of as core_at}
use Rattle.membership.specs.Changes.{StaysAs, InstallsAgain, TakesChunk, TakesInstall, Enters, chunks_before, state_packets as kept_packets}
use Rattle.member_rules.specs.Views.{OnReport, SaysAgain, proposes_again, reports_again, flushes_again, asks_again, expects, is_in}
use Rattle.member.specs.Doing.{Ticks}
use Rattle.membership.specs.HeldChunks.{chunk_count, is_new, is_there, has_all, given_in}
use Rattle.world_model.specs.declared.WorldEvent.TheVariants.{Deliver, Tick}
use Rattle.traffic.proofs.NewViewTraffic.{fresh-view}
use Rattle.world_model.specs.Packets.{world_group, packet_numbered}
use Rattle.world.specs.NodeStates.{bytes_of}
use Rattle.world.specs.Turns.{OthersStand}
use Rattle.world.specs.Worlds.{WorldModel}
use Rattle.world.proofs.MembersAsSystem.{system_of}
use Rattle.world.proofs.InputsTaken.{when-true, when-false}
use Rattle.world.proofs.KeepOfWorlds
use Rattle.world.specs.Plays.{lacks_memory, Plays, Delivers}
use Rattle.world.proofs.PoolPackets.{bytes_as, put-out, put-next, AreNext, next-first, next-rest}
use Rattle.world.proofs.Deliveries.{delivers-none, delivers-next}
use Rattle.world.proofs.Standing
use Rattle.world.proofs.Standing.{Stands}
use Rattle.law_processes.proofs.PostsAreSpelled.{EachSound, bytes_for}
use Rattle.world.proofs.WhoAwaits
use Rattle.world.proofs.WhoAwaits.{Made, KeepsFor, Awaits, HasPromised}
use Rattle.world.proofs.StageOfFlushes.{Keeps, sure}
use Rattle.world.proofs.PromisedGoIn
use Rattle.world.proofs.ChunksAreHeld.{are_of, HasUpTo, are-more, has-with, has-without, has-them-all}
use Rattle.world.proofs.RulesByPacket
use Rattle.world.proofs.StageOfInstalls
use Rattle.world.proofs.StageOfInstalls.{state_packets, Leaves, GoesIn}

module _ {S : Type 0} (meaning : Meaning S) (laws : KeepBySteps.Laws meaning) where
  -- ---- its tick

  -- the REPORT of one who awaits a view
  abbrev pub report_packet : Address → MemberState S → View → Posted
  report_packet q k v = packet q (bodies.Report v.id (report_in k)) v.id.creator

  pub record Asked (old new : WorldModel S) (q : Address) (k : MemberState S) (v : View) : Type 0 where
    pub stands : Stands meaning new q k
    pub others : OthersStand q.node old.node_states new.node_states
    pub keeps : Keeps meaning laws new
    pub first : List Posted
    pub puts : new.history.pool ≡ (old.history.pool ++ bytes_for world_group first) ++ bytes_for world_group (report_packet q k v ∷ [])
    pub sound : EachSound world_group (report_packet q k v ∷ [])

  pub record Reports (q : Address) (k : MemberState S) (v : View) (start out : Output) : Type 0 where
    pub first : List Posted
    pub grows : Grows world_group start out (first ++ report_packet q k v ∷ []) []
    pub sound : EachSound world_group (report_packet q k v ∷ [])

  reports-now : (q : Address) (k : MemberState S) (v : View) → HasPromised meaning laws k v → reports_again q k ≡ report_packet q k v ∷ []
  reports-now q k v x = ap (λ (o : Option View). option_map_or (λ u. packet q (bodies.Report u.id (report_in k)) u.id.creator ∷ []) o []) x.promise

  -- in a view it puts out its REPORT alone; else it asks its contact first
  reports-by : (b : Bool) (q : Address) (k : MemberState S) (v : View) (start out : Output) → is_some k.view_state ≡ b → is_connected k ≡ true → HasPromised meaning laws k v
      → Ticks (who q world_group) (in_step k start) out → Reports q k v start out
  reports-by true q k v start out inside connected x t =
      let a : Grows world_group start out (flushes_again q k) [] = when-false k.promise.is_installed _ _ x.waits (when-true (is_some k.view_state) _ _ inside t) in
      let again : flushes_again q k ≡ report_packet q k v ∷ [] = ap (λ (o : Option FlushModel). option_map_or (proposes_again q) o (reports_again q k)) x.no_flush ∙ reports-now q k v x in
      let g = subst (λ (l : List Posted). Grows world_group start out l []) again a in
      record { first = []; grows = g; sound = g.sound }
  reports-by false q k v start out inside connected x t =
      let a : Grows world_group start out (asks_again q k) [] = when-false (is_some k.view_state) _ _ inside t in
      let contact = found k.contact (sym (ap (λ (b : Bool). b || is_some k.contact) inside) ∙ connected) in
      let again : asks_again q k ≡ packet q bodies.Join contact.0 ∷ report_packet q k v ∷ [] =
      ap (λ (o : Option Address). option_map_or (λ p. packet q bodies.Join p ∷ reports_again q k) o []) contact.1 ∙ ap (λ (l : List Posted). packet q bodies.Join contact.0 ∷ l) (reports-now q k v x) in
      let g = subst (λ (l : List Posted). Grows world_group start out l []) again a in
      record { first = packet q bodies.Join contact.0 ∷ []; grows = g; sound = g.sound.1 }

  pub asked : (old new : WorldModel S) (q : Address) (k : MemberState S) (v : View) → Keeps meaning laws old → Stands meaning old q k → HasPromised meaning laws k v → Plays meaning old (Tick q.node) new
      → Asked old new q k v
  asked old new q k v keeps r x plays =
      let t = sure (lacks_memory plays.step.answer) plays.whole (Standing.ticked meaning old new q k r plays.step) in
      let y = reports-by (is_some k.view_state) q k v t.start t.out refl r.connected x t.ticks in
      let all : bytes_for world_group (y.first ++ report_packet q k v ∷ []) ≡ bytes_for world_group y.first ++ bytes_for world_group (report_packet q k v ∷ []) =
      bytes-append y.first (report_packet q k v ∷ []) in
      record {
        stands = t.stands;
        others = t.others;
        keeps = KeepOfWorlds.step-keeps meaning laws old new (Tick q.node) plays.step keeps;
        first = y.first;
        puts = t.puts ∙ ap (λ (l : List (List ℕ)). old.history.pool ++ l) (put-out t.start t.out t.nothing (y.first ++ report_packet q k v ∷ []) [] y.grows ∙ all)
            ∙ sym (append_assoc old.history.pool (bytes_for world_group y.first) (bytes_for world_group (report_packet q k v ∷ [])));
        sound = y.sound;
      }
    where
      bytes-append : (a b : List Posted) → bytes_for world_group (a ++ b) ≡ bytes_for world_group a ++ bytes_for world_group b
      bytes-append [] b = refl
      bytes-append (m ∷ a) b = ap (λ (l : List (List ℕ)). bytes_of (spelled world_group m) ∷ l) (bytes-append a b)

  -- the last packet is for the creator
  pub report-for : (old new : WorldModel S) (c q : Address) (k : MemberState S) (v : View) → Asked old new q k v → v.id.creator ≡ c → same_address q c ≡ false
      → Standing.IsFor meaning new (length new.history.pool) c (report_packet q k v)
  report-for old new c q k v x own other =
      let before = old.history.pool ++ bytes_for world_group x.first in
      let m = report_packet q k v in
      let long : length new.history.pool ≡ length before + 1 = ap length x.puts ∙ length-append before (bytes_for world_group (m ∷ [])) in
      let there = next-first (length before) m [] (before ++ bytes_for world_group (m ∷ [])) (put-next before (m ∷ [])) in
      record {
        there = subst (λ (j : ℕ). packet_numbered j new.history.pool ≡ Some (bytes_as m)) (sym long)
            (subst (λ (pool : List (List ℕ)). packet_numbered (length before + 1) pool ≡ Some (bytes_as m)) (sym x.puts) there);
        sound = x.sound.0;
        goes = own;
        other = other;
      }

  -- ---- the answer of the view's creator

  -- it puts out again the chunks of the state with which the view begins, where it gives that in chunks, and the INSTALL
  pub record Answered (before : List (List ℕ)) (new : WorldModel S) (c q : Address) (l : MemberState S) (v : View) : Type 0 where
    pub made : Made meaning laws new c l v
    pub begun : WhoAwaits.Begun meaning laws new v
    pub install : wire.Install
    pub view : install.view ≡ v
    pub count : ℕ
    pub puts : new.history.pool ≡ before ++ bytes_for world_group (state_packets c q v.id (meaning.encode begun.state) 1 count ++ packet c (bodies.Install install) q ∷ [])
    pub sound : EachSound world_group (state_packets c q v.id (meaning.encode begun.state) 1 count ++ packet c (bodies.Install install) q ∷ [])
    pub enough : (total : ℕ) → install.state ≡ forms.Chunked total → (total ≡ length (meaning.encode begun.state)) × (count ≡ chunk_count (length (meaning.encode begun.state)))
    pub few : count ≤ 32

  -- the chunks that stand before the INSTALL
  pub record Before (c q : Address) (l : MemberState S) (v : View) (g : GivenState) (sent : SentInstall) (bytes : List ℕ) : Type 0 where
    pub count : ℕ
    pub are : chunks_before c q l (Some sent) ≡ state_packets c q v.id bytes 1 count
    pub enough : (total : ℕ) → g ≡ forms.Chunked total → count ≡ chunk_count (length bytes)
    pub few : count ≤ 32

  few-chunks : (bytes : List ℕ) → IsTotal (length bytes) → chunk_count (length bytes) ≤ 32
  few-chunks bytes t = let high : length bytes ≤ STATE = t.1 in omega (arith, high)

  before-by : (g : GivenState) (c q : Address) (l : MemberState S) (v : View) (sent : SentInstall) (bytes : List ℕ) → sent.in_chunks ≡ is_chunked g → view_in l.view_state ≡ Some v
      → ((total : ℕ) → g ≡ forms.Chunked total → (l.sent_state ≡ Some bytes) × IsTotal (length bytes)) → Before c q l v g sent bytes
  before-by forms.Nothing c q l v sent bytes whole view kept =
      record { count = 0; are = ap (λ (b : Bool). cond b (kept_packets c q l) []) whole; enough = λ total e. absurd (let n : forms.Nothing ≡ forms.Chunked total = e in cc); few = omega arith }
  before-by (forms.Whole x) c q l v sent bytes whole view kept =
      record { count = 0; are = ap (λ (b : Bool). cond b (kept_packets c q l) []) whole; enough = λ total e. absurd (let n : forms.Whole x ≡ forms.Chunked total = e in cc); few = omega arith }
  before-by (forms.Chunked n) c q l v sent bytes whole view kept =
      let k = kept n refl in
      record {
        count = chunk_count (length bytes);
        are = ap (λ (b : Bool). cond b (kept_packets c q l) []) whole
            ∙ ap (λ (o : Option View). option_map_or (λ u. option_map_or (λ state. map (λ chunk. packet c (bodies.State u.id chunk) q) (chunks_of state)) l.sent_state []) o []) view
            ∙ ap (λ (o : Option (List ℕ)). option_map_or (λ state. map (λ chunk. packet c (bodies.State v.id chunk) q) (chunks_of state)) o []) k.0;
        enough = λ total e. refl;
        few = few-chunks bytes k.1;
      }

  sound-both : (a b : List Posted) → EachSound world_group a → EachSound world_group b → EachSound world_group (a ++ b)
  sound-both [] b x y = y
  sound-both (m ∷ a) b x y = (x.0, sound-both a b x.1 y)

  -- the state that an instruction gives in chunks is the one with which the view begins
  total-is : (w : WorldModel S) (c q : Address) (i : wire.Install) (z : S) (total : ℕ) → Keeps meaning laws w → IsInstruction (system_of w.node_states w.history.pool w.history.trace).history c q i
      → entry_state meaning i.view.id w.history.trace ≡ Some z → i.state ≡ forms.Chunked total → total ≡ length (meaning.encode z)
  total-is w c q i z total keeps x begins is =
      let s = system_of w.node_states w.history.pool w.history.trace in
      let inv = (Standing.agreed-in meaning laws w keeps).agreed in
      let e = found _ x.led.entered in
      let r = found (report_of q i.view.id s.history.pool) (x.led.answered q i x.one) in
      by (option_eq same_view_id r.0.previous e.0.previous)
      (subst (λ (o : Option S). Tells (forms.Chunked total) (cond (option_eq same_view_id r.0.previous e.0.previous) None (option_map meaning.encode o))) begins
      (subst (λ (g : GivenState). Tells g (cond (option_eq same_view_id r.0.previous e.0.previous) None (option_map meaning.encode (entry_state meaning i.view.id s.history.trace)))) is
      (inv.states.given i.view.id q i x.one e.0 r.0 e.1 r.1)))
    where
      by : (b : Bool) → Tells (forms.Chunked total) (cond b None (Some (meaning.encode z))) → total ≡ length (meaning.encode z)
      by true t = absurd t
      by false t = sym t

  -- what it says
  pub record Says (c q : Address) (l : MemberState S) (start : Output) (after : MemberState S) (out : Output) : Type 0 where
    pub member_state : after ≡ l
    pub packets : out.packets.items ≡ map (spelled world_group) (chunks_before c q l (find (is_sent_to q) l.sent_installs.items)) ++ map (λ s. s.packet) (option_to_list (find (is_sent_to q) l.sent_installs.items))
    pub sound : EachSound world_group (chunks_before c q l (find (is_sent_to q) l.sent_installs.items))

  says : (w : WorldModel S) (c q : Address) (l after : MemberState S) (v : View) (r : wire.Report) (start out : Output) → Made meaning laws w c l v → Puts [] [] start
      → OnReport meaning (who c world_group) q v.id r (in_step l start) (in_step after out) → Says c q l start after out
  says w c q l after v r start out m nothing rule =
      let inside : is_in v.id l ≡ true = ap (λ (o : Option View). option_map_or (λ u. same_view_id u.id v.id) o false) m.view ∙ same_view_id-refl v.id in
      let x : SaysAgain (who c world_group) q (in_step l start) (in_step after out) =
      when-true (is_in v.id l) _ _ inside (when-false (expects q v.id l) _ _ (WhoAwaits.expects-none meaning laws w c q l v m) rule) in
      let y : InstallsAgain (who c world_group) q (in_step l start) out = x.again in
      record {
        member_state = x.member_state;
        packets = y.packets
            ∙ ap (λ (o : List Outgoing). (o ++ map (spelled world_group) (chunks_before c q l (find (is_sent_to q) l.sent_installs.items))) ++ map (λ s. s.packet) (option_to_list (find (is_sent_to q) l.sent_installs.items))) nothing.packets;
        sound = y.sound;
      }

  pub answered : (mid new : WorldModel S) (c q : Address) (l : MemberState S) (v : View) (r : wire.Report) (number : ℕ) → Made meaning laws mid c l v → list_any (is_sent_to q) l.sent_installs.items ≡ true
      → Standing.IsFor meaning mid number c (packet q (bodies.Report v.id r) v.id.creator) → Plays meaning mid (Deliver number) new
      → Answered mid.history.pool new c q l v × OthersStand c.node mid.node_states new.node_states
  answered mid new c q l v r number m kept to plays =
      let h = sure (lacks_memory plays.step.answer) plays.whole (Standing.heard meaning laws mid new m.keeps number c l m.stands (packet q (bodies.Report v.id r) v.id.creator) to plays.step) in
      let x = says mid c q l h.after v r h.start h.out m h.nothing h.hears in
      let keeps = KeepOfWorlds.step-keeps meaning laws mid new (Deliver number) plays.step m.keeps in
      let made : Made meaning laws new c l v = record { keeps = keeps; stands = subst (Stands meaning new c) x.member_state h.stands; view = m.view } in
      let i = WhoAwaits.keeps-for meaning laws new c q l v made kept in
      let z = WhoAwaits.begun meaning laws new c q l v made i in
      let sent = sent_install (who c world_group) (q, i.install) in
      let ids : i.install.view.id ≡ v.id = ap (λ (u : View). u.id) i.view in
      let b = before-by i.install.state c q l v sent (meaning.encode z.state) refl m.view (λ total is.
      let state = found l.sent_state (WhoAwaits.keeps-given meaning laws new c l v made q i.install total i.kept is) in
      let same = WhoAwaits.keeps-state meaning laws new c l v state.0 z.state made state.1 z.is in (
        state.1 ∙ ap Some same,
        subst (λ (n : List ℕ). IsTotal (length n)) same
            (subst (λ (o : Option (List ℕ)). IfSome o (λ n. IsTotal (length n))) state.1 (WhoAwaits.always meaning laws new c l keeps made.stands).sent_installs.state),
      )) in
      let posted = state_packets c q v.id (meaning.encode z.state) 1 b.count ++ packet c (bodies.Install i.install) q ∷ [] in
      let out : h.out.packets.items ≡ map (spelled world_group) posted =
      x.packets
      ∙ ap (λ (o : Option SentInstall). map (spelled world_group) (chunks_before c q l o) ++ map (λ s. s.packet) (option_to_list o)) i.is
      ∙ ap (λ (p : List Posted). map (spelled world_group) p ++ sent.packet ∷ []) b.are
      ∙ sym (map-append (spelled world_group) (state_packets c q v.id (meaning.encode z.state) 1 b.count) (packet c (bodies.Install i.install) q ∷ [])) in (
        record {
          made = made;
          begun = z;
          install = i.install;
          view = i.view;
          count = b.count;
          puts = h.puts ∙ ap (λ (o : List Outgoing). mid.history.pool ++ map bytes_of o) out;
          sound = sound-both (state_packets c q v.id (meaning.encode z.state) 1 b.count) (packet c (bodies.Install i.install) q ∷ [])
              (subst (EachSound world_group) (ap (chunks_before c q l) i.is ∙ b.are) x.sound) (i.sound, tt);
          enough = λ total is. (
            total-is new c q i.install z.state total keeps i.instruction (ap (λ (u : ViewId). entry_state meaning u new.history.trace) ids ∙ z.is) is,
            b.enough total is,
          );
          few = b.few;
        },
        h.others,
      )

  -- ---- the chunks

  -- it awaits the view, and holds each chunk up to an index
  pub record Holds (w : WorldModel S) (v : View) (q : Address) (bytes : List ℕ) (k : ℕ) : Type 0 where
    pub member_state : MemberState S
    pub stands : Stands meaning w q member_state
    pub promise : member_state.promise.proposal ≡ Some v
    pub waits : member_state.promise.is_installed ≡ false
    pub are : are_of (length bytes) member_state.chunks ≡ true
    pub has : HasUpTo (length bytes) k member_state.chunks

  pub record HoldsOn (w new : WorldModel S) (v : View) (q : Address) (bytes : List ℕ) (k : ℕ) : Type 0 where
    pub holds : Holds new v q bytes k
    pub leaves : Leaves meaning laws w new q

  no-more : (a b : Bool) → b ≡ false → (a && b) ≡ false
  no-more true b e = e
  no-more false b e = refl

  pub one-held : (w new : WorldModel S) (c q : Address) (v : View) (bytes : List ℕ) (k number : ℕ) → Keeps meaning laws w → Holds w v q bytes k → v.id.creator ≡ c
      → Standing.IsFor meaning w number q (packet c (bodies.State v.id (chunk_at bytes (suc k))) q) → Plays meaning w (Deliver number) new → HoldsOn w new v q bytes (suc k)
  one-held w new c q v bytes k number keeps x own to plays =
      let l = x.member_state in
      let chunk = chunk_at bytes (suc k) in
      let h = sure (lacks_memory plays.step.answer) plays.whole (Standing.heard meaning laws w new keeps number q l x.stands (packet c (bodies.State v.id chunk) q) to plays.step) in
      by (is_new chunk l.chunks) h h.hears refl
    where
      left : (h : Standing.Heard meaning w new q x.member_state (packet c (bodies.State v.id (chunk_at bytes (suc k))) q)) → h.out ≡ h.start → Leaves meaning laws w new q
      left h same = record {
        keeps = KeepOfWorlds.step-keeps meaning laws w new (Deliver number) plays.step keeps;
        others = h.others;
        pool = h.puts ∙ ap (λ (z : List Outgoing). w.history.pool ++ map bytes_of z) (ap (λ (o : Output). o.packets.items) same ∙ h.nothing.packets) ∙ append-nil w.history.pool;
      }

      by : (b : Bool) (h : Standing.Heard meaning w new q x.member_state (packet c (bodies.State v.id (chunk_at bytes (suc k))) q))
          → TakesChunk c v.id (chunk_at bytes (suc k)) (in_step x.member_state h.start) (in_step h.after h.out) → is_new (chunk_at bytes (suc k)) x.member_state.chunks ≡ b → HoldsOn w new v q bytes (suc k)
      by true h rule fresh =
          let l = x.member_state in
          let chunk = chunk_at bytes (suc k) in
          let y = RulesByPacket.chunk-held meaning (who q world_group) c v.id chunk (in_step l h.start) (in_step h.after h.out) (StageOfInstalls.would-hold meaning laws c v chunk l own x.promise x.waits fresh) rule in
          let is : h.after ≡ record l { chunks = l.chunks ++ chunk ∷ [] } = y.0 in
          record {
            holds = record {
              member_state = h.after;
              stands = h.stands;
              promise = ap (λ (z : MemberState S). z.promise.proposal) is ∙ x.promise;
              waits = ap (λ (z : MemberState S). z.promise.is_installed) is ∙ x.waits;
              are = ap (λ (z : MemberState S). are_of (length bytes) z.chunks) is ∙ are-more (length bytes) l.chunks chunk x.are refl;
              has = subst (HasUpTo (length bytes) (suc k)) (sym (ap (λ (z : MemberState S). z.chunks) is)) (has-with bytes k l.chunks x.has);
            };
            leaves = left h y.1;
          }
      by false h rule old =
          let l = x.member_state in
          let chunk = chunk_at bytes (suc k) in
          let y : StaysAs (in_step l h.start) (in_step h.after h.out) =
          when-false (would_hold c v.id chunk l) _ _ (no-more (same_address c v.id.creator && awaits v.id l) (is_new chunk l.chunks) old) rule in
          record {
            holds = record {
              member_state = l;
              stands = subst (Stands meaning new q) y.0 h.stands;
              promise = x.promise;
              waits = x.waits;
              are = x.are;
              has = has-without bytes k l.chunks x.are old x.has;
            };
            leaves = left h y.1;
          }

  -- the first of some chunks
  pub record FirstHeld (w mid : WorldModel S) (past n k : ℕ) (c q : Address) (v : View) (bytes : List ℕ) : Type 0 where
    pub on : HoldsOn w mid v q bytes (suc k)
    pub sound : EachSound world_group (state_packets c q v.id bytes (suc (suc k)) n)
    pub next : AreNext (past + 1) (state_packets c q v.id bytes (suc (suc k)) n) mid.history.pool

  pub first-held : (n k past : ℕ) (w mid : WorldModel S) (c q : Address) (v : View) (bytes : List ℕ) → Keeps meaning laws w → Holds w v q bytes k → v.id.creator ≡ c → same_address q c ≡ false
      → EachSound world_group (state_packets c q v.id bytes (suc k) (suc n)) → AreNext past (state_packets c q v.id bytes (suc k) (suc n)) w.history.pool → Plays meaning w (Deliver (past + 1)) mid
      → FirstHeld w mid past n k c q v bytes
  first-held n k past w mid c q v bytes keeps x own other sound next plays =
      let m = packet c (bodies.State v.id (chunk_at bytes (suc k))) q in
      let rest = state_packets c q v.id bytes (suc k + 1) n in
      let y = one-held w mid c q v bytes k (past + 1) keeps x own (StageOfInstalls.state-for meaning laws w past n (suc k) c q v bytes other sound next) plays in
      let later : AreNext (past + 1) rest mid.history.pool = subst (AreNext (past + 1) rest) (append-nil w.history.pool ∙ sym y.leaves.pool) (next-rest past m rest w.history.pool [] next) in
      let e : suc k + 1 ≡ suc (suc k) = omega arith in
      record {
        on = y;
        sound = subst (λ (j : ℕ). EachSound world_group (state_packets c q v.id bytes j n)) e sound.1;
        next = subst (λ (j : ℕ). AreNext (past + 1) (state_packets c q v.id bytes j n) mid.history.pool) e later;
      }

  pub all-held : (n k past : ℕ) (w new : WorldModel S) (c q : Address) (v : View) (bytes : List ℕ) → Keeps meaning laws w → Holds w v q bytes k → v.id.creator ≡ c → same_address q c ≡ false
      → EachSound world_group (state_packets c q v.id bytes (suc k) n) → AreNext past (state_packets c q v.id bytes (suc k) n) w.history.pool → Delivers meaning past n w new → HoldsOn w new v q bytes (k + n)
  all-held zero k past w new c q v bytes keeps x own other sound next all =
      let is : new ≡ w = delivers-none meaning past 0 w new refl all in
      let z : k + 0 ≡ k = omega arith in
      subst (λ (j : ℕ). HoldsOn w new v q bytes j) (sym z)
      (subst (λ (u : WorldModel S). HoldsOn w u v q bytes k) (sym is) (record { holds = x; leaves = record { keeps = keeps; others = λ m e. refl; pool = refl } }))
  all-held (suc n) k past w new c q v bytes keeps x own other sound next all =
      let d = delivers-next meaning past (suc n) n w new refl all in
      let y = first-held n k past w d.mid c q v bytes keeps x own other sound next d.plays in
      let r = all-held n (suc k) (past + 1) d.mid new c q v bytes y.on.leaves.keeps y.on.holds own other y.sound y.next d.rest in
      let z : suc k + n ≡ k + suc n = omega arith in
      subst (λ (j : ℕ). HoldsOn w new v q bytes j) z (record { holds = r.holds; leaves = StageOfInstalls.leaves-then meaning laws w d.mid new q y.on.leaves r.leaves })

  -- ---- the INSTALL

  there-by : (g : GivenState) (bytes : List ℕ) (n : ℕ) (held : List Chunk) → ((total : ℕ) → g ≡ forms.Chunked total → (total ≡ length bytes) × (n ≡ chunk_count (length bytes))) → HasUpTo (length bytes) n held
      → is_there g held ≡ true
  there-by forms.Nothing bytes n held enough has = refl
  there-by (forms.Whole x) bytes n held enough has = refl
  there-by (forms.Chunked total) bytes n held enough has =
      let y = enough total refl in ap (λ (k : ℕ). has_all k held) y.0 ∙ has-them-all (length bytes) held (subst (λ (k : ℕ). HasUpTo (length bytes) k held) y.1 has)

  pub one-enters : (w new : WorldModel S) (c q : Address) (v : View) (bytes : List ℕ) (n : ℕ) (i : wire.Install) (number : ℕ) → Keeps meaning laws w → Holds w v q bytes n → i.view ≡ v
      → ((total : ℕ) → i.state ≡ forms.Chunked total → (total ≡ length bytes) × (n ≡ chunk_count (length bytes))) → Standing.IsFor meaning w number q (packet c (bodies.Install i) q)
      → Plays meaning w (Deliver number) new → GoesIn meaning laws w new v q
  one-enters w new c q v bytes n i number keeps x view enough to plays =
      let l = x.member_state in
      let s = system_of w.node_states w.history.pool w.history.trace in
      let h = sure (lacks_memory plays.step.answer) plays.whole (Standing.heard meaning laws w new keeps number q l x.stands (packet c (bodies.Install i) q) to plays.step) in
      let instruction : IsInstruction s.history c q i = Standing.fact-at meaning laws w keeps number (packet c (bodies.Install i) q) to.there to.sound in
      let entry : is_entry (core_at q l) c i ≡ true = PromisedGoIn.enters meaning s (Standing.agreed-in meaning laws w keeps).agreed c q (core_at q l) i (record {
        running = Standing.runs-in meaning w q l x.stands;
        promise = x.promise ∙ ap Some (sym view);
        installed = x.waits;
        instruction = instruction;
      }) in
      let there : is_there i.state l.chunks ≡ true = there-by i.state bytes n l.chunks enough x.has in
      let rule : TakesInstall meaning (who q world_group) c i (in_step l h.start) (in_step h.after h.out) = h.hears in
      let y : Enters meaning (who q world_group) l.view_state i (given_in i.state l.chunks) (in_step l h.start) (in_step h.after h.out) =
      RulesByPacket.install-enters meaning (who q world_group) c i (in_step l h.start) (in_step h.after h.out)
      (and_from (is_entry (core_at q l) c i) (is_there i.state l.chunks) entry there) rule in
      let is = y.member_state in
      record {
        inside = record {
          member_state = h.after;
          stands = h.stands;
          inside = ap (λ (z : MemberState S). view_in z.view_state) is ∙ ap Some (fresh-view q i.view) ∙ ap Some view;
        };
        leaves = record {
          keeps = KeepOfWorlds.step-keeps meaning laws w new (Deliver number) plays.step keeps;
          others = h.others;
          pool = h.puts ∙ ap (λ (z : List (List ℕ)). w.history.pool ++ z) (put-out h.start h.out h.nothing [] _ y.grows) ∙ append-nil w.history.pool;
        };
      }
