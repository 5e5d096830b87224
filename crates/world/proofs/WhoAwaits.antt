-- Who was sent an INSTALL of a view, and would follow that view still: it has promised the view and did not install it, and has no flush of its own; and its
-- creator sends that INSTALL again, behind the chunks of the state with which the view begins.
use Rattle.std.proofs.Common.{◌≡◌, ℕ, zero, suc, Bool, true, false, Option, Some, None, List, [], ◌∷◌, map, length, is_some, refl, sym, ap, ◌∙◌, subst, inl, inr, ◌⊎◌}
use Rattle.std.specs.Prelude.{find, slice_get, ◌&&◌}
use Rattle.std.specs.List.{list_any}
use Rattle.std.specs.Option.{IsSomeAnd, option_map, option_map_or}
use Rattle.std.proofs.lemmas.Option.{none-some, same_Some}
use Rattle.address.specs.Ids.{Address, ViewId, same_address, same_view_id}
use Rattle.address.proofs.SameIds.{same_address-refl, same_address-sym, same_view_id-true}
use Rattle.address.proofs.Plain.{found}
use Rattle.view.specs.Members.{View, stands_in}
use Rattle.wire_values.specs.Values as wire
use Rattle.wire_values.specs.Values.{Chunk}
use Rattle.wire.specs.Packets.{IsPacket}
use Rattle.state_transfer.specs.Meanings.{Meaning}
use Rattle.flush.specs.Flushes.{FlushModel, is_awaited}
use Rattle.view_install.specs.Promises.{PromiseModel, offered, is_accept}
use Rattle.trace_props.specs.Rules.{IsBelow}
use Rattle.trace_props.specs.State.{entry_state}
use Rattle.trace_props.proofs.InstallsOfRisingViews.{IsBelow-irreflexive}
use Rattle.law_acts.specs.Histories.{flush_of, report_of}
use Rattle.law_acts.specs.Cores.{install_sent_to}
use Rattle.law_acts.specs.Given.{chunk_at}
use Rattle.law_acts.specs.Acts.{proposed}
use Rattle.law_acts.specs.Decisions.{promise_of}
use Rattle.law_acts.specs.Invariant.{KeepsGiven}
use Rattle.law_acts.specs.Packets.{IsInstruction}
use Rattle.law_acts.proofs.KeepBySteps
use Rattle.law_acts.proofs.RegistersHoldPackets.{install-fact}
use Rattle.step_output.specs.Outputs.{packet_in}
use Rattle.step_output.specs.Steps.{who}
use Rattle.membership.specs.declared.member_state.MemberState.{MemberState}
use Rattle.membership.specs.MemberStates.{core_of as core_at, is_expected, view_in, labelled, sent_installs_in, is_sent_to, install_packet, sent_install, IsKept, IsMemberState, IsFlushing}
use Rattle.membership.proofs.InstallsReadBack.{IsAgain, again-in, kept-are}
use Rattle.member_rules.specs.Views.{expects}
use Rattle.world_model.specs.Packets.{world_group}
use Rattle.world.proofs.MembersAsSystem.{system_of}
use Rattle.world.specs.Worlds.{WorldModel}
use Rattle.world.proofs.Standing
use Rattle.world.proofs.Standing.{Stands}
use Rattle.world.proofs.WhoFollows
use Rattle.world.proofs.ChunksAreHeld.{are_of, are-all-of, finds}
use Rattle.world.proofs.StageOfFlushes.{Keeps}

module _ {S : Type 0} (meaning : Meaning S) (laws : KeepBySteps.Laws meaning) where
  -- ---- the creator of a view

  -- it runs, in the view
  pub record Made (w : WorldModel S) (c : Address) (l : MemberState S) (v : View) : Type 0 where
    pub keeps : Keeps meaning laws w
    pub stands : Stands meaning w c l
    pub view : view_in l.view_state ≡ Some v

  -- what always holds of a member that runs
  pub always : (w : WorldModel S) (c : Address) (l : MemberState S) → Keeps meaning laws w → Stands meaning w c l → IsMemberState (who c world_group) l
  always w c l keeps r =
      subst (λ (g : List ℕ). IsMemberState (who c g) l) r.group
      (subst (λ (p : Address). IsMemberState (who p r.member.group) l) r.address (Standing.lives meaning w c l r laws keeps))

  -- the INSTALL that it keeps for an address
  pub record KeepsFor (w : WorldModel S) (c q : Address) (l : MemberState S) (v : View) : Type 0 where
    pub install : wire.Install
    pub is : find (is_sent_to q) l.sent_installs.items ≡ Some (sent_install (who c world_group) (q, install))
    pub view : install.view ≡ v
    pub sound : IsPacket (packet_in world_group (install_packet c (q, install)))
    pub kept : install_sent_to q (core_at c l).sent_installs ≡ Some install
    pub own : v.id.creator ≡ c
    pub instruction : IsInstruction (system_of w.node_states w.history.pool w.history.trace).history c q install

  pub keeps-for : (w : WorldModel S) (c q : Address) (l : MemberState S) (v : View) → Made w c l v → list_any (is_sent_to q) l.sent_installs.items ≡ true → KeepsFor w c q l v
  keeps-for w c q l v m kept =
      let k = (always w c l m.keeps m.stands).sent_installs in
      by k (again-in (who c world_group) q (view_in l.view_state) k.given k.sound k.current)
    where
      by : (k : IsKept (who c world_group) l)
          → (find (is_sent_to q) (map (sent_install (who c world_group)) k.given) ≡ None)
          ⊎ IsAgain (who c world_group) q (view_in l.view_state) k.given (find (is_sent_to q) (map (sent_install (who c world_group)) k.given)) → KeepsFor w c q l v
      by k (inl none) =
          let y : is_some (find (is_sent_to q) (map (sent_install (who c world_group)) k.given)) ≡ true =
          finds (is_sent_to q) (map (sent_install (who c world_group)) k.given) (ap (list_any (is_sent_to q)) (sym k.spelled) ∙ kept) in
          absurd (let n : true ≡ false = sym y ∙ ap is_some none in cc)
      by k (inr a) =
          let s = system_of w.node_states w.history.pool w.history.trace in
          let i = a.install in
          let inv = (Standing.agreed-in meaning laws w m.keeps).agreed in
          let same : i.view ≡ v = same_Some i.view v (sym a.current ∙ m.view) in
          let items : (core_at c l).sent_installs ≡ k.given = ap sent_installs_in k.spelled ∙ kept-are (who c world_group) k.given k.sound in
          let first : install_sent_to q (core_at c l).sent_installs ≡ Some i = ap (install_sent_to q) items ∙ a.first in
          let put = ((inv.members c (core_at c l) (Standing.runs-in meaning w c l m.stands)).view v m.view).keeps q i first in
          let fact = install-fact s.history v.id q i inv.packets put.1 in
          let is : sent_install (who c world_group) (a.to, i) ≡ sent_install (who c world_group) (q, i) = ap (λ (p : Address). sent_install (who c world_group) (p, i)) a.same in
          record {
            install = i;
            is = ap (find (is_sent_to q)) k.spelled ∙ a.is ∙ ap Some is;
            view = same;
            sound = subst (λ (p : Address). IsPacket (packet_in world_group (install_packet c (p, i)))) a.same a.sound;
            kept = first;
            own = put.0;
            instruction = subst (λ (p : Address). IsInstruction s.history p q i) put.0 fact.fact;
          }

  -- it awaits no report for its view
  pub expects-none : (w : WorldModel S) (c q : Address) (l : MemberState S) (v : View) → Made w c l v → expects q v.id l ≡ false
  expects-none w c q l v m = by l.flush refl
    where
      by : (o : Option FlushModel) → l.flush ≡ o → option_map_or (is_expected q v.id) o false ≡ false
      by None e = refl
      by (Some f) e = test (same_view_id f.proposal v.id) refl
        where
          test : (b : Bool) → same_view_id f.proposal v.id ≡ b → b && is_awaited q f ≡ false
          test false x = refl
          test true x =
              let d = (Standing.agreed-in meaning laws w m.keeps).agreed.members c (core_at c l) (Standing.runs-in meaning w c l m.stands) in
              let g = d.flush f e in
              let above : IsBelow v.id f.proposal = subst (λ (o : Option View). IsSomeAnd o (λ u. IsBelow v.id u.id)) g.promised (d.promise.above g.waits v m.view) in
              absurd (IsBelow-irreflexive v.id (subst (IsBelow v.id) (same_view_id-true f.proposal v.id x) above))

  -- ---- who awaits its INSTALL

  pub record Awaits (w : WorldModel S) (l : MemberState S) (v : View) (q : Address) : Type 0 where
    pub member_state : MemberState S
    pub stands : Stands meaning w q member_state
    pub accepts : is_accept (offered v member_state.promise) ≡ true
    pub kept : list_any (is_sent_to q) l.sent_installs.items ≡ true

  -- it has promised the view, did not install it, and has no flush
  pub record HasPromised (l : MemberState S) (v : View) : Type 0 where
    pub promise : l.promise.proposal ≡ Some v
    pub waits : l.promise.is_installed ≡ false
    pub no_flush : l.flush ≡ None

  flushless : (q : Address) (k : MemberState S) (v : View) → IsMemberState (who q world_group) k → k.promise.proposal ≡ Some v → same_address v.id.creator q ≡ false → k.flush ≡ None
  flushless q k v lives promise foreign = by k.flush refl
    where
      by : (o : Option FlushModel) → k.flush ≡ o → o ≡ None
      by None e = refl
      by (Some f) e =
          let x : IsFlushing q k f = lives.flushing f e in
          let own : v.id.creator ≡ q = ap (λ (u : View). u.id.creator) (same_Some v (proposed f) (sym promise ∙ x.promise)) ∙ x.own in
          absurd (let n : true ≡ false = sym (same_address-refl q) ∙ ap (λ (p : Address). same_address p q) (sym own) ∙ foreign in cc)

  pub has-promised : (w : WorldModel S) (c q : Address) (l : MemberState S) (v : View) → Made w c l v → (a : Awaits w l v q) → KeepsFor w c q l v → HasPromised a.member_state v
  has-promised w c q l v m a i =
      let s = system_of w.node_states w.history.pool w.history.trace in
      let inv = (Standing.agreed-in meaning laws w m.keeps).agreed in
      let k = a.member_state in
      let d = core_at q k in
      let theirs = inv.members q d (Standing.runs-in meaning w q k a.stands) in
      let lives = always w q k m.keeps a.stands in
      let led = i.instruction.led in
      let ids : i.install.view.id ≡ v.id = ap (λ (u : View). u.id) i.view in
      let r = found (report_of q i.install.view.id s.history.pool) (led.answered q i.install i.instruction.one) in
      let said : report_of q v.id s.history.pool ≡ Some r.0 = ap (λ (u : ViewId). report_of q u s.history.pool) (sym ids) ∙ r.1 in
      let ours : k.promise ≡ promise_of d = ap (λ (p : Address). record { member = p; proposal = k.promise.proposal; is_installed = k.promise.is_installed }) lives.own in
      let x = WhoFollows.accept-listed (stands_in d.me v.members) _ (subst (λ (p : PromiseModel). is_accept (offered v p) ≡ true) ours a.accepts) in
      let y = WhoFollows.accept-promised d.promise d.installed v (theirs.below.reported v.id r.0 said) x.1 in
      let creator : v.id.creator ≡ c = i.own in
      let foreign : same_address v.id.creator q ≡ false = ap (λ (p : Address). same_address p q) creator ∙ same_address-sym c q ∙ i.instruction.other in
      let foreign_too : same_address y.promised.id.creator q ≡ false = ap (λ (u : ViewId). same_address u.creator q) y.same ∙ foreign in
      let announced : flush_of v.id s.history.pool ≡ Some v.members =
      ap (λ (u : ViewId). flush_of u s.history.pool) (sym ids) ∙ led.announced ∙ ap (λ (u : View). Some u.members) i.view in
      let members : y.promised.members ≡ v.members =
      same_Some y.promised.members v.members (sym (theirs.announced y.promised y.is foreign_too) ∙ ap (λ (u : ViewId). flush_of u s.history.pool) y.same ∙ announced) in
      let promise : k.promise.proposal ≡ Some v = y.is ∙ ap Some (λ j. record { id = y.same j; members = members j }) in
      record { promise = promise; waits = y.waits; no_flush = flushless q k v lives promise foreign }

  -- ---- the state with which the view begins

  -- the chunks that it holds are of that state
  pub record Begun (w : WorldModel S) (v : View) : Type 0 where
    pub state : S
    pub is : entry_state meaning v.id w.history.trace ≡ Some state

  pub begun : (w : WorldModel S) (c q : Address) (l : MemberState S) (v : View) → Made w c l v → KeepsFor w c q l v → Begun w v
  begun w c q l v m i =
      let s = system_of w.node_states w.history.pool w.history.trace in
      let inv = (Standing.agreed-in meaning laws w m.keeps).agreed in
      let ids : i.install.view.id ≡ v.id = ap (λ (u : View). u.id) i.view in
      let e = found _ i.instruction.led.entered in
      let z = found (entry_state meaning i.install.view.id s.history.trace) (inv.states.there i.install.view.id e.0 e.1) in
      record { state = z.0; is = ap (λ (u : ViewId). entry_state meaning u s.history.trace) (sym ids) ∙ z.1 }

  pub holds-pieces : (w : WorldModel S) (v : View) (q : Address) (k : MemberState S) (z : S) → Keeps meaning laws w → Stands meaning w q k → k.promise.proposal ≡ Some v
      → entry_state meaning v.id w.history.trace ≡ Some z → are_of (length (meaning.encode z)) k.chunks ≡ true
  holds-pieces w v q k z keeps stands promise begins =
      are-all-of (length (meaning.encode z)) k.chunks (λ j chunk at.
      let s = system_of w.node_states w.history.pool w.history.trace in
      let chunks = (Standing.agreed-in meaning laws w keeps).chunks in
      let put = chunks.held q (core_at q k) (Standing.runs-in meaning w q k stands) j v.id chunk
      (ap (λ (o : Option View). slice_get (option_map_or (λ u. labelled u.id k.chunks) o []) j) promise ∙ labelled-at v.id k.chunks j chunk at) in
      let piece = subst (λ (o : Option S). IsSomeAnd o (λ y. chunk ≡ chunk_at (meaning.encode y) chunk.index)) begins (chunks.pieces put.0 put.1 v.id chunk put.2 put.3) in
      ap (λ (x : Chunk). x.total) piece)
    where
      labelled-at : (u : ViewId) (held : List Chunk) (j : ℕ) (chunk : Chunk) → slice_get held j ≡ Some chunk → slice_get (labelled u held) j ≡ Some (u, chunk)
      labelled-at u [] j chunk at = absurd (none-some chunk at)
      labelled-at u (x ∷ held) zero chunk at = ap (λ (o : Option Chunk). option_map (λ y. (u, y)) o) at
      labelled-at u (x ∷ held) (suc j) chunk at = labelled-at u held j chunk at

  -- the state that its creator keeps is that one
  pub keeps-state : (w : WorldModel S) (c : Address) (l : MemberState S) (v : View) (bytes : List ℕ) (z : S) → Made w c l v → l.sent_state ≡ Some bytes
      → entry_state meaning v.id w.history.trace ≡ Some z → bytes ≡ meaning.encode z
  keeps-state w c l v bytes z m kept begins =
      let chunks = (Standing.agreed-in meaning laws w m.keeps).chunks in
      sym (subst (λ (o : Option S). IsSomeAnd o (λ y. meaning.encode y ≡ bytes)) begins (chunks.kept c (core_at c l) (Standing.runs-in meaning w c l m.stands) bytes kept v m.view))

  -- and it keeps one, where it gives it in chunks
  pub keeps-given : (w : WorldModel S) (c : Address) (l : MemberState S) (v : View) → Made w c l v → KeepsGiven (core_at c l).sent_installs l.sent_state
  keeps-given w c l v m = (Standing.agreed-in meaning laws w m.keeps).chunks.gives c (core_at c l) (Standing.runs-in meaning w c l m.stands)
