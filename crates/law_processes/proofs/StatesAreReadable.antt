-- The state that an INSTALL that was put out gives can be read, if it gives one: so no member of a deployment is ever closed for want of that.
use Rattle.std.proofs.Common.{◌≡◌, ℕ, Bool, true, false, cond, not, ◌&&◌, List, Option, Some, None, Err, ◌⊎◌, inl, inr, slice_get, is_some, refl, sym, ap, ◌∙◌, subst}
use Rattle.std.specs.Option.{option_eq, option_map, option_map_or, option_and_then}
use Rattle.std.proofs.lemmas.Bool.{and_parts}
use Rattle.std.proofs.lemmas.Option.{none-some, same_Some, cond_some}
use Rattle.address.specs.Ids.{Address, same_address, same_view_id}
use Rattle.address.proofs.SameIds.{same_address-true}
use Rattle.wire_values.specs.Values.{Report}
use Rattle.wire_values.specs.Values as wire
use Rattle.wire_values.specs.declared.packet.Body.{Body}
use Rattle.wire_values.specs.declared.packet.Body.TheVariants as bodies
use Rattle.state_transfer.specs.Meanings.{Meaning}
use Rattle.trace_props.specs.Observed.{entry_of}
use Rattle.trace_props.specs.State.{entry_state}
use Rattle.law_acts.specs.Histories.{History, report_of}
use Rattle.law_acts.specs.Cores.{Core}
use Rattle.law_acts.specs.Acts.{handed}
use Rattle.law_acts.specs.Steps.{System, came_of}
use Rattle.law_acts.specs.Invariant.{Kept}
use Rattle.law_acts.proofs.GivenStates.{given-is}
use Rattle.law_acts.specs.Given.{IsGiven}
use Rattle.membership.specs.HeldChunks.{given_in}
use Rattle.membership.specs.declared.member_state.MemberState.{MemberState}
use Rattle.membership.specs.MemberStates.{IsMemberState, core_of as core_at}
use Rattle.membership.specs.Changes.{would_enter}
use Rattle.membership.proofs.ActsOfChanges.{entry-given}
use Rattle.step_output.specs.Steps.{who}
use Rattle.law_acts.specs.Packets.{IsInstruction, BodyFact}
use Rattle.law_acts.proofs.KeepBySteps
use Rattle.member.specs.declared.input.Input.{Input}
use Rattle.wire_values.specs.Kinds.{install_said as install_in}
use Rattle.wire_values.specs.Posted.{Posted}
use Rattle.member.specs.Members.{MemberModel, came_at, is_readable, is_unreadable, is_unreadable_by}
use Rattle.address.proofs.Plain.{found}
use Rattle.law_processes.specs.Deployments.{Deployment, MayBeHanded}
use Rattle.law_processes.proofs.PostsAreSpelled.{posts_in}
use Rattle.law_processes.proofs.CallsBringPosts.{Comes, input-comes}
use Rattle.law_processes.proofs.KeepBySteps.{IsDeployment, system_of, cores, state-core}
use Rattle.member.specs.Handling.{Handled}
use Rattle.member.specs.Members.{core_of}
use Rattle.member.specs.declared.error.Error.TheVariants.{Refused}
use Rattle.address.specs.declared.refusal.Refusal.TheVariants.{Closed}

-- a packet that came stands in the pool, and is for the member
came-there : {S : Type 0} (pool : List Posted) (c : Core S) (which : Option ℕ) (m : Posted) → Some m ≡ came_of c pool which → (k : ℕ) × (slice_get pool k ≡ Some m) × (m.destination ≡ c.me)
came-there pool c None m e = absurd (none-some m (sym e))
came-there pool c (Some k) m e = let y = by (slice_get pool k) e in (k, y.0, y.1)
  where
    by : (o : Option Posted) → Some m ≡ option_and_then (handed c) o → (o ≡ Some m) × (m.destination ≡ c.me)
    by None e = absurd (none-some m (sym e))
    by (Some x) e =
        let y = cond_some (c.connected && same_address x.destination c.me && not (same_address x.source c.me)) x m (sym e) in
        let t = and_parts (c.connected && same_address x.destination c.me) (not (same_address x.source c.me)) y.0 in
        (ap Some y.1, ap (λ (p : Posted). p.destination) (sym y.1) ∙ same_address-true x.destination c.me (and_parts c.connected (same_address x.destination c.me) t.0).1)

-- what a packet that is an INSTALL says is an instruction
instruction : (h : History) (p q : Address) (b : Body) (i : wire.Install) → BodyFact h p q b → install_in b ≡ Some i → IsInstruction h p q i
instruction h p q bodies.Join i f e = absurd (none-some i e)
instruction h p q (bodies.Redirect coordinator) i f e = absurd (none-some i e)
instruction h p q bodies.Leave i f e = absurd (none-some i e)
instruction h p q (bodies.Forward view number payload) i f e = absurd (none-some i e)
instruction h p q (bodies.Order view place entry) i f e = absurd (none-some i e)
instruction h p q (bodies.Nak view missing) i f e = absurd (none-some i e)
instruction h p q (bodies.Ack view delivered) i f e = absurd (none-some i e)
instruction h p q (bodies.Status view progress) i f e = absurd (none-some i e)
instruction h p q (bodies.Flush proposal) i f e = absurd (none-some i e)
instruction h p q (bodies.Behind proposal counter) i f e = absurd (none-some i e)
instruction h p q (bodies.Report proposal report) i f e = absurd (none-some i e)
instruction h p q (bodies.Install j) i f e = subst (IsInstruction h p q) (same_Some j i e) f
instruction h p q (bodies.Merge view) i f e = absurd (none-some i e)
instruction h p q (bodies.State proposal chunk) i f e = absurd (none-some i e)

-- a member whose core this is
pub member-there : {S : Type 0} (p : Address) (o : Option (MemberState S)) (c : Core S) → option_map (core_at p) o ≡ Some c → (l : MemberState S) × (o ≡ Some l) × (core_at p l ≡ c)
member-there p None c e = absurd (none-some c e)
member-there p (Some l) c e = (l, refl, same_Some (core_at p l) c e)

module _ {S : Type 0} (meaning : Meaning S) (laws : KeepBySteps.Laws meaning) where
  -- a state that a receiver can be in is read back
  read-back : (b : Bool) (o : Option S) (given : Option (List ℕ)) → ((s : S) → o ≡ Some s → meaning.is_state s) → given ≡ cond b None (option_map meaning.encode o) → is_readable meaning given ≡ true
  read-back true o given are e = ap (is_readable meaning) e
  read-back false None given are e = ap (is_readable meaning) e
  read-back false (Some s) given are e = ap (is_readable meaning) e ∙ ap is_some (laws.reads_back s (are s refl))

  -- so the state that an instruction gives to a member can be read
  instruction-readable : (s : System S) → Kept meaning s → (p q : Address) (c : Core S) (i : wire.Install) (given : Option (List ℕ)) → s.running q ≡ Some c
      → IsInstruction s.history p q i → IsGiven c.chunks i.view.id i.state given → is_readable meaning given ≡ true
  instruction-readable s kept p q c i given here f is =
      let inv = kept.agreed in
      let e = found (entry_of i.view.id.creator i.view.id s.history.trace) f.led.entered in
      let r = found (report_of q i.view.id s.history.pool) (f.led.answered q i f.one) in
      let same = option_eq same_view_id r.0.previous e.0.previous in
      read-back same (entry_state meaning i.view.id s.history.trace) given (λ z at. inv.states.are i.view.id z at)
      (given-is meaning s.history same i.state c.chunks i.view.id given kept.chunks.pieces (kept.chunks.held q c here) (inv.states.given i.view.id q i f.one e.0 r.0 e.1 r.1) is)

  module _ (s : System S) (kept : Kept meaning s) (p : Address) (group : List ℕ) (l : MemberState S) (lives : IsMemberState (who p group) l) (here : s.running p ≡ Some (core_at p l)) where
    -- what it would enter by is an INSTALL that came, and can be read
    entry-readable : (m : Posted) (k : ℕ) → slice_get s.history.pool k ≡ Some m → m.destination ≡ p → is_unreadable_by meaning p l m ≡ false
    entry-readable m k at to = by (install_in m.body) refl
      where
        entered : (b : Bool) (i : wire.Install) → would_enter p l m.source i ≡ b → install_in m.body ≡ Some i
            → option_map_or (λ j. not (is_readable meaning (given_in j.state l.chunks))) (cond b (Some i) None) false ≡ false
        entered true i enters e =
            ap not (instruction-readable s kept m.source p (core_at p l) i (given_in i.state l.chunks) here
            (subst (λ (q : Address). IsInstruction s.history m.source q i) to (instruction s.history m.source m.destination m.body i (kept.agreed.packets k m at) e))
            (entry-given meaning (who p group) m.source i l lives enters))
        entered false i enters e = refl

        by : (o : Option wire.Install) → install_in m.body ≡ o
            → option_map_or (λ j. not (is_readable meaning (given_in j.state l.chunks))) (option_and_then (λ i. cond (would_enter p l m.source i) (Some i) None) o) false ≡ false
        by None e = refl
        by (Some i) e = entered (would_enter p l m.source i) i refl e

    readable-by : (o : Option Posted) → Comes s.history.pool (core_at p l) o → option_map_or (is_unreadable_by meaning p l) o false ≡ false
    readable-by None x = refl
    readable-by (Some m) x = let y = came-there s.history.pool (core_at p l) x.which m x.from in entry-readable m y.0 y.1 y.2

  -- what `handle` calls unreadable never is, whatever comes from the pool
  pub never-unreadable : (s : System S) (m : MemberModel S) (l : MemberState S) (input : Input) → Kept meaning s → m.member_state ≡ Some l → IsMemberState (who m.address m.group) l
      → s.running m.address ≡ Some (core_at m.address l) → Comes s.history.pool (core_at m.address l) (came_at m input) → is_unreadable meaning m input ≡ false
  never-unreadable s m l input kept is lives here x =
      ap (λ (o : Option (MemberState S)). option_map_or (λ k. option_map_or (is_unreadable_by meaning m.address k) (came_at m input) false) o false) is
      ∙ readable-by s kept m.address m.group l lives here (came_at m input) x

module _ {S : Type 0} (meaning : Meaning S) (laws : KeepBySteps.Laws meaning) (group : List ℕ) (d : Deployment S) (x : IsDeployment meaning laws group d)
    (p : Address) (m : MemberModel S) (there : d.members p ≡ Some m) (input : Input) (may : MayBeHanded group d.offered input) where
  -- what it is handed it can read
  pub call-readable : is_unreadable meaning m input ≡ false
  call-readable =
      let here = x.here p m there in
      let c = state-core m.address m.member_state here.runs in
      let l = member-there m.address m.member_state c.0 c.1 in
      never-unreadable meaning laws (system_of meaning laws group d.members d.offered d.trace) m l.0 input x.agreed l.1 (here.alive l.0 l.1).member_state
      (subst (λ (q : Address). cores d.members q ≡ Some (core_at m.address l.0)) (sym here.address) (ap (option_and_then core_of) there ∙ c.1 ∙ ap Some (sym l.2)))
      (subst (λ (k : Core S). Comes (posts_in d.offered) k (came_at m input)) (sym l.2) (input-comes group d.offered m c.0 c.1 here.group_is input x.spelled may))

  -- so it is not closed
  pub never-closed : (left : MemberModel S) → Handled meaning m input (Err (Refused Closed)) left → ⊥
  never-closed left h = by (h.closed.only refl)
    where
      by : (core_of m ≡ None) ⊎ (is_unreadable meaning m input ≡ true) → ⊥
      by (inl none) = let c = state-core m.address m.member_state (x.here p m there).runs in none-some c.0 (sym none ∙ c.1)
      by (inr bad) = let n : true ≡ false = sym bad ∙ call-readable in absurd (cc)
