-- The own flush of a member waits for a report, and lists no earlier incarnation of its node: whatever it does, that stays so.
use Rattle.std.proofs.Common.{◌≡◌, ℕ, Bool, true, false, cond, not, ◌&&◌, ◌||◌, ◌⊎◌, inl, inr, Option, Some, None, List, [], ◌∷◌, ◌++◌, is_some, refl, sym, ap, ◌∙◌, subst}
use Rattle.std.specs.Prelude.{MatchBool, MatchOption, if◌then◌else◌}
use Rattle.std.specs.Option.{ForSome, option_map, option_and_then}
use Rattle.std.specs.Cmp.Lexicographic.{pointwise}
use Rattle.std.proofs.lemmas.Bool.{and_parts, not-true}
use Rattle.std.proofs.lemmas.Option.{none-some, same_Some}
use Rattle.address.specs.Ids.{Address, ViewId, same_address, same_view_id}
use Rattle.address.proofs.SameIds.{same_address-refl}
use Rattle.view.specs.Members.{View, stands_in}
use Rattle.view.specs.View.{view_refusal}
use Rattle.view.proofs.MembersListed.{all-by}
use Rattle.state_transfer.specs.Meanings.{Meaning}
use Rattle.suspicion.specs.Suspicion.{leads}
use Rattle.next_view.specs.ViewNotes.{NotesModel, is_later, suspecting, having_heard}
use Rattle.next_view.specs.Candidates.{candidates, is_changed}
use Rattle.wire_values.specs.Values as wire
use Rattle.wire_values.specs.declared.packet.Body.{Body}
use Rattle.wire_values.specs.declared.packet.Body.TheVariants as bodies
use Rattle.wire_values.specs.Posted.{Posted}
use Rattle.flush.specs.Flushes.{FlushModel, has_reported, is_awaited}
use Rattle.view_install.specs.Promises.{PromiseModel, offered}
use Rattle.view_install.specs.declared.promise.OfferAnswer.{OfferAnswer}
use Rattle.view_install.specs.declared.promise.OfferAnswer.TheVariants.{Accept, Behind, Ignore}
use Rattle.law_acts.specs.Acts.{others_of, proposed}
use Rattle.law_acts.specs.Cores.{Core}
use Rattle.law_acts.specs.Decisions.{is_readable, due_proposal, due_at, regroups_in, is_due, proposal_after}
use Rattle.law_acts.proofs.ProposalsAreViews.{next-means}
use Rattle.step_output.specs.Steps.{Who}
use Rattle.traffic.specs.declared.view_state.ViewState.{ViewState}
use Rattle.traffic.proofs.NewViewTraffic.{fresh-view}
use Rattle.membership.specs.declared.member_state.MemberState.{MemberState}
use Rattle.membership.specs.MemberStates.{core_of, view_in, report_in, begun_with, recording, is_complete, anew_proposal, would_hold, IsMemberState, IsFlushing}
use Rattle.membership.specs.InSteps.{InStep, in_step}
use Rattle.membership.specs.Changes.{StaysAs, TakesBy, TakesFlush, Begins, FinishesAndProposes, GoesOn, BeginsAndGoesOn, Regroups, TakesReport, TakesBehind, TakesSuspicion, TakesInstall, TakesChunk, Enters, would_enter}
use Rattle.membership.proofs.ProposalsLead as proposals
use Rattle.membership.proofs.ProposalsLead.{IsProposal}
use Rattle.membership.proofs.KeepMemberState as lives
use Rattle.membership.proofs.KeepNotes as notes
use Rattle.membership.specs.HeldChunks.{given_in}
use Rattle.member_rules.specs.Heard.{takes_forward, takes_nak, takes_ack, takes_order, takes_status}
use Rattle.member_rules.specs.Messages.{IsSameBeside}
use Rattle.member_rules.specs.Views.{Asks, AnnouncesView, Redirects, SaysAgain, has_promised, OnJoin, Admits, OnRedirect, OnSuspect, OnFlush, OnBehind, OnReport, OnMerge, Meets, outdated, joined, merged, is_suspectable, leads_now, is_proposing, expects, is_in, is_less, has_member}
use Rattle.member_rules.proofs.KeepMemberState as noted
use Rattle.member.specs.Hearing.{FollowsRule}
use Rattle.member.specs.Doing.{DoesBy}
use Rattle.member.specs.declared.input.Input.{Input}
use Rattle.member.specs.declared.input.Input.TheVariants.{Create, Join, Send, Datagram, Tick, Suspect, MergeHint, Leave}
use Rattle.law_dead_ends.proofs.CandidatesAlone.{Other, alone-or-other, only-me, other-candidate, candidate-latest}

-- ---- a flush that begins

-- one more than itself is awaited there
pub begun-waits : (me : Address) (w : View) (r : wire.Report) → Other me w.members → is_complete (begun_with me w r) ≡ false
begun-waits me w r o = by (is_complete (begun_with me w r)) refl
  where
    by : (b : Bool) → is_complete (begun_with me w r) ≡ b → b ≡ false
    by false e = refl
    by true e =
        let there : has_reported o.who ((me, r) ∷ []) ≡ true = all-by (λ m. has_reported m ((me, r) ∷ [])) w.members o.who e o.stands in
        absurd (let n : true ≡ false = sym there ∙ ap (λ b. is_some (cond b (Some r) None)) o.apart in cc)

-- alone in its list, it waits for nobody; and only then
pub begun-alone : (me : Address) (w : View) (r : wire.Report) → is_complete (begun_with me w r) ≡ true → others_of me w.members ≡ []
begun-alone me w r e = by (alone-or-other me w.members)
  where
    by : (others_of me w.members ≡ []) ⊎ Other me w.members → others_of me w.members ≡ []
    by (inl none) = none
    by (inr o) = absurd (let n : true ≡ false = sym e ∙ begun-waits me w r o in cc)

-- what is due in an opened view is due since its candidates are others
due-changed : {S : Type 0} (c : Core S) (b : NotesModel) (v w : View) → c.view ≡ Some v → c.installed ≡ true → due_proposal c b ≡ Some w → is_changed c.me v.members b ≡ true
due-changed c b v w view opened e =
    let at : due_at c b v ≡ Some w = sym (ap (option_and_then (due_at c b)) view) ∙ e in
    by (regroups_in c b v) refl at
  where
    by : (t : Bool) → regroups_in c b v ≡ t → (if t then proposal_after c b v else None) ≡ Some w → is_changed c.me v.members b ≡ true
    by true is next =
        let due : is_due c b v ≡ true = (and_parts (leads b.suspects v.members c.me) (is_due c b v) is).1 in
        sym (ap (λ t. cond t (is_changed c.me v.members b) (is_due (record c { installed = false }) b v)) opened) ∙ due
    by false is next = absurd (none-some w next)

module _ {S : Type 0} (meaning : Meaning S) (who : Who) where
  -- the own flush lists no earlier incarnation of the member's node
  abbrev pub IsLatest : FlushModel → Type 0
  IsLatest f = (q : Address) → stands_in q f.members ≡ true → is_later who.address q ≡ false

  -- WAITS: and somebody has not reported
  abbrev pub Waits : MemberState S → Type 0
  Waits l = ForSome l.flush (λ f. (is_complete f ≡ false) × IsLatest f)

  pub same-waits : (l new : MemberState S) → new.flush ≡ l.flush → Waits l → Waits new
  same-waits l new same w f at = w f (sym same ∙ at)

  pub none-waits : (new : MemberState S) → new.flush ≡ None → Waits new
  none-waits new none f at = absurd (none-some f (sym none ∙ at))

  -- a proposal lists no earlier incarnation
  pub proposal-latest : (l : MemberState S) (w : View) → IsProposal who.address l w → (q : Address) → stands_in q w.members ≡ true → is_later who.address q ≡ false
  proposal-latest l w p q there =
      let listed : w.members ≡ candidates who.address p.before.members l.notes = (next-means (core_of who.address l) l.notes (candidates who.address p.before.members l.notes) w p.next).listed in
      candidate-latest who.address p.before.members l.notes (subst (λ (list : List Address). stands_in who.address list ≡ true) listed p.listed) q
      (subst (λ (list : List Address). stands_in q list ≡ true) listed there)

  -- it goes into its own proposal, and what it proposes then waits
  pub finished-waits : (f : FlushModel) (t : ViewState) (old new : InStep S) → IsMemberState who old.member → old.member.flush ≡ Some f → IsLatest f → FinishesAndProposes meaning who f t old new
      → Waits new.member
  finished-waits f t old new kept flush latest z = by (due_proposal (core_of who.address z.mid.member) z.mid.member.notes) refl z.proposes
    where
      x : IsFlushing who.address old.member f
      x = kept.flushing f flush

      mid : MemberState S
      mid = z.mid.member

      whole : IsMemberState who mid
      whole = lives.finished-member_state who meaning f t old.member old.member mid old.out z.mid.out kept flush refl z.finishes

      view : view_in mid.view_state ≡ Some (proposed f)
      view = ap (λ (n : MemberState S). view_in n.view_state) z.finishes.member_state ∙ ap Some (fresh-view who.address (proposed f))

      opened : mid.promise.is_installed ≡ true
      opened = ap (λ (n : MemberState S). n.promise.is_installed) z.finishes.member_state
          ∙ ap (λ (p : PromiseModel). p.is_installed) (lives.own-installed who.address (proposed f) old.member.promise kept.own x.promise x.waiting)

      nobody : mid.notes.suspects ≡ []
      nobody = ap (λ (n : MemberState S). n.notes.suspects) z.finishes.member_state

      none : mid.flush ≡ None
      none = ap (λ (n : MemberState S). n.flush) z.finishes.member_state

      other : (w : View) → IsProposal who.address mid w → due_proposal (core_of who.address mid) mid.notes ≡ Some w → Other who.address w.members
      other w p due = among (alone-or-other who.address f.members)
        where
          at : p.before ≡ proposed f
          at = same_Some p.before (proposed f) (sym p.inside ∙ view)

          listed : w.members ≡ candidates who.address f.members mid.notes
          listed = (next-means (core_of who.address mid) mid.notes (candidates who.address p.before.members mid.notes) w p.next).listed
              ∙ ap (λ (v : View). candidates who.address v.members mid.notes) at

          sound : view_refusal w.id (candidates w.id.creator f.members mid.notes) ≡ None
          sound = ap (λ (p : Address). view_refusal w.id (candidates p f.members mid.notes)) p.own ∙ ap (view_refusal w.id) (sym listed) ∙ p.sound

          among : (others_of who.address f.members ≡ []) ⊎ Other who.address f.members → Other who.address w.members
          among (inr o) =
              subst (Other who.address) (sym listed)
              (subst (λ (p : Address). Other p (candidates p f.members mid.notes)) p.own
              (other-candidate w.id f.members mid.notes nobody sound (subst (λ (p : Address). Other p f.members) (sym p.own) o)
              (subst (λ (p : Address). is_later p o.who ≡ false) (sym p.own) (latest o.who o.stands))))
          among (inl alone) = cases (alone-or-other who.address w.members)
            where
              cases : (others_of who.address w.members ≡ []) ⊎ Other who.address w.members → Other who.address w.members
              cases (inr o) = o
              cases (inl lone) =
                  let here : w.members ≡ who.address ∷ [] =
                  subst (λ (p : Address). w.members ≡ p ∷ []) p.own (only-me w.id w.members p.sound (subst (λ (p : Address). others_of p w.members ≡ []) (sym p.own) lone)) in
                  let there : f.members ≡ who.address ∷ [] =
                  subst (λ (p : Address). f.members ≡ p ∷ []) x.own (only-me f.proposal f.members x.list (subst (λ (p : Address). others_of p f.members ≡ []) (sym x.own) alone)) in
                  let changed : not (pointwise same_address (candidates who.address f.members mid.notes) f.members) ≡ true =
                  due-changed (core_of who.address mid) mid.notes (proposed f) w view opened due in
                  let same : pointwise same_address (candidates who.address f.members mid.notes) f.members ≡ true =
                  (λ j. pointwise same_address ((sym listed ∙ here) j) (there j)) ∙ ap (λ b. b && true) (same_address-refl who.address) in
                  absurd (let n : false ≡ true = sym (ap not same) ∙ changed in cc)

      by : (o : Option View) → due_proposal (core_of who.address mid) mid.notes ≡ o → MatchOption o (StaysAs z.mid new) (λ w. Begins who w z.mid new) → Waits new.member
      by None due stays = same-waits mid new.member (ap (λ (n : MemberState S). n.flush) stays.0) (none-waits mid none)
      by (Some w) due begins = λ f2 at.
          let p = proposals.due-is-proposal who mid w whole due in
          let is : begun_with who.address w (report_in mid) ≡ f2 = same_Some (begun_with who.address w (report_in mid)) f2 (sym (ap (λ (n : MemberState S). n.flush) begins.member_state) ∙ at) in
          subst (λ (g : FlushModel). (is_complete g ≡ false) × IsLatest g) is (begun-waits who.address w (report_in mid) (other w p due), proposal-latest mid w p)

  -- where all have reported it goes into its own proposal
  pub on-waits : (old new : InStep S) → IsMemberState who old.member → ForSome old.member.flush IsLatest → GoesOn meaning who old new → Waits new.member
  on-waits old new kept latest g = by old.member.flush refl g
    where
      by : (o : Option FlushModel) → old.member.flush ≡ o
          → MatchOption o (StaysAs old new) (λ f. MatchBool (is_complete f) (MatchOption old.member.view_state ⊥ (λ t. FinishesAndProposes meaning who f t old new)) (StaysAs old new)) → Waits new.member
      by None flush stays = none-waits new.member (ap (λ (n : MemberState S). n.flush) stays.0 ∙ flush)
      by (Some f) flush x = cases (is_complete f) refl x
        where
          cases : (b : Bool) → is_complete f ≡ b → MatchBool b (MatchOption old.member.view_state ⊥ (λ t. FinishesAndProposes meaning who f t old new)) (StaysAs old new) → Waits new.member
          cases true is y = inside old.member.view_state y
            where
              inside : (o : Option ViewState) → MatchOption o ⊥ (λ t. FinishesAndProposes meaning who f t old new) → Waits new.member
              inside None bad = absurd bad
              inside (Some t) z = finished-waits f t old new kept flush (latest f flush) z
          cases false is stays = λ g at.
              let same : f ≡ g = same_Some f g (sym (ap (λ (n : MemberState S). n.flush) stays.0 ∙ flush) ∙ at) in
              (subst (λ (h : FlushModel). is_complete h ≡ false) same is, subst IsLatest same (latest f flush))

  -- it proposes, and goes on
  pub begun-on-waits : (w : View) (old new : InStep S) → IsMemberState who old.member → IsProposal who.address old.member w → BeginsAndGoesOn meaning who w old new → Waits new.member
  begun-on-waits w old new kept p z =
      on-waits z.mid new (lives.begun-member_state who w old z.mid kept p z.begins)
      (λ f at. subst IsLatest (same_Some (begun_with who.address w (report_in old.member)) f (sym (ap (λ (n : MemberState S). n.flush) z.begins.member_state) ∙ at)) (proposal-latest old.member w p)) z.goes_on

  pub regroups-waits : (old new : InStep S) → IsMemberState who old.member → Waits old.member → Regroups meaning who old new → Waits new.member
  regroups-waits old new kept waits r = by (due_proposal (core_of who.address old.member) old.member.notes) refl r
    where
      by : (o : Option View) → due_proposal (core_of who.address old.member) old.member.notes ≡ o → MatchOption o (StaysAs old new) (λ w. BeginsAndGoesOn meaning who w old new) → Waits new.member
      by None due stays = same-waits old.member new.member (ap (λ (n : MemberState S). n.flush) stays.0) waits
      by (Some w) due z = begun-on-waits w old new kept (proposals.due-is-proposal who old.member w kept due) z

  stays-waits : (old new : InStep S) → StaysAs old new → Waits old.member → Waits new.member
  stays-waits old new stays waits = same-waits old.member new.member (ap (λ (n : MemberState S). n.flush) stays.0) waits

  -- ---- each rule

  pub suspects-waits : (p : Address) (old new : InStep S) → IsMemberState who old.member → Waits old.member → OnSuspect meaning who p old new → Waits new.member
  suspects-waits p old new kept waits x = by (is_suspectable who.address p old.member) refl x
    where
      other : is_some old.member.view_state && not (same_address p who.address) && (has_member p old.member || has_promised p old.member) ≡ true → same_address p who.address ≡ false
      other e = not-true (same_address p who.address)
          (and_parts (is_some old.member.view_state) (not (same_address p who.address))
          (and_parts (is_some old.member.view_state && not (same_address p who.address)) (has_member p old.member || has_promised p old.member) e).0).1

      by : (b : Bool) → is_suspectable who.address p old.member ≡ b → MatchBool b (TakesSuspicion meaning who p old new) (StaysAs old new) → Waits new.member
      by true is x =
          regroups-waits (in_step (record (old.member) { notes = suspecting p old.member.notes }) old.out) new
          (notes.suspected-member_state who old.member (record (old.member) { notes = suspecting p old.member.notes }) p kept (other is) refl) waits x
      by false is stays = stays-waits old new stays waits

  joins-waits : (q : Address) (old new : InStep S) → IsMemberState who old.member → Waits old.member → OnJoin meaning who q old new → Waits new.member
  joins-waits q old new kept waits x = by (is_some old.member.view_state) x
    where
      mid : InStep S
      mid = in_step (outdated who.address q old.member) old.out

      by : (b : Bool) → MatchBool b (Admits meaning who q mid new) (StaysAs old new) → Waits new.member
      by false stays = stays-waits old new stays waits
      by true y = admits (leads_now who.address mid.member) y
        where
          kept' : IsMemberState who mid.member
          kept' = noted.outdated-member_state who q old.member mid.member kept refl

          admits : (b : Bool) → MatchBool b (Regroups meaning who (in_step (joined who.address q mid.member) mid.out) new) (Redirects who q mid new) → Waits new.member
          admits true r = regroups-waits (in_step (joined who.address q mid.member) mid.out) new (noted.joined-member_state who q mid.member (joined who.address q mid.member) kept' refl) waits r
          admits false r = same-waits old.member new.member (ap (λ (n : MemberState S). n.flush) r.member_state) waits

  redirects-waits : (c : Address) (old new : InStep S) → Waits old.member → OnRedirect who c old new → Waits new.member
  redirects-waits c old new waits x = by (same_address c who.address) x
    where
      by : (b : Bool) → MatchBool b (StaysAs old new) (MatchBool (is_some old.member.view_state) (AnnouncesView who c old new) (Asks who c old new)) → Waits new.member
      by true stays = stays-waits old new stays waits
      by false y = cases (is_some old.member.view_state) y
        where
          cases : (b : Bool) → MatchBool b (AnnouncesView who c old new) (Asks who c old new) → Waits new.member
          cases true z = same-waits old.member new.member (ap (λ (n : MemberState S). n.flush) z.member_state) waits
          cases false z = same-waits old.member new.member (ap (λ (n : MemberState S). n.flush) z.member_state) waits

  merges-waits : (q : Address) (u : View) (old new : InStep S) → IsMemberState who old.member → Waits old.member → OnMerge meaning who q u old new → Waits new.member
  merges-waits q u old new kept waits x = by (is_some old.member.view_state && not (has_member q old.member)) x
    where
      by : (b : Bool) → MatchBool b (MatchBool (leads_now who.address old.member) (Meets meaning who q u old new) (Redirects who q old new)) (StaysAs old new) → Waits new.member
      by false stays = stays-waits old new stays waits
      by true y = meets (leads_now who.address old.member) y
        where
          meets : (b : Bool) → MatchBool b (Meets meaning who q u old new) (Redirects who q old new) → Waits new.member
          meets false r = same-waits old.member new.member (ap (λ (n : MemberState S). n.flush) r.member_state) waits
          meets true z = cases (is_less q who.address) z
            where
              cases : (b : Bool) → MatchBool b (AnnouncesView who q old new) (Regroups meaning who (in_step (merged who.address u old.member) old.out) new) → Waits new.member
              cases true r = same-waits old.member new.member (ap (λ (n : MemberState S). n.flush) r.member_state) waits
              cases false r = regroups-waits (in_step (merged who.address u old.member) old.out) new (noted.merged-member_state who u old.member (merged who.address u old.member) kept refl) waits r

  flushes-waits : (q : Address) (w : View) (old new : InStep S) → Waits old.member → OnFlush who q w old new → Waits new.member
  flushes-waits q w old new waits x = by (same_address w.id.creator q) x
    where
      by : (b : Bool) → MatchBool b (TakesFlush who w old new) (StaysAs old new) → Waits new.member
      by false stays = stays-waits old new stays waits
      by true y = takes (offered w old.member.promise) y
        where
          takes : (a : OfferAnswer) → TakesBy who a w old new → Waits new.member
          takes Accept z = none-waits new.member (ap (λ (n : MemberState S). n.flush) z.member_state)
          takes (Behind counter) z = same-waits old.member new.member (ap (λ (n : MemberState S). n.flush) z.0) waits
          takes Ignore stays = stays-waits old new stays waits

  behind-waits : (w : ViewId) (counter : ℕ) (old new : InStep S) → IsMemberState who old.member → Waits old.member → OnBehind meaning who w counter old new → Waits new.member
  behind-waits w counter old new kept waits x = by (is_proposing w old.member) x
    where
      l1 : MemberState S
      l1 = record (old.member) { notes = having_heard counter old.member.notes }

      by : (b : Bool) → MatchBool b (TakesBehind meaning who counter old new) (StaysAs old new) → Waits new.member
      by false stays = stays-waits old new stays waits
      by true y = anew (anew_proposal who.address l1) refl y
        where
          kept' : IsMemberState who l1
          kept' = notes.heard-member_state who old.member l1 counter kept refl

          anew : (o : Option View) → anew_proposal who.address l1 ≡ o → MatchOption o (StaysAs (in_step l1 old.out) new) (λ w. BeginsAndGoesOn meaning who w (in_step l1 old.out) new) → Waits new.member
          anew None is stays = same-waits old.member new.member (ap (λ (n : MemberState S). n.flush) stays.0) waits
          anew (Some w) is z = begun-on-waits w (in_step l1 old.out) new kept' (proposals.anew-is-proposal who l1 w kept' is) z

  reports-waits : (q : Address) (w : ViewId) (r : wire.Report) (old new : InStep S) → IsMemberState who old.member → Waits old.member → OnReport meaning who q w r old new → Waits new.member
  reports-waits q w r old new kept waits x = by (expects q w old.member) x
    where
      l1 : MemberState S
      l1 = record (old.member) { flush = option_map (recording q w r) old.member.flush }

      recorded : (o : Option FlushModel) → old.member.flush ≡ o → ForSome (option_map (recording q w r) o) IsLatest
      recorded None is f at = absurd (none-some f at)
      recorded (Some g) is f at = subst IsLatest (same_Some (recording q w r g) f at) (λ p there. (waits g is).1 p (subst (λ (list : List Address). stands_in p list ≡ true) (members g) there))
        where
          members : (g : FlushModel) → (recording q w r g).members ≡ g.members
          members g = same (same_view_id g.proposal w) (is_awaited q g)
            where
              same : (a b : Bool) → (if a then (if b then record g { reports = g.reports ++ (q, r) ∷ [] } else g) else g).members ≡ g.members
              same true true = refl
              same true false = refl
              same false b = refl

      by : (b : Bool) → MatchBool b (TakesReport meaning who q w r old new) (MatchBool (is_in w old.member) (SaysAgain who q old new) (StaysAs old new)) → Waits new.member
      by true y = on-waits (in_step l1 old.out) new (lives.recorded-member_state who old.member l1 q w r kept refl) (recorded old.member.flush refl) y
      by false y = cases (is_in w old.member) y
        where
          cases : (b : Bool) → MatchBool b (SaysAgain who q old new) (StaysAs old new) → Waits new.member
          cases true z = same-waits old.member new.member (ap (λ (n : MemberState S). n.flush) z.member_state) waits
          cases false stays = stays-waits old new stays waits

  installs-waits : (q : Address) (i : wire.Install) (old new : InStep S) → Waits old.member → TakesInstall meaning who q i old new → Waits new.member
  installs-waits q i old new waits x = by (would_enter who.address old.member q i) x
    where
      by : (b : Bool) → MatchBool b (let given = given_in i.state old.member.chunks in (is_readable meaning given ≡ true) × Enters meaning who old.member.view_state i given old new) (StaysAs old new) → Waits new.member
      by true z = none-waits new.member (ap (λ (n : MemberState S). n.flush) z.1.member_state)
      by false stays = stays-waits old new stays waits

  chunks-waits : (q : Address) (w : ViewId) (chunk : wire.Chunk) (old new : InStep S) → Waits old.member → TakesChunk q w chunk old new → Waits new.member
  chunks-waits q w chunk old new waits x = by (would_hold q w chunk old.member) x
    where
      by : (b : Bool) → MatchBool b ((new.member ≡ record (old.member) { chunks = old.member.chunks ++ chunk ∷ [] }) × (new.out ≡ old.out)) (StaysAs old new) → Waits new.member
      by true z = same-waits old.member new.member (ap (λ (n : MemberState S). n.flush) z.0) waits
      by false stays = stays-waits old new stays waits

  -- a message leaves all but its view's traffic and its receiver
  beside-waits : (P : Type 0) (b : Bool) (old new : InStep S) → Waits old.member → MatchBool b (IsSameBeside old.member new.member × P) (StaysAs old new) → Waits new.member
  beside-waits P true old new waits x = same-waits old.member new.member (ap (λ (n : MemberState S). n.flush) x.0) waits
  beside-waits P false old new waits stays = stays-waits old new stays waits

  naks-waits : (P : Type 0) (b : Bool) (old new : InStep S) → Waits old.member → MatchBool b ((new.member ≡ old.member) × P) (StaysAs old new) → Waits new.member
  naks-waits P true old new waits x = same-waits old.member new.member (ap (λ (n : MemberState S). n.flush) x.0) waits
  naks-waits P false old new waits stays = stays-waits old new stays waits

  follows-waits : (source : Address) (body : Body) (old new : InStep S) → IsMemberState who old.member → Waits old.member → FollowsRule meaning who source body old new → Waits new.member
  follows-waits source bodies.Join old new kept waits x = joins-waits source old new kept waits x
  follows-waits source (bodies.Redirect coordinator) old new kept waits x = redirects-waits coordinator old new waits x
  follows-waits source bodies.Leave old new kept waits x = suspects-waits source old new kept waits x
  follows-waits source (bodies.Forward view number payload) old new kept waits x = beside-waits _ (takes_forward source view old.member) old new waits x
  follows-waits source (bodies.Order view place entry) old new kept waits x = beside-waits _ (takes_order source view place old.member) old new waits x
  follows-waits source (bodies.Nak view missing) old new kept waits x = naks-waits _ (takes_nak source view old.member) old new waits x
  follows-waits source (bodies.Ack view delivered) old new kept waits x = beside-waits _ (takes_ack source view delivered old.member) old new waits x
  follows-waits source (bodies.Status view progress) old new kept waits x = beside-waits _ (takes_status source view progress old.member) old new waits x
  follows-waits source (bodies.Flush proposal) old new kept waits x = flushes-waits source proposal old new waits x
  follows-waits source (bodies.Behind proposal counter) old new kept waits x = behind-waits proposal counter old new kept waits x
  follows-waits source (bodies.Report proposal report) old new kept waits x = reports-waits source proposal report old new kept waits x
  follows-waits source (bodies.Install install) old new kept waits x = installs-waits source install old new waits x
  follows-waits source (bodies.Merge view) old new kept waits x = merges-waits source view old new kept waits x
  follows-waits source (bodies.State proposal chunk) old new kept waits x = chunks-waits source proposal chunk old new waits x

  -- whatever input it takes
  pub does-waits : (came : Option Posted) (input : Input) (old new : InStep S) → IsMemberState who old.member → Waits old.member → DoesBy meaning came who input old new → Waits new.member
  does-waits came Create old new kept waits x = same-waits old.member new.member (ap (λ (n : MemberState S). n.flush) x.member_state) waits
  does-waits came (Join contact) old new kept waits x = same-waits old.member new.member (ap (λ (n : MemberState S). n.flush) x.member_state) waits
  does-waits came (Send payload) old new kept waits x = same-waits old.member new.member (ap (λ (n : MemberState S). n.flush) x.0) waits
  does-waits None (Datagram bytes) old new kept waits x = stays-waits old new x waits
  does-waits (Some m) (Datagram bytes) old new kept waits x = follows-waits m.source m.body old new kept waits x
  does-waits came Tick old new kept waits x = same-waits old.member new.member (ap (λ (n : MemberState S). n.flush) x.0) waits
  does-waits came (Suspect q) old new kept waits x = suspects-waits q old new kept waits x
  does-waits came (MergeHint q) old new kept waits x = same-waits old.member new.member (ap (λ (n : MemberState S). n.flush) x.member_state) waits
  does-waits came Leave old new kept waits x = absurd x
