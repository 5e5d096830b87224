-- A member that has a view comes to stand alone by suspicions.
use Rattle.std.proofs.Common.{◌≡◌, ℕ, zero, suc, ◌+◌, ◌*◌, ◌≤◌, ◌<◌, Bool, true, false, cond, not, ◌&&◌, ◌||◌, ◌⊎◌, inl, inr, Option, Some, None, List, [], ◌∷◌, ◌++◌, length, max, is_some, Ok, refl, sym, ap, ◌∙◌, subst, arith}
use Rattle.std.specs.Prelude.{MatchBool, MatchOption, if◌then◌else◌}
use Rattle.std.specs.List.{list_all}
use Rattle.std.specs.Option.{ForSome, IsSomeAnd, option_map, option_map_or, option_and_then}
use Rattle.std.specs.Cmp.Lexicographic.{pointwise}
use Rattle.std.proofs.lemmas.Bool.{and_from, or_left, or_right, or_cases}
use Rattle.std.proofs.lemmas.Option.{none-some, same_Some}
use Rattle.address.specs.Ids.{Address, ViewId, same_address}
use Rattle.address.proofs.SameIds.{same_address-refl, same_address-true}
use Rattle.address.specs.declared.limits.TheConstants.{GREATEST_NUMBER}
use Rattle.view.specs.Members.{View, stands_in}
use Rattle.view.proofs.MembersListed.{coordinator-in}
use Rattle.state_transfer.specs.Meanings.{Meaning}
use Rattle.suspicion.specs.Suspicion.{leads, suspected_too}
use Rattle.next_view.specs.ViewNotes.{NotesModel, suspecting, settled}
use Rattle.next_view.specs.Candidates.{candidates, is_changed, is_broken, is_abandoned}
use Rattle.flush.specs.Flushes.{FlushModel, has_reported}
use Rattle.view_install.specs.Promises.{PromiseModel}
use Rattle.law_acts.specs.Acts.{others_of, proposed}
use Rattle.law_acts.specs.Cores.{Core}
use Rattle.law_acts.specs.Decisions.{due_proposal, due_at, is_due, promised_counter, proposal_after}
use Rattle.law_acts.proofs.ProposalsAreViews.{next-means}
use Rattle.step_output.specs.declared.output.Output.{Output}
use Rattle.step_output.specs.Steps.{Who, who}
use Rattle.traffic.specs.declared.view_state.ViewState.{ViewState}
use Rattle.traffic.proofs.NewViewTraffic.{fresh-view}
use Rattle.membership.specs.declared.member_state.MemberState.{MemberState}
use Rattle.membership.specs.MemberStates.{core_of as core_at, view_in, report_in, begun_with, is_complete, IsMemberState}
use Rattle.membership.specs.InSteps.{InStep, in_step}
use Rattle.membership.specs.Changes.{StaysAs, Begins, FinishesAndProposes, BeginsAndGoesOn, Regroups, TakesSuspicion}
use Rattle.membership.proofs.ProposalsLead as proposals
use Rattle.membership.proofs.KeepMemberState as lives
use Rattle.membership.proofs.KeepNotes as notes
use Rattle.member_rules.specs.Views.{is_suspectable, has_member, has_promised}
use Rattle.member.specs.declared.input.Input.TheVariants.{Suspect}
use Rattle.member.specs.Members.{MemberModel, core_of}
use Rattle.member.specs.Doing.{DoesAt}
use Rattle.member.specs.Handling.{Handled, is_quiet}
use Rattle.law_dead_ends.specs.DeadEnds.{ComesAlone, Stands, Suspects, counter_of}
use Rattle.law_dead_ends.proofs.CandidatesAlone.{Other, OthersSuspected, IsCandidate, alone-or-other, alone-same, any-passing, candidate-means, find-failing, leads-all, pointwise-stands, stands-then, stands-behind}
use Rattle.law_dead_ends.proofs.CountersGo.{noted, suspecting-noted, suspecting-fewer, settled-noted, noted-none, next-is, next-there}
use Rattle.law_dead_ends.proofs.KeepFlushes.{Waits, begun-alone, suspects-waits}

-- an address that is suspected is among the suspects
suspected-there : (q : Address) (suspects : List Address) → stands_in q (suspected_too q suspects) ≡ true
suspected-there q suspects = by (stands_in q suspects) refl
  where
    by : (b : Bool) → stands_in q suspects ≡ b → stands_in q (if b then suspects else suspects ++ q ∷ []) ≡ true
    by true is = is
    by false is = stands-behind q suspects (q ∷ []) (or_left (same_address q q) false (same_address-refl q))

others-more : (me q : Address) (members suspects : List Address) → OthersSuspected me members suspects → OthersSuspected me members (suspected_too q suspects)
others-more me q members suspects all p there apart = notes.has-too q suspects p (all p there apart)

module _ {S : Type 0} (meaning : Meaning S) where
  -- ---- a member, and what a suspicion makes of it

  -- it runs, and is as members are
  pub record Here (m : MemberModel S) (l : MemberState S) : Type 0 where
    pub runs : m.member_state ≡ Some l
    pub kept : IsMemberState (who m.address m.group) l
    pub waits : Waits meaning (who m.address m.group) l

  -- what it promised and did not install has its creator in its list
  pub record Sound (l : MemberState S) : Type 0 where
    pub proper : ForSome l.promise.proposal (λ w. stands_in w.id.creator w.members ≡ true)
    pub promised : l.promise.is_installed ≡ false → ForSome (view_in l.view_state) (λ v. is_some l.promise.proposal ≡ true)

  flushing-sound : (w : Who) (l : MemberState S) (f : FlushModel) → IsMemberState w l → l.flush ≡ Some f → Sound l
  flushing-sound w l f kept at =
      let x = kept.flushing f at in record {
        proper = λ u is. subst (λ (z : View). stands_in z.id.creator z.members ≡ true) (same_Some (proposed f) u (sym x.promise ∙ is)) (coordinator-in f.proposal f.members x.list);
        promised = λ e v is. ap is_some x.promise;
      }

  -- a suspicion of an address that may be suspected
  record Suspected (m : MemberModel S) (l : MemberState S) (q : Address) (new : MemberModel S) : Type 0 where
    pub state : MemberState S
    pub here : Here new state
    pub same : new.address ≡ m.address
    pub start : Output
    pub later : Output
    pub regroups : Regroups meaning (who m.address m.group) (in_step (record l { notes = suspecting q l.notes }) start) (in_step state later)

  suspected : (m : MemberModel S) (l : MemberState S) (q : Address) → Here m l → is_suspectable m.address q l ≡ true → (out : Output) (new : MemberModel S)
      → Handled meaning m (Suspect q) (Ok out) new → Suspected m l q new
  suspected m l q here may out new h =
      by new.member_state refl replied (subst (λ (o : Option (MemberState S)). DoesAt meaning None (who m.address m.group) (Suspect q) o h.does.start new.member_state out) here.runs h.does.does)
    where
      replied : IsSomeAnd (core_of new) (λ d. d.connected ≡ (core_at m.address l).connected)
      replied = (subst (λ (o : Option (Core S)). IsSomeAnd o (λ c. (list_all is_quiet out.events.items ≡ true) × IsSomeAnd (core_of new) (λ d. d.connected ≡ c.connected)))
          (ap (option_map (core_at m.address)) here.runs) h.reply).1

      by : (o : Option (MemberState S)) → new.member_state ≡ o → IsSomeAnd (option_map (core_at new.address) o) (λ d. d.connected ≡ (core_at m.address l).connected)
          → DoesAt meaning None (who m.address m.group) (Suspect q) (Some l) h.does.start o out → Suspected m l q new
      by None is bad d = absurd bad
      by (Some z) is r d = record {
        state = z;
        here = record {
          runs = is;
          kept = (h.alive z is).member_state;
          waits = λ f at. (subst (λ (w : Who). Waits meaning w z) (λ j. who (sym h.address j) (sym h.group j))
              (suspects-waits meaning (who m.address m.group) q (in_step l h.does.start) (in_step z out) here.kept here.waits d)) f at;
        };
        same = h.address;
        start = h.does.start;
        later = out;
        regroups = subst (λ (b : Bool). MatchBool b (TakesSuspicion meaning (who m.address m.group) q (in_step l h.does.start) (in_step z out)) (StaysAs (in_step l h.does.start) (in_step z out))) may d;
      }

  -- ---- what comes of what is due

  -- it has a flush of its own for its candidates, in the view in which it was, or alone in one
  record IsFresh (me : Address) (l : MemberState S) (v : View) (z : MemberState S) : Type 0 where
    pub view : View
    pub flush : FlushModel
    pub current : view_in z.view_state ≡ Some view
    pub flushes : z.flush ≡ Some flush
    pub list : flush.members ≡ candidates me view.members z.notes
    pub where_it_is : ((view ≡ v) × (z.notes ≡ l.notes)) ⊎ (others_of me view.members ≡ [])
    pub counter : counter_of z ≤ counter_of l + 2
    pub notes : noted z.notes ≤ noted l.notes

  -- it stands alone
  record IsAlone (me : Address) (z : MemberState S) : Type 0 where
    pub view : View
    pub current : view_in z.view_state ≡ Some view
    pub alone : others_of me view.members ≡ []
    pub unblocked : z.promise.is_installed ≡ true

  -- what regrouping comes to
  data Comes (me : Address) (l : MemberState S) (v : View) (due : Option View) (z : MemberState S) : Type 0 where
    Stayed : due ≡ None → z ≡ l → Comes me l v due z
    Alone : IsAlone me z → Comes me l v due z
    Fresh : IsFresh me l v z → Comes me l v due z

  module _ (w : Who) where
    -- the next proposal of a member, in a view
    record Next (l : MemberState S) (v u : View) : Type 0 where
      pub listed : u.members ≡ candidates w.address v.members l.notes
      pub counter : u.id.counter ≡ counter_of l + 1

    next-of : (l : MemberState S) (v u : View) → view_in l.view_state ≡ Some v → proposals.IsProposal w.address l u → Next l v u
    next-of l v u view p =
        let at : p.before ≡ v = same_Some p.before v (sym p.inside ∙ view) in
        record {
          listed = (next-means (core_at w.address l) l.notes (candidates w.address p.before.members l.notes) u p.next).listed ∙ ap (λ (z : View). candidates w.address z.members l.notes) at;
          counter = next-is (promised_counter l.promise.proposal) l.notes w.address (candidates w.address p.before.members l.notes) u p.next;
        }

    -- what it is by its own proposal
    begun-fresh : (l z : InStep S) (v u : View) → view_in l.member.view_state ≡ Some v → Next l.member v u → Begins w u l z → IsFresh w.address l.member v z.member
    begun-fresh l z v u view n b =
        let notes : z.member.notes ≡ l.member.notes = ap (λ (x : MemberState S). x.notes) b.member_state in
        let counter : counter_of z.member ≡ max u.id.counter l.member.notes.heard = ap counter_of b.member_state in
        record {
          view = v;
          flush = begun_with w.address u (report_in l.member);
          current = ap (λ (x : MemberState S). view_in x.view_state) b.member_state ∙ view;
          flushes = ap (λ (x : MemberState S). x.flush) b.member_state;
          list = n.listed ∙ ap (candidates w.address v.members) (sym notes);
          where_it_is = inl (refl, notes);
          counter = let c = n.counter in omega (arith, counter, c);
          notes = subst (λ (k : NotesModel). noted k ≤ noted l.member.notes) (sym notes) (omega arith);
        }

    begun-counter : (l z : InStep S) (v u : View) → Next l.member v u → Begins w u l z → counter_of z.member ≤ counter_of l.member + 1
    begun-counter l z v u n b =
        let counter : counter_of z.member ≡ max u.id.counter l.member.notes.heard = ap counter_of b.member_state in
        let c = n.counter in
        omega (arith, counter, c)

    -- it goes into its own proposal, alone
    finished : (f : FlushModel) (t : ViewState) (l mid z : InStep S) (v u : View) (due : Option View) → IsMemberState w mid.member → mid.member.flush ≡ Some f → f.members ≡ u.members
        → f.proposal ≡ u.id → others_of w.address u.members ≡ [] → u.id.counter ≡ counter_of l.member + 1 → noted mid.member.notes ≤ noted l.member.notes
        → FinishesAndProposes meaning w f t mid z → Comes w.address l.member v due z.member
    finished f t l mid z v u due kept flush members id alone counter few x = by (due_proposal (core_at w.address new) new.notes) refl x.proposes
      where
        new : MemberState S
        new = x.mid.member

        whole : IsMemberState w new
        whole = lives.finished-member_state w meaning f t mid.member mid.member new mid.out x.mid.out kept flush refl x.finishes

        view : view_in new.view_state ≡ Some (proposed f)
        view = ap (λ (n : MemberState S). view_in n.view_state) x.finishes.member_state ∙ ap Some (fresh-view w.address (proposed f))

        promise : new.promise ≡ record { member = w.address; proposal = Some (proposed f); is_installed = true }
        promise = ap (λ (n : MemberState S). n.promise) x.finishes.member_state
            ∙ lives.own-installed w.address (proposed f) mid.member.promise kept.own (kept.flushing f flush).promise (kept.flushing f flush).waiting

        noted-few : noted new.notes ≤ noted l.member.notes
        noted-few =
            let s : noted (settled f.members mid.member.notes) ≤ noted mid.member.notes = settled-noted f.members mid.member.notes in
            let e : noted new.notes ≡ noted (settled f.members mid.member.notes) = ap (λ (n : MemberState S). noted n.notes) x.finishes.member_state in
            omega (arith, s, e, few)

        far : counter_of new ≡ max (counter_of l.member + 1) 0
        far = (λ j. max (promised_counter (promise j).proposal) ((ap (λ (n : MemberState S). n.notes.heard) x.finishes.member_state) j))
            ∙ ap (λ (i : ViewId). max i.counter 0) id ∙ ap (λ n. max n 0) counter

        lone : others_of w.address f.members ≡ []
        lone = ap (others_of w.address) members ∙ alone

        by : (o : Option View) → due_proposal (core_at w.address new) new.notes ≡ o → MatchOption o (StaysAs x.mid z) (λ y. Begins w y x.mid z) → Comes w.address l.member v due z.member
        by None is stays = Alone (record {
          view = proposed f;
          current = ap (λ (n : MemberState S). view_in n.view_state) stays.0 ∙ view;
          alone = lone;
          unblocked = ap (λ (n : MemberState S). n.promise.is_installed) stays.0 ∙ ap (λ (p : PromiseModel). p.is_installed) promise;
        })
        by (Some y) is begins =
            let n = next-of new (proposed f) y view (proposals.due-is-proposal w new y whole is) in
            let g = begun-fresh x.mid z (proposed f) y view n begins in
            let more : counter_of z.member ≤ counter_of new + 1 = begun-counter x.mid z (proposed f) y n begins in
            Fresh (record {
              view = g.view;
              flush = g.flush;
              current = g.current;
              flushes = g.flushes;
              list = g.list;
              where_it_is = inr (still g.where_it_is);
              counter = omega (arith, more, far);
              notes = let k = g.notes in omega (arith, k, noted-few);
            })
          where
            still : {a : View} → ((a ≡ proposed f) × (z.member.notes ≡ new.notes)) ⊎ (others_of w.address a.members ≡ []) → others_of w.address a.members ≡ []
            still (inl (same, notes)) = ap (λ (v : View). others_of w.address v.members) same ∙ lone
            still (inr none) = none

    -- it proposes what is due
    regrouped : (l z : InStep S) (v : View) → IsMemberState w l.member → view_in l.member.view_state ≡ Some v → Regroups meaning w l z
        → Comes w.address l.member v (due_proposal (core_at w.address l.member) l.member.notes) z.member
    regrouped l z v kept view r = by (due_proposal (core_at w.address l.member) l.member.notes) refl r
      where
        by : (o : Option View) → due_proposal (core_at w.address l.member) l.member.notes ≡ o → MatchOption o (StaysAs l z) (λ u. BeginsAndGoesOn meaning w u l z)
            → Comes w.address l.member v (due_proposal (core_at w.address l.member) l.member.notes) z.member
        by None is stays = Stayed is stays.0
        by (Some u) is x =
            goes (is_complete f) refl
            (subst (λ (o : Option FlushModel). MatchOption o (StaysAs x.mid z) (λ g. MatchBool (is_complete g) (MatchOption x.mid.member.view_state ⊥ (λ t. FinishesAndProposes meaning w g t x.mid z)) (StaysAs x.mid z))) flush x.goes_on)
          where
            f : FlushModel
            f = begun_with w.address u (report_in l.member)

            p : proposals.IsProposal w.address l.member u
            p = proposals.due-is-proposal w l.member u kept is

            n : Next l.member v u
            n = next-of l.member v u view p

            flush : x.mid.member.flush ≡ Some f
            flush = ap (λ (y : MemberState S). y.flush) x.begins.member_state

            few : noted x.mid.member.notes ≤ noted l.member.notes
            few = subst (λ (k : NotesModel). noted k ≤ noted l.member.notes) (sym (ap (λ (y : MemberState S). y.notes) x.begins.member_state)) (omega arith)

            goes : (b : Bool) → is_complete f ≡ b → MatchBool b (MatchOption x.mid.member.view_state ⊥ (λ t. FinishesAndProposes meaning w f t x.mid z)) (StaysAs x.mid z)
                → Comes w.address l.member v (due_proposal (core_at w.address l.member) l.member.notes) z.member
            goes true all y = inside x.mid.member.view_state y
              where
                inside : (o : Option ViewState) → MatchOption o ⊥ (λ t. FinishesAndProposes meaning w f t x.mid z)
                    → Comes w.address l.member v (due_proposal (core_at w.address l.member) l.member.notes) z.member
                inside None bad = absurd bad
                inside (Some t) y =
                    finished f t l x.mid z v u (due_proposal (core_at w.address l.member) l.member.notes) (lives.begun-member_state w u l x.mid kept p x.begins) flush refl refl
                    (begun-alone w.address u (report_in l.member) all) n.counter few y
            goes false more stays = Fresh (subst (λ (y : MemberState S). IsFresh w.address l.member v y) (sym stays.0) (begun-fresh l x.mid v u view n x.begins))

  -- ---- a suspicion by which something is due

  due-there : (me : Address) (l : MemberState S) (v : View) → view_in l.view_state ≡ Some v → leads l.notes.suspects v.members me ≡ true → is_due (core_at me l) l.notes v ≡ true
      → counter_of l < GREATEST_NUMBER → (u : View) × (due_proposal (core_at me l) l.notes ≡ Some u)
  due-there me l v view it_leads due room =
      let n = next-there (promised_counter l.promise.proposal) l.notes me (candidates me v.members l.notes) room in (
        n.0,
        ap (option_and_then (due_at (core_at me l) l.notes)) view
            ∙ ap (λ t. cond t (proposal_after (core_at me l) l.notes v) None) (and_from (leads l.notes.suspects v.members me) (is_due (core_at me l) l.notes v) it_leads due) ∙ n.1,
      )

  -- it has a flush of its own for its candidates, in a view of which it suspects all others
  pub record Flushes (me : Address) (l : MemberState S) : Type 0 where
    pub view : View
    pub flush : FlushModel
    pub current : view_in l.view_state ≡ Some view
    pub flushes : l.flush ≡ Some flush
    pub list : flush.members ≡ candidates me view.members l.notes
    pub others : OthersSuspected me view.members l.notes.suspects

  fresh-flushes : (me : Address) (l : MemberState S) (v : View) (z : MemberState S) → OthersSuspected me v.members l.notes.suspects → IsFresh me l v z → Flushes me z
  fresh-flushes me l v z all g = record { view = g.view; flush = g.flush; current = g.current; flushes = g.flushes; list = g.list; others = others g.where_it_is }
    where
      others : ((g.view ≡ v) × (z.notes ≡ l.notes)) ⊎ (others_of me g.view.members ≡ []) → OthersSuspected me g.view.members z.notes.suspects
      others (inl (same, notes)) q there apart =
          ap (λ (k : NotesModel). stands_in q k.suspects) notes ∙ all q (subst (λ (u : View). stands_in q u.members ≡ true) same there) apart
      others (inr none) q there apart = absurd (let n : true ≡ false = sym (alone-same me q g.view.members none there) ∙ apart in cc)

  -- what comes next, with so many left
  abbrev Later : ℕ → Type 0
  Later k = (new : MemberModel S) (z : MemberState S) → Here new z → Flushes new.address z → noted z.notes ≤ k → counter_of z + 2 * k ≤ GREATEST_NUMBER → ComesAlone meaning k new

  stands-alone : (k : ℕ) (m new : MemberModel S) (z : MemberState S) → new.address ≡ m.address → Here new z → IsAlone m.address z → ComesAlone meaning k new
  stands-alone k m new z same here a = Stands k new (record {
    state = z;
    runs = here.runs;
    view = a.view;
    current = a.current;
    alone = ap (λ (p : Address). others_of p a.view.members) same ∙ a.alone;
    unblocked = a.unblocked;
  })

  goes-fresh : (k : ℕ) (m new : MemberModel S) (l : MemberState S) (v : View) (z : MemberState S) → new.address ≡ m.address → Here new z → OthersSuspected m.address v.members l.notes.suspects
      → noted l.notes ≤ k → counter_of l + 2 * suc k ≤ GREATEST_NUMBER → Later k → IsFresh m.address l v z → ComesAlone meaning k new
  goes-fresh k m new l v z same here all few room later g =
      later new z here (subst (λ (p : Address). Flushes p z) (sym same) (fresh-flushes m.address l v z all g)) (let n = g.notes in omega (arith, n, few)) (let c = g.counter in omega (arith, c, room))

  after-due : (k : ℕ) (m : MemberModel S) (l : MemberState S) (v : View) (q : Address) → Here m l → view_in l.view_state ≡ Some v → is_suspectable m.address q l ≡ true → same_address q m.address ≡ false
      → OthersSuspected m.address v.members (suspected_too q l.notes.suspects) → is_due (core_at m.address (record l { notes = suspecting q l.notes })) (suspecting q l.notes) v ≡ true
      → noted (suspecting q l.notes) ≤ k → counter_of l + 2 * suc k ≤ GREATEST_NUMBER → Later k → (out : Output) (new : MemberModel S) → Handled meaning m (Suspect q) (Ok out) new → ComesAlone meaning k new
  after-due k m l v q here view may apart all due few room later out new h =
      by (regrouped (who m.address m.group) (in_step l1 s.start) (in_step s.state s.later) v kept view s.regroups)
    where
      l1 : MemberState S
      l1 = record l { notes = suspecting q l.notes }

      s : Suspected m l q new
      s = suspected m l q here may out new h

      kept : IsMemberState (who m.address m.group) l1
      kept = notes.suspected-member_state (who m.address m.group) l l1 q here.kept apart refl

      it_leads : leads l1.notes.suspects v.members m.address ≡ true
      it_leads = leads-all l1.notes.suspects m.address v.members (here.kept.inside v view) all

      u : (x : View) × (due_proposal (core_at m.address l1) l1.notes ≡ Some x)
      u = due-there m.address l1 v view it_leads due (omega (arith, room))

      by : Comes m.address l1 v (due_proposal (core_at m.address l1) l1.notes) s.state → ComesAlone meaning k new
      by (Stayed none same) = absurd (none-some u.0 (sym none ∙ u.1))
      by (Alone a) = stands-alone k m new s.state s.same s.here a
      by (Fresh g) = goes-fresh k m new l1 v s.state s.same s.here all few room later g

  -- ---- a flush of its own

  -- one of its list has not reported, and is another
  awaited : (m : MemberModel S) (l : MemberState S) (f : FlushModel) → Here m l → l.flush ≡ Some f → Other m.address f.members
  awaited m l f here at =
      let x = find-failing (λ p. has_reported p f.reports) f.members (here.waits f at).0 in
      record { who = x.who; stands = x.stands; apart = by x.who (same_address x.who m.address) refl x.fails }
    where
      by : (q : Address) (b : Bool) → same_address q m.address ≡ b → has_reported q f.reports ≡ false → same_address q m.address ≡ false
      by q false is missing = is
      by q true is missing =
          absurd (let n : true ≡ false = sym (here.kept.flushing f at).reported ∙ ap (λ (p : Address). has_reported p f.reports) (sym (same_address-true q m.address is)) ∙ missing in cc)

  -- it may be suspected
  suspectable : (me q : Address) (l : MemberState S) (v : View) → view_in l.view_state ≡ Some v → same_address q me ≡ false → (has_member q l ≡ true) ⊎ (has_promised q l ≡ true)
      → is_suspectable me q l ≡ true
  suspectable me q l v view apart there =
      and_from (is_some l.view_state && not (same_address q me)) (has_member q l || has_promised q l)
      (and_from (is_some l.view_state) (not (same_address q me)) (some l.view_state view) (ap not apart)) (by there)
    where
      some : (o : Option ViewState) → view_in o ≡ Some v → is_some o ≡ true
      some None e = absurd (none-some v e)
      some (Some t) e = refl

      by : (has_member q l ≡ true) ⊎ (has_promised q l ≡ true) → (has_member q l || has_promised q l) ≡ true
      by (inl e) = or_left (has_member q l) (has_promised q l) e
      by (inr e) = or_right (has_member q l) (has_promised q l) e

  listed-suspectable : (m : MemberModel S) (l : MemberState S) (v : View) (f : FlushModel) (o : Other m.address f.members) → Here m l → view_in l.view_state ≡ Some v → l.flush ≡ Some f
      → is_suspectable m.address o.who l ≡ true
  listed-suspectable m l v f o here view at =
      suspectable m.address o.who l v view o.apart
      (inr (ap (λ (p : Option View). option_map_or (λ w. stands_in o.who w.members) p false) (here.kept.flushing f at).promise ∙ o.stands))

  -- what is due while its own flush waits for one whom it suspects
  broken-due : (me q : Address) (l : MemberState S) (v : View) (f : FlushModel) → l.flush ≡ Some f → l.promise.is_installed ≡ false → stands_in q f.members ≡ true
      → is_due (core_at me (record l { notes = suspecting q l.notes })) (suspecting q l.notes) v ≡ true
  broken-due me q l v f at waiting there =
      let b = suspecting q l.notes in
      ap (λ t. cond t (is_changed me v.members b) (option_map_or (λ g. is_broken g.members b) l.flush (option_map_or (λ w. is_abandoned w.id.creator b) l.promise.proposal false))) waiting
      ∙ ap (λ (o : Option FlushModel). option_map_or (λ g. is_broken g.members b) o (option_map_or (λ w. is_abandoned w.id.creator b) l.promise.proposal false)) at
      ∙ any-passing (λ p. stands_in p b.suspects) q f.members there (suspected-there q l.notes.suspects)

  -- who awaits a candidate has noted it
  candidate-noted : (me : Address) (l : MemberState S) (x : Flushes me l) (o : Other me x.flush.members) → (stands_in o.who l.notes.joiners ≡ true) ⊎ (stands_in o.who l.notes.merging ≡ true)
  candidate-noted me l x o = by (stands-then o.who (x.view.members ++ l.notes.joiners) l.notes.merging c.from)
    where
      c : IsCandidate me x.view.members l.notes o.who
      c = candidate-means me x.view.members l.notes o.who (subst (λ (list : List Address). stands_in o.who list ≡ true) x.list o.stands)

      member : stands_in o.who x.view.members ≡ true → (stands_in o.who l.notes.joiners ≡ true) ⊎ (stands_in o.who l.notes.merging ≡ true)
      member there = absurd (let n : true ≡ false = sym (x.others o.who there o.apart) ∙ c.free in cc)

      by : (stands_in o.who (x.view.members ++ l.notes.joiners) ≡ true) ⊎ (stands_in o.who l.notes.merging ≡ true)
          → (stands_in o.who l.notes.joiners ≡ true) ⊎ (stands_in o.who l.notes.merging ≡ true)
      by (inr there) = inr there
      by (inl front) = cases (stands-then o.who x.view.members l.notes.joiners front)
        where
          cases : (stands_in o.who x.view.members ≡ true) ⊎ (stands_in o.who l.notes.joiners ≡ true) → (stands_in o.who l.notes.joiners ≡ true) ⊎ (stands_in o.who l.notes.merging ≡ true)
          cases (inl there) = member there
          cases (inr there) = inl there

  pub flushing-comes : (n : ℕ) → Later n
  flushing-comes zero m l here x few room =
      let o = awaited m l x.flush here x.flushes in
      let some = noted-none o.who l.notes (candidate-noted m.address l x o) in
      absurd (omega (arith, some, few))
  flushing-comes (suc k) m l here x few room =
      let o = awaited m l x.flush here x.flushes in
      let fewer = suspecting-fewer o.who l.notes (candidate-noted m.address l x o) in
      Suspects k m l o.who here.runs (listed-suspectable m l x.view x.flush o here x.current x.flushes)
      (after-due k m l x.view o.who here x.current (listed-suspectable m l x.view x.flush o here x.current x.flushes) o.apart
      (others-more m.address o.who x.view.members l.notes.suspects x.others)
      (broken-due m.address o.who l x.view x.flush x.flushes (here.kept.flushing x.flush x.flushes).waiting o.stands)
      (omega (arith, fewer, few)) room (flushing-comes k))

  -- ---- all others of its view are suspected

  -- in an open view it has candidates without the one that it suspects
  changed-due : (me q : Address) (l : MemberState S) (v : View) → l.promise.is_installed ≡ true → stands_in q v.members ≡ true
      → is_due (core_at me (record l { notes = suspecting q l.notes })) (suspecting q l.notes) v ≡ true
  changed-due me q l v unblocked there =
      let b = suspecting q l.notes in
      ap (λ t. cond t (is_changed me v.members b) (option_map_or (λ g. is_broken g.members b) l.flush (option_map_or (λ w. is_abandoned w.id.creator b) l.promise.proposal false))) unblocked
      ∙ ap not (other (pointwise same_address (candidates me v.members b) v.members) refl)
    where
      other : (t : Bool) → pointwise same_address (candidates me v.members (suspecting q l.notes)) v.members ≡ t → pointwise same_address (candidates me v.members (suspecting q l.notes)) v.members ≡ false
      other false is = is
      other true same =
          let c = candidate-means me v.members (suspecting q l.notes) q (pointwise-stands q (candidates me v.members (suspecting q l.notes)) v.members same there) in
          absurd (let n : true ≡ false = sym (suspected-there q l.notes.suspects) ∙ c.free in cc)

  -- while it waits for another's view, that one is suspected
  abandoned-due : (me : Address) (l : MemberState S) (v w : View) → l.promise.is_installed ≡ false → l.flush ≡ None → l.promise.proposal ≡ Some w
      → is_due (core_at me (record l { notes = suspecting w.id.creator l.notes })) (suspecting w.id.creator l.notes) v ≡ true
  abandoned-due me l v w waiting none at =
      let b = suspecting w.id.creator l.notes in
      ap (λ t. cond t (is_changed me v.members b) (option_map_or (λ g. is_broken g.members b) l.flush (option_map_or (λ w. is_abandoned w.id.creator b) l.promise.proposal false))) waiting
      ∙ ap (λ (o : Option FlushModel). option_map_or (λ g. is_broken g.members b) o (option_map_or (λ w. is_abandoned w.id.creator b) l.promise.proposal false)) none
      ∙ ap (λ (o : Option View). option_map_or (λ w. is_abandoned w.id.creator b) o false) at
      ∙ suspected-there w.id.creator l.notes.suspects

  pub suspecting-comes : (k : ℕ) (m : MemberModel S) (l : MemberState S) (v : View) → Here m l → Sound l → view_in l.view_state ≡ Some v → OthersSuspected m.address v.members l.notes.suspects
      → noted l.notes ≤ k → counter_of l + 2 * suc k ≤ GREATEST_NUMBER → ComesAlone meaning (suc k) m
  suspecting-comes k m l v here sound view all few room = by l.promise.is_installed refl
    where
      -- by a suspicion of such an address
      suspects : (q : Address) → same_address q m.address ≡ false → (has_member q l ≡ true) ⊎ (has_promised q l ≡ true)
          → is_due (core_at m.address (record l { notes = suspecting q l.notes })) (suspecting q l.notes) v ≡ true → ComesAlone meaning (suc k) m
      suspects q apart there due =
          let s = suspecting-noted q l.notes in
          Suspects k m l q here.runs (suspectable m.address q l v view apart there)
          (after-due k m l v q here view (suspectable m.address q l v view apart there) apart (others-more m.address q v.members l.notes.suspects all) due (omega (arith, s, few)) room (flushing-comes k))

      in-view : (q : Address) → stands_in q v.members ≡ true → has_member q l ≡ true
      in-view q there = ap (λ (o : Option View). option_map_or (λ w. stands_in q w.members) o false) view ∙ there

      promised : (q : Address) (w : View) → l.promise.proposal ≡ Some w → stands_in q w.members ≡ true → has_promised q l ≡ true
      promised q w at there = ap (λ (o : Option View). option_map_or (λ u. stands_in q u.members) o false) at ∙ there

      by : (b : Bool) → l.promise.is_installed ≡ b → ComesAlone meaning (suc k) m
      by true unblocked = cases (alone-or-other m.address v.members)
        where
          cases : (others_of m.address v.members ≡ []) ⊎ Other m.address v.members → ComesAlone meaning (suc k) m
          cases (inl alone) = Stands (suc k) m (record { state = l; runs = here.runs; view = v; current = view; alone = alone; unblocked = unblocked })
          cases (inr o) = suspects o.who o.apart (inl (in-view o.who o.stands)) (changed-due m.address o.who l v unblocked o.stands)
      by false waiting = cases l.flush refl l.promise.proposal refl
        where
          cases : (o : Option FlushModel) → l.flush ≡ o → (p : Option View) → l.promise.proposal ≡ p → ComesAlone meaning (suc k) m
          cases (Some f) at p is =
              let o = awaited m l f here at in
              suspects o.who o.apart (inr (promised o.who (proposed f) (here.kept.flushing f at).promise o.stands)) (broken-due m.address o.who l v f at waiting o.stands)
          cases None none (Some w) at =
              suspects w.id.creator (here.kept.waiting waiting none w at) (inr (promised w.id.creator w at (sound.proper w at))) (abandoned-due m.address l v w waiting none at)
          cases None none None at = absurd (let n : false ≡ true = sym (ap is_some at) ∙ sound.promised waiting v view in cc)

  -- ---- one of its view after another

  -- all others of its view are suspected, or left
  abbrev Left : Address → List Address → List Address → List Address → Type 0
  Left me members suspects left = (q : Address) → stands_in q members ≡ true → same_address q me ≡ false → (stands_in q suspects ≡ true) ⊎ (stands_in q left ≡ true)

  left-next : (me x : Address) (members suspects left : List Address) → Left me members suspects (x ∷ left) → Left me members (suspected_too x suspects) left
  left-next me x members suspects left all q there apart = by (all q there apart)
    where
      by : (stands_in q suspects ≡ true) ⊎ (stands_in q (x ∷ left) ≡ true) → (stands_in q (suspected_too x suspects) ≡ true) ⊎ (stands_in q left ≡ true)
      by (inl is) = inl (notes.has-too x suspects q is)
      by (inr is) = cases (or_cases (same_address q x) (stands_in q left) is)
        where
          cases : (same_address q x ≡ true) ⊎ (stands_in q left ≡ true) → (stands_in q (suspected_too x suspects) ≡ true) ⊎ (stands_in q left ≡ true)
          cases (inl same) = inl (ap (λ (p : Address). stands_in p (suspected_too x suspects)) (same_address-true q x same) ∙ suspected-there x suspects)
          cases (inr rest) = inr rest

  left-past : (me x : Address) (members suspects left : List Address) → same_address x me ≡ true → Left me members suspects (x ∷ left) → Left me members suspects left
  left-past me x members suspects left itself all q there apart = by (all q there apart)
    where
      by : (stands_in q suspects ≡ true) ⊎ (stands_in q (x ∷ left) ≡ true) → (stands_in q suspects ≡ true) ⊎ (stands_in q left ≡ true)
      by (inl is) = inl is
      by (inr is) = cases (or_cases (same_address q x) (stands_in q left) is)
        where
          cases : (same_address q x ≡ true) ⊎ (stands_in q left ≡ true) → (stands_in q suspects ≡ true) ⊎ (stands_in q left ≡ true)
          cases (inl same) = absurd (let n : true ≡ false = sym itself ∙ ap (λ (p : Address). same_address p me) (sym (same_address-true q x same)) ∙ apart in cc)
          cases (inr rest) = inr rest

  more-comes : (k : ℕ) (m : MemberModel S) → ComesAlone meaning k m → ComesAlone meaning (suc k) m
  more-comes _ _ (Stands count m s) = Stands (suc count) m s
  more-comes _ _ (Suspects count m l q runs may next) = Suspects (suc count) m l q runs may (λ out new h. more-comes count new (next out new h))

  pub members-come : (left : List Address) (k : ℕ) (m : MemberModel S) (l : MemberState S) (v : View) → Here m l → Sound l → view_in l.view_state ≡ Some v
      → Left m.address v.members l.notes.suspects left → ((q : Address) → stands_in q left ≡ true → stands_in q v.members ≡ true) → noted l.notes ≤ k
      → counter_of l + 2 * (length left + suc k) ≤ GREATEST_NUMBER → ComesAlone meaning (length left + suc k) m
  members-come [] k m l v here sound view all within few room =
      subst (λ n. ComesAlone meaning n m) (omega arith)
      (suspecting-comes k m l v here sound view (λ q there apart. none q (all q there apart)) few (omega (arith, room)))
    where
      none : (q : Address) → (stands_in q l.notes.suspects ≡ true) ⊎ (false ≡ true) → stands_in q l.notes.suspects ≡ true
      none q (inl is) = is
      none q (inr bad) = absurd (let n : false ≡ true = bad in cc)
  members-come (x ∷ left) k m l v here sound view all within few room = by (same_address x m.address) refl (members-come left k)
    where
      total : ℕ
      total = length left + suc k

      by : (b : Bool) → same_address x m.address ≡ b
          → ((n : MemberModel S) (z : MemberState S) (u : View) → Here n z → Sound z → view_in z.view_state ≡ Some u → Left n.address u.members z.notes.suspects left
          → ((q : Address) → stands_in q left ≡ true → stands_in q u.members ≡ true) → noted z.notes ≤ k → counter_of z + 2 * (length left + suc k) ≤ GREATEST_NUMBER → ComesAlone meaning total n)
          → ComesAlone meaning (length (x ∷ left) + suc k) m
      by true itself later =
          subst (λ n. ComesAlone meaning n m) (omega arith)
          (more-comes total m (later m l v here sound view (left-past m.address x v.members l.notes.suspects left itself all)
          (λ q there. within q (or_right (same_address q x) (stands_in q left) there)) few (omega (arith, room))))
      by false apart later =
          subst (λ n. ComesAlone meaning n m) (omega arith)
          (Suspects total m l x here.runs (suspectable m.address x l v view apart (inl there)) (λ out new h. next new (suspected m l x here (suspectable m.address x l v view apart (inl there)) out new h)))
        where
          there : has_member x l ≡ true
          there = ap (λ (o : Option View). option_map_or (λ w. stands_in x w.members) o false) view ∙ within x (or_left (same_address x x) (stands_in x left) (same_address-refl x))

          l1 : MemberState S
          l1 = record l { notes = suspecting x l.notes }

          few1 : noted l1.notes ≤ k
          few1 = let s = suspecting-noted x l.notes in omega (arith, s, few)

          left1 : Left m.address v.members l1.notes.suspects left
          left1 = left-next m.address x v.members l.notes.suspects left all

          within1 : (q : Address) → stands_in q left ≡ true → stands_in q v.members ≡ true
          within1 q is = within q (or_right (same_address q x) (stands_in q left) is)

          next : (new : MemberModel S) → Suspected m l x new → ComesAlone meaning total new
          next new s =
              cases (regrouped (who m.address m.group) (in_step l1 s.start) (in_step s.state s.later) v
              (notes.suspected-member_state (who m.address m.group) l l1 x here.kept apart refl) view s.regroups)
            where
              cases : Comes m.address l1 v (due_proposal (core_at m.address l1) l1.notes) s.state → ComesAlone meaning total new
              cases (Stayed none same) =
                  later new s.state v s.here
                  (subst Sound (sym same) (record { proper = sound.proper; promised = sound.promised }))
                  (ap (λ (z : MemberState S). view_in z.view_state) same ∙ view)
                  (subst (λ (z : MemberState S). Left new.address v.members z.notes.suspects left) (sym same) (subst (λ (p : Address). Left p v.members l1.notes.suspects left) (sym s.same) left1))
                  within1 (subst (λ (z : MemberState S). noted z.notes ≤ k) (sym same) few1) (subst (λ (z : MemberState S). counter_of z + 2 * (length left + suc k) ≤ GREATEST_NUMBER) (sym same) (omega (arith, room)))
              cases (Alone a) = stands-alone total m new s.state s.same s.here a
              cases (Fresh g) = fresh g.where_it_is
                where
                  fresh : ((g.view ≡ v) × (s.state.notes ≡ l1.notes)) ⊎ (others_of m.address g.view.members ≡ []) → ComesAlone meaning total new
                  fresh (inl (same, notes)) =
                      later new s.state v s.here (flushing-sound (who new.address new.group) s.state g.flush s.here.kept g.flushes) (g.current ∙ ap Some same)
                      (subst (λ (b : NotesModel). Left new.address v.members b.suspects left) (sym notes) (subst (λ (p : Address). Left p v.members l1.notes.suspects left) (sym s.same) left1))
                      within1 (let n = g.notes in omega (arith, n, few1)) (let c = g.counter in omega (arith, c, room))
                  fresh (inr none) =
                      let alone = fresh-flushes m.address l1 g.view s.state (λ q there apart. absurd (let n : true ≡ false = sym (alone-same m.address q g.view.members none there) ∙ apart in cc))
                      (record { view = g.view; flush = g.flush; current = g.current; flushes = g.flushes; list = g.list; where_it_is = inr none; counter = g.counter; notes = g.notes }) in
                      flushing-comes total new s.state s.here (subst (λ (p : Address). Flushes p s.state) (sym s.same) alone)
                      (let n = g.notes in omega (arith, n, few1)) (let c = g.counter in omega (arith, c, room))
