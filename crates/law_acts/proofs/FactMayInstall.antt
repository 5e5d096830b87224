-- The coordinator of a flush goes from its view into its proposal: its install may follow.
use Rattle.std.proofs.Common.{◌≡◌, Bool, true, false, Option, Some, None, List, [], ◌++◌, length, drop, filter, refl, sym, ap, ◌∙◌, subst, MatchOption}
use Rattle.std.specs.Prelude.{MatchBool}
use Rattle.std.specs.Option.{ForSome, IsSomeAnd, option_map_or}
use Rattle.std.proofs.lemmas.Option.{same_Some}
use Rattle.std.proofs.Math.Seq.{drop-append_seam}
use Rattle.address.specs.Ids.{Address, ViewId, same_address, same_view_id}
use Rattle.view.specs.Members.{View, stands_in}
use Rattle.wire_values.specs.Values.{Entry, Report}
use Rattle.wire_values.specs.Values as wire
use Rattle.wire_values.specs.declared.values.state.GivenState.{GivenState}
use Rattle.flush.specs.Flushes.{FlushModel, report_from, comes_from, has_come_from, together_of}
use Rattle.trace_props.specs.declared.event.Event.{Event}
use Rattle.trace_props.specs.declared.event.Install.{Install}
use Rattle.trace_props.specs.declared.event.Numbered.{Numbered}
use Rattle.trace_props.specs.Observed.{delivered_in, sent_in, own, entry_of, first_install}
use Rattle.trace_props.specs.Rules.{IsBelow, EntersAbove, HasRisingViews}
use Rattle.address.proofs.SameIds.{same_address-true, same_view_id-true}
use Rattle.trace_props.proofs.DeliveredGrow.{enters, register-stands}
use Rattle.trace_props.proofs.InstallsOfRisingViews.{not-entered}
use Rattle.std.proofs.lemmas.Bool.{and_parts}
use Rattle.state_transfer.specs.Meanings.{Meaning}
use Rattle.law_acts.specs.Words.{members_of}
use Rattle.law_acts.specs.Histories.{History, report_of}
use Rattle.law_acts.specs.Cores.{ViewCore, Core, id_of, left_of, report_with}
use Rattle.law_acts.specs.Acts.{Cuts, MayFinish, proposed, undelivered}
use Rattle.law_acts.specs.Packets.{SaysOf, IsCutOf}
use Rattle.law_acts.specs.Members.{RunsFlush, ViewFact, MemberFact}
use Rattle.law_acts.specs.Steps.{System}
use Rattle.law_acts.specs.Invariant.{EachPacket, Invariant}
use Rattle.law_acts.proofs.KeepPackets.{members-entered}
use Rattle.law_acts.proofs.KeepTrace.{views-of}
use Rattle.law_acts.proofs.KeepByMove.{entries-later}
use Rattle.law_acts.proofs.RegistersHoldPackets.{report-fact}
use Rattle.law_acts.proofs.PromisesBlock.{says_of}
use Rattle.view.proofs.MembersListed.{coordinator-in, filter-within}
use Rattle.law_acts.proofs.EntrantsMeet.{filter-passes, filter-keeps, same-previous, previous-refl}
use Rattle.law_acts.proofs.CutsAgree.{flush-cut}
use Rattle.law_acts.proofs.ActDeliversLast.{GoesOut}
use Rattle.law_acts.proofs.FirstToInstall.{none-of, unentered, MayMake}
use Rattle.law_acts.proofs.FinishedFlushes.{report-recorded, in-group}
use Rattle.address.proofs.Plain.{found}

-- ---- what those of a flush report of their views

report-says : (b : Bool) (h : History) (p q : Address) (w : ViewId) (mine r : Report) (x : Address × Report) (u : ViewId) → same_address x.0 p ≡ b → EachPacket h → ForSome mine.previous (SaysOf h.trace p mine)
    → MatchBool b (x.1 ≡ mine) (report_of x.0 w h.pool ≡ Some x.1) → x.0 ≡ q → x.1 ≡ r → r.previous ≡ Some u → SaysOf h.trace q r u
report-says true h p q w mine r x u test each own same at is from =
    subst (λ (z : Report). SaysOf h.trace q z u) (sym same ∙ is)
    (subst (λ (a : Address). SaysOf h.trace a mine u) (sym (same_address-true x.0 p test) ∙ at)
    (own u (ap (λ (z : Report). z.previous) (sym same ∙ is) ∙ from)))
report-says false h p q w mine r x u test each own one at is from =
    subst (λ (z : Report). SaysOf h.trace q z u) is
    (subst (λ (a : Address). SaysOf h.trace a x.1 u) at
    ((report-fact h x.0 w x.1 each one).true_of u (ap (λ (z : Report). z.previous) is ∙ from)))

-- each report of a flush says what is so of its sender
pub reports-say : (h : History) (p q : Address) (promise view : Option View) (view_state : ViewCore) (kept : List (Address × wire.Install)) (f : FlushModel) (r : Report) (u : ViewId) → EachPacket h
    → RunsFlush h.pool p promise false view view_state f → ForSome view (ViewFact h p false view_state kept) → report_from q f.reports ≡ Some r → r.previous ≡ Some u → SaysOf h.trace q r u
reports-say h p q promise view view_state kept f r u each runs inside said from =
    let y = report-recorded f.reports q r said in
    report-says (same_address y.it.0 p) h p q f.proposal (report_with view view_state) r y.it u refl each (says_of h p view view_state kept inside) (runs.recorded y.place y.it y.stands) y.reporter y.report from

-- who comes from a view is a member of it, as all have installed it
first-members : (t : List Event) (u : ViewId) (g : Install) (q : Address) → HasRisingViews t → first_install u t ≡ Some g → stands_in q (members_of u t) ≡ true → stands_in q g.view.members ≡ true
first-members t u g q views first there =
    let e = found (entry_of u.creator u t) (members-entered q u t there) in
    let a = register-stands (λ i. same_view_id i.view.id u) t g first in
    let b = register-stands (enters u.creator u) t e.0 e.1 in
    let ids : e.0.view.id ≡ g.view.id =
    same_view_id-true e.0.view.id u (and_parts (same_address e.0.member u.creator) (same_view_id e.0.view.id u) b.passes).1 ∙ sym (same_view_id-true g.view.id u a.passes) in
    let same : e.0.view.members ≡ g.view.members = views.agrees b.place a.place e.0 g b.stands a.stands ids in
    ap (stands_in q) (sym same ∙ ap (λ o. option_map_or (λ (i : Install). i.view.members) o []) (sym e.1)) ∙ there

-- those together with an address that reported
pub together-with : (q : Address) (f : FlushModel) (r : Report) → report_from q f.reports ≡ Some r → together_of q f ≡ filter (λ m. has_come_from r.previous m f.reports) f.members
together-with q f r said = ap (λ o. option_map_or (λ (s : Report). filter (λ m. has_come_from s.previous m f.reports) f.members) o []) said

came-by : (o : Option Report) (v : Option ViewId) → option_map_or (comes_from v) o false ≡ true → (r : Report) × (o ≡ Some r) × (r.previous ≡ v)
came-by None v e = absurd (let n : false ≡ true = e in cc)
came-by (Some r) v e = (r, refl, same-previous r.previous v e)

-- what is handed back is what was not delivered of what was sent
back-by : (o : Option View) (t : List Event) (p : Address) (rest : List Numbered) (entries : List Entry) → ((v : View) → o ≡ Some v → sent_in p v.id t ≡ own p (delivered_in p v.id t) ++ left_of p entries rest)
    → MatchOption (id_of o) (option_map_or (λ v. left_of p entries rest) o [] ≡ [])
    (λ v. option_map_or (λ v. left_of p entries rest) o [] ≡ drop (length (own p (delivered_in p v t))) (sent_in p v t))
back-by None t p rest entries sent = refl
back-by (Some v) t p rest entries sent =
    sym (ap (drop (length (own p (delivered_in p v.id t)))) (sent v refl) ∙ drop-append_seam (own p (delivered_in p v.id t)) (left_of p entries rest))

-- ---- the coordinator goes

-- the entries of its view that the coordinator delivers last
abbrev pub last_entries : {S : Type 0} → Core S → View → Cuts → List Entry
last_entries c v cuts = undelivered c.view_state.delivered (cuts.base v.id) (cuts.items v.id)

-- and its install of the proposal
abbrev pub maker_install : {S : Type 0} → Core S → View → FlushModel → Cuts → Install
maker_install c v f cuts = record {
  member = c.me;
  previous = id_of c.view;
  view = proposed f;
  together = together_of c.me f;
  handed_back = option_map_or (λ u. left_of c.me (last_entries c v cuts) c.view_state.outstanding) c.view [];
  given = None;
}

module _ {S : Type 0} (meaning : Meaning S) where
  abbrev Fact : History → Address → Core S → Type 0
  Fact h p c = MemberFact meaning h p c

  -- what holds while its flush runs
  pub record IsReady (h : History) (c : Core S) (v : View) (f : FlushModel) (cuts : Cuts) : Type 0 where
    pub runs : RunsFlush h.pool c.me c.promise false c.view c.view_state f
    pub inside : ForSome c.view (ViewFact h c.me false c.view_state c.sent_installs)
    pub rises : IsBelow v.id f.proposal
    pub cut : (q : Address) (r : Report) (u : ViewId) → report_from q f.reports ≡ Some r → r.previous ≡ Some u → IsCutOf h.trace (cuts.base u) (cuts.items u) r u

  pub ready : (h : History) (c : Core S) (v : View) (f : FlushModel) (cuts : Cuts) (given : GivenState) → EachPacket h → Fact h c.me c → MayFinish meaning c v f cuts given → IsReady h c v f cuts
  ready h c v f cuts given each x a =
      let old = x.flush f a.flush in
      let runs = subst (λ (b : Bool). RunsFlush h.pool c.me c.promise b c.view c.view_state f) old.waits old in
      let inside : ForSome c.view (ViewFact h c.me false c.view_state c.sent_installs) = λ u e. subst (λ (b : Bool). ViewFact h c.me b c.view_state c.sent_installs u) old.waits (x.view u e) in
      record {
        runs = runs;
        inside = inside;
        rises = subst (λ (o : Option View). IsSomeAnd o (λ w. IsBelow v.id w.id)) runs.promised (x.promise.above old.waits v a.view);
        cut = λ q r u said from.
            let at = in-group f.reports q r (Some u) said from in
            flush-cut h c.me c.promise c.view c.view_state c.sent_installs f u (cuts.base u) (cuts.items u) each runs inside (a.cut q r u said from) at.0 r at.1;
      }

  -- nobody has installed the proposal, and its coordinator may
  pub departs : (s : System S) (h : History) (c : Core S) (v : View) (f : FlushModel) (cuts : Cuts) (given : GivenState) → Invariant meaning s → MayFinish meaning c v f cuts given
      → IsReady s.history c v f cuts → GoesOut meaning s.history h c (last_entries c v cuts) → MayMake h.trace (maker_install c v f cuts)
  departs s h c v f cuts given inv a x out =
      let old = s.history in
      let t = h.trace in
      let p = c.me in
      let w = f.proposal in
      let i = maker_install c v f cuts in
      let mine = report_with c.view c.view_state in
      let runs = x.runs in
      let views = views-of meaning h out.quiet.trace in
      let listed : stands_in p f.members ≡ true = ap (λ z. stands_in z f.members) (sym runs.own) ∙ coordinator-in w f.members runs.list in
      let above : EntersAbove t i = record {
        inside = listed;
        previous = sym out.current;
        rises = λ u e. subst (λ (z : ViewId). IsBelow z w) (same_Some v.id u (sym (ap id_of a.view) ∙ e)) x.rises;
      } in
      let none : entry_of w.creator w t ≡ None = ap (λ z. entry_of z w t) runs.own ∙ none-of (entry_of p w t) (not-entered t i views above) in
      let with_me = together-with p f mine runs.itself in
      record {
        mine = sym runs.own;
        running = out.running;
        above = above;
        new = unentered h w (entries-later old h out.quiet.later out.quiet.none inv.entries) none;
        inside = λ q there. filter-within (λ m. has_come_from mine.previous m f.reports) q f.members (sym (ap (stands_in q) with_me) ∙ there);
        before = λ u e g first q there.
            let passes = filter-passes (λ m. has_come_from mine.previous m f.reports) q f.members (sym (ap (stands_in q) with_me) ∙ there) in
            let r = came-by (report_from q f.reports) mine.previous passes in
            let its_report = reports-say old p q c.promise c.view c.view_state c.sent_installs f r.0 u inv.packets runs x.inside r.1 (r.2 ∙ e) in
            let members : members_of u t ≡ members_of u old.trace = ap (λ o. option_map_or (λ (y : Install). y.view.members) o []) (out.quiet.none.entry u.creator u) in
            first-members t u g q views first (ap (stands_in q) members ∙ its_report.member);
        itself = ap (stands_in p) with_me
            ∙ filter-keeps (λ m. has_come_from mine.previous m f.reports) p f.members listed (ap (λ o. option_map_or (comes_from mine.previous) o false) runs.itself ∙ previous-refl mine.previous);
        back = back-by c.view t p c.view_state.outstanding (last_entries c v cuts) (λ u e. (out.view u e).sent);
        nothing = refl;
      }
