-- The act Promises: a member promises another's proposal, is blocked, and reports.
use Rattle.std.proofs.Common.{◌≡◌, ℕ, Bool, true, false, cond, Option, Some, None, List, [], ◌∷◌, ◌++◌, refl, sym, ap, ◌∙◌, subst, ◌⊎◌, inl, inr}
use Rattle.flush.specs.Cuts.{first_of}
use Rattle.std.specs.Option.{option_or, ForSome, IsSomeAnd}
use Rattle.std.proofs.lemmas.Bool.{cond-true, cond-false}
use Rattle.std.proofs.lemmas.Option.{none-some, same_Some}
use Rattle.address.specs.Ids.{Address, ViewId, same_address, same_view_id}
use Rattle.view.specs.Members.{View, stands_in}
use Rattle.wire_values.specs.Values.{Report}
use Rattle.wire_values.specs.declared.packet.Body.TheVariants as bodies
use Rattle.wire_values.specs.Posted.{Posted, packet}
use Rattle.state_transfer.specs.Meanings.{Meaning}
use Rattle.trace_props.specs.declared.event.Event.{Event}
use Rattle.trace_props.specs.Rules.{IsBelow}
use Rattle.address.proofs.SameIds.{same_address-refl, same_address-sym, same_view_id-refl, same_view_id-true}
use Rattle.trace_props.proofs.InstallsOfRisingViews.{IsBelow-irreflexive}
use Rattle.law_acts.specs.Histories.{History, flush_in, install_in, report_by, flush_of, report_of}
use Rattle.law_acts.specs.Cores.{Core, ViewCore, id_of, report_with}
use Rattle.law_acts.specs.Acts.{IsAbovePromise, IsPromised, MayPromise, promised, blocking}
use Rattle.law_acts.specs.Steps.{System, put, grown, came_of}
use Rattle.law_acts.specs.Packets.{PacketFact, IsAnswer, IsProposal}
use Rattle.law_acts.specs.Members.{LiesBelow, IsNotPast, IsReported, PromiseOf, MemberFact}
use Rattle.law_acts.specs.Invariant.{Invariant}
use Rattle.law_acts.proofs.Lists.{first_of-append, first_of-still, slice_get-one}
use Rattle.law_acts.proofs.KeepHistory.{flush_of-kept, report_of-kept}
use Rattle.law_acts.proofs.KeepOthers.{IsFrom}
use Rattle.law_acts.proofs.KeepByMove.{Moves, moved}
use Rattle.law_acts.proofs.KeepWithoutInstall.{quiet-trans, quiet-packets, quiet-moves}
use Rattle.law_acts.proofs.InputsWerePut.{said-of}
use Rattle.law_acts.proofs.PromisesBlock.{with_blocked, halts, says_of, view-below, not-past, is-past}

-- ---- the registers of a report

-- the packet of a report
abbrev pub reporting : Address → ViewId → Report → Posted
reporting p w r = packet p (bodies.Report w r) w.creator

says-report : (p : Address) (w : ViewId) (r : Report) → report_by p w (reporting p w r) ≡ Some r
says-report p w r =
    cond-true (same_address p p) (cond (same_view_id w w) (Some r) None) None (same_address-refl p) ∙ cond-true (same_view_id w w) (Some r) None (same_view_id-refl w)

-- a first report is the one
pub report-new : (p : Address) (w : ViewId) (r : Report) (pool : List Posted) → report_of p w pool ≡ None → report_of p w (pool ++ reporting p w r ∷ []) ≡ Some r
unfolding report_of
report-new p w r pool none =
    first_of-append (report_by p w) pool (reporting p w r ∷ [])
    ∙ ap (λ o. option_or o (option_or (report_by p w (reporting p w r)) None)) none
    ∙ ap (λ o. option_or o None) (says-report p w r)

passes : (b : Bool) (w u : ViewId) (r s : Report) → same_view_id w u ≡ b → cond b (Some r) None ≡ Some s → w ≡ u
passes true w u r s test e = same_view_id-true w u test
passes false w u r s test e = absurd (none-some s e)

or-by : (o : Option Report) (b : Bool) (p : Address) (w u : ViewId) (r s : Report) → same_view_id w u ≡ b → option_or o (option_or (cond (same_address p p) (cond (same_view_id w u) (Some r) None) None) None) ≡ Some s
    → (o ≡ Some s) ⊎ (w ≡ u)
or-by (Some z) b p w u r s test e = inl e
or-by None true p w u r s test e = inr (same_view_id-true w u test)
or-by None false p w u r s test e =
    absurd (none-some s (sym (ap (λ o. option_or o None) (either (same_address p p) (cond (same_view_id w u) (Some r) None) (cond-false (same_view_id w u) (Some r) None test))) ∙ e))
  where
    either : (b : Bool) (x : Option Report) → x ≡ None → cond b x None ≡ None
    either true x y = y
    either false x y = refl

-- a report of the member's is an old one, or for this proposal
pub report-old-or : (p : Address) (w u : ViewId) (r s : Report) (pool : List Posted) → report_of p u (pool ++ reporting p w r ∷ []) ≡ Some s → (report_of p u pool ≡ Some s) ⊎ (w ≡ u)
unfolding report_of
report-old-or p w u r s pool e =
    or-by (first_of (report_by p u) pool) (same_view_id w u) p w u r s refl (sym (first_of-append (report_by p u) pool (reporting p w r ∷ [])) ∙ e)

-- a report announces nothing
pub report-announces : (p : Address) (w u : ViewId) (r : Report) (pool : List Posted) → flush_of u (pool ++ reporting p w r ∷ []) ≡ flush_of u pool
unfolding flush_of
report-announces p w u r pool = first_of-still _ pool (reporting p w r ∷ []) (slice_get-one (λ (m : Posted). flush_in u m.body ≡ None) (reporting p w r) refl)

none-by : (o : Option Report) (pool : List Posted) (p : Address) (w : ViewId) → report_of p w pool ≡ o → ((r : Report) → report_of p w pool ≡ Some r → ⊥) → report_of p w pool ≡ None
none-by None pool p w e nothing = e
none-by (Some r) pool p w e nothing = absurd (nothing r e)

-- what lies past the promise was never reported for
pub never-reported : (pool : List Posted) (p : Address) (promise : Option View) (w : ViewId) → LiesBelow pool p promise → IsAbovePromise w promise → report_of p w pool ≡ None
never-reported pool p promise w x above = none-by (report_of p w pool) pool p w refl (λ r e. is-past promise w above (x.reported w r e))

-- ---- promised again

-- the one that is promised
again-is : (promise : Option View) (w : ViewId) → id_of promise ≡ Some w → IsSomeAnd promise (λ u. u.id ≡ w)
again-is None w e = absurd (none-some w e)
again-is (Some u) w e = same_Some u.id w e

-- the report for it is what it was
pub report-again : (pool : List Posted) (p : Address) (promise view : Option View) (installed : Bool) (view_state : ViewCore) (w : ViewId) → IsPromised w promise installed
    → same_address w.creator p ≡ false → IsReported pool p promise installed view view_state → report_of p w pool ≡ Some (report_with view view_state)
report-again pool p promise view installed view_state w x other reported = by promise (again-is promise w x.0) (reported x.1)
  where
    by : (o : Option View) → IsSomeAnd o (λ u. u.id ≡ w) → ForSome o (λ u. same_address u.id.creator p ≡ false → report_of p u.id pool ≡ Some (report_with view view_state))
        → report_of p w pool ≡ Some (report_with view view_state)
    by None is past = absurd is
    by (Some u) is past =
        subst (λ (v : ViewId). report_of p v pool ≡ Some (report_with view view_state)) is (past u refl (ap (λ (v : ViewId). same_address v.creator p) is ∙ other))

pub above-again : (p : Address) (promise view : Option View) (installed : Bool) (w : ViewId) → IsPromised w promise installed → PromiseOf p promise view installed
    → ForSome view (λ v. IsBelow v.id w)
above-again p promise view installed w x own v e = by promise (again-is promise w x.0) (own.above x.1 v e)
  where
    by : (o : Option View) → IsSomeAnd o (λ u. u.id ≡ w) → IsSomeAnd o (λ u. IsBelow v.id u.id) → IsBelow v.id w
    by None is below = absurd is
    by (Some u) is below = subst (λ (z : ViewId). IsBelow v.id z) is below

pub not-past-again : (promise : Option View) (w : View) (installed : Bool) (u : ViewId) → IsPromised w.id promise installed → IsNotPast promise u → IsNotPast (Some w) u
not-past-again promise w installed u x = by promise (again-is promise w.id x.0)
  where
    by : (o : Option View) → IsSomeAnd o (λ v. v.id ≡ w.id) → IsNotPast o u → IsNotPast (Some w) u
    by None is below = absurd is
    by (Some v) is below = λ b. below (subst (λ (z : ViewId). IsBelow z u) (sym is) b)

-- the promise rises, or stays
abbrev MayRise : ViewId → Option View → Bool → Type 0
MayRise w promise installed = IsAbovePromise w promise ⊎ IsPromised w promise installed

pub not-past-risen : (promise : Option View) (w : View) (installed : Bool) (u : ViewId) → MayRise w.id promise installed → IsNotPast promise u → IsNotPast (Some w) u
not-past-risen promise w installed u (inl above) = not-past promise w u above
not-past-risen promise w installed u (inr again) = not-past-again promise w installed u again

pub above-risen : (p : Address) (promise view : Option View) (installed : Bool) (w : View) → MayRise w.id promise installed → PromiseOf p promise view installed
    → ForSome view (λ v. IsBelow v.id w.id)
above-risen p promise view installed w (inl above) own = view-below installed p promise view installed w refl own above
above-risen p promise view installed w (inr again) own = above-again p promise view installed w.id again own

pub report-risen : (pool : List Posted) (p : Address) (promise view : Option View) (installed : Bool) (view_state : ViewCore) (w : ViewId) → MayRise w promise installed
    → LiesBelow pool p promise → same_address w.creator p ≡ false → IsReported pool p promise installed view view_state
    → report_of p w (pool ++ reporting p w (report_with view view_state) ∷ []) ≡ Some (report_with view view_state)
report-risen pool p promise view installed view_state w (inl above) below other reported = report-new p w (report_with view view_state) pool (never-reported pool p promise w below above)
report-risen pool p promise view installed view_state w (inr again) below other reported =
    report_of-kept p w pool (reporting p w (report_with view view_state) ∷ []) (report_with view view_state) (report-again pool p promise view installed view_state w again other reported)

-- ---- the act

module _ {S : Type 0} (meaning : Meaning S) where
  abbrev Fact : History → Address → Core S → Type 0
  Fact h p c = MemberFact meaning h p c

  below-after : (h : History) (p : Address) (promise : Option View) (installed : Bool) (w : View) (r : Report) (t : List Event) → LiesBelow h.pool p promise → MayRise w.id promise installed
      → LiesBelow (h.pool ++ reporting p w.id r ∷ []) p (Some w)
  below-after h p promise installed w r t x above = record {
    announced = λ u list mine e. not-past-risen promise w installed u above (x.announced u list mine (sym (report-announces p w.id u r h.pool) ∙ e));
    reported = λ u s e. by u (report-old-or p w.id u r s h.pool e);
  }
    where
      by : (u : ViewId) {s : Report} → (report_of p u h.pool ≡ Some s) ⊎ (w.id ≡ u) → IsNotPast (Some w) u
      by u {s = s} (inl old) = not-past-risen promise w installed u above (x.reported u s old)
      by u (inr same) = λ b. IsBelow-irreflexive w.id (subst (λ (v : ViewId). IsBelow w.id v) (sym same) b)

  -- what is new of the history, and of the member
  pub promises-moves : (s : System S) (c : Core S) (which : Option ℕ) (w : View) → Invariant meaning s → Fact s.history c.me c
      → MayPromise (came_of c s.history.pool which) c w
      → Moves meaning c.me s.history (grown s.history (reporting c.me w.id (report_with c.view c.view_state) ∷ []) (blocking c)) (Some (promised w None c))
  promises-moves s c which w i x a =
      let h = s.history in
      let p = c.me in
      let r = report_with c.view c.view_state in
      let m = reporting p w.id r in
      let h1 = with_blocked h p c.view c.installed in
      let k = grown h (m ∷ []) (blocking c) in
      let said = said-of h c which w.id.creator (bodies.Flush w) i.packets a.asked in
      let asked : IsProposal h w.id.creator w = said.fact in
      let halted = halts meaning h p c.view c.installed c.view_state c.sent_installs c.state i.trace x.promise.inside x.standing x.view x.state in
      let other = same_address-sym p w.id.creator ∙ said.other in
      let first : report_of p w.id k.pool ≡ Some r = report-risen h.pool p c.promise c.view c.installed c.view_state w.id a.above x.below said.other x.reported in
      let posted = quiet-packets meaning p h1 (m ∷ []) halted.standing.running.started
      (slice_get-one (IsFrom p) m (record { source = refl; mine = tt }))
      (λ n y v at. slice_get-one (λ (z : Posted). install_in v z.body ≡ None) m refl n y at) halted.quiet.trace in
      let quiet = quiet-trans meaning p h h1 k halted.quiet posted in
      let one : flush_of w.id k.pool ≡ Some w.members = flush_of-kept w.id h.pool (m ∷ []) w.members asked.one in
      let answer : IsAnswer k p w.id r = record {
        other = other;
        one = first;
        true_of = says_of h1 p c.view c.view_state c.sent_installs halted.inside;
      } in
      let fact : Fact k p (promised w None c) = record {
        standing = halted.standing;
        promise = record {
          inside = λ e. absurd (let n : false ≡ true = e in cc);
          is = λ e. absurd (let n : false ≡ true = e in cc);
          above = λ e v y. above-risen p c.promise c.view c.installed w a.above x.promise v y;
          listed = λ u e. subst (λ (z : View). stands_in p z.members ≡ true) (same_Some w u e) a.listed;
        };
        announced = λ u e other. subst (λ (z : View). flush_of z.id k.pool ≡ Some z.members) (same_Some w u e) one;
        below = below-after h p c.promise c.installed w r h.trace x.below a.above;
        reported = λ waits u e other. subst (λ (z : View). report_of p z.id k.pool ≡ Some r) (same_Some w u e) first;
        flush = λ f e. absurd (none-some f e);
        view = λ v e. let f = halted.inside v e in record {
          inside = f.inside;
          counts = f.counts;
          mine = f.mine;
          window = f.window;
          acks = f.acks;
          waiting = f.waiting;
          ordered = f.ordered;
          keeps = λ q j there. let was = f.keeps q j there in (was.0, posted.later.install v.id q j was.1);
        };
        state = halted.own;
      } in
      quiet-moves meaning s p k (m ∷ []) (Some (promised w None c)) i quiet refl (slice_get-one (PacketFact k) m answer)
      (λ d e. subst (λ (z : Core S). Fact k p z) (same_Some (promised w None c) d e) fact)

  pub promises-keep : (s : System S) (p : Address) (c : Core S) (which : Option ℕ) (w : View) → Invariant meaning s → s.running p ≡ Some c
      → MayPromise (came_of c s.history.pool which) c w
      → Invariant meaning (record {
        running = put p (Some (promised w None c)) s.running;
        history = grown s.history (reporting c.me w.id (report_with c.view c.view_state) ∷ []) (blocking c);
      })
  promises-keep s p c which w i runs a =
      let x = i.members p c runs in
      let itself : c.me ≡ p = x.standing.itself in
      let mine : Fact s.history c.me c = subst (λ (q : Address). Fact s.history q c) (sym itself) x in
      subst (λ (q : Address). Invariant meaning (record {
        running = put q (Some (promised w None c)) s.running;
        history = grown s.history (reporting c.me w.id (report_with c.view c.view_state) ∷ []) (blocking c);
      })) itself
      (moved meaning s c.me (grown s.history (reporting c.me w.id (report_with c.view c.view_state) ∷ []) (blocking c)) (Some (promised w None c)) i
      (promises-moves s c which w i mine a))
