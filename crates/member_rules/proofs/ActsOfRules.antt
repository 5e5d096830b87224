-- What a member does when others join, leave, are suspected, propose and report, and when time passes, is acts.
use Rattle.std.proofs.Common.{◌≡◌, ℕ, Bool, true, false, cond, not, ◌&&◌, ◌||◌, Option, Some, None, List, [], ◌∷◌, map, refl, sym, ap, ◌∙◌, subst, is_some}
use Rattle.std.specs.Prelude.{MatchBool, IsSome, filter}
use Rattle.std.specs.List.{AllByRecursion}
use Rattle.std.specs.Option.{option_map_or}
use Rattle.std.proofs.lemmas.Bool.{and_parts, not-true, or_right}
use Rattle.std.proofs.lemmas.Option.{none-some}
use Rattle.std.proofs.lemmas.List.{append-nil}
use Rattle.address.specs.Ids.{Address, ViewId, same_address}
use Rattle.view.specs.Members.{View, stands_in}
use Rattle.wire_values.specs.Values as wire
use Rattle.wire_values.specs.declared.packet.Body.{Body}
use Rattle.wire_values.specs.declared.packet.Body.TheVariants as bodies
use Rattle.wire_values.specs.Posted.{Posted, packet}
use Rattle.state_transfer.specs.Meanings.{Meaning}
use Rattle.flush.specs.Flushes.{FlushModel, has_reported}
use Rattle.trace_props.specs.declared.event.Event.TheVariants.{Installed, Left}
use Rattle.address.proofs.SameIds.{same_address-true, same_address-refl}
use Rattle.law_acts.specs.Cores.{Core}
use Rattle.law_acts.specs.Acts.{Puts, Creates as MakesFirst, Joins, Leaves as Goes, Describes, proposed, others_of, lone_view, gone_into}
use Rattle.law_acts.specs.Chains.{Acted}
use Rattle.law_acts.proofs.LawsOfActs.{one-acted, then-acted, nothing-acted}
use Rattle.step_output.specs.declared.output.Output.{Output}
use Rattle.step_output.specs.Outputs.{Grows}
use Rattle.traffic.specs.declared.view_state.ViewState.{ViewState}
use Rattle.traffic.specs.ViewStates.{view_of, fresh_in}
use Rattle.traffic.proofs.NewViewTraffic.{fresh-is, fresh-view}
use Rattle.membership.specs.declared.member_state.MemberState.{MemberState}
use Rattle.membership.specs.MemberStates.{core_of, view_in, sent_installs_in, is_connected, report_in, sent_install, IsMemberState}
use Rattle.membership.specs.Changes.{StaysAs, TakesFlush, TakesReport, TakesBehind, TakesSuspicion, Regroups}
use Rattle.membership.specs.Doing.{Did}
use Rattle.membership.proofs.ActsInTurn.{stays-did, did-then, noted-did}
use Rattle.membership.proofs.ActsOfChanges as changes
use Rattle.member_rules.specs.Firsts.{lone_install}
use Rattle.member_rules.specs.Views.{Creates, Asks, OnJoin, OnRedirect, OnSuspect, OnFlush, OnBehind, OnReport, OnMerge, Redirects, SaysAgain, Admits, Meets, AnnouncesView, Leaves, outdated, joined, merged, first_in, view_for, leads_now, has_member, has_promised, is_less, is_suspectable, is_proposing, expects, is_in, reports_again, asks_again, proposes_again, flushes_again}
use Rattle.member_rules.specs.Doing.{HasLeft}
use Rattle.member_rules.proofs.KeepMemberState.{outdated-member_state, joined-member_state, merged-member_state, outside}
use Rattle.address.proofs.Plain.{match-bool}
use Rattle.step_output.specs.Steps.{Who}
use Rattle.membership.specs.InSteps.{InStep, in_step}

-- ---- small things

-- what holds of each of a list that passes a test holds of all that are left
all-filtered : (P : Address → Type 0) (t : Address → Bool) (list : List Address) → ((m : Address) → stands_in m list ≡ true → t m ≡ true → P m) → AllByRecursion P (filter t list)
all-filtered P t [] each = tt
all-filtered P t (m ∷ list) each =
    by (t m) refl (all-filtered P t list (λ p there passes. each p (or_right (same_address p m) (stands_in p list) there) passes))
  where
    by : (b : Bool) → t m ≡ b → AllByRecursion P (filter t list) → AllByRecursion P (cond b (m ∷ filter t list) (filter t list))
    by true e rest = (each m (ap (λ b. b || stands_in m list) (same_address-refl m)) e, rest)
    by false e rest = rest

all-each : (P : Address → Type 0) (list : List Address) → ((m : Address) → P m) → AllByRecursion P list
all-each P [] each = tt
all-each P (m ∷ list) each = (each m, all-each P list each)

none-by : (view_state : Option ViewState) → is_some view_state ≡ false → view_state ≡ None
none-by None e = refl
none-by (Some t) e = absurd (let n : true ≡ false = e in cc)

-- who did not report is another than who did
other-by : (b : Bool) (me m : Address) (reports : List (Address × wire.Report)) → same_address m me ≡ b → has_reported me reports ≡ true → not (has_reported m reports) ≡ true → b ≡ false
other-by true me m reports e own missing =
    let n : false ≡ true = sym (not-true (has_reported m reports) missing) ∙ ap (λ p. has_reported p reports) (same_address-true m me e) ∙ own in
    absurd (cc)
other-by false me m reports e own missing = refl

-- where there is no view, nothing is of it
none-kept : {X : Type 0} (view : Option View) (at : X → View) (given : List X) → view ≡ None → AllByRecursion (λ p. view ≡ Some (at p)) given → given ≡ []
none-kept view at [] e all = refl
none-kept view at (p ∷ given) e all = absurd (none-some (at p) (sym e ∙ all.0))

module _ {S : Type 0} (meaning : Meaning S) (who : Who) where
  abbrev pub DidThis : Option Posted → InStep S → InStep S → Type 0
  DidThis came old new = Did meaning came who old new

  abbrev PutsOut : Option Posted → MemberState S → List Posted → Type 0
  PutsOut came l ps = Acted meaning came (Some (core_of who.address l)) ps [] (Some (core_of who.address l))

  -- ---- it only puts out

  put-acted : (came : Option Posted) (l : MemberState S) (q : Address) (body : Body) → Describes (core_of who.address l) q body → PutsOut came l (packet who.address body q ∷ [])
  put-acted came l q body says = one-acted meaning came (core_of who.address l) (Puts q body) says

  -- one packet to each of a list
  puts-all-acted : (came : Option Posted) (l : MemberState S) (body : Body) (list : List Address) → AllByRecursion (λ q. Describes (core_of who.address l) q body) list → PutsOut came l (map (packet who.address body) list)
  puts-all-acted came l body [] says = nothing-acted meaning came (Some (core_of who.address l))
  puts-all-acted came l body (q ∷ list) says =
      then-acted meaning came (Some (core_of who.address l)) (Some (core_of who.address l)) (Some (core_of who.address l)) (packet who.address body q ∷ []) (map (packet who.address body) list) [] []
      (put-acted came l q body says.0) (puts-all-acted came l body list says.1)

  puts-did : (came : Option Posted) (ps : List Posted) (old new : InStep S) → new.member ≡ old.member → Grows who.group old.out new.out ps [] → PutsOut came old.member ps → DidThis came old new
  puts-did came ps old new is grows acted =
      subst (λ (z : MemberState S). DidThis came old (in_step z new.out)) (sym is) (record { posted = ps; happened = []; grows = grows; acted = acted })

  stays : (came : Option Posted) (old new : InStep S) → StaysAs old new → DidThis came old new
  stays came old new x = stays-did meaning came who old new x.0 x.1

  -- ---- it makes a who.group

  -- outside of a view it has no flush, and kept nothing
  unflushed : (flush : Option FlushModel) (l : MemberState S) → l.flush ≡ flush → l.view_state ≡ None → IsMemberState who l → flush ≡ None
  unflushed None l e none kept = refl
  unflushed (Some f) l e none kept = let n : false ≡ true = sym (ap is_some none) ∙ (kept.flushing f e).inside in absurd (cc)

  unkept : (l : MemberState S) → l.view_state ≡ None → IsMemberState who l → sent_installs_in l.sent_installs.items ≡ []
  unkept l none kept =
      let k = kept.sent_installs in
      let given : k.given ≡ [] = none-kept (view_in l.view_state) (λ (p : Address × wire.Install). p.1.view) k.given (ap view_in none) k.current in
      ap sent_installs_in (k.spelled ∙ ap (λ g. map (sent_install who) g) given)

  created-at : (came : Option Posted) (old new : InStep S) → is_some old.member.contact ≡ false → old.member.promise.proposal ≡ None → sent_installs_in old.member.sent_installs.items ≡ []
      → Creates who (in_step (record (old.member) { view_state = None; flush = None }) old.out) new → DidThis came (in_step (record (old.member) { view_state = None; flush = None }) old.out) new
  created-at came old new off none kept z =
      let c = core_of who.address (record (old.member) { view_state = None; flush = None }) in
      let w = lone_view who.address in
      let view : view_of (fresh_in who.address w) ≡ w = fresh-view who.address w in
      let view_state = fresh-is who.address w in
      let core : core_of who.address new.member ≡ gone_into w old.member.receiver [] None c =
      ap (core_of who.address) z.member_state
      ∙ (λ j. record { me = who.address; connected = true; promise = Some w; installed = true; view = Some (view j); view_state = view_state j; flush = None; sent_installs = kept j; kept_state = None; chunks = []; state = old.member.receiver }) in
      record {
        posted = [];
        happened = _;
        grows = z.grows;
        acted = subst (λ (k : Core S). Acted meaning came (Some c) [] (Installed (lone_install who.address) ∷ []) (Some k)) (sym core)
            (one-acted meaning came c MakesFirst (record { unconnected = off; unpromised = none; outside = refl }));
      }

  pub create-did : (came : Option Posted) (old new : InStep S) → IsMemberState who old.member → is_connected old.member ≡ false → Creates who old new → DidThis came old new
  create-did came old new kept off z =
      let none = outside who old.member off in
      let flush = unflushed old.member.flush old.member refl none kept in
      let same : old.member ≡ record (old.member) { view_state = None; flush = None } = λ j. record (old.member) { view_state = none j; flush = flush j } in
      subst (λ (l : MemberState S). DidThis came (in_step l old.out) new) (sym same)
      (created-at came old new (subst (λ (l : MemberState S). is_connected l ≡ false) same off) (kept.unconnected off) (unkept old.member none kept)
      (subst (λ (l : MemberState S). Creates who (in_step l old.out) new) same z))

  -- ---- it asks to be let in

  asked-at : (came : Option Posted) (contact : Address) (old new : InStep S) → Asks who contact (in_step (record (old.member) { view_state = None }) old.out) new
      → DidThis came (in_step (record (old.member) { view_state = None }) old.out) new
  asked-at came contact old new z =
      let c = core_of who.address (record (old.member) { view_state = None }) in
      let d : Core S = record c { connected = true } in
      let core : core_of who.address new.member ≡ d = ap (core_of who.address) z.member_state in
      record {
        posted = _;
        happened = [];
        grows = z.grows;
        acted = subst (λ (k : Core S). Acted meaning came (Some c) (packet who.address bodies.Join contact ∷ []) [] (Some k)) (sym core)
            (then-acted meaning came (Some c) (Some d) (Some d) [] (packet who.address bodies.Join contact ∷ []) [] []
            (one-acted meaning came c Joins refl) (one-acted meaning came d (Puts contact bodies.Join) tt));
      }

  pub ask-did : (came : Option Posted) (contact : Address) (old new : InStep S) → IsMemberState who old.member → old.member.view_state ≡ None → Asks who contact old new
      → DidThis came old new
  ask-did came contact old new kept none z =
      let same : old.member ≡ record (old.member) { view_state = None } = λ j. record (old.member) { view_state = none j } in
      subst (λ (l : MemberState S). DidThis came (in_step l old.out) new) (sym same) (asked-at came contact old new (subst (λ (l : MemberState S). Asks who contact (in_step l old.out) new) same z))

  -- ---- it announces its view, and says whom to ask

  redirect-acted : (came : Option Posted) (o : Option Address) (q : Address) (l : MemberState S) → PutsOut came l (option_map_or (λ p. packet who.address (bodies.Redirect p) q ∷ []) o [])
  redirect-acted came None q l = nothing-acted meaning came (Some (core_of who.address l))
  redirect-acted came (Some p) q l = put-acted came l q (bodies.Redirect p) tt

  redirects : (came : Option Posted) (q : Address) (old new : InStep S) → Redirects who q old new → DidThis came old new
  redirects came q old new x = puts-did came _ old new x.member_state x.grows (redirect-acted came (first_in old.member) q old.member)

  merge-acted : (came : Option Posted) (o : Option View) (q : Address) (l : MemberState S) → PutsOut came l (option_map_or (λ v. packet who.address (bodies.Merge v) q ∷ []) o [])
  merge-acted came None q l = nothing-acted meaning came (Some (core_of who.address l))
  merge-acted came (Some v) q l = put-acted came l q (bodies.Merge v) tt

  pub hint-did : (came : Option Posted) (p : Address) (old new : InStep S) → IsMemberState who old.member → AnnouncesView who p old new → DidThis came old new
  hint-did came p old new kept x = puts-did came _ old new x.member_state x.grows (merge-acted came (view_for who.address p old.member) p old.member)

  -- ---- JOIN, REDIRECT, MERGE

  -- it notes, and what is due then is begun
  noted-regroups : (came : Option Posted) (old noted new : MemberState S) (out later : Output) → noted ≡ record old { notes = noted.notes } → IsMemberState who noted
      → Regroups meaning who (in_step noted out) (in_step new later) → DidThis came (in_step old out) (in_step new later)
  noted-regroups came old noted new out later is kept x =
      did-then meaning came who (in_step old out) (in_step noted out) (in_step new later) (noted-did meaning came who old noted noted.notes out is)
      (changes.regroups-did meaning who came (in_step noted out) (in_step new later) kept x)

  admits : (came : Option Posted) (q : Address) (l new : InStep S) → IsMemberState who l.member → Admits meaning who q l new → DidThis came l new
  admits came q l new kept x =
      match-bool (leads_now who.address l.member) (Regroups meaning who (in_step (joined who.address q l.member) l.out) new) (Redirects who q l new) x
      (λ leads r. noted-regroups came l.member (joined who.address q l.member) new.member l.out new.out refl (joined-member_state who q l.member (joined who.address q l.member) kept refl) r)
      (λ other r. redirects came q l new r)

  pub join-did : (came : Option Posted) (q : Address) (old new : InStep S) → IsMemberState who old.member → OnJoin meaning who q old new → DidThis came old new
  join-did came q old new kept x =
      match-bool (is_some old.member.view_state) (Admits meaning who q (in_step (outdated who.address q old.member) old.out) new) (StaysAs old new) x
      (λ in-view a. did-then meaning came who old (in_step (outdated who.address q old.member) old.out) new (noted-did meaning came who old.member (outdated who.address q old.member) (outdated who.address q old.member).notes old.out refl)
      (admits came q (in_step (outdated who.address q old.member) old.out) new (outdated-member_state who q old.member (outdated who.address q old.member) kept refl) a))
      (λ none s. stays came old new s)

  redirected : (came : Option Posted) (c : Address) (old new : InStep S) → IsMemberState who old.member
      → MatchBool (is_some old.member.view_state) (AnnouncesView who c old new) (Asks who c old new) → DidThis came old new
  redirected came c old new kept x =
      match-bool (is_some old.member.view_state) (AnnouncesView who c old new) (Asks who c old new) x
      (λ in-view t. hint-did came c old new kept t)
      (λ none a. ask-did came c old new kept (none-by old.member.view_state none) a)

  pub redirect-did : (came : Option Posted) (c : Address) (old new : InStep S) → IsMemberState who old.member → OnRedirect who c old new → DidThis came old new
  redirect-did came c old new kept x =
      match-bool (same_address c who.address) (StaysAs old new) (MatchBool (is_some old.member.view_state) (AnnouncesView who c old new) (Asks who c old new)) x
      (λ own s. stays came old new s) (λ other y. redirected came c old new kept y)

  meets : (came : Option Posted) (q : Address) (u : View) (old new : InStep S) → IsMemberState who old.member → Meets meaning who q u old new → DidThis came old new
  meets came q u old new kept x =
      match-bool (is_less q who.address) (AnnouncesView who q old new) (Regroups meaning who (in_step (merged who.address u old.member) old.out) new) x
      (λ less t. hint-did came q old new kept t)
      (λ greater r. noted-regroups came old.member (merged who.address u old.member) new.member old.out new.out refl (merged-member_state who u old.member (merged who.address u old.member) kept refl) r)

  found : (came : Option Posted) (q : Address) (u : View) (old new : InStep S) → IsMemberState who old.member
      → MatchBool (leads_now who.address old.member) (Meets meaning who q u old new) (Redirects who q old new) → DidThis came old new
  found came q u old new kept x =
      match-bool (leads_now who.address old.member) (Meets meaning who q u old new) (Redirects who q old new) x
      (λ leads m. meets came q u old new kept m) (λ other r. redirects came q old new r)

  pub merge-did : (came : Option Posted) (q : Address) (u : View) (old new : InStep S) → IsMemberState who old.member → OnMerge meaning who q u old new → DidThis came old new
  merge-did came q u old new kept x =
      match-bool (is_some old.member.view_state && not (has_member q old.member)) (MatchBool (leads_now who.address old.member) (Meets meaning who q u old new) (Redirects who q old new)) (StaysAs old new) x
      (λ strange y. found came q u old new kept y) (λ known s. stays came old new s)

  -- ---- suspicions, and LEAVE

  pub suspect-did : (came : Option Posted) (p : Address) (old new : InStep S) → IsMemberState who old.member → OnSuspect meaning who p old new → DidThis came old new
  suspect-did came p old new kept x =
      match-bool (is_suspectable who.address p old.member) (TakesSuspicion meaning who p old new) (StaysAs old new) x
      (λ may t. let other = (and_parts (is_some old.member.view_state) (not (same_address p who.address)) (and_parts (is_some old.member.view_state && not (same_address p who.address)) (has_member p old.member || has_promised p old.member) may).0).1 in
      changes.takes-suspicion-did meaning who came p old new kept t (not-true (same_address p who.address) other))
      (λ none s. stays came old new s)

  -- ---- FLUSH, BEHIND, REPORT

  pub flush-did : (came : Option Posted) (q : Address) (w : View) (old new : InStep S) → IsMemberState who old.member → is_connected old.member ≡ true → came ≡ Some (packet q (bodies.Flush w) who.address)
      → OnFlush who q w old new → DidThis came old new
  flush-did came q w old new kept on asked x =
      match-bool (same_address w.id.creator q) (TakesFlush who w old new) (StaysAs old new) x
      (λ own t. changes.takes-flush-did meaning who came w old new kept t
      (asked ∙ ap (λ (p : Address). Some (packet p (bodies.Flush w) who.address)) (sym (same_address-true w.id.creator q own))) on)
      (λ other s. stays came old new s)

  pub behind-did : (came : Option Posted) (w : ViewId) (counter : ℕ) (old new : InStep S) → IsMemberState who old.member → OnBehind meaning who w counter old new
      → DidThis came old new
  behind-did came w counter old new kept x =
      match-bool (is_proposing w old.member) (TakesBehind meaning who counter old new) (StaysAs old new) x
      (λ own t. changes.takes-behind-did meaning who came counter old new kept t)
      (λ other s. stays came old new s)

  says-again : (came : Option Posted) (q : Address) (old new : InStep S) → IsMemberState who old.member → SaysAgain who q old new → DidThis came old new
  says-again came q old new kept x =
      subst (λ (z : MemberState S). DidThis came old (in_step z new.out)) (sym x.member_state) (changes.installs-again-did meaning who came q old.member old.out new.out kept x.again)

  unexpected : (came : Option Posted) (q : Address) (w : ViewId) (old new : InStep S) → IsMemberState who old.member
      → MatchBool (is_in w old.member) (SaysAgain who q old new) (StaysAs old new) → DidThis came old new
  unexpected came q w old new kept x =
      match-bool (is_in w old.member) (SaysAgain who q old new) (StaysAs old new) x
      (λ here a. says-again came q old new kept a) (λ other s. stays came old new s)

  pub report-did : (came : Option Posted) (q : Address) (w : ViewId) (r : wire.Report) (old new : InStep S) → IsMemberState who old.member → came ≡ Some (packet q (bodies.Report w r) who.address)
      → OnReport meaning who q w r old new → DidThis came old new
  report-did came q w r old new kept came_so x =
      match-bool (expects q w old.member) (TakesReport meaning who q w r old new) (MatchBool (is_in w old.member) (SaysAgain who q old new) (StaysAs old new)) x
      (λ awaited t. changes.takes-report-did meaning who came q w r old new kept t came_so)
      (λ other y. unexpected came q w old new kept y)

  -- ---- time passes

  -- its report for what another proposed
  reports-acted : (came : Option Posted) (proposal : Option View) (l : MemberState S) → IsMemberState who l → l.promise.proposal ≡ proposal → l.flush ≡ None → (IsSome proposal → l.promise.is_installed ≡ false)
      → PutsOut came l (option_map_or (λ w. packet who.address (bodies.Report w.id (report_in l)) w.id.creator ∷ []) proposal [])
  reports-acted came None l kept is none waits = nothing-acted meaning came (Some (core_of who.address l))
  reports-acted came (Some w) l kept is none waits =
      put-acted came l w.id.creator (bodies.Report w.id (report_in l)) (w, is, waits refl, refl, kept.waiting (waits refl) none w is, refl, refl)

  -- outside of a view what it promised is not installed
  waiting-by : (b : Bool) (l : MemberState S) → IsMemberState who l → l.view_state ≡ None → IsSome l.promise.proposal → l.promise.is_installed ≡ b → b ≡ false
  waiting-by true l kept none some e = let n : false ≡ true = ap is_some (sym (ap view_in none) ∙ kept.installed e) ∙ some in absurd (cc)
  waiting-by false l kept none some e = refl

  asks-acted : (came : Option Posted) (contact : Option Address) (l : MemberState S) (ps : List Posted) → PutsOut came l ps → PutsOut came l (option_map_or (λ c. packet who.address bodies.Join c ∷ ps) contact [])
  asks-acted came None l ps acted = nothing-acted meaning came (Some (core_of who.address l))
  asks-acted came (Some c) l ps acted =
      then-acted meaning came (Some (core_of who.address l)) (Some (core_of who.address l)) (Some (core_of who.address l)) (packet who.address bodies.Join c ∷ []) ps [] [] (put-acted came l c bodies.Join tt) acted

  pub ask-again-did : (came : Option Posted) (old : MemberState S) (out later : Output) → IsMemberState who old → old.view_state ≡ None → Grows who.group out later (asks_again who.address old) []
      → DidThis came (in_step old out) (in_step old later)
  ask-again-did came old out later kept none grows =
      puts-did came (asks_again who.address old) (in_step old out) (in_step old later) refl grows (asks-acted came old.contact old (reports_again who.address old)
      (reports-acted came old.promise.proposal old kept refl (unflushed old.flush old refl none kept) (λ some. waiting-by old.promise.is_installed old kept none some refl)))

  -- its own proposal, to those who have not reported
  proposes-acted : (came : Option Posted) (f : FlushModel) (l : MemberState S) → IsMemberState who l → l.flush ≡ Some f → PutsOut came l (proposes_again who.address f)
  proposes-acted came f l kept is =
      puts-all-acted came l (bodies.Flush (proposed f)) _ (all-filtered (λ m. Describes (core_of who.address l) m (bodies.Flush (proposed f))) (λ m. not (has_reported m f.reports)) f.members
      (λ m there missing. (f.reports, is, there, other-by (same_address m who.address) who.address m f.reports refl (kept.flushing f is).reported missing)))

  flushes-acted : (came : Option Posted) (flush : Option FlushModel) (l : MemberState S) → IsMemberState who l → l.flush ≡ flush → l.promise.is_installed ≡ false
      → PutsOut came l (option_map_or (proposes_again who.address) flush (reports_again who.address l))
  flushes-acted came None l kept is waits = reports-acted came l.promise.proposal l kept refl is (λ some. waits)
  flushes-acted came (Some f) l kept is waits = proposes-acted came f l kept is

  pub flush-again-did : (came : Option Posted) (old : MemberState S) (out later : Output) → IsMemberState who old → is_some old.view_state ≡ true → old.promise.is_installed ≡ false
      → Grows who.group out later (flushes_again who.address old) [] → DidThis came (in_step old out) (in_step old later)
  flush-again-did came old out later kept inside waits grows =
      puts-did came (flushes_again who.address old) (in_step old out) (in_step old later) refl grows (flushes-acted came old.flush old kept refl waits)

  -- ---- it leaves

  leaves-acted : (came : Option Posted) (l : MemberState S) → Acted meaning came (Some (core_of who.address l)) [] (Left who.address ∷ []) None
  leaves-acted came l = one-acted meaning came (core_of who.address l) Goes tt

  leaving-acted : (came : Option Posted) (view : Option View) (l : MemberState S)
      → Acted meaning came (Some (core_of who.address l)) (option_map_or (λ v. map (packet who.address bodies.Leave) (others_of who.address v.members)) view []) (Left who.address ∷ []) None
  leaving-acted came None l = leaves-acted came l
  leaving-acted came (Some v) l =
      let list = others_of who.address v.members in
      let ps = map (packet who.address bodies.Leave) list in
      subst (λ (qs : List Posted). Acted meaning came (Some (core_of who.address l)) qs (Left who.address ∷ []) None) (append-nil ps)
      (then-acted meaning came (Some (core_of who.address l)) (Some (core_of who.address l)) None ps [] [] (Left who.address ∷ [])
      (puts-all-acted came l bodies.Leave list (all-each (λ q. Describes (core_of who.address l) q bodies.Leave) list (λ q. tt))) (leaves-acted came l))

  pub leave-acted : (came : Option Posted) (old : MemberState S) (out later : Output) → Leaves who (in_step old out) later → HasLeft meaning came who (in_step old out) later
  leave-acted came old out later x = record { posted = _; grows = x.grows; acted = leaving-acted came (view_in old.view_state) old }
