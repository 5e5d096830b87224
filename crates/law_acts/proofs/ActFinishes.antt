-- The act Finishes: a member goes into its own proposal, and instructs all others of the list.
use Rattle.std.proofs.Common.{◌≡◌, ℕ, ◌+◌, Bool, true, false, cond, Option, Some, None, List, [], ◌∷◌, ◌++◌, length, refl, sym, ap, ◌∙◌, subst, is_some, ◌⊎◌, inl, inr}
use Rattle.std.specs.Prelude.{MatchBool, ◌&&◌}
use Rattle.std.specs.Option.{option_map, option_eq}
use Rattle.std.proofs.lemmas.Bool.{and_parts}
use Rattle.std.proofs.lemmas.Option.{none-some, same_Some}
use Rattle.std.proofs.lemmas.List.{append_assoc, length-append}
use Rattle.address.specs.Ids.{Address, ViewId, same_address, same_view_id}
use Rattle.view.specs.Members.{View, stands_in}
use Rattle.wire_values.specs.Values.{Entry, Report}
use Rattle.wire_values.specs.Values as wire
use Rattle.wire_values.specs.declared.values.state.GivenState.{GivenState}
use Rattle.wire_values.specs.declared.values.state.GivenState.TheVariants as forms
use Rattle.wire_values.specs.Posted.{Posted}
use Rattle.state_transfer.specs.Meanings.{Meaning}
use Rattle.flush.specs.Flushes.{FlushModel, report_from}
use Rattle.trace_props.specs.declared.event.Event.{Event}
use Rattle.trace_props.specs.declared.event.Event.TheVariants.{Installed}
use Rattle.trace_props.specs.declared.event.Install.{Install}
use Rattle.trace_props.specs.Observed.{entry_of}
use Rattle.trace_props.specs.State.{entry_state}
use Rattle.address.proofs.SameIds.{same_view_id-true}
use Rattle.law_acts.specs.Words.{list_of}
use Rattle.law_acts.specs.Histories.{History, install_of}
use Rattle.law_acts.specs.Cores.{Core, id_of, report_with, applied}
use Rattle.law_acts.specs.Given.{Tells, kept_bytes}
use Rattle.law_acts.specs.Acts.{Cuts, Finishes, MayFinish, proposed, others_of, instruction_for, all_come_from, state_after_cut, gone_into, deliveries}
use Rattle.law_acts.specs.Steps.{System, put, acted}
use Rattle.law_acts.specs.Packets.{PacketFact, GivesState, BeginsWith, state_with}
use Rattle.law_acts.specs.Members.{IsNotPast, MemberFact}
use Rattle.law_acts.specs.Invariant.{EachPacket, Invariant}
use Rattle.law_acts.proofs.TalliesGrow.{list_of-still}
use Rattle.law_acts.proofs.KeepHistory.{Later, later-trans}
use Rattle.law_acts.proofs.KeepOthers.{IsFrom, flush-later, state_with-later}
use Rattle.law_acts.proofs.KeepTrace.{views-of, entry_state-kept}
use Rattle.law_acts.proofs.RegistersHoldPackets.{install-fact}
use Rattle.law_acts.proofs.ActDeliversLast.{Law, Follow, GoesOut, delivered_on, goes-out, undelivered-end, undelivered-follow}
use Rattle.law_acts.proofs.KeepByInstall.{entry-now}
use Rattle.law_acts.proofs.FirstToInstall.{none-of, made-state}
use Rattle.law_acts.proofs.KeepByFirstInstall.{made_on, made-later, made}
use Rattle.law_acts.proofs.InstructionsPutOut.{kept_by, instructing, kept-there, kept-which, instructing-each, install-kept, install-still, instructing-reports, instructing-announces}
use Rattle.law_acts.proofs.FinishedFlushes.{IsFinished, IsPutOut, instructed-report, all-answered, together-as, instructs}
use Rattle.law_acts.proofs.FactMayInstall.{last_entries, maker_install, IsReady, ready, departs}
use Rattle.law_acts.proofs.ActEnters.{state_with-append}

-- nobody was instructed to go into a view that its coordinator has not installed
no-install : (h : History) (w : ViewId) (q : Address) → EachPacket h → entry_of w.creator w h.trace ≡ None → install_of w q h.pool ≡ None
no-install h w q each none =
    none-of (install_of w q h.pool) (λ j e.
    let by = install-fact h w q j each e in
    let n : false ≡ true = sym (ap (λ (u : ViewId). is_some (entry_of u.creator u h.trace)) by.view ∙ ap is_some none) ∙ by.fact.led.entered in
    absurd cc)

module _ {S : Type 0} (meaning : Meaning S) where
  abbrev Fact : History → Address → Core S → Type 0
  Fact h p c = MemberFact meaning h p c

  abbrev each_by : View → FlushModel → Cuts → GivenState → Address → wire.Install
  each_by v f cuts given q = instruction_for f cuts v.id given q

  abbrev bytes_by : Core S → View → Cuts → List ℕ
  bytes_by c v cuts = meaning.encode (state_after_cut meaning c v cuts)

  abbrev packets_by : Core S → View → FlushModel → Cuts → GivenState → List Posted
  packets_by c v f cuts given = instructing c.me f.proposal (bytes_by c v cuts) (each_by v f cuts given) (others_of c.me f.members)

  abbrev before_by : History → Core S → View → Cuts → History
  before_by h c v cuts = delivered_on h c.me c.view (last_entries c v cuts)

  abbrev after_by : History → Core S → View → FlushModel → Cuts → GivenState → History
  after_by h c v f cuts given = made_on (before_by h c v cuts) (packets_by c v f cuts given) (maker_install c v f cuts)

  -- it delivers its last entries
  finishes-out : (s : System S) (c : Core S) (v : View) (f : FlushModel) (cuts : Cuts) (given : GivenState) → Law meaning → Invariant meaning s → Fact s.history c.me c
      → MayFinish meaning c v f cuts given → IsReady meaning s.history c v f cuts
      → GoesOut meaning s.history (before_by s.history c v cuts) c (last_entries c v cuts)
  finishes-out s c v f cuts given law inv x a y =
      let own = y.cut c.me (report_with c.view c.view_state) v.id y.runs.itself (ap id_of a.view) in
      goes-out meaning s.history c (last_entries c v cuts) law inv.trace x
      (λ u e. subst (λ (z : View). Follow s.history.trace c.me z.id (last_entries c v cuts)) (same_Some v u (sym a.view ∙ e))
      (undelivered-follow s.history.trace c.me v.id c.view_state.delivered (cuts.base v.id) (cuts.items v.id) (y.inside v a.view).counts.delivered_count own.low own.order))
      (λ none. absurd (none-some v (sym none ∙ a.view)))

  -- it says what is given
  tells-by : (b : Bool) (given : GivenState) (bytes : List ℕ) → (b ≡ false → Tells given (Some bytes)) → Tells (cond b forms.Nothing given) (cond b None (Some bytes))
  tells-by true given bytes told = refl
  tells-by false given bytes told = told refl

  -- to those who come from another view the coordinator's state is given
  abbrev TellsAll : FlushModel → ViewId → GivenState → List ℕ → Type 0
  TellsAll f v given bytes = (q : Address) (r : Report) → report_from q f.reports ≡ Some r → option_eq same_view_id r.previous (Some v) ≡ false → Tells given (Some bytes)

  -- one of those who all come from a view comes from it
  comes-by : (b rest : Bool) (v : ViewId) (x : Address × Report) (o : Option Report) (r : Report) → option_eq same_view_id x.1.previous (Some v) && rest ≡ true
      → (rest ≡ true → o ≡ Some r → option_eq same_view_id r.previous (Some v) ≡ true) → cond b (Some x.1) o ≡ Some r → option_eq same_view_id r.previous (Some v) ≡ true
  comes-by true rest v x o r all later e =
      ap (λ (z : Report). option_eq same_view_id z.previous (Some v)) (sym (same_Some x.1 r e)) ∙ (and_parts (option_eq same_view_id x.1.previous (Some v)) rest all).0
  comes-by false rest v x o r all later e = later (and_parts (option_eq same_view_id x.1.previous (Some v)) rest all).1 e

  comes-from : (v : ViewId) (reports : List (Address × Report)) (q : Address) (r : Report) → all_come_from v reports ≡ true → report_from q reports ≡ Some r
      → option_eq same_view_id r.previous (Some v) ≡ true
  comes-from v [] q r all e = absurd (none-some r e)
  comes-from v (x ∷ reports) q r all e =
      comes-by (same_address q x.0) (all_come_from v reports) v x (report_from q reports) r all (λ rest there. comes-from v reports q r rest there) e

  tells-all : (b : Bool) (f : FlushModel) (v : ViewId) (given : GivenState) (bytes : List ℕ) → all_come_from v f.reports ≡ b → MatchBool b (Unit {0}) (Tells given (Some bytes)) → TellsAll f v given bytes
  tells-all true f v given bytes all told q r from other = absurd (let n : true ≡ false = sym (comes-from v f.reports q r all from) ∙ other in cc)
  tells-all false f v given bytes all told q r from other = told

  -- an instruction gives the state with which the view begins to all who come from another view than its coordinator
  gives-to : (k : History) (p q : Address) (mine : Report) (f : FlushModel) (cuts : Cuts) (v : ViewId) (given : GivenState) (z : S) (i : Install) → TellsAll f v given (meaning.encode z) → IsFinished k p mine f i
      → IsPutOut k p mine f cuts v given → mine.previous ≡ Some v → entry_state meaning f.proposal k.trace ≡ Some z → stands_in q (others_of p f.members) ≡ true
      → GivesState meaning k q (instruction_for f cuts v given q)
  gives-to k p q mine f cuts v given z i told x y inside begun there e r entry report =
      let w = f.proposal in
      let s = instructed-report k p q mine f cuts v given i (instruction_for f cuts v given q) x y (y.each q there) in
      let same : s.0 ≡ r = same_Some s.0 r (sym s.2 ∙ report) in
      let itself : i ≡ e = same_Some i e (sym x.entry ∙ ap (λ a. entry_of a w k.trace) (sym x.own) ∙ entry) in
      let from : Some v ≡ e.previous = sym inside ∙ sym x.previous ∙ ap (λ (a : Install). a.previous) itself in
      let says : Tells (instruction_for f cuts v given q).state (cond (option_eq same_view_id s.0.previous (Some v)) None (Some (meaning.encode z))) =
      subst (λ (j : wire.Install). Tells j.state (cond (option_eq same_view_id s.0.previous (Some v)) None (Some (meaning.encode z)))) (sym s.3)
      (tells-by (option_eq same_view_id s.0.previous (Some v)) given (meaning.encode z) (told q s.0 s.1)) in
      subst (λ (o : Option (List ℕ)). Tells (instruction_for f cuts v given q).state o)
      (ap (λ (a : Report). cond (option_eq same_view_id a.previous (Some v)) None (Some (meaning.encode z))) same
      ∙ ap (λ o. cond (option_eq same_view_id r.previous o) None (Some (meaning.encode z))) from
      ∙ ap (λ o. cond (option_eq same_view_id r.previous e.previous) None (option_map meaning.encode o)) (sym begun)) says

  -- what was put out for a view was so before, or is an instruction to go into the new one
  gives-by : (b : Bool) (h k : History) (p q : Address) (mine : Report) (f : FlushModel) (cuts : Cuts) (v : ViewId) (given : GivenState) (z : S) (i : Install) (u : ViewId) (j : wire.Install) → same_view_id f.proposal u ≡ b
      → TellsAll f v given (meaning.encode z) → IsFinished k p mine f i → IsPutOut k p mine f cuts v given → mine.previous ≡ Some v → entry_state meaning f.proposal k.trace ≡ Some z
      → (same_view_id f.proposal u ≡ false → install_of u q k.pool ≡ install_of u q h.pool) → install_of u q k.pool ≡ Some j
      → (install_of u q h.pool ≡ Some j) ⊎ GivesState meaning k q j
  gives-by true h k p q mine f cuts v given z i u j test told x y inside begun still there =
      let same = same_view_id-true f.proposal u test in
      let instructed_so = y.only q j (ap (λ (a : ViewId). install_of a q k.pool) same ∙ there) in
      inr (subst (λ (a : wire.Install). GivesState meaning k q a) (sym instructed_so.1) (gives-to k p q mine f cuts v given z i told x y inside begun instructed_so.0))
  gives-by false h k p q mine f cuts v given z i u j test told x y inside begun still there = inl (sym (still test) ∙ there)

  -- the view begins with the state that its coordinator had at the end of the one from which it came
  begins-as : (h h1 : History) (c : Core S) (v : View) (f : FlushModel) (entries : List Entry) (i : Install) (z : S) → Fact h c.me c → c.view ≡ Some v → f.proposal.creator ≡ c.me
      → GoesOut meaning h h1 c entries → z ≡ applied meaning c.state entries → i.previous ≡ id_of c.view
      → entry_state meaning f.proposal (h1.trace ++ Installed i ∷ []) ≡ Some z → BeginsWith meaning (h1.trace ++ Installed i ∷ []) f.proposal i
  begins-as h h1 c v f entries i z x is own out same from begun u left =
      let t = h1.trace ++ Installed i ∷ [] in
      let list = list_of c.me v.id h.trace in
      let list_now : list_of c.me v.id t ≡ list ++ entries = list_of-still c.me v.id h1.trace (Installed i) refl ∙ (out.view v is).list in
      let was : state_with meaning v.id list t ≡ Some c.state =
      state_with-later meaning v.id list h.trace t c.state
      (λ s e. entry_state-kept meaning v.id h1.trace (Installed i ∷ []) s (out.quiet.state.entered v.id s e)) (x.state.in_view v is) in
      let now : state_with meaning v.id (list_of f.proposal.creator v.id t) t ≡ entry_state meaning f.proposal t =
      ap (λ a. state_with meaning v.id (list_of a v.id t) t) own
      ∙ ap (λ l. state_with meaning v.id l t) list_now
      ∙ state_with-append meaning v.id list entries t c.state was ∙ ap Some (sym same) ∙ sym begun in
      subst (λ (a : ViewId). state_with meaning a (list_of f.proposal.creator a t) t ≡ entry_state meaning f.proposal t)
      (same_Some v.id u (sym (ap id_of is) ∙ sym from ∙ left)) now

  -- the coordinator has delivered its view's order up to the end of its cut
  ends-at : (h h1 : History) (c : Core S) (v : View) (f : FlushModel) (cuts : Cuts) (i : Install) → c.view ≡ Some v → IsReady meaning h c v f cuts
      → GoesOut meaning h h1 c (last_entries c v cuts) → (u : ViewId) → id_of c.view ≡ Some u
      → length (list_of c.me u (h1.trace ++ Installed i ∷ [])) ≡ cuts.base u + length (cuts.items u)
  ends-at h h1 c v f cuts i is y out u left =
      let t = h1.trace ++ Installed i ∷ [] in
      let entries = last_entries c v cuts in
      let own = y.cut c.me (report_with c.view c.view_state) v.id y.runs.itself (ap id_of is) in
      let long : length (list_of c.me v.id t) ≡ cuts.base v.id + length (cuts.items v.id) =
      ap length (list_of-still c.me v.id h1.trace (Installed i) refl ∙ (out.view v is).list)
      ∙ length-append (list_of c.me v.id h.trace) entries
      ∙ ap (λ n. n + length entries) (y.inside v is).counts.delivered_count
      ∙ undelivered-end c.view_state.delivered (cuts.base v.id) (cuts.items v.id) own.low own.high in
      subst (λ (a : ViewId). length (list_of c.me a t) ≡ cuts.base a + length (cuts.items a)) (same_Some v.id u (sym (ap id_of is) ∙ left)) long

  -- the act keeps the invariant
  pub finishes-keep : (s : System S) (c : Core S) (v : View) (f : FlushModel) (cuts : Cuts) (given : GivenState) → Law meaning → Invariant meaning s
      → Fact s.history c.me c → MayFinish meaning c v f cuts given → Invariant meaning (acted meaning s c.me (Finishes v f cuts given) c)
  finishes-keep s c v f cuts given law inv x a =
      let h = s.history in
      let p = c.me in
      let w = f.proposal in
      let list = others_of p f.members in
      let mine = report_with c.view c.view_state in
      let z = state_after_cut meaning c v cuts in
      let bytes = bytes_by c v cuts in
      let g = each_by v f cuts given in
      let h1 = before_by h c v cuts in
      let i = maker_install c v f cuts in
      let more = packets_by c v f cuts given in
      let k = after_by h c v f cuts given in
      let y = ready meaning h c v f cuts given inv.packets x a in
      let runs = y.runs in
      let out = finishes-out s c v f cuts given law inv x a y in
      let may = departs meaning s h1 c v f cuts given inv a y out in
      let other_installs = λ (u : ViewId) (q : Address) (other : same_view_id w u ≡ false). install-still p w bytes u q g list h.pool (λ r. other) in
      let onward : Later h1 k = made-later meaning h1 more i (views-of meaning h1 out.quiet.trace) may other_installs in
      let later = later-trans h h1 k out.quiet.later onward in
      let finished : IsFinished k p mine f i = record {
        own = runs.own;
        announced = (flush-later h k p c.promise false c.view c.view_state f later runs).announced;
        entry = entry-now h1 i (may.new p);
        view = refl;
        previous = refl;
        itself = runs.itself;
        recorded = (flush-later h k p c.promise false c.view c.view_state f later runs).recorded;
        all = a.all;
      } in
      let fresh = λ (q : Address). install-kept p w bytes w q g list h.pool (λ r. refl)
      (no-install h w q inv.packets (sym (out.quiet.none.entry w.creator w) ∙ may.new w.creator)) in
      let put_out : IsPutOut k p mine f cuts v.id given = record {
        each = λ q there. fresh q ∙ kept-there g q list there;
        only = λ q j there. kept-which g q list j (sym (fresh q) ∙ there);
        cut = λ q r u said from. let old = y.cut q r u said from in record { low = old.low; high = old.high; order = λ j e at. later.list u.creator u (cuts.base u + j) e (old.order j e at) };
        own_end = ends-at h h1 c v f cuts i a.view y out;
      } in
      let begun : entry_state meaning w k.trace ≡ Some z = made-state meaning h1.trace i may ∙ ap Some out.state in
      subst (λ (t : List Event). Invariant meaning (record { running = put p (Some (gone_into (proposed f) z (kept_by g list) (kept_bytes given bytes) c)) s.running; history = record { pool = h.pool ++ more; trace = t } }))
      (append_assoc h.trace (deliveries p c.view (last_entries c v cuts)) (Installed i ∷ []))
      (made meaning s c h1 more i z (kept_by g list) (kept_bytes given bytes) inv out.quiet refl (record {
        itself = refl;
        may = may;
        state = out.state;
        is = subst meaning.is_state out.state out.is;
        from = instructing-each (IsFrom p) p w bytes g list (λ q n. record { source = refl; mine = tt }) (λ q there. record { source = refl; mine = runs.own });
        other_installs = other_installs;
        below = record {
          announced = λ u l own e. subst (λ (o : Option View). IsNotPast o u) runs.promised (x.below.announced u l own (sym (instructing-announces p w bytes u g list h.pool) ∙ e));
          reported = λ u r e. subst (λ (o : Option View). IsNotPast o u) runs.promised (x.below.reported u r (sym (instructing-reports p w bytes p u g list h.pool) ∙ e));
        };
        keeps = λ q j there. (runs.own, fresh q ∙ there);
        packets = instructing-each (PacketFact k) p w bytes g list (λ q n. tt) (λ q there. instructs k p q mine f cuts v.id given i v.id finished (ap id_of a.view) put_out there);
        complete = all-answered k p mine f i finished;
        together = together-as k p p mine mine f i finished runs.itself;
        gives = λ u q j there. gives-by (same_view_id w u) h k p q mine f cuts v.id given z i u j refl (tells-all (all_come_from v.id f.reports) f v.id given bytes refl a.gives) finished put_out (ap id_of a.view) begun (other_installs u q) there;
        begins = begins-as h h1 c v f (last_entries c v cuts) i z x a.view runs.own out refl refl begun;
      }))
