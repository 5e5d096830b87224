-- The next stage of a settling: a delivery of each REPORT. By the last of them the creator of the proposal goes into it, and puts out how the others go in;
-- these wait for that, and hold no chunk.
use Rattle.std.proofs.Common.{◌≡◌, ℕ, zero, suc, ◌+◌, Bool, true, false, not, Option, Some, None, List, [], ◌∷◌, ◌++◌, map, length, nat_eq, refl, sym, ap, ◌∙◌, subst}
use Rattle.std.specs.Prelude.{IfSome, ◌||◌, MatchOption, slice_get}
use Rattle.std.specs.List.{AllByRecursion, list_all}
use Rattle.std.specs.Option.{option_and_then, option_map_or}
use Rattle.std.proofs.lemmas.List.{append-nil, length-map}
use Rattle.std.proofs.lemmas.Bool.{and_from, and_parts, not-true}
use Rattle.std.proofs.lemmas.Option.{none-some, same_Some}
use Rattle.address.specs.Ids.{Address, ViewId, same_address}
use Rattle.address.proofs.SameIds.{same_address-true, same_address-sym}
use Rattle.address.proofs.Plain.{found}
use Rattle.view.specs.Members.{View, stands_in, is_distinct}
use Rattle.wire_values.specs.Values.{Report}
use Rattle.wire_values.specs.declared.packet.Body.TheVariants as bodies
use Rattle.state_transfer.specs.Meanings.{Meaning}
use Rattle.trace_props.specs.declared.event.Event.{Event}
use Rattle.flush.specs.Flushes.{FlushModel, has_reported, report_from, is_awaited, previous_of}
use Rattle.law_acts.specs.Histories.{report_of}
use Rattle.law_acts.specs.Cores.{id_of, report_with}
use Rattle.law_acts.specs.Acts.{proposed, others_of}
use Rattle.law_acts.specs.Packets.{IsAnswer}
use Rattle.law_acts.proofs.KeepBySteps
use Rattle.law_acts.proofs.FinishedFlushes.{report-recorded}
use Rattle.step_output.specs.declared.output.Output.{Output}
use Rattle.step_output.specs.Outputs.{Puts, Grows}
use Rattle.step_output.specs.Steps.{who}
use Rattle.step_output.proofs.GrowthAdds.{grows-nothing, grows-then}
use Rattle.traffic.specs.declared.view_state.ViewState.{ViewState}
use Rattle.traffic.proofs.NewViewTraffic.{fresh-view}
use Rattle.wire_values.specs.Chunks.{IsTotal}
use Rattle.wire_values.specs.Posted.{Posted, packet}
use Rattle.law_acts.specs.Decisions.{due_proposal, kept_of}
use Rattle.membership.specs.InSteps.{InStep, in_step}
use Rattle.membership.specs.declared.member_state.MemberState.{MemberState}
use Rattle.membership.specs.MemberStates.{core_of as core_at, view_in, view_core_in, is_complete}
use Rattle.membership.specs.Installs.{finish_packets, finished_given}
use Rattle.membership.specs.Changes.{StaysAs, Begins, GoesOn}
use Rattle.member_rules.specs.Views.{OnReport}
use Rattle.world_model.specs.declared.WorldEvent.TheVariants.{Deliver}
use Rattle.world_model.specs.Packets.{world_group}
use Rattle.world.specs.NodeStates.{bytes_of}
use Rattle.world.proofs.MembersAsSystem.{system_of}
use Rattle.world.specs.Turns.{OthersStand}
use Rattle.world.specs.Worlds.{WorldModel}
use Rattle.world.specs.Plays.{lacks_memory, Plays, Delivers}
use Rattle.law_processes.proofs.PostsAreSpelled.{EachSound, bytes_for}
use Rattle.world.proofs.InputsTaken.{when-false}
use Rattle.world.proofs.KeepOfWorlds
use Rattle.world.proofs.PoolPackets.{put-out, AreNext, next-first, next-rest}
use Rattle.world.proofs.Deliveries.{delivers-none, delivers-next}
use Rattle.world.proofs.WhoFollows
use Rattle.world.proofs.ReportsMissing.{awaited_by, complete-at-last, waits-on, next-report, first-awaited}
use Rattle.world.proofs.RulesByPacket
use Rattle.world.proofs.Standing
use Rattle.world.proofs.Standing.{Stands}
use Rattle.world.proofs.StageOfFlushes.{report_packet, report_packets, Keeps, Awaits, awaits-still, sure}

-- how many FLUSHes a member puts out for its own flush, where it begins one
abbrev pub begun_by : {S : Type 0} → Address → MemberState S → ℕ
begun_by me l = option_map_or (λ f. length (others_of me f.members)) l.flush 0

-- the member with its flush so
abbrev pub flushing : {S : Type 0} → FlushModel → MemberState S → MemberState S
flushing g l = record l { flush = Some g }

-- a fact of each of a list, and of one more
each-more : {X : Type 0} (P : X → Type 0) (xs : List X) (y : X) → ((k : ℕ) (x : X) → slice_get xs k ≡ Some x → P x) → P y → (k : ℕ) (x : X) → slice_get (xs ++ y ∷ []) k ≡ Some x → P x
each-more P [] y each last zero x at = subst P (same_Some y x at) last
each-more P [] y each last (suc k) x at = absurd (none-some x at)
each-more P (z ∷ xs) y each last zero x at = each zero x at
each-more P (z ∷ xs) y each last (suc k) x at = each-more P xs y (λ j w there. each (suc j) w there) last k x at

all-have : (reports : List (Address × Report)) (list : List Address) (q : Address) → list_all (λ m. has_reported m reports) list ≡ true → stands_in q list ≡ true → has_reported q reports ≡ true
all-have reports [] q all there = absurd (let n : false ≡ true = there in cc)
all-have reports (p ∷ list) q all there = by (same_address q p) refl there (all-have reports list q (and_parts (has_reported p reports) _ all).1)
  where
    by : (b : Bool) → same_address q p ≡ b → b || stands_in q list ≡ true → (stands_in q list ≡ true → has_reported q reports ≡ true) → has_reported q reports ≡ true
    by true e there later = ap (λ (z : Address). has_reported z reports) (same_address-true q p e) ∙ (and_parts (has_reported p reports) _ all).0
    by false e there later = later there

module _ {S : Type 0} (meaning : Meaning S) (laws : KeepBySteps.Laws meaning) where
  pub record Gathers (w : WorldModel S) (c : Address) (l : MemberState S) (f : FlushModel) (t : ViewState) (rest : List Address) : Type 0 where
    pub keeps : Keeps meaning laws w
    pub stands : Stands meaning w c l
    pub flush : l.flush ≡ Some f
    pub view : l.view_state ≡ Some t
    pub awaited : awaited_by f ≡ rest
    pub awaits : (q : Address) → stands_in q f.members ≡ true → same_address q c ≡ false → Awaits meaning laws w (proposed f) q

  -- ---- what is left of those who wait

  -- it has promised the view, did not install it, and holds no chunk
  pub record Waits (w : WorldModel S) (v : View) (q : Address) (from : Option ViewId) : Type 0 where
    pub member_state : MemberState S
    pub stands : Stands meaning w q member_state
    pub promise : member_state.promise.proposal ≡ Some v
    pub waits : member_state.promise.is_installed ≡ false
    pub chunks : member_state.chunks ≡ []
    pub comes : id_of (view_in member_state.view_state) ≡ from

  pub waits-still : (w new : WorldModel S) (v : View) (p q : Address) (from : Option ViewId) → Waits w v q from → nat_eq p.node q.node ≡ false → OthersStand p.node w.node_states new.node_states → Waits new v q from
  waits-still w new v p q from x apart others = record {
    member_state = x.member_state;
    stands = Standing.stands-still meaning w q x.member_state x.stands new p apart others;
    promise = x.promise;
    waits = x.waits;
    chunks = x.chunks;
    comes = x.comes;
  }

  -- ---- the last REPORT

  pub record Finished (before : List (List ℕ)) (new : WorldModel S) (c : Address) (v : View) : Type 0 where
    pub keeps : Keeps meaning laws new
    pub flush : FlushModel
    pub same : proposed flush ≡ v
    pub previous : ViewState
    pub given : Option (List ℕ)
    pub member_state : MemberState S
    pub stands : Stands meaning new c member_state
    pub inside : view_in member_state.view_state ≡ Some v
    pub more : List Posted
    pub few : length more ≡ begun_by c member_state
    pub total : IfSome (kept_of given) (λ bytes. IsTotal (length bytes))
    pub puts : new.history.pool ≡ before ++ bytes_for world_group (finish_packets c flush previous given ++ more)
    pub sound : EachSound world_group (finish_packets c flush previous given ++ more)
    pub others : (q : Address) → stands_in q v.members ≡ true → same_address q c ≡ false → Waits new v q (previous_of q flush)

  -- what is proposed after it
  pub record Proposed (c : Address) (mid new : InStep S) : Type 0 where
    pub more : List Posted
    pub happened : List Event
    pub grows : Grows world_group mid.out new.out more happened
    pub view : new.member.view_state ≡ mid.member.view_state
    pub few : length more ≡ begun_by c new.member

  proposed-by : (c : Address) (o : Option View) (mid new : InStep S) → mid.member.flush ≡ None → MatchOption o (StaysAs mid new) (λ w. Begins (who c world_group) w mid new) → Proposed c mid new
  proposed-by c None mid new none x = record {
    more = [];
    happened = [];
    grows = subst (λ (z : Output). Grows world_group mid.out z [] []) (sym x.1) (grows-nothing world_group mid.out);
    view = ap (λ (z : MemberState S). z.view_state) x.0;
    few = sym (ap (begun_by c) x.0 ∙ ap (λ (o : Option FlushModel). option_map_or (λ f. length (others_of c f.members)) o 0) none);
  }
  proposed-by c (Some w) mid new none x = record {
    more = map (packet c (bodies.Flush w)) (others_of c w.members);
    happened = _;
    grows = x.grows;
    view = ap (λ (z : MemberState S). z.view_state) x.member_state;
    few = length-map (others_of c w.members) (packet c (bodies.Flush w)) ∙ sym (ap (begun_by c) x.member_state);
  }

  -- ---- from where each comes

  -- its report is what it is
  reported-so : (w : WorldModel S) (v : View) (c q : Address) (x : Awaits meaning laws w v q) → Keeps meaning laws w → v.id.creator ≡ c → same_address q c ≡ false
      → report_of q v.id (system_of w.node_states w.history.pool w.history.trace).history.pool ≡ Some (report_with (view_in x.member_state.view_state) (view_core_in x.member_state.view_state))
  reported-so w v c q x keeps own other =
      let m = (Standing.agreed-in meaning laws w keeps).agreed.members q (core_at q x.member_state) (Standing.runs-in meaning w q x.member_state x.stands) in
      m.reported x.waits v x.promise (ap (λ (a : Address). same_address a q) own ∙ same_address-sym c q ∙ other)

  -- the flush with one report more
  abbrev pub with_report : FlushModel → Address × Report → FlushModel
  with_report f x = record f { reports = f.reports ++ x ∷ [] }

  -- what it recorded, and what comes, was put out
  recorded-put : (w : WorldModel S) (c : Address) (l : MemberState S) (f : FlushModel) (t : ViewState) (rest : List Address) (x : Address × Report) → Gathers w c l f t rest
      → report_of x.0 f.proposal (system_of w.node_states w.history.pool w.history.trace).history.pool ≡ Some x.1 → (k : ℕ) (y : Address × Report) → slice_get (f.reports ++ x ∷ []) k ≡ Some y
      → same_address y.0 c ≡ false → report_of y.0 f.proposal (system_of w.node_states w.history.pool w.history.trace).history.pool ≡ Some y.1
  recorded-put w c l f t rest x g said =
      let pool = (system_of w.node_states w.history.pool w.history.trace).history.pool in
      let m = (Standing.agreed-in meaning laws w g.keeps).agreed.members c (core_at c l) (Standing.runs-in meaning w c l g.stands) in
      each-more (λ y. same_address y.0 c ≡ false → report_of y.0 f.proposal pool ≡ Some y.1) f.reports x
      (λ k y at other. when-false (same_address y.0 c) _ _ other ((m.flush f g.flush).recorded k y at)) (λ other. said)

  -- so each that has reported comes from where it is
  comes-from : (w : WorldModel S) (c : Address) (l : MemberState S) (f : FlushModel) (t : ViewState) (rest : List Address) (x : Address × Report) → Gathers w c l f t rest → f.proposal.creator ≡ c
      → report_of x.0 f.proposal (system_of w.node_states w.history.pool w.history.trace).history.pool ≡ Some x.1 → is_complete (with_report f x) ≡ true
      → (q : Address) → stands_in q f.members ≡ true → same_address q c ≡ false → (a : Awaits meaning laws w (proposed f) q)
      → id_of (view_in a.member_state.view_state) ≡ previous_of q (with_report f x)
  comes-from w c l f t rest x g own said complete q listed other a =
      let pool = (system_of w.node_states w.history.pool w.history.trace).history.pool in
      let reports = f.reports ++ x ∷ [] in
      let r = found (report_from q reports) (all-have reports f.members q complete listed) in
      let y = report-recorded reports q r.0 r.1 in
      let foreign : same_address y.it.0 c ≡ false = ap (λ (z : Address). same_address z c) y.reporter ∙ other in
      let put : report_of y.it.0 f.proposal pool ≡ Some y.it.1 = recorded-put w c l f t rest x g said y.place y.it y.stands foreign in
      let put2 : report_of q f.proposal pool ≡ Some r.0 = ap (λ (z : Address). report_of z f.proposal pool) (sym y.reporter) ∙ put ∙ ap Some y.report in
      let so = reported-so w (proposed f) c q a g.keeps own other in
      let same : report_with (view_in a.member_state.view_state) (view_core_in a.member_state.view_state) ≡ r.0 = same_Some _ r.0 (sym so ∙ put2) in
      ap (λ (z : Report). z.previous) same ∙ sym (ap (λ (o : Option Report). option_and_then (λ z. z.previous) o) r.1)

  -- ---- one REPORT

  pub record Taken (w mid : WorldModel S) (c : Address) (l : MemberState S) (f : FlushModel) (x : Address × Report) : Type 0 where
    pub after : MemberState S
    pub stands : Stands meaning mid c after
    pub start : Output
    pub out : Output
    pub nothing : Puts [] [] start
    pub goes : GoesOn meaning (who c world_group) (in_step (flushing (with_report f x) l) start) (in_step after out)
    pub others : OthersStand c.node w.node_states mid.node_states
    pub puts : mid.history.pool ≡ w.history.pool ++ map bytes_of out.packets.items
    pub keeps : Keeps meaning laws mid
    pub left : List Address
    pub awaited : awaited_by (with_report f x) ≡ left
    pub said : report_of x.0 f.proposal (system_of w.node_states w.history.pool w.history.trace).history.pool ≡ Some x.1

  pub taken : (w mid : WorldModel S) (c : Address) (l : MemberState S) (f : FlushModel) (t : ViewState) (x : Address × Report) (rest : List Address) (k : ℕ) → Gathers w c l f t (x.0 ∷ rest)
      → stands_in x.0 rest ≡ false → Standing.IsFor meaning w k c (report_packet c f.proposal x) → Plays meaning w (Deliver k) mid → (z : Taken w mid c l f x) × (z.left ≡ rest)
  taken w mid c l f t x rest k g alone to plays =
      let h = sure (lacks_memory plays.step.answer) plays.whole (Standing.heard meaning laws w mid g.keeps k c l g.stands (report_packet c f.proposal x) to plays.step) in
      let first = first-awaited f.reports f.members x.0 rest g.awaited in
      let awaited : is_awaited x.0 f ≡ true = and_from (stands_in x.0 f.members) (not (has_reported x.0 f.reports)) first.0 (ap not first.1) in
      let n = next-report f x.0 rest x.1 g.awaited alone awaited in
      let rule : OnReport meaning (who c world_group) x.0 f.proposal x.1 (in_step l h.start) (in_step h.after h.out) = h.hears in
      let goes = RulesByPacket.report-taken meaning (who c world_group) x.0 f (with_report f x) x.1 (in_step l h.start) (in_step h.after h.out) g.flush n.2 n.0 rule in
      let fact : IsAnswer (system_of w.node_states w.history.pool w.history.trace).history x.0 f.proposal x.1 =
      Standing.fact-at meaning laws w g.keeps k (report_packet c f.proposal x) to.there to.sound in (
        record {
          after = h.after;
          stands = h.stands;
          start = h.start;
          out = h.out;
          nothing = h.nothing;
          goes = goes;
          others = h.others;
          puts = h.puts;
          keeps = KeepOfWorlds.step-keeps meaning laws w mid (Deliver k) plays.step g.keeps;
          left = rest;
          awaited = n.1;
          said = fact.one;
        },
        refl,
      )

  apart-from : (w : WorldModel S) (c q : Address) (l k : MemberState S) → Stands meaning w c l → Stands meaning w q k → same_address q c ≡ false → nat_eq c.node q.node ≡ false
  apart-from w c q l k x y other = Standing.nodes-apart meaning w c q l k x y other

  -- another is awaited still
  waits-on-still : (w mid : WorldModel S) (c : Address) (l : MemberState S) (f : FlushModel) (t : ViewState) (x : Address × Report) (q : Address) (rest : List Address) → Gathers w c l f t (x.0 ∷ q ∷ rest)
      → (z : Taken w mid c l f x) → z.left ≡ q ∷ rest → Gathers mid c (flushing (with_report f x) l) (with_report f x) t (q ∷ rest) × (mid.history.pool ≡ w.history.pool)
  waits-on-still w mid c l f t x q rest g z left =
      let f2 = with_report f x in
      let on = RulesByPacket.waits meaning (who c world_group) f2 l (in_step l z.start) (in_step z.after z.out) (waits-on f2 q rest (z.awaited ∙ left)) z.goes in (
        record {
          keeps = z.keeps;
          stands = subst (Stands meaning mid c) on.0 z.stands;
          flush = refl;
          view = g.view;
          awaited = z.awaited ∙ left;
          awaits = λ p listed other.
              let a = g.awaits p listed other in
              awaits-still meaning laws w mid (proposed f) c p a (apart-from w c p l a.member_state g.stands a.stands other) z.others;
        },
        z.puts ∙ ap (λ (l : List _). w.history.pool ++ map bytes_of l) (ap (λ (o : Output). o.packets.items) on.1 ∙ z.nothing.packets) ∙ append-nil w.history.pool,
      )

  -- nobody is
  pub finished : (w mid : WorldModel S) (c : Address) (l : MemberState S) (f : FlushModel) (t : ViewState) (x : Address × Report) → Gathers w c l f t (x.0 ∷ []) → f.proposal.creator ≡ c
      → (z : Taken w mid c l f x) → z.left ≡ [] → Finished w.history.pool mid c (proposed f)
  finished w mid c l f t x g own z left =
      let f2 = with_report f x in
      let s = system_of w.node_states w.history.pool w.history.trace in
      let complete = complete-at-last f2 (z.awaited ∙ left) in
      let y = RulesByPacket.finishes meaning (who c world_group) f2 t l (in_step l z.start) (in_step z.after z.out) g.view complete z.goes in
      let given = finished_given meaning f2 t l.receiver in
      let none = ap (λ (k : MemberState S). k.flush) y.finishes.member_state in
      let p = proposed-by c (due_proposal (core_at c y.mid.member) y.mid.member.notes) y.mid (in_step z.after z.out) none y.proposes in
      let grows = grows-then world_group z.start y.mid.out z.out (finish_packets c f2 t given) p.more _ p.happened y.finishes.grows p.grows in
      let runs = Standing.runs-in meaning w c l g.stands in
      record {
        keeps = z.keeps;
        flush = f2;
        same = refl;
        previous = t;
        given = given;
        member_state = z.after;
        stands = z.stands;
        inside = ap view_in (p.view ∙ ap (λ (k : MemberState S). k.view_state) y.finishes.member_state) ∙ ap Some (fresh-view c (proposed f));
        more = p.more;
        few = p.few;
        total = subst (λ (o : Option (List ℕ)). IfSome o (λ bytes. IsTotal (length bytes))) (ap (λ (k : MemberState S). k.sent_state) y.finishes.member_state) y.finishes.sent_state;
        puts = z.puts ∙ ap (λ (ps : List (List ℕ)). w.history.pool ++ ps) (put-out z.start z.out z.nothing (finish_packets c f2 t given ++ p.more) _ grows);
        sound = grows.sound;
        others = λ q listed other.
            let a = g.awaits q listed other in
            waits-still w mid (proposed f) c q (previous_of q f2) (record {
              member_state = a.member_state;
              stands = a.stands;
              promise = a.promise;
              waits = a.waits;
              chunks = WhoFollows.holds-nothing meaning s (Standing.agreed-in meaning laws w g.keeps).agreed (Standing.agreed-in meaning laws w g.keeps).chunks c q (core_at c l) a.member_state f runs g.flush
                  (Standing.runs-in meaning w q a.member_state a.stands) a.promise;
              comes = comes-from w c l f t (x.0 ∷ []) x g own z.said complete q listed other a;
            }) (apart-from w c q l a.member_state g.stands a.stands other) z.others;
      }

  -- ---- all of them

  abbrev pub senders : List (Address × Report) → List Address
  senders reports = map (λ x. x.0) reports

  abbrev pub AreForeign : Address → List (Address × Report) → Type 0
  AreForeign c reports = AllByRecursion (λ x. same_address x.0 c ≡ false) reports

  pub report-for : (w : WorldModel S) (past : ℕ) (c : Address) (v : ViewId) (x : Address × Report) (xs : List (Address × Report)) → AreForeign c (x ∷ xs)
      → EachSound world_group (report_packets meaning laws c v (x ∷ xs)) → AreNext past (report_packets meaning laws c v (x ∷ xs)) w.history.pool
      → Standing.IsFor meaning w (past + 1) c (report_packet c v x)
  report-for w past c v x xs foreign sound next =
      record { there = next-first past (report_packet c v x) (report_packets meaning laws c v xs) w.history.pool next; sound = sound.0; goes = refl; other = foreign.0 }

  -- the first of them, where more are awaited
  pub record FirstTaken (w mid : WorldModel S) (c : Address) (l : MemberState S) (f : FlushModel) (t : ViewState) (past : ℕ) (x y : Address × Report) (ys : List (Address × Report)) : Type 0 where
    pub gathers : Gathers mid c (flushing (with_report f x) l) (with_report f x) t (senders (y ∷ ys))
    pub pool : mid.history.pool ≡ w.history.pool
    pub next : AreNext (past + 1) (report_packets meaning laws c f.proposal (y ∷ ys)) mid.history.pool
    pub distinct : is_distinct (senders (y ∷ ys)) ≡ true

  pub first-taken : (x y : Address × Report) (ys : List (Address × Report)) (past : ℕ) (w mid : WorldModel S) (c : Address) (l : MemberState S) (f : FlushModel) (t : ViewState)
      → Gathers w c l f t (senders (x ∷ y ∷ ys)) → is_distinct (senders (x ∷ y ∷ ys)) ≡ true → AreForeign c (x ∷ y ∷ ys) → EachSound world_group (report_packets meaning laws c f.proposal (x ∷ y ∷ ys))
      → AreNext past (report_packets meaning laws c f.proposal (x ∷ y ∷ ys)) w.history.pool → Plays meaning w (Deliver (past + 1)) mid → FirstTaken w mid c l f t past x y ys
  first-taken x y ys past w mid c l f t g distinct foreign sound next plays =
      let m = report_packet c f.proposal x in
      let rest = report_packets meaning laws c f.proposal (y ∷ ys) in
      let parts = and_parts (not (stands_in x.0 (y.0 ∷ senders ys))) (is_distinct (y.0 ∷ senders ys)) distinct in
      let z = taken w mid c l f t x (y.0 ∷ senders ys) (past + 1) g (not-true (stands_in x.0 (y.0 ∷ senders ys)) parts.0) (report-for w past c f.proposal x (y ∷ ys) foreign sound next) plays in
      let on = waits-on-still w mid c l f t x y.0 (senders ys) g z.0 z.1 in
      record {
        gathers = on.0;
        pool = on.1;
        next = subst (AreNext (past + 1) rest) (append-nil w.history.pool ∙ sym on.1) (next-rest past m rest w.history.pool [] next);
        distinct = parts.1;
      }

  pub all-report : (xs : List (Address × Report)) (x : Address × Report) (past : ℕ) (w new : WorldModel S) (c : Address) (l : MemberState S) (f : FlushModel) (t : ViewState)
      → Gathers w c l f t (x.0 ∷ senders xs) → f.proposal.creator ≡ c → is_distinct (x.0 ∷ senders xs) ≡ true → AreForeign c (x ∷ xs) → EachSound world_group (report_packets meaning laws c f.proposal (x ∷ xs))
      → AreNext past (report_packets meaning laws c f.proposal (x ∷ xs)) w.history.pool → Delivers meaning past (length (report_packets meaning laws c f.proposal (x ∷ xs))) w new
      → Finished w.history.pool new c (proposed f)
  all-report [] x past w new c l f t g own distinct foreign sound next all =
      let d = delivers-next meaning past 1 0 w new refl all in
      let mid : new ≡ d.mid = delivers-none meaning (past + 1) 0 d.mid new refl d.rest in
      let z = taken w d.mid c l f t x [] (past + 1) g refl (report-for w past c f.proposal x [] foreign sound next) d.plays in
      subst (λ (u : WorldModel S). Finished w.history.pool u c (proposed f)) (sym mid) (finished w d.mid c l f t x g own z.0 z.1)
  all-report (y ∷ ys) x past w new c l f t g own distinct foreign sound next all =
      let rest = report_packets meaning laws c f.proposal (y ∷ ys) in
      let d = delivers-next meaning past (suc (length rest)) (length rest) w new refl all in
      let z = first-taken x y ys past w d.mid c l f t g distinct foreign sound next d.plays in
      let r = all-report ys y (past + 1) d.mid new c (flushing (with_report f x) l) (with_report f x) t z.gathers own z.distinct foreign.1 sound.1 z.next d.rest in
      subst (λ (pool : List (List ℕ)). Finished pool new c (proposed f)) z.pool r
