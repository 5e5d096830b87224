-- A member makes a view: what its install keeps of the states, of what was put out, and of all others.
use Rattle.std.proofs.Common.{◌≡◌, ℕ, Bool, true, false, cond, Option, Some, None, List, [], ◌∷◌, ◌++◌, filter, refl, sym, ap, ◌∙◌, subst, is_some, ◌⊎◌, inl, inr}
use Rattle.std.specs.Prelude.{slice_get}
use Rattle.std.specs.Option.{option_map, option_or}
use Rattle.std.proofs.lemmas.Bool.{and_right, cond-true}
use Rattle.std.proofs.lemmas.Option.{none-some, same_Some}
use Rattle.std.proofs.lemmas.List.{append-nil}
use Rattle.address.specs.Ids.{Address, ViewId, same_address, same_view_id}
use Rattle.view.specs.Members.{stands_in}
use Rattle.wire_values.specs.Values as wire
use Rattle.wire_values.specs.Posted.{Posted}
use Rattle.state_transfer.specs.Meanings.{Meaning}
use Rattle.trace_props.specs.declared.event.Event.{Event}
use Rattle.trace_props.specs.declared.event.Event.TheVariants.{Installed}
use Rattle.trace_props.specs.declared.event.Install.{Install}
use Rattle.trace_props.specs.Observed.{entry_of}
use Rattle.trace_props.specs.Rules.{IsRunning, HasRisingViews}
use Rattle.trace_props.specs.State.{state_of, entry_state}
use Rattle.address.proofs.SameIds.{same_address-from, same_view_id-true}
use Rattle.trace_props.proofs.DeliveredGrow.{enters, register-push}
use Rattle.law_acts.specs.Histories.{History, install_of, goes_from, goes_with}
use Rattle.law_acts.specs.Cores.{Core}
use Rattle.law_acts.specs.Acts.{gone_into}
use Rattle.law_acts.specs.Steps.{System, put}
use Rattle.law_acts.specs.Packets.{PacketFact, AllAnswered, IsEntry, GivesState, BeginsWith}
use Rattle.law_acts.specs.Members.{LiesBelow, KeepsInstructions, MemberFact}
use Rattle.law_acts.specs.Invariant.{EachPacket, StateFact, Invariant}
use Rattle.law_acts.proofs.KeepHistory.{Later, later-trans, later-packets, later-event}
use Rattle.law_acts.proofs.KeepPackets.{there-later, is_entry-later}
use Rattle.law_acts.proofs.KeepOthers.{IsFrom, only-trans, only-packets, only-event}
use Rattle.law_acts.proofs.KeepTrace.{stands-of, views-of, trace-push, trace-packets, only-state, only_state-trans, entry_state-kept}
use Rattle.law_acts.proofs.KeepByMove.{packets-later, entries-later, states-later, given-later, begins-later, moved}
use Rattle.law_acts.proofs.KeepWithoutInstall.{Quiet}
use Rattle.law_acts.proofs.KeepByInstall.{entry-now, entries-installed}
use Rattle.law_acts.proofs.EnteredViews.{arrives}
use Rattle.law_acts.proofs.FirstToInstall.{MayMake, makes-goes, kept-state, made-state, other-state}
use Rattle.address.proofs.Plain.{option_or-none}

-- the history after packets and an install
abbrev pub made_on : History → List Posted → Install → History
made_on h more i = record { pool = h.pool ++ more; trace = h.trace ++ Installed i ∷ [] }

-- installs of other views are as before
entry-other : (t : List Event) (i : Install) (q : Address) (u : ViewId) → same_view_id i.view.id u ≡ false → entry_of q u (t ++ Installed i ∷ []) ≡ entry_of q u t
entry-other t i q u other =
    register-push (enters q u) t i
    ∙ ap (λ b. option_or (entry_of q u t) (cond b (Some i) None)) (and_right (same_address i.member q) (same_view_id i.view.id u) other)
    ∙ option_or-none (entry_of q u t)

-- the coordinator goes from where it says
pub coordinator-goes : (h : History) (w : ViewId) (p : Address) (e : Install) → same_address p w.creator ≡ true → entry_of p w h.trace ≡ Some e → goes_from h w p ≡ Some e.previous
coordinator-goes h w p e mine entry = cond-true (same_address p w.creator) _ _ mine ∙ ap (option_map (λ (z : Install). z.previous)) entry

module _ {S : Type 0} (meaning : Meaning S) where
  -- ---- states

  begun-later : (t : List Event) (i : Install) (w : ViewId) → is_some (entry_state meaning w t) ≡ true → is_some (entry_state meaning w (t ++ Installed i ∷ [])) ≡ true
  begun-later t i w there =
      there-later (entry_state meaning w t) (entry_state meaning w (t ++ Installed i ∷ []))
      (λ s e. entry_state-kept meaning w t (Installed i ∷ []) s e) there

  there-by : (b : Bool) (h : History) (i : Install) (w : ViewId) (e : Install) → same_view_id i.view.id w ≡ b → MayMake h.trace i
      → StateFact meaning h → entry_of w.creator w (h.trace ++ Installed i ∷ []) ≡ Some e
      → is_some (entry_state meaning w (h.trace ++ Installed i ∷ [])) ≡ true
  there-by true h i w e test may x entry =
      ap (λ (u : ViewId). is_some (entry_state meaning u (h.trace ++ Installed i ∷ []))) (sym (same_view_id-true i.view.id w test))
      ∙ ap is_some (made-state meaning h.trace i may)
  there-by false h i w e test may x entry = begun-later h.trace i w (x.there w e (sym (entry-other h.trace i w.creator w test) ∙ entry))

  -- the new install is its coordinator's
  made-entry : (h : History) (i : Install) → MayMake h.trace i → entry_of i.view.id.creator i.view.id (h.trace ++ Installed i ∷ []) ≡ Some i
  made-entry h i may = ap (λ q. entry_of q i.view.id (h.trace ++ Installed i ∷ [])) (sym may.mine) ∙ entry-now h i (may.new i.member)

  begins-by : (b : Bool) (h k : History) (i : Install) (w : ViewId) (e : Install) → same_view_id i.view.id w ≡ b → k.trace ≡ h.trace ++ Installed i ∷ [] → MayMake h.trace i → Later h k
      → BeginsWith meaning k.trace i.view.id i → StateFact meaning h → entry_of w.creator w k.trace ≡ Some e
      → BeginsWith meaning k.trace w e
  begins-by true h k i w e test trace may m begins x entry =
      let same = same_view_id-true i.view.id w test in
      let there : entry_of w.creator w k.trace ≡ Some i = ap (λ (u : ViewId). entry_of u.creator u k.trace) (sym same) ∙ ap (entry_of i.view.id.creator i.view.id) trace ∙ made-entry h i may in
      subst (λ (y : Install). BeginsWith meaning k.trace w y) (same_Some i e (sym there ∙ entry))
      (subst (λ (u : ViewId). BeginsWith meaning k.trace u i) same begins)
  begins-by false h k i w e test trace may m begins x entry =
      let was = sym (entry-other h.trace i w.creator w test) ∙ ap (entry_of w.creator w) (sym trace) ∙ entry in
      begins-later meaning h k w e m
      (λ v s y. ap (entry_state meaning v) trace ∙ entry_state-kept meaning v h.trace (Installed i ∷ []) s y)
      was (x.there w e was) (x.begins w e was)

  are-by : (b : Bool) (h : History) (i : Install) (w : ViewId) (s : S) → same_view_id i.view.id w ≡ b → MayMake h.trace i → meaning.is_state (state_of meaning i.member h.trace)
      → StateFact meaning h → entry_state meaning w (h.trace ++ Installed i ∷ []) ≡ Some s → meaning.is_state s
  are-by true h i w s test may is x e =
      let there = ap (λ (u : ViewId). entry_state meaning u (h.trace ++ Installed i ∷ [])) (sym (same_view_id-true i.view.id w test)) ∙ made-state meaning h.trace i may in
      subst meaning.is_state (same_Some (state_of meaning i.member h.trace) s (sym there ∙ e)) is
  are-by false h i w s test may is x e = x.are w s (sym (other-state meaning h.trace i w test) ∙ e)

  -- what holds of states holds after a coordinator's install
  pub states-made : (h : History) (more : List Posted) (i : Install) → MayMake h.trace i → Later h (made_on h more i) → EachPacket h
      → meaning.is_state (state_of meaning i.member h.trace)
      → ((w : ViewId) (q : Address) (j : wire.Install) → install_of w q (h.pool ++ more) ≡ Some j → (install_of w q h.pool ≡ Some j) ⊎ GivesState meaning (made_on h more i) q j)
      → BeginsWith meaning (h.trace ++ Installed i ∷ []) i.view.id i
      → StateFact meaning h → StateFact meaning (made_on h more i)
  states-made h more i may m each is gives begins x = record {
    there = λ w e entry. there-by (same_view_id i.view.id w) h i w e refl may x entry;
    given = λ w q j there. by w q j (gives w q j there);
    begins = λ w e entry. begins-by (same_view_id i.view.id w) h (made_on h more i) i w e refl refl may m begins x entry;
    are = λ w s e. are-by (same_view_id i.view.id w) h i w s refl may is x e;
  }
    where
      by : (w : ViewId) (q : Address) (j : wire.Install) → (install_of w q h.pool ≡ Some j) ⊎ GivesState meaning (made_on h more i) q j
          → GivesState meaning (made_on h more i) q j
      by w q j (inl old) =
          given-later meaning h (made_on h more i) w q j m (λ v s y. entry_state-kept meaning v h.trace (Installed i ∷ []) s y) each
          (λ e y. x.there j.view.id e y) old (x.given w q j old)
      by w q j (inr new) = new

  -- ---- all of it

  -- what is to be shown; the history is that right before the act's packets and the install
  pub record Makes (h : History) (c : Core S) (more : List Posted) (i : Install) (z : S) (kept : List (Address × wire.Install)) : Type 0 where
    pub itself : i.member ≡ c.me
    pub may : MayMake h.trace i
    pub state : state_of meaning c.me h.trace ≡ z
    pub is : meaning.is_state z
    -- the packets are the coordinator's, and instruct nobody to go into another view
    pub from : (n : ℕ) (m : Posted) → slice_get more n ≡ Some m → IsFrom c.me m
    pub other_installs : (w : ViewId) (q : Address) → same_view_id i.view.id w ≡ false → install_of w q (h.pool ++ more) ≡ install_of w q h.pool
    pub below : LiesBelow (h.pool ++ more) c.me (Some i.view)
    pub keeps : KeepsInstructions (h.pool ++ more) c.me kept i.view
    -- afterwards
    pub packets : (n : ℕ) (m : Posted) → slice_get more n ≡ Some m → PacketFact (made_on h more i) m
    pub complete : AllAnswered (made_on h more i) i.view.id i.view.members
    pub together : i.together ≡ filter (goes_with (made_on h more i) i.view.id i.previous) i.view.members
    pub gives : (w : ViewId) (q : Address) (j : wire.Install) → install_of w q (h.pool ++ more) ≡ Some j
        → (install_of w q h.pool ≡ Some j) ⊎ GivesState meaning (made_on h more i) q j
    pub begins : BeginsWith meaning (h.trace ++ Installed i ∷ []) i.view.id i

  not-it : (b : Bool) (t : List Event) (i : Install) (w : ViewId) → same_view_id i.view.id w ≡ b → MayMake t i → is_some (entry_of w.creator w t) ≡ true
      → same_view_id i.view.id w ≡ false
  not-it false t i w test may there = test
  not-it true t i w test may there =
      let same = same_view_id-true i.view.id w test in
      absurd (let n : false ≡ true = sym (ap (λ (u : ViewId). is_some (entry_of u.creator u t)) (sym same) ∙ ap is_some (may.new i.view.id.creator)) ∙ there in cc)

  -- the packets say nothing new of a view that its coordinator has installed
  packed-later : (h : History) (more : List Posted) (i : Install) → MayMake h.trace i
      → ((w : ViewId) (q : Address) → same_view_id i.view.id w ≡ false → install_of w q (h.pool ++ more) ≡ install_of w q h.pool) → Later h (record { pool = h.pool ++ more; trace = h.trace })
  packed-later h more i may other_installs = later-packets h more (record { same = λ u q there. other_installs u q (not-it (same_view_id i.view.id u) h.trace i u refl may there) })

  -- so the history only goes on
  pub made-later : (h : History) (more : List Posted) (i : Install) → HasRisingViews h.trace → MayMake h.trace i
      → ((w : ViewId) (q : Address) → same_view_id i.view.id w ≡ false → install_of w q (h.pool ++ more) ≡ install_of w q h.pool) → Later h (made_on h more i)
  made-later h more i views may other_installs =
      let k2 : History = record { pool = h.pool ++ more; trace = h.trace } in
      later-trans h k2 (made_on h more i) (packed-later h more i may other_installs) (later-event k2 (Installed i) views may.running)

  -- the member that makes a view keeps the invariant
  pub made : (s : System S) (c : Core S) (h : History) (more : List Posted) (i : Install) (z : S) (kept : List (Address × wire.Install)) (kept_state : Option (List ℕ)) → Invariant meaning s
      → Quiet meaning c.me s.history h → h.pool ≡ s.history.pool → Makes h c more i z kept
      → Invariant meaning (record { running = put c.me (Some (gone_into i.view z kept kept_state c)) s.running; history = made_on h more i })
  made s c h more i z kept kept_state inv quiet pool x =
      let t = h.trace in
      let w = i.view.id in
      let may = x.may in
      let k2 : History = record { pool = h.pool ++ more; trace = t } in
      let k = made_on h more i in
      let each = packets-later s.history h [] quiet.later (pool ∙ sym (append-nil s.history.pool)) inv.packets (λ n m at. absurd (none-some m at)) in
      let entries = entries-later s.history h quiet.later quiet.none inv.entries in
      let states = states-later meaning s.history h quiet.later quiet.begun quiet.none inv.packets inv.states in
      let goes = makes-goes meaning t i may in
      let running = subst (λ (q : Address). IsRunning q t) x.itself may.running in
      let packed : Later h k2 = packed-later h more i may x.other_installs in
      let trace = trace-packets meaning h more c.me quiet.trace running.started (λ n m at. (x.from n m at).source) in
      let installed : Later k2 k = later-event k2 (Installed i) (views-of meaning k2 trace) (stands-of meaning t (Installed i) goes) in
      let later = later-trans h k2 k packed installed in
      let entry = made-entry h i may in
      let mine = same_address-from i.member w.creator may.mine in
      let new : IsEntry k i.member w i = record {
        led = ap is_some entry;
        from = coordinator-goes k w i.member i mine (entry-now k2 i (may.new i.member));
        complete = x.complete;
        together = x.together;
        instructed = λ other. absurd (let n : true ≡ false = sym mine ∙ other in cc);
        end = λ j v other install from. absurd (let n : true ≡ false = sym mine ∙ other in cc);
      } in
      let now = kept-state meaning t i may.nothing in
      let state = ap (λ q. state_of meaning q (t ++ Installed i ∷ [])) (sym x.itself) ∙ now ∙ ap (λ q. state_of meaning q t) x.itself ∙ x.state in
      let before : state_of meaning i.member t ≡ z = ap (λ q. state_of meaning q t) x.itself ∙ x.state in
      let owner : c.me ≡ w.creator = sym x.itself ∙ may.mine in
      moved meaning s c.me k (Some (gone_into i.view z kept kept_state c)) inv (record {
        later = later-trans s.history h k quiet.later later;
        only = only-trans c.me s.history h k quiet.only (only-trans c.me h k2 k (only-packets c.me h more x.from) (only-event c.me k2 (Installed i) x.itself));
        state = only_state-trans meaning c.me s.history.trace t k.trace quiet.state (only-state meaning c.me t (Installed i) x.itself);
        trace = trace-push meaning k2 (Installed i) trace goes tt;
        packets = packets-later h k more later refl each x.packets;
        entries = entries-installed k2 i installed (λ q u e y. is_entry-later h k2 q u e packed y (entries q u e y)) (may.new i.member) new;
        states = states-made h more i may later each (subst meaning.is_state (sym before) x.is) x.gives x.begins states;
        member = λ d e. subst (λ (y : Core S). MemberFact meaning k c.me y) (same_Some (gone_into i.view z kept kept_state c) d e)
            (arrives meaning k2 c i z kept kept_state (record {
              itself = x.itself;
              before = trace.before;
              running = running;
              new = may.new c.me;
              listed = subst (λ (q : Address). stands_in q i.view.members ≡ true) x.itself may.above.inside;
              first = ap (option_map (λ (y : Install). y.view)) entry;
              announced = λ other. absurd (let n : true ≡ false = sym (same_address-from w.creator c.me (sym owner)) ∙ other in cc);
              below = x.below;
              keeps = x.keeps;
              now = state;
              is = x.is;
              begins = made-state meaning t i may ∙ ap Some before;
            }));
      })
