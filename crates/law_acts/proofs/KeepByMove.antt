-- One member moves: what is new of the history, and of the member, is all that is to be shown.
use Rattle.std.proofs.Common.{◌≡◌, ℕ, Bool, true, false, cond, Option, Some, None, List, ◌++◌, refl, sym, ap, ◌∙◌, subst, is_some}
use Rattle.std.specs.Prelude.{slice_get}
use Rattle.std.specs.Option.{option_map, option_eq}
use Rattle.address.specs.Ids.{Address, ViewId, same_address, same_view_id}
use Rattle.wire_values.specs.Values as wire
use Rattle.wire_values.specs.Posted.{Posted}
use Rattle.state_transfer.specs.Meanings.{Meaning}
use Rattle.trace_props.specs.declared.event.Install.{Install}
use Rattle.trace_props.specs.Observed.{entry_of}
use Rattle.trace_props.specs.State.{entry_state}
use Rattle.address.proofs.SameIds.{same_address-true}
use Rattle.law_acts.specs.Words.{list_of}
use Rattle.law_acts.specs.Histories.{History, report_of}
use Rattle.law_acts.specs.Histories as histories
use Rattle.law_acts.specs.Given.{Tells}
use Rattle.law_acts.specs.Cores.{Core}
use Rattle.law_acts.specs.Steps.{System, put}
use Rattle.law_acts.specs.Packets.{PacketFact, GivesState, BeginsWith, state_with}
use Rattle.law_acts.specs.Members.{MemberFact}
use Rattle.law_acts.specs.Invariant.{TraceFact, EachPacket, EachEntry, StateFact, Invariant}
use Rattle.law_acts.proofs.Lists.{slice_get-split}
use Rattle.law_acts.proofs.KeepHistory.{Later}
use Rattle.law_acts.proofs.KeepPackets.{packet-later, is_entry-later, same-later}
use Rattle.law_acts.proofs.KeepOthers.{Only, OnlyState, member-other, state_with-later}
use Rattle.law_acts.proofs.RegistersHoldPackets.{install-fact}

-- ---- the families, later

pub packets-later : (h k : History) (more : List Posted) → Later h k → k.pool ≡ h.pool ++ more → EachPacket h
    → ((n : ℕ) (m : Posted) → slice_get more n ≡ Some m → PacketFact k m) → EachPacket k
packets-later h k more m pool old new n x at =
    slice_get-split (PacketFact k) h.pool more (λ j y a. packet-later h k y m (old j y a)) new n x (sym (ap (λ l. slice_get l n) pool) ∙ at)

-- nobody installed anything
pub record NoInstall (h k : History) : Type 0 where
  pub entry : (q : Address) (w : ViewId) → entry_of q w k.trace ≡ entry_of q w h.trace
  pub install : (w : ViewId) (q : Address) → histories.install_of w q k.pool ≡ histories.install_of w q h.pool

pub entries-later : (h k : History) → Later h k → NoInstall h k → EachEntry h → EachEntry k
entries-later h k m none each q w e there = let was = sym (none.entry q w) ∙ there in is_entry-later h k q w e m was (each q w e was)

state-same : {S : Type 0} (meaning : Meaning S) (w : ViewId) (h k : History)
    → ((v : ViewId) (s : S) → entry_state meaning v h.trace ≡ Some s → entry_state meaning v k.trace ≡ Some s)
    → is_some (entry_state meaning w h.trace) ≡ true → entry_state meaning w k.trace ≡ entry_state meaning w h.trace
state-same meaning w h k kept there = same-later (entry_state meaning w h.trace) (entry_state meaning w k.trace) (λ s e. kept w s e) there

begins-by : {S : Type 0} (o a b : Option S) → ((s : S) → a ≡ Some s → b ≡ Some s) → a ≡ o → is_some o ≡ true → b ≡ o
begins-by None a b kept e there = absurd (let n : false ≡ true = there in cc)
begins-by (Some s) a b kept e there = kept s e

-- the states given, and those with which views begin
pub given-later : {S : Type 0} (meaning : Meaning S) (h k : History) (w : ViewId) (q : Address) (i : wire.Install)
    → Later h k → ((v : ViewId) (s : S) → entry_state meaning v h.trace ≡ Some s → entry_state meaning v k.trace ≡ Some s)
    → EachPacket h → ((e : Install) → entry_of i.view.id.creator i.view.id h.trace ≡ Some e → is_some (entry_state meaning i.view.id h.trace) ≡ true)
    → histories.install_of w q h.pool ≡ Some i → GivesState meaning h q i → GivesState meaning k q i
given-later {S} meaning h k w q i m kept each there install x e r entry report =
    let by = install-fact h w q i each install in
    let led = by.fact.led in
    let was : entry_of i.view.id.creator i.view.id h.trace ≡ Some e =
    sym (same-later (entry_of i.view.id.creator i.view.id h.trace) (entry_of i.view.id.creator i.view.id k.trace) (λ z y. m.entry i.view.id.creator i.view.id z y) led.entered) ∙ entry in
    let said : report_of q i.view.id h.pool ≡ Some r =
    sym (same-later (report_of q i.view.id h.pool) (report_of q i.view.id k.pool) (λ z y. m.report q i.view.id z y) (led.answered q i by.fact.one)) ∙ report in
    subst (λ (o : Option S). Tells i.state (cond (option_eq same_view_id r.previous e.previous) None (option_map meaning.encode o))) (sym (state-same meaning i.view.id h k kept (there e was))) (x e r was said)

pub begins-later : {S : Type 0} (meaning : Meaning S) (h k : History) (w : ViewId) (e : Install) → Later h k
    → ((v : ViewId) (s : S) → entry_state meaning v h.trace ≡ Some s → entry_state meaning v k.trace ≡ Some s)
    → entry_of w.creator w h.trace ≡ Some e → is_some (entry_state meaning w h.trace) ≡ true
    → BeginsWith meaning h.trace w e → BeginsWith meaning k.trace w e
begins-later meaning h k w e m kept entry there x v from =
    ap (λ l. state_with meaning v l k.trace) (m.left w.creator v w e entry from)
    ∙ begins-by (entry_state meaning w h.trace) (state_with meaning v (list_of w.creator v h.trace) h.trace)
    (state_with meaning v (list_of w.creator v h.trace) k.trace)
    (λ s y. state_with-later meaning v (list_of w.creator v h.trace) h.trace k.trace s (λ z n. kept v z n) y)
    (x v from) there
    ∙ sym (state-same meaning w h k kept there)

-- where no view's coordinator installed anything, and nobody was instructed to
pub states-kept : {S : Type 0} (meaning : Meaning S) (h k : History) → Later h k
    → ((v : ViewId) → entry_state meaning v k.trace ≡ entry_state meaning v h.trace)
    → ((w : ViewId) → entry_of w.creator w k.trace ≡ entry_of w.creator w h.trace)
    → ((w : ViewId) (q : Address) → histories.install_of w q k.pool ≡ histories.install_of w q h.pool) → EachPacket h
    → StateFact meaning h → StateFact meaning k
states-kept meaning h k m same coordinators same_installs each x = record {
  there = λ w e entry. ap is_some (same w) ∙ x.there w e (sym (coordinators w) ∙ entry);
  given = λ w q i install.
      let was = sym (same_installs w q) ∙ install in
      given-later meaning h k w q i m (λ v s y. same v ∙ y) each (λ e y. x.there i.view.id e y) was (x.given w q i was);
  begins = λ w e entry.
      let was = sym (coordinators w) ∙ entry in
      begins-later meaning h k w e m (λ v s y. same v ∙ y) was (x.there w e was) (x.begins w e was);
  are = λ w s y. x.are w s (sym (same w) ∙ y);
}

pub states-later : {S : Type 0} (meaning : Meaning S) (h k : History) → Later h k
    → ((v : ViewId) → entry_state meaning v k.trace ≡ entry_state meaning v h.trace) → NoInstall h k → EachPacket h
    → StateFact meaning h → StateFact meaning k
states-later meaning h k m same none each x =
    states-kept meaning h k m same (λ w. none.entry w.creator w) none.install each x

-- ---- one member moves

-- what is to be shown when a member moves: all that is new of the history, and what then holds of it, if it still runs
pub record Moves {S : Type 0} (meaning : Meaning S) (p : Address) (h k : History) (o : Option (Core S)) : Type 0 where
  pub later : Later h k
  pub only : Only p h k
  pub state : OnlyState meaning p h.trace k.trace
  pub trace : TraceFact meaning k
  pub packets : EachPacket k
  pub entries : EachEntry k
  pub states : StateFact meaning k
  pub member : (c : Core S) → o ≡ Some c → MemberFact meaning k p c

running-by : {S : Type 0} (b : Bool) (meaning : Meaning S) (s : System S)
    (p q : Address) (k : History) (o : Option (Core S)) (c : Core S) → same_address q p ≡ b → Invariant meaning s
    → Moves meaning p s.history k o → cond b o (s.running q) ≡ Some c → MemberFact meaning k q c
running-by true meaning s p q k o c test i m there =
    subst (λ (r : Address). MemberFact meaning k r c) (sym (same_address-true q p test)) (m.member c there)
running-by false meaning s p q k o c test i m there =
    member-other meaning p q s.history k c test m.later m.only m.state (i.members q c there)

pub moved : {S : Type 0} (meaning : Meaning S) (s : System S) (p : Address)
    (k : History) (o : Option (Core S)) → Invariant meaning s → Moves meaning p s.history k o
    → Invariant meaning (record { running = put p o s.running; history = k })
moved meaning s p k o i m = record {
  trace = m.trace;
  packets = m.packets;
  entries = m.entries;
  states = m.states;
  members = λ q c there. running-by (same_address q p) meaning s p q k o c refl i m there;
}
