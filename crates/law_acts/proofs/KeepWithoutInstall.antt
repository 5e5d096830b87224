-- Steps by which nobody goes into a view: what they keep.
use Rattle.std.proofs.Common.{◌≡◌, ℕ, Bool, true, false, cond, Option, Some, None, List, [], ◌∷◌, ◌++◌, refl, sym, ap, ◌∙◌}
use Rattle.std.specs.Prelude.{slice_get}
use Rattle.std.specs.List.{position_from}
use Rattle.std.proofs.lemmas.Bool.{cond-false}
use Rattle.std.proofs.lemmas.Option.{none-some}
use Rattle.std.proofs.lemmas.List.{append-nil}
use Rattle.address.specs.Ids.{Address, ViewId, same_address}
use Rattle.wire_values.specs.Values as wire
use Rattle.wire_values.specs.Posted.{Posted}
use Rattle.state_transfer.specs.Meanings.{Meaning}
use Rattle.trace_props.specs.declared.event.Event.{Event}
use Rattle.trace_props.specs.declared.event.Event.TheVariants.{Started, Sent, Delivered, Blocked, Installed, Left, Crashed}
use Rattle.trace_props.specs.Observed.{member_of, has_started, install_of}
use Rattle.trace_props.specs.State.{installs, entry_state}
use Rattle.trace_props.specs.Verdicts.{GoesOn}
use Rattle.trace_props.proofs.DeliveredGrow.{enters, register-still}
use Rattle.trace_props.proofs.RuleOfEntry.{entry_state-stays, entry_state-none, entry_state-new}
use Rattle.law_acts.specs.Histories.{History, install_in}
use Rattle.law_acts.specs.Histories as histories
use Rattle.law_acts.specs.Cores.{Core}
use Rattle.law_acts.specs.Steps.{System, grown}
use Rattle.law_acts.specs.Packets.{PacketFact}
use Rattle.law_acts.specs.Members.{MemberFact}
use Rattle.law_acts.specs.Invariant.{TraceFact, Invariant}
use Rattle.law_acts.proofs.Lists.{first_of-still}
use Rattle.law_acts.proofs.KeepHistory.{Later, later-refl, later-trans, later-packets, later-event}
use Rattle.law_acts.proofs.KeepOthers.{Only, OnlyState, IsFrom, only-refl, only-trans, only-event, only-packets}
use Rattle.law_acts.proofs.KeepTrace.{IsProper, stands-of, views-of, trace-push, trace-packets, only-state, only_state-refl, only_state-trans}
use Rattle.law_acts.proofs.KeepByMove.{NoInstall, Moves, packets-later, entries-later, states-later}

-- from one history to a later one only p did something, and nobody went into a view or was instructed to
pub record Quiet {S : Type 0} (meaning : Meaning S) (p : Address) (h k : History) : Type 0 where
  pub later : Later h k
  pub only : Only p h k
  pub state : OnlyState meaning p h.trace k.trace
  pub trace : TraceFact meaning k
  pub none : NoInstall h k
  pub begun : (v : ViewId) → entry_state meaning v k.trace ≡ entry_state meaning v h.trace

module _ {S : Type 0} (meaning : Meaning S) where
  pub quiet-refl : (p : Address) (h : History) → TraceFact meaning h → Quiet meaning p h h
  quiet-refl p h t = record {
    later = later-refl h;
    only = only-refl p h;
    state = only_state-refl meaning p h.trace;
    trace = t;
    none = record { entry = λ q w. refl; install = λ w q. refl };
    begun = λ v. refl;
  }

  pub quiet-trans : (p : Address) (h k l : History) → Quiet meaning p h k → Quiet meaning p k l → Quiet meaning p h l
  quiet-trans p h k l a b = record {
    later = later-trans h k l a.later b.later;
    only = only-trans p h k l a.only b.only;
    state = only_state-trans meaning p h.trace k.trace l.trace a.state b.state;
    trace = b.trace;
    none = record { entry = λ q w. b.none.entry q w ∙ a.none.entry q w; install = λ w q. b.none.install w q ∙ a.none.install w q };
    begun = λ v. b.begun v ∙ a.begun v;
  }

  -- ONE EVENT

  pub no-entry : (v : ViewId) (t : List Event) (x : Event) → installs v.creator v x ≡ false → (o : Option ℕ) → position_from (installs v.creator v) 0 t ≡ o
      → entry_state meaning v (t ++ x ∷ []) ≡ entry_state meaning v t
  no-entry v t x other None at =
      entry_state-new meaning v t x at ∙ cond-false (installs v.creator v x) _ None other ∙ sym (entry_state-none meaning v t at)
  no-entry v t x other (Some k) at = entry_state-stays meaning v t (x ∷ []) k at

  installs-none : (p : Address) (v : ViewId) (x : Event) → install_of x ≡ None → installs p v x ≡ false
  installs-none p v (Started q) e = refl
  installs-none p v (Sent m) e = refl
  installs-none p v (Delivered d) e = refl
  installs-none p v (Blocked q) e = refl
  installs-none p v (Installed i) e = absurd (none-some i (sym e))
  installs-none p v (Left q) e = refl
  installs-none p v (Crashed q) e = refl

  pub quiet-event : (p : Address) (h : History) (x : Event) → member_of x ≡ p → install_of x ≡ None → TraceFact meaning h → GoesOn meaning h.trace x → IsProper x
      → Quiet meaning p h (record { pool = h.pool; trace = h.trace ++ x ∷ [] })
  quiet-event p h x mine none t goes proper = record {
    later = later-event h x (views-of meaning h t) (stands-of meaning h.trace x goes);
    only = only-event p h x mine;
    state = only-state meaning p h.trace x mine;
    trace = trace-push meaning h x t goes proper;
    none = record { entry = λ q w. register-still (enters q w) h.trace x none; install = λ w q. refl };
    begun = λ v. no-entry v h.trace x (installs-none v.creator v x none) (position_from (installs v.creator v) 0 h.trace) refl;
  }

  -- PACKETS

  -- a packet that instructs nobody to go into a view
  pub instructs-none : (w : ViewId) (q : Address) (pool more : List Posted) → ((k : ℕ) (m : Posted) → slice_get more k ≡ Some m → install_in w m.body ≡ None)
      → histories.install_of w q (pool ++ more) ≡ histories.install_of w q pool
  unfolding histories.install_of
  instructs-none w q pool more none = first_of-still _ pool more (λ k m at. by (same_address m.destination q) (install_in w m.body) (none k m at))
    where
      by : (b : Bool) (o : Option wire.Install) → o ≡ None → cond b o None ≡ None
      by true o e = e
      by false o e = refl

  pub quiet-packets : (p : Address) (h : History) (more : List Posted) → has_started p h.trace ≡ true → ((k : ℕ) (m : Posted) → slice_get more k ≡ Some m → IsFrom p m)
      → ((k : ℕ) (m : Posted) (w : ViewId) → slice_get more k ≡ Some m → install_in w m.body ≡ None) → TraceFact meaning h
      → Quiet meaning p h (record { pool = h.pool ++ more; trace = h.trace })
  quiet-packets p h more started from none t = record {
    later = later-packets h more (record { same = λ w q there. instructs-none w q h.pool more (λ k m at. none k m w at) });
    only = only-packets p h more from;
    state = only_state-refl meaning p h.trace;
    trace = trace-packets meaning h more p t started (λ k m at. (from k m at).source);
    none = record { entry = λ q w. refl; install = λ w q. instructs-none w q h.pool more (λ k m at. none k m w at) };
    begun = λ v. refl;
  }

  -- A HISTORY TO WHICH NOTHING IS ADDED

  pub grown-none : (h : History) → grown h [] [] ≡ h
  grown-none h =
      ap {B = History} (λ (l : List Posted). record { pool = l; trace = h.trace ++ [] }) (append-nil h.pool)
      ∙ ap {B = History} (λ (t : List Event). record { pool = h.pool; trace = t }) (append-nil h.trace)

  pub grown-trace : (h : History) (x : List Event) → grown h [] x ≡ record { pool = h.pool; trace = h.trace ++ x }
  grown-trace h x = ap {B = History} (λ (l : List Posted). record { pool = l; trace = h.trace ++ x }) (append-nil h.pool)

  pub grown-pool : (h : History) (more : List Posted) → grown h more [] ≡ record { pool = h.pool ++ more; trace = h.trace }
  grown-pool h more = ap {B = History} (λ (t : List Event). record { pool = h.pool ++ more; trace = t }) (append-nil h.trace)

  -- ONE MEMBER MOVES

  pub quiet-moves : (s : System S) (p : Address) (k : History) (more : List Posted) (o : Option (Core S)) → Invariant meaning s
      → Quiet meaning p s.history k → k.pool ≡ s.history.pool ++ more → ((n : ℕ) (m : Posted) → slice_get more n ≡ Some m → PacketFact k m)
      → ((c : Core S) → o ≡ Some c → MemberFact meaning k p c) → Moves meaning p s.history k o
  quiet-moves s p k more o i quiet pool new member = record {
    later = quiet.later;
    only = quiet.only;
    state = quiet.state;
    trace = quiet.trace;
    packets = packets-later s.history k more quiet.later pool i.packets new;
    entries = entries-later s.history k quiet.later quiet.none i.entries;
    states = states-later meaning s.history k quiet.later quiet.begun quiet.none i.packets i.states;
    member = member;
  }
