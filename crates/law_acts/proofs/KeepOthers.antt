-- What one member does leaves what holds of every other.
use Rattle.std.proofs.Common.{◌≡◌, ℕ, Bool, true, false, cond, Option, Some, None, List, [], ◌∷◌, ◌++◌, length, refl, sym, ap, ◌∙◌, arith, is_some}
use Rattle.std.specs.Prelude.{slice_get, MatchBool}
use Rattle.std.specs.Option.{option_map, option_or}
use Rattle.std.proofs.lemmas.Bool.{cond-false, and_left}
use Rattle.std.proofs.lemmas.Option.{none-some}
use Rattle.address.specs.Ids.{Address, ViewId, same_address, same_view_id}
use Rattle.view.specs.Members.{View}
use Rattle.wire_values.specs.Values.{Entry, Report}
use Rattle.wire_values.specs.Values as wire
use Rattle.wire_values.specs.declared.packet.Body.{Body}
use Rattle.wire_values.specs.declared.packet.Body.TheVariants as bodies
use Rattle.wire_values.specs.Posted.{Posted}
use Rattle.state_transfer.specs.Meanings.{Meaning}
use Rattle.flush.specs.Flushes.{FlushModel}
use Rattle.trace_props.specs.declared.event.Event.{Event}
use Rattle.trace_props.specs.declared.event.Event.TheVariants.{Started, Sent, Delivered, Blocked, Installed, Left, Crashed}
use Rattle.trace_props.specs.declared.event.Numbered.{Numbered}
use Rattle.trace_props.specs.declared.event.Install.{Install}
use Rattle.trace_props.specs.Observed.{member_of, current_view, is_blocked, delivered_in, sent_in, own, entry_of}
use Rattle.trace_props.specs.Rules.{IsRunning}
use Rattle.trace_props.specs.State.{state_of, entry_state}
use Rattle.address.proofs.SameIds.{same_address-true, same_address-from, same_view_id-true}
use Rattle.trace_props.proofs.ObservedGrow.{has_started-stays, has_ended-other, current_view-other, is_blocked-other}
use Rattle.trace_props.proofs.DeliveredGrow.{enters, delivered_in-other, sent_in-other, register-push, register-still}
use Rattle.law_acts.specs.Words.{list_of, tally_of}
use Rattle.law_acts.specs.Histories.{History, flush_in, install_in, flush_of, report_of, install_of}
use Rattle.law_acts.specs.Cores.{ViewCore, Core, applied}
use Rattle.law_acts.specs.Packets.{state_with}
use Rattle.law_acts.specs.Members.{HasStanding, installed_as, IsInside, LiesBelow, RunsFlush, HasCounts, HasOwn, HasWindow, HasAcks, HasWaiting, ViewFact, MemberFact}
use Rattle.law_acts.proofs.Lists.{first_of-still}
use Rattle.law_acts.proofs.TalliesGrow.{list_of-other, tally_of-other}
use Rattle.law_acts.proofs.KeepHistory.{Later}
use Rattle.law_acts.proofs.KeepPackets.{sent-later, all_have-later, holds_order-later}

-- ---- another than one is another

pub other-of : (p q r : Address) → same_address r q ≡ true → same_address q p ≡ false → same_address r p ≡ false
other-of p q r same other = ap (λ x. same_address x p) (same_address-true r q same) ∙ other

-- ---- only one member did something

pub record Only (p : Address) (h k : History) : Type 0 where
  pub running : (q : Address) → same_address q p ≡ false → IsRunning q h.trace → IsRunning q k.trace
  pub current : (q : Address) → same_address q p ≡ false → current_view q k.trace ≡ current_view q h.trace
  pub block : (q : Address) → same_address q p ≡ false → is_blocked q k.trace ≡ is_blocked q h.trace
  pub list : (q : Address) (v : ViewId) → same_address q p ≡ false → list_of q v k.trace ≡ list_of q v h.trace
  pub delivered_same : (q : Address) (v : ViewId) → same_address q p ≡ false → delivered_in q v k.trace ≡ delivered_in q v h.trace
  pub sent : (q : Address) (v : ViewId) → same_address q p ≡ false → sent_in q v k.trace ≡ sent_in q v h.trace
  pub tally : (q : Address) (v : ViewId) → same_address q p ≡ false → tally_of q v k.trace ≡ tally_of q v h.trace
  pub entry : (q : Address) (v : ViewId) → same_address q p ≡ false → entry_of q v k.trace ≡ entry_of q v h.trace
  pub flush : (w : ViewId) → same_address w.creator p ≡ false → flush_of w k.pool ≡ flush_of w h.pool
  pub report : (q : Address) (w : ViewId) → same_address q p ≡ false → report_of q w k.pool ≡ report_of q w h.pool
  pub install : (w : ViewId) (q : Address) → same_address w.creator p ≡ false → install_of w q k.pool ≡ install_of w q h.pool

pub only-refl : (p : Address) (h : History) → Only p h h
only-refl p h = record {
  running = λ q o x. x;
  current = λ q o. refl;
  block = λ q o. refl;
  list = λ q v o. refl;
  delivered_same = λ q v o. refl;
  sent = λ q v o. refl;
  tally = λ q v o. refl;
  entry = λ q v o. refl;
  flush = λ w o. refl;
  report = λ q w o. refl;
  install = λ w q o. refl;
}

pub only-trans : (p : Address) (h k l : History) → Only p h k → Only p k l → Only p h l
only-trans p h k l a b = record {
  running = λ q o x. b.running q o (a.running q o x);
  current = λ q o. b.current q o ∙ a.current q o;
  block = λ q o. b.block q o ∙ a.block q o;
  list = λ q v o. b.list q v o ∙ a.list q v o;
  delivered_same = λ q v o. b.delivered_same q v o ∙ a.delivered_same q v o;
  sent = λ q v o. b.sent q v o ∙ a.sent q v o;
  tally = λ q v o. b.tally q v o ∙ a.tally q v o;
  entry = λ q v o. b.entry q v o ∙ a.entry q v o;
  flush = λ w o. b.flush w o ∙ a.flush w o;
  report = λ q w o. b.report q w o ∙ a.report q w o;
  install = λ w q o. b.install w q o ∙ a.install w q o;
}

-- ---- one event more

pub not-another : (p q r : Address) → r ≡ p → same_address q p ≡ false → same_address r q ≡ false
not-another p q r same other = by (same_address r q) refl
  where
    by : (b : Bool) → same_address r q ≡ b → same_address r q ≡ false
    by true e = absurd (let n : true ≡ false = sym (same_address-from q p (sym (same_address-true r q e) ∙ same)) ∙ other in cc)
    by false e = e

entry_of-other : (q : Address) (v : ViewId) (t : List Event) (h : Event) → same_address (member_of h) q ≡ false → entry_of q v (t ++ h ∷ []) ≡ entry_of q v t
entry_of-other q v t (Started x) o = register-still (enters q v) t (Started x) refl
entry_of-other q v t (Sent x) o = register-still (enters q v) t (Sent x) refl
entry_of-other q v t (Delivered x) o = register-still (enters q v) t (Delivered x) refl
entry_of-other q v t (Blocked x) o = register-still (enters q v) t (Blocked x) refl
entry_of-other q v t (Installed i) o =
    register-push (enters q v) t i
    ∙ ap (option_or (entry_of q v t)) (cond-false (enters q v i) (Some i) None (and_left (same_address i.member q) (same_view_id i.view.id v) o))
    ∙ or-none (entry_of q v t)
  where
    or-none : (o : Option Install) → option_or o None ≡ o
    or-none None = refl
    or-none (Some e) = refl
entry_of-other q v t (Left x) o = register-still (enters q v) t (Left x) refl
entry_of-other q v t (Crashed x) o = register-still (enters q v) t (Crashed x) refl

pub only-event : (p : Address) (h : History) (x : Event) → member_of x ≡ p → Only p h (record { pool = h.pool; trace = h.trace ++ x ∷ [] })
only-event p h x same = record {
  running = λ q o r. record {
    started = has_started-stays q h.trace (x ∷ []) r.started;
    going = has_ended-other q h.trace x (not-another p q (member_of x) same o) ∙ r.going;
  };
  current = λ q o. current_view-other q h.trace x (not-another p q (member_of x) same o);
  block = λ q o. is_blocked-other q h.trace x (not-another p q (member_of x) same o);
  list = λ q v o. list_of-other q v h.trace x (not-another p q (member_of x) same o);
  delivered_same = λ q v o. delivered_in-other q v h.trace x (not-another p q (member_of x) same o);
  sent = λ q v o. sent_in-other q v h.trace x (not-another p q (member_of x) same o);
  tally = λ q v o. tally_of-other q v h.trace x (not-another p q (member_of x) same o);
  entry = λ q v o. entry_of-other q v h.trace x (not-another p q (member_of x) same o);
  flush = λ w o. refl;
  report = λ q w o. refl;
  install = λ w q o. refl;
}

-- ---- packets more

-- what a member announces and instructs is of its own proposals
abbrev pub IsOwn : Address → Body → Type 0
IsOwn p bodies.Join = Unit {0}
IsOwn p (bodies.Redirect coordinator) = Unit {0}
IsOwn p bodies.Leave = Unit {0}
IsOwn p (bodies.Forward view number payload) = Unit {0}
IsOwn p (bodies.Order view place entry) = Unit {0}
IsOwn p (bodies.Nak view missing) = Unit {0}
IsOwn p (bodies.Ack view delivered) = Unit {0}
IsOwn p (bodies.Status view progress) = Unit {0}
IsOwn p (bodies.Flush proposal) = proposal.id.creator ≡ p
IsOwn p (bodies.Behind proposal counter) = Unit {0}
IsOwn p (bodies.Report proposal report) = Unit {0}
IsOwn p (bodies.Install install) = install.view.id.creator ≡ p
IsOwn p (bodies.Merge view) = Unit {0}
IsOwn p (bodies.State proposal chunk) = Unit {0}

pub record IsFrom (p : Address) (m : Posted) : Type 0 where
  pub source : m.source ≡ p
  pub mine : IsOwn p m.body

not-of : (p : Address) (v w : ViewId) → v.creator ≡ p → same_address w.creator p ≡ false → same_view_id v w ≡ false
not-of p v w own other = by (same_view_id v w) refl
  where
    by : (b : Bool) → same_view_id v w ≡ b → same_view_id v w ≡ false
    by true e = absurd (let n : true ≡ false = sym (same_address-from w.creator p (sym (ap (λ u. u.creator) (same_view_id-true v w e)) ∙ own)) ∙ other in cc)
    by false e = e

no-flush : (p : Address) (w : ViewId) (b : Body) → IsOwn p b → same_address w.creator p ≡ false → flush_in w b ≡ None
no-flush p w bodies.Join own o = refl
no-flush p w (bodies.Redirect coordinator) own o = refl
no-flush p w bodies.Leave own o = refl
no-flush p w (bodies.Forward view number payload) own o = refl
no-flush p w (bodies.Order view place entry) own o = refl
no-flush p w (bodies.Nak view missing) own o = refl
no-flush p w (bodies.Ack view delivered) own o = refl
no-flush p w (bodies.Status view progress) own o = refl
no-flush p w (bodies.Flush proposal) own o = cond-false (same_view_id proposal.id w) (Some proposal.members) None (not-of p proposal.id w own o)
no-flush p w (bodies.Behind proposal counter) own o = refl
no-flush p w (bodies.Report proposal report) own o = refl
no-flush p w (bodies.Install install) own o = refl
no-flush p w (bodies.Merge view) own o = refl
no-flush p w (bodies.State proposal chunk) own o = refl

no-install : (p : Address) (w : ViewId) (b : Body) → IsOwn p b → same_address w.creator p ≡ false → install_in w b ≡ None
no-install p w bodies.Join own o = refl
no-install p w (bodies.Redirect coordinator) own o = refl
no-install p w bodies.Leave own o = refl
no-install p w (bodies.Forward view number payload) own o = refl
no-install p w (bodies.Order view place entry) own o = refl
no-install p w (bodies.Nak view missing) own o = refl
no-install p w (bodies.Ack view delivered) own o = refl
no-install p w (bodies.Status view progress) own o = refl
no-install p w (bodies.Flush proposal) own o = refl
no-install p w (bodies.Behind proposal counter) own o = refl
no-install p w (bodies.Report proposal report) own o = refl
no-install p w (bodies.Install install) own o = cond-false (same_view_id install.view.id w) (Some install) None (not-of p install.view.id w own o)
no-install p w (bodies.Merge view) own o = refl
no-install p w (bodies.State proposal chunk) own o = refl

either-none : {X : Type 0} (b : Bool) (x : Option X) → x ≡ None → cond b x None ≡ None
either-none true x e = e
either-none false x e = refl

flush-other : (p : Address) (w : ViewId) (pool more : List Posted) → ((k : ℕ) (m : Posted) → slice_get more k ≡ Some m → IsFrom p m) → same_address w.creator p ≡ false
    → flush_of w (pool ++ more) ≡ flush_of w pool
unfolding flush_of
flush-other p w pool more from o = first_of-still _ pool more (λ k m at. no-flush p w m.body (from k m at).mine o)

report-other : (p : Address) (q : Address) (w : ViewId) (pool more : List Posted) → ((k : ℕ) (m : Posted) → slice_get more k ≡ Some m → IsFrom p m) → same_address q p ≡ false
    → report_of q w (pool ++ more) ≡ report_of q w pool
unfolding report_of
report-other p q w pool more from o = first_of-still _ pool more (λ k m at. cond-false (same_address m.source q) _ _ (not-another p q m.source (from k m at).source o))

install-other : (p : Address) (w : ViewId) (q : Address) (pool more : List Posted) → ((k : ℕ) (m : Posted) → slice_get more k ≡ Some m → IsFrom p m)
    → same_address w.creator p ≡ false → install_of w q (pool ++ more) ≡ install_of w q pool
unfolding install_of
install-other p w q pool more from o =
    first_of-still _ pool more (λ k m at. either-none (same_address m.destination q) (install_in w m.body) (no-install p w m.body (from k m at).mine o))

pub only-packets : (p : Address) (h : History) (more : List Posted) → ((k : ℕ) (m : Posted) → slice_get more k ≡ Some m → IsFrom p m)
    → Only p h (record { pool = h.pool ++ more; trace = h.trace })
only-packets p h more from = record {
  running = λ q o x. x;
  current = λ q o. refl;
  block = λ q o. refl;
  list = λ q v o. refl;
  delivered_same = λ q v o. refl;
  sent = λ q v o. refl;
  tally = λ q v o. refl;
  entry = λ q v o. refl;
  flush = λ w o. flush-other p w h.pool more from o;
  report = λ q w o. report-other p q w h.pool more from o;
  install = λ w q o. install-other p w q h.pool more from o;
}

-- ---- states

-- what the trace says of states went on as it was, but for one member's
pub record OnlyState {S : Type 0} (meaning : Meaning S) (p : Address) (t u : List Event) : Type 0 where
  pub now : (q : Address) → same_address q p ≡ false → state_of meaning q u ≡ state_of meaning q t
  pub entered : (v : ViewId) (s : S) → entry_state meaning v t ≡ Some s → entry_state meaning v u ≡ Some s

-- ---- what holds of another

pub standing-other : (p q me : Address) (h k : History) (view : Option View) (installed : Bool) → same_address q p ≡ false → Only p h k
    → HasStanding h.trace q me view installed → HasStanding k.trace q me view installed
standing-other p q me h k view installed o only x = record {
  itself = x.itself;
  running = only.running q o x.running;
  current = only.current q o ∙ x.current;
  block = only.block q o ∙ x.block;
}

pub below-other : (p q : Address) (h k : History) (promise : Option View) → same_address q p ≡ false → Only p h k → LiesBelow h.pool q promise → LiesBelow k.pool q promise
below-other p q h k promise o only x = record {
  announced = λ w list mine there. x.announced w list mine (sym (only.flush w (other-of p q w.creator mine o)) ∙ there);
  reported = λ w r there. x.reported w r (sym (only.report q w o) ∙ there);
}

recorded-by : (b : Bool) (h k : History) (q : Address) (w : ViewId) (mine : Report) (x : Address × Report) → Later h k
    → MatchBool b (x.1 ≡ mine) (report_of x.0 w h.pool ≡ Some x.1) → MatchBool b (x.1 ≡ mine) (report_of x.0 w k.pool ≡ Some x.1)
recorded-by true h k q w mine x m r = r
recorded-by false h k q w mine x m r = m.report x.0 w x.1 r

-- what was announced and recorded stays so
pub flush-later : (h k : History) (q : Address) (promise : Option View) (installed : Bool) (view : Option View) (view_state : ViewCore) (f : FlushModel) → Later h k
    → RunsFlush h.pool q promise installed view view_state f → RunsFlush k.pool q promise installed view view_state f
flush-later h k q promise installed view view_state f m x = record {
  promised = x.promised;
  waits = x.waits;
  own = x.own;
  list = x.list;
  announced = λ r there other. m.flush f.proposal f.members (x.announced r there other);
  itself = x.itself;
  recorded = λ n y at. recorded-by (same_address y.0 q) h k q f.proposal _ y m (x.recorded n y at);
}

pub inside-later : (h k : History) (q : Address) (v : View) → Later h k → IsInside h.trace q v → IsInside k.trace q v
inside-later h k q v m x = record {
  own = installed-later q x.own;
  first = installed-later v.id.creator x.first;
  listed = x.listed;
}
  where
    by : (o b : Option Install) → ((e : Install) → o ≡ Some e → b ≡ Some e) → option_map (λ e. e.view) o ≡ Some v → option_map (λ e. e.view) b ≡ Some v
    by None b kept y = absurd (none-some v y)
    by (Some e) b kept y = ap (option_map (λ z. z.view)) (kept e refl) ∙ y

    installed-later : (r : Address) → installed_as r v.id h.trace ≡ Some v → installed_as r v.id k.trace ≡ Some v
    installed-later r y = by (entry_of r v.id h.trace) (entry_of r v.id k.trace) (λ e z. m.entry r v.id e z) y

pub counts-other : (p q : Address) (h k : History) (v : ViewId) (installed : Bool) (d : ℕ) → same_address q p ≡ false → Only p h k
    → HasCounts h.trace q v installed d → HasCounts k.trace q v installed d
counts-other p q h k v installed d o only x = record { delivered_count = ap length (only.list q v o) ∙ x.delivered_count; tally = only.tally q v o ∙ x.tally }

pub own-other : (p q : Address) (h k : History) (v : ViewId) (n : ℕ) (rest : List Numbered) → same_address q p ≡ false → Only p h k → HasOwn h.trace q v n rest → HasOwn k.trace q v n rest
own-other p q h k v n rest o only x = record {
  sent = only.sent q v o ∙ x.sent ∙ ap (λ l. own q l ++ rest) (sym (only.delivered_same q v o));
  count = ap length (only.sent q v o) ∙ x.count;
}

pub window-later : (h k : History) (v : ViewId) (s d : ℕ) (held : List (ℕ × Entry)) → Later h k → is_some (entry_of v.creator v h.trace) ≡ true
    → HasWindow h.trace v s d held → HasWindow k.trace v s d held
window-later h k v s d held m there x = record {
  order = holds_order-later h k v held m x.order;
  all = x.all;
  near = x.near;
  all_have = all_have-later h k v s 0 m there x.all_have;
}

pub acks-later : (h k : History) (v : ViewId) (acks : Address → ℕ) → Later h k → HasAcks h.trace v acks → HasAcks k.trace v acks
acks-later h k v acks m x r = let was = x r in let more = m.count r v in omega arith

pub waiting-later : (h k : History) (v : ViewId) (waiting : List Entry) → Later h k → HasWaiting h.trace v waiting → HasWaiting k.trace v waiting
waiting-later h k v waiting m x n e at = sent-later h k v e m (x n e at)

pub first-entered : (t : List Event) (p : Address) (v : View) → installed_as p v.id t ≡ Some v → is_some (entry_of p v.id t) ≡ true
first-entered t p v x = by (entry_of p v.id t) x
  where
    by : (o : Option Install) → option_map (λ e. e.view) o ≡ Some v → is_some o ≡ true
    by None y = absurd (none-some v y)
    by (Some e) y = refl

pub view-other : (p q : Address) (h k : History) (installed : Bool) (view_state : ViewCore) (kept : List (Address × wire.Install)) (v : View) → same_address q p ≡ false → Later h k
    → Only p h k → ViewFact h q installed view_state kept v → ViewFact k q installed view_state kept v
view-other p q h k installed view_state kept v o m only x = record {
  inside = inside-later h k q v m x.inside;
  counts = counts-other p q h k v.id installed view_state.delivered o only x.counts;
  mine = own-other p q h k v.id view_state.sent view_state.outstanding o only x.mine;
  window = window-later h k v.id view_state.stable view_state.delivered view_state.held m (first-entered h.trace v.id.creator v x.inside.first) x.window;
  acks = acks-later h k v.id view_state.acks m x.acks;
  waiting = waiting-later h k v.id view_state.waiting m x.waiting;
  ordered = λ r first. x.ordered r first ∙ ap (λ l. length (own r l)) (sym (only.delivered_same q v.id o));
  keeps = λ r i there. let was = x.keeps r i there in (was.0, m.install v.id r i was.1);
}

-- the state in a view stays that of its beginning with all applied
pub state_with-later : {S : Type 0} (meaning : Meaning S) (v : ViewId) (entries : List Entry) (t u : List Event) (s : S)
    → ((z : S) → entry_state meaning v t ≡ Some z → entry_state meaning v u ≡ Some z)
    → state_with meaning v entries t ≡ Some s → state_with meaning v entries u ≡ Some s
state_with-later {S} meaning v entries t u s kept e = by (entry_state meaning v t) (entry_state meaning v u) kept e
  where
    by : (o b : Option S) → ((z : S) → o ≡ Some z → b ≡ Some z) → option_map (λ z. applied meaning z entries) o ≡ Some s
        → option_map (λ z. applied meaning z entries) b ≡ Some s
    by None b k y = absurd (none-some s y)
    by (Some z) b k y = ap (option_map (λ x. applied meaning x entries)) (k z refl) ∙ y

pub member-other : {S : Type 0} (meaning : Meaning S) (p q : Address) (h k : History) (c : Core S)
    → same_address q p ≡ false → Later h k → Only p h k → OnlyState meaning p h.trace k.trace
    → MemberFact meaning h q c → MemberFact meaning k q c
member-other meaning p q h k c o m only states x = record {
  standing = standing-other p q c.me h k c.view c.installed o only x.standing;
  promise = x.promise;
  announced = λ w e other. m.flush w.id w.members (x.announced w e other);
  below = below-other p q h k c.promise o only x.below;
  reported = λ waits w e other. m.report q w.id _ (x.reported waits w e other);
  flush = λ f e. flush-later h k q c.promise c.installed c.view c.view_state f m (x.flush f e);
  view = λ v e. view-other p q h k c.installed c.view_state c.sent_installs v o m only (x.view v e);
  state = record {
    now = states.now q o ∙ x.state.now;
    is = x.state.is;
    in_view = λ v e.
        ap (λ l. state_with meaning v.id l k.trace) (only.list q v.id o)
        ∙ state_with-later meaning v.id (list_of q v.id h.trace) h.trace k.trace c.state (λ z y. states.entered v.id z y) (x.state.in_view v e);
  };
}
