-- What holds of the trace, one event further: all rules at every place, and nothing in a view before it was installed.
use Rattle.std.proofs.Common.{◌≡◌, ℕ, ◌≤◌, Bool, true, false, cond, Option, Some, None, List, [], ◌∷◌, ◌++◌, length, refl, sym, ap, ◌∙◌, subst, ⊎_elim}
use Rattle.std.specs.Prelude.{slice_get}
use Rattle.std.specs.List.{position_from}
use Rattle.std.specs.Option.{option_or}
use Rattle.std.proofs.lemmas.Bool.{cond-true, cond-false}
use Rattle.std.proofs.lemmas.Option.{none-some}
use Rattle.address.specs.Ids.{Address, ViewId, IsAddress, same_address}
use Rattle.address.specs.declared.limits.TheConstants.{PAYLOAD}
use Rattle.state_transfer.specs.Meanings.{Meaning}
use Rattle.trace_props.specs.declared.event.Event.{Event}
use Rattle.trace_props.specs.declared.event.Event.TheVariants.{Started, Sent, Delivered, Blocked, Installed, Left, Crashed}
use Rattle.trace_props.specs.declared.event.Install.{Install}
use Rattle.trace_props.specs.declared.event.Numbered.{Numbered}
use Rattle.trace_props.specs.declared.event.Delivery.{Delivery}
use Rattle.trace_props.specs.declared.event.Sending.{Sending}
use Rattle.trace_props.specs.Observed.{member_of, has_started, current_view, sent_in, entry_of, delivered_message, said}
use Rattle.trace_props.specs.Rules.{MayStand, HasRisingViews}
use Rattle.trace_props.specs.State.{state_of, state_after, installs, entry_state}
use Rattle.trace_props.specs.Synchrony.{KeepsRules}
use Rattle.trace_props.specs.Verdicts.{GoesOn}
use Rattle.trace_props.proofs.RulesAlongLists.{EachPlace-whole, slice_get-push}
use Rattle.address.proofs.SameIds.{same_address-true}
use Rattle.trace_props.proofs.ObservedGrow.{has_started-stays, has_started-still, has_started-other}
use Rattle.trace_props.proofs.DeliveredGrow.{enters, is_delivery_to, is_delivery_to-true, said_by, said_by-true, delivered_in-still, sent_in-still, sent_in-miss, sent_in-hit, register-stays, register-written, register-push}
use Rattle.trace_props.proofs.InstallsOfRisingViews.{view-stands}
use Rattle.trace_props.proofs.RuleOfEntry.{state_of-push, entry_state-stays, entry_state-none}
use Rattle.trace_props.proofs.KeepEightRules.{synchronous-push}
use Rattle.law_acts.specs.Words.{Tally, tally_after, no_tally}
use Rattle.wire_values.specs.Posted.{Posted}
use Rattle.law_acts.specs.Histories.{History}
use Rattle.law_acts.specs.Invariant.{IsUntouched, NothingBefore, SendsShort, StartsProper, TraceFact}
use Rattle.law_acts.proofs.Lists.{slice_get-split}
use Rattle.law_acts.proofs.TalliesGrow.{tally_of-push}
use Rattle.law_acts.proofs.KeepOthers.{OnlyState, not-another}

-- ---- what may stand

-- whatever goes on may stand
pub stands-of : {S : Type 0} (meaning : Meaning S) (t : List Event) (h : Event) → GoesOn meaning t h → MayStand t h
stands-of meaning t h m = m.seven.1.1.1.1.1.1.0

pub views-of : {S : Type 0} (meaning : Meaning S) (h : History) → TraceFact meaning h → HasRisingViews h.trace
views-of meaning h x = (EachPlace-whole (KeepsRules meaning) h.trace x.synchronous).ordered.views

pub rules-of : {S : Type 0} (meaning : Meaning S) (h : History) → TraceFact meaning h → KeepsRules meaning h.trace
rules-of meaning h x = EachPlace-whole (KeepsRules meaning) h.trace x.synchronous

-- ---- nothing before the install

-- the current view of a member is one that it installed
in-view : (p : Address) (v : ViewId) (t : List Event) → current_view p t ≡ Some v → entry_of p v t ≡ None → ⊥
in-view p v t current none =
    let there = view-stands p t v current in
    let f = register-written (enters p v) t there.at.place there.install there.at.stands there.at.passes in
    none-some f.0 (sym none ∙ f.1)

none-before : (p : Address) (v : ViewId) (t : List Event) (h : Event) (o : Option Install) → entry_of p v t ≡ o → entry_of p v (t ++ h ∷ []) ≡ None → entry_of p v t ≡ None
none-before p v t h None e now = e
none-before p v t h (Some i) e now = absurd (none-some i (sym now ∙ register-stays (enters p v) t (h ∷ []) i e))

untouched-still : (t : List Event) (h : Event) (p : Address) (v : ViewId) → delivered_message p v h ≡ None → said p v h ≡ None → tally_after p v no_tally h ≡ no_tally
    → IsUntouched t p v → IsUntouched (t ++ h ∷ []) p v
untouched-still t h p v nothing_delivered says tally x = record {
  none_delivered = delivered_in-still p v t h nothing_delivered ∙ x.none_delivered;
  sent = sent_in-still p v t h says ∙ x.sent;
  tally = tally_of-push p v t h ∙ ap (λ s. tally_after p v s h) x.tally ∙ tally;
}

either : (b : Bool) (x : Tally) → cond b x x ≡ x
either true x = refl
either false x = refl

untouched-delivered : (b : Bool) (t : List Event) (d : Delivery) (p : Address) (v : ViewId) → is_delivery_to p v d ≡ b → MayStand t (Delivered d) → entry_of p v t ≡ None
    → IsUntouched t p v → IsUntouched (t ++ Delivered d ∷ []) p v
untouched-delivered true t d p v test stands none x =
    let same = is_delivery_to-true p v d test in
    absurd (in-view p v t (ap (λ q. current_view q t) (sym same.0) ∙ stands.1 ∙ ap Some same.1) none)
untouched-delivered false t d p v test stands none x =
    untouched-still t (Delivered d) p v (cond-false (is_delivery_to p v d) (Some d.message) None test) refl (cond-false (is_delivery_to p v d) _ no_tally test) x

untouched-said : (b : Bool) (t : List Event) (s : Sending) (p : Address) (v : ViewId) → said_by p v s ≡ b → MayStand t (Sent s) → entry_of p v t ≡ None
    → IsUntouched t p v → IsUntouched (t ++ Sent s ∷ []) p v
untouched-said true t s p v test stands none x =
    let same = said_by-true p v s test in
    absurd (in-view p v t (ap (λ q. current_view q t) (sym same.0) ∙ stands.1 ∙ ap Some same.1) none)
untouched-said false t s p v test stands none x = untouched-still t (Sent s) p v refl (cond-false (said_by p v s) (Some s.message) None test) refl x

untouched-installed : (b : Bool) (t : List Event) (i : Install) (p : Address) (v : ViewId) → enters p v i ≡ b → entry_of p v (t ++ Installed i ∷ []) ≡ None → entry_of p v t ≡ None
    → IsUntouched t p v → IsUntouched (t ++ Installed i ∷ []) p v
untouched-installed true t i p v test now none x =
    let written : entry_of p v (t ++ Installed i ∷ []) ≡ Some i = register-push (enters p v) t i ∙ ap (λ o. option_or o (cond (enters p v i) (Some i) None)) none ∙ cond-true (enters p v i) (Some i) None test in
    absurd (none-some i (sym now ∙ written))
untouched-installed false t i p v test now none x = untouched-still t (Installed i) p v refl refl (cond-false (enters p v i) _ no_tally test) x

untouched-push : (t : List Event) (h : Event) (p : Address) (v : ViewId) → MayStand t h → entry_of p v (t ++ h ∷ []) ≡ None → entry_of p v t ≡ None
    → IsUntouched t p v → IsUntouched (t ++ h ∷ []) p v
untouched-push t (Started q) p v stands now none x = untouched-still t (Started q) p v refl refl refl x
untouched-push t (Sent s) p v stands now none x = untouched-said (said_by p v s) t s p v refl stands none x
untouched-push t (Delivered d) p v stands now none x = untouched-delivered (is_delivery_to p v d) t d p v refl stands none x
untouched-push t (Blocked q) p v stands now none x = untouched-still t (Blocked q) p v refl refl (either (same_address q p) no_tally) x
untouched-push t (Installed i) p v stands now none x = untouched-installed (enters p v i) t i p v refl now none x
untouched-push t (Left q) p v stands now none x = untouched-still t (Left q) p v refl refl refl x
untouched-push t (Crashed q) p v stands now none x = untouched-still t (Crashed q) p v refl refl refl x

pub before-push : (t : List Event) (h : Event) → MayStand t h → NothingBefore t → NothingBefore (t ++ h ∷ [])
before-push t h stands x p v now =
    let none = none-before p v t h (entry_of p v t) refl now in
    untouched-push t h p v stands now none (x p v none)

-- ---- short payloads, proper addresses

-- what happens is within the limits: an address that a program can hold starts, a short payload is sent
abbrev pub IsProper : Event → Type 0
IsProper (Started p) = IsAddress p
IsProper (Sent s) = length s.message.payload ≤ PAYLOAD
IsProper (Delivered d) = Unit {0}
IsProper (Blocked p) = Unit {0}
IsProper (Installed i) = Unit {0}
IsProper (Left p) = Unit {0}
IsProper (Crashed p) = Unit {0}

Short : List Numbered → Type 0
Short ms = (k : ℕ) (m : Numbered) → slice_get ms k ≡ Some m → length m.payload ≤ PAYLOAD

short-push : (ms : List Numbered) (m : Numbered) → Short ms → length m.payload ≤ PAYLOAD → Short (ms ++ m ∷ [])
unfolding Short
short-push ms m x new k n at =
    ⊎_elim (λ (a : slice_get ms k ≡ Some n). x k n a) (λ (b : (k ≡ length ms) × (m ≡ n)). subst (λ (z : Numbered). length z.payload ≤ PAYLOAD) b.1 new) (slice_get-push ms m k n at)

short-said : (b : Bool) (t : List Event) (s : Sending) (p : Address) (v : ViewId) → said_by p v s ≡ b → length s.message.payload ≤ PAYLOAD → Short (sent_in p v t)
    → Short (sent_in p v (t ++ Sent s ∷ []))
short-said true t s p v test new x = subst Short (sym (sent_in-hit p v t s test)) (short-push (sent_in p v t) s.message x new)
short-said false t s p v test new x = subst Short (sym (sent_in-miss p v t s test)) x

pub sends_short-push : (t : List Event) (h : Event) → IsProper h → SendsShort t → SendsShort (t ++ h ∷ [])
unfolding Short
sends_short-push t (Started q) proper x p v = subst Short (sym (sent_in-still p v t (Started q) refl)) (x p v)
sends_short-push t (Sent s) proper x p v = short-said (said_by p v s) t s p v refl proper (x p v)
sends_short-push t (Delivered d) proper x p v = subst Short (sym (sent_in-still p v t (Delivered d) refl)) (x p v)
sends_short-push t (Blocked q) proper x p v = subst Short (sym (sent_in-still p v t (Blocked q) refl)) (x p v)
sends_short-push t (Installed i) proper x p v = subst Short (sym (sent_in-still p v t (Installed i) refl)) (x p v)
sends_short-push t (Left q) proper x p v = subst Short (sym (sent_in-still p v t (Left q) refl)) (x p v)
sends_short-push t (Crashed q) proper x p v = subst Short (sym (sent_in-still p v t (Crashed q) refl)) (x p v)

starts-by : (b : Bool) (t : List Event) (q p : Address) → same_address q p ≡ b → IsAddress q → StartsProper t → has_started p (t ++ Started q ∷ []) ≡ true → IsAddress p
starts-by true t q p test proper x s = subst IsAddress (same_address-true q p test) proper
starts-by false t q p test proper x s = x p (sym (has_started-other p t (Started q) test) ∙ s)

pub starts-push : (t : List Event) (h : Event) → IsProper h → StartsProper t → StartsProper (t ++ h ∷ [])
starts-push t (Started q) proper x p s = starts-by (same_address q p) t q p refl proper x s
starts-push t (Sent m) proper x p s = x p (sym (has_started-still p t (Sent m) refl) ∙ s)
starts-push t (Delivered d) proper x p s = x p (sym (has_started-still p t (Delivered d) refl) ∙ s)
starts-push t (Blocked q) proper x p s = x p (sym (has_started-still p t (Blocked q) refl) ∙ s)
starts-push t (Installed i) proper x p s = x p (sym (has_started-still p t (Installed i) refl) ∙ s)
starts-push t (Left q) proper x p s = x p (sym (has_started-still p t (Left q) refl) ∙ s)
starts-push t (Crashed q) proper x p s = x p (sym (has_started-still p t (Crashed q) refl) ∙ s)

-- ---- all of it

-- what holds of the trace holds one event further, where all conditions on it hold
pub trace-push : {S : Type 0} (meaning : Meaning S) (h : History) (x : Event) → TraceFact meaning h
    → GoesOn meaning h.trace x → IsProper x → TraceFact meaning (record { pool = h.pool; trace = h.trace ++ x ∷ [] })
trace-push meaning h x fact goes proper = record {
  synchronous = synchronous-push meaning h.trace x fact.synchronous goes;
  before = before-push h.trace x (stands-of meaning h.trace x goes) fact.before;
  short = sends_short-push h.trace x proper fact.short;
  proper = starts-push h.trace x proper fact.proper;
  senders = λ k m at. has_started-stays m.source h.trace (x ∷ []) (fact.senders k m at);
}

-- packets more, of one who started
pub trace-packets : {S : Type 0} (meaning : Meaning S) (h : History) (more : List Posted) (p : Address)
    → TraceFact meaning h → has_started p h.trace ≡ true → ((k : ℕ) (m : Posted) → slice_get more k ≡ Some m → m.source ≡ p)
    → TraceFact meaning (record { pool = h.pool ++ more; trace = h.trace })
trace-packets meaning h more p fact started from = record {
  synchronous = fact.synchronous;
  before = fact.before;
  short = fact.short;
  proper = fact.proper;
  senders = slice_get-split (λ m. has_started m.source h.trace ≡ true) h.pool more fact.senders (λ k m at. ap (λ q. has_started q h.trace) (from k m at) ∙ started);
}

-- ---- states

-- the state with which a view began stays that
pub entry_state-kept : {S : Type 0} (meaning : Meaning S) (v : ViewId) (t u : List Event) (s : S)
    → entry_state meaning v t ≡ Some s → entry_state meaning v (t ++ u) ≡ Some s
entry_state-kept meaning v t u s e = by (position_from (installs v.creator v) 0 t) refl
  where
    by : (o : Option ℕ) → position_from (installs v.creator v) 0 t ≡ o → entry_state meaning v (t ++ u) ≡ Some s
    by None at = absurd (none-some s (sym (entry_state-none meaning v t at) ∙ e))
    by (Some k) at = entry_state-stays meaning v t u k at ∙ e

pub state-still : {S : Type 0} (meaning : Meaning S) (q : Address) (s : S) (h : Event) → same_address (member_of h) q ≡ false → state_after meaning q s h ≡ s
state-still meaning q s (Started x) o = refl
state-still meaning q s (Sent x) o = refl
state-still meaning q s (Delivered d) o = cond-false (same_address d.member q) _ s o
state-still meaning q s (Blocked x) o = refl
state-still meaning q s (Installed i) o = cond-false (same_address i.member q) _ s o
state-still meaning q s (Left x) o = refl
state-still meaning q s (Crashed x) o = refl

-- what happens to one leaves the states of others
pub only-state : {S : Type 0} (meaning : Meaning S) (p : Address) (t : List Event) (x : Event) → member_of x ≡ p → OnlyState meaning p t (t ++ x ∷ [])
only-state meaning p t x same = record {
  now = λ q o. state_of-push meaning q t x ∙ state-still meaning q (state_of meaning q t) x (not-another p q (member_of x) same o);
  entered = λ v s e. entry_state-kept meaning v t (x ∷ []) s e;
}

pub only_state-refl : {S : Type 0} (meaning : Meaning S) (p : Address) (t : List Event) → OnlyState meaning p t t
only_state-refl meaning p t = record { now = λ q o. refl; entered = λ v s e. e }

pub only_state-trans : {S : Type 0} (meaning : Meaning S) (p : Address) (t u w : List Event) → OnlyState meaning p t u → OnlyState meaning p u w → OnlyState meaning p t w
only_state-trans meaning p t u w a b = record {
  now = λ q o. b.now q o ∙ a.now q o;
  entered = λ v s e. b.entered v s (a.entered v s e);
}
