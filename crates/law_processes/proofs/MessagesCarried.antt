-- What members deliver was sent by one who has an address, and is short; and no coordinator is given a state.
use Rattle.std.proofs.Common.{◌≡◌, ℕ, zero, suc, ◌≤◌, Bool, true, false, cond, ◌&&◌, not, Option, Some, None, Result, Ok, Err, List, [], ◌∷◌, ◌++◌, map, length, take, drop, refl, sym, ap, ◌∙◌, subst}
use Rattle.std.specs.Prelude.{is_some, slice_get}
use Rattle.std.specs.Option.{option_and_then}
use Rattle.std.specs.List.{AllByRecursion}
use Rattle.std.proofs.lemmas.Bool.{and_parts, not-true}
use Rattle.std.proofs.lemmas.Option.{none-some, same_Some, cond_some}
use Rattle.std.proofs.lemmas.List.{take-append-drop}
use Rattle.address.specs.Ids.{Address, ViewId, IsAddress, same_address, same_view_id}
use Rattle.address.proofs.SameIds.{same_address-refl}
use Rattle.address.specs.declared.limits.TheConstants.{PAYLOAD}
use Rattle.view.specs.Members.{View}
use Rattle.wire_values.specs.Values.{Entry}
use Rattle.wire_values.specs.declared.error.WireError.{WireError}
use Rattle.wire_values.specs.declared.packet.Packet.{Packet}
use Rattle.wire_values.specs.declared.packet.Body.TheVariants as bodies
use Rattle.wire_values.specs.Posted.{Posted, packet}
use Rattle.wire.specs.Packets.{packet_of}
use Rattle.state_transfer.specs.Meanings.{Meaning}
use Rattle.trace_props.specs.declared.event.Event.{Event}
use Rattle.trace_props.specs.declared.event.Event.TheVariants.{Started, Sent, Delivered, Blocked, Installed, Left, Crashed}
use Rattle.trace_props.specs.declared.event.Delivery.{Delivery}
use Rattle.trace_props.specs.declared.event.Numbered.{Numbered}
use Rattle.trace_props.specs.Observed.{has_started, said, numbered}
use Rattle.trace_props.specs.Synchrony.{IsVirtuallySynchronous}
use Rattle.trace_props.proofs.ObservedGrow.{has_started-stays}
use Rattle.trace_props.proofs.DeliveredGrow.{said_by-true}
use Rattle.law_acts.specs.Cores.{Core, is_open}
use Rattle.law_acts.specs.Acts.{Act, Creates, Joins, Puts, Sends, Queues, Orders, TakesAck, Collects, Holds, Delivers, Promises, Begins, Records, Gathers, Finishes, Enters, Leaves, Allowed, after, events_of, deliveries, delivery, entering, blocking, handed}
use Rattle.law_acts.specs.Chains.{Chain, events_along}
use Rattle.law_acts.specs.Invariant.{SendsShort, StartsProper}
use Rattle.law_acts.proofs.KeepBySteps as steps
use Rattle.step_output.specs.Names.{same_name}
use Rattle.member.specs.declared.input.Input.{Input}
use Rattle.member.specs.declared.input.Input.TheVariants.{Create, Join, Send, Datagram, Tick, Suspect, MergeHint, Leave}
use Rattle.member.specs.Members.{MemberModel, core_of, came_in, came_at}
use Rattle.law_processes.specs.Deployments as deployed
use Rattle.law_processes.specs.Deployments.{Step, Start, Call, Crash, Deployment, nothing_yet, after_steps, happens_by, trace_of, EachStep, DoesSo, IsHistory}
use Rattle.law_processes.specs.Carried.{DeliverShort, CoordinatorsKeepTheirs}
use Rattle.law_processes.proofs.ElementsComeFrom.{whole, was-sent}
use Rattle.law_processes.proofs.ActsAreOwn.{me-stays}
use Rattle.law_processes.proofs.KeepBySteps.{IsDeployment, steps-keep, nothing}

-- ---- deliveries

module _ {S : Type 0} (meaning : Meaning S) (t : List Event) (keeps : IsVirtuallySynchronous meaning t) where
  -- who sends has started
  sender-started : (q : Address) (v : ViewId) (n : Numbered) (k : ℕ) (h : Event) → slice_get t k ≡ Some h → said q v h ≡ Some n → has_started q t ≡ true
  sender-started q v n k (Started p) at e = absurd (none-some n e)
  sender-started q v n k (Sent s) at e =
      let parts = cond_some (same_address s.member q && same_view_id s.view v) s.message n e in
      let stands = (whole meaning t keeps).ordered.placed k (Sent s) at in
      subst (λ (p : Address). has_started p t ≡ true) (said_by-true q v s parts.0).0
      (ap (has_started s.member) (sym (take-append-drop k t)) ∙ has_started-stays s.member (take k t) (drop k t) stands.0.started)
  sender-started q v n k (Delivered d) at e = absurd (none-some n e)
  sender-started q v n k (Blocked p) at e = absurd (none-some n e)
  sender-started q v n k (Installed i) at e = absurd (none-some n e)
  sender-started q v n k (Left p) at e = absurd (none-some n e)
  sender-started q v n k (Crashed p) at e = absurd (none-some n e)

  delivered-short : SendsShort t → StartsProper t → (k : ℕ) (d : Delivery) → slice_get t k ≡ Some (Delivered d) → IsAddress d.message.sender × (length d.message.payload ≤ PAYLOAD)
  delivered-short short proper k d at =
      let was = was-sent meaning t keeps k d at in (
        proper d.message.sender (sender-started d.message.sender d.view (numbered d.message) was.sent.place was.sent.it was.sent.stands was.sent.gives),
        short d.message.sender d.view was.among (numbered d.message) was.before,
      )

-- ---- installs

-- a coordinator that enters its own view is given nothing
abbrev KeepsOwn : Event → Type 0
KeepsOwn (Started p) = Unit {0}
KeepsOwn (Sent s) = Unit {0}
KeepsOwn (Delivered d) = Unit {0}
KeepsOwn (Blocked p) = Unit {0}
KeepsOwn (Installed i) = i.member ≡ i.view.id.creator → i.given ≡ None
KeepsOwn (Left p) = Unit {0}
KeepsOwn (Crashed p) = Unit {0}

abbrev AllOwn : List Event → Type 0
AllOwn s = AllByRecursion KeepsOwn s

own-append : (s t : List Event) → AllOwn s → AllOwn t → AllOwn (s ++ t)
own-append [] t a b = b
own-append (x ∷ s) t a b = (a.0, own-append s t a.1 b)

own-at : (t : List Event) (k : ℕ) (h : Event) → AllOwn t → slice_get t k ≡ Some h → KeepsOwn h
own-at [] k h all e = absurd (none-some h e)
own-at (x ∷ t) zero h all e = subst KeepsOwn (same_Some x h e) all.0
own-at (x ∷ t) (suc k) h all e = own-at t k h all.1 e

own-delivered : (p : Address) (u : View) (entries : List Entry) → AllOwn (map (delivery p u.id) entries)
own-delivered p u [] = tt
own-delivered p u (e ∷ entries) = (tt, own-delivered p u entries)

own-deliveries : (p : Address) (v : Option View) (entries : List Entry) → AllOwn (deliveries p v entries)
own-deliveries p None entries = tt
own-deliveries p (Some u) entries = own-delivered p u entries

-- what came is another's
IsOfAnother : Option Posted → Address → Type 0
IsOfAnother came p = (m : Posted) → came ≡ Some m → same_address m.source p ≡ false

module _ {S : Type 0} (meaning : Meaning S) where
  own-entering : (c : Core S) (entries : List Entry) (w : View) (together : List Address) (given : Option (List ℕ)) → (c.me ≡ w.id.creator → given ≡ None) → AllOwn (entering c entries w together given)
  own-entering c entries w together given own = own-append (deliveries c.me c.view entries) _ (own-deliveries c.me c.view entries) (own, tt)

  own-blocking : (c : Core S) (b : Bool) → is_open c.view c.installed ≡ b → AllOwn (blocking c)
  own-blocking c true e = rw e (tt, tt)
  own-blocking c false e = rw e tt

  own-act : (came : Option Posted) (c : Core S) (a : Act) → IsOfAnother came c.me → Allowed meaning came c a → AllOwn (events_of c a)
  unfolding IsOfAnother
  own-act came c Creates other x = own-entering c [] _ _ None (λ e. refl)
  own-act came c Joins other x = tt
  own-act came c (Puts q body) other x = tt
  own-act came c (Sends v payload) other x = (tt, tt)
  own-act came c (Queues v e waiting) other x = tt
  own-act came c (Orders v e waiting held) other x = (tt, tt)
  own-act came c (TakesAck v q n) other x = tt
  own-act came c (Collects v n held) other x = tt
  own-act came c (Holds v g e held) other x = tt
  own-act came c (Delivers v e) other x = (tt, tt)
  own-act came c (Promises w) other x = own-blocking c (is_open c.view c.installed) refl
  own-act came c (Begins w) other x = own-blocking c (is_open c.view c.installed) refl
  own-act came c (Records f q r) other x = tt
  own-act came c (Gathers w chunk chunks) other x = tt
  own-act came c (Finishes v f cuts given) other x = own-entering c _ _ _ None (λ e. refl)
  own-act came c (Enters i given) other x =
      own-entering c _ i.view i.together given (λ e.
      let no : same_address i.view.id.creator c.me ≡ false = other (packet i.view.id.creator (bodies.Install i) c.me) x.asked in
      let yes : same_address i.view.id.creator c.me ≡ true = ap (λ (p : Address). same_address i.view.id.creator p) e ∙ same_address-refl i.view.id.creator in
      absurd (let bad : false ≡ true = sym no ∙ yes in cc))
  own-act came c Leaves other x = (tt, tt)

  own-chain : (came : Option Posted) (acts : List Act) (o end : Option (Core S)) → ((d : Core S) → o ≡ Some d → IsOfAnother came d.me) → Chain meaning came o acts end → AllOwn (events_along meaning o acts)
  own-chain came [] o end other x = tt
  own-chain came (a ∷ acts) None end other x = absurd x
  own-chain came (a ∷ acts) (Some c) end other x =
      own-append (events_of c a) _ (own-act came c a (other c refl) x.0)
      (own-chain came acts (after meaning c a) end (λ d e. subst (IsOfAnother came) (sym (me-stays meaning c d a e)) (other c refl)) x.1)

  -- what comes to a member by a call comes from another
  handed-other : (o : Option (Core S)) (p m : Posted) (c : Core S) → o ≡ Some c → option_and_then (λ x. handed x p) o ≡ Some m → same_address m.source c.me ≡ false
  handed-other None p m c at e = absurd (none-some m e)
  handed-other (Some x) p m c at e =
      let y = cond_some (x.connected && same_address p.destination x.me && not (same_address p.source x.me)) p m e in
      let outer = and_parts (x.connected && same_address p.destination x.me) (not (same_address p.source x.me)) y.0 in
      ap (λ (z : Posted). same_address z.source c.me) (sym y.1) ∙ ap (λ (z : Core S). same_address p.source z.me) (sym (same_Some x c at)) ∙ not-true (same_address p.source x.me) outer.1

  came-other : (k : MemberModel S) (c : Core S) (r : Result Packet WireError) → core_of k ≡ Some c → IsOfAnother (came_in k r) c.me
  unfolding IsOfAnother
  came-other k c (Err e) at = λ m is. absurd (none-some m is)
  came-other k c (Ok p) at = λ m is. by (same_name p.group k.group) m is where
    by : (b : Bool) (m : Posted) → cond b (option_and_then (λ x. handed x (record { source = p.source; destination = p.destination; body = p.body })) (core_of k)) None ≡ Some m → same_address m.source c.me ≡ false
    by true m is = handed-other (core_of k) _ m c at is
    by false m is = absurd (none-some m is)

  nothing-other : (p : Address) → IsOfAnother None p
  unfolding IsOfAnother
  nothing-other p = λ m is. absurd (none-some m is)

  input-other : (k : MemberModel S) (c : Core S) (input : Input) → core_of k ≡ Some c → IsOfAnother (came_at k input) c.me
  input-other k c Create at = nothing-other c.me
  input-other k c (Join contact) at = nothing-other c.me
  input-other k c (Send payload) at = nothing-other c.me
  input-other k c (Datagram bytes) at = came-other k c (packet_of bytes.now) at
  input-other k c Tick at = nothing-other c.me
  input-other k c (Suspect q) at = nothing-other c.me
  input-other k c (MergeHint q) at = nothing-other c.me
  input-other k c Leave at = nothing-other c.me

  module _ (group : List ℕ) where
    ended-own : (b : Bool) (p : Address) → AllOwn (cond b [] (Crashed p ∷ []))
    ended-own true p = tt
    ended-own false p = (tt, tt)

    step-own : (d : Deployment S) (x : Step S) → DoesSo meaning group d x → AllOwn (happens_by x)
    step-own d (Start p m) does = (tt, tt)
    step-own d (Call p input (Ok out) left) does =
        let did = does.handled.acted in
        subst AllOwn (sym did.acted.happens) (own-chain (came_at does.member input) did.acted.acts (core_of does.member) (core_of left) (λ c at. input-other does.member c input at) did.acted.chain)
    step-own d (Call p input (Err e) left) does = ended-own (is_some left.member_state) p
    step-own d (Crash p) does = (tt, tt)

    steps-own : (d : Deployment S) (all : List (Step S)) → AllOwn d.trace → EachStep (DoesSo meaning group) d all → AllOwn (after_steps d all).trace
    steps-own d [] own does = own
    steps-own d (x ∷ all) own does = steps-own (deployed.after d x) all (own-append d.trace (happens_by x) own (step-own d x does.0)) does.1

  pub coordinators-keep : CoordinatorsKeepTheirs meaning
  coordinators-keep group all h k i at = own-at (trace_of all) k (Installed i) (steps-own group nothing_yet all tt h.does) at

  pub deliver-short : steps.Laws meaning → DeliverShort meaning
  deliver-short laws group all h =
      let x : IsDeployment meaning laws group (after_steps nothing_yet all) = steps-keep meaning laws group nothing_yet all (nothing meaning laws group) h.does h.once h.network in
      let f = x.agreed.agreed.trace in
      delivered-short meaning (trace_of all) f.synchronous f.short f.proper
