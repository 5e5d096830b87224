-- What members send is what they are called to send, in the view in which they are then.
use Rattle.std.proofs.Common.{◌≡◌, ℕ, zero, suc, Bool, true, false, cond, Option, Some, None, Ok, Err, List, [], ◌∷◌, ◌++◌, drop, refl, sym, subst}
use Rattle.std.specs.Prelude.{is_some, slice_get}
use Rattle.std.specs.Option.{IsSomeAnd}
use Rattle.std.specs.List.{list_all}
use Rattle.std.proofs.lemmas.Bool.{and_parts}
use Rattle.std.proofs.lemmas.Option.{none-some, same_Some}
use Rattle.address.specs.Ids.{Address, ViewId}
use Rattle.view.specs.Members.{View}
use Rattle.state_transfer.specs.Meanings.{Meaning}
use Rattle.trace_props.specs.declared.event.Event.{Event}
use Rattle.trace_props.specs.declared.event.Event.TheVariants.{Started, Sent, Delivered, Blocked, Installed, Left, Crashed}
use Rattle.trace_props.specs.declared.event.Sending.{Sending}
use Rattle.law_acts.specs.Cores.{Core}
use Rattle.step_output.specs.Calm.{is_quiet}
use Rattle.member.specs.declared.input.Input.{Input}
use Rattle.member.specs.declared.input.Input.TheVariants.{Create, Join, Send, Datagram, Tick, Suspect, MergeHint, Leave}
use Rattle.member.specs.Members.{core_of}
use Rattle.member.specs.Handling.{Replies}
use Rattle.law_processes.specs.Deployments as deployed
use Rattle.law_processes.specs.Deployments.{Step, Start, Call, Crash, Deployment, EachStep, DoesSo, after_steps, happens_by}
use Rattle.law_processes.specs.Said.{IsSaid, AreSaid, SaysAt, SaysOnly}

module _ (May : ViewId → List ℕ → Type 0) where
  pub said-append : (s t : List Event) → AreSaid May s → AreSaid May t → AreSaid May (s ++ t)
  said-append [] t a b = b
  said-append (x ∷ s) t a b = (a.0, said-append s t a.1 b)

  -- each of them
  pub said-at : (t : List Event) (k : ℕ) (h : Event) → AreSaid May t → slice_get t k ≡ Some h → IsSaid May h
  said-at [] k h all e = absurd (none-some h e)
  said-at (x ∷ t) zero h all e = subst (IsSaid May) (same_Some x h e) all.0
  said-at (x ∷ t) (suc k) h all e = said-at t k h all.1 e

  quiet-is-said : (e : Event) → is_quiet e ≡ true → IsSaid May e
  quiet-is-said (Started p) q = tt
  quiet-is-said (Sent s) q = absurd (let bad : false ≡ true = q in cc)
  quiet-is-said (Delivered d) q = tt
  quiet-is-said (Blocked p) q = tt
  quiet-is-said (Installed i) q = tt
  quiet-is-said (Left p) q = tt
  quiet-is-said (Crashed p) q = tt

  quiet-are-said : (events : List Event) → list_all is_quiet events ≡ true → AreSaid May events
  quiet-are-said [] q = tt
  quiet-are-said (e ∷ events) q = let parts = and_parts (is_quiet e) (list_all is_quiet events) q in (quiet-is-said e parts.0, quiet-are-said events parts.1)

  sent-are-said : (o : Option View) (f : View → Sending) (events : List Event) → ((v : View) → o ≡ Some v → IsSaid May (Sent (f v)))
      → IsSomeAnd o (λ v. events ≡ Sent (f v) ∷ drop 1 events) → list_all is_quiet (drop 1 events) ≡ true → AreSaid May events
  sent-are-said None f events says x quiet = absurd x
  sent-are-said (Some v) f events says x quiet = subst (AreSaid May) (sym x) (says v refl, quiet-are-said (drop 1 events) quiet)

  module _ {S : Type 0} where
    -- what happens by an input
    replies-said : (c : Core S) (input : Input) (events : List Event) (end : Option (Core S)) → SaysAt May c input → Replies c input events end → AreSaid May events
    replies-said c Create events end says r = subst (AreSaid May) (sym r.0) (tt, tt)
    replies-said c (Join contact) events end says r = subst (AreSaid May) (sym r.0) tt
    replies-said c (Send payload) events end says r = sent-are-said c.view _ events says r.0.first r.0.quiet
    replies-said c (Datagram bytes) events end says r = quiet-are-said events r.0
    replies-said c Tick events end says r = quiet-are-said events r.0
    replies-said c (Suspect q) events end says r = quiet-are-said events r.0
    replies-said c (MergeHint q) events end says r = subst (AreSaid May) (sym r.0) tt
    replies-said c Leave events end says r = subst (AreSaid May) (sym r.0) (tt, tt)

    pub reply-said : (o : Option (Core S)) (input : Input) (events : List Event) (end : Option (Core S)) → ((c : Core S) → o ≡ Some c → SaysAt May c input)
        → IsSomeAnd o (λ c. Replies c input events end) → AreSaid May events
    reply-said None input events end says r = absurd r
    reply-said (Some c) input events end says r = replies-said c input events end (says c refl) r

  ended-said : (b : Bool) (p : Address) → AreSaid May (cond b [] (Crashed p ∷ []))
  ended-said true p = tt
  ended-said false p = (tt, tt)

  module _ {S : Type 0} (meaning : Meaning S) (group : List ℕ) where
    step-said : (d : Deployment S) (x : Step S) → DoesSo meaning group d x → SaysOnly May d x → AreSaid May (happens_by x)
    step-said d (Start p m) does says = (tt, tt)
    step-said d (Call p input (Ok out) left) does says =
        reply-said (core_of does.member) input out.events.items (core_of left) (λ c core. says does.member c does.runs core) does.handled.reply
    step-said d (Call p input (Err e) left) does says = ended-said (is_some left.member_state) p
    step-said d (Crash p) does says = (tt, tt)

    -- where each caller says what may be said, what is sent may be said in its view
    pub steps-said : (d : Deployment S) (all : List (Step S)) → AreSaid May d.trace → EachStep (DoesSo meaning group) d all → EachStep (SaysOnly May) d all
        → AreSaid May (after_steps d all).trace
    steps-said d [] said does says = said
    steps-said d (x ∷ all) said does says = steps-said (deployed.after d x) all (said-append d.trace (happens_by x) said (step-said d x does.0 says.0)) does.1 says.1
