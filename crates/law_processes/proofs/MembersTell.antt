-- What members tell is what happens but starts and crashes.
use Rattle.std.proofs.Common.{◌≡◌, ℕ, Bool, true, false, cond, Option, Some, None, Ok, Err, List, [], ◌∷◌, ◌++◌, refl, sym, ap, ◌∙◌}
use Rattle.std.specs.Prelude.{is_some, drop}
use Rattle.std.specs.Option.{IsSomeAnd}
use Rattle.std.specs.List.{list_all}
use Rattle.std.proofs.lemmas.Bool.{and_parts}
use Rattle.std.proofs.lemmas.List.{append-nil, append_assoc}
use Rattle.std.proofs.lemmas.List.Elements.{filter-append}
use Rattle.state_transfer.specs.Meanings.{Meaning}
use Rattle.trace_props.specs.declared.event.Event.{Event}
use Rattle.trace_props.specs.declared.event.Event.TheVariants.{Started, Sent, Delivered, Blocked, Installed, Left, Crashed}
use Rattle.trace_props.specs.declared.event.Sending.{Sending}
use Rattle.law_acts.specs.Cores.{Core}
use Rattle.step_output.specs.Calm.{is_quiet}
use Rattle.member.specs.declared.input.Input.{Input}
use Rattle.member.specs.declared.input.Input.TheVariants.{Create, Join, Send, Datagram, Tick, Suspect, MergeHint, Leave}
use Rattle.member.specs.Members.{core_of}
use Rattle.member.specs.Handling.{Replies}
use Rattle.law_processes.specs.Deployments.{Step, Start, Call, Crash, Deployment, nothing_yet, after, after_steps, happens_by, told_by, EachStep, DoesSo}
use Rattle.law_processes.specs.Processes.{all_told}
use Rattle.law_processes.specs.Law.{is_told, but_starts_and_crashes, TellAll}

quiet-told : (e : Event) → is_quiet e ≡ true → is_told e ≡ true
quiet-told (Started p) q = q
quiet-told (Sent s) q = refl
quiet-told (Delivered d) q = refl
quiet-told (Blocked p) q = refl
quiet-told (Installed i) q = refl
quiet-told (Left p) q = refl
quiet-told (Crashed p) q = q

quiet-all : (events : List Event) → list_all is_quiet events ≡ true → but_starts_and_crashes events ≡ events
quiet-all [] q = refl
quiet-all (e ∷ events) q =
    let parts = and_parts (is_quiet e) (list_all is_quiet events) q in
    ap (λ (b : Bool). cond b (e ∷ but_starts_and_crashes events) (but_starts_and_crashes events)) (quiet-told e parts.0) ∙ ap (λ (l : List Event). e ∷ l) (quiet-all events parts.1)

-- what is these events, of which all are told
same-told : (events these : List Event) → events ≡ these → but_starts_and_crashes these ≡ these → but_starts_and_crashes events ≡ events
same-told events these is told = ap but_starts_and_crashes is ∙ told ∙ sym is

sent-told : {V : Type 0} (o : Option V) (f : V → Sending) (events : List Event) → IsSomeAnd o (λ v. events ≡ Sent (f v) ∷ drop 1 events) → list_all is_quiet (drop 1 events) ≡ true
    → but_starts_and_crashes events ≡ events
sent-told None f events x quiet = absurd x
sent-told (Some v) f events x quiet = same-told events (Sent (f v) ∷ drop 1 events) x (ap (λ (l : List Event). Sent (f v) ∷ l) (quiet-all (drop 1 events) quiet))

module _ {S : Type 0} (meaning : Meaning S) (group : List ℕ) where
  replies-told : (c : Core S) (input : Input) (events : List Event) (end : Option (Core S)) → Replies c input events end → but_starts_and_crashes events ≡ events
  replies-told c Create events end r = same-told events _ r.0 refl
  replies-told c (Join contact) events end r = same-told events [] r.0 refl
  replies-told c (Send payload) events end r = sent-told c.view _ events r.0.first r.0.quiet
  replies-told c (Datagram bytes) events end r = quiet-all events r.0
  replies-told c Tick events end r = quiet-all events r.0
  replies-told c (Suspect q) events end r = quiet-all events r.0
  replies-told c (MergeHint q) events end r = same-told events [] r.0 refl
  replies-told c Leave events end r = same-told events _ r.0 refl

  pub reply-told : (o : Option (Core S)) (input : Input) (events : List Event) (end : Option (Core S)) → IsSomeAnd o (λ c. Replies c input events end) → but_starts_and_crashes events ≡ events
  reply-told None input events end r = absurd r
  reply-told (Some c) input events end r = replies-told c input events end r

  ended-told : (b : Bool) (e : Event) → is_told e ≡ false → but_starts_and_crashes (cond b [] (e ∷ [])) ≡ []
  ended-told true e untold = refl
  ended-told false e untold = ap (λ (b : Bool). cond b (e ∷ []) []) untold

  step-told : (d : Deployment S) (x : Step S) → DoesSo meaning group d x → but_starts_and_crashes (happens_by x) ≡ told_by x
  step-told d (Start p m) does = refl
  step-told d (Call p input (Ok out) left) does = reply-told (core_of does.member) input out.events.items (core_of left) does.handled.reply
  step-told d (Call p input (Err e) left) does = ended-told (is_some left.member_state) (Crashed p) refl
  step-told d (Crash p) does = refl

  steps-told : (d : Deployment S) (steps : List (Step S)) → EachStep (DoesSo meaning group) d steps → but_starts_and_crashes (after_steps d steps).trace ≡ but_starts_and_crashes d.trace ++ all_told steps
  steps-told d [] does = sym (append-nil (but_starts_and_crashes d.trace))
  steps-told d (x ∷ steps) does =
      steps-told (after d x) steps does.1
      ∙ ap (λ (l : List Event). l ++ all_told steps) (filter-append is_told d.trace (happens_by x) ∙ ap (λ (l : List Event). but_starts_and_crashes d.trace ++ l) (step-told d x does.0))
      ∙ append_assoc (but_starts_and_crashes d.trace) (told_by x) (all_told steps)

pub tell-all : {S : Type 0} (meaning : Meaning S) → TellAll meaning
tell-all meaning group steps does = steps-told meaning group nothing_yet steps does
