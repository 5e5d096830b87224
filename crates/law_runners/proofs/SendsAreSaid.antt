-- What a runner's channel tells that was sent is what a call says.
use Rattle.std.proofs.Common.{◌≡◌, ℕ, Bool, true, false, cond, Option, None, Some, Result, Ok, Err, List, [], ◌∷◌, ◌++◌, refl, sym, ap, ◌∙◌, subst, inl, inr, ◌⊎◌}
use Rattle.std.specs.Prelude.{MatchOption, MatchBool}
use Rattle.std.specs.Option.{option_and_then}
use Rattle.std.proofs.lemmas.List.{append_assoc}
use Rattle.address.specs.declared.refusal.Refusal.TheVariants as refusal
use Rattle.address.specs.Ids.{Address, ViewId}
use Rattle.view.specs.Members.{View}
use Rattle.state_transfer.specs.Meanings.{Meaning}
use Rattle.trace_props.specs.declared.event.Event.{Event}
use Rattle.wire_values.specs.Names.{is_group_name}
use Rattle.law_acts.specs.Cores.{Core}
use Rattle.member.specs.declared.error.Error.{Error}
use Rattle.member.specs.declared.error.Error.TheVariants.{Refused}
use Rattle.member.specs.declared.input.Input.{Input}
use Rattle.member.specs.declared.input.Input.TheVariants as input
use Rattle.member.specs.Members.{MemberModel, core_of}
use Rattle.channel.specs.Errors.{is_end}
use Rattle.channel.specs.declared.stage.Stage.{Stage}
use Rattle.channel.specs.declared.stage.Stage.TheVariants.{Apart, Connected, Ended}
use Rattle.channel.specs.Channels.{ChannelModel, left_by, view_in, is_in}
use Rattle.channel.specs.Calls.{CallsAt, Calls, Steps, ConnectsAt, Connects, StartsWith}
use Rattle.channel.specs.Queues.{TakesFirst}
use Rattle.udp_net.specs.Logs.{Log}
use Rattle.udp_member.specs.Turns.{Handed, Datagram, Suspect, Tick, Hint, CallsBy, Driven, Takes, TakesAll}
use Rattle.udp_member.specs.Turns.TakesAll.{Nothing, Next}
use Rattle.udp_member.specs.Rounds.{ComesNone, Cuts, Hears, counting, silent_of, after_suspicions, SuspectsAll, Suspects, Ticks, SuspectsAndTicks, Rounds}
use Rattle.udp_member.specs.Seeking.{Hints, sought, turned}
use Rattle.law_processes.specs.Said.{AreSaid, Says, SaysAt}
use Rattle.law_processes.proofs.SendsWereAsked.{said-append, reply-said}
use Rattle.law_runners.specs.Plays.{LeftBy}
use Rattle.law_runners.specs.Runs.{Makes, Listen, Round, Seek, Offer, Wait, Create, Join, Send, Hand, Take, SaysOnly, DrivesWithoutOffer, Still, Called, listed}

module _ (May : ViewId → List ℕ → Type 0) {S : Type 0} (meaning : Meaning S) where
  -- what a channel has to tell was said
  abbrev Told : ChannelModel S → Type 0
  Told c = AreSaid May c.happened

  -- ---- calls of a channel

  ended-told : (b : Bool) (c : ChannelModel S) → Told c → Told (cond b (record c { stage = Ended }) c)
  ended-told true c t = t
  ended-told false c t = t

  left-told : (e : Error) (old new : ChannelModel S) → new ≡ left_by e old → Told old → Told new
  left-told e old new is t = subst Told (sym is) (ended-told (is_end e) old t)

  refused-told : (answer : Option Error) (e : Error) (old new : ChannelModel S) → answer ≡ Some e → LeftBy answer old new → Told old → Told new
  refused-told answer e old new why left t = left-told e old new (let l : LeftBy (Some e) old new = subst (λ (o : Option Error). LeftBy o old new) why left in l) t

  steps-told : (i : Input) (m : MemberModel S) (answer : Option Error) (old new : ChannelModel S) → ((c : Core S) → core_of m ≡ Some c → SaysAt May c i) → Steps meaning i m old answer new
      → LeftBy answer old new → Told old → Told new
  steps-told i m None old new says s left t =
      subst Told (sym s.becomes) (said-append May old.happened s.out.events.items t (reply-said May (core_of m) i s.out.events.items (core_of s.left) says s.handled.reply))
  steps-told i m (Some e) old new says s left t = left-told e old new left t

  calls-at : (i : Input) (stage : Stage S) (answer : Option Error) (old new : ChannelModel S) → ((v : View) → view_in stage ≡ Some v → Says May i v.id) → CallsAt meaning i stage old answer new
      → LeftBy answer old new → Told old → Told new
  calls-at i (Apart s) answer old new says c left t = refused-told answer (Refused refusal.NotConnected) old new c left t
  calls-at i (Connected m) answer old new says c left t =
      steps-told i m answer old new (λ k core v at. says v (ap (λ (o : Option (Core S)). option_and_then (λ (x : Core S). x.view) o) core ∙ at)) c left t
  calls-at i Ended answer old new says c left t = refused-told answer (Refused refusal.Closed) old new c left t

  calls-told : (i : Input) (answer : Option Error) (old new : ChannelModel S) → ((v : View) → view_in old.stage ≡ Some v → Says May i v.id) → Calls meaning i old answer new
      → LeftBy answer old new → Told old → Told new
  calls-told i answer old new says c left t = calls-at i old.stage answer old new says c left t

  -- ---- connects, which say nothing

  module _ (i : Input) (none : (v : ViewId) → Says May i v) (old new : ChannelModel S) (answer : Option Error) where
    starts-told : (b : Bool) (name : List ℕ) (s : S) → MatchBool b (StartsWith meaning i name s old answer new) (answer ≡ Some (Refused refusal.BadName)) → LeftBy answer old new → Told old
        → Told new
    starts-told true name s x left t = steps-told i x.member answer old new (λ c core v at. none v.id) x.steps left t
    starts-told false name s why left t = refused-told answer (Refused refusal.BadName) old new why left t

    connects-at : (name : List ℕ) (stage : Stage S) → ConnectsAt meaning i name stage old answer new → LeftBy answer old new → Told old → Told new
    connects-at name (Apart s) c left t = starts-told (is_group_name name) name s c left t
    connects-at name (Connected m) why left t = refused-told answer (Refused refusal.AlreadyConnected) old new why left t
    connects-at name Ended why left t = refused-told answer (Refused refusal.Closed) old new why left t

    again-told : (b : Bool) (name : List ℕ) → MatchBool b (Calls meaning i old answer new) (Connects meaning i name old answer new) → LeftBy answer old new → Told old → Told new
    again-told true name c left t = calls-told i answer old new (λ v at. none v.id) c left t
    again-told false name c left t = connects-at name old.stage c left t

  -- ---- what a runner hands in

  handed-told : (handed : Handed) (old : ChannelModel S) (answer : Option Error) (new : ChannelModel S) → CallsBy meaning handed old answer new → LeftBy answer old new → Told old → Told new
  handed-told (Datagram bytes) old answer new c left t = calls-told (input.Datagram c.lent) answer old new (λ v at. tt) c.calls left t
  handed-told (Suspect p) old answer new c left t = calls-told (input.Suspect p) answer old new (λ v at. tt) c left t
  handed-told Tick old answer new c left t = calls-told input.Tick answer old new (λ v at. tt) c left t
  handed-told (Hint p) old answer new c left t = calls-told (input.MergeHint p) answer old new (λ v at. tt) c left t

  -- ---- parts of a round

  module _ {N : Type 0} (log : N → Option Log) (failed : N → ℕ) where
    abbrev Tells : Driven N S → Type 0
    Tells r = Told r.channel

    same-tells : (old new : Driven N S) → new ≡ old → Tells old → Tells new
    same-tells old new same t = subst Tells (sym same) t

    takes-tells : (handed : Handed) (old : Driven N S) (answer : Option Error) (new : Driven N S) → Takes log failed meaning handed old answer new → Tells old → Tells new
    takes-tells handed old answer new x t = handed-told handed old.channel answer new.channel x.turn.calls x.turn.left t

    all-tell : {X : Type 0} (as_handed : X → Handed) (may : X → Type 0) (old : Driven N S) (xs : List X) (new : Driven N S) → TakesAll log failed meaning as_handed may old xs new
        → Tells old → Tells new
    all-tell as_handed may old _ _ Nothing t = t
    all-tell as_handed may old _ _ (Next xs mid x answer new so allowed takes goes) t =
        takes-tells (as_handed x) mid answer new takes (all-tell as_handed may old xs mid so t)

    asks-tells : (old new : Driven N S) → new.channel ≡ old.channel → Tells old → Tells new
    asks-tells old new same t = subst Told (sym same) t

    none-tells : (old new : Driven N S) → ComesNone log failed old new → Tells old → Tells new
    none-tells old new (inl a) t = asks-tells old new a.channel t
    none-tells old new (inr a) t = asks-tells old new a.channel t

    cuts-tell : {X : Type 0} (as_handed : X → Handed) (may : X → Type 0) (old : Driven N S) (e : Error) (new : Driven N S) → Cuts log failed meaning as_handed may old e new → Tells old → Tells new
    cuts-tell as_handed may old e new c t = takes-tells (as_handed c.last) c.mid (Some e) new c.answered (all-tell as_handed may old c.handed c.mid c.takes t)

    until-tells : (heard new : Driven N S) (P Q : Type 0) → (P × (new ≡ heard)) ⊎ (Q × ComesNone log failed heard new) → Tells heard → Tells new
    until-tells heard new P Q (inl x) t = same-tells heard new x.1 t
    until-tells heard new P Q (inr x) t = none-tells heard new x.1 t

    hears-tells : (old : Driven N S) (answer : Result ℕ Error) (new : Driven N S) → Hears log failed meaning old answer new → Tells old → Tells new
    hears-tells old (Ok count) new h t = until-tells h.heard new _ _ h.until (all-tell Datagram _ old h.datagrams h.heard h.takes t)
    hears-tells old (Err e) new h t = cuts-tell Datagram _ old e new h t

    anew-tells : (suspects : List Address) (old : Driven N S) → Tells old → Tells (after_suspicions suspects old)
    anew-tells [] old t = t
    anew-tells (p ∷ ps) old t = t

    silent-tells : (watched : List Address) (old new : Driven N S) → SuspectsAll log failed meaning watched old new → Tells old → Tells new
    silent-tells watched old new s t =
        let suspects = silent_of watched old in
        same-tells (after_suspicions suspects s.mid) new s.after (anew-tells suspects s.mid (all-tell Suspect _ old suspects s.mid s.takes t))

    suspects-tells : (old new : Driven N S) (failure : Option Error) → Suspects log failed meaning old failure new → Tells old → Tells new
    suspects-tells old new None (inl s) t = silent-tells _ (counting _ old) new s t
    suspects-tells old new (Some e) (inl s) t = cuts-tell Suspect _ (counting _ old) e new s t
    suspects-tells old new failure (inr s) t = same-tells old new s.1 t

    then-tells : (mid new : Driven N S) (cut failure : Option Error) → (cut ≡ None → Ticks log failed meaning mid failure new) → ((e : Error) → cut ≡ Some e → (failure ≡ Some e) × (new ≡ mid))
        → Tells mid → Tells new
    then-tells mid new None failure ticks stops t = let x = ticks refl in takes-tells Tick mid x.answer new x.takes t
    then-tells mid new (Some e) failure ticks stops t = same-tells mid new (stops e refl).1 t

    both-tell : (old new : Driven N S) (failure : Option Error) → SuspectsAndTicks log failed meaning old failure new → Tells old → Tells new
    both-tell old new failure s t = then-tells s.mid new s.cut failure s.ticks s.stops (suspects-tells old s.mid s.cut s.suspects t)

    heard-tells : (mid new : Driven N S) (heard : Result ℕ Error) (failure : Option Error) → ((count : ℕ) → heard ≡ Ok count → SuspectsAndTicks log failed meaning mid failure new)
        → ((e : Error) → heard ≡ Err e → (failure ≡ Some e) × (new ≡ mid)) → Tells mid → Tells new
    heard-tells mid new (Ok count) failure both stops t = both-tell mid new failure (both count refl) t
    heard-tells mid new (Err e) failure both stops t = same-tells mid new (stops e refl).1 t

    round-tells : (old new : Driven N S) (failure : Option Error) → Rounds log failed meaning old failure new → Tells old → Tells new
    round-tells old new failure r t = heard-tells r.mid new r.heard failure r.then_suspects r.stops (hears-tells old r.heard r.mid r.hears t)

    seeks-tell : (o : Option Address) (old new : Driven N S) (failure : Option Error)
        → MatchOption o ((failure ≡ None) × (new ≡ turned old)) (λ p. Hints log failed meaning p (turned old) failure new) → Tells old → Tells new
    seeks-tell None old new failure s t = same-tells (turned old) new s.1 t
    seeks-tell (Some p) old new failure s t = takes-tells (Hint p) (turned old) s.answer new s.takes t

    takes-first : (event : Option Event) (old new : List Event) → TakesFirst event old new → AreSaid May old → AreSaid May (listed event ++ new)
    takes-first None old new x t = subst (AreSaid May) (sym x.1) tt
    takes-first (Some e) old new x t = subst (AreSaid May) x t

    -- what is taken by a call, and what its channel has to tell then, was said, where what it had to tell was, and the call says what may be said
    pub call-said : (group : List ℕ) (old : Driven N S) (taken : List Event) (failure : Option Error) (new : Driven N S) (call : Makes log failed meaning group old taken failure new)
        → SaysOnly May call → AreSaid May old.channel.happened → AreSaid May (taken ++ new.channel.happened)
    call-said group old _ _ _ (Listen answer new h) says t = hears-tells old answer new h t
    call-said group old _ _ _ (Round failure new r) says t = round-tells old new failure r t
    call-said group old _ _ _ (Seek failure new s) says t = seeks-tell (sought old) old new failure s t
    call-said group old _ _ _ (Offer new o) says t = subst Told (sym o.channel_is) t
    call-said group old _ _ _ (Wait new lists same) says t = asks-tells old new same t
    call-said group old _ _ _ (Create failure channel c left) says t = connects-at input.Create (λ v. tt) old.channel channel failure group old.channel.stage c left t
    call-said group old _ _ _ (Join contact failure channel c left) says t =
        again-told (input.Join contact) (λ v. tt) old.channel channel failure (is_in group old.channel.stage) group c left t
    call-said group old _ _ _ (Send payload failure channel c left) says t =
        calls-told (input.Send c.lent) failure old.channel channel (λ v at. subst (May v.id) (sym c.same) (says v at)) c.calls left t
    call-said group old _ _ _ (Hand i failure channel none c left) says t = calls-told i failure old.channel channel says c left t
    call-said group old _ _ _ (Take event channel first same) says t = takes-first event old.channel.happened channel.happened first t

    front-said : (s t : List Event) → AreSaid May (s ++ t) → AreSaid May s
    front-said [] t a = tt
    front-said (x ∷ s) t a = (a.0, front-said s t a.1)

    behind-said : (s t : List Event) → AreSaid May (s ++ t) → AreSaid May t
    behind-said [] t a = a
    behind-said (x ∷ s) t a = behind-said s t a.1

    -- the same of any number of calls that are no offers
    pub drives-said : (group : List ℕ) (first : Driven N S) (taken : List Event) (fell : Bool) (now : Driven N S) → DrivesWithoutOffer log failed May meaning group first taken fell now
        → AreSaid May first.channel.happened → AreSaid May (taken ++ now.channel.happened)
    drives-said group first _ _ _ Still t = t
    drives-said group first _ _ now (Called taken more fell failure mid new d m) t =
        let x = drives-said group first taken fell mid d t in
        subst (AreSaid May) (sym (append_assoc taken more now.channel.happened))
        (said-append May taken (more ++ now.channel.happened) (front-said taken mid.channel.happened x)
        (call-said group mid more failure now m.call m.says (behind-said taken mid.channel.happened x)))

    -- a call that says only what may be said by one says only what may be said by another
    pub says-more : (Most : ViewId → List ℕ → Type 0) → ((v : ViewId) (payload : List ℕ) → May v payload → Most v payload) → (group : List ℕ) (old : Driven N S) (taken : List Event)
        (failure : Option Error) (new : Driven N S) (call : Makes log failed meaning group old taken failure new) → SaysOnly May call → SaysOnly Most call
    says-more Most more group old _ _ _ (Listen answer new h) says = tt
    says-more Most more group old _ _ _ (Round failure new r) says = tt
    says-more Most more group old _ _ _ (Seek failure new s) says = tt
    says-more Most more group old _ _ _ (Offer new o) says = tt
    says-more Most more group old _ _ _ (Wait new lists same) says = tt
    says-more Most more group old _ _ _ (Create failure channel c left) says = tt
    says-more Most more group old _ _ _ (Join contact failure channel c left) says = tt
    says-more Most more group old _ _ _ (Send payload failure channel c left) says = λ v at. more v.id payload (says v at)
    says-more Most more group old _ _ _ (Hand i failure channel none c left) says = λ v at. input-more i v.id (says v at)
      where
        input-more : (i : Input) (v : ViewId) → Says May i v → Says Most i v
        input-more input.Create v s = tt
        input-more (input.Join contact) v s = tt
        input-more (input.Send payload) v s = more v payload.now s
        input-more (input.Datagram bytes) v s = tt
        input-more input.Tick v s = tt
        input-more (input.Suspect q) v s = tt
        input-more (input.MergeHint q) v s = tt
        input-more input.Leave v s = tt
    says-more Most more group old _ _ _ (Take event channel first same) says = tt
