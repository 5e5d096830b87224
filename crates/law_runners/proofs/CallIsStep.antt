-- Each call of a channel is at most one step of its process, and a connect is a start before it.
use Rattle.std.proofs.Common.{◌≡◌, ℕ, Bool, true, false, cond, Option, None, Some, Result, Ok, Err, List, [], ◌∷◌, ◌++◌, map, refl, sym, ap, ◌∙◌, subst}
use Rattle.std.specs.Prelude.{IfSome, MatchBool, ◌||◌, is_some}
use Rattle.std.specs.Option.{option_map_or}
use Rattle.std.proofs.lemmas.Option.{none-some}
use Rattle.std.proofs.lemmas.List.{append-nil, map-append}
use Rattle.address.specs.Ids.{Address, IsAddress}
use Rattle.address.specs.declared.refusal.Refusal.TheVariants as refusal
use Rattle.wire_values.specs.Names.{is_group_name}
use Rattle.state_transfer.specs.Meanings.{Meaning}
use Rattle.law_acts.specs.Cores.{Core, idle}
use Rattle.membership.specs.declared.member_state.MemberState.{MemberState}
use Rattle.step_output.specs.declared.output.Output.{Output}
use Rattle.member.specs.declared.error.Error.{Error}
use Rattle.member.specs.declared.error.Error.TheVariants.{Refused}
use Rattle.member.specs.declared.input.Input.{Input}
use Rattle.member.specs.declared.input.Input.TheVariants as input
use Rattle.member.specs.Errors.{is_memory, is_closed}
use Rattle.member.specs.Members.{MemberModel, core_of, refusal_in, refusal_of, is_unreadable}
use Rattle.member.specs.Handling.{Handled}
use Rattle.channel.specs.declared.stage.Stage.{Stage}
use Rattle.channel.specs.declared.stage.Stage.TheVariants.{Apart, Connected, Ended}
use Rattle.channel.specs.Errors.{is_end}
use Rattle.channel.specs.Channels.{ChannelModel, member_in, is_in, left_by, stage_of}
use Rattle.channel.specs.Calls.{CallsAt, Calls, Steps, IsWhy, StartsWith, ConnectsAt, Connects, Reconnects}
use Rattle.channel.proofs.StepsOfChannels.{left-refused}
use Rattle.law_processes.specs.Deployments.{Step, Start, Call, Crash, IsNew, bytes_of, running_on, left_with, puts_of, told_by}
use Rattle.law_processes.specs.Processes.{StepsSo, all_told}
use Rattle.trace_props.specs.declared.event.Event.{Event}
use Rattle.trace_props.specs.declared.event.Event.TheVariants.{Crashed}
use Rattle.law_runners.specs.Plays.{IsReady, is_apart_after, Plays, IsStepBy, AreByCall, AreByConnect, AreByReconnect, falls, crash_of, happens_then, Happens, PlaysBy, LeftBy, CallsAreSteps, LentCallsAreSteps, CreatesAreSteps, JoinsAreSteps}

-- whether a running channel ends by an answer
abbrev pub ends_by : Option Error → Bool
ends_by failure = option_map_or is_end failure false

-- whether it has ended
abbrev pub is_over : {S : Type 0} → Stage S → Bool
is_over (Apart s) = false
is_over (Connected m) = false
is_over Ended = true

if-some : (o : Option Error) (e : Error) (P : Error → Type 0) → o ≡ Some e → IfSome o P → P e
if-some o e P is x = let y : IfSome (Some e) P = subst (λ (k : Option Error). IfSome k P) is x in y

-- ---- the stage that a step leaves

module _ {S : Type 0} (meaning : Meaning S) where
  running-by : (address : Address) (group : List ℕ) (state : Option (MemberState S)) → let m : MemberModel S = record { address = address; group = group; member_state = state } in
      running_on m ≡ member_in (stage_of m)
  running-by address group None = refl
  running-by address group (Some l) = refl

  running-is : (m : MemberModel S) → running_on m ≡ member_in (stage_of m)
  running-is m = running-by m.address m.group m.member_state

  ready-by : (address : Address) (group : List ℕ) (state : Option (MemberState S)) → let m : MemberModel S = record { address = address; group = group; member_state = state } in
      IsReady meaning (stage_of m)
  ready-by address group None = tt
  ready-by address group (Some l) = refl

  ready-is : (m : MemberModel S) → IsReady meaning (stage_of m)
  ready-is m = ready-by m.address m.group m.member_state

  apart-by : (address : Address) (group : List ℕ) (state : Option (MemberState S)) → let m : MemberModel S = record { address = address; group = group; member_state = state } in
      is_apart_after (stage_of m) [] ≡ false
  apart-by address group None = refl
  apart-by address group (Some l) = refl

  apart-is : (m : MemberModel S) → is_apart_after (stage_of m) [] ≡ false
  apart-is m = apart-by m.address m.group m.member_state

  apart-not : (s : Stage S) (x : Step S) (own : List (Step S)) → is_apart_after s (x ∷ own) ≡ false
  apart-not (Apart s) x own = refl
  apart-not (Connected m) x own = refl
  apart-not Ended x own = refl

  ready-after : (b : Bool) (c : ChannelModel S) → IsReady meaning c.stage → IsReady meaning (cond b (record c { stage = Ended }) c).stage
  ready-after true c x = tt
  ready-after false c x = x

  waiting-after : (b : Bool) (c : ChannelModel S) → (cond b (record c { stage = Ended }) c).outgoing ≡ c.outgoing
  waiting-after true c = refl
  waiting-after false c = refl

  told-after : (b : Bool) (c : ChannelModel S) → (cond b (record c { stage = Ended }) c).happened ≡ c.happened
  told-after true c = refl
  told-after false c = refl

  address-after : (b : Bool) (c : ChannelModel S) → (cond b (record c { stage = Ended }) c).address ≡ c.address
  address-after true c = refl
  address-after false c = refl

  pub ended-after : (b : Bool) (c : ChannelModel S) → b ≡ true → (cond b (record c { stage = Ended }) c).stage ≡ Ended
  ended-after true c e = refl
  ended-after false c e = absurd (let bad : false ≡ true = e in cc)

  -- a member that has ended is let go exactly where its channel has ended
  crash-by : (p : Address) (a b : Bool) (m : MemberModel S) (c : ChannelModel S) → cond a (Connected m) Ended ≡ (cond b (record c { stage = Ended }) c).stage → is_over c.stage ≡ false
      → cond a [] (Crashed p ∷ []) ≡ crash_of p b
  crash-by p true true m c e going = absurd (let bad : false ≡ true = ap (λ (s : Stage S). is_over s) e in cc)
  crash-by p true false m c e going = refl
  crash-by p false true m c e going = refl
  crash-by p false false m c e going = absurd (let bad : true ≡ false = ap (λ (s : Stage S). is_over s) e ∙ going in cc)

  -- ---- one step

  -- a step from a running member, with what it leaves of the channel
  record IsOne (group : List ℕ) (input : Input) (m : MemberModel S) (old : ChannelModel S) (failure : Option Error) (new : ChannelModel S) : Type 0 where
    step : Step S
    so : StepsSo meaning group (Some m) step
    by_input : IsStepBy old.address input step
    left : left_with step ≡ member_in new.stage
    apart : is_apart_after new.stage [] ≡ false
    puts : map bytes_of new.outgoing ≡ map bytes_of old.outgoing ++ puts_of step
    tells : new.happened ≡ old.happened ++ told_by step
    happens : happens_then step ≡ told_by step ++ crash_of old.address (ends_by failure)
    address : new.address ≡ old.address
    ready : IsReady meaning new.stage

  module _ (group : List ℕ) (input : Input) (m : MemberModel S) (old new : ChannelModel S) (was : IsReady meaning old.stage) where
    taken : (out : Output) (left : MemberModel S) → Handled meaning m input (Ok out) left
        → new ≡ record { address = old.address; stage = stage_of left; outgoing = old.outgoing ++ out.packets.items; happened = old.happened ++ out.events.items } → IsOne group input m old None new
    taken out left h is = record {
      step = Call old.address input (Ok out) left;
      so = record { member = m; runs = refl; handled = h };
      by_input = (refl, refl);
      left = running-is left ∙ sym (ap (λ (c : ChannelModel S). member_in c.stage) is);
      apart = ap (λ (c : ChannelModel S). is_apart_after c.stage []) is ∙ apart-is left;
      puts = ap (λ (c : ChannelModel S). map bytes_of c.outgoing) is ∙ map-append bytes_of old.outgoing out.packets.items;
      tells = ap (λ (c : ChannelModel S). c.happened) is;
      happens = sym (append-nil out.events.items);
      address = ap (λ (c : ChannelModel S). c.address) is;
      ready = subst (λ (c : ChannelModel S). IsReady meaning c.stage) (sym is) (ready-is left);
    }

    -- nothing is put out or told by a step that fails
    no-puts : (e : Error) → new ≡ left_by e old → map bytes_of new.outgoing ≡ map bytes_of old.outgoing ++ []
    no-puts e is = ap (λ (c : ChannelModel S). map bytes_of c.outgoing) is ∙ ap (map bytes_of) (waiting-after (is_end e) old) ∙ sym (append-nil (map bytes_of old.outgoing))

    no-tells : (e : Error) → new ≡ left_by e old → new.happened ≡ old.happened ++ []
    no-tells e is = ap (λ (c : ChannelModel S). c.happened) is ∙ told-after (is_end e) old ∙ sym (append-nil old.happened)

    same-address : (e : Error) → new ≡ left_by e old → new.address ≡ old.address
    same-address e is = ap (λ (c : ChannelModel S). c.address) is ∙ address-after (is_end e) old

    ready-then : (e : Error) → new ≡ left_by e old → IsReady meaning new.stage
    ready-then e is = subst (λ (c : ChannelModel S). IsReady meaning c.stage) (sym is) (ready-after (is_end e) old was)

    -- its member refuses, or has ended
    refused : (e : Error) (left : MemberModel S) → is_over old.stage ≡ false → Handled meaning m input (Err e) left → stage_of left ≡ (left_by e old).stage → new ≡ left_by e old
        → IsOne group input m old (Some e) new
    refused e left going h goes is = record {
      step = Call old.address input (Err e) left;
      so = record { member = m; runs = refl; handled = h };
      by_input = (refl, refl);
      left = running-is left ∙ ap member_in goes ∙ sym (ap (λ (c : ChannelModel S). member_in c.stage) is);
      apart = ap (λ (c : ChannelModel S). is_apart_after c.stage []) is ∙ ap (λ (s : Stage S). is_apart_after s []) (sym goes) ∙ apart-is left;
      puts = no-puts e is;
      tells = no-tells e is;
      happens = crash-by old.address (is_some left.member_state) (is_end e) left old goes going;
      address = same-address e is;
      ready = ready-then e is;
    }

    -- room is refused for what it put out
    lost : (e : Error) → e ≡ Refused refusal.Memory → new ≡ left_by e old → IsOne group input m old (Some e) new
    lost e why is = record {
      step = Crash old.address;
      so = refl;
      by_input = refl;
      left = sym (ap (λ (c : ChannelModel S). member_in c.stage) is ∙ ap (λ (k : Error). member_in (left_by k old).stage) why);
      apart = ap (λ (c : ChannelModel S). is_apart_after c.stage []) is ∙ ap (λ (k : Error). is_apart_after (left_by k old).stage []) why;
      puts = no-puts e is;
      tells = no-tells e is;
      happens = sym (ap (λ (k : Error). crash_of old.address (is_end k)) why);
      address = same-address e is;
      ready = ready-then e is;
    }

    -- where each error leaves the member as it leaves the channel
    abbrev Leaves : Type 0
    Leaves = (e : Error) (left : MemberModel S) → Handled meaning m input (Err e) left → stage_of left ≡ (left_by e old).stage

    failed-by : (e : Error) (left : MemberModel S) (result : Result Output Error) → is_over old.stage ≡ false → Leaves → Handled meaning m input result left → IsWhy result e
        → new ≡ left_by e old → IsOne group input m old (Some e) new
    failed-by e left (Ok out) going goes h why is = lost e why.0 is
    failed-by e left (Err k) going goes h why is =
        let handled = subst (λ (j : Error). Handled meaning m input (Err j) left) (sym why) h in refused e left going handled (goes e left handled) is

    one-step : (failure : Option Error) → is_over old.stage ≡ false → Leaves → Steps meaning input m old failure new → LeftBy failure old new → IsOne group input m old failure new
    one-step None going goes s is = taken s.out s.left s.handled s.becomes
    one-step (Some e) going goes s is = failed-by e s.left s.result going goes s.handled s.why is

  -- ---- a call

  module _ (group : List ℕ) (input : Input) (old new : ChannelModel S) (was : IsReady meaning old.stage) where
    -- nothing is done
    idles : (s : Stage S) → new ≡ record old { stage = s } → member_in old.stage ≡ member_in s → is_apart_after s [] ≡ is_apart_after old.stage [] → IsReady meaning s
        → Plays meaning group [] old new
    idles s is same apart ready = record {
      runs = tt;
      left = same ∙ sym (ap (λ (c : ChannelModel S). member_in c.stage) is);
      apart = ap (λ (c : ChannelModel S). is_apart_after c.stage []) is ∙ apart;
      puts = ap (λ (c : ChannelModel S). map bytes_of c.outgoing) is ∙ sym (append-nil (map bytes_of old.outgoing));
      tells = ap (λ (c : ChannelModel S). c.happened) is ∙ sym (append-nil old.happened);
      address = ap (λ (c : ChannelModel S). c.address) is;
      ready = subst (λ (c : ChannelModel S). IsReady meaning c.stage) (sym is) ready;
    }

    stays : new ≡ old → Plays meaning group [] old new
    stays is = idles old.stage is refl refl was

    -- nothing happens where it does not end
    no-happening : (failure : Option Error) → falls old.stage failure ≡ false → Happens [] old failure
    no-happening failure e = sym (ap (crash_of old.address) e)

    -- what happens by one step, and by a start before it
    happens-one : (m : MemberModel S) (failure : Option Error) → falls old.stage failure ≡ ends_by failure → (x : IsOne group input m old failure new) → Happens (x.step ∷ []) old failure
    happens-one m failure e x =
        append-nil (happens_then x.step) ∙ x.happens ∙ ap (λ (l : List Event). l ++ crash_of old.address (ends_by failure)) (sym (append-nil (told_by x.step)))
        ∙ ap (λ (b : Bool). all_told (x.step ∷ []) ++ crash_of old.address b) (sym e)

    plays-one : (m : MemberModel S) (failure : Option Error) → member_in old.stage ≡ Some m → (x : IsOne group input m old failure new) → Plays meaning group (x.step ∷ []) old new
    plays-one m failure there x = record {
      runs = (subst (λ (o : Option (MemberModel S)). StepsSo meaning group o x.step) (sym there) x.so, tt);
      left = x.left;
      apart = x.apart ∙ sym (apart-not old.stage x.step []);
      puts = x.puts ∙ ap (λ (l : List (List ℕ)). map bytes_of old.outgoing ++ l) (sym (append-nil (puts_of x.step)));
      tells = x.tells ∙ ap (λ l. old.happened ++ l) (sym (append-nil (told_by x.step)));
      address = x.address;
      ready = x.ready;
    }

    refused-leaves : (m : MemberModel S) → old.stage ≡ Connected m → (e : Error) (left : MemberModel S) → Handled meaning m input (Err e) left → stage_of left ≡ (left_by e old).stage
    refused-leaves m at e left h =
        ap (λ (c : ChannelModel S). c.stage) (left-refused meaning input (record old { stage = Connected m }) (Err e) e (stage_of left) (record { left = left; handled = h; becomes = refl }) refl)
        ∙ ap (λ (s : Stage S). (left_by e (record old { stage = s })).stage) (sym at)

    call-plays : (stage : Stage S) (failure : Option Error) → old.stage ≡ stage → CallsAt meaning input stage old failure new → LeftBy failure old new
        → PlaysBy meaning group (AreByCall old.address input (member_in stage)) old failure new
    call-plays (Apart s) failure at c is =
        ([], refl, stays (if-some failure (Refused refusal.NotConnected) (λ e. new ≡ left_by e old) c is), no-happening failure (ap (λ (t : Stage S). falls t failure) at ∙ ap ends_by c))
    call-plays (Connected m) failure at c is =
        let x = one-step group input m old new was failure (ap (λ (t : Stage S). is_over t) at) (refused-leaves m at) c is in
        (x.step ∷ [], (x.step, refl, x.by_input), plays-one m failure (ap member_in at) x, happens-one m failure (ap (λ (t : Stage S). falls t failure) at) x)
    call-plays Ended failure at c is =
        ([], refl, idles Ended (if-some failure (Refused refusal.Closed) (λ e. new ≡ left_by e old) c is) (ap member_in at) (sym (ap (λ (t : Stage S). is_apart_after t []) at)) tt, no-happening failure (ap (λ (t : Stage S). falls t failure) at))

    pub plays-call : (failure : Option Error) → Calls meaning input old failure new → LeftBy failure old new
        → PlaysBy meaning group (AreByCall old.address input (member_in old.stage)) old failure new
    plays-call failure c is = call-plays old.stage failure refl c is

  -- ---- a connect

  -- a member that has just started refuses no connect
  abbrev Welcomes : Input → Type 0
  Welcomes input = (p : Address) → refusal_in (idle meaning.opening p) input ≡ None

  module _ (group : List ℕ) (input : Input) (welcomes : Welcomes input) (old new : ChannelModel S) (real : IsAddress old.address) (was : IsReady meaning old.stage) where
    no-refusal : (m : MemberModel S) → core_of m ≡ Some (idle meaning.opening old.address) → refusal_of m input ≡ None
    no-refusal m core = ap (λ (o : Option (Core S)). option_map_or (λ c. refusal_in c input) o (Some (Refused refusal.Closed))) core ∙ welcomes old.address

    ends-by : (m left : MemberModel S) (e : Error) (b u : Bool) → is_memory e ≡ b → refusal_of m input ≡ None
        → MatchBool b (refusal_of m input ≡ None) (MatchBool u ((e ≡ Refused refusal.Closed) × (core_of left ≡ None)) ((refusal_of m input ≡ Some e) × (left ≡ m))) → is_end e ≡ true
    ends-by m left e true u memory none x = or-true (is_closed e) (is_memory e) memory
      where
        or-true : (a b : Bool) → b ≡ true → (a || b) ≡ true
        or-true true b e = refl
        or-true false b e = e
    ends-by m left e false true memory none x = ap is_end x.0
    ends-by m left e false false memory none x = absurd (none-some e (sym none ∙ x.0))

    connect-leaves : (m : MemberModel S) → core_of m ≡ Some (idle meaning.opening old.address) → (e : Error) (left : MemberModel S) → Handled meaning m input (Err e) left
        → stage_of left ≡ (left_by e old).stage
    connect-leaves m core e left h =
        let ends = ends-by m left e (is_memory e) (is_unreadable meaning m input) refl (no-refusal m core) h.refused in
        ap (λ (c : ChannelModel S). c.stage) (left-refused meaning input (record old { stage = Connected m }) (Err e) e (stage_of left) (record { left = left; handled = h; becomes = refl }) refl)
        ∙ ended-after (is_end e) (record old { stage = Connected m }) ends ∙ sym (ended-after (is_end e) old ends)

    starting : (s : S) → s ≡ meaning.opening → (failure : Option Error) → is_over old.stage ≡ false → StartsWith meaning input group s old failure new → LeftBy failure old new
        → (m : MemberModel S) × IsNew meaning group old.address m × IsOne group input m old failure new
    starting s opening failure going c is =
        let core = subst (λ (r : S). core_of c.member ≡ Some (idle r old.address)) opening c.started.core_is in (
          c.member,
          record { real = real; address = c.started.address_is; group_is = c.started.group_is; core = core; alive = c.started.alive },
          one-step group input c.member old new was failure going (connect-leaves c.member core) c.steps is,
        )

    plays-two : (s : S) (failure : Option Error) → old.stage ≡ Apart s → (m : MemberModel S) → IsNew meaning group old.address m → (x : IsOne group input m old failure new)
        → Plays meaning group (Start old.address m ∷ x.step ∷ []) old new
    plays-two s failure at m fresh x = record {
      runs = (fresh, (x.so, tt));
      left = x.left;
      apart = x.apart ∙ sym (apart-not old.stage (Start old.address m) (x.step ∷ []));
      puts = x.puts ∙ ap (λ (l : List (List ℕ)). map bytes_of old.outgoing ++ l) (sym (append-nil (puts_of x.step)));
      tells = x.tells ∙ ap (λ l. old.happened ++ l) (sym (append-nil (told_by x.step)));
      address = x.address;
      ready = x.ready;
    }

    connect-by : (s : S) (failure : Option Error) (b : Bool) → old.stage ≡ Apart s → MatchBool b (StartsWith meaning input group s old failure new) (failure ≡ Some (Refused refusal.BadName))
        → LeftBy failure old new
        → PlaysBy meaning group (λ own. MatchBool b ((m : MemberModel S) × (x : Step S) × (own ≡ Start old.address m ∷ x ∷ []) × IsStepBy old.address input x) (own ≡ [])) old failure new
    connect-by s failure true at c is =
        let x = starting s (subst (IsReady meaning) at was) failure (ap (λ (t : Stage S). is_over t) at) c is in (
          Start old.address x.0 ∷ x.2.step ∷ [],
          (x.0, x.2.step, refl, x.2.by_input),
          plays-two s failure at x.0 x.1 x.2,
          happens-one group input old new was x.0 failure (ap (λ (t : Stage S). falls t failure) at) x.2,
        )
    connect-by s failure false at c is = (
      [],
      refl,
      stays group input old new was (if-some failure (Refused refusal.BadName) (λ e. new ≡ left_by e old) c is),
      no-happening group input old new was failure (ap (λ (t : Stage S). falls t failure) at ∙ ap ends_by c),
    )

    connect-plays : (stage : Stage S) (failure : Option Error) → old.stage ≡ stage → ConnectsAt meaning input group stage old failure new
        → LeftBy failure old new → PlaysBy meaning group (AreByConnect old.address input group stage) old failure new
    connect-plays (Apart s) failure at c is = connect-by s failure (is_group_name group) at c is
    connect-plays (Connected m) failure at c is = (
      [],
      refl,
      stays group input old new was (if-some failure (Refused refusal.AlreadyConnected) (λ e. new ≡ left_by e old) c is),
      no-happening group input old new was failure (ap (λ (t : Stage S). falls t failure) at ∙ ap ends_by c),
    )
    connect-plays Ended failure at c is = (
      [],
      refl,
      idles group input old new was Ended (if-some failure (Refused refusal.Closed) (λ e. new ≡ left_by e old) c is) (ap member_in at) (sym (ap (λ (t : Stage S). is_apart_after t []) at)) tt,
      no-happening group input old new was failure (ap (λ (t : Stage S). falls t failure) at),
    )

    pub plays-connect : (failure : Option Error) → Connects meaning input group old failure new → LeftBy failure old new
        → PlaysBy meaning group (AreByConnect old.address input group old.stage) old failure new
    plays-connect failure c is = connect-plays old.stage failure refl c is

    reconnect-by : (failure : Option Error) (b : Bool) → MatchBool b (Calls meaning input old failure new) (Connects meaning input group old failure new) → LeftBy failure old new
        → PlaysBy meaning group (λ own. MatchBool b (AreByCall old.address input (member_in old.stage) own) (AreByConnect old.address input group old.stage own)) old failure new
    reconnect-by failure true c is = plays-call group input old new was failure c is
    reconnect-by failure false c is = plays-connect failure c is

    pub plays-reconnect : (failure : Option Error) → Reconnects meaning input group old failure new → LeftBy failure old new
        → PlaysBy meaning group (AreByReconnect old.address input group old.stage) old failure new
    plays-reconnect failure c is = reconnect-by failure (is_in group old.stage) c is

-- ---- the laws

pub calls-are : {S : Type 0} (meaning : Meaning S) → CallsAreSteps meaning
calls-are meaning group input old new failure was c is = plays-call meaning group input old new was failure c is

pub lent-calls-are : {S : Type 0} (meaning : Meaning S) → LentCallsAreSteps meaning
lent-calls-are meaning group input bytes old new failure was c is = (c.lent, c.same, plays-call meaning group (input c.lent) old new was failure c.calls is)

pub creates-are : {S : Type 0} (meaning : Meaning S) → CreatesAreSteps meaning
creates-are meaning name old new failure real was c is = plays-connect meaning name input.Create (λ p. refl) old new real was failure c is

pub joins-are : {S : Type 0} (meaning : Meaning S) → JoinsAreSteps meaning
joins-are meaning name contact old new failure real was c is = plays-reconnect meaning name (input.Join contact) (λ p. refl) old new real was failure c is
