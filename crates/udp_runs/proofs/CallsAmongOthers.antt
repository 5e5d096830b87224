-- What each call of a node does among the others, by what its process does.
use Rattle.std.proofs.Common.{◌≡◌, ℕ, Bool, true, false, cond, nat_eq, is_some, Option, None, Some, Result, Ok, Err, OnOk, OnErr, IsErr, List, [], ◌∷◌, ◌++◌, map, take, drop, length, get_or, option_to_list, slice_get, slice_set, inl, inr, ◌⊎◌, ◌+◌, ◌<◌, ◌≤◌, arith, refl, sym, ap, ◌∙◌, subst}
use Rattle.std.specs.List.{concat, list_any}
use Rattle.std.specs.Option.{ForSome, option_map_or}
use Rattle.std.proofs.lemmas.List.{append-nil, append_assoc, map-append, take-append-drop, take_all}
use Rattle.std.proofs.lemmas.List.Elements.{filter_map-append}
use Rattle.address.specs.Ids.{Address}
use Rattle.state_transfer.specs.Meanings.{Meaning}
use Rattle.trace_props.specs.declared.event.Event.TheVariants.{Started, Crashed}
use Rattle.trace_props.proofs.RulesAlongLists.{slice_get-push}
use Rattle.vsync_text.specs.TraceText.{line_of}
use Rattle.vsync_text.specs.Runs.{refusal_line}
use Rattle.world_model.specs.declared.WorldEvent.{WorldEvent}
use Rattle.world_model.specs.declared.Target.TheVariants.{Member}
use Rattle.world_model.specs.Histories.{target_of}
use Rattle.world_model.specs.declared.WorldEvent.TheVariants as event
use Rattle.vsync_text.specs.declared.udp_script.UdpEvent.{UdpEvent}
use Rattle.vsync_text.specs.declared.udp_script.UdpLine.{UdpLine}
use Rattle.member.specs.declared.error.Error.{Error}
use Rattle.channel.specs.declared.stage.Stage.{Stage}
use Rattle.channel.specs.declared.stage.Stage.TheVariants.{Apart, Connected, Ended}
use Rattle.channel.specs.Channels.{receiver_in}
use Rattle.udp_net.specs.Logs.{Log, NetEvent}
use Rattle.udp_member.specs.Turns.{Driven}
use Rattle.law_runners.specs.Runs.{new_channel}
use Rattle.law_runners.specs.Systems.{Gone, Played, PlayedOver, has_ended}
use Rattle.udp_runs.specs.declared.process.Process.{Process}
use Rattle.udp_runs.specs.declared.node_state.NodeState.{NodeState}
use Rattle.udp_runs.specs.Machines.{GivesBack}
use Rattle.udp_runs.specs.Texts.{Line, Happens, Refuses, Appended, texts_of, events_in}
use Rattle.udp_runs.specs.Answers.{TakesTurn}
use Rattle.udp_runs.specs.declared.calls.Call.{Call}
use Rattle.udp_runs.specs.Carrying.{At, Unlisted, DoesAt, DoesLine, line_of_event, why_unlisted, Starts, Unstarted, Crashes, Uncrashed, Uncalled, TurnBy, why_absent, why_unstarted, with_process}
use Rattle.udp_runs.specs.Calls.{Asks, Creates, Joins, Sends, Ticks, Suspects, Hints, Leaves}
use Rattle.udp_runs.specs.Nodes.{Plays, CannotStart, IsFirst, IsNext, AreUnused, GoesOn, GoesOnAt, processes_in}
use Rattle.udp_runs.specs.Processes.{net_of, state_text}
use Rattle.udp_runs.proofs.PlacesSet.{set-self, set-other, at-place, length-set, take-more}
use Rattle.udp_runs.proofs.LinesAndEvents.{text-then, cut-whole, cut-behind, concat-then, take-front}
use Rattle.udp_runs.proofs.NodesGoOn.{plays-refused, turn-lists, turn-listed, plays-turn, plays-ended, turn-played, plays-killed, killed-played, plays-started, plays-failed, start-failed}

-- a channel that shows a receiver has not ended
shows-runs : {S : Type 0} (stage : Stage S) → is_some (receiver_in stage) ≡ true → has_ended stage ≡ false
shows-runs (Apart s) on = refl
shows-runs (Connected m) on = refl
shows-runs Ended on = absurd (let bad : false ≡ true = on in cc)

abbrev pub okay : (A E : Type 0) → A → Result A E
okay A E x = Ok x

abbrev pub refusing : (A E : Type 0) → E → Result A E
refusing A E e = Err e

-- ---- what is given back

pub gives-none : {N : Type 0} (given : Option (List (Gone N))) → GivesBack given [] given
gives-none None = tt
gives-none (Some all) = sym (append-nil all)

pub gives-then : {N : Type 0} (a b c : Option (List (Gone N))) (xs ys : List (Gone N)) → GivesBack a xs b → GivesBack b ys c → GivesBack a (xs ++ ys) c
gives-then a b None xs ys x y = tt
gives-then a None (Some l) xs ys x y = absurd y
gives-then None (Some m) (Some l) xs ys x y = absurd x
gives-then (Some o) (Some m) (Some l) xs ys x y = y ∙ ap (λ z. z ++ ys) x ∙ append_assoc o xs ys

pub gives-as : {N : Type 0} (given given' : Option (List (Gone N))) → given' ≡ given → GivesBack given [] given'
gives-as {N} given given' same = subst (λ (g : Option (List (Gone N))). GivesBack given [] g) (sym same) (gives-none given)

-- no line of a text
none-more : (text text' : List ℕ) → text' ≡ text → text' ≡ text ++ []
none-more text text' same = same ∙ sym (append-nil text)

one-more : (text text' line : List ℕ) → text' ≡ text ++ line → text' ≡ text ++ (line ++ [])
one-more text text' line said = said ∙ ap (λ (l : List ℕ). text ++ l) (sym (append-nil line))

module _ {N S : Type 0} (log : N → Option Log) (failed : N → ℕ) (meaning : Meaning S) (group : List ℕ) where
  abbrev Goes : {A E : Type 0} → (List Line → List NetEvent → Type 0) → NodeState N S → NodeState N S → Option (List (Gone N)) → Option (List (Gone N)) → List ℕ → List ℕ → Result A E
      → Type 0
  Goes Does old new given given' text text' result = GoesOnAt log failed meaning group Does old new given given' text text' result

  -- they go on among these, from those
  abbrev On : (List Line → List NetEvent → Type 0) → List (NodeState N S) → List (Gone N) → List Line → List NetEvent → Option (List (Gone N)) → Option (List (Gone N)) → List Line → Type 0
  On Does states gone lines nets given given' more =
      (back : List (Gone N)) × (listed : List NetEvent) × GivesBack given back given' × Does more listed × Plays log failed meaning group states (gone ++ back) (lines ++ more) (nets ++ listed)

  abbrev Some_played : List Line → List Line → Type 0
  Some_played lines more = (at : Address → Option (Driven N S)) × (all : List (Gone N)) × Played log failed meaning group at all (events_in (lines ++ more))

  still-plays : (states : List (NodeState N S)) (k : ℕ) (old : NodeState N S) (gone : List (Gone N)) (lines more : List Line) (nets : List NetEvent) → slice_get states k ≡ Some old
      → Plays log failed meaning group states gone (lines ++ more) nets → Plays log failed meaning group (slice_set states k old) (gone ++ []) (lines ++ more) (nets ++ [])
  still-plays states k old gone lines more nets here x =
      subst (λ (l : List NetEvent). Plays log failed meaning group (slice_set states k old) (gone ++ []) (lines ++ more) l) (sym (append-nil nets))
      (subst (λ (l : List (NodeState N S)). Plays log failed meaning group l (gone ++ []) (lines ++ more) nets) (sym (set-self states k old here))
      (subst (λ (l : List (Gone N)). Plays log failed meaning group states l (lines ++ more) nets) (sym (append-nil gone)) x))

  -- nothing is listed, or given back
  none-listed : (states : List (NodeState N S)) (gone : List (Gone N)) (lines : List Line) (nets : List NetEvent) → Plays log failed meaning group states gone lines nets
      → Plays log failed meaning group states gone lines (nets ++ [])
  none-listed states gone lines nets x = subst (λ (l : List NetEvent). Plays log failed meaning group states gone lines l) (sym (append-nil nets)) x

  none-back : (states : List (NodeState N S)) (gone : List (Gone N)) (lines : List Line) (nets : List NetEvent) → Plays log failed meaning group states gone lines nets
      → Plays log failed meaning group states (gone ++ []) lines nets
  none-back states gone lines nets x = subst (λ (l : List (Gone N)). Plays log failed meaning group states l lines nets) (sym (append-nil gone)) x

  -- memory was refused as lines were appended
  goes-cut : (A E : Type 0) (Does : List Line → List NetEvent → Type 0) (states : List (NodeState N S)) (gone : List (Gone N)) (given given' : Option (List (Gone N))) (lines : List Line)
      (nets : List NetEvent) (text text' : List ℕ) (result : Result A E) → IsErr result
      → (more : List Line) × Some_played lines more × ((count : ℕ) × (text' ≡ text ++ concat (take count (texts_of more))))
      → Appended (On Does states gone lines nets given given') (Some_played lines) text text' result
  goes-cut A E Does states gone given given' lines nets text text' (Ok x) is begun = absurd (let bad : false ≡ true = is in cc)
  goes-cut A E Does states gone given given' lines nets text text' (Err e) is begun = begun

  -- ---- nothing is done, or refused

  pub still : (A E : Type 0) (Does : List Line → List NetEvent → Type 0) (old new : NodeState N S) (given given' : Option (List (Gone N))) (text text' : List ℕ) (done : A) → new ≡ old
      → given' ≡ given → text' ≡ text → Does [] [] → Goes Does old new given given' text text' (okay A E done)
  still A E Does old new given given' text text' done same gives said does states k here gone lines nets x = (
    [],
    (
      [],
      [],
      gives-as given given' gives,
      does,
      subst (λ (n : NodeState N S). Plays log failed meaning group (slice_set states k n) (gone ++ []) (lines ++ []) (nets ++ [])) (sym same)
          (still-plays states k old gone lines [] nets here (subst (λ (l : List Line). Plays log failed meaning group states gone l nets) (sym (append-nil lines)) x)),
    ),
    none-more text text' said,
  )

  pub refused : {E : Type 0} (Does : List Line → List NetEvent → Type 0) (old new : NodeState N S) (given given' : Option (List (Gone N))) (text text' : List ℕ) (line number : ℕ)
      (result : Result Unit E) → new ≡ old → given' ≡ given → OnOk result (text' ≡ text ++ refusal_line line number) → OnErr result (text' ≡ text)
      → Does (Refuses line number ∷ []) [] → Goes Does old new given given' text text' result
  refused Does old new given given' text text' line number (Ok done) same gives said unsaid does states k here gone lines nets x = (
    Refuses line number ∷ [],
    (
      [],
      [],
      gives-as given given' gives,
      does,
      subst (λ (n : NodeState N S). Plays log failed meaning group (slice_set states k n) (gone ++ []) (lines ++ Refuses line number ∷ []) (nets ++ [])) (sym same)
          (still-plays states k old gone lines (Refuses line number ∷ []) nets here (plays-refused log failed meaning group states gone lines nets line number x)),
    ),
    one-more text text' (refusal_line line number) said,
  )
  refused Does old new given given' text text' line number (Err e) same gives said unsaid does states k here gone lines nets x =
      ([], (x.at, gone, (nets, subst (λ (l : List Line). PlayedOver log failed meaning group x.at gone (events_in l) nets) (sym (append-nil lines)) x.played)), (0, none-more text text' unsaid))

  -- why the event of a line is refused at a node
  module _ (line number : ℕ) (x new : NodeState N S) (same : new ≡ x) where
    abbrev Refused : WorldEvent → Type 0
    Refused e = DoesAt log failed meaning group line x e new (Refuses line number ∷ []) []

    refused-as : (e : WorldEvent) (why : ℕ) → number ≡ why → DoesAt log failed meaning group line x e x (Refuses line why ∷ []) [] → Refused e
    refused-as e why is does =
        subst (λ (n : NodeState N S). DoesAt log failed meaning group line x e n (Refuses line number ∷ []) []) (sym same)
        (subst (λ (n : ℕ). DoesAt log failed meaning group line x e x (Refuses line n ∷ []) []) (sym is) does)

    pub uncalled-so : (e : WorldEvent) (c : Call) → Asks e x.node c → x.process ≡ None → number ≡ why_absent x.last → Refused e
    uncalled-so e c asks none is = refused-as e (why_absent x.last) is (Uncalled e c asks none)

    pub uncrashed-so : x.process ≡ None → number ≡ why_absent x.last → Refused (event.Crash x.node)
    uncrashed-so none is = refused-as (event.Crash x.node) (why_absent x.last) is (Uncrashed none)

    pub unstarted-so : CannotStart x → number ≡ why_unstarted x → Refused (event.Start x.node)
    unstarted-so why is = refused-as (event.Start x.node) (why_unstarted x) is (Unstarted why)

  -- ---- a turn of the process

  module _ (A B E F : Type 0) (Made : Driven N S → Option Error → Driven N S → Type 0) (line : ℕ) (old new : NodeState N S) (q now : Process N S) (process : old.process ≡ Some q)
      (given given' : Option (List (Gone N))) (text text' : List ℕ) where
    -- the turn and what its net lists
    abbrev By : List Line → List NetEvent → Type 0
    By lines nets = TurnBy log failed Made line old new lines nets

    -- it runs on
    pub turn-on : (Does : List Line → List NetEvent → Type 0) → ((l : List Line) (n : List NetEvent) → By l n → Does l n) → (b : B) (done : A) → new ≡ with_process old (Some now) → now.address ≡ q.address → is_some (receiver_in now.runner.channel.stage) ≡ true → given' ≡ given
        → TakesTurn log failed meaning group Made line q now text text' (okay B F b) → Goes Does old new given given' text text' (okay A E done)
    turn-on Does so b done is same on gives t states k here gone lines nets x =
        let as_now : record { address = q.address; runner = now.runner } ≡ now = ap (λ (a : Address). record { address = a; runner = now.runner }) (sym same) in
        let z = t.1.0 in (
          t.0,
          (
            [],
            turn-lists log failed meaning group states gone lines nets x k old here q process now.runner t.0 z,
            gives-as given given' gives,
            so t.0 (turn-lists log failed meaning group states gone lines nets x k old here q process now.runner t.0 z) (record {
              process = q;
              runs = process;
              last = now.runner;
              answered = t.1.1;
              lists = turn-listed log failed meaning group states gone lines nets x k old here q process now.runner t.0 z;
              runs_on = is ∙ ap (λ (p : Process N S). with_process old (Some p)) (sym as_now)
                  ∙ ap (λ (b : Bool). with_process old (cond b (Some (record { address = q.address; runner = now.runner })) None)) (sym on);
            }),
            none-back (slice_set states k new) gone (lines ++ t.0) (nets ++ turn-lists log failed meaning group states gone lines nets x k old here q process now.runner t.0 z)
                (subst (λ (n : NodeState N S). Plays log failed meaning group (slice_set states k n) gone (lines ++ t.0)
                (nets ++ turn-lists log failed meaning group states gone lines nets x k old here q process now.runner t.0 z)) (ap (λ (p : Process N S). with_process old (Some p)) as_now ∙ sym is)
                (plays-turn log failed meaning group states gone lines nets x k old here q process now.runner t.0 z (shows-runs now.runner.channel.stage on))),
          ),
          t.2,
        )

    -- it is let go
    pub turn-off : (Does : List Line → List NetEvent → Type 0) → ((l : List Line) (n : List NetEvent) → By l n → Does l n) → (b : B) (done : A) → new ≡ with_process old None → now.address ≡ q.address → is_some (receiver_in now.runner.channel.stage) ≡ false → GivesBack given (net_of now ∷ []) given'
        → TakesTurn log failed meaning group Made line q now text text' (okay B F b) → Goes Does old new given given' text text' (okay A E done)
    turn-off Does so b done is same off gives t states k here gone lines nets x = (
      t.0,
      (
        record { by = q.address; net = now.runner.net } ∷ [],
        turn-lists log failed meaning group states gone lines nets x k old here q process now.runner t.0 t.1.0,
        subst (λ (a : Address). GivesBack given (record { by = a; net = now.runner.net } ∷ []) given') same gives,
        so t.0 (turn-lists log failed meaning group states gone lines nets x k old here q process now.runner t.0 t.1.0) (record {
          process = q;
          runs = process;
          last = now.runner;
          answered = t.1.1;
          lists = turn-listed log failed meaning group states gone lines nets x k old here q process now.runner t.0 t.1.0;
          runs_on = is ∙ ap (λ (b : Bool). with_process old (cond b (Some (record { address = q.address; runner = now.runner })) None)) (sym off);
        }),
        subst (λ (n : NodeState N S). Plays log failed meaning group (slice_set states k n) (gone ++ record { by = q.address; net = now.runner.net } ∷ []) (lines ++ t.0)
            (nets ++ turn-lists log failed meaning group states gone lines nets x k old here q process now.runner t.0 t.1.0)) (sym is)
            (plays-ended log failed meaning group states gone lines nets x k old here q process now.runner t.0 t.1.0),
      ),
      t.2,
    )

    -- memory was refused as it was said
    pub turn-cut : (Does : List Line → List NetEvent → Type 0) (f : F) (result : Result A E) → IsErr result → TakesTurn log failed meaning group Made line q now text text' (refusing B F f)
        → Goes Does old new given given' text text' result
    turn-cut Does f result is t states k here gone lines nets x =
        goes-cut A E Does (slice_set states k new) gone given given' lines nets text text' result is
        (t.0, turn-played log failed meaning group states gone lines nets x k old here q process t.1.0 t.0 t.1.1, t.2)

  -- ---- it is killed

  pub killed : {E : Type 0} (line : ℕ) (old new : NodeState N S) (q : Process N S) (given given' : Option (List (Gone N))) (text text' : List ℕ) (result : Result Unit E)
      → old.process ≡ Some q → new ≡ with_process old None → GivesBack given (net_of q ∷ []) given' → OnOk result (text' ≡ text ++ line_of (Crashed q.address)) → OnErr result (text' ≡ text)
      → Goes (DoesAt log failed meaning group line old (event.Crash old.node) new) old new given given' text text' result
  killed line old new q given given' text text' (Ok done) process is gives said unsaid states k here gone lines nets x = (
    Happens (Crashed q.address) ∷ [],
    (
      net_of q ∷ [],
      [],
      gives,
      subst (λ (n : NodeState N S). DoesAt log failed meaning group line old (event.Crash old.node) n (Happens (Crashed q.address) ∷ []) []) (sym is) (Crashes q process),
      none-listed (slice_set states k new) (gone ++ net_of q ∷ []) (lines ++ Happens (Crashed q.address) ∷ []) nets
          (subst (λ (n : NodeState N S). Plays log failed meaning group (slice_set states k n) (gone ++ net_of q ∷ []) (lines ++ Happens (Crashed q.address) ∷ []) nets) (sym is)
          (plays-killed log failed meaning group states gone lines nets x k old here q process)),
    ),
    one-more text text' (line_of (Crashed q.address)) said,
  )
  killed line old new q given given' text text' (Err e) process is gives said unsaid states k here gone lines nets x =
      (Happens (Crashed q.address) ∷ [], killed-played log failed meaning group states gone lines nets x k old here q process, (0, none-more text text' unsaid))

  -- ---- it starts

  module _ (A E : Type 0) (line : ℕ) (old new : NodeState N S) (p : Address) (given : Option (List (Gone N))) (text text' : List ℕ) (states : List (NodeState N S)) (k : ℕ)
      (here : slice_get states k ≡ Some old) (next : IsNext old p) (first : IsFirst old.node k states) (gone : List (Gone N)) (lines : List Line) (nets : List NetEvent)
      (x : Plays log failed meaning group states gone lines nets) where
    abbrev IsStart : List Line → List NetEvent → Type 0
    IsStart more listed = DoesAt log failed meaning group line old (event.Start old.node) new more listed

    abbrev Starting : Result A E → Type 0
    Starting result = Appended (On IsStart (slice_set states k new) gone lines nets given given) (Some_played lines) text text' result

    abbrev last_at : Option (Process N S) → NodeState N S
    last_at o = record { node = old.node; last = Some p; process = o }

    pub starts : (done : A) (r : Driven N S) (net : N) → new ≡ last_at (Some (record { address = p; runner = r })) → r.channel ≡ new_channel meaning p → r.net ≡ net
        → ForSome (log net) (λ l. l ≡ []) → text' ≡ text ++ line_of (Started p) → Starting (Ok done)
    starts done r net is channel over lists said = (
      Happens (Started p) ∷ [],
      (
        [],
        [],
        gives-none given,
        subst (λ (n : NodeState N S). DoesAt log failed meaning group line old (event.Start old.node) n (Happens (Started p) ∷ []) []) (sym is)
            (Starts p (Some (record { address = p; runner = r })) next refl),
        none-listed (slice_set states k new) (gone ++ []) (lines ++ Happens (Started p) ∷ []) nets
            (none-back (slice_set states k new) gone (lines ++ Happens (Started p) ∷ []) nets
            (subst (λ (n : NodeState N S). Plays log failed meaning group (slice_set states k n) gone (lines ++ Happens (Started p) ∷ []) nets) (sym is)
            (plays-started log failed meaning group states gone lines nets x k old here p next first r channel (subst (λ (n : N). ForSome (log n) (λ l. l ≡ [])) (sym over) lists)))),
      ),
      one-more text text' (line_of (Started p)) said,
    )

    -- memory was refused before that is said
    pub starts-unsaid : (result : Result A E) → IsErr result → text' ≡ text → Starting result
    starts-unsaid result is same =
        goes-cut A E IsStart (slice_set states k new) gone given given lines nets text text' result is
        (Happens (Started p) ∷ Happens (Crashed p) ∷ [], start-failed log failed meaning group states gone lines nets x k old here p next first, (0, none-more text text' same))

    -- it crashes at once
    pub starts-not : (mid : List ℕ) (result : Result A E) → new ≡ last_at old.process → mid ≡ text ++ line_of (Started p) → OnOk result (text' ≡ mid ++ line_of (Crashed p))
        → OnErr result (text' ≡ mid) → Starting result
    starts-not mid (Ok done) is said ok err = (
      Happens (Started p) ∷ Happens (Crashed p) ∷ [],
      (
        [],
        [],
        gives-none given,
        subst (λ (n : NodeState N S). DoesAt log failed meaning group line old (event.Start old.node) n (Happens (Started p) ∷ Happens (Crashed p) ∷ []) [])
            (ap last_at (sym next.free) ∙ sym is) (Starts p None next tt),
        none-listed (slice_set states k new) (gone ++ []) (lines ++ Happens (Started p) ∷ Happens (Crashed p) ∷ []) nets
            (none-back (slice_set states k new) gone (lines ++ Happens (Started p) ∷ Happens (Crashed p) ∷ []) nets
            (subst (λ (n : NodeState N S). Plays log failed meaning group (slice_set states k n) gone (lines ++ Happens (Started p) ∷ Happens (Crashed p) ∷ []) nets)
            (ap last_at (sym next.free) ∙ sym is) (plays-failed log failed meaning group states gone lines nets x k old here p next first))),
      ),
      text-then text mid text' (Happens (Started p) ∷ []) (Happens (Crashed p) ∷ []) (one-more text mid (line_of (Started p)) said) (one-more mid text' (line_of (Crashed p)) ok),
    )
    starts-not mid (Err e) is said ok err = (
      Happens (Started p) ∷ Happens (Crashed p) ∷ [],
      start-failed log failed meaning group states gone lines nets x k old here p next first,
      cut-whole text text' (Happens (Started p) ∷ []) (Happens (Crashed p) ∷ []) (err ∙ one-more text mid (line_of (Started p)) said),
    )

  -- ---- one after the other

  abbrev pub GoesAll : {A E : Type 0} → (List Line → List NetEvent → Type 0) → List (NodeState N S) → List (NodeState N S) → Option (List (Gone N)) → Option (List (Gone N)) → List ℕ
      → List ℕ → Result A E → Type 0
  GoesAll Does old new given given' text text' result = GoesOn log failed meaning group Does old new given given' text text' result

  pub goes-none : (Does : List Line → List NetEvent → Type 0) (states new : List (NodeState N S)) (given given' : Option (List (Gone N))) (text text' : List ℕ) → new ≡ states
      → given' ≡ given → text' ≡ text → Does [] [] → GoesAll Does states new given given' text text' (okay (Unit {0}) (Unit {0}) tt)
  goes-none Does states new given given' text text' same gives said does gone lines nets x = (
    [],
    (
      [],
      [],
      gives-as given given' gives,
      does,
      subst (λ (n : List (NodeState N S)). Plays log failed meaning group n (gone ++ []) (lines ++ []) (nets ++ [])) (sym same)
          (none-listed states (gone ++ []) (lines ++ []) nets (none-back states gone (lines ++ []) nets
          (subst (λ (l : List Line). Plays log failed meaning group states gone l nets) (sym (append-nil lines)) x))),
    ),
    none-more text text' said,
  )

  pub goes-then : (A E B F : Type 0) (Does More All : List Line → List NetEvent → Type 0) (a b c : List (NodeState N S)) (given mid given' : Option (List (Gone N))) (text t text' : List ℕ)
      (done : B) (result : Result A E)
      → ((lines more : List Line) (nets listed : List NetEvent) → Does lines nets → More more listed → All (lines ++ more) (nets ++ listed))
      → GoesAll Does a b given mid text t (okay B F done) → GoesAll More b c mid given' t text' result → GoesAll All a c given given' text text' result
  goes-then A E B F Does More All a b c given mid given' text t text' done (Ok x) both f g gone lines nets y =
      let first = f gone lines nets y in
      let more = g (gone ++ first.1.0) (lines ++ first.0) (nets ++ first.1.1) first.1.4 in (
        first.0 ++ more.0,
        (
          first.1.0 ++ more.1.0,
          first.1.1 ++ more.1.1,
          gives-then given mid given' first.1.0 more.1.0 first.1.2 more.1.2,
          both first.0 more.0 first.1.1 more.1.1 first.1.3 more.1.3,
          subst (λ (l : List NetEvent). Plays log failed meaning group c (gone ++ (first.1.0 ++ more.1.0)) (lines ++ (first.0 ++ more.0)) l) (append_assoc nets first.1.1 more.1.1)
              (subst (λ (l : List (Gone N)). Plays log failed meaning group c l (lines ++ (first.0 ++ more.0)) ((nets ++ first.1.1) ++ more.1.1)) (append_assoc gone first.1.0 more.1.0)
              (subst (λ (l : List Line). Plays log failed meaning group c ((gone ++ first.1.0) ++ more.1.0) l ((nets ++ first.1.1) ++ more.1.1)) (append_assoc lines first.0 more.0) more.1.4)),
        ),
        text-then text t text' first.0 more.0 first.2 more.2,
      )
  goes-then A E B F Does More All a b c given mid given' text t text' done (Err e) both f g gone lines nets y =
      let first = f gone lines nets y in
      let more = g (gone ++ first.1.0) (lines ++ first.0) (nets ++ first.1.1) first.1.4 in (
        first.0 ++ more.0,
        (more.1.0, more.1.1, subst (λ (l : List Line). Played log failed meaning group more.1.0 more.1.1 (events_in l)) (append_assoc lines first.0 more.0) more.1.2),
        cut-behind text t text' first.0 more.0 first.2 more.2,
      )

  -- where memory is refused in the second part
  pub goes-until : (A E B F D : Type 0) (Does More All : List Line → List NetEvent → Type 0) (a b c : List (NodeState N S)) (given mid given' : Option (List (Gone N)))
      (text t text' : List ℕ) (done : B) (e : F) (result : Result A E) → IsErr result → GoesAll Does a b given mid text t (okay B D done)
      → GoesAll More b c mid given' t text' (refusing B F e) → GoesAll All a c given given' text text' result
  goes-until A E B F D Does More All a b c given mid given' text t text' done e (Ok y) is f g gone lines nets x = absurd (let bad : false ≡ true = is in cc)
  goes-until A E B F D Does More All a b c given mid given' text t text' done e (Err y) is f g gone lines nets x =
      let first = f gone lines nets x in
      let more = g (gone ++ first.1.0) (lines ++ first.0) (nets ++ first.1.1) first.1.4 in (
        first.0 ++ more.0,
        (more.1.0, more.1.1, subst (λ (l : List Line). Played log failed meaning group more.1.0 more.1.1 (events_in l)) (append_assoc lines first.0 more.0) more.1.2),
        cut-behind text t text' first.0 more.0 first.2 more.2,
      )

  -- a result that says the same
  pub goes-as : (A E B F : Type 0) (Does Does' : List Line → List NetEvent → Type 0) (a b : List (NodeState N S)) (given given' : Option (List (Gone N))) (text text' : List ℕ) (e : F)
      (result : Result A E) → IsErr result → GoesAll Does a b given given' text text' (refusing B F e) → GoesAll Does' a b given given' text text' result
  goes-as A E B F Does Does' a b given given' text text' e (Ok x) is f = absurd (let bad : false ≡ true = is in cc)
  goes-as A E B F Does Does' a b given given' text text' e (Err y) is f = f

  -- the same is said in other words
  pub goes-like : (A E : Type 0) (Does Does' : List Line → List NetEvent → Type 0) (a b : List (NodeState N S)) (given given' : Option (List (Gone N))) (text text' : List ℕ)
      (result : Result A E) → ((lines : List Line) (nets : List NetEvent) → Does lines nets → Does' lines nets) → GoesAll Does a b given given' text text' result
      → GoesAll Does' a b given given' text text' result
  goes-like A E Does Does' a b given given' text text' (Ok x) so f gone lines nets y =
      let r = f gone lines nets y in (r.0, (r.1.0, r.1.1, r.1.2, so r.0 r.1.1 r.1.3, r.1.4), r.2)
  goes-like A E Does Does' a b given given' text text' (Err e) so f gone lines nets y = f gone lines nets y

  -- what is done at a node, as what the line does that names it
  pub goes-line : (A E : Type 0) (Does : List Line → List NetEvent → Type 0) (states : List (NodeState N S)) (k : ℕ) (x new : NodeState N S) (line : ℕ) (e : WorldEvent)
      (given given' : Option (List (Gone N))) (text text' : List ℕ) (result : Result A E) → slice_get states k ≡ Some x
      → ((l : List Line) (n : List NetEvent) → Does l n → DoesAt log failed meaning group line x e new l n) → GoesAll Does states (slice_set states k new) given given' text text' result
      → GoesAll (λ l n. DoesLine log failed meaning group states (line_of_event line e) (slice_set states k new) l n) states (slice_set states k new) given given' text text' result
  goes-line A E Does states k x new line e given given' text text' result here so f =
      goes-like A E Does (λ l n. DoesLine log failed meaning group states (line_of_event line e) (slice_set states k new) l n) states (slice_set states k new) given given' text text' result
      (λ l n d. At line e k x new l n here (so l n d)) f

  -- a line by its number and its event
  pub goes-as-line : (A E : Type 0) (u line : UdpLine) → u ≡ line → (a b : List (NodeState N S)) (given given' : Option (List (Gone N))) (text text' : List ℕ) (result : Result A E)
      → GoesAll (λ l n. DoesLine log failed meaning group a u b l n) a b given given' text text' result
      → GoesAll (λ l n. DoesLine log failed meaning group a line b l n) a b given given' text text' result
  goes-as-line A E u line same a b given given' text text' result f =
      subst (λ (v : UdpLine). GoesAll (λ l n. DoesLine log failed meaning group a v b l n) a b given given' text text' result) same f

  -- a node that is not listed
  pub unlisted-so : (states : List (NodeState N S)) (line number node : ℕ) (e : WorldEvent) → target_of e ≡ Member node → list_any (λ x. nat_eq x.node node) states ≡ false
      → number ≡ why_unlisted e → DoesLine log failed meaning group states (line_of_event line e) states (Refuses line number ∷ []) []
  unlisted-so states line number node e target none is =
      subst (λ (n : ℕ). DoesLine log failed meaning group states (line_of_event line e) states (Refuses line n ∷ []) []) (sym is) (Unlisted line node e target none)

  -- a node where none is started
  pub unstarted-there : (states : List (NodeState N S)) (k : ℕ) (x : NodeState N S) (line number node : ℕ) → slice_get states k ≡ Some x → x.node ≡ node → CannotStart x
      → number ≡ why_unstarted x
      → DoesLine log failed meaning group states (line_of_event line (event.Start node)) states (Refuses line number ∷ []) []
  unstarted-there states k x line number node here same why is =
      subst (λ (l : List (NodeState N S)). DoesLine log failed meaning group states (line_of_event line (event.Start node)) l (Refuses line number ∷ []) []) (set-self states k x here)
      (At line (event.Start node) k x x (Refuses line number ∷ []) [] here
      (subst (λ (n : ℕ). DoesAt log failed meaning group line x (event.Start n) x (Refuses line number ∷ []) []) same (unstarted-so line number x x refl why is)))

  -- the machine keeps what it kept
  pub goes-given : (A E : Type 0) (Does : List Line → List NetEvent → Type 0) (a b : List (NodeState N S)) (given given' : Option (List (Gone N))) (text text' : List ℕ) (result : Result A E)
      → given' ≡ given → GoesAll Does a b given given text text' result → GoesAll Does a b given given' text text' result
  goes-given A E Does a b given given' text text' result same f = subst (λ (g : Option (List (Gone N))). GoesAll Does a b given g text text' result) (sym same) f

  -- nothing is done
  pub goes-stopped : (A E : Type 0) (Does : List Line → List NetEvent → Type 0) (a b : List (NodeState N S)) (given given' : Option (List (Gone N))) (text text' : List ℕ) (e : E)
      → text' ≡ text → GoesAll Does a b given given' text text' (refusing A E e)
  goes-stopped A E Does a b given given' text text' e same gone lines nets x =
      ([], (x.at, gone, (nets, subst (λ (l : List Line). PlayedOver log failed meaning group x.at gone (events_in l) nets) (sym (append-nil lines)) x.played)), (0, none-more text text' same))

  pub stopped-by : (A E : Type 0) (Does : List Line → List NetEvent → Type 0) (a b : List (NodeState N S)) (given given' : Option (List (Gone N))) (text text' : List ℕ) (result : Result A E)
      → IsErr result → text' ≡ text → GoesAll Does a b given given' text text' result
  stopped-by A E Does a b given given' text text' (Ok x) is same = absurd (let bad : false ≡ true = is in cc)
  stopped-by A E Does a b given given' text text' (Err e) is same = goes-stopped A E Does a b given given' text text' e same

  -- the event of a line is refused
  pub refused-all : (E : Type 0) (Does : List Line → List NetEvent → Type 0) (states : List (NodeState N S)) (given : Option (List (Gone N))) (text text' : List ℕ) (line number : ℕ)
      (result : Result Unit E) → OnOk result (text' ≡ text ++ refusal_line line number) → OnErr result (text' ≡ text) → Does (Refuses line number ∷ []) []
      → GoesAll Does states states given given text text' result
  refused-all E Does states given text text' line number (Ok done) said unsaid does gone lines nets x = (
    Refuses line number ∷ [],
    (
      [],
      [],
      gives-none given,
      does,
      none-listed states (gone ++ []) (lines ++ Refuses line number ∷ []) nets (none-back states gone (lines ++ Refuses line number ∷ []) nets
          (plays-refused log failed meaning group states gone lines nets line number x)),
    ),
    one-more text text' (refusal_line line number) said,
  )
  refused-all E Does states given text text' line number (Err e) said unsaid does gone lines nets x =
      goes-stopped Unit E Does states states given given text text' e unsaid gone lines nets x

-- a line that says an event
pub as-line : (line : UdpLine) (said : UdpEvent) → line.event ≡ said → record { number = line.number; event = said } ≡ line
as-line line said is = ap (λ (e : UdpEvent). record { number = line.number; event = e }) (sym is)

-- whose call an event asks for, and how it is refused where that is not listed
pub asked-of : (e : WorldEvent) (node : ℕ) (c : Call) → Asks e node c → (target_of e ≡ Member node) × (why_unlisted e ≡ 1)
asked-of _ _ _ (Creates node) = (refl, refl)
asked-of _ _ _ (Joins node contact) = (refl, refl)
asked-of _ _ _ (Sends node payload) = (refl, refl)
asked-of _ _ _ (Ticks node) = (refl, refl)
asked-of _ _ _ (Suspects node p) = (refl, refl)
asked-of _ _ _ (Hints node p) = (refl, refl)
asked-of _ _ _ (Leaves node) = (refl, refl)

-- ---- nodes one by one

module _ {N S : Type 0} where
  -- one node more, where no process was started
  pub unused-more : (states : List (NodeState N S)) (x : NodeState N S) (new : List (NodeState N S)) (node : ℕ) → AreUnused states → x ≡ record { node = node; last = None; process = None }
      → new ≡ states ++ x ∷ [] → AreUnused new
  unused-more states x new node unused fresh is k y at =
      by (slice_get-push states x k y (subst (λ (l : List (NodeState N S)). slice_get l k ≡ Some y) is at))
    where
      by : (slice_get states k ≡ Some y) ⊎ ((k ≡ length states) × (x ≡ y)) → (y.last ≡ None) × (y.process ≡ None)
      by (inl before) = unused k y before
      by (inr (place, same)) =
          (ap (λ (z : NodeState N S). z.last) (sym same) ∙ ap (λ (z : NodeState N S). z.last) fresh, ap (λ (z : NodeState N S). z.process) (sym same) ∙ ap (λ (z : NodeState N S). z.process) fresh)

  pub processes-then : (xs ys : List (NodeState N S)) → processes_in (xs ++ ys) ≡ processes_in xs ++ processes_in ys
  processes-then xs ys = filter_map-append (λ (x : NodeState N S). x.process) xs ys

  pub one-process : (x : NodeState N S) → processes_in (x ∷ []) ≡ option_to_list x.process
  one-process x = by x.node x.last x.process
    where
      by : (node : ℕ) (last : Option Address) (o : Option (Process N S)) → processes_in (record { node = node; last = last; process = o } ∷ []) ≡ option_to_list o
      by node last None = refl
      by node last (Some q) = refl

  processes-more : (all : List (NodeState N S)) (k : ℕ) (x : NodeState N S) → slice_get all k ≡ Some x
      → processes_in (take (k + 1) all) ≡ processes_in (take k all) ++ option_to_list x.process
  processes-more all k x here =
      ap processes_in (take-more all k x here) ∙ processes-then (take k all) (x ∷ []) ∙ ap (λ (l : List (Process N S)). processes_in (take k all) ++ l) (one-process x)

  -- one more is let go
  abbrev pub Closed : List (NodeState N S) → List (NodeState N S) → ℕ → Option (List (Gone N)) → Option (List (Gone N)) → Type 0
  Closed all now k given given' =
      GivesBack given (map net_of (processes_in (take k all))) given' × (length now ≡ length all) × ((j : ℕ) → k ≤ j → slice_get now j ≡ slice_get all j)

  pub closes-more : (all now : List (NodeState N S)) (k : ℕ) (x new : NodeState N S) (given mid given' : Option (List (Gone N))) → Closed all now k given mid → k < length now
      → x ≡ get_or now k x → GivesBack mid (map net_of (option_to_list x.process)) given' → Closed all (slice_set now k new) (k + 1) given given'
  closes-more all now k x new given mid given' (back, same, others) within is gives =
      let here : slice_get all k ≡ Some x = sym (others k (omega arith)) ∙ at-place now k x within is in (
        subst (λ (l : List (Gone N)). GivesBack given l given')
            (sym (map-append net_of (processes_in (take k all)) (option_to_list x.process)) ∙ ap (map net_of) (sym (processes-more all k x here)))
            (gives-then given mid given' (map net_of (processes_in (take k all))) (map net_of (option_to_list x.process)) back gives),
        length-set now k new ∙ same,
        λ j after. set-other now k j new (λ e. omega arith) ∙ others j (omega arith),
      )

  -- one more state is appended
  abbrev pub Stated : (Address → S → List ℕ) → List (NodeState N S) → List (NodeState N S) → ℕ → List ℕ → List ℕ → Type 0
  Stated line_of all now k text text' = (text' ≡ text ++ concat (map (state_text line_of) (processes_in (take k all)))) × (now ≡ all)

  line-of-one : (line_of : Address → S → List ℕ) (o : Option (Process N S)) → option_map_or (state_text line_of) o [] ≡ concat (map (state_text line_of) (option_to_list o))
  line-of-one line_of None = refl
  line-of-one line_of (Some q) = sym (append-nil (state_text line_of q))

  pub states-kept : (line_of : Address → S → List ℕ) (all now : List (NodeState N S)) (k : ℕ) (x new : NodeState N S) (text mid : List ℕ) → Stated line_of all now k text mid
      → (length now ≡ length all → k < length now) → x ≡ get_or now k x → new ≡ x → slice_set now k new ≡ all
  states-kept line_of all now k x new text mid (said, same) within is kept = ap (slice_set now k) kept ∙ set-self now k x (at-place now k x (within (ap length same)) is) ∙ same

  pub states-more : (line_of : Address → S → List ℕ) (all now : List (NodeState N S)) (k : ℕ) (x new : NodeState N S) (text mid text' : List ℕ) → Stated line_of all now k text mid
      → (length now ≡ length all → k < length now) → x ≡ get_or now k x → text' ≡ mid ++ option_map_or (state_text line_of) x.process [] → new ≡ x
      → Stated line_of all (slice_set now k new) (k + 1) text text'
  states-more line_of all now k x new text mid text' (said, same) within is line kept =
      let there = at-place now k x (within (ap length same)) is in
      let here : slice_get all k ≡ Some x = ap (λ (l : List (NodeState N S)). slice_get l k) (sym same) ∙ there in
      let before = map (state_text line_of) (processes_in (take k all)) in
      let last = map (state_text line_of) (option_to_list x.process) in (
        line ∙ ap (λ (l : List ℕ). l ++ option_map_or (state_text line_of) x.process []) said ∙ append_assoc text (concat before) (option_map_or (state_text line_of) x.process [])
            ∙ ap (λ (l : List ℕ). text ++ l)
            (ap (λ (l : List ℕ). concat before ++ l) (line-of-one line_of x.process) ∙ sym (concat-then before last)
            ∙ ap concat (sym (map-append (state_text line_of) (processes_in (take k all)) (option_to_list x.process)) ∙ ap (map (state_text line_of)) (sym (processes-more all k x here)))),
        states-kept line_of all now k x new text mid (said, same) within is kept,
      )

  pub states-all : (line_of : Address → S → List ℕ) (all now : List (NodeState N S)) (k : ℕ) (text mid : List ℕ) → Stated line_of all now k text mid → length all ≤ k
      → mid ≡ text ++ concat (map (state_text line_of) (processes_in all))
  states-all line_of all now k text mid (said, same) whole = said ∙ ap (λ (l : List (NodeState N S)). text ++ concat (map (state_text line_of) (processes_in l))) (take_all k all whole)

  pub states-some : (line_of : Address → S → List ℕ) (all now : List (NodeState N S)) (k : ℕ) (text mid text' : List ℕ) → Stated line_of all now k text mid → text' ≡ mid
      → (n : ℕ) × (text' ≡ text ++ concat (take n (map (state_text line_of) (processes_in all))))
  states-some line_of all now k text mid text' (said, same) kept =
      let before = map (state_text line_of) (processes_in (take k all)) in
      let rest = map (state_text line_of) (processes_in (drop k all)) in (
        length before,
        kept ∙ said ∙ ap (λ (l : List (List ℕ)). text ++ concat l)
            (sym (take-front before rest)
            ∙ ap (take (length before)) (sym (map-append (state_text line_of) (processes_in (take k all)) (processes_in (drop k all)))
            ∙ ap (map (state_text line_of)) (sym (processes-then (take k all) (drop k all)) ∙ ap processes_in (take-append-drop k all)))),
      )
