-- How a command ends that runs one node over datagrams by itself.
use Rattle.std.proofs.Common.{◌≡◌, ℕ, Bool, true, false, ◌||◌, cond, List, [], ◌∷◌, ◌++◌, take, Option, None, Some, Result, Ok, Err, OnOk, IfSome, refl, sym, ap, ◌∙◌, subst, arith}
use Rattle.std.specs.List.{concat, AllByRecursion}
use Rattle.std.specs.Option.{ForSome}
use Rattle.std.proofs.lemmas.List.{append-nil, append_assoc, take_all}
use Rattle.std.proofs.lemmas.Option.{same_Some}
use Rattle.std.specs.Io.KnownBytes.{Appends}
use Rattle.address.specs.Ids.{Address, IsAddress, same_address, ViewId}
use Rattle.address.proofs.SameIds.{same_address-refl}
use Rattle.state_transfer.specs.Meanings.{Meaning}
use Rattle.trace_props.specs.declared.event.Event.{Event}
use Rattle.trace_props.specs.declared.event.Event.TheVariants.{Started}
use Rattle.udp_net.specs.Logs.{Log}
use Rattle.udp_net.specs.declared.error.BindError.{BindError}
use Rattle.udp_net.specs.declared.error.BindError.TheVariants as bind
use Rattle.udp_member.specs.Turns.{Driven}
use Rattle.law_processes.specs.Said.{AreSaid}
use Rattle.law_runners.specs.Plays.{IsReady, crash_of}
use Rattle.channel.specs.Channels.{ChannelModel, receiver_in}
use Rattle.law_runners.specs.Known.{KnowsAmong, RunnersKnow}
use Rattle.law_runners.specs.Merged.{own_items}
use Rattle.law_runners.specs.Runs.{Drives, new_channel}
use Rattle.law_runners.specs.Systems.{Gone, Played, PlayedAreHistories, PlayedTellOwn, IsHistoryOf, with_runner}
use Rattle.law_runners.proofs.HandsGoOn as hands
use Rattle.law_runners.proofs.WhatRunnersKnow.{knows-among}
use Rattle.law_runners.proofs.ItemsOfCalls.{drives-adds}
use Rattle.vsync_text.specs.declared.status.Status.{Status}
use Rattle.vsync_text.specs.declared.status.Status.TheVariants.{Done, Memory, Outside}
use Rattle.vsync_text.specs.Outcomes.{Ends, Written, memory_line}
use Rattle.vsync_text.specs.Outcomes.Ends.{Whole, Cut}
use Rattle.vsync_text.proofs.TextsFollow.{written-as, after-none, ends-then}
use Rattle.udp_runs.specs.declared.ends.Cut.{Cut as Why}
use Rattle.udp_runs.specs.declared.ends.Cut.TheVariants as cut
use Rattle.udp_runs.specs.Ends.{TakesMore, IsEndOf, IsNetlessText}
use Rattle.udp_runs.specs.Ends.IsEndText.{Finished}
use Rattle.udp_runs.specs.Ends.IsEndOf.{Over, Lacking, Failing}
use Rattle.udp_runs.specs.Ends.IsNetlessText.{Unprinted}
use Rattle.udp_runs.specs.Machines.{GivesBack}
use Rattle.udp_runs.specs.Members.{IsListedText, IsToldText, IsTold, Way, RunsOn, StartsSaying, StartsTelling, StartsUp, WritesFirst, WritesStart, started_line, only}
use Rattle.udp_runs.specs.Members.StartsTelling.{Started}
use Rattle.udp_runs.specs.Members.WritesFirst.{Unbegun, Begun}
use Rattle.udp_runs.specs.Members.IsListedText.{Netless, Told, Said}
use Rattle.udp_runs.specs.Members.IsToldText.{All, Part, Unmade}
use Rattle.udp_runs.specs.declared.telling.Voice.{Voice}
use Rattle.udp_runs.specs.OwnLines.{OwnLine, InState, IsPlain, IsOwn, texts_of, events_in}
use Rattle.udp_runs.specs.Telling.{Writes, ShowsBegun, TellsFirst, BeginsWith, BeginsBy, EndsBy, PlaysAlone, first_call}
use Rattle.udp_runs.proofs.RunTextsEnd.{ended}
use Rattle.law_runners.specs.Runs.{DrivesWithoutOffer}
use Rattle.law_runners.proofs.SendsAreSaid.{drives-said}
use Rattle.udp_runs.specs.declared.calls.Call.{Call}
use Rattle.udp_runs.specs.Said.{says_nothing}
use Rattle.udp_runs.proofs.ProcessesTurn.{drives-then}
use Rattle.udp_runs.proofs.NodesTell.{writes-then}
use Rattle.udp_runs.proofs.LinesAndEvents.{take-some}
use Rattle.udp_runs.proofs.TellsBeforeOffers.{NamesOwn, all-then, begins-held, held-drives, first-drives, first-own, plain-names, first-all-said}
use Rattle.vsync_text.proofs.LinesWritten.{appends_then}

-- nothing is given back
pub gives-none : {N : Type 0} (given given' : Option (List (Gone N))) → given' ≡ given → GivesBack given [] given'
gives-none given None same = tt
gives-none {N} None (Some all) same = absurd (let bad : Some all ≡ None = same in cc)
gives-none {N} (Some o) (Some all) same = same_Some all o same ∙ sym (append-nil o)

-- what a member calls first says nothing
pub silent-first : (finds : Bool) (contact : Option Address) → IfSome (first_call finds contact) (λ c. says_nothing c ≡ true)
silent-first finds (Some contact) = refl
silent-first true None = tt
silent-first false None = refl

-- ---- what a member does by itself is a history

module _ {N S : Type 0} (log : N → Option Log) (failed : N → ℕ) (May : ViewId → List ℕ → Type 0) (meaning : Meaning S) (group : List ℕ) (member : Address) where
  -- what the law says of histories by one hand, of what is taken there, and of what channels know
  pub record Laws : Type 0 where
    pub played : PlayedAreHistories log failed meaning
    pub own : PlayedTellOwn log failed meaning
    pub known : RunnersKnow meaning

  -- a history speaks of each runner by its address
  history-at : (at at' : Address → Option (Driven N S)) (events : List Event) → ((q : Address) → at q ≡ at' q) → IsHistoryOf log meaning group at [] events
      → IsHistoryOf log meaning group at' [] events
  history-at at at' events same h = record {
    all = h.all;
    processes = h.processes;
    once = h.once;
    happened = h.happened;
    runners = λ p r e. h.runners p r (same p ∙ e);
    nets = h.nets;
    used = λ p e. h.used p (same p ∙ e);
    agreed = λ carried. let a = h.agreed carried in record { synchronous = a.synchronous; agreeing = a.agreeing; known = λ p r e. a.known p r (same p ∙ e) };
  }

  -- the runner of a process that runs alone is another now
  only-now : (old new : Driven N S) (q : Address) → with_runner member (Some new) (only member old) q ≡ only member new q
  only-now old new q = by (same_address q member)
    where
      by : (b : Bool) → cond b (Some new) (cond b (Some old) None) ≡ cond b (Some new) None
      by true = refl
      by false = refl

  module _ (law : Laws) (real : IsAddress member) (first : Driven N S) (begun : first.channel ≡ new_channel meaning member) (fresh : ForSome (log first.net) (λ l. l ≡ [])) where
    begins : Played log failed meaning group (only member first) [] (Started member ∷ [])
    begins = hands.begin-played log failed meaning group (λ p. None) [] [] member (hands.nothing-played log failed meaning group) first real refl begun fresh

    there : only member first member ≡ Some first
    there = ap (λ (b : Bool). cond b (Some first) None) (same_address-refl member)

    turned : (events : List Event) (fell : Bool) (r : Driven N S) → Drives log failed meaning group first events fell r → r.channel.happened ≡ []
        → IsHistoryOf log meaning group (only member r) [] (Started member ∷ events ++ crash_of member fell)
    turned events fell r d told =
        history-at (with_runner member (Some r) (only member first)) (only member r) (Started member ∷ events ++ crash_of member fell) (only-now first r)
        (law.played group (with_runner member (Some r) (only member first)) [] (Started member ∷ events ++ crash_of member fell)
        (hands.turn-played log failed meaning group (only member first) [] (Started member ∷ []) member begins first events fell r there d told))

    -- of one that has begun by its first call, which says nothing
    module _ (call : Option Call) (silent : IfSome call (λ c. says_nothing c ≡ true)) (gave : Bool) (start : Driven N S) (by : BeginsBy meaning group first call gave start) where
      opened : DrivesWithoutOffer log failed May meaning group first [] gave start
      opened = begins-held log failed May meaning group call gave first start silent by

      driven : (taken : List Event) (fell : Bool) (r : Driven N S) → Drives log failed meaning group start taken fell r → Drives log failed meaning group first taken (gave || fell) r
      driven taken fell r d = drives-then log failed meaning group first start r [] taken gave fell (held-drives log failed May meaning group first start [] gave opened) d

      -- of a run that tells first
      ran : (stable : Bool) (lines stood : List (OwnLine S)) (fell : Bool) (r : Driven N S) → TellsFirst log failed May meaning group stable start lines stood fell r → r.channel.happened ≡ []
          → IsHistoryOf log meaning group (only member r) [] (Started member ∷ events_in lines ++ crash_of member (gave || fell))
      ran stable lines stood fell r t told =
          turned (events_in lines) (gave || fell) r (driven (events_in lines) fell r (first-drives log failed May meaning group stable start r lines stood fell t)) told

      -- each message that it sent was said
      all-said : (stable : Bool) (lines stood : List (OwnLine S)) (fell : Bool) (r : Driven N S) → TellsFirst log failed May meaning group stable start lines stood fell r
          → r.channel.happened ≡ [] → AreSaid May (events_in lines)
      all-said stable lines stood fell r t told =
          subst (AreSaid May) (ap (λ (l : List Event). events_in lines ++ l) told ∙ append-nil (events_in lines))
          (first-all-said log failed May meaning group stable start r lines stood fell t
          (drives-said May meaning log failed group first [] gave start opened (subst (λ (c : ChannelModel S). AreSaid May c.happened) (sym begun) tt)))

      -- its lines are its own
      own-lines : (stable : Bool) (lines stood : List (OwnLine S)) (fell : Bool) (r : Driven N S) → TellsFirst log failed May meaning group stable start lines stood fell r
          → AllByRecursion (NamesOwn member) lines → AllByRecursion (IsOwn member) lines
      own-lines stable lines stood fell r t named =
          first-own log failed May meaning group stable member start
          (λ b taken f d told. law.own group (only member first) [] (Started member ∷ []) member first taken (gave || f) b begins there (driven taken f b d) told)
          (λ b taken f d. (drives-adds log failed meaning group first taken (gave || f) b (subst (λ (c : ChannelModel S). IsAddress c.address) (sym begun) real)
          (subst (λ (c : ChannelModel S). IsReady meaning c.stage) (sym begun) refl) (driven taken f b d)).address ∙ ap (λ (c : ChannelModel S). c.address) begun) r lines stood fell t named

    named : (front back : List (OwnLine S)) (state : Option S) → AllByRecursion IsPlain front → AllByRecursion IsPlain back → AllByRecursion (NamesOwn member) (front ++ InState member state ∷ back)
    named front back state plain plain' =
        all-then (NamesOwn member) front (InState member state ∷ back) (plain-names member front plain) (refl, plain-names member back plain')

    -- its channel knows itself where its process stands among others
    knows-so : (r : Driven N S) (events : List Event) (h : IsHistoryOf log meaning group (only member r) [] events)
        → KnowsAmong meaning group member (own_items member h.all) r.channel.stage
    knows-so r events h =
        knows-among meaning law.known group member (own_items member h.all) r.channel.stage
        (h.runners member r (ap (λ (b : Bool). cond b (Some r) None) (same_address-refl member))).stands

  -- ---- it goes on, and its net is given back

  module _ (law : Laws) (real : IsAddress member) (line_of_state : Address → S → List ℕ) (given given' : Option (List (Gone N))) (speaks : Bool) (way : Way)
      (silent : IfSome way.first (λ c. says_nothing c ≡ true)) where
    voice : Voice
    voice = record { speaks = speaks; stable = way.stable }

    pub goes-alone : (first new : Driven N S) (old' new' : Option (List ℕ)) (result : Result Unit Why) → first.channel ≡ new_channel meaning member → ForSome (log first.net) (λ l. l ≡ [])
        → PlaysAlone log failed May meaning line_of_state group member (record { speaks = speaks; stable = way.stable }) way.first way.leaves first new old' new' result
        → GivesBack given (record { by = member; net = new.net } ∷ []) given' → RunsOn log failed May meaning line_of_state group given given' speaks way member [] old' new' result
    goes-alone first new old' new' result begun fresh p gives =
        let lines = p.front ++ InState member (receiver_in p.shown.channel.stage) ∷ p.back in
        record {
          net = p.tells.last.net;
          lines = lines;
          stood = p.tells.stood;
          told = record {
            first = first;
            is_new = begun;
            fresh = fresh;
            gave = p.gave;
            begun = p.begun;
            begins = p.begins;
            front = p.front;
            back = p.back;
            plain = p.plain;
            plain' = p.plain';
            fell = p.fell;
            fell' = p.tells.fell;
            shown = p.shown;
            last = p.tells.last;
            lines_are = refl;
            before = p.stood;
            goes = p.till_shown;
            goes' = p.tells.first;
            till_shown = ran law real first begun fresh way.first silent p.gave p.begun p.begins way.stable p.front p.stood p.fell p.shown p.till_shown p.told;
            till_last = ran law real first begun fresh way.first silent p.gave p.begun p.begins way.stable lines p.tells.stood p.tells.fell p.tells.last p.tells.first p.tells.told;
            kept = refl;
            own = own-lines law real first begun fresh way.first silent p.gave p.begun p.begins way.stable lines p.tells.stood p.tells.fell p.tells.last p.tells.first
                (named law real first begun fresh p.front p.back (receiver_in p.shown.channel.stage) p.plain p.plain');
            said = all-said law real first begun fresh way.first silent p.gave p.begun p.begins way.stable lines p.tells.stood p.tells.fell p.tells.last p.tells.first p.tells.told;
            knows = knows-so law real first begun fresh p.shown (Started member ∷ events_in p.front ++ crash_of member (p.gave || p.fell))
                (ran law real first begun fresh way.first silent p.gave p.begun p.begins way.stable p.front p.stood p.fell p.shown p.till_shown p.told);
          };
          writes = p.tells.writes;
          ends = p.ends;
          gives = subst (λ (n : N). GivesBack given (record { by = member; net = n } ∷ []) given') p.tells.net gives;
          first = p.tells.least;
        }

  -- ---- it is started

  module _ (line_of_state : Address → S → List ℕ) (given given' : Option (List (Gone N))) (way : Way) where
    took-more : (texts : List (List ℕ)) (a b : Option (List ℕ)) (r : Result Unit Why) → Writes true texts a b r → TakesMore a b
    took-more texts a b (Ok done) t = t
    took-more texts a b (Err why) t = t

    behind-start : (a b : Option (List ℕ)) → Appends a b (started_line member) → Appends a b (concat (started_line member ∷ []))
    behind-start a b f = subst (λ (l : List ℕ). Appends a b l) (sym (append-nil (started_line member))) f

    -- behind the line of its start
    begins-behind : (texts : List (List ℕ)) (a b c : Option (List ℕ)) → Appends a b (started_line member) → BeginsWith texts b c → BeginsWith (started_line member ∷ texts) a c
    begins-behind texts a b c f (rest, g) =
        (rest, subst (λ (l : List ℕ). Appends a c l) (sym (append_assoc (started_line member) (concat texts) rest)) (appends_then a b c (started_line member) (concat texts ++ rest) f g))

    -- it was started, and went on
    pub start-went : (speaks : Bool) (a b c : Option (List ℕ)) (r : Result Unit Why) → Appends a b (started_line member)
        → RunsOn log failed May meaning line_of_state group given given' speaks way member [] b c r → StartsUp log failed May meaning line_of_state group given given' speaks way member a c r
    start-went true a b c r f g =
        let t = took-more (texts_of line_of_state g.lines) b c r g.writes in
        StartsSaying.Goes t.text r (appends_then a b c (started_line member) t.text f t.appends)
    start-went false a b c r f g = Started r (record {
      net = g.net;
      lines = g.lines;
      stood = g.stood;
      told = g.told;
      writes = writes-then false (started_line member ∷ []) (texts_of line_of_state g.lines) a b c r (behind-start a b f) g.writes;
      ends = g.ends;
      gives = g.gives;
      first = λ is. begins-behind (texts_of line_of_state g.stood) a b c f (g.first is);
    })

    -- memory was refused behind the line of its start
    pub start-lacked : (speaks : Bool) (a b : Option (List ℕ)) → given' ≡ given → Appends a b (started_line member)
        → StartsUp log failed May meaning line_of_state group given given' speaks way member a b (Err cut.Memory)
    start-lacked true a b same f = StartsSaying.Goes [] (Err cut.Memory) (subst (λ (l : List ℕ). Appends a b l) (sym (append-nil (started_line member))) f)
    start-lacked false a b same f = StartsTelling.Lacks (gives-none given given' same) f

    -- it was not started
    pub start-failed : (speaks : Bool) (a b : Option (List ℕ)) (why : Why) → given' ≡ given → WritesStart member a b (Err why)
        → StartsUp log failed May meaning line_of_state group given given' speaks way member a b (Err why)
    start-failed true a b cut.Memory same none = StartsSaying.Unstarted none
    start-failed true a b cut.Failed same (count, took) = StartsSaying.Unwritten count took
    start-failed false a b why same w = StartsTelling.Unstarted why (gives-none given given' same) w

-- ---- its text ends

module _ {N S : Type 0} (log : N → Option Log) (failed : N → ℕ) (May : ViewId → List ℕ → Type 0) (meaning : Meaning S) (line_of_state : Address → S → List ℕ) (group : List ℕ) (given given' : Option (List (Gone N)))
    (way : Way) (member : Address) where
  abbrev Listed : Bool → Status → List ℕ → Type 0
  Listed speaks status text = IsListedText log failed May meaning line_of_state group given given' speaks way member status text

  -- memory was refused before it was started
  unstarted : (speaks : Bool) (b c : Option (List ℕ)) (written : Result Unit Why) (meant status : Status) (end : List ℕ) → IsEndOf written meant end → written ≡ Err cut.Memory
      → Ends b c end meant status → Written (Listed speaks) b c status
  unstarted speaks b c written meant status end Over never e = absurd (let bad : Ok tt ≡ Err cut.Memory = never in cc)
  unstarted speaks b c written meant status end Lacking never e =
      record { meant = Memory; text = memory_line; says = Netless bind.Memory Memory memory_line (Unprinted bind.Memory); ends = e }
  unstarted speaks b c written meant status end Failing never e = absurd (let bad : Err cut.Failed ≡ Err cut.Memory = never in cc)

  -- the writer failed as that was written
  cut-early : (a b c : Option (List ℕ)) (count : ℕ) → Appends a b (take count (started_line member)) → Appends b c [] → Written (Listed true) a c Outside
  cut-early a b c count f g =
      let whole : started_line member ≡ started_line member ++ [] ++ [] =
      sym (append-nil (started_line member)) ∙ sym (append-nil (started_line member ++ [])) in
      let took : Appends a c (take count (started_line member)) =
      subst (λ l. Appends a c l) (append-nil (take count (started_line member))) (appends_then a b c (take count (started_line member)) [] f g) in
      record {
        meant = Done;
        text = started_line member ++ [] ++ [];
        says = Said [] Done [] refl Finished;
        ends = Cut count (subst (λ l. Appends a c (take count l)) whole took);
      }

  unwritten : (a b c : Option (List ℕ)) (count : ℕ) (written : Result Unit Why) (meant status : Status) (end : List ℕ)
      → Appends a b (take count (started_line member)) → IsEndOf written meant end → written ≡ Err cut.Failed → Ends b c end meant status → Written (Listed true) a c status
  unwritten a b c count written meant status end f Over never e = absurd (let bad : Ok tt ≡ Err cut.Failed = never in cc)
  unwritten a b c count written meant status end f Lacking never e = absurd (let bad : Err cut.Memory ≡ Err cut.Failed = never in cc)
  unwritten a b c count written meant status end f Failing never (Whole g) = cut-early a b c count f g
  unwritten a b c count written meant status end f Failing never (Cut n g) =
      cut-early a b c count f (subst (λ l. Appends b c l) (take_all n [] (omega arith)) g)

  said-ended : (a b c : Option (List ℕ)) (written : Result Unit Why) (status : Status) → StartsSaying member a b written → Written (IsEndOf written) b c status
      → Written (Listed true) a c status
  said-ended a b c written status (StartsSaying.Unstarted none) w =
      after-none (Listed true) a b c status none (unstarted true b c _ w.meant status w.text w.says refl w.ends)
  said-ended a b c written status (StartsSaying.Unwritten count f) w = unwritten a b c count _ w.meant status w.text f w.says refl w.ends
  said-ended a b c written status (StartsSaying.Goes said _ f) w =
      ended (Listed true) (started_line member ++ said) a b c written status (λ s t end. Said said s t refl end) f w

  -- ---- what it tells is written

  -- the writer failed as these texts were written, of which the first may be told
  cut-texts : (texts : List (List ℕ)) → ((count : ℕ) → IsToldText log failed May meaning line_of_state group given given' way member Memory (concat (take count texts) ++ memory_line))
      → (a b c : Option (List ℕ)) (count bytes : ℕ) → Appends a b (take bytes (concat (take count texts))) → Appends b c [] → Written (Listed false) a c Outside
  cut-texts texts may a b c count bytes f g =
      let front = concat (take count texts) in
      let n = take-some bytes front memory_line in
      let took : Appends a c (take bytes front) = subst (λ (l : List ℕ). Appends a c l) (append-nil (take bytes front)) (appends_then a b c (take bytes front) [] f g) in
      record {
        meant = Memory;
        text = front ++ memory_line;
        says = Told Memory (front ++ memory_line) refl (may count);
        ends = Cut n.0 (subst (λ (l : List ℕ). Appends a c l) (sym n.1) took);
      }

  -- memory was refused behind the first of them
  lacks-texts : (texts : List (List ℕ)) → ((count : ℕ) → IsToldText log failed May meaning line_of_state group given given' way member Memory (concat (take count texts) ++ memory_line))
      → (a b c : Option (List ℕ)) (count : ℕ) (status : Status) → Appends a b (concat (take count texts)) → Ends b c memory_line Memory status → Written (Listed false) a c status
  lacks-texts texts may a b c count status s e = record {
    meant = Memory;
    text = concat (take count texts) ++ memory_line;
    says = Told Memory (concat (take count texts) ++ memory_line) refl (may count);
    ends = ends-then a b c (concat (take count texts)) memory_line Memory status s e;
  }

  -- a beginning of texts was written, and then the end
  begun-ended : (texts : List (List ℕ)) → ((count : ℕ) → IsToldText log failed May meaning line_of_state group given given' way member Memory (concat (take count texts) ++ memory_line))
      → (a b c : Option (List ℕ)) (why : Why) (written : Result Unit Why) (meant status : Status) (end : List ℕ) → written ≡ Err why → IsEndOf written meant end
      → ShowsBegun false texts a b why → Ends b c end meant status → Written (Listed false) a c status
  begun-ended texts may a b c why written meant status end is Over s e = absurd (let bad : Ok tt ≡ Err why = is in cc)
  begun-ended texts may a b c cut.Memory written meant status end is Lacking (count, s) e = lacks-texts texts may a b c count status s e
  begun-ended texts may a b c cut.Failed written meant status end is Lacking s e = absurd (let bad : Err cut.Memory ≡ Err cut.Failed = is in cc)
  begun-ended texts may a b c cut.Memory written meant status end is Failing s e = absurd (let bad : Err cut.Failed ≡ Err cut.Memory = is in cc)
  begun-ended texts may a b c cut.Failed written meant status end is Failing (count, bytes, s) (Whole g) = cut-texts texts may a b c count bytes s g
  begun-ended texts may a b c cut.Failed written meant status end is Failing (count, bytes, s) (Cut n g) =
      cut-texts texts may a b c count bytes s (subst (λ (l : List ℕ). Appends b c l) (take_all n [] (omega arith)) g)

  -- a member that went on
  module _ (net : N) (lines stood : List (OwnLine S)) (told : IsTold log failed May meaning group way member net lines stood) (gives : GivesBack given (record { by = member; net = net } ∷ []) given') where
    abbrev all_texts : List (List ℕ)
    all_texts = started_line member ∷ texts_of line_of_state lines

    told-ended : (a b c : Option (List ℕ)) (written : Result Unit Why) (meant status : Status) (end : List ℕ) → IsEndOf written meant end → Writes false all_texts a b written
        → OnOk written (EndsBy log failed meaning group way.stable told.shown way.leaves told.back told.last) → Ends b c end meant status → Written (Listed false) a c status
    told-ended a b c written meant status end Over s ends e = record {
      meant = Done;
      text = concat all_texts;
      says = Told Done (concat all_texts) refl (All net lines stood told ends gives);
      ends = subst (λ (l : List ℕ). Ends a c l Done status) (append-nil (concat all_texts)) (ends-then a b c (concat all_texts) [] Done status s e);
    }
    told-ended a b c written meant status end Lacking s ends e =
        begun-ended all_texts (λ n. Part net lines stood n told gives) a b c cut.Memory (Err cut.Memory) meant status end refl Lacking s e
    told-ended a b c written meant status end Failing s ends e =
        begun-ended all_texts (λ n. Part net lines stood n told gives) a b c cut.Failed (Err cut.Failed) meant status end refl Failing s e

  begun-start : (a b : Option (List ℕ)) (why : Why) → WritesStart member a b (Err why) → ShowsBegun false (started_line member ∷ []) a b why
  begun-start a b cut.Memory none = (0, none)
  begun-start a b cut.Failed (count, took) =
      (1, count, subst (λ (l : List ℕ). Appends a b (take count l)) (sym (append-nil (started_line member))) took)

  telling-ended : (a b c : Option (List ℕ)) (written : Result Unit Why) (status : Status)
      → StartsTelling log failed May meaning line_of_state group given given' way member a b written → Written (IsEndOf written) b c status → Written (Listed false) a c status
  telling-ended a b c _ status (StartsTelling.Unstarted why gives s) w =
      begun-ended (started_line member ∷ []) (λ n. Unmade n gives) a b c why (Err why) w.meant status w.text refl w.says (begun-start a b why s) w.ends
  telling-ended a b c _ status (StartsTelling.Lacks gives s) w =
      begun-ended (started_line member ∷ []) (λ n. Unmade n gives) a b c cut.Memory (Err cut.Memory) w.meant status w.text refl w.says
      (1, subst (λ (l : List ℕ). Appends a b l) (sym (append-nil (started_line member))) s) w.ends
  telling-ended a b c written status (Started _ s) w =
      told-ended s.net s.lines s.stood s.told s.gives a b c written w.meant status w.text w.says s.writes s.ends w.ends

  -- it was started, unless it was refused memory or the writer failed; and it went on, as far as what happened was written
  pub listed-ended : (speaks : Bool) (a b c : Option (List ℕ)) (written : Result Unit Why) (status : Status)
      → StartsUp log failed May meaning line_of_state group given given' speaks way member a b written → Written (IsEndOf written) b c status → Written (Listed speaks) a c status
  listed-ended true a b c written status s w = said-ended a b c written status s w
  listed-ended false a b c written status s w = telling-ended a b c written status s w

  -- it has no net
  pub netless-ended : (speaks : Bool) (a b : Option (List ℕ)) (error : BindError) (status : Status) → Written (IsNetlessText 0 error) a b status → Written (Listed speaks) a b status
  netless-ended speaks a b error status w =
      written-as (IsNetlessText 0 error) (Listed speaks) a b status (λ s t says. Netless error s t says) w

  -- ---- what it tells is written first

  abbrev First : Option (List ℕ) → Option (List ℕ) → Type 0
  First old new = WritesFirst log failed May meaning line_of_state group given given' way member old new

  -- a writer took some more as its text ended
  ended-more : (P : Status → List ℕ → Type 0) (b c : Option (List ℕ)) (status : Status) → Written P b c status → TakesMore b c
  ended-more P b c status w = more w.meant status w.text w.ends
    where
      more : (meant s : Status) (text : List ℕ) → Ends b c text meant s → TakesMore b c
      more meant s text (Whole f) = record { text = text; appends = f }
      more meant s text (Cut count f) = record { text = take count text; appends = f }

  pub first-ended : (speaks : Bool) (a b c : Option (List ℕ)) (written : Result Unit Why) (status : Status)
      → StartsUp log failed May meaning line_of_state group given given' speaks way member a b written → Written (IsEndOf written) b c status → speaks ≡ false → First a c
  first-ended true a b c written status s w is = absurd (let bad : true ≡ false = is in cc)
  first-ended false a b c written status s w is = by written s (ended-more (IsEndOf written) b c status w)
    where
      by : (r : Result Unit Why) → StartsTelling log failed May meaning line_of_state group given given' way member a b r → TakesMore b c → First a c
      by _ (StartsTelling.Unstarted why gives x) t = Unbegun gives
      by _ (StartsTelling.Lacks gives x) t = Unbegun gives
      by _ (Started r x) t =
          let f = x.first refl in
          let texts = concat (started_line member ∷ texts_of line_of_state x.stood) in
          Begun x.net x.lines x.stood x.told x.gives
          (f.0 ++ t.text, subst (λ (l : List ℕ). Appends a c l) (append_assoc texts f.0 t.text) (appends_then a b c (texts ++ f.0) t.text f.1 t.appends))

  pub first-none : (a b : Option (List ℕ)) → given' ≡ given → First a b
  first-none a b same = Unbegun (gives-none given given' same)
