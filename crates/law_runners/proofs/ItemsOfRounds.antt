-- What each part of a round adds.
use Rattle.std.proofs.Common.{◌≡◌, ℕ, Bool, true, false, Option, None, Some, Result, Ok, Err, List, [], ◌∷◌, ◌++◌, map, flat_map, refl, sym, ap, ◌∙◌, subst, inl, inr, ◌⊎◌}
use Rattle.std.specs.Prelude.{MatchOption, ◌||◌}
use Rattle.std.specs.List.{AllByRecursion}
use Rattle.std.specs.Result.{result_err}
use Rattle.std.proofs.lemmas.List.{append-nil, append_assoc}
use Rattle.address.specs.Ids.{Address}
use Rattle.state_transfer.specs.Meanings.{Meaning}
use Rattle.trace_props.specs.declared.event.Event.{Event}
use Rattle.member.specs.declared.error.Error.{Error}
use Rattle.member.specs.declared.input.Input.{Input}
use Rattle.member.specs.declared.input.Input.TheVariants as input
use Rattle.member.specs.Members.{MemberModel}
use Rattle.channel.specs.declared.stage.Stage.{Stage}
use Rattle.channel.specs.declared.stage.Stage.TheVariants.{Ended}
use Rattle.channel.specs.Channels.{ChannelModel}
use Rattle.channel.specs.Calls.{Calls}
use Rattle.udp_net.specs.Logs.{Log, Lists, NetEvent, Answered, receiving}
use Rattle.udp_net.specs.declared.net.Received.{Received}
use Rattle.udp_net.specs.declared.net.Received.TheVariants as received
use Rattle.udp_member.specs.Offers.{Offers}
use Rattle.udp_member.specs.Turns.{Handed, Datagram, Suspect, Tick, Hint, CallsBy, Driven, Comes, Takes, TakesAll, goes_on, watched_at}
use Rattle.udp_member.specs.Turns.TakesAll.{Nothing, Next}
use Rattle.udp_member.specs.RunnerNotes.{RunnerNotes}
use Rattle.udp_member.specs.Rounds.{PassesOver, Asks, ComesNone, Cuts, Hears, counting, silent_of, after_suspicions, SuspectsAll, Suspects, Ticks, SuspectsAndTicks, Rounds}
use Rattle.udp_member.specs.Seeking.{Hints, Seeks, sought, turned}
use Rattle.law_processes.specs.Deployments.{Step, IsNew, bytes_of, happens_by}
use Rattle.law_processes.specs.Processes.{all_told}
use Rattle.law_runners.specs.Plays.{IsReady, LeftBy, falls, crash_of}
use Rattle.law_runners.proofs.CallIsStep.{is_over, calls-are, lent-calls-are}
use Rattle.law_runners.specs.Items.{Item, OfNet, Standing, stands_after, datagram_in, Follow, net_events, steps_in}
use Rattle.law_runners.specs.Runs.{is_start, running_in, standing, happened_by, Adds}
use Rattle.law_runners.proofs.ItemsJoin
use Rattle.law_runners.proofs.StepsOfCalls.{Does, call-does, falls-as, falls-not}
use Rattle.law_runners.proofs.StaysRunning.{goes-on, ends-not}

module _ {N S : Type 0} (log : N → Option Log) (meaning : Meaning S) (group : List ℕ) where
  abbrev Ready : Driven N S → Type 0
  Ready r = IsReady meaning r.channel.stage

  abbrev NoStart : List (Step S) → Type 0
  NoStart steps = AllByRecursion (λ x. is_start x ≡ false) steps

  -- ---- one after the other

  told-on : (t u a b c x y : List Event) → t ++ b ≡ a ++ x → u ++ c ≡ b ++ y → (t ++ u) ++ c ≡ a ++ (x ++ y)
  told-on t u a b c x y e f =
      append_assoc t u c ∙ ap (λ (l : List Event). t ++ l) f ∙ sym (append_assoc t b y) ∙ ap (λ (l : List Event). l ++ y) e ∙ append_assoc a x y

  -- after the end nothing happens any more
  none-happened : (own : List (Step S)) → own ≡ [] → flat_map happens_by own ≡ []
  none-happened own e = ap (λ (l : List (Step S)). flat_map happens_by l) e

  none-told : (own : List (Step S)) → own ≡ [] → all_told own ≡ []
  none-told own e = ap (λ (l : List (Step S)). all_told l) e

  happens-on : (p q : Address) (f g : Bool) (hx hy tx ty : List Event) → q ≡ p → hx ≡ tx ++ crash_of p f → hy ≡ ty ++ crash_of q g → (f ≡ true → (hy ≡ []) × (ty ≡ []))
      → hx ++ hy ≡ (tx ++ ty) ++ crash_of p (f || g)
  happens-on p q true g hx hy tx ty same x y after =
      let a = after refl in
      ap (λ (l : List Event). hx ++ l) a.0 ∙ append-nil hx ∙ x ∙ ap (λ (l : List Event). l ++ crash_of p true) (sym (append-nil tx) ∙ ap (λ (l : List Event). tx ++ l) (sym a.1))
  happens-on p q false g hx hy tx ty same x y after =
      ap (λ (l : List Event). l ++ hy) (x ∙ append-nil tx) ∙ ap (λ (l : List Event). tx ++ l) (y ∙ ap (λ (r : Address). ty ++ crash_of r g) same) ∙ sym (append_assoc tx ty (crash_of p g))

  no-start-on : (xs ys : List (Step S)) → NoStart xs → NoStart ys → NoStart (xs ++ ys)
  no-start-on [] ys a b = b
  no-start-on (x ∷ xs) ys a b = (a.0, no-start-on xs ys a.1 b)

  fallen-on : (f g : Bool) (b c : Stage S) → (f ≡ true → b ≡ Ended) → (g ≡ true → c ≡ Ended) → (b ≡ Ended → c ≡ Ended) → (f || g) ≡ true → c ≡ Ended
  fallen-on true g b c x y over e = over (x refl)
  fallen-on false g b c x y over e = y e

  pub then-adds : (a b c : Driven N S) (t u : List Event) (f g : Bool) → Adds log meaning group a t f b → Adds log meaning group b u g c → Adds log meaning group a (t ++ u) (f || g) c
  then-adds a b c t u f g x y =
      let p = a.channel.address in
      let over = λ (e : a.channel.stage ≡ Ended). y.over (x.over e).1 in
      let from = λ (m : MemberModel S). stands_after (standing (x.before (y.before m)) a) x.items in
      let waits = map bytes_of b.channel.outgoing in
      let there = λ (m : MemberModel S) (n : IsNew meaning group p m). subst (λ (q : Address). IsNew meaning group q (y.before m)) x.address (y.is_new m (subst (λ (q : Address). IsNew meaning group q m) (sym x.address) n)) in
      record {
        items = x.items ++ y.items;
        before = λ m. x.before (y.before m);
        is_new = λ m n. x.is_new (y.before m) (there m n);
        follow = λ m n. ItemsJoin.follow-then meaning group p (standing (x.before (y.before m)) a) x.items y.items (x.follow (y.before m) (there m n))
            (ItemsJoin.follow-from meaning group p (from m) (running_in (y.before m) b.channel.stage) waits y.items (x.running (y.before m) (there m n)) (x.waiting (x.before (y.before m)))
            (subst (λ (q : Address). Follow meaning group q (standing (y.before m) b) y.items) x.address (y.follow m (subst (λ (q : Address). IsNew meaning group q m) (sym x.address) n))));
        running = λ m n. ap (λ (s : Standing S). s.running) (ItemsJoin.after-then (standing (x.before (y.before m)) a) x.items y.items)
            ∙ ItemsJoin.running-from (from m) (running_in (y.before m) b.channel.stage) waits y.items (x.running (y.before m) (there m n)) (x.waiting (x.before (y.before m)))
            ∙ y.running m (subst (λ (q : Address). IsNew meaning group q m) (sym x.address) n);
        waiting = λ m. ap (λ (s : Standing S). s.waiting) (ItemsJoin.after-then (standing m a) x.items y.items)
            ∙ ItemsJoin.waiting-from (stands_after (standing m a) x.items) (stands_after (standing m a) x.items).running waits y.items refl (x.waiting m) ∙ waiting-any m;
        lists = subst (λ (l : List NetEvent). Lists (log a.net) (λ k. k ++ l) (log c.net)) (sym (ItemsJoin.events-then x.items y.items))
            (ItemsJoin.lists-then (log a.net) (log b.net) (log c.net) (net_events x.items) (net_events y.items) x.lists y.lists);
        tells = told-on t u a.channel.happened b.channel.happened c.channel.happened (all_told (steps_in x.items)) (all_told (steps_in y.items)) x.tells y.tells
            ∙ ap (λ (l : List Event). a.channel.happened ++ l) (sym (ItemsJoin.told-then x.items y.items));
        happens = ItemsJoin.happened-then x.items y.items
            ∙ happens-on p b.channel.address f g (happened_by x.items) (happened_by y.items) (all_told (steps_in x.items)) (all_told (steps_in y.items)) x.address x.happens y.happens
            (λ e. let none = (y.over (x.fallen e)).0 in (none-happened (steps_in y.items) none, none-told (steps_in y.items) none))
            ∙ ap (λ (l : List Event). l ++ crash_of p (f || g)) (sym (ItemsJoin.told-then x.items y.items));
        no_start = subst (λ (l : List (Step S)). NoStart l) (sym (ItemsJoin.steps-then x.items y.items)) (no-start-on (steps_in x.items) (steps_in y.items) x.no_start y.no_start);
        address = y.address ∙ x.address;
        ready = y.ready;
        fallen = fallen-on f g b.channel.stage c.channel.stage x.fallen y.fallen (λ e. (y.over e).1);
        over = λ e. (ItemsJoin.steps-then x.items y.items ∙ ap (λ (l : List (Step S)). l ++ steps_in y.items) (x.over e).0 ∙ (over e).0, (over e).1);
      }
    where
      waiting-any : (m : MemberModel S) → (stands_after (ItemsJoin.stands (stands_after (standing m a) x.items).running (map bytes_of b.channel.outgoing) None) y.items).waiting ≡ map bytes_of c.channel.outgoing
      waiting-any m = ItemsJoin.waiting-ran (stands_after (standing m a) x.items).running (running_in m b.channel.stage) (map bytes_of b.channel.outgoing) None y.items ∙ y.waiting m

  abbrev On : Driven N S → Bool → Driven N S → Type 0
  On old fell new = Adds log meaning group old [] fell new

  -- what does not end it: it runs on where it ran
  pub record Goes (old new : Driven N S) : Type 0 where
    pub adds : On old false new
    pub same : is_over new.channel.stage ≡ is_over old.channel.stage

  pub then-goes : (a b c : Driven N S) → Goes a b → Goes b c → Goes a c
  then-goes a b c x y = record { adds = then-adds a b c [] [] false false x.adds y.adds; same = y.same ∙ x.same }

  pub then-on : (a b c : Driven N S) (failure : Option Error) → Goes a b → On b (falls b.channel.stage failure) c → On a (falls a.channel.stage failure) c
  then-on a b c failure x y =
      subst (λ (f : Bool). On a f c) (falls-as b.channel.stage a.channel.stage failure x.same) (then-adds a b c [] [] false (falls b.channel.stage failure) x.adds y)

  pub falls-none : (old : Driven N S) → falls old.channel.stage None ≡ false
  falls-none old = falls-not old.channel.stage None refl

  goes-none : (old new : Driven N S) → On old false new → On old (falls old.channel.stage None) new
  goes-none old new x = subst (λ (f : Bool). On old f new) (sym (falls-none old)) x

  -- ---- items that are no steps

  pub quiet-adds : (old new : Driven N S) (taken : List Event) (items : List (Item S)) → new.channel.stage ≡ old.channel.stage → steps_in items ≡ []
      → ((r : Option (MemberModel S)) → Follow meaning group old.channel.address (ItemsJoin.stands r (map bytes_of old.channel.outgoing) None) items)
      → ((r : Option (MemberModel S)) → (stands_after (ItemsJoin.stands r (map bytes_of old.channel.outgoing) None) items).running ≡ r)
      → ((r : Option (MemberModel S)) → (stands_after (ItemsJoin.stands r (map bytes_of old.channel.outgoing) None) items).waiting ≡ map bytes_of new.channel.outgoing)
      → Lists (log old.net) (λ l. l ++ net_events items) (log new.net) → taken ++ new.channel.happened ≡ old.channel.happened → new.channel.address ≡ old.channel.address → Ready old
      → Adds log meaning group old taken false new
  quiet-adds old new taken items stage steps follow running waiting lists tells address ready = record {
    items = items;
    before = λ m. m;
    is_new = λ m n. n;
    follow = λ m n. follow (running_in m old.channel.stage);
    running = λ m n. running (running_in m old.channel.stage) ∙ ap (λ (s : Stage S). running_in m s) (sym stage);
    waiting = λ m. waiting (running_in m old.channel.stage);
    lists = lists;
    tells = tells ∙ sym (append-nil old.channel.happened) ∙ ap (λ (l : List Event). old.channel.happened ++ l) (sym (none-told (steps_in items) steps));
    happens = none-happened (steps_in items) steps ∙ ap (λ (l : List Event). l ++ []) (sym (none-told (steps_in items) steps));
    no_start = subst (λ (l : List (Step S)). NoStart l) (sym steps) tt;
    address = address;
    ready = subst (λ (s : Stage S). IsReady meaning s) (sym stage) ready;
    fallen = λ e. absurd (let bad : false ≡ true = e in cc);
    over = λ e. (steps, stage ∙ e);
  }

  -- ---- nothing, or an answer of the net

  pub still : (old new : Driven N S) → new.channel ≡ old.channel → Lists (log old.net) (λ l. l) (log new.net) → Ready old → On old false new
  still old new same lists ready =
      quiet-adds old new [] [] (ap (λ (c : ChannelModel S). c.stage) same) refl (λ r. tt) (λ r. refl) (λ r. sym (ap (λ (c : ChannelModel S). map bytes_of c.outgoing) same))
      (ItemsJoin.lists-as (log old.net) (log new.net) (λ l. l) (λ l. l ++ []) (λ l. sym (append-nil l)) lists) (ap (λ (c : ChannelModel S). c.happened) same)
      (ap (λ (c : ChannelModel S). c.address) same) ready

  pub lists-self : (l : Option Log) → Lists l (λ k. k) l
  lists-self None = tt
  lists-self (Some l) = refl

  pub same-goes : (old new : Driven N S) → new ≡ old → Ready old → Goes old new
  same-goes old new same ready = record {
    adds = still old new (ap (λ (r : Driven N S). r.channel) same) (subst (λ (r : Driven N S). Lists (log old.net) (λ l. l) (log r.net)) (sym same) (lists-self (log old.net))) ready;
    same = ap (λ (r : Driven N S). is_over r.channel.stage) same;
  }

  asks-goes : (failed : N → ℕ) (answer : Received) (old new : Driven N S) → Asks log failed answer old new → Ready old → Goes old new
  asks-goes failed answer old new a ready = record {
    adds = quiet-adds old new [] (OfNet (Answered answer) ∷ []) (ap (λ (c : ChannelModel S). c.stage) a.channel) refl (λ r. (tt, tt)) (λ r. refl)
        (λ r. sym (ap (λ (c : ChannelModel S). map bytes_of c.outgoing) a.channel)) a.lists (ap (λ (c : ChannelModel S). c.happened) a.channel)
        (ap (λ (c : ChannelModel S). c.address) a.channel) ready;
    same = ap (λ (c : ChannelModel S). is_over c.stage) a.channel;
  }

  -- ---- steps

  -- the channel does these steps; and before them, where one of them hands a datagram in, the net gave it
  steps-after : (old new : Driven N S) (fell : Bool) (given : Option (List ℕ)) (first : List (Item S)) (d : Does meaning group given old.channel fell new.channel)
      → ((r : Option (MemberModel S)) (own : List (Step S)) → Follow meaning group old.channel.address (ItemsJoin.stands r (map bytes_of old.channel.outgoing) given) (ItemsJoin.items_by own)
      → Follow meaning group old.channel.address (ItemsJoin.stands r (map bytes_of old.channel.outgoing) None) (first ++ ItemsJoin.items_by own))
      → ((r : Option (MemberModel S)) (own : List (Step S)) → stands_after (ItemsJoin.stands r (map bytes_of old.channel.outgoing) None) (first ++ ItemsJoin.items_by own)
      ≡ stands_after (ItemsJoin.stands r (map bytes_of old.channel.outgoing) given) (ItemsJoin.items_by own))
      → ((own : List (Step S)) → steps_in (first ++ ItemsJoin.items_by own) ≡ own) → Lists (log old.net) (λ l. l ++ net_events (first ++ ItemsJoin.items_by d.own)) (log new.net)
      → On old fell new
  steps-after old new fell given first d follows stands steps lists =
      let p = old.channel.address in
      let w = map bytes_of old.channel.outgoing in
      let items = first ++ ItemsJoin.items_by d.own in
      record {
        items = items;
        before = d.before;
        is_new = d.is_new;
        follow = λ m n. follows (running_in (d.before m) old.channel.stage) d.own
            (ItemsJoin.follow-by meaning group p (running_in (d.before m) old.channel.stage) w given d.own (d.runs m n) d.may);
        running = λ m n. ap (λ (s : Standing S). s.running) (stands (running_in (d.before m) old.channel.stage) d.own)
            ∙ ItemsJoin.running-by (running_in (d.before m) old.channel.stage) w given d.own ∙ d.left m n;
        waiting = λ m. ap (λ (s : Standing S). s.waiting) (stands (running_in m old.channel.stage) d.own)
            ∙ ItemsJoin.waiting-by (running_in m old.channel.stage) w given d.own ∙ sym d.puts;
        lists = lists;
        tells = d.tells ∙ ap (λ (l : List (Step S)). old.channel.happened ++ all_told l) (sym (steps d.own));
        happens = ap (λ (l : List (Step S)). flat_map happens_by l) (steps d.own) ∙ d.happens ∙ ap (λ (l : List (Step S)). all_told l ++ crash_of p fell) (sym (steps d.own));
        no_start = subst (λ (l : List (Step S)). NoStart l) (sym (steps d.own)) d.no_start;
        address = d.address;
        ready = d.ready;
        fallen = d.fallen;
        over = λ e. (steps d.own ∙ (d.over e).0, (d.over e).1);
      }

  -- the net lists nothing
  pub steps-on : (old new : Driven N S) (fell : Bool) → Does meaning group None old.channel fell new.channel → Lists (log old.net) (λ l. l) (log new.net) → On old fell new
  steps-on old new fell d lists =
      steps-after old new fell None [] d (λ r own f. f) (λ r own. refl) (λ own. ItemsJoin.steps-by own)
      (subst (λ (l : List NetEvent). Lists (log old.net) (λ k. k ++ l) (log new.net)) (sym (ItemsJoin.events-by d.own))
      (ItemsJoin.lists-as (log old.net) (log new.net) (λ l. l) (λ l. l ++ []) (λ l. sym (append-nil l)) lists))

  -- the net gives a datagram
  given-on : (old new : Driven N S) (fell : Bool) (bytes : List ℕ) → Does meaning group (Some bytes) old.channel fell new.channel
      → Lists (log old.net) (receiving (received.Datagram bytes)) (log new.net) → On old fell new
  given-on old new fell bytes d lists =
      steps-after old new fell (Some bytes) (OfNet (Answered (received.Datagram bytes)) ∷ []) d (λ r own f. (tt, f)) (λ r own. refl) (λ own. ItemsJoin.steps-by own)
      (subst (λ (l : List NetEvent). Lists (log old.net) (λ k. k ++ (Answered (received.Datagram bytes) ∷ l)) (log new.net)) (sym (ItemsJoin.events-by d.own)) lists)

  -- ---- offers

  pub offers-on : (failed : N → ℕ) (old new : Driven N S) → Offers log failed old.net old.channel new.net new.channel → Ready old → On old false new
  offers-on failed old new o ready =
      let packets = old.channel.outgoing in
      quiet-adds old new [] (ItemsJoin.items_offered packets) (ap (λ (c : ChannelModel S). c.stage) o.channel_is) (ItemsJoin.steps-offered packets)
      (λ r. ItemsJoin.follow-offered meaning group old.channel.address r None packets) (λ r. ItemsJoin.running-offered r None packets)
      (λ r. ItemsJoin.waiting-offered r None packets ∙ sym (ap (λ (c : ChannelModel S). map bytes_of c.outgoing) o.channel_is))
      (subst (λ (l : List NetEvent). Lists (log old.net) (λ k. k ++ l) (log new.net)) (sym (ItemsJoin.events-offered S packets)) o.lists)
      (ap (λ (c : ChannelModel S). c.happened) o.channel_is) (ap (λ (c : ChannelModel S). c.address) o.channel_is) ready

  -- ---- a turn

  pub call-on : (i : Input) (old mid : Driven N S) (answer : Option Error) → datagram_in i ≡ None → Lists (log old.net) (λ l. l) (log mid.net)
      → Calls meaning i old.channel answer mid.channel → LeftBy answer old.channel mid.channel → Ready old → On old (falls old.channel.stage answer) mid
  call-on i old mid answer none lists c left ready =
      let p = calls-are meaning group i old.channel mid.channel answer ready c left in
      steps-on old mid (falls old.channel.stage answer) (call-does meaning group None old.channel answer mid.channel left i (rw none tt) p.0 p.2 p.3 p.1) lists

  same-net : (old mid : Driven N S) → mid.net ≡ old.net → Lists (log old.net) (λ l. l) (log mid.net)
  same-net old mid same = subst (λ (n : N). Lists (log old.net) (λ l. l) (log n)) (sym same) (lists-self (log old.net))

  passes : (s : Stage S) (answer failure : Option Error) → PassesOver answer failure → falls s answer ≡ falls s failure
  passes s answer None why = falls-not s answer (ends-not answer why) ∙ sym (falls-not s None refl)
  passes s answer (Some e) why = ap (λ (o : Option Error). falls s o) why.0

  module _ (failed : N → ℕ) where
    -- what is handed in is taken by the channel
    handed-on : (handed : Handed) (old new : Driven N S) (answer : Option Error) → Comes log failed handed old.net new.net → CallsBy meaning handed old.channel answer new.channel
        → LeftBy answer old.channel new.channel → Ready old → On old (falls old.channel.stage answer) new
    handed-on (Datagram bytes) old new answer comes c left ready =
        let p = lent-calls-are meaning group input.Datagram bytes old.channel new.channel answer ready c left in
        given-on old new (falls old.channel.stage answer) bytes
        (call-does meaning group (Some bytes) old.channel answer new.channel left (input.Datagram p.0) (ap Some (sym p.1)) p.2.0 p.2.2 p.2.3 p.2.1) comes.0
    handed-on (Suspect q) old new answer comes c left ready = call-on (input.Suspect q) old new answer refl (same-net old new comes) c left ready
    handed-on Tick old new answer comes c left ready = call-on input.Tick old new answer refl (same-net old new comes) c left ready
    handed-on (Hint q) old new answer comes c left ready = call-on (input.MergeHint q) old new answer refl (same-net old new comes) c left ready

    takes-on : (handed : Handed) (old : Driven N S) (answer : Option Error) (new : Driven N S) → Takes log failed meaning handed old answer new → Ready old
        → On old (falls old.channel.stage answer) new
    takes-on handed old answer new t ready = handed-on handed old new answer t.comes t.turn.calls t.turn.left ready

    takes-goes : (handed : Handed) (old : Driven N S) (answer : Option Error) (new : Driven N S) → Takes log failed meaning handed old answer new → goes_on answer ≡ true → Ready old
        → Goes old new
    takes-goes handed old answer new t goes ready = record {
      adds = subst (λ (f : Bool). On old f new) (falls-not old.channel.stage answer (ends-not answer goes)) (takes-on handed old answer new t ready);
      same = goes-on meaning handed old.channel answer new.channel t.turn.calls t.turn.left goes;
    }

    takes-all-goes : {X : Type 0} (as_handed : X → Handed) (may : X → Type 0) (old : Driven N S) (xs : List X) (new : Driven N S)
        → TakesAll log failed meaning as_handed may old xs new → Ready old → Goes old new
    takes-all-goes as_handed may old _ _ Nothing ready = same-goes old old refl ready
    takes-all-goes as_handed may old _ _ (Next xs mid x answer new so allowed t goes) ready =
        let a = takes-all-goes as_handed may old xs mid so ready in
        then-goes old mid new a (takes-goes (as_handed x) mid answer new t goes a.adds.ready)

    -- ---- the parts of a round

    none-goes : (old new : Driven N S) → ComesNone log failed old new → Ready old → Goes old new
    none-goes old new (inl a) ready = asks-goes failed received.Nothing old new a ready
    none-goes old new (inr a) ready = asks-goes failed received.Failed old new a ready

    cuts-on : {X : Type 0} (as_handed : X → Handed) (may : X → Type 0) (old : Driven N S) (e : Error) (new : Driven N S) → Cuts log failed meaning as_handed may old e new
        → Ready old → On old (falls old.channel.stage (Some e)) new
    cuts-on as_handed may old e new c ready =
        let a = takes-all-goes as_handed may old c.handed c.mid c.takes ready in
        then-on old c.mid new (Some e) a (takes-on (as_handed c.last) c.mid (Some e) new c.answered a.adds.ready)

    until-goes : (old heard new : Driven N S) (P Q : Type 0) → Goes old heard → (P × (new ≡ heard)) ⊎ (Q × ComesNone log failed heard new) → Goes old new
    until-goes old heard new P Q a (inl x) = then-goes old heard new a (same-goes heard new x.1 a.adds.ready)
    until-goes old heard new P Q a (inr x) = then-goes old heard new a (none-goes heard new x.1 a.adds.ready)

    hears-goes : (old : Driven N S) (count : ℕ) (new : Driven N S) → Hears log failed meaning old (Ok count) new → Ready old → Goes old new
    hears-goes old count new h ready = until-goes old h.heard new _ _ (takes-all-goes Datagram _ old h.datagrams h.heard h.takes ready) h.until

    pub hears-on : (old : Driven N S) (answer : Result ℕ Error) (new : Driven N S) → Hears log failed meaning old answer new → Ready old → On old (falls old.channel.stage (result_err answer)) new
    hears-on old (Ok count) new h ready = goes-none old new (hears-goes old count new h ready).adds
    hears-on old (Err e) new h ready = cuts-on Datagram _ old e new h ready

    ticks-on : (old new : Driven N S) (failure : Option Error) → Ticks log failed meaning old failure new → Ready old → On old (falls old.channel.stage failure) new
    ticks-on old new failure t ready =
        subst (λ (f : Bool). On old f new) (passes old.channel.stage t.answer failure t.why) (takes-on Tick old t.answer new t.takes ready)

    -- where a part is cut short that is all
    stops-on : (old mid new : Driven N S) (e : Error) (failure : Option Error) → On old (falls old.channel.stage (Some e)) mid → (failure ≡ Some e) × (new ≡ mid)
        → On old (falls old.channel.stage failure) new
    stops-on old mid new e failure x stops =
        subst (λ (r : Driven N S). On old (falls old.channel.stage failure) r) (sym stops.1)
        (subst (λ (o : Option Error). On old (falls old.channel.stage o) mid) (sym stops.0) x)

    -- notes alone are others
    notes-goes : (old : Driven N S) (notes : RunnerNotes) → Ready old → Goes old (record old { notes = notes })
    notes-goes old notes ready = record { adds = still old (record old { notes = notes }) refl (lists-self (log old.net)) ready; same = refl }

    anew-goes : (suspects : List Address) (old : Driven N S) → Ready old → Goes old (after_suspicions suspects old)
    anew-goes [] old ready = same-goes old old refl ready
    anew-goes (p ∷ ps) old ready = notes-goes old _ ready

    silent-goes : (watched : List Address) (old new : Driven N S) → SuspectsAll log failed meaning watched old new → Ready old → Goes old new
    silent-goes watched old new s ready =
        let suspects = silent_of watched old in
        let a = takes-all-goes Suspect _ old suspects s.mid s.takes ready in
        let b = anew-goes suspects s.mid a.adds.ready in
        then-goes old s.mid new a (then-goes s.mid (after_suspicions suspects s.mid) new b (same-goes (after_suspicions suspects s.mid) new s.after b.adds.ready))

    both-by : (old mid new : Driven N S) (cut failure : Option Error) → Suspects log failed meaning old cut mid → (cut ≡ None → Ticks log failed meaning mid failure new)
        → ((e : Error) → cut ≡ Some e → (failure ≡ Some e) × (new ≡ mid)) → Ready old → On old (falls old.channel.stage failure) new
    both-by old mid new None failure (inl s) ticks stops ready =
        let watched = watched_at old.channel.stage in
        let counted = counting watched old in
        let a = then-goes old counted mid (notes-goes old counted.notes ready) (silent-goes watched counted mid s ready) in
        then-on old mid new failure a (ticks-on mid new failure (ticks refl) a.adds.ready)
    both-by old mid new None failure (inr s) ticks stops ready =
        let a = same-goes old mid s.1 ready in
        then-on old mid new failure a (ticks-on mid new failure (ticks refl) a.adds.ready)
    both-by old mid new (Some e) failure (inl s) ticks stops ready =
        let counted = counting (watched_at old.channel.stage) old in
        stops-on old mid new e failure (then-on old counted mid (Some e) (notes-goes old counted.notes ready) (cuts-on Suspect _ counted e mid s ready)) (stops e refl)
    both-by old mid new (Some e) failure (inr s) ticks stops ready = absurd (let n : Some e ≡ None = s.0 in cc)

    both-on : (old new : Driven N S) (failure : Option Error) → SuspectsAndTicks log failed meaning old failure new → Ready old → On old (falls old.channel.stage failure) new
    both-on old new failure s ready = both-by old s.mid new s.cut failure s.suspects s.ticks s.stops ready

    -- ---- calls

    round-by : (old mid new : Driven N S) (heard : Result ℕ Error) (failure : Option Error) → Hears log failed meaning old heard mid
        → ((count : ℕ) → heard ≡ Ok count → SuspectsAndTicks log failed meaning mid failure new) → ((e : Error) → heard ≡ Err e → (failure ≡ Some e) × (new ≡ mid)) → Ready old
        → On old (falls old.channel.stage failure) new
    round-by old mid new (Ok count) failure h both stops ready =
        let a = hears-goes old count mid h ready in
        then-on old mid new failure a (both-on mid new failure (both count refl) a.adds.ready)
    round-by old mid new (Err e) failure h both stops ready = stops-on old mid new e failure (hears-on old (Err e) mid h ready) (stops e refl)

    pub round-on : (old new : Driven N S) (failure : Option Error) → Rounds log failed meaning old failure new → Ready old → On old (falls old.channel.stage failure) new
    round-on old new failure r ready = round-by old r.mid new r.heard failure r.hears r.then_suspects r.stops ready

    turns-goes : (old : Driven N S) → Ready old → Goes old (turned old)
    turns-goes old ready = record { adds = still old (turned old) refl (lists-self (log old.net)) ready; same = refl }

    hints-on : (p : Address) (old new : Driven N S) (failure : Option Error) → Hints log failed meaning p old failure new → Ready old → On old (falls old.channel.stage failure) new
    hints-on p old new failure h ready =
        subst (λ (f : Bool). On old f new) (passes old.channel.stage h.answer failure h.why) (takes-on (Hint p) old h.answer new h.takes ready)

    seeks-by : (o : Option Address) (old new : Driven N S) (failure : Option Error)
        → MatchOption o ((failure ≡ None) × (new ≡ turned old)) (λ p. Hints log failed meaning p (turned old) failure new) → Ready old → On old (falls old.channel.stage failure) new
    seeks-by None old new failure s ready =
        let x = then-goes old (turned old) new (turns-goes old ready) (same-goes (turned old) new s.1 ready) in
        subst (λ (o : Option Error). On old (falls old.channel.stage o) new) (sym s.0) (goes-none old new x.adds)
    seeks-by (Some p) old new failure s ready = then-on old (turned old) new failure (turns-goes old ready) (hints-on p (turned old) new failure s ready)

    pub seek-on : (old new : Driven N S) (failure : Option Error) → Seeks log failed meaning old failure new → Ready old → On old (falls old.channel.stage failure) new
    seek-on old new failure s ready = seeks-by (sought old) old new failure s ready
