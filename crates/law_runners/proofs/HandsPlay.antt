-- What one hand does that starts processes, drives their runners and lets them go is a history.
use Rattle.std.proofs.Common.{◌≡◌, ℕ, Bool, true, false, cond, Option, None, Some, is_some, List, [], ◌∷◌, ◌++◌, map, length, refl, sym, ap, ◌∙◌, subst, inl, inr, ◌⊎◌}
use Rattle.std.specs.Prelude.{slice_get}
use Rattle.std.specs.Option.{ForSome}
use Rattle.std.proofs.lemmas.Option.{none-some, same_Some}
use Rattle.std.proofs.lemmas.List.{append-nil, append_assoc, append_cancel_left}
use Rattle.address.specs.Ids.{Address, IsAddress, same_address}
use Rattle.address.proofs.SameIds.{same_address-true, same_address-refl}
use Rattle.state_transfer.specs.Meanings.{Meaning}
use Rattle.trace_props.specs.declared.event.Event.{Event}
use Rattle.trace_props.specs.declared.event.Event.TheVariants.{Started, Crashed}
use Rattle.trace_props.specs.Observed.{has_started}
use Rattle.trace_props.specs.Places.{EachPlace}
use Rattle.trace_props.specs.Synchrony.{IsVirtuallySynchronous}
use Rattle.law_processes.specs.Replicas.{ReplicasAgree}
use Rattle.trace_props.proofs.ObservedGrow.{has_started-now, has_started-stays}
use Rattle.trace_props.proofs.RulesAlongLists.{slice_get-push, slice_get-before, slice_get-last}
use Rattle.member.specs.Members.{MemberModel}
use Rattle.channel.specs.declared.stage.Stage.{Stage}
use Rattle.channel.specs.declared.stage.Stage.TheVariants.{Apart, Connected, Ended}
use Rattle.channel.specs.Channels.{ChannelModel}
use Rattle.udp_net.specs.Logs.{Log, Lists, NetEvent}
use Rattle.udp_member.specs.Turns.{Driven}
use Rattle.law_processes.specs.Deployments.{Step, Start, Crash, EachStep, StartsOnce, IsNew, after_steps, nothing_yet, bytes_of, trace_of}
use Rattle.law_processes.specs.Processes.{all_told}
use Rattle.law_runners.specs.Plays.{IsReady, crash_of}
use Rattle.law_runners.specs.KnownOfChannels.{ChannelKnows}
use Rattle.law_runners.specs.Items.{Item, OfMember, Standing, not_begun, stands_after, Follow, IsProcess, net_events, steps_in}
use Rattle.law_runners.specs.Runs.{new_channel, running_in, standing, happened_by, Adds, StandsWith}
use Rattle.law_runners.specs.Merged.{Done, own_items, items_of, IsCarried, AreMerged, RunnersAreSynchronous}
use Rattle.law_runners.specs.Known.{RunnersKnow, RunnersAgree}
use Rattle.law_runners.specs.Systems.{Gone, with_runner, has_ended, PlayedOver, Nothing, Begins, Fails, Turns, Dies, Closes, AllList, IsAgreed, IsSeen, PlayedAreSeen, PlayedAreHistories}
use Rattle.law_runners.proofs.ItemsJoin.{after-then, events-then, follow-then, follow-from, running-from, waiting-from}
use Rattle.law_runners.proofs.ItemsInOrder.{started-not, done_by, own-of, own-other, steps-of, nets-of, trace-of, each-then, starts-none, lists-more}
use Rattle.law_processes.proofs.NewMembers.{new_member, is-new}
use Rattle.law_runners.proofs.ItemsOfCalls.{drives-adds}

-- what lists now listed before
listed-before : (a b : Option Log) (f : Log → Log) → Lists a f b → is_some b ≡ true → is_some a ≡ true
listed-before a None f x e = absurd (let bad : false ≡ true = e in cc)
listed-before None (Some l) f x e = absurd x
listed-before (Some k) (Some l) f x e = refl

-- what it lists more is one list
same-more : (a b : Option Log) (xs ys : List NetEvent) → Lists a (λ l. l ++ xs) b → Lists a (λ l. l ++ ys) b → is_some b ≡ true → xs ≡ ys
same-more a None xs ys x y e = absurd (let bad : false ≡ true = e in cc)
same-more None (Some l) xs ys x y e = absurd x
same-more (Some k) (Some l) xs ys x y e = append_cancel_left k xs ys (sym x ∙ y)

module _ {N S : Type 0} (log : N → Option Log) (failed : N → ℕ) (meaning : Meaning S) (group : List ℕ) where
  abbrev Runners : Type 0
  Runners = Address → Option (Driven N S)

  -- for each address the member with which it will be, while its channel is not connected
  abbrev Choice : Type 0
  Choice = Address → MemberModel S

  abbrev AreNew : Choice → Type 0
  AreNew c = (p : Address) → IsAddress p → IsNew meaning group p (c p)

  -- a runner of its process, all of what its channel told being taken
  record Runs (m : MemberModel S) (p : Address) (own : List (Item S)) (r : Driven N S) : Type 0 where
    real : IsAddress p
    address : r.channel.address ≡ p
    ready : IsReady meaning r.channel.stage
    told : r.channel.happened ≡ []
    running : (stands_after not_begun own).running ≡ running_in m r.channel.stage
    waiting : (stands_after not_begun own).waiting ≡ map bytes_of r.channel.outgoing
    lists : ForSome (log r.net) (λ l. l ≡ net_events own)

  -- the net of an address is in the list
  abbrev IsIn : List (Gone N) → Address → Type 0
  IsIn gone p = (k : ℕ) × (g : Gone N) × (slice_get gone k ≡ Some g) × (g.by ≡ p)

  abbrev IsUsed : Runners → List (Gone N) → Address → List (Item S) → Type 0
  IsUsed at gone p own = at p ≡ None → (net_events own ≡ []) ⊎ IsIn gone p

  record Keeps (c : Choice) (at : Runners) (gone : List (Gone N)) (events : List Event) (nets_seen : List NetEvent) : Type 0 where
    all : List (Done S)
    processes : (p : Address) → IsProcess meaning group p (own_items p all)
    once : EachStep StartsOnce nothing_yet (steps_in (items_of all))
    happened : trace_of (steps_in (items_of all)) ≡ events
    runners : (p : Address) (r : Driven N S) → at p ≡ Some r → Runs (c p) p (own_items p all) r
    started : (p : Address) (r : Driven N S) → at p ≡ Some r → has_started p events ≡ true
    unstarted : (p : Address) → has_started p events ≡ false → own_items p all ≡ []
    closed : (k : ℕ) (g : Gone N) → slice_get gone k ≡ Some g → (at g.by ≡ None) × (has_started g.by events ≡ true)
    nets : (k : ℕ) (g : Gone N) → slice_get gone k ≡ Some g → ForSome (log g.net) (λ l. l ≡ net_events (own_items g.by all))
    used : (p : Address) → IsUsed at gone p (own_items p all)
    order : AllList log at gone → net_events (items_of all) ≡ nets_seen

  -- ---- one process goes on

  -- a net that is gone was so before, and is of another address; or it is that of this one
  abbrev WasGone : Runners → List (Gone N) → Address → List (Item S) → ℕ → Gone N → Type 0
  WasGone at gone p own k g = ((slice_get gone k ≡ Some g) × (same_address g.by p ≡ false)) ⊎ ((g.by ≡ p) × (at p ≡ None) × ForSome (log g.net) (λ l. l ≡ net_events own))

  module _ (c d : Choice) (at new : Runners) (gone less : List (Gone N)) (events more : List Event) (seen added : List NetEvent) (p : Address) (y : Keeps c at gone events seen)
      (items : List (Item S)) where
    abbrev own : List (Item S)
    own = own_items p y.all ++ items

    record Moves : Type 0 where
      agree : (q : Address) → same_address q p ≡ false → c q ≡ d q
      follow : Follow meaning group p (stands_after not_begun (own_items p y.all)) items
      begins : EachStep StartsOnce (after_steps nothing_yet (steps_in (items_of y.all))) (steps_in items)
      does : happened_by items ≡ more
      others : (q : Address) → same_address q p ≡ false → new q ≡ at q
      runs : (r : Driven N S) → new p ≡ Some r → Runs (d p) p own r
      started : has_started p (events ++ more) ≡ true
      was_gone : (k : ℕ) (g : Gone N) → slice_get less k ≡ Some g → WasGone new gone p own k g
      stays_gone : (k : ℕ) (g : Gone N) → slice_get gone k ≡ Some g → slice_get less k ≡ Some g
      used : IsUsed new less p own
      listed : AllList log new less → (r : Driven N S) → at p ≡ Some r → is_some (log r.net) ≡ true
      adds : AllList log new less → net_events items ≡ added

    abbrev all : List (Done S)
    all = y.all ++ done_by p items

    -- what holds of the address's own items, and of those of every other
    each-by : (P : Address → List (Item S) → Type 0) → P p own → ((q : Address) → same_address q p ≡ false → P q (own_items q y.all)) → (q : Address) (b : Bool) → same_address q p ≡ b
        → P q (own_items q all)
    each-by P this other q true same =
        subst (λ (r : Address). P r (own_items r all)) (sym (same_address-true q p same)) (subst (λ (l : List (Item S)). P p l) (sym (own-of p y.all items)) this)
    each-by P this other q false same = subst (λ (l : List (Item S)). P q l) (sym (own-other q p y.all items same)) (other q same)

    each : (P : Address → List (Item S) → Type 0) → P p own → ((q : Address) → same_address q p ≡ false → P q (own_items q y.all)) → (q : Address) → P q (own_items q all)
    each P this other q = each-by P this other q (same_address q p) refl

    started-by : (m : Moves) (q : Address) (b : Bool) → same_address q p ≡ b → (same_address q p ≡ false → has_started q events ≡ true) → has_started q (events ++ more) ≡ true
    started-by m q true same was = subst (λ (r : Address). has_started r (events ++ more) ≡ true) (sym (same_address-true q p same)) m.started
    started-by m q false same was = has_started-stays q events more (was same)

    unstarted-by : (m : Moves) (q : Address) (b : Bool) → same_address q p ≡ b → has_started q (events ++ more) ≡ false → own_items q all ≡ []
    unstarted-by m q true same e =
        absurd (let bad : true ≡ false = sym m.started ∙ sym (ap (λ (r : Address). has_started r (events ++ more)) (same_address-true q p same)) ∙ e in cc)
    unstarted-by m q false same e = own-other q p y.all items same ∙ y.unstarted q (started-not q events more e)

    closed-by : (m : Moves) (k : ℕ) (g : Gone N) → WasGone new gone p own k g → (new g.by ≡ None) × (has_started g.by (events ++ more) ≡ true)
    closed-by m k g (inl x) = (m.others g.by x.1 ∙ (y.closed k g x.0).0, has_started-stays g.by events more (y.closed k g x.0).1)
    closed-by m k g (inr x) = (ap new x.0 ∙ x.1, ap (λ (r : Address). has_started r (events ++ more)) x.0 ∙ m.started)

    nets-by : (k : ℕ) (g : Gone N) → WasGone new gone p own k g → ForSome (log g.net) (λ l. l ≡ net_events (own_items g.by all))
    nets-by k g (inl x) l e = y.nets k g x.0 l e ∙ ap net_events (sym (own-other g.by p y.all items x.1))
    nets-by k g (inr x) l e = x.2 l e ∙ ap net_events (sym (own-of p y.all items)) ∙ ap (λ (r : Address). net_events (own_items r all)) (sym x.0)

    used-by : (m : Moves) (q : Address) → (net_events (own_items q y.all) ≡ []) ⊎ IsIn gone q → (net_events (own_items q y.all) ≡ []) ⊎ IsIn less q
    used-by m q (inl x) = inl x
    used-by m q (inr x) = inr (x.0, x.1, m.stays_gone x.0 x.1 x.2, x.3)

    listed-by : (m : Moves) → AllList log new less → (q : Address) (r : Driven N S) (b : Bool) → same_address q p ≡ b → at q ≡ Some r → is_some (log r.net) ≡ true
    listed-by m a q r true same e = m.listed a r (ap at (sym (same_address-true q p same)) ∙ e)
    listed-by m a q r false same e = a.runners q r (m.others q same ∙ e)

    all-listed : Moves → AllList log new less → AllList log at gone
    all-listed m a = record { runners = λ q r e. listed-by m a q r (same_address q p) refl e; nets = λ k g e. a.nets k g (m.stays_gone k g e) }

    moves-keep : Moves → Keeps d new less (events ++ more) (seen ++ added)
    moves-keep m = record {
      all = all;
      processes = each (λ q l. IsProcess meaning group q l) (follow-then meaning group p not_begun (own_items p y.all) items (y.processes p) m.follow) (λ q other. y.processes q);
      once = subst (λ (l : List (Step S)). EachStep StartsOnce nothing_yet l) (sym (steps-of p y.all items))
          (each-then StartsOnce nothing_yet (steps_in (items_of y.all)) (steps_in items) y.once m.begins);
      happened = trace-of p y.all items ∙ ap (λ (l : List Event). l ++ happened_by items) y.happened ∙ ap (λ (l : List Event). events ++ l) m.does;
      runners = λ q r e. each (λ a l. new a ≡ Some r → Runs (d a) a l r) (m.runs r)
          (λ a other is. subst (λ (n : MemberModel S). Runs n a (own_items a y.all) r) (m.agree a other) (y.runners a r (sym (m.others a other) ∙ is))) q e;
      started = λ q r e. started-by m q (same_address q p) refl (λ other. y.started q r (sym (m.others q other) ∙ e));
      unstarted = λ q e. unstarted-by m q (same_address q p) refl e;
      closed = λ k g e. closed-by m k g (m.was_gone k g e);
      nets = λ k g e. nets-by k g (m.was_gone k g e);
      used = each (λ q l. IsUsed new less q l) m.used (λ q other is. used-by m q (y.used q (sym (m.others q other) ∙ is)));
      order = λ a. nets-of p y.all items ∙ ap (λ (l : List NetEvent). l ++ net_events items) (y.order (all-listed m a)) ∙ ap (λ (l : List NetEvent). seen ++ l) (m.adds a);
    }

  -- ---- the runners that there are

  module _ (p : Address) (o : Option (Driven N S)) (at : Runners) where
    at-this : with_runner p o at p ≡ o
    at-this = ap (λ b. cond b o (at p)) (same_address-refl p)

    at-other : (q : Address) → same_address q p ≡ false → with_runner p o at q ≡ at q
    at-other q other = ap (λ b. cond b o (at q)) other

  other-than : (p q : Address) (b : Bool) → same_address q p ≡ b → (q ≡ p → ⊥) → same_address q p ≡ false
  other-than p q true same differs = absurd (differs (same_address-true q p same))
  other-than p q false same differs = same

  -- ---- a start

  module _ (c : Choice) (new : AreNew c) (at : Runners) (gone : List (Gone N)) (events : List Event) (seen : List NetEvent) (p : Address) (y : Keeps c at gone events seen)
      (real : IsAddress p) (unstarted : has_started p events ≡ false) where
    none-own : own_items p y.all ≡ []
    none-own = y.unstarted p unstarted

    not-gone : (k : ℕ) (g : Gone N) → slice_get gone k ≡ Some g → same_address g.by p ≡ false
    not-gone k g e =
        other-than p g.by (same_address g.by p) refl
        (λ same. let bad : true ≡ false = sym (y.closed k g e).1 ∙ ap (λ (q : Address). has_started q events) same ∙ unstarted in cc)

    starts-once : has_started p (after_steps nothing_yet (steps_in (items_of y.all))).trace ≡ false
    starts-once = ap (λ (l : List Event). has_started p l) y.happened ∙ unstarted

    behind-none : (items : List (Item S)) → own_items p y.all ++ items ≡ items
    behind-none items = ap (λ (l : List (Item S)). l ++ items) none-own

    new-runs : (r : Driven N S) → r.channel ≡ new_channel meaning p → ForSome (log r.net) (λ l. l ≡ []) → Runs (c p) p (OfMember (Start p (c p)) ∷ []) r
    new-runs r fresh lists = record {
      real = real;
      address = ap (λ (k : ChannelModel S). k.address) fresh;
      ready = subst (λ (k : ChannelModel S). IsReady meaning k.stage) (sym fresh) refl;
      told = ap (λ (k : ChannelModel S). k.happened) fresh;
      running = sym (ap (λ (k : ChannelModel S). running_in (c p) k.stage) fresh);
      waiting = sym (ap (λ (k : ChannelModel S). map bytes_of k.outgoing) fresh);
      lists = lists;
    }

    begins-keeps : (r : Driven N S) → r.channel ≡ new_channel meaning p → ForSome (log r.net) (λ l. l ≡ []) → Keeps c (with_runner p (Some r) at) gone (events ++ Started p ∷ []) (seen ++ [])
    begins-keeps r fresh lists = let items : List (Item S) = OfMember (Start p (c p)) ∷ [] in
        moves-keep c c at (with_runner p (Some r) at) gone gone events (Started p ∷ []) seen [] p y items (record {
          agree = λ q other. refl;
          follow = subst (λ (l : List (Item S)). Follow meaning group p (stands_after not_begun l) items) (sym none-own) ((refl, new p real, tt), tt);
          begins = (starts-once, tt);
          does = refl;
          others = at-other p (Some r) at;
          runs = λ k e. subst (λ (l : List (Item S)). Runs (c p) p l k) (sym (behind-none items))
              (subst (λ (k : Driven N S). Runs (c p) p items k) (same_Some r k (sym (at-this p (Some r) at) ∙ e)) (new-runs r fresh lists));
          started = has_started-now p events;
          was_gone = λ k g e. inl (e, not-gone k g e);
          stays_gone = λ k g e. e;
          used = λ e. absurd (none-some r (sym e ∙ at-this p (Some r) at));
          listed = λ a k e. absurd (let bad : true ≡ false = sym (y.started p k e) ∙ unstarted in cc);
          adds = λ a. refl;
        })

    fails-keeps : Keeps c at gone (events ++ Started p ∷ Crashed p ∷ []) (seen ++ [])
    fails-keeps = let items : List (Item S) = OfMember (Start p (c p)) ∷ OfMember (Crash p) ∷ [] in
        moves-keep c c at at gone gone events (Started p ∷ Crashed p ∷ []) seen [] p y items (record {
          agree = λ q other. refl;
          follow = subst (λ (l : List (Item S)). Follow meaning group p (stands_after not_begun l) items) (sym none-own) ((refl, new p real, tt), ((refl, refl, tt), tt));
          begins = (starts-once, (tt, tt));
          does = refl;
          others = λ q other. refl;
          runs = λ r e. absurd (let bad : true ≡ false = sym (y.started p r e) ∙ unstarted in cc);
          started = ap (λ (l : List Event). has_started p l) (sym (append_assoc events (Started p ∷ []) (Crashed p ∷ [])))
              ∙ has_started-stays p (events ++ Started p ∷ []) (Crashed p ∷ []) (has_started-now p events);
          was_gone = λ k g e. inl (e, not-gone k g e);
          stays_gone = λ k g e. e;
          used = λ e. inl (ap net_events (behind-none items));
          listed = λ a r e. a.runners p r e;
          adds = λ a. refl;
        })

  -- ---- a runner goes on

  abbrev with_choice : Address → MemberModel S → Choice → Choice
  with_choice p m c q = cond (same_address q p) m (c q)

  with-new : (c : Choice) → AreNew c → (p : Address) (m : MemberModel S) → IsNew meaning group p m → AreNew (with_choice p m c)
  with-new c new p m fresh q real = by (same_address q p) refl
    where
      by : (b : Bool) → same_address q p ≡ b → IsNew meaning group q (cond b m (c q))
      by true same = subst (λ (r : Address). IsNew meaning group r m) (sym (same_address-true q p same)) fresh
      by false same = new q real

  -- a net of another is not that of a runner that there is
  still-gone : (c : Choice) (at : Runners) (gone : List (Gone N)) (events : List Event) (seen : List NetEvent) (p : Address) (y : Keeps c at gone events seen) (r : Driven N S) → at p ≡ Some r
      → (k : ℕ) (g : Gone N) → slice_get gone k ≡ Some g → same_address g.by p ≡ false
  still-gone c at gone events seen p y r there k g e =
      other-than p g.by (same_address g.by p) refl (λ same. none-some r (sym (y.closed k g e).0 ∙ ap at same ∙ there))

  module _ (c : Choice) (new : AreNew c) (at : Runners) (gone : List (Gone N)) (events : List Event) (seen : List NetEvent) (p : Address) (old : Driven N S) (taken : List Event)
      (fell : Bool) (now : Driven N S) (more : List NetEvent) (lists_so : Lists (log old.net) (λ l. l ++ more) (log now.net)) (real : IsAddress p) (address : old.channel.address ≡ p) (there : at p ≡ Some old) (told : now.channel.happened ≡ []) (x : Adds log meaning group old taken fell now) where
    abbrev m : MemberModel S
    m = x.before (c p)

    -- what `Adds` asks of the member
    new-old : IsNew meaning group old.channel.address (c p)
    new-old = subst (λ (q : Address). IsNew meaning group q (c p)) (sym address) (new p real)

    new-before : IsNew meaning group p m
    new-before = subst (λ (q : Address). IsNew meaning group q m) address (x.is_new (c p) new-old)

    abbrev d : Choice
    d = with_choice p m c

    d-new : AreNew d
    d-new = with-new c new p m new-before

    d-this : d p ≡ m
    d-this = ap (λ b. cond b m (c p)) (same_address-refl p)

    module _ (y : Keeps d at gone events seen) where
      abbrev before : List (Item S)
      before = own_items p y.all

      was : Runs m p before old
      was = subst (λ (n : MemberModel S). Runs n p before old) d-this (y.runners p old there)

      now-runs : Runs (c p) p (before ++ x.items) now
      now-runs = record {
        real = real;
        address = x.address ∙ address;
        ready = x.ready;
        told = told;
        running = ap (λ (s : Standing S). s.running) (after-then not_begun before x.items)
            ∙ running-from (stands_after not_begun before) (running_in m old.channel.stage) (map bytes_of old.channel.outgoing) x.items was.running was.waiting ∙ x.running (c p) new-old;
        waiting = ap (λ (s : Standing S). s.waiting) (after-then not_begun before x.items)
            ∙ waiting-from (stands_after not_begun before) (running_in m old.channel.stage) (map bytes_of old.channel.outgoing) x.items was.running was.waiting ∙ x.waiting m;
        lists = λ l e. lists-more (log old.net) (log now.net) (net_events before) (net_events x.items) was.lists x.lists l e ∙ sym (events-then before x.items);
      }

      goes-does : happened_by x.items ≡ taken ++ crash_of p fell
      goes-does =
          let all_taken : taken ≡ all_told (steps_in x.items) =
          sym (append-nil taken) ∙ ap (λ (l : List Event). taken ++ l) (sym told) ∙ x.tells ∙ ap (λ (l : List Event). l ++ all_told (steps_in x.items)) was.told in
          x.happens ∙ ap (λ (l : List Event). l ++ crash_of old.channel.address fell) (sym all_taken) ∙ ap (λ (q : Address). taken ++ crash_of q fell) address

      now-lists : AllList log (with_runner p (Some now) at) gone → is_some (log now.net) ≡ true
      now-lists a = a.runners p now (at-this p (Some now) at)

      goes-keeps : Keeps c (with_runner p (Some now) at) gone (events ++ (taken ++ crash_of p fell)) (seen ++ more)
      goes-keeps = moves-keep d c at (with_runner p (Some now) at) gone gone events (taken ++ crash_of p fell) seen more p y x.items (record {
        agree = λ q other. ap (λ b. cond b m (c q)) other;
        follow = follow-from meaning group p (stands_after not_begun before) (running_in m old.channel.stage) (map bytes_of old.channel.outgoing) x.items was.running was.waiting
            (subst (λ (q : Address). Follow meaning group q (standing m old) x.items) address (x.follow (c p) new-old));
        begins = starts-none (after_steps nothing_yet (steps_in (items_of y.all))) (steps_in x.items) x.no_start;
        does = goes-does;
        others = at-other p (Some now) at;
        runs = λ r e. subst (λ (k : Driven N S). Runs (c p) p (before ++ x.items) k) (same_Some now r (sym (at-this p (Some now) at) ∙ e)) now-runs;
        started = has_started-stays p events (taken ++ crash_of p fell) (y.started p old there);
        was_gone = λ k g e. inl (e, still-gone d at gone events seen p y old there k g e);
        stays_gone = λ k g e. e;
        used = λ e. absurd (none-some now (sym e ∙ at-this p (Some now) at));
        listed = λ a r e. subst (λ (k : Driven N S). is_some (log k.net) ≡ true) (same_Some old r (sym there ∙ e)) (listed-before (log old.net) (log now.net) _ x.lists (now-lists a));
        adds = λ a. same-more (log old.net) (log now.net) (net_events x.items) more x.lists lists_so (now-lists a);
      })

      turns-keep : Keeps c (with_runner p (Some now) at) gone (events ++ taken ++ crash_of p fell) (seen ++ more)
      turns-keep = subst (λ (l : List Event). Keeps c (with_runner p (Some now) at) gone l (seen ++ more)) (sym (append_assoc events taken (crash_of p fell))) goes-keeps

  -- ---- a runner is let go, killed before or not

  runs-some : (m : MemberModel S) (s : Stage S) → has_ended s ≡ false → is_some (running_in m s) ≡ true
  runs-some m (Apart s) e = refl
  runs-some m (Connected n) e = refl
  runs-some m Ended e = absurd (let bad : true ≡ false = e in cc)

  module _ (c : Choice) (at : Runners) (gone : List (Gone N)) (events : List Event) (seen : List NetEvent) (p : Address) (r : Driven N S) (there : at p ≡ Some r) (y : Keeps c at gone events seen) where
    abbrev left : Gone N
    left = record { by = p; net = r.net }

    goes-with : (more : List Event) (items : List (Item S)) → Follow meaning group p (stands_after not_begun (own_items p y.all)) items
        → EachStep StartsOnce (after_steps nothing_yet (steps_in (items_of y.all))) (steps_in items) → happened_by items ≡ more → net_events items ≡ []
        → Keeps c (with_runner p None at) (gone ++ left ∷ []) (events ++ more) (seen ++ [])
    goes-with more items follow begins does silent =
        let done = own_items p y.all ++ items in
        let same : net_events done ≡ net_events (own_items p y.all) = events-then (own_items p y.all) items ∙ ap (λ l. net_events (own_items p y.all) ++ l) silent
        ∙ append-nil (net_events (own_items p y.all)) in
        moves-keep c c at (with_runner p None at) gone (gone ++ left ∷ []) events more seen [] p y items (record {
          agree = λ q other. refl;
          follow = follow;
          begins = begins;
          does = does;
          others = at-other p None at;
          runs = λ k e. absurd (none-some k (sym (at-this p None at) ∙ e));
          started = has_started-stays p events more (y.started p r there);
          was_gone = λ k g e. gone-by k g done (λ l is. (y.runners p r there).lists l is ∙ sym same) (slice_get-push gone left k g e);
          stays_gone = λ k g e. slice_get-before gone (left ∷ []) k g e;
          used = λ e. inr (length gone, left, slice_get-last gone left, refl);
          listed = λ a k e. subst (λ (z : Driven N S). is_some (log z.net) ≡ true) (same_Some r k (sym there ∙ e)) (a.nets (length gone) left (slice_get-last gone left));
          adds = λ a. silent;
        })
      where
        gone-by : (k : ℕ) (g : Gone N) (done : List (Item S)) → ForSome (log r.net) (λ l. l ≡ net_events done) → (slice_get gone k ≡ Some g) ⊎ ((k ≡ length gone) × (left ≡ g))
            → WasGone (with_runner p None at) gone p done k g
        gone-by k g done lists (inl e) = inl (e, still-gone c at gone events seen p y r there k g e)
        gone-by k g done lists (inr e) =
            inr (ap (λ (o : Gone N). o.by) (sym e.1), at-this p None at, subst (λ (o : Gone N). ForSome (log o.net) (λ l. l ≡ net_events done)) e.1 lists)

    dies-keeps : has_ended r.channel.stage ≡ false → Keeps c (with_runner p None at) (gone ++ left ∷ []) (events ++ Crashed p ∷ []) (seen ++ [])
    dies-keeps runs =
        goes-with (Crashed p ∷ []) (OfMember (Crash p) ∷ [])
        ((refl, ap (λ (o : Option (MemberModel S)). is_some o) (y.runners p r there).running ∙ runs-some (c p) r.channel.stage runs, tt), tt) (tt, tt) refl refl

    closes-keeps : Keeps c (with_runner p None at) (gone ++ left ∷ []) events (seen ++ [])
    closes-keeps = subst (λ (l : List Event). Keeps c (with_runner p None at) (gone ++ left ∷ []) l (seen ++ [])) (append-nil events) (goes-with [] [] tt tt refl refl)

  -- ---- all of it

  nothing-keeps : (c : Choice) → Keeps c (λ p. None) [] [] []
  nothing-keeps c = record {
    all = [];
    processes = λ p. tt;
    once = tt;
    happened = refl;
    runners = λ p r e. absurd (none-some r e);
    started = λ p r e. absurd (none-some r e);
    unstarted = λ p e. refl;
    closed = λ k g e. absurd (none-some g e);
    nets = λ k g e. absurd (none-some g e);
    used = λ p e. inl refl;
    order = λ a. refl;
  }

  -- nothing more was seen at the nets
  none-seen : (c : Choice) (at : Runners) (gone : List (Gone N)) (events : List Event) (seen : List NetEvent) → Keeps c at gone events (seen ++ []) → Keeps c at gone events seen
  none-seen c at gone events seen y = subst (λ (l : List NetEvent). Keeps c at gone events l) (append-nil seen) y

  keeps : (at : Runners) (gone : List (Gone N)) (events : List Event) (seen : List NetEvent) → PlayedOver log failed meaning group at gone events seen → (c : Choice) → AreNew c
      → Keeps c at gone events seen
  keeps _ _ _ _ Nothing c new = nothing-keeps c
  keeps _ _ _ _ (Begins at gone events seen p r so real unstarted fresh lists) c new =
      none-seen c (with_runner p (Some r) at) gone (events ++ Started p ∷ []) seen
      (begins-keeps c new at gone events seen p (keeps at gone events seen so c new) real unstarted r fresh lists)
  keeps _ _ _ _ (Fails at gone events seen p so real unstarted) c new =
      none-seen c at gone (events ++ Started p ∷ Crashed p ∷ []) seen (fails-keeps c new at gone events seen p (keeps at gone events seen so c new) real unstarted)
  keeps _ _ _ _ (Turns at gone events seen p old taken fell now more so there drives told lists_so) c new =
      let r = (keeps at gone events seen so c new).runners p old there in
      let x = drives-adds log failed meaning group old taken fell now (subst IsAddress (sym r.address) r.real) r.ready drives in
      turns-keep c new at gone events seen p old taken fell now more lists_so r.real r.address there told x
      (keeps at gone events seen so (d c new at gone events seen p old taken fell now more lists_so r.real r.address there told x)
      (d-new c new at gone events seen p old taken fell now more lists_so r.real r.address there told x))
  keeps _ _ _ _ (Dies at gone events seen p r so there runs) c new =
      none-seen c (with_runner p None at) (gone ++ record { by = p; net = r.net } ∷ []) (events ++ Crashed p ∷ []) seen
      (dies-keeps c at gone events seen p r there (keeps at gone events seen so c new) runs)
  keeps _ _ _ _ (Closes at gone events seen p r so there) c new =
      none-seen c (with_runner p None at) (gone ++ record { by = p; net = r.net } ∷ []) events seen (closes-keeps c at gone events seen p r there (keeps at gone events seen so c new))

  -- ---- what comes of it

  stands : (at : Runners) (gone : List (Gone N)) (events : List Event) (seen : List NetEvent) (y : Keeps (new_member meaning group) at gone events seen) (p : Address) (r : Driven N S) → at p ≡ Some r
      → StandsWith meaning group p (own_items p y.all) r.channel.stage
  stands at gone events seen y p r e = let x = y.runners p r e in record { member = new_member meaning group p; is_new = is-new meaning group p x.real; ready = x.ready; running = x.running }

  is-agreed : RunnersAreSynchronous meaning → RunnersAgree meaning → RunnersKnow meaning → (at : Runners) (gone : List (Gone N)) (events : List Event) (seen : List NetEvent)
      (y : Keeps (new_member meaning group) at gone events seen) → IsCarried group (net_events (items_of y.all)) → IsAgreed meaning at events
  is-agreed law agree know at gone events seen y carried =
      let merged : AreMerged meaning group y.all = record { processes = y.processes; network = carried; once = y.once } in
      record {
        synchronous = subst (λ (l : List Event). IsVirtuallySynchronous meaning l) y.happened (law group y.all merged);
        agreeing = subst (λ (l : List Event). EachPlace (ReplicasAgree meaning) l) y.happened (agree group y.all merged);
        known = λ p r e. subst (λ (l : List Event). ChannelKnows meaning l p r.channel.stage) y.happened (know group y.all merged p r.channel.stage (stands at gone events seen y p r e));
      }

  is-history : RunnersAreSynchronous meaning → RunnersAgree meaning → RunnersKnow meaning → (at : Runners) (gone : List (Gone N)) (events : List Event) (seen : List NetEvent)
      → Keeps (new_member meaning group) at gone events seen → IsSeen log meaning group at gone events seen
  is-history law agree know at gone events seen y = record {
    history = record {
      all = y.all;
      processes = y.processes;
      once = y.once;
      happened = y.happened;
      runners = λ p r e. record { stands = stands at gone events seen y p r e; lists = (y.runners p r e).lists };
      nets = y.nets;
      used = y.used;
      agreed = is-agreed law agree know at gone events seen y;
    };
    order = y.order;
    agreed = λ a carried. is-agreed law agree know at gone events seen y (subst (λ (l : List NetEvent). IsCarried group l) (sym (y.order a)) carried);
  }

pub played-seen : {N S : Type 0} (log : N → Option Log) (failed : N → ℕ) (meaning : Meaning S) → RunnersAreSynchronous meaning → RunnersAgree meaning → RunnersKnow meaning
    → PlayedAreSeen log failed meaning
played-seen log failed meaning law agree know group at gone events seen played =
    is-history log failed meaning group law agree know at gone events seen (keeps log failed meaning group at gone events seen played (new_member meaning group) (is-new meaning group))

pub played-are : {N S : Type 0} (log : N → Option Log) (failed : N → ℕ) (meaning : Meaning S) → PlayedAreSeen log failed meaning → PlayedAreHistories log failed meaning
played-are log failed meaning see group at gone events (seen, played) = (see group at gone events seen played).history

-- a runner that there is has an address, is ready, and all that its channel told is taken
pub runner-is : {N S : Type 0} (log : N → Option Log) (failed : N → ℕ) (meaning : Meaning S) (group : List ℕ) (at : Address → Option (Driven N S)) (gone : List (Gone N)) (events : List Event)
    (seen : List NetEvent) → PlayedOver log failed meaning group at gone events seen → (p : Address) (r : Driven N S) → at p ≡ Some r
    → IsAddress r.channel.address × IsReady meaning r.channel.stage × (r.channel.happened ≡ [])
runner-is log failed meaning group at gone events seen played p r there =
    let x = (keeps log failed meaning group at gone events seen played (new_member meaning group) (is-new meaning group)).runners p r there in
    (subst IsAddress (sym x.address) x.real, x.ready, x.told)

-- its process stands with its channel
pub record Stands {N S : Type 0} (meaning : Meaning S) (group : List ℕ) (p : Address) (r : Driven N S) : Type 0 where
  pub own : List (Item S)
  pub process : IsProcess meaning group p own
  pub running : (stands_after not_begun own).running ≡ running_in (new_member meaning group p) r.channel.stage
  pub address : r.channel.address ≡ p

pub runner-stands : {N S : Type 0} (log : N → Option Log) (failed : N → ℕ) (meaning : Meaning S) (group : List ℕ) (at : Address → Option (Driven N S)) (gone : List (Gone N))
    (events : List Event) (seen : List NetEvent) → PlayedOver log failed meaning group at gone events seen → (p : Address) (r : Driven N S) → at p ≡ Some r → Stands meaning group p r
runner-stands log failed meaning group at gone events seen played p r there =
    let y = keeps log failed meaning group at gone events seen played (new_member meaning group) (is-new meaning group) in
    let x = y.runners p r there in
    record { own = own_items p y.all; process = y.processes p; running = x.running; address = x.address }
