-- Processes in one order are a history of a deployment: what a member is handed was put out before.
use Rattle.std.proofs.Common.{◌≡◌, ℕ, zero, suc, Bool, true, false, cond, Option, Some, List, [], ◌∷◌, ◌++◌, drop, take, refl, sym, ap, ◌∙◌, subst, inl, inr}
use Rattle.std.specs.Prelude.{slice_get, IfSome}
use Rattle.std.proofs.lemmas.Option.{none-some, same_Some}
use Rattle.std.proofs.lemmas.List.{append-nil, append_assoc}
use Rattle.address.specs.Ids.{Address, same_address}
use Rattle.address.proofs.SameIds.{same_address-refl, same_address-true}
use Rattle.state_transfer.specs.Meanings.{Meaning}
use Rattle.trace_props.proofs.RulesAlongLists.{slice_get-before}
use Rattle.member.specs.declared.input.Input.{Input}
use Rattle.member.specs.declared.input.Input.TheVariants as input
use Rattle.member.specs.Members.{MemberModel}
use Rattle.udp_net.specs.declared.net.Received.{Received}
use Rattle.udp_net.specs.declared.net.Received.TheVariants as received
use Rattle.udp_net.specs.Logs.{NetEvent, Answered, Offered, Offer}
use Rattle.law_processes.specs.Deployments.{Step, Start, Call, Crash, Deployment, nothing_yet, whose, left_with, puts_of, after, after_steps, EachStep, DoesSo, WasPutOut, MayCome, MayBeHanded, HandsOver, IsHistory}
use Rattle.law_processes.specs.Processes.{StepsSo}
use Rattle.law_processes.specs.Law.{AreSynchronous, TellAll}
use Rattle.law_processes.proofs.ProcessesInOrder.{does-so}
use Rattle.law_runners.specs.Items.{Item, OfNet, OfMember, Standing, not_begun, given_by, then_stands, stands_after, datagram_in, datagram_of, MayFollow, Follow, IsProcess, net_events, steps_in}
use Rattle.law_runners.specs.Merged.{Done, own_items, items_of, all_offered, AreMerged, RunnersAreSynchronous, RunnersTellAll}

-- ---- what was put out before

-- each of these datagrams was put out
abbrev pub EachPutOut : List (List ℕ) → List (List ℕ) → Type 0
EachPutOut offered these = (k : ℕ) (bytes : List ℕ) → slice_get these k ≡ Some bytes → WasPutOut offered bytes

was-more : (offered more : List (List ℕ)) (bytes : List ℕ) → WasPutOut offered bytes → WasPutOut (offered ++ more) bytes
was-more offered more bytes w = (w.0, slice_get-before offered more w.0 bytes w.1)

may-more : (group : List ℕ) (offered more : List (List ℕ)) (bytes : List ℕ) → MayCome group offered bytes → MayCome group (offered ++ more) bytes
may-more group offered more bytes (inl w) = inl (was-more offered more bytes w)
may-more group offered more bytes (inr other) = inr other

may-as : (group : List ℕ) (offered these : List (List ℕ)) (bytes : List ℕ) → EachPutOut offered these → MayCome group these bytes → MayCome group offered bytes
may-as group offered these bytes each (inl w) = inl (each w.0 bytes w.1)
may-as group offered these bytes each (inr other) = inr other

each-more : (offered more these : List (List ℕ)) → EachPutOut offered these → EachPutOut (offered ++ more) these
each-more offered more these each k bytes at = was-more offered more bytes (each k bytes at)

was-front : (x : List ℕ) (offered : List (List ℕ)) (bytes : List ℕ) → WasPutOut offered bytes → WasPutOut (x ∷ offered) bytes
was-front x offered bytes w = (suc w.0, w.1)

was-behind : (offered more : List (List ℕ)) (bytes : List ℕ) → WasPutOut more bytes → WasPutOut (offered ++ more) bytes
was-behind [] more bytes w = w
was-behind (x ∷ offered) more bytes w = was-front x (offered ++ more) bytes (was-behind offered more bytes w)

each-both : (offered these more : List (List ℕ)) → EachPutOut offered these → EachPutOut offered more → EachPutOut offered (these ++ more)
each-both offered [] more x y k bytes at = y k bytes at
each-both offered (b ∷ these) more x y zero bytes at = x zero bytes at
each-both offered (b ∷ these) more x y (suc k) bytes at = each-both offered these more (λ j c there. x (suc j) c there) y k bytes at

each-own : (offered more : List (List ℕ)) → EachPutOut (offered ++ more) more
each-own offered more k bytes at = was-behind offered more bytes (k, at)

each-drop : (offered these : List (List ℕ)) → EachPutOut offered these → EachPutOut offered (drop 1 these)
each-drop offered [] x k bytes at = absurd (none-some bytes at)
each-drop offered (b ∷ these) x k bytes at = x (suc k) bytes at

-- ---- where processes stand in one order

module _ {S : Type 0} (meaning : Meaning S) (group : List ℕ) where
  -- each address's process, from where it stands
  abbrev EachFollows : (Address → Standing S) → List (Done S) → Type 0
  EachFollows at all = (p : Address) → Follow meaning group p (at p) (own_items p all)

  abbrev with_standing : Address → Standing S → (Address → Standing S) → Address → Standing S
  with_standing q s at p = cond (same_address p q) s (at p)

  -- what holds at a place of the order: the members that run are those of the processes; what waits, what the nets gave, and what they were offered was put out
  record Stands (at : Address → Standing S) (d : Deployment S) (offered : List (List ℕ)) : Type 0 where
    members : (p : Address) → d.members p ≡ (at p).running
    waiting : (p : Address) → EachPutOut d.offered (at p).waiting
    given : (p : Address) (bytes : List ℕ) → (at p).given ≡ Some bytes → MayCome group d.offered bytes
    offers : EachPutOut d.offered offered

  when-own : (b : Bool) (p : Address) (s : Standing S) (i : Item S) (own : List (Item S)) → b ≡ true → Follow meaning group p s (cond b (i ∷ own) own)
      → MayFollow meaning group p s i × Follow meaning group p (then_stands s i) own
  when-own true p s i own e f = f
  when-own false p s i own e f = absurd (let bad : false ≡ true = e in cc)

  first : (at : Address → Standing S) (x : Done S) (all : List (Done S)) → EachFollows at (x ∷ all)
      → MayFollow meaning group x.by (at x.by) x.item × Follow meaning group x.by (then_stands (at x.by) x.item) (own_items x.by all)
  first at x all f = when-own (same_address x.by x.by) x.by (at x.by) x.item (own_items x.by all) (same_address-refl x.by) (f x.by)

  rest-by : (b : Bool) (p q : Address) (s t : Standing S) (i : Item S) (all : List (Done S)) → same_address p q ≡ b → Follow meaning group q t (own_items q all)
      → Follow meaning group p s (cond b (i ∷ own_items p all) (own_items p all)) → Follow meaning group p (cond b t s) (own_items p all)
  rest-by true p q s t i all same own f = subst (λ (r : Address). Follow meaning group r t (own_items r all)) (sym (same_address-true p q same)) own
  rest-by false p q s t i all same own f = f

  rest : (at : Address → Standing S) (x : Done S) (all : List (Done S)) → EachFollows at (x ∷ all) → EachFollows (with_standing x.by (then_stands (at x.by) x.item) at) all
  rest at x all f p =
      rest-by (same_address p x.by) p x.by (at p) (then_stands (at x.by) x.item) x.item all refl (first at x all f).1 (f p)

  -- what holds of each but one, and of that one too
  at-each : (P : Standing S → Type 0) (b : Bool) (s t : Standing S) → P t → P s → P (cond b t s)
  at-each P true s t now was = now
  at-each P false s t now was = was

  -- ---- one item more

  module _ (at : Address → Standing S) (d : Deployment S) (offered : List (List ℕ)) (q : Address) (x : Stands at d offered) where
    member-is : (b : Bool) (p : Address) (t : Standing S) → same_address p q ≡ b → t.running ≡ (at q).running → d.members p ≡ (cond b t (at p)).running
    member-is true p t same e = ap d.members (same_address-true p q same) ∙ x.members q ∙ sym e
    member-is false p t same e = x.members p

    answered : (answer : Received) → ((bytes : List ℕ) → given_by answer ≡ Some bytes → MayCome group d.offered bytes)
        → Stands (with_standing q (then_stands (at q) (OfNet (Answered answer))) at) d offered
    answered answer may = record {
      members = λ p. member-is (same_address p q) p (then_stands (at q) (OfNet (Answered answer))) refl refl;
      waiting = λ p. at-each (λ s. EachPutOut d.offered s.waiting) (same_address p q) (at p) (then_stands (at q) (OfNet (Answered answer))) (x.waiting q) (x.waiting p);
      given = λ p. at-each (λ s. (bytes : List ℕ) → s.given ≡ Some bytes → MayCome group d.offered bytes) (same_address p q) (at p) (then_stands (at q) (OfNet (Answered answer))) may (x.given p);
      offers = x.offers;
    }

    was-offered : (offer : Offer) → slice_get (at q).waiting 0 ≡ Some offer.bytes → Stands (with_standing q (then_stands (at q) (OfNet (Offered offer))) at) d (offered ++ offer.bytes ∷ [])
    was-offered offer waits = record {
      members = λ p. member-is (same_address p q) p (then_stands (at q) (OfNet (Offered offer))) refl refl;
      waiting = λ p. at-each (λ s. EachPutOut d.offered s.waiting) (same_address p q) (at p) (then_stands (at q) (OfNet (Offered offer))) (each-drop d.offered (at q).waiting (x.waiting q)) (x.waiting p);
      given = λ p. at-each (λ s. (bytes : List ℕ) → s.given ≡ Some bytes → MayCome group d.offered bytes) (same_address p q) (at p) (then_stands (at q) (OfNet (Offered offer)))
          (λ bytes e. absurd (none-some bytes e)) (x.given p);
      offers = each-both d.offered offered (offer.bytes ∷ []) x.offers (one offer.bytes (x.waiting q zero offer.bytes waits));
    }
      where
        one : (bytes : List ℕ) → WasPutOut d.offered bytes → EachPutOut d.offered (bytes ∷ [])
        one bytes w zero c e = subst (WasPutOut d.offered) (same_Some bytes c e) w
        one bytes w (suc k) c e = absurd (none-some c e)

    stepped-by : (b : Bool) (p : Address) (step : Step S) → whose step ≡ q → same_address p q ≡ b
        → (cond (same_address p (whose step)) (left_with step) (d.members p)) ≡ (cond b (then_stands (at q) (OfMember step)) (at p)).running
    stepped-by b p step own same = rw (own, same) (by b)
      where
        by : (c : Bool) → cond c (left_with step) (d.members p) ≡ (cond c (then_stands (at q) (OfMember step)) (at p)).running
        by true = refl
        by false = x.members p

    stepped : (step : Step S) → whose step ≡ q → Stands (with_standing q (then_stands (at q) (OfMember step)) at) (after d step) offered
    stepped step own = record {
      members = λ p. stepped-by (same_address p q) p step own refl;
      waiting = λ p. at-each (λ s. EachPutOut (d.offered ++ puts_of step) s.waiting) (same_address p q) (at p) (then_stands (at q) (OfMember step))
          (each-both (d.offered ++ puts_of step) (at q).waiting (puts_of step) (each-more d.offered (puts_of step) (at q).waiting (x.waiting q)) (each-own d.offered (puts_of step)))
          (each-more d.offered (puts_of step) (at p).waiting (x.waiting p));
      given = λ p. at-each (λ s. (bytes : List ℕ) → s.given ≡ Some bytes → MayCome group (d.offered ++ puts_of step) bytes) (same_address p q) (at p) (then_stands (at q) (OfMember step))
          (λ bytes e. absurd (none-some bytes e)) (λ bytes e. may-more group d.offered (puts_of step) bytes (x.given p bytes e));
      offers = each-more d.offered (puts_of step) offered x.offers;
    }

    -- a datagram that it hands in may come
    handed : (i : Input) → IfSome (datagram_in i) (λ bytes. (at q).given ≡ Some bytes) → MayBeHanded group d.offered i
    handed input.Create e = tt
    handed (input.Join contact) e = tt
    handed (input.Send payload) e = tt
    handed (input.Datagram bytes) e = x.given q bytes.now e
    handed input.Tick e = tt
    handed (input.Suspect p) e = tt
    handed (input.MergeHint p) e = tt
    handed input.Leave e = tt

    hands-over : (step : Step S) → IfSome (datagram_of step) (λ bytes. (at q).given ≡ Some bytes) → HandsOver group d step
    hands-over (Start p m) e = tt
    hands-over (Call p i result left) e = handed i e
    hands-over (Crash p) e = tt

    does : (step : Step S) → whose step ≡ q → StepsSo meaning group (at q).running step → DoesSo meaning group d step
    does step own so =
        does-so meaning group d step (subst (λ (o : Option (MemberModel S)). StepsSo meaning group o step) (sym (x.members q) ∙ ap d.members (sym own)) so)

  -- ---- all of them

  -- what the network may give, after these were offered
  abbrev CarriedAfter : List (List ℕ) → List NetEvent → Type 0
  CarriedAfter offered events = (k : ℕ) (bytes : List ℕ) → slice_get events k ≡ Some (Answered (received.Datagram bytes)) → MayCome group (offered ++ all_offered (take k events)) bytes

  carried-answered : (offered : List (List ℕ)) (answer : Received) (events : List NetEvent) → CarriedAfter offered (Answered answer ∷ events) → CarriedAfter offered events
  carried-answered offered answer events c k bytes e = c (suc k) bytes e

  carried-offered : (offered : List (List ℕ)) (offer : Offer) (events : List NetEvent) → CarriedAfter offered (Offered offer ∷ events) → CarriedAfter (offered ++ offer.bytes ∷ []) events
  carried-offered offered offer events c k bytes e =
      subst (λ (l : List (List ℕ)). MayCome group l bytes) (sym (append_assoc offered (offer.bytes ∷ []) (all_offered (take k events)))) (c (suc k) bytes e)

  given-may : (offered : List (List ℕ)) (answer : Received) (events : List NetEvent) → CarriedAfter offered (Answered answer ∷ events) → (bytes : List ℕ) → given_by answer ≡ Some bytes
      → MayCome group offered bytes
  given-may offered (received.Datagram b) events c bytes e =
      subst (λ (l : List (List ℕ)). MayCome group l bytes) (append-nil offered) (c zero bytes (ap (λ z. Some (Answered (received.Datagram z))) (same_Some b bytes e)))
  given-may offered received.Nothing events c bytes e = absurd (none-some bytes e)
  given-may offered received.Failed events c bytes e = absurd (none-some bytes e)

  -- each step of the order is as its member's contract says, and hands over what was put out
  abbrev Goes : Deployment S → List (Step S) → Type 0
  Goes d steps = EachStep (DoesSo meaning group) d steps × EachStep (HandsOver group) d steps

  -- from here on
  abbrev GoesOn : List (Done S) → Type 0
  GoesOn all = (at : Address → Standing S) (d : Deployment S) (offered : List (List ℕ)) → Stands at d offered → EachFollows at all → CarriedAfter offered (net_events (items_of all))
      → Goes d (steps_in (items_of all))

  item-goes : (q : Address) (i : Item S) (all : List (Done S)) → GoesOn all → (at : Address → Standing S) (d : Deployment S) (offered : List (List ℕ)) → Stands at d offered
      → MayFollow meaning group q (at q) i → EachFollows (with_standing q (then_stands (at q) i) at) all → CarriedAfter offered (net_events (i ∷ items_of all))
      → Goes d (steps_in (i ∷ items_of all))
  item-goes q (OfNet (Answered answer)) all on at d offered x may f c =
      on (with_standing q (then_stands (at q) (OfNet (Answered answer))) at) d offered
      (answered at d offered q x answer (λ bytes e. may-as group d.offered offered bytes x.offers (given-may offered answer (net_events (items_of all)) c bytes e))) f
      (carried-answered offered answer (net_events (items_of all)) c)
  item-goes q (OfNet (Offered offer)) all on at d offered x may f c =
      on (with_standing q (then_stands (at q) (OfNet (Offered offer))) at) d (offered ++ offer.bytes ∷ []) (was-offered at d offered q x offer may) f
      (carried-offered offered offer (net_events (items_of all)) c)
  item-goes q (OfMember step) all on at d offered x may f c =
      let r = on (with_standing q (then_stands (at q) (OfMember step)) at) (after d step) offered (stepped at d offered q x step may.0) f c in
      ((does at d offered q x step may.0 may.1, r.0), (hands-over at d offered q x step may.2, r.1))

  merged-goes : (all : List (Done S)) → GoesOn all
  merged-goes [] at d offered x f c = (tt, tt)
  merged-goes (y ∷ all) at d offered x f c = item-goes y.by y.item all (merged-goes all) at d offered x (first at y all f).0 (rest at y all f) c

  -- ---- who runs at the end

  ends-by : (b : Bool) (p q : Address) (at : Address → Standing S) (i : Item S) (own : List (Item S)) → same_address p q ≡ b
      → stands_after (cond b (then_stands (at q) i) (at p)) own ≡ stands_after (at p) (cond b (i ∷ own) own)
  ends-by true p q at i own same = ap (λ (r : Address). stands_after (then_stands (at r) i) own) (sym (same_address-true p q same))
  ends-by false p q at i own same = refl

  abbrev SameMembers : (Address → Standing S) → Deployment S → Type 0
  SameMembers at d = (p : Address) → d.members p ≡ (at p).running

  item-same-by : (b : Bool) (p q : Address) (at : Address → Standing S) (d : Deployment S) (t : Standing S) → same_address p q ≡ b → t.running ≡ (at q).running → SameMembers at d
      → d.members p ≡ (cond b t (at p)).running
  item-same-by true p q at d t same e m = ap d.members (same_address-true p q same) ∙ m q ∙ sym e
  item-same-by false p q at d t same e m = m p

  step-same-by : (b : Bool) (p : Address) (at : Address → Standing S) (d : Deployment S) (t : Standing S) (o : Option (MemberModel S)) → t.running ≡ o → SameMembers at d
      → cond b o (d.members p) ≡ (cond b t (at p)).running
  step-same-by true p at d t o e m = sym e
  step-same-by false p at d t o e m = m p

  step-same : (q : Address) (x : Step S) (at : Address → Standing S) (d : Deployment S) → whose x ≡ q → SameMembers at d
      → SameMembers (with_standing q (then_stands (at q) (OfMember x)) at) (after d x)
  step-same q x at d own m p =
      ap (λ (r : Address). cond (same_address p r) (left_with x) (d.members p)) own
      ∙ step-same-by (same_address p q) p at d (then_stands (at q) (OfMember x)) (left_with x) refl m

  abbrev EndsSo : List (Done S) → Type 0
  EndsSo all = (at : Address → Standing S) (d : Deployment S) → EachFollows at all → SameMembers at d
      → (p : Address) → (after_steps d (steps_in (items_of all))).members p ≡ (stands_after (at p) (own_items p all)).running

  item-ends : (q : Address) (i : Item S) (all : List (Done S)) → EndsSo all → (at : Address → Standing S) (d : Deployment S) → MayFollow meaning group q (at q) i
      → EachFollows (with_standing q (then_stands (at q) i) at) all → SameMembers at d
      → (p : Address) → (after_steps d (steps_in (i ∷ items_of all))).members p ≡ (stands_after (cond (same_address p q) (then_stands (at q) i) (at p)) (own_items p all)).running
  item-ends q (OfNet (Answered answer)) all so at d may f m p =
      so (with_standing q (then_stands (at q) (OfNet (Answered answer))) at) d f
      (λ r. item-same-by (same_address r q) r q at d (then_stands (at q) (OfNet (Answered answer))) refl refl m) p
  item-ends q (OfNet (Offered offer)) all so at d may f m p =
      so (with_standing q (then_stands (at q) (OfNet (Offered offer))) at) d f
      (λ r. item-same-by (same_address r q) r q at d (then_stands (at q) (OfNet (Offered offer))) refl refl m) p
  item-ends q (OfMember x) all so at d may f m p = so (with_standing q (then_stands (at q) (OfMember x)) at) (after d x) f (step-same q x at d may.0 m) p

  members-end : (all : List (Done S)) → EndsSo all
  members-end [] at d f m p = m p
  members-end (y ∷ all) at d f m p =
      item-ends y.by y.item all (members-end all) at d (first at y all f).0 (rest at y all f) m p
      ∙ ap (λ (s : Standing S). s.running) (ends-by (same_address p y.by) p y.by at y.item (own_items p all) refl)

  pub members-are : (all : List (Done S)) → ((p : Address) → IsProcess meaning group p (own_items p all))
      → (p : Address) → (after_steps nothing_yet (steps_in (items_of all))).members p ≡ (stands_after not_begun (own_items p all)).running
  members-are all f p = members-end all (λ q. not_begun) nothing_yet f (λ q. refl) p

  nothing-stands : Stands (λ p. not_begun) nothing_yet []
  nothing-stands = record {
    members = λ p. refl;
    waiting = λ p k bytes e. absurd (none-some bytes e);
    given = λ p bytes e. absurd (none-some bytes e);
    offers = λ k bytes e. absurd (none-some bytes e);
  }

module _ {S : Type 0} (meaning : Meaning S) where
  -- in one order they are a history
  pub history : (group : List ℕ) (all : List (Done S)) → AreMerged meaning group all → IsHistory meaning group (steps_in (items_of all))
  history group all m =
      let g = merged-goes meaning group all (λ p. not_begun) nothing_yet [] (nothing-stands meaning group) m.processes m.network in
      record { does = g.0; once = m.once; network = g.1 }

  pub runners-are : AreSynchronous meaning → RunnersAreSynchronous meaning
  runners-are law group all m = law group (steps_in (items_of all)) (history group all m)

  pub runners-tell : TellAll meaning → RunnersTellAll meaning
  runners-tell law group all m = law group (steps_in (items_of all)) (history group all m).does
