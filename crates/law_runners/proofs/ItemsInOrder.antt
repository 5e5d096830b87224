-- Items of one process behind an order of many: whose they are, and what happens by their steps.
use Rattle.std.proofs.Common.{◌≡◌, Bool, true, false, cond, Option, None, Some, List, [], ◌∷◌, ◌++◌, map, flat_map, refl, sym, ap, ◌∙◌, subst}
use Rattle.std.specs.List.{AllByRecursion}
use Rattle.std.proofs.lemmas.List.{append-nil, append_assoc, map-append}
use Rattle.std.proofs.lemmas.Grind.{flat_map-append}
use Rattle.address.specs.Ids.{Address, same_address}
use Rattle.address.proofs.SameIds.{same_address-refl}
use Rattle.trace_props.specs.declared.event.Event.{Event}
use Rattle.trace_props.specs.Observed.{has_started}
use Rattle.trace_props.proofs.ObservedGrow.{has_started-stays}
use Rattle.udp_net.specs.Logs.{Log, Lists, NetEvent}
use Rattle.law_processes.specs.Deployments.{Step, Start, Call, Crash, Deployment, EachStep, StartsOnce, after, after_steps, nothing_yet, happens_by, trace_of}
use Rattle.law_runners.specs.Items.{Item, steps_in, net_events}
use Rattle.law_runners.specs.Runs.{is_start, happened_by}
use Rattle.law_runners.specs.Merged.{Done, own_items, item_of, items_of}
use Rattle.law_runners.proofs.ItemsJoin.{steps-then, events-then}

-- ---- what has started

pub started-not : (p : Address) (t u : List Event) → has_started p (t ++ u) ≡ false → has_started p t ≡ false
started-not p t u e = by (has_started p t) refl
  where
    by : (b : Bool) → has_started p t ≡ b → has_started p t ≡ false
    by true is = absurd (let bad : true ≡ false = sym (has_started-stays p t u is) ∙ e in cc)
    by false is = is

module _ {S : Type 0} where
  -- ---- whose they are

  abbrev pub done_by : Address → List (Item S) → List (Done S)
  done_by q items = map (λ i. record { by = q; item = i }) items

  own-by : (b : Bool) (i : Item S) (own more own_more : List (Item S)) → own_more ≡ own ++ more → cond b (i ∷ own_more) own_more ≡ cond b (i ∷ own) own ++ more
  own-by true i own more own_more e = ap (λ (l : List (Item S)). i ∷ l) e
  own-by false i own more own_more e = e

  own-then : (p : Address) (xs ys : List (Done S)) → own_items p (xs ++ ys) ≡ own_items p xs ++ own_items p ys
  own-then p [] ys = refl
  own-then p (x ∷ xs) ys = own-by (same_address p x.by) x.item (own_items p xs) (own_items p ys) (own_items p (xs ++ ys)) (own-then p xs ys)

  own-all : (p : Address) (items : List (Item S)) → own_items p (done_by p items) ≡ items
  own-all p [] = refl
  own-all p (i ∷ items) =
      ap (λ b. cond b (i ∷ own_items p (done_by p items)) (own_items p (done_by p items))) (same_address-refl p) ∙ ap (λ (l : List (Item S)). i ∷ l) (own-all p items)

  own-none : (p q : Address) (items : List (Item S)) → same_address p q ≡ false → own_items p (done_by q items) ≡ []
  own-none p q [] other = refl
  own-none p q (i ∷ items) other =
      ap (λ b. cond b (i ∷ own_items p (done_by q items)) (own_items p (done_by q items))) other ∙ own-none p q items other

  pub own-of : (p : Address) (all : List (Done S)) (items : List (Item S)) → own_items p (all ++ done_by p items) ≡ own_items p all ++ items
  own-of p all items = own-then p all (done_by p items) ∙ ap (λ (l : List (Item S)). own_items p all ++ l) (own-all p items)

  pub own-other : (p q : Address) (all : List (Done S)) (items : List (Item S)) → same_address p q ≡ false → own_items p (all ++ done_by q items) ≡ own_items p all
  own-other p q all items other =
      own-then p all (done_by q items) ∙ ap (λ (l : List (Item S)). own_items p all ++ l) (own-none p q items other) ∙ append-nil (own_items p all)

  items-done : (q : Address) (items : List (Item S)) → items_of (done_by q items) ≡ items
  items-done q [] = refl
  items-done q (i ∷ items) = ap (λ (l : List (Item S)). i ∷ l) (items-done q items)

  pub steps-of : (q : Address) (all : List (Done S)) (items : List (Item S)) → steps_in (items_of (all ++ done_by q items)) ≡ steps_in (items_of all) ++ steps_in items
  steps-of q all items =
      ap (λ (l : List (Item S)). steps_in l) (map-append item_of all (done_by q items)) ∙ steps-then (items_of all) (items_of (done_by q items))
      ∙ ap (λ (l : List (Item S)). steps_in (items_of all) ++ steps_in l) (items-done q items)

  pub nets-of : (q : Address) (all : List (Done S)) (items : List (Item S)) → net_events (items_of (all ++ done_by q items)) ≡ net_events (items_of all) ++ net_events items
  nets-of q all items =
      ap (λ (l : List (Item S)). net_events l) (map-append item_of all (done_by q items)) ∙ events-then (items_of all) (items_of (done_by q items))
      ∙ ap (λ (l : List (Item S)). net_events (items_of all) ++ net_events l) (items-done q items)

  -- ---- what happens by their steps

  trace-after : (d : Deployment S) (steps : List (Step S)) → (after_steps d steps).trace ≡ d.trace ++ flat_map happens_by steps
  trace-after d [] = sym (append-nil d.trace)
  trace-after d (x ∷ steps) = trace-after (after d x) steps ∙ append_assoc d.trace (happens_by x) (flat_map happens_by steps)

  pub trace-of : (q : Address) (all : List (Done S)) (items : List (Item S))
      → trace_of (steps_in (items_of (all ++ done_by q items))) ≡ trace_of (steps_in (items_of all)) ++ happened_by items
  trace-of q all items =
      ap (λ (l : List (Step S)). trace_of l) (steps-of q all items) ∙ trace-after nothing_yet (steps_in (items_of all) ++ steps_in items)
      ∙ flat_map-append happens_by (steps_in (items_of all)) (steps_in items)
      ∙ ap (λ (l : List Event). l ++ happened_by items) (sym (trace-after nothing_yet (steps_in (items_of all))))

  -- ---- none starts twice

  pub each-then : (Holds : Deployment S → Step S → Type 0) (d : Deployment S) (xs ys : List (Step S)) → EachStep Holds d xs → EachStep Holds (after_steps d xs) ys → EachStep Holds d (xs ++ ys)
  each-then Holds d [] ys a b = b
  each-then Holds d (x ∷ xs) ys a b = (a.0, each-then Holds (after d x) xs ys a.1 b)

  start-none : (d : Deployment S) (x : Step S) → is_start x ≡ false → StartsOnce d x
  start-none d (Start p m) e = absurd (let bad : true ≡ false = e in cc)
  start-none d (Call p input result left) e = tt
  start-none d (Crash p) e = tt

  pub starts-none : (d : Deployment S) (steps : List (Step S)) → AllByRecursion (λ x. is_start x ≡ false) steps → EachStep StartsOnce d steps
  starts-none d [] a = tt
  starts-none d (x ∷ steps) a = (start-none d x a.0, starts-none (after d x) steps a.1)

-- ---- what a net lists

pub lists-more : (a b : Option Log) (xs ys : List NetEvent) → ((l : Log) → a ≡ Some l → l ≡ xs) → Lists a (λ l. l ++ ys) b → (l : Log) → b ≡ Some l → l ≡ xs ++ ys
lists-more a b xs ys was more l is = by a was (let now : Lists a (λ k. k ++ ys) (Some l) = subst (λ (o : Option Log). Lists a (λ k. k ++ ys) o) is more in now)
  where
    by : (o : Option Log) → ((k : Log) → o ≡ Some k → k ≡ xs) → Lists o (λ k. k ++ ys) (Some l) → l ≡ xs ++ ys
    by None w m = absurd m
    by (Some k) w m = m ∙ ap (λ (j : Log). j ++ ys) (w k refl)
