-- All rules in each order: a trace that keeps them is in order, and where its events stand in another order that is in order, they keep the rules there too.
use Rattle.std.proofs.Common.{◌≡◌, ◌↔◌, ℕ, suc, Bool, true, false, not, cond, List, [], ◌∷◌, ◌++◌, take, drop, Option, Some, None, MatchOption, slice_get, sym, refl, ap, ◌∙◌, subst}
use Rattle.std.specs.List.{list_all}
use Rattle.std.proofs.lemmas.Bool.{and_from, true≢false}
use Rattle.std.proofs.lemmas.List.{take-append-drop}
use Rattle.address.specs.Ids.{Address, same_address}
use Rattle.state_transfer.specs.Meanings.{Meaning}
use Rattle.trace_props.specs.declared.event.Event.{Event}
use Rattle.trace_props.specs.declared.event.Event.TheVariants as event
use Rattle.trace_props.specs.declared.event.Install.{Install}
use Rattle.trace_props.specs.declared.event.Delivery.{Delivery}
use Rattle.trace_props.specs.Places.{EachEvent}
use Rattle.trace_props.specs.Observed.{numbered}
use Rattle.trace_props.specs.State.{state_of, entry_state}
use Rattle.trace_props.specs.Rules.{MayStand, IsWellPlaced, HasRisingViews, KnowsTogether}
use Rattle.trace_props.specs.Synchrony.{KeepsRules, IsVirtuallySynchronous}
use Rattle.trace_props.specs.Following.{MayRise, MayCarry, MayOrder}
use Rattle.trace_props.specs.Agreeing.{MayMeet, MayKnow, MayEnter}
use Rattle.trace_props.specs.Verdicts.{GoesOn}
use Rattle.trace_props.proofs.RulesAlongLists.{EachEvent-nil, EachEvent-push, EachEvent-before, EachEvent-last, EachPlace-whole, take-next}
use Rattle.trace_props.proofs.FourRulesNeed.{views-needed}
use Rattle.trace_props.proofs.InstallsOfRisingViews.{by_pushes}
use Rattle.trace_props.proofs.RuleOfSameNext.{meets-needed}
use Rattle.trace_props.proofs.RuleOfTogether.{knows-needed}
use Rattle.trace_props.proofs.KeepEightRules.{synchronous-nil, synchronous-push, synchronous-exactly}
use Rattle.trace_merge.specs.declared.fact.Fact.{Fact}
use Rattle.trace_merge.specs.declared.fact.Fact.TheVariants.{Sent, Delivered, Installed}
use Rattle.trace_merge.specs.Facts.{delivered, is_shown, is_awaited, MayCome, IsInOrder}
use Rattle.trace_merge.specs.Merges.{IsOrderedMerge, HaveNoOrder}
use Rattle.trace_merge.specs.Apart.{AreApart, AreReordered, CanBeSynchronous}
use Rattle.trace_merge.proofs.MembersOwnTraces.{happened_to}
use Rattle.trace_merge.proofs.MergesKeepMembers.{StandsToo, stands-too, merges-same, merge-reordered}
use Rattle.trace_merge.proofs.EntryStatesKnown.{installed-found}
use Rattle.trace_merge.proofs.EventsShow.{install-shown, shown-not-awaited}
use Rattle.trace_merge.proofs.KeepPlaces.{stand-own, hand_back-own, rising-before, carried, rising-carried, together-carried, together-before, same_next-carried}
use Rattle.trace_merge.proofs.KeepMessages.{carries, follows, sent-next, sent-shown, delivered-shown}
use Rattle.trace_merge.proofs.KeepEntries.{enters}

module _ {S : Type 0} (meaning : Meaning S) where
  -- BY THE CONDITION ON EACH EVENT

  -- all conditions hold of each event of a trace that keeps the rules, and the other way round
  pub goes-each : (t : List Event) → IsVirtuallySynchronous meaning t → EachEvent (GoesOn meaning) t
  goes-each t =
      by_pushes (λ t. IsVirtuallySynchronous meaning t → EachEvent (GoesOn meaning) t) (λ r. EachEvent-nil (GoesOn meaning))
      (λ t h each r. let both = (synchronous-exactly meaning t h).0 r in EachEvent-push (GoesOn meaning) t h (each both.0) both.1)
      t

  synchronous-from : (t : List Event) → EachEvent (GoesOn meaning) t → IsVirtuallySynchronous meaning t
  synchronous-from t =
      by_pushes (λ t. EachEvent (GoesOn meaning) t → IsVirtuallySynchronous meaning t) (λ each. synchronous-nil meaning)
      (λ t h r each. synchronous-push meaning t h (r (EachEvent-before (GoesOn meaning) t h each)) (EachEvent-last (GoesOn meaning) t h each))
      t

  -- IN ANOTHER ORDER

  module _ (t u : List Event) (same : (p : Address) → happened_to p t ≡ happened_to p u) (in_order : IsInOrder u) (r : IsVirtuallySynchronous meaning t) where
    abbrev keeps : KeepsRules meaning t
    keeps = EachPlace-whole (KeepsRules meaning) t r

    placed : IsWellPlaced u
    placed = carried t u same MayStand stand-own keeps.ordered.placed

    views : HasRisingViews u
    views = rising-carried t u same keeps.ordered.views

    module _ (k : ℕ) (e : Event) (s : slice_get u k ≡ Some e) where
      -- up to this event
      whole : (take k u ++ e ∷ []) ++ drop (suc k) u ≡ u
      whole = ap (λ (l : List Event). l ++ drop (suc k) u) (sym (take-next k u e s)) ∙ take-append-drop (suc k) u

      rises : MayRise (take k u) e
      rises = views-needed (take k u) e (rising-before (take k u ++ e ∷ []) (drop (suc k) u) (subst HasRisingViews (sym whole) views))

      meets : MayMeet (take k u) e
      meets = meets-needed (take k u) e (same_next-carried t u same placed views keeps.same_next (take k u ++ e ∷ []) (drop (suc k) u) whole)

      knows : MayKnow (take k u) e
      knows = knows-needed (take k u) e (together-before (take k u ++ e ∷ []) (drop (suc k) u) (subst KnowsTogether (sym whole) (together-carried t u same keeps.together)))

      -- there
      abbrev at : StandsToo t u k e
      at = stands-too t u same k e s

      on : GoesOn meaning (take at.place t) e
      on = goes-each t r at.place e at.stands

    -- messages
    carries-each : (k : ℕ) (e : Event) → slice_get u k ≡ Some e → MayCarry (take k u) e
    carries-each k (event.Sent x) s = sent-next t u k x s same (on k (event.Sent x) s).seven.1.1.1.1.0
    carries-each k (event.Delivered d) s = carries t u same in_order keeps.ordered.messages k d s (on k (event.Delivered d) s).seven.1.1.1.1.0
    carries-each k h s = tt

    follows-each : (k : ℕ) (e : Event) → slice_get u k ≡ Some e → MayOrder (take k u) e
    follows-each k (event.Delivered d) s = follows t u same in_order keeps.ordered.messages k d s (on k (event.Delivered d) s).seven.1.1.1.0
    follows-each k h s = tt

    -- entries
    enters-each : (k : ℕ) (e : Event) → slice_get u k ≡ Some e → MayEnter meaning (take k u) e
    enters-each k (event.Installed i) s = enters meaning t u same in_order keeps.state k i s (on k (event.Installed i) s).enters.0
    enters-each k h s = tt

    -- so all conditions hold of each event there
    goes-there : EachEvent (GoesOn meaning) u
    goes-there k e s = record {
      seven = (
        hand_back-own (take (at k e s).place t) (take k u) e (at k e s).past (on k e s).seven.0,
        (
          knows k e s,
          (
            meets k e s,
            (follows-each k e s, (carries-each k e s, (rises k e s, (stand-own (take (at k e s).place t) (take k u) e (at k e s).past (on k e s).seven.1.1.1.1.1.1.0, tt)))),
          ),
        ),
      );
      enters = enters-each k e s;
    }

    pub other-order : IsVirtuallySynchronous meaning u
    other-order = synchronous-from u goes-there

  -- THEY ARE IN ORDER

  -- the coordinator's delivery of a message
  abbrev coordinators : Delivery → Fact
  coordinators d = Delivered d.view.creator (delivered d)

  -- what comes before a delivery was shown
  free-delivery : (comes : Fact → Bool) (past : List Event) (d : Delivery) → MayCarry past (event.Delivered d) → MayOrder past (event.Delivered d) → MayCome comes past (event.Delivered d)
  free-delivery comes past d carry order =
      and_from (not (is_awaited comes past (Sent (delivered d)))) (list_all (λ g. not (is_awaited comes past g)) (cond (same_address d.member d.view.creator) [] (coordinators d ∷ [])))
      (shown-not-awaited comes past (Sent (delivered d)) (sent-shown past d.message.sender d.view _ (numbered d.message) carry.1))
      (by (same_address d.member d.view.creator) refl)
    where
      by : (b : Bool) → same_address d.member d.view.creator ≡ b → list_all (λ g. not (is_awaited comes past g)) (cond b [] (coordinators d ∷ [])) ≡ true
      by true is = refl
      by false is =
          and_from (not (is_awaited comes past (coordinators d))) true (shown-not-awaited comes past (coordinators d) (delivered-shown past d.view.creator d.view _ d.message (order is))) refl

  -- and what comes before an install
  free-install : (comes : Fact → Bool) (past : List Event) (i : Install) → MayEnter meaning past (event.Installed i) → MayCome comes past (event.Installed i)
  free-install comes past i enter = by (same_address i.member i.view.id.creator) (entry_state meaning i.view.id past) refl refl enter.1 where
    by : (b : Bool) (o : Option S) → same_address i.member i.view.id.creator ≡ b → entry_state meaning i.view.id past ≡ o
        → MatchOption o (same_address i.member i.view.id.creator ≡ true) (λ x. x ≡ state_of meaning i.member (past ++ event.Installed i ∷ []))
        → list_all (λ g. not (is_awaited comes past g)) (cond b [] (Installed i.view.id.creator i.view.id ∷ [])) ≡ true
    by true o is known m = refl
    by false None is known m = absurd (true≢false (sym m ∙ is))
    by false (Some x) is known m =
        and_from (not (is_awaited comes past (Installed i.view.id.creator i.view.id))) true
        (shown-not-awaited comes past (Installed i.view.id.creator i.view.id) (install-shown past i.view.id.creator i.view.id (installed-found meaning i.view.id past x known))) refl

  may-come : (comes : Fact → Bool) (past : List Event) (e : Event) → GoesOn meaning past e → MayCome comes past e
  may-come comes past (event.Delivered d) m = free-delivery comes past d m.seven.1.1.1.1.0 m.seven.1.1.1.0
  may-come comes past (event.Installed i) m = free-install comes past i m.enters
  may-come comes past h m = refl

  -- a trace that keeps the rules is in order
  pub in-order : (t : List Event) → IsVirtuallySynchronous meaning t → IsInOrder t
  in-order t r k e s = may-come (is_shown t) (take k t) e (goes-each t r k e s)

  -- MERGES

  -- where some order keeps the rules, each merge that is in order does
  pub each-merge : (processes : List (List Event)) (u : List Event) → AreApart processes → IsOrderedMerge processes u → CanBeSynchronous meaning processes → IsVirtuallySynchronous meaning u
  each-merge processes u apart n can = other-order can.0 u (merges-same processes apart can.0 u can.1 n.merge) n.in_order can.2

  -- and there is one
  pub has-order : (processes : List (List Event)) → HaveNoOrder processes → CanBeSynchronous meaning processes → ⊥
  has-order processes none can = none can.0 (record { merge = can.1; in_order = in-order can.0 can.2 })

  -- so two that are in order keep them both, or neither does
  pub same-verdict : (processes : List (List Event)) (t u : List Event) → AreApart processes → IsOrderedMerge processes t → IsOrderedMerge processes u
      → IsVirtuallySynchronous meaning t ↔ IsVirtuallySynchronous meaning u
  same-verdict processes t u apart m n = ((λ r. each-merge processes u apart n (t, m.merge, r)), (λ r. each-merge processes t apart m (u, n.merge, r)))

  -- and it does not matter in which order the traces are given
  pub same-reordered : (processes others : List (List Event)) (t u : List Event) → AreApart processes → AreReordered processes others → IsOrderedMerge processes t → IsOrderedMerge others u
      → IsVirtuallySynchronous meaning t ↔ IsVirtuallySynchronous meaning u
  same-reordered processes others t u apart r m n = same-verdict processes t u apart m (record { merge = merge-reordered processes others u r n.merge; in_order = n.in_order })
