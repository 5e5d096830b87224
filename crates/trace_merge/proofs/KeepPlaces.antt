-- The rules that a member's own past decides, and those on two installs, hold in each order.
use Rattle.std.proofs.Common.{◌≡◌, ℕ, Bool, true, false, List, [], ◌∷◌, ◌++◌, length, take, drop, Option, Some, None, MatchOption, IsSome, slice_get, sym, refl, ap, ◌∙◌, subst, arith}
use Rattle.std.proofs.lemmas.List.{append-nil, append_assoc, take-append-le}
use Rattle.std.proofs.lemmas.Option.{slice_get_within}
use Rattle.address.specs.Ids.{Address, ViewId}
use Rattle.trace_props.specs.declared.event.Event.{Event}
use Rattle.trace_props.specs.declared.event.Event.TheVariants.{Started, Sent, Delivered, Blocked, Installed, Left, Crashed}
use Rattle.trace_props.specs.declared.event.Install.{Install}
use Rattle.trace_props.specs.Places.{EachEvent}
use Rattle.trace_props.specs.Observed.{member_of, current_view, delivered_in, sent_in, own}
use Rattle.trace_props.specs.Rules.{IsRunning, MayStand, IsWellPlaced, RisesAt, EachTwoInstalls, HasRisingViews, HasSameNext, KnowsTogether}
use Rattle.trace_props.specs.Agreeing.{MayHandBack}
use Rattle.trace_props.proofs.RulesAlongLists.{slice_get-before, EachEvent-before, EachEvent-last}
use Rattle.trace_props.proofs.DeliveredGrow.{is_delivery_to, is_delivery_to-true, delivered_in-still, delivered_in-miss}
use Rattle.trace_props.proofs.InstallRulesGrow.{EachTwoInstalls-before}
use Rattle.trace_props.proofs.InstallsOfRisingViews.{by_pushes, views-before, gone}
use Rattle.trace_props.proofs.KeepFourRules.{SameMembers}
use Rattle.trace_props.proofs.RuleOfSameNext.{SameList}
use Rattle.trace_merge.proofs.MembersOwnTraces.{happened_to, has_started-own, has_ended-own, current_view-own, is_blocked-own, delivered_in-own, sent_in-own}
use Rattle.trace_merge.proofs.MergesKeepMembers.{stands-too}

-- BY A MEMBER'S OWN PAST

module _ (past other : List Event) where
  running-own : (p : Address) → happened_to p past ≡ happened_to p other → IsRunning p past → IsRunning p other
  running-own p same m = record { started = sym (has_started-own p past other same) ∙ m.started; going = sym (has_ended-own p past other same) ∙ m.going }

  -- where an event may stand
  pub stand-own : (e : Event) → happened_to (member_of e) past ≡ happened_to (member_of e) other → MayStand past e → MayStand other e
  stand-own (Started p) same m = sym (has_started-own p past other same) ∙ m
  stand-own (Sent s) same m = (running-own s.member same m.0, sym (current_view-own s.member past other same) ∙ m.1, sym (is_blocked-own s.member past other same) ∙ m.2)
  stand-own (Delivered d) same m = (running-own d.member same m.0, sym (current_view-own d.member past other same) ∙ m.1)
  stand-own (Blocked p) same m =
      (running-own p same m.0, subst (λ (o : Option ViewId). IsSome o) (current_view-own p past other same) m.1, sym (is_blocked-own p past other same) ∙ m.2)
  stand-own (Installed i) same m = running-own i.member same m
  stand-own (Left p) same m = running-own p same m
  stand-own (Crashed p) same m = running-own p same m

  -- whether a view is above the one from which its member comes
  pub rises-own : (e : Event) → happened_to (member_of e) past ≡ happened_to (member_of e) other → RisesAt past e → RisesAt other e
  rises-own (Installed i) same m = record { inside = m.inside; previous = m.previous ∙ current_view-own i.member past other same; rises = m.rises }
  rises-own h same m = tt

  back-own : (i : Install) (o : Option ViewId) → happened_to i.member past ≡ happened_to i.member other
      → MatchOption o (i.handed_back ≡ []) (λ v. i.handed_back ≡ drop (length (own i.member (delivered_in i.member v past))) (sent_in i.member v past))
      → MatchOption o (i.handed_back ≡ []) (λ v. i.handed_back ≡ drop (length (own i.member (delivered_in i.member v other))) (sent_in i.member v other))
  back-own i None same m = m
  back-own i (Some v) same m =
      m
      ∙ ap (λ ms. drop (length (own i.member ms)) (sent_in i.member v past)) (delivered_in-own i.member past other same v)
      ∙ ap (λ ms. drop (length (own i.member (delivered_in i.member v other))) ms) (sent_in-own i.member past other same v)

  -- what is handed back
  pub hand_back-own : (e : Event) → happened_to (member_of e) past ≡ happened_to (member_of e) other → MayHandBack past e → MayHandBack other e
  hand_back-own (Installed i) same m = back-own i i.previous same m
  hand_back-own h same m = tt

-- BEGINNINGS

-- a rule on each event holds of each beginning
pub each-before : (Rule : List Event → Event → Type 0) (w rest : List Event) → EachEvent Rule (w ++ rest) → EachEvent Rule w
each-before Rule w rest each k e s =
    let within = slice_get_within w k e s in
    subst (λ (l : List Event). Rule l e) (take-append-le k w rest (omega (arith, within))) (each k e (slice_get-before w rest k e s))

-- and rising views do
pub rising-before : (w rest : List Event) → HasRisingViews (w ++ rest) → HasRisingViews w
rising-before w rest r = record { rises = each-before RisesAt w rest r.rises; agrees = EachTwoInstalls-before SameMembers SameMembers w rest (λ e f x. x) r.agrees }

-- and together does
pub together-before : (w rest : List Event) → KnowsTogether (w ++ rest) → KnowsTogether w
together-before w rest r = record {
  within_view = λ k e s. r.within_view k e (slice_get-before w rest k (Installed e) s);
  within_previous = EachTwoInstalls-before _ _ w rest (λ e f x. x) r.within_previous;
  exact = EachTwoInstalls-before _ _ w rest (λ e f x. x) r.exact;
}

-- WHO HAS GONE ON IS DELIVERED NOTHING MORE

stays : (t : List Event) (h : Event) → HasRisingViews t → MayStand t h → (k : ℕ) (e : Install) (v : ViewId) → slice_get t k ≡ Some (Installed e) → e.previous ≡ Some v
    → delivered_in e.member v (t ++ h ∷ []) ≡ delivered_in e.member v t
stays t (Delivered d) views stands k e v s came = by (is_delivery_to e.member v d) refl where
  by : (b : Bool) → is_delivery_to e.member v d ≡ b → delivered_in e.member v (t ++ Delivered d ∷ []) ≡ delivered_in e.member v t
  by false test = delivered_in-miss e.member v t d test
  by true test =
      let there = is_delivery_to-true e.member v d test in
      absurd (gone t views k e s v came (ap (λ p. current_view p t) (sym there.0) ∙ stands.1 ∙ ap Some there.1))
stays t h views stands k e v s came = delivered_in-still e.member v t h refl

module _ (w : List Event) (k : ℕ) (e : Install) (v : ViewId) (s : slice_get w k ≡ Some (Installed e)) (came : e.previous ≡ Some v) where
  abbrev Settles : List Event → Type 0
  Settles rest = IsWellPlaced (w ++ rest) → HasRisingViews (w ++ rest) → delivered_in e.member v (w ++ rest) ≡ delivered_in e.member v w

  settles-push : (rest : List Event) (h : Event) → Settles rest → Settles (rest ++ h ∷ [])
  settles-push rest h r placed views =
      let is : w ++ (rest ++ h ∷ []) ≡ (w ++ rest) ++ h ∷ [] = sym (append_assoc w rest (h ∷ [])) in
      let stands : IsWellPlaced ((w ++ rest) ++ h ∷ []) = subst IsWellPlaced is placed in
      let rise : HasRisingViews (w ++ rest) = views-before (w ++ rest) h (subst HasRisingViews is views) in
      ap (delivered_in e.member v) is
      ∙ stays (w ++ rest) h rise (EachEvent-last MayStand (w ++ rest) h stands) k e v (slice_get-before w rest k (Installed e) s) came
      ∙ r (EachEvent-before MayStand (w ++ rest) h stands) rise

  -- what it delivered in the view that it has left is all that it ever delivers there
  pub settled : (rest : List Event) → Settles rest
  settled rest = by_pushes Settles (λ placed views. ap (delivered_in e.member v) (append-nil w)) settles-push rest

-- IN ANOTHER ORDER

module _ (t u : List Event) (same : (p : Address) → happened_to p t ≡ happened_to p u) where
  -- a rule that a member's own past decides
  pub carried : (Rule : List Event → Event → Type 0) → ((past other : List Event) (e : Event) → happened_to (member_of e) past ≡ happened_to (member_of e) other → Rule past e → Rule other e)
      → EachEvent Rule t → EachEvent Rule u
  carried Rule by_own each k e s =
      let at = stands-too t u same k e s in
      by_own (take at.place t) (take k u) e at.past (each at.place e at.stands)

  -- a rule on two installs
  pub both-carried : (P : Install → Install → Type 0) → EachTwoInstalls P t → EachTwoInstalls P u
  both-carried P each j k e f a b =
      let at = stands-too t u same j (Installed e) a in
      let on = stands-too t u same k (Installed f) b in
      each at.place on.place e f at.stands on.stands

  -- rising views
  pub rising-carried : HasRisingViews t → HasRisingViews u
  rising-carried r = record { rises = carried RisesAt rises-own r.rises; agrees = both-carried SameMembers r.agrees }

  -- together
  pub together-carried : KnowsTogether t → KnowsTogether u
  together-carried r = record {
    within_view = λ k e s. let at = stands-too t u same k (Installed e) s in r.within_view at.place e at.stands;
    within_previous = both-carried _ r.within_previous;
    exact = both-carried _ r.exact;
  }

  -- same next view, same list, at each beginning
  pub same_next-carried : IsWellPlaced u → HasRisingViews u → HasSameNext t → (w rest : List Event) → w ++ rest ≡ u → HasSameNext w
  same_next-carried placed views r w rest whole j k e f a b next v left right =
      let stands : IsWellPlaced (w ++ rest) = subst IsWellPlaced (sym whole) placed in
      let rise : HasRisingViews (w ++ rest) = subst HasRisingViews (sym whole) views in
      let there : slice_get u j ≡ Some (Installed e) = ap (λ (l : List Event). slice_get l j) (sym whole) ∙ slice_get-before w rest j (Installed e) a in
      let here : slice_get u k ≡ Some (Installed f) = ap (λ (l : List Event). slice_get l k) (sym whole) ∙ slice_get-before w rest k (Installed f) b in
      sym (settled w j e v a left rest stands rise)
      ∙ ap (delivered_in e.member v) whole
      ∙ sym (delivered_in-own e.member t u (same e.member) v)
      ∙ both-carried (SameList t) r j k e f there here next v left right
      ∙ delivered_in-own f.member t u (same f.member) v
      ∙ ap (delivered_in f.member v) (sym whole)
      ∙ settled w k f v b right rest stands rise
