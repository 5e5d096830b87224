-- Together: it goes one event further exactly when who enters knows all that have installed its view.
use Rattle.std.proofs.Common.{◌≡◌, ◌↔◌, ℕ, true, List, [], ◌∷◌, ◌++◌, length, take, Some, None, slice_get, sym, refl, ap, ◌∙◌, subst}
use Rattle.std.proofs.lemmas.Bool.{and_parts}
use Rattle.address.specs.Ids.{Address, same_address, same_view_id}
use Rattle.view.specs.Members.{stands_in}
use Rattle.trace_props.specs.declared.event.Event.{Event}
use Rattle.trace_props.specs.declared.event.Event.TheVariants.{Installed}
use Rattle.trace_props.specs.declared.event.Install.{Install}
use Rattle.trace_props.specs.Observed.{install_of, entry_of}
use Rattle.trace_props.specs.Rules.{EntersAbove, RisesAt, HasRisingViews, LiesWithin, KnowsTogether}
use Rattle.trace_props.specs.Agreeing.{KnowEachOther, KnowsAll, MayKnow}
use Rattle.trace_props.proofs.RulesAlongLists.{EachEvent-last, slice_get-last}
use Rattle.address.proofs.SameIds.{same_view_id-true, same_view_id-from}
use Rattle.trace_props.proofs.DeliveredGrow.{enters, is_of, register-stands, register-written}
use Rattle.trace_props.proofs.InstallRulesGrow.{EachInstall, EachInstall-still, EachInstall-push, EachTwoInstalls-still, EachTwoInstalls-push, EachTwoInstalls-left, EachTwoInstalls-right, EachTwoInstalls-last}
use Rattle.trace_props.proofs.KeepFourRules.{SameMembers}
use Rattle.trace_props.proofs.InstallsOfRisingViews.{IsBelow-irreflexive, views-before, came-stands, entered}

-- the set lies within the view's members
abbrev Inside : Install → Type 0
Inside e = LiesWithin e.together e.view.members

-- and within those of the view from which the member came
abbrev InsideBefore : Install → Install → Type 0
InsideBefore e f = e.previous ≡ Some f.view.id → LiesWithin e.together f.view.members

-- who has installed the same view is in the set exactly if it came from the same view
abbrev Knows : Install → Install → Type 0
Knows e f = e.view.id ≡ f.view.id → (stands_in f.member e.together ≡ true) ↔ (f.previous ≡ e.previous)

-- an event that is no install changes nothing
knows-still : (t : List Event) (h : Event) → install_of h ≡ None → KnowsTogether t → KnowsTogether (t ++ h ∷ [])
knows-still t h none r = record {
  within_view = EachInstall-still Inside Inside t h (λ e x. x) none r.within_view;
  within_previous = EachTwoInstalls-still InsideBefore InsideBefore t h (λ e f x. x) none r.within_previous;
  exact = EachTwoInstalls-still Knows Knows t h (λ e f x. x) none r.exact;
}

-- those who came from the view that is installed now had its members
inside-left : (t : List Event) (i : Install) → HasRisingViews (t ++ Installed i ∷ []) → KnowsTogether t → EachInstall (λ e. InsideBefore e i) t
inside-left t i views r k e s came =
    let there = came-stands t (views-before t (Installed i) views) k e s i.view.id came in
    let f : Install = there.install in
    let same : f.view.id ≡ i.view.id = same_view_id-true f.view.id i.view.id (and_parts (same_address f.member e.member) (same_view_id f.view.id i.view.id) there.at.passes).1 in
    subst (λ (ms : List Address). LiesWithin e.together ms) (EachTwoInstalls-left SameMembers t i views.agrees there.at.place f there.at.stands same)
    (r.within_previous k there.at.place e f s there.at.stands (came ∙ ap Some (sym same)))

-- the view from which it comes had the members of its first install
inside-right : (t : List Event) (i : Install) → HasRisingViews (t ++ Installed i ∷ []) → KnowsAll t i → EachInstall (λ f. InsideBefore i f) t
inside-right t i views m k f s came =
    let first = register-written (is_of f.view.id) t k f s (same_view_id-from f.view.id f.view.id refl) in
    let at = register-stands (is_of f.view.id) t first.0 first.1 in
    subst (λ (ms : List Address). LiesWithin i.together ms) ((views-before t (Installed i) views).agrees at.place k first.0 f at.stands s (same_view_id-true first.0.view.id f.view.id at.passes))
    (m.before f.view.id came first.0 first.1)

-- each who has installed the view is known
knows-each : (t : List Event) (i : Install) → HasRisingViews (t ++ Installed i ∷ []) → KnowsAll t i → (k : ℕ) (e : Install) → slice_get t k ≡ Some (Installed e) → e.view.id ≡ i.view.id → KnowEachOther i e
knows-each t i views m k e s same =
    let before : HasRisingViews t = views-before t (Installed i) views in
    let above : EntersAbove (take k t) e = before.rises k (Installed e) s in
    m.others e.member
    (ap (stands_in e.member) (sym (EachTwoInstalls-left SameMembers t i views.agrees k e s same)) ∙ above.inside)
    e (ap (λ v. entry_of e.member v t) (sym same) ∙ entered t before k e s)

knows-install : (t : List Event) (i : Install) → HasRisingViews (t ++ Installed i ∷ []) → KnowsTogether t → KnowsAll t i → KnowsTogether (t ++ Installed i ∷ [])
knows-install t i views r m =
    let above : EntersAbove t i = EachEvent-last RisesAt t (Installed i) views.rises in
    record {
      within_view = EachInstall-push Inside Inside t i (λ e x. x) r.within_view m.inside;
      within_previous = EachTwoInstalls-push InsideBefore InsideBefore t i (λ e f x. x) r.within_previous (inside-left t i views r) (inside-right t i views m)
          (λ came. absurd (IsBelow-irreflexive i.view.id (above.rises i.view.id came)));
      exact = EachTwoInstalls-push Knows Knows t i (λ e f x. x) r.exact
          (λ k e s same. (knows-each t i views m k e s same).known)
          (λ k e s same. (knows-each t i views m k e s (sym same)).knows)
          (λ same. ((λ x. refl), (λ x. m.itself)));
    }

-- together goes one event further
pub knows-push : (t : List Event) (h : Event) → HasRisingViews (t ++ h ∷ []) → KnowsTogether t → MayKnow t h → KnowsTogether (t ++ h ∷ [])
knows-push t (Installed i) views r m = knows-install t i views r m
knows-push t h views r m = knows-still t h refl r

-- who enters under the rule knows all
knows-all : (t : List Event) (i : Install) → KnowsTogether (t ++ Installed i ∷ []) → KnowsAll t i
knows-all t i r = record {
  inside = r.within_view (length t) i (slice_get-last t (Installed i));
  before = λ v came f e.
      let at = register-stands (is_of v) t f e in
      EachTwoInstalls-right InsideBefore t i r.within_previous at.place f at.stands (came ∙ ap Some (sym (same_view_id-true f.view.id v at.passes)));
  itself = (EachTwoInstalls-last Knows t i r.exact refl).1 refl;
  others = λ q stands f e.
      let at = register-stands (enters q i.view.id) t f e in
      let same : f.view.id ≡ i.view.id = same_view_id-true f.view.id i.view.id (and_parts (same_address f.member q) (same_view_id f.view.id i.view.id) at.passes).1 in
      record {
        knows = EachTwoInstalls-right Knows t i r.exact at.place f at.stands (sym same);
        known = EachTwoInstalls-left Knows t i r.exact at.place f at.stands same;
      };
}

-- what happens under the rule may know
pub knows-needed : (t : List Event) (h : Event) → KnowsTogether (t ++ h ∷ []) → MayKnow t h
knows-needed t (Installed i) r = knows-all t i r
knows-needed t h r = tt
