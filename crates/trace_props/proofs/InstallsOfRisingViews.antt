-- What rising views make of the installs that stand in a trace: each is its member's only one of its view, a member's
-- current view is above all that it has left, and the view from which it came it had installed.
use Rattle.std.proofs.Common.{◌≡◌, ℕ, Bool, true, false, List, [], ◌∷◌, ◌++◌, length, take, Option, Some, None, slice_get, cond, sym, refl, ap, ◌∙◌, subst, ◌⊎◌, inl, inr, arith}
use Rattle.std.specs.Option.{option_or}
use Rattle.std.proofs.lemmas.Bool.{and_from, and_parts, cond-true, cond-false}
use Rattle.std.proofs.lemmas.Bool.Decides.{nat_tests}
use Rattle.std.proofs.lemmas.List.{append-nil, append_assoc}
use Rattle.std.proofs.lemmas.Option.{none-some, same_Some}
use Rattle.address.specs.Ids.{Address, ViewId, same_address, same_view_id}
use Rattle.trace_props.specs.declared.event.Event.{Event}
use Rattle.trace_props.specs.declared.event.Event.TheVariants.{Installed}
use Rattle.trace_props.specs.declared.event.Install.{Install}
use Rattle.trace_props.specs.Observed.{current_view, view_after, install_of, entry_of}
use Rattle.trace_props.specs.Rules.{IsBelow, RisesAt, EntersAbove, HasRisingViews}
use Rattle.trace_props.proofs.RulesAlongLists.{slice_get-before, slice_get-last, slice_get-take, EachEvent-before, EachEvent-last}
use Rattle.address.proofs.SameIds.{same_address-true, same_address-refl, same_view_id-true, same_view_id-refl}
use Rattle.trace_props.proofs.ObservedGrow.{current_view-push, current_view-now, current_view-other}
use Rattle.trace_props.proofs.DeliveredGrow.{enters, StandsIn, register-stands, register-stays, register-push}
use Rattle.trace_props.proofs.InstallRulesGrow.{EachInstall, EachInstall-still, EachInstall-push, EachTwoInstalls-before}
use Rattle.trace_props.proofs.KeepFourRules.{SameMembers}

-- what grows from a list keeps what each new element keeps
grown : {H : Type 0} (P : List H → Type 0) → ((t : List H) (h : H) → P t → P (t ++ h ∷ [])) → (t u : List H) → P t → P (t ++ u)
grown P step t [] p = subst P (sym (append-nil t)) p
grown P step t (h ∷ u) p = subst P (append_assoc t (h ∷ []) u) (grown P step (t ++ h ∷ []) u (step t h p))

-- what holds of nothing, and one element further, holds of each list
pub by_pushes : {H : Type 0} (P : List H → Type 0) → P [] → ((t : List H) (h : H) → P t → P (t ++ h ∷ [])) → (t : List H) → P t
by_pushes P none step t = grown P step [] t none

-- THE ORDER OF VIEW IDS

-- no view is below itself
pub IsBelow-irreflexive : (v : ViewId) → IsBelow v v → ⊥
IsBelow-irreflexive v b = grind (arith, nat_tests)

-- what is below one that is below a third is below the third
pub IsBelow-trans : (u v w : ViewId) → IsBelow u v → IsBelow v w → IsBelow u w
IsBelow-trans u v w b c = grind (arith, nat_tests)

-- at most a view: it, or below it
abbrev pub IsUpTo : ViewId → ViewId → Type 0
IsUpTo v w = (v ≡ w) ⊎ IsBelow v w

-- what is at most one that is below another is below the other
pub IsUpTo-below : (u v w : ViewId) → IsUpTo u v → IsBelow v w → IsBelow u w
IsUpTo-below u v w (inl e) b = subst (λ (x : ViewId). IsBelow x w) (sym e) b
IsUpTo-below u v w (inr c) b = IsBelow-trans u v w c b

-- what is below one that is at most another is below the other
pub IsBelow-up_to : (u v w : ViewId) → IsBelow u v → IsUpTo v w → IsBelow u w
IsBelow-up_to u v w b (inl e) = subst (λ (x : ViewId). IsBelow u x) e b
IsBelow-up_to u v w b (inr c) = IsBelow-trans u v w b c

-- RISING VIEWS BEFORE

-- what rises rose before
pub views-before : (t : List Event) (h : Event) → HasRisingViews (t ++ h ∷ []) → HasRisingViews t
views-before t h r = record {
  rises = EachEvent-before RisesAt t h r.rises;
  agrees = EachTwoInstalls-before SameMembers SameMembers t (h ∷ []) (λ e f x. x) r.agrees;
}

-- THE CURRENT VIEW WAS INSTALLED

-- a member's install of a view stands in the trace
pub record HasEntered (p : Address) (v : ViewId) (t : List Event) : Type 0 where
  pub install : Install
  pub at : StandsIn (enters p v) t install

entered-later : (p : Address) (v : ViewId) (t u : List Event) → HasEntered p v t → HasEntered p v (t ++ u)
entered-later p v t u e = record { install = e.install; at = record { place = e.at.place; stands = slice_get-before t u e.at.place (Installed e.install) e.at.stands; passes = e.at.passes } }

ViewStands : Address → List Event → Type 0
ViewStands p t = (v : ViewId) → current_view p t ≡ Some v → HasEntered p v t

view-stands-still : (p : Address) (t : List Event) (h : Event) → view_after p (current_view p t) h ≡ current_view p t → ViewStands p t → ViewStands p (t ++ h ∷ [])
unfolding ViewStands
view-stands-still p t h e r v s = entered-later p v t (h ∷ []) (r v (sym e ∙ sym (current_view-push p t h) ∙ s))

view-stands-install : (p : Address) (t : List Event) (i : Install) (b : Bool) → same_address i.member p ≡ b → ViewStands p t → ViewStands p (t ++ Installed i ∷ [])
unfolding ViewStands
view-stands-install p t i false e r v s =
    entered-later p v t (Installed i ∷ []) (r v (sym (cond-false (same_address i.member p) (Some i.view.id) (current_view p t) e) ∙ sym (current_view-push p t (Installed i)) ∙ s))
view-stands-install p t i true e r v s =
    let same : i.view.id ≡ v = same_Some i.view.id v (sym (cond-true (same_address i.member p) (Some i.view.id) (current_view p t) e) ∙ sym (current_view-push p t (Installed i)) ∙ s) in
    record {
      install = i;
      at = record {
        place = length t;
        stands = slice_get-last t (Installed i);
        passes = and_from (same_address i.member p) (same_view_id i.view.id v) e (subst (λ (w : ViewId). same_view_id i.view.id w ≡ true) same (same_view_id-refl i.view.id));
      };
    }

view-stands-push : (p : Address) (t : List Event) (h : Event) → ViewStands p t → ViewStands p (t ++ h ∷ [])
view-stands-push p t (Installed i) r = view-stands-install p t i (same_address i.member p) refl r
view-stands-push p t h r = view-stands-still p t h refl r

-- the current view of a member is one that it installed
pub view-stands : (p : Address) (t : List Event) (v : ViewId) → current_view p t ≡ Some v → HasEntered p v t
unfolding ViewStands
view-stands p t = by_pushes (ViewStands p) (λ v e. absurd (none-some v e)) (λ u h r. view-stands-push p u h r) t

-- the view from which a member came is one that it installed
pub came-stands : (t : List Event) → HasRisingViews t → (k : ℕ) (e : Install) → slice_get t k ≡ Some (Installed e) → (v : ViewId) → e.previous ≡ Some v → HasEntered e.member v t
came-stands t r k e s v came =
    let above : EntersAbove (take k t) e = r.rises k (Installed e) s in
    let there = view-stands e.member (take k t) v (sym above.previous ∙ came) in
    record { install = there.install; at = record { place = there.at.place; stands = slice_get-take k t there.at.place (Installed there.install) there.at.stands; passes = there.at.passes } }

-- and is below the one to which it went
pub came-below : (t : List Event) → HasRisingViews t → (k : ℕ) (e : Install) → slice_get t k ≡ Some (Installed e) → (v : ViewId) → e.previous ≡ Some v → IsBelow v e.view.id
came-below t r k e s v came =
    let above : EntersAbove (take k t) e = r.rises k (Installed e) s in
    above.rises v came

-- NONE GOES BACK

-- a member's current view is at least the view of each of its installs
pub record IsPassed (t : List Event) (e : Install) : Type 0 where
  pub now : ViewId
  pub is : current_view e.member t ≡ Some now
  pub up_to : IsUpTo e.view.id now

Passes : List Event → Type 0
Passes t = HasRisingViews t → EachInstall (IsPassed t) t

passes-still : (t : List Event) (h : Event) → ((p : Address) → view_after p (current_view p t) h ≡ current_view p t) → install_of h ≡ None → Passes t → Passes (t ++ h ∷ [])
unfolding Passes
passes-still t h same none r views =
    EachInstall-still (IsPassed t) (IsPassed (t ++ h ∷ [])) t h
    (λ e x. record { now = x.now; is = current_view-push e.member t h ∙ same e.member ∙ x.is; up_to = x.up_to })
    none (r (views-before t h views))

passed-on : (t : List Event) (i e : Install) (b : Bool) → same_address i.member e.member ≡ b → EntersAbove t i → IsPassed t e → IsPassed (t ++ Installed i ∷ []) e
passed-on t i e false s above x = record { now = x.now; is = current_view-other e.member t (Installed i) s ∙ x.is; up_to = x.up_to }
passed-on t i e true s above x =
    let same : i.member ≡ e.member = same_address-true i.member e.member s in
    record {
      now = i.view.id;
      is = subst (λ (p : Address). current_view p (t ++ Installed i ∷ []) ≡ Some i.view.id) same (current_view-now t i);
      up_to = inr (IsUpTo-below e.view.id x.now i.view.id x.up_to (above.rises x.now (above.previous ∙ ap (λ p. current_view p t) same ∙ x.is)));
    }

passes-push : (t : List Event) (h : Event) → Passes t → Passes (t ++ h ∷ [])
unfolding Passes
passes-push t (Installed i) r = λ views.
    EachInstall-push (IsPassed t) (IsPassed (t ++ Installed i ∷ [])) t i
    (λ e x. passed-on t i e (same_address i.member e.member) refl (EachEvent-last RisesAt t (Installed i) views.rises) x)
    (r (views-before t (Installed i) views))
    (record { now = i.view.id; is = current_view-now t i; up_to = inl refl })
passes-push t h r = passes-still t h (λ p. refl) refl r

-- under rising views no member goes back
pub passed : (t : List Event) → HasRisingViews t → EachInstall (IsPassed t) t
unfolding Passes
passed t = by_pushes Passes (λ views k e s. absurd (none-some (Installed e) s)) passes-push t

-- who has gone from a view has another one
pub gone : (t : List Event) → HasRisingViews t → (k : ℕ) (e : Install) → slice_get t k ≡ Some (Installed e) → (v : ViewId) → e.previous ≡ Some v → current_view e.member t ≡ Some v → ⊥
gone t r k e s v came there =
    let x = passed t r k e s in
    IsBelow-irreflexive v (subst (λ (w : ViewId). IsBelow v w) (same_Some x.now v (sym x.is ∙ there)) (IsBelow-up_to v e.view.id x.now (came-below t r k e s v came) x.up_to))

-- ONE INSTALL OF A VIEW

-- a member that may install a view has not installed it
pub not-entered : (t : List Event) (i : Install) → HasRisingViews t → EntersAbove t i → (f : Install) → entry_of i.member i.view.id t ≡ Some f → ⊥
not-entered t i r above f e =
    let at = register-stands (enters i.member i.view.id) t f e in
    let parts = and_parts (same_address f.member i.member) (same_view_id f.view.id i.view.id) at.passes in
    let x = passed t r at.place f at.stands in
    let here : current_view i.member t ≡ Some x.now = subst (λ (p : Address). current_view p t ≡ Some x.now) (same_address-true f.member i.member parts.0) x.is in
    IsBelow-irreflexive i.view.id
    (IsUpTo-below i.view.id x.now i.view.id (subst (λ (w : ViewId). IsUpTo w x.now) (same_view_id-true f.view.id i.view.id parts.1) x.up_to) (above.rises x.now (above.previous ∙ here)))

abbrev IsEntry : List Event → Install → Type 0
IsEntry t e = entry_of e.member e.view.id t ≡ Some e

Enters : List Event → Type 0
Enters t = HasRisingViews t → EachInstall (IsEntry t) t

enters-still : (t : List Event) (h : Event) → install_of h ≡ None → Enters t → Enters (t ++ h ∷ [])
unfolding Enters
enters-still t h none r views =
    EachInstall-still (IsEntry t) (IsEntry (t ++ h ∷ [])) t h (λ e x. register-stays (enters e.member e.view.id) t (h ∷ []) e x) none (r (views-before t h views))

-- the register of a first install is written by it
entry-new : (t : List Event) (i : Install) (o : Option Install) → entry_of i.member i.view.id t ≡ o → HasRisingViews t → EntersAbove t i → IsEntry (t ++ Installed i ∷ []) i
entry-new t i None e r above =
    register-push (enters i.member i.view.id) t i ∙ ap (λ o. option_or o (cond (enters i.member i.view.id i) (Some i) None)) e
    ∙ cond-true (enters i.member i.view.id i) (Some i) None (and_from (same_address i.member i.member) (same_view_id i.view.id i.view.id) (same_address-refl i.member) (same_view_id-refl i.view.id))
entry-new t i (Some f) e r above = absurd (not-entered t i r above f e)

enters-push : (t : List Event) (h : Event) → Enters t → Enters (t ++ h ∷ [])
unfolding Enters
enters-push t (Installed i) r = λ views.
    EachInstall-push (IsEntry t) (IsEntry (t ++ Installed i ∷ [])) t i (λ e x. register-stays (enters e.member e.view.id) t (Installed i ∷ []) e x)
    (r (views-before t (Installed i) views))
    (entry-new t i (entry_of i.member i.view.id t) refl (views-before t (Installed i) views) (EachEvent-last RisesAt t (Installed i) views.rises))
enters-push t h r = enters-still t h refl r

-- under rising views each install is its member's one of its view
pub entered : (t : List Event) → HasRisingViews t → EachInstall (IsEntry t) t
unfolding Enters
entered t = by_pushes Enters (λ views k e s. absurd (none-some (Installed e) s)) enters-push t
