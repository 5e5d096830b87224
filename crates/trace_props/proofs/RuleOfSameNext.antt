-- Same next view, same list: it goes one event further exactly when who enters delivered as many messages as the first who went from the same view to the same next.
use Rattle.std.proofs.Common.{◌≡◌, ℕ, Bool, true, false, List, [], ◌∷◌, ◌++◌, length, take, Option, Some, None, slice_get, sym, refl, ap, ◌∙◌}
use Rattle.std.proofs.lemmas.Bool.{and_from, and_parts, true≢false}
use Rattle.std.proofs.lemmas.Option.{none-some, same_Some}
use Rattle.address.specs.Ids.{Address, ViewId, same_view_id}
use Rattle.trace_props.specs.declared.event.Event.{Event}
use Rattle.trace_props.specs.declared.event.Event.TheVariants.{Delivered, Installed}
use Rattle.trace_props.specs.declared.event.Install.{Install}
use Rattle.trace_props.specs.declared.event.Delivery.{Delivery}
use Rattle.trace_props.specs.Observed.{delivered_in, current_view, install_of}
use Rattle.trace_props.specs.Rules.{MayStand, HasRisingViews, HasOneOrder, HasSameNext}
use Rattle.trace_props.specs.Agreeing.{is_view, goes, MayMeet}
use Rattle.address.proofs.SameIds.{same_view_id-true, same_view_id-from}
use Rattle.trace_props.proofs.DeliveredGrow.{is_delivery_to, is_delivery_to-true, delivered_in-still, delivered_in-miss, register-stands, register-written}
use Rattle.trace_props.proofs.InstallRulesGrow.{EachInstall, EachTwoInstalls-still, EachTwoInstalls-push, EachTwoInstalls-right}
use Rattle.trace_props.proofs.InstallsOfRisingViews.{gone}

-- two that went from one view to the same next delivered the same there
abbrev pub SameList : List Event → Install → Install → Type 0
SameList t e f = e.view.id ≡ f.view.id → (v : ViewId) → e.previous ≡ Some v → f.previous ≡ Some v → delivered_in e.member v t ≡ delivered_in f.member v t

-- lists under one order that are equally long are equal
pub same-length : (t : List Event) (p q : Address) (v : ViewId) → HasOneOrder t → length (delivered_in p v t) ≡ length (delivered_in q v t) → delivered_in p v t ≡ delivered_in q v t
same-length t p q v order e = order p v ∙ ap (λ n. take n (delivered_in v.creator v t)) e ∙ sym (order q v)

-- an install from a view is from that view by the test
pub is_view-from : (v : ViewId) (o : Option ViewId) → o ≡ Some v → is_view v o ≡ true
is_view-from v None e = absurd (none-some v e)
is_view-from v (Some u) e = same_view_id-from u v (same_Some u v e)

pub is_view-true : (v : ViewId) (o : Option ViewId) → is_view v o ≡ true → o ≡ Some v
is_view-true v None e = absurd (true≢false (sym e))
is_view-true v (Some u) e = ap Some (same_view_id-true u v e)

-- WHERE LISTS STAY

-- an event that leaves the lists of those that have gone keeps the rule
meets-kept : (t : List Event) (h : Event) → install_of h ≡ None
    → ((k : ℕ) (e : Install) (v : ViewId) → slice_get t k ≡ Some (Installed e) → e.previous ≡ Some v → delivered_in e.member v (t ++ h ∷ []) ≡ delivered_in e.member v t)
    → HasSameNext t → HasSameNext (t ++ h ∷ [])
meets-kept t h none same r =
    EachTwoInstalls-still (SameList (t ++ h ∷ [])) (SameList (t ++ h ∷ [])) t h (λ e f x. x) none
    (λ j k e f a b next v left right. same j e v a left ∙ r j k e f a b next v left right ∙ sym (same k f v b right))

-- who has gone from a view delivers nothing more there
gone-delivered : (t : List Event) (d : Delivery) (b : Bool) (k : ℕ) (e : Install) (v : ViewId) → is_delivery_to e.member v d ≡ b → HasRisingViews t → MayStand t (Delivered d)
    → slice_get t k ≡ Some (Installed e) → e.previous ≡ Some v → delivered_in e.member v (t ++ Delivered d ∷ []) ≡ delivered_in e.member v t
gone-delivered t d false k e v test views stands s came = delivered_in-miss e.member v t d test
gone-delivered t d true k e v test views stands s came =
    let same = is_delivery_to-true e.member v d test in
    absurd (gone t views k e s v came (ap (λ p. current_view p t) (sym same.0) ∙ stands.1 ∙ ap Some same.1))

-- WHO ENTERS

-- each who went from the same view to the same next before delivered the same
meets-old : (t : List Event) (i : Install) → HasOneOrder t → HasSameNext t → MayMeet t (Installed i) → EachInstall (λ e. SameList t e i) t
meets-old t i order r m k e s next v left right =
    let first = register-written (goes v i.view.id) t k e s (and_from (same_view_id e.view.id i.view.id) (is_view v e.previous) (same_view_id-from e.view.id i.view.id next) (is_view-from v e.previous left)) in
    let at = register-stands (goes v i.view.id) t first.0 first.1 in
    let way = and_parts (same_view_id first.0.view.id i.view.id) (is_view v first.0.previous) at.passes in
    r k at.place e first.0 s at.stands (next ∙ sym (same_view_id-true first.0.view.id i.view.id way.0)) v left (is_view-true v first.0.previous way.1)
    ∙ same-length t first.0.member i.member v order (m v right first.0 first.1)

-- an install changes no list
list-stays : (t : List Event) (i e f : Install) → SameList t e f → SameList (t ++ Installed i ∷ []) e f
list-stays t i e f x next v left right =
    delivered_in-still e.member v t (Installed i) refl ∙ x next v left right ∙ sym (delivered_in-still f.member v t (Installed i) refl)

-- nor undoes what one more install leaves
list-stayed : (t : List Event) (i e f : Install) → SameList (t ++ Installed i ∷ []) e f → SameList t e f
list-stayed t i e f x next v left right =
    sym (delivered_in-still e.member v t (Installed i) refl) ∙ x next v left right ∙ delivered_in-still f.member v t (Installed i) refl

meets-install : (t : List Event) (i : Install) → HasOneOrder t → HasSameNext t → MayMeet t (Installed i) → HasSameNext (t ++ Installed i ∷ [])
meets-install t i order r m =
    EachTwoInstalls-push (SameList t) (SameList (t ++ Installed i ∷ [])) t i (list-stays t i) r
    (λ k e s. list-stays t i e i (meets-old t i order r m k e s))
    (λ k e s. list-stays t i i e (λ next v left right. sym (meets-old t i order r m k e s (sym next) v right left)))
    (λ next v left right. refl)

-- same next view, same list goes one event further
pub meets-push : (t : List Event) (h : Event) → HasRisingViews t → HasOneOrder t → MayStand t h → HasSameNext t → MayMeet t h → HasSameNext (t ++ h ∷ [])
meets-push t (Delivered d) views order stands r m = meets-kept t (Delivered d) refl (λ k e v s came. gone-delivered t d (is_delivery_to e.member v d) k e v refl views stands s came) r
meets-push t (Installed i) views order stands r m = meets-install t i order r m
meets-push t h views order stands r m = meets-kept t h refl (λ k e v s came. delivered_in-still e.member v t h refl) r

-- what happens under the rule may meet
pub meets-needed : (t : List Event) (h : Event) → HasSameNext (t ++ h ∷ []) → MayMeet t h
meets-needed t (Installed i) r = λ v right f e.
    let at = register-stands (goes v i.view.id) t f e in
    let way = and_parts (same_view_id f.view.id i.view.id) (is_view v f.previous) at.passes in
    ap length (sym (list-stayed t i i f (EachTwoInstalls-right (SameList (t ++ Installed i ∷ [])) t i r at.place f at.stands) (sym (same_view_id-true f.view.id i.view.id way.0)) v right (is_view-true v f.previous way.1)))
meets-needed t h r = tt
