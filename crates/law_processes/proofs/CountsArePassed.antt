-- A member that has delivered so many messages of its view had, at some place, delivered each lower number of them.
use Rattle.std.proofs.Common.{◌≡◌, ℕ, ◌<◌, ◌≤◌, Bool, true, false, List, [], ◌∷◌, ◌++◌, length, take, Some, None, sym, refl, ap, ◌∙◌, subst, ⊎_elim, take_all, arith}
use Rattle.std.proofs.lemmas.Bool.{cases_lt, cond-true, cond-false}
use Rattle.std.proofs.lemmas.List.{take-append-le, length_push}
use Rattle.std.proofs.lemmas.Option.{none-some, same_Some}
use Rattle.address.specs.Ids.{Address, ViewId, same_address}
use Rattle.trace_props.specs.declared.event.Event.{Event}
use Rattle.trace_props.specs.declared.event.Event.TheVariants.{Started, Sent, Delivered, Blocked, Installed, Left, Crashed}
use Rattle.trace_props.specs.Observed.{delivered_message, delivered_in, current_view, view_after}
use Rattle.trace_props.specs.Rules.{MayStand, IsWellPlaced, RisesAt, EntersAbove, HasRisingViews}
use Rattle.trace_props.proofs.RulesAlongLists.{EachEvent-before, EachEvent-last}
use Rattle.address.proofs.SameIds.{same_address-true}
use Rattle.trace_props.proofs.ObservedGrow.{current_view-push}
use Rattle.trace_props.proofs.DeliveredGrow.{is_delivery_to, delivered_in-still, delivered_in-hit}
use Rattle.trace_props.proofs.InstallsOfRisingViews.{by_pushes, views-before}
use Rattle.law_processes.specs.Replicas.{HasDelivered}
use Rattle.law_processes.proofs.StatesAreMade.{nothing-ahead}

-- a place at which a member had delivered so many
pub record WasThere (q : Address) (v : ViewId) (m : ℕ) (t : List Event) : Type 0 where
  pub place : ℕ
  pub within : place ≤ length t
  pub there : HasDelivered q v m (take place t)

-- where it has more now, it had at least so many one event before
record HadSome (q : Address) (v : ViewId) (m : ℕ) (t : List Event) : Type 0 where
  pub many : ℕ
  pub enough : m ≤ many
  pub there : HasDelivered q v many t

had-quiet : (t : List Event) (h : Event) (q : Address) (v : ViewId) (m n : ℕ) → view_after q (current_view q t) h ≡ current_view q t → delivered_message q v h ≡ None → HasDelivered q v n (t ++ h ∷ []) → m < n → HadSome q v m t
had-quiet t h q v m n same none d less = record {
  many = n;
  enough = omega arith;
  there = record { view = sym same ∙ sym (current_view-push q t h) ∙ d.view; many = ap length (sym (delivered_in-still q v t h none)) ∙ d.many };
}

had-some : (t : List Event) (h : Event) → IsWellPlaced (t ++ h ∷ []) → HasRisingViews (t ++ h ∷ []) → (q : Address) (v : ViewId) (m n : ℕ) → HasDelivered q v n (t ++ h ∷ []) → m < n → HadSome q v m t
had-some t (Started p) placed views q v m n d less = had-quiet t (Started p) q v m n refl refl d less
had-some t (Sent s) placed views q v m n d less = had-quiet t (Sent s) q v m n refl refl d less
had-some t (Delivered x) placed views q v m n d less = by (is_delivery_to q v x) refl where
  by : (b : Bool) → is_delivery_to q v x ≡ b → HadSome q v m t
  by false e = had-quiet t (Delivered x) q v m n refl (cond-false (is_delivery_to q v x) (Some x.message) None e) d less
  by true e =
      let long : length (delivered_in q v t ++ x.message ∷ []) ≡ n = ap length (sym (delivered_in-hit q v t x e)) ∙ d.many in
      record {
        many = length (delivered_in q v t);
        enough = omega (arith, long, length_push (delivered_in q v t) x.message);
        there = record { view = sym (current_view-push q t (Delivered x)) ∙ d.view; many = refl };
      }
had-some t (Blocked p) placed views q v m n d less = had-quiet t (Blocked p) q v m n refl refl d less
had-some t (Installed i) placed views q v m n d less = by (same_address i.member q) refl where
  by : (b : Bool) → same_address i.member q ≡ b → HadSome q v m t
  by false e = had-quiet t (Installed i) q v m n (cond-false (same_address i.member q) (Some i.view.id) (current_view q t) e) refl d less
  by true e =
      let same : i.member ≡ q = same_address-true i.member q e in
      let above : EntersAbove t i = EachEvent-last RisesAt t (Installed i) views.rises in
      let now : i.view.id ≡ v = same_Some i.view.id v (sym (cond-true (same_address i.member q) (Some i.view.id) (current_view q t) e) ∙ sym (current_view-push q t (Installed i)) ∙ d.view) in
      let none : delivered_in i.member i.view.id t ≡ [] = nothing-ahead i.member t (EachEvent-before MayStand t (Installed i) placed) (views-before t (Installed i) views) i.view.id (λ w s. above.rises w (above.previous ∙ s)) in
      let none_here : delivered_in q v t ≡ [] = ap (λ (p : Address). delivered_in p v t) (sym same) ∙ ap (λ (w : ViewId). delivered_in i.member w t) (sym now) ∙ none in
      let zero_here : length (delivered_in q v (t ++ Installed i ∷ [])) ≡ 0 = ap length (delivered_in-still q v t (Installed i) refl ∙ none_here) in
      let many : length (delivered_in q v (t ++ Installed i ∷ [])) ≡ n = d.many in
      absurd (omega (arith, zero_here, many))
had-some t (Left p) placed views q v m n d less = had-quiet t (Left p) q v m n refl refl d less
had-some t (Crashed p) placed views q v m n d less = had-quiet t (Crashed p) q v m n refl refl d less

Reaches : List Event → Type 0
Reaches t = IsWellPlaced t → HasRisingViews t → (q : Address) (v : ViewId) (m n : ℕ) → m ≤ n → HasDelivered q v n t → WasThere q v m t

reaches-push : (t : List Event) (h : Event) → Reaches t → Reaches (t ++ h ∷ [])
unfolding Reaches
reaches-push t h r = λ placed views q v m n le d.
    ⊎_elim
    (λ (l : m < n).
    let had = had-some t h placed views q v m n d l in
    let was = r (EachEvent-before MayStand t h placed) (views-before t h views) q v m had.many had.enough had.there in
    let within : was.place ≤ length t = was.within in
    record {
      place = was.place;
      within = omega (arith, length_push t h);
      there = subst (λ (s : List Event). HasDelivered q v m s) (sym (take-append-le was.place t (h ∷ []) within)) was.there;
    })
    (λ (g : n ≤ m).
    let same : n ≡ m = omega arith in
    record {
      place = length (t ++ h ∷ []);
      within = omega arith;
      there = subst (λ (s : List Event). HasDelivered q v m s) (sym (take_all (length (t ++ h ∷ [])) (t ++ h ∷ []) (omega arith))) (subst (λ (x : ℕ). HasDelivered q v x (t ++ h ∷ [])) same d);
    })
    (cases_lt m n)

-- a member went through each count that is not above its own
pub reaches : (t : List Event) → IsWellPlaced t → HasRisingViews t → (q : Address) (v : ViewId) (m n : ℕ) → m ≤ n → HasDelivered q v n t → WasThere q v m t
unfolding Reaches
reaches t = by_pushes Reaches (λ placed views q v m n le d. absurd (none-some v d.view)) reaches-push t
