-- A view's coordinator went through each of its counts, whether or not it is still in the view.
use Rattle.std.proofs.Common.{◌≡◌, ℕ, zero, suc, ◌+◌, ◌<◌, ◌≤◌, Bool, true, false, cond, List, [], ◌∷◌, ◌++◌, length, take, Option, Some, None, slice_get, sym, refl, ap, ◌∙◌, subst, ⊎_elim, take_all, add-one, arith}
use Rattle.std.specs.List.{position_from}
use Rattle.std.proofs.lemmas.Bool.{and_parts, cases_lt, cond-true}
use Rattle.std.proofs.lemmas.List.{take-append-le, length_push}
use Rattle.std.proofs.lemmas.Option.{none-some, slice_get_within}
use Rattle.address.specs.Ids.{Address, ViewId, same_address, same_view_id}
use Rattle.address.proofs.SameIds.{same_view_id-true}
use Rattle.state_transfer.specs.Meanings.{Meaning}
use Rattle.trace_props.specs.declared.event.Event.{Event}
use Rattle.trace_props.specs.declared.event.Event.TheVariants.{Started, Sent, Delivered, Blocked, Installed, Left, Crashed}
use Rattle.trace_props.specs.Observed.{delivered_in, current_view}
use Rattle.trace_props.specs.Rules.{MayStand, IsWellPlaced, HasRisingViews}
use Rattle.trace_props.specs.State.{installs, entry_state}
use Rattle.trace_props.proofs.RulesAlongLists.{EachEvent-before, EachEvent-last, take-next}
use Rattle.trace_props.proofs.ObservedGrow.{current_view-push}
use Rattle.trace_props.proofs.DeliveredGrow.{is_delivery_to, is_delivery_to-true, delivered_in-still, delivered_in-miss}
use Rattle.trace_props.proofs.InstallsOfRisingViews.{by_pushes, views-before}
use Rattle.trace_props.proofs.RuleOfEntry.{entry_state-none}
use Rattle.law_processes.specs.Replicas.{HasDelivered}
use Rattle.law_processes.proofs.CountsArePassed.{WasThere, reaches}

-- a place at which a member was in a view
pub record WasIn (q : Address) (v : ViewId) (t : List Event) : Type 0 where
  pub place : ℕ
  pub within : place ≤ length t
  pub view : current_view q (take place t) ≡ Some v

-- where a list of what was delivered grows, the member is in the view
same-length : (q : Address) (v : ViewId) (t u : List Event) → delivered_in q v u ≡ delivered_in q v t → length (delivered_in q v t) < length (delivered_in q v u) → current_view q u ≡ Some v
same-length q v t u same more = let e : length (delivered_in q v u) ≡ length (delivered_in q v t) = ap length same in absurd (omega (arith, e, more))

grew : (t : List Event) (h : Event) (q : Address) (v : ViewId) → MayStand t h → length (delivered_in q v t) < length (delivered_in q v (t ++ h ∷ [])) → current_view q (t ++ h ∷ []) ≡ Some v
grew t (Started p) q v stands more = same-length q v t (t ++ Started p ∷ []) (delivered_in-still q v t (Started p) refl) more
grew t (Sent s) q v stands more = same-length q v t (t ++ Sent s ∷ []) (delivered_in-still q v t (Sent s) refl) more
grew t (Delivered d) q v stands more = by (is_delivery_to q v d) refl where
  by : (b : Bool) → is_delivery_to q v d ≡ b → current_view q (t ++ Delivered d ∷ []) ≡ Some v
  by false e = same-length q v t (t ++ Delivered d ∷ []) (delivered_in-miss q v t d e) more
  by true e =
      let same = is_delivery_to-true q v d e in
      current_view-push q t (Delivered d) ∙ ap (λ (p : Address). current_view p t) (sym same.0) ∙ stands.1 ∙ ap Some same.1
grew t (Blocked p) q v stands more = same-length q v t (t ++ Blocked p ∷ []) (delivered_in-still q v t (Blocked p) refl) more
grew t (Installed i) q v stands more = same-length q v t (t ++ Installed i ∷ []) (delivered_in-still q v t (Installed i) refl) more
grew t (Left p) q v stands more = same-length q v t (t ++ Left p ∷ []) (delivered_in-still q v t (Left p) refl) more
grew t (Crashed p) q v stands more = same-length q v t (t ++ Crashed p ∷ []) (delivered_in-still q v t (Crashed p) refl) more

Stood : List Event → Type 0
Stood t = IsWellPlaced t → HasRisingViews t → (q : Address) (v : ViewId) (n : ℕ) → WasIn q v t → n ≤ length (delivered_in q v t) → WasThere q v n t

there-later : (q : Address) (v : ViewId) (n : ℕ) (t : List Event) (h : Event) → WasThere q v n t → WasThere q v n (t ++ h ∷ [])
there-later q v n t h was =
    let within : was.place ≤ length t = was.within in
    record {
      place = was.place;
      within = omega (arith, length_push t h);
      there = subst (λ (s : List Event). HasDelivered q v n s) (sym (take-append-le was.place t (h ∷ []) within)) was.there;
    }

stood-push : (t : List Event) (h : Event) → Stood t → Stood (t ++ h ∷ [])
unfolding Stood
stood-push t h r = λ placed views q v n was few.
    let here : current_view q (t ++ h ∷ []) ≡ Some v → WasThere q v n (t ++ h ∷ []) =
    λ view. reaches (t ++ h ∷ []) placed views q v n (length (delivered_in q v (t ++ h ∷ []))) few (record { view = view; many = refl }) in
    ⊎_elim
    (λ (l : length t < was.place).
    here (ap (current_view q) (sym (take_all was.place (t ++ h ∷ []) (omega (arith, l, length_push t h)))) ∙ was.view))
    (λ (l : was.place ≤ length t).
    let before : WasIn q v t = record { place = was.place; within = l; view = ap (current_view q) (sym (take-append-le was.place t (h ∷ []) l)) ∙ was.view } in
    ⊎_elim
    (λ (more : length (delivered_in q v t) < n). here (grew t h q v (EachEvent-last MayStand t h placed) (omega (arith, more, few))))
    (λ (same : n ≤ length (delivered_in q v t)). there-later q v n t h (r (EachEvent-before MayStand t h placed) (views-before t h views) q v n before same))
    (cases_lt (length (delivered_in q v t)) n))
    (cases_lt (length t) was.place)

-- who was in a view went through each count up to that of what it has delivered there
pub stood : (t : List Event) → IsWellPlaced t → HasRisingViews t → (q : Address) (v : ViewId) (n : ℕ) → WasIn q v t → n ≤ length (delivered_in q v t) → WasThere q v n t
unfolding Stood
stood t = by_pushes Stood (λ placed views q v n was few. absurd (none-some v (ap (current_view q) (sym (take_all was.place [] (omega arith))) ∙ was.view))) stood-push t

-- THE COORDINATOR WAS IN THE VIEW

-- where an event that passes stands
record FoundAt {X : Type 0} (p : X → Bool) (xs : List X) : Type 0 where
  pub place : ℕ
  pub item : X
  pub stands : slice_get xs place ≡ Some item
  pub passes : p item ≡ true

found-at : {X : Type 0} (p : X → Bool) (i : ℕ) (xs : List X) (k : ℕ) → position_from p i xs ≡ Some k → FoundAt p xs
found-at p i [] k e = absurd (none-some k e)
found-at p i (x ∷ xs) k e = by (p x) refl e (found-at p (i + 1) xs k) where
  by : (b : Bool) → p x ≡ b → cond b (Some i) (position_from p (i + 1) xs) ≡ Some k → (position_from p (i + 1) xs ≡ Some k → FoundAt p xs) → FoundAt p (x ∷ xs)
  by true is f later = record { place = zero; item = x; stands = refl; passes = is }
  by false is f later = let rest = later f in record { place = suc rest.place; item = rest.item; stands = rest.stands; passes = rest.passes }

installed-there : (t : List Event) (q : Address) (v : ViewId) (k : ℕ) (h : Event) → slice_get t k ≡ Some h → installs q v h ≡ true → current_view q (take (k + 1) t) ≡ Some v
installed-there t q v k (Installed i) s e =
    let both = and_parts (same_address i.member q) (same_view_id i.view.id v) e in
    ap (λ (n : ℕ). current_view q (take n t)) (add-one k)
    ∙ ap (current_view q) (take-next k t (Installed i) s)
    ∙ current_view-push q (take k t) (Installed i)
    ∙ cond-true (same_address i.member q) (Some i.view.id) (current_view q (take k t)) both.0
    ∙ ap Some (same_view_id-true i.view.id v both.1)
installed-there t q v k (Started p) s e = absurd cc
installed-there t q v k (Sent m) s e = absurd cc
installed-there t q v k (Delivered d) s e = absurd cc
installed-there t q v k (Blocked p) s e = absurd cc
installed-there t q v k (Left p) s e = absurd cc
installed-there t q v k (Crashed p) s e = absurd cc

-- a view with a state of entry was installed by its coordinator
pub coordinator-was-in : {S : Type 0} (meaning : Meaning S) (v : ViewId) (t : List Event) (s : S) → entry_state meaning v t ≡ Some s → WasIn v.creator v t
coordinator-was-in meaning v t s e = by (position_from (installs v.creator v) 0 t) refl where
  by : (o : Option ℕ) → position_from (installs v.creator v) 0 t ≡ o → WasIn v.creator v t
  by None none = absurd (none-some s (sym (entry_state-none meaning v t none) ∙ e))
  by (Some k) some =
      let found = found-at (installs v.creator v) 0 t k some in
      record {
        place = found.place + 1;
        within = let in_t = slice_get_within t found.place found.item found.stands in omega (arith, in_t);
        view = installed-there t v.creator v found.place found.item found.stands found.passes;
      }
