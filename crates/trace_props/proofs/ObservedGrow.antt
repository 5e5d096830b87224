-- What one more event changes of what a trace says of a member.
use Rattle.std.proofs.Common.{◌≡◌, Bool, true, false, ◌&&◌, ◌||◌, List, [], ◌∷◌, ◌++◌, Option, Some, None, filter_map, refl, ap, ◌∙◌}
use Rattle.std.specs.List.{list_any, cons_option}
use Rattle.std.proofs.lemmas.Bool.{and_from, and_left, and_right, or_right, or_left, cond-true, cond-false}
use Rattle.std.proofs.lemmas.List.{append-nil}
use Rattle.std.proofs.lemmas.List.Sums.{fold-append}
use Rattle.std.proofs.lemmas.List.Folds.{list_any-append}
use Rattle.std.proofs.lemmas.List.Elements.{filter_map-append}
use Rattle.address.specs.Ids.{Address, ViewId, same_address}
use Rattle.trace_props.specs.declared.event.Event.{Event}
use Rattle.trace_props.specs.declared.event.Event.TheVariants.{Started, Blocked, Installed}
use Rattle.trace_props.specs.declared.event.Install.{Install}
use Rattle.trace_props.specs.Observed.{member_of, is_start, is_end, has_started, has_ended, view_after, current_view, block_after, is_blocked}
use Rattle.address.proofs.SameIds.{same_address-refl}

-- LISTS

-- what a filter passes over adds nothing
pub filter_map-still : {X Y : Type 0} (f : X → Option Y) (xs : List X) (x : X) → f x ≡ None → filter_map f (xs ++ x ∷ []) ≡ filter_map f xs
filter_map-still f xs x e = filter_map-append f xs (x ∷ []) ∙ ap (λ o. filter_map f xs ++ cons_option o []) e ∙ append-nil (filter_map f xs)

-- what it takes stands at the end
pub filter_map-more : {X Y : Type 0} (f : X → Option Y) (xs : List X) (x : X) (y : Y) → f x ≡ Some y → filter_map f (xs ++ x ∷ []) ≡ filter_map f xs ++ y ∷ []
filter_map-more f xs x y e = filter_map-append f xs (x ∷ []) ∙ ap (λ o. filter_map f xs ++ cons_option o []) e

or-false : (b : Bool) → (b || false) ≡ b
or-false true = refl
or-false false = refl

-- a test that fails on the new element answers as before
pub list_any-still : {X : Type 0} (p : X → Bool) (xs : List X) (x : X) → p x ≡ false → list_any p (xs ++ x ∷ []) ≡ list_any p xs
list_any-still p xs x e = list_any-append p xs (x ∷ []) ∙ ap (λ b. list_any p xs || (b || false)) e ∙ or-false (list_any p xs)

-- a test that the new element passes is passed
pub list_any-now : {X : Type 0} (p : X → Bool) (xs : List X) (x : X) → p x ≡ true → list_any p (xs ++ x ∷ []) ≡ true
list_any-now p xs x e = list_any-append p xs (x ∷ []) ∙ ap (λ b. list_any p xs || (b || false)) e ∙ or_right (list_any p xs) true refl

-- what passed once has passed
pub list_any-stays : {X : Type 0} (p : X → Bool) (xs ys : List X) → list_any p xs ≡ true → list_any p (xs ++ ys) ≡ true
list_any-stays p xs ys e = list_any-append p xs ys ∙ or_left (list_any p xs) (list_any p ys) e

-- A MEMBER'S LIFE

-- the member of another event has not started by it
pub has_started-still : (p : Address) (t : List Event) (h : Event) → is_start h ≡ false → has_started p (t ++ h ∷ []) ≡ has_started p t
has_started-still p t h e = list_any-still (λ x. same_address (member_of x) p && is_start x) t h (and_right (same_address (member_of h) p) (is_start h) e)

-- what happens to another does not start this one
pub has_started-other : (p : Address) (t : List Event) (h : Event) → same_address (member_of h) p ≡ false → has_started p (t ++ h ∷ []) ≡ has_started p t
has_started-other p t h e = list_any-still (λ x. same_address (member_of x) p && is_start x) t h (and_left (same_address (member_of h) p) (is_start h) e)

-- a start starts its member
pub has_started-now : (p : Address) (t : List Event) → has_started p (t ++ Started p ∷ []) ≡ true
has_started-now p t = list_any-now (λ x. same_address (member_of x) p && is_start x) t (Started p) (and_from (same_address p p) true (same_address-refl p) refl)

-- who has started has started
pub has_started-stays : (p : Address) (t u : List Event) → has_started p t ≡ true → has_started p (t ++ u) ≡ true
has_started-stays p t u e = list_any-stays (λ x. same_address (member_of x) p && is_start x) t u e

-- only an end ends
pub has_ended-still : (p : Address) (t : List Event) (h : Event) → is_end h ≡ false → has_ended p (t ++ h ∷ []) ≡ has_ended p t
has_ended-still p t h e = list_any-still (λ x. same_address (member_of x) p && is_end x) t h (and_right (same_address (member_of h) p) (is_end h) e)

-- what happens to another does not end this one
pub has_ended-other : (p : Address) (t : List Event) (h : Event) → same_address (member_of h) p ≡ false → has_ended p (t ++ h ∷ []) ≡ has_ended p t
has_ended-other p t h e = list_any-still (λ x. same_address (member_of x) p && is_end x) t h (and_left (same_address (member_of h) p) (is_end h) e)

-- an end ends its member
pub has_ended-now : (t : List Event) (h : Event) → is_end h ≡ true → has_ended (member_of h) (t ++ h ∷ []) ≡ true
has_ended-now t h e = list_any-now (λ x. same_address (member_of x) (member_of h) && is_end x) t h (and_from (same_address (member_of h) (member_of h)) (is_end h) (same_address-refl (member_of h)) e)

-- who has ended has ended
pub has_ended-stays : (p : Address) (t u : List Event) → has_ended p t ≡ true → has_ended p (t ++ u) ≡ true
has_ended-stays p t u e = list_any-stays (λ x. same_address (member_of x) p && is_end x) t u e

-- A MEMBER'S VIEW

-- the newest event changes the current view of before
pub current_view-push : (p : Address) (t : List Event) (h : Event) → current_view p (t ++ h ∷ []) ≡ view_after p (current_view p t) h
current_view-push p t h = fold-append (view_after p) None t (h ∷ [])

-- what happens to another changes no view of this one
view_after-other : (p : Address) (v : Option ViewId) (h : Event) → same_address (member_of h) p ≡ false → view_after p v h ≡ v
view_after-other p v (Installed i) e = cond-false (same_address i.member p) (Some i.view.id) v e
view_after-other p v h e = refl

-- so its current view stays
pub current_view-other : (p : Address) (t : List Event) (h : Event) → same_address (member_of h) p ≡ false → current_view p (t ++ h ∷ []) ≡ current_view p t
current_view-other p t h e = current_view-push p t h ∙ view_after-other p (current_view p t) h e

-- an install makes its view the current one
pub current_view-now : (t : List Event) (i : Install) → current_view i.member (t ++ Installed i ∷ []) ≡ Some i.view.id
current_view-now t i = current_view-push i.member t (Installed i) ∙ cond-true (same_address i.member i.member) (Some i.view.id) (current_view i.member t) (same_address-refl i.member)

-- the newest event blocks, or opens, or neither
pub is_blocked-push : (p : Address) (t : List Event) (h : Event) → is_blocked p (t ++ h ∷ []) ≡ block_after p (is_blocked p t) h
is_blocked-push p t h = fold-append (block_after p) false t (h ∷ [])

-- what happens to another does not block this one, or open it
block_after-other : (p : Address) (b : Bool) (h : Event) → same_address (member_of h) p ≡ false → block_after p b h ≡ b
block_after-other p b (Blocked q) e = cond-false (same_address q p) true b e
block_after-other p b (Installed i) e = cond-false (same_address i.member p) false b e
block_after-other p b h e = refl

-- so it stays blocked or open
pub is_blocked-other : (p : Address) (t : List Event) (h : Event) → same_address (member_of h) p ≡ false → is_blocked p (t ++ h ∷ []) ≡ is_blocked p t
is_blocked-other p t h e = is_blocked-push p t h ∙ block_after-other p (is_blocked p t) h e

-- a block blocks its member
pub is_blocked-now : (p : Address) (t : List Event) → is_blocked p (t ++ Blocked p ∷ []) ≡ true
is_blocked-now p t = is_blocked-push p t (Blocked p) ∙ cond-true (same_address p p) true (is_blocked p t) (same_address-refl p)

-- an install opens its member
pub is_blocked-open : (t : List Event) (i : Install) → is_blocked i.member (t ++ Installed i ∷ []) ≡ false
is_blocked-open t i = is_blocked-push i.member t (Installed i) ∙ cond-true (same_address i.member i.member) false (is_blocked i.member t) (same_address-refl i.member)
