-- What one more event changes of a view's order and of a member's tally there.
use Rattle.std.proofs.Common.{◌≡◌, ℕ, ◌≤◌, Bool, true, false, cond, ◌&&◌, None, List, [], ◌∷◌, ◌++◌, map, refl, sym, ap, ◌∙◌, subst, arith}
use Rattle.std.proofs.lemmas.Bool.{cond-false, and_left}
use Rattle.std.proofs.lemmas.List.{map-append}
use Rattle.std.proofs.lemmas.List.Sums.{fold-append}
use Rattle.address.specs.Ids.{Address, ViewId, same_address, same_view_id}
use Rattle.trace_props.specs.declared.event.Event.{Event}
use Rattle.trace_props.specs.declared.event.Event.TheVariants.{Started, Sent, Delivered, Blocked, Installed, Left, Crashed}
use Rattle.trace_props.specs.declared.event.Delivery.{Delivery}
use Rattle.trace_props.specs.Observed.{member_of, delivered_in, delivered_message}
use Rattle.trace_props.proofs.DeliveredGrow.{is_delivery_to, delivered_in-still, delivered_in-miss, delivered_in-hit, delivered_in-other}
use Rattle.law_acts.specs.Words.{entry_for, list_of, Phase, Before, Open, Past, opened, blocked, counted, Tally, tally_of, tally_after, no_tally, open_count, IsClosed}

-- ---- the order

-- an event that delivers nothing
pub list_of-still : (p : Address) (v : ViewId) (t : List Event) (h : Event) → delivered_message p v h ≡ None → list_of p v (t ++ h ∷ []) ≡ list_of p v t
unfolding list_of
list_of-still p v t h e = ap (map entry_for) (delivered_in-still p v t h e)

-- what another delivers, or in another view
pub list_of-miss : (p : Address) (v : ViewId) (t : List Event) (d : Delivery) → is_delivery_to p v d ≡ false → list_of p v (t ++ Delivered d ∷ []) ≡ list_of p v t
unfolding list_of
list_of-miss p v t d e = ap (map entry_for) (delivered_in-miss p v t d e)

-- one message more
pub list_of-hit : (p : Address) (v : ViewId) (t : List Event) (d : Delivery) → is_delivery_to p v d ≡ true → list_of p v (t ++ Delivered d ∷ []) ≡ list_of p v t ++ entry_for d.message ∷ []
unfolding list_of
list_of-hit p v t d e = ap (map entry_for) (delivered_in-hit p v t d e) ∙ map-append entry_for (delivered_in p v t) (d.message ∷ [])

-- what happens to another
pub list_of-other : (p : Address) (v : ViewId) (t : List Event) (h : Event) → same_address (member_of h) p ≡ false → list_of p v (t ++ h ∷ []) ≡ list_of p v t
unfolding list_of
list_of-other p v t h e = ap (map entry_for) (delivered_in-other p v t h e)

-- ---- the tally

-- one event more
pub tally_of-push : (p : Address) (v : ViewId) (t : List Event) (h : Event) → tally_of p v (t ++ h ∷ []) ≡ tally_after p v (tally_of p v t) h
unfolding tally_of
tally_of-push p v t h = fold-append (tally_after p v) no_tally t (h ∷ [])

either : (b : Bool) (x : Tally) → cond b x x ≡ x
either true x = refl
either false x = refl

-- a tally that is past changes no more
past-after : (p : Address) (v : ViewId) (n : ℕ) (h : Event) → tally_after p v (record { phase = Past; count = n }) h ≡ record { phase = Past; count = n }
past-after p v n (Started q) = refl
past-after p v n (Sent m) = refl
past-after p v n (Delivered d) = either (same_address d.member p && same_view_id d.view v) (record { phase = Past; count = n })
past-after p v n (Blocked q) = either (same_address q p) (record { phase = Past; count = n })
past-after p v n (Installed i) = either (same_address i.member p && same_view_id i.view.id v) (record { phase = Past; count = n })
past-after p v n (Left q) = refl
past-after p v n (Crashed q) = refl

-- who was blocked in a view counts no more there
pub tally_of-closed : (p : Address) (v : ViewId) (t : List Event) (h : Event) → IsClosed p v t → tally_of p v (t ++ h ∷ []) ≡ tally_of p v t
tally_of-closed p v t h closed =
    let now : tally_of p v t ≡ record { phase = Past; count = open_count p v t } = ap {B = Tally} (λ (f : Phase). record { phase = f; count = open_count p v t }) closed in
    tally_of-push p v t h ∙ ap (λ s. tally_after p v s h) now ∙ past-after p v (open_count p v t) h ∙ sym now

counts-more : (b : Bool) (f g : Phase) (n m : ℕ) → n ≤ m → n ≤ (cond {A = Tally} b (record { phase = f; count = m }) (record { phase = g; count = n })).count
counts-more true f g n m le = le
counts-more false f g n m le = omega arith

counted-more : (f : Phase) (n : ℕ) → n ≤ counted f n
counted-more Before n = omega arith
counted-more Open n = omega arith
counted-more Past n = omega arith

count-after : (p : Address) (v : ViewId) (s : Tally) (h : Event) → s.count ≤ (tally_after p v s h).count
count-after p v s (Started q) = omega arith
count-after p v s (Sent m) = omega arith
count-after p v s (Delivered d) =
    counts-more (same_address d.member p && same_view_id d.view v) s.phase s.phase s.count (counted s.phase s.count) (counted-more s.phase s.count)
count-after p v s (Blocked q) = counts-more (same_address q p) (blocked s.phase) s.phase s.count s.count (omega arith)
count-after p v s (Installed i) = counts-more (same_address i.member p && same_view_id i.view.id v) (opened s.phase) s.phase s.count s.count (omega arith)
count-after p v s (Left q) = omega arith
count-after p v s (Crashed q) = omega arith

-- counts never fall
pub open_count-grows : (p : Address) (v : ViewId) (t : List Event) (h : Event) → open_count p v t ≤ open_count p v (t ++ h ∷ [])
open_count-grows p v t h = subst (λ (s : Tally). open_count p v t ≤ s.count) (sym (tally_of-push p v t h)) (count-after p v (tally_of p v t) h)

after-other : (p : Address) (v : ViewId) (s : Tally) (h : Event) → same_address (member_of h) p ≡ false → tally_after p v s h ≡ s
after-other p v s (Started q) e = refl
after-other p v s (Sent m) e = refl
after-other p v s (Delivered d) e =
    cond-false (same_address d.member p && same_view_id d.view v) (record { phase = s.phase; count = counted s.phase s.count }) s (and_left (same_address d.member p) (same_view_id d.view v) e)
after-other p v s (Blocked q) e = cond-false (same_address q p) (record { phase = blocked s.phase; count = s.count }) s e
after-other p v s (Installed i) e =
    cond-false (same_address i.member p && same_view_id i.view.id v) (record { phase = opened s.phase; count = s.count }) s (and_left (same_address i.member p) (same_view_id i.view.id v) e)
after-other p v s (Left q) e = refl
after-other p v s (Crashed q) e = refl

-- what happens to another leaves a member's tally
pub tally_of-other : (p : Address) (v : ViewId) (t : List Event) (h : Event) → same_address (member_of h) p ≡ false → tally_of p v (t ++ h ∷ []) ≡ tally_of p v t
tally_of-other p v t h e = tally_of-push p v t h ∙ after-other p v (tally_of p v t) h e
