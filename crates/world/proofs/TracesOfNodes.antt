-- A node's last member, and who has started, some events further.
use Rattle.std.proofs.Common.{◌≡◌, ℕ, ◌≤◌, Bool, true, false, Some, None, List, [], ◌∷◌, ◌++◌, nat_eq, sym, refl, ap, ◌∙◌, subst, arith, append_assoc}
use Rattle.std.specs.Option.{option_map_or}
use Rattle.std.proofs.lemmas.Bool.{cond-true, cond-false, eq-eqb, eqb-true}
use Rattle.std.proofs.lemmas.List.{append-nil}
use Rattle.std.proofs.lemmas.List.Sums.{fold-append}
use Rattle.address.specs.Ids.{Address, same_address}
use Rattle.trace_props.specs.declared.event.Event.{Event}
use Rattle.trace_props.specs.declared.event.Event.TheVariants.{Started, Sent, Delivered, Blocked, Installed, Left, Crashed}
use Rattle.trace_props.specs.Observed.{member_of, is_start, has_started}
use Rattle.address.proofs.SameIds.{same_address-true}
use Rattle.trace_props.proofs.ObservedGrow.{has_started-other, has_started-still}
use Rattle.world_model.specs.Histories.{last_of, last_after}
use Rattle.world.specs.Invariant.{StartsInTurn, top_of}
use Rattle.law_processes.proofs.ActsAreOwn.{EachOwn}

-- the newest event changes a node's last member
pub last_of-push : (n : ℕ) (t : List Event) (h : Event) → last_of n (t ++ h ∷ []) ≡ last_after n (last_of n t) h
last_of-push n t h = fold-append (last_after n) None t (h ∷ [])

-- only a start does
pub last_of-still : (n : ℕ) (t : List Event) (h : Event) → is_start h ≡ false → last_of n (t ++ h ∷ []) ≡ last_of n t
last_of-still n t (Started p) e = absurd (let bad : true ≡ false = e in cc)
last_of-still n t (Sent s) e = last_of-push n t (Sent s)
last_of-still n t (Delivered d) e = last_of-push n t (Delivered d)
last_of-still n t (Blocked p) e = last_of-push n t (Blocked p)
last_of-still n t (Installed i) e = last_of-push n t (Installed i)
last_of-still n t (Left p) e = last_of-push n t (Left p)
last_of-still n t (Crashed p) e = last_of-push n t (Crashed p)

-- and that at its own node
pub last_of-other : (n : ℕ) (t : List Event) (h : Event) → nat_eq (member_of h).node n ≡ false → last_of n (t ++ h ∷ []) ≡ last_of n t
last_of-other n t (Started p) e = last_of-push n t (Started p) ∙ cond-false (nat_eq p.node n) (Some p) (last_of n t) e
last_of-other n t (Sent s) e = last_of-push n t (Sent s)
last_of-other n t (Delivered d) e = last_of-push n t (Delivered d)
last_of-other n t (Blocked p) e = last_of-push n t (Blocked p)
last_of-other n t (Installed i) e = last_of-push n t (Installed i)
last_of-other n t (Left p) e = last_of-push n t (Left p)
last_of-other n t (Crashed p) e = last_of-push n t (Crashed p)

pub last_of-now : (p : Address) (t : List Event) → last_of p.node (t ++ Started p ∷ []) ≡ Some p
last_of-now p t = last_of-push p.node t (Started p) ∙ cond-true (nat_eq p.node p.node) (Some p) (last_of p.node t) (eq-eqb p.node p.node refl)

-- who starts has the greatest incarnation of its node
abbrev pub IsNextStart : List Event → Event → Type 0
IsNextStart t (Started p) = top_of p.node t ≤ p.incarnation
IsNextStart t (Sent s) = Unit {0}
IsNextStart t (Delivered d) = Unit {0}
IsNextStart t (Blocked p) = Unit {0}
IsNextStart t (Installed i) = Unit {0}
IsNextStart t (Left p) = Unit {0}
IsNextStart t (Crashed p) = Unit {0}

-- a start of p, seen from an address r of the same node or another
starts-now : (t : List Event) (p r : Address) → StartsInTurn t → top_of p.node t ≤ p.incarnation
    → (b : Bool) → nat_eq p.node r.node ≡ b → (same : Bool) → same_address p r ≡ same → has_started r (t ++ Started p ∷ []) ≡ true → r.incarnation ≤ top_of r.node (t ++ Started p ∷ [])
starts-now t p r before next b e true s now =
    let is : p ≡ r = same_address-true p r s in
    let last : last_of r.node (t ++ Started p ∷ []) ≡ Some r = subst (λ (x : Address). last_of x.node (t ++ Started p ∷ []) ≡ Some x) is (last_of-now p t) in
    let eq : top_of r.node (t ++ Started p ∷ []) ≡ r.incarnation = ap (λ o. option_map_or (λ (x : Address). x.incarnation) o 0) last in
    omega arith
starts-now t p r before next true e false s now =
    let was : has_started r t ≡ true = sym (has_started-other r t (Started p) s) ∙ now in
    let low : r.incarnation ≤ top_of r.node t = before r was in
    let node : p.node ≡ r.node = eqb-true p.node r.node e in
    let mid : top_of r.node t ≤ p.incarnation = subst (λ (n : ℕ). top_of n t ≤ p.incarnation) node next in
    let last : last_of r.node (t ++ Started p ∷ []) ≡ Some p = last_of-push r.node t (Started p) ∙ cond-true (nat_eq p.node r.node) (Some p) (last_of r.node t) e in
    let eq : top_of r.node (t ++ Started p ∷ []) ≡ p.incarnation = ap (λ o. option_map_or (λ (x : Address). x.incarnation) o 0) last in
    omega arith
starts-now t p r before next false e false s now =
    let was : has_started r t ≡ true = sym (has_started-other r t (Started p) s) ∙ now in
    let low : r.incarnation ≤ top_of r.node t = before r was in
    let eq : top_of r.node (t ++ Started p ∷ []) ≡ top_of r.node t = ap (λ o. option_map_or (λ (x : Address). x.incarnation) o 0) (last_of-other r.node t (Started p) e) in
    omega arith

starts-still : (t : List Event) (h : Event) (r : Address) → StartsInTurn t → is_start h ≡ false
    → has_started r (t ++ h ∷ []) ≡ true → r.incarnation ≤ top_of r.node (t ++ h ∷ [])
starts-still t h r before e now =
    let low : r.incarnation ≤ top_of r.node t = before r (sym (has_started-still r t h e) ∙ now) in
    let eq : top_of r.node (t ++ h ∷ []) ≡ top_of r.node t = ap (λ o. option_map_or (λ (x : Address). x.incarnation) o 0) (last_of-still r.node t h e) in
    omega arith

pub starts-push : (t : List Event) (h : Event) → StartsInTurn t → IsNextStart t h
    → (r : Address) → has_started r (t ++ h ∷ []) ≡ true → r.incarnation ≤ top_of r.node (t ++ h ∷ [])
starts-push t (Started p) before next r now = starts-now t p r before next (nat_eq p.node r.node) refl (same_address p r) refl now
starts-push t (Sent s) before next r now = starts-still t (Sent s) r before refl now
starts-push t (Delivered d) before next r now = starts-still t (Delivered d) r before refl now
starts-push t (Blocked p) before next r now = starts-still t (Blocked p) r before refl now
starts-push t (Installed i) before next r now = starts-still t (Installed i) r before refl now
starts-push t (Left p) before next r now = starts-still t (Left p) r before refl now
starts-push t (Crashed p) before next r now = starts-still t (Crashed p) r before refl now

-- ---- events that are no starts

not-start : (t : List Event) (x : Event) → is_start x ≡ false → IsNextStart t x
not-start t (Started p) e = absurd (let bad : true ≡ false = e in cc)
not-start t (Sent s) e = tt
not-start t (Delivered d) e = tt
not-start t (Blocked p) e = tt
not-start t (Installed i) e = tt
not-start t (Left p) e = tt
not-start t (Crashed p) e = tt

-- leave a node's last member
pub last_of-own : (n : ℕ) (p : Address) (t s : List Event) → EachOwn p s → last_of n (t ++ s) ≡ last_of n t
last_of-own n p t [] own = ap (last_of n) (append-nil t)
last_of-own n p t (x ∷ s) own =
    ap (last_of n) (sym (append_assoc t (x ∷ []) s)) ∙ last_of-own n p (t ++ x ∷ []) s own.1 ∙ last_of-still n t x own.0.1

-- and who started in which turn
pub starts-own : (p : Address) (t s : List Event) → EachOwn p s → StartsInTurn t → StartsInTurn (t ++ s)
starts-own p t [] own i = subst StartsInTurn (sym (append-nil t)) i
starts-own p t (x ∷ s) own i =
    subst StartsInTurn (append_assoc t (x ∷ []) s) (starts-own p (t ++ x ∷ []) s own.1 (starts-push t x i (not-start t x own.0.1)))

pub starts-none : StartsInTurn []
starts-none p now = absurd (let bad : false ≡ true = now in cc)
