-- How members stand one event further.
use Rattle.std.proofs.Common.{◌≡◌, Bool, true, false, cond, List, [], ◌∷◌, ◌++◌, Option, Some, sym, refl, ap, ◌∙◌}
use Rattle.address.specs.Ids.{Address, same_address}
use Rattle.trace_props.specs.declared.event.Event.{Event}
use Rattle.trace_props.specs.declared.event.Event.TheVariants.{Started, Blocked, Installed, Left, Crashed}
use Rattle.trace_rules.specs.declared.known.standing.Standing.{Standing}
use Rattle.trace_props.specs.Observed.{member_of, has_started, has_ended, is_blocked, current_view}
use Rattle.trace_rules.specs.Known.{stood, standing_of, standing_after, KnowsStandings}
use Rattle.address.proofs.SameIds.{same_address-true}
use Rattle.trace_props.proofs.ObservedGrow.{has_started-still, has_started-now, has_started-other, has_ended-still, has_ended-now, has_ended-other, current_view-push, current_view-now, current_view-other, is_blocked-push, is_blocked-now, is_blocked-open, is_blocked-other}

-- equal in each field
stands-as : (p : Address) (t : List Event) (s : Standing) → has_started p t ≡ s.started → has_ended p t ≡ s.ended → is_blocked p t ≡ s.blocked → current_view p t ≡ s.view → standing_of p t ≡ s
stands-as p t s a b c d = λ i. record { started = a i; ended = b i; blocked = c i; view = d i }

-- the member to whom it happens
standing-now : (t : List Event) (h : Event) → standing_of (member_of h) (t ++ h ∷ []) ≡ standing_after (standing_of (member_of h) t) h
standing-now t (Started p) = stands-as p (t ++ Started p ∷ []) _ (has_started-now p t) (has_ended-still p t (Started p) refl) (is_blocked-push p t (Started p)) (current_view-push p t (Started p))
standing-now t (Blocked p) = stands-as p (t ++ Blocked p ∷ []) _ (has_started-still p t (Blocked p) refl) (has_ended-still p t (Blocked p) refl) (is_blocked-now p t) (current_view-push p t (Blocked p))
standing-now t (Installed i) =
    stands-as i.member (t ++ Installed i ∷ []) _ (has_started-still i.member t (Installed i) refl) (has_ended-still i.member t (Installed i) refl) (is_blocked-open t i) (current_view-now t i)
standing-now t (Left p) = stands-as p (t ++ Left p ∷ []) _ (has_started-still p t (Left p) refl) (has_ended-now t (Left p) refl) (is_blocked-push p t (Left p)) (current_view-push p t (Left p))
standing-now t (Crashed p) = stands-as p (t ++ Crashed p ∷ []) _ (has_started-still p t (Crashed p) refl) (has_ended-now t (Crashed p) refl) (is_blocked-push p t (Crashed p)) (current_view-push p t (Crashed p))
standing-now t h = stands-as (member_of h) (t ++ h ∷ []) _ (has_started-still (member_of h) t h refl) (has_ended-still (member_of h) t h refl) (is_blocked-push (member_of h) t h) (current_view-push (member_of h) t h)

-- all others
standing-other : (p : Address) (t : List Event) (h : Event) → same_address (member_of h) p ≡ false → standing_of p (t ++ h ∷ []) ≡ standing_of p t
standing-other p t h e = stands-as p (t ++ h ∷ []) (standing_of p t) (has_started-other p t h e) (has_ended-other p t h e) (is_blocked-other p t h e) (current_view-other p t h e)

standings-at : (m : Address → Option Standing) (t : List Event) (h : Event) (p q : Address) (s : Standing) (b : Bool) → p ≡ member_of h → s ≡ standing_after (stood (m p)) h → same_address p q ≡ b
    → KnowsStandings m t → stood (cond b (Some s) (m q)) ≡ standing_of q (t ++ h ∷ [])
standings-at m t h p q s true who next e r =
    next ∙ ap (λ x. standing_after x h) (r p) ∙ ap (λ x. standing_after (standing_of x t) h) who ∙ sym (standing-now t h) ∙ ap (λ x. standing_of x (t ++ h ∷ [])) (sym who ∙ same_address-true p q e)
standings-at m t h p q s false who next e r = r q ∙ sym (standing-other q t h (ap (λ x. same_address x q) (sym who) ∙ e))

-- how members stand is known one event further
pub standings-noted : (m n : Address → Option Standing) (t : List Event) (h : Event) (p : Address) (s : Standing) → p ≡ member_of h → s ≡ standing_after (stood (m p)) h
    → ((q : Address) → n q ≡ cond (same_address p q) (Some s) (m q)) → KnowsStandings m t → KnowsStandings n (t ++ h ∷ [])
standings-noted m n t h p s who next updates r q = ap stood (updates q) ∙ standings-at m t h p q s (same_address p q) who next refl r
