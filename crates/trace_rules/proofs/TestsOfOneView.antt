-- The tests decide the conditions on the next event: the rules that speak of one view at a time.
use Rattle.std.proofs.Common.{◌≡◌, ℕ, ◌+◌, Bool, true, false, ◌&&◌, ◌||◌, not, List, length, Option, Some, None, is_some, slice_get, nat_eq, is_lt, sym, refl, ap, ◌∙◌, subst}
use Rattle.std.specs.Bool.{Decides}
use Rattle.std.specs.Option.{ForSome, option_map_or}
use Rattle.std.specs.Str.{bytes_eq}
use Rattle.std.specs.Cmp.Lexicographic.{pointwise}
use Rattle.std.specs.declared.cmp.Ordering.{Ordering}
use Rattle.std.specs.declared.cmp.Ordering.TheVariants.{Less, Equal, Greater}
use Rattle.std.proofs.lemmas.Bool.{true≢false, not_from_false, not-true}
use Rattle.std.proofs.lemmas.Bool.Decides.{Decides-and, Decides-at, Decides-eqb}
use Rattle.std.proofs.lemmas.Option.{none-some, same_Some}
use Rattle.std.proofs.lemmas.Slice.Eq.{slice_eq-Decides, bytes_eq-Decides}
use Rattle.address.specs.Ids.{Address, ViewId, same_address, view_id_cmp}
use Rattle.view.specs.Members.{stands_in}
use Rattle.trace_props.specs.declared.event.Event.{Event}
use Rattle.trace_props.specs.declared.event.Event.TheVariants.{Started, Sent, Delivered, Blocked, Installed}
use Rattle.trace_props.specs.declared.event.Numbered.{Numbered}
use Rattle.trace_props.specs.declared.event.Install.{Install}
use Rattle.trace_props.specs.declared.event.Delivery.{Delivery}
use Rattle.trace_props.specs.Observed.{member_of, has_started, has_ended, current_view, is_blocked, delivered_in, sent_in, own, numbered, first_install}
use Rattle.trace_props.specs.Rules.{IsRunning, MayStand, IsBelow}
use Rattle.trace_props.specs.Following.{MayRise, MayCarry}
use Rattle.trace_props.specs.Agreeing.{is_view}
use Rattle.trace_rules.specs.Known.{standing_of}
use Rattle.trace_rules.specs.Judged.{runs, stands, same_previous, is_below, has_members, rises, is_numbered, is_message}
use Rattle.address.proofs.SameIds.{same_address-true, same_address-from, same_view_id-true, same_view_id-from}
use Rattle.trace_props.proofs.RuleOfSameNext.{is_view-from, is_view-true}

-- TESTS

-- a test under the same condition
pub same-decides : {P Q : Type 0} (a : Bool) → Decides a P → (P → Q) → (Q → P) → Decides a Q
same-decides a p f g = ((λ e. f (p.0 e)), (λ x. p.1 (g x)))

-- a test of an event that is this one
pub of-event : (P : Event → Type 0) (h g : Event) (b c : Bool) → h ≡ g → b ≡ c → Decides c (P g) → Decides b (P h)
of-event P h g b c e same d = Decides-at b c same (subst (λ (x : Event). Decides c (P x)) (sym e) d)

-- a test of what is there, if it is
pub some-decides : {X : Type 0} (o : Option X) (test : X → Bool) (P : X → Type 0) → ((x : X) → Decides (test x) (P x)) → Decides (option_map_or test o true) (ForSome o P)
some-decides None test P d = ((λ e x s. absurd (none-some x s)), (λ f. refl))
some-decides (Some x) test P d = ((λ e y s. subst P (same_Some x y s) ((d x).0 e)), (λ f. (d x).1 (f x refl)))

-- a flag that is set, or is not
true-decides : (a : Bool) → Decides a (a ≡ true)
true-decides a = ((λ e. e), (λ e. e))

not-decides : (a : Bool) → Decides (not a) (a ≡ false)
not-decides a = ((λ e. not-true a e), (λ e. not_from_false a e))

is_view-decides : (v : ViewId) (o : Option ViewId) → Decides (is_view v o) (o ≡ Some v)
is_view-decides v o = ((λ e. is_view-true v o e), (λ e. is_view-from v o e))

same_address-decides : (a b : Address) → Decides (same_address a b) (a ≡ b)
same_address-decides a b = ((λ e. same_address-true a b e), (λ e. same_address-from a b e))

-- WELL PLACED

runs-decides : (p : Address) (t : List Event) → Decides (runs (standing_of p t)) (IsRunning p t)
runs-decides p t = same-decides (has_started p t && not (has_ended p t)) (Decides-and (has_started p t) (not (has_ended p t)) (true-decides (has_started p t)) (not-decides (has_ended p t)))
    (λ x. record { started = x.0; going = x.1 }) (λ r. (r.started, r.going))

-- three tests together
pub and3-decides : {P Q R : Type 0} (a b c : Bool) → Decides a P → Decides b Q → Decides c R → Decides (a && b && c) (P × Q × R)
and3-decides a b c p q r = same-decides (a && b && c) (Decides-and (a && b) c (Decides-and a b p q) r) (λ x. (x.0.0, x.0.1, x.1)) (λ x. ((x.0, x.1), x.2))

-- the test decides whether an event may stand
pub stands-decides : (t : List Event) (h : Event) → Decides (stands (standing_of (member_of h) t) h) (MayStand t h)
stands-decides t (Started p) = not-decides (has_started p t)
stands-decides t (Sent s) = and3-decides _ _ _ (runs-decides s.member t) (is_view-decides s.view (current_view s.member t)) (not-decides (is_blocked s.member t))
stands-decides t (Delivered d) = Decides-and _ _ (runs-decides d.member t) (is_view-decides d.view (current_view d.member t))
stands-decides t (Blocked p) = and3-decides _ _ _ (runs-decides p t) (true-decides (is_some (current_view p t))) (not-decides (is_blocked p t))
stands-decides t h = runs-decides (member_of h) t

-- RISING VIEWS

pub previous-decides : (a b : Option ViewId) → Decides (same_previous a b) (a ≡ b)
previous-decides None None = ((λ e. refl), (λ e. refl))
previous-decides None (Some v) = ((λ e. absurd (true≢false (sym e))), (λ e. absurd (none-some v e)))
previous-decides (Some u) None = ((λ e. absurd (true≢false (sym e))), (λ e. absurd (none-some u (sym e))))
previous-decides (Some u) (Some v) = ((λ e. ap Some (same_view_id-true u v e)), (λ e. same_view_id-from u v (same_Some u v e)))

less-decides : (o : Ordering) → Decides (is_lt o) (o ≡ Less)
less-decides Less = ((λ e. refl), (λ e. refl))
less-decides Equal = ((λ e. absurd (true≢false (sym e))), (λ e. ap is_lt e))
less-decides Greater = ((λ e. absurd (true≢false (sym e))), (λ e. ap is_lt e))

below-decides : (o : Option ViewId) (w : ViewId) → Decides (is_below o w) (ForSome o (λ v. IsBelow v w))
below-decides o w = some-decides o _ (λ v. IsBelow v w) (λ v. less-decides (view_id_cmp v w))

members-decides : (o : Option Install) (ms : List Address) → Decides (has_members o ms) (ForSome o (λ f. f.view.members ≡ ms))
members-decides o ms = some-decides o _ (λ f. f.view.members ≡ ms) (λ f. slice_eq-Decides same_address-decides f.view.members ms (pointwise same_address f.view.members ms) refl)

-- the test decides whether an install may rise
pub rises-decides : (t : List Event) (i : Install) → Decides (rises (current_view i.member t) (first_install i.view.id t) i) (MayRise t (Installed i))
rises-decides t i =
    same-decides (rises (current_view i.member t) (first_install i.view.id t) i)
    (Decides-and (stands_in i.member i.view.members && same_previous i.previous (current_view i.member t) && is_below i.previous i.view.id) (has_members (first_install i.view.id t) i.view.members)
    (and3-decides (stands_in i.member i.view.members) (same_previous i.previous (current_view i.member t)) (is_below i.previous i.view.id)
    (true-decides (stands_in i.member i.view.members)) (previous-decides i.previous (current_view i.member t)) (below-decides i.previous i.view.id))
    (members-decides (first_install i.view.id t) i.view.members))
    (λ x. (record { inside = x.0.0; previous = x.0.1; rises = x.0.2 }, x.1))
    (λ m. ((m.0.inside, m.0.previous, m.0.rises), m.1))

-- SOUND MESSAGES

-- equal in number and payload
pub numbered-decides : (o : Option Numbered) (m : Numbered) → Decides (is_numbered o m) (o ≡ Some m)
numbered-decides None m = ((λ e. absurd (true≢false (sym e))), (λ e. absurd (none-some m e)))
numbered-decides (Some n) m =
    same-decides (nat_eq n.number m.number && bytes_eq n.payload m.payload)
    (Decides-and (nat_eq n.number m.number) (bytes_eq n.payload m.payload) (Decides-eqb n.number m.number) (bytes_eq-Decides n.payload m.payload))
    (λ x. ap {B = Option Numbered} (λ (a : ℕ). Some (record { number = a; payload = n.payload })) x.0 ∙ ap {B = Option Numbered} (λ (a : List ℕ). Some (record { number = m.number; payload = a })) x.1)
    (λ e. let same = same_Some n m e in (ap (λ y. y.number) same, ap (λ y. y.payload) same))

-- the test decides whether a message may be delivered
pub deliver-decides : (t : List Event) (d : Delivery)
    → Decides
    (nat_eq d.message.number (length (own d.message.sender (delivered_in d.member d.view t)) + 1)
    && is_numbered (slice_get (sent_in d.message.sender d.view t) (length (own d.message.sender (delivered_in d.member d.view t)))) (numbered d.message))
    (MayCarry t (Delivered d))
deliver-decides t d = Decides-and _ _ (Decides-eqb _ _) (numbered-decides _ (numbered d.message))

-- ONE ORDER

-- where the member is not the first one, the test asks what that one delivered
pub order-else : (t : List Event) (d : Delivery) (a : Address) (e r : Bool) → a ≡ d.view.creator → e ≡ same_address d.member a → e ≡ false
    → r ≡ is_message (slice_get (delivered_in a d.view t) (length (delivered_in d.member d.view t))) d.message
    → r ≡ (same_address d.member d.view.creator || is_message (slice_get (delivered_in d.view.creator d.view t) (length (delivered_in d.member d.view t))) d.message)
order-else t d a e r first test apart is =
    is ∙ ap (λ x. is_message (slice_get (delivered_in x d.view t) (length (delivered_in d.member d.view t))) d.message) first
    ∙ ap (λ x. x || is_message (slice_get (delivered_in d.view.creator d.view t) (length (delivered_in d.member d.view t))) d.message) (sym apart ∙ test ∙ ap (same_address d.member) first)
