-- A member makes a view: it is the first to install it, so of other installs of that view nothing is asked.
use Rattle.std.proofs.Common.{◌≡◌, Bool, true, false, cond, Option, Some, None, List, [], ◌∷◌, ◌++◌, length, drop, refl, sym, ap, ◌∙◌, subst, is_some, MatchOption, find, unwrap_or, option_and_then}
use Rattle.std.specs.Option.{ForSome, option_or}
use Rattle.std.proofs.lemmas.Bool.{and_from, and_parts, and_right, cond-true}
use Rattle.std.proofs.lemmas.Option.{none-some}
use Rattle.address.specs.Ids.{Address, ViewId, same_address, same_view_id}
use Rattle.view.specs.Members.{stands_in}
use Rattle.state_transfer.specs.Meanings.{Meaning}
use Rattle.trace_props.specs.declared.event.Event.{Event}
use Rattle.trace_props.specs.declared.event.Event.TheVariants.{Started, Sent, Delivered, Blocked, Installed, Left, Crashed}
use Rattle.trace_props.specs.declared.event.Install.{Install}
use Rattle.trace_props.specs.Observed.{delivered_in, sent_in, own, installs_in, entry_of, first_install}
use Rattle.trace_props.specs.Rules.{IsRunning, EntersAbove, LiesWithin}
use Rattle.trace_props.specs.State.{state_of, installs, entry_state}
use Rattle.trace_props.specs.Agreeing.{is_view, goes, first_from}
use Rattle.trace_props.specs.Verdicts.{GoesOn}
use Rattle.address.proofs.SameIds.{same_address-refl, same_view_id-refl}
use Rattle.trace_props.proofs.DeliveredGrow.{enters, register-stands, register-written, register-still, register-push}
use Rattle.trace_props.proofs.InstallsOfRisingViews.{by_pushes}
use Rattle.trace_props.proofs.RuleOfEntry.{state_of-push}
use Rattle.trace_props.proofs.RuleOfEntry.{entry_state-push}
use Rattle.law_acts.specs.Histories.{History}
use Rattle.law_acts.specs.Invariant.{EachEntry}
use Rattle.address.proofs.Plain.{option_or-none}

-- ---- a view that nobody installed

-- where nothing can be found nothing is
pub none-of : {X : Type 0} (o : Option X) → ((x : X) → o ≡ Some x → ⊥) → o ≡ None
none-of None nothing = refl
none-of (Some x) nothing = absurd (nothing x refl)

-- nobody has installed it
abbrev pub IsUnentered : ViewId → List Event → Type 0
IsUnentered w t = (q : Address) → entry_of q w t ≡ None

-- where its coordinator has not installed it, nobody has
pub unentered : (h : History) (w : ViewId) → EachEntry h → entry_of w.creator w h.trace ≡ None → IsUnentered w h.trace
unentered h w each none q =
    none-of (entry_of q w h.trace) (λ e x. let n : false ≡ true = sym (ap is_some none) ∙ (each q w e x).led in absurd cc)

-- so there is no first install of it
no-first : (w : ViewId) (t : List Event) (test : Install → Bool) → IsUnentered w t → ((f : Install) → test f ≡ true → same_view_id f.view.id w ≡ true) → (f : Install)
    → find test (installs_in t) ≡ Some f → ⊥
no-first w t test new same f x =
    let at = register-stands test t f x in
    let written = register-written (enters f.member w) t at.place f at.stands
    (and_from (same_address f.member f.member) (same_view_id f.view.id w) (same_address-refl f.member) (same f at.passes)) in
    none-some written.0 (sym (new f.member) ∙ written.1)

-- by nobody
pub first-none : (w : ViewId) (t : List Event) → IsUnentered w t → first_install w t ≡ None
first-none w t new = none-of (first_install w t) (no-first w t (λ f. same_view_id f.view.id w) new (λ f e. e))

-- and none from any view
pub from-none : (v w : ViewId) (t : List Event) → IsUnentered w t → first_from v w t ≡ None
from-none v w t new =
    none-of (first_from v w t) (no-first w t (goes v w) new (λ f e. (and_parts (same_view_id f.view.id w) (is_view v f.previous) e).0))

-- ---- the coordinator's install

-- what is to be shown of the install by which a member makes a view
pub record MayMake (t : List Event) (i : Install) : Type 0 where
  pub mine : i.member ≡ i.view.id.creator
  pub running : IsRunning i.member t
  pub above : EntersAbove t i
  pub new : IsUnentered i.view.id t
  pub inside : LiesWithin i.together i.view.members
  pub before : ForSome i.previous (λ v. ForSome (first_install v t) (λ f. LiesWithin i.together f.view.members))
  pub itself : stands_in i.member i.together ≡ true
  pub back : MatchOption i.previous (i.handed_back ≡ []) (λ v. i.handed_back ≡ drop (length (own i.member (delivered_in i.member v t))) (sent_in i.member v t))
  pub nothing : i.given ≡ None

-- ---- states

-- and no state with which it begins
or-nothing : {X : Type 0} (o b : Option X) → option_or o b ≡ None → (o ≡ None) × (b ≡ None)
or-nothing None b e = (refl, e)
or-nothing (Some x) b e = absurd (none-some x (sym e))

passes-none : {X Y : Type 0} (b : Bool) (x : X) (y : Y) → cond b (Some x) None ≡ None → cond b (Some y) None ≡ None
passes-none true x y e = absurd (none-some x (sym e))
passes-none false x y e = refl

module _ {S : Type 0} (meaning : Meaning S) where
  Unbegun : ViewId → List Event → Type 0
  Unbegun v t = entry_of v.creator v t ≡ None → entry_state meaning v t ≡ None

  unbegun-still : (v : ViewId) (t : List Event) (x : Event) → installs v.creator v x ≡ false → entry_of v.creator v (t ++ x ∷ []) ≡ entry_of v.creator v t
      → Unbegun v t → Unbegun v (t ++ x ∷ [])
  unfolding Unbegun
  unbegun-still v t x none same was now =
      entry_state-push meaning v t x
      ∙ ap (λ b. option_or (entry_state meaning v t) (cond b (Some (state_of meaning v.creator (t ++ x ∷ []))) None)) none
      ∙ ap (λ o. option_or o None) (was (sym same ∙ now))

  unbegun-installed : (v : ViewId) (t : List Event) (i : Install) → Unbegun v t → Unbegun v (t ++ Installed i ∷ [])
  unfolding Unbegun
  unbegun-installed v t i was now =
      let parts = or-nothing (entry_of v.creator v t) (cond (enters v.creator v i) (Some i) None) (sym (register-push (enters v.creator v) t i) ∙ now) in
      entry_state-push meaning v t (Installed i)
      ∙ ap (λ o. option_or o (cond (enters v.creator v i) (Some (state_of meaning v.creator (t ++ Installed i ∷ []))) None)) (was parts.0)
      ∙ passes-none (enters v.creator v i) i (state_of meaning v.creator (t ++ Installed i ∷ [])) parts.1

  unbegun-push : (v : ViewId) (t : List Event) (x : Event) → Unbegun v t → Unbegun v (t ++ x ∷ [])
  unbegun-push v t (Started q) was = unbegun-still v t (Started q) refl (register-still (enters v.creator v) t (Started q) refl) was
  unbegun-push v t (Sent s) was = unbegun-still v t (Sent s) refl (register-still (enters v.creator v) t (Sent s) refl) was
  unbegun-push v t (Delivered d) was = unbegun-still v t (Delivered d) refl (register-still (enters v.creator v) t (Delivered d) refl) was
  unbegun-push v t (Blocked q) was = unbegun-still v t (Blocked q) refl (register-still (enters v.creator v) t (Blocked q) refl) was
  unbegun-push v t (Installed i) was = unbegun-installed v t i was
  unbegun-push v t (Left q) was = unbegun-still v t (Left q) refl (register-still (enters v.creator v) t (Left q) refl) was
  unbegun-push v t (Crashed q) was = unbegun-still v t (Crashed q) refl (register-still (enters v.creator v) t (Crashed q) refl) was

  pub unbegun : (v : ViewId) (t : List Event) → entry_of v.creator v t ≡ None → entry_state meaning v t ≡ None
  unfolding Unbegun
  unbegun v t = by_pushes (Unbegun v) (λ e. refl) (unbegun-push v) t

  -- it may follow
  pub makes-goes : (t : List Event) (i : Install) → MayMake t i → GoesOn meaning t (Installed i)
  makes-goes t i x =
      let w = i.view.id in
      record {
        seven = (
          x.back,
          (
            record {
              inside = x.inside;
              before = x.before;
              itself = x.itself;
              others = λ q there e found. absurd (none-some e (sym (x.new q) ∙ found));
            },
            (
              (λ v from f found. absurd (none-some f (sym (from-none v w t x.new) ∙ found))),
              (
                tt,
                (
                  tt,
                  ((x.above, λ f found. absurd (none-some f (sym (first-none w t x.new) ∙ found))), (x.running, tt)),
                ),
              ),
            ),
          ),
        );
        enters = (
          λ g found. absurd (none-some g (sym x.nothing ∙ found)),
          subst (λ (o : Option S). MatchOption o (same_address i.member w.creator ≡ true) (λ s. s ≡ state_of meaning i.member (t ++ Installed i ∷ [])))
              (sym (unbegun w t (x.new w.creator)))
              (ap (same_address i.member) (sym x.mine) ∙ same_address-refl i.member),
        );
      }

  -- its coordinator's state stays as it was
  pub kept-state : (t : List Event) (i : Install) → i.given ≡ None → state_of meaning i.member (t ++ Installed i ∷ []) ≡ state_of meaning i.member t
  kept-state t i none =
      let s = state_of meaning i.member t in
      state_of-push meaning i.member t (Installed i)
      ∙ cond-true (same_address i.member i.member) (unwrap_or (option_and_then meaning.decode i.given) s) s (same_address-refl i.member)
      ∙ ap (λ g. unwrap_or (option_and_then meaning.decode g) s) none

  -- the view begins with the state that its coordinator has
  pub made-state : (t : List Event) (i : Install) → MayMake t i → entry_state meaning i.view.id (t ++ Installed i ∷ []) ≡ Some (state_of meaning i.member t)
  made-state t i x =
      let w = i.view.id in
      let k = t ++ Installed i ∷ [] in
      entry_state-push meaning w t (Installed i)
      ∙ ap (λ o. option_or o (cond (enters w.creator w i) (Some (state_of meaning w.creator k)) None)) (unbegun w t (x.new w.creator))
      ∙ cond-true (enters w.creator w i) (Some (state_of meaning w.creator k)) None
      (and_from (same_address i.member w.creator) (same_view_id w w) (ap (same_address i.member) (sym x.mine) ∙ same_address-refl i.member) (same_view_id-refl w))
      ∙ ap (λ q. Some (state_of meaning q k)) (sym x.mine)
      ∙ ap Some (kept-state t i x.nothing)

  -- all others begin as they did
  pub other-state : (t : List Event) (i : Install) (u : ViewId) → same_view_id i.view.id u ≡ false → entry_state meaning u (t ++ Installed i ∷ []) ≡ entry_state meaning u t
  other-state t i u other =
      entry_state-push meaning u t (Installed i)
      ∙ ap (λ b. option_or (entry_state meaning u t) (cond b (Some (state_of meaning u.creator (t ++ Installed i ∷ []))) None))
      (and_right (same_address i.member u.creator) (same_view_id i.view.id u) other)
      ∙ option_or-none (entry_state meaning u t)
