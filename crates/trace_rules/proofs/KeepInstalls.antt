-- What is kept of installs, one event further.
use Rattle.std.proofs.Common.{◌≡◌, Bool, true, false, ◌&&◌, cond, List, [], ◌∷◌, ◌++◌, Option, Some, None, Bor, is_some, find, MatchBool, sym, refl, ap, ◌∙◌, subst}
use Rattle.std.specs.Option.{option_or, option_copied}
use Rattle.std.proofs.lemmas.Bool.{and_parts, and_right, true≢false}
use Rattle.address.specs.Ids.{ViewId, same_view_id}
use Rattle.trace_props.specs.declared.event.Event.{Event}
use Rattle.trace_props.specs.declared.event.Event.TheVariants.{Installed}
use Rattle.trace_props.specs.declared.event.Install.{Install}
use Rattle.trace_rules.specs.declared.known.keys.ViewChange.{ViewChange}
use Rattle.trace_props.specs.Observed.{install_of, installs_in}
use Rattle.trace_props.specs.Agreeing.{is_view, goes, first_from}
use Rattle.trace_rules.specs.Known.{same_view_change, KnowsInstalls}
use Rattle.address.proofs.SameIds.{same_view_id-true}
use Rattle.trace_props.proofs.DeliveredGrow.{is_of, register-still, register-push}
use Rattle.address.proofs.Plain.{option_or-none}

-- a register that is written stays
kept : (o : Option (Bor Install)) (i : Install) (b : Bool) → (b ≡ true → is_some o ≡ true) → option_copied o ≡ option_or (option_copied o) (cond b (Some i) None)
kept None i true e = absurd (true≢false (sym (e refl)))
kept None i false e = refl
kept (Some x) i b e = refl

-- one that is not is written
written : (o : Option (Bor Install)) (i : Bor Install) (b : Bool) → (b ≡ true → is_some o ≡ false) → option_copied (cond b (Some i) o) ≡ option_or (option_copied o) (cond b (Some i.now) None)
written None i true e = refl
written None i false e = refl
written (Some x) i true e = absurd (true≢false (e refl))
written (Some x) i false e = refl

register-by : {K : Type 0} (test : K → Install → Bool) (equal : K → Bool) (m n : K → Option (Bor Install)) (t : List Event) (key : K) (i : Bor Install) (b : Bool)
    → ((k : K) → equal k ≡ test k i.now) → ((k : K) → test k i.now ≡ true → k ≡ key) → is_some (m key) ≡ b
    → MatchBool b ((k : K) → n k ≡ m k) ((k : K) → n k ≡ cond (equal k) (Some i) (m k))
    → ((k : K) → option_copied (m k) ≡ find (test k) (installs_in t)) → (k : K) → option_copied (n k) ≡ find (test k) (installs_in (t ++ Installed i.now ∷ []))
register-by test equal m n t key i true tests same e updates r k =
    ap option_copied (updates k) ∙ kept (m k) i.now (test k i.now) (λ x. ap (λ y. is_some (m y)) (same k x) ∙ e)
    ∙ ap (λ o. option_or o (cond (test k i.now) (Some i.now) None)) (r k) ∙ sym (register-push (test k) t i.now)
register-by test equal m n t key i false tests same e updates r k =
    ap option_copied (updates k ∙ ap (λ b. cond b (Some i) (m k)) (tests k)) ∙ written (m k) i (test k i.now) (λ x. ap (λ y. is_some (m y)) (same k x) ∙ e)
    ∙ ap (λ o. option_or o (cond (test k i.now) (Some i.now) None)) (r k) ∙ sym (register-push (test k) t i.now)

-- the first install of a view
first-noted : (m n : ViewId → Option (Bor Install)) (t : List Event) (i : Bor Install) (v : ViewId) → v ≡ i.now.view.id
    → MatchBool (is_some (m v)) ((k : ViewId) → n k ≡ m k) ((k : ViewId) → n k ≡ cond (same_view_id v k) (Some i) (m k))
    → ((k : ViewId) → option_copied (m k) ≡ find (is_of k) (installs_in t)) → (k : ViewId) → option_copied (n k) ≡ find (is_of k) (installs_in (t ++ Installed i.now ∷ []))
first-noted m n t i v is updates =
    register-by is_of (same_view_id v) m n t v i (is_some (m v)) (λ k. ap (λ x. same_view_id x k) is) (λ k e. sym (same_view_id-true i.now.view.id k e) ∙ sym is) refl updates

same_view_change-true : (a b : ViewChange) → same_view_change a b ≡ true → a ≡ b
same_view_change-true a b e =
    let parts = and_parts (same_view_id a.to b.to) (same_view_id a.from b.from) e in
    ap {B = ViewChange} (λ (v : ViewId). record { to = v; from = a.from }) (same_view_id-true a.to b.to parts.0)
    ∙ ap {B = ViewChange} (λ (v : ViewId). record { to = b.to; from = v }) (same_view_id-true a.from b.from parts.1)

-- the first install of a change of view
view_change-noted : (m n : ViewChange → Option (Bor Install)) (t : List Event) (i : Bor Install) (key : ViewChange) → key.to ≡ i.now.view.id → i.now.previous ≡ Some key.from
    → MatchBool (is_some (m key)) ((k : ViewChange) → n k ≡ m k) ((k : ViewChange) → n k ≡ cond (same_view_change key k) (Some i) (m k))
    → ((k : ViewChange) → option_copied (m k) ≡ first_from k.from k.to t) → (k : ViewChange) → option_copied (n k) ≡ first_from k.from k.to (t ++ Installed i.now ∷ [])
view_change-noted m n t i key is came updates =
    let tests : (k : ViewChange) → same_view_change key k ≡ goes k.from k.to i.now =
    λ k. ap (λ x. same_view_id x k.to && same_view_id key.from k.from) is ∙ ap (λ o. same_view_id i.now.view.id k.to && is_view k.from o) (sym came) in
    register-by (λ (k : ViewChange). goes k.from k.to) (same_view_change key) m n t key i (is_some (m key)) tests (λ k e. sym (same_view_change-true key k (tests k ∙ e))) refl updates

installs-nothing : (h : Event) → ((i : Install) → h ≡ Installed i → ⊥) → install_of h ≡ None
installs-nothing (Installed i) e = absurd (e i refl)
installs-nothing h e = refl

-- what installs nothing leaves all
pub no-install : (m : ViewId → Option (Bor Install)) (w : ViewChange → Option (Bor Install)) (t : List Event) (h : Event) → ((i : Install) → h ≡ Installed i → ⊥)
    → KnowsInstalls m w t → KnowsInstalls m w (t ++ h ∷ [])
no-install m w t h none r = record {
  firsts_known = λ v. r.firsts_known v ∙ sym (register-still (is_of v) t h (installs-nothing h none));
  view_changes_known = λ k. r.view_changes_known k ∙ sym (register-still (goes k.from k.to) t h (installs-nothing h none));
}

-- an install from no view is no change of view
pub begins : (m n : ViewId → Option (Bor Install)) (w : ViewChange → Option (Bor Install)) (t : List Event) (h : Event) (i : Bor Install) (v : ViewId) → h ≡ Installed i.now → v ≡ i.now.view.id → i.now.previous ≡ None
    → MatchBool (is_some (m v)) ((k : ViewId) → n k ≡ m k) ((k : ViewId) → n k ≡ cond (same_view_id v k) (Some i) (m k)) → KnowsInstalls m w t → KnowsInstalls n w (t ++ h ∷ [])
begins m n w t h i v this is none updates r = subst (λ (x : Event). KnowsInstalls n w (t ++ x ∷ [])) (sym this) (record {
  firsts_known = first-noted m n t i v is updates r.firsts_known;
  view_changes_known = λ k.
      r.view_changes_known k
      ∙ sym (register-push (goes k.from k.to) t i.now ∙ ap (λ b. option_or (first_from k.from k.to t) (cond b (Some i.now) None)) (ap (λ o. same_view_id i.now.view.id k.to && is_view k.from o) none ∙ and_right (same_view_id i.now.view.id k.to) false refl) ∙ option_or-none (first_from k.from k.to t));
})

-- any other is one
pub goes-on : (m n : ViewId → Option (Bor Install)) (w x : ViewChange → Option (Bor Install)) (t : List Event) (h : Event) (i : Bor Install) (key : ViewChange) → h ≡ Installed i.now → key.to ≡ i.now.view.id
    → i.now.previous ≡ Some key.from → MatchBool (is_some (m key.to)) ((k : ViewId) → n k ≡ m k) ((k : ViewId) → n k ≡ cond (same_view_id key.to k) (Some i) (m k))
    → MatchBool (is_some (w key)) ((k : ViewChange) → x k ≡ w k) ((k : ViewChange) → x k ≡ cond (same_view_change key k) (Some i) (w k))
    → KnowsInstalls m w t → KnowsInstalls n x (t ++ h ∷ [])
goes-on m n w x t h i key this is came first change r = subst (λ (y : Event). KnowsInstalls n x (t ++ y ∷ [])) (sym this) (record {
  firsts_known = first-noted m n t i key.to is first r.firsts_known;
  view_changes_known = view_change-noted w x t i key is came change r.view_changes_known;
})
