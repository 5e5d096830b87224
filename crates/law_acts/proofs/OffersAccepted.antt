-- What an accepted offer means for what was promised.
use Rattle.std.proofs.Common.{◌≡◌, Bool, true, false, cond, Option, Some, None, refl, ap, subst, arith, ◌⊎◌, inl, inr}
use Rattle.std.specs.Option.{option_map_or}
use Rattle.std.specs.declared.cmp.Ordering.{Ordering}
use Rattle.std.specs.declared.cmp.Ordering.TheVariants.{Less, Equal, Greater}
use Rattle.std.proofs.lemmas.Bool.Decides.{nat_tests}
use Rattle.std.proofs.lemmas.Option.{none-some, same_Some}
use Rattle.address.specs.Ids.{ViewId, view_id_cmp, same_view_id}
use Rattle.view.specs.Members.{View}
use Rattle.view_install.specs.Promises.{answer_past, is_accept}
use Rattle.view_install.specs.declared.promise.OfferAnswer.{OfferAnswer}
use Rattle.view_install.specs.declared.promise.OfferAnswer.TheVariants.{Accept, Ignore}
use Rattle.trace_props.specs.Rules.{IsBelow}
use Rattle.address.proofs.SameIds.{same_view_id-true}
use Rattle.law_acts.specs.Acts.{IsAbovePromise, IsPromised}

greater-below : (v w : ViewId) → view_id_cmp w v ≡ Greater → IsBelow v w
greater-below v w e = grind (arith, nat_tests)

equal-same : (v w : ViewId) → view_id_cmp w v ≡ Equal → same_view_id v w ≡ true
equal-same v w e = grind (arith, nat_tests)

-- an offer that is accepted passed the test of its list
pub accepted-parts : (b : Bool) (x : OfferAnswer) → is_accept (cond b x Ignore) ≡ true → (b ≡ true) × (is_accept x ≡ true)
accepted-parts true x e = (refl, e)
accepted-parts false x e = absurd (let n : false ≡ true = e in cc)

past-means : (o : Ordering) (v w : View) (installed : Bool) → view_id_cmp w.id v.id ≡ o → is_accept (answer_past o v installed) ≡ true
    → IsBelow v.id w.id ⊎ ((v.id ≡ w.id) × (installed ≡ false))
past-means Greater v w installed q e = inl (greater-below v.id w.id q)
past-means Equal v w false q e = inr (same_view_id-true v.id w.id (equal-same v.id w.id q), refl)
past-means Equal v w true q e = absurd (let n : false ≡ true = e in cc)
past-means Less v w installed q e = absurd (let n : false ≡ true = e in cc)

-- what is accepted is above what was promised, or is promised and not installed
pub offer-means : (promise : Option View) (installed : Bool) (w : View) → is_accept (option_map_or (λ v. answer_past (view_id_cmp w.id v.id) v installed) promise Accept) ≡ true
    → IsAbovePromise w.id promise ⊎ IsPromised w.id promise installed
offer-means None installed w e = inl (λ v none. absurd (none-some v none))
offer-means (Some u) installed w e = by (past-means (view_id_cmp w.id u.id) u w installed refl e)
  where
    by : IsBelow u.id w.id ⊎ ((u.id ≡ w.id) × (installed ≡ false)) → IsAbovePromise w.id (Some u) ⊎ IsPromised w.id (Some u) installed
    by (inl below) = inl (λ v same. subst (λ (z : View). IsBelow z.id w.id) (same_Some u v same) below)
    by (inr again) = inr (ap Some again.0, again.1)
