-- The views that a member installs rise.
use Rattle.std.proofs.Common.{◌≡◌, ℕ, Bool, true, false, cond, not, ◌&&◌, Option, Some, None, List, [], ◌∷◌, refl, sym, ap, ◌∙◌, arith, nat_eq, eqb-true}
use Rattle.std.specs.List.{AllByRecursion}
use Rattle.std.specs.Option.{option_map_or}
use Rattle.std.specs.Ordering.{nat_cmp, ordering_then}
use Rattle.std.specs.Cmp.Lexicographic.{pointwise}
use Rattle.std.specs.declared.cmp.Ordering.{Ordering}
use Rattle.std.specs.declared.cmp.Ordering.TheVariants.{Less, Equal, Greater}
use Rattle.std.proofs.lemmas.Bool.{and_parts, not-true}
use Rattle.std.proofs.lemmas.Bool.Decides.{nat_tests}
use Rattle.address.specs.Ids.{Address, ViewId, view_id_cmp, same_address, same_view_id}
use Rattle.view.specs.Members.{View, stands_in}
use Rattle.view_install.specs.declared.promise.OfferAnswer.{OfferAnswer}
use Rattle.view_install.specs.declared.promise.OfferAnswer.TheVariants.{Accept, Behind, Ignore}
use Rattle.view_install.specs.Promises.{PromiseModel, answer_past, offered, is_accept, after_offer, promising, same_view, may_install, installing}
use Rattle.view_install.specs.Runs.{Asked, Offer, Install, installs, AreRising, InstallsRise, OnlyThePromised, PromisesRise}
use Rattle.address.proofs.SameIds.{same_address-true}

-- not below, and above where the promise is installed
abbrev is_past : Ordering → Bool → Bool
is_past Greater installed = true
is_past Equal installed = not installed
is_past Less installed = false

abbrev is_above : View → PromiseModel → Bool
is_above w p = option_map_or (λ v. is_past (view_id_cmp w.id v.id) p.is_installed) p.proposal true

-- ids in three parts, of which the first that differs decides
trans-strict : (a b c x y z m n o : ℕ) → is_past (ordering_then (nat_cmp a b) (ordering_then (nat_cmp x y) (nat_cmp m n))) false ≡ true
    → is_past (ordering_then (nat_cmp b c) (ordering_then (nat_cmp y z) (nat_cmp n o))) true ≡ true
    → is_past (ordering_then (nat_cmp a c) (ordering_then (nat_cmp x z) (nat_cmp m o))) true ≡ true
trans-strict a b c x y z m n o p q = grind (arith, nat_tests)

trans-loose : (a b c x y z m n o : ℕ) → is_past (ordering_then (nat_cmp a b) (ordering_then (nat_cmp x y) (nat_cmp m n))) false ≡ true
    → is_past (ordering_then (nat_cmp b c) (ordering_then (nat_cmp y z) (nat_cmp n o))) false ≡ true
    → is_past (ordering_then (nat_cmp a c) (ordering_then (nat_cmp x z) (nat_cmp m o))) false ≡ true
trans-loose a b c x y z m n o p q = grind (arith, nat_tests)

past-trans : (installed : Bool) (a b c : ViewId) → is_past (view_id_cmp a b) false ≡ true → is_past (view_id_cmp b c) installed ≡ true → is_past (view_id_cmp a c) installed ≡ true
past-trans true a b c p q = trans-strict a.counter b.counter c.counter a.creator.node b.creator.node c.creator.node a.creator.incarnation b.creator.incarnation c.creator.incarnation p q
past-trans false a b c p q = trans-loose a.counter b.counter c.counter a.creator.node b.creator.node c.creator.node a.creator.incarnation b.creator.incarnation c.creator.incarnation p q

equal-parts : (a b x y m n : ℕ) → nat_eq a b && (nat_eq x y && nat_eq m n) ≡ true → ordering_then (nat_cmp a b) (ordering_then (nat_cmp x y) (nat_cmp m n)) ≡ Equal
equal-parts a b x y m n e = grind (arith, nat_tests)

-- equal ids
equal-is : (a b : ViewId) → same_view_id a b ≡ true → view_id_cmp a b ≡ Equal
equal-is a b e = equal-parts a.counter b.counter a.creator.node b.creator.node a.creator.incarnation b.creator.incarnation e

past-greater : (o : Ordering) → is_past o true ≡ true → o ≡ Greater
past-greater Greater h = refl
past-greater Equal h = let n : false ≡ true = h in cc
past-greater Less h = let n : false ≡ true = h in cc

past-any : (o : Ordering) (installed : Bool) → is_past o true ≡ true → is_past o installed ≡ true
past-any Greater installed h = refl
past-any Equal installed h = let n : false ≡ true = h in cc
past-any Less installed h = let n : false ≡ true = h in cc

-- ---- equal views

addresses-are : (xs ys : List Address) → pointwise same_address xs ys ≡ true → xs ≡ ys
addresses-are [] [] e = refl
addresses-are [] (y ∷ ys) e = let n : false ≡ true = e in cc
addresses-are (x ∷ xs) [] e = let n : false ≡ true = e in cc
addresses-are (x ∷ xs) (y ∷ ys) e =
    let parts = and_parts (same_address x y) (pointwise same_address xs ys) e in
    λ j. same_address-true x y parts.0 j ∷ addresses-are xs ys parts.1 j

view-is : (w v : View) → same_view w v ≡ true → w ≡ v
view-is w v e =
    let parts = and_parts (same_view_id w.id v.id) (pointwise same_address w.members v.members) e in
    let ids = and_parts (nat_eq w.id.counter v.id.counter) (same_address w.id.creator v.id.creator) parts.0 in
    let members = addresses-are w.members v.members parts.1 in
    λ j. record {
      id = record { counter = eqb-true w.id.counter v.id.counter ids.0 j; creator = same_address-true w.id.creator v.id.creator ids.1 j };
      members = members j;
    }

-- ---- one call

only-by : (o : Option View) (installed : Bool) (w : View) → option_map_or (λ v. same_view w v && not installed) o false ≡ true → (o ≡ Some w) × (installed ≡ false)
only-by None installed w h = let n : false ≡ true = h in absurd cc
only-by (Some v) installed w h =
    let parts = and_parts (same_view w v) (not installed) h in (ap Some (sym (view-is w v parts.0)), not-true installed parts.1)

pub only-the-promised : OnlyThePromised
only-the-promised w p h = only-by p.proposal p.is_installed w h

may-by : (o : Option View) (installed : Bool) (w : View) → option_map_or (λ v. same_view w v && not installed) o false ≡ true
    → option_map_or (λ v. is_past (view_id_cmp w.id v.id) installed) o true ≡ true
may-by None installed w h = refl
may-by (Some v) installed w h =
    let parts = and_parts (same_view w v) (not installed) h in
    let ids = and_parts (same_view_id w.id v.id) (pointwise same_address w.members v.members) parts.0 in
    ap (λ o. is_past o installed) (equal-is w.id v.id ids.0) ∙ parts.1

accept-past : (o : Ordering) (v : View) (installed : Bool) → answer_past o v installed ≡ Accept → is_past o installed ≡ true
accept-past Greater v installed h = refl
accept-past Equal v true h = let n : Ignore ≡ Accept = h in cc
accept-past Equal v false h = refl
accept-past Less v installed h = let n : Behind v.id.counter ≡ Accept = h in cc

accept-by : (b : Bool) (o : Option View) (installed : Bool) (w : View) → cond b (option_map_or (λ v. answer_past (view_id_cmp w.id v.id) v installed) o Accept) Ignore ≡ Accept
    → option_map_or (λ v. is_past (view_id_cmp w.id v.id) installed) o true ≡ true
accept-by false o installed w h = let n : Ignore ≡ Accept = h in absurd cc
accept-by true None installed w h = refl
accept-by true (Some v) installed w h = accept-past (view_id_cmp w.id v.id) v installed h

accept-is : (a : OfferAnswer) → is_accept a ≡ true → a ≡ Accept
accept-is Accept h = refl
accept-is (Behind counter) h = let n : false ≡ true = h in cc
accept-is Ignore h = let n : false ≡ true = h in cc

-- what is above a later promise is above the one before
above-by : (o : Option View) (installed : Bool) (x w : View) → is_past (view_id_cmp x.id w.id) false ≡ true → option_map_or (λ v. is_past (view_id_cmp w.id v.id) installed) o true ≡ true
    → option_map_or (λ v. is_past (view_id_cmp x.id v.id) installed) o true ≡ true
above-by None installed x w a b = refl
above-by (Some v) installed x w a b = past-trans installed x.id w.id v.id a b

offer-by : (b : Bool) (x w : View) (p : PromiseModel) → is_accept (offered w p) ≡ b → is_above x (cond b (promising w p) p) ≡ true → is_above x p ≡ true
offer-by true x w p q h = above-by p.proposal p.is_installed x w h (accept-by (stands_in p.member w.members) p.proposal p.is_installed w (accept-is (offered w p) q))
offer-by false x w p q h = h

installed-by : (o : Option View) (installed : Bool) (x : View) → option_map_or (λ v. is_past (view_id_cmp x.id v.id) true) o true ≡ true
    → option_map_or (λ v. is_past (view_id_cmp x.id v.id) installed) o true ≡ true
installed-by None installed x h = refl
installed-by (Some v) installed x h = past-any (view_id_cmp x.id v.id) installed h

-- ---- many calls

all-by : {X : Type 0} (P Q : X → Type 0) → ((x : X) → P x → Q x) → (xs : List X) → AllByRecursion P xs → AllByRecursion Q xs
all-by P Q f [] a = tt
all-by P Q f (x ∷ xs) a = (f x a.0, all-by P Q f xs a.1)

install-above : (b : Bool) (w : View) (asked : List Asked) (p : PromiseModel) → may_install w p ≡ b
    → AllByRecursion (λ x. is_above x (installing p) ≡ true) (installs asked (installing p)) → AllByRecursion (λ x. is_above x p ≡ true) (installs asked p)
    → AllByRecursion (λ x. is_above x p ≡ true) (cond b (w ∷ installs asked (installing p)) (installs asked p))
install-above true w asked p q after same = (
  may-by p.proposal p.is_installed w q,
  all-by (λ x. is_above x (installing p) ≡ true) (λ x. is_above x p ≡ true) (λ x h. installed-by p.proposal p.is_installed x h) (installs asked (installing p)) after,
)
install-above false w asked p q after same = same

-- whatever is installed later is above the promise
all-above : (asked : List Asked) (p : PromiseModel) → AllByRecursion (λ x. is_above x p ≡ true) (installs asked p)
all-above [] p = tt
all-above (Offer w ∷ asked) p =
    all-by (λ x. is_above x (after_offer w p) ≡ true) (λ x. is_above x p ≡ true) (λ x h. offer-by (is_accept (offered w p)) x w p refl h) (installs asked (after_offer w p))
    (all-above asked (after_offer w p))
all-above (Install w ∷ asked) p = install-above (may_install w p) w asked p refl (all-above asked (installing p)) (all-above asked p)

above-installed : (o : Option View) (x w : View) → o ≡ Some w → option_map_or (λ v. is_past (view_id_cmp x.id v.id) true) o true ≡ true → view_id_cmp x.id w.id ≡ Greater
above-installed o x w e h = past-greater (view_id_cmp x.id w.id) (sym (ap (λ t. option_map_or (λ (v : View). is_past (view_id_cmp x.id v.id) true) t true) e) ∙ h)

install-rises : (b : Bool) (w : View) (asked : List Asked) (p : PromiseModel) → may_install w p ≡ b → AreRising (installs asked (installing p)) → AreRising (installs asked p)
    → AreRising (cond b (w ∷ installs asked (installing p)) (installs asked p))
install-rises true w asked p q after same =
    let promised : p.proposal ≡ Some w = (only-the-promised w p q).0 in (
      all-by (λ x. is_above x (installing p) ≡ true) (λ x. view_id_cmp x.id w.id ≡ Greater) (λ x h. above-installed p.proposal x w promised h) (installs asked (installing p))
          (all-above asked (installing p)),
      after,
    )
install-rises false w asked p q after same = same

pub installs-rise : InstallsRise
installs-rise [] p = tt
installs-rise (Offer w ∷ asked) p = installs-rise asked (after_offer w p)
installs-rise (Install w ∷ asked) p = install-rises (may_install w p) w asked p refl (installs-rise asked (installing p)) (installs-rise asked p)

not-less : (o : Ordering) (installed : Bool) → is_past o installed ≡ true → o ≡ Less → ⊥
not-less o installed h e = let n : false ≡ true = sym (ap (λ t. is_past t installed) e) ∙ h in cc

pub promises-rise : PromisesRise
promises-rise v w p at h =
    let above : is_past (view_id_cmp w.id v.id) p.is_installed ≡ true =
    sym (ap (λ t. option_map_or (λ (u : View). is_past (view_id_cmp w.id u.id) p.is_installed) t true) at)
    ∙ accept-by (stands_in p.member w.members) p.proposal p.is_installed w h in (
      not-less (view_id_cmp w.id v.id) p.is_installed above,
      λ i. past-greater (view_id_cmp w.id v.id) (sym (ap (is_past (view_id_cmp w.id v.id)) i) ∙ above),
    )
