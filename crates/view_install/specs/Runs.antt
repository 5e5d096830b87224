-- What becomes of a promise over many offers and installs.
use Rattle.std.specs.Prelude.{◌≡◌, ◌≢◌, true, false, List, [], ◌∷◌, Some, if◌then◌else◌}
use Rattle.std.specs.List.{AllByRecursion}
use Rattle.std.specs.declared.cmp.Ordering.TheVariants.{Less, Greater}
use Rattle.address.specs.Ids.{view_id_cmp}
use Rattle.view.specs.Members.{View}
use Rattle.view_install.specs.Promises.{PromiseModel, offered, after_offer, may_install, installing}
use Rattle.view_install.specs.declared.promise.OfferAnswer.TheVariants.{Accept}

-- what is asked of a promise
pub data Asked : Type 0 where
  Offer : View → Asked
  Install : View → Asked

-- the views that were installed, in order, as these were asked
abbrev pub installs : List Asked → PromiseModel → List View
installs [] p = []
installs (Offer w ∷ asked) p = installs asked (after_offer w p)
installs (Install w ∷ asked) p = if may_install w p then w ∷ installs asked (installing p) else installs asked p

-- the ids rise, each above the one before
abbrev pub AreRising : List View → Type 0
AreRising [] = Unit {0}
AreRising (v ∷ views) = AllByRecursion (λ w. view_id_cmp w.id v.id ≡ Greater) views × AreRising views

-- whatever is asked, the views that a member installs rise: so none is installed twice, and none below one that was installed
abbrev pub InstallsRise : Type 0
InstallsRise = (asked : List Asked) (p : PromiseModel) → AreRising (installs asked p)

-- only the promised proposal is installed, with its list, and only once
abbrev pub OnlyThePromised : Type 0
OnlyThePromised = (w : View) (p : PromiseModel) → may_install w p ≡ true → (p.proposal ≡ Some w) × (p.is_installed ≡ false)

-- an offer that is accepted is not below what was promised, and is above it where that is installed
abbrev pub PromisesRise : Type 0
PromisesRise = (v w : View) (p : PromiseModel) → p.proposal ≡ Some v → offered w p ≡ Accept
    → (view_id_cmp w.id v.id ≢ Less) × (p.is_installed ≡ true → view_id_cmp w.id v.id ≡ Greater)
