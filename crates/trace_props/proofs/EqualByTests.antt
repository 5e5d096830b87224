-- Comparisons that say equal, by the tests of the definitions.
use Rattle.std.proofs.Common.{◌≡◌, ◌&&◌, nat_cmp, is_eq, refl, ap₂, ◌∙◌}
use Rattle.std.specs.Ordering.{ordering_then}
use Rattle.std.specs.declared.cmp.Ordering.{Ordering}
use Rattle.std.specs.declared.cmp.Ordering.TheVariants.{Less, Equal, Greater}
use Rattle.address.specs.Ids.{Address, ViewId, address_cmp, view_id_cmp, same_address, same_view_id}
use Rattle.address.proofs.SameIds.{is_eq-nat}

-- two comparisons one after the other are equal exactly if both are
pub is_eq-then : (a b : Ordering) → is_eq (ordering_then a b) ≡ (is_eq a && is_eq b)
is_eq-then Less b = refl
is_eq-then Equal b = refl
is_eq-then Greater b = refl

pub is_eq-address : (a b : Address) → is_eq (address_cmp a b) ≡ same_address a b
is_eq-address a b = is_eq-then (nat_cmp a.node b.node) (nat_cmp a.incarnation b.incarnation) ∙ ap₂ ◌&&◌ (is_eq-nat a.node b.node) (is_eq-nat a.incarnation b.incarnation)

pub is_eq-view_id : (v w : ViewId) → is_eq (view_id_cmp v w) ≡ same_view_id v w
is_eq-view_id v w = is_eq-then (nat_cmp v.counter w.counter) (address_cmp v.creator w.creator) ∙ ap₂ ◌&&◌ (is_eq-nat v.counter w.counter) (is_eq-address v.creator w.creator)
