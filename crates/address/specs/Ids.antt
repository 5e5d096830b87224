-- What contracts see of the ids: their fields, their order and their text.
use Rattle.std.specs.Prelude.{ℕ, ◌<◌, ◌≤◌, ◌^◌, Bool, List, [], ◌∷◌, ◌++◌, nat_eq, ◌&&◌}
use Rattle.std.specs.Fmt.{decimal}
use Rattle.std.specs.declared.cmp.Ordering.{Ordering}
use Rattle.std.specs.Ordering.{nat_cmp, ordering_then}

-- an address: a node's number and the number of its incarnation
pub record Address : Type 0 where
  pub node : ℕ
  pub incarnation : ℕ

-- a view id: its counter and the address that made it
pub record ViewId : Type 0 where
  pub counter : ℕ
  pub creator : Address

-- order of ids: addresses by node, then incarnation
abbrev pub address_cmp : Address → Address → Ordering
address_cmp a b = ordering_then (nat_cmp a.node b.node) (nat_cmp a.incarnation b.incarnation)

-- order of ids: view ids by counter, then creator
abbrev pub view_id_cmp : ViewId → ViewId → Ordering
view_id_cmp v w = ordering_then (nat_cmp v.counter w.counter) (address_cmp v.creator w.creator)

abbrev pub same_address : Address → Address → Bool
same_address a b = nat_eq a.node b.node && nat_eq a.incarnation b.incarnation

abbrev pub same_view_id : ViewId → ViewId → Bool
same_view_id v w = nat_eq v.counter w.counter && same_address v.creator w.creator

-- `3.1`
abbrev pub text_of_address : Address → List ℕ
text_of_address a = decimal a.node ++ 46 ∷ [] ++ decimal a.incarnation

-- `7@3.1`
abbrev pub text_of_view_id : ViewId → List ℕ
text_of_view_id v = decimal v.counter ++ 64 ∷ [] ++ text_of_address v.creator

-- the addresses that a program can hold: a node from 1 to 65535 and an incarnation from 1 to 4294967295
pub record IsAddress (a : Address) : Type 0 where
  pub node : 1 ≤ a.node
  pub node_fits : a.node < 2 ^ 16
  pub incarnation : 1 ≤ a.incarnation
  pub incarnation_fits : a.incarnation < 2 ^ 32
