-- The nodes that settings list, and those of a run.
use Rattle.std.proofs.Common.{◌≡◌, ℕ, zero, suc, ◌+◌, ◌<◌, ◌≤◌, Bool, true, false, ◌||◌, nat_eq, eqb-true, None, Some, List, [], ◌∷◌, ◌++◌, map, take, length, slice_get, slice_index_or, refl, sym, subst, ap, ◌∙◌, get_or, IsSomeAnd, inl, inr, ◌⊎◌, arith}
use Rattle.std.specs.List.{list_any}
use Rattle.std.specs.List.Sorted.{IsPermutation, IsNonDecreasing, IsNonDecreasingBy}
use Rattle.std.proofs.lemmas.Bool.{eqb-false}
use Rattle.std.proofs.lemmas.Option.{same_Some}
use Rattle.std.proofs.lemmas.List.{get_or-map, length-map, map-append, take_all}
use Rattle.std.proofs.lemmas.List.Sorted.{IsPermutation-map}
use Rattle.udp_net.specs.declared.node_ports.NodePort.{NodePort}
use Rattle.udp_runs.specs.declared.node_state.NodeState.{NodeState}
use Rattle.udp_runs.specs.Carrying.{AreListed, node_of, place_of}
use Rattle.udp_runs.specs.Nodes.{IsFirst}
use Rattle.udp_runs.proofs.PlacesSet.{take-more, at-place, places, some-of}

-- places by number have numbers that do not fall
pub numbers-rise : (places : List NodePort) → IsNonDecreasingBy place_of places → IsNonDecreasing (map place_of places)
numbers-rise [] up i j d low high = absurd (omega arith)
numbers-rise (p ∷ places) up i j d low high =
    let within : j < length (p ∷ places) = subst (λ (n : ℕ). j < n) (length-map (p ∷ places) place_of) high in
    let before : i < length (p ∷ places) = omega arith in
    subst (λ (n : ℕ). n ≤ slice_index_or (map place_of (p ∷ places)) j d) (sym (get_or-map place_of (p ∷ places) i p d before))
    (subst (λ (n : ℕ). place_of (slice_index_or (p ∷ places) i p) ≤ n) (sym (get_or-map place_of (p ∷ places) j p d within)) (up i j p low within))

module _ {N S : Type 0} where
  -- one node more
  pub node-more : (places : List NodePort) (k : ℕ) (p : NodePort) (x : NodeState N S) (states new : List (NodeState N S)) → slice_get places k ≡ Some p
      → map node_of states ≡ map place_of (take k places) → x ≡ record { node = p.node; last = None; process = None } → new ≡ states ++ x ∷ []
      → map node_of new ≡ map place_of (take (k + 1) places)
  node-more places k p x states new here is same pushed =
      ap (map node_of) pushed ∙ map-append node_of states (x ∷ []) ∙ ap (λ (l : List ℕ). l ++ x.node ∷ []) is ∙ ap (λ (y : NodeState N S). map place_of (take k places) ++ y.node ∷ []) same
      ∙ sym (map-append place_of (take k places) (p ∷ [])) ∙ ap (map place_of) (sym (take-more places k p here))

  -- all of them
  pub are-listed : (listed places : List NodePort) (k : ℕ) (states : List (NodeState N S)) → IsPermutation listed places → IsNonDecreasingBy place_of places → length places ≤ k
      → map node_of states ≡ map place_of (take k places) → AreListed listed states
  are-listed listed places k states same up all is =
      let numbers = is ∙ ap (map place_of) (take_all k places all) in
      record {
        all = subst (IsPermutation (map place_of listed)) (sym numbers) (IsPermutation-map place_of listed places same);
        by_number = subst IsNonDecreasing (sym numbers) (numbers-rise places up);
      }

  -- where no node has a number, none of them is that of it
  pub first-none : (node : ℕ) (states : List (NodeState N S)) → IsFirst node (length states) states → list_any (λ x. nat_eq x.node node) states ≡ false
  first-none node [] f = refl
  first-none node (x ∷ states) f = by (nat_eq x.node node) refl (first-none node states (λ j y before at same. f (suc j) y (omega arith) at same))
    where
      by : (b : Bool) → nat_eq x.node node ≡ b → list_any (λ y. nat_eq y.node node) states ≡ false → (nat_eq x.node node || list_any (λ y. nat_eq y.node node) states) ≡ false
      by true is none = absurd (f zero x (omega arith) refl (eqb-true x.node node is))
      by false is none = ap (λ (b : Bool). b || list_any (λ y. nat_eq y.node node) states) is ∙ none

  -- a node that has the number
  pub some-node : (node : ℕ) (states : List (NodeState N S)) (k : ℕ) (x : NodeState N S) → k < length states → x ≡ get_or states k x → nat_eq x.node node ≡ true
      → IsSomeAnd (slice_get states k) (λ y. y.node ≡ node)
  some-node node states k x within is same = some-of (λ (y : NodeState N S). y.node ≡ node) (slice_get states k) x (at-place states k x within is) (eqb-true x.node node same)

  -- one more does not have it
  pub first-more : (node : ℕ) (states : List (NodeState N S)) (k : ℕ) (x : NodeState N S) → IsFirst node k states → k < length states → x ≡ get_or states k x → nat_eq x.node node ≡ false
      → IsFirst node (k + 1) states
  first-more node states k x f within is other j y before at same = by (places j k)
    where
      by : (j ≡ k) ⊎ ((j < k) ⊎ (k < j)) → ⊥
      by (inl e) = (let one : x ≡ y = same_Some x y (sym (at-place states k x within is) ∙ sym (ap (slice_get states) e) ∙ at) in let has : x.node ≡ node = ap (λ (z : NodeState N S). z.node) one ∙ same in eqb-false x.node node other has)
      by (inr (inl low)) = f j y low at same
      by (inr (inr high)) = absurd (omega arith)
