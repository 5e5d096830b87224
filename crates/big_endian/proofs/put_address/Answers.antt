use Rattle.std.proofs.Common.{◌≤◌, ◌<◌, ◌^◌, ◌∙◌, ℕ, subst}
use Rattle.big_endian.proofs.put_address.Goals as goal

pub returns-clause-fits : goal.returns-clause-fits
returns-clause-fits c =
    let node = c.number.ensures.value ∙ c.node.ensures in
    record {
      node = subst (λ (n : ℕ). 1 ≤ n) node c.number.ensures.positive;
      node_fits = subst (λ (n : ℕ). n < 2 ^ 16) node c.number.type_inv;
      incarnation = subst (λ (n : ℕ). 1 ≤ n) c.incarnation.ensures.value c.incarnation.ensures.positive;
      incarnation_fits = subst (λ (n : ℕ). n < 2 ^ 32) c.incarnation.ensures.value c.incarnation.type_inv;
    }
