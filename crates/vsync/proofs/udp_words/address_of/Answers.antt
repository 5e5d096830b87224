use Rattle.std.proofs.Common.{ℕ, arith, codes, subst, sym}
use Rattle.std.specs.Str.Parse.{ExplainsUnsignedError, HasUnsignedDigitsIfOk, ParsesUnsigned}
use Rattle.clap.specs.Words.{found_of, one_of, rows_of}
use Rattle.vsync.specs.Words.{IsNumberIn}
use Rattle.vsync.proofs.Numbers.{if_made, number_is}
use Rattle.vsync.proofs.udp_words.address_of.Goals as goal
use Rattle.address.specs.declared.limits.TheConstants.{GREATEST_INCARNATION, GREATEST_NODE}

pub returns : goal.returns
returns c =
    let made = c.in_ok-new.ensures in
    let node = number_is (λ bs r. ParsesUnsigned 16 10 bs r × ExplainsUnsignedError 10 bs r × HasUnsignedDigitsIfOk bs r) 1 GREATEST_NODE 16 (found_of c.args.matches.now) (codes "NODE")
    c.get_one.result c.in_ok-node.node c.in_ok-node.was c.get_one.ensures.none c.get_one.ensures.value (λ u x g. g.0) (omega arith) made.0 (λ fits. omega arith) in
    if_made c.new-2.result _ _ _ c.new-2.ensures (λ from. (
      subst (λ (n : ℕ). IsNumberIn 1 GREATEST_NODE (one_of (codes "NODE") (rows_of (found_of c.args.matches.now))) n) (sym made.1) node,
      number_is (λ bs r. ParsesUnsigned 32 10 bs r × ExplainsUnsignedError 10 bs r × HasUnsignedDigitsIfOk bs r) 1 GREATEST_INCARNATION 32 (found_of c.args.matches.now) (codes "INCARNATION")
          c.get_one-2.result c.in_ok-incarnation.incarnation c.in_ok-incarnation.was c.get_one-2.ensures.none c.get_one-2.ensures.value (λ u x g. g.0) (omega arith) from (λ fits. omega arith),
    ))
