use Rattle.std.proofs.Common.{arith, codes, rules}
use Rattle.std.specs.Str.Parse.{ExplainsUnsignedError, HasUnsignedDigitsIfOk, ParsesUnsigned}
use Rattle.clap.specs.Words.{found_of}
use Rattle.vsync_text.specs.declared.udp_script.TheConstants.{ROUNDS}
use Rattle.vsync.proofs.Numbers.{number_is}
use Rattle.vsync.proofs.udp_words.rounds_of.Goals as goal

pub returns : goal.returns
returns c =
    number_is (λ bs r. ParsesUnsigned 64 10 bs r × ExplainsUnsignedError 10 bs r × HasUnsignedDigitsIfOk bs r) 0 ROUNDS 64 (found_of c.args.matches.now) (codes "ROUNDS")
    c.get_one.result c.in_ok-rounds.rounds c.in_ok-rounds.was c.get_one.ensures.none c.get_one.ensures.value (λ u x g. g.0)
    (omega arith) (omega arith) (λ _. search rules)
