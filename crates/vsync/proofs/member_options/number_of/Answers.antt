use Rattle.std.proofs.Common.{◌≡◌, ◌∙◌, sym, true, is_none, arith, rules}
use Rattle.std.specs.Str.Parse.{ExplainsUnsignedError, HasUnsignedDigitsIfOk, ParsesUnsigned}
use Rattle.clap.specs.Words.{found_of}
use Rattle.clap.proofs.WalkLemmas.{first_value-rows}
use Rattle.vsync.proofs.Grammars.{nothing_there}
use Rattle.vsync.proofs.Numbers.{number_is}
use Rattle.vsync.proofs.member_options.number_of.Goals as goal

-- it does not stand there
pub returns-then-is_none : goal.returns-then-is_none
returns-then-is_none c =
    let e : is_none c.get_str.result ≡ true = search rules in
    sym (first_value-rows (found_of c.args.matches.now) c.args.name.now) ∙ (sym c.get_str.ensures ∙ nothing_there (λ s. s.now) c.get_str.result e)

-- its number
pub returns : goal.returns
returns c =
    number_is (λ bs r. ParsesUnsigned 16 10 bs r × ExplainsUnsignedError 10 bs r × HasUnsignedDigitsIfOk bs r) c.args.low c.args.high 16 (found_of c.args.matches.now) c.args.name.now
    c.get_one.result c.in_ok-number.number c.in_ok-number.was c.get_one.ensures.none c.get_one.ensures.value (λ u x g. g.0)
    (omega (arith, c.requires)) (search rules) (λ _. search rules)
