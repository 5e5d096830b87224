use Rattle.std.proofs.Common.{◌≡◌, ◌∙◌, ap, drop, rules, take, List, ℕ}
use Rattle.frames.specs.Parts.{varied}
use Rattle.frames.proofs.PartsRead.{varied-is}
use Rattle.frames.proofs.several.variant_of.Goals as goal

pub returns-clause-is : goal.returns-clause-is
returns-clause-is c =
    let place = c.args.place in
    let content = c.args.content.now in
    let other = c.args.other.now in
    let front : take place content ≡ take place other = search rules in
    let back : drop 6 (drop place content) ≡ drop 6 (drop place other) = search rules in
    let bytes : c.copy_from_slice.new.self ≡ take 6 (drop place other) = search rules in
    ap (λ (b : List ℕ). varied place b content) bytes ∙ varied-is place content other front back
