use Rattle.std.proofs.Common.{◌∙◌, ap, sym, codes, option_map, false, bytes_eq}
use Rattle.std.specs.Option.{option_map_or}
use Rattle.clap.specs.Words.{found_of}
use Rattle.clap.proofs.WalkLemmas.{first_value-rows}
use Rattle.vsync.proofs.kept_words.stands.Goals as goal

pub returns-in-Some : goal.returns-in-Some
returns-in-Some c =
    let value = sym (first_value-rows (found_of c.args.matches.now) c.args.name.now) ∙ (sym c.get_str.ensures ∙ ap (option_map (λ s. s.now)) c.in-Some.is) in
    c.eq.ensures ∙ sym (ap (λ o. option_map_or (λ v. bytes_eq v (codes "true")) o false) value)

pub returns-in-None : goal.returns-in-None
returns-in-None c =
    let value = sym (first_value-rows (found_of c.args.matches.now) c.args.name.now) ∙ (sym c.get_str.ensures ∙ ap (option_map (λ s. s.now)) c.in-None.is) in
    sym (ap (λ o. option_map_or (λ v. bytes_eq v (codes "true")) o false) value)
