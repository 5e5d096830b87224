use Rattle.std.proofs.Common.{◌≡◌, ◌∙◌, ap, sym, map, option_map, unwrap_or, None, Some, []}
use Rattle.std.proofs.lemmas.Result.{IfOk-weaker}
use Rattle.clap.specs.Words.{all_of, found_of, rows_of}
use Rattle.clap.proofs.WalkLemmas.{raw_values-rows}
use Rattle.vsync.proofs.member_options.values_of.Goals as goal

pub returns-in-Some : goal.returns-in-Some
returns-in-Some c =
    let f = found_of c.args.matches.now in
    let all : all_of c.args.name.now (rows_of f) ≡ Some (map (λ v. v.now) c.in-Some.values.now) =
    sym (raw_values-rows f c.args.name.now) ∙ (sym c.get_strs.ensures ∙ ap (option_map (λ s. map (λ v. v.now) s.now)) c.in-Some.is) in
    IfOk-weaker c.from_slice.result _ _ (λ values e. ap (map (λ s. s.now)) e ∙ sym (ap (λ o. unwrap_or o []) all)) c.from_slice.ensures.items

pub returns-in-None : goal.returns-in-None
returns-in-None c =
    let f = found_of c.args.matches.now in
    let all : all_of c.args.name.now (rows_of f) ≡ None =
    sym (raw_values-rows f c.args.name.now) ∙ (sym c.get_strs.ensures ∙ ap (option_map (λ s. map (λ v. v.now) s.now)) c.in-None.is) in
    ap (map (λ s. s.now)) c.new.ensures.items ∙ sym (ap (λ o. unwrap_or o []) all)
