use Rattle.std.proofs.Common.{◌≡◌, ◌∙◌, ap, sym, refl, codes, map, option_map, is_some, Option, Some, None}
use Rattle.std.specs.Borrow.{Bor}
use Rattle.std.specs.Option.{option_copied}
use Rattle.clap.specs.Words.{all_of, found_of, rows_of}
use Rattle.clap.proofs.WalkLemmas.{raw_values-rows}
use Rattle.vsync.proofs.Grammars.{none_is_stray, stray_is}
use Rattle.vsync.proofs.check_words.stray_trace.Goals as goal

is_some-copied : {X : Type 0} (o : Option (Bor X)) → is_some (option_copied o) ≡ is_some o
is_some-copied None = refl
is_some-copied (Some x) = refl

pub returns : goal.returns
returns c =
    let f = found_of c.args.matches.now in
    let all : all_of (codes "TRACE") (rows_of f) ≡ Some (map (λ v. v.now) c.in-Some.traces.now) =
    sym (raw_values-rows f (codes "TRACE")) ∙ (sym c.get_strs.ensures ∙ ap (option_map (λ s. map (λ v. v.now) s.now)) c.in-Some.is) in
    ap is_some c.copied.ensures ∙ (is_some-copied c.get.result ∙ (c.get.ensures.lookup.0 ∙ sym (stray_is (rows_of f) c.in-Some.traces.now (sym c.stands.ensures ∙ c.if-stands.false) all)))

pub returns-in_default : goal.returns-in_default
returns-in_default c =
    let f = found_of c.args.matches.now in
    let all : all_of (codes "TRACE") (rows_of f) ≡ None =
    sym (raw_values-rows f (codes "TRACE")) ∙ (sym c.get_strs.ensures ∙ ap (option_map (λ s. map (λ v. v.now) s.now)) c.in_default.is) in
    sym (none_is_stray (rows_of f) (sym c.stands.ensures ∙ c.if-stands.false) all)
