use Rattle.std.proofs.Common.{◌∙◌, ap, arith}
use Rattle.std.specs.List.{position_from}
use Rattle.trace_rules.specs.Lasts.{number_of}
use Rattle.trace_rules.proofs.KeepLasts.{is_of, place_within, kept_at, kept_behind}
use Rattle.trace_rules.proofs.known.lasts.keep_last.Goals as goal

pub index_mut-requires : goal.index_mut-requires
index_mut-requires c = omega (arith, place_within c.as_slice.result.now c.args.sender c.in-Some.place c.in-Some.ensures)

pub returns-in-Some : goal.returns-in-Some
returns-in-Some c = λ q.
    kept_at c.args.lasts.now.items c.args.sender q c.args.number c.in-Some.place (c.in-Some.ensures ∙ ap (position_from (is_of c.args.sender) 0) c.as_slice.ensures.value)

pub returns-in_ok-push-in-None : goal.returns-in_ok-push-in-None
returns-in_ok-push-in-None c = λ q.
    ap (λ ls. number_of ls q) c.in_ok-push-in-None.ensures.items
    ∙ kept_behind c.args.lasts.now.items c.args.sender q c.args.number (c.in-None.ensures ∙ ap (position_from (is_of c.args.sender) 0) c.as_slice.ensures.value)
