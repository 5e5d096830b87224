use Rattle.std.proofs.Common.{◌∙◌, ap}
use Rattle.std.specs.HashMap.{get}
use Rattle.std.proofs.lemmas.Result.{on_ok_weaker}
use Rattle.address.specs.Ids.{same_address}
use Rattle.trace_rules.specs.Known.{standing_after}
use Rattle.trace_rules.proofs.KeepStandings.{standings-noted}
use Rattle.trace_rules.proofs.known.standing.note_standing.Goals as goal

-- the one member's standing is kept
pub returns-in_default : goal.returns-in_default
returns-in_default c = on_ok_weaker c.keep.result (λ is t r. standings-noted (get same_address c.args.standings.now) (get same_address c.keep.new.standings) t c.args.event.now
    c.member-member.result c.after-next.result c.member-member.ensures (c.after-next.ensures ∙ ap (λ s. standing_after s c.args.event.now) c.how_stands.ensures) is r) c.keep.ensures
