use Rattle.std.proofs.Common.{refl, sym, ap, ◌∙◌}
use Rattle.std.specs.Option.{option_copied}
use Rattle.std.proofs.lemmas.Option.{same_Some}
use Rattle.world.proofs.NodesGive.{fits, heard, handed-here}
use Rattle.world.proofs.node_state.hear.Goals as goal

pub settle-requires-clause-fits : goal.settle-requires-clause-fits
settle-requires-clause-fits g c = fits g.R.Receiver.meaning _ _ _ _ c.handled-called.ensures

-- the member is handed the bytes as they lie in the pool
pub returns-in-Some : goal.returns-in-Some
returns-in-Some g c bytes is =
    heard g.R.Receiver.meaning c.in-Some.bytes bytes _ c.in-Running.member _ _ _ _ _ _ c.in-Running.is
    (same_Some _ _ (sym (ap option_copied c.in-Some.is) ∙ c.packet.ensures ∙ is))
    (handed-here g.R.Receiver.meaning _ c.in-Running.member _ _ _ _ _ _ _ _ _ c.handled-called.ensures c.address-address.ensures (c.settle.ensures _ _ _ refl refl))
