use Rattle.std.proofs.Common.{◌∙◌, List}
use Rattle.std.specs.List.{AllByRecursion}
use Rattle.address.specs.Ids.{Address}
use Rattle.wire_values.specs.Fields.{IsAddress, IsViewId}
use Rattle.wire_values.proofs.FieldLaws.{along}
use Rattle.wire.proofs.writing.put_view.Goals as goal

pub returns-clause-fits : goal.returns-clause-fits
returns-clause-fits c = record {
  id = along IsViewId c.id.result c.args.view.now.id c.id.ensures c.put_view_id.ensures.fits;
  members = along (λ (m : List Address). AllByRecursion IsAddress m) c.as_slice.result.now c.args.view.now.members (c.as_slice.ensures.items ∙ c.members.ensures.members) c.put_members.ensures.fits;
  sound = c.members.ensures.sound;
}
