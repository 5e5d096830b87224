use Rattle.std.proofs.Common.{◌∙◌, List}
use Rattle.std.specs.List.{AllByRecursion}
use Rattle.address.specs.Ids.{Address}
use Rattle.wire_values.specs.Fields.{IsAddress}
use Rattle.wire_values.specs.Lists.{IsView}
use Rattle.wire_values.proofs.FieldLaws.{along}
use Rattle.wire.proofs.writing.put_install.Goals as goal

pub returns-clause-fits : goal.returns-clause-fits
returns-clause-fits c = record {
  view = along IsView c.view.result.now c.args.install.now.view c.view.ensures.view c.put_view.ensures.fits;
  together = along (λ (m : List Address). AllByRecursion IsAddress m) c.as_slice.result.now c.args.install.now.together (c.as_slice.ensures.items ∙ c.together.ensures) c.put_members.ensures.fits;
  items = c.put_given.ensures.entries;
  state = c.put_given.ensures.state;
  rules = c.view.ensures.install;
}
