use Rattle.std.proofs.Common.{subst}
use Rattle.wire_values.specs.Fields.{IsEntry, IsNumber}
use Rattle.wire_values.proofs.FieldLaws.{along}
use Rattle.wire.proofs.writing.put_entry_text.Goals as goal

pub returns-clause-fits : goal.returns-clause-fits
returns-clause-fits c = subst IsEntry c.entry.view_is record {
  sender = c.put_address.ensures.fits;
  number = along IsNumber c.get.result c.entry.inside.number c.get.ensures.value c.get.ensures.in_range;
  payload = c.put_payload.ensures.fits;
}
