use Rattle.std.proofs.Common.{◌∙◌}
use Rattle.wire_values.specs.declared.packet.Body.TheVariants as bodies
use Rattle.wire_values.specs.Fields.{IsCount, IsNumber}
use Rattle.wire_values.specs.Chunks.{IsTotal, IsPlace, IsCut}
use Rattle.wire.specs.Packets.{IsBody}
use Rattle.wire_values.proofs.FieldLaws.{along, back}
use Rattle.wire.proofs.writing.put_body.Goals as goal

pub returns-in-Forward-clause-fits : goal.returns-in-Forward-clause-fits
returns-in-Forward-clause-fits c =
    back IsBody c.args.body.now (bodies.Forward c.in-Forward.view c.in-Forward.number c.in-Forward.payload) c.in-Forward.is
    (c.put_number.ensures.fits, along IsNumber c.get.result c.in-Forward.number c.get.ensures.value c.get.ensures.in_range, c.put_payload.ensures.fits)

pub returns-in-Order-clause-fits : goal.returns-in-Order-clause-fits
returns-in-Order-clause-fits c =
    back IsBody c.args.body.now (bodies.Order c.in-Order.view c.in-Order.place c.in-Order.entry) c.in-Order.is
    (c.put_number-in-Order.ensures.fits, along IsNumber c.get-in-Order.result c.in-Order.place c.get-in-Order.ensures.value c.get-in-Order.ensures.in_range, c.put_entry_text.ensures.fits)

pub returns-in-Nak-clause-fits : goal.returns-in-Nak-clause-fits
returns-in-Nak-clause-fits c =
    back IsBody c.args.body.now (bodies.Nak c.in-Nak.view c.in-Nak.missing) c.in-Nak.is (
      c.put_numbers.ensures.fits,
      along IsNumber c.get-in-Nak.result c.in-Nak.missing.first (c.get-in-Nak.ensures.value ∙ c.first.ensures.value) c.get-in-Nak.ensures.in_range,
      c.first.ensures.in_order,
      along IsCount c.get-in-Nak-2.result c.in-Nak.missing.last (c.get-in-Nak-2.ensures.value ∙ c.last.ensures) c.get-in-Nak-2.ensures.in_range.1,
    )

pub returns-in-Ack-clause-fits : goal.returns-in-Ack-clause-fits
returns-in-Ack-clause-fits c =
    back IsBody c.args.body.now (bodies.Ack c.in-Ack.view c.in-Ack.delivered) c.in-Ack.is
    (c.put_number-in-Ack.ensures.fits, along IsCount c.get-in-Ack.result c.in-Ack.delivered c.get-in-Ack.ensures.value c.get-in-Ack.ensures.in_range)

pub returns-in-Status-clause-fits : goal.returns-in-Status-clause-fits
returns-in-Status-clause-fits c =
    back IsBody c.args.body.now (bodies.Status c.in-Status.view c.in-Status.progress) c.in-Status.is (
      c.put_numbers-in-Status.ensures.fits,
      along IsCount c.get-in-Status.result c.in-Status.progress.highest (c.get-in-Status.ensures.value ∙ c.highest.ensures.value) c.get-in-Status.ensures.in_range,
      c.highest.ensures.near.0,
      c.highest.ensures.near.1,
    )

pub returns-in-Behind-clause-fits : goal.returns-in-Behind-clause-fits
returns-in-Behind-clause-fits c =
    back IsBody c.args.body.now (bodies.Behind c.in-Behind.proposal c.in-Behind.counter) c.in-Behind.is
    (c.put_number-in-Behind.ensures.fits, along IsNumber c.get-in-Behind.result c.in-Behind.counter c.get-in-Behind.ensures.value c.get-in-Behind.ensures.in_range)

pub returns-in-Report-clause-fits : goal.returns-in-Report-clause-fits
returns-in-Report-clause-fits c =
    back IsBody c.args.body.now (bodies.Report c.in-Report.proposal c.in-Report.report) c.in-Report.is
    (c.put_view_id.ensures.fits, c.put_report.ensures.fits)

pub returns-in-State-clause-fits : goal.returns-in-State-clause-fits
returns-in-State-clause-fits c =
    back IsBody c.args.body.now (bodies.State c.in-State.proposal c.in-State.chunk) c.in-State.is (
      c.put_view_id-in-State.ensures.fits,
      record {
        total = along IsTotal c.get-in-State.result c.in-State.chunk.total (c.get-in-State.ensures.value ∙ c.total.ensures) c.get-in-State.ensures.in_range;
        place = along (IsPlace c.in-State.chunk.total) c.index.result c.in-State.chunk.index c.index.ensures.index c.index.ensures.place;
        cut = along (IsCut c.in-State.chunk.total c.in-State.chunk.index) c.as_slice.result.now c.in-State.chunk.bytes c.as_slice.ensures.bytes c.as_slice.ensures.cut;
      },
    )
