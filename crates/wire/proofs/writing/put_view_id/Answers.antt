use Rattle.std.proofs.Common.{◌≡◌, ◌++◌, ◌∙◌, length, ap, append_assoc, rules, arith}
use Rattle.std.specs.Vec.{vec_len}
use Rattle.std.proofs.lemmas.List.{length-append}
use Rattle.byteorder.specs.Endian.{big_bytes}
use Rattle.big_endian.specs.Spelled.{address_bytes}
use Rattle.wire_values.specs.Fields.{IsAddress, IsNumber}
use Rattle.wire_values.proofs.FieldLaws.{along}
use Rattle.wire.proofs.writing.put_view_id.Goals as goal

pub put_address-requires : goal.put_address-requires
put_address-requires c =
    let old : vec_len c.args.out.now ≡ length c.args.out.now.items = search rules in
    let new : vec_len c.put_u64.new.out ≡ length c.put_u64.new.out.items = search rules in
    let more : length c.put_u64.new.out.items ≡ length (c.args.out.now.items ++ big_bytes 8 c.counter.result) = ap length c.put_u64.ensures.items in
    omega (arith, old, new, more, length-append c.args.out.now.items (big_bytes 8 c.counter.result), c.put_u64.ensures.room, c.requires)

pub returns-clause-items : goal.returns-clause-items
returns-clause-items c =
    let old = c.args.out.now.items in
    c.put_address.ensures.items
    ∙ ap (λ t. t ++ address_bytes c.creator.result) c.put_u64.ensures.items
    ∙ append_assoc old (big_bytes 8 c.counter.result) (address_bytes c.creator.result)
    ∙ ap (λ n. old ++ (big_bytes 8 n ++ address_bytes c.creator.result)) c.counter.ensures.value
    ∙ ap (λ a. old ++ (big_bytes 8 c.args.id.counter ++ address_bytes a)) c.creator.ensures

pub returns-clause-fits : goal.returns-clause-fits
returns-clause-fits c = record {
  counter = along IsNumber c.counter.result c.args.id.counter c.counter.ensures.value c.counter.ensures.in_range;
  creator = along IsAddress c.creator.result c.args.id.creator c.creator.ensures c.put_address.ensures.fits;
}
