use Rattle.byteorder.specs.Endian.{big_bytes}
use Rattle.keyed_state.specs.Keys.{key_bytes}
use Rattle.keyed_state.specs.Spelling.{view_id_bytes, token_bytes}
use Rattle.replicated_map.specs.Commands.{expected_bytes, pair_bytes}
use Rattle.keyed_state.proofs.PartsAppend.{three-parts, four-parts}
use Rattle.replicated_map.proofs.encoding.put_command.Goals as goal

pub returns-in-Put-clause-items : goal.returns-in-Put-clause-items
returns-in-Put-clause-items c =
    rw c.in-Put.is
    (three-parts c.args.out.now.items (big_bytes 1 1) (view_id_bytes c.in-Put.view) (pair_bytes c.in-Put.key c.in-Put.value) c.put_u8.new.out.items c.put_view_id.new.out.items c.put_pair.new.out.items
    c.put_u8.ensures.items c.put_view_id.ensures.items c.put_pair.ensures.items)

pub returns-in-Replace-clause-items : goal.returns-in-Replace-clause-items
returns-in-Replace-clause-items c =
    rw c.in-Replace.is
    (four-parts c.args.out.now.items (big_bytes 1 3) (view_id_bytes c.in-Replace.view) (expected_bytes c.in-Replace.expected) (pair_bytes c.in-Replace.key c.in-Replace.value) c.put_u8-in-Replace.new.out.items c.put_view_id-in-Replace.new.out.items c.put_expected.new.out.items c.put_pair-in-Replace.new.out.items
    c.put_u8-in-Replace.ensures.items c.put_view_id-in-Replace.ensures.items c.put_expected.ensures.items c.put_pair-in-Replace.ensures.items)

pub returns-in-ReplaceAt-clause-items : goal.returns-in-ReplaceAt-clause-items
returns-in-ReplaceAt-clause-items c =
    rw c.in-ReplaceAt.is
    (four-parts c.args.out.now.items (big_bytes 1 5) (view_id_bytes c.in-ReplaceAt.view) (token_bytes c.in-ReplaceAt.version) (pair_bytes c.in-ReplaceAt.key c.in-ReplaceAt.value) c.put_u8-in-ReplaceAt.new.out.items c.put_view_id-in-ReplaceAt.new.out.items c.put_token.new.out.items c.put_pair-in-ReplaceAt.new.out.items
    c.put_u8-in-ReplaceAt.ensures.items c.put_view_id-in-ReplaceAt.ensures.items (rw c.token.ensures.token at c.put_token.ensures.items) c.put_pair-in-ReplaceAt.ensures.items)

pub returns-in-RemoveAt-clause-items : goal.returns-in-RemoveAt-clause-items
returns-in-RemoveAt-clause-items c =
    rw c.in-RemoveAt.is
    (three-parts c.args.out.now.items (big_bytes 1 6) (token_bytes c.in-RemoveAt.version) (key_bytes c.in-RemoveAt.key) c.put_u8-in-RemoveAt.new.out.items c.put_token-in-RemoveAt.new.out.items c.put_key-in-RemoveAt.new.out.items
    c.put_u8-in-RemoveAt.ensures.items (rw c.token-in-RemoveAt.ensures.token at c.put_token-in-RemoveAt.ensures.items) (rw c.as_slice-in-RemoveAt.ensures.bytes at c.put_key-in-RemoveAt.ensures.items))
