use Rattle.std.proofs.Common.{sym, ap, ◌∙◌}
use Rattle.keyed_state.specs.Keys.{IsKey}
use Rattle.keyed_state.specs.Tokens.{next_token}
use Rattle.replicated_map.specs.Entries.{MapState}
use Rattle.replicated_map.proofs.EntriesChange.{puts-in}
use Rattle.replicated_map.proofs.map.ReplicatedMap.put.Goals as goal

pub invariant_of-self-then-has_room : goal.invariant_of-self-then-has_room
invariant_of-self-then-has_room c =
    let key : IsKey c.args.key.now = rw c.as_slice-2.ensures.bytes at c.as_slice-2.ensures.key in
    puts-in c.self.inside.last c.next-version.result c.args.view c.args.key.now c.args.value.now c.self.inside.entries.items c.put_at.new.entries.items c.size_with-size.result c.self.invariant.0 c.known_view_id.ensures key c.size_with-size.ensures.value
    (c.next-version.ensures ∙ ap (λ (s : MapState). next_token c.args.view s.last) (sym c.self.view_is)) c.in_ok-put_at.ensures.ok (rw c.as_slice-3.ensures.value at c.size_with-size.ensures.size) (sym c.has_room.ensures ∙ c.if-has_room.true)
