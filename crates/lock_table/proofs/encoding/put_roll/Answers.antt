use Rattle.std.proofs.Common.{◌≡◌, ◌∙◌}
use Rattle.keyed_state.proofs.PartsAppend.{four-parts}
use Rattle.lock_table.proofs.encoding.put_roll.Goals as goal

pub returns-clause-items : goal.returns-clause-items
returns-clause-items c =
    let members : c.as_slice-members.result.now ≡ c.args.view.now.members = c.as_slice-members.ensures ∙ c.members.ensures.members in
    four-parts _ _ _ _ _ _ _ _ _ c.put_u8.ensures.items (rw c.id.ensures at c.put_view_id.ensures.items) (rw members at c.put_u8-2.ensures.items) (rw members at c.put_addresses.ensures.items)
