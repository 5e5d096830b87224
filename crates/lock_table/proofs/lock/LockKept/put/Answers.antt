use Rattle.keyed_state.proofs.PartsAppend.{four-parts}
use Rattle.lock_table.proofs.lock.LockKept.put.Goals as goal

pub returns-clause-items : goal.returns-clause-items
returns-clause-items c =
    let waiters = c.as_slice-waiters.ensures.value in
    rw (← c.self.view_is) (four-parts _ _ _ _ _ _ _ _ _ c.put_address.ensures.items c.put_token.ensures.items (rw waiters at c.put_u32.ensures.items) (rw waiters at c.put_addresses.ensures.items))
