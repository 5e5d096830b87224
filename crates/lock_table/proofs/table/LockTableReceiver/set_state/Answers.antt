use Rattle.std.proofs.Common.{◌≡◌, Some, rules}
use Rattle.lock_table.specs.Locks.{table_of}
use Rattle.lock_table.specs.Encoding.{table_decode}
use Rattle.lock_table.specs.TableLaws.{decoded_is_table}
use Rattle.lock_table.proofs.table.LockTableReceiver.set_state.Goals as goal

pub invariant_of-self : goal.invariant_of-self
invariant_of-self c =
    let s = table_of c.in-Some.contents.last c.in-Some.contents.entries.items in
    let e : table_decode c.args.state.now ≡ Some s = rw c.in-Some.is at c.in_ok-contents_of.ensures in
    decoded_is_table c.args.state.now s e

pub returns-in-None-clause-ok : goal.returns-in-None-clause-ok
returns-in-None-clause-ok c = search rules

pub returns-in-None-clause-err : goal.returns-in-None-clause-err
returns-in-None-clause-err c = search rules
