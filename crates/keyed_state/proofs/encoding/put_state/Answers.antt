use Rattle.std.proofs.Common.{◌≤◌, length, rules}
use Rattle.keyed_state.specs.States.{state_of}
use Rattle.keyed_state.specs.StateLaws.{count_of}
use Rattle.keyed_state.proofs.encoding.put_state.Goals as goal

pub overflow_cast-entries : goal.overflow_cast-entries
overflow_cast-entries g c =
    let few : length c.args.entries.now ≤ 4294967295 = count_of g.V.Kept.form (state_of c.args.last c.args.entries.now) c.requires.state in
    search rules
