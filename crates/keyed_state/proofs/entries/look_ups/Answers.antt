use Rattle.keyed_state.proofs.LookUpsFind.{found-put, found-without, alike}
use Rattle.keyed_state.proofs.entries.look_ups.Goals as goal

pub returns-clause-put : goal.returns-clause-put
returns-clause-put g c = found-put

pub returns-clause-without : goal.returns-clause-without
returns-clause-without g c = λ k s q up. found-without k s q up

pub returns-clause-alike : goal.returns-clause-alike
returns-clause-alike g c = alike
