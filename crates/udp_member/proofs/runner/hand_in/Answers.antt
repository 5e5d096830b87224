use Rattle.std.proofs.Common.{refl, rules}
use Rattle.std.specs.Result.{result_err}
use Rattle.udp_member.proofs.runner.hand_in.Goals as goal

pub returns-in-Ok : goal.returns-in-Ok
returns-in-Ok g c = record {
  answer = result_err c.incoming-answer.result;
  noted = search rules;
  why = search rules;
  turn = record { calls = record { lent = c.args.bytes; same = refl; calls = c.incoming-answer.ensures.calls }; left = search rules };
}

pub returns-in-Err : goal.returns-in-Err
returns-in-Err g c = record {
  answer = result_err c.incoming-answer.result;
  noted = search rules;
  why = search rules;
  turn = record { calls = record { lent = c.args.bytes; same = refl; calls = c.incoming-answer.ensures.calls }; left = search rules };
}
