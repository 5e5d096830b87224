use Rattle.std.proofs.Common.{rules}
use Rattle.chat_log.proofs.decoding.chat_of.Goals as goal

pub returns : goal.returns
unfolding Rattle.chat_log.specs.Encoding.chat_decode Rattle.chat_log.specs.Encoding.lines_at
returns c = search rules
