use Rattle.law_acts.specs.Stories.{one, message_a}
use Rattle.law_acts.proofs.StoriesPlay.{one-is}
use Rattle.law_acts.proofs.CrashStoryPlays.{crash-plays}
use Rattle.law_acts.proofs.LeaveStoryPlays.{leave-plays}
use Rattle.law_acts.proofs.MergeStoryPlays.{merge-plays, is-short}
use Rattle.law_acts.proofs.ChunkStoryPlays.{chunk-plays}
use Rattle.law_acts.proofs.agreement_law.stories_play.Goals as goal

pub returns-clause-crash : goal.returns-clause-crash
returns-clause-crash g c =
    let reads = g.met.R.Receiver.reads_back g.R.Receiver.meaning.opening g.met.R.Receiver.opens in
    crash-plays g.R.Receiver.meaning reads

pub returns-clause-leave : goal.returns-clause-leave
returns-clause-leave g c =
    let reads = g.met.R.Receiver.reads_back g.R.Receiver.meaning.opening g.met.R.Receiver.opens in
    leave-plays g.R.Receiver.meaning reads

pub returns-clause-merge : goal.returns-clause-merge
returns-clause-merge g c =
    let reads = g.met.R.Receiver.reads_back g.R.Receiver.meaning.opening g.met.R.Receiver.opens in
    let half = g.met.R.Receiver.applies g.R.Receiver.meaning.opening one message_a g.met.R.Receiver.opens one-is is-short in
    let reads_half = g.met.R.Receiver.reads_back (g.R.Receiver.meaning.apply g.R.Receiver.meaning.opening one message_a) half in
    merge-plays g.R.Receiver.meaning reads reads_half

pub returns-clause-chunks : goal.returns-clause-chunks
returns-clause-chunks g c = chunk-plays
