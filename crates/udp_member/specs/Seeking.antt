-- How a runner seeks members of its group that are not in its view.
use Rattle.std.specs.Prelude.{◌≡◌, ℕ, Option, None, Some, MatchOption, if◌then◌else◌}
use Rattle.std.specs.Option.{option_and_then, option_map_or}
use Rattle.address.specs.Ids.{Address, same_address}
use Rattle.view.specs.Members.{View}
use Rattle.state_transfer.specs.Meanings.{Meaning}
use Rattle.member.specs.declared.error.Error.{Error}
use Rattle.channel.specs.Channels.{ChannelModel, view_in}
use Rattle.udp_net.specs.Logs.{Log}
use Rattle.udp_member.specs.RunnerNotes.{RunnerNotes}
use Rattle.udp_member.specs.Peers.{first_heard, is_outside, served}
use Rattle.udp_member.specs.Turns.{Hint, Driven, Takes}
use Rattle.udp_member.specs.Rounds.{PassesOver}

-- the view that the channel leads, if it does
abbrev pub led_by : {S : Type 0} → ChannelModel S → Option View
led_by channel = option_and_then (λ v. if same_address channel.address v.id.creator then Some v else None) (view_in channel.stage)

-- whom the coordinator of a view seeks: the first of the nodes at which somebody was heard, and of which nobody is in the view
abbrev pub sought : {N S : Type 0} → Driven N S → Option Address
sought r = option_and_then (λ v. first_heard (is_outside v) r.notes.peers) (led_by r.channel)

-- then it is the turn of the nodes behind
abbrev pub notes_served : View → RunnerNotes → RunnerNotes
notes_served v n = record n { peers = served (is_outside v) n.peers }

abbrev pub turned : {N S : Type 0} → Driven N S → Driven N S
turned r = record r { notes = option_map_or (λ v. notes_served v r.notes) (led_by r.channel) r.notes }

-- it is hinted to the channel that a member may be reached at an address
pub record Hints {N S : Type 0} (log : N → Option Log) (failed : N → ℕ) (meaning : Meaning S) (p : Address) (old : Driven N S) (failure : Option Error) (new : Driven N S)
    : Type 0 where
  pub answer : Option Error
  pub takes : Takes log failed meaning (Hint p) old answer new
  pub why : PassesOver answer failure

-- nobody is sought, or one
abbrev pub Seeks : {N S : Type 0} → (N → Option Log) → (N → ℕ) → Meaning S → Driven N S → Option Error → Driven N S → Type 0
Seeks log failed meaning old failure new =
    MatchOption (sought old) ((failure ≡ None) × (new ≡ turned old)) (λ p. Hints log failed meaning p (turned old) failure new)
