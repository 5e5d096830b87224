-- What a runner notes of the datagrams that came.
use Rattle.std.specs.Prelude.{ℕ, List, map, Option, None, Some, Result, Ok, Err}
use Rattle.view.specs.Members.{View}
use Rattle.member.specs.declared.heard.Heard.{Heard}
use Rattle.member.specs.declared.error.Error.{Error}
use Rattle.member.specs.declared.error.Error.TheVariants.{Refused, Wire}
use Rattle.udp_net.specs.Logs.{one_more}
use Rattle.udp_member.specs.declared.peers.Peer.{Peer}
use Rattle.udp_member.specs.Peers.{hearing, met, unheard}
use Rattle.udp_member.specs.Detectors.{FailureDetector, after_packet, never_heard}

-- where members may be sought; how many datagrams spelled no packet, and how many packets were not for the channel; whom it has not heard
pub record RunnerNotes : Type 0 where
  pub peers : List Peer
  pub garbled : ℕ
  pub foreign : ℕ
  pub detector : FailureDetector

abbrev pub nothing_noted : List ℕ → ℕ → RunnerNotes
nothing_noted nodes silent = record { peers = map unheard nodes; garbled = 0; foreign = 0; detector = never_heard silent }

-- a datagram was answered so: what packet it was, where it was for the channel
abbrev pub noted : Result (Option Heard) Error → RunnerNotes → RunnerNotes
noted (Ok (Some heard)) n = record n { peers = map (hearing heard.source) n.peers; detector = after_packet heard n.detector }
noted (Ok None) n = record n { foreign = one_more n.foreign }
noted (Err (Wire e)) n = record n { garbled = one_more n.garbled }
noted (Err (Refused r)) n = n

-- its channel is in this view, or in none: who is in it may be sought
abbrev pub having_met : Option View → RunnerNotes → RunnerNotes
having_met None n = n
having_met (Some v) n = record n { peers = met v.members n.peers }
