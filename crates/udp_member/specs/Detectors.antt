-- Whom a runner has not heard for how long, and who is silent for too long.
use Rattle.std.specs.Prelude.{ℕ, ◌*◌, Bool, true, false, ◌&&◌, ◌||◌, nat_eq, nat_le, nat_lt, List, [], map, find, Option, if◌then◌else◌}
use Rattle.std.specs.Option.{option_map_or}
use Rattle.address.specs.Ids.{Address, ViewId, same_address, same_view_id}
use Rattle.member.specs.declared.heard.Heard.{Heard}
use Rattle.channel.specs.Channels.{ChannelModel, view_in, is_blocked, promised_in}
use Rattle.udp_net.specs.Logs.{one_more}
use Rattle.udp_member.specs.declared.failure_detector.Standing.{Standing}
use Rattle.udp_member.specs.declared.failure_detector.Standing.TheVariants.{Outside, Open, Flushes, Waits}
use Rattle.udp_member.specs.declared.failure_detector.Count.{Count}
use Rattle.udp_member.specs.declared.failure_detector.TheConstants.{ENTRY, PATIENCE, FORWARD, STATUS, FLUSH, BEHIND, REPORT, INSTALL, STATE}

-- how many rounds are too many; where the member stood when the last round was over, and for how many rounds; the counts of those that were watched
pub record FailureDetector : Type 0 where
  pub silent : ℕ
  pub standing : Standing
  pub age : ℕ
  pub counts : List Count

-- nobody is watched yet
abbrev pub never_heard : ℕ → FailureDetector
never_heard silent = record { silent = silent; standing = Outside; age = 0; counts = [] }

-- ---- where a member stands

-- blocked: it makes the view that it promised, or waits for it
abbrev pub blocked_for : Address → ViewId → Standing
blocked_for me proposal = if same_address proposal.creator me then Flushes proposal else Waits proposal

abbrev pub standing_of : {S : Type 0} → ChannelModel S → Standing
standing_of c = option_map_or (λ v. if is_blocked c.stage then option_map_or (blocked_for c.address) (promised_in c.stage) Outside else Open v.id) (view_in c.stage) Outside

abbrev pub is_same : Standing → Standing → Bool
is_same Outside Outside = true
is_same Outside (Open v) = false
is_same Outside (Flushes v) = false
is_same Outside (Waits v) = false
is_same (Open v) Outside = false
is_same (Open v) (Open w) = same_view_id v w
is_same (Open v) (Flushes w) = false
is_same (Open v) (Waits w) = false
is_same (Flushes v) Outside = false
is_same (Flushes v) (Open w) = false
is_same (Flushes v) (Flushes w) = same_view_id v w
is_same (Flushes v) (Waits w) = false
is_same (Waits v) Outside = false
is_same (Waits v) (Open w) = false
is_same (Waits v) (Flushes w) = false
is_same (Waits v) (Waits w) = same_view_id v w

-- ---- signs of life

abbrev pub is_about : ViewId → Heard → Bool
is_about id h = option_map_or (λ about. same_view_id about id) h.about false

-- what the members of a view say to each other in it
abbrev pub is_of_view : ℕ → Bool
is_of_view kind = (nat_le FORWARD kind && nat_le kind STATUS) || nat_eq kind INSTALL || nat_eq kind STATE

-- in a view, the packets of that view, and for a while the REPORT of who missed its INSTALL; in a flush of its own, the answers to it; while it waits, what belongs to its promise
abbrev pub is_sign_of_life : Standing → Bool → Heard → Bool
is_sign_of_life Outside is_new h = false
is_sign_of_life (Open view) is_new h = (is_of_view h.kind || (is_new && nat_eq h.kind REPORT)) && is_about view h
is_sign_of_life (Flushes proposal) is_new h = (nat_eq h.kind REPORT || nat_eq h.kind BEHIND) && is_about proposal h
is_sign_of_life (Waits proposal) is_new h = (nat_eq h.kind FLUSH || nat_eq h.kind INSTALL || nat_eq h.kind STATE) && is_about proposal h

-- whether others may be on their way into its view
abbrev pub is_new : FailureDetector → Bool
is_new s = nat_lt s.age (ENTRY * s.silent)

-- a sign of life came from an address
abbrev pub counted : Address → Count → Count
counted source c = if same_address c.address source then record c { is_heard = true } else c

-- a packet came
abbrev pub after_packet : Heard → FailureDetector → FailureDetector
after_packet h s = if is_sign_of_life s.standing (is_new s) h then record s { counts = map (counted h.source) s.counts } else s

-- ---- rounds

abbrev pub count_of : Address → List Count → Option Count
count_of p counts = find (λ c. same_address c.address p) counts

-- one more round without a sign of life; none, where one came or the member stands elsewhere now
abbrev pub rounds_after : Bool → List Count → Address → ℕ
rounds_after stays counts p = if stays then option_map_or (λ c. if c.is_heard then 0 else one_more c.rounds) (count_of p counts) 0 else 0

abbrev pub count_after : Bool → List Count → Address → Count
count_after stays counts p = record { address = p; rounds = rounds_after stays counts p; is_heard = false }

-- a round is over, where the member stands so, with these watched
abbrev pub after_round : Standing → List Address → FailureDetector → FailureDetector
after_round standing watched s = record s {
  standing = standing;
  age = if is_same s.standing standing then one_more s.age else 0;
  counts = map (count_after (is_same s.standing standing) s.counts) watched;
}

-- ---- who is silent

-- how many rounds are too many: more while another makes a view
abbrev pub most_at : ℕ → Standing → ℕ
most_at silent Outside = silent
most_at silent (Open v) = silent
most_at silent (Flushes v) = silent
most_at silent (Waits v) = PATIENCE * silent

abbrev pub most : FailureDetector → ℕ
most s = most_at s.silent s.standing

abbrev pub is_silent : FailureDetector → Address → Bool
is_silent s p = option_map_or (λ c. nat_le (most s) c.rounds) (count_of p s.counts) false

-- all counts begin anew
abbrev pub begun_anew : FailureDetector → FailureDetector
begun_anew s = record s { counts = [] }
