-- What words tell of nodes, and when it is forgotten.
use Rattle.std.specs.Prelude.{ℕ, ◌+◌, Bool, true, false, ◌&&◌, ◌||◌, List, map, min, None, Some, nat_lt, nat_eq, if◌then◌else◌}
use Rattle.std.specs.List.{list_any}
use Rattle.std.specs.Option.{option_map_or, is_none}
use Rattle.udp_net.specs.declared.word.Word.{Word}
use Rattle.udp_net.specs.declared.word.Neighbour.{Neighbour}
use Rattle.udp_net.specs.declared.neighbours.Age.{Age}
use Rattle.udp_net.specs.declared.word.TheConstants.{WORD_VERSION}
use Rattle.udp_net.specs.declared.TheConstants.{FORGOTTEN}
use Rattle.udp_net.specs.Words.{version_number}

-- the nodes with what was told of them, and for how many rounds that is known
pub record NeighboursModel : Type 0 where
  pub told : List Neighbour
  pub ages : List Age

-- nothing was told of a node
abbrev pub untold : ℕ → Neighbour
untold node = record { node = node; word = None; is_asked = false }

abbrev pub newborn : ℕ → Age
newborn node = record { node = node; rounds = 0 }

-- of two words of one incarnation the one of the later version counts, and of two of one version the one that was said later
abbrev pub is_said_later : Word → Word → Bool
is_said_later w last =
    nat_lt (version_number last.version) (version_number w.version) || (nat_eq (version_number last.version) (version_number w.version) && nat_lt last.said w.said)

-- a word is later than another one: of a later incarnation, or of the same one and counts
abbrev pub is_later : Word → Word → Bool
is_later w last = nat_lt last.source.incarnation w.source.incarnation || (nat_eq last.source.incarnation w.source.incarnation && is_said_later w last)

-- it is of this node, and later than its latest one
abbrev pub is_news : Word → Neighbour → Bool
is_news w n = nat_eq n.node w.source.node && option_map_or (is_later w) n.word true

abbrev pub hearing : Word → Neighbour → Neighbour
hearing w n = if is_news w n then record { node = n.node; word = Some w; is_asked = is_none w.place } else n

-- what is known of a node is new now
abbrev pub renewed : ℕ → Age → Age
renewed node a = if nat_eq a.node node then newborn a.node else a

-- a word came: it counts if it is later than the latest one of its node
abbrev pub heard : Word → NeighboursModel → NeighboursModel
heard w s = if list_any (is_news w) s.told then record { told = map (hearing w) s.told; ages = map (renewed w.source.node) s.ages } else s

-- whether the latest word of a node is of version 2
abbrev pub tells_history : Word → Bool
tells_history w = nat_eq (version_number w.version) WORD_VERSION

abbrev pub is_of_second : ℕ → Neighbour → Bool
is_of_second node n = nat_eq n.node node && option_map_or tells_history n.word false

abbrev pub knows_second : ℕ → NeighboursModel → Bool
knows_second node s = list_any (is_of_second node) s.told

-- a word is said to a node
abbrev pub answered : ℕ → Neighbour → Neighbour
answered node n = if nat_eq n.node node then record n { is_asked = false } else n

abbrev pub answering : ℕ → NeighboursModel → NeighboursModel
answering node s = record s { told = map (answered node) s.told }

-- it is known for a round more
abbrev pub older : Age → Age
older a = record a { rounds = min (a.rounds + 1) 4294967295 }

-- what is known of a node is too old
abbrev pub is_old : ℕ → List Age → Bool
is_old node ages = list_any (λ a. nat_eq a.node node && nat_lt FORGOTTEN a.rounds) ages

abbrev pub remembered : List Age → Neighbour → Neighbour
remembered ages n = if is_old n.node ages then untold n.node else n

-- a round is over
abbrev pub passing : NeighboursModel → NeighboursModel
passing s = record { told = map (remembered (map older s.ages)) s.told; ages = map older s.ages }
