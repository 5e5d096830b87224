-- The counts that the members of a view acknowledged, and how many messages are stable by them.
use Rattle.std.specs.Prelude.{ℕ, List, [], ◌∷◌, map, max, min, length, nat_eq, if◌then◌else◌}
use Rattle.address.specs.Ids.{Address, same_address}
use Rattle.stability.specs.declared.Ack.{Ack}

-- a member of whom nothing was heard
abbrev pub unheard : Address → Ack
unheard p = record { member = p; count = 0 }

-- a count of p's is heard: it raises p's count, and never lowers it
abbrev pub raised : Address → ℕ → Ack → Ack
raised p n a = if same_address p a.member then record { member = a.member; count = max a.count n } else a

abbrev pub noted : Address → ℕ → List Ack → List Ack
noted p n acks = map (raised p n) acks

-- the stable count: the least of the members' counts
abbrev pub stable_count : List Ack → ℕ
stable_count [] = 0
stable_count (a ∷ acks) = if nat_eq (length acks) 0 then a.count else min a.count (stable_count acks)

-- the members whose counts these are
abbrev pub members_of : List Ack → List Address
members_of acks = map (λ a. a.member) acks

-- the count of p, 0 where there is none
abbrev pub count_of : Address → List Ack → ℕ
count_of p [] = 0
count_of p (a ∷ acks) = if same_address p a.member then a.count else count_of p acks
