-- Which of two views is the greater one, and of which views a node is told.
use Rattle.std.specs.Prelude.{◌≡◌, ℕ, ◌-◌, Bool, true, false, not, ◌&&◌, ◌||◌, List, [], filter_map, filter, length, max, min, Option, None, Some, Contains, nat_lt, nat_le, nat_eq, if◌then◌else◌}
use Rattle.std.specs.List.{fold, list_any, slice_get}
use Rattle.std.specs.Option.{option_map_or, option_and_then, is_some}
use Rattle.std.specs.Ordering.{is_gt, is_lt}
use Rattle.address.specs.Ids.{Address, ViewId, address_cmp, view_id_cmp, same_address, same_view_id}
use Rattle.udp_net.specs.declared.word.Echo.{Echo}
use Rattle.udp_net.specs.declared.word.Place.{Place}
use Rattle.udp_net.specs.declared.word.Word.{Word}
use Rattle.udp_net.specs.declared.word.Neighbour.{Neighbour}
use Rattle.udp_net.specs.declared.word.WordVersion.{WordVersion}
use Rattle.udp_net.specs.declared.word.WordVersion.TheVariants.{First, Second}
use Rattle.node_finding.specs.declared.ranks.Rank.{Rank}
use Rattle.node_finding.specs.declared.ranks.Offer.{Offer}
use Rattle.node_finding.specs.declared.ranks.Moment.{Moment}

-- a view has more members than another, or as many and a greater id
abbrev pub has_more : Rank → Rank → Bool
has_more a b = nat_lt b.members a.members || (nat_eq a.members b.members && is_gt (view_id_cmp a.view b.view))

-- a view is greater than another: it has a later history; or the same, and more members, or as many and a greater id
abbrev pub outranks : Rank → Rank → Bool
outranks a b = nat_lt b.history a.history || (nat_eq a.history b.history && has_more a b)

-- ---- words

-- a word answers one that this very address said, and that not long ago
abbrev pub answers : Moment → Echo → Bool
answers m e = same_address e.address m.own && (nat_le e.said m.time && nat_le (m.time - e.said) m.fresh)

abbrev pub is_fresh : Moment → Word → Bool
is_fresh m w = option_map_or (answers m) w.echo false

-- the fresh word of a node
abbrev pub word_of : Moment → Neighbour → Option Word
word_of m n = option_and_then (λ w. if is_fresh m w then Some w else None) n.word

-- ---- whether history counts

abbrev pub is_first : WordVersion → Bool
is_first First = true
is_first Second = false

-- the fresh word of a node is of version 1: it tells no history, and its node compares none
abbrev pub speaks_first : Moment → Neighbour → Bool
speaks_first m n = option_map_or (λ w. is_first w.version) (word_of m n) false

-- history counts while no such word is there, so that all nodes that hear each other compare alike
abbrev pub counts_history : Moment → List Neighbour → Bool
counts_history m nodes = not (list_any (speaks_first m) nodes)

abbrev pub plain_moment : Address → ℕ → ℕ → Moment
plain_moment own time fresh = record { own = own; time = time; fresh = fresh; counts_history = false }

abbrev pub moment_at : Address → ℕ → ℕ → List Neighbour → Moment
moment_at own time fresh nodes = record { own = own; time = time; fresh = fresh; counts_history = counts_history (plain_moment own time fresh) nodes }

-- a history as it counts in a rank
abbrev pub counted : Moment → ℕ → ℕ
counted m history = if m.counts_history then history else 0

-- ---- of what nodes tell

abbrev pub rank_of : Moment → Place → Rank
rank_of m p = record { history = counted m p.history; members = p.members; view = p.view }

-- what the coordinator of a view tells of it
abbrev pub offered_in : Moment → Word → Place → Option Offer
offered_in m w p = if same_address p.view.creator w.source then Some (record { rank = rank_of m p; stays = p.stays }) else None

abbrev pub offer_by : Moment → Word → Option Offer
offer_by m w = option_and_then (offered_in m w) w.place

-- the view of which a node tells
abbrev pub offer_of : Moment → Neighbour → Option Offer
offer_of m n = option_and_then (offer_by m) (word_of m n)

-- but for one
abbrev pub is_of : Option ViewId → Offer → Bool
is_of but offer = option_map_or (same_view_id offer.rank.view) but false

abbrev pub other_of : Moment → Option ViewId → Neighbour → Option Offer
other_of m but n = option_and_then (λ o. if is_of but o then None else Some o) (offer_of m n)

-- all views of which nodes tell, but for one
abbrev pub told : Moment → Option ViewId → List Neighbour → List Offer
told m but nodes = filter_map (other_of m but) nodes

-- what a node tells of one view, and what is told of it first
abbrev pub offer_in : Moment → ViewId → Neighbour → Option Offer
offer_in m view n = option_and_then (λ o. if same_view_id o.rank.view view then Some o else None) (offer_of m n)

abbrev pub told_of : Moment → ViewId → List Neighbour → Option Offer
told_of m view nodes = slice_get (filter_map (offer_in m view) nodes) 0

-- it is one of them, and none of them is greater; there is none only where there are none
abbrev pub IsGreatest : List Offer → Option Offer → Type 0
IsGreatest offers None = offers ≡ []
IsGreatest offers (Some best) = Contains offers best × ((o : Offer) → Contains offers o → outranks o.rank best.rank ≡ false)

-- whether a node says by a fresh word that it is in a view
abbrev pub stands_there : ViewId → Word → Bool
stands_there view w = option_map_or (λ p. same_view_id p.view view) w.place false

abbrev pub is_there : Moment → ViewId → Neighbour → Bool
is_there m view n = option_map_or (stands_there view) (word_of m n) false

-- of how many nodes it is known that they are in a view
abbrev pub count_in : Moment → ViewId → List Neighbour → ℕ
count_in m view nodes = length (filter (is_there m view) nodes)

-- the latest history of a view of which nodes tell that say by fresh words that they are in it
abbrev pub history_there : ViewId → Place → ℕ
history_there view p = if same_view_id p.view view then p.history else 0

abbrev pub history_by : ViewId → Word → ℕ
history_by view w = option_map_or (history_there view) w.place 0

abbrev pub told_history : Moment → ViewId → Neighbour → ℕ
told_history m view n = option_map_or (history_by view) (word_of m n) 0

abbrev pub history_in : Moment → ViewId → List Neighbour → ℕ
history_in m view nodes = fold (λ h n. max h (told_history m view n)) 0 nodes

-- whether a node is in a view of which its coordinator does not tell, and that is greater than another, by what those tell that say that they are there
abbrev pub untold_rank : Moment → List Neighbour → ViewId → Rank
untold_rank m nodes view = record { history = counted m (history_in m view nodes); members = min (count_in m view nodes) 255; view = view }

abbrev pub is_greater_untold : Moment → Rank → List Neighbour → ViewId → Bool
is_greater_untold m than nodes view = not (is_some (told_of m view nodes)) && outranks (untold_rank m nodes view) than

abbrev pub says_of_greater : Moment → Rank → List Neighbour → Word → Bool
says_of_greater m than nodes w = option_map_or (λ p. is_greater_untold m than nodes p.view) w.place false

abbrev pub is_of_greater : Moment → Rank → List Neighbour → Neighbour → Bool
is_of_greater m than nodes n = option_map_or (says_of_greater m than nodes) (word_of m n) false

-- whether a node that looks waits for the one of a word: that is in a view, or looks too and has a lower address
abbrev pub goes_first : Moment → Word → Bool
goes_first m w = is_some w.place || is_lt (address_cmp w.source m.own)

abbrev pub is_awaited : Moment → Neighbour → Bool
is_awaited m n = option_map_or (goes_first m) (word_of m n) false

-- the greater of two, if there is a first one
abbrev pub greater_of : Option Offer → Offer → Offer
greater_of None offer = offer
greater_of (Some best) offer = if outranks offer.rank best.rank then offer else best
