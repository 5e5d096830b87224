-- What is no calm view at its end: somebody has not delivered a message, or does not know that it is stable. A story has one such trace in full.
use Rattle.std.specs.Prelude.{◌≡◌, ℕ, ◌<◌, true, List, [], ◌∷◌, length, None, Some}
use Rattle.address.specs.Ids.{Address}
use Rattle.view.specs.Members.{View, stands_in}
use Rattle.trace_props.specs.Observed.{delivered_in, sent_in, own}
use Rattle.trace_props.specs.declared.event.Event.{Event}
use Rattle.trace_props.specs.declared.event.Event.TheVariants.{Started, Delivered, Blocked}
use Rattle.law_acts.specs.Acts.{lone_view}
use Rattle.law_acts.specs.Stories.{one, two, view_of_two, message_a, installs, sends}
use Rattle.world_model.specs.Histories.{History}
use Rattle.world.specs.declared.node_state.NodeState.{NodeState}
use Rattle.world.specs.Worlds.{WorldModel}
use Rattle.world.specs.Known.{stable_at}
use Rattle.world.specs.Calm.{IsThrough}

-- of one member another has delivered fewer messages than that one sent in the view
abbrev pub MissingIsRefuted : Type 0 → Type 0
MissingIsRefuted S = (v : View) (w : WorldModel S) (p q : Address) → stands_in p v.members ≡ true → stands_in q v.members ≡ true
    → length (own p (delivered_in q v.id w.history.trace)) < length (sent_in p v.id w.history.trace) → IsThrough v w → ⊥

-- a member knows fewer messages to be stable than the coordinator has delivered
abbrev pub UnstableIsRefuted : Type 0 → Type 0
UnstableIsRefuted S = (v : View) (w : WorldModel S) (q : Address) (n : ℕ) → stands_in q v.members ≡ true → stable_at (w.node_states q.node) ≡ Some n
    → n < length (delivered_in v.id.creator v.id w.history.trace) → IsThrough v w → ⊥

-- the story: two come into one view, the first sends a message, and only the first delivers it
abbrev pub one_is_missing : List ℕ → List Event
one_is_missing state =
    Started one
    ∷ installs one None (lone_view one) (one ∷ []) None
    ∷ Started two
    ∷ Blocked one
    ∷ installs one (Some (lone_view one).id) view_of_two (one ∷ []) None
    ∷ installs two None view_of_two (two ∷ []) (Some state)
    ∷ sends one view_of_two 1 message_a
    ∷ Delivered (record { member = one; view = view_of_two.id; message = record { sender = one; number = 1; payload = message_a } })
    ∷ []

abbrev pub StoryIsRefuted : Type 0 → Type 0
StoryIsRefuted S = (h : History) (at : ℕ → NodeState S) (state : List ℕ) → h.trace ≡ one_is_missing state → IsThrough view_of_two (record { history = h; node_states = at }) → ⊥
