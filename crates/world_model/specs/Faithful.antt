-- When a history is faithful: each world event has the answer and the events that the table gives it.
use Rattle.std.specs.Prelude.{◌≡◌, ℕ, ◌+◌, ◌-◌, ◌<◌, ◌^◌, ◌⊎◌, Bool, true, false, ◌&&◌, ◌∷◌, [], None, List, length, nat_lt, nat_le, MatchOption, MatchBool, drop, if◌then◌else◌}
use Rattle.std.specs.Option.{option_map_or, ForSome}
use Rattle.std.specs.List.{list_all, Contains}
use Rattle.address.specs.Ids.{Address, ViewId, same_address}
use Rattle.address.specs.declared.limits.TheConstants.{PAYLOAD, OUTSTANDING, WINDOW, GREATEST_NUMBER}
use Rattle.trace_props.specs.declared.event.Event.{Event}
use Rattle.trace_props.specs.declared.event.Event.TheVariants.{Started, Sent, Delivered, Blocked, Installed, Left, Crashed}
use Rattle.trace_props.specs.declared.event.Install.{Install}
use Rattle.trace_props.specs.Observed.{member_of, has_ended, current_view, is_blocked, sent_in, delivered_in, own}
use Rattle.world_model.specs.declared.WorldEvent.{WorldEvent}
use Rattle.world_model.specs.declared.WorldEvent.TheVariants.{Start, Create, Join, Send, Deliver, Tick, Suspect, MergeHint, Leave, Crash}
use Rattle.world_model.specs.declared.Answer.{Answer}
use Rattle.world_model.specs.declared.Answer.TheVariants.{Done, Refused}
use Rattle.world_model.specs.declared.Answer.TheVariants as answer
use Rattle.address.specs.declared.refusal.Refusal.{Refusal}
use Rattle.address.specs.declared.refusal.Refusal.TheVariants.{NotConnected, Busy, TooLong, AlreadyConnected, Closed, Memory, Exhausted}
use Rattle.address.specs.declared.refusal.Refusal.TheVariants as refusal
use Rattle.world_model.specs.Histories.{History, last_of, is_connected, after, no_history}
use Rattle.world_model.specs.Packets.{recipient}

-- a world event is refused: nothing happens
abbrev pub Refuses : Refusal → Answer → List Event → Type 0
Refuses r a stretch = (a ≡ Refused r) × (stretch ≡ [])

-- memory was refused in a member's step: that member has crashed
abbrev pub Fails : Address → Answer → List Event → Type 0
Fails p a stretch = (a ≡ Refused Memory) × (stretch ≡ Crashed p ∷ [])

-- START

-- the member that a node starts next
abbrev pub next_member : ℕ → List Event → Address
next_member n t = record { node = n; incarnation = option_map_or (λ p. p.incarnation + 1) (last_of n t) 1 }

abbrev pub runs_at : ℕ → List Event → Bool
runs_at n t = option_map_or (λ p. if has_ended p t then false else true) (last_of n t) false

-- refused where a member of the node runs, and after the last incarnation
abbrev pub AnswersStart : ℕ → History → Answer → List Event → Type 0
AnswersStart n h a stretch =
    MatchBool (runs_at n h.trace) (Refuses AlreadyConnected a stretch)
    (MatchBool (nat_lt (next_member n h.trace).incarnation (2 ^ 32))
    (((a ≡ Done) × (stretch ≡ Started (next_member n h.trace) ∷ []))
    ⊎ ((a ≡ Refused Memory) × (stretch ≡ Started (next_member n h.trace) ∷ Crashed (next_member n h.trace) ∷ [])))
    (Refuses Exhausted a stretch))

-- ALL OTHER EVENTS

-- at a node's member: refused where the node was never started, and where its last member has ended
abbrev pub AtMember : ℕ → History → Answer → List Event → (Address → Type 0) → Type 0
AtMember n h a stretch At =
    MatchOption (last_of n h.trace) (Refuses NotConnected a stretch)
    (λ p. MatchBool (has_ended p h.trace) (Refuses Closed a stretch) (At p))

-- the first view that a member makes, of itself alone
abbrev pub first_view : Address → ViewId
first_view p = record { counter = 1; creator = p }

abbrev pub lone_install : Address → Install
lone_install p = record {
  member = p;
  previous = None;
  view = record { id = first_view p; members = p ∷ [] };
  together = p ∷ [];
  handed_back = [];
  given = None;
}

-- refused where a create or a join of the member was answered Done before; else it installs the view of itself alone
abbrev pub AnswersCreate : Address → History → Answer → List Event → Type 0
AnswersCreate p h a stretch =
    MatchBool (is_connected p.node h) (Refuses AlreadyConnected a stretch)
    (((a ≡ Done) × (stretch ≡ Installed (lone_install p) ∷ [])) ⊎ Fails p a stretch)

-- how many of a member's messages in a view it has not delivered yet
abbrev pub outstanding : Address → ViewId → List Event → ℕ
outstanding p v t = length (sent_in p v t) - length (own p (delivered_in p v t))

-- an event that no world event asks for by itself
abbrev pub is_quiet : Event → Bool
is_quiet (Started p) = false
is_quiet (Sent s) = false
is_quiet (Delivered d) = true
is_quiet (Blocked p) = true
is_quiet (Installed i) = true
is_quiet (Left p) = false
is_quiet (Crashed p) = false

abbrev pub are_quiet : Address → List Event → Bool
are_quiet p stretch = list_all (λ h. same_address (member_of h) p && is_quiet h) stretch

-- the message gets the next number, its Sent comes first, and no other Sent with it
pub record SendsNext (p : Address) (v : ViewId) (payload : List ℕ) (t : List Event) (a : Answer) (stretch : List Event) : Type 0 where
  pub number : a ≡ answer.Sent (length (sent_in p v t) + 1)
  pub first : stretch ≡ Sent (record { member = p; view = v; message = record { number = length (sent_in p v t) + 1; payload = payload } }) ∷ drop 1 stretch
  pub quiet : are_quiet p (drop 1 stretch) ≡ true

-- the first that applies: no view, too long, blocked, too many outstanding, numbers used up; else it is sent
abbrev pub AnswersSend : List ℕ → Address → History → Answer → List Event → Type 0
AnswersSend payload p h a stretch =
    MatchOption (current_view p h.trace) (Refuses NotConnected a stretch)
    (λ v. MatchBool (nat_lt PAYLOAD (length payload)) (Refuses TooLong a stretch)
    (MatchBool (is_blocked p h.trace) (Refuses refusal.Blocked a stretch)
    (MatchBool (nat_le OUTSTANDING (outstanding p v h.trace)) (Refuses Busy a stretch)
    (MatchBool (nat_lt (length (sent_in p v h.trace)) GREATEST_NUMBER)
    (SendsNext p v payload h.trace a stretch ⊎ Fails p a stretch)
    (Refuses Exhausted a stretch)))))

-- refused where the member has a view
abbrev pub AnswersJoin : Address → History → Answer → List Event → Type 0
AnswersJoin p h a stretch =
    MatchOption (current_view p h.trace) (((a ≡ Done) × (stretch ≡ [])) ⊎ Fails p a stretch) (λ v. Refuses AlreadyConnected a stretch)

-- never refused: whatever happens then, no world event asks for by itself
abbrev pub AnswersQuietly : Address → Answer → List Event → Type 0
AnswersQuietly p a stretch = ((a ≡ Done) × (are_quiet p stretch ≡ true)) ⊎ Fails p a stretch

-- nothing happens where there is no such packet, or its destination's node has no running member
abbrev pub AnswersDeliver : ℕ → History → Answer → List Event → Type 0
AnswersDeliver k h a stretch = MatchOption (recipient k h) ((a ≡ Done) × (stretch ≡ [])) (λ p. AnswersQuietly p a stretch)

abbrev pub AnswersLeave : Address → Answer → List Event → Type 0
AnswersLeave p a stretch = (a ≡ Done) × (stretch ≡ Left p ∷ []) ⊎ Fails p a stretch

abbrev pub AnswersCrash : Address → Answer → List Event → Type 0
AnswersCrash p a stretch = (a ≡ Done) × (stretch ≡ Crashed p ∷ [])

-- THE TABLE: after this history the world event may have this answer and these events
abbrev pub Answers : History → WorldEvent → Answer → List Event → Type 0
Answers h (Start n) a stretch = AnswersStart n h a stretch
Answers h (Create n) a stretch = AtMember n h a stretch (λ p. AnswersCreate p h a stretch)
Answers h (Join n contact) a stretch = AtMember n h a stretch (λ p. AnswersJoin p h a stretch)
Answers h (Send n payload) a stretch = AtMember n h a stretch (λ p. AnswersSend payload p h a stretch)
Answers h (Deliver k) a stretch = AnswersDeliver k h a stretch
Answers h (Tick n) a stretch = AtMember n h a stretch (λ p. AnswersQuietly p a stretch)
Answers h (Suspect n q) a stretch = AtMember n h a stretch (λ p. AnswersQuietly p a stretch)
Answers h (MergeHint n q) a stretch = AtMember n h a stretch (λ p. AnswersQuietly p a stretch)
Answers h (Leave n) a stretch = AtMember n h a stretch (λ p. AnswersLeave p a stretch)
Answers h (Crash n) a stretch = AtMember n h a stretch (λ p. AnswersCrash p a stretch)

-- PROMPT SEND: a message that the coordinator of a view sends is delivered to it in the same step,
-- if it delivered fewer messages in that view than the reach
abbrev pub IsPrompt : ℕ → List ℕ → List Event → Answer → List Event → Type 0
IsPrompt n payload t (answer.Sent k) stretch =
    ForSome (last_of n t) (λ p. ForSome (current_view p t) (λ v.
    same_address p v.creator ≡ true → length (delivered_in p v t) < WINDOW
    → Contains stretch (Delivered (record { member = p; view = v; message = record { sender = p; number = k; payload = payload } }))))
IsPrompt n payload t Done stretch = Unit {0}
IsPrompt n payload t (Refused r) stretch = Unit {0}

abbrev pub SendsPromptly : List Event → WorldEvent → Answer → List Event → Type 0
SendsPromptly t (Start n) a stretch = Unit {0}
SendsPromptly t (Create n) a stretch = Unit {0}
SendsPromptly t (Join n contact) a stretch = Unit {0}
SendsPromptly t (Send n payload) a stretch = IsPrompt n payload t a stretch
SendsPromptly t (Deliver k) a stretch = Unit {0}
SendsPromptly t (Tick n) a stretch = Unit {0}
SendsPromptly t (Suspect n q) a stretch = Unit {0}
SendsPromptly t (MergeHint n q) a stretch = Unit {0}
SendsPromptly t (Leave n) a stretch = Unit {0}
SendsPromptly t (Crash n) a stretch = Unit {0}

-- FAITHFUL: the history comes from nothing, one event at a time, each with its answer and its stretch by the table
pub data IsFaithful : History → Type 0 where
  Nothing : IsFaithful no_history
  Next : (h : History) (event : WorldEvent) (a : Answer) (packets : List (List ℕ)) (stretch : List Event) → IsFaithful h → Answers h event a stretch
      → SendsPromptly h.trace event a stretch → IsFaithful (after h event a packets stretch)
