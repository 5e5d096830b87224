-- Replicas agree: copies that have delivered as much of a view are in the same state, and each copy only ever goes through states that the coordinator's copy goes through.
use Rattle.std.specs.Prelude.{◌≡◌, ℕ, ◌+◌, ◌≤◌, Some, List, length, take, drop, fold, slice_get}
use Rattle.address.specs.Ids.{Address, ViewId}
use Rattle.state_transfer.specs.Meanings.{Meaning}
use Rattle.trace_props.specs.declared.event.Event.{Event}
use Rattle.trace_props.specs.declared.event.Event.TheVariants.{Installed}
use Rattle.trace_props.specs.declared.event.Message.{Message}
use Rattle.trace_props.specs.declared.event.Install.{Install}
use Rattle.trace_props.specs.Observed.{current_view, delivered_in}
use Rattle.trace_props.specs.State.{state_of}

-- what messages, one after the other, make of a state
abbrev pub after_all : {S : Type 0} → Meaning S → S → List Message → S
after_all meaning s messages = fold (λ x m. meaning.apply x m.sender m.payload) s messages

-- a member is in a view, or ended there, and has delivered so many of its messages
pub record HasDelivered (p : Address) (v : ViewId) (n : ℕ) (t : List Event) : Type 0 where
  pub view : current_view p t ≡ Some v
  pub many : length (delivered_in p v t) ≡ n

-- a member went through a state in a view, with so many of its messages delivered
pub record WentThrough {S : Type 0} (meaning : Meaning S) (p : Address) (v : ViewId) (n : ℕ) (s : S) (t : List Event) : Type 0 where
  pub place : ℕ
  pub within : place ≤ length t
  pub there : HasDelivered p v n (take place t)
  pub state : state_of meaning p (take place t) ≡ s

-- copies of a state agree
pub record ReplicasAgree {S : Type 0} (meaning : Meaning S) (t : List Event) : Type 0 where
  -- members of a view that have delivered as much of it are in the same state
  pub level : (p q : Address) (v : ViewId) (n : ℕ) → HasDelivered p v n t → HasDelivered q v n t → state_of meaning p t ≡ state_of meaning q t
  -- and were, whenever each of them was there
  pub whenever : (j k : ℕ) (p q : Address) (v : ViewId) (n : ℕ) → HasDelivered p v n (take j t) → HasDelivered q v n (take k t)
      → state_of meaning p (take j t) ≡ state_of meaning q (take k t)
  -- the view's coordinator went through each of these states, in the view and with as much delivered
  pub followed : (p : Address) (v : ViewId) (n : ℕ) → HasDelivered p v n t → WentThrough meaning v.creator v n (state_of meaning p t) t
  -- who is behind is in a state that the other went through
  pub behind : (p q : Address) (v : ViewId) (m n : ℕ) → m ≤ n → HasDelivered p v m t → HasDelivered q v n t → WentThrough meaning q v m (state_of meaning p t) t
  -- and the messages that it lacks make it the other's
  pub lacking : (p q : Address) (v : ViewId) (m n : ℕ) → m ≤ n → HasDelivered p v m t → HasDelivered q v n t
      → state_of meaning q t ≡ after_all meaning (state_of meaning p t) (drop m (delivered_in q v t))
  -- who go from one view to the same next leave it in the same state
  pub leaving : (j k : ℕ) (e f : Install) → slice_get t j ≡ Some (Installed e) → slice_get t k ≡ Some (Installed f) → e.view.id ≡ f.view.id
      → (v : ViewId) → e.previous ≡ Some v → f.previous ≡ Some v → state_of meaning e.member (take j t) ≡ state_of meaning f.member (take k t)
  -- and all who enter a view enter it in the same state
  pub entering : (j k : ℕ) (e f : Install) → slice_get t j ≡ Some (Installed e) → slice_get t k ≡ Some (Installed f) → e.view.id ≡ f.view.id
      → state_of meaning e.member (take (j + 1) t) ≡ state_of meaning f.member (take (k + 1) t)
