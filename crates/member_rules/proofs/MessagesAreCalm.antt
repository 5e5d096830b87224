-- What a member is delivered no input asks for.
use Rattle.std.proofs.Common.{◌≡◌, ℕ, ◌+◌, Bool, true, false, List, [], ◌∷◌, ◌++◌, map, length, inl, inr, refl, sym, ap, ◌∙◌, arith}
use Rattle.std.proofs.lemmas.List.{append-nil, length-append}
use Rattle.std.specs.Prelude.{MatchBool, nat_lt}
use Rattle.std.specs.List.{list_all}
use Rattle.address.specs.declared.limits.TheConstants.{WINDOW}
use Rattle.address.specs.Ids.{Address, ViewId}
use Rattle.wire_values.specs.Values.{Entry}
use Rattle.state_transfer.specs.Meanings.{Meaning}
use Rattle.trace_props.specs.declared.event.Event.{Event}
use Rattle.law_acts.specs.Acts.{delivery}
use Rattle.step_output.specs.declared.output.Output.{Output}
use Rattle.step_output.specs.Outputs.{Grows}
use Rattle.step_output.specs.Calm.{is_quiet, IsCalm}
use Rattle.traffic.specs.declared.coordinator.Coordinator.{Coordinator}
use Rattle.traffic.specs.declared.follower.Follower.{Follower}
use Rattle.traffic.specs.Turns.{Ordering, IsFew}
use Rattle.traffic.specs.Takes.{TakesOrder, AsksUpTo, AnswersOrder, ack_of}
use Rattle.step_output.specs.Steps.{who}
use Rattle.traffic.specs.InViews.{in_view}

-- what is delivered is quiet
pub deliveries-quiet : (p : Address) (v : ViewId) (entries : List Entry) → list_all is_quiet (map (delivery p v) entries) ≡ true
deliveries-quiet p v [] = refl
deliveries-quiet p v (e ∷ entries) = deliveries-quiet p v entries

few-calm : (out later : Output) (hs : List Event) → later.events.items ≡ out.events.items ++ hs → list_all is_quiet hs ≡ true → IsFew out later → IsCalm WINDOW out later
few-calm out later hs grows quiet few =
    let l : length later.events.items ≡ length out.events.items + length hs = ap length grows ∙ length-append out.events.items hs in
    record { more = hs; grows = grows; few = omega (arith, l, few); quiet = quiet }

-- ---- at the coordinator

module _ {S : Type 0} (meaning : Meaning S) where
  pub ordering-calm : (p : Address) (group : List ℕ) (m : Coordinator) (s : S) (out : Output) (n : Coordinator) (t : S) (later : Output) → Ordering meaning (who p group) (in_view m s out) (in_view n t later) → IsFew out later
      → IsCalm WINDOW out later
  ordering-calm p group m s out n t later x few = few-calm out later (map (delivery p m.view.id) x.entries) x.grows.events (deliveries-quiet p m.view.id x.entries) few

-- ---- at another member

silent-asks : (p : Address) (group : List ℕ) (g : ℕ) (m : Follower) (out later : Output) → AsksUpTo (who p group) g m out later → later.events.items ≡ out.events.items
silent-asks p group g m out later (inl x) = x.grows.events ∙ append-nil out.events.items
silent-asks p group g m out later (inr x) = ap (λ (o : Output). o.events.items) x.1

pub asks-calm : (p : Address) (group : List ℕ) (g : ℕ) (m : Follower) (out later : Output) → AsksUpTo (who p group) g m out later → IsCalm WINDOW out later
asks-calm p group g m out later x = record { more = []; grows = silent-asks p group g m out later x ∙ sym (append-nil out.events.items); few = omega arith; quiet = refl }

silent-by : (b c : Bool) (p : Address) (group : List ℕ) (g : ℕ) (m : Follower) (out later : Output)
    → MatchBool b (Grows group out later (ack_of p m ∷ []) []) (MatchBool c (AsksUpTo (who p group) g m out later) (later ≡ out)) → later.events.items ≡ out.events.items
silent-by true c p group g m out later x = x.events ∙ append-nil out.events.items
silent-by false true p group g m out later x = silent-asks p group g m out later x
silent-by false false p group g m out later x = ap (λ (o : Output). o.events.items) x

silent-answer : (p : Address) (group : List ℕ) (before : ℕ) (new : Bool) (g : ℕ) (m : Follower) (out later : Output) → AnswersOrder (who p group) before new g m out later
    → later.events.items ≡ out.events.items
silent-answer p group before new g m out later x = silent-by (nat_lt before m.window.delivered) new p group g m out later x

module _ {S : Type 0} (meaning : Meaning S) where
  pub takes-calm : (p : Address) (group : List ℕ) (g : ℕ) (e : Entry) (m : Follower) (s : S) (out : Output) (n : Follower) (t : S) (later : Output)
      → TakesOrder meaning (who p group) g e (in_view m s out) (in_view n t later) → IsFew out later
      → IsCalm WINDOW out later
  takes-calm p group g e m s out n t later x few =
      few-calm out later (map (delivery p m.view.id) x.delivers.entries) (silent-answer p group m.window.delivered _ g n x.between later x.answers ∙ x.delivers.grows.events)
      (deliveries-quiet p m.view.id x.delivers.entries) few
