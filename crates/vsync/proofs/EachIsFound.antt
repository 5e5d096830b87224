-- The topic of a code is found among all of them.
use Rattle.std.proofs.Common.{◌≡◌, ℕ, Bool, true, false, List, [], ◌∷◌, Some, refl, sym, IfSome}
use Rattle.std.specs.List.{find}
use Rattle.std.specs.Str.{bytes_eq}
use Rattle.std.proofs.lemmas.Slice.Eq.{bytes_eq-Decides}
use Rattle.address.specs.declared.refusal.Refusal.TheVariants as refusal
use Rattle.wire_values.specs.declared.error.WireError.TheVariants as packet
use Rattle.view.specs.declared.ViewError.TheVariants as view
use Rattle.vsync_text.specs.declared.fault.Fault.TheVariants as line
use Rattle.trace_props.specs.declared.verdict.Rule.TheVariants as rule
use Rattle.vsync.specs.declared.topic.Topic.{Topic}
use Rattle.vsync.specs.declared.topic.Topic.TheVariants.{Refusal as OfRefusal, Packet, View, Line, Settings, Socket, Receive, Rule as OfRule, Unordered}
use Rattle.vsync.specs.declared.topic.TheConstants.{TOPICS}
use Rattle.vsync.specs.Topics.{code_of}

-- a topic that is found has the code
pub has_code : (code : List ℕ) (ts : List Topic) → IfSome (find (λ t. bytes_eq (code_of t) code) ts) (λ t. code ≡ code_of t)
has_code code [] = tt
has_code code (t ∷ ts) = go (bytes_eq (code_of t) code) refl (has_code code ts)
  where
    go : (b : Bool) → bytes_eq (code_of t) code ≡ b → IfSome (find (λ u. bytes_eq (code_of u) code) ts) (λ u. code ≡ code_of u)
        → IfSome (find (λ u. bytes_eq (code_of u) code) (t ∷ ts)) (λ u. code ≡ code_of u)
    go true e rest = rw e (sym ((bytes_eq-Decides (code_of t) code).0 e))
    go false e rest = rw e rest

-- each topic is found by its code: none is left out of the list
pub is_found : (t : Topic) → find (λ u. bytes_eq (code_of u) (code_of t)) TOPICS ≡ Some t
is_found (OfRefusal refusal.NotConnected) = refl
is_found (OfRefusal refusal.Blocked) = refl
is_found (OfRefusal refusal.Busy) = refl
is_found (OfRefusal refusal.TooLong) = refl
is_found (OfRefusal refusal.AlreadyConnected) = refl
is_found (OfRefusal refusal.Closed) = refl
is_found (OfRefusal refusal.Memory) = refl
is_found (OfRefusal refusal.Exhausted) = refl
is_found (OfRefusal refusal.BadName) = refl
is_found (Packet packet.Short) = refl
is_found (Packet packet.NotOurs) = refl
is_found (Packet packet.Version) = refl
is_found (Packet packet.Kind) = refl
is_found (Packet packet.Length) = refl
is_found (Packet packet.Value) = refl
is_found (Packet packet.Trailing) = refl
is_found (View view.Empty) = refl
is_found (View view.TooMany) = refl
is_found (View view.Repeated) = refl
is_found (View view.NotFirst) = refl
is_found (Line line.UnknownWord) = refl
is_found (Line line.BadNumber) = refl
is_found (Line line.MissingField) = refl
is_found (Line line.LineTooLong) = refl
is_found Settings = refl
is_found Socket = refl
is_found Receive = refl
is_found (OfRule rule.WellPlaced) = refl
is_found (OfRule rule.RisingViews) = refl
is_found (OfRule rule.SoundMessages) = refl
is_found (OfRule rule.OneOrder) = refl
is_found (OfRule rule.SameNext) = refl
is_found (OfRule rule.Together) = refl
is_found (OfRule rule.HandedBack) = refl
is_found (OfRule rule.StateOfEntry) = refl
is_found Unordered = refl
