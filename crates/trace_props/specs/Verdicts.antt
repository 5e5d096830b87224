-- What a verdict says of a trace: that all rules hold, or which breaks first and where.
use Rattle.std.specs.Prelude.{ℕ, ◌<◌, ◌≤◌, List, [], ◌∷◌, length, take}
use Rattle.state_transfer.specs.Meanings.{Meaning}
use Rattle.trace_props.specs.declared.event.Event.{Event}
use Rattle.trace_props.specs.declared.verdict.Rule.{Rule}
use Rattle.trace_props.specs.declared.verdict.Rule.TheVariants.{WellPlaced, RisingViews, SoundMessages, OneOrder, SameNext, Together, HandedBack, StateOfEntry}
use Rattle.trace_props.specs.declared.verdict.Verdict.{Verdict}
use Rattle.trace_props.specs.declared.verdict.Verdict.TheVariants.{Holds, Breaks}
use Rattle.trace_props.specs.Rules.{MayStand, IsWellPlaced, HasRisingViews, HasSoundMessages, HasOneOrder, HasSameNext, KnowsTogether, HandsBack}
use Rattle.trace_props.specs.State.{EntersWithState}
use Rattle.trace_props.specs.Synchrony.{KeepsRules, IsVirtuallySynchronous}
use Rattle.trace_props.specs.Following.{MayRise, MayCarry, MayOrder}
use Rattle.trace_props.specs.Agreeing.{MayMeet, MayKnow, MayHandBack, MayEnter}

-- that a rule holds of a trace
abbrev pub KeepsRule : {S : Type 0} → Meaning S → Rule → List Event → Type 0
KeepsRule meaning WellPlaced t = IsWellPlaced t
KeepsRule meaning RisingViews t = HasRisingViews t
KeepsRule meaning SoundMessages t = HasSoundMessages t
KeepsRule meaning OneOrder t = HasOneOrder t
KeepsRule meaning SameNext t = HasSameNext t
KeepsRule meaning Together t = KnowsTogether t
KeepsRule meaning HandedBack t = HandsBack t
KeepsRule meaning StateOfEntry t = EntersWithState meaning t

-- the rules before a rule, the nearest first
abbrev pub rules_before : Rule → List Rule
rules_before WellPlaced = []
rules_before RisingViews = WellPlaced ∷ []
rules_before SoundMessages = RisingViews ∷ WellPlaced ∷ []
rules_before OneOrder = SoundMessages ∷ RisingViews ∷ WellPlaced ∷ []
rules_before SameNext = OneOrder ∷ SoundMessages ∷ RisingViews ∷ WellPlaced ∷ []
rules_before Together = SameNext ∷ OneOrder ∷ SoundMessages ∷ RisingViews ∷ WellPlaced ∷ []
rules_before HandedBack = Together ∷ SameNext ∷ OneOrder ∷ SoundMessages ∷ RisingViews ∷ WellPlaced ∷ []
rules_before StateOfEntry = HandedBack ∷ Together ∷ SameNext ∷ OneOrder ∷ SoundMessages ∷ RisingViews ∷ WellPlaced ∷ []

abbrev pub KeepsEach : {S : Type 0} → Meaning S → List Rule → List Event → Type 0
KeepsEach meaning [] t = Unit {0}
KeepsEach meaning (r ∷ rs) t = KeepsRule meaning r t × KeepsEach meaning rs t

-- all rules hold of each shorter beginning; of this one the rule does not, but all before it do
pub record BreaksFirst {S : Type 0} (meaning : Meaning S) (t : List Event) (rule : Rule) (place : ℕ) : Type 0 where
  pub within : place ≤ length t
  pub shorter : (k : ℕ) → k < place → KeepsRules meaning (take k t)
  pub lesser : KeepsEach meaning (rules_before rule) (take place t)
  pub broken : KeepsRule meaning rule (take place t) → ⊥

abbrev pub IsVerdict : {S : Type 0} → Meaning S → List Event → Verdict → Type 0
IsVerdict meaning t Holds = IsVirtuallySynchronous meaning t
IsVerdict meaning t (Breaks rule place) = BreaksFirst meaning t rule place

-- the condition on the next event under which a rule still holds, but for the rule on states
abbrev pub May : Rule → List Event → Event → Type 0
May WellPlaced t h = MayStand t h
May RisingViews t h = MayRise t h
May SoundMessages t h = MayCarry t h
May OneOrder t h = MayOrder t h
May SameNext t h = MayMeet t h
May Together t h = MayKnow t h
May HandedBack t h = MayHandBack t h
May StateOfEntry t h = Unit {0}

abbrev pub MayEach : List Rule → List Event → Event → Type 0
MayEach [] t h = Unit {0}
MayEach (r ∷ rs) t h = May r t h × MayEach rs t h

-- the condition for each rule
abbrev pub MayRule : {S : Type 0} → Meaning S → Rule → List Event → Event → Type 0
MayRule meaning WellPlaced t h = MayStand t h
MayRule meaning RisingViews t h = MayRise t h
MayRule meaning SoundMessages t h = MayCarry t h
MayRule meaning OneOrder t h = MayOrder t h
MayRule meaning SameNext t h = MayMeet t h
MayRule meaning Together t h = MayKnow t h
MayRule meaning HandedBack t h = MayHandBack t h
MayRule meaning StateOfEntry t h = MayEnter meaning t h

-- the rule's condition fails, and those of all rules before it do not
pub record BreaksNext {S : Type 0} (meaning : Meaning S) (rule : Rule) (t : List Event) (h : Event) : Type 0 where
  pub lesser : MayEach (rules_before rule) t h
  pub broken : MayRule meaning rule t h → ⊥

-- all conditions
pub record GoesOn {S : Type 0} (meaning : Meaning S) (t : List Event) (h : Event) : Type 0 where
  pub seven : MayEach (rules_before StateOfEntry) t h
  pub enters : MayEnter meaning t h
