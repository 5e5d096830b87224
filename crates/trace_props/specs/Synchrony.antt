-- Virtual synchrony: the eight rules at every place of a trace.
use Rattle.std.specs.Prelude.{List}
use Rattle.state_transfer.specs.Meanings.{Meaning}
use Rattle.trace_props.specs.declared.event.Event.{Event}
use Rattle.trace_props.specs.Places.{EachPlace}
use Rattle.trace_props.specs.Rules.{IsWellPlaced, HasRisingViews, HasSoundMessages, HasOneOrder, HasSameNext, KnowsTogether, HandsBack}
use Rattle.trace_props.specs.State.{EntersWithState}

-- the rules that speak of one view at a time
pub record IsWellOrdered (t : List Event) : Type 0 where
  pub placed : IsWellPlaced t
  pub views : HasRisingViews t
  pub messages : HasSoundMessages t
  pub order : HasOneOrder t

-- all eight rules
pub record KeepsRules {S : Type 0} (meaning : Meaning S) (t : List Event) : Type 0 where
  pub ordered : IsWellOrdered t
  pub same_next : HasSameNext t
  pub together : KnowsTogether t
  pub handed_back : HandsBack t
  pub state : EntersWithState meaning t

abbrev pub IsVirtuallySynchronous : {S : Type 0} → Meaning S → List Event → Type 0
IsVirtuallySynchronous meaning t = EachPlace (KeepsRules meaning) t
