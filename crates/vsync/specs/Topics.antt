-- What can be explained: the code of each topic, and its explanation.
use Rattle.std.specs.Prelude.{ℕ, List, codes}
use Rattle.address.specs.declared.refusal.Refusal.TheVariants as refusal
use Rattle.wire_values.specs.declared.error.WireError.TheVariants as packet
use Rattle.view.specs.declared.ViewError.TheVariants as view
use Rattle.vsync_text.specs.declared.fault.Fault.TheVariants as line
use Rattle.trace_props.specs.declared.verdict.Rule.TheVariants as rule
use Rattle.vsync.specs.declared.topic.Topic.{Topic}
use Rattle.vsync.specs.declared.topic.Topic.TheVariants.{Refusal as OfRefusal, Packet, View, Line, Settings, Socket, Receive, Rule as OfRule, Unordered}
use Rattle.vsync.specs.declared.texts.TheConstants.{NOT_CONNECTED, BLOCKED, BUSY, TOO_LONG, ALREADY_CONNECTED, CLOSED, MEMORY, EXHAUSTED, BAD_NAME, SHORT, NOT_OURS, VERSION, KIND, LENGTH, VALUE, TRAILING, EMPTY, TOO_MANY, REPEATED, NOT_FIRST, UNKNOWN_WORD, BAD_NUMBER, MISSING_FIELD, LINE_TOO_LONG, WELL_PLACED, RISING_VIEWS, SOUND_MESSAGES, ONE_ORDER, SAME_NEXT, TOGETHER, HANDED_BACK, STATE_OF_ENTRY, CONFIG, BIND, RECEIVE, UNORDERED}

-- the code of each topic: the number of a refusal in decimal digits, or a word that `check` prints
abbrev pub code_of : Topic → List ℕ
code_of (OfRefusal refusal.NotConnected) = codes "1"
code_of (OfRefusal refusal.Blocked) = codes "2"
code_of (OfRefusal refusal.Busy) = codes "3"
code_of (OfRefusal refusal.TooLong) = codes "4"
code_of (OfRefusal refusal.AlreadyConnected) = codes "5"
code_of (OfRefusal refusal.Closed) = codes "6"
code_of (OfRefusal refusal.Memory) = codes "7"
code_of (OfRefusal refusal.Exhausted) = codes "8"
code_of (OfRefusal refusal.BadName) = codes "9"
code_of (Packet packet.Short) = codes "20"
code_of (Packet packet.NotOurs) = codes "21"
code_of (Packet packet.Version) = codes "22"
code_of (Packet packet.Kind) = codes "23"
code_of (Packet packet.Length) = codes "24"
code_of (Packet packet.Value) = codes "25"
code_of (Packet packet.Trailing) = codes "26"
code_of (View view.Empty) = codes "30"
code_of (View view.TooMany) = codes "31"
code_of (View view.Repeated) = codes "32"
code_of (View view.NotFirst) = codes "33"
code_of (Line line.UnknownWord) = codes "40"
code_of (Line line.BadNumber) = codes "41"
code_of (Line line.MissingField) = codes "42"
code_of (Line line.LineTooLong) = codes "43"
code_of Settings = codes "50"
code_of Socket = codes "51"
code_of Receive = codes "52"
code_of (OfRule rule.WellPlaced) = codes "D5"
code_of (OfRule rule.RisingViews) = codes "D6"
code_of (OfRule rule.SoundMessages) = codes "D7"
code_of (OfRule rule.OneOrder) = codes "D8"
code_of (OfRule rule.SameNext) = codes "D9"
code_of (OfRule rule.Together) = codes "D10"
code_of (OfRule rule.HandedBack) = codes "D11"
code_of (OfRule rule.StateOfEntry) = codes "D12"
code_of Unordered = codes "unordered"

-- the explanation of each topic
abbrev pub explanation_of : Topic → List ℕ
explanation_of (OfRefusal refusal.NotConnected) = NOT_CONNECTED.now
explanation_of (OfRefusal refusal.Blocked) = BLOCKED.now
explanation_of (OfRefusal refusal.Busy) = BUSY.now
explanation_of (OfRefusal refusal.TooLong) = TOO_LONG.now
explanation_of (OfRefusal refusal.AlreadyConnected) = ALREADY_CONNECTED.now
explanation_of (OfRefusal refusal.Closed) = CLOSED.now
explanation_of (OfRefusal refusal.Memory) = MEMORY.now
explanation_of (OfRefusal refusal.Exhausted) = EXHAUSTED.now
explanation_of (OfRefusal refusal.BadName) = BAD_NAME.now
explanation_of (Packet packet.Short) = SHORT.now
explanation_of (Packet packet.NotOurs) = NOT_OURS.now
explanation_of (Packet packet.Version) = VERSION.now
explanation_of (Packet packet.Kind) = KIND.now
explanation_of (Packet packet.Length) = LENGTH.now
explanation_of (Packet packet.Value) = VALUE.now
explanation_of (Packet packet.Trailing) = TRAILING.now
explanation_of (View view.Empty) = EMPTY.now
explanation_of (View view.TooMany) = TOO_MANY.now
explanation_of (View view.Repeated) = REPEATED.now
explanation_of (View view.NotFirst) = NOT_FIRST.now
explanation_of (Line line.UnknownWord) = UNKNOWN_WORD.now
explanation_of (Line line.BadNumber) = BAD_NUMBER.now
explanation_of (Line line.MissingField) = MISSING_FIELD.now
explanation_of (Line line.LineTooLong) = LINE_TOO_LONG.now
explanation_of Settings = CONFIG.now
explanation_of Socket = BIND.now
explanation_of Receive = RECEIVE.now
explanation_of (OfRule rule.WellPlaced) = WELL_PLACED.now
explanation_of (OfRule rule.RisingViews) = RISING_VIEWS.now
explanation_of (OfRule rule.SoundMessages) = SOUND_MESSAGES.now
explanation_of (OfRule rule.OneOrder) = ONE_ORDER.now
explanation_of (OfRule rule.SameNext) = SAME_NEXT.now
explanation_of (OfRule rule.Together) = TOGETHER.now
explanation_of (OfRule rule.HandedBack) = HANDED_BACK.now
explanation_of (OfRule rule.StateOfEntry) = STATE_OF_ENTRY.now
explanation_of Unordered = UNORDERED.now
