-- Which events the text of a trace can spell, and what texts spell, line by line.
use Rattle.std.specs.Prelude.{◌≡◌, ℕ, ◌+◌, ◌<◌, ◌≤◌, true, false, List, [], ◌∷◌, ◌++◌, None, Some, length, codes, slice_get, nat_eq, All}
use Rattle.std.specs.List.{list_any}
use Rattle.std.specs.Option.{ForSome}
use Rattle.std.specs.Fmt.{decimal}
use Rattle.address.specs.Ids.{Address, ViewId, IsAddress, text_of_address, text_of_view_id}
use Rattle.address.specs.declared.limits.TheConstants.{GREATEST_NUMBER, PAYLOAD, TRACE_LINE}
use Rattle.view.specs.Members.{is_distinct}
use Rattle.view.specs.View.{view_refusal}
use Rattle.trace_props.specs.declared.event.Event.{Event}
use Rattle.trace_props.specs.declared.event.Event.TheVariants.{Started, Sent, Delivered, Blocked, Installed, Left, Crashed}
use Rattle.trace_props.specs.declared.event.Sending.{Sending}
use Rattle.trace_props.specs.declared.event.Delivery.{Delivery}
use Rattle.trace_props.specs.declared.event.Install.{Install}
use Rattle.trace_props.specs.declared.event.Numbered.{Numbered}
use Rattle.vsync_text.specs.TraceText.{line_of, field}

-- a counter, or the number of a message in its view: 1 to `GREATEST_NUMBER`
abbrev pub IsNumber : ℕ → Type 0
IsNumber n = (1 ≤ n) × (n ≤ GREATEST_NUMBER)

pub record IsViewId (v : ViewId) : Type 0 where
  pub counter : IsNumber v.counter
  pub creator : IsAddress v.creator

abbrev pub AreBytes : List ℕ → Type 0
AreBytes bytes = All (λ b. b < 256) bytes

-- at most `PAYLOAD` bytes
pub record IsPayload (x : List ℕ) : Type 0 where
  pub bytes : AreBytes x
  pub short : length x ≤ PAYLOAD

pub record IsSendable (s : Sending) : Type 0 where
  pub member : IsAddress s.member
  pub view : IsViewId s.view
  pub number : IsNumber s.message.number
  pub payload : IsPayload s.message.payload

pub record IsSpellableDelivery (d : Delivery) : Type 0 where
  pub member : IsAddress d.member
  pub view : IsViewId d.view
  pub sender : IsAddress d.message.sender
  pub number : IsNumber d.message.number
  pub payload : IsPayload d.message.payload

pub record IsMessage (m : Numbered) : Type 0 where
  pub number : IsNumber m.number
  pub payload : IsPayload m.payload

-- the members make a view of the id; somebody comes together, nobody twice
pub record IsInstallable (i : Install) : Type 0 where
  pub member : IsAddress i.member
  pub previous : ForSome i.previous IsViewId
  pub id : IsViewId i.view.id
  pub members : All IsAddress i.view.members
  pub view : view_refusal i.view.id i.view.members ≡ None
  pub together : All IsAddress i.together
  pub somebody : 1 ≤ length i.together
  pub once : is_distinct i.together ≡ true
  pub handed_back : All IsMessage i.handed_back
  pub given : ForSome i.given AreBytes

-- the fields of an event are in the ranges of the format
abbrev pub IsInFormat : Event → Type 0
IsInFormat (Started p) = IsAddress p
IsInFormat (Sent s) = IsSendable s
IsInFormat (Delivered d) = IsSpellableDelivery d
IsInFormat (Blocked p) = IsAddress p
IsInFormat (Installed i) = IsInstallable i
IsInFormat (Left p) = IsAddress p
IsInFormat (Crashed p) = IsAddress p

-- an event that the text of a trace can spell: its fields are in range, and its line is not too long
pub record IsSpellable (h : Event) : Type 0 where
  pub fields : IsInFormat h
  pub line : length (line_of h) ≤ TRACE_LINE + 1

-- a text of one line that says nothing
pub record IsNote (text : List ℕ) : Type 0 where
  pub begins : slice_get text 0 ≡ Some 35
  pub one_line : list_any (λ b. nat_eq b 10) text ≡ false

-- a line, without its line feed, that says which messages of a view are stable
abbrev pub stable_text : Address → ViewId → ℕ → List ℕ
stable_text p v n = codes "stable" ++ (field (text_of_address p) ++ field (text_of_view_id v) ++ field (decimal n))

-- its fields are in the ranges of the format, and it is not too long
pub record IsStableText (p : Address) (v : ViewId) (n : ℕ) : Type 0 where
  pub member : IsAddress p
  pub view : IsViewId v
  pub number : IsNumber n
  pub line : length (stable_text p v n) ≤ TRACE_LINE

-- lines, each with its line feed, spell what happened: each is the line of the next event, a note, or says which messages are stable
pub data Spell : List (List ℕ) → List Event → Type 0 where
  Nothing : Spell [] []
  Note : (note : List ℕ) (lines : List (List ℕ)) (t : List Event) → IsNote note → Spell lines t → Spell ((note ++ 10 ∷ []) ∷ lines) t
  Stable : (p : Address) (v : ViewId) (n : ℕ) (lines : List (List ℕ)) (t : List Event) → IsStableText p v n → Spell lines t → Spell ((stable_text p v n ++ 10 ∷ []) ∷ lines) t
  Line : (h : Event) (lines : List (List ℕ)) (t : List Event) → IsSpellable h → Spell lines t → Spell (line_of h ∷ lines) (h ∷ t)
