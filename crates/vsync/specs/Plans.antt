-- What a node does by the words of `member`, and what is wrong with them.
use Rattle.std.specs.Prelude.{◌≡◌, ℕ, List, Option, None, Some, Result, Ok, Err, length, nat_lt, option_map, is_ok, true, false, Bool, if◌then◌else◌}
use Rattle.std.specs.Borrow.{Bor}
use Rattle.address.specs.Ids.{Address}
use Rattle.address.specs.declared.limits.TheConstants.{PAYLOAD}
use Rattle.vsync_text.specs.AddressText.{address_of_text}
use Rattle.vsync_text.specs.declared.member_plan.MemberPlan.{MemberPlan}
use Rattle.vsync.specs.Kept.{flags_keep_two}
use Rattle.vsync.specs.declared.udp_words.MemberWords.{MemberWords}
use Rattle.vsync.specs.declared.udp_words.MemberMistake.{MemberMistake}
use Rattle.vsync.specs.declared.udp_words.MemberMistake.TheVariants.{NoAddress, LongText, MapAndLocks}

-- the text that stands there, if one does
abbrev pub text_of : Option (Bor (List ℕ)) → Option (List ℕ)
text_of = option_map (λ s. s.now)

-- an address that was read, or else this is wrong
abbrev pub read_contact : Option Address → Result (Option Address) MemberMistake
read_contact None = Err NoAddress
read_contact (Some a) = Ok (Some a)

-- the contact: the address that ADDR spells
abbrev pub contact_of : Option (List ℕ) → Result (Option Address) MemberMistake
contact_of None = Ok None
contact_of (Some text) = read_contact (address_of_text text)

-- the payload: TEXT, of at most `PAYLOAD` bytes
abbrev pub payload_of : Option (List ℕ) → Result (Option (List ℕ)) MemberMistake
payload_of None = Ok None
payload_of (Some text) = if nat_lt PAYLOAD (length text) then Err LongText else Ok (Some text)

-- the member would keep a map and locks
abbrev pub keeps_two : MemberWords → Bool
keeps_two words = flags_keep_two words.options.flags

-- the node does what the words say: it has their address and rounds, ADDR's address as its contact, TEXT as what it sends, and keeps one kind of state
pub record IsPlan (words : MemberWords) (plan : MemberPlan) : Type 0 where
  pub address : plan.address ≡ words.address
  pub rounds : plan.rounds ≡ words.rounds
  pub contact : contact_of (text_of words.contact) ≡ Ok plan.contact
  pub send : payload_of (text_of words.send) ≡ Ok (text_of plan.send)
  pub keeps : keeps_two words ≡ false

-- this is wrong with the words, and nothing before it: ADDR is no address; TEXT is too long; the member would keep a map and locks
abbrev pub IsMistaken : MemberWords → MemberMistake → Type 0
IsMistaken words NoAddress = contact_of (text_of words.contact) ≡ Err NoAddress
IsMistaken words LongText = (is_ok (contact_of (text_of words.contact)) ≡ true) × (payload_of (text_of words.send) ≡ Err LongText)
IsMistaken words MapAndLocks = (is_ok (contact_of (text_of words.contact)) ≡ true) × (is_ok (payload_of (text_of words.send)) ≡ true) × (keeps_two words ≡ true)
