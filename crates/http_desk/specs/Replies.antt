-- What is answered: by what became of a request, at its place in the order.
use Rattle.std.specs.Prelude.{◌≡◌, ◌⊎◌, ◌++◌, ◌∷◌, [], ℕ, false, List, Option, None, Some}
use Rattle.std.specs.Option.{IsSomeAnd}
use Rattle.address.specs.Ids.{ViewId}
use Rattle.keyed_state.specs.declared.token.Token.{Token}
use Rattle.keyed_state.specs.TokenText.{text_of_token}
use Rattle.replicated_map.specs.declared.outcome.Outcome.{Outcome}
use Rattle.replicated_map.specs.declared.outcome.Outcome.TheVariants.{Stored, Removed, Cleared, Full, Differs, Missing, NoCommand}
use Rattle.replicated_map.specs.declared.entries.Held.{Held}
use Rattle.replicated_map.specs.declared.waiting.Answer.{Answer as MapAnswer}
use Rattle.replicated_map.specs.declared.waiting.Fate.{Fate as MapFate}
use Rattle.replicated_map.specs.declared.waiting.Fate.TheVariants as map_fate
use Rattle.lock_table.specs.declared.answer.Answer.{Answer as LockAnswer}
use Rattle.lock_table.specs.declared.answer.Fate.{Fate as LockFate}
use Rattle.lock_table.specs.declared.answer.Fate.TheVariants as lock_fate
use Rattle.http_desk.specs.declared.reply.Reply.{Reply}
use Rattle.http_desk.specs.declared.known.Known.{Known}

-- an answer of this status with this body, unless memory was refused to it
pub record Says (code : ℕ) (content : List ℕ) (r : Reply) : Type 0 where
  pub status : r.status ≡ code
  pub body : r.body.is_short ≡ false → r.body.items ≡ content
  pub alone : r.shared ≡ None

-- a token in quotes, such as "3@1.1/2"
abbrev pub quoted_token : Token → List ℕ
quoted_token t = 34 ∷ text_of_token t ++ 34 ∷ []

-- its entity tag is a version, unless memory was refused to it
abbrev pub IsTagged : Token → Reply → Type 0
IsTagged version r = IsSomeAnd r.tag (λ tag. tag.is_short ≡ false → tag.items ≡ quoted_token version)

-- ---- the map

-- what became of a command
abbrev pub AnswersOutcome : Outcome → Reply → Type 0
AnswersOutcome (Stored version) r = (r.status ≡ 200) × IsTagged version r
AnswersOutcome (Removed version) r = (r.status ≡ 200) × IsTagged version r
AnswersOutcome Cleared r = r.status ≡ 200
AnswersOutcome Full r = r.status ≡ 507
AnswersOutcome (Differs None) r = r.status ≡ 412
AnswersOutcome (Differs (Some held)) r = Says 412 held.value r × IsTagged held.version r
AnswersOutcome Missing r = r.status ≡ 404
AnswersOutcome NoCommand r = r.status ≡ 400

-- the value that a key has and its version, or that it has none
abbrev pub AnswersValue : Option Held → Reply → Type 0
AnswersValue None r = r.status ≡ 404
AnswersValue (Some held) r = Says 200 held.value r × IsTagged held.version r

abbrev pub KnowsFate : MapFate → Known → Type 0
KnowsFate (map_fate.Delivered view place outcome) k = (k.at ≡ Some (view, place)) × IsSomeAnd k.reply (AnswersOutcome outcome)
KnowsFate map_fate.HandedBack k = k.reply ≡ None

-- what is known by an answer: for its ticket, at its place, what became of the command
pub record IsKnownOfMap (a : MapAnswer) (k : Known) : Type 0 where
  pub ticket : k.ticket ≡ a.ticket
  pub fate : KnowsFate a.fate k

abbrev pub AreKnownOfMap : List MapAnswer → List Known → Type 0
AreKnownOfMap [] [] = Unit {0}
AreKnownOfMap [] (k ∷ ks) = ⊥
AreKnownOfMap (a ∷ rest) [] = ⊥
AreKnownOfMap (a ∷ rest) (k ∷ ks) = IsKnownOfMap a k × AreKnownOfMap rest ks

-- ---- locks

-- what became of a request for a lock, or of a release of one
abbrev pub AnswersLockFate : LockFate → Option Reply → Type 0
AnswersLockFate (lock_fate.Granted token) o = IsSomeAnd o (Says 200 (text_of_token token ++ 10 ∷ []))
AnswersLockFate lock_fate.Full o = IsSomeAnd o (λ r. r.status ≡ 507)
AnswersLockFate lock_fate.Gone o = IsSomeAnd o (λ r. r.status ≡ 503)
AnswersLockFate lock_fate.Released o = IsSomeAnd o (λ r. r.status ≡ 200)
AnswersLockFate lock_fate.NotHeld o = IsSomeAnd o (λ r. r.status ≡ 404)
AnswersLockFate lock_fate.NoRequest o = IsSomeAnd o (λ r. r.status ≡ 400)
AnswersLockFate lock_fate.HandedBack o = o ≡ None

pub record IsKnownOfLock (a : LockAnswer) (k : Known) : Type 0 where
  pub ticket : k.ticket ≡ a.ticket
  pub at : k.at ≡ Some (a.view, a.place)
  pub fate : AnswersLockFate a.fate k.reply

abbrev pub AreKnownOfLocks : List LockAnswer → List Known → Type 0
AreKnownOfLocks [] [] = Unit {0}
AreKnownOfLocks [] (k ∷ ks) = ⊥
AreKnownOfLocks (a ∷ rest) [] = ⊥
AreKnownOfLocks (a ∷ rest) (k ∷ ks) = IsKnownOfLock a k × AreKnownOfLocks rest ks
