-- The laws of the chat as a receiver, and of its encoding.
use Rattle.std.proofs.Common.{◌≡◌, ℕ, zero, suc, ◌+◌, ◌-◌, ◌*◌, ◌≤◌, List, [], ◌∷◌, ◌++◌, length, drop, Some, refl, sym, ap, subst, inl, inr, ◌∙◌, append_assoc, arith}
use Rattle.std.specs.List.{flat_map, AllByRecursion}
use Rattle.std.proofs.lemmas.List.{length-append, length-drop}
use Rattle.byteorder.specs.Endian.{big_bytes}
use Rattle.byteorder.specs.Numbers.{length-bytes_high_first}
use Rattle.address.specs.Ids.{Address, IsAddress}
use Rattle.address.specs.declared.limits.TheConstants.{PAYLOAD, STATE}
use Rattle.chat_log.specs.declared.lines.Line.{Line}
use Rattle.chat_log.specs.Sizes.{longest, IsSize}
use Rattle.chat_log.specs.Chat.{IsLine, IsChat, chat_apply}
use Rattle.big_endian.specs.Reading.{number_at, list_at}
use Rattle.chat_log.specs.Encoding.{payload_bytes, address_bytes, line_bytes, line_at, chat_encode, lines_at, chat_decode}
use Rattle.big_endian.proofs.Bytes.{IsWide, wide1, wide2}
use Rattle.big_endian.proofs.PartLaws.{bind_some, joined, IsPart, IsWithin, number_part, list_takes, list_again, to_end_takes, to_end_again}
use Rattle.chat_log.specs.LineLaws.{line_part}

-- ---- a message leaves a chat a chat

all-drop : {A : Type 0} (P : A → Type 0) (n : ℕ) (xs : List A) → AllByRecursion P xs → AllByRecursion P (drop n xs)
all-drop P zero xs all = all
all-drop P (suc n) [] all = tt
all-drop P (suc n) (x ∷ xs) all = all-drop P n xs all.1

all-push : {A : Type 0} (P : A → Type 0) (xs : List A) (x : A) → AllByRecursion P xs → P x → AllByRecursion P (xs ++ x ∷ [])
all-push P [] x all one = (one, tt)
all-push P (y ∷ xs) x all one = (all.0, all-push P xs x all.1 one)

pub nothing_is_chat : (lines : ℕ) → IsChat lines []
nothing_is_chat lines = record { few = omega arith; each = tt }

pub applied_is_chat : (lines : ℕ) (s : List Line) (from : Address) (payload : List ℕ) → IsChat lines s → IsAddress from → length payload ≤ PAYLOAD → IsChat lines (chat_apply lines s from payload)
applied_is_chat lines s from payload is address short =
    let line : Line = record { sender = from; payload = payload } in
    let all = s ++ line ∷ [] in
    record {
      few = omega (arith, length-drop (length all - lines) all);
      each = all-drop IsLine (length all - lines) all (all-push IsLine s line is.each (record { sender = address; payload = short }));
    }

-- ---- its encoding

-- the number of lines has as many bytes as a number of the format
size_wide : (lines width : ℕ) → IsSize lines width → IsWide width
size_wide lines width size = elim size.wide [
  | inl e ↦ subst IsWide (sym e) wide1
  | inr e ↦ subst IsWide (sym e) wide2
]

count_part : (lines width : ℕ) → IsSize lines width → IsPart (number_at width 0 lines) (big_bytes width) (IsWithin 0 lines)
count_part lines width size = number_part width 0 lines (size_wide lines width size) size.fits

lines_takes : (lines width : ℕ) → IsSize lines width → (bytes : List ℕ) (s : List Line) (rest : List ℕ) → lines_at lines width bytes ≡ Some (s, rest) → (bytes ≡ chat_encode width s ++ rest) × IsChat lines s
unfolding lines_at
lines_takes lines width size bytes s rest e =
    let a = bind_some (number_at width 0 lines bytes) (λ count. list_at line_at count.0 count.1) (s, rest) e in
    let t = (count_part lines width size).takes bytes a.0.0 a.0.1 a.1 in
    let u = list_takes line_at line_bytes IsLine line_part a.0.0 a.0.1 s rest a.2 in
    let both : bytes ≡ (big_bytes width a.0.0 ++ flat_map line_bytes s) ++ rest = joined bytes (big_bytes width a.0.0) a.0.1 (flat_map line_bytes s) rest t.0 u.0 in
    (subst (λ (n : ℕ). bytes ≡ (big_bytes width n ++ flat_map line_bytes s) ++ rest) (sym u.1) both, record { few = omega (arith, u.1, t.1.1); each = u.2 })

lines_again : (lines width : ℕ) → IsSize lines width → (s : List Line) (rest : List ℕ) → IsChat lines s → lines_at lines width (chat_encode width s ++ rest) ≡ Some (s, rest)
unfolding lines_at
lines_again lines width size s rest is =
    ap (lines_at lines width) (append_assoc (big_bytes width (length s)) (flat_map line_bytes s) rest)
    ∙ rw ((count_part lines width size).again (length s) (flat_map line_bytes s ++ rest) (omega arith, is.few), list_again line_at line_bytes IsLine line_part s rest is.each) refl

lines_part : (lines width : ℕ) → IsSize lines width → IsPart (lines_at lines width) (chat_encode width) (IsChat lines)
lines_part lines width size = record { takes = lines_takes lines width size; again = lines_again lines width size }

decoded : (lines width : ℕ) → IsSize lines width → (bytes : List ℕ) (s : List Line) → chat_decode lines width bytes ≡ Some s → IsChat lines s × (chat_encode width s ≡ bytes)
unfolding chat_decode
decoded lines width size bytes s e = to_end_takes (lines_at lines width) (chat_encode width) (IsChat lines) (lines_part lines width size) bytes s e

pub decoded_is_chat : (lines width : ℕ) → IsSize lines width → (bytes : List ℕ) (s : List Line) → chat_decode lines width bytes ≡ Some s → IsChat lines s
decoded_is_chat lines width size bytes s e = (decoded lines width size bytes s e).0

pub decoded_is_encoded : (lines width : ℕ) → IsSize lines width → (bytes : List ℕ) (s : List Line) → chat_decode lines width bytes ≡ Some s → chat_encode width s ≡ bytes
decoded_is_encoded lines width size bytes s e = (decoded lines width size bytes s e).1

pub encoded_is_decoded : (lines width : ℕ) → IsSize lines width → (s : List Line) → IsChat lines s → chat_decode lines width (chat_encode width s) ≡ Some s
unfolding chat_decode
encoded_is_decoded lines width size s is = to_end_again (lines_at lines width) (chat_encode width) (IsChat lines) (lines_part lines width size) s is

-- ---- its length

pub length-line : (l : Line) → length (line_bytes l) ≡ 8 + length l.payload
length-line l = omega (arith, length-append (address_bytes l.sender) (payload_bytes l.payload), length-append (big_bytes 2 (length l.payload)) l.payload)

pub length-lines : (s : List Line) → AllByRecursion IsLine s → length (flat_map line_bytes s) ≤ (8 + PAYLOAD) * length s
length-lines [] all = omega arith
length-lines (l ∷ s) all = let e = length-lines s all.1 in omega (arith, length-append (line_bytes l) (flat_map line_bytes s), length-line l, all.0.payload)

-- the longest state
pub encoded_few : (lines width : ℕ) (s : List Line) → IsChat lines s → length (chat_encode width s) ≤ longest lines width
encoded_few lines width s is =
    omega (arith, length-append (big_bytes width (length s)) (flat_map line_bytes s), length-bytes_high_first width (length s), length-lines s is.each, is.few)

pub encoded_short : (lines width : ℕ) → IsSize lines width → (s : List Line) → IsChat lines s → length (chat_encode width s) ≤ STATE
encoded_short lines width size s is = omega (arith, encoded_few lines width s is, size.short)
