-- What a line of the chat is read from is its spelling, and its spelling is read as it, whatever follows.
use Rattle.std.proofs.Common.{◌≡◌, ℕ, ◌≤◌, List, ◌++◌, length, Some, refl, ap, subst, ◌∙◌, append_assoc, arith}
use Rattle.address.specs.declared.limits.TheConstants.{PAYLOAD}
use Rattle.big_endian.specs.Reading.{◌>>=◌, address_at}
use Rattle.big_endian.proofs.PartLaws.{bind_some, some_is, joined, IsPart, sized_part, address_takes, address_again}
use Rattle.chat_log.specs.declared.lines.Line.{Line}
use Rattle.chat_log.specs.Chat.{IsLine}
use Rattle.chat_log.specs.Encoding.{address_bytes, payload_bytes, line_bytes, payload_at, line_at}

-- ---- payloads

abbrev pub IsPayload : List ℕ → Type 0
IsPayload payload = length payload ≤ PAYLOAD

pub payload_part : IsPart payload_at payload_bytes IsPayload
payload_part = sized_part PAYLOAD (omega arith)

-- ---- lines

line_takes : (bytes : List ℕ) (l : Line) (rest : List ℕ) → line_at bytes ≡ Some (l, rest) → (bytes ≡ line_bytes l ++ rest) × IsLine l
unfolding line_at
line_takes bytes l rest e =
    let a = bind_some (address_at bytes) (λ sender. payload_at sender.1 >>= λ payload. Some (record { sender = sender.0; payload = payload.0 }, payload.1)) (l, rest) e in
    let b = bind_some (payload_at a.0.1) (λ payload. Some (record { sender = a.0.0; payload = payload.0 }, payload.1)) (l, rest) a.2 in
    let t = address_takes bytes a.0.0 a.0.1 a.1 in
    let u = payload_part.takes a.0.1 b.0.0 b.0.1 b.1 in
    let made : Line = record { sender = a.0.0; payload = b.0.0 } in
    subst (λ (p : Line × List ℕ). (bytes ≡ line_bytes p.0 ++ p.1) × IsLine p.0) (some_is (made, b.0.1) (l, rest) b.2)
    (joined bytes (address_bytes a.0.0) a.0.1 (payload_bytes b.0.0) b.0.1 t.0 u.0, record { sender = t.1; payload = u.1 })

line_again : (l : Line) (rest : List ℕ) → IsLine l → line_at (line_bytes l ++ rest) ≡ Some (l, rest)
unfolding line_at
line_again l rest is =
    ap line_at (append_assoc (address_bytes l.sender) (payload_bytes l.payload) rest)
    ∙ rw (address_again l.sender (payload_bytes l.payload ++ rest) is.sender, payload_part.again l.payload rest is.payload) refl

pub line_part : IsPart line_at line_bytes IsLine
line_part = record { takes = line_takes; again = line_again }
