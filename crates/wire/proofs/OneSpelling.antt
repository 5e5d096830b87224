-- The law of the grammar: what bytes spell, one packet, one spelling, and none begins another.
use Rattle.std.proofs.Common.{◌≡◌, ℕ, Bool, true, false, cond, ltb, eqb, List, [], ◌++◌, length, Some, Result, Ok, Err, refl, sym, ap, ◌∙◌}
use Rattle.std.specs.Prelude.{IfOk, IfErr}
use Rattle.std.proofs.lemmas.Bool.{le-ltb, eqb-true}
use Rattle.std.proofs.lemmas.List.{append-nil, nil_from_length}
use Rattle.address.specs.declared.limits.TheConstants.{DATAGRAM}
use Rattle.wire_values.specs.declared.error.WireError.{WireError}
use Rattle.wire_values.specs.declared.error.WireError.TheVariants.{Length, Trailing}
use Rattle.wire_values.specs.declared.packet.Packet.{Packet}
use Rattle.wire_values.specs.Reading.{Read, ◌>>=◌}
use Rattle.wire.specs.Packets.{spelling, Spells, packet_at, packet_of, error_in, wire_refusal}
use Rattle.big_endian.specs.Spelled.{IsBytes}
use Rattle.wire_values.proofs.FieldLaws.{bind_ok, test_ok, ok_is}
use Rattle.wire.proofs.PacketLaws.{packet_takes, packet_again}
use Rattle.wire.proofs.Sizes.{packet_few}

-- a test that did not refuse
guard_passed : {A : Type 0} (b : Bool) (d : WireError) (r : Result A WireError) (y : A) → cond b (Err d) r ≡ Ok y → (b ≡ false) × (r ≡ Ok y)
guard_passed true d r y e = absurd cc
guard_passed false d r y e = (refl, e)

-- a packet that is read took all of the bytes
whole_of : (bytes : List ℕ) (p : Packet) → packet_of bytes ≡ Ok p → packet_at bytes ≡ Ok (p, [])
unfolding packet_of
whole_of bytes p e =
    let g = guard_passed (ltb DATAGRAM (length bytes)) Length (packet_at bytes >>= λ packet. cond (eqb (length packet.1) 0) (Ok packet.0) (Err Trailing)) p e in
    let a = bind_ok (packet_at bytes) (λ packet. cond (eqb (length packet.1) 0) (Ok packet.0) (Err Trailing)) p g.1 in
    let t = test_ok (eqb (length a.0.1) 0) Trailing (Ok a.0.0) p a.2 in
    let nothing : a.0.1 ≡ [] = nil_from_length a.0.1 (eqb-true _ _ t.0) in
    let same : a.0.0 ≡ p = ok_is a.0.0 p t.1 in
    a.1 ∙ ap (λ (q : Packet). Ok (q, a.0.1)) same ∙ ap (λ (rest : List ℕ). Ok (p, rest)) nothing

pub read_spells : (bytes : List ℕ) (p : Packet) → IsBytes bytes → packet_of bytes ≡ Ok p → Spells p bytes
read_spells bytes p fits e =
    let t = packet_takes bytes p [] fits (whole_of bytes p e) in
    (t.1, t.0.parts ∙ append-nil (spelling p))

pub spelled_read : (bytes : List ℕ) (p : Packet) → Spells p bytes → packet_of bytes ≡ Ok p
unfolding packet_of
spelled_read bytes p s =
    let few : ltb DATAGRAM (length (spelling p)) ≡ false = le-ltb _ _ (packet_few p s.0) in
    let again : packet_at (spelling p) ≡ Ok (p, []) = ap packet_at (sym (append-nil (spelling p))) ∙ packet_again p [] s.0 in
    ap packet_of s.1 ∙ rw (few, again) refl

done : (p q : Packet) (x y : List ℕ) → (let r : Read Packet = Ok (p, x) in r) ≡ Ok (q, y) → (p ≡ q) × (x ≡ y)
done p q x y e =
    let same = ok_is {A = Packet × List ℕ} (p, x) (q, y) e in
    (ap (λ (r : Packet × List ℕ). r.0) same, ap (λ (r : Packet × List ℕ). r.1) same)

-- no spelling begins another
pub none_begins : (p q : Packet) (bytes more : List ℕ) → Spells p bytes → Spells q (bytes ++ more) → (more ≡ []) × (p ≡ q)
none_begins p q bytes more s t =
    let read : packet_at (bytes ++ more) ≡ Ok (p, more) = ap (λ (x : List ℕ). packet_at (x ++ more)) s.1 ∙ packet_again p more s.0 in
    let whole : packet_at (bytes ++ more) ≡ Ok (q, []) = whole_of (bytes ++ more) q (spelled_read (bytes ++ more) q t) in
    let d = done p q more [] (sym read ∙ whole) in
    (d.1, d.0)

pub one_packet : (p q : Packet) (bytes : List ℕ) → Spells p bytes → Spells q bytes → p ≡ q
one_packet p q bytes s t = ok_is p q (sym (spelled_read bytes p s) ∙ spelled_read bytes q t)

pub found_of : (bytes : List ℕ) (r : Result Packet WireError) → IsBytes bytes → r ≡ packet_of bytes → IfOk r (λ p. Spells p bytes)
found_of bytes (Ok p) fits e = read_spells bytes p fits (sym e)
found_of bytes (Err d) fits e = tt

pub refused_of : (bytes : List ℕ) (r : Result Packet WireError) → r ≡ packet_of bytes → IfErr r (λ e. wire_refusal bytes ≡ Some e)
refused_of bytes (Ok p) e = tt
refused_of bytes (Err d) e = ap error_in (sym e)
