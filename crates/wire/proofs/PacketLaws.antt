-- The laws of packets: what is read is spelled so, each packet is read from its spelling, and no spelling
-- begins another.
use Rattle.std.proofs.Common.{◌≡◌, ℕ, ◌≤◌, true, cond, leb, ◌&&◌, List, ◌++◌, length, Ok, Err, refl, ap, ◌∙◌, append_assoc, arith}
use Rattle.std.specs.List.{list_all}
use Rattle.std.proofs.lemmas.Bool.{leb-true, and_parts}
use Rattle.byteorder.specs.Endian.{big_bytes}
use Rattle.address.specs.Ids.{Address}
use Rattle.address.specs.declared.limits.TheConstants.{GROUP_NAME, MAGIC, VERSION, KINDS}
use Rattle.wire_values.specs.declared.error.WireError.TheVariants.{NotOurs, Version, Kind, Length, Value}
use Rattle.wire_values.specs.declared.packet.Body.{Body}
use Rattle.wire_values.specs.declared.packet.Body.TheVariants as bodies
use Rattle.wire_values.specs.declared.packet.Packet.{Packet}
use Rattle.wire_values.specs.Reading.{◌>>=◌, bytes_at, number_at}
use Rattle.wire_values.specs.Fields.{address_bytes, address_at}
use Rattle.wire_values.specs.Names.{is_name_byte, is_group_name}
use Rattle.wire_values.proofs.Names.{name_is}
use Rattle.wire_values.specs.Texts.{group_bytes, group_at}
use Rattle.wire_values.specs.Kinds.{kind_of}
use Rattle.wire.specs.Packets.{body_bytes, body_at, IsPacket, front_bytes, header_bytes, spelling, front_at, packet_at}
use Rattle.big_endian.specs.Spelled.{IsBytes}
use Rattle.big_endian.proofs.Bytes.{wide1, wide2}
use Rattle.wire_values.proofs.FieldLaws.{bind_ok, ok_is, test_ok, along, back, Takes, Takes-then, IsPart, address_part, bytes_takes, bytes_again, number_takes, number_again}
use Rattle.wire.proofs.BodyLaws.{Took, body_takes, body_again}

-- ---- the name of a group

pub record Name (name : List ℕ) : Type 0 where
  pub some : 1 ≤ length name
  pub few : length name ≤ GROUP_NAME
  pub plain : list_all is_name_byte name ≡ true

pub is_name : (name : List ℕ) → is_group_name name ≡ true → Name name
is_name name e =
    let t = and_parts (leb 1 (length name) && leb (length name) GROUP_NAME) (list_all is_name_byte name) e in
    let u = and_parts (leb 1 (length name)) (leb (length name) GROUP_NAME) t.0 in
    record { some = leb-true _ _ u.0; few = leb-true _ _ u.1; plain = t.1 }

group_takes : (bytes name rest : List ℕ) → IsBytes bytes → group_at bytes ≡ Ok (name, rest) → Takes bytes (group_bytes name) rest × (is_group_name name ≡ true)
unfolding group_at
group_takes bytes name rest fits e =
    let a = bind_ok (number_at 1 1 GROUP_NAME Length bytes) (λ len. bytes_at len.0 len.1 >>= λ name. cond (list_all is_name_byte name.0) (Ok name) (Err Value)) (name, rest) e in
    let b = bind_ok (bytes_at a.0.0 a.0.1) (λ name. cond (list_all is_name_byte name.0) (Ok name) (Err Value)) (name, rest) a.2 in
    let g = test_ok (list_all is_name_byte b.0.0) Value (Ok b.0) (name, rest) b.2 in
    let t = number_takes 1 wide1 1 GROUP_NAME Length bytes a.0.0 a.0.1 fits a.1 in
    let u = bytes_takes a.0.0 a.0.1 b.0.0 b.0.1 t.0.rest_fits b.1 in
    let sized : Takes bytes (group_bytes b.0.0) b.0.1 = back (λ (n : ℕ). Takes bytes (big_bytes 1 n ++ b.0.0) b.0.1) (length b.0.0) a.0.0 u.2 (Takes-then bytes (big_bytes 1 a.0.0) a.0.1 b.0.0 b.0.1 t.0 u.0) in
    along (λ (p : List ℕ × List ℕ). Takes bytes (group_bytes p.0) p.1 × (is_group_name p.0 ≡ true)) (b.0.0, b.0.1) (name, rest) (ok_is b.0 (name, rest) g.1)
    (sized, name_is b.0.0 (omega (arith, u.2, t.1)) (omega (arith, u.2, t.2)) g.0)

group_again : (name rest : List ℕ) → is_group_name name ≡ true → group_at (group_bytes name ++ rest) ≡ Ok (name, rest)
unfolding group_at
group_again name rest is =
    let n = is_name name is in
    ap group_at (append_assoc (big_bytes 1 (length name)) name rest)
    ∙ rw (number_again 1 1 GROUP_NAME Length (length name) (name ++ rest) (omega (arith, n.few)) n.some n.few, bytes_again (length name) name rest refl, n.plain) refl

pub group_part : IsPart group_at group_bytes (λ name. is_group_name name ≡ true)
group_part = record { takes = group_takes; again = group_again }

-- ---- what every packet begins with

abbrev IsKind : ℕ → Type 0
IsKind kind = (1 ≤ kind) × (kind ≤ KINDS)

front_takes : (bytes : List ℕ) (kind : ℕ) (rest : List ℕ) → IsBytes bytes → front_at bytes ≡ Ok (kind, rest) → Takes bytes (front_bytes kind) rest × IsKind kind
unfolding front_at
front_takes bytes kind rest fits e =
    let a = bind_ok (number_at 2 MAGIC MAGIC NotOurs bytes) (λ magic. number_at 1 VERSION VERSION Version magic.1 >>= λ version. number_at 1 1 KINDS Kind version.1) (kind, rest) e in
    let b = bind_ok (number_at 1 VERSION VERSION Version a.0.1) (λ version. number_at 1 1 KINDS Kind version.1) (kind, rest) a.2 in
    let t = number_takes 2 wide2 MAGIC MAGIC NotOurs bytes a.0.0 a.0.1 fits a.1 in
    let u = number_takes 1 wide1 VERSION VERSION Version a.0.1 b.0.0 b.0.1 t.0.rest_fits b.1 in
    let v = number_takes 1 wide1 1 KINDS Kind b.0.1 kind rest u.0.rest_fits b.2 in
    let magic : a.0.0 ≡ MAGIC = omega (arith, t.1, t.2) in
    let version : b.0.0 ≡ VERSION = omega (arith, u.1, u.2) in
    let one : Takes bytes (big_bytes 2 MAGIC) a.0.1 = along (λ (n : ℕ). Takes bytes (big_bytes 2 n) a.0.1) a.0.0 MAGIC magic t.0 in
    let two : Takes a.0.1 (big_bytes 1 VERSION) b.0.1 = along (λ (n : ℕ). Takes a.0.1 (big_bytes 1 n) b.0.1) b.0.0 VERSION version u.0 in
    (Takes-then bytes (big_bytes 2 MAGIC ++ big_bytes 1 VERSION) b.0.1 (big_bytes 1 kind) rest (Takes-then bytes (big_bytes 2 MAGIC) a.0.1 (big_bytes 1 VERSION) b.0.1 one two) v.0, (v.1, v.2))

front_again : (kind : ℕ) (rest : List ℕ) → IsKind kind → front_at (front_bytes kind ++ rest) ≡ Ok (kind, rest)
unfolding front_at
front_again kind rest is =
    let e2 = big_bytes 1 kind ++ rest in
    let e1 = big_bytes 1 VERSION ++ e2 in
    ap front_at (append_assoc (big_bytes 2 MAGIC ++ big_bytes 1 VERSION) (big_bytes 1 kind) rest ∙ append_assoc (big_bytes 2 MAGIC) (big_bytes 1 VERSION) e2)
    ∙ rw (number_again 2 MAGIC MAGIC NotOurs MAGIC e1 (omega arith) (omega arith) (omega arith), number_again 1 VERSION VERSION Version VERSION e2 (omega arith) (omega arith) (omega arith)) (number_again 1 1 KINDS Kind kind rest (omega (arith, is.1)) is.0 is.1)

-- ---- packets

abbrev packet_from : List ℕ → Address → Address → Body → Packet
packet_from group source destination body = record { group = group; source = source; destination = destination; body = body }

-- the parts of a packet, one behind the other
packet_joined : (bytes : List ℕ) (kind : ℕ) (b1 group b2 : List ℕ) (source : Address) (b3 : List ℕ) (destination : Address) (b4 : List ℕ) (found : Body × List ℕ)
    → Takes bytes (front_bytes kind) b1 → Takes b1 (group_bytes group) b2 → Takes b2 (address_bytes source) b3 → Takes b3 (address_bytes destination) b4 → Took kind b4 found
    → Takes bytes (spelling (packet_from group source destination found.0)) found.1
packet_joined bytes kind b1 group b2 source b3 destination b4 found t1 t2 t3 t4 took =
    let of_kind : Takes bytes (front_bytes (kind_of found.0)) b1 = back (λ (k : ℕ). Takes bytes (front_bytes k) b1) (kind_of found.0) kind took.kind_is t1 in
    let front = front_bytes (kind_of found.0) in
    let one = Takes-then bytes front b1 (group_bytes group) b2 of_kind t2 in
    let two = Takes-then bytes (front ++ group_bytes group) b2 (address_bytes source) b3 one t3 in
    let three = Takes-then bytes (front ++ group_bytes group ++ address_bytes source) b3 (address_bytes destination) b4 two t4 in
    Takes-then bytes (front ++ group_bytes group ++ address_bytes source ++ address_bytes destination) b4 (body_bytes found.0) found.1 three took.takes

pub packet_takes : (bytes : List ℕ) (p : Packet) (rest : List ℕ) → IsBytes bytes → packet_at bytes ≡ Ok (p, rest) → Takes bytes (spelling p) rest × IsPacket p
unfolding packet_at
packet_takes bytes p rest fits e =
    let a = bind_ok (front_at bytes) (λ kind. group_at kind.1 >>= λ group. address_at group.1 >>= λ source. address_at source.1 >>= λ destination. body_at kind.0 destination.1 >>= λ body. Ok (packet_from group.0 source.0 destination.0 body.0, body.1)) (p, rest) e in
    let b = bind_ok (group_at a.0.1) (λ group. address_at group.1 >>= λ source. address_at source.1 >>= λ destination. body_at a.0.0 destination.1 >>= λ body. Ok (packet_from group.0 source.0 destination.0 body.0, body.1)) (p, rest) a.2 in
    let c = bind_ok (address_at b.0.1) (λ source. address_at source.1 >>= λ destination. body_at a.0.0 destination.1 >>= λ body. Ok (packet_from b.0.0 source.0 destination.0 body.0, body.1)) (p, rest) b.2 in
    let d = bind_ok (address_at c.0.1) (λ destination. body_at a.0.0 destination.1 >>= λ body. Ok (packet_from b.0.0 c.0.0 destination.0 body.0, body.1)) (p, rest) c.2 in
    let f = bind_ok (body_at a.0.0 d.0.1) (λ body. Ok (packet_from b.0.0 c.0.0 d.0.0 body.0, body.1)) (p, rest) d.2 in
    let t = front_takes bytes a.0.0 a.0.1 fits a.1 in
    let u = group_takes a.0.1 b.0.0 b.0.1 t.0.rest_fits b.1 in
    let v = address_part.takes b.0.1 c.0.0 c.0.1 u.0.rest_fits c.1 in
    let w = address_part.takes c.0.1 d.0.0 d.0.1 v.0.rest_fits d.1 in
    let x = body_takes a.0.0 d.0.1 f.0 w.0.rest_fits t.1.0 t.1.1 f.1 in
    along (λ (r : Packet × List ℕ). Takes bytes (spelling r.0) r.1 × IsPacket r.0) (packet_from b.0.0 c.0.0 d.0.0 f.0.0, f.0.1) (p, rest) (ok_is (packet_from b.0.0 c.0.0 d.0.0 f.0.0, f.0.1) (p, rest) f.2)
    (packet_joined bytes a.0.0 a.0.1 b.0.0 b.0.1 c.0.0 c.0.1 d.0.0 d.0.1 f.0 t.0 u.0 v.0 w.0 x, record { group = u.1; source = v.1; destination = w.1; body = x.is })

kind_fits : (b : Body) → IsKind (kind_of b)
kind_fits bodies.Join = (omega arith, omega arith)
kind_fits (bodies.Redirect a) = (omega arith, omega arith)
kind_fits bodies.Leave = (omega arith, omega arith)
kind_fits (bodies.Forward v n x) = (omega arith, omega arith)
kind_fits (bodies.Order v g m) = (omega arith, omega arith)
kind_fits (bodies.Nak v m) = (omega arith, omega arith)
kind_fits (bodies.Ack v n) = (omega arith, omega arith)
kind_fits (bodies.Status v p) = (omega arith, omega arith)
kind_fits (bodies.Flush v) = (omega arith, omega arith)
kind_fits (bodies.Behind v n) = (omega arith, omega arith)
kind_fits (bodies.Report v r) = (omega arith, omega arith)
kind_fits (bodies.Install i) = (omega arith, omega arith)
kind_fits (bodies.Merge v) = (omega arith, omega arith)
kind_fits (bodies.State v c) = (omega arith, omega arith)

pub packet_again : (p : Packet) (rest : List ℕ) → IsPacket p → packet_at (spelling p ++ rest) ≡ Ok (p, rest)
unfolding packet_at
packet_again p rest is =
    let front = front_bytes (kind_of p.body) in
    let e4 = body_bytes p.body ++ rest in
    let e3 = address_bytes p.destination ++ e4 in
    let e2 = address_bytes p.source ++ e3 in
    let e1 = group_bytes p.group ++ e2 in
    let regrouped : spelling p ++ rest ≡ front ++ e1 =
    append_assoc (header_bytes p) (body_bytes p.body) rest
    ∙ append_assoc (front ++ group_bytes p.group ++ address_bytes p.source) (address_bytes p.destination) e4
    ∙ append_assoc (front ++ group_bytes p.group) (address_bytes p.source) e3
    ∙ append_assoc front (group_bytes p.group) e2 in
    ap packet_at regrouped
    ∙ rw (front_again (kind_of p.body) e1 (kind_fits p.body), group_again p.group e2 is.group, address_part.again p.source e3 is.source, address_part.again p.destination e4 is.destination, body_again p.body rest is.body) refl
