-- How long spellings are.
use Rattle.std.proofs.Common.{◌≡◌, ℕ, ◌+◌, ◌-◌, ◌*◌, ◌≤◌, true, List, [], ◌∷◌, ◌++◌, length, Option, Some, None, refl, arith}
use Rattle.std.specs.List.{flat_map, AllByRecursion}
use Rattle.std.specs.Option.{option_map_or}
use Rattle.std.proofs.lemmas.List.{length-append}
use Rattle.byteorder.specs.Endian.{big_bytes}
use Rattle.address.specs.Ids.{Address, ViewId}
use Rattle.view.specs.Members.{View}
use Rattle.address.specs.declared.limits.TheConstants.{MEMBERS, PAYLOAD, WINDOW, WHOLE_STATE, CHUNK, GROUP_NAME, DATAGRAM}
use Rattle.wire_values.specs.declared.packet.Body.{Body}
use Rattle.wire_values.specs.declared.packet.Body.TheVariants as bodies
use Rattle.wire_values.specs.declared.packet.Packet.{Packet}
use Rattle.wire_values.specs.Values.{Report, Install, Chunk}
use Rattle.wire_values.specs.declared.values.state.GivenState.{GivenState}
use Rattle.wire_values.specs.declared.values.state.GivenState.TheVariants as given
use Rattle.wire_values.specs.Fields.{IsPlaced, address_bytes, number_bytes, view_id_bytes, payload_bytes, entry_bytes, placed_bytes}
use Rattle.wire_values.specs.Lists.{IsView, IsReport, IsInstall, IsGiven, IsChunk, chunk_bytes, is_filled, is_nothing, addresses_bytes, view_bytes, held_bytes, filled_bytes, report_bytes, items_bytes, state_bytes, given_bytes, install_bytes}
use Rattle.wire_values.specs.Kinds.{kind_of}
use Rattle.wire.specs.Packets.{IsBody, body_bytes, IsPacket, front_bytes, header_bytes, spelling}
use Rattle.wire_values.specs.Texts.{group_bytes}
use Rattle.wire_values.proofs.Lengths.{length-entry, length-items, length-held}
use Rattle.wire_values.proofs.MemberLaws.{sound_view}
use Rattle.wire.proofs.ReportLaws.{Filled, filled-rules}
use Rattle.wire.proofs.InstallLaws.{placed-rules}
use Rattle.wire.proofs.PacketLaws.{is_name}

pub length-addresses : (addresses : List Address) → length (flat_map address_bytes addresses) ≡ 6 * length addresses
length-addresses [] = refl
length-addresses (a ∷ addresses) = let e = length-addresses addresses in omega (arith, length-append (address_bytes a) (flat_map address_bytes addresses))

pub length-view : (v : View) → length (view_bytes v) ≡ 15 + 6 * length v.members
length-view v = omega (arith, length-append (view_id_bytes v.id) (addresses_bytes v.members), length-append (big_bytes 1 (length v.members)) (flat_map address_bytes v.members), length-addresses v.members)

pub view_few : (v : View) → IsView v → length (view_bytes v) ≤ 15 + 6 * MEMBERS
view_few v fits = let s = sound_view v.id v.members fits.sound in omega (arith, length-view v, s.1)

pub length-filled : (v : ViewId) (r : Report) → length (filled_bytes v r) ≡ 31 + length (flat_map placed_bytes r.held)
length-filled v r =
    omega (arith, length-append (view_id_bytes v ++ number_bytes r.stable ++ number_bytes r.delivered) (held_bytes r.held), length-append (big_bytes 1 (length r.held)) (flat_map placed_bytes r.held))

filled_few : (v : ViewId) (r : Report) → AllByRecursion IsPlaced r.held → Filled r → length (filled_bytes v r) ≤ 31 + (24 + PAYLOAD) * WINDOW
filled_few v r fits f = omega (arith, length-filled v r, length-held r.held fits, f.few)

pub report_few : (r : Report) → IsReport r → length (report_bytes r) ≤ 32 + (24 + PAYLOAD) * WINDOW
report_few r is = by_previous r.previous refl is.rules where
  by_previous : (o : Option ViewId) → r.previous ≡ o → option_map_or (λ _. is_filled r) o (is_nothing r) ≡ true → length (option_map_or (λ v. big_bytes 1 1 ++ filled_bytes v r) o (big_bytes 1 0)) ≤ 32 + (24 + PAYLOAD) * WINDOW
  by_previous None named rules = omega arith
  by_previous (Some v) named rules = omega (arith, length-append (big_bytes 1 1) (filled_bytes v r), filled_few v r is.entries (filled-rules r rules))

pub length-state : (g : GivenState) → IsGiven g → length (state_bytes g) ≤ 5 + WHOLE_STATE
length-state given.Nothing is = omega arith
length-state (given.Whole s) is = omega (arith, length-append (big_bytes 1 1) (big_bytes 4 (length s) ++ s), length-append (big_bytes 4 (length s)) s)
length-state (given.Chunked total) is = omega (arith, length-append (big_bytes 1 2) (big_bytes 4 total))

pub length-chunk : (c : Chunk) → length (chunk_bytes c) ≡ 5 + length c.bytes
length-chunk c = omega (arith, length-append (big_bytes 4 c.total ++ big_bytes 1 c.index) c.bytes, length-append (big_bytes 4 c.total) (big_bytes 1 c.index))

chunk_few : (c : Chunk) → IsChunk c → length (chunk_bytes c) ≤ 5 + CHUNK
chunk_few c is = omega (arith, length-chunk c, is.cut)

pub length-given : (i : Install) → length (given_bytes i) ≡ 9 + length (flat_map entry_bytes i.items) + length (state_bytes i.state)
length-given i =
    omega (arith, length-append (number_bytes i.base ++ items_bytes i.items) (state_bytes i.state), length-append (number_bytes i.base) (items_bytes i.items), length-append (big_bytes 1 (length i.items)) (flat_map entry_bytes i.items))

pub length-install : (i : Install) → length (install_bytes i) ≡ 25 + 6 * length i.view.members + 6 * length i.together + length (flat_map entry_bytes i.items) + length (state_bytes i.state)
length-install i =
    omega (arith, length-append (view_bytes i.view ++ addresses_bytes i.together) (given_bytes i), length-append (view_bytes i.view) (addresses_bytes i.together), length-append (big_bytes 1 (length i.together)) (flat_map address_bytes i.together), length-addresses i.together, length-view i.view, length-given i)

pub install_few : (i : Install) → IsInstall i → length (install_bytes i) ≤ 30 + 12 * MEMBERS + (16 + PAYLOAD) * WINDOW + WHOLE_STATE
install_few i is =
    let p = placed-rules i is.rules in
    let s = sound_view i.view.id i.view.members is.view.sound in
    omega (arith, length-install i, length-items i.items is.items, p.near, p.few, s.1, length-state i.state is.state)

-- what stands before the body
pub length-header : (p : Packet) → length (header_bytes p) ≡ 17 + length p.group
length-header p =
    omega (arith, length-append (front_bytes (kind_of p.body) ++ group_bytes p.group ++ address_bytes p.source) (address_bytes p.destination), length-append (front_bytes (kind_of p.body) ++ group_bytes p.group) (address_bytes p.source), length-append (front_bytes (kind_of p.body)) (group_bytes p.group), length-append (big_bytes 1 (length p.group)) p.group)

-- the most bytes of a body, by the limits
abbrev most : ℕ
most = DATAGRAM - (17 + GROUP_NAME)

pub body_few : (b : Body) → IsBody b → length (body_bytes b) ≤ most
body_few bodies.Join is = omega arith
body_few (bodies.Redirect a) is = omega arith
body_few bodies.Leave is = omega arith
body_few (bodies.Forward v n x) is = omega (arith, length-append (view_id_bytes v ++ number_bytes n) (payload_bytes x), length-append (big_bytes 2 (length x)) x, is.2)
body_few (bodies.Order v g m) is = omega (arith, length-append (view_id_bytes v ++ number_bytes g) (entry_bytes m), length-entry m, is.2.payload)
body_few (bodies.Nak v m) is = omega arith
body_few (bodies.Ack v n) is = omega arith
body_few (bodies.Status v p) is = omega arith
body_few (bodies.Flush v) is = omega (arith, view_few v is)
body_few (bodies.Behind v n) is = omega arith
body_few (bodies.Report v r) is = omega (arith, length-append (view_id_bytes v) (report_bytes r), report_few r is.1)
body_few (bodies.Install i) is = omega (arith, install_few i is)
body_few (bodies.Merge v) is = omega (arith, view_few v is)
body_few (bodies.State v c) is = omega (arith, length-append (view_id_bytes v) (chunk_bytes c), chunk_few c is.1)

-- no packet is longer than a datagram
pub packet_few : (p : Packet) → IsPacket p → length (spelling p) ≤ DATAGRAM
packet_few p is = let n = is_name p.group is.group in omega (arith, length-append (header_bytes p) (body_bytes p.body), length-header p, body_few p.body is.body, n.few)
