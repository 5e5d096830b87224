-- What a field is read from is its spelling, and its spelling is read as it, whatever follows.
use Rattle.std.proofs.Common.{◌≡◌, ℕ, ◌^◌, ◌<◌, ◌≤◌, Bool, true, false, cond, ltb, leb, ◌&&◌, List, ◌++◌, length, take, drop, Result, Ok, Err, refl, sym, ap, subst, ◌∙◌, append_assoc, arith}
use Rattle.std.proofs.lemmas.Bool.{ltb-false, le-ltb, leb-true, le-leb, and_parts}
use Rattle.std.proofs.lemmas.List.{take_at, drop_at, take-append-drop, length-append, length-take, length-drop}
use Rattle.byteorder.specs.Endian.{big_bytes, big_number}
use Rattle.address.specs.Ids.{Address, ViewId}
use Rattle.address.specs.declared.limits.TheConstants.{GREATEST_NUMBER, PAYLOAD}
use Rattle.wire_values.specs.declared.error.WireError.{WireError}
use Rattle.wire_values.specs.declared.error.WireError.TheVariants.{Short, Length, Value}
use Rattle.wire_values.specs.Values.{Entry}
use Rattle.wire_values.specs.Reading.{Read, ◌>>=◌, bytes_at, number_at}
use Rattle.wire_values.specs.Fields.{IsAddress, IsViewId, IsEntry, IsPlaced, address_bytes, number_bytes, view_id_bytes, payload_bytes, entry_bytes, placed_bytes, node_in, incarnation_in, address_at, view_id_at, payload_at, entry_at, placed_at}
use Rattle.byteorder.specs.Numbers.{big_from-lt}
use Rattle.big_endian.specs.Spelled.{IsBytes}
use Rattle.big_endian.proofs.Bytes.{IsBytes-drop, IsBytes-take, IsWide, wide2, wide4, wide8, number_back, length-big_bytes}

-- the value of a step that did not fail
pub bind_ok : {A B : Type 0} (r : Result A WireError) (f : A → Result B WireError) (y : B) → (r >>= f) ≡ Ok y → (x : A) × (r ≡ Ok x) × (f x ≡ Ok y)
bind_ok (Ok x) f y e = (x, refl, e)
bind_ok (Err d) f y e = absurd cc

-- a test that did not fail, and one that lets pass
pub guard_ok : {A : Type 0} (b : Bool) (d : WireError) (x y : A) → cond b (Err d) (Ok x) ≡ Ok y → (b ≡ false) × (x ≡ y)
guard_ok true d x y e = absurd cc
guard_ok false d x y e = (refl, cc)

pub test_ok : {A : Type 0} (b : Bool) (d : WireError) (r : Result A WireError) (y : A) → cond b r (Err d) ≡ Ok y → (b ≡ true) × (r ≡ Ok y)
test_ok true d r y e = (refl, e)
test_ok false d r y e = absurd cc

abbrev done : {A : Type 0} → A → Result A WireError
done x = Ok x

pub ok_is : {A : Type 0} (x y : A) → done x ≡ done y → x ≡ y
ok_is x y e = cc

-- a fact along an equation, in either direction; with its ends written out, which keeps terms small
pub along : {A : Type 0} (P : A → Type 0) (x y : A) → x ≡ y → P x → P y
along P x y e p = subst P e p

pub back : {A : Type 0} (P : A → Type 0) (x y : A) → x ≡ y → P y → P x
back P x y e p = subst P (sym e) p

-- what a reader took from the front
pub record Takes (bytes text rest : List ℕ) : Type 0 where
  pub parts : bytes ≡ text ++ rest
  pub rest_fits : IsBytes rest

pub Takes-then : (a x b y c : List ℕ) → Takes a x b → Takes b y c → Takes a (x ++ y) c
Takes-then a x b y c p q = record { parts = p.parts ∙ ap (λ (t : List ℕ). x ++ t) q.parts ∙ sym (append_assoc x y c); rest_fits = q.rest_fits }

-- ---- bytes

pub bytes_takes : (n : ℕ) (bytes front rest : List ℕ) → IsBytes bytes → bytes_at n bytes ≡ Ok (front, rest) → Takes bytes front rest × IsBytes front × (length front ≡ n)
unfolding bytes_at
bytes_takes n bytes front rest fits e =
    let g = guard_ok (ltb (length bytes) n) Short (take n bytes, drop n bytes) (front, rest) e in
    let long : n ≤ length bytes = ltb-false _ _ g.0 in
    let whole : Takes bytes (take n bytes) (drop n bytes) × IsBytes (take n bytes) × (length (take n bytes) ≡ n) =
    (record { parts = sym (take-append-drop n bytes); rest_fits = IsBytes-drop n bytes fits }, IsBytes-take n bytes fits, omega (arith, length-take n bytes)) in
    subst (λ (p : List ℕ × List ℕ). Takes bytes p.0 p.1 × IsBytes p.0 × (length p.0 ≡ n)) g.1 whole

pub bytes_again : (n : ℕ) (front rest : List ℕ) → length front ≡ n → bytes_at n (front ++ rest) ≡ Ok (front, rest)
unfolding bytes_at
bytes_again n front rest len =
    let long : ltb (length (front ++ rest)) n ≡ false = le-ltb _ _ (omega (arith, length-append front rest)) in
    rw (long, take_at front rest n len, drop_at front rest n len) refl

-- ---- numbers

pub number_takes : (n : ℕ) → IsWide n → (low high : ℕ) (d : WireError) (bytes : List ℕ) (x : ℕ) (rest : List ℕ) → IsBytes bytes → number_at n low high d bytes ≡ Ok (x, rest)
    → Takes bytes (big_bytes n x) rest × (low ≤ x) × (x ≤ high)
unfolding number_at
number_takes n wide low high d bytes x rest fits e =
    let value = λ (t : List ℕ). big_number n t in
    let b = bind_ok (bytes_at n bytes) (λ front. cond (leb low (value front.0) && leb (value front.0) high) (Ok (value front.0, front.1)) (Err d)) (x, rest) e in
    let t = bytes_takes n bytes b.0.0 b.0.1 fits b.1 in
    let g = test_ok (leb low (value b.0.0) && leb (value b.0.0) high) d (Ok (value b.0.0, b.0.1)) (x, rest) b.2 in
    let tests = and_parts (leb low (value b.0.0)) (leb (value b.0.0) high) g.0 in
    let back : big_bytes n (value b.0.0) ≡ b.0.0 = wide.back b.0.0 t.2 t.1 in
    let whole : Takes bytes (big_bytes n (value b.0.0)) b.0.1 × (low ≤ value b.0.0) × (value b.0.0 ≤ high) = (rw back t.0, leb-true _ _ tests.0, leb-true _ _ tests.1) in
    subst (λ (p : ℕ × List ℕ). Takes bytes (big_bytes n p.0) p.1 × (low ≤ p.0) × (p.0 ≤ high)) (ok_is (value b.0.0, b.0.1) (x, rest) g.1) whole

pub number_again : (n low high : ℕ) (d : WireError) (x : ℕ) (rest : List ℕ) → x < 256 ^ n → low ≤ x → x ≤ high → number_at n low high d (big_bytes n x ++ rest) ≡ Ok (x, rest)
unfolding number_at
number_again n low high d x rest lt least most =
    rw (bytes_again n (big_bytes n x) rest (length-big_bytes n x), number_back n x lt, le-leb low x least, le-leb x high most) refl

-- ---- the laws of a part of the format

pub record IsPart {A : Type 0} (read : List ℕ → Read A) (spell : A → List ℕ) (Fits : A → Type 0) : Type 0 where
  pub takes : (bytes : List ℕ) (x : A) (rest : List ℕ) → IsBytes bytes → read bytes ≡ Ok (x, rest) → Takes bytes (spell x) rest × Fits x
  pub again : (x : A) (rest : List ℕ) → Fits x → read (spell x ++ rest) ≡ Ok (x, rest)

-- ---- addresses

address_takes : (bytes : List ℕ) (a : Address) (rest : List ℕ) → IsBytes bytes → address_at bytes ≡ Ok (a, rest) → Takes bytes (address_bytes a) rest × IsAddress a
unfolding address_at
address_takes bytes a rest fits e =
    let made = λ (t : List ℕ). (let m : Address = record { node = node_in t; incarnation = incarnation_in t } in m) in
    let b = bind_ok (bytes_at 6 bytes) (λ front. cond (leb 1 (node_in front.0) && leb 1 (incarnation_in front.0)) (Ok (made front.0, front.1)) (Err Value)) (a, rest) e in
    let front = b.0.0 in
    let t = bytes_takes 6 bytes front b.0.1 fits b.1 in
    let g = test_ok (leb 1 (node_in front) && leb 1 (incarnation_in front)) Value (Ok (made front, b.0.1)) (a, rest) b.2 in
    let tests = and_parts (leb 1 (node_in front)) (leb 1 (incarnation_in front)) g.0 in
    let fits_node : IsBytes (take 2 front) = IsBytes-take 2 front t.1 in
    let fits_incarnation : IsBytes (drop 2 front) = IsBytes-drop 2 front t.1 in
    let node : big_bytes 2 (node_in front) ≡ take 2 front = wide2.back (take 2 front) (omega (arith, length-take 2 front, t.2)) fits_node in
    let incarnation : big_bytes 4 (incarnation_in front) ≡ drop 2 front = wide4.back (drop 2 front) (omega (arith, length-drop 2 front, t.2)) fits_incarnation in
    let text : address_bytes (made front) ≡ front = ap (λ (x : List ℕ). x ++ big_bytes 4 (incarnation_in front)) node ∙ ap (λ (y : List ℕ). take 2 front ++ y) incarnation ∙ take-append-drop 2 front in
    let is : IsAddress (made front) = record { node = leb-true _ _ tests.0; node_fits = big_from-lt 0 2 (take 2 front) fits_node; incarnation = leb-true _ _ tests.1; incarnation_fits = big_from-lt 0 4 (drop 2 front) fits_incarnation } in
    let whole : Takes bytes (address_bytes (made front)) b.0.1 × IsAddress (made front) = (subst (λ (x : List ℕ). Takes bytes x b.0.1) (sym text) t.0, is) in
    subst (λ (p : Address × List ℕ). Takes bytes (address_bytes p.0) p.1 × IsAddress p.0) (ok_is (made front, b.0.1) (a, rest) g.1) whole

address_again : (a : Address) (rest : List ℕ) → IsAddress a → address_at (address_bytes a ++ rest) ≡ Ok (a, rest)
unfolding address_at
address_again a rest fits =
    let node : node_in (address_bytes a) ≡ a.node = ap (big_number 2) (take_at (big_bytes 2 a.node) (big_bytes 4 a.incarnation) 2 refl) ∙ number_back 2 a.node fits.node_fits in
    let incarnation : incarnation_in (address_bytes a) ≡ a.incarnation = ap (big_number 4) (drop_at (big_bytes 2 a.node) (big_bytes 4 a.incarnation) 2 refl) ∙ number_back 4 a.incarnation fits.incarnation_fits in
    let one : leb 1 (node_in (address_bytes a)) ≡ true = ap (leb 1) node ∙ le-leb 1 a.node fits.node in
    let two : leb 1 (incarnation_in (address_bytes a)) ≡ true = ap (leb 1) incarnation ∙ le-leb 1 a.incarnation fits.incarnation in
    ap (λ (r : Read (List ℕ)). r >>= λ front. cond (leb 1 (node_in front.0) && leb 1 (incarnation_in front.0)) (Ok (record { node = node_in front.0; incarnation = incarnation_in front.0 }, front.1)) (Err Value)) (bytes_again 6 (address_bytes a) rest refl)
    ∙ ap (λ (b : Bool). cond (b && leb 1 (incarnation_in (address_bytes a))) (Ok (record { node = node_in (address_bytes a); incarnation = incarnation_in (address_bytes a) }, rest)) (Err Value)) one
    ∙ ap (λ (b : Bool). cond b (Ok (record { node = node_in (address_bytes a); incarnation = incarnation_in (address_bytes a) }, rest)) (Err Value)) two
    ∙ ap (λ (n : ℕ). Ok (record { node = n; incarnation = incarnation_in (address_bytes a) }, rest)) node
    ∙ ap (λ (n : ℕ). Ok (record { node = a.node; incarnation = n }, rest)) incarnation

pub address_part : IsPart address_at address_bytes IsAddress
address_part = record { takes = address_takes; again = address_again }

-- ---- view ids

view_id_takes : (bytes : List ℕ) (v : ViewId) (rest : List ℕ) → IsBytes bytes → view_id_at bytes ≡ Ok (v, rest) → Takes bytes (view_id_bytes v) rest × IsViewId v
unfolding view_id_at
view_id_takes bytes v rest fits e =
    let a = bind_ok (number_at 8 1 GREATEST_NUMBER Value bytes) (λ counter. address_at counter.1 >>= λ creator. Ok (record { counter = counter.0; creator = creator.0 }, creator.1)) (v, rest) e in
    let b = bind_ok (address_at a.0.1) (λ creator. Ok (record { counter = a.0.0; creator = creator.0 }, creator.1)) (v, rest) a.2 in
    let t = number_takes 8 wide8 1 GREATEST_NUMBER Value bytes a.0.0 a.0.1 fits a.1 in
    let u = address_takes a.0.1 b.0.0 b.0.1 t.0.rest_fits b.1 in
    let made : ViewId = record { counter = a.0.0; creator = b.0.0 } in
    subst (λ (p : ViewId × List ℕ). Takes bytes (view_id_bytes p.0) p.1 × IsViewId p.0) (ok_is (made, b.0.1) (v, rest) b.2)
    (Takes-then _ _ _ _ _ t.0 u.0, record { counter = (t.1, t.2); creator = u.1 })

-- a number of eight bytes, read again
pub eight_again : (low high : ℕ) (x : ℕ) (rest : List ℕ) → low ≤ x → x ≤ high → high ≤ GREATEST_NUMBER → number_at 8 low high Value (number_bytes x ++ rest) ≡ Ok (x, rest)
eight_again low high x rest least most small = number_again 8 low high Value x rest (omega arith) least most

view_id_again : (v : ViewId) (rest : List ℕ) → IsViewId v → view_id_at (view_id_bytes v ++ rest) ≡ Ok (v, rest)
unfolding view_id_at
view_id_again v rest fits =
    ap view_id_at (append_assoc (number_bytes v.counter) (address_bytes v.creator) rest)
    ∙ rw (eight_again 1 GREATEST_NUMBER v.counter (address_bytes v.creator ++ rest) fits.counter.0 fits.counter.1 (omega arith), address_again v.creator rest fits.creator) refl

pub view_id_part : IsPart view_id_at view_id_bytes IsViewId
view_id_part = record { takes = view_id_takes; again = view_id_again }

-- ---- payloads

payload_takes : (bytes x rest : List ℕ) → IsBytes bytes → payload_at bytes ≡ Ok (x, rest) → Takes bytes (payload_bytes x) rest × (length x ≤ PAYLOAD)
unfolding payload_at
payload_takes bytes x rest fits e =
    let a = bind_ok (number_at 2 0 PAYLOAD Length bytes) (λ len. bytes_at len.0 len.1) (x, rest) e in
    let t = number_takes 2 wide2 0 PAYLOAD Length bytes a.0.0 a.0.1 fits a.1 in
    let u = bytes_takes a.0.0 a.0.1 x rest t.0.rest_fits a.2 in
    let both : Takes bytes (big_bytes 2 a.0.0 ++ x) rest = Takes-then _ _ _ _ _ t.0 u.0 in
    (subst (λ (n : ℕ). Takes bytes (big_bytes 2 n ++ x) rest) (sym u.2) both, omega (arith, u.2, t.2))

payload_again : (x rest : List ℕ) → length x ≤ PAYLOAD → payload_at (payload_bytes x ++ rest) ≡ Ok (x, rest)
unfolding payload_at
payload_again x rest few =
    ap payload_at (append_assoc (big_bytes 2 (length x)) x rest)
    ∙ rw (number_again 2 0 PAYLOAD Length (length x) (x ++ rest) (omega arith) (omega arith) few, bytes_again (length x) x rest refl) refl

pub payload_part : IsPart payload_at payload_bytes (λ x. length x ≤ PAYLOAD)
payload_part = record { takes = payload_takes; again = payload_again }

-- ---- entries

entry_takes : (bytes : List ℕ) (m : Entry) (rest : List ℕ) → IsBytes bytes → entry_at bytes ≡ Ok (m, rest) → Takes bytes (entry_bytes m) rest × IsEntry m
unfolding entry_at
entry_takes bytes m rest fits e =
    let a = bind_ok (address_at bytes) (λ sender. number_at 8 1 GREATEST_NUMBER Value sender.1 >>= λ number. payload_at number.1 >>= λ payload. Ok (record { sender = sender.0; number = number.0; payload = payload.0 }, payload.1)) (m, rest) e in
    let b = bind_ok (number_at 8 1 GREATEST_NUMBER Value a.0.1) (λ number. payload_at number.1 >>= λ payload. Ok (record { sender = a.0.0; number = number.0; payload = payload.0 }, payload.1)) (m, rest) a.2 in
    let c = bind_ok (payload_at b.0.1) (λ payload. Ok (record { sender = a.0.0; number = b.0.0; payload = payload.0 }, payload.1)) (m, rest) b.2 in
    let t = address_takes bytes a.0.0 a.0.1 fits a.1 in
    let u = number_takes 8 wide8 1 GREATEST_NUMBER Value a.0.1 b.0.0 b.0.1 t.0.rest_fits b.1 in
    let v = payload_takes b.0.1 c.0.0 c.0.1 u.0.rest_fits c.1 in
    let made : Entry = record { sender = a.0.0; number = b.0.0; payload = c.0.0 } in
    let tuv = Takes-then bytes (address_bytes a.0.0 ++ number_bytes b.0.0) b.0.1 (payload_bytes c.0.0) c.0.1 (Takes-then bytes (address_bytes a.0.0) a.0.1 (number_bytes b.0.0) b.0.1 t.0 u.0) v.0 in
    subst (λ (p : Entry × List ℕ). Takes bytes (entry_bytes p.0) p.1 × IsEntry p.0) (ok_is (made, c.0.1) (m, rest) c.2)
    (tuv, record { sender = t.1; number = (u.1, u.2); payload = v.1 })

entry_again : (m : Entry) (rest : List ℕ) → IsEntry m → entry_at (entry_bytes m ++ rest) ≡ Ok (m, rest)
unfolding entry_at
entry_again m rest fits =
    let regrouped : entry_bytes m ++ rest ≡ address_bytes m.sender ++ (number_bytes m.number ++ (payload_bytes m.payload ++ rest)) =
    append_assoc (address_bytes m.sender ++ number_bytes m.number) (payload_bytes m.payload) rest ∙ append_assoc (address_bytes m.sender) (number_bytes m.number) (payload_bytes m.payload ++ rest) in
    ap entry_at regrouped
    ∙ rw (address_again m.sender (number_bytes m.number ++ (payload_bytes m.payload ++ rest)) fits.sender, eight_again 1 GREATEST_NUMBER m.number (payload_bytes m.payload ++ rest) fits.number.0 fits.number.1 (omega arith), payload_again m.payload rest fits.payload) refl

pub entry_part : IsPart entry_at entry_bytes IsEntry
entry_part = record { takes = entry_takes; again = entry_again }

placed_takes : (bytes : List ℕ) (h : ℕ × Entry) (rest : List ℕ) → IsBytes bytes → placed_at bytes ≡ Ok (h, rest) → Takes bytes (placed_bytes h) rest × IsPlaced h
unfolding placed_at
placed_takes bytes h rest fits e =
    let a = bind_ok (number_at 8 1 GREATEST_NUMBER Value bytes) (λ place. entry_at place.1 >>= λ entry. Ok ((place.0, entry.0), entry.1)) (h, rest) e in
    let b = bind_ok (entry_at a.0.1) (λ entry. Ok ((a.0.0, entry.0), entry.1)) (h, rest) a.2 in
    let t = number_takes 8 wide8 1 GREATEST_NUMBER Value bytes a.0.0 a.0.1 fits a.1 in
    let u = entry_takes a.0.1 b.0.0 b.0.1 t.0.rest_fits b.1 in
    let made : ℕ × Entry = (a.0.0, b.0.0) in
    subst (λ (p : (ℕ × Entry) × List ℕ). Takes bytes (placed_bytes p.0) p.1 × IsPlaced p.0) (ok_is (made, b.0.1) (h, rest) b.2)
    (Takes-then _ _ _ _ _ t.0 u.0, record { place = (t.1, t.2); entry = u.1 })

placed_again : (h : ℕ × Entry) (rest : List ℕ) → IsPlaced h → placed_at (placed_bytes h ++ rest) ≡ Ok (h, rest)
unfolding placed_at
placed_again h rest fits =
    ap placed_at (append_assoc (number_bytes h.0) (entry_bytes h.1) rest)
    ∙ rw (eight_again 1 GREATEST_NUMBER h.0 (entry_bytes h.1 ++ rest) fits.place.0 fits.place.1 (omega arith), entry_again h.1 rest fits.entry) refl

pub placed_part : IsPart placed_at placed_bytes IsPlaced
placed_part = record { takes = placed_takes; again = placed_again }
