-- The laws of the bodies, kind by kind.
use Rattle.std.proofs.Common.{◌≡◌, ℕ, ◌+◌, ◌-◌, ◌≤◌, Bool, true, false, cond, eqb, List, ◌++◌, length, Result, Ok, Err, refl, sym, ap, ◌∙◌, append_assoc, arith}
use Rattle.std.proofs.lemmas.Bool.{eqb-true, eq-eqb, cond-true}
use Rattle.std.proofs.lemmas.Bool.Decides.{nat_tests}
use Rattle.address.specs.declared.limits.TheConstants.{GREATEST_NUMBER, WINDOW, PAYLOAD}
use Rattle.wire_values.specs.declared.error.WireError.{WireError}
use Rattle.wire_values.specs.declared.error.WireError.TheVariants.{Kind, Value}
use Rattle.wire_values.specs.declared.packet.Body.{Body}
use Rattle.wire_values.specs.declared.packet.Body.TheVariants as bodies
use Rattle.wire_values.specs.Values.{Missing, Progress}
use Rattle.wire_values.specs.Reading.{Read, ◌>>=◌, number_at}
use Rattle.wire_values.specs.Fields.{IsAddress, IsViewId, IsEntry, address_bytes, number_bytes, view_id_bytes, payload_bytes, entry_bytes, address_at, view_id_at, payload_at, entry_at}
use Rattle.wire_values.specs.Lists.{IsView, IsReport, IsInstall, IsChunk, view_bytes, report_bytes, install_bytes, chunk_bytes, view_at, report_at, install_at, chunk_at}
use Rattle.wire_values.specs.Kinds.{kind_of}
use Rattle.wire.specs.Packets.{IsBody, body_bytes, redirect_at, forward_at, order_at, nak_at, ack_at, status_at, flush_at, behind_at, reported_at, installed_at, merge_at, sent_state_at, body_at}
use Rattle.big_endian.specs.Spelled.{IsBytes}
use Rattle.big_endian.proofs.Bytes.{wide8}
use Rattle.wire_values.proofs.FieldLaws.{bind_ok, ok_is, along, Takes, Takes-then, IsPart, address_part, view_id_part, payload_part, entry_part, number_takes, eight_again}
use Rattle.wire_values.proofs.MemberLaws.{view_part}
use Rattle.wire.proofs.InstallLaws.{report_part, install_part}
use Rattle.wire.proofs.ChunkLaws.{chunk_part}

-- a number of eight bytes is a part
abbrev within : ℕ → ℕ → ℕ → Type 0
within low high n = (low ≤ n) × (n ≤ high)

pub eight_part : (low high : ℕ) → high ≤ GREATEST_NUMBER → IsPart (number_at 8 low high Value) number_bytes (within low high)
eight_part low high small = record {
  takes = λ bytes x rest fits e. let t = number_takes 8 wide8 low high Value bytes x rest fits e in (t.0, (t.1, t.2));
  again = λ x rest is. eight_again low high x rest is.0 is.1 small;
}

-- what a body of a kind took
pub record Took (kind : ℕ) (bytes : List ℕ) (found : Body × List ℕ) : Type 0 where
  pub takes : Takes bytes (body_bytes found.0) found.1
  pub is : IsBody found.0
  pub kind_is : kind_of found.0 ≡ kind

-- ---- one part, two, three

one_found : {A : Type 0} (ra : List ℕ → Read A) (sa : A → List ℕ) (Fa : A → Type 0) → IsPart ra sa Fa → (make : A → Body) (bytes : List ℕ) (found : Body × List ℕ) → IsBytes bytes
    → (ra bytes >>= λ x. Ok (make x.0, x.1)) ≡ Ok found → (x : A) × (rest : List ℕ) × ((make x, rest) ≡ found) × Takes bytes (sa x) rest × Fa x
one_found ra sa Fa pa make bytes found fits e =
    let a = bind_ok (ra bytes) (λ x. Ok (make x.0, x.1)) found e in
    let t = pa.takes bytes a.0.0 a.0.1 fits a.1 in
    (a.0.0, a.0.1, ok_is (make a.0.0, a.0.1) found a.2, t.0, t.1)

two_found : {A B : Type 0} (ra : List ℕ → Read A) (sa : A → List ℕ) (Fa : A → Type 0) → IsPart ra sa Fa → (rb : List ℕ → Read B) (sb : B → List ℕ) (Fb : B → Type 0) → IsPart rb sb Fb → (make : A → B → Body) (bytes : List ℕ) (found : Body × List ℕ) → IsBytes bytes
    → (ra bytes >>= λ x. rb x.1 >>= λ y. Ok (make x.0 y.0, y.1)) ≡ Ok found → (x : A) × (y : B) × (rest : List ℕ) × ((make x y, rest) ≡ found) × Takes bytes (sa x ++ sb y) rest × Fa x × Fb y
two_found ra sa Fa pa rb sb Fb pb make bytes found fits e =
    let a = bind_ok (ra bytes) (λ x. rb x.1 >>= λ y. Ok (make x.0 y.0, y.1)) found e in
    let b = bind_ok (rb a.0.1) (λ y. Ok (make a.0.0 y.0, y.1)) found a.2 in
    let t = pa.takes bytes a.0.0 a.0.1 fits a.1 in
    let u = pb.takes a.0.1 b.0.0 b.0.1 t.0.rest_fits b.1 in
    (a.0.0, b.0.0, b.0.1, ok_is (make a.0.0 b.0.0, b.0.1) found b.2, Takes-then bytes (sa a.0.0) a.0.1 (sb b.0.0) b.0.1 t.0 u.0, t.1, u.1)

three_found : {A B C : Type 0} (ra : List ℕ → Read A) (sa : A → List ℕ) (Fa : A → Type 0) → IsPart ra sa Fa → (rb : List ℕ → Read B) (sb : B → List ℕ) (Fb : B → Type 0) → IsPart rb sb Fb
    → (rc : B → List ℕ → Read C) (sc : C → List ℕ) (Fc : B → C → Type 0) → ((y : B) → IsPart (rc y) sc (Fc y)) → (make : A → B → C → Body) (bytes : List ℕ) (found : Body × List ℕ) → IsBytes bytes
    → (ra bytes >>= λ x. rb x.1 >>= λ y. rc y.0 y.1 >>= λ z. Ok (make x.0 y.0 z.0, z.1)) ≡ Ok found
    → (x : A) × (y : B) × (z : C) × (rest : List ℕ) × ((make x y z, rest) ≡ found) × Takes bytes (sa x ++ sb y ++ sc z) rest × Fa x × Fb y × Fc y z
three_found ra sa Fa pa rb sb Fb pb rc sc Fc pc make bytes found fits e =
    let a = bind_ok (ra bytes) (λ x. rb x.1 >>= λ y. rc y.0 y.1 >>= λ z. Ok (make x.0 y.0 z.0, z.1)) found e in
    let b = bind_ok (rb a.0.1) (λ y. rc y.0 y.1 >>= λ z. Ok (make a.0.0 y.0 z.0, z.1)) found a.2 in
    let c = bind_ok (rc b.0.0 b.0.1) (λ z. Ok (make a.0.0 b.0.0 z.0, z.1)) found b.2 in
    let t = pa.takes bytes a.0.0 a.0.1 fits a.1 in
    let u = pb.takes a.0.1 b.0.0 b.0.1 t.0.rest_fits b.1 in
    let v = (pc b.0.0).takes b.0.1 c.0.0 c.0.1 u.0.rest_fits c.1 in
    let one = Takes-then bytes (sa a.0.0) a.0.1 (sb b.0.0) b.0.1 t.0 u.0 in
    (a.0.0, b.0.0, c.0.0, c.0.1, ok_is (make a.0.0 b.0.0 c.0.0, c.0.1) found c.2, Takes-then bytes (sa a.0.0 ++ sb b.0.0) b.0.1 (sc c.0.0) c.0.1 one v.0, t.1, u.1, v.1)

-- ---- the kinds

redirect_takes : (bytes : List ℕ) (found : Body × List ℕ) → IsBytes bytes → redirect_at bytes ≡ Ok found → Took 2 bytes found
unfolding redirect_at
redirect_takes bytes found fits e =
    let f = one_found address_at address_bytes IsAddress address_part (λ a. bodies.Redirect a) bytes found fits e in
    along (Took 2 bytes) (bodies.Redirect f.0, f.1) found f.2 (record { takes = f.3; is = f.4; kind_is = refl })

forward_takes : (bytes : List ℕ) (found : Body × List ℕ) → IsBytes bytes → forward_at bytes ≡ Ok found → Took 4 bytes found
unfolding forward_at
forward_takes bytes found fits e =
    let f = three_found view_id_at view_id_bytes IsViewId view_id_part (number_at 8 1 GREATEST_NUMBER Value) number_bytes (within 1 GREATEST_NUMBER) (eight_part 1 GREATEST_NUMBER (omega arith)) (λ _. payload_at) payload_bytes (λ _ x. length x ≤ PAYLOAD) (λ _. payload_part) (λ v n x. bodies.Forward v n x) bytes found fits e in
    along (Took 4 bytes) (bodies.Forward f.0 f.1 f.2, f.3) found f.4 (record { takes = f.5; is = (f.6, f.7, f.8); kind_is = refl })

order_takes : (bytes : List ℕ) (found : Body × List ℕ) → IsBytes bytes → order_at bytes ≡ Ok found → Took 5 bytes found
unfolding order_at
order_takes bytes found fits e =
    let f = three_found view_id_at view_id_bytes IsViewId view_id_part (number_at 8 1 GREATEST_NUMBER Value) number_bytes (within 1 GREATEST_NUMBER) (eight_part 1 GREATEST_NUMBER (omega arith)) (λ _. entry_at) entry_bytes (λ _ m. IsEntry m) (λ _. entry_part) (λ v g m. bodies.Order v g m) bytes found fits e in
    along (Took 5 bytes) (bodies.Order f.0 f.1 f.2, f.3) found f.4 (record { takes = f.5; is = (f.6, f.7, f.8); kind_is = refl })

abbrev missing_of : ℕ → ℕ → Missing
missing_of first last = record { first = first; last = last }

nak_takes : (bytes : List ℕ) (found : Body × List ℕ) → IsBytes bytes → nak_at bytes ≡ Ok found → Took 6 bytes found
unfolding nak_at
nak_takes bytes found fits e =
    let f = three_found view_id_at view_id_bytes IsViewId view_id_part (number_at 8 1 GREATEST_NUMBER Value) number_bytes (within 1 GREATEST_NUMBER) (eight_part 1 GREATEST_NUMBER (omega arith)) (λ first. number_at 8 first GREATEST_NUMBER Value) number_bytes (λ first. within first GREATEST_NUMBER) (λ first. eight_part first GREATEST_NUMBER (omega arith)) (λ v first last. bodies.Nak v (missing_of first last)) bytes found fits e in
    along (Took 6 bytes) (bodies.Nak f.0 (missing_of f.1 f.2), f.3) found f.4 (record { takes = f.5; is = (f.6, f.7, f.8.0, f.8.1); kind_is = refl })

ack_takes : (bytes : List ℕ) (found : Body × List ℕ) → IsBytes bytes → ack_at bytes ≡ Ok found → Took 7 bytes found
unfolding ack_at
ack_takes bytes found fits e =
    let f = two_found view_id_at view_id_bytes IsViewId view_id_part (number_at 8 0 GREATEST_NUMBER Value) number_bytes (within 0 GREATEST_NUMBER) (eight_part 0 GREATEST_NUMBER (omega arith)) (λ v n. bodies.Ack v n) bytes found fits e in
    along (Took 7 bytes) (bodies.Ack f.0 f.1, f.2) found f.3 (record { takes = f.4; is = (f.5, f.6.1); kind_is = refl })

abbrev progress_of : ℕ → ℕ → Progress
progress_of highest stable = record { highest = highest; stable = stable }

near_of : (highest stable : ℕ) → highest - WINDOW ≤ stable → highest ≤ stable + WINDOW
near_of highest stable h = omega arith

status_takes : (bytes : List ℕ) (found : Body × List ℕ) → IsBytes bytes → status_at bytes ≡ Ok found → Took 8 bytes found
unfolding status_at
status_takes bytes found fits e =
    let a = bind_ok (view_id_at bytes) (λ view. number_at 8 0 GREATEST_NUMBER Value view.1 >>= λ highest. number_at 8 (highest.0 - WINDOW) highest.0 Value highest.1 >>= λ stable. Ok (bodies.Status view.0 (progress_of highest.0 stable.0), stable.1)) found e in
    let b = bind_ok (number_at 8 0 GREATEST_NUMBER Value a.0.1) (λ highest. number_at 8 (highest.0 - WINDOW) highest.0 Value highest.1 >>= λ stable. Ok (bodies.Status a.0.0 (progress_of highest.0 stable.0), stable.1)) found a.2 in
    let c = bind_ok (number_at 8 (b.0.0 - WINDOW) b.0.0 Value b.0.1) (λ stable. Ok (bodies.Status a.0.0 (progress_of b.0.0 stable.0), stable.1)) found b.2 in
    let t = view_id_part.takes bytes a.0.0 a.0.1 fits a.1 in
    let u = number_takes 8 wide8 0 GREATEST_NUMBER Value a.0.1 b.0.0 b.0.1 t.0.rest_fits b.1 in
    let v = number_takes 8 wide8 (b.0.0 - WINDOW) b.0.0 Value b.0.1 c.0.0 c.0.1 u.0.rest_fits c.1 in
    let one = Takes-then bytes (view_id_bytes a.0.0) a.0.1 (number_bytes b.0.0) b.0.1 t.0 u.0 in
    along (Took 8 bytes) (bodies.Status a.0.0 (progress_of b.0.0 c.0.0), c.0.1) found (ok_is (bodies.Status a.0.0 (progress_of b.0.0 c.0.0), c.0.1) found c.2)
    (record { takes = Takes-then bytes (view_id_bytes a.0.0 ++ number_bytes b.0.0) b.0.1 (number_bytes c.0.0) c.0.1 one v.0; is = (t.1, u.2, v.2, near_of b.0.0 c.0.0 v.1); kind_is = refl })

flush_takes : (bytes : List ℕ) (found : Body × List ℕ) → IsBytes bytes → flush_at bytes ≡ Ok found → Took 9 bytes found
unfolding flush_at
flush_takes bytes found fits e =
    let f = one_found view_at view_bytes IsView view_part (λ v. bodies.Flush v) bytes found fits e in
    along (Took 9 bytes) (bodies.Flush f.0, f.1) found f.2 (record { takes = f.3; is = f.4; kind_is = refl })

behind_takes : (bytes : List ℕ) (found : Body × List ℕ) → IsBytes bytes → behind_at bytes ≡ Ok found → Took 10 bytes found
unfolding behind_at
behind_takes bytes found fits e =
    let f = two_found view_id_at view_id_bytes IsViewId view_id_part (number_at 8 1 GREATEST_NUMBER Value) number_bytes (within 1 GREATEST_NUMBER) (eight_part 1 GREATEST_NUMBER (omega arith)) (λ v n. bodies.Behind v n) bytes found fits e in
    along (Took 10 bytes) (bodies.Behind f.0 f.1, f.2) found f.3 (record { takes = f.4; is = (f.5, f.6); kind_is = refl })

reported_takes : (bytes : List ℕ) (found : Body × List ℕ) → IsBytes bytes → reported_at bytes ≡ Ok found → Took 11 bytes found
unfolding reported_at
reported_takes bytes found fits e =
    let f = two_found view_id_at view_id_bytes IsViewId view_id_part report_at report_bytes IsReport report_part (λ v r. bodies.Report v r) bytes found fits e in
    along (Took 11 bytes) (bodies.Report f.0 f.1, f.2) found f.3 (record { takes = f.4; is = (f.5, f.6); kind_is = refl })

installed_takes : (bytes : List ℕ) (found : Body × List ℕ) → IsBytes bytes → installed_at bytes ≡ Ok found → Took 12 bytes found
unfolding installed_at
installed_takes bytes found fits e =
    let f = one_found install_at install_bytes IsInstall install_part (λ i. bodies.Install i) bytes found fits e in
    along (Took 12 bytes) (bodies.Install f.0, f.1) found f.2 (record { takes = f.3; is = f.4; kind_is = refl })

merge_takes : (bytes : List ℕ) (found : Body × List ℕ) → IsBytes bytes → merge_at bytes ≡ Ok found → Took 13 bytes found
unfolding merge_at
merge_takes bytes found fits e =
    let f = one_found view_at view_bytes IsView view_part (λ v. bodies.Merge v) bytes found fits e in
    along (Took 13 bytes) (bodies.Merge f.0, f.1) found f.2 (record { takes = f.3; is = f.4; kind_is = refl })

sent_state_takes : (bytes : List ℕ) (found : Body × List ℕ) → IsBytes bytes → sent_state_at bytes ≡ Ok found → Took 14 bytes found
unfolding sent_state_at
sent_state_takes bytes found fits e =
    let f = two_found view_id_at view_id_bytes IsViewId view_id_part chunk_at chunk_bytes IsChunk chunk_part (λ v c. bodies.State v c) bytes found fits e in
    along (Took 14 bytes) (bodies.State f.0 f.1, f.2) found f.3 (record { takes = f.4; is = (f.5, f.6); kind_is = refl })

-- ---- all kinds

-- a test that chose the first
first_of : {A : Type 0} (b : Bool) (r s : Result A WireError) (y : A) (P : Type 0) → ((b ≡ true) → (r ≡ Ok y) → P) → ((b ≡ false) → (s ≡ Ok y) → P) → cond b r s ≡ Ok y → P
first_of true r s y P f g e = f refl e
first_of false r s y P f g e = g refl e

-- what the kind k took is what the number took that equals k
as_kind : (kind k : ℕ) (bytes : List ℕ) (found : Body × List ℕ) → eqb kind k ≡ true → Took k bytes found → Took kind bytes found
as_kind kind k bytes found e t = record { takes = t.takes; is = t.is; kind_is = t.kind_is ∙ sym (eqb-true _ _ e) }

join_takes : (bytes : List ℕ) (found : Body × List ℕ) → IsBytes bytes → (bodies.Join, bytes) ≡ found → Took 1 bytes found
join_takes bytes found fits e = along (Took 1 bytes) (bodies.Join, bytes) found e (record { takes = record { parts = refl; rest_fits = fits }; is = tt; kind_is = refl })

leave_takes : (bytes : List ℕ) (found : Body × List ℕ) → IsBytes bytes → (bodies.Leave, bytes) ≡ found → Took 3 bytes found
leave_takes bytes found fits e = along (Took 3 bytes) (bodies.Leave, bytes) found e (record { takes = record { parts = refl; rest_fits = fits }; is = tt; kind_is = refl })

past : (kind k : ℕ) → k ≤ kind → eqb kind k ≡ false → k + 1 ≤ kind
past kind k some e = grind (arith, nat_tests)

at_14 : (kind : ℕ) → 13 ≤ kind → kind ≤ 14 → eqb kind 13 ≡ false → kind ≡ 14
at_14 kind some few e = grind (arith, nat_tests)

-- from each kind on
from_14 : (kind : ℕ) (bytes : List ℕ) (found : Body × List ℕ) → IsBytes bytes → kind ≡ 14 → cond (eqb kind 14) (sent_state_at bytes) (Err Kind) ≡ Ok found → Took kind bytes found
from_14 kind bytes found fits k e =
    let t = sent_state_takes bytes found fits (sym (cond-true (eqb kind 14) (sent_state_at bytes) (Err Kind) (eq-eqb kind 14 k)) ∙ e) in
    record { takes = t.takes; is = t.is; kind_is = t.kind_is ∙ sym k }

from_13 : (kind : ℕ) (bytes : List ℕ) (found : Body × List ℕ) → IsBytes bytes → 13 ≤ kind → kind ≤ 14 → cond (eqb kind 13) (merge_at bytes) (cond (eqb kind 14) (sent_state_at bytes) (Err Kind)) ≡ Ok found → Took kind bytes found
from_13 kind bytes found fits some few e =
    first_of (eqb kind 13) (merge_at bytes) (cond (eqb kind 14) (sent_state_at bytes) (Err Kind)) found (Took kind bytes found)
    (λ t r. as_kind kind 13 bytes found t (merge_takes bytes found fits r))
    (λ t r. from_14 kind bytes found fits (at_14 kind some few t) r) e

from_12 : (kind : ℕ) (bytes : List ℕ) (found : Body × List ℕ) → IsBytes bytes → 12 ≤ kind → kind ≤ 14 → cond (eqb kind 12) (installed_at bytes) (cond (eqb kind 13) (merge_at bytes) (cond (eqb kind 14) (sent_state_at bytes) (Err Kind))) ≡ Ok found → Took kind bytes found
from_12 kind bytes found fits some few e =
    first_of (eqb kind 12) (installed_at bytes) (cond (eqb kind 13) (merge_at bytes) (cond (eqb kind 14) (sent_state_at bytes) (Err Kind))) found (Took kind bytes found)
    (λ t r. as_kind kind 12 bytes found t (installed_takes bytes found fits r))
    (λ t r. from_13 kind bytes found fits (past kind 12 some t) few r) e

from_11 : (kind : ℕ) (bytes : List ℕ) (found : Body × List ℕ) → IsBytes bytes → 11 ≤ kind → kind ≤ 14 → cond (eqb kind 11) (reported_at bytes) (cond (eqb kind 12) (installed_at bytes) (cond (eqb kind 13) (merge_at bytes) (cond (eqb kind 14) (sent_state_at bytes) (Err Kind)))) ≡ Ok found → Took kind bytes found
from_11 kind bytes found fits some few e =
    first_of (eqb kind 11) (reported_at bytes) (cond (eqb kind 12) (installed_at bytes) (cond (eqb kind 13) (merge_at bytes) (cond (eqb kind 14) (sent_state_at bytes) (Err Kind)))) found (Took kind bytes found)
    (λ t r. as_kind kind 11 bytes found t (reported_takes bytes found fits r))
    (λ t r. from_12 kind bytes found fits (past kind 11 some t) few r) e

from_10 : (kind : ℕ) (bytes : List ℕ) (found : Body × List ℕ) → IsBytes bytes → 10 ≤ kind → kind ≤ 14 → cond (eqb kind 10) (behind_at bytes) (cond (eqb kind 11) (reported_at bytes) (cond (eqb kind 12) (installed_at bytes) (cond (eqb kind 13) (merge_at bytes) (cond (eqb kind 14) (sent_state_at bytes) (Err Kind))))) ≡ Ok found → Took kind bytes found
from_10 kind bytes found fits some few e =
    first_of (eqb kind 10) (behind_at bytes) (cond (eqb kind 11) (reported_at bytes) (cond (eqb kind 12) (installed_at bytes) (cond (eqb kind 13) (merge_at bytes) (cond (eqb kind 14) (sent_state_at bytes) (Err Kind))))) found (Took kind bytes found)
    (λ t r. as_kind kind 10 bytes found t (behind_takes bytes found fits r))
    (λ t r. from_11 kind bytes found fits (past kind 10 some t) few r) e

from_9 : (kind : ℕ) (bytes : List ℕ) (found : Body × List ℕ) → IsBytes bytes → 9 ≤ kind → kind ≤ 14 → cond (eqb kind 9) (flush_at bytes) (cond (eqb kind 10) (behind_at bytes) (cond (eqb kind 11) (reported_at bytes) (cond (eqb kind 12) (installed_at bytes) (cond (eqb kind 13) (merge_at bytes) (cond (eqb kind 14) (sent_state_at bytes) (Err Kind)))))) ≡ Ok found → Took kind bytes found
from_9 kind bytes found fits some few e =
    first_of (eqb kind 9) (flush_at bytes) (cond (eqb kind 10) (behind_at bytes) (cond (eqb kind 11) (reported_at bytes) (cond (eqb kind 12) (installed_at bytes) (cond (eqb kind 13) (merge_at bytes) (cond (eqb kind 14) (sent_state_at bytes) (Err Kind)))))) found (Took kind bytes found)
    (λ t r. as_kind kind 9 bytes found t (flush_takes bytes found fits r))
    (λ t r. from_10 kind bytes found fits (past kind 9 some t) few r) e

from_8 : (kind : ℕ) (bytes : List ℕ) (found : Body × List ℕ) → IsBytes bytes → 8 ≤ kind → kind ≤ 14 → cond (eqb kind 8) (status_at bytes) (cond (eqb kind 9) (flush_at bytes) (cond (eqb kind 10) (behind_at bytes) (cond (eqb kind 11) (reported_at bytes) (cond (eqb kind 12) (installed_at bytes) (cond (eqb kind 13) (merge_at bytes) (cond (eqb kind 14) (sent_state_at bytes) (Err Kind))))))) ≡ Ok found → Took kind bytes found
from_8 kind bytes found fits some few e =
    first_of (eqb kind 8) (status_at bytes) (cond (eqb kind 9) (flush_at bytes) (cond (eqb kind 10) (behind_at bytes) (cond (eqb kind 11) (reported_at bytes) (cond (eqb kind 12) (installed_at bytes) (cond (eqb kind 13) (merge_at bytes) (cond (eqb kind 14) (sent_state_at bytes) (Err Kind))))))) found (Took kind bytes found)
    (λ t r. as_kind kind 8 bytes found t (status_takes bytes found fits r))
    (λ t r. from_9 kind bytes found fits (past kind 8 some t) few r) e

from_7 : (kind : ℕ) (bytes : List ℕ) (found : Body × List ℕ) → IsBytes bytes → 7 ≤ kind → kind ≤ 14 → cond (eqb kind 7) (ack_at bytes) (cond (eqb kind 8) (status_at bytes) (cond (eqb kind 9) (flush_at bytes) (cond (eqb kind 10) (behind_at bytes) (cond (eqb kind 11) (reported_at bytes) (cond (eqb kind 12) (installed_at bytes) (cond (eqb kind 13) (merge_at bytes) (cond (eqb kind 14) (sent_state_at bytes) (Err Kind)))))))) ≡ Ok found → Took kind bytes found
from_7 kind bytes found fits some few e =
    first_of (eqb kind 7) (ack_at bytes) (cond (eqb kind 8) (status_at bytes) (cond (eqb kind 9) (flush_at bytes) (cond (eqb kind 10) (behind_at bytes) (cond (eqb kind 11) (reported_at bytes) (cond (eqb kind 12) (installed_at bytes) (cond (eqb kind 13) (merge_at bytes) (cond (eqb kind 14) (sent_state_at bytes) (Err Kind)))))))) found (Took kind bytes found)
    (λ t r. as_kind kind 7 bytes found t (ack_takes bytes found fits r))
    (λ t r. from_8 kind bytes found fits (past kind 7 some t) few r) e

from_6 : (kind : ℕ) (bytes : List ℕ) (found : Body × List ℕ) → IsBytes bytes → 6 ≤ kind → kind ≤ 14 → cond (eqb kind 6) (nak_at bytes) (cond (eqb kind 7) (ack_at bytes) (cond (eqb kind 8) (status_at bytes) (cond (eqb kind 9) (flush_at bytes) (cond (eqb kind 10) (behind_at bytes) (cond (eqb kind 11) (reported_at bytes) (cond (eqb kind 12) (installed_at bytes) (cond (eqb kind 13) (merge_at bytes) (cond (eqb kind 14) (sent_state_at bytes) (Err Kind))))))))) ≡ Ok found → Took kind bytes found
from_6 kind bytes found fits some few e =
    first_of (eqb kind 6) (nak_at bytes) (cond (eqb kind 7) (ack_at bytes) (cond (eqb kind 8) (status_at bytes) (cond (eqb kind 9) (flush_at bytes) (cond (eqb kind 10) (behind_at bytes) (cond (eqb kind 11) (reported_at bytes) (cond (eqb kind 12) (installed_at bytes) (cond (eqb kind 13) (merge_at bytes) (cond (eqb kind 14) (sent_state_at bytes) (Err Kind))))))))) found (Took kind bytes found)
    (λ t r. as_kind kind 6 bytes found t (nak_takes bytes found fits r))
    (λ t r. from_7 kind bytes found fits (past kind 6 some t) few r) e

from_5 : (kind : ℕ) (bytes : List ℕ) (found : Body × List ℕ) → IsBytes bytes → 5 ≤ kind → kind ≤ 14 → cond (eqb kind 5) (order_at bytes) (cond (eqb kind 6) (nak_at bytes) (cond (eqb kind 7) (ack_at bytes) (cond (eqb kind 8) (status_at bytes) (cond (eqb kind 9) (flush_at bytes) (cond (eqb kind 10) (behind_at bytes) (cond (eqb kind 11) (reported_at bytes) (cond (eqb kind 12) (installed_at bytes) (cond (eqb kind 13) (merge_at bytes) (cond (eqb kind 14) (sent_state_at bytes) (Err Kind)))))))))) ≡ Ok found → Took kind bytes found
from_5 kind bytes found fits some few e =
    first_of (eqb kind 5) (order_at bytes) (cond (eqb kind 6) (nak_at bytes) (cond (eqb kind 7) (ack_at bytes) (cond (eqb kind 8) (status_at bytes) (cond (eqb kind 9) (flush_at bytes) (cond (eqb kind 10) (behind_at bytes) (cond (eqb kind 11) (reported_at bytes) (cond (eqb kind 12) (installed_at bytes) (cond (eqb kind 13) (merge_at bytes) (cond (eqb kind 14) (sent_state_at bytes) (Err Kind)))))))))) found (Took kind bytes found)
    (λ t r. as_kind kind 5 bytes found t (order_takes bytes found fits r))
    (λ t r. from_6 kind bytes found fits (past kind 5 some t) few r) e

from_4 : (kind : ℕ) (bytes : List ℕ) (found : Body × List ℕ) → IsBytes bytes → 4 ≤ kind → kind ≤ 14 → cond (eqb kind 4) (forward_at bytes) (cond (eqb kind 5) (order_at bytes) (cond (eqb kind 6) (nak_at bytes) (cond (eqb kind 7) (ack_at bytes) (cond (eqb kind 8) (status_at bytes) (cond (eqb kind 9) (flush_at bytes) (cond (eqb kind 10) (behind_at bytes) (cond (eqb kind 11) (reported_at bytes) (cond (eqb kind 12) (installed_at bytes) (cond (eqb kind 13) (merge_at bytes) (cond (eqb kind 14) (sent_state_at bytes) (Err Kind))))))))))) ≡ Ok found → Took kind bytes found
from_4 kind bytes found fits some few e =
    first_of (eqb kind 4) (forward_at bytes) (cond (eqb kind 5) (order_at bytes) (cond (eqb kind 6) (nak_at bytes) (cond (eqb kind 7) (ack_at bytes) (cond (eqb kind 8) (status_at bytes) (cond (eqb kind 9) (flush_at bytes) (cond (eqb kind 10) (behind_at bytes) (cond (eqb kind 11) (reported_at bytes) (cond (eqb kind 12) (installed_at bytes) (cond (eqb kind 13) (merge_at bytes) (cond (eqb kind 14) (sent_state_at bytes) (Err Kind))))))))))) found (Took kind bytes found)
    (λ t r. as_kind kind 4 bytes found t (forward_takes bytes found fits r))
    (λ t r. from_5 kind bytes found fits (past kind 4 some t) few r) e

from_3 : (kind : ℕ) (bytes : List ℕ) (found : Body × List ℕ) → IsBytes bytes → 3 ≤ kind → kind ≤ 14 → cond (eqb kind 3) (Ok (bodies.Leave, bytes)) (cond (eqb kind 4) (forward_at bytes) (cond (eqb kind 5) (order_at bytes) (cond (eqb kind 6) (nak_at bytes) (cond (eqb kind 7) (ack_at bytes) (cond (eqb kind 8) (status_at bytes) (cond (eqb kind 9) (flush_at bytes) (cond (eqb kind 10) (behind_at bytes) (cond (eqb kind 11) (reported_at bytes) (cond (eqb kind 12) (installed_at bytes) (cond (eqb kind 13) (merge_at bytes) (cond (eqb kind 14) (sent_state_at bytes) (Err Kind)))))))))))) ≡ Ok found → Took kind bytes found
from_3 kind bytes found fits some few e =
    first_of (eqb kind 3) (Ok (bodies.Leave, bytes)) (cond (eqb kind 4) (forward_at bytes) (cond (eqb kind 5) (order_at bytes) (cond (eqb kind 6) (nak_at bytes) (cond (eqb kind 7) (ack_at bytes) (cond (eqb kind 8) (status_at bytes) (cond (eqb kind 9) (flush_at bytes) (cond (eqb kind 10) (behind_at bytes) (cond (eqb kind 11) (reported_at bytes) (cond (eqb kind 12) (installed_at bytes) (cond (eqb kind 13) (merge_at bytes) (cond (eqb kind 14) (sent_state_at bytes) (Err Kind)))))))))))) found (Took kind bytes found)
    (λ t r. as_kind kind 3 bytes found t (leave_takes bytes found fits (ok_is (bodies.Leave, bytes) found r)))
    (λ t r. from_4 kind bytes found fits (past kind 3 some t) few r) e

from_2 : (kind : ℕ) (bytes : List ℕ) (found : Body × List ℕ) → IsBytes bytes → 2 ≤ kind → kind ≤ 14 → cond (eqb kind 2) (redirect_at bytes) (cond (eqb kind 3) (Ok (bodies.Leave, bytes)) (cond (eqb kind 4) (forward_at bytes) (cond (eqb kind 5) (order_at bytes) (cond (eqb kind 6) (nak_at bytes) (cond (eqb kind 7) (ack_at bytes) (cond (eqb kind 8) (status_at bytes) (cond (eqb kind 9) (flush_at bytes) (cond (eqb kind 10) (behind_at bytes) (cond (eqb kind 11) (reported_at bytes) (cond (eqb kind 12) (installed_at bytes) (cond (eqb kind 13) (merge_at bytes) (cond (eqb kind 14) (sent_state_at bytes) (Err Kind))))))))))))) ≡ Ok found → Took kind bytes found
from_2 kind bytes found fits some few e =
    first_of (eqb kind 2) (redirect_at bytes) (cond (eqb kind 3) (Ok (bodies.Leave, bytes)) (cond (eqb kind 4) (forward_at bytes) (cond (eqb kind 5) (order_at bytes) (cond (eqb kind 6) (nak_at bytes) (cond (eqb kind 7) (ack_at bytes) (cond (eqb kind 8) (status_at bytes) (cond (eqb kind 9) (flush_at bytes) (cond (eqb kind 10) (behind_at bytes) (cond (eqb kind 11) (reported_at bytes) (cond (eqb kind 12) (installed_at bytes) (cond (eqb kind 13) (merge_at bytes) (cond (eqb kind 14) (sent_state_at bytes) (Err Kind))))))))))))) found (Took kind bytes found)
    (λ t r. as_kind kind 2 bytes found t (redirect_takes bytes found fits r))
    (λ t r. from_3 kind bytes found fits (past kind 2 some t) few r) e

from_1 : (kind : ℕ) (bytes : List ℕ) (found : Body × List ℕ) → IsBytes bytes → 1 ≤ kind → kind ≤ 14 → cond (eqb kind 1) (Ok (bodies.Join, bytes)) (cond (eqb kind 2) (redirect_at bytes) (cond (eqb kind 3) (Ok (bodies.Leave, bytes)) (cond (eqb kind 4) (forward_at bytes) (cond (eqb kind 5) (order_at bytes) (cond (eqb kind 6) (nak_at bytes) (cond (eqb kind 7) (ack_at bytes) (cond (eqb kind 8) (status_at bytes) (cond (eqb kind 9) (flush_at bytes) (cond (eqb kind 10) (behind_at bytes) (cond (eqb kind 11) (reported_at bytes) (cond (eqb kind 12) (installed_at bytes) (cond (eqb kind 13) (merge_at bytes) (cond (eqb kind 14) (sent_state_at bytes) (Err Kind)))))))))))))) ≡ Ok found → Took kind bytes found
from_1 kind bytes found fits some few e =
    first_of (eqb kind 1) (Ok (bodies.Join, bytes)) (cond (eqb kind 2) (redirect_at bytes) (cond (eqb kind 3) (Ok (bodies.Leave, bytes)) (cond (eqb kind 4) (forward_at bytes) (cond (eqb kind 5) (order_at bytes) (cond (eqb kind 6) (nak_at bytes) (cond (eqb kind 7) (ack_at bytes) (cond (eqb kind 8) (status_at bytes) (cond (eqb kind 9) (flush_at bytes) (cond (eqb kind 10) (behind_at bytes) (cond (eqb kind 11) (reported_at bytes) (cond (eqb kind 12) (installed_at bytes) (cond (eqb kind 13) (merge_at bytes) (cond (eqb kind 14) (sent_state_at bytes) (Err Kind)))))))))))))) found (Took kind bytes found)
    (λ t r. as_kind kind 1 bytes found t (join_takes bytes found fits (ok_is (bodies.Join, bytes) found r)))
    (λ t r. from_2 kind bytes found fits (past kind 1 some t) few r) e

pub body_takes : (kind : ℕ) (bytes : List ℕ) (found : Body × List ℕ) → IsBytes bytes → 1 ≤ kind → kind ≤ 14 → body_at kind bytes ≡ Ok found → Took kind bytes found
unfolding body_at
body_takes kind bytes found fits some few e = from_1 kind bytes found fits some few e

-- ---- a body's spelling is read again

abbrev two_at : {A B : Type 0} → (List ℕ → Read A) → (List ℕ → Read B) → (A → B → Body) → List ℕ → Read Body
two_at ra rb make bytes = ra bytes >>= λ x. rb x.1 >>= λ y. Ok (make x.0 y.0, y.1)

abbrev three_at : {A B C : Type 0} → (List ℕ → Read A) → (List ℕ → Read B) → (B → List ℕ → Read C) → (A → B → C → Body) → List ℕ → Read Body
three_at ra rb rc make bytes = ra bytes >>= λ x. rb x.1 >>= λ y. rc y.0 y.1 >>= λ z. Ok (make x.0 y.0 z.0, z.1)

two_again : {A B : Type 0} (ra : List ℕ → Read A) (sa : A → List ℕ) (Fa : A → Type 0) → IsPart ra sa Fa → (rb : List ℕ → Read B) (sb : B → List ℕ) (Fb : B → Type 0) → IsPart rb sb Fb → (make : A → B → Body) (x : A) (y : B) (rest : List ℕ) → Fa x → Fb y
    → two_at ra rb make ((sa x ++ sb y) ++ rest) ≡ Ok (make x y, rest)
two_again ra sa Fa pa rb sb Fb pb make x y rest fx fy =
    ap (two_at ra rb make) (append_assoc (sa x) (sb y) rest)
    ∙ rw (pa.again x (sb y ++ rest) fx, pb.again y rest fy) refl

three_again : {A B C : Type 0} (ra : List ℕ → Read A) (sa : A → List ℕ) (Fa : A → Type 0) → IsPart ra sa Fa → (rb : List ℕ → Read B) (sb : B → List ℕ) (Fb : B → Type 0) → IsPart rb sb Fb
    → (rc : B → List ℕ → Read C) (sc : C → List ℕ) (make : A → B → C → Body) (x : A) (y : B) (z : C) (rest : List ℕ) → Fa x → Fb y → rc y (sc z ++ rest) ≡ Ok (z, rest)
    → three_at ra rb rc make ((sa x ++ sb y ++ sc z) ++ rest) ≡ Ok (make x y z, rest)
three_again ra sa Fa pa rb sb Fb pb rc sc make x y z rest fx fy again =
    ap (three_at ra rb rc make) (append_assoc (sa x ++ sb y) (sc z) rest ∙ append_assoc (sa x) (sb y) (sc z ++ rest))
    ∙ rw (pa.again x (sb y ++ (sc z ++ rest)) fx, pb.again y (sc z ++ rest) fy, again) refl

pub body_again : (b : Body) (rest : List ℕ) → IsBody b → body_at (kind_of b) (body_bytes b ++ rest) ≡ Ok (b, rest)
unfolding body_at redirect_at forward_at order_at nak_at ack_at status_at flush_at behind_at reported_at installed_at merge_at sent_state_at
body_again bodies.Join rest fits = refl
body_again (bodies.Redirect a) rest fits = rw (address_part.again a rest fits) refl
body_again bodies.Leave rest fits = refl
body_again (bodies.Forward v n x) rest fits =
    three_again view_id_at view_id_bytes IsViewId view_id_part (number_at 8 1 GREATEST_NUMBER Value) number_bytes (within 1 GREATEST_NUMBER) (eight_part 1 GREATEST_NUMBER (omega arith)) (λ _. payload_at) payload_bytes (λ v n x. bodies.Forward v n x) v n x rest fits.0 fits.1 (payload_part.again x rest fits.2)
body_again (bodies.Order v g m) rest fits =
    three_again view_id_at view_id_bytes IsViewId view_id_part (number_at 8 1 GREATEST_NUMBER Value) number_bytes (within 1 GREATEST_NUMBER) (eight_part 1 GREATEST_NUMBER (omega arith)) (λ _. entry_at) entry_bytes (λ v g m. bodies.Order v g m) v g m rest fits.0 fits.1 (entry_part.again m rest fits.2)
body_again (bodies.Nak v m) rest fits =
    three_again view_id_at view_id_bytes IsViewId view_id_part (number_at 8 1 GREATEST_NUMBER Value) number_bytes (within 1 GREATEST_NUMBER) (eight_part 1 GREATEST_NUMBER (omega arith)) (λ first. number_at 8 first GREATEST_NUMBER Value) number_bytes (λ v first last. bodies.Nak v (missing_of first last)) v m.first m.last rest fits.0 fits.1 (eight_again m.first GREATEST_NUMBER m.last rest fits.2 fits.3 (omega arith))
body_again (bodies.Ack v n) rest fits =
    two_again view_id_at view_id_bytes IsViewId view_id_part (number_at 8 0 GREATEST_NUMBER Value) number_bytes (within 0 GREATEST_NUMBER) (eight_part 0 GREATEST_NUMBER (omega arith)) (λ v n. bodies.Ack v n) v n rest fits.0 (omega arith, fits.1)
body_again (bodies.Status v p) rest fits =
    three_again view_id_at view_id_bytes IsViewId view_id_part (number_at 8 0 GREATEST_NUMBER Value) number_bytes (within 0 GREATEST_NUMBER) (eight_part 0 GREATEST_NUMBER (omega arith)) (λ highest. number_at 8 (highest - WINDOW) highest Value) number_bytes (λ v highest stable. bodies.Status v (progress_of highest stable)) v p.highest p.stable rest fits.0 (omega arith, fits.1) (eight_again (p.highest - WINDOW) p.highest p.stable rest (omega arith) fits.2 fits.1)
body_again (bodies.Flush v) rest fits = rw (view_part.again v rest fits) refl
body_again (bodies.Behind v n) rest fits =
    two_again view_id_at view_id_bytes IsViewId view_id_part (number_at 8 1 GREATEST_NUMBER Value) number_bytes (within 1 GREATEST_NUMBER) (eight_part 1 GREATEST_NUMBER (omega arith)) (λ v n. bodies.Behind v n) v n rest fits.0 fits.1
body_again (bodies.Report v r) rest fits =
    two_again view_id_at view_id_bytes IsViewId view_id_part report_at report_bytes IsReport report_part (λ v r. bodies.Report v r) v r rest fits.0 fits.1
body_again (bodies.Install i) rest fits = rw (install_part.again i rest fits) refl
body_again (bodies.Merge v) rest fits = rw (view_part.again v rest fits) refl
body_again (bodies.State v c) rest fits =
    two_again view_id_at view_id_bytes IsViewId view_id_part chunk_at chunk_bytes IsChunk chunk_part (λ v c. bodies.State v c) v c rest fits.0 fits.1
