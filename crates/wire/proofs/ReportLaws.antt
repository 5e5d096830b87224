-- The laws of a report and of an install.
use Rattle.std.proofs.Common.{◌≡◌, ℕ, ◌+◌, ◌≤◌, true, cond, leb, ◌&&◌, List, ◌++◌, length, Option, Some, Ok, Err, refl, sym, ap, subst, ◌∙◌, append_assoc, arith}
use Rattle.std.specs.Prelude.{min}
use Rattle.std.specs.List.{flat_map, AllByRecursion}
use Rattle.std.proofs.lemmas.Bool.{leb-true, le-leb, and_parts}
use Rattle.byteorder.specs.Endian.{big_bytes}
use Rattle.address.specs.Ids.{ViewId}
use Rattle.address.specs.declared.limits.TheConstants.{GREATEST_NUMBER, WINDOW}
use Rattle.wire_values.specs.declared.error.WireError.TheVariants.{Length, Value}
use Rattle.wire_values.specs.Values.{Entry, Report}
use Rattle.wire_values.specs.Reading.{◌>>=◌, number_at}
use Rattle.wire_values.specs.Fields.{IsViewId, IsPlaced, number_bytes, view_id_bytes, placed_bytes, view_id_at}
use Rattle.wire_values.specs.Lists.{are_held, is_filled, held_bytes, held_at, held_count_at, filled_at, items_count_at}
use Rattle.big_endian.specs.Spelled.{IsBytes}
use Rattle.big_endian.proofs.Bytes.{wide1, wide8}
use Rattle.wire_values.proofs.FieldLaws.{bind_ok, ok_is, test_ok, along, back, Takes, Takes-then, view_id_part, number_takes, number_again, eight_again}
use Rattle.wire_values.proofs.ListLaws.{held_takes, held_again}

-- ---- how many entries there are

held_count_takes : (stable delivered : ℕ) (bytes : List ℕ) (n : ℕ) (rest : List ℕ) → IsBytes bytes → held_count_at stable delivered bytes ≡ Ok (n, rest) → Takes bytes (big_bytes 1 n) rest × (n ≤ WINDOW) × (delivered ≤ stable + n)
unfolding held_count_at
held_count_takes stable delivered bytes n rest fits e =
    let a = bind_ok (number_at 1 0 WINDOW Length bytes) (λ count. cond (leb delivered (stable + count.0)) (Ok count) (Err Value)) (n, rest) e in
    let g = test_ok (leb delivered (stable + a.0.0)) Value (Ok a.0) (n, rest) a.2 in
    let t = number_takes 1 wide1 0 WINDOW Length bytes a.0.0 a.0.1 fits a.1 in
    subst (λ (p : ℕ × List ℕ). Takes bytes (big_bytes 1 p.0) p.1 × (p.0 ≤ WINDOW) × (delivered ≤ stable + p.0)) (ok_is a.0 (n, rest) g.1) (t.0, t.2, leb-true _ _ g.0)

held_count_again : (stable delivered n : ℕ) (rest : List ℕ) → n ≤ WINDOW → delivered ≤ stable + n → held_count_at stable delivered (big_bytes 1 n ++ rest) ≡ Ok (n, rest)
unfolding held_count_at
held_count_again stable delivered n rest few enough = rw (number_again 1 0 WINDOW Length n rest (omega arith) (omega arith) few, le-leb _ _ enough) refl

pub items_count_takes : (base : ℕ) (bytes : List ℕ) (n : ℕ) (rest : List ℕ) → IsBytes bytes → items_count_at base bytes ≡ Ok (n, rest) → Takes bytes (big_bytes 1 n) rest × (n ≤ WINDOW) × (base + n ≤ GREATEST_NUMBER)
unfolding items_count_at
items_count_takes base bytes n rest fits e =
    let a = bind_ok (number_at 1 0 WINDOW Length bytes) (λ count. cond (leb (base + count.0) GREATEST_NUMBER) (Ok count) (Err Value)) (n, rest) e in
    let g = test_ok (leb (base + a.0.0) GREATEST_NUMBER) Value (Ok a.0) (n, rest) a.2 in
    let t = number_takes 1 wide1 0 WINDOW Length bytes a.0.0 a.0.1 fits a.1 in
    subst (λ (p : ℕ × List ℕ). Takes bytes (big_bytes 1 p.0) p.1 × (p.0 ≤ WINDOW) × (base + p.0 ≤ GREATEST_NUMBER)) (ok_is a.0 (n, rest) g.1) (t.0, t.2, leb-true _ _ g.0)

pub items_count_again : (base n : ℕ) (rest : List ℕ) → n ≤ WINDOW → base + n ≤ GREATEST_NUMBER → items_count_at base (big_bytes 1 n ++ rest) ≡ Ok (n, rest)
unfolding items_count_at
items_count_again base n rest few small = rw (number_again 1 0 WINDOW Length n rest (omega arith) (omega arith) few, le-leb _ _ small) refl

-- ---- reports of a view

abbrev report_of : ViewId → ℕ → ℕ → List (ℕ × Entry) → Report
report_of v stable delivered held = record { previous = Some v; stable = stable; delivered = delivered; held = held }

-- what a report of a view keeps to
pub record Filled (r : Report) : Type 0 where
  pub stable : r.stable ≤ r.delivered
  pub near : r.delivered ≤ min (r.stable + WINDOW) GREATEST_NUMBER
  pub few : length r.held ≤ WINDOW
  pub enough : r.delivered ≤ r.stable + length r.held
  pub rising : are_held r.stable r.delivered r.stable r.held ≡ true

pub filled-rules : (r : Report) → is_filled r ≡ true → Filled r
filled-rules r e =
    let a = leb r.stable r.delivered in
    let b = leb r.delivered (min (r.stable + WINDOW) GREATEST_NUMBER) in
    let c = leb (length r.held) WINDOW in
    let d = leb r.delivered (r.stable + length r.held) in
    let f = are_held r.stable r.delivered r.stable r.held in
    let t = and_parts (((a && b) && c) && d) f e in
    let u = and_parts ((a && b) && c) d t.0 in
    let v = and_parts (a && b) c u.0 in
    let w = and_parts a b v.0 in
    record { stable = leb-true _ _ w.0; near = leb-true _ _ w.1; few = leb-true _ _ v.1; enough = leb-true _ _ u.1; rising = t.1 }

pub rules-filled : (r : Report) → Filled r → is_filled r ≡ true
rules-filled r f = rw (le-leb _ _ f.stable, le-leb _ _ f.near, le-leb _ _ f.few, le-leb _ _ f.enough) f.rising

-- a report of these parts, one behind the other
filled_of : (bytes : List ℕ) (v : ViewId) (b1 : List ℕ) (stable : ℕ) (b2 : List ℕ) (delivered : ℕ) (b3 : List ℕ) (n : ℕ) (b4 : List ℕ) (held : List (ℕ × Entry)) (b5 : List ℕ)
    → Takes bytes (view_id_bytes v) b1 → Takes b1 (number_bytes stable) b2 → Takes b2 (number_bytes delivered) b3 → Takes b3 (big_bytes 1 n) b4 → Takes b4 (flat_map placed_bytes held) b5 → length held ≡ n
    → Takes bytes (view_id_bytes v ++ number_bytes stable ++ number_bytes delivered ++ held_bytes held) b5
filled_of bytes v b1 stable b2 delivered b3 n b4 held b5 t u w x y count =
    let counted : Takes b3 (held_bytes held) b5 = back (λ (k : ℕ). Takes b3 (big_bytes 1 k ++ flat_map placed_bytes held) b5) (length held) n count (Takes-then b3 (big_bytes 1 n) b4 (flat_map placed_bytes held) b5 x y) in
    let one = Takes-then bytes (view_id_bytes v) b1 (number_bytes stable) b2 t u in
    let two = Takes-then bytes (view_id_bytes v ++ number_bytes stable) b2 (number_bytes delivered) b3 one w in
    Takes-then bytes (view_id_bytes v ++ number_bytes stable ++ number_bytes delivered) b3 (held_bytes held) b5 two counted

filled_is : (v : ViewId) (stable delivered n : ℕ) (held : List (ℕ × Entry)) → stable ≤ delivered → delivered ≤ min (stable + WINDOW) GREATEST_NUMBER → n ≤ WINDOW → delivered ≤ stable + n → length held ≡ n → are_held stable delivered stable held ≡ true
    → Filled (report_of v stable delivered held)
filled_is v stable delivered n held least near few enough count rising = record { stable = least; near = near; few = omega arith; enough = omega arith; rising = rising }

small_of : (stable delivered : ℕ) → delivered ≤ min (stable + WINDOW) GREATEST_NUMBER → delivered ≤ GREATEST_NUMBER
small_of stable delivered near = omega arith

-- what the reading of a report of a view found
abbrev FilledAs : List ℕ → Report × List ℕ → Type 0
FilledAs bytes p = (v : ViewId) × (p.0.previous ≡ Some v) × Takes bytes (view_id_bytes v ++ number_bytes p.0.stable ++ number_bytes p.0.delivered ++ held_bytes p.0.held) p.1 × IsViewId v × AllByRecursion IsPlaced p.0.held × Filled p.0

-- it reads behind the two counts
filled_behind : (bytes : List ℕ) (v : ViewId) (b1 : List ℕ) (s : ℕ) (b2 : List ℕ) (d : ℕ) (b3 : List ℕ) (found : Report × List ℕ)
    → Takes bytes (view_id_bytes v) b1 → IsViewId v → Takes b1 (number_bytes s) b2 → Takes b2 (number_bytes d) b3 → s ≤ d → d ≤ min (s + WINDOW) GREATEST_NUMBER
    → (held_count_at s d b3 >>= λ count. held_at s d s count.0 count.1 >>= λ held. Ok (report_of v s d held.0, held.1)) ≡ Ok found → FilledAs bytes found
filled_behind bytes v b1 s b2 d b3 found t is u w least near e =
    let f = bind_ok (held_count_at s d b3) (λ count. held_at s d s count.0 count.1 >>= λ held. Ok (report_of v s d held.0, held.1)) found e in
    let g = bind_ok (held_at s d s f.0.0 f.0.1) (λ held. Ok (report_of v s d held.0, held.1)) found f.2 in
    let x = held_count_takes s d b3 f.0.0 f.0.1 w.rest_fits f.1 in
    let y = held_takes s d s f.0.0 f.0.1 g.0.0 g.0.1 (small_of s d near) x.0.rest_fits g.1 in
    along (FilledAs bytes) (report_of v s d g.0.0, g.0.1) found (ok_is (report_of v s d g.0.0, g.0.1) found g.2)
    (v, refl, filled_of bytes v b1 s b2 d b3 f.0.0 f.0.1 g.0.0 g.0.1 t u w x.0 y.0 y.1, is, y.2, filled_is v s d f.0.0 g.0.0 least near x.1 x.2 y.1 y.3)

-- it reads behind the stable count
filled_from : (bytes : List ℕ) (v : ViewId) (b1 : List ℕ) (s : ℕ) (b2 : List ℕ) (found : Report × List ℕ) → Takes bytes (view_id_bytes v) b1 → IsViewId v → Takes b1 (number_bytes s) b2
    → (number_at 8 s (min (s + WINDOW) GREATEST_NUMBER) Value b2 >>= λ delivered. held_count_at s delivered.0 delivered.1 >>= λ count. held_at s delivered.0 s count.0 count.1 >>= λ held. Ok (report_of v s delivered.0 held.0, held.1)) ≡ Ok found → FilledAs bytes found
filled_from bytes v b1 s b2 found t is u e =
    let c = bind_ok (number_at 8 s (min (s + WINDOW) GREATEST_NUMBER) Value b2) (λ delivered. held_count_at s delivered.0 delivered.1 >>= λ count. held_at s delivered.0 s count.0 count.1 >>= λ held. Ok (report_of v s delivered.0 held.0, held.1)) found e in
    let w = number_takes 8 wide8 s (min (s + WINDOW) GREATEST_NUMBER) Value b2 c.0.0 c.0.1 u.rest_fits c.1 in
    filled_behind bytes v b1 s b2 c.0.0 c.0.1 found t is u w.0 w.1 w.2 c.2

-- it reads behind the view
filled_in : (bytes : List ℕ) (v : ViewId) (b1 : List ℕ) (found : Report × List ℕ) → Takes bytes (view_id_bytes v) b1 → IsViewId v
    → (number_at 8 0 GREATEST_NUMBER Value b1 >>= λ stable. number_at 8 stable.0 (min (stable.0 + WINDOW) GREATEST_NUMBER) Value stable.1 >>= λ delivered. held_count_at stable.0 delivered.0 delivered.1 >>= λ count. held_at stable.0 delivered.0 stable.0 count.0 count.1 >>= λ held. Ok (report_of v stable.0 delivered.0 held.0, held.1)) ≡ Ok found → FilledAs bytes found
filled_in bytes v b1 found t is e =
    let b = bind_ok (number_at 8 0 GREATEST_NUMBER Value b1) (λ stable. number_at 8 stable.0 (min (stable.0 + WINDOW) GREATEST_NUMBER) Value stable.1 >>= λ delivered. held_count_at stable.0 delivered.0 delivered.1 >>= λ count. held_at stable.0 delivered.0 stable.0 count.0 count.1 >>= λ held. Ok (report_of v stable.0 delivered.0 held.0, held.1)) found e in
    let u = number_takes 8 wide8 0 GREATEST_NUMBER Value b1 b.0.0 b.0.1 t.rest_fits b.1 in
    filled_from bytes v b1 b.0.0 b.0.1 found t is u.0 b.2

pub filled_takes : (bytes : List ℕ) (r : Report) (rest : List ℕ) → IsBytes bytes → filled_at bytes ≡ Ok (r, rest)
    → (v : ViewId) × (r.previous ≡ Some v) × Takes bytes (view_id_bytes v ++ number_bytes r.stable ++ number_bytes r.delivered ++ held_bytes r.held) rest × IsViewId v × AllByRecursion IsPlaced r.held × Filled r
unfolding filled_at
filled_takes bytes r rest fits e =
    let a = bind_ok (view_id_at bytes) (λ previous. number_at 8 0 GREATEST_NUMBER Value previous.1 >>= λ stable. number_at 8 stable.0 (min (stable.0 + WINDOW) GREATEST_NUMBER) Value stable.1 >>= λ delivered. held_count_at stable.0 delivered.0 delivered.1 >>= λ count. held_at stable.0 delivered.0 stable.0 count.0 count.1 >>= λ held. Ok (report_of previous.0 stable.0 delivered.0 held.0, held.1)) (r, rest) e in
    let t = view_id_part.takes bytes a.0.0 a.0.1 fits a.1 in
    filled_in bytes a.0.0 a.0.1 (r, rest) t.0 t.1 a.2

pub filled_again : (v : ViewId) (r : Report) (rest : List ℕ) → r.previous ≡ Some v → IsViewId v → AllByRecursion IsPlaced r.held → Filled r
    → filled_at ((view_id_bytes v ++ number_bytes r.stable ++ number_bytes r.delivered ++ held_bytes r.held) ++ rest) ≡ Ok (r, rest)
unfolding filled_at
filled_again v r rest named fits placed f =
    let e4 = flat_map placed_bytes r.held ++ rest in
    let e3 = big_bytes 1 (length r.held) ++ e4 in
    let e2 = number_bytes r.delivered ++ e3 in
    let e1 = number_bytes r.stable ++ e2 in
    let regrouped : (view_id_bytes v ++ number_bytes r.stable ++ number_bytes r.delivered ++ held_bytes r.held) ++ rest ≡ view_id_bytes v ++ e1 =
    append_assoc (view_id_bytes v ++ number_bytes r.stable ++ number_bytes r.delivered) (held_bytes r.held) rest
    ∙ ap (λ (x : List ℕ). (view_id_bytes v ++ number_bytes r.stable ++ number_bytes r.delivered) ++ x) (append_assoc (big_bytes 1 (length r.held)) (flat_map placed_bytes r.held) rest)
    ∙ append_assoc (view_id_bytes v ++ number_bytes r.stable) (number_bytes r.delivered) e3
    ∙ append_assoc (view_id_bytes v) (number_bytes r.stable) e2 in
    ap filled_at regrouped
    ∙ rw (
      view_id_part.again v e1 fits,
      eight_again 0 GREATEST_NUMBER r.stable e2 (omega arith) (omega (arith, f.stable, f.near)) (omega arith),
      eight_again r.stable (min (r.stable + WINDOW) GREATEST_NUMBER) r.delivered e3 f.stable f.near (omega arith),
      held_count_again r.stable r.delivered (length r.held) e4 f.few f.enough,
      held_again r.stable r.delivered r.stable r.held rest (omega (arith, f.near)) placed f.rising,
    )
    (ap (λ (o : Option ViewId). Ok (record { previous = o; stable = r.stable; delivered = r.delivered; held = r.held }, rest)) (sym named))
