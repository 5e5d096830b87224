-- What holds where a call on a way ends.
use Rattle.std.proofs.Common.{◌≡◌, ◌≤◌, ◌<◌, ◌+◌, ◌*◌, ◌/◌, ◌++◌, ◌∙◌, ℕ, Bool, true, false, List, [], ◌∷◌, Option, append_assoc, arith, length, refl, subst, sym, ap}
use Rattle.std.specs.Prelude.{Result, Ok, Err, OnErr, OnOk, min, nat_eq, if◌then◌else◌}
use Rattle.std.specs.Result.{IsErr}
use Rattle.byteorder.specs.Endian.{big_bytes}
use Rattle.std.proofs.lemmas.List.{length-append}
use Rattle.std.proofs.lemmas.Bool.{eqb-true}
use Rattle.udp_net.specs.Logs.{Log, Lists, offering}
use Rattle.frames.specs.declared.head.Head.{Head}
use Rattle.frames.specs.declared.head.Kind.TheVariants.{Packets}
use Rattle.frames.specs.declared.outlet.Seal.{Seal}
use Rattle.frames.specs.declared.several.Variant.{Variant}
use Rattle.frames.specs.Frames.{head_bytes, packed, sealed}
use Rattle.frames.specs.Outlets.{OutletModel, counter_behind, flushing, head_for, waiting_frame}
use Rattle.frames.specs.Partials.{PieceModel, piece_bytes}
use Rattle.frames.specs.Parts.{rows_of}
use Rattle.frames.proofs.Logs.{lists-none}

-- nothing is owed for a value, where there is an error
pub on-err : {A E : Type 0} (P : Type 0) (r : Result A E) → IsErr r → OnOk r P
on-err P (Ok x) e = cc
on-err P (Err x) e = tt

no-packets : (waiting : List (List ℕ)) → length waiting ≡ 0 → waiting ≡ []
no-packets [] e = refl
no-packets (p ∷ waiting) e = absurd (omega (arith, e))

-- none waits on a way
module _ (o n : OutletModel) (view : o ≡ n) (b : Bool) (is : b ≡ nat_eq (length o.waiting) 0) (yes : b ≡ true) where
  none : nat_eq (length n.waiting) 0 ≡ true
  none = ap (λ (x : OutletModel). nat_eq (length x.waiting) 0) (sym view) ∙ sym is ∙ yes

  pub none-waits : n.waiting ≡ []
  none-waits = no-packets n.waiting (eqb-true _ _ none)

  pub none-counts : n.frames ≡ counter_behind n
  none-counts = subst (λ (x : Bool). n.frames ≡ (if x then n.frames else min (n.frames + 1) 18446744073709551615)) (sym none) refl

  pub none-goes : (s : Seal) (log : Option Log) → Lists log (flushing s n) log
  none-goes s log = subst (λ (x : Bool). Lists log (λ l. if x then l else offering n.node (waiting_frame s n) l) log) (sym none) (lists-none log)

-- some wait on a way
module _ (o n : OutletModel) (view : o ≡ n) (b : Bool) (is : b ≡ nat_eq (length o.waiting) 0) (no : b ≡ false) where
  some : nat_eq (length o.waiting) 0 ≡ false
  some = sym is ∙ no

  pub some-count : (f : ℕ) → f ≡ min (o.frames + 1) 18446744073709551615 → f ≡ counter_behind n
  some-count f e =
      subst (λ (x : OutletModel). f ≡ counter_behind x) view
      (subst (λ (x : Bool). f ≡ (if x then o.frames else min (o.frames + 1) 18446744073709551615)) (sym some) e)

  pub some-go : (s : Seal) (body : List ℕ) (old new : Option Log) → body ≡ head_bytes (head_for Packets o s) ++ packed o.waiting → Lists old (offering o.node (sealed s.key body)) new
      → Lists old (flushing s n) new
  some-go s body old new e ls =
      subst (λ (x : OutletModel). Lists old (flushing s x) new) view
      (subst (λ (x : Bool). Lists old (λ l. if x then l else offering o.node (waiting_frame s o) l) new) (sym some)
      (subst (λ (y : List ℕ). Lists old (offering o.node (sealed s.key y)) new) e ls))

-- the body of their frame
pub body-of : (o n : OutletModel) (view : o ≡ n) (s : Seal) (h : Head) (empty front content body : List ℕ) → empty ≡ [] → front ≡ empty ++ head_bytes h → h ≡ head_for Packets n s
    → content ≡ packed o.waiting → body ≡ front ++ content → body ≡ head_bytes (head_for Packets o s) ++ packed o.waiting
body-of o n view s h empty front content body a b c d e = rw (e, b, a, c, d, ← view) refl

-- an index is of a piece
pub index-within : (index count n : ℕ) → index < count → count ≡ (n + 1343) / 1344 → 1344 * index ≤ n
index-within index count n lt e = omega (arith, lt, e)

-- what holds anyway holds where there is an error
pub on-any : {A E : Type 0} (P : Type 0) (r : Result A E) → P → OnErr r P
on-any P (Ok x) p = tt
on-any P (Err x) p = p

-- ---- rows and lengths

three : (a b c d : List ℕ) → ((a ++ b) ++ c) ++ d ≡ a ++ (b ++ (c ++ d))
three a b c d = append_assoc (a ++ b) c d ∙ append_assoc a b (c ++ d)

pub rows-on : (vs rest : List Variant) (v : Variant) (n : ℕ) (old a b new : List ℕ) → vs ≡ v ∷ rest → n ≡ v.node → a ≡ old ++ big_bytes 2 n → b ≡ a ++ v.bytes → new ≡ b ++ rows_of rest
    → new ≡ old ++ rows_of vs
rows-on vs rest v n old a b new e f x y z =
    z ∙ ap (λ (l : List ℕ). l ++ rows_of rest) (y ∙ ap (λ (l : List ℕ). l ++ v.bytes) (x ∙ ap (λ (m : ℕ). old ++ big_bytes 2 m) f)) ∙ three old (big_bytes 2 v.node) v.bytes (rows_of rest)
    ∙ ap (λ (l : List Variant). old ++ rows_of l) (sym e)

pub room-on : (a b c d : ℕ) → a ≤ b → b ≤ c → c ≤ d → a ≤ d
room-on a b c d x y z = omega arith

-- how long a list is with more behind it
pub longer : (old more new : List ℕ) (n m : ℕ) → new ≡ old ++ more → length old ≡ n → length more ≡ m → length new ≡ n + m
longer old more new n m e f g = omega (arith, ap length e, length-append old more, f, g)

pub length-piece : (p : PieceModel) → length (piece_bytes p) ≡ 12 + length p.bytes
length-piece p = omega (arith, length-append (big_bytes 8 p.number) (big_bytes 2 p.index ++ big_bytes 2 p.count ++ p.bytes), length-append (big_bytes 2 p.index) (big_bytes 2 p.count ++ p.bytes), length-append (big_bytes 2 p.count) p.bytes)

pub length-rows : (vs rest : List Variant) (v : Variant) → vs ≡ v ∷ rest → length (rows_of vs) ≡ 2 + length v.bytes + length (rows_of rest)
length-rows vs rest v e =
    omega (arith, ap (λ (l : List Variant). length (rows_of l)) e, length-append (big_bytes 2 v.node) (v.bytes ++ rows_of rest), length-append v.bytes (rows_of rest))

-- a head, and what stands behind it
pub behind-head : (h k : Head) (empty front content body : List ℕ) → empty ≡ [] → front ≡ empty ++ head_bytes h → h ≡ k → body ≡ front ++ content → body ≡ head_bytes k ++ content
behind-head h k empty front content body a b c e = rw (e, b, a, c) refl
