-- What is read of a frame is what was put into it.
use Rattle.std.proofs.Common.{◌≡◌, ◌-◌, ◌/◌, ◌%◌, ℕ, List, [], ◌∷◌, ◌++◌, length, take, drop, get_or, refl, sym, ap, ◌∙◌, arith}
use Rattle.std.specs.List.{AllByRecursion}
use Rattle.std.proofs.Math.Seq.{drop-append_seam, take-append_seam}
use Rattle.std.proofs.lemmas.List.{take-append-drop, length-append, length-drop, length-take}
use Rattle.sha2.proofs.Facts256.{length-sha256}
use Rattle.frames.specs.Hmac.{hmac_sha256, inner_pad, outer_pad}
use Rattle.sha2.specs.Sha256.{sha256}
use Rattle.frames.specs.declared.head.Head.{Head}
use Rattle.frames.specs.Frames.{packed, packed_behind, shared_front, IsShort, sealed, tag_of, head_bytes}
use Rattle.frames.proofs.Shared.{shared-most, shared-same}

-- joined lists whose fronts have one length
same_front : (p q u v : List ℕ) → length p ≡ length q → p ++ u ≡ q ++ v → p ≡ q
same_front p q u v l e = sym (take-append_seam p u) ∙ ap (take (length p)) e ∙ ap (λ (n : ℕ). take n (q ++ v)) l ∙ take-append_seam q v

same_back : (p q u v : List ℕ) → length p ≡ length q → p ++ u ≡ q ++ v → u ≡ v
same_back p q u v l e = sym (drop-append_seam p u) ∙ ap (drop (length p)) e ∙ ap (λ (n : ℕ). drop n (q ++ v)) l ∙ drop-append_seam q v

-- what a packet shares with the one before it, and the rest, are the packet
whole : (last p : List ℕ) → p ≡ take (shared_front last p) last ++ drop (shared_front last p) p
whole last p = sym (take-append-drop (shared_front last p) p) ∙ ap (λ (l : List ℕ). l ++ drop (shared_front last p) p) (shared-same 255 last p)

-- packets behind the same one are the same if their bytes are
same_packet : (last p q : List ℕ) → shared_front last p ≡ shared_front last q → drop (shared_front last p) p ≡ drop (shared_front last q) q → p ≡ q
same_packet last p q shared rest =
    whole last p ∙ ap (λ (n : ℕ). take n last ++ drop (shared_front last p) p) shared ∙ ap (λ (l : List ℕ). take (shared_front last q) last ++ l) rest ∙ sym (whole last q)

-- packets stand behind one in one way
packed_behind_once : (last : List ℕ) (ps qs : List (List ℕ)) → AllByRecursion IsShort ps → AllByRecursion IsShort qs → packed_behind last ps ≡ packed_behind last qs → ps ≡ qs
packed_behind_once last [] [] p_short q_short e = refl
packed_behind_once last [] (q ∷ qs) p_short q_short e = cc
packed_behind_once last (p ∷ ps) [] p_short q_short e = cc
packed_behind_once last (p ∷ ps) (q ∷ qs) p_short q_short e =
    let n = length p - shared_front last p in
    let m = length q - shared_front last q in
    let byte : shared_front last p % 256 ≡ shared_front last q % 256 = ap (λ (l : List ℕ). get_or l 0 0) e in
    let high : n / 256 % 256 ≡ m / 256 % 256 = ap (λ (l : List ℕ). get_or l 1 0) e in
    let low : n % 256 ≡ m % 256 = ap (λ (l : List ℕ). get_or l 2 0) e in
    let behind : drop (shared_front last p) p ++ packed_behind p ps ≡ drop (shared_front last q) q ++ packed_behind q qs = ap (drop 3) e in
    let shared : shared_front last p ≡ shared_front last q = omega (arith, shared-most 255 last p, shared-most 255 last q, byte) in
    let same : n ≡ m = omega (arith, p_short.0, q_short.0, high, low) in
    let same' = length-drop (shared_front last p) p ∙ same ∙ sym (length-drop (shared_front last q) q) in
    let first = same_packet last p q shared (same_front (drop (shared_front last p) p) (drop (shared_front last q) q) (packed_behind p ps) (packed_behind q qs) same' behind) in
    let back = same_back (drop (shared_front last p) p) (drop (shared_front last q) q) (packed_behind p ps) (packed_behind q qs) same' behind in
    let rest : ps ≡ qs = packed_behind_once q ps qs p_short.1 q_short.1 (ap (λ (l : List ℕ). packed_behind l ps) (sym first) ∙ back) in
    ap (λ (l : List ℕ). l ∷ ps) first ∙ ap (λ (l : List (List ℕ)). q ∷ l) rest

-- a content has its packets in one way
pub packed_once : (ps qs : List (List ℕ)) → AllByRecursion IsShort ps → AllByRecursion IsShort qs → packed ps ≡ packed qs → ps ≡ qs
packed_once ps qs p_short q_short e = packed_behind_once [] ps qs p_short q_short e

length-tag : (key body : List ℕ) → length (tag_of key body) ≡ 16
length-tag key body = length-take 16 (hmac_sha256 key body) ∙ omega (arith, length-sha256 (outer_pad key ++ sha256 (inner_pad key ++ body)))

-- a frame has its body in one way
pub sealed_once : (key one other : List ℕ) → sealed key one ≡ sealed key other → one ≡ other
sealed_once key one other e =
    let l : length one ≡ length other = omega (arith, length-append one (tag_of key one), length-append other (tag_of key other), length-tag key one, length-tag key other, ap length e) in
    same_front one other (tag_of key one) (tag_of key other) l e

pub length-head : (h : Head) → length h.boot ≡ 16 → length (head_bytes h) ≡ 28
length-head h b = simp length-append (omega (arith, b))
