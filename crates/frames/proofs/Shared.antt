-- What packets share that stand one behind another.
use Rattle.std.proofs.Common.{◌≡◌, ◌<◌, ◌≤◌, ◌+◌, ◌-◌, ◌⊎◌, ℕ, zero, suc, Bool, true, false, cond, not, ◌%◌, min, nat_eq, nat_lt, eqb-true, List, [], ◌∷◌, ◌++◌, length, take, drop, get_or, slice_get, None, Some, refl, sym, ap, ◌∙◌, inl, inr, arith}
use Rattle.std.proofs.lemmas.Bool.{cases_lt}
use Rattle.std.proofs.lemmas.Bool.Decides.{nat_tests}
use Rattle.std.proofs.Math.ListN.{drop_of_length-le}
use Rattle.std.proofs.Math.Seq.{drop-append_seam, drop-cons, drop-drop}
use Rattle.std.proofs.lemmas.List.{append-nil, append_assoc, length-append, length-drop, length-take, take-append-drop, take_all}
use Rattle.std.proofs.lemmas.Option.{same_Some}
use Rattle.big_endian.specs.Spelled.{IsBytes}
use Rattle.big_endian.proofs.Bytes.{IsBytes-drop, IsBytes-take, wide2, wide8}
use Rattle.byteorder.specs.Endian.{big_bytes, big_number}
use Rattle.byteorder.specs.Numbers.{big_from-take}
use Rattle.frames.specs.Frames.{bytes_behind, entry_bytes, last_behind, packed, packed_behind, shared_front, shared_within, IsRead, StandsFirst}

same-number : (n : ℕ) → nat_eq n n ≡ true
same-number n = grind (arith, nat_tests)

-- at most so many
pub shared-most : (n : ℕ) (one other : List ℕ) → shared_within n one other ≤ n
shared-most zero one other = omega arith
shared-most (suc n) [] other = omega arith
shared-most (suc n) (x ∷ one) [] = omega arith
shared-most (suc n) (x ∷ one) (y ∷ other) = by (nat_eq x y) (shared-most n one other)
  where
    by : (b : Bool) → shared_within n one other ≤ n → cond b (suc (shared_within n one other)) 0 ≤ suc n
    by true le = omega arith
    by false le = omega arith

-- they are the same so far
pub shared-same : (n : ℕ) (one other : List ℕ) → take (shared_within n one other) other ≡ take (shared_within n one other) one
shared-same zero one other = refl
shared-same (suc n) [] other = refl
shared-same (suc n) (x ∷ one) [] = refl
shared-same (suc n) (x ∷ one) (y ∷ other) = by (nat_eq x y) refl (shared-same n one other)
  where
    by : (b : Bool) → nat_eq x y ≡ b → take (shared_within n one other) other ≡ take (shared_within n one other) one
        → take (cond b (suc (shared_within n one other)) 0) (y ∷ other) ≡ take (cond b (suc (shared_within n one other)) 0) (x ∷ one)
    by true is same = ap (λ (l : List ℕ). y ∷ l) same ∙ ap (λ (z : ℕ). z ∷ take (shared_within n one other) one) (sym (eqb-true x y is))
    by false is same = refl

-- why two texts share no more than so many bytes
pub data NoMore (n shared : ℕ) (one others : List ℕ) : Type 0 where
  Full : shared ≡ n → NoMore n shared one others
  Ends : shared ≡ length one → NoMore n shared one others
  Over : others ≡ [] → NoMore n shared one others
  Differs : nat_eq (get_or one shared 0) (get_or others 0 0) ≡ false → NoMore n shared one others

-- what shares so many bytes and no more
pub shared-is : (n shared : ℕ) (one others : List ℕ) → shared ≤ n → shared ≤ length one → NoMore n shared one others → shared_within n one (take shared one ++ others) ≡ shared
shared-is zero zero one others fits within why = refl
shared-is zero (suc k) one others fits within why = absurd (omega arith)
shared-is (suc n) zero [] others fits within why = refl
shared-is (suc n) zero (x ∷ one) [] fits within why = refl
shared-is (suc n) zero (x ∷ one) (y ∷ others) fits within (Full is) = absurd (omega (arith, is))
shared-is (suc n) zero (x ∷ one) (y ∷ others) fits within (Ends is) = absurd (omega (arith, is))
shared-is (suc n) zero (x ∷ one) (y ∷ others) fits within (Over is) = cc
shared-is (suc n) zero (x ∷ one) (y ∷ others) fits within (Differs is) = ap (λ (b : Bool). cond b (suc (shared_within n one others)) 0) is
shared-is (suc n) (suc k) [] others fits within why = absurd (omega arith)
shared-is (suc n) (suc k) (x ∷ one) others fits within why =
    ap (λ (b : Bool). cond b (suc (shared_within n one (take k one ++ others))) 0) (same-number x) ∙ ap suc (shared-is n k one others (omega arith) (omega arith) (shifted why))
  where
    shifted : NoMore (suc n) (suc k) (x ∷ one) others → NoMore n k one others
    shifted (Full is) = Full (omega (arith, is))
    shifted (Ends is) = Ends (omega (arith, is))
    shifted (Over is) = Over is
    shifted (Differs is) = Differs is

-- ---- counted from the front

-- one more
pub shares-more : (k n : ℕ) (one other : List ℕ) → k < n → k < length one → k < length other → get_or one k 0 ≡ get_or other k 0
    → shared_within (n - k) (drop k one) (drop k other) ≡ suc (shared_within (n - (k + 1)) (drop (k + 1) one) (drop (k + 1) other))
shares-more k n one other below first second same =
    let left : n - k ≡ suc (n - (k + 1)) = omega arith in
    let next : suc k ≡ k + 1 = omega arith in
    ap (λ (m : ℕ). shared_within m (drop k one) (drop k other)) left
    ∙ ap (λ (l : List ℕ). shared_within (suc (n - (k + 1))) l (drop k other)) (drop-cons one k 0 first)
    ∙ ap (λ (l : List ℕ). shared_within (suc (n - (k + 1))) (get_or one k 0 ∷ drop (suc k) one) l) (drop-cons other k 0 second)
    ∙ ap (λ (b : Bool). cond b (suc (shared_within (n - (k + 1)) (drop (suc k) one) (drop (suc k) other))) 0)
    (ap (nat_eq (get_or one k 0)) (sym same) ∙ same-number (get_or one k 0))
    ∙ ap (λ (m : ℕ). suc (shared_within (n - (k + 1)) (drop m one) (drop m other))) next

-- what both begin with
shared-common : (front : List ℕ) (n : ℕ) (one other : List ℕ) → shared_within (length front + n) (front ++ one) (front ++ other) ≡ length front + shared_within n one other
shared-common [] n one other =
    let e : 0 + n ≡ n = omega arith in
    ap (λ (m : ℕ). shared_within m one other) e ∙ omega arith
shared-common (x ∷ front) n one other =
    let e : suc (length front) + n ≡ suc (length front + n) = omega arith in
    ap (λ (m : ℕ). shared_within m (x ∷ (front ++ one)) (x ∷ (front ++ other))) e
    ∙ ap (λ (b : Bool). cond b (suc (shared_within (length front + n) (front ++ one) (front ++ other))) 0) (same-number x)
    ∙ ap suc (shared-common front n one other) ∙ omega arith

-- eight bytes that spell the same number are the same
same-eight : (one other : List ℕ) → 8 ≤ length one → 8 ≤ length other → IsBytes one → IsBytes other → big_number 8 one ≡ big_number 8 other → take 8 one ≡ take 8 other
same-eight one other first second fits also same =
    sym (wide8.back (take 8 one) (length-take 8 one ∙ omega arith) (IsBytes-take 8 one fits))
    ∙ ap (big_bytes 8) (big_from-take 0 8 8 one (omega arith) ∙ same ∙ sym (big_from-take 0 8 8 other (omega arith)))
    ∙ wide8.back (take 8 other) (length-take 8 other ∙ omega arith) (IsBytes-take 8 other also)

-- eight more
pub shares-eight : (k n : ℕ) (one other : List ℕ) → k + 8 ≤ n → k + 8 ≤ length one → k + 8 ≤ length other → IsBytes one → IsBytes other
    → big_number 8 (drop k one) ≡ big_number 8 (drop k other)
    → shared_within (n - k) (drop k one) (drop k other) ≡ 8 + shared_within (n - (k + 8)) (drop (k + 8) one) (drop (k + 8) other)
shares-eight k n one other below first second fits also same =
    let front : List ℕ = take 8 (drop k one) in
    let long : length front ≡ 8 = length-take 8 (drop k one) ∙ omega (arith, length-drop k one) in
    let alike : front ≡ take 8 (drop k other) =
    same-eight (drop k one) (drop k other) (omega (arith, length-drop k one)) (omega (arith, length-drop k other)) (IsBytes-drop k one fits) (IsBytes-drop k other also) same in
    let left : n - k ≡ length front + (n - (k + 8)) = omega (arith, long) in
    let here : drop k one ≡ front ++ drop (k + 8) one = sym (take-append-drop 8 (drop k one)) ∙ ap (λ (l : List ℕ). front ++ l) (drop-drop 8 k one) in
    let there : drop k other ≡ front ++ drop (k + 8) other =
    sym (take-append-drop 8 (drop k other)) ∙ ap (λ (l : List ℕ). l ++ drop 8 (drop k other)) (sym alike) ∙ ap (λ (l : List ℕ). front ++ l) (drop-drop 8 k other) in
    ap (λ (m : ℕ). shared_within m (drop k one) (drop k other)) left ∙ ap (λ (l : List ℕ). shared_within (length front + (n - (k + 8))) l (drop k other)) here
    ∙ ap (λ (l : List ℕ). shared_within (length front + (n - (k + 8))) (front ++ drop (k + 8) one) l) there
    ∙ shared-common front (n - (k + 8)) (drop (k + 8) one) (drop (k + 8) other)
    ∙ ap (λ (m : ℕ). m + shared_within (n - (k + 8)) (drop (k + 8) one) (drop (k + 8) other)) long

shared-nothing : (n : ℕ) (other : List ℕ) → shared_within n [] other ≡ 0
shared-nothing zero other = refl
shared-nothing (suc n) other = refl

shared-with-nothing : (n : ℕ) (one : List ℕ) → shared_within n one [] ≡ 0
shared-with-nothing zero one = refl
shared-with-nothing (suc n) [] = refl
shared-with-nothing (suc n) (x ∷ one) = refl

differs : (n x y : ℕ) (one other : List ℕ) → nat_eq x y ≡ false → shared_within n (x ∷ one) (y ∷ other) ≡ 0
differs zero x y one other is = refl
differs (suc n) x y one other is = ap (λ (b : Bool). cond b (suc (shared_within n one other)) 0) is

-- no more: one has no more, or the other, or they differ there
pub they-differ : (k n : ℕ) (one other : List ℕ) → k < length one → k < length other → nat_eq (get_or one k 0) (get_or other k 0) ≡ false
    → shared_within n (drop k one) (drop k other) ≡ 0
they-differ k n one other first second is =
    ap (λ (l : List ℕ). shared_within n l (drop k other)) (drop-cons one k 0 first)
    ∙ ap (λ (l : List ℕ). shared_within n (get_or one k 0 ∷ drop (suc k) one) l) (drop-cons other k 0 second)
    ∙ differs n (get_or one k 0) (get_or other k 0) (drop (suc k) one) (drop (suc k) other) is

-- or that is as many as may be
pub shares-at-most : (k n : ℕ) (one other : List ℕ) → (n ≤ k) ⊎ ((length one ≤ k) ⊎ (length other ≤ k)) → shared_within (n - k) (drop k one) (drop k other) ≡ 0
shares-at-most k n one other (inl le) =
    let none : n - k ≡ 0 = omega arith in
    ap (λ (m : ℕ). shared_within m (drop k one) (drop k other)) none
shares-at-most k n one other (inr (inl le)) = ap (λ (l : List ℕ). shared_within (n - k) l (drop k other)) (drop_of_length-le one le) ∙ shared-nothing (n - k) (drop k other)
shares-at-most k n one other (inr (inr le)) = ap (λ (l : List ℕ). shared_within (n - k) (drop k one) l) (drop_of_length-le other le) ∙ shared-with-nothing (n - k) (drop k one)

pub reached : (k one other : ℕ) → min (min 255 one) other ≤ k → (255 ≤ k) ⊎ ((one ≤ k) ⊎ (other ≤ k))
reached k one other le =
    elim (cases_lt k 255) [
      | inr most ↦ inl most
      | inl below ↦
          elim (cases_lt k one) [
            | inr first ↦ inr (inl first)
            | inl within ↦ inr (inr (omega arith))
          ]
    ]

-- ---- packets behind one another

pub length-entry : (last packet : List ℕ) → length (entry_bytes last packet) ≡ length packet - shared_front last packet + 3
length-entry last packet = simp length-append (omega (arith, length-drop (shared_front last packet) packet))

pub packed-more : (last : List ℕ) (packets : List (List ℕ)) (packet : List ℕ)
    → packed_behind last (packets ++ packet ∷ []) ≡ packed_behind last packets ++ entry_bytes (last_behind last packets) packet
packed-more last [] packet = append-nil (entry_bytes last packet)
packed-more last (p ∷ packets) packet =
    ap (λ (l : List ℕ). entry_bytes last p ++ l) (packed-more p packets packet)
    ∙ sym (append_assoc (entry_bytes last p) (packed_behind p packets) (entry_bytes (last_behind p packets) packet))

pub length-packed-more : (packets : List (List ℕ)) (packet : List ℕ)
    → length (packed (packets ++ packet ∷ [])) ≡ length (packed packets) + (length packet - shared_front (last_behind [] packets) packet + 3)
length-packed-more packets packet =
    ap length (packed-more [] packets packet) ∙ length-append (packed packets) (entry_bytes (last_behind [] packets) packet)
    ∙ ap (λ (n : ℕ). length (packed packets) + n) (length-entry (last_behind [] packets) packet)

pub apart : (a b : ℕ) → (a ≡ b → ⊥) → nat_eq a b ≡ false
apart a b differ = by (nat_eq a b) refl
  where
    by : (x : Bool) → nat_eq a b ≡ x → nat_eq a b ≡ false
    by true is = absurd (differ (eqb-true a b is))
    by false is = is

pub is-false : (b : Bool) → not b ≡ true → b ≡ false
is-false true e = cc
is-false false e = refl

-- ---- a content that is read

-- what stands first in a content
pub front-is : (content : List ℕ) (shared n : ℕ) → IsBytes content → StandsFirst shared n content → content ≡ big_bytes 1 shared ++ (big_bytes 2 n ++ drop 3 content)
front-is [] shared n fits (long, s, m, within) = absurd (omega (arith, long))
front-is (a ∷ []) shared n fits (long, s, m, within) = absurd (omega (arith, long))
front-is (a ∷ (b ∷ [])) shared n fits (long, s, m, within) = absurd (omega (arith, long))
front-is (a ∷ (b ∷ (c ∷ rest))) shared n fits (long, s, m, within) =
    let content = a ∷ (b ∷ (c ∷ rest)) in
    let one : a ≡ shared % 256 = omega (arith, s, fits 0) in
    let two : b ∷ (c ∷ []) ≡ big_bytes 2 n = sym (wide2.back (b ∷ (c ∷ [])) refl (IsBytes-take 2 (drop 1 content) (IsBytes-drop 1 content fits))) ∙ ap (big_bytes 2) (sym m) in
    ap (λ (x : ℕ). x ∷ (b ∷ (c ∷ rest))) one ∙ ap (λ (l : List ℕ). shared % 256 ∷ (l ++ rest)) two

-- one packet more is read, and then others
pub reads-more : (last : List ℕ) (old mid new : List (List ℕ)) (shared : ℕ) (others rest content : List ℕ) → shared ≤ 255 → shared ≤ length last → length others ≤ 1353
    → shared_front last (take shared last ++ others) ≡ shared → mid ≡ old ++ (take shared last ++ others) ∷ []
    → content ≡ big_bytes 1 shared ++ (big_bytes 2 (length others) ++ (others ++ rest)) → IsRead (take shared last ++ others) mid rest new → IsRead last old content new
reads-more last old mid new shared others rest content most within fits is pushed stands read =
    let packet = take shared last ++ others in
    let front : length (take shared last) ≡ shared = length-take shared last ∙ omega arith in
    let long : length packet ≡ shared + length others = length-append (take shared last) others ∙ omega (arith, front) in
    let behind : drop shared packet ≡ others = ap (λ (n : ℕ). drop n packet) (sym front) ∙ drop-append_seam (take shared last) others in
    let count : length packet - shared ≡ length others = omega (arith, long) in
    let entry : entry_bytes last packet ≡ big_bytes 1 shared ++ (big_bytes 2 (length others) ++ others) =
    ap (λ (n : ℕ). bytes_behind n packet) is ∙ ap (λ (n : ℕ). big_bytes 1 shared ++ (big_bytes 2 n ++ drop shared packet)) count
    ∙ ap (λ (l : List ℕ). big_bytes 1 shared ++ (big_bytes 2 (length others) ++ l)) behind in
    record {
      more = packet ∷ read.more;
      behind = read.behind ∙ ap (λ (l : List (List ℕ)). l ++ read.more) pushed ∙ append_assoc old (packet ∷ []) read.more;
      content_is =
          stands ∙ ap (λ (l : List ℕ). big_bytes 1 shared ++ (big_bytes 2 (length others) ++ (others ++ l))) read.content_is
          ∙ ap (λ (l : List ℕ). l ++ packed_behind packet read.more) (sym entry);
      short = (omega (arith, long), read.short);
    }

pub none-first : (l : List ℕ) → slice_get l 0 ≡ None → l ≡ []
none-first [] e = refl
none-first (x ∷ l) e = cc

pub first-at : (l : List ℕ) (x : ℕ) → slice_get l 0 ≡ Some x → get_or l 0 0 ≡ x
first-at [] x e = cc
first-at (y ∷ l) x e = same_Some y x e

less : (a b : ℕ) → true ≡ nat_lt a b → a < b
less a b e = grind (arith, nat_tests)

-- what stands at a place does not hang on what is read past the end
pub at-any : (l : List ℕ) (k d e : ℕ) → true ≡ nat_lt k (length l) → get_or l k d ≡ get_or l k e
at-any [] k d e within = absurd (omega (arith, less k 0 within))
at-any (x ∷ l) zero d e within = refl
at-any (x ∷ l) (suc k) d e within = at-any l k d e (lt-suc k (length l) within)
  where
    lt-suc : (a b : ℕ) → true ≡ nat_lt (suc a) (suc b) → true ≡ nat_lt a b
    lt-suc a b h = grind (arith, nat_tests)

-- ---- texts that are the same

pub same-short : (one other : List ℕ) → length one ≡ length other → shared_front one other ≡ length one → one ≡ other
same-short one other l e =
    sym (take_all (shared_front one other) one (omega (arith, e))) ∙ sym (shared-same 255 one other) ∙ take_all (shared_front one other) other (omega (arith, e, l))

pub same-on : (one other : List ℕ) → 255 ≤ shared_front one other → drop 255 one ≡ drop 255 other → one ≡ other
same-on one other most rest =
    let is : shared_front one other ≡ 255 = omega (arith, most, shared-most 255 one other) in
    let front : take 255 other ≡ take 255 one = ap (λ (n : ℕ). take n other) (sym is) ∙ shared-same 255 one other ∙ ap (λ (n : ℕ). take n one) is in
    sym (take-append-drop 255 one) ∙ ap (λ (f : List ℕ). f ++ drop 255 one) (sym front) ∙ ap (λ (r : List ℕ). take 255 other ++ r) rest ∙ take-append-drop 255 other
