-- Packets in one vector, when one comes and when one is given.
use Rattle.std.proofs.Common.{◌≡◌, ◌<◌, ◌≤◌, ◌+◌, ◌-◌, ◌⊎◌, ℕ, suc, List, [], ◌∷◌, ◌++◌, length, take, drop, get_or, refl, sym, ap, subst, ◌∙◌, inl, inr, arith}
use Rattle.std.specs.Prelude.{Some, nat_le, if◌then◌else◌}
use Rattle.std.proofs.Math.Seq.{drop-append_seam, drop-cons, drop-drop}
use Rattle.std.proofs.lemmas.List.{drop-append-le, length-append, length-drop, take-append-le, take_all}
use Rattle.frames.specs.Frames.{last_behind}
use Rattle.frames.specs.Rows.{cut, total, Gives, IsRow}

total-one-more : (lengths : List ℕ) (n : ℕ) → total (lengths ++ n ∷ []) ≡ total lengths + n
total-one-more [] n = omega arith
total-one-more (m ∷ lengths) n = omega (arith, total-one-more lengths n)

no-bytes : (bytes : List ℕ) → 0 ≡ length bytes → bytes ≡ []
no-bytes [] e = refl
no-bytes (b ∷ bytes) e = absurd (omega (arith, e))

-- one more packet behind those that fill the bytes
pub cut-one-more : (lengths bytes packet : List ℕ) → total lengths ≡ length bytes → cut (lengths ++ length packet ∷ []) (bytes ++ packet) ≡ cut lengths bytes ++ packet ∷ []
cut-one-more [] bytes packet e = rw (no-bytes bytes e, take_all (length packet) packet (omega arith)) refl
cut-one-more (n ∷ lengths) bytes packet e =
    let fits : n ≤ length bytes = omega (arith, e) in
    let left : total lengths ≡ length (drop n bytes) = omega (arith, e, length-drop n bytes) in
    ap (λ (p : List ℕ). p ∷ cut (lengths ++ length packet ∷ []) (drop n (bytes ++ packet))) (take-append-le n bytes packet fits)
    ∙ ap (λ (b : List ℕ). take n bytes ∷ cut (lengths ++ length packet ∷ []) b) (drop-append-le n bytes packet fits)
    ∙ ap (λ (l : List (List ℕ)). take n bytes ∷ l) (cut-one-more lengths (drop n bytes) packet left)

last-one-more : (last : List ℕ) (packets : List (List ℕ)) (packet : List ℕ) → last_behind last (packets ++ packet ∷ []) ≡ packet
last-one-more last [] packet = refl
last-one-more last (p ∷ packets) packet = last-one-more p packets packet

pub cut-length : (lengths bytes : List ℕ) → length (cut lengths bytes) ≡ length lengths
cut-length [] bytes = refl
cut-length (n ∷ lengths) bytes = ap suc (cut-length lengths (drop n bytes))

module _ (bytes lengths : List ℕ) (gone start last : ℕ) (row : IsRow bytes lengths gone start last) where
  -- how many there are
  pub row-length : length (cut (drop gone lengths) (drop start bytes)) ≡ length lengths - gone
  row-length = cut-length (drop gone lengths) (drop start bytes) ∙ length-drop gone lengths

  pub row-more : (packet : List ℕ)
      → cut (drop gone (lengths ++ length packet ∷ [])) (drop start (bytes ++ packet)) ≡ cut (drop gone lengths) (drop start bytes) ++ packet ∷ []
  row-more packet =
      ap (λ (l : List ℕ). cut l (drop start (bytes ++ packet))) (drop-append-le gone lengths (length packet ∷ []) row.some)
      ∙ ap (cut (drop gone lengths ++ length packet ∷ [])) (drop-append-le start bytes packet row.front)
      ∙ cut-one-more (drop gone lengths) (drop start bytes) packet row.all

  -- a packet comes
  pub is-row-more : (packet : List ℕ) → IsRow (bytes ++ packet) (lengths ++ length packet ∷ []) gone start (length bytes)
  is-row-more packet = record {
    some = omega (arith, row.some, length-append lengths (length packet ∷ []));
    front = omega (arith, row.front, length-append bytes packet);
    all =
        ap total (drop-append-le gone lengths (length packet ∷ []) row.some) ∙ total-one-more (drop gone lengths) (length packet) ∙ ap (λ (n : ℕ). n + length packet) row.all
        ∙ sym (length-append (drop start bytes) packet) ∙ ap length (sym (drop-append-le start bytes packet row.front));
    back = omega (arith, length-append bytes packet);
    end = inr (drop-append_seam bytes packet ∙ sym (last-one-more [] (cut (drop gone lengths) (drop start bytes)) packet) ∙ ap (last_behind []) (sym (row-more packet)));
  }

-- the length of the first packet that is left
pub next-of : (lengths : List ℕ) (k n : ℕ) → k < length lengths → n ≡ get_or lengths k n → drop k lengths ≡ n ∷ drop (suc k) lengths
next-of lengths k n there is = drop-cons lengths k n there ∙ ap (λ (m : ℕ). m ∷ drop (suc k) lengths) (sym is)

-- a packet is given
module _ (bytes lengths : List ℕ) (gone start last : ℕ) (row : IsRow bytes lengths gone start last) (n : ℕ) (rest : List ℕ) (next : drop gone lengths ≡ n ∷ rest) where
  pub fits : n ≤ length (drop start bytes)
  fits = omega (arith, ap total next, row.all)

  cut-is : cut (drop gone lengths) (drop start bytes) ≡ take n (drop start bytes) ∷ cut rest (drop n (drop start bytes))
  cut-is = ap (λ (l : List ℕ). cut l (drop start bytes)) next

  rest-is : drop (gone + 1) lengths ≡ rest
  rest-is = sym (drop-drop 1 gone lengths) ∙ ap (drop 1) next

  on : drop (start + n) bytes ≡ drop n (drop start bytes)
  on = sym (drop-drop n start bytes)

  last-of : (some : List ℕ) → (drop gone lengths ≡ []) ⊎ (drop last bytes ≡ last_behind [] (cut (drop gone lengths) (drop start bytes)))
      → rest ≡ some → (rest ≡ []) ⊎ (drop last bytes ≡ last_behind [] (cut rest (drop n (drop start bytes))))
  last-of [] end is = inl is
  last-of (m ∷ some) (inl none) is = inl (nothing (sym next ∙ none))
    where
      nothing : n ∷ rest ≡ [] → rest ≡ []
      nothing e = cc
  last-of (m ∷ some) (inr e) is = inr (e ∙ ap (last_behind []) cut-is ∙ same some m is)
    where
      same : (some : List ℕ) (m : ℕ) → rest ≡ m ∷ some → last_behind (take n (drop start bytes)) (cut rest (drop n (drop start bytes))) ≡ last_behind [] (cut rest (drop n (drop start bytes)))
      same some m is = ap (λ (l : List ℕ). last_behind (take n (drop start bytes)) (cut l (drop n (drop start bytes)))) is ∙ ap (λ (l : List ℕ). last_behind [] (cut l (drop n (drop start bytes)))) (sym is)

  pub is-row-given : IsRow bytes lengths (gone + 1) (start + n) last
  is-row-given = record {
    some = omega (arith, row.some, length-drop gone lengths, ap length next);
    front = omega (arith, row.front, fits, length-drop start bytes);
    all = omega (arith, row.all, ap total next, ap total rest-is, ap length on, length-drop n (drop start bytes));
    back = row.back;
    end = subst (λ (l : List ℕ). (l ≡ []) ⊎ (drop last bytes ≡ last_behind [] (cut l (drop (start + n) bytes)))) (sym rest-is)
        (subst (λ (l : List ℕ). (rest ≡ []) ⊎ (drop last bytes ≡ last_behind [] (cut rest l))) (sym on) (last-of rest row.end refl));
  }

  pub gives : (packet buffer : List ℕ) (k : ℕ) → packet ≡ take n (drop start bytes)
      → take k buffer ≡ (if nat_le (length packet) (length buffer) then packet else [])
      → Gives (cut (drop gone lengths) (drop start bytes)) (Some k) buffer (cut (drop (gone + 1) lengths) (drop (start + n) bytes))
  gives packet buffer k e is = rw cut-is (
    ap (λ (l : List ℕ). cut l (drop (start + n) bytes)) rest-is ∙ ap (cut rest) on,
    subst (λ (p : List ℕ). take k buffer ≡ (if nat_le (length p) (length buffer) then p else [])) e is,
  )
