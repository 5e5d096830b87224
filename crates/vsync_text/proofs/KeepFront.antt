-- A text that goes on from another keeps it at its front.
use Rattle.std.proofs.Common.{◌≡◌, ℕ, ◌+◌, ◌≤◌, ◌<◌, true, false, List, [], ◌∷◌, get_or, zero, suc, refl, append_assoc, append-nil, ◌++◌, length, take, sym, ◌∙◌, ap, arith, length-take}
use Rattle.std.proofs.Math.Seq.{take-length, take-suc, take-append_seam, take-take}
use Rattle.std.specs.Prelude.{flat_map, ◌==◌}
use Rattle.std.specs.List.{join_by}
use Rattle.std.proofs.lemmas.Grind.{flat_map-append}
use Rattle.std.proofs.lemmas.List.{take_all}
use Rattle.vsync_text.specs.TraceText.{GoesOnFrom}

pub stays : (a : List ℕ) → GoesOnFrom a a
stays a = record { front = take-length a }

pub same : (a b : List ℕ) → b ≡ a → GoesOnFrom a b
same a b e = record { front = rw e (take-length a) }

pub at_once : (a b t : List ℕ) → b ≡ a ++ t → GoesOnFrom a b
at_once a b t e = record { front = rw e (take-append_seam a t) }

pub goes_on : (a b c : List ℕ) → GoesOnFrom a b → GoesOnFrom b c → GoesOnFrom a c
goes_on a b c ab bc =
    let short : length a ≤ length b = omega (arith, ap length ab.front, length-take (length a) b) in
    record { front = sym (take-take (length a) (length b) c short) ∙ ap (take (length a)) bc.front ∙ ab.front }

-- a word, two fields and an end, one behind another
pub two_fields : (old a b c new word first second end : List ℕ) → a ≡ old ++ word → b ≡ a ++ first → c ≡ b ++ second → new ≡ c ++ end → new ≡ old ++ (word ++ ((first ++ second) ++ end))
two_fields old a b c new word first second end e f g h =
    h ∙ ap (λ t. t ++ end) (g ∙ ap (λ t. t ++ second) (f ∙ ap (λ t. t ++ first) e))
    ∙ append_assoc ((old ++ word) ++ first) second end
    ∙ append_assoc (old ++ word) first (second ++ end)
    ∙ append_assoc old word (first ++ (second ++ end))
    ∙ ap (λ t. old ++ (word ++ t)) (sym (append_assoc first second end))

-- three texts, one behind another
pub three_texts : (old a b new p q s : List ℕ) → a ≡ old ++ p → b ≡ a ++ q → new ≡ b ++ s → new ≡ old ++ ((p ++ q) ++ s)
three_texts old a b new p q s e f g =
    g ∙ ap (λ x. x ++ s) (f ∙ ap (λ x. x ++ q) e) ∙ append_assoc (old ++ p) q s ∙ append_assoc old p (q ++ s) ∙ ap (λ x. old ++ x) (sym (append_assoc p q s))

-- five texts, one behind another
pub five_texts : (old a b c d new p q s t u : List ℕ) → a ≡ old ++ p → b ≡ a ++ q → c ≡ b ++ s → d ≡ c ++ t → new ≡ d ++ u → new ≡ old ++ ((p ++ q) ++ ((s ++ t) ++ u))
five_texts old a b c d new p q s t u e f g h k =
    k ∙ ap (λ x. x ++ u) (h ∙ ap (λ x. x ++ t) (g ∙ ap (λ x. x ++ s) (f ∙ ap (λ x. x ++ q) e)))
    ∙ append_assoc (((old ++ p) ++ q) ++ s) t u
    ∙ append_assoc ((old ++ p) ++ q) s (t ++ u)
    ∙ append_assoc (old ++ p) q (s ++ (t ++ u))
    ∙ append_assoc old p (q ++ (s ++ (t ++ u)))
    ∙ ap (λ x. old ++ x) (sym (append_assoc p q (s ++ (t ++ u))) ∙ ap (λ x. (p ++ q) ++ x) (sym (append_assoc s t u)))

pub next_text : {X : Type 0} (f : X → List ℕ) (xs : List X) (i : ℕ) (x d : X) → x ≡ get_or xs i d → i < length xs
    → flat_map f (take (i + 1) xs) ≡ flat_map f (take i xs) ++ f x
next_text f xs i x d at inside =
    let e : i + 1 ≡ suc i = omega arith in
    ap (λ n. flat_map f (take n xs)) e ∙ ap (flat_map f) (take-suc xs i d inside) ∙ flat_map-append f (take i xs) (get_or xs i d ∷ [])
    ∙ ap (λ t. flat_map f (take i xs) ++ t) (append-nil (f (get_or xs i d)) ∙ ap f (sym at))

-- one text more of those that stand one behind another
pub puts_next : {X : Type 0} (f : X → List ℕ) (a b c : List ℕ) (xs : List X) (i : ℕ) (x d : X) → x ≡ get_or xs i d → i < length xs
    → (b ≡ a ++ flat_map f (take i xs)) × GoesOnFrom a b → c ≡ b ++ f x → GoesOnFrom b c
    → (c ≡ a ++ flat_map f (take (i + 1) xs)) × GoesOnFrom a c
puts_next f a b c xs i x d at inside before more kept =
    (more ∙ ap (λ t. t ++ f x) before.0 ∙ append_assoc a _ _ ∙ ap (λ t. a ++ t) (sym (next_text f xs i x d at inside)), goes_on a b c before.1 kept)

-- texts joined by commas, behind a mark if there are any
abbrev pub marked : {X : Type 0} → (X → List ℕ) → ℕ → List X → List ℕ
marked f mark [] = []
marked f mark (x ∷ xs) = mark ∷ join_by f (44 ∷ []) (x ∷ xs)

-- what stands before the text of a place
abbrev pub mark_at : ℕ → ℕ → ℕ
mark_at mark zero = mark
mark_at mark (suc i) = 44

-- the first few of some texts are joined, and the next has this mark
pub record Joined {X : Type 0} (f : X → List ℕ) (first : ℕ) (old new : List ℕ) (xs : List X) (i mark : ℕ) : Type 0 where
  pub next : mark ≡ mark_at first i
  pub text : new ≡ old ++ marked f first (take i xs)
  pub kept : GoesOnFrom old new

pub none_joined : {X : Type 0} (f : X → List ℕ) (first : ℕ) (old : List ℕ) (xs : List X) → Joined f first old old xs 0 first
none_joined f first old xs = record { next = refl; text = sym (append-nil old); kept = stays old }

pub all_joined : {X : Type 0} (f : X → List ℕ) (first : ℕ) (a b : List ℕ) (xs : List X) (i mark : ℕ) → (length xs == 0) ≡ false → length xs ≤ i
    → Joined f first a b xs i mark → b ≡ a ++ first ∷ join_by f (44 ∷ []) xs
all_joined f first a b [] i mark some all j = let n : true ≡ false = some in absurd (cc)
all_joined f first a b (x ∷ xs) i mark some all j = j.text ∙ ap (λ ys. a ++ marked f first ys) (take_all i (x ∷ xs) all)

marked_next : {X : Type 0} (f : X → List ℕ) (first : ℕ) (xs : List X) (i : ℕ) (x d : X) → x ≡ get_or xs i d → i < length xs
    → marked f first (take (i + 1) xs) ≡ marked f first (take i xs) ++ mark_at first i ∷ f x
marked_next f first [] i x d at inside = absurd (omega (arith, inside))
marked_next f first (y ∷ xs) zero x d at inside = ap (λ t. first ∷ t) (append-nil (f y) ∙ ap f (sym at))
marked_next f first (y ∷ xs) (suc i) x d at inside =
    let e : suc i + 1 ≡ suc (i + 1) = omega arith in
    rw e (ap (λ t. first ∷ (f y ++ t)) (next_text (λ z. 44 ∷ f z) xs i x d at (omega (arith, inside))) ∙ ap (λ t. first ∷ t) (sym (append_assoc (f y) _ _)))

pub one_joined : {X : Type 0} (f : X → List ℕ) (first : ℕ) (a b c : List ℕ) (xs : List X) (i mark : ℕ) (x d : X) → x ≡ get_or xs i d → i < length xs
    → Joined f first a b xs i mark → c ≡ b ++ mark ∷ f x → GoesOnFrom b c → Joined f first a c xs (i + 1) 44
one_joined f first a b c xs i mark x d at inside j more kept = record {
  next = let e : i + 1 ≡ suc i = omega arith in rw e refl;
  text = more ∙ ap (λ m. b ++ m ∷ f x) j.next ∙ ap (λ t. t ++ mark_at first i ∷ f x) j.text ∙ append_assoc a _ _ ∙ ap (λ t. a ++ t) (sym (marked_next f first xs i x d at inside));
  kept = goes_on a b c j.kept kept;
}
