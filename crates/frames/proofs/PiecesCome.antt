-- What is kept of a long packet's pieces, as more of them come.
use Rattle.std.proofs.Common.{◌≡◌, ◌+◌, ℕ, zero, suc, true, List, [], ◌∷◌, ◌++◌, length, replicate, sym, ap, ◌∙◌, subst, Option, Some, None, arith}
use Rattle.std.specs.Prelude.{slice_set}
use Rattle.std.proofs.lemmas.List.{length-set}
use Rattle.std.specs.List.{AllByRecursion, remove}
use Rattle.udp_net.specs.Logs.{Log}
use Rattle.frames.specs.Partials.{PieceModel}
use Rattle.frames.specs.Arrivals.{ArrivedPiece, ArrivedInPieces, GivenIn, PiecesCame, is_whole, joined}
use Rattle.frames.specs.Openers.{ComesIn}

module _ (Given : List ℕ → Type 0) (key : List ℕ) (node : ℕ) (boot : List ℕ) (number count : ℕ) where
  -- none came
  pub none-came : (n index : ℕ) → PiecesCame Given key node boot number count index (replicate n None)
  none-came zero index = tt
  none-came (suc n) index = (tt, none-came n (suc index))

  -- one more came
  pub one-came : (pieces : List (Option (List ℕ))) (from place : ℕ) (bytes : List ℕ) → ArrivedPiece Given key node boot number count (from + place) bytes
      → PiecesCame Given key node boot number count from pieces → PiecesCame Given key node boot number count from (slice_set pieces place (Some bytes))
  one-came [] from place bytes x came = tt
  one-came (p ∷ pieces) from zero bytes x came = (subst (λ (k : ℕ). ArrivedPiece Given key node boot number count k bytes) (omega arith) x, came.1)
  one-came (p ∷ pieces) from (suc place) bytes x came =
      (came.0, one-came pieces (suc from) place bytes (subst (λ (k : ℕ). ArrivedPiece Given key node boot number count k bytes) (omega arith) x) came.1)

-- all but one of a list
module _ {A : Type 0} (Holds : A → Type 0) where
  pub all-push : (xs : List A) (y : A) → AllByRecursion Holds xs → Holds y → AllByRecursion Holds (xs ++ y ∷ [])
  all-push [] y all holds = (holds, tt)
  all-push (x ∷ xs) y all holds = (all.0, all-push xs y all.1 holds)

  -- and of the others once one is taken out
  pub of-others : (xs : List A) (i : ℕ) → AllByRecursion Holds xs → AllByRecursion Holds (remove xs i)
  of-others [] zero all = tt
  of-others [] (suc i) all = tt
  of-others (x ∷ xs) zero all = all.1
  of-others (x ∷ xs) (suc i) all = (all.0, of-others xs i all.1)

module _ (l : Log) (key : List ℕ) (node : ℕ) where
  pub none-in : (boot : List ℕ) (number n : ℕ) (pieces : List (Option (List ℕ))) → pieces ≡ replicate n None → PiecesCame (GivenIn l) key node boot number (length pieces) 0 pieces
  none-in boot number n pieces e =
      subst (λ (xs : List (Option (List ℕ))). PiecesCame (GivenIn l) key node boot number (length xs) 0 xs) (sym e)
      (none-came (GivenIn l) key node boot number (length {A = Option (List ℕ)} (replicate n None)) n 0)

  piece-of : (boot other : List ℕ) (number : ℕ) (count place : ℕ) (piece : PieceModel) → other ≡ boot → number ≡ piece.number → count ≡ piece.count → place ≡ piece.index
      → ComesIn l key node boot piece → ArrivedPiece (GivenIn l) key node other number count place piece.bytes
  piece-of boot other number count place piece b n c i x = rw (b, n, c, i) x

  pub one-in : (boot other : List ℕ) (number : ℕ) (pieces : List (Option (List ℕ))) (piece : PieceModel) (place : ℕ) (bytes : List ℕ) → place ≡ piece.index → bytes ≡ piece.bytes
      → other ≡ boot → number ≡ piece.number → length pieces ≡ piece.count → ComesIn l key node boot piece → PiecesCame (GivenIn l) key node other number (length pieces) 0 pieces
      → PiecesCame (GivenIn l) key node other number (length (slice_set pieces place (Some bytes))) 0 (slice_set pieces place (Some bytes))
  one-in boot other number pieces piece place bytes i same b n c x came =
      subst (λ (m : ℕ). PiecesCame (GivenIn l) key node other number m 0 (slice_set pieces place (Some bytes))) (sym (length-set pieces place (Some bytes)))
      (one-came (GivenIn l) key node other number (length pieces) pieces 0 place bytes
      (subst (λ (y : List ℕ). ArrivedPiece (GivenIn l) key node other number (length pieces) (0 + place) y) (sym same)
      (piece-of boot other number (length pieces) (0 + place) piece b n c (omega (arith, i)) x)) came)

  pub whole-in : (boot : List ℕ) (number : ℕ) (pieces : List (Option (List ℕ))) (empty out packet : List ℕ) → PiecesCame (GivenIn l) key node boot number (length pieces) 0 pieces
      → is_whole pieces ≡ true → empty ≡ [] → out ≡ empty ++ joined pieces → packet ≡ out → ArrivedInPieces (GivenIn l) key node packet
  whole-in boot number pieces empty out packet came w z e p =
      record { boot = boot; number = number; pieces = pieces; came = came; whole = w; joined_is = p ∙ e ∙ ap (λ (x : List ℕ). x ++ joined pieces) z }
