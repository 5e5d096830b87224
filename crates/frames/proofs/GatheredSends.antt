-- What waits for several nodes is of a list, also what is taken of it for one frame.
use Rattle.std.proofs.Common.{◌≡◌, ◌≤◌, ◌<◌, ◌+◌, ◌*◌, ◌^◌, ℕ, List, [], ◌∷◌, length, refl, sym, ap, ◌∙◌, subst, inl, inr, arith}
use Rattle.std.specs.List.{AllByRecursion}
use Rattle.std.proofs.lemmas.List.{length-append}
use Rattle.frames.specs.declared.head.Kind.TheVariants.{Piece, Several}
use Rattle.frames.specs.declared.outlet.Seal.{Seal}
use Rattle.frames.specs.declared.several.Variant.{Variant}
use Rattle.frames.specs.Frames.{packed, IsShort}
use Rattle.frames.specs.Parts.{rows_of}
use Rattle.frames.specs.Arrivals.{StandsIn}
use Rattle.frames.specs.Carried.{ArePacked, Carries}
use Rattle.frames.specs.Gathered.{AreVariantsOf, Gathers, Takes, several_frame}
use Rattle.frames.specs.Outlets.{OutletModel}
use Rattle.frames.specs.Sendings.{AreOf, AreSameWays, WaitOf}
use Rattle.frames.proofs.PartsRead.{HasSix, length-rows, part-is}
use Rattle.frames.proofs.PiecesCome.{all-push}

module _ (place : ℕ) (content : List ℕ) where
  -- ---- one way

  all-taken : (Holds : OutletModel → Type 0) → ((o : OutletModel) → Holds o → Holds (record o { waiting = [] }))
      → (before : List Variant) (o : OutletModel) (after : List Variant) (n : OutletModel) → Takes place content before o after n → Holds o → Holds n
  all-taken Holds cleared before o after n (inl t) holds = subst Holds (sym t.1) holds
  all-taken Holds cleared before o after n (inr t) holds = subst Holds (sym t.3) (cleared o holds)

  node-taken : (before : List Variant) (o : OutletModel) (after : List Variant) (n : OutletModel) → Takes place content before o after n → n.node ≡ o.node
  node-taken before o after n (inl t) = ap (λ (x : OutletModel). x.node) t.1
  node-taken before o after n (inr t) = ap (λ (x : OutletModel). x.node) t.3

  next-taken : (before : List Variant) (o : OutletModel) (after : List Variant) (n : OutletModel) → Takes place content before o after n → n.longs.next ≡ o.longs.next
  next-taken before o after n (inl t) = ap (λ (x : OutletModel). x.longs.next) t.1
  next-taken before o after n (inr t) = ap (λ (x : OutletModel). x.longs.next) t.3

  variants-taken : (sent : List (List ℕ)) (before : List Variant) (o : OutletModel) (after : List Variant) (n : OutletModel) → Takes place content before o after n → AreOf sent o.waiting
      → AreVariantsOf sent place content before → AreVariantsOf sent place content after
  variants-taken sent before o after n (inl t) of good = subst (AreVariantsOf sent place content) (sym t.0) good
  variants-taken sent before o after n (inr t) of good =
      subst (AreVariantsOf sent place content) (sym t.2)
      (all-push _ before t.0 good (t.1.six, record { packets = o.waiting; content_is = t.1.content_is; short = t.1.short; sent = of }))

  six-taken : (before : List Variant) (o : OutletModel) (after : List Variant) (n : OutletModel) → Takes place content before o after n → AllByRecursion HasSix before → AllByRecursion HasSix after
  six-taken before o after n (inl t) six = subst (AllByRecursion HasSix) (sym t.0) six
  six-taken before o after n (inr t) six = subst (AllByRecursion HasSix) (sym t.2) (all-push HasSix before t.0 six t.1.six)

  count-taken : (before : List Variant) (o : OutletModel) (after : List Variant) (n : OutletModel) → Takes place content before o after n → length after ≤ length before + 1
  count-taken before o after n (inl t) = omega (arith, ap length t.0)
  count-taken before o after n (inr t) = omega (arith, ap length t.2, length-append before (t.0 ∷ []))

  -- ---- each of some

  -- what holds of each way, and also once nothing waits there
  pub all-gathered : (Holds : OutletModel → Type 0) → ((o : OutletModel) → Holds o → Holds (record o { waiting = [] }))
      → (before : List Variant) (old : List OutletModel) (after : List Variant) (new : List OutletModel) → Gathers place content before old after new
      → AllByRecursion Holds old → AllByRecursion Holds new
  all-gathered Holds cleared before [] after [] g all = tt
  all-gathered Holds cleared before [] after (n ∷ new) g all = absurd g
  all-gathered Holds cleared before (o ∷ old) after [] g all = absurd g
  all-gathered Holds cleared before (o ∷ old) after (n ∷ new) g all =
      (all-taken Holds cleared before o g.0 n g.1 all.0, all-gathered Holds cleared g.0 old after new g.2 all.1)

  pub ways-gathered : (before : List Variant) (old : List OutletModel) (after : List Variant) (new : List OutletModel) → Gathers place content before old after new → AreSameWays old new
  ways-gathered before [] after new g = tt
  ways-gathered before (o ∷ old) after [] g = absurd g
  ways-gathered before (o ∷ old) after (n ∷ new) g = (node-taken before o g.0 n g.1, omega (arith, next-taken before o g.0 n g.1), ways-gathered g.0 old after new g.2)

  pub variants-gathered : (sent : List (List ℕ)) (before : List Variant) (old : List OutletModel) (after : List Variant) (new : List OutletModel) → Gathers place content before old after new
      → WaitOf sent old → AreVariantsOf sent place content before → AreVariantsOf sent place content after
  variants-gathered sent before [] after [] g of good = subst (AreVariantsOf sent place content) (sym g) good
  variants-gathered sent before [] after (n ∷ new) g of good = absurd g
  variants-gathered sent before (o ∷ old) after [] g of good = absurd g
  variants-gathered sent before (o ∷ old) after (n ∷ new) g of good =
      variants-gathered sent g.0 old after new g.2 of.1 (variants-taken sent before o g.0 n g.1 of.0 good)

  -- as many rows as ways at most, of eight bytes each
  pub six-gathered : (before : List Variant) (old : List OutletModel) (after : List Variant) (new : List OutletModel) → Gathers place content before old after new
      → AllByRecursion HasSix before → AllByRecursion HasSix after
  six-gathered before [] after [] g six = subst (AllByRecursion HasSix) (sym g) six
  six-gathered before [] after (n ∷ new) g six = absurd g
  six-gathered before (o ∷ old) after [] g six = absurd g
  six-gathered before (o ∷ old) after (n ∷ new) g six = six-gathered g.0 old after new g.2 (six-taken before o g.0 n g.1 six)

  pub count-gathered : (before : List Variant) (old : List OutletModel) (after : List Variant) (new : List OutletModel) → Gathers place content before old after new
      → length after ≤ length before + length old
  count-gathered before [] after [] g = omega (arith, ap length g)
  count-gathered before [] after (n ∷ new) g = absurd g
  count-gathered before (o ∷ old) after [] g = absurd g
  count-gathered before (o ∷ old) after (n ∷ new) g = omega (arith, count-gathered g.0 old after new g.2, count-taken before o g.0 n g.1)

  -- the first ones

  pub first-variants : (sent : List (List ℕ)) (before : List Variant) (old : List OutletModel) (after : List Variant) (new : List OutletModel) → before ≡ [] → Gathers place content before old after new
      → WaitOf sent old → AreVariantsOf sent place content after
  first-variants sent before old after new e g of = variants-gathered sent before old after new g of (subst (AreVariantsOf sent place content) (sym e) tt)

  pub first-count : (before : List Variant) (old : List OutletModel) (after : List Variant) (new : List OutletModel) → before ≡ [] → Gathers place content before old after new
      → length after ≤ length old
  first-count before old after new e g = omega (arith, count-gathered before old after new g, ap length e)

  pub first-rows : (before : List Variant) (old : List OutletModel) (after : List Variant) (new : List OutletModel) → before ≡ [] → Gathers place content before old after new
      → length (rows_of after) ≤ 8 * length old
  first-rows before old after new e g =
      omega (arith, first-count before old after new e g, length-rows after (six-gathered before old after new g (subst (AllByRecursion HasSix) (sym e) tt)))

pub ways-on : (one two three : List OutletModel) → AreSameWays one two → AreSameWays two three → AreSameWays one three
ways-on [] two three x y = tt
ways-on (o ∷ one) [] three x y = absurd x
ways-on (o ∷ one) (p ∷ two) [] x y = absurd y
ways-on (o ∷ one) (p ∷ two) (q ∷ three) x y = (y.0 ∙ x.0, omega (arith, x.1, y.1), ways-on one two three x.2 y.2)

-- the frame for several nodes carries what waits
pub several-carries : (s : Seal) (long : ℕ → ℕ → List ℕ) (sent : List (List ℕ)) (counter place : ℕ) (variants : List Variant) (o : OutletModel) → o.node < 2 ^ 16 → place ≤ 255
    → length variants ≤ 255 → AllByRecursion IsShort o.waiting → AreOf sent o.waiting → AreVariantsOf sent place (packed o.waiting) variants
    → Carries s.key s.boot long (StandsIn sent) (several_frame s counter place variants o)
several-carries s long sent counter place variants o fits place_fits count_fits short of good = inl (record {
  head = _;
  content = _;
  frame_is = refl;
  kind = λ (e : Several ≡ Piece). cc;
  boot_is = refl;
  to_fits = fits;
  parts = λ node part is.
      part-is (ArePacked (StandsIn sent)) place (packed o.waiting) node variants o.node part place_fits count_fits
      (record { packets = o.waiting; content_is = refl; short = short; sent = of }) good is;
})
