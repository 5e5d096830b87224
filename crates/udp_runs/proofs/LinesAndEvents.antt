-- Lines one behind the other, and events that are taken one by one.
use Rattle.std.proofs.Common.{◌≡◌, ℕ, ◌+◌, zero, suc, true, false, Result, Ok, Err, OnErr, IsErr, List, [], ◌∷◌, ◌++◌, map, take, length, refl, sym, ap, ◌∙◌}
use Rattle.std.specs.List.{concat}
use Rattle.std.proofs.lemmas.List.{append-nil, append_assoc, map-append}
use Rattle.std.proofs.lemmas.List.Folds.{concat-append}
use Rattle.std.proofs.Math.Seq.{take-append-add, take-append_seam}
use Rattle.trace_props.specs.declared.event.Event.{Event}
use Rattle.vsync_text.specs.TraceText.{line_of}
use Rattle.channel.specs.Channels.{ChannelModel}
use Rattle.udp_runs.specs.Processes.{all_told}
use Rattle.udp_runs.specs.Texts.{Line, Happens, Appended, texts_of, text_of_line}

pub texts-then : (xs ys : List Line) → texts_of (xs ++ ys) ≡ texts_of xs ++ texts_of ys
texts-then xs ys = map-append text_of_line xs ys

pub concat-then : (xs ys : List (List ℕ)) → concat (xs ++ ys) ≡ concat xs ++ concat ys
concat-then xs ys = concat-append xs ys

-- the text of lines, and then of more
pub text-then : (old mid new : List ℕ) (xs ys : List Line) → mid ≡ old ++ concat (texts_of xs) → new ≡ mid ++ concat (texts_of ys) → new ≡ old ++ concat (texts_of (xs ++ ys))
text-then old mid new xs ys first more =
    more ∙ ap (λ (l : List ℕ). l ++ concat (texts_of ys)) first ∙ append_assoc old (concat (texts_of xs)) (concat (texts_of ys))
    ∙ ap (λ (l : List ℕ). old ++ l) (sym (concat-append (texts_of xs) (texts_of ys)) ∙ ap concat (sym (map-append text_of_line xs ys)))

module _ {X : Type 0} where
  pub take-front : (xs ys : List X) → take (length xs) (xs ++ ys) ≡ xs
  take-front xs ys = take-append_seam xs ys

  -- all of some, and the first few of others behind them
  pub take-behind : (count : ℕ) (xs ys : List X) → (n : ℕ) × (take n (xs ++ ys) ≡ xs ++ take count ys)
  take-behind count xs ys = (length xs + count, take-append-add xs ys count)

  -- the first few are the first few of more
  pub take-some : (count : ℕ) (xs ys : List X) → (n : ℕ) × (take n (xs ++ ys) ≡ take count xs)
  take-some zero xs ys = (0, refl)
  take-some (suc count) [] ys = (0, refl)
  take-some (suc count) (x ∷ xs) ys = let r = take-some count xs ys in (suc r.0, ap (λ (l : List X). x ∷ l) r.1)

-- a beginning of the text of lines is one of more lines
pub cut-some : (old new : List ℕ) (xs ys : List Line) → (count : ℕ) × (new ≡ old ++ concat (take count (texts_of xs))) → (count : ℕ) × (new ≡ old ++ concat (take count (texts_of (xs ++ ys))))
cut-some old new xs ys (count, is) =
    let r = take-some count (texts_of xs) (texts_of ys) in
    (r.0, is ∙ ap (λ (l : List (List ℕ)). old ++ concat l) (sym r.1 ∙ ap (take r.0) (sym (map-append text_of_line xs ys))))

-- the text of lines is a beginning of that of more
pub cut-whole : (old new : List ℕ) (xs ys : List Line) → new ≡ old ++ concat (texts_of xs) → (count : ℕ) × (new ≡ old ++ concat (take count (texts_of (xs ++ ys))))
cut-whole old new xs ys is =
    (length (texts_of xs), is ∙ ap (λ (l : List (List ℕ)). old ++ concat l) (sym (take-append_seam (texts_of xs) (texts_of ys)) ∙ ap (take (length (texts_of xs))) (sym (map-append text_of_line xs ys))))

-- the same behind other lines
pub cut-behind : (old mid new : List ℕ) (xs ys : List Line) → mid ≡ old ++ concat (texts_of xs) → (count : ℕ) × (new ≡ mid ++ concat (take count (texts_of ys)))
    → (count : ℕ) × (new ≡ old ++ concat (take count (texts_of (xs ++ ys))))
cut-behind old mid new xs ys first (count, is) =
    let r = take-behind count (texts_of xs) (texts_of ys) in (
      r.0,
      is ∙ ap (λ (l : List ℕ). l ++ concat (take count (texts_of ys))) first ∙ append_assoc old (concat (texts_of xs)) (concat (take count (texts_of ys)))
          ∙ ap (λ (l : List ℕ). old ++ l) (sym (concat-append (texts_of xs) (take count (texts_of ys))) ∙ ap concat (sym r.1 ∙ ap (take r.0) (sym (map-append text_of_line xs ys)))),
    )

-- ---- events that are taken

module _ {S : Type 0} where
  -- some were taken, and their lines stand behind a text
  abbrev pub Took : ChannelModel S → ChannelModel S → List ℕ → List ℕ → Type 0
  Took old now text text' =
      (done : List Event) × (old.happened ≡ done ++ now.happened) × (text' ≡ text ++ concat (texts_of (map Happens done))) × (now ≡ record old { happened = now.happened })

  pub took-one : (old mid new : ChannelModel S) (text text' text'' : List ℕ) (event : Event) → Took old mid text text' → mid.happened ≡ event ∷ new.happened
      → new ≡ record mid { happened = new.happened } → text'' ≡ text' ++ line_of event → Took old new text text''
  took-one old mid new text text' text'' event (done, taken, said, same) first others line = (
    done ++ event ∷ [],
    taken ∙ ap (λ (l : List Event). done ++ l) first ∙ sym (append_assoc done (event ∷ []) new.happened),
    text-then text text' text'' (map Happens done) (Happens event ∷ []) said (line ∙ ap (λ (l : List ℕ). text' ++ l) (sym (append-nil (line_of event))))
        ∙ ap (λ (l : List Line). text ++ concat (texts_of l)) (sym (map-append Happens done (event ∷ []))),
    others ∙ ap (λ (c : ChannelModel S). record c { happened = new.happened }) same,
  )

  pub took-some : (old now : ChannelModel S) (text mid text' : List ℕ) → Took old now text mid → text' ≡ mid
      → (count : ℕ) × (text' ≡ text ++ concat (take count (texts_of (map Happens old.happened))))
  took-some old now text mid text' (done, taken, said, same) kept =
      let r = cut-whole text text' (map Happens done) (map Happens now.happened) (kept ∙ said) in
      (r.0, r.1 ∙ ap (λ (l : List Line). text ++ concat (take r.0 (texts_of l))) (sym (map-append Happens done now.happened) ∙ ap (map Happens) (sym taken)))

  -- and no more can be
  pub took-last : (old mid now : ChannelModel S) (text text' : List ℕ) → Took old mid text text' → (mid.happened ≡ []) × (now.happened ≡ []) → now ≡ record mid { happened = now.happened }
      → (text' ≡ text ++ concat (texts_of (map Happens old.happened))) × (now ≡ all_told old)
  took-last old mid now text text' (done, taken, said, same) (none, left) others = (
    said ∙ ap (λ (l : List Event). text ++ concat (texts_of (map Happens l))) (sym (append-nil done) ∙ ap (λ (l : List Event). done ++ l) (sym none) ∙ sym taken),
    others ∙ ap (λ (c : ChannelModel S). record c { happened = now.happened }) same ∙ ap (λ (l : List Event). record old { happened = l }) left,
  )

pub on-err : {A E P : Type 0} (result : Result A E) → P → OnErr result P
on-err (Ok x) p = tt
on-err (Err e) p = p

-- memory was refused as lines were appended
pub cut-lines : (A E : Type 0) (Says Begins : List Line → Type 0) (old new : List ℕ) (result : Result A E) → IsErr result
    → (lines : List Line) × Begins lines × ((count : ℕ) × (new ≡ old ++ concat (take count (texts_of lines)))) → Appended Says Begins old new result
cut-lines A E Says Begins old new (Ok x) is begun = absurd (let bad : false ≡ true = is in cc)
cut-lines A E Says Begins old new (Err e) is begun = begun
