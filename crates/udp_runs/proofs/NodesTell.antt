-- What a node that runs by itself does and tells, one thing after another.
use Rattle.std.proofs.Common.{◌≡◌, ℕ, Bool, true, false, ◌||◌, ◌⊎◌, inl, inr, Option, None, Some, Result, Ok, Err, IfOk, IfErr, OnOk, OnErr, List, [], ◌∷◌, ◌++◌, map, take, length, refl, sym, ap, ◌∙◌, subst, arith, option_map}
use Rattle.std.specs.List.{concat, AllByRecursion}
use Rattle.std.specs.Result.{IsErr, result_err}
use Rattle.std.proofs.lemmas.List.Folds.{concat-append}
use Rattle.std.proofs.lemmas.List.{append-nil, append_assoc, map-append, take_all}
use Rattle.std.specs.Io.KnownBytes.{Appends}
use Rattle.address.specs.Ids.{Address, ViewId}
use Rattle.state_transfer.specs.Meanings.{Meaning}
use Rattle.trace_props.specs.declared.event.Event.{Event}
use Rattle.vsync_text.specs.TraceText.{line_of}
use Rattle.vsync_text.proofs.LinesWritten.{appends_nothing, appends_then}
use Rattle.member.specs.declared.error.Error.{Error}
use Rattle.view.specs.Members.{View}
use Rattle.channel.specs.declared.stage.Stage.{Stage}
use Rattle.channel.specs.Channels.{ChannelModel, receiver_in, view_in, stable_in}
use Rattle.udp_net.specs.Logs.{Log}
use Rattle.udp_member.specs.Turns.{Driven}
use Rattle.member.specs.declared.input.Input.TheVariants as calls_input
use Rattle.udp_runs.specs.Calls.{MakesCall}
use Rattle.law_runners.specs.Plays.{falls}
use Rattle.law_runners.specs.Runs.{Makes, is_offer, Hand, with_channel, Wait, SaysOnly, MakesNoOffer, DrivesWithoutOffer, Still}
use Rattle.law_runners.proofs.SendsAreSaid.{says-more}
use Rattle.udp_runs.specs.declared.ends.Cut.{Cut as Why}
use Rattle.udp_runs.specs.declared.ends.Cut.TheVariants as cut
use Rattle.udp_runs.specs.declared.telling.Voice.{Voice}
use Rattle.udp_runs.specs.Ends.{TakesMore}
use Rattle.udp_runs.specs.Processes.{all_told}
use Rattle.udp_runs.specs.OwnLines.{OwnLine, Happened, Knows, InState, IsPlain, Says, text_of, texts_of as own_texts, stable_line}
use Rattle.udp_runs.specs.declared.calls.Call.{Call}
use Rattle.udp_runs.specs.declared.calls.Call.TheVariants as calls
use Rattle.udp_runs.specs.Said.{IsThat, SaidBy, says_nothing}
use Rattle.udp_runs.specs.Telling.{Waits, Shows, ShowsBegun, Writes, Shown, Quietly, TellsFirst, Begins, TellsAll, AddsLine, OffersAll, BeginsWith, IsTurn, AppendsTurn, WritesTurn, ThenOffers, Tells, TellsOn, TellsFrom, TellsEnd, BeginsBy, Calling, Leaves, Stays, PlaysAlone, AppendsSaid}
use Rattle.udp_runs.specs.Texts.{Happens, texts_of}
use Rattle.udp_runs.proofs.RunTextsEnd.{takes-then, takes-none}
use Rattle.udp_runs.proofs.LinesAndEvents.{Took, took-one, take-behind, take-some}
use Rattle.udp_runs.proofs.TellsBeforeOffers.{all-then, happen-plain, held-then, held-one, held-told, first-then, first-said}

-- ---- texts that are written

-- a beginning of texts is one of more texts
pub begun-front : (speaks : Bool) (why : Why) (xs ys : List (List ℕ)) (a b : Option (List ℕ)) → ShowsBegun speaks xs a b why → ShowsBegun speaks (xs ++ ys) a b why
begun-front true why xs ys a b t = t
begun-front false cut.Memory xs ys a b (count, t) =
    let r = take-some count xs ys in
    (r.0, subst (λ (l : List (List ℕ)). Appends a b (concat l)) (sym r.1) t)
begun-front false cut.Failed xs ys a b (count, bytes, t) =
    let r = take-some count xs ys in
    (r.0, bytes, subst (λ (l : List (List ℕ)). Appends a b (take bytes (concat l))) (sym r.1) t)

-- texts, and then a beginning of others
pub begun-behind : (speaks : Bool) (why : Why) (xs ys : List (List ℕ)) (a b c : Option (List ℕ)) → Shows speaks xs a b → ShowsBegun speaks ys b c why → ShowsBegun speaks (xs ++ ys) a c why
begun-behind true why xs ys a b c s t = takes-then a b c s t
begun-behind false cut.Memory xs ys a b c s (count, t) =
    let r = take-behind count xs ys in
    (r.0, subst (λ (l : List ℕ). Appends a c l) (sym (ap concat r.1 ∙ concat-append xs (take count ys))) (appends_then a b c (concat xs) (concat (take count ys)) s t))
begun-behind false cut.Failed xs ys a b c s (count, bytes, t) =
    let r = take-behind count xs ys in
    let n = take-behind bytes (concat xs) (concat (take count ys)) in (
      r.0,
      n.0,
      subst (λ (l : List ℕ). Appends a c l) (sym (ap (take n.0) (ap concat r.1 ∙ concat-append xs (take count ys)) ∙ n.1))
          (appends_then a b c (concat xs) (take bytes (concat (take count ys))) s t),
    )

-- all of them are a beginning
pub begun-whole : (speaks : Bool) (why : Why) (xs : List (List ℕ)) (a b : Option (List ℕ)) → Shows speaks xs a b → ShowsBegun speaks xs a b why
begun-whole true why xs a b s = s
begun-whole false cut.Memory xs a b s =
    (length xs, subst (λ (l : List (List ℕ)). Appends a b (concat l)) (sym (take_all (length xs) xs (omega arith))) s)
begun-whole false cut.Failed xs a b s = (
  length xs,
  length (concat xs),
  subst (λ (l : List (List ℕ)). Appends a b (take (length (concat xs)) (concat l))) (sym (take_all (length xs) xs (omega arith)))
      (subst (λ (l : List ℕ). Appends a b l) (sym (take_all (length (concat xs)) (concat xs) (omega arith))) s),
)

-- and so is nothing
pub begun-none : (speaks : Bool) (why : Why) (xs : List (List ℕ)) (a : Option (List ℕ)) → ShowsBegun speaks xs a a why
begun-none true why xs a = takes-none a
begun-none false cut.Memory xs a = (0, appends_nothing a)
begun-none false cut.Failed xs a = (0, 0, appends_nothing a)

pub shows-then : (speaks : Bool) (xs ys : List (List ℕ)) (a b c : Option (List ℕ)) → Shows speaks xs a b → Shows speaks ys b c → Shows speaks (xs ++ ys) a c
shows-then true xs ys a b c s t = takes-then a b c s t
shows-then false xs ys a b c s t = subst (λ (l : List ℕ). Appends a c l) (sym (concat-append xs ys)) (appends_then a b c (concat xs) (concat ys) s t)

pub shows-none : (speaks : Bool) (a : Option (List ℕ)) → Shows speaks [] a a
shows-none true a = takes-none a
shows-none false a = appends_nothing a

-- texts, and then others
pub writes-then : (speaks : Bool) (xs ys : List (List ℕ)) (a b c : Option (List ℕ)) (result : Result Unit Why) → Shows speaks xs a b → Writes speaks ys b c result
    → Writes speaks (xs ++ ys) a c result
writes-then speaks xs ys a b c (Ok done) s t = shows-then speaks xs ys a b c s t
writes-then speaks xs ys a b c (Err why) s t = begun-behind speaks why xs ys a b c s t

-- all of them were written, whatever is answered
pub writes-whole : (speaks : Bool) (xs : List (List ℕ)) (a b : Option (List ℕ)) (result : Result Unit Why) → Shows speaks xs a b → Writes speaks xs a b result
writes-whole speaks xs a b (Ok done) s = s
writes-whole speaks xs a b (Err why) s = begun-whole speaks why xs a b s

-- ---- a text that was appended

shown-some : {A E : Type 0} (text : List ℕ) (appended : Result A E) (a b : Option (List ℕ)) (result : Result Unit Why) → Shown text appended a b result → TakesMore a b
shown-some text appended a b (Ok done) (is, s) = record { text = text; appends = s }
shown-some text appended a b (Err cut.Memory) (is, s) = record { text = text; appends = s }
shown-some text appended a b (Err cut.Failed) (count, s) = record { text = take count text; appends = s }

-- of texts, or of the first of them
module _ {A E : Type 0} (text : List ℕ) (texts : List (List ℕ)) (a b : Option (List ℕ)) where
  shown-so : (appended : Result A E) (result : Result Unit Why) → OnOk appended (text ≡ concat texts) → OnErr appended ((count : ℕ) × (text ≡ concat (take count texts)))
      → Shown text appended a b result → Writes false texts a b result
  shown-so (Ok x) (Ok done) whole begun (is, s) = subst (λ (l : List ℕ). Appends a b l) whole s
  shown-so (Err e) (Ok done) whole begun (is, s) = absurd (let bad : false ≡ true = is in cc)
  shown-so (Ok x) (Err cut.Memory) whole begun (is, s) = absurd (let bad : false ≡ true = is in cc)
  shown-so (Err e) (Err cut.Memory) whole begun (is, s) = (begun.0, subst (λ (l : List ℕ). Appends a b l) begun.1 s)
  shown-so (Ok x) (Err cut.Failed) whole begun (count, s) =
      (length texts, count, subst (λ (l : List ℕ). Appends a b (take count l)) (whole ∙ ap concat (sym (take_all (length texts) texts (omega arith)))) s)
  shown-so (Err e) (Err cut.Failed) whole begun (count, s) = (begun.0, count, subst (λ (l : List ℕ). Appends a b (take count l)) begun.1 s)

  pub writes-shown : (speaks : Bool) (appended : Result A E) (result : Result Unit Why) → (speaks ≡ false → OnOk appended (text ≡ concat texts))
      → (speaks ≡ false → OnErr appended ((count : ℕ) × (text ≡ concat (take count texts)))) → Shown text appended a b result → Writes speaks texts a b result
  writes-shown true appended (Ok done) whole begun s = shown-some text appended a b (Ok done) s
  writes-shown true appended (Err why) whole begun s = shown-some text appended a b (Err why) s
  writes-shown false appended result whole begun s = shown-so appended result (whole refl) (begun refl) s

-- what holds where all was appended holds where all was written
pub on-shown : {A E : Type 0} (P : Type 0) (text : List ℕ) (appended : Result A E) (a b : Option (List ℕ)) (result : Result Unit Why) → Shown text appended a b result → OnOk appended P → OnOk result P
on-shown P text (Ok x) a b (Ok done) s p = p
on-shown P text (Err e) a b (Ok done) s p = absurd (let bad : false ≡ true = s.0 in cc)
on-shown P text (Ok x) a b (Err why) s p = tt
on-shown P text (Err e) a b (Err why) s p = tt

-- one more event is taken, and its line is appended, unless it speaks
pub told-one : {S : Type 0} (was voice voice' : Voice) (old mid new : ChannelModel S) (text text' text'' : List ℕ) (event : Event)
    → (was.speaks ≡ false → Took old mid text text') × (mid ≡ record old { happened = mid.happened }) × (voice ≡ was)
    → mid.happened ≡ event ∷ new.happened → new ≡ record mid { happened = new.happened } → (voice.speaks ≡ false → text'' ≡ text' ++ line_of event) → voice' ≡ voice
    → (was.speaks ≡ false → Took old new text text'') × (new ≡ record old { happened = new.happened }) × (voice' ≡ was)
told-one {S} was voice voice' old mid new text text' text'' event (took, same, so) first others line still = (
  λ is. took-one old mid new text text' text'' event (took is) first others (line (ap (λ (v : Voice). v.speaks) so ∙ is)),
  others ∙ ap (λ (c : ChannelModel S). record c { happened = new.happened }) same,
  still ∙ so,
)

-- the line of a state, behind an empty text
pub writes-state : {A E : Type 0} (speaks : Bool) (old text line : List ℕ) (a b : Option (List ℕ)) (appended : Result A E) (result : Result Unit Why) → old ≡ []
    → OnOk appended (text ≡ old ++ line) → OnErr appended (text ≡ old) → Shown text appended a b result → Writes speaks (line ∷ []) a b result
writes-state speaks old text line a b appended result empty whole kept s =
    writes-shown text (line ∷ []) a b speaks appended result (λ is. said appended whole) (λ is. unsaid appended kept) s
  where
    said : {A E : Type 0} (r : Result A E) → OnOk r (text ≡ old ++ line) → OnOk r (text ≡ line ++ [])
    said (Ok x) e = e ∙ ap (λ (l : List ℕ). l ++ line) empty ∙ sym (append-nil line)
    said (Err x) e = tt

    unsaid : {A E : Type 0} (r : Result A E) → OnErr r (text ≡ old) → OnErr r ((count : ℕ) × (text ≡ concat (take count (line ∷ []))))
    unsaid (Ok x) e = tt
    unsaid (Err x) e = (0, e ∙ empty)

-- ---- a turn

module _ {S : Type 0} (line_of_state : Address → S → List ℕ) where
  same-texts : (events : List Event) → own_texts line_of_state (map Happened events) ≡ texts_of (map Happens events)
  same-texts [] = refl
  same-texts (x ∷ events) = ap (λ (l : List (List ℕ)). line_of x ∷ l) (same-texts events)

  -- its events alone
  events-turn : (stable : Bool) (channel : ChannelModel S) → IsTurn stable channel (map Happened channel.happened)
  events-turn stable channel = ([], tt, tt, sym (append-nil (map Happened channel.happened)))

  -- the first of the lines of its events
  begun-events : (stable : Bool) (channel : ChannelModel S) (text text' : List ℕ)
      → (count : ℕ) × (text' ≡ text ++ concat (take count (texts_of (map Happens channel.happened))))
      → (lines : List (OwnLine S)) × IsTurn stable channel lines × ((count : ℕ) × (text' ≡ text ++ concat (take count (own_texts line_of_state lines))))
  begun-events stable channel text text' (count, begun) = (
    map Happened channel.happened,
    events-turn stable channel,
    (count, begun ∙ ap (λ (l : List (List ℕ)). text ++ concat (take count l)) (sym (same-texts channel.happened))),
  )

  -- they were appended, and then memory was refused
  pub appends-begun : {A E : Type 0} (stable : Bool) (channel : ChannelModel S) (text text' : List ℕ) (result : Result A E) → IsErr result
      → (count : ℕ) × (text' ≡ text ++ concat (take count (texts_of (map Happens channel.happened)))) → AppendsTurn line_of_state stable channel text text' result
  appends-begun stable channel text text' (Ok x) is begun = absurd (let bad : false ≡ true = is in cc)
  appends-begun stable channel text text' (Err e) is begun = begun-events stable channel text text' begun

  -- how many messages are stable
  pub appends-known : (stable : Bool) (channel : ChannelModel S) (p : Address) (view : ViewId) (count : ℕ) (text text' : List ℕ) → stable ≡ true → p ≡ channel.address
      → option_map (λ v. v.id) (view_in channel.stage) ≡ Some view → count ≡ stable_in channel.stage → text' ≡ text ++ stable_line p view count
      → AppendsSaid line_of_state stable channel text text'
  appends-known stable channel p view count text text' tells at is knows said = (
    Knows p view count ∷ [],
    ((tells, at, is, knows), tt),
    (tt, tt),
    said ∙ ap (λ (l : List ℕ). text ++ l) (sym (append-nil (stable_line p view count))),
  )

  -- what a channel knows where all is told it knew before
  told-says : (stable : Bool) (channel : ChannelModel S) (said : List (OwnLine S)) → AllByRecursion (Says stable (all_told channel)) said → AllByRecursion (Says stable channel) said
  told-says stable channel [] all = tt
  told-says stable channel (Happened event ∷ said) all = absurd all.0
  told-says stable channel (Knows p view count ∷ said) all = (all.0, told-says stable channel said all.1)
  told-says stable channel (InState p state ∷ said) all = (all.0, told-says stable channel said all.1)

  -- the lines of its events, and what it says behind them
  pub appends-said : {A E : Type 0} (stable : Bool) (channel channel' : ChannelModel S) (text mid text' : List ℕ) (result : Result A E)
      → mid ≡ text ++ concat (texts_of (map Happens channel.happened)) → channel' ≡ all_told channel
      → OnOk result (AppendsSaid line_of_state stable channel' mid text') → OnErr result (text' ≡ mid) → AppendsTurn line_of_state stable channel text text' result
  appends-said stable channel channel' text mid text' (Ok x) first told (said, says, plain, is) kept = (
    map Happened channel.happened ++ said,
    (said, told-says stable channel said (subst (λ (c : ChannelModel S). AllByRecursion (Says stable c) said) told says), plain, refl),
    is ∙ ap (λ (l : List ℕ). l ++ concat (own_texts line_of_state said)) (first ∙ ap (λ (l : List (List ℕ)). text ++ concat l) (sym (same-texts channel.happened)))
        ∙ append_assoc text (concat (own_texts line_of_state (map Happened channel.happened))) (concat (own_texts line_of_state said))
        ∙ ap (λ (l : List ℕ). text ++ l) (sym (concat-append (own_texts line_of_state (map Happened channel.happened)) (own_texts line_of_state said))
        ∙ ap concat (sym (map-append (text_of line_of_state) (map Happened channel.happened) said))),
  )
  appends-said stable channel channel' text mid text' (Err e) first told said kept = (
    map Happened channel.happened,
    events-turn stable channel,
    (
      length (own_texts line_of_state (map Happened channel.happened)),
      kept ∙ first ∙ ap (λ (l : List (List ℕ)). text ++ concat l)
          (sym (same-texts channel.happened) ∙ sym (take_all (length (own_texts line_of_state (map Happened channel.happened))) (own_texts line_of_state (map Happened channel.happened)) (omega arith))),
    ),
  )

  -- a turn that was appended to an empty text is written
  pub writes-turn : {A E : Type 0} (voice : Voice) (old text : List ℕ) (channel : ChannelModel S) (a b : Option (List ℕ)) (appended : Result A E) (result : Result Unit Why) → old ≡ []
      → (voice.speaks ≡ false → AppendsTurn line_of_state voice.stable channel old text appended) → Shown text appended a b result → WritesTurn line_of_state voice channel a b result
  writes-turn {A} {E} voice old text channel a b appended result empty said s = by voice.speaks refl
    where
      told : (r : Result A E) → AppendsTurn line_of_state voice.stable channel old text r → Shown text r a b result
          → (lines : List (OwnLine S)) × IsTurn voice.stable channel lines × Writes false (own_texts line_of_state lines) a b result
      told (Ok x) (lines, turn, whole) f = (
        lines,
        turn,
        shown-so {A = A} {E = E} text (own_texts line_of_state lines) a b (Ok x) result (whole ∙ ap (λ (l : List ℕ). l ++ concat (own_texts line_of_state lines)) empty) tt f,
      )
      told (Err e) (lines, turn, (count, begun)) f = (
        lines,
        turn,
        shown-so {A = A} {E = E} text (own_texts line_of_state lines) a b (Err e) result tt
            (count, begun ∙ ap (λ (l : List ℕ). l ++ concat (take count (own_texts line_of_state lines))) empty) f,
      )

      by : (k : Bool) → voice.speaks ≡ k → WritesTurn line_of_state voice channel a b result
      by true is = (
        map Happened channel.happened,
        events-turn voice.stable channel,
        subst (λ (k : Bool). Writes k (own_texts line_of_state (map Happened channel.happened)) a b result) (sym is) (any result (shown-some text appended a b result s)),
      )
        where
          any : (r : Result Unit Why) → TakesMore a b → Writes true (own_texts line_of_state (map Happened channel.happened)) a b r
          any (Ok done) t = t
          any (Err why) t = t
      by false is =
          let t = told appended (said is) s in
          (t.0, t.1, subst (λ (k : Bool). Writes k (own_texts line_of_state t.0) a b result) (sym is) t.2)

-- ---- calls

-- a payload that may be said in the view in which a member is may be said wherever that is the view
pub that-said : {S : Type 0} (May : ViewId → List ℕ → Type 0) (stage : Stage S) (payload : List ℕ) → ((view : View) → view_in stage ≡ Some view → May view.id payload)
    → (v : ViewId) (said : List ℕ) → IsThat stage payload v said → May v said
that-said May stage payload may v said (view, at, is, same) = subst (λ (l : List ℕ). May v l) (sym same) (subst (λ (i : ViewId). May i payload) is (may view at))

-- a call that says nothing says only what may be said
pub nothing-said : {S : Type 0} (May : ViewId → List ℕ → Type 0) (stage : Stage S) (call : Call) → says_nothing call ≡ true → (v : ViewId) (said : List ℕ) → SaidBy stage call v said → May v said
nothing-said May stage calls.Create none v said x = absurd x
nothing-said May stage (calls.Join contact) none v said x = absurd x
nothing-said May stage (calls.Send payload) none v said x = absurd (let bad : false ≡ true = none in cc)
nothing-said May stage calls.Tick none v said x = absurd x
nothing-said May stage (calls.Suspect q) none v said x = absurd x
nothing-said May stage (calls.MergeHint q) none v said x = absurd x
nothing-said May stage calls.Leave none v said x = absurd x

-- the first call of its plan was made
pub begins-call : {N S : Type 0} (meaning : Meaning S) (group : List ℕ) (first : Option Call) (call : Call) (a b : Driven N S) → first ≡ Some call
    → (failure : Option Error) × MakesCall meaning group call a failure b → (gave : Bool) × BeginsBy meaning group a first gave b
begins-call meaning group first call a b is (failure, m) =
    (falls a.channel.stage failure, subst (λ (o : Option Call). BeginsBy meaning group a o (falls a.channel.stage failure) b) (sym is) (Calling call failure b m))

module _ {N S : Type 0} (log : N → Option Log) (failed : N → ℕ) (May : ViewId → List ℕ → Type 0) (meaning : Meaning S) (group : List ℕ) where
  abbrev Quiet : Driven N S → Driven N S → Type 0
  Quiet a b = Quietly log failed May meaning group a b

  abbrev Held : Driven N S → List Event → Bool → Driven N S → Type 0
  Held a taken fell b = DrivesWithoutOffer log failed May meaning group a taken fell b

  pub quiet-none : (a : Driven N S) → Quiet a a
  quiet-none a = (false, Still)

  pub quiet-then : (a b c : Driven N S) → Quiet a b → Quiet b c → Quiet a c
  quiet-then a b c (f, x) (g, y) = (f || g, held-then log failed May meaning group a b c [] [] f g x y)

  pub quiet-one : (a b : Driven N S) (failure : Option Error) → MakesNoOffer log failed May meaning group a [] failure b → Quiet a b
  quiet-one a b failure m = (_, held-one log failed May meaning group a b [] failure m)

  pub quiet-by : (a b : Driven N S) (failure : Option Error) (m : Makes log failed meaning group a [] failure b) → is_offer m ≡ false → SaysOnly May m → Quiet a b
  quiet-by a b failure m none says = quiet-one a b failure (record { call = m; no_offer = none; says = says })

  pub quiet-as : (a b : Driven N S) → b ≡ a → Quiet a b
  quiet-as a b same = subst (λ (r : Driven N S). Quiet a r) (sym same) (quiet-none a)

  -- a call that says no more than may be said, or none
  pub quiet-sent : {A E : Type 0} (Least : ViewId → List ℕ → Type 0) → ((v : ViewId) (payload : List ℕ) → Least v payload → May v payload) → (a b : Driven N S)
      (result : Result (Result A Error) E) → IfOk result (λ answer. MakesNoOffer log failed Least meaning group a [] (result_err answer) b) → IfErr result (λ e. b ≡ a) → Quiet a b
  quiet-sent Least more a b (Ok answer) called uncalled =
      quiet-one a b (result_err answer)
      (record { call = called.call; no_offer = called.no_offer; says = says-more Least meaning log failed May more group a [] (result_err answer) b called.call called.says })
  quiet-sent Least more a b (Err e) called uncalled = quiet-as a b uncalled

  -- ---- what is told

  module _ (line_of_state : Address → S → List ℕ) (voice : Voice) where
    abbrev First : Driven N S → List (OwnLine S) → List (OwnLine S) → Bool → Driven N S → Type 0
    First a lines stood fell b = TellsFirst log failed May meaning group voice.stable a lines stood fell b

    abbrev By : List (OwnLine S) → Driven N S → Driven N S → Option (List ℕ) → Option (List ℕ) → Result Unit Why → Type 0
    By lines a b u v result = Tells log failed May meaning line_of_state group voice lines a b u v result

    abbrev Told : Driven N S → Driven N S → Option (List ℕ) → Option (List ℕ) → Result Unit Why → Type 0
    Told a b u v result = TellsOn log failed May meaning line_of_state group voice a b u v result

    abbrev texts : List (OwnLine S) → List (List ℕ)
    texts lines = own_texts line_of_state lines

    texts-then : (xs ys : List (OwnLine S)) → texts (xs ++ ys) ≡ texts xs ++ texts ys
    texts-then xs ys = map-append (text_of line_of_state) xs ys

    -- whatever was written, the writer took some
    writes-some : (speaks : Bool) (l : List (List ℕ)) (u v : Option (List ℕ)) (result : Result Unit Why) → Writes speaks l u v result → TakesMore u v
    writes-some true l u v (Ok done) t = t
    writes-some true l u v (Err why) t = t
    writes-some false l u v (Ok done) t = record { text = concat l; appends = t }
    writes-some false l u v (Err cut.Memory) (count, t) = record { text = concat (take count l); appends = t }
    writes-some false l u v (Err cut.Failed) (count, bytes, t) = record { text = take bytes (concat (take count l)); appends = t }

    least-none : (u v : Option (List ℕ)) → TakesMore u v → BeginsWith (texts []) u v
    least-none u v t = (t.text, t.appends)

    least-more : (l : List (OwnLine S)) (u v w : Option (List ℕ)) → BeginsWith (texts l) u v → TakesMore v w → BeginsWith (texts l) u w
    least-more l u v w (rest, f) t =
        (rest ++ t.text, subst (λ (k : List ℕ). Appends u w k) (append_assoc (concat (texts l)) rest t.text) (appends_then u v w (concat (texts l) ++ rest) t.text f t.appends))

    least-behind : (xs l : List (OwnLine S)) (u v w : Option (List ℕ)) → Appends u v (concat (texts xs)) → BeginsWith (texts l) v w → BeginsWith (texts (xs ++ l)) u w
    least-behind xs l u v w f (rest, g) = (
      rest,
      subst (λ (k : List ℕ). Appends u w k)
          (sym (append_assoc (concat (texts xs)) (concat (texts l)) rest) ∙ ap (λ (k : List ℕ). k ++ rest) (sym (concat-append (texts xs) (texts l)) ∙ ap concat (sym (texts-then xs l))))
          (appends_then u v w (concat (texts xs)) (concat (texts l) ++ rest) f g),
    )

    least-all : (l : List (OwnLine S)) (u v : Option (List ℕ)) → Appends u v (concat (texts l)) → BeginsWith (texts l) u v
    least-all l u v f = ([], subst (λ (k : List ℕ). Appends u v k) (sym (append-nil (concat (texts l)))) f)

    -- where it does not speak, texts are shown as they are
    shows-as : (l : List (List ℕ)) (u v : Option (List ℕ)) → voice.speaks ≡ false → Shows voice.speaks l u v → Appends u v (concat l)
    shows-as l u v is s = subst (λ (k : Bool). Shows k l u v) is s

    on-any : {P : Type 0} (r : Result Unit Why) → P → OnOk r P
    on-any (Ok done) p = p
    on-any (Err why) p = tt

    -- calls without an offer, by which nothing is told
    by-held : (a b : Driven N S) (fell : Bool) (u : Option (List ℕ)) → Held a [] fell b → b.channel.happened ≡ [] → By [] a b u u (Ok tt)
    by-held a b fell u held told = record {
      stood = [];
      fell = fell;
      last = b;
      first = TellsAll [] [] false a [] fell b Begins held told;
      told = told;
      writes = shows-none voice.speaks u;
      least = λ is. least-none u u (takes-none u);
      ends = refl;
      net = refl;
    }

    -- a line that says what its channel knows
    by-line : (a : Driven N S) (line : OwnLine S) (u v : Option (List ℕ)) (result : Result Unit Why) → Says voice.stable a.channel line → a.channel.happened ≡ []
        → Writes voice.speaks (texts (line ∷ [])) u v result → By (line ∷ []) a a u v result
    by-line a line u v result says told writes = record {
      stood = [];
      fell = false;
      last = a;
      first = AddsLine [] [] false a line Begins told says;
      told = told;
      writes = writes;
      least = λ is. least-none u v (writes-some voice.speaks (texts (line ∷ [])) u v result writes);
      ends = on-any result refl;
      net = refl;
    }

    by-then : (xs ys : List (OwnLine S)) (a b c : Driven N S) (u v w : Option (List ℕ)) (result : Result Unit Why) → By xs a b u v (Ok tt) → By ys b c v w result
        → By (xs ++ ys) a c u w result
    by-then xs ys a b c u v w result s t =
        let r = first-then log failed May meaning group voice.stable a b t.last xs ys s.stood t.stood s.fell t.fell (subst (λ (d : Driven N S). First a xs s.stood s.fell d) (sym s.ends) s.first) t.first in
        record {
          stood = r.0;
          fell = s.fell || t.fell;
          last = t.last;
          first = r.1;
          told = t.told;
          writes = subst (λ (l : List (List ℕ)). Writes voice.speaks l u w result) (sym (texts-then xs ys)) (writes-then voice.speaks (texts xs) (texts ys) u v w result s.writes t.writes);
          least = λ is. least r.0 is r.2;
          ends = t.ends;
          net = t.net;
        }
      where
        least : (l : List (OwnLine S)) → voice.speaks ≡ false → (l ≡ s.stood) ⊎ (l ≡ xs ++ t.stood) → BeginsWith (texts l) u w
        least l is (inl e) =
            subst (λ (k : List (OwnLine S)). BeginsWith (texts k) u w) (sym e) (least-more s.stood u v w (s.least is) (writes-some voice.speaks (texts ys) v w result t.writes))
        least l is (inr e) =
            subst (λ (k : List (OwnLine S)). BeginsWith (texts k) u w) (sym e) (least-behind xs t.stood u v w (shows-as (texts xs) u v is s.writes) (t.least is))

    by-as : (xs ys : List (OwnLine S)) (a b : Driven N S) (u v : Option (List ℕ)) (result : Result Unit Why) → xs ≡ ys → By xs a b u v result → By ys a b u v result
    by-as xs ys a b u v result same t = record {
      stood = t.stood;
      fell = t.fell;
      last = t.last;
      first = subst (λ (l : List (OwnLine S)). First a l t.stood t.fell t.last) same t.first;
      told = t.told;
      writes = subst (λ (l : List (OwnLine S)). Writes voice.speaks (texts l) u v result) same t.writes;
      least = t.least;
      ends = t.ends;
      net = t.net;
    }

    -- all was told, whatever is answered
    by-went : (xs : List (OwnLine S)) (a b : Driven N S) (u v : Option (List ℕ)) (result : Result Unit Why) → By xs a b u v (Ok tt) → By xs a b u v result
    by-went xs a b u v result t = record {
      stood = t.stood;
      fell = t.fell;
      last = t.last;
      first = t.first;
      told = t.told;
      writes = writes-whole voice.speaks (texts xs) u v result t.writes;
      least = t.least;
      ends = on-any result t.ends;
      net = t.net;
    }

    -- where it is cut short, the net alone counts of what is left
    by-left : (xs : List (OwnLine S)) (a b c : Driven N S) (u v : Option (List ℕ)) (why : Why) → By xs a b u v (Err why) → c.net ≡ b.net → By xs a c u v (Err why)
    by-left xs a b c u v why t same = record {
      stood = t.stood;
      fell = t.fell;
      last = t.last;
      first = t.first;
      told = t.told;
      writes = t.writes;
      least = t.least;
      ends = tt;
      net = same ∙ t.net;
    }

    -- what is cut short is a beginning of more
    by-cut : (xs : List (OwnLine S)) (line : OwnLine S) (a b : Driven N S) (u v : Option (List ℕ)) (why : Why) (t : By xs a b u v (Err why)) → Says voice.stable t.last.channel line
        → By (xs ++ line ∷ []) a b u v (Err why)
    by-cut xs line a b u v why t says = record {
      stood = t.stood;
      fell = t.fell;
      last = t.last;
      first = AddsLine xs t.stood t.fell t.last line t.first t.told says;
      told = t.told;
      writes = subst (λ (l : List (List ℕ)). Writes voice.speaks l u v (Err why)) (sym (texts-then xs (line ∷ []))) (begun-front voice.speaks why (texts xs) (texts (line ∷ [])) u v t.writes);
      least = t.least;
      ends = tt;
      net = t.net;
    }

    -- ---- turns

    -- nothing is done
    pub tells-none : (a : Driven N S) (u : Option (List ℕ)) → a.channel.happened ≡ [] → Told a a u u (Ok tt)
    tells-none a u none = record { lines = []; plain = tt; tells = by-held a a false u Still none }

    pub tells-then : (a b c : Driven N S) (u v w : Option (List ℕ)) (result : Result Unit Why) → Told a b u v (Ok tt) → Told b c v w result → Told a c u w result
    tells-then a b c u v w result s t = record {
      lines = s.lines ++ t.lines;
      plain = all-then IsPlain s.lines t.lines s.plain t.plain;
      tells = by-then s.lines t.lines a b c u v w result s.tells t.tells;
    }

    pub tells-went : (a b : Driven N S) (u v : Option (List ℕ)) (result : Result Unit Why) → Told a b u v (Ok tt) → Told a b u v result
    tells-went a b u v result t = record { lines = t.lines; plain = t.plain; tells = by-went t.lines a b u v result t.tells }

    -- all that it tells is told
    pub told-all : (a b : Driven N S) (u v : Option (List ℕ)) → Told a b u v (Ok tt) → b.channel.happened ≡ []
    told-all a b u v t = ap (λ (r : Driven N S). r.channel.happened) t.tells.ends ∙ t.tells.told

    -- then it waits, and answers anything
    pub tells-waits : (a b c : Driven N S) (u v : Option (List ℕ)) (result : Result Unit Why) → Told a b u v (Ok tt) → Waits log b c → Told a c u v result
    tells-waits a b c u v result t w =
        let same : c.channel ≡ b.channel = ap (λ (r : Driven N S). r.channel) w.1 in
        let told : c.channel.happened ≡ [] = ap (λ (d : ChannelModel S). d.happened) same ∙ told-all a b u v t in
        tells-went a c u v result (tells-then a b c u v v (Ok tt) t
        (record { lines = []; plain = tt; tells = by-held b c _ v (held-one log failed May meaning group b c [] None (record { call = Wait c w.0 same; no_offer = refl; says = tt })) told }))

    -- calls that offer nothing, and a line for each event that is told then
    quiet-told : (a b : Driven N S) (f : Bool) → Held a [] f b → First a (map Happened b.channel.happened) [] (f || false) (record b { channel = all_told b.channel })
    quiet-told a b f held =
        TellsAll [] [] false a b.channel.happened (f || false) (record b { channel = all_told b.channel }) Begins
        (held-then log failed May meaning group a b (record b { channel = all_told b.channel }) [] b.channel.happened f false held (held-told log failed May meaning group b.channel.happened b refl)) refl

    -- it is cut short before anything is written
    pub tells-cut : (a b : Driven N S) (u : Option (List ℕ)) (why : Why) → b.net ≡ a.net → Told a b u u (Err why)
    tells-cut a b u why net = record {
      lines = map Happened a.channel.happened;
      plain = happen-plain S a.channel.happened;
      tells = record {
        stood = [];
        fell = false;
        last = record a { channel = all_told a.channel };
        first = quiet-told a a false Still;
        told = refl;
        writes = begun-none voice.speaks why (texts (map Happened a.channel.happened)) u;
        least = λ is. least-none u u (takes-none u);
        ends = tt;
        net = net;
      };
    }

    -- what a channel knows it knows where all is told
    says-told : (channel : ChannelModel S) (said : List (OwnLine S)) → AllByRecursion (Says voice.stable channel) said → AllByRecursion (Says voice.stable (all_told channel)) said
    says-told channel [] all = tt
    says-told channel (Happened event ∷ said) all = absurd all.0
    says-told channel (Knows p view count ∷ said) all = (all.0, says-told channel said all.1)
    says-told channel (InState p state ∷ said) all = (all.0, says-told channel said all.1)

    -- a turn: calls that offer nothing, what is told then, and offers
    pub tells-turn : (a b c : Driven N S) (u v : Option (List ℕ)) (result : Result Unit Why) → Quiet a b → WritesTurn line_of_state voice b.channel u v result
        → ThenOffers log failed b c result → Told a c u v result
    tells-turn a b c u v result (f, held) (lines, (said, says, plain, are), writes) offers = by result writes offers
      where
        b' : Driven N S
        b' = record b { channel = all_told b.channel }

        first : First a lines [] (f || false) b'
        first = subst (λ (l : List (OwnLine S)). First a l [] (f || false) b') (sym are)
            (first-said log failed May meaning group voice.stable a b' (map Happened b.channel.happened) [] said (f || false) (quiet-told a b f held) refl (says-told b.channel said says))

        all-plain : AllByRecursion IsPlain lines
        all-plain = subst (λ (l : List (OwnLine S)). AllByRecursion IsPlain l) (sym are)
            (all-then IsPlain (map Happened b.channel.happened) said (happen-plain S b.channel.happened) plain)

        by : (r : Result Unit Why) → Writes voice.speaks (texts lines) u v r → ThenOffers log failed b c r → Told a c u v r
        by (Ok done) w o = record {
          lines = lines;
          plain = all-plain;
          tells = record {
            stood = lines;
            fell = f || false;
            last = c;
            first = OffersAll lines [] (f || false) b' c first refl o;
            told = ap (λ (d : ChannelModel S). d.happened) o.channel_is;
            writes = w;
            least = λ is. least-all lines u v (shows-as (texts lines) u v is w);
            ends = refl;
            net = refl;
          };
        }
        by (Err why) w o = record {
          lines = lines;
          plain = all-plain;
          tells = record {
            stood = [];
            fell = f || false;
            last = b';
            first = first;
            told = refl;
            writes = w;
            least = λ is. least-none u v (writes-some voice.speaks (texts lines) u v (Err why) w);
            ends = tt;
            net = o;
          };
        }

    -- ---- by its plan

    -- what a channel told at its beginning it tells from there
    pub begins-turn : (call : Option Call) (a b c : Driven N S) (u v : Option (List ℕ)) (result : Result Unit Why) → (gave : Bool) × BeginsBy meaning group a call gave b
        → WritesTurn line_of_state voice b.channel u v result → ThenOffers log failed b c result
        → TellsFrom log failed May meaning line_of_state group voice call a c u v result
    begins-turn call a b c u v result (gave, begins) writes offers =
        record { gave = gave; begun = b; begins = begins; tells = tells-turn b b c u v result (quiet-none b) writes offers }

    pub from-went : (call : Option Call) (a b : Driven N S) (u v : Option (List ℕ)) (result : Result Unit Why) → TellsFrom log failed May meaning line_of_state group voice call a b u v (Ok tt)
        → TellsFrom log failed May meaning line_of_state group voice call a b u v result
    from-went call a b u v result t =
        record { gave = t.gave; begun = t.begun; begins = t.begins; tells = tells-went t.begun b u v result t.tells }

    pub from-then : (call : Option Call) (a b c : Driven N S) (u v w : Option (List ℕ)) (result : Result Unit Why) → TellsFrom log failed May meaning line_of_state group voice call a b u v (Ok tt)
        → Told b c v w result → TellsFrom log failed May meaning line_of_state group voice call a c u w result
    from-then call a b c u v w result s t =
        record { gave = s.gave; begun = s.begun; begins = s.begins; tells = tells-then s.begun b c u v w result s.tells t }

    -- nothing is done at the end
    pub end-none : (a : Driven N S) (u : Option (List ℕ)) → a.channel.happened ≡ [] → TellsEnd log failed May meaning line_of_state group voice false a a u u (Ok tt)
    unfolding tells-none by-held
    end-none a u none = record { told = tells-none a u none; ends = Stays }

    -- it leaves, and that is told
    pub end-turn : (is_to : Bool) (failure : Option Error) (a b c : Driven N S) (u v : Option (List ℕ)) (result : Result Unit Why) → MakesCall meaning group calls.Leave a failure b
        → WritesTurn line_of_state voice b.channel u v result → ThenOffers log failed b c result
        → TellsEnd log failed May meaning line_of_state group voice is_to a c u v result
    unfolding tells-turn
    end-turn is_to failure a b c u v result m writes offers = by result writes offers
      where
        quiet : Quiet a b
        quiet = subst (λ (r : Driven N S). Quiet a r) (sym m.2)
            (quiet-by a (with_channel a b.channel) failure (Hand calls_input.Leave failure b.channel refl m.0 m.1) refl (λ v at. tt))

        by : (r : Result Unit Why) → WritesTurn line_of_state voice b.channel u v r → ThenOffers log failed b c r → TellsEnd log failed May meaning line_of_state group voice is_to a c u v r
        by (Ok done) w o = record { told = tells-turn a b c u v (Ok done) quiet w o; ends = Leaves is_to failure b w.0 c m w.1 o }
        by (Err why) w o = record { told = tells-turn a b c u v (Err why) quiet w o; ends = tt }

    pub end-went : (is_to : Bool) (a b : Driven N S) (u v : Option (List ℕ)) (result : Result Unit Why) → TellsEnd log failed May meaning line_of_state group voice is_to a b u v (Ok tt)
        → TellsEnd log failed May meaning line_of_state group voice is_to a b u v result
    end-went is_to a b u v (Ok done) t = t
    end-went is_to a b u v (Err why) t = record { told = tells-went a b u v (Err why) t.told; ends = tt }

    -- ---- alone

    module _ (member : Address) (call : Option Call) (leaves : Bool) where
      abbrev Alone : Driven N S → Driven N S → Option (List ℕ) → Option (List ℕ) → Result Unit Why → Type 0
      Alone a b u v result = PlaysAlone log failed May meaning line_of_state group member voice call leaves a b u v result

      abbrev From : Driven N S → Driven N S → Option (List ℕ) → Option (List ℕ) → Result Unit Why → Type 0
      From a b u v result = TellsFrom log failed May meaning line_of_state group voice call a b u v result

      abbrev state : Driven N S → OwnLine S
      state r = InState member (receiver_in r.channel.stage)

      -- it is cut short before its state is written
      pub alone-cut : (a b : Driven N S) (u v : Option (List ℕ)) (why : Why) → From a b u v (Err why) → Alone a b u v (Err why)
      alone-cut a b u v why f = let t = f.tells in record {
        gave = f.gave;
        begun = f.begun;
        begins = f.begins;
        front = t.lines;
        back = [];
        plain = t.plain;
        plain' = tt;
        stood = t.tells.stood;
        fell = t.tells.fell;
        shown = t.tells.last;
        till_shown = t.tells.first;
        told = t.tells.told;
        tells = by-cut t.lines (state t.tells.last) f.begun b u v why t.tells refl;
        ends = tt;
      }

      -- where all was told so far
      so-far : (a b : Driven N S) (u v : Option (List ℕ)) (t : Told a b u v (Ok tt)) → First a t.lines t.tells.stood t.tells.fell b
      so-far a b u v t = subst (λ (r : Driven N S). First a t.lines t.tells.stood t.tells.fell r) (sym t.tells.ends) t.tells.first

      -- as its state is written
      pub alone-shown : (a b c : Driven N S) (u v w : Option (List ℕ)) (why : Why) → From a b u v (Ok tt) → ShowsBegun voice.speaks (texts (state b ∷ [])) v w why → c.net ≡ b.net
          → Alone a c u w (Err why)
      alone-shown a b c u v w why f s same = let t = f.tells in record {
        gave = f.gave;
        begun = f.begun;
        begins = f.begins;
        front = t.lines;
        back = [];
        plain = t.plain;
        plain' = tt;
        stood = t.tells.stood;
        fell = t.tells.fell;
        shown = b;
        till_shown = so-far f.begun b u v t;
        told = told-all f.begun b u v t;
        tells = by-left (t.lines ++ state b ∷ []) f.begun b c u w why
            (by-then t.lines (state b ∷ []) f.begun b b u v w (Err why) t.tells (by-line b (state b) v w (Err why) refl (told-all f.begun b u v t) s)) same;
        ends = tt;
      }

      -- and then it leaves, or does not
      pub alone-left : (a b c : Driven N S) (u v w x : Option (List ℕ)) (result : Result Unit Why) → From a b u v (Ok tt) → Shows voice.speaks (texts (state b ∷ [])) v w
          → TellsEnd log failed May meaning line_of_state group voice leaves b c w x result → Alone a c u x result
      unfolding by-as by-then
      alone-left a b c u v w x result f s e = let t = f.tells in let l = e.told in record {
        gave = f.gave;
        begun = f.begun;
        begins = f.begins;
        front = t.lines;
        back = l.lines;
        plain = t.plain;
        plain' = l.plain;
        stood = t.tells.stood;
        fell = t.tells.fell;
        shown = b;
        till_shown = so-far f.begun b u v t;
        told = told-all f.begun b u v t;
        tells = by-as (t.lines ++ state b ∷ [] ++ l.lines) (t.lines ++ state b ∷ l.lines) f.begun c u x result (append_assoc t.lines (state b ∷ []) l.lines)
            (by-then (t.lines ++ state b ∷ []) l.lines f.begun b c u w x result
            (by-then t.lines (state b ∷ []) f.begun b b u v w (Ok tt) t.tells (by-line b (state b) v w (Ok tt) refl (told-all f.begun b u v t) s)) l.tells);
        ends = e.ends;
      }

      -- it begins, has its rounds, shows its state, and ends
      pub alone-whole : (a m b c : Driven N S) (u v w x y : Option (List ℕ)) (result : Result Unit Why) → From a m u v (Ok tt) → (m.channel.happened ≡ [] → Told m b v w (Ok tt))
          → Shows voice.speaks (texts (state b ∷ [])) w x → (b.channel.happened ≡ [] → TellsEnd log failed May meaning line_of_state group voice leaves b c x y result) → Alone a c u y result
      alone-whole a m b c u v w x y result f t s e =
          let first = from-then call a m b u v w (Ok tt) f (t (told-all f.begun m u v f.tells)) in
          alone-left a b c u w x y result first s (e (told-all first.begun b u w first.tells))
