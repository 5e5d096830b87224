-- What is told before anything is offered: calls without an offer, and runs that tell first, one after another.
use Rattle.std.proofs.Common.{◌≡◌, ℕ, Bool, true, false, ◌||◌, inl, inr, ◌⊎◌, Option, None, Some, option_map, Result, Ok, Err, IfErr, IfSome, List, [], ◌∷◌, ◌++◌, map, refl, sym, ap, ◌∙◌, subst}
use Rattle.std.proofs.Math.Bool.{or_assoc, or-false}
use Rattle.std.specs.Prelude.{⊤}
use Rattle.std.specs.List.{AllByRecursion}
use Rattle.std.specs.Result.{result_err}
use Rattle.std.proofs.lemmas.List.{append-nil, append_assoc}
use Rattle.std.proofs.lemmas.List.Elements.{filter_map-append}
use Rattle.address.specs.Ids.{Address, ViewId}
use Rattle.state_transfer.specs.Meanings.{Meaning}
use Rattle.trace_props.specs.declared.event.Event.{Event}
use Rattle.trace_props.specs.Observed.{member_of}
use Rattle.member.specs.declared.error.Error.{Error}
use Rattle.member.specs.declared.input.Input.TheVariants as input
use Rattle.channel.specs.Channels.{ChannelModel, left_by, view_in}
use Rattle.member.specs.declared.input.Input.{Input}
use Rattle.view.specs.Members.{View}
use Rattle.channel.specs.Calls.{Calls, CallsLent}
use Rattle.udp_net.specs.Logs.{Log}
use Rattle.udp_member.specs.Turns.{Driven}
use Rattle.law_runners.specs.Plays.{LeftBy, falls}
use Rattle.law_runners.specs.Runs.{Create, Join, Send, Hand, Offer, Take, MakesNoOffer, Drives, Begun, Further, DrivesWithoutOffer, Still, Called, with_channel}
use Rattle.udp_runs.specs.Processes.{all_told}
use Rattle.udp_runs.specs.OwnLines.{OwnLine, Happened, Knows, InState, IsPlain, IsOwn, Says, event_in, events_in}
use Rattle.law_runners.specs.Items.{datagram_in}
use Rattle.udp_runs.specs.declared.calls.Call.{Call}
use Rattle.udp_runs.specs.declared.calls.Call.TheVariants as calls
use Rattle.udp_runs.specs.Calls.{MakesCall}
use Rattle.udp_runs.specs.Said.{IsThat, says_nothing}
use Rattle.udp_runs.specs.Telling.{TellsFirst, Begins, TellsAll, AddsLine, OffersAll, BeginsBy, Waiting, Calling}
use Rattle.law_processes.specs.Said.{IsSaid, AreSaid, Says as SaysInput}
use Rattle.law_processes.proofs.SendsWereAsked.{said-append}
use Rattle.law_runners.proofs.SendsAreSaid.{drives-said}
use Rattle.udp_runs.proofs.ProcessesTurn.{drives-then, drives-one, falls-none}

-- ---- lines

pub all-then : {X : Type 0} (P : X → Type 0) (xs ys : List X) → AllByRecursion P xs → AllByRecursion P ys → AllByRecursion P (xs ++ ys)
all-then P [] ys a b = b
all-then P (x ∷ xs) ys a b = (a.0, all-then P xs ys a.1 b)

pub happen-plain : (S : Type 0) (events : List Event) → AllByRecursion (IsPlain {S = S}) (map Happened events)
happen-plain S [] = tt
happen-plain S (x ∷ events) = (tt, happen-plain S events)

pub events-then : {S : Type 0} (xs ys : List (OwnLine S)) → events_in (xs ++ ys) ≡ events_in xs ++ events_in ys
events-then xs ys = filter_map-append event_in xs ys

pub events-happen : (S : Type 0) (events : List Event) → events_in {S = S} (map Happened events) ≡ events
events-happen S [] = refl
events-happen S (x ∷ events) = ap (λ (l : List Event). x ∷ l) (events-happen S events)

-- all lines are of one member where all events are, and what else it says
pub own-then : {S : Type 0} (member : Address) (lines : List (OwnLine S)) (events : List Event) → AllByRecursion (IsOwn member) lines → AllByRecursion (λ e. member_of e ≡ member) events
    → AllByRecursion (IsOwn member) (lines ++ map Happened events)
own-then {S} member lines events own all = all-then (IsOwn member) lines (map Happened events) own (each events all)
  where
    each : (xs : List Event) → AllByRecursion (λ e. member_of e ≡ member) xs → AllByRecursion (IsOwn {S = S} member) (map Happened xs)
    each [] a = tt
    each (x ∷ xs) a = (a.0, each xs a.1)

-- a line that shows a state is of this member
abbrev pub NamesOwn : {S : Type 0} → Address → OwnLine S → Type 0
NamesOwn member (Happened event) = ⊤
NamesOwn member (Knows p view count) = ⊤
NamesOwn member (InState p state) = p ≡ member

pub plain-names : {S : Type 0} (member : Address) (lines : List (OwnLine S)) → AllByRecursion IsPlain lines → AllByRecursion (NamesOwn member) lines
plain-names member [] plain = tt
plain-names member (Happened event ∷ lines) plain = (tt, plain-names member lines plain.1)
plain-names member (Knows p view count ∷ lines) plain = (tt, plain-names member lines plain.1)
plain-names member (InState p state ∷ lines) plain = absurd plain.0

-- of what is one behind the other, what is before and what is behind
all-front : {X : Type 0} (P : X → Type 0) (xs ys : List X) → AllByRecursion P (xs ++ ys) → AllByRecursion P xs
all-front P [] ys a = tt
all-front P (x ∷ xs) ys a = (a.0, all-front P xs ys a.1)

all-behind : {X : Type 0} (P : X → Type 0) (xs ys : List X) → AllByRecursion P (xs ++ ys) → AllByRecursion P ys
all-behind P [] ys a = a
all-behind P (x ∷ xs) ys a = all-behind P xs ys a.1

-- a line that says what a channel knows is of no event
says-none : {S : Type 0} (stable : Bool) (channel : ChannelModel S) (line : OwnLine S) → Says stable channel line → event_in line ≡ None
says-none stable channel (Happened event) s = absurd s
says-none stable channel (Knows p view count) s = refl
says-none stable channel (InState p state) s = refl

no-event : {S : Type 0} (lines : List (OwnLine S)) (line : OwnLine S) → event_in line ≡ None → events_in (lines ++ line ∷ []) ≡ events_in lines
no-event lines line none =
    events-then lines (line ∷ []) ∙ ap (λ (l : List Event). events_in lines ++ l) (alone line none) ∙ append-nil (events_in lines)
  where
    alone : {S : Type 0} (line : OwnLine S) → event_in line ≡ None → events_in (line ∷ []) ≡ []
    alone (Happened event) e = absurd (cc)
    alone (Knows p view count) e = refl
    alone (InState p state) e = refl

left-of : {S A B : Type 0} (old new : ChannelModel S) (result : Result A (B × Error)) → IfErr result (λ r. new ≡ left_by r.1 old) → LeftBy (option_map (λ r. r.1) (result_err result)) old new
left-of old new (Ok x) left = tt
left-of old new (Err e) left = left

-- a message is sent, or refused
pub sent-so : {N S A B : Type 0} (log : N → Option Log) (failed : N → ℕ) (meaning : Meaning S) (group : List ℕ) (r : Driven N S) (payload bytes : List ℕ) → bytes ≡ payload
    → (channel : ChannelModel S) (result : Result A (B × Error)) (answer : Option Error) → answer ≡ option_map (λ r. r.1) (result_err result)
    → CallsLent meaning input.Send bytes r.channel (option_map (λ r. r.1) (result_err result)) channel → IfErr result (λ e. channel ≡ left_by e.1 r.channel)
    → MakesNoOffer log failed (IsThat r.channel.stage payload) meaning group r [] answer (with_channel r channel)
sent-so log failed meaning group r payload bytes are channel result answer same calls left =
    subst (λ (o : Option Error). MakesNoOffer log failed (IsThat r.channel.stage payload) meaning group r [] o (with_channel r channel)) (sym same)
    (record {
      call = Send bytes (option_map (λ e. e.1) (result_err result)) channel calls (left-of r.channel channel result left);
      no_offer = refl;
      says = λ v at. (v, at, refl, are);
    })

module _ {N S : Type 0} (log : N → Option Log) (failed : N → ℕ) (May : ViewId → List ℕ → Type 0) (meaning : Meaning S) (group : List ℕ) where
  abbrev Held : Driven N S → List Event → Bool → Driven N S → Type 0
  Held a taken fell b = DrivesWithoutOffer log failed May meaning group a taken fell b

  -- ---- calls without an offer

  pub held-then : (a b c : Driven N S) (t u : List Event) (f g : Bool) → Held a t f b → Held b u g c → Held a (t ++ u) (f || g) c
  held-then a b _ t _ f _ x Still = subst (λ (l : List Event). Held a l (f || false) b) (sym (append-nil t)) (subst (λ (k : Bool). Held a t k b) (sym (or-false f)) x)
  held-then a b c t _ f _ x (Called taken more fell failure mid new d m) =
      subst (λ (l : List Event). Held a l (f || (fell || falls mid.channel.stage failure)) c) (append_assoc t taken more)
      (subst (λ (k : Bool). Held a ((t ++ taken) ++ more) k c) (or_assoc f fell (falls mid.channel.stage failure))
      (Called (t ++ taken) more (f || fell) failure mid new (held-then a b mid t taken f fell x d) m))

  pub held-one : (a b : Driven N S) (more : List Event) (failure : Option Error) → MakesNoOffer log failed May meaning group a more failure b → Held a more (falls a.channel.stage failure) b
  held-one a b more failure m = Called [] more false failure a b Still m

  -- of which nothing is told but what waits
  abbrev quiet : Driven N S → Driven N S
  quiet r = record r { channel = all_told r.channel }

  held-first : (r : Driven N S) (x : Event) (rest : List Event) → r.channel.happened ≡ x ∷ rest → Held r (x ∷ []) false (with_channel r (record r.channel { happened = rest }))
  held-first r x rest e =
      subst (λ (k : Bool). Held r (x ∷ []) k (with_channel r (record r.channel { happened = rest }))) (falls-none r.channel.stage)
      (held-one r (with_channel r (record r.channel { happened = rest })) (x ∷ []) None (record { call = Take (Some x) (record r.channel { happened = rest }) e refl; no_offer = refl; says = tt }))

  pub held-told : (events : List Event) (r : Driven N S) → r.channel.happened ≡ events → Held r events false (quiet r)
  held-told [] r e = subst (λ (l : List Event). Held r [] false (record r { channel = record r.channel { happened = l } })) e Still
  held-told (x ∷ events) r e =
      let mid = with_channel r (record r.channel { happened = events }) in
      held-then r mid (quiet r) (x ∷ []) events false false (held-first r x events e) (held-told events mid refl)

  pub held-drives : (a b : Driven N S) (t : List Event) (f : Bool) → Held a t f b → Drives log failed meaning group a t f b
  held-drives a _ _ _ Still = Begun
  held-drives a _ _ _ (Called taken more fell failure mid new d m) = Further taken more fell failure mid new (held-drives a mid taken fell d) m.call

  -- an input that is handed in
  hand-held : (i : Input) (a b : Driven N S) (failure : Option Error) → datagram_in i ≡ None → ((v : View) → view_in a.channel.stage ≡ Some v → SaysInput May i v.id)
      → Calls meaning i a.channel failure b.channel × LeftBy failure a.channel b.channel × (b ≡ with_channel a b.channel) → MakesNoOffer log failed May meaning group a [] failure b
  hand-held i a b failure none says m =
      subst (λ (r : Driven N S). MakesNoOffer log failed May meaning group a [] failure r) (sym m.2) (record { call = Hand i failure b.channel none m.0 m.1; no_offer = refl; says = says })

  -- a call that says nothing offers nothing
  call-held : (c : Call) (a b : Driven N S) (failure : Option Error) → says_nothing c ≡ true → MakesCall meaning group c a failure b → MakesNoOffer log failed May meaning group a [] failure b
  call-held calls.Create a b failure none m =
      subst (λ (r : Driven N S). MakesNoOffer log failed May meaning group a [] failure r) (sym m.2) (record { call = Create failure b.channel m.0 m.1; no_offer = refl; says = tt })
  call-held (calls.Join contact) a b failure none m =
      subst (λ (r : Driven N S). MakesNoOffer log failed May meaning group a [] failure r) (sym m.2) (record { call = Join contact failure b.channel m.0 m.1; no_offer = refl; says = tt })
  call-held (calls.Send payload) a b failure none m = absurd (let bad : false ≡ true = none in cc)
  call-held calls.Tick a b failure none m = hand-held input.Tick a b failure refl (λ v at. tt) m
  call-held (calls.Suspect q) a b failure none m = hand-held (input.Suspect q) a b failure refl (λ v at. tt) m
  call-held (calls.MergeHint q) a b failure none m = hand-held (input.MergeHint q) a b failure refl (λ v at. tt) m
  call-held calls.Leave a b failure none m = hand-held input.Leave a b failure refl (λ v at. tt) m

  -- a member begins without an offer
  pub begins-held : (c : Option Call) (gave : Bool) (a b : Driven N S) → IfSome c (λ x. says_nothing x ≡ true) → BeginsBy meaning group a c gave b → Held a [] gave b
  begins-held _ _ a _ none Waiting = Still
  begins-held _ _ a b none (Calling c failure new m) = held-one a b [] failure (call-held c a b failure none m)

  -- ---- runs that tell first

  module _ (stable : Bool) where
    abbrev First : Driven N S → List (OwnLine S) → List (OwnLine S) → Bool → Driven N S → Type 0
    First a lines stood fell b = TellsFirst log failed May meaning group stable a lines stood fell b

    -- the lines that stood there when such a run offered last, or before it
    abbrev Stood : List (OwnLine S) → List (OwnLine S) → List (OwnLine S) → List (OwnLine S) → Type 0
    Stood lines old new stood = (stood ≡ old) ⊎ (stood ≡ lines ++ new)

    -- one behind the other
    pub first-then : (a b c : Driven N S) (xs ys s t : List (OwnLine S)) (f g : Bool) → First a xs s f b → First b ys t g c
        → (u : List (OwnLine S)) × First a (xs ++ ys) u (f || g) c × Stood xs s t u
    first-then a b _ xs _ s _ f _ x Begins = (
      s,
      subst (λ (l : List (OwnLine S)). First a l s (f || false) b) (sym (append-nil xs)) (subst (λ (k : Bool). First a xs s k b) (sym (or-false f)) x),
      inl refl,
    )
    first-then a b c xs _ s t f _ x (TellsAll lines stood fell mid taken fell' new d held told) =
        let r = first-then a b mid xs lines s t f fell x d in (
          r.0,
          subst (λ (l : List (OwnLine S)). First a l r.0 (f || (fell || fell')) c) (append_assoc xs lines (map Happened taken))
              (subst (λ (k : Bool). First a ((xs ++ lines) ++ map Happened taken) r.0 k c) (or_assoc f fell fell')
              (TellsAll (xs ++ lines) r.0 (f || fell) mid taken fell' new r.1 held told)),
          r.2,
        )
    first-then a b c xs _ s t f g x (AddsLine lines stood fell new line d told says) =
        let r = first-then a b c xs lines s t f g x d in (
          r.0,
          subst (λ (l : List (OwnLine S)). First a l r.0 (f || g) c) (append_assoc xs lines (line ∷ [])) (AddsLine (xs ++ lines) r.0 (f || g) c line r.1 told says),
          r.2,
        )
    first-then a b c xs ys s _ f g x (OffersAll lines stood fell mid new d told offers) =
        let r = first-then a b mid xs ys s stood f g x d in
        (xs ++ ys, OffersAll (xs ++ ys) r.0 (f || g) mid c r.1 told offers, inr refl)

    -- they are runs
    pub first-drives : (a b : Driven N S) (xs s : List (OwnLine S)) (f : Bool) → First a xs s f b → Drives log failed meaning group a (events_in xs) f b
    first-drives a _ _ _ _ Begins = Begun
    first-drives a b _ s _ (TellsAll lines stood fell mid taken fell' new d held told) =
        subst (λ (l : List Event). Drives log failed meaning group a l (fell || fell') b)
        (sym (events-then lines (map Happened taken) ∙ ap (λ (l : List Event). events_in lines ++ l) (events-happen S taken)))
        (drives-then log failed meaning group a mid b (events_in lines) taken fell fell' (first-drives a mid lines s fell d) (held-drives mid b taken fell' held))
    first-drives a b _ s f (AddsLine lines stood fell new line d told says) =
        subst (λ (l : List Event). Drives log failed meaning group a l f b) (sym (no-event lines line (says-none stable new.channel line says))) (first-drives a b lines s f d)
    first-drives a b xs _ f (OffersAll lines stood fell mid new d told offers) =
        subst (λ (l : List Event). Drives log failed meaning group a l f b) (append-nil (events_in xs))
        (subst (λ (k : Bool). Drives log failed meaning group a (events_in xs ++ []) k b) (or-false f)
        (drives-then log failed meaning group a mid b (events_in xs) [] f false (first-drives a mid xs stood f d)
        (subst (λ (k : Bool). Drives log failed meaning group mid [] k b) (falls-none mid.channel.stage) (drives-one log failed meaning group mid b [] None (Offer b offers)))))

    -- what is told, and what is left to be told, was said
    pub first-all-said : (a b : Driven N S) (xs s : List (OwnLine S)) (f : Bool) → First a xs s f b → AreSaid May a.channel.happened → AreSaid May (events_in xs ++ b.channel.happened)
    first-all-said a _ _ _ _ Begins t = t
    first-all-said a b _ s _ (TellsAll lines stood fell mid taken fell' new d held told) t =
        let x = first-all-said a mid lines s fell d t in
        subst (AreSaid May)
        (sym (ap (λ (l : List Event). l ++ b.channel.happened) (events-then lines (map Happened taken) ∙ ap (λ (l : List Event). events_in lines ++ l) (events-happen S taken))
        ∙ append_assoc (events_in lines) taken b.channel.happened))
        (said-append May (events_in lines) (taken ++ b.channel.happened) (all-front (IsSaid May) (events_in lines) mid.channel.happened x)
        (drives-said May meaning log failed group mid taken fell' b held (all-behind (IsSaid May) (events_in lines) mid.channel.happened x)))
    first-all-said a b _ s f (AddsLine lines stood fell new line d told says) t =
        subst (λ (l : List Event). AreSaid May (l ++ b.channel.happened)) (sym (no-event lines line (says-none stable new.channel line says))) (first-all-said a b lines s f d t)
    first-all-said a b xs _ f (OffersAll lines stood fell mid new d told offers) t =
        subst (λ (c : ChannelModel S). AreSaid May (events_in xs ++ c.happened)) (sym offers.channel_is) (first-all-said a mid xs stood f d t)

    -- what stood there is a beginning of all lines
    pub stood-first : (a b : Driven N S) (xs s : List (OwnLine S)) (f : Bool) → First a xs s f b → (rest : List (OwnLine S)) × (xs ≡ s ++ rest)
    stood-first a _ _ _ _ Begins = ([], refl)
    stood-first a b _ s _ (TellsAll lines stood fell mid taken fell' new d held told) =
        let r = stood-first a mid lines s fell d in
        (r.0 ++ map Happened taken, ap (λ (l : List (OwnLine S)). l ++ map Happened taken) r.1 ∙ append_assoc s r.0 (map Happened taken))
    stood-first a b _ s f (AddsLine lines stood fell new line d told says) =
        let r = stood-first a b lines s f d in
        (r.0 ++ line ∷ [], ap (λ (l : List (OwnLine S)). l ++ line ∷ []) r.1 ∙ append_assoc s r.0 (line ∷ []))
    stood-first a b xs _ f (OffersAll lines stood fell mid new d told offers) = ([], sym (append-nil xs))

    -- all that a turn says
    pub first-said : (a b : Driven N S) (xs s said : List (OwnLine S)) (f : Bool) → First a xs s f b → b.channel.happened ≡ [] → AllByRecursion (Says stable b.channel) said
        → First a (xs ++ said) s f b
    first-said a b xs s [] f x told all = subst (λ (l : List (OwnLine S)). First a l s f b) (sym (append-nil xs)) x
    first-said a b xs s (line ∷ said) f x told all =
        subst (λ (l : List (OwnLine S)). First a l s f b) (append_assoc xs (line ∷ []) said)
        (first-said a b (xs ++ line ∷ []) s said f (AddsLine xs s f b line x told all.0) told all.1)

    -- where each run from there tells of one member, whose channel it is, so do its lines; a line that shows a state is of the member that it names
    pub first-own : (member : Address) (a : Driven N S)
        → ((b : Driven N S) (taken : List Event) (f : Bool) → Drives log failed meaning group a taken f b → b.channel.happened ≡ [] → AllByRecursion (λ e. member_of e ≡ member) taken)
        → ((b : Driven N S) (taken : List Event) (f : Bool) → Drives log failed meaning group a taken f b → b.channel.address ≡ member)
        → (b : Driven N S) (xs s : List (OwnLine S)) (f : Bool) → First a xs s f b → AllByRecursion (NamesOwn member) xs → AllByRecursion (IsOwn member) xs
    first-own member a own at _ _ _ _ Begins named = tt
    first-own member a own at b _ s _ (TellsAll lines stood fell mid taken fell' new d held told) named =
        own-then member lines taken (first-own member a own at mid lines s fell d (all-front (NamesOwn member) lines (map Happened taken) named))
        (all-behind (λ e. member_of e ≡ member) (events_in lines) taken
        (own b (events_in lines ++ taken) (fell || fell')
        (drives-then log failed meaning group a mid b (events_in lines) taken fell fell' (first-drives a mid lines s fell d) (held-drives mid b taken fell' held)) told))
    first-own member a own at b _ s f (AddsLine lines stood fell new line d told says) named =
        all-then (IsOwn member) lines (line ∷ []) (first-own member a own at b lines s f d (all-front (NamesOwn member) lines (line ∷ []) named))
        (says-own line says (all-behind (NamesOwn member) lines (line ∷ []) named).0 (at b (events_in lines) f (first-drives a b lines s f d)), tt)
      where
        says-own : (l : OwnLine S) → Says stable new.channel l → NamesOwn member l → new.channel.address ≡ member → IsOwn member l
        says-own (Happened event) so name e = absurd so
        says-own (Knows p view count) so name e = so.1 ∙ e
        says-own (InState p state) so name e = name
    first-own member a own at b xs _ f (OffersAll lines stood fell mid new d told offers) named = first-own member a own at mid xs stood f d named
