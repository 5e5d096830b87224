-- Turns of a process: calls of its runner, and what is told by them.
use Rattle.std.proofs.Common.{◌≡◌, ℕ, Bool, true, false, cond, ◌||◌, is_some, Option, None, Some, Result, Ok, Err, IfErr, OnOk, OnErr, IsErr, List, [], ◌∷◌, ◌++◌, map, take, refl, sym, ap, ◌∙◌, subst}
use Rattle.std.specs.Borrow.{Bor}
use Rattle.std.specs.List.{concat}
use Rattle.std.specs.Option.{option_copied}
use Rattle.std.specs.Result.{result_err}
use Rattle.std.proofs.lemmas.List.{append-nil, append_assoc}
use Rattle.address.specs.Ids.{Address}
use Rattle.state_transfer.specs.Meanings.{Meaning}
use Rattle.trace_props.specs.declared.event.Event.{Event}
use Rattle.trace_props.specs.declared.event.Event.TheVariants.{Crashed}
use Rattle.member.specs.declared.error.Error.{Error}
use Rattle.member.specs.Errors.{number_of}
use Rattle.channel.specs.declared.stage.Stage.{Stage}
use Rattle.channel.specs.declared.stage.Stage.TheVariants.{Apart, Connected, Ended}
use Rattle.channel.specs.Channels.{ChannelModel, left_by}
use Rattle.channel.specs.Errors.{is_end}
use Rattle.udp_net.specs.Logs.{Log}
use Rattle.udp_member.specs.Turns.{Driven}
use Rattle.law_runners.specs.Plays.{LeftBy, falls, crash_of}
use Rattle.law_runners.specs.Runs.{Makes, Offer, Take, Drives, Begun, Further, with_channel}
use Rattle.law_runners.specs.Systems.{has_ended}
use Rattle.udp_runs.specs.declared.process.Process.{Process}
use Rattle.udp_runs.specs.Answers.{IsOffered, TakesTurn, answer_lines, quiet, turn_lines}
use Rattle.udp_runs.specs.Processes.{Turns}
use Rattle.udp_runs.specs.Texts.{Line, Happens, Refuses, events_in, texts_of}
use Rattle.udp_runs.proofs.LinesAndEvents.{cut-lines}

-- what is lent is there as what is shown
pub shows-as : {A : Type 0} (lent : Option (Bor A)) (shown : Option A) → option_copied lent ≡ shown → is_some lent ≡ is_some shown
shows-as None shown is = ap is_some is
shows-as (Some x) shown is = ap is_some is

-- ---- one list of lines behind the other

pub events-happen : (events : List Event) → events_in (map Happens events) ≡ events
events-happen [] = refl
events-happen (x ∷ events) = ap (λ (l : List Event). x ∷ l) (events-happen events)

pub events-then : (xs ys : List Line) → events_in (xs ++ ys) ≡ events_in xs ++ events_in ys
events-then [] ys = refl
events-then (Happens event ∷ xs) ys = ap (λ (l : List Event). event ∷ l) (events-then xs ys)
events-then (Refuses line number ∷ xs) ys = events-then xs ys

or-false : (a : Bool) → (a || false) ≡ a
or-false true = refl
or-false false = refl

or-assoc : (a b c : Bool) → ((a || b) || c) ≡ (a || (b || c))
or-assoc true b c = refl
or-assoc false b c = refl

pub falls-none : {S : Type 0} (stage : Stage S) → falls stage None ≡ false
falls-none (Apart s) = refl
falls-none (Connected m) = refl
falls-none Ended = refl

pub falls-end : {S : Type 0} (stage : Stage S) (e : Error) → has_ended stage ≡ false → falls stage (Some e) ≡ is_end e
falls-end (Apart s) e runs = refl
falls-end (Connected m) e runs = refl
falls-end Ended e runs = absurd (let bad : true ≡ false = runs in cc)

-- what an error leaves
pub left-so : {S A : Type 0} (old new : ChannelModel S) (result : Result A Error) → IfErr result (λ e. new ≡ left_by e old) → LeftBy (result_err result) old new
left-so old new (Ok x) left = tt
left-so old new (Err e) left = left

module _ {N S : Type 0} (log : N → Option Log) (failed : N → ℕ) (meaning : Meaning S) (group : List ℕ) where
  abbrev Drive : Driven N S → List Event → Bool → Driven N S → Type 0
  Drive a taken fell b = Drives log failed meaning group a taken fell b

  -- ---- calls, one after another

  pub drives-then : (a b c : Driven N S) (t u : List Event) (f g : Bool) → Drive a t f b → Drive b u g c → Drive a (t ++ u) (f || g) c
  drives-then a b _ t _ f _ x Begun =
      subst (λ (l : List Event). Drive a l (f || false) b) (sym (append-nil t)) (subst (λ (k : Bool). Drive a t k b) (sym (or-false f)) x)
  drives-then a b c t _ f _ x (Further taken more fell failure mid new d m) =
      subst (λ (l : List Event). Drive a l (f || (fell || falls mid.channel.stage failure)) c) (append_assoc t taken more)
      (subst (λ (k : Bool). Drive a ((t ++ taken) ++ more) k c) (or-assoc f fell (falls mid.channel.stage failure))
      (Further (t ++ taken) more (f || fell) failure mid new (drives-then a b mid t taken f fell x d) m))

  pub drives-one : (a b : Driven N S) (more : List Event) (failure : Option Error) → Makes log failed meaning group a more failure b → Drive a more (falls a.channel.stage failure) b
  drives-one a b more failure m = Further [] more false failure a b Begun m

  told-first : (r : Driven N S) (x : Event) (rest : List Event) → r.channel.happened ≡ x ∷ rest → Drive r (x ∷ []) false (with_channel r (record r.channel { happened = rest }))
  told-first r x rest e =
      subst (λ (k : Bool). Drive r (x ∷ []) k (with_channel r (record r.channel { happened = rest }))) (falls-none r.channel.stage)
      (drives-one r (with_channel r (record r.channel { happened = rest })) (x ∷ []) None (Take (Some x) (record r.channel { happened = rest }) e refl))

  pub drives-told : (events : List Event) (r : Driven N S) → r.channel.happened ≡ events → Drive r events false (quiet r)
  drives-told [] r e = subst (λ (l : List Event). Drive r [] false (record r { channel = record r.channel { happened = l } })) e Begun
  drives-told (x ∷ events) r e =
      let mid = with_channel r (record r.channel { happened = events }) in
      drives-then r mid (quiet r) (x ∷ []) events false false (told-first r x events e) (drives-told events mid refl)

  -- ---- a turn

  -- one call, and all that is told taken
  drives-call : (old mid : Driven N S) (failure : Option Error) → Makes log failed meaning group old [] failure mid
      → Drive old mid.channel.happened (falls old.channel.stage failure) (quiet mid)
  drives-call old mid failure m =
      subst (λ (k : Bool). Drive old mid.channel.happened k (quiet mid)) (or-false (falls old.channel.stage failure))
      (drives-then old mid (quiet mid) [] mid.channel.happened (falls old.channel.stage failure) false (drives-one old mid [] failure m) (drives-told mid.channel.happened mid refl))

  -- one call, and what is told by it
  pub turn-of : (p : Address) (old mid : Driven N S) (failure : Option Error) (lines : List Line) → Makes log failed meaning group old [] failure mid
      → events_in lines ≡ mid.channel.happened ++ crash_of p (falls old.channel.stage failure) → Turns log failed meaning group p old (quiet mid) lines
  turn-of p old mid failure lines m says = record {
    taken = mid.channel.happened;
    fell = falls old.channel.stage failure;
    drives = drives-call old mid failure m;
    told = refl;
    says = says;
  }

  -- no call, and what is told yet
  pub turn-none : (p : Address) (old : Driven N S) → Turns log failed meaning group p old (quiet old) (map Happens old.channel.happened)
  turn-none p old = record {
    taken = old.channel.happened;
    fell = false;
    drives = drives-told old.channel.happened old refl;
    told = refl;
    says = events-happen old.channel.happened ∙ sym (append-nil old.channel.happened);
  }

  -- ---- what is said of it

  -- the events in its lines: all that is told, and a crash where the channel fell
  in-lines : (p : Address) (line : ℕ) (stage : Stage S) (happened : List Event) (failure : Option Error) → has_ended stage ≡ false
      → events_in (map Happens happened ++ answer_lines p line failure) ≡ happened ++ crash_of p (falls stage failure)
  in-lines p line stage happened failure runs =
      events-then (map Happens happened) (answer_lines p line failure) ∙ ap (λ (l : List Event). l ++ events_in (answer_lines p line failure)) (events-happen happened)
      ∙ ap (λ (l : List Event). happened ++ l) (by failure)
    where
      of-end : (e : Error) (b : Bool) → is_end e ≡ b → events_in (answer_lines p line (Some e)) ≡ crash_of p b
      of-end e true is = ap (λ (b : Bool). events_in ((cond b (Happens (Crashed p)) (Refuses line (number_of e))) ∷ [])) is
      of-end e false is = ap (λ (b : Bool). events_in ((cond b (Happens (Crashed p)) (Refuses line (number_of e))) ∷ [])) is

      by : (failure : Option Error) → events_in (answer_lines p line failure) ≡ crash_of p (falls stage failure)
      by None = ap (crash_of p) (sym (falls-none stage))
      by (Some e) = of-end e (is_end e) refl ∙ ap (crash_of p) (sym (falls-end stage e runs))

  pub turn-by : (p : Address) (line : ℕ) (old mid : Driven N S) (failure : Option Error) → has_ended old.channel.stage ≡ false → Makes log failed meaning group old [] failure mid
      → Turns log failed meaning group p old (quiet mid) (turn_lines p line failure mid)
  turn-by p line old mid failure runs m =
      turn-of p old mid failure (turn_lines p line failure mid) m (in-lines p line old.channel.stage mid.channel.happened failure runs)

  -- then what the channel put out is offered
  pub turn-offers : (p : Address) (old mid new : Driven N S) (lines : List Line) → Turns log failed meaning group p old mid lines → IsOffered log failed mid new
      → Turns log failed meaning group p old new lines
  turn-offers p old mid new lines t o = record {
    taken = t.taken;
    fell = t.fell;
    drives = subst (λ (l : List Event). Drive old l t.fell new) (append-nil t.taken) (subst (λ (k : Bool). Drive old (t.taken ++ []) k new) (or-as t.fell (falls mid.channel.stage None) (falls-none mid.channel.stage))
        (drives-then old mid new t.taken [] t.fell (falls mid.channel.stage None) t.drives (drives-one mid new [] None (Offer new o.offers))));
    told = ap (λ (c : ChannelModel S). c.happened) o.offers.channel_is ∙ t.told;
    says = t.says;
  }
    where
      or-as : (a b : Bool) → b ≡ false → (a || b) ≡ a
      or-as a b none = ap (λ (k : Bool). a || k) none ∙ or-false a

  -- ---- what a process does by a call

  module _ (A E : Type 0) (IsCall : Driven N S → Option Error → Driven N S → Type 0) (line : ℕ) (old new : Process N S) (text text' : List ℕ) where
    abbrev Takes : Result A E → Type 0
    Takes result = TakesTurn log failed meaning group IsCall line old new text text' result

    -- memory was refused before the call
    pub takes-none : (result : Result A E) → IsErr result → text' ≡ text → Takes result
    takes-none result is same =
        cut-lines A E _ _ text text' result is
        (map Happens old.runner.channel.happened, (quiet old.runner, turn-none old.address old.runner), (0, same ∙ sym (append-nil text)))

    pub takes-call : (mid : Driven N S) (failure : Option Error) (result : Result A E) → has_ended old.runner.channel.stage ≡ false → IsCall old.runner failure mid
        → Makes log failed meaning group old.runner [] failure mid → OnOk result (text' ≡ text ++ concat (texts_of (turn_lines old.address line failure mid)))
        → OnErr result ((count : ℕ) × (text' ≡ text ++ concat (take count (texts_of (turn_lines old.address line failure mid)))))
        → OnOk result (IsOffered log failed (quiet mid) new.runner) → Takes result
    takes-call mid failure (Ok x) runs call m said begun o = (
      turn_lines old.address line failure mid,
      (
        turn-offers old.address old.runner (quiet mid) new.runner (turn_lines old.address line failure mid) (turn-by old.address line old.runner mid failure runs m) o,
        record { failure = failure; mid = mid; call = call; says = refl; offered = o },
      ),
      said,
    )
    takes-call mid failure (Err e) runs call m said begun o =
        (turn_lines old.address line failure mid, (quiet mid, turn-by old.address line old.runner mid failure runs m), begun)
