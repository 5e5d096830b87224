-- What one step promises, from what it does.
use Rattle.std.proofs.Common.{◌≡◌, ℕ, zero, suc, ◌+◌, ◌≤◌, ◌<◌, Bool, true, false, not, ◌&&◌, ◌||◌, Option, Some, None, List, [], ◌∷◌, ◌++◌, map, length, inr, is_some, Result, Ok, Err, refl, sym, ap, ◌∙◌, subst, arith, Bor}
use Rattle.std.specs.Prelude.{MatchBool, if◌then◌else◌, drop, nat_lt}
use Rattle.std.specs.List.{AllByRecursion, list_all, Contains}
use Rattle.std.specs.Option.{IsSomeAnd, ForSome, option_map}
use Rattle.std.specs.Result.{result_err}
use Rattle.std.proofs.lemmas.Bool.{and_from, not-true}
use Rattle.std.proofs.lemmas.Bool.Decides.{nat_tests}
use Rattle.std.proofs.lemmas.Option.{none-some, same_Some}
use Rattle.address.specs.Ids.{Address, ViewId, same_address}
use Rattle.address.specs.declared.limits.TheConstants.{GREATEST_NUMBER, WINDOW, STEP_EVENTS}
use Rattle.address.specs.declared.refusal.Refusal.{Refusal}
use Rattle.address.specs.declared.refusal.Refusal.TheVariants.{Memory, Closed, AlreadyConnected}
use Rattle.state_transfer.specs.Meanings.{Meaning}
use Rattle.trace_props.specs.Recorded.{IsShort, IsRecordable}
use Rattle.trace_props.specs.declared.event.Event.{Event}
use Rattle.trace_props.specs.declared.event.Event.TheVariants.{Sent, Delivered, Installed, Left}
use Rattle.wire_values.specs.Posted.{Posted}
use Rattle.law_acts.specs.Chains.{Acted}
use Rattle.step_output.specs.declared.output.Output.{Output}
use Rattle.step_output.specs.Outputs.{Puts, spelled}
use Rattle.step_output.specs.Calm.{is_quiet, IsCalm}
use Rattle.traffic.specs.declared.view_state.ViewState.{ViewState}
use Rattle.traffic.specs.declared.view_state.ViewState.TheVariants as kinds
use Rattle.membership.specs.declared.member_state.MemberState.{MemberState}
use Rattle.membership.specs.MemberStates.{core_of as core_at, view_in, view_core_in, is_connected, IsMemberState}
use Rattle.membership.specs.Changes.{StaysAs, TakesSuspicion}
use Rattle.membership.specs.Doing.{Did}
use Rattle.member_rules.specs.Ordered.{IsOrderly, IsOrdered}
use Rattle.member_rules.specs.Messages.{ByKind, SendsNext, SendsFirst, has_room, DeliversNext, DeliversAtOnce, Sends}
use Rattle.member_rules.specs.Firsts.{lone_install}
use Rattle.member.specs.Running.{IsRunning, IsAlive}
use Rattle.member.proofs.KeepOrder.{steady-ordered}
use Rattle.member_rules.proofs.KeepSteady.{Steady}
use Rattle.member_rules.specs.Ignoring.{is_hint_ignored}
use Rattle.member_rules.specs.Views.{Creates, Asks, OnSuspect, AnnouncesView, Leaves, is_suspectable, has_member, has_promised}
use Rattle.member_rules.proofs.ActsOfRules.{create-did, ask-did, hint-did, suspect-did, leave-acted}
use Rattle.member_rules.proofs.KeepMemberState.{outside}
use Rattle.member.specs.declared.error.Error.{Error}
use Rattle.member.specs.declared.error.Error.TheVariants.{Refused}
use Rattle.member.specs.declared.input.Input.{Input}
use Rattle.member.specs.declared.input.Input.TheVariants.{Create, Join, Send, Tick, Suspect, MergeHint, Leave}
use Rattle.member.specs.Errors.{is_memory}
use Rattle.member.specs.Members.{MemberModel, core_of, came_at, refusal_in, send_refusal, is_unreadable}
use Rattle.member.specs.Doing.{DoesBy, Ticks, is_ignored}
use Rattle.member.specs.Handling.{Handled, Replies, IsPrompt, Ignores}
use Rattle.member.proofs.KeepConnected.{acted-connected}
use Rattle.member.proofs.WhyMembersRefuse.{never-closed, unsent-own}
use Rattle.step_output.specs.Steps.{who}
use Rattle.membership.specs.InSteps.{in_step}

-- ---- small things

pub unless : (b : Bool) → (b ≡ true → ⊥) → b ≡ false
unless true never = absurd (never refl)
unless false never = refl

pub same_Err : (a b : Error) → ◌≡◌ {A = Result Output Error} (Err a) (Err b) → a ≡ b
same_Err a b e = same_Some a b (ap result_err e)

-- what is short each is what a trace takes
recordable : (l : List Event) → AllByRecursion IsShort l → IsRecordable l
recordable [] all k h at = absurd (none-some h at)
recordable (x ∷ l) all zero h at = subst IsShort (same_Some x h at) all.0
recordable (x ∷ l) all (suc k) h at = recordable l all.1 k h at

pub still : {S : Type 0} (group : List ℕ) (p : Address) (l : MemberState S) → IsRunning (who p group) l → IsAlive (who p group) (Some l)
still group p l runs = λ x e. subst (IsRunning (who p group)) (same_Some l x e) runs

-- it runs on where it keeps what it keeps of its view, or begins a view anew
pub steady-runs : {S : Type 0} (group : List ℕ) (p : Address) (old new : MemberState S) → Steady p old new → IsMemberState (who p group) new → IsRunning (who p group) old → IsRunning (who p group) new
steady-runs group p old new steady member_state runs = record { member_state = member_state; ordered = steady-ordered group p old new steady member_state runs.ordered }

-- ---- from nothing

pub only : (start out : Output) (happened : List Event) → Puts [] [] start → out.events.items ≡ start.events.items ++ happened → out.events.items ≡ happened
only start out happened nothing grows = grows ∙ ap (λ l. l ++ happened) nothing.events

pub calm-few : (n : ℕ) (start out : Output) → Puts [] [] start → IsCalm n start out → n ≤ STEP_EVENTS → length out.events.items ≤ STEP_EVENTS
calm-few n start out nothing calm less =
    subst (λ l. length l ≤ STEP_EVENTS) (sym (only start out calm.more nothing calm.grows)) (let f : length calm.more ≤ n = calm.few in omega (arith, f, less))

pub calm-quiet : (n : ℕ) (start out : Output) → Puts [] [] start → IsCalm n start out → list_all is_quiet out.events.items ≡ true
calm-quiet n start out nothing calm = ap (list_all is_quiet) (only start out calm.more nothing calm.grows) ∙ calm.quiet

pub same-nothing : (start out : Output) → Puts [] [] start → out ≡ start → Puts [] [] out
same-nothing start out nothing same = subst (λ (o : Output). Puts [] [] o) (sym same) nothing

module _ {S : Type 0} (meaning : Meaning S) (p : Address) (group : List ℕ) where
  abbrev pub at : Option (MemberState S) → MemberModel S
  at member_state = record { address = p; group = group; member_state = member_state }

  abbrev pub Holds : Option (MemberState S) → Input → Result Output Error → Option (MemberState S) → Type 0
  Holds old input result new = Handled meaning (at old) input result (at new)

  -- of one that runs
  pub from-some : (member_state : Option (MemberState S)) (old : MemberState S) (input : Input) (result : Result Output Error) (new : Option (MemberState S)) → member_state ≡ Some old → Holds (Some old) input result new → Holds member_state input result new
  from-some member_state old input result new is x = subst (λ (l : Option (MemberState S)). Holds l input result new) (sym is) x

  -- ---- after the end, refused, and want of memory

  refuses : (u b : Bool) (e : Error) (old : MemberState S) (input : Input) → b ≡ false → u ≡ false → refusal_in (core_at p old) input ≡ Some e
      → MatchBool b (refusal_in (core_at p old) input ≡ None) (MatchBool u ((e ≡ Refused Closed) × (core_of (at (Some old)) ≡ None)) ((refusal_in (core_at p old) input ≡ Some e) × (at (Some old) ≡ at (Some old))))
  refuses u true e old input own readable refused = absurd (let n : true ≡ false = own in cc)
  refuses true false e old input own readable refused = absurd (let n : true ≡ false = readable in cc)
  refuses false false e old input own readable refused = (refused, refl)

  pub refused-handled : (old : MemberState S) (input : Input) (e : Error) → refusal_in (core_at p old) input ≡ Some e → is_memory e ≡ false → is_unreadable meaning (at (Some old)) input ≡ false
      → is_ignored (at (Some old)) input ≡ false → IsRunning (who p group) old → Holds (Some old) input (Err e) (Some old)
  refused-handled old input e refused own readable taken runs = record {
    acted = tt;
    refused = refuses (is_unreadable meaning (at (Some old)) input) (is_memory e) e old input own readable refused;
    memory = λ same. absurd (let n : true ≡ false = sym (ap is_memory (same_Err e (Refused Memory) same)) ∙ own in cc);
    closed = record {
      ended = λ none. absurd (none-some _ (sym none));
      only = λ same. absurd (never-closed (core_at p old) input (refused ∙ ap {B = Option Error} Some (same_Err e (Refused Closed) same)));
    };
    reply = tt;
    prompt = tt;
    does = tt;
    few = tt;
    short = tt;
    ignored = λ i. absurd (let n : true ≡ false = sym i ∙ taken in cc);
    alive = still group p old runs;
    address = refl;
    group = refl;
  }

  -- a message that it does not send
  pub unsent-handled : (payload : Bor (List ℕ)) (old : MemberState S) (r : Refusal) → send_refusal (core_at p old) payload.now ≡ Some r → IsRunning (who p group) old
      → Holds (Some old) (Send payload) (Err (Refused r)) (Some old)
  unsent-handled payload old r refused runs =
      refused-handled old (Send payload) (Refused r) (ap (option_map Refused) refused) (unsent-own (core_at p old) payload.now r refused) refl refl runs

  pub memory-handled : (old : MemberState S) (input : Input) → refusal_in (core_at p old) input ≡ None → is_ignored (at (Some old)) input ≡ false → Holds (Some old) input (Err (Refused Memory)) None
  memory-handled old input free taken = record {
    acted = tt;
    refused = free;
    memory = λ same. (refl, taken);
    closed = record {
      ended = λ none. absurd (none-some _ (sym none));
      only = λ same. absurd (let n : Refused Memory ≡ Refused Closed = same_Err (Refused Memory) (Refused Closed) same in cc);
    };
    reply = tt;
    prompt = tt;
    does = tt;
    few = tt;
    short = tt;
    ignored = λ i. absurd (let n : true ≡ false = sym i ∙ taken in cc);
    alive = λ l none. absurd (none-some l none);
    address = refl;
    group = refl;
  }

  unread : (u : Bool) (A : Type 0) → u ≡ true → MatchBool u ((Refused Closed ≡ Refused Closed) × (core_of (at None) ≡ None)) A
  unread true A e = (refl, refl)
  unread false A e = absurd (let n : false ≡ true = e in cc)

  pub unreadable-handled : (old : MemberState S) (input : Input) → is_unreadable meaning (at (Some old)) input ≡ true → is_ignored (at (Some old)) input ≡ false → Holds (Some old) input (Err (Refused Closed)) None
  unreadable-handled old input unreadable taken = record {
    acted = tt;
    refused = unread (is_unreadable meaning (at (Some old)) input) _ unreadable;
    memory = λ same. absurd (let n : Refused Closed ≡ Refused Memory = same_Err (Refused Closed) (Refused Memory) same in cc);
    closed = record { ended = λ none. refl; only = λ same. inr unreadable };
    reply = tt;
    prompt = tt;
    does = tt;
    few = tt;
    short = tt;
    ignored = λ i. absurd (let n : true ≡ false = sym i ∙ taken in cc);
    alive = λ l none. absurd (none-some l none);
    address = refl;
    group = refl;
  }

  -- ---- it runs on

  ok-memory : (old : MemberModel S) (input : Input) (new : MemberModel S) (out : Output) → ◌≡◌ {A = Result Output Error} (Ok out) (Err (Refused Memory)) → (core_of new ≡ None) × (is_ignored old input ≡ false)
  ok-memory old input new out e = absurd (cc)

  ok-closed : (A : Type 0) (out : Output) → ◌≡◌ {A = Result Output Error} (Ok out) (Err (Refused Closed)) → A
  ok-closed A out e = absurd (cc)

  pub ok-handled : (old new : MemberState S) (input : Input) (start out : Output) → Puts [] [] start → Did meaning (came_at (at (Some old)) input) (who p group) (in_step old start) (in_step new out)
      → refusal_in (core_at p old) input ≡ None → is_unreadable meaning (at (Some old)) input ≡ false
      → Replies (core_at p old) input out.events.items (Some (core_at p new)) → IsPrompt (core_at p old) input out.events.items
      → DoesBy meaning (came_at (at (Some old)) input) (who p group) input (in_step old start) (in_step new out)
      → Ignores (at (Some old)) input (Ok out) (at (Some new)) → length out.events.items ≤ STEP_EVENTS → IsRunning (who p group) new → Holds (Some old) input (Ok out) (Some new)
  ok-handled old new input start out nothing did free readable reply prompt does ignored few runs =
      let happens : out.events.items ≡ did.happened = only start out did.happened nothing did.grows.events in
      record {
        acted = record {
          posted = did.posted;
          acted = subst (λ (h : List Event). Acted meaning (came_at (at (Some old)) input) (Some (core_at p old)) did.posted h (Some (core_at p new))) (sym happens) did.acted;
          spelled = did.grows.packets ∙ ap (λ l. l ++ map (spelled group) did.posted) nothing.packets;
          sound = did.grows.sound;
        };
        refused = (free, readable);
        memory = ok-memory (at (Some old)) input (at (Some new)) out;
        closed = record { ended = λ none. absurd (none-some _ (sym none)); only = ok-closed _ out };
        reply = reply;
        prompt = prompt;
        does = record { start = start; nothing = nothing; does = does };
        few = few;
        short = subst IsRecordable (sym happens) (recordable did.happened did.grows.short);
        ignored = ignored;
        alive = still group p new runs;
        address = refl;
        group = refl;
      }

  -- it stays connected, or not
  stays-so : (b : Bool) (came : Option Posted) (old new : MemberState S) (start out : Output) → is_connected old ≡ b → (b ≡ false → is_connected new ≡ is_connected old)
      → Did meaning came (who p group) (in_step old start) (in_step new out) → is_connected new ≡ is_connected old
  stays-so true came old new start out e off did = acted-connected meaning came (core_at p old) (core_at p new) did.posted did.happened did.acted e ∙ sym e
  stays-so false came old new start out e off did = off refl

  pub stays-connected : (came : Option Posted) (old new : MemberState S) (start out : Output) → is_connected old ≡ true → Did meaning came (who p group) (in_step old start) (in_step new out)
      → is_connected new ≡ is_connected old
  stays-connected came old new start out on did = stays-so true came old new start out on (λ no. absurd (let n : true ≡ false = no in cc)) did

  -- ---- it makes a group, or asks to be let into one

  pub create-handled : (old new : MemberState S) (start out : Output) → IsMemberState (who p group) old → is_connected old ≡ false → Puts [] [] start
      → Creates (who p group) (in_step old start) (in_step new out) → IsRunning (who p group) new
      → Holds (Some old) Create (Ok out) (Some new)
  create-handled old new start out kept off nothing x runs =
      let happens : out.events.items ≡ Installed (lone_install p) ∷ [] = only start out _ nothing x.grows.events in
      ok-handled old new Create start out nothing (create-did meaning (who p group) None (in_step old start) (in_step new out) kept off x)
      (ap (λ b. if b then Some (Refused AlreadyConnected) else None) off) refl (happens, ap is_connected x.member_state) tt x (λ i. absurd (let n : false ≡ true = i in cc))
      (subst (λ l. length l ≤ STEP_EVENTS) (sym happens) (omega arith)) runs

  view-none : (view_state : Option ViewState) → view_state ≡ None → (if is_some (view_in view_state) then Some (Refused AlreadyConnected) else None) ≡ None
  view-none None e = refl
  view-none (Some t) e = absurd (none-some t (sym e))

  pub join-handled : (contact : Address) (old new : MemberState S) (start out : Output) → IsMemberState (who p group) old → old.view_state ≡ None → Puts [] [] start
      → Asks (who p group) contact (in_step old start) (in_step new out)
      → IsRunning (who p group) new → Holds (Some old) (Join contact) (Ok out) (Some new)
  join-handled contact old new start out kept none nothing x runs =
      let happens : out.events.items ≡ [] = only start out _ nothing x.grows.events in
      ok-handled old new (Join contact) start out nothing (ask-did meaning (who p group) None contact (in_step old start) (in_step new out) kept none x) (view-none old.view_state none) refl
      (happens, ap is_connected x.member_state ∙ ap (λ (t : Option ViewState). is_some t || true) none) tt x (λ i. absurd (let n : false ≡ true = i in cc))
      (subst (λ l. length l ≤ STEP_EVENTS) (sym happens) (omega arith)) runs

  -- ---- it does not, where it is connected, or in a view

  pub connected-handled : (old : MemberState S) → is_connected old ≡ true → IsRunning (who p group) old → Holds (Some old) Create (Err (Refused AlreadyConnected)) (Some old)
  connected-handled old on runs = refused-handled old Create (Refused AlreadyConnected) (ap (λ b. if b then Some (Refused AlreadyConnected) else None) on) refl refl refl runs

  view-some : (view_state : Option ViewState) → is_some view_state ≡ true → (if is_some (view_in view_state) then Some (Refused AlreadyConnected) else None) ≡ Some (Refused AlreadyConnected)
  view-some None e = absurd (let n : false ≡ true = e in cc)
  view-some (Some t) e = refl

  pub viewed-handled : (contact : Address) (old : MemberState S) → is_some old.view_state ≡ true → IsRunning (who p group) old → Holds (Some old) (Join contact) (Err (Refused AlreadyConnected)) (Some old)
  viewed-handled contact old there runs = refused-handled old (Join contact) (Refused AlreadyConnected) (view-some old.view_state there) refl refl refl runs

  -- ---- it sends

  abbrev Said : Option ViewState → List ℕ → List Event → Type 0
  Said view_state payload happened =
      IsSomeAnd (view_in view_state) (λ v. happened ≡ Sent (record { member = p; view = v.id; message = record { number = (view_core_in view_state).sent + 1; payload = payload } }) ∷ drop 1 happened)

  record IsSaid (view_state : Option ViewState) (payload : List ℕ) (happened : List Event) : Type 0 where
    first : Said view_state payload happened
    quiet : list_all is_quiet (drop 1 happened) ≡ true
    few : length happened ≤ STEP_EVENTS
    inside : is_some view_state ≡ true

  said-by : (v : ViewId) (sent : ℕ) (payload : List ℕ) (start out : Output) → Puts [] [] start → SendsNext p v sent payload start out
      → (out.events.items ≡ Sent (record { member = p; view = v; message = record { number = sent + 1; payload = payload } }) ∷ drop 1 out.events.items)
      × (list_all is_quiet (drop 1 out.events.items) ≡ true) × (length out.events.items ≤ STEP_EVENTS)
  said-by v sent payload start out nothing x =
      let s : Event = Sent (record { member = p; view = v; message = record { number = sent + 1; payload = payload } }) in
      let e : out.events.items ≡ s ∷ x.more = only start out (s ∷ x.more) nothing x.grows in (
        e ∙ ap (λ l. s ∷ l) (sym (ap (drop 1) e)),
        ap (λ l. list_all is_quiet (drop 1 l)) e ∙ x.quiet,
        subst (λ l. length l ≤ STEP_EVENTS) (sym e) (let f : length x.more ≤ WINDOW = x.few in omega (arith, f)),
      )

  said : (view_state : Option ViewState) (payload : List ℕ) (start out : Output) → Puts [] [] start
      → ByKind (λ m. SendsNext p m.view.id m.forwards.sent payload start out) (λ m. SendsNext p m.view.id m.forwards.sent payload start out) ⊥ view_state → IsSaid view_state payload out.events.items
  said None payload start out nothing x = absurd x
  said (Some (kinds.Coordinator m)) payload start out nothing x =
      let k = said-by m.view.id m.forwards.sent payload start out nothing x in record { first = k.0; quiet = k.1; few = k.2; inside = refl }
  said (Some (kinds.Follower m)) payload start out nothing x =
      let k = said-by m.view.id m.forwards.sent payload start out nothing x in record { first = k.0; quiet = k.1; few = k.2; inside = refl }

  abbrev DeliversPromptly : Option ViewState → List ℕ → List Event → Type 0
  DeliversPromptly view_state payload happened =
      IsSomeAnd (view_in view_state) (λ v. same_address p v.id.creator ≡ true → (view_core_in view_state).delivered < (view_core_in view_state).stable + WINDOW → (view_core_in view_state).delivered < GREATEST_NUMBER
      → Contains happened (Delivered (record { member = p; view = v.id; message = record { sender = p; number = (view_core_in view_state).sent + 1; payload = payload } })))

  has-room : (d w g : ℕ) → d < w → d < g → nat_lt d w && nat_lt d g ≡ true
  has-room d w g x y = and_from (nat_lt d w) (nat_lt d g) (grind (arith, nat_tests)) (grind (arith, nat_tests))

  at-once : (view_state : Option ViewState) (payload : List ℕ) (start out : Output) → Puts [] [] start → is_some view_state ≡ true → ForSome view_state (IsOrderly p)
      → (has_room view_state ≡ true → ByKind (λ m. DeliversNext p m.view.id m.forwards.sent payload start out) (λ m. ⊥) ⊥ view_state) → DeliversPromptly view_state payload out.events.items
  at-once None payload start out nothing inside ordered x = absurd (let n : false ≡ true = inside in cc)
  at-once (Some (kinds.Coordinator m)) payload start out nothing inside ordered x = λ own room left.
      let y = x (has-room m.window.delivered (m.window.stable + WINDOW) GREATEST_NUMBER room left) in
      let e = only start out _ nothing y.grows in
      subst (λ l. Contains l (Delivered (record { member = p; view = m.view.id; message = record { sender = p; number = m.forwards.sent + 1; payload = payload } }))) (sym e) (1, omega arith, refl)
  at-once (Some (kinds.Follower m)) payload start out nothing inside ordered x = λ own room left. absurd (let n : true ≡ false = sym own ∙ (ordered (kinds.Follower m) refl).0 in cc)

  connected-in : (view_state : Option ViewState) (b : Bool) → is_some view_state ≡ true → is_some view_state || b ≡ true
  connected-in view_state b e = ap (λ x. x || b) e

  send-handled : (payload : Bor (List ℕ)) (old new : MemberState S) (start out : Output) → IsOrdered p old → send_refusal (core_at p old) payload.now ≡ None → Puts [] [] start
      → Sends meaning (who p group) payload.now (in_step old start) (in_step new out) → ((came : Option Posted) → Did meaning came (who p group) (in_step old start) (in_step new out))
      → SendsFirst p payload.now (in_step old start) out → (has_room old.view_state ≡ true → DeliversAtOnce p payload.now (in_step old start) out) → IsRunning (who p group) new → Holds (Some old) (Send payload) (Ok out) (Some new)
  send-handled payload old new start out ordered free nothing sends did first prompt runs =
      let s = said old.view_state payload.now start out nothing first in
      let on : is_connected old ≡ true = connected-in old.view_state (is_some old.contact) s.inside in
      ok-handled old new (Send payload) start out nothing (did None) (ap (option_map Refused) free) refl
      (record { first = s.first; quiet = s.quiet }, stays-connected None old new start out on (did None))
      (at-once old.view_state payload.now start out nothing s.inside ordered prompt) sends (λ i. absurd (let n : false ≡ true = i in cc)) s.few runs

  -- the same, of a payload that has these bytes
  pub sent-handled : (payload : Bor (List ℕ)) (sent : List ℕ) (old new : MemberState S) (start out : Output) → sent ≡ payload.now → IsOrdered p old → send_refusal (core_at p old) payload.now ≡ None → Puts [] [] start
      → Sends meaning (who p group) sent (in_step old start) (in_step new out) → ((came : Option Posted) → Did meaning came (who p group) (in_step old start) (in_step new out))
      → SendsFirst p sent (in_step old start) out → (has_room old.view_state ≡ true → DeliversAtOnce p sent (in_step old start) out) → IsRunning (who p group) new → Holds (Some old) (Send payload) (Ok out) (Some new)
  sent-handled payload sent old new start out same ordered free nothing sends did first prompt runs =
      send-handled payload old new start out ordered free nothing (subst (λ (b : List ℕ). Sends meaning (who p group) b (in_step old start) (in_step new out)) same sends) did
      (subst (λ (b : List ℕ). SendsFirst p b (in_step old start) out) same first)
      (subst (λ (b : List ℕ). has_room old.view_state ≡ true → DeliversAtOnce p b (in_step old start) out) same prompt) runs

  -- it is sent, but for want of memory
  pub unsaid-handled : (payload : Bor (List ℕ)) (old : MemberState S) → send_refusal (core_at p old) payload.now ≡ None → Holds (Some old) (Send payload) (Err (Refused Memory)) None
  unsaid-handled payload old free = memory-handled old (Send payload) (ap (option_map Refused) free) refl

  -- ---- time passes

  pub tick-handled : (old : MemberState S) (start out : Output) → Puts [] [] start → Ticks (who p group) (in_step old start) out
      → ((came : Option Posted) → Did meaning came (who p group) (in_step old start) (in_step old out)) → IsCalm 0 start out
      → (is_connected old ≡ false → out ≡ start) → IsRunning (who p group) old → Holds (Some old) Tick (Ok out) (Some old)
  tick-handled old start out nothing ticks did calm idle runs =
      ok-handled old old Tick start out nothing (did None) refl refl (calm-quiet 0 start out nothing calm, refl) tt (refl, ticks)
      (λ i. (same-nothing start out nothing (idle (not-true (is_connected old) i)), refl)) (calm-few 0 start out nothing calm (omega arith)) runs

  -- ---- it hears of others

  suspect-off : (q : Address) (old new : MemberState S) (start out : Output) → is_connected old ≡ false → OnSuspect meaning (who p group) q (in_step old start) (in_step new out) → is_connected new ≡ is_connected old
  suspect-off q old new start out off x =
      let none = outside (who p group) old off in
      let e : is_suspectable p q old ≡ false = ap (λ (t : Option ViewState). (is_some t && not (same_address q p)) && (has_member q old || has_promised q old)) none in
      let y : StaysAs (in_step old start) (in_step new out) = subst (λ (b : Bool). MatchBool b (TakesSuspicion meaning (who p group) q (in_step old start) (in_step new out)) (StaysAs (in_step old start) (in_step new out))) e x in
      ap is_connected y.0

  pub suspect-handled : (q : Address) (old new : MemberState S) (start out : Output) → IsMemberState (who p group) old → Puts [] [] start
      → OnSuspect meaning (who p group) q (in_step old start) (in_step new out) → IsCalm (WINDOW + 3) start out
      → (is_suspectable p q old ≡ false → StaysAs (in_step old start) (in_step new out)) → IsRunning (who p group) new → Holds (Some old) (Suspect q) (Ok out) (Some new)
  suspect-handled q old new start out kept nothing x calm stays runs =
      let did = suspect-did meaning (who p group) None q (in_step old start) (in_step new out) kept x in
      ok-handled old new (Suspect q) start out nothing did refl refl
      (calm-quiet (WINDOW + 3) start out nothing calm, stays-so (is_connected old) None old new start out refl (λ off. suspect-off q old new start out off x) did) tt x
      (λ i. let y = stays (not-true (is_suspectable p q old) i) in (same-nothing start out nothing y.1, ap {B = MemberModel S} (λ (l : MemberState S). at (Some l)) y.0))
      (calm-few (WINDOW + 3) start out nothing calm (omega arith)) runs

  pub hint-handled : (q : Address) (old : MemberState S) (start out : Output) → IsMemberState (who p group) old → Puts [] [] start → AnnouncesView (who p group) q (in_step old start) (in_step old out)
      → (is_hint_ignored p q old ≡ true → out ≡ start) → IsRunning (who p group) old → Holds (Some old) (MergeHint q) (Ok out) (Some old)
  hint-handled q old start out kept nothing x stays runs =
      let happens : out.events.items ≡ [] = only start out _ nothing x.grows.events in
      ok-handled old old (MergeHint q) start out nothing (hint-did meaning (who p group) None q (in_step old start) (in_step old out) kept x) refl refl (happens, refl) tt x
      (λ i. (same-nothing start out nothing (stays i), refl)) (subst (λ l. length l ≤ STEP_EVENTS) (sym happens) (omega arith)) runs

  -- ---- it leaves

  pub leave-handled : (old : MemberState S) (start out : Output) → Puts [] [] start → Leaves (who p group) (in_step old start) out → Holds (Some old) Leave (Ok out) None
  leave-handled old start out nothing x =
      let left = leave-acted meaning (who p group) None old start out x in
      let happens : out.events.items ≡ Left p ∷ [] = only start out _ nothing x.grows.events in
      record {
        acted = record {
          posted = left.posted;
          acted = subst (λ (h : List Event). Acted meaning None (Some (core_at p old)) left.posted h None) (sym happens) left.acted;
          spelled = left.grows.packets ∙ ap (λ l. l ++ map (spelled group) left.posted) nothing.packets;
          sound = left.grows.sound;
        };
        refused = (refl, refl);
        memory = ok-memory (at (Some old)) Leave (at None) out;
        closed = record { ended = λ none. absurd (none-some _ (sym none)); only = ok-closed _ out };
        reply = (happens, refl);
        prompt = tt;
        does = record { start = start; nothing = nothing; does = x };
        few = subst (λ l. length l ≤ STEP_EVENTS) (sym happens) (omega arith);
        short = subst IsRecordable (sym happens) (recordable (Left p ∷ []) left.grows.short);
        ignored = λ i. absurd (let n : false ≡ true = i in cc);
        alive = λ l none. absurd (none-some l none);
        address = refl;
        group = refl;
      }

  -- what it left is nothing
  pub left-none : (member_state : Option (MemberState S)) (old : MemberState S) (input : Input) (result : Result Output Error) (new : Option (MemberState S)) → member_state ≡ Some old → new ≡ None → Holds (Some old) input result None
      → Holds member_state input result new
  left-none member_state old input result new is ended x =
      from-some member_state old input result new is (subst (λ (l : Option (MemberState S)). Holds (Some old) input result l) (sym ended) x)
