-- Each state that a member of a view has, has a last token of at most that view: it enters with a state of lower views, and in the view only commands of the view are carried out.
use Rattle.std.proofs.Common.{◌≡◌, ℕ, zero, suc, ◌≤◌, Bool, true, false, cond, ◌&&◌, List, [], ◌∷◌, ◌++◌, length, take, Option, Some, None, ◌⊎◌, inl, inr, refl, sym, ap, subst, ◌∙◌, arith}
use Rattle.std.specs.Prelude.{unwrap_or}
use Rattle.std.specs.List.{AllByRecursion, slice_get}
use Rattle.std.specs.Option.{option_and_then, option_or}
use Rattle.std.proofs.lemmas.Bool.{cond-true, cond-false, and_parts}
use Rattle.std.proofs.lemmas.Option.{none-some, same_Some, cond_some}
use Rattle.std.proofs.lemmas.List.{take_all}
use Rattle.address.specs.Ids.{Address, ViewId, same_address, same_view_id}
use Rattle.address.proofs.SameIds.{same_address-true, same_view_id-true}
use Rattle.trace_props.specs.declared.event.Event.{Event}
use Rattle.trace_props.specs.declared.event.Event.TheVariants.{Started, Sent, Delivered, Blocked, Installed, Left, Crashed}
use Rattle.trace_props.specs.declared.event.Delivery.{Delivery}
use Rattle.trace_props.specs.declared.event.Install.{Install}
use Rattle.trace_props.specs.declared.event.Numbered.{Numbered}
use Rattle.trace_props.specs.declared.event.Message.{Message as Carried}
use Rattle.trace_props.specs.Observed.{current_view, view_after, delivered_message, delivered_in, said, numbered}
use Rattle.trace_props.specs.Rules.{IsBelow, MayStand, IsWellPlaced, EntersAbove}
use Rattle.trace_props.specs.State.{state_after, state_of, installs, entry_state}
use Rattle.trace_props.specs.Synchrony.{KeepsRules}
use Rattle.trace_props.proofs.RulesAlongLists.{EachEvent-before, EachEvent-last, EachPlace-whole, take-next, slice_get-take}
use Rattle.trace_props.proofs.ObservedGrow.{current_view-push}
use Rattle.trace_props.proofs.DeliveredGrow.{is_delivery_to-true, said_by-true}
use Rattle.trace_props.proofs.InstallsOfRisingViews.{by_pushes, IsUpTo, IsUpTo-below}
use Rattle.trace_props.proofs.RuleOfEntry.{state_of-push, entry_state-push}
use Rattle.law_processes.specs.Replicas as copies
use Rattle.law_processes.proofs.StatesAreMade.{Grounds, state-made}
use Rattle.keyed_state.specs.declared.token.Token.{Token}
use Rattle.lock_table.specs.declared.command.Command.{Command}
use Rattle.keyed_state.specs.Tokens.{IsViewId, least_token}
use Rattle.lock_table.specs.Locks.{Table, view_of, carried_out}
use Rattle.lock_table.specs.Commands.{command_of, after_command, table_apply}
use Rattle.lock_table.specs.CommandLaws.{command_is_spelled, view-fits}
use Rattle.lock_table.specs.Meanings.{table_meaning}
use Rattle.keyed_state.specs.Entries.{Rises}
use Rattle.lock_table.proofs.GrantsRise.{token-in}
use Rattle.lock_table.proofs.OneMessageGrants.{IsNew}
use Rattle.law_processes.proofs.ElementsComeFrom.{comes-at, was-sent}
use Rattle.lock_fencing.specs.Fencing.{Grant, view_at, token_at, IsOfTables, SpellsViews, TokensOfViews}
use Rattle.lock_fencing.proofs.TablesDelivered.{all-from, past, states-are}
use Rattle.lock_fencing.proofs.TokensStayInViews.{least-up, carried-stays, carried-new}

-- ---- a member without a view has the state of the beginning

StateIsFirst : Address → List Event → Type 0
StateIsFirst p t = IsWellPlaced t → current_view p t ≡ None → state_of table_meaning p t ≡ table_meaning.opening

first-still : (p : Address) (t : List Event) (h : Event) → view_after p (current_view p t) h ≡ current_view p t → state_after table_meaning p (state_of table_meaning p t) h ≡ state_of table_meaning p t → StateIsFirst p t → StateIsFirst p (t ++ h ∷ [])
unfolding StateIsFirst
first-still p t h view state r = λ placed none.
    state_of-push table_meaning p t h ∙ state ∙ r (EachEvent-before MayStand t h placed) (sym view ∙ sym (current_view-push p t h) ∙ none)

first-delivered : (p : Address) (t : List Event) (d : Delivery) (b : Bool) → same_address d.member p ≡ b → StateIsFirst p t → StateIsFirst p (t ++ Delivered d ∷ [])
unfolding StateIsFirst
first-delivered p t d false e r = first-still p t (Delivered d) refl (cond-false (same_address d.member p) (table_meaning.apply (state_of table_meaning p t) d.message.sender d.message.payload) (state_of table_meaning p t) e) r
first-delivered p t d true e r = λ placed none.
    let stands = EachEvent-last MayStand t (Delivered d) placed in
    let here : current_view p t ≡ Some d.view = ap (λ q. current_view q t) (sym (same_address-true d.member p e)) ∙ stands.1 in
    absurd (none-some d.view (sym none ∙ current_view-push p t (Delivered d) ∙ here))

first-install : (p : Address) (t : List Event) (i : Install) (b : Bool) → same_address i.member p ≡ b → StateIsFirst p t → StateIsFirst p (t ++ Installed i ∷ [])
unfolding StateIsFirst
first-install p t i false e r =
    first-still p t (Installed i) (cond-false (same_address i.member p) (Some i.view.id) (current_view p t) e) (cond-false (same_address i.member p) _ (state_of table_meaning p t) e) r
first-install p t i true e r = λ placed none.
    absurd (none-some i.view.id (sym none ∙ current_view-push p t (Installed i) ∙ cond-true (same_address i.member p) (Some i.view.id) (current_view p t) e))

first-push : (p : Address) (t : List Event) (h : Event) → StateIsFirst p t → StateIsFirst p (t ++ h ∷ [])
first-push p t (Started q) r = first-still p t (Started q) refl refl r
first-push p t (Sent s) r = first-still p t (Sent s) refl refl r
first-push p t (Delivered d) r = first-delivered p t d (same_address d.member p) refl r
first-push p t (Blocked q) r = first-still p t (Blocked q) refl refl r
first-push p t (Installed i) r = first-install p t i (same_address i.member p) refl r
first-push p t (Left q) r = first-still p t (Left q) refl refl r
first-push p t (Crashed q) r = first-still p t (Crashed q) refl refl r

state-first : (p : Address) (t : List Event) → IsWellPlaced t → current_view p t ≡ None → state_of table_meaning p t ≡ table_meaning.opening
unfolding StateIsFirst
state-first p t = by_pushes (StateIsFirst p) (λ placed none. refl) (first-push p) t

-- ---- low tokens

-- a payload spells a view, if it is a command
Spells : ViewId → List ℕ → Type 0
Spells v payload = (c : Command) → command_of payload ≡ Some c → view_of c ≡ v

-- a last token is of at most a view, or of none that was granted
abbrev IsLow : ViewId → Token → Type 0
IsLow v last = (last.view ≡ least_token.view) ⊎ IsUpTo last.view v

low-up : (v : ViewId) (last : Token) → IsViewId v → IsLow v last → IsUpTo last.view v
low-up v last is (inl e) = subst (λ (u : ViewId). IsUpTo u v) (sym e) (least-up v is)
low-up v last is (inr up) = up

low-later : (u v : ViewId) (last : Token) → IsBelow u v → IsLow u last → IsLow v last
low-later u v last below (inl e) = inl e
low-later u v last below (inr up) = inr (inr (IsUpTo-below last.view u v up below))

-- at a command of a view the last token is of at most that view
command-up : (v : ViewId) (s : Table) (payload : List ℕ) (c : Command) → Spells v payload → command_of payload ≡ Some c → IsLow v s.last → IsUpTo s.last.view (view_of c)
unfolding Spells
command-up v s payload c spells e low =
    low-up (view_of c) s.last (view-fits c (command_is_spelled payload c e).0) (subst (λ (u : ViewId). IsLow u s.last) (sym (spells c e)) low)

low-message : (v : ViewId) (s : Table) (from : Address) (payload : List ℕ) → Spells v payload → IsLow v s.last → IsLow v (table_apply s from payload).last
unfolding Spells
low-message v s from payload spells low = by (command_of payload) refl where
  by : (o : Option Command) → command_of payload ≡ o → IsLow v (after_command from s o).last
  by None e = low
  by (Some c) e = inr (subst (IsUpTo (carried_out from c s).last.view) (spells c e) (carried-stays from c s (command-up v s payload c spells e low)))

low-all : (v : ViewId) (ms : List Carried) (s : Table) → AllByRecursion (λ m. Spells v m.payload) ms → IsLow v s.last → IsLow v (copies.after_all table_meaning s ms).last
low-all v [] s all low = low
low-all v (m ∷ ms) s all low = low-all v ms (table_apply s m.sender m.payload) all.1 (low-message v s m.sender m.payload all.0 low)

-- ---- in a trace

module _ (t : List Event) (is : IsOfTables t) (spells : SpellsViews t) where
  whole : KeepsRules table_meaning t
  whole = EachPlace-whole (KeepsRules table_meaning) t is.synchronous

  grounds : (k : ℕ) → Grounds table_meaning (take k t)
  grounds k = let was = is.synchronous k in record { placed = was.ordered.placed; views = was.ordered.views; state = was.state }

  -- what is sent in a view spells it
  sent-spells : (p : Address) (v : ViewId) (n : Numbered) (k : ℕ) (h : Event) → slice_get t k ≡ Some h → said p v h ≡ Some n → Spells v n.payload
  unfolding Spells
  sent-spells p v n k (Started q) at e = absurd (none-some n e)
  sent-spells p v n k (Sent s) at e = λ c is.
      let parts = cond_some (same_address s.member p && same_view_id s.view v) s.message n e in
      spells k s c at (ap (λ (x : Numbered). command_of x.payload) parts.1 ∙ is) ∙ (said_by-true p v s parts.0).1
  sent-spells p v n k (Delivered d) at e = absurd (none-some n e)
  sent-spells p v n k (Blocked q) at e = absurd (none-some n e)
  sent-spells p v n k (Installed i) at e = absurd (none-some n e)
  sent-spells p v n k (Left q) at e = absurd (none-some n e)
  sent-spells p v n k (Crashed q) at e = absurd (none-some n e)

  message-spells : (k : ℕ) (d : Delivery) → slice_get t k ≡ Some (Delivered d) → Spells d.view d.message.payload
  message-spells k d at =
      let from = (was-sent table_meaning t is.synchronous k d at).sent in
      sent-spells d.message.sender d.view (numbered d.message) from.place from.it from.stands from.gives

  event-spells : (p : Address) (v : ViewId) (m : Carried) (k : ℕ) (h : Event) → slice_get t k ≡ Some h → delivered_message p v h ≡ Some m → Spells v m.payload
  event-spells p v m k (Started q) at e = absurd (none-some m e)
  event-spells p v m k (Sent s) at e = absurd (none-some m e)
  event-spells p v m k (Delivered d) at e =
      let parts = cond_some (same_address d.member p && same_view_id d.view v) d.message m e in
      subst (λ (x : Carried). Spells v x.payload) parts.1 (subst (λ (w : ViewId). Spells w d.message.payload) (is_delivery_to-true p v d parts.0).1 (message-spells k d at))
  event-spells p v m k (Blocked q) at e = absurd (none-some m e)
  event-spells p v m k (Installed i) at e = absurd (none-some m e)
  event-spells p v m k (Left q) at e = absurd (none-some m e)
  event-spells p v m k (Crashed q) at e = absurd (none-some m e)

  delivered-spell : (p : Address) (v : ViewId) (n : ℕ) → AllByRecursion (λ m. Spells v m.payload) (delivered_in p v (take n t))
  delivered-spell p v n = all-from (λ m. Spells v m.payload) (delivered_in p v (take n t)) (λ k m e.
      let from = comes-at (delivered_message p v) (take n t) k m e in
      event-spells p v m from.place from.it (slice_get-take n t from.place from.it from.stands) from.gives)

  EntriesLow : ℕ → Type 0
  EntriesLow n = (v : ViewId) (s : Table) → entry_state table_meaning v (take n t) ≡ Some s → IsLow v s.last

  -- so is each state of a member with a view, where the states of entry are low
  state-low : (n : ℕ) → EntriesLow n → (p : Address) (v : ViewId) → current_view p (take n t) ≡ Some v → IsLow v (state_of table_meaning p (take n t)).last
  unfolding EntriesLow
  state-low n entries p v here =
      let made = state-made table_meaning (take n t) (grounds n) p v here in
      subst (λ (s : Table). IsLow v s.last) (sym made.made) (low-all v (delivered_in p v (take n t)) made.entry (delivered-spell p v n) (entries v made.entry made.entered))

  -- who has a lower view, or none, has a low state for the next one
  before-low : (n : ℕ) → EntriesLow n → (p : Address) (v : ViewId) (o : Option ViewId) → current_view p (take n t) ≡ o → ((u : ViewId) → o ≡ Some u → IsBelow u v) → IsLow v (state_of table_meaning p (take n t)).last
  before-low n entries p v None at below = inl (ap (λ (s : Table). s.last.view) (state-first p (take n t) (grounds n).placed at))
  before-low n entries p v (Some u) at below = low-later u v (state_of table_meaning p (take n t)).last (below u refl) (state-low n entries p u at)

  -- a coordinator's install of its own view leaves its state
  own-state : (n : ℕ) (i : Install) (v : ViewId) → slice_get t n ≡ Some (Installed i) → i.member ≡ v.creator → i.view.id ≡ v
      → state_of table_meaning v.creator (take n t ++ Installed i ∷ []) ≡ state_of table_meaning v.creator (take n t)
  own-state n i v at member view =
      let given : i.given ≡ None = is.own n i at (member ∙ ap (λ (w : ViewId). w.creator) (sym view)) in
      let s = state_of table_meaning v.creator (take n t) in
      state_of-push table_meaning v.creator (take n t) (Installed i)
      ∙ ap (λ o. cond (same_address i.member v.creator) (unwrap_or (option_and_then table_meaning.decode o) s) s) given
      ∙ either (same_address i.member v.creator) s
    where
      either : (b : Bool) (s : Table) → cond b s s ≡ s
      either true s = refl
      either false s = refl

  new-entry : (n : ℕ) → EntriesLow n → (v : ViewId) (h : Event) → slice_get t n ≡ Some h → installs v.creator v h ≡ true → IsLow v (state_of table_meaning v.creator (take n t ++ h ∷ [])).last
  new-entry n entries v (Started q) at e = absurd cc
  new-entry n entries v (Sent s) at e = absurd cc
  new-entry n entries v (Delivered d) at e = absurd cc
  new-entry n entries v (Blocked q) at e = absurd cc
  new-entry n entries v (Installed i) at e =
      let parts = and_parts (same_address i.member v.creator) (same_view_id i.view.id v) e in
      let member : i.member ≡ v.creator = same_address-true i.member v.creator parts.0 in
      let view : i.view.id ≡ v = same_view_id-true i.view.id v parts.1 in
      let above : EntersAbove (take n t) i = whole.ordered.views.rises n (Installed i) at in
      subst (λ (s : Table). IsLow v s.last) (sym (own-state n i v at member view))
      (before-low n entries v.creator v (current_view v.creator (take n t)) refl
      (λ u is. subst (λ (w : ViewId). IsBelow u w) view (above.rises u (above.previous ∙ ap (λ q. current_view q (take n t)) member ∙ is))))
  new-entry n entries v (Left q) at e = absurd cc
  new-entry n entries v (Crashed q) at e = absurd cc

  entries-next : (n : ℕ) → EntriesLow n → (h : Event) → slice_get t n ≡ Some h → EntriesLow (suc n)
  unfolding EntriesLow
  entries-next n entries h at = λ v s e.
      by v s (entry_state table_meaning v (take n t)) refl (sym (entry_state-push table_meaning v (take n t) h) ∙ ap (entry_state table_meaning v) (sym (take-next n t h at)) ∙ e)
    where
      by : (v : ViewId) (s : Table) (o : Option Table) → entry_state table_meaning v (take n t) ≡ o
          → option_or o (cond (installs v.creator v h) (Some (state_of table_meaning v.creator (take n t ++ h ∷ []))) None) ≡ Some s → IsLow v s.last
      by v s None is e =
          let parts = cond_some (installs v.creator v h) (state_of table_meaning v.creator (take n t ++ h ∷ [])) s e in
          subst (λ (x : Table). IsLow v x.last) parts.1 (new-entry n entries v h at parts.0)
      by v s (Some x) is e = subst (λ (y : Table). IsLow v y.last) (same_Some x s e) (entries v x is)

  entries-past : (n : ℕ) → EntriesLow n → length t ≤ n → EntriesLow (suc n)
  unfolding EntriesLow
  entries-past n entries le = λ v s e. entries v s (ap (entry_state table_meaning v) (take_all n t le ∙ sym (take_all (suc n) t (omega (arith, le)))) ∙ e)

  -- the last token of each state of entry is of at most the view that is entered
  entries-low : (n : ℕ) → EntriesLow n
  unfolding EntriesLow
  entries-low zero = λ v s e. absurd (none-some s e)
  entries-low (suc n) = by (slice_get t n) refl (entries-low n) where
    by : (o : Option Event) → slice_get t n ≡ o → EntriesLow n → EntriesLow (suc n)
    by None at entries = entries-past n entries (past n t at)
    by (Some h) at entries = entries-next n entries h at

  granted-in : (g : Grant t) → (token_at g).view ≡ view_at g
  unfolding Spells
  granted-in g =
      let d = g.delivery in
      let s = state_of table_meaning d.member (take g.place t) in
      let here : current_view d.member (take g.place t) ≡ Some d.view = (whole.ordered.placed g.place (Delivered d) g.happens).1 in
      by s (command_of d.message.payload) refl (state-low g.place (entries-low g.place) d.member d.view here) (message-spells g.place d g.happens) (states-are t is.messages g.place d.member).rises
      (record { stands = g.grants.stands; new = g.grants.new })
    where
      by : (s : Table) (o : Option Command) → command_of g.delivery.message.payload ≡ o → IsLow g.delivery.view s.last → Spells g.delivery.view g.delivery.message.payload → Rises s.entries
          → IsNew g.name s (after_command g.delivery.message.sender s o) g.lock → g.lock.token.view ≡ g.delivery.view
      by s None e low spelled rises new = absurd (new.new (ap token-in new.stands))
      by s (Some c) e low spelled rises new =
          carried-new g.delivery.message.sender c g.name s g.lock rises (command-up g.delivery.view s g.delivery.message.payload c spelled e low) new ∙ spelled c e

pub tokens-of-views : TokensOfViews
tokens-of-views t is spells g = granted-in t is spells g
