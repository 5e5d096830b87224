-- The service follows its member; who is told that a lock is granted asked for it, and the member holds it then.
use Rattle.std.proofs.Common.{◌≡◌, ◌⊎◌, inl, inr, ℕ, suc, true, List, [], ◌∷◌, ◌++◌, map, take, Option, None, Some, fold, refl, sym, ap, subst, ◌∙◌, append_assoc}
use Rattle.std.specs.List.{Contains, flat_map}
use Rattle.std.proofs.lemmas.List.{append-nil}
use Rattle.std.proofs.lemmas.List.Elements.{Contains-append_cases, Contains-append_left, Contains-append_right, Contains-push, Contains-push_cases}
use Rattle.address.specs.Ids.{Address, ViewId, same_address}
use Rattle.trace_props.specs.declared.event.Event.{Event}
use Rattle.trace_props.specs.declared.event.Event.TheVariants.{Delivered, Installed}
use Rattle.trace_props.specs.declared.event.Delivery.{Delivery}
use Rattle.trace_props.specs.declared.event.Install.{Install}
use Rattle.trace_props.specs.State.{state_after}
use Rattle.lock_table.specs.declared.command.Command.{Command}
use Rattle.lock_table.specs.declared.command.Command.TheVariants.{Acquire, Release, Roll}
use Rattle.keyed_state.specs.declared.token.Token.{Token}
use Rattle.lock_table.specs.Locks.{Table}
use Rattle.lock_table.specs.Commands.{command_of}
use Rattle.lock_table.specs.Meanings.{table_meaning}
use Rattle.application.specs.declared.waiting.Waiting.{Waiting}
use Rattle.application.specs.Waits.{ticket_of}
use Rattle.application.specs.Places.{next_place}
use Rattle.application.specs.Followed.{Followed, Follows, after_delivery, after_event, after_install, due}
use Rattle.application.proofs.OwnEvents.{nothing-stands, by-own, given, next-heard, answers-stay as stay}
use Rattle.application.proofs.EventsFollowed.{due-own, service-follows}
use Rattle.lock_table.specs.declared.standing.Standing.{Standing}
use Rattle.lock_table.specs.declared.standing.Standing.TheVariants.{Holds, Waits, Apart}
use Rattle.lock_table.specs.declared.answer.Answer.{Answer}
use Rattle.lock_table.specs.declared.answer.Queued.{Queued}
use Rattle.lock_table.specs.declared.answer.Fate.{Fate}
use Rattle.lock_table.specs.declared.answer.Fate.TheVariants.{Granted, HandedBack}
use Rattle.lock_table.specs.Standings.{standing}
use Rattle.lock_table.specs.Keeping.{Keeping, heard, delivered, installed, applied, late, answer_of, told_of, told, late_fate, first_verdict, release_fate, early, verdict, own_answers, back, table_in}
use Rattle.lock_table.specs.Answers.{heard_all, answers_by, answers_to, AsksFor, GrantsAreTrue}

-- ---- what is told

one-told : (ticket : ℕ) (view : ViewId) (place : ℕ) (o : Option Fate) (a : Answer) → Contains (told_of ticket view place o) a → (ticket ≡ a.ticket) × (o ≡ Some a.fate)
one-told ticket view place None a c = absurd (nothing-stands a c)
one-told ticket view place (Some f) a c = by (Contains-push_cases [] (answer_of ticket view place f) a c) where
  by : Contains [] a ⊎ (answer_of ticket view place f ≡ a) → (ticket ≡ a.ticket) × (Some f ≡ Some a.fate)
  by (inl none) = absurd (nothing-stands a none)
  by (inr same) = (ap (λ (x : Answer). x.ticket) same, ap (λ (x : Answer). Some x.fate) same)

late-grant : (stands : Standing) (token : Token) → late_fate stands ≡ Some (Granted token) → stands ≡ Holds token
late-grant (Holds t) token e = by t token e where
  by : (x y : Token) → Some (Granted x) ≡ Some (Granted y) → Holds x ≡ Holds y
  by x y e = cc
late-grant Waits token e = absurd cc
late-grant Apart token e = absurd cc

first-grant : (stands : Standing) (token : Token) → first_verdict stands ≡ Some (Granted token) → stands ≡ Holds token
first-grant (Holds t) token e = by t token e where
  by : (x y : Token) → Some (Granted x) ≡ Some (Granted y) → Holds x ≡ Holds y
  by x y e = cc
first-grant Waits token e = absurd cc
first-grant Apart token e = absurd cc

no-release-grants : (stands : Standing) (token : Token) → Some (release_fate stands) ≡ Some (Granted token) → ⊥
no-release-grants (Holds t) token e = cc
no-release-grants Waits token e = cc
no-release-grants Apart token e = cc

-- who waited is told of a grant if the member holds the lock
record IsLateGrant (own : Address) (s : Table) (qs : List Queued) (token : Token) (a : Answer) : Type 0 where
  name : List ℕ
  queued : Contains qs (record { ticket = a.ticket; name = name })
  holds : standing own name s ≡ Holds token

late-grants : (own : Address) (s : Table) (view : ViewId) (place : ℕ) (qs : List Queued) (token : Token) (a : Answer) → Contains (flat_map (told own s view place) qs) a → a.fate ≡ Granted token → IsLateGrant own s qs token a
late-grants own s view place [] token a c e = absurd (nothing-stands a c)
late-grants own s view place (q ∷ qs) token a c e = by (Contains-append_cases (told own s view place q) (flat_map (told own s view place) qs) a c) (late-grants own s view place qs token a) where
  here : (ticket : ℕ) → q.ticket ≡ ticket → Contains (q ∷ qs) (record { ticket = ticket; name = q.name })
  here ticket same = subst (λ (n : ℕ). Contains (q ∷ qs) (record { ticket = n; name = q.name })) same (Contains-append_left (q ∷ []) qs q (Contains-push [] q))

  by : Contains (told own s view place q) a ⊎ Contains (flat_map (told own s view place) qs) a → (Contains (flat_map (told own s view place) qs) a → a.fate ≡ Granted token → IsLateGrant own s qs token a) → IsLateGrant own s (q ∷ qs) token a
  by (inl one) rest =
      let said = one-told q.ticket view place (late_fate (standing own q.name s)) a one in
      record { name = q.name; queued = here a.ticket said.0; holds = late-grant (standing own q.name s) token (said.1 ∙ ap (λ (f : Fate). Some f) e) }
  by (inr more) rest = let x = rest more e in record { name = x.name; queued = Contains-append_right (q ∷ []) qs _ x.queued; holds = x.holds }

-- who asks by an own message is told of a grant if the member holds the lock right behind it
record IsEarlyGrant (u : Keeping) (d : Delivery) (token : Token) (a : Answer) : Type 0 where
  name : List ℕ
  view : ViewId
  ticket : (same_address d.message.sender u.followed.own ≡ true) × (ticket_of d.message.number u.followed.waiting ≡ Some a.ticket)
  asks : command_of d.message.payload ≡ Some (Acquire view name)
  holds : standing u.followed.own name (applied d u) ≡ Holds token

early-grants : (u : Keeping) (d : Delivery) (token : Token) (a : Answer) → Contains (own_answers (due d u.followed) d u (applied d u)) a → a.fate ≡ Granted token → IsEarlyGrant u d token a
early-grants u d token a = by (due d u.followed) refl where
  which : (ticket : ℕ) (o : Option Command) → due d u.followed ≡ Some ticket → ticket ≡ a.ticket → command_of d.message.payload ≡ o
      → verdict u.followed.own (applied d u) (early u.followed.own u.followed.copy o) ≡ Some (Granted token) → IsEarlyGrant u d token a
  which ticket None at same e says = absurd cc
  which ticket (Some (Acquire view name)) at same e says =
      record { name = name; view = view; ticket = due-own d u.followed a.ticket (at ∙ ap (λ (n : ℕ). Some n) same); asks = e; holds = first-grant (standing u.followed.own name (applied d u)) token says }
  which ticket (Some (Release view name)) at same e says = absurd (no-release-grants (standing u.followed.own name u.followed.copy) token says)
  which ticket (Some (Roll view)) at same e says = absurd cc

  by : (o : Option ℕ) → due d u.followed ≡ o → Contains (own_answers o d u (applied d u)) a → a.fate ≡ Granted token → IsEarlyGrant u d token a
  by None at c e = absurd (nothing-stands a c)
  by (Some ticket) at c e =
      let said = one-told ticket d.view (next_place u.followed.place) (verdict u.followed.own (applied d u) (early u.followed.own u.followed.copy (command_of d.message.payload))) a c in
      which ticket (command_of d.message.payload) at said.0 refl (said.1 ∙ ap (λ (f : Fate). Some f) e)

no-back-grants : (view : ViewId) (ws : List Waiting) (a : Answer) (token : Token) → Contains (map (back view) ws) a → a.fate ≡ Granted token → ⊥
no-back-grants view [] a token c e = nothing-stands a c
no-back-grants view (w ∷ ws) a token c e = by (Contains-append_cases (back view w ∷ []) (map (back view) ws) a c) (no-back-grants view ws a token) where
  first : Contains [] a ⊎ (back view w ≡ a) → ⊥
  first (inl none) = nothing-stands a none
  first (inr same) = other (ap (λ (x : Answer). x.fate) same ∙ e) where
    other : HandedBack ≡ Granted token → ⊥
    other e = cc

  by : Contains (back view w ∷ []) a ⊎ Contains (map (back view) ws) a → (Contains (map (back view) ws) a → a.fate ≡ Granted token → ⊥) → ⊥
  by (inl one) rest = first (Contains-push_cases [] (back view w) a one)
  by (inr more) rest = rest more e

-- ---- an event that grants

abbrev given_by : Keeping → Delivery → List Answer
given_by s d = late s d ++ own_answers (due d s.followed) d s (applied d s)

abbrev given_at : Keeping → Install → List Answer
given_at s i = map (back i.view.id) s.followed.waiting ++ flat_map (told s.followed.own (table_in i s) i.view.id 0) s.queued

record IsGrant (u new : Keeping) (h : Event) (token : Token) (a : Answer) : Type 0 where
  name : List ℕ
  asks : AsksFor u a.ticket name h
  holds : standing u.followed.own name new.followed.copy ≡ Holds token

abbrev Grants : Keeping → Answer → Token → Event → Keeping → List Answer → Type 0
Grants u a token h new l = Contains l a → a.fate ≡ Granted token → IsGrant u new h token a

delivery-grants : (u : Keeping) (a : Answer) (token : Token) (d : Delivery) → Grants u a token (Delivered d) (delivered d u) (given_by u d)
delivery-grants u a token d c g = by (Contains-append_cases (late u d) (own_answers (due d u.followed) d u (applied d u)) a c) where
  by : Contains (late u d) a ⊎ Contains (own_answers (due d u.followed) d u (applied d u)) a → IsGrant u (delivered d u) (Delivered d) token a
  by (inl told) = let x = late-grants u.followed.own (applied d u) d.view (next_place u.followed.place) u.queued token a told g in record { name = x.name; asks = inl x.queued; holds = x.holds }
  by (inr said) = let x = early-grants u d token a said g in record { name = x.name; asks = inr (x.ticket.0, x.ticket.1, x.view, x.asks); holds = x.holds }

install-grants : (u : Keeping) (a : Answer) (token : Token) (i : Install) → Grants u a token (Installed i) (installed i u) (given_at u i)
install-grants u a token i c g = by (Contains-append_cases (map (back i.view.id) u.followed.waiting) (flat_map (told u.followed.own (table_in i u) i.view.id 0) u.queued) a c) where
  by : Contains (map (back i.view.id) u.followed.waiting) a ⊎ Contains (flat_map (told u.followed.own (table_in i u) i.view.id 0) u.queued) a → IsGrant u (installed i u) (Installed i) token a
  by (inl handed) = absurd (no-back-grants i.view.id u.followed.waiting a token handed g)
  by (inr told) = let x = late-grants u.followed.own (table_in i u) i.view.id 0 u.queued token a told g in record { name = x.name; asks = inl x.queued; holds = x.holds }

event-grants : (u : Keeping) (a : Answer) (token : Token) (h : Event) → Grants u a token h (heard u h) (answers_by u h)
event-grants u a token h = by-own (Grants u a token) u.followed.own (λ d. delivered d u) (λ i. installed i u) u (given_by u) (given_at u) []
    (λ d here. delivery-grants u a token d) (λ i here. install-grants u a token i) (λ h c g. absurd (nothing-stands a c)) h

-- ---- what it knows, and what stays

followed-one : (s : Keeping) (h : Event) → (heard s h).followed ≡ after_event table_meaning s.followed h
followed-one s h = by-own (λ h (x : Keeping) (f : Followed Table). x.followed ≡ f) s.followed.own (λ d. delivered d s) (λ i. installed i s) s
    (λ d. after_delivery table_meaning d s.followed) (λ i. after_install table_meaning i s.followed) s.followed (λ d e. refl) (λ i e. refl) (λ h. refl) h

pub follows : (s : Keeping) (t : List Event) → Follows table_meaning s.followed (heard_all s t).followed t
follows s t = service-follows table_meaning heard (λ (x : Keeping). x.followed) followed-one s t

answers-one : (s : Keeping) (h : Event) → (heard s h).answers ≡ s.answers ++ answers_by s h
answers-one s h = by-own (λ h (x : Keeping) (l : List Answer). x.answers ≡ s.answers ++ l) s.followed.own (λ d. delivered d s) (λ i. installed i s) s (given_by s) (given_at s) []
    (λ d e. append_assoc s.answers (late s d) (own_answers (due d s.followed) d s (applied d s)))
    (λ i e. append_assoc s.answers (map (back i.view.id) s.followed.waiting) (flat_map (told s.followed.own (table_in i s) i.view.id 0) s.queued))
    (λ h. sym (append-nil s.answers)) h

pub answers-stay : (s : Keeping) (t : List Event) → (heard_all s t).answers ≡ s.answers ++ answers_to s t
answers-stay s t = stay heard answers_by (λ (x : Keeping). x.answers) answers-one s t

-- ---- the law

pub true-grants : (s : Keeping) (t : List Event) → GrantsAreTrue s t
true-grants s t a token c e =
    let g = given heard answers_by s t a c in
    let u = heard_all s (take g.0 t) in
    let x = event-grants u a token g.1 g.3 e in
    let own : u.followed.own ≡ s.followed.own = (follows s (take g.0 t)).own in
    let next : heard_all s (take (suc g.0) t) ≡ heard u g.1 = next-heard heard s t g.0 g.1 g.2 in
    let copy : (heard u g.1).followed.copy ≡ fold (state_after table_meaning s.followed.own) s.followed.copy (take (suc g.0) t)
    = ap (λ (k : Keeping). k.followed.copy) (sym next) ∙ (follows s (take (suc g.0) t)).copy in (
      g.0,
      x.name,
      record {
        event = g.1;
        stands = g.2;
        asks = x.asks;
        holds = ap (λ (p : Address). standing p x.name (fold (state_after table_meaning s.followed.own) s.followed.copy (take (suc g.0) t))) (sym own)
            ∙ ap (standing u.followed.own x.name) (sym copy) ∙ x.holds;
      },
    )
