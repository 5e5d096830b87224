-- The table of events, for a running member: what it answers is what the table says.
use Rattle.std.proofs.Common.{◌≡◌, ℕ, Bool, true, false, ◌&&◌, cond, nat_eq, Option, Some, None, List, [], ◌∷◌, is_some, refl, sym, ap, ◌∙◌, subst, inl, inr}
use Rattle.std.specs.List.{list_all}
use Rattle.std.proofs.lemmas.Bool.{cond-true, eq-eqb, and_from}
use Rattle.std.proofs.lemmas.Option.{none-some, same_Some, cond_some}
use Rattle.address.specs.Ids.{Address}
use Rattle.view.specs.Members.{View}
use Rattle.state_transfer.specs.Meanings.{Meaning}
use Rattle.trace_props.specs.declared.event.Event.{Event}
use Rattle.trace_props.specs.declared.event.Event.TheVariants.{Started, Delivered, Blocked, Installed, Left, Crashed}
use Rattle.trace_props.specs.declared.event.Event.TheVariants as event
use Rattle.law_acts.specs.Cores.{Core}
use Rattle.member.specs.declared.error.Error.{Error}
use Rattle.member.specs.declared.error.Error.TheVariants as error
use Rattle.member.specs.Members.{MemberModel, lone_install}
use Rattle.member.specs.Handling as member
use Rattle.world_model.specs.declared.Answer.TheVariants.{Done, Refused}
use Rattle.address.specs.declared.refusal.Refusal.TheVariants.{AlreadyConnected, Memory}
use Rattle.world_model.specs.Histories.{History}
use Rattle.world_model.specs.Faithful.{AnswersCreate, AnswersJoin, AnswersQuietly, AnswersLeave, is_quiet}
use Rattle.world.specs.NodeStates.{answer_for, answer_to}
use Rattle.law_processes.proofs.ActsAreOwn.{EachOwn}
use Rattle.world.proofs.OwnEventsQuiet.{own-quiet}
use Rattle.world.proofs.MembersAtNodes

-- ---- refusals by tests

-- nothing refuses: the test fails
pub free-of : {A : Type 0} (b : Bool) (x : A) (o : Option A) → cond b (Some x) o ≡ None → (b ≡ false) × (o ≡ None)
free-of true x o e = absurd (none-some x (sym e))
free-of false x o e = (refl, e)

-- ---- quiet events

quiet-same : (x : Event) → member.is_quiet x ≡ is_quiet x
quiet-same (Started p) = refl
quiet-same (event.Sent s) = refl
quiet-same (Delivered d) = refl
quiet-same (Blocked p) = refl
quiet-same (Installed i) = refl
quiet-same (Left p) = refl
quiet-same (Crashed p) = refl

pub quiet-all : (s : List Event) → list_all member.is_quiet s ≡ true → list_all is_quiet s ≡ true
quiet-all s e = subst (λ (f : Event → Bool). list_all f s ≡ true) (λ i x. quiet-same x i) e

-- they are answered Done
pub quiet-done : (s : List Event) → list_all member.is_quiet s ≡ true → answer_to s ≡ Done
quiet-done [] e = refl
quiet-done (Started p ∷ s) e = refl
quiet-done (event.Sent x ∷ s) e = absurd (let n : false ≡ true = e in cc)
quiet-done (Delivered d ∷ s) e = refl
quiet-done (Blocked p ∷ s) e = refl
quiet-done (Installed i ∷ s) e = refl
quiet-done (Left p ∷ s) e = refl
quiet-done (Crashed p ∷ s) e = refl

-- ---- a node's own event that was done

pub done-here : {X : Type 0} (n : ℕ) (y z : X) → cond (nat_eq n n && true) y z ≡ y
done-here n y z = cond-true (nat_eq n n && true) y z (and_from (nat_eq n n) true (eq-eqb n n refl) refl)

module _ {S : Type 0} (meaning : Meaning S) (h : History) (n : ℕ) (m : MemberModel S) (c : Core S) (x : MembersAtNodes.Runs meaning h n m c) where
  me-is : c.me ≡ m.address
  me-is = x.fact.standing.itself

  -- ---- a create

  pub create-taken : (s : List Event) → cond c.connected (Some (error.Refused AlreadyConnected)) None ≡ None → s ≡ Installed (lone_install c.me) ∷ [] → AnswersCreate m.address h Done s
  create-taken s free e =
      let off = MembersAtNodes.connected meaning h n m c x ∙ (free-of c.connected (error.Refused AlreadyConnected) None free).0 in
      rw off (inl (refl, e ∙ ap (λ (p : Address). Installed (lone_install p) ∷ []) me-is))

  pub create-lost : cond c.connected (Some (error.Refused AlreadyConnected)) None ≡ None → AnswersCreate m.address h (Refused Memory) (Crashed m.address ∷ [])
  create-lost free =
      let off = MembersAtNodes.connected meaning h n m c x ∙ (free-of c.connected (error.Refused AlreadyConnected) None free).0 in
      rw off (inr (refl, refl))

  pub create-not : (e : Error) → cond c.connected (Some (error.Refused AlreadyConnected)) None ≡ Some e → AnswersCreate m.address h (answer_for e) []
  create-not e refused =
      let p = cond_some c.connected (error.Refused AlreadyConnected) e refused in
      let on = MembersAtNodes.connected meaning h n m c x ∙ p.0 in
      rw on (ap answer_for (sym p.1), refl)

  -- ---- a join

  join-taken-at : (o : Option View) → c.view ≡ o → cond (is_some o) (Some (error.Refused AlreadyConnected)) None ≡ None → AnswersJoin m.address h Done []
  join-taken-at None e free = rw (MembersAtNodes.view-is meaning h n m c x None e) (inl (refl, refl))
  join-taken-at (Some v) e free = absurd (none-some _ (sym free))

  join-lost-at : (o : Option View) → c.view ≡ o → cond (is_some o) (Some (error.Refused AlreadyConnected)) None ≡ None → AnswersJoin m.address h (Refused Memory) (Crashed m.address ∷ [])
  join-lost-at None e free = rw (MembersAtNodes.view-is meaning h n m c x None e) (inr (refl, refl))
  join-lost-at (Some v) e free = absurd (none-some _ (sym free))

  join-not-at : (o : Option View) (err : Error) → c.view ≡ o → cond (is_some o) (Some (error.Refused AlreadyConnected)) None ≡ Some err → AnswersJoin m.address h (answer_for err) []
  join-not-at None err e refused = absurd (none-some err refused)
  join-not-at (Some v) err e refused =
      rw (MembersAtNodes.view-is meaning h n m c x (Some v) e) (ap answer_for (sym (same_Some (error.Refused AlreadyConnected) err refused)), refl)

  pub join-taken : cond (is_some c.view) (Some (error.Refused AlreadyConnected)) None ≡ None → AnswersJoin m.address h Done []
  join-taken free = join-taken-at c.view refl free

  pub join-lost : cond (is_some c.view) (Some (error.Refused AlreadyConnected)) None ≡ None → AnswersJoin m.address h (Refused Memory) (Crashed m.address ∷ [])
  join-lost free = join-lost-at c.view refl free

  pub join-not : (err : Error) → cond (is_some c.view) (Some (error.Refused AlreadyConnected)) None ≡ Some err → AnswersJoin m.address h (answer_for err) []
  join-not err refused = join-not-at c.view err refl refused

  -- ---- a tick, a packet, a suspect, a hint, and a leave

  pub quiet-taken : (s : List Event) → EachOwn m.address s → list_all member.is_quiet s ≡ true → AnswersQuietly m.address Done s
  quiet-taken s own quiet = inl (refl, own-quiet m.address s own (quiet-all s quiet))

  pub leave-taken : (s : List Event) → s ≡ Left c.me ∷ [] → AnswersLeave m.address Done s
  leave-taken s e = inl (refl, e ∙ ap (λ (p : Address). Left p ∷ []) me-is)
