-- For each event: what has to be known where its input is handed to a running member.
use Rattle.std.proofs.Common.{◌≡◌, ℕ, ◌+◌, Bool, true, false, cond, Option, Some, None, Ok, List, [], ◌∷◌, ◌++◌, is_some, refl, sym, ap, ◌∙◌, subst, inl, inr}
use Rattle.std.specs.Borrow.{Bor}
use Rattle.std.specs.Option.{IsSomeAnd, option_map}
use Rattle.std.proofs.lemmas.Option.{none-some, same_Some, cond_some}
use Rattle.address.specs.Ids.{Address}
use Rattle.view.specs.Members.{View}
use Rattle.state_transfer.specs.Meanings.{Meaning}
use Rattle.trace_props.specs.declared.event.Event.{Event}
use Rattle.trace_props.specs.declared.event.Event.TheVariants.{Left, Crashed}
use Rattle.trace_props.specs.Observed.{has_ended}
use Rattle.trace_props.proofs.ObservedGrow.{has_ended-now}
use Rattle.law_acts.specs.Cores.{Core}
use Rattle.member.specs.declared.error.Error.{Error}
use Rattle.member.specs.declared.error.Error.TheVariants as error
use Rattle.member.specs.declared.input.Input.{Input}
use Rattle.member.specs.declared.input.Input.TheVariants as input
use Rattle.step_output.specs.declared.output.Output.{Output}
use Rattle.member.specs.Members.{MemberModel, core_of, refusal_in, send_refusal}
use Rattle.member.specs.Handling as member
use Rattle.member.specs.Handling.{Handled, Replies, StaysSo, IsConnected}
use Rattle.world_model.specs.declared.WorldEvent.{WorldEvent}
use Rattle.world_model.specs.declared.WorldEvent.TheVariants.{Create, Join, Send, Tick, Suspect, MergeHint, Leave}
use Rattle.world_model.specs.declared.Answer.{Answer}
use Rattle.world_model.specs.declared.Answer.TheVariants.{Done, Sent, Refused}
use Rattle.address.specs.declared.refusal.Refusal.{Refusal}
use Rattle.address.specs.declared.refusal.Refusal.TheVariants.{Memory, AlreadyConnected}
use Rattle.world_model.specs.Histories.{History, is_connected}
use Rattle.world_model.specs.Faithful.{AnswersCreate, AnswersJoin, AnswersQuietly, AnswersLeave, AnswersSend, IsPrompt}
use Rattle.world.specs.NodeStates.{answer_for, answer_to}
use Rattle.world.specs.Invariant.{IsMember}
use Rattle.world.proofs.NodesConnected.{connects_after-other, refused-connects}
use Rattle.law_processes.proofs.ActsAreOwn.{EachOwn}
use Rattle.world.proofs.AnswersByTable
use Rattle.world.proofs.AnswersByTable.{quiet-done, done-here}
use Rattle.world.proofs.SendsPrompt
use Rattle.world.proofs.MembersAtNodes
use Rattle.world.proofs.InputsTaken

-- another fact of what is there
some-map : {X : Type 0} (o : Option X) (P Q : X → Type 0) → ((y : X) → P y → Q y) → IsSomeAnd o P → IsSomeAnd o Q
some-map None P Q f y = absurd y
some-map (Some z) P Q f y = f z y

module _ {S : Type 0} (meaning : Meaning S) (h : History) (n : ℕ) (m : MemberModel S) (c : Core S) (x : MembersAtNodes.Runs meaning h n m c) where
  abbrev Tabled : WorldEvent → Input → Type 0
  Tabled e i = InputsTaken.Tabled meaning h n m c e i

  abbrev TakesSo : WorldEvent → Input → Answer → List Event → MemberModel S → Type 0
  TakesSo e i a s left = InputsTaken.TakesSo meaning h n m e i a s left

  abbrev RefusesSo : WorldEvent → Answer → Type 0
  RefusesSo e a = InputsTaken.RefusesSo meaning h e a

  pub replies : (i : Input) (out : Output) (left : MemberModel S) → Handled meaning m i (Ok out) left → Replies c i out.events.items (core_of left)
  replies i out left handled = subst (λ (o : Option (Core S)). IsSomeAnd o (λ d. Replies d i out.events.items (core_of left))) x.core handled.reply

  -- the member runs on as before
  pub stays-so : (left : MemberModel S) → StaysSo c (core_of left) → IsMember (is_connected n h) left
  stays-so left core = some-map (core_of left) (λ d. d.connected ≡ c.connected) (λ d. is_connected n h ≡ d.connected) (λ d e. x.joined ∙ sym e) core

  -- it runs on connected
  connected-so : (left : MemberModel S) (connected : Bool) → IsConnected (core_of left) → connected ≡ true → IsMember connected left
  connected-so left connected core on = some-map (core_of left) (λ d. d.connected ≡ true) (λ d. connected ≡ d.connected) (λ d e. on ∙ sym e) core

  -- ---- a create

  create-taken : (out : Output) (left : MemberModel S) → Handled meaning m input.Create (Ok out) left → refusal_in c input.Create ≡ None → TakesSo (Create n) input.Create (answer_to out.events.items) out.events.items left
  create-taken out left handled free =
      let r = replies input.Create out left handled in
      let done : answer_to out.events.items ≡ Done = ap answer_to r.0 in
      subst (λ (a : Answer). TakesSo (Create n) input.Create a out.events.items left) (sym done) (record {
        answers = MembersAtNodes.at-member meaning h n m c x Done out.events.items (λ p. AnswersCreate p h Done out.events.items)
            (AnswersByTable.create-taken meaning h n m c x out.events.items free r.0);
        prompt = tt;
        ends = λ e. absurd (let bad : false ≡ true = e in cc);
        stays = λ e. connected-so left _ r.1 (done-here n true (is_connected n h));
      })

  create-not : (err : Error) → refusal_in c input.Create ≡ Some err → RefusesSo (Create n) (answer_for err)
  create-not err refused =
      let p = cond_some c.connected (error.Refused AlreadyConnected) err refused in
      let y : AnswersCreate m.address h (answer_for err) [] = AnswersByTable.create-not meaning h n m c x err refused in
      subst (λ (b : Error). RefusesSo (Create n) (answer_for b)) p.1 (record {
        answers = MembersAtNodes.at-member meaning h n m c x (Refused AlreadyConnected) [] (λ p. AnswersCreate p h (Refused AlreadyConnected) [])
            (subst (λ (b : Error). AnswersCreate m.address h (answer_for b) []) (sym p.1) y);
        prompt = tt;
        connected = λ k. refused-connects k (is_connected k h) (Create n) AlreadyConnected;
      })

  pub create-table : Tabled (Create n) input.Create
  create-table = record {
    elsewhere = λ a k o. connects_after-other k (is_connected k h) (Create n) a o;
    may = tt;
    lost = λ free. MembersAtNodes.at-member meaning h n m c x (Refused Memory) (Crashed m.address ∷ []) (λ p. AnswersCreate p h (Refused Memory) (Crashed m.address ∷ []))
        (AnswersByTable.create-lost meaning h n m c x free);
    not = λ err refused. create-not err refused;
    taken = λ out left handled free own. create-taken out left handled free;
  }

  -- ---- a join

  join-taken : (contact : Address) (out : Output) (left : MemberModel S) → Handled meaning m (input.Join contact) (Ok out) left → refusal_in c (input.Join contact) ≡ None
      → TakesSo (Join n contact) (input.Join contact) (answer_to out.events.items) out.events.items left
  join-taken contact out left handled free =
      let r = replies (input.Join contact) out left handled in
      subst (λ (l : List Event). TakesSo (Join n contact) (input.Join contact) (answer_to l) l left) (sym r.0) (record {
        answers = MembersAtNodes.at-member meaning h n m c x Done [] (λ p. AnswersJoin p h Done []) (AnswersByTable.join-taken meaning h n m c x free);
        prompt = tt;
        ends = λ e. absurd (let bad : false ≡ true = e in cc);
        stays = λ e. connected-so left _ r.1 (done-here n true (is_connected n h));
      })

  join-not-at : (contact : Address) (err : Error) (o : Option View) → c.view ≡ o → cond (is_some o) (Some (error.Refused AlreadyConnected)) None ≡ Some err
      → AnswersJoin m.address h (answer_for err) [] → RefusesSo (Join n contact) (answer_for err)
  join-not-at contact err o e refused y =
      let p = cond_some (is_some o) (error.Refused AlreadyConnected) err refused in
      subst (λ (b : Error). RefusesSo (Join n contact) (answer_for b)) p.1 (record {
        answers = MembersAtNodes.at-member meaning h n m c x (Refused AlreadyConnected) [] (λ p. AnswersJoin p h (Refused AlreadyConnected) [])
            (subst (λ (b : Error). AnswersJoin m.address h (answer_for b) []) (sym p.1) y);
        prompt = tt;
        connected = λ k. refused-connects k (is_connected k h) (Join n contact) AlreadyConnected;
      })

  pub join-table : (contact : Address) → Tabled (Join n contact) (input.Join contact)
  join-table contact = record {
    elsewhere = λ a k o. connects_after-other k (is_connected k h) (Join n contact) a o;
    may = tt;
    lost = λ free. MembersAtNodes.at-member meaning h n m c x (Refused Memory) (Crashed m.address ∷ []) (λ p. AnswersJoin p h (Refused Memory) (Crashed m.address ∷ []))
        (AnswersByTable.join-lost meaning h n m c x free);
    not = λ err refused. join-not-at contact err c.view refl refused (AnswersByTable.join-not meaning h n m c x err refused);
    taken = λ out left handled free own. join-taken contact out left handled free;
  }

  -- ---- a send

  send-prompt : (err : Error) (payload : List ℕ) → IsPrompt n payload h.trace (answer_for err) []
  send-prompt (error.Refused r) payload = tt
  send-prompt (error.Wire e) payload = tt

  send-free : (b : Bor (List ℕ)) (o : Option Refusal) → option_map error.Refused o ≡ None → o ≡ None
  send-free b None e = refl
  send-free b (Some r) e = absurd (none-some (error.Refused r) (sym e))

  send-taken : (b : Bor (List ℕ)) (out : Output) (left : MemberModel S) → Handled meaning m (input.Send b) (Ok out) left → refusal_in c (input.Send b) ≡ None
      → EachOwn m.address out.events.items → TakesSo (Send n b.now) (input.Send b) (answer_to out.events.items) out.events.items left
  send-taken b out left handled free own =
      let r = replies (input.Send b) out left handled in
      let s = out.events.items in
      let promptly = subst (λ (o : Option (Core S)). IsSomeAnd o (λ d. member.IsPrompt d (input.Send b) s)) x.core handled.prompt in
      let t = SendsPrompt.send-taken meaning h n m c x b.now s (send-free b (send_refusal c b.now) free) own r.0.first r.0.quiet promptly in
      subst (λ (a : Answer). TakesSo (Send n b.now) (input.Send b) a s left) (sym t.answer) (record {
        answers = MembersAtNodes.at-member meaning h n m c x (Sent (c.view_state.sent + 1)) s (λ p. AnswersSend b.now p h (Sent (c.view_state.sent + 1)) s) t.answers;
        prompt = t.prompt;
        ends = λ e. absurd (let bad : false ≡ true = e in cc);
        stays = λ e. stays-so left r.1;
      })

  send-not-for : (b : Bor (List ℕ)) (err : Error) (o : Option Refusal) → send_refusal c b.now ≡ o → option_map error.Refused o ≡ Some err → RefusesSo (Send n b.now) (answer_for err)
  send-not-for b err None is e = absurd (none-some err e)
  send-not-for b err (Some r) is e = subst (λ (k : Error). RefusesSo (Send n b.now) (answer_for k)) (same_Some (error.Refused r) err e) (record {
    answers = MembersAtNodes.at-member meaning h n m c x (Refused r) [] (λ p. AnswersSend b.now p h (Refused r) []) (SendsPrompt.send-not meaning h n m c x b.now r is);
    prompt = send-prompt (error.Refused r) b.now;
    connected = λ k. refl;
  })

  send-not : (b : Bor (List ℕ)) (err : Error) → refusal_in c (input.Send b) ≡ Some err → RefusesSo (Send n b.now) (answer_for err)
  send-not b err refused = send-not-for b err (send_refusal c b.now) refl refused

  pub send-table : (b : Bor (List ℕ)) → Tabled (Send n b.now) (input.Send b)
  send-table b = record {
    elsewhere = λ a k o. connects_after-other k (is_connected k h) (Send n b.now) a o;
    may = tt;
    lost = λ free. MembersAtNodes.at-member meaning h n m c x (Refused Memory) (Crashed m.address ∷ []) (λ p. AnswersSend b.now p h (Refused Memory) (Crashed m.address ∷ []))
        (SendsPrompt.send-lost meaning h n m c x b.now (send-free b (send_refusal c b.now) free));
    not = λ err refused. send-not b err refused;
    taken = λ out left handled free own. send-taken b out left handled free own;
  }

  -- ---- a tick

  tick-taken : (out : Output) (left : MemberModel S) → Handled meaning m input.Tick (Ok out) left → EachOwn m.address out.events.items
      → TakesSo (Tick n) input.Tick (answer_to out.events.items) out.events.items left
  tick-taken out left handled own =
      let r = replies input.Tick out left handled in
      subst (λ (a : Answer). TakesSo (Tick n) input.Tick a out.events.items left) (sym (quiet-done out.events.items r.0)) (record {
        answers = MembersAtNodes.at-member meaning h n m c x Done out.events.items (λ p. AnswersQuietly p Done out.events.items)
            (AnswersByTable.quiet-taken meaning h n m c x out.events.items own r.0);
        prompt = tt;
        ends = λ e. absurd (let bad : false ≡ true = e in cc);
        stays = λ e. stays-so left r.1;
      })

  pub tick-table : Tabled (Tick n) input.Tick
  tick-table = record {
    elsewhere = λ a k o. connects_after-other k (is_connected k h) (Tick n) a o;
    may = tt;
    lost = λ free. MembersAtNodes.at-member meaning h n m c x (Refused Memory) (Crashed m.address ∷ []) (λ p. AnswersQuietly p (Refused Memory) (Crashed m.address ∷ [])) (inr (refl, refl));
    not = λ err refused. absurd (none-some err refused);
    taken = λ out left handled free own. tick-taken out left handled own;
  }

  -- ---- what a member hears of others: a suspect, and a member of another view

  suspect-taken : (q : Address) (out : Output) (left : MemberModel S) → Handled meaning m (input.Suspect q) (Ok out) left → EachOwn m.address out.events.items
      → TakesSo (Suspect n q) (input.Suspect q) (answer_to out.events.items) out.events.items left
  suspect-taken q out left handled own =
      let r = replies (input.Suspect q) out left handled in
      subst (λ (a : Answer). TakesSo (Suspect n q) (input.Suspect q) a out.events.items left) (sym (quiet-done out.events.items r.0)) (record {
        answers = MembersAtNodes.at-member meaning h n m c x Done out.events.items (λ p. AnswersQuietly p Done out.events.items)
            (AnswersByTable.quiet-taken meaning h n m c x out.events.items own r.0);
        prompt = tt;
        ends = λ e. absurd (let bad : false ≡ true = e in cc);
        stays = λ e. stays-so left r.1;
      })

  pub suspect-table : (q : Address) → Tabled (Suspect n q) (input.Suspect q)
  suspect-table q = record {
    elsewhere = λ a k o. connects_after-other k (is_connected k h) (Suspect n q) a o;
    may = tt;
    lost = λ free. MembersAtNodes.at-member meaning h n m c x (Refused Memory) (Crashed m.address ∷ []) (λ p. AnswersQuietly p (Refused Memory) (Crashed m.address ∷ [])) (inr (refl, refl));
    not = λ err refused. absurd (none-some err refused);
    taken = λ out left handled free own. suspect-taken q out left handled own;
  }

  hint-taken : (q : Address) (out : Output) (left : MemberModel S) → Handled meaning m (input.MergeHint q) (Ok out) left
      → TakesSo (MergeHint n q) (input.MergeHint q) (answer_to out.events.items) out.events.items left
  hint-taken q out left handled =
      let r = replies (input.MergeHint q) out left handled in
      subst (λ (l : List Event). TakesSo (MergeHint n q) (input.MergeHint q) (answer_to l) l left) (sym r.0) (record {
        answers = MembersAtNodes.at-member meaning h n m c x Done [] (λ p. AnswersQuietly p Done []) (inl (refl, refl));
        prompt = tt;
        ends = λ e. absurd (let bad : false ≡ true = e in cc);
        stays = λ e. stays-so left r.1;
      })

  pub hint-table : (q : Address) → Tabled (MergeHint n q) (input.MergeHint q)
  hint-table q = record {
    elsewhere = λ a k o. connects_after-other k (is_connected k h) (MergeHint n q) a o;
    may = tt;
    lost = λ free. MembersAtNodes.at-member meaning h n m c x (Refused Memory) (Crashed m.address ∷ []) (λ p. AnswersQuietly p (Refused Memory) (Crashed m.address ∷ [])) (inr (refl, refl));
    not = λ err refused. absurd (none-some err refused);
    taken = λ out left handled free own. hint-taken q out left handled;
  }

  -- ---- a leave

  leave-taken : (out : Output) (left : MemberModel S) → Handled meaning m input.Leave (Ok out) left → TakesSo (Leave n) input.Leave (answer_to out.events.items) out.events.items left
  leave-taken out left handled =
      let r = replies input.Leave out left handled in
      let s = out.events.items in
      let is : s ≡ Left m.address ∷ [] = r.0 ∙ ap (λ (p : Address). Left p ∷ []) x.fact.standing.itself in
      let done : answer_to s ≡ Done = ap answer_to r.0 in
      subst (λ (a : Answer). TakesSo (Leave n) input.Leave a s left) (sym done) (record {
        answers = MembersAtNodes.at-member meaning h n m c x Done s (λ p. AnswersLeave p Done s) (AnswersByTable.leave-taken meaning h n m c x s r.0);
        prompt = tt;
        ends = λ e. (r.1, ap (λ (l : List Event). has_ended m.address (h.trace ++ l)) is ∙ has_ended-now h.trace (Left m.address) refl);
        stays = λ e. absurd (let bad : true ≡ false = e in cc);
      })

  pub leave-table : Tabled (Leave n) input.Leave
  leave-table = record {
    elsewhere = λ a k o. connects_after-other k (is_connected k h) (Leave n) a o;
    may = tt;
    lost = λ free. MembersAtNodes.at-member meaning h n m c x (Refused Memory) (Crashed m.address ∷ []) (λ p. AnswersLeave p (Refused Memory) (Crashed m.address ∷ [])) (inr (refl, refl));
    not = λ err refused. absurd (none-some err refused);
    taken = λ out left handled free own. leave-taken out left handled;
  }
