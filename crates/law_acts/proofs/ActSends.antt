-- The act Sends: an open member sends its next message.
use Rattle.std.proofs.Common.{◌≡◌, ℕ, ◌+◌, true, false, Option, Some, None, List, [], ◌∷◌, ◌++◌, length, refl, sym, ap, ◌∙◌, subst}
use Rattle.std.specs.Option.{option_map}
use Rattle.std.proofs.lemmas.Option.{none-some, same_Some}
use Rattle.std.proofs.lemmas.List.{append-nil, append_assoc, length_push}
use Rattle.address.specs.Ids.{Address}
use Rattle.view.specs.Members.{View}
use Rattle.state_transfer.specs.Meanings.{Meaning}
use Rattle.trace_props.specs.declared.event.Event.TheVariants.{Sent}
use Rattle.trace_props.specs.declared.event.Sending.{Sending}
use Rattle.trace_props.specs.Observed.{delivered_in, sent_in, own}
use Rattle.trace_props.specs.Verdicts.{GoesOn}
use Rattle.trace_props.proofs.ObservedGrow.{has_started-stays, has_ended-still, current_view-push, is_blocked-push}
use Rattle.trace_props.proofs.DeliveredGrow.{delivered_in-still, sent_in-hit, said_by-at}
use Rattle.trace_props.proofs.RuleOfEntry.{state_of-push}
use Rattle.law_acts.specs.Histories.{History}
use Rattle.law_acts.specs.Cores.{ViewCore, Core, id_of, is_frozen}
use Rattle.law_acts.specs.Acts.{MaySend, with_view_core}
use Rattle.law_acts.specs.Steps.{System, put, grown}
use Rattle.law_acts.specs.Packets.{state_with}
use Rattle.law_acts.specs.Members.{ViewFact, MemberFact}
use Rattle.law_acts.specs.Invariant.{Invariant}
use Rattle.law_acts.proofs.TalliesGrow.{list_of-still, tally_of-push}
use Rattle.law_acts.proofs.KeepOthers.{inside-later, window-later, acks-later, waiting-later, first-entered}
use Rattle.law_acts.proofs.KeepByMove.{moved}
use Rattle.law_acts.proofs.KeepWithoutInstall.{quiet-event, quiet-moves, grown-trace}

-- the traffic with one more message outstanding
abbrev pub sending : List ℕ → ViewCore → ViewCore
sending payload t = record t { sent = t.sent + 1; outstanding = t.outstanding ++ record { number = t.sent + 1; payload = payload } ∷ [] }

module _ {S : Type 0} (meaning : Meaning S) where
  abbrev Fact : History → Address → Core S → Type 0
  Fact h p c = MemberFact meaning h p c

  abbrev sending_of : Core S → View → List ℕ → Sending
  sending_of c v payload = record { member = c.me; view = v.id; message = record { number = c.view_state.sent + 1; payload = payload } }

  sends-goes : (h : History) (c : Core S) (v : View) (payload : List ℕ) → Fact h c.me c → MaySend c v payload → GoesOn meaning h.trace (Sent (sending_of c v payload))
  sends-goes h c v payload x a = record {
    seven = (tt, (tt, (tt, (tt, (number, (tt, ((x.standing.running, x.standing.current ∙ ap id_of a.open_in.view, x.standing.block ∙ ap (is_frozen c.view) a.open_in.installed ∙ free), tt)))))));
    enters = tt;
  }
    where
      number : c.view_state.sent + 1 ≡ length (sent_in c.me v.id h.trace) + 1
      number = ap (λ n. n + 1) (sym (x.view v a.open_in.view).mine.count)

      free : is_frozen c.view true ≡ false
      free = by c.view
        where
          by : (o : Option View) → is_frozen o true ≡ false
          by None = refl
          by (Some u) = refl

  pub sends-keep : (s : System S) (c : Core S) (v : View) (payload : List ℕ) → Invariant meaning s → Fact s.history c.me c → MaySend c v payload
      → Invariant meaning (record {
        running = put c.me (Some (with_view_core (sending payload c.view_state) c)) s.running;
        history = grown s.history [] (Sent (sending_of c v payload) ∷ []);
      })
  sends-keep s c v payload i x a =
      let h = s.history in
      let t = h.trace in
      let me = c.me in
      let y = sending_of c v payload in
      let happened = Sent y in
      let k : History = record { pool = h.pool; trace = t ++ happened ∷ [] } in
      let quiet = quiet-event meaning me h happened refl refl i.trace (sends-goes h c v payload x a) a.short in
      let m = quiet.later in
      let f = x.view v a.open_in.view in
      let delivered_now = delivered_in-still me v.id t happened refl in
      let list = list_of-still me v.id t happened refl in
      let sent = sent_in-hit me v.id t y (said_by-at y) in
      let fact : ViewFact k me c.installed (sending payload c.view_state) c.sent_installs v = record {
        inside = inside-later h k me v m f.inside;
        counts = record { delivered_count = ap length list ∙ f.counts.delivered_count; tally = tally_of-push me v.id t happened ∙ f.counts.tally };
        mine = record {
          sent = sent ∙ ap (λ l. l ++ y.message ∷ []) f.mine.sent ∙ append_assoc (own me (delivered_in me v.id t)) c.view_state.outstanding (y.message ∷ [])
              ∙ ap (λ l. own me l ++ (c.view_state.outstanding ++ y.message ∷ [])) (sym delivered_now);
          count = ap length sent ∙ length_push (sent_in me v.id t) y.message ∙ ap (λ n. n + 1) f.mine.count;
        };
        window = window-later h k v.id c.view_state.stable c.view_state.delivered c.view_state.held m (first-entered t v.id.creator v f.inside.first) f.window;
        acks = acks-later h k v.id c.view_state.acks m f.acks;
        waiting = waiting-later h k v.id c.view_state.waiting m f.waiting;
        ordered = λ q first. f.ordered q first ∙ ap (λ l. length (own q l)) (sym delivered_now);
        keeps = λ q j there. let was = f.keeps q j there in (was.0, m.install v.id q j was.1);
      } in
      let new : Fact k me (with_view_core (sending payload c.view_state) c) = record {
        standing = record {
          itself = refl;
          running = record { started = has_started-stays me t (happened ∷ []) x.standing.running.started; going = has_ended-still me t happened refl ∙ x.standing.running.going };
          current = current_view-push me t happened ∙ x.standing.current;
          block = is_blocked-push me t happened ∙ x.standing.block;
        };
        promise = x.promise;
        announced = x.announced;
        below = x.below;
        reported = λ waits. absurd (let n : true ≡ false = sym a.open_in.installed ∙ waits in cc);
        flush = λ g e. absurd (let n : true ≡ false = sym a.open_in.installed ∙ (x.flush g e).waits in cc);
        view = λ u e. subst (λ (w : View). ViewFact k me c.installed (sending payload c.view_state) c.sent_installs w) (same_Some v u (sym a.open_in.view ∙ e)) fact;
        state = record {
          now = state_of-push meaning me t happened ∙ x.state.now;
          is = x.state.is;
          in_view = λ u e.
              ap (λ l. state_with meaning u.id l (t ++ happened ∷ [])) (list_of-still me u.id t happened refl)
              ∙ ap (option_map _) (quiet.begun u.id) ∙ x.state.in_view u e;
        };
      } in
      subst (λ (l : History). Invariant meaning (record { running = put me (Some (with_view_core (sending payload c.view_state) c)) s.running; history = l }))
      (sym (grown-trace meaning h (happened ∷ [])))
      (moved meaning s me k (Some (with_view_core (sending payload c.view_state) c)) i
      (quiet-moves meaning s me k [] (Some (with_view_core (sending payload c.view_state) c)) i quiet (sym (append-nil h.pool)) (λ n z at. absurd (none-some z at))
      (λ d e. subst (λ (z : Core S). Fact k me z) (same_Some (with_view_core (sending payload c.view_state) c) d e) new)))
