-- What comes of a datagram.
use Rattle.std.proofs.Common.{◌≡◌, ℕ, ◌+◌, Bool, true, false, cond, not, ◌&&◌, Option, Some, None, List, [], is_some, Result, Ok, Err, refl, sym, ap, ◌∙◌, subst, arith, Bor}
use Rattle.std.specs.Prelude.{MatchBool, MatchOption}
use Rattle.std.specs.Option.{option_map, option_map_or}
use Rattle.std.proofs.lemmas.Bool.{and_parts}
use Rattle.address.specs.declared.limits.TheConstants.{WINDOW}
use Rattle.address.specs.Ids.{Address, same_address}
use Rattle.wire_values.specs.Values as wire
use Rattle.wire_values.specs.declared.error.WireError.{WireError}
use Rattle.wire_values.specs.declared.packet.Packet.{Packet}
use Rattle.wire_values.specs.declared.packet.Body.{Body}
use Rattle.wire_values.specs.declared.packet.Body.TheVariants as bodies
use Rattle.wire_values.specs.Posted.{Posted, packet}
use Rattle.wire.specs.Packets.{packet_of, wire_refusal, error_in}
use Rattle.state_transfer.specs.Meanings.{Meaning}
use Rattle.address.proofs.SameIds.{same_address-true}
use Rattle.law_acts.specs.Decisions.{is_readable}
use Rattle.membership.specs.HeldChunks.{given_in}
use Rattle.step_output.specs.declared.output.Output.{Output}
use Rattle.step_output.specs.Outputs.{Puts}
use Rattle.step_output.specs.Calm.{IsCalm}
use Rattle.step_output.specs.Names.{same_name}
use Rattle.membership.specs.declared.member_state.MemberState.{MemberState}
use Rattle.membership.specs.declared.stop.Stop.{Stop}
use Rattle.membership.specs.declared.stop.Stop.TheVariants as stop
use Rattle.membership.specs.MemberStates.{is_connected}
use Rattle.membership.specs.Changes.{StaysAs, Enters, would_enter}
use Rattle.membership.specs.Doing.{Did}
use Rattle.member.specs.Hearing.{FollowsRule, ignores, is_unreadable_by}
use Rattle.member.specs.Running.{IsRunning}
use Rattle.member.specs.declared.error.Error.{Error}
use Rattle.member.specs.declared.error.Error.TheVariants.{Refused, Wire}
use Rattle.member.specs.declared.input.Input.TheVariants.{Datagram}
use Rattle.member.specs.Errors.{stopped}
use Rattle.member.specs.Members.{MemberModel, came_in}
use Rattle.member.specs.Doing.{ignores_packet, is_ignored}
use Rattle.member.proofs.StepsPromise
use Rattle.step_output.specs.Steps.{who}
use Rattle.membership.specs.InSteps.{in_step}

handed-by : (b1 b2 b3 b4 : Bool) (x : Posted) → is_some (cond b1 (cond ((b2 && b3) && not b4) (Some x) None) None) ≡ true
    → (cond b1 (cond ((b2 && b3) && not b4) (Some x) None) None ≡ Some x) × (b2 ≡ true) × (b3 ≡ true) × (b4 ≡ false)
handed-by true true true false x e = (refl, refl, refl, refl)
handed-by true true true true x e = absurd (let n : false ≡ true = e in cc)
handed-by true true false b4 x e = absurd (let n : false ≡ true = e in cc)
handed-by true false b3 b4 x e = absurd (let n : false ≡ true = e in cc)
handed-by false b2 b3 b4 x e = absurd (let n : false ≡ true = e in cc)

module _ {S : Type 0} (meaning : Meaning S) (p : Address) (group : List ℕ) where
  abbrev here : MemberState S → MemberModel S
  here l = record { address = p; group = group; member_state = Some l }

  -- a packet that it is handed is for it, from another, while it is connected
  pub handed : (l : MemberState S) (k : Packet) → is_some (came_in (here l) (Ok k)) ≡ true
      → (came_in (here l) (Ok k) ≡ Some (packet k.source k.body p)) × (is_connected l ≡ true) × (same_address k.source p ≡ false)
  handed l k e =
      let x : Posted = record { source = k.source; destination = k.destination; body = k.body } in
      let h = handed-by (same_name k.group group) (is_connected l) (same_address k.destination p) (same_address k.source p) x e in
      (h.0 ∙ ap (λ (q : Address). Some (packet k.source k.body q)) (same_address-true k.destination p h.2), h.1, h.3)

  module _ (q : Address) (body : Body) (o : Option Posted) (came : o ≡ Some (packet q body p)) (old new : MemberState S) (out later : Output) where
    pub take-did : Did meaning (Some (packet q body p)) (who p group) (in_step old out) (in_step new later) → Did meaning o (who p group) (in_step old out) (in_step new later)
    take-did x = subst (λ (k : Option Posted). Did meaning k (who p group) (in_step old out) (in_step new later)) (sym came) x

    pub take-ignored : ignores_packet p o old ≡ true → ignores p q body old ≡ true
    take-ignored x = sym (ap (λ (k : Option Posted). ignores_packet p k old) came) ∙ x

  -- ---- an INSTALL by which it entered could be read

  entry-by : (b : Bool) (i : wire.Install) (chunks : List wire.Chunk) (A : Type 0) (B : Type 0) → MatchBool b ((is_readable meaning (given_in i.state chunks) ≡ true) × A) B
      → option_map_or (λ (j : wire.Install). not (is_readable meaning (given_in j.state chunks))) (cond b (Some i) None) false ≡ false
  entry-by true i chunks A B x = ap not x.0
  entry-by false i chunks A B x = refl

  hears-readable : (m : Posted) (body : Body) (old new : MemberState S) (out later : Output) → m.body ≡ body → FollowsRule meaning (who p group) m.source body (in_step old out) (in_step new later)
      → is_unreadable_by meaning p old (record { source = m.source; destination = m.destination; body = body }) ≡ false
  hears-readable m bodies.Join old new out later is x = refl
  hears-readable m (bodies.Redirect c) old new out later is x = refl
  hears-readable m bodies.Leave old new out later is x = refl
  hears-readable m (bodies.Forward v n k) old new out later is x = refl
  hears-readable m (bodies.Order v g e) old new out later is x = refl
  hears-readable m (bodies.Nak v g) old new out later is x = refl
  hears-readable m (bodies.Ack v n) old new out later is x = refl
  hears-readable m (bodies.Status v g) old new out later is x = refl
  hears-readable m (bodies.Flush w) old new out later is x = refl
  hears-readable m (bodies.Behind w n) old new out later is x = refl
  hears-readable m (bodies.Report w r) old new out later is x = refl
  hears-readable m (bodies.Install i) old new out later is x =
      entry-by (would_enter p old m.source i) i old.chunks (Enters meaning (who p group) old.view_state i (given_in i.state old.chunks) (in_step old out) (in_step new later)) (StaysAs (in_step old out) (in_step new later)) x
  hears-readable m (bodies.Merge v) old new out later is x = refl
  hears-readable m (bodies.State w chunk) old new out later is x = refl

  readable-by : (o : Option Posted) (old new : MemberState S) (out later : Output)
      → MatchOption o (StaysAs (in_step old out) (in_step new later)) (λ m. FollowsRule meaning (who p group) m.source m.body (in_step old out) (in_step new later))
      → option_map_or (is_unreadable_by meaning p old) o false ≡ false
  readable-by None old new out later x = refl
  readable-by (Some m) old new out later x = hears-readable m m.body old new out later refl x

  -- ---- a datagram

  abbrev pub Holds : Option (MemberState S) → Bor (List ℕ) → Result Output Error → Option (MemberState S) → Type 0
  Holds old bytes result new = StepsPromise.Holds meaning p group old (Datagram bytes) result new

  -- bytes that spell no packet
  pub wire-handled : (bytes : Bor (List ℕ)) (w : WireError) (old : MemberState S) → packet_of bytes.now ≡ Err w → IsRunning (who p group) old → Holds (Some old) bytes (Err (Wire w)) (Some old)
  wire-handled bytes w old e runs =
      StepsPromise.refused-handled meaning p group old (Datagram bytes) (Wire w) (ap (λ (r : Result Packet WireError). option_map Wire (error_in r)) e) refl
      (ap (λ (r : Result Packet WireError). option_map_or (is_unreadable_by meaning p old) (came_in (here old) r) false) e)
      (ap (λ (r : Result Packet WireError). not (is_some (error_in r)) && ignores_packet p (came_in (here old) r) old) e) runs

  ignored-in : (bytes : Bor (List ℕ)) (k : Packet) (old : MemberState S) → packet_of bytes.now ≡ Ok k → is_ignored (here old) (Datagram bytes) ≡ true → ignores_packet p (came_in (here old) (Ok k)) old ≡ true
  ignored-in bytes k old e i =
      subst (λ (r : Result Packet WireError). ignores_packet p (came_in (here old) r) old ≡ true) e (and_parts (not (is_some (wire_refusal bytes.now))) (ignores_packet p (came_in (here old) (packet_of bytes.now)) old) i).1

  -- a packet that it took, or that is not for it
  pub packet-handled : (bytes : Bor (List ℕ)) (k : Packet) (old new : MemberState S) (start out : Output) → packet_of bytes.now ≡ Ok k → Puts [] [] start
      → MatchOption (came_in (here old) (Ok k)) (StaysAs (in_step old start) (in_step new out)) (λ m. FollowsRule meaning (who p group) m.source m.body (in_step old start) (in_step new out))
      → Did meaning (came_in (here old) (Ok k)) (who p group) (in_step old start) (in_step new out) → is_connected new ≡ is_connected old → IsCalm (WINDOW + 3) start out
      → (ignores_packet p (came_in (here old) (Ok k)) old ≡ true → StaysAs (in_step old start) (in_step new out)) → IsRunning (who p group) new → Holds (Some old) bytes (Ok out) (Some new)
  packet-handled bytes k old new start out e nothing does did on calm stays runs =
      let does-at = subst (λ (r : Result Packet WireError). MatchOption (came_in (here old) r) (StaysAs (in_step old start) (in_step new out)) (λ m. FollowsRule meaning (who p group) m.source m.body (in_step old start) (in_step new out))) (sym e) does in
      StepsPromise.ok-handled meaning p group old new (Datagram bytes) start out nothing
      (subst (λ (r : Result Packet WireError). Did meaning (came_in (here old) r) (who p group) (in_step old start) (in_step new out)) (sym e) did)
      (ap (λ (r : Result Packet WireError). option_map Wire (error_in r)) e)
      (readable-by (came_in (here old) (packet_of bytes.now)) old new start out does-at)
      (StepsPromise.calm-quiet (WINDOW + 3) start out nothing calm, on) tt does-at
      (λ i. let y = stays (ignored-in bytes k old e i) in
      (StepsPromise.same-nothing start out nothing y.1, ap {B = MemberModel S} (λ (l : MemberState S). here l) y.0))
      (StepsPromise.calm-few (WINDOW + 3) start out nothing calm (omega arith)) runs

  -- one by which it ended
  stopped-handled : (s : Stop) (bytes : Bor (List ℕ)) (k : Packet) (old : MemberState S) → packet_of bytes.now ≡ Ok k → (ignores_packet p (came_in (here old) (Ok k)) old ≡ true → ⊥)
      → (s ≡ stop.Unreadable → option_map_or (is_unreadable_by meaning p old) (came_in (here old) (Ok k)) false ≡ true) → Holds (Some old) bytes (Err (Refused (stopped s))) None
  stopped-handled stop.Memory bytes k old e taken unread =
      StepsPromise.memory-handled meaning p group old (Datagram bytes) (ap (λ (r : Result Packet WireError). option_map Wire (error_in r)) e)
      (StepsPromise.unless (is_ignored (here old) (Datagram bytes)) (λ i. taken (ignored-in bytes k old e i)))
  stopped-handled stop.Unreadable bytes k old e taken unread =
      StepsPromise.unreadable-handled meaning p group old (Datagram bytes)
      (subst (λ (r : Result Packet WireError). option_map_or (is_unreadable_by meaning p old) (came_in (here old) r) false ≡ true) (sym e) (unread refl))
      (StepsPromise.unless (is_ignored (here old) (Datagram bytes)) (λ i. taken (ignored-in bytes k old e i)))

  pub packet-stopped : (s : Stop) (e : Error) (bytes : Bor (List ℕ)) (k : Packet) (old : MemberState S) → e ≡ Refused (stopped s) → packet_of bytes.now ≡ Ok k → (ignores_packet p (came_in (here old) (Ok k)) old ≡ true → ⊥)
      → (s ≡ stop.Unreadable → option_map_or (is_unreadable_by meaning p old) (came_in (here old) (Ok k)) false ≡ true) → Holds (Some old) bytes (Err e) None
  packet-stopped s e bytes k old is spells taken unread = subst (λ (x : Error). Holds (Some old) bytes (Err x) None) (sym is) (stopped-handled s bytes k old spells taken unread)
