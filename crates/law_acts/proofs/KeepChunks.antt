-- Each act keeps what holds of chunks: those that were put out are pieces of the state with which their view begins, and those that are held were put out.
use Rattle.std.proofs.Common.{◌≡◌, ℕ, Bool, true, false, cond, Option, Some, None, List, [], ◌∷◌, ◌++◌, refl, sym, ap, ◌∙◌, subst, is_some, unwrap_or}
use Rattle.std.specs.Prelude.{slice_get}
use Rattle.std.specs.Option.{IsSomeAnd, option_map, option_eq}
use Rattle.std.proofs.lemmas.Option.{none-some, same_Some}
use Rattle.std.proofs.lemmas.List.{nil_from_length}
use Rattle.address.specs.Ids.{Address, ViewId, same_address, same_view_id}
use Rattle.view.specs.Members.{View}
use Rattle.wire_values.specs.Values.{Report}
use Rattle.wire_values.specs.Values as wire
use Rattle.wire_values.specs.declared.values.state.GivenState.{GivenState}
use Rattle.wire_values.specs.declared.values.state.GivenState.TheVariants as forms
use Rattle.wire_values.specs.declared.packet.Body.{Body}
use Rattle.wire_values.specs.declared.packet.Body.TheVariants as bodies
use Rattle.wire_values.specs.Posted.{Posted, packet}
use Rattle.state_transfer.specs.Meanings.{Meaning}
use Rattle.flush.specs.Flushes.{FlushModel, report_from}
use Rattle.trace_props.specs.declared.event.Event.{Event}
use Rattle.trace_props.specs.declared.event.Event.TheVariants.{Started, Crashed}
use Rattle.trace_props.specs.State.{entry_state}
use Rattle.address.proofs.SameIds.{same_address-refl}
use Rattle.trace_props.proofs.RulesAlongLists.{slice_get-before}
use Rattle.law_acts.specs.Given.{chunk_at, kept_bytes}
use Rattle.law_acts.specs.Words.{list_of}
use Rattle.law_acts.specs.Histories.{History}
use Rattle.law_acts.specs.Cores.{Core, id_of, applied, idle}
use Rattle.law_acts.specs.Acts.{Cuts, Act, Creates, Joins, Puts, Sends, Queues, Orders, TakesAck, Collects, Holds, Delivers, Promises, Begins, Records, Gathers, Finishes, Enters, Leaves, Allowed, Describes, after, packets_of, events_of, proposed, others_of, instruction_for, instructions, state_after_cut}
use Rattle.law_acts.specs.Steps.{System, Start, Crash, put, grown, came_of, acted, stepped}
use Rattle.law_acts.specs.Packets.{IsPiece, WasPutOut, state_with}
use Rattle.law_acts.specs.Members.{MemberFact}
use Rattle.law_acts.specs.Invariant.{HoldsPutOut, KeepsState, KeepsGiven, ChunkFact, Invariant}
use Rattle.law_acts.proofs.Lists.{slice_get-split, slice_get-one, place-of}
use Rattle.law_acts.proofs.KeepTrace.{entry_state-kept}
use Rattle.law_acts.proofs.InputsWerePut.{came-from}
use Rattle.law_acts.proofs.InstructionsPutOut.{instructing-each, kept-which}
use Rattle.law_acts.proofs.ActBegins.{map-each}

-- ---- what was put out is so later

out-later : (pool more : List Posted) (w : ViewId) (chunk : wire.Chunk) → WasPutOut pool w chunk → WasPutOut (pool ++ more) w chunk
out-later pool more w chunk x = (x.0, x.1, slice_get-before pool more x.0 x.1 x.2, x.3)

holds-later : (pool more : List Posted) (chunks : List (ViewId × wire.Chunk)) → HoldsPutOut pool chunks → HoldsPutOut (pool ++ more) chunks
holds-later pool more chunks x k w chunk at = out-later pool more w chunk (x k w chunk at)

-- who holds nothing holds what was put out
holds-none : (pool : List Posted) → HoldsPutOut pool []
holds-none pool k w chunk at = absurd (none-some (w, chunk) at)

-- what is held on was put out
holds-kept : (b : Bool) (pool : List Posted) (chunks : List (ViewId × wire.Chunk)) → HoldsPutOut pool chunks → HoldsPutOut pool (cond b chunks [])
holds-kept true pool chunks x = x
holds-kept false pool chunks x = holds-none pool

-- the view of an id
viewed : (o : Option View) (v : ViewId) → id_of o ≡ Some v → (u : View) × (o ≡ Some u) × (u.id ≡ v)
viewed None v e = absurd (none-some v e)
viewed (Some u) v e = (u, refl, same_Some u.id v e)

-- the member that did an act runs as the act left it
pub put-at : {S : Type 0} (p : Address) (x : Option (Core S)) (running : Address → Option (Core S)) → put p x running p ≡ x
put-at p x running = ap (λ b. cond b x (running p)) (same_address-refl p)

module _ {S : Type 0} (meaning : Meaning S) where
  -- what is so of the state with which a view begins is so later
  begun-and : (P : S → Type 0) (v : ViewId) (t u : List Event) → IsSomeAnd (entry_state meaning v t) P → IsSomeAnd (entry_state meaning v (t ++ u)) P
  begun-and P v t u is = by (entry_state meaning v t) refl is
    where
      by : (o : Option S) → entry_state meaning v t ≡ o → IsSomeAnd o P → IsSomeAnd (entry_state meaning v (t ++ u)) P
      by None e x = absurd x
      by (Some s) e x = subst (λ (o : Option S). IsSomeAnd o P) (sym (entry_state-kept meaning v t u s e)) x

  -- a piece is one later
  piece-later : (t u : List Event) (w : ViewId) (chunk : wire.Chunk) → IsPiece meaning t w chunk → IsPiece meaning (t ++ u) w chunk
  piece-later t u w chunk x = begun-and (λ s. chunk ≡ chunk_at (meaning.encode s) chunk.index) w t u x

  -- a state that is kept is the one with which the view begins, later too
  keeps-later : (t u : List Event) (view : Option View) (kept : Option (List ℕ)) → KeepsState meaning t view kept → KeepsState meaning (t ++ u) view kept
  keeps-later t u view kept x bytes e v f = begun-and (λ s. meaning.encode s ≡ bytes) v.id t u (x bytes e v f)

  -- where none is kept there is nothing to show
  keeps-none : (t : List Event) (view : Option View) → KeepsState meaning t view None
  keeps-none t view bytes e = absurd (none-some bytes e)

  -- where nothing is kept nothing is given
  gives-none : (kept : Option (List ℕ)) → KeepsGiven [] kept
  gives-none kept q i total e is = absurd (none-some i e)

  -- ---- one member moves

  -- a packet with a chunk has a piece
  abbrev Piecewise : List Event → Posted → Type 0
  Piecewise t m = (w : ViewId) (chunk : wire.Chunk) → m.body ≡ bodies.State w chunk → IsPiece meaning t w chunk

  -- the system after a step of one address
  abbrev moved_to : System S → Address → Option (Core S) → List Posted → List Event → System S
  moved_to s p end packets events = record { running = put p end s.running; history = grown s.history packets events }

  -- each member is that one, or was there before
  member-by : (P : Core S → Type 0) (b : Bool) (end old : Option (Core S)) (c : Core S) → ((d : Core S) → end ≡ Some d → P d) → ((d : Core S) → old ≡ Some d → P d) → cond b end old ≡ Some c → P c
  member-by P true end old c new was e = new c e
  member-by P false end old c new was e = was c e

  -- a step keeps what holds of chunks, if what it puts out, and what its member then holds and keeps, is so
  chunks-move : (s : System S) (p : Address) (end : Option (Core S)) (packets : List Posted) (events : List Event) → ChunkFact meaning s
      → ((n : ℕ) (m : Posted) → slice_get packets n ≡ Some m → Piecewise (s.history.trace ++ events) m)
      → ((d : Core S) → end ≡ Some d → HoldsPutOut (s.history.pool ++ packets) d.chunks)
      → ((d : Core S) → end ≡ Some d → KeepsState meaning (s.history.trace ++ events) d.view d.kept_state)
      → ((d : Core S) → end ≡ Some d → KeepsGiven d.sent_installs d.kept_state)
      → ChunkFact meaning (moved_to s p end packets events)
  chunks-move s p end packets events x new held kept gives =
      let pool = s.history.pool in
      let t = s.history.trace in
      record {
        pieces = λ k m w chunk at says.
            slice_get-split (Piecewise (t ++ events)) pool packets (λ j y there v z is. piece-later t events v z (x.pieces j y v z there is)) new k m at w chunk says;
        held = λ q c there.
            member-by (λ d. HoldsPutOut (pool ++ packets) d.chunks) (same_address q p) end (s.running q) c held
            (λ d e. holds-later pool packets d.chunks (x.held q d e)) there;
        kept = λ q c there.
            member-by (λ d. KeepsState meaning (t ++ events) d.view d.kept_state) (same_address q p) end (s.running q) c kept
            (λ d e. keeps-later t events d.view d.kept_state (x.kept q d e)) there;
        gives = λ q c there. member-by (λ d. KeepsGiven d.sent_installs d.kept_state) (same_address q p) end (s.running q) c gives (λ d e. x.gives q d e) there;
      }

  -- one who holds and keeps what it did
  chunks-still : (s : System S) (p : Address) (c d : Core S) (packets : List Posted) (events : List Event) → ChunkFact meaning s → s.running p ≡ Some c
      → ((n : ℕ) (m : Posted) → slice_get packets n ≡ Some m → Piecewise (s.history.trace ++ events) m)
      → HoldsPutOut s.history.pool d.chunks → d.view ≡ c.view → d.kept_state ≡ c.kept_state → d.sent_installs ≡ c.sent_installs
      → ChunkFact meaning (moved_to s p (Some d) packets events)
  chunks-still s p c d packets events x runs new held view kept sent =
      let pool = s.history.pool in
      let t = s.history.trace in
      let was : KeepsState meaning t d.view d.kept_state =
      subst (λ (o : Option View). KeepsState meaning t o d.kept_state) (sym view) (subst (λ (o : Option (List ℕ)). KeepsState meaning t c.view o) (sym kept) (x.kept p c runs)) in
      chunks-move s p (Some d) packets events x new
      (λ f e. subst (λ (z : Core S). HoldsPutOut (pool ++ packets) z.chunks) (same_Some d f e) (holds-later pool packets d.chunks held))
      (λ f e. subst (λ (z : Core S). KeepsState meaning (t ++ events) z.view z.kept_state) (same_Some d f e) (keeps-later t events d.view d.kept_state was))
      (λ f e. subst (λ (z : Core S). KeepsGiven z.sent_installs z.kept_state) (same_Some d f e)
      (subst (λ (l : List (Address × wire.Install)). KeepsGiven l d.kept_state) (sym sent)
      (subst (λ (o : Option (List ℕ)). KeepsGiven c.sent_installs o) (sym kept) (x.gives p c runs))))

  -- one who went into a view
  chunks-gone : (s : System S) (p : Address) (d : Core S) (packets : List Posted) (events : List Event) → ChunkFact meaning s
      → ((n : ℕ) (m : Posted) → slice_get packets n ≡ Some m → Piecewise (s.history.trace ++ events) m)
      → d.chunks ≡ [] → KeepsState meaning (s.history.trace ++ events) d.view d.kept_state → KeepsGiven d.sent_installs d.kept_state
      → ChunkFact meaning (moved_to s p (Some d) packets events)
  chunks-gone s p d packets events x new none kept gives =
      let pool = s.history.pool in
      let t = s.history.trace in
      chunks-move s p (Some d) packets events x new
      (λ f e. subst (λ (z : Core S). HoldsPutOut (pool ++ packets) z.chunks) (same_Some d f e)
      (subst (λ (l : List (ViewId × wire.Chunk)). HoldsPutOut (pool ++ packets) l) (sym none) (holds-none (pool ++ packets))))
      (λ f e. subst (λ (z : Core S). KeepsState meaning (t ++ events) z.view z.kept_state) (same_Some d f e) kept)
      (λ f e. subst (λ (z : Core S). KeepsGiven z.sent_installs z.kept_state) (same_Some d f e) gives)

  -- where nothing is put out neither
  no-packets : (t : List Event) (n : ℕ) (m : Posted) → slice_get [] n ≡ Some m → Piecewise t m
  no-packets t n m at = absurd (none-some m at)

  -- ---- what is put out

  -- a chunk of the state with which a view begins
  piece-of : (t : List Event) (v w : ViewId) (z : S) (k : ℕ) (chunk : wire.Chunk) → entry_state meaning v t ≡ Some z
      → bodies.State v (chunk_at (meaning.encode z) k) ≡ bodies.State w chunk → IsPiece meaning t w chunk
  piece-of t v w z k chunk begun e =
      let same : v ≡ w = cc in
      let is : chunk_at (meaning.encode z) k ≡ chunk = cc in
      subst (λ (u : ViewId). IsPiece meaning t u chunk) same
      (subst (λ (o : Option S). IsSomeAnd o (λ s. chunk ≡ chunk_at (meaning.encode s) chunk.index)) (sym begun)
      (subst (λ (y : wire.Chunk). y ≡ chunk_at (meaning.encode z) y.index) is refl))

  -- one of the state that is kept
  described : (t : List Event) (c : Core S) (q : Address) (w : ViewId) (chunk : wire.Chunk) → KeepsState meaning t c.view c.kept_state → Describes c q (bodies.State w chunk)
      → IsPiece meaning t w chunk
  described t c q w chunk kept a =
      let u = viewed c.view w a.2 in
      subst (λ (v : ViewId). IsPiece meaning t v chunk) u.2 (by (entry_state meaning u.0.id t) (kept a.0 a.1 u.0 u.1))
    where
      by : (o : Option S) → IsSomeAnd o (λ s. meaning.encode s ≡ a.0) → IsSomeAnd o (λ s. chunk ≡ chunk_at (meaning.encode s) chunk.index)
      by None x = x
      by (Some s) x = a.3 ∙ ap (λ (l : List ℕ). chunk_at l chunk.index) (sym x)

  -- who has delivered nothing in a view has the state with which it begins
  begun-of : (h : History) (p : Address) (d : Core S) (v : View) → MemberFact meaning h p d → d.view ≡ Some v → d.view_state.delivered ≡ 0 → entry_state meaning v.id h.trace ≡ Some d.state
  begun-of h p d v x inside fresh =
      let list : list_of p v.id h.trace ≡ [] = nil_from_length (list_of p v.id h.trace) ((x.view v inside).counts.delivered_count ∙ fresh) in
      let now : state_with meaning v.id [] h.trace ≡ Some d.state = ap (λ l. state_with meaning v.id l h.trace) (sym list) ∙ x.state.in_view v inside in
      by (entry_state meaning v.id h.trace) now
    where
      by : (o : Option S) → option_map (λ s. applied meaning s []) o ≡ Some d.state → o ≡ Some d.state
      by None e = absurd (none-some d.state e)
      by (Some s) e = e

  -- ---- the acts

  abbrev KeepsChunks : Act → Type 0
  KeepsChunks act = (s : System S) (p : Address) (c : Core S) (which : Option ℕ) → ChunkFact meaning s → s.running p ≡ Some c → Allowed meaning (came_of c s.history.pool which) c act
      → Invariant meaning (acted meaning s p act c) → ChunkFact meaning (acted meaning s p act c)

  -- who finishes a flush keeps its state where it gives that in chunks
  finishes-gives : (c : Core S) (v : View) (f : FlushModel) (cuts : Cuts) (given : GivenState) (bytes : List ℕ) → KeepsGiven (instructions c v f cuts given) (kept_bytes given bytes)
  finishes-gives c v f cuts given bytes q i total e is =
      let g = λ (x : Address). instruction_for f cuts v.id given x in
      let which = kept-which g q (others_of c.me f.members) i e in
      by given bytes (option_eq same_view_id (unwrap_or (report_from q f.reports) wire.nothing_reported).previous (Some v.id)) (sym (ap (λ (y : wire.Install). y.state) which.1) ∙ is)
    where
      by : (h : GivenState) (bytes : List ℕ) (b : Bool) → cond b forms.Nothing h ≡ forms.Chunked total → is_some (kept_bytes h bytes) ≡ true
      by h bytes true x = absurd (let n : forms.Nothing ≡ forms.Chunked total = x in cc)
      by forms.Nothing bytes false x = absurd (let n : forms.Nothing ≡ forms.Chunked total = x in cc)
      by (forms.Whole l) bytes false x = absurd (let n : forms.Whole l ≡ forms.Chunked total = x in cc)
      by (forms.Chunked n) bytes false x = refl

  -- who finishes a flush puts out pieces of its state, and keeps it
  finishes-chunks : (v : View) (f : FlushModel) (cuts : Cuts) (given : GivenState) → KeepsChunks (Finishes v f cuts given)
  finishes-chunks v f cuts given s p c which x runs a inv =
      let z = state_after_cut meaning c v cuts in
      let w = f.proposal in
      let end = after meaning c (Finishes v f cuts given) in
      let t = s.history.trace ++ events_of c (Finishes v f cuts given) in
      let g = λ (q : Address). instruction_for f cuts v.id given q in
      let fact = inv.members p _ (put-at p end s.running) in
      let begun : entry_state meaning w t ≡ Some z = begun-of _ p _ (proposed f) fact refl refl in
      chunks-gone s p _ (packets_of meaning c (Finishes v f cuts given)) (events_of c (Finishes v f cuts given)) x
      (instructing-each (Piecewise t) c.me w (meaning.encode z) g (others_of c.me f.members)
      (λ q k u chunk says. piece-of t w u z k chunk begun says)
      (λ q there u chunk says. absurd cc)) refl
      (by given begun) (finishes-gives c v f cuts given (meaning.encode z))
    where
      by : (h : GivenState) → entry_state meaning f.proposal (s.history.trace ++ events_of c (Finishes v f cuts given)) ≡ Some (state_after_cut meaning c v cuts)
          → KeepsState meaning (s.history.trace ++ events_of c (Finishes v f cuts given)) (Some (proposed f)) (kept_bytes h (meaning.encode (state_after_cut meaning c v cuts)))
      by forms.Nothing begun bytes e u f1 = absurd (none-some bytes e)
      by (forms.Whole l) begun bytes e u f1 = absurd (none-some bytes e)
      by (forms.Chunked total) begun bytes e u f1 =
          let same : proposed f ≡ u = same_Some (proposed f) u f1 in
          subst (λ (y : View). IsSomeAnd (entry_state meaning y.id (s.history.trace ++ events_of c (Finishes v f cuts given))) (λ s1. meaning.encode s1 ≡ bytes)) same
          (subst (λ (o : Option S). IsSomeAnd o (λ s1. meaning.encode s1 ≡ bytes)) (sym begun) (same_Some _ bytes e))

  -- each act
  pub act-chunks : (act : Act) → KeepsChunks act
  act-chunks Creates s p c which x runs a inv = chunks-gone s p _ [] _ x (no-packets _) refl (keeps-none _ _) (gives-none None)
  act-chunks Joins s p c which x runs a inv = chunks-still s p c _ [] [] x runs (no-packets _) (x.held p c runs) refl refl refl
  act-chunks (Puts q body) s p c which x runs a inv =
      chunks-still s p c c (packet c.me body q ∷ []) [] x runs
      (slice_get-one (Piecewise (s.history.trace ++ [])) (packet c.me body q) (λ w chunk says.
      piece-later s.history.trace [] w chunk (described s.history.trace c q w chunk (x.kept p c runs) (subst (λ (b : Body). Describes c q b) says a))))
      (x.held p c runs) refl refl refl
  act-chunks (Sends v payload) s p c which x runs a inv = chunks-still s p c _ [] _ x runs (no-packets _) (x.held p c runs) refl refl refl
  act-chunks (Queues v e waiting) s p c which x runs a inv = chunks-still s p c _ [] _ x runs (no-packets _) (x.held p c runs) refl refl refl
  act-chunks (Orders v e waiting held) s p c which x runs a inv = chunks-still s p c _ [] _ x runs (no-packets _) (x.held p c runs) refl refl refl
  act-chunks (TakesAck v q n) s p c which x runs a inv = chunks-still s p c _ [] _ x runs (no-packets _) (x.held p c runs) refl refl refl
  act-chunks (Collects v n held) s p c which x runs a inv = chunks-still s p c _ [] _ x runs (no-packets _) (x.held p c runs) refl refl refl
  act-chunks (Holds v g e held) s p c which x runs a inv = chunks-still s p c _ [] _ x runs (no-packets _) (x.held p c runs) refl refl refl
  act-chunks (Delivers v e) s p c which x runs a inv = chunks-still s p c _ [] _ x runs (no-packets _) (x.held p c runs) refl refl refl
  act-chunks (Promises w) s p c which x runs a inv =
      chunks-still s p c _ (packets_of meaning c (Promises w)) _ x runs (slice_get-one (Piecewise _) _ (λ u chunk says. absurd cc))
      (holds-kept (option_eq same_view_id (id_of c.promise) (Some w.id)) s.history.pool c.chunks (x.held p c runs)) refl refl refl
  act-chunks (Begins w) s p c which x runs a inv =
      chunks-still s p c _ (packets_of meaning c (Begins w)) _ x runs
      (map-each (Piecewise _) (packet c.me (bodies.Flush w)) (others_of c.me w.members) (λ q u chunk says. absurd cc))
      (holds-kept (option_eq same_view_id (id_of c.promise) (Some w.id)) s.history.pool c.chunks (x.held p c runs)) refl refl refl
  act-chunks (Records f q r) s p c which x runs a inv = chunks-still s p c _ [] _ x runs (no-packets _) (x.held p c runs) refl refl refl
  act-chunks (Gathers w chunk chunks) s p c which x runs a inv =
      let from = came-from c s.history.pool which (packet w.creator (bodies.State w chunk) c.me) a.sent in
      chunks-still s p c _ [] [] x runs (no-packets _)
      (λ k u y at.
      let in_either = place-of (c.chunks ++ (w, chunk) ∷ []) (u, y) (a.fewer k (u, y) at) in
      slice_get-split (λ (z : ViewId × wire.Chunk). WasPutOut s.history.pool z.0 z.1) c.chunks ((w, chunk) ∷ []) (λ j z there. x.held p c runs j z.0 z.1 there)
      (slice_get-one (λ (z : ViewId × wire.Chunk). WasPutOut s.history.pool z.0 z.1) (w, chunk) (from.place, _, from.stands, refl)) in_either.0 (u, y) in_either.1) refl refl refl
  act-chunks (Finishes v f cuts given) s p c which x runs a inv = finishes-chunks v f cuts given s p c which x runs a inv
  act-chunks (Enters i given) s p c which x runs a inv = chunks-gone s p _ [] _ x (no-packets _) refl (keeps-none _ _) (gives-none None)
  act-chunks Leaves s p c which x runs a inv = chunks-move s p None [] _ x (no-packets _) (λ d e. absurd (none-some d e)) (λ d e. absurd (none-some d e)) (λ d e. absurd (none-some d e))

  -- a start and a crash
  pub start-chunks : (s : System S) (p : Address) → ChunkFact meaning s → ChunkFact meaning (stepped meaning s (Start p))
  start-chunks s p x = chunks-gone s p (idle meaning.opening p) [] (Started p ∷ []) x (no-packets _) refl (keeps-none _ _) (gives-none None)

  pub crash-chunks : (s : System S) (p : Address) → ChunkFact meaning s → ChunkFact meaning (stepped meaning s (Crash p))
  crash-chunks s p x = chunks-move s p None [] (Crashed p ∷ []) x (no-packets _) (λ d e. absurd (none-some d e)) (λ d e. absurd (none-some d e)) (λ d e. absurd (none-some d e))
