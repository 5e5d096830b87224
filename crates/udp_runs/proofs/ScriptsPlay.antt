-- What the lines of a script do, and what is written by it.
use Rattle.std.proofs.Common.{◌≡◌, ℕ, zero, suc, Option, None, Some, Result, Ok, Err, OnOk, OnErr, IfErr, List, [], ◌∷◌, ◌++◌, map, take, drop, length, slice_get, option_to_list, refl, sym, ap, ◌∙◌, subst, arith}
use Rattle.std.specs.List.{concat}
use Rattle.std.specs.Io.KnownBytes.{Appends}
use Rattle.std.proofs.lemmas.List.{append-nil, append_assoc, take_all}
use Rattle.std.proofs.lemmas.Option.{none-some, same_Some}
use Rattle.address.specs.Ids.{Address}
use Rattle.state_transfer.specs.Meanings.{Meaning}
use Rattle.vsync_text.specs.declared.udp_script.UdpLine.{UdpLine}
use Rattle.udp_net.specs.declared.node_ports.NodePort.{NodePort}
use Rattle.udp_net.specs.Logs.{Log, NetEvent}
use Rattle.udp_member.specs.Turns.{Driven}
use Rattle.law_runners.specs.Systems.{Gone, Played, PlayedAreSeen, PlayedTellNoStart}
use Rattle.udp_runs.specs.declared.ends.Cut.{Cut as Why}
use Rattle.udp_runs.specs.declared.ends.Cut.TheVariants as cut
use Rattle.udp_runs.specs.declared.ends.Stop.{Stop}
use Rattle.udp_runs.specs.declared.ends.Stop.TheVariants.{Cut, NoNet}
use Rattle.udp_runs.specs.declared.process.Process.{Process}
use Rattle.udp_runs.specs.declared.node_state.NodeState.{NodeState}
use Rattle.udp_runs.specs.Carrying.{AreListed, CarriesOut, DoesLine, Nothing, Then}
use Rattle.udp_runs.specs.Machines.{GivesBack}
use Rattle.udp_runs.specs.Nodes.{Plays, GoesOn, AreUnused, processes_in}
use Rattle.udp_runs.specs.Scripts.{HasRun, IsBegun, IsNoNet, StopsAt, texts_with}
use Rattle.udp_runs.specs.Processes.{net_of, state_text}
use Rattle.udp_runs.specs.Scripts.IsBegun.{InLines, InStates}
use Rattle.udp_runs.specs.Playing.{GoesOnBy, RunsLines, WritesStates}
use Rattle.udp_runs.specs.Texts.{Line, texts_of, events_in}
use Rattle.udp_runs.proofs.LinesAndEvents.{concat-then, texts-then}
use Rattle.udp_runs.proofs.NodesGoOn.{plays-unused}
use Rattle.udp_runs.proofs.CallsAmongOthers.{gives-none, gives-then, processes-then, one-process}
use Rattle.vsync_text.proofs.LinesWritten.{appends_nothing, appends_then}

-- ---- the processes that run at nodes

module _ {N S : Type 0} where
  processes-first : (x : NodeState N S) (states : List (NodeState N S)) → processes_in (x ∷ states) ≡ option_to_list x.process ++ processes_in states
  processes-first x states = processes-then (x ∷ []) states ∙ ap (λ (l : List (Process N S)). l ++ processes_in states) (one-process x)

  -- each is one of a node
  pub process-at : (states : List (NodeState N S)) (k : ℕ) (q : Process N S) → slice_get (processes_in states) k ≡ Some q
      → (j : ℕ) × (x : NodeState N S) × (slice_get states j ≡ Some x) × (x.process ≡ Some q)
  process-at [] k q at = absurd (none-some q at)
  process-at (x ∷ states) k q at =
      by x.process k refl (ap (λ (l : List (Process N S)). slice_get l k) (sym (processes-first x states)) ∙ at) (λ i e. process-at states i q e)
    where
      more : (j : ℕ) × (y : NodeState N S) × (slice_get states j ≡ Some y) × (y.process ≡ Some q)
          → (j : ℕ) × (y : NodeState N S) × (slice_get (x ∷ states) j ≡ Some y) × (y.process ≡ Some q)
      more (j, y, there, is) = (suc j, y, there, is)

      by : (o : Option (Process N S)) (i : ℕ) → x.process ≡ o → slice_get (option_to_list o ++ processes_in states) i ≡ Some q
          → ((i : ℕ) → slice_get (processes_in states) i ≡ Some q → (j : ℕ) × (y : NodeState N S) × (slice_get states j ≡ Some y) × (y.process ≡ Some q))
          → (j : ℕ) × (y : NodeState N S) × (slice_get (x ∷ states) j ≡ Some y) × (y.process ≡ Some q)
      by None i is e rest = more (rest i e)
      by (Some p) zero is e rest = (zero, x, refl, is ∙ e)
      by (Some p) (suc i) is e rest = more (rest i e)

  -- each of a node is one
  pub process-of : (states : List (NodeState N S)) (j : ℕ) (x : NodeState N S) (q : Process N S) → slice_get states j ≡ Some x → x.process ≡ Some q
      → (k : ℕ) × (slice_get (processes_in states) k ≡ Some q)
  process-of [] j x q at is = absurd (none-some x at)
  process-of (y ∷ states) zero x q at is = (
    zero,
    ap (λ (l : List (Process N S)). slice_get l zero) (processes-first y states ∙ ap (λ (o : Option (Process N S)). option_to_list o ++ processes_in states)
        (ap (λ (z : NodeState N S). z.process) (same_Some y x at) ∙ is)),
  )
  process-of (y ∷ states) (suc j) x q at is = by y.process refl (process-of states j x q at is)
    where
      by : (o : Option (Process N S)) → y.process ≡ o → (k : ℕ) × (slice_get (processes_in states) k ≡ Some q) → (k : ℕ) × (slice_get (processes_in (y ∷ states)) k ≡ Some q)
      by None none (k, e) = (k, ap (λ (l : List (Process N S)). slice_get l k) (processes-first y states ∙ ap (λ (o : Option (Process N S)). option_to_list o ++ processes_in states) none) ∙ e)
      by (Some p) some (k, e) = (suc k, ap (λ (l : List (Process N S)). slice_get l (suc k)) (processes-first y states ∙ ap (λ (o : Option (Process N S)). option_to_list o ++ processes_in states) some) ∙ e)

-- a line of a script, and those before and behind it
pub split-at : {X : Type 0} (xs : List X) (k : ℕ) (x : X) → slice_get xs k ≡ Some x → xs ≡ take k xs ++ x ∷ drop (suc k) xs
split-at [] k x at = absurd (none-some x at)
split-at (y ∷ xs) zero x at = ap (λ z. z ∷ xs) (same_Some y x at)
split-at (y ∷ xs) (suc k) x at = ap (λ l. y ∷ l) (split-at xs k x at)

module _ {N S : Type 0} (log : N → Option Log) (failed : N → ℕ) (meaning : Meaning S) (line_of : Address → S → List ℕ) (group : List ℕ) (listed : List NodePort) where
  abbrev Play : List (NodeState N S) → List (Gone N) → List Line → List NetEvent → Type 0
  Play states gone lines nets = Plays log failed meaning group states gone lines nets

  abbrev Carried : List UdpLine → List (NodeState N S) → List Line → List NetEvent → Type 0
  Carried script states lines nets = CarriesOut log failed meaning group listed script states lines nets

  -- what happened by nodes is a history, and the lines of the script were carried out
  pub has-run : PlayedAreSeen log failed meaning → (script : List UdpLine) (states : List (NodeState N S)) (gone : List (Gone N)) (lines : List Line) (nets : List NetEvent)
      → Play states gone lines nets → Carried script states lines nets → HasRun log failed meaning group listed script (processes_in states) gone lines
  has-run law script states gone lines nets x done = record {
    states = states;
    nets = nets;
    carried = done;
    running = refl;
    at = x.at;
    seen = law group x.at gone (events_in lines) nets x.played;
    each = λ k q at. let z = process-at states k q at in (x.runs z.0 z.1 q z.2 z.3).1;
    all = λ p r at. let z = x.there p r at in process-of states z.0 z.1 (record { address = p; runner = r }) z.2 z.3;
  }

  -- ---- one line

  module _ (line : UdpLine) (nodes nodes' : List (NodeState N S)) (given given' : Option (List (Gone N))) (text text' text'' : List ℕ) (old new : Option (List ℕ)) (gone : List (Gone N))
      (lines : List Line) (nets : List NetEvent) (x : Play nodes gone lines nets) (empty : text ≡ []) where
    abbrev By : Result Unit Stop → Type 0
    By result = GoesOnBy log failed meaning group line nodes nodes' given given' text'' old new gone lines nets result

    abbrev Does : List Line → List NetEvent → Type 0
    Does more list = DoesLine log failed meaning group nodes line nodes' more list

    from-empty : (l : List ℕ) → text' ≡ text ++ l → text' ≡ l
    from-empty l is = is ∙ ap (λ (t : List ℕ). t ++ l) empty

    whole : (l : List ℕ) → take (length l) l ≡ l
    whole l = take_all (length l) l (omega arith)

    pub line-goes : (done : Result Unit Stop) → GoesOn log failed meaning group Does nodes nodes' given given' text text' done
        → IfErr done (λ stop. IsNoNet stop → (text' ≡ text) × (nodes' ≡ nodes) × (given' ≡ given)) → Appends old new text' → text'' ≡ [] → By done
    line-goes (Ok d) goes stays took none =
        let r = goes gone lines nets x in
        (r.0, r.1.0, r.1.1, r.1.2, r.1.3, r.1.4, subst (λ (l : List ℕ). Appends old new l) (from-empty (concat (texts_of r.0)) r.2) took, none)
    line-goes (Err (Cut cut.Memory)) goes stays took none =
        let r = goes gone lines nets x in
        (r.0, r.1.0, r.1.1, r.1.2, (r.2.0, subst (λ (l : List ℕ). Appends old new l) (from-empty (concat (take r.2.0 (texts_of r.0))) r.2.1) took))
    line-goes (Err (Cut cut.Failed)) goes stays took none =
        let r = goes gone lines nets x in
        let bytes = concat (take r.2.0 (texts_of r.0)) in
        (r.0, r.1.0, r.1.1, r.1.2, (r.2.0, length bytes, subst (λ (l : List ℕ). Appends old new l) (from-empty bytes r.2.1 ∙ sym (whole bytes)) took))
    line-goes (Err (NoNet number error)) goes stays took none =
        let same = stays tt in (subst (λ (l : List ℕ). Appends old new l) (same.0 ∙ empty) took, same.1, same.2)

    -- the writer failed
    pub line-failed : (done : Result Unit Stop) (count : ℕ) (why : Why) → why ≡ cut.Failed → GoesOn log failed meaning group Does nodes nodes' given given' text text' done
        → Appends old new (take count text') → By (Err (Cut why))
    line-failed (Ok d) count why is goes took =
        let r = goes gone lines nets x in
        let all = texts_of r.0 in
        subst (λ (w : Why). By (Err (Cut w))) (sym is) (
          r.0,
          r.1.4.at,
          gone ++ r.1.0,
          (nets ++ r.1.1, r.1.4.played),
          (
            length all,
            count,
            subst (λ (l : List ℕ). Appends old new (take count l)) (from-empty (concat all) r.2 ∙ ap concat (sym (take_all (length all) all (omega arith)))) took,
          ),
        )
    line-failed (Err e) count why is goes took =
        let r = goes gone lines nets x in
        subst (λ (w : Why). By (Err (Cut w))) (sym is)
        (r.0, r.1.0, r.1.1, r.1.2, (r.2.0, count, subst (λ (l : List ℕ). Appends old new (take count l)) (from-empty (concat (take r.2.0 (texts_of r.0))) r.2.1) took))

  -- ---- all lines

  take-behind : (n : ℕ) (xs ys : List ℕ) → (m : ℕ) × (take m (xs ++ ys) ≡ xs ++ take n ys)
  take-behind n [] ys = (n, refl)
  take-behind n (x ∷ xs) ys = let r = take-behind n xs ys in (suc r.0, ap (λ (l : List ℕ). x ∷ l) r.1)

  texts-behind : (n : ℕ) (xs ys : List (List ℕ)) → (m : ℕ) × (concat (take m (xs ++ ys)) ≡ concat xs ++ concat (take n ys))
  texts-behind n [] ys = (n, refl)
  texts-behind n (x ∷ xs) ys = let r = texts-behind n xs ys in (suc r.0, ap (λ (l : List ℕ). x ++ l) r.1 ∙ sym (append_assoc x (concat xs) (concat (take n ys))))

  module _ (script : List UdpLine) (given mid given' : Option (List (Gone N))) (old between new : Option (List ℕ)) (states : List (NodeState N S)) (gone : List (Gone N)) (lines : List Line)
      (nets : List NetEvent) (x : Play states gone lines nets) (took : Appends old between (concat (texts_of lines))) (law : PlayedAreSeen log failed meaning) where
    abbrev Begun : List ℕ → Type 0
    Begun text = IsBegun log failed meaning line_of group listed script text

    abbrev All : Result Unit Stop → Type 0
    All result = RunsLines log failed meaning line_of group listed given given' script old new result

    begun-as : (a b : List ℕ) → b ≡ a → Begun b → Begun a
    begun-as a b same x = subst (λ (l : List ℕ). Begun l) same x

    -- lines of what happened, and the first few of more
    begun-lines : (more : List Line) (at : Address → Option (Driven N S)) (all : List (Gone N)) → Played log failed meaning group at all (events_in (lines ++ more)) → (count : ℕ)
        → Begun (concat (texts_of lines) ++ concat (take count (texts_of more)))
    begun-lines more at all played count =
        let r = texts-behind count (texts_of lines) (texts_of more) in
        begun-as (concat (texts_of lines) ++ concat (take count (texts_of more))) (concat (take r.0 (texts_of (lines ++ more))))
        (ap (λ (l : List (List ℕ)). concat (take r.0 l)) (texts-then lines more) ∙ r.1)
        (InLines at all (lines ++ more) r.0 (law group at all (events_in (lines ++ more)) played.0 played.1).history)

    begun-states : Carried script states lines nets → (count : ℕ) → Begun (concat (texts_of lines) ++ concat (take count (map (state_text line_of) (processes_in states))))
    begun-states done count =
        let r = texts-behind count (texts_of lines) (map (state_text line_of) (processes_in states)) in
        begun-as _ (concat (take r.0 (texts_with line_of lines (processes_in states)))) r.1
        (InStates (processes_in states) gone lines r.0 (has-run law script states gone lines nets x done))

    took-cut : (more : List ℕ) (bytes : ℕ) → Appends between new (take bytes more) → (count : ℕ) × Appends old new (take count (concat (texts_of lines) ++ more))
    took-cut more bytes next =
        let r = take-behind bytes (concat (texts_of lines)) more in
        (r.0, subst (λ (l : List ℕ). Appends old new l) (sym r.1) (appends_then old between new (concat (texts_of lines)) (take bytes more) took next))

    -- a line stops them, and the nets are given back
    pub lines-stop : (k : ℕ) (line : UdpLine) (nodes' : List (NodeState N S)) (text'' : List ℕ) (stop : Stop) (kept : Option (List (Gone N))) → slice_get script k ≡ Some line
        → Carried (take k script) states lines nets → GoesOnBy log failed meaning group line states nodes' mid kept text'' between new gone lines nets (Err stop) → StopsAt line stop
        → GivesBack given gone mid → GivesBack kept (map net_of (processes_in nodes')) given' → All (Err stop)
    lines-stop k line nodes' text'' (Cut cut.Memory) kept here done (more, at, all, played, (count, next)) stops gave gives = (
      concat (texts_of lines) ++ concat (take count (texts_of more)),
      begun-lines more at all played count,
      appends_then old between new (concat (texts_of lines)) (concat (take count (texts_of more))) took next,
    )
    lines-stop k line nodes' text'' (Cut cut.Failed) kept here done (more, at, all, played, (count, bytes, next)) stops gave gives =
        (concat (texts_of lines) ++ concat (take count (texts_of more)), begun-lines more at all played count, took-cut (concat (take count (texts_of more))) bytes next)
    lines-stop k line nodes' text'' (NoNet number error) kept here done (next, same, machine) (node, is) gave gives = (
      take k script,
      drop (suc k) script,
      node,
      processes_in states,
      gone,
      lines,
      split-at script k line here ∙ ap (λ (l : UdpLine). take k script ++ l ∷ drop (suc k) script) is,
      has-run law (take k script) states gone lines nets x done,
      gives-then given mid given' gone (map net_of (processes_in states)) gave
          (subst (λ (n : List (NodeState N S)). GivesBack mid (map net_of (processes_in n)) given') same (subst (λ (g : Option (List (Gone N))). GivesBack g (map net_of (processes_in nodes')) given') machine gives)),
      subst (λ (l : List ℕ). Appends old new l) (append-nil (concat (texts_of lines))) (appends_then old between new (concat (texts_of lines)) [] took next),
    )

    -- the states are not written whole
    pub states-stop : Carried script states lines nets → (why : Why) → WritesStates (map (state_text line_of) (processes_in states)) between new (Err why) → All (Err (Cut why))
    states-stop done cut.Memory (count, next) = (
      concat (texts_of lines) ++ concat (take count (map (state_text line_of) (processes_in states))),
      begun-states done count,
      appends_then old between new (concat (texts_of lines)) (concat (take count (map (state_text line_of) (processes_in states)))) took next,
    )
    states-stop done cut.Failed (count, bytes, next) = (
      concat (texts_of lines) ++ concat (take count (map (state_text line_of) (processes_in states))),
      begun-states done count,
      took-cut (concat (take count (map (state_text line_of) (processes_in states)))) bytes next,
    )

    -- all is written, and the nets are given back
    pub lines-end : Carried script states lines nets → GivesBack given gone mid → GivesBack mid (map net_of (processes_in states)) given'
        → Appends between new (concat (map (state_text line_of) (processes_in states))) → All (Ok tt)
    lines-end done gave gives next = (
      processes_in states,
      gone,
      lines,
      has-run law script states gone lines nets x done,
      gives-then given mid given' gone (map net_of (processes_in states)) gave gives,
      subst (λ (l : List ℕ). Appends old new l) (sym (concat-then (texts_of lines) (map (state_text line_of) (processes_in states))))
          (appends_then old between new (concat (texts_of lines)) (concat (map (state_text line_of) (processes_in states))) took next),
    )

  -- ---- so far

  -- so many lines were carried out, what happened by them is written, and no line waits
  abbrev pub SoFar : List UdpLine → Option (List (Gone N)) → Option (List (Gone N)) → Option (List ℕ) → Option (List ℕ) → List (NodeState N S) → List ℕ → Type 0
  SoFar script given given' old new states text =
      (gone : List (Gone N)) × (lines : List Line) × (nets : List NetEvent) × Play states gone lines nets × Appends old new (concat (texts_of lines)) × GivesBack given gone given' × (text ≡ [])
      × Carried script states lines nets

  pub so-none : PlayedTellNoStart log failed meaning → (states : List (NodeState N S)) → AreUnused states → AreListed listed states → (given : Option (List (Gone N))) (old : Option (List ℕ))
      (text : List ℕ) → text ≡ [] → SoFar [] given given old old states text
  so-none law states unused are given old text empty =
      ([], [], [], plays-unused log failed meaning group states law unused, appends_nothing old, gives-none given, empty, Nothing states unused are)

  pub so-more : (script : List UdpLine) (line : UdpLine) (given mid given' : Option (List (Gone N))) (old between new : Option (List ℕ)) (states states' : List (NodeState N S)) (text text' : List ℕ)
      → (s : SoFar script given mid old between states text) → GoesOnBy log failed meaning group line states states' mid given' text' between new s.0 s.1 s.2 (Ok tt)
      → SoFar (script ++ line ∷ []) given given' old new states' text'
  so-more script line given mid given' old between new states states' text text' (gone, lines, nets, x, took, gave, none, done) (more, back, list, gives, does, y, next, empty) = (
    gone ++ back,
    lines ++ more,
    nets ++ list,
    y,
    subst (λ (l : List ℕ). Appends old new l) (sym (concat-then (texts_of lines) (texts_of more)) ∙ ap concat (sym (texts-then lines more)))
        (appends_then old between new (concat (texts_of lines)) (concat (texts_of more)) took next),
    gives-then given mid given' gone back gave gives,
    empty,
    Then script line states states' lines more nets list done does,
  )

-- ---- states

pub states-failed : {E : Type 0} (texts : List (List ℕ)) (text text' : List ℕ) (old new : Option (List ℕ)) (appended : Result Unit E) (count : ℕ) (why : Why) → why ≡ cut.Failed → text ≡ []
    → OnOk appended (text' ≡ text ++ concat texts) → OnErr appended ((n : ℕ) × (text' ≡ text ++ concat (take n texts))) → Appends old new (take count text') → WritesStates texts old new (Err why)
states-failed texts text text' old new (Ok d) count why is empty said unsaid took =
    subst (λ (w : Why). WritesStates texts old new (Err w)) (sym is) (
      length texts,
      count,
      subst (λ (l : List ℕ). Appends old new (take count l))
          (said ∙ ap (λ (t : List ℕ). t ++ concat texts) empty ∙ ap concat (sym (take_all (length texts) texts (omega arith)))) took,
    )
states-failed texts text text' old new (Err e) count why is empty said unsaid took =
    subst (λ (w : Why). WritesStates texts old new (Err w)) (sym is)
    (unsaid.0, count, subst (λ (l : List ℕ). Appends old new (take count l)) (unsaid.1 ∙ ap (λ (t : List ℕ). t ++ concat (take unsaid.0 texts)) empty) took)
