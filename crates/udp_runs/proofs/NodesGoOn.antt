-- How nodes go on: a process takes a turn, starts, ends, or is let go.
use Rattle.std.proofs.Common.{◌≡◌, ℕ, ◌+◌, ◌<◌, ◌≤◌, ◌⊎◌, inl, inr, Bool, true, false, cond, ◌&&◌, ◌||◌, Option, None, Some, List, [], ◌∷◌, ◌++◌, slice_get, slice_set, IfSome, refl, sym, ap, ◌∙◌, subst, arith}
use Rattle.std.specs.List.{list_any}
use Rattle.std.specs.Option.{option_map, ForSome}
use Rattle.std.proofs.lemmas.List.{append-nil, append_assoc}
use Rattle.std.proofs.lemmas.List.Folds.{list_any-append}
use Rattle.std.proofs.lemmas.Option.{none-some, same_Some}
use Rattle.address.specs.Ids.{Address, same_address}
use Rattle.address.proofs.SameIds.{same_address-true, same_address-refl}
use Rattle.state_transfer.specs.Meanings.{Meaning}
use Rattle.trace_props.specs.declared.event.Event.{Event}
use Rattle.trace_props.specs.declared.event.Event.TheVariants.{Started, Crashed}
use Rattle.trace_props.specs.Observed.{has_started, is_start, member_of}
use Rattle.udp_net.specs.Logs.{Log, NetEvent, Lists}
use Rattle.udp_member.specs.Turns.{Driven}
use Rattle.law_runners.specs.Plays.{crash_of}
use Rattle.law_runners.specs.Runs.{new_channel}
use Rattle.law_runners.specs.Items.{net_events}
use Rattle.law_runners.specs.Systems.{Gone, Played, PlayedOver, Nothing, PlayedTellNoStart, with_runner, has_ended}
use Rattle.law_runners.specs.Systems.{Begins, Fails, Turns as Turned, Dies, Closes}
use Rattle.law_runners.proofs.HandsPlay.{runner-is}
use Rattle.law_runners.proofs.ItemsOfCalls.{drives-adds}
use Rattle.udp_runs.specs.declared.process.Process.{Process}
use Rattle.udp_runs.specs.declared.node_state.NodeState.{NodeState}
use Rattle.udp_runs.specs.Texts.{Line, Happens, Refuses, events_in}
use Rattle.udp_runs.specs.Nodes.{Plays, IsFirst, IsNext, AreUnused}
use Rattle.udp_runs.specs.Processes.{Turns}
use Rattle.udp_runs.proofs.PlacesSet.{set-same, set-other, places}
use Rattle.udp_runs.proofs.ProcessesTurn.{events-then}

module _ {N S : Type 0} (log : N → Option Log) (failed : N → ℕ) (meaning : Meaning S) (group : List ℕ) where
  abbrev Play : List (NodeState N S) → List (Gone N) → List Line → List NetEvent → Type 0
  Play states gone lines nets = Plays log failed meaning group states gone lines nets

  -- ---- before anything happens

  pub plays-unused : (states : List (NodeState N S)) → PlayedTellNoStart log failed meaning → AreUnused states → Play states [] [] []
  plays-unused states law unused = record {
    law = law;
    at = λ p. None;
    played = Nothing;
    runs = λ k x q at is. absurd (none-some q (sym (unused k x at).1 ∙ is));
    last = λ k x p at is. absurd (none-some p (sym (unused k x at).0 ∙ is));
    fresh = λ p started. absurd (let bad : false ≡ true = started in cc);
    there = λ p r is. absurd (none-some r is);
  }

  -- ---- more is said, but nothing happened

  pub plays-as : (states : List (NodeState N S)) (gone : List (Gone N)) (lines lines' : List Line) (nets : List NetEvent) → events_in lines' ≡ events_in lines
      → Play states gone lines nets → Play states gone lines' nets
  plays-as states gone lines lines' nets same x = record {
    law = x.law;
    at = x.at;
    played = subst (λ (l : List Event). PlayedOver log failed meaning group x.at gone l nets) (sym same) x.played;
    runs = x.runs;
    last = x.last;
    fresh = λ p started. x.fresh p (ap (has_started p) (sym same) ∙ started);
    there = x.there;
  }

  pub plays-refused : (states : List (NodeState N S)) (gone : List (Gone N)) (lines : List Line) (nets : List NetEvent) (line number : ℕ) → Play states gone lines nets
      → Play states gone (lines ++ Refuses line number ∷ []) nets
  plays-refused states gone lines nets line number x =
      plays-as states gone lines (lines ++ Refuses line number ∷ []) nets (events-then lines (Refuses line number ∷ []) ∙ append-nil (events_in lines)) x

  -- ---- one node is as it was but for its process

  abbrev pub process_of : Address → Driven N S → Process N S
  process_of p r = record { address = p; runner = r }

  -- of two nodes at which processes were started, no two have one number
  apart : (states : List (NodeState N S)) (k j : ℕ) (x y : NodeState N S) → (j ≡ k → ⊥) → slice_get states k ≡ Some x → slice_get states j ≡ Some y → IsFirst x.node k states
      → IsFirst y.node j states → x.node ≡ y.node → ⊥
  apart states k j x y other at_k at_j first_k first_j same = by (places k j)
    where
      by : (k ≡ j) ⊎ ((k < j) ⊎ (j < k)) → ⊥
      by (inl e) = other (sym e)
      by (inr (inl before)) = first_j k x before at_k same
      by (inr (inr before)) = first_k j y before at_j (sym same)

  module _ (states : List (NodeState N S)) (gone : List (Gone N)) (lines : List Line) (nets : List NetEvent) (x : Play states gone lines nets) (k : ℕ) (old new : NodeState N S) (here : slice_get states k ≡ Some old)
      (node : new.node ≡ old.node) (p : Address) (last : new.last ≡ Some p) (own : p.node ≡ old.node) (first : IsFirst old.node k states) (o : Option (Driven N S))
      (is : new.process ≡ option_map (process_of p) o) (runs_on : IfSome o (λ r. has_ended r.channel.stage ≡ false))
      (was : (q : Process N S) → old.process ≡ Some q → q.address ≡ p)
      (later : (l : Address) → old.last ≡ Some l → (l.node ≡ p.node) × (l.incarnation ≤ p.incarnation))
      (gone' : List (Gone N)) (lines' : List Line) (nets' : List NetEvent) (played : PlayedOver log failed meaning group (with_runner p o x.at) gone' (events_in lines') nets')
      (starts : (a : Address) → has_started a (events_in lines') ≡ true → (has_started a (events_in lines) ≡ true) ⊎ (a ≡ p)) where
    abbrev states' : List (NodeState N S)
    states' = slice_set states k new

    there-new : slice_get states' k ≡ Some new
    there-new = set-same states k old new here

    there-other : (j : ℕ) (y : NodeState N S) → (j ≡ k → ⊥) → slice_get states' j ≡ Some y → slice_get states j ≡ Some y
    there-other j y other at = sym (set-other states k j new other) ∙ at

    is-new : (j : ℕ) (y : NodeState N S) → j ≡ k → slice_get states' j ≡ Some y → y ≡ new
    is-new j y same at = same_Some y new (sym at ∙ ap (slice_get states') same ∙ there-new)

    or-other : (j : ℕ) → (j ≡ k) ⊎ (j ≡ k → ⊥)
    or-other j = by (places j k)
      where
        by : (j ≡ k) ⊎ ((j < k) ⊎ (k < j)) → (j ≡ k) ⊎ (j ≡ k → ⊥)
        by (inl e) = inl e
        by (inr (inl l)) = inr (λ e. omega arith)
        by (inr (inr l)) = inr (λ e. omega arith)

    -- the first of a number stays the first
    first-still : (n j : ℕ) → IsFirst n j states → IsFirst n j states'
    first-still n j f i y before at = by (or-other i)
      where
        by : (i ≡ k) ⊎ (i ≡ k → ⊥) → y.node ≡ n → ⊥
        by (inl same) is_n = f i old before (ap (slice_get states) same ∙ here) (sym node ∙ sym (ap (λ (z : NodeState N S). z.node) (is-new i y same at)) ∙ is_n)
        by (inr other) is_n = f i y before (there-other i y other at) is_n

    -- another process is at another address
    elsewhere : (j : ℕ) (y : NodeState N S) (a : Address) → (j ≡ k → ⊥) → slice_get states j ≡ Some y → y.last ≡ Some a → same_address a p ≡ false
    elsewhere j y a other at is_last = by (same_address a p) refl
      where
        by : (b : Bool) → same_address a p ≡ b → b ≡ false
        by false e = refl
        by true e =
            let l = x.last j y a at is_last in
            absurd (apart states k j old y other here at first l.1 (sym own ∙ sym (ap (λ (z : Address). z.node) (same_address-true a p e)) ∙ l.0))

    at-other : (a : Address) → same_address a p ≡ false → with_runner p o x.at a ≡ x.at a
    at-other a e = ap (λ (b : Bool). cond b o (x.at a)) e

    at-own : with_runner p o x.at p ≡ o
    at-own = ap (λ (b : Bool). cond b o (x.at p)) (same_address-refl p)

    -- what runs there now
    runs-own : (q : Process N S) (r : Option (Driven N S)) → r ≡ o → option_map (process_of p) r ≡ Some q
        → (Some p ≡ Some q.address) × (o ≡ Some q.runner) × (has_ended q.runner.channel.stage ≡ false)
    runs-own q None same e = absurd (none-some q e)
    runs-own q (Some r) same e =
        let one = same_Some (process_of p r) q e in
        let on : has_ended r.channel.stage ≡ false = subst (λ (z : Option (Driven N S)). IfSome z (λ d. has_ended d.channel.stage ≡ false)) (sym same) runs_on in
        (ap (λ (z : Process N S). Some z.address) one, sym same ∙ ap (λ (z : Process N S). Some z.runner) one, subst (λ (z : Process N S). has_ended z.runner.channel.stage ≡ false) one on)

    pub plays-set : Play states' gone' lines' nets'
    plays-set = record {
      law = x.law;
      at = with_runner p o x.at;
      played = played;
      runs = runs;
      last = last-still;
      fresh = λ a started. fresh a (starts a started);
      there = there;
    }
      where
        runs : (j : ℕ) (y : NodeState N S) (q : Process N S) → slice_get states' j ≡ Some y → y.process ≡ Some q
            → (y.last ≡ Some q.address) × (with_runner p o x.at q.address ≡ Some q.runner) × (has_ended q.runner.channel.stage ≡ false)
        runs j y q at process = by (or-other j)
          where
            by : (j ≡ k) ⊎ (j ≡ k → ⊥) → (y.last ≡ Some q.address) × (with_runner p o x.at q.address ≡ Some q.runner) × (has_ended q.runner.channel.stage ≡ false)
            by (inl same) =
                let now = is-new j y same at in
                let z = runs-own q o refl (sym is ∙ sym (ap (λ (w : NodeState N S). w.process) now) ∙ process) in
                (ap (λ (w : NodeState N S). w.last) now ∙ last ∙ z.0, subst (λ (a : Address). with_runner p o x.at a ≡ Some q.runner) (same_Some p q.address z.0) (at-own ∙ z.1), z.2)
            by (inr other) =
                let z = x.runs j y q (there-other j y other at) process in
                (z.0, at-other q.address (elsewhere j y q.address other (there-other j y other at) z.0) ∙ z.1, z.2)

        last-still : (j : ℕ) (y : NodeState N S) (a : Address) → slice_get states' j ≡ Some y → y.last ≡ Some a → (a.node ≡ y.node) × IsFirst y.node j states'
        last-still j y a at is_last = by (or-other j)
          where
            by : (j ≡ k) ⊎ (j ≡ k → ⊥) → (a.node ≡ y.node) × IsFirst y.node j states'
            by (inl same) =
                let now = is-new j y same at in
                let is_p = same_Some a p (sym is_last ∙ ap (λ (w : NodeState N S). w.last) now ∙ last) in
                let number : y.node ≡ old.node = ap (λ (w : NodeState N S). w.node) now ∙ node in (
                  ap (λ (z : Address). z.node) is_p ∙ own ∙ sym number,
                  subst (λ (n : ℕ). IsFirst n j states') (sym number) (subst (λ (i : ℕ). IsFirst old.node i states') (sym same) (first-still old.node k first)),
                )
            by (inr other) = let z = x.last j y a (there-other j y other at) is_last in (z.0, first-still y.node j z.1)

        fresh : (a : Address) → (has_started a (events_in lines) ≡ true) ⊎ (a ≡ p)
            → (j : ℕ) × (y : NodeState N S) × (q : Address) × (slice_get states' j ≡ Some y) × (y.last ≡ Some q) × (a.node ≡ q.node) × (a.incarnation ≤ q.incarnation)
        fresh a (inr same) = (k, new, p, there-new, last, ap (λ (z : Address). z.node) same, subst (λ (z : Address). z.incarnation ≤ p.incarnation) (sym same) (omega arith))
        fresh a (inl before) = by (x.fresh a before)
          where
            by : (j : ℕ) × (y : NodeState N S) × (q : Address) × (slice_get states j ≡ Some y) × (y.last ≡ Some q) × (a.node ≡ q.node) × (a.incarnation ≤ q.incarnation)
                → (j : ℕ) × (y : NodeState N S) × (q : Address) × (slice_get states' j ≡ Some y) × (y.last ≡ Some q) × (a.node ≡ q.node) × (a.incarnation ≤ q.incarnation)
            by (j, y, q, at, is_last, n, i) = here-or (or-other j)
              where
                here-or : (j ≡ k) ⊎ (j ≡ k → ⊥)
                    → (j : ℕ) × (y : NodeState N S) × (q : Address) × (slice_get states' j ≡ Some y) × (y.last ≡ Some q) × (a.node ≡ q.node) × (a.incarnation ≤ q.incarnation)
                here-or (inl same) =
                    let l = later q (ap (λ (w : NodeState N S). w.last) (sym (same_Some y old (sym at ∙ ap (slice_get states) same ∙ here))) ∙ is_last) in
                    (k, new, p, there-new, last, n ∙ l.0, omega arith)
                here-or (inr other) = (j, y, q, set-other states k j new other ∙ at, is_last, n, i)

        there : (a : Address) (r : Driven N S) → with_runner p o x.at a ≡ Some r → (j : ℕ) × (y : NodeState N S) × (slice_get states' j ≡ Some y) × (y.process ≡ Some (record { address = a; runner = r }))
        there a r e = by (same_address a p) refl
          where
            other-place : (j : ℕ) × (y : NodeState N S) × (slice_get states j ≡ Some y) × (y.process ≡ Some (process_of a r)) → same_address a p ≡ false
                → (j : ℕ) × (y : NodeState N S) × (slice_get states' j ≡ Some y) × (y.process ≡ Some (record { address = a; runner = r }))
            other-place (j, y, at, process) differs = pick (or-other j)
              where
                pick : (j ≡ k) ⊎ (j ≡ k → ⊥) → (j : ℕ) × (y : NodeState N S) × (slice_get states' j ≡ Some y) × (y.process ≡ Some (record { address = a; runner = r }))
                pick (inl same) =
                    let gives = was (process_of a r) (ap (λ (w : NodeState N S). w.process) (sym (same_Some y old (sym at ∙ ap (slice_get states) same ∙ here))) ∙ process) in
                    absurd (let bad : true ≡ false = sym (same_address-refl p) ∙ ap (λ (z : Address). same_address z p) (sym gives) ∙ differs in cc)
                pick (inr other) = (j, y, set-other states k j new other ∙ at, process)

            by : (b : Bool) → same_address a p ≡ b → (j : ℕ) × (y : NodeState N S) × (slice_get states' j ≡ Some y) × (y.process ≡ Some (record { address = a; runner = r }))
            by true same =
                let is_p = same_address-true a p same in
                let now : o ≡ Some r = sym at-own ∙ ap (with_runner p o x.at) (sym is_p) ∙ e in
                (k, new, there-new, is ∙ ap (option_map (process_of p)) now ∙ ap (λ (z : Address). Some (process_of z r)) (sym is_p))
            by false differs = other-place (x.there a r (sym (at-other a differs) ∙ e)) differs

-- ---- what starts

no-starts : (a : Address) (events : List Event) → list_any is_start events ≡ false → has_started a events ≡ false
no-starts a [] none = refl
no-starts a (e ∷ events) none = by (is_start e) (same_address (member_of e) a) (list_any is_start events) (has_started a events) none (no-starts a events)
  where
    by : (s m rest started : Bool) → (s || rest) ≡ false → (rest ≡ false → started ≡ false) → ((m && s) || started) ≡ false
    by true m rest started none same = absurd (let bad : true ≡ false = none in cc)
    by false true rest started none same = same none
    by false false rest started none same = same none

or-first : (a b : Bool) → (a || b) ≡ true → b ≡ false → a ≡ true
or-first true b e none = refl
or-first false b e none = absurd (let bad : true ≡ false = sym e ∙ none in cc)

-- what is told starts nobody, nor does a crash
started-before : (a p : Address) (events taken : List Event) (fell : Bool) → list_any is_start taken ≡ false → has_started a (events ++ (taken ++ crash_of p fell)) ≡ true
    → has_started a events ≡ true
started-before a p events taken fell none e =
    or-first (has_started a events) (has_started a (taken ++ crash_of p fell)) (sym (list_any-append (λ h. same_address (member_of h) a && is_start h) events (taken ++ crash_of p fell)) ∙ e)
    (no-starts a (taken ++ crash_of p fell) (list_any-append is_start taken (crash_of p fell) ∙ ap (λ (b : Bool). b || list_any is_start (crash_of p fell)) none ∙ of-crash fell))
  where
    of-crash : (b : Bool) → list_any is_start (crash_of p b) ≡ false
    of-crash true = refl
    of-crash false = refl

-- a start is of its address
started-or : (a p : Address) (events more : List Event) → has_started a (events ++ Started p ∷ more) ≡ true → list_any is_start more ≡ false
    → (has_started a events ≡ true) ⊎ (a ≡ p)
started-or a p events more e none = by (has_started a events) (same_address p a) refl (sym (list_any-append (λ h. same_address (member_of h) a && is_start h) events (Started p ∷ more)) ∙ e)
  where
    by : (b c : Bool) → same_address p a ≡ c → (b || ((c && true) || has_started a more)) ≡ true → (b ≡ true) ⊎ (a ≡ p)
    by true c is so = inl refl
    by false true is so = inr (sym (same_address-true p a is))
    by false false is so = absurd (let bad : false ≡ true = sym (no-starts a more none) ∙ so in cc)

module _ {N S : Type 0} where
  pub with-twice : (p : Address) (o u : Option (Driven N S)) (at : Address → Option (Driven N S)) → with_runner p u (with_runner p o at) ≡ with_runner p u at
  with-twice p o u at = λ i a. by (same_address a p) a i
    where
      by : (b : Bool) (a : Address) → cond b u (cond b o (at a)) ≡ cond b u (at a)
      by true a = refl
      by false a = refl

module _ {N S : Type 0} (log : N → Option Log) (failed : N → ℕ) (meaning : Meaning S) (group : List ℕ) (states : List (NodeState N S)) (gone : List (Gone N)) (lines : List Line)
    (nets : List NetEvent) (x : Plays log failed meaning group states gone lines nets) (k : ℕ) (old : NodeState N S) (here : slice_get states k ≡ Some old) where
  abbrev with_process : Option (Process N S) → NodeState N S
  with_process o = record { node = old.node; last = old.last; process = o }

  -- ---- what the process that runs there does

  module _ (q : Process N S) (process : old.process ≡ Some q) where
    abbrev p : Address
    p = q.address

    found : (old.last ≡ Some p) × (x.at p ≡ Some q.runner) × (has_ended q.runner.channel.stage ≡ false)
    found = x.runs k old q here process

    its : (p.node ≡ old.node) × IsFirst old.node k states
    its = x.last k old p here found.0

    was : (r : Process N S) → old.process ≡ Some r → r.address ≡ p
    was r is = ap (λ (z : Process N S). z.address) (same_Some r q (sym is ∙ process))

    later : (l : Address) → old.last ≡ Some l → (l.node ≡ p.node) × (l.incarnation ≤ p.incarnation)
    later l is = let e = same_Some l p (sym is ∙ found.0) in (ap (λ (z : Address). z.node) e, subst (λ (z : Address). z.incarnation ≤ p.incarnation) (sym e) (omega arith))

    module _ (r : Driven N S) (more : List Line) (t : Turns log failed meaning group p q.runner r more) where
      all-said : events_in (lines ++ more) ≡ events_in lines ++ (t.taken ++ crash_of p t.fell)
      all-said = events-then lines more ∙ ap (λ (l : List Event). events_in lines ++ l) t.says

      -- its net lists more
      turned-so : (listed : List NetEvent) × Lists (log q.runner.net) (λ l. l ++ listed) (log r.net)
          × PlayedOver log failed meaning group (with_runner p (Some r) x.at) gone (events_in lines ++ t.taken ++ crash_of p t.fell) (nets ++ listed)
      turned-so =
          let a = runner-is log failed meaning group x.at gone (events_in lines) nets x.played p q.runner found.1 in
          let adds = drives-adds log failed meaning group q.runner t.taken t.fell r a.0 a.1 t.drives in (
            net_events adds.items,
            adds.lists,
            Turned x.at gone (events_in lines) nets p q.runner t.taken t.fell r (net_events adds.items) x.played found.1 t.drives t.told adds.lists,
          )

      pub turn-lists : List NetEvent
      turn-lists = turned-so.0

      pub turn-listed : Lists (log q.runner.net) (λ l. l ++ turn-lists) (log r.net)
      unfolding turn-lists turned-so
      turn-listed = turned-so.1

      turned : PlayedOver log failed meaning group (with_runner p (Some r) x.at) gone (events_in (lines ++ more)) (nets ++ turn-lists)
      unfolding turn-lists turned-so
      turned = subst (λ (l : List Event). PlayedOver log failed meaning group (with_runner p (Some r) x.at) gone l (nets ++ turn-lists))
          (append_assoc (events_in lines) t.taken (crash_of p t.fell) ∙ sym all-said) turned-so.2

      starts : (a : Address) → has_started a (events_in (lines ++ more)) ≡ true → (has_started a (events_in lines) ≡ true) ⊎ (a ≡ p)
      starts a e =
          inl (started-before a p (events_in lines) t.taken t.fell (x.law group x.at gone (events_in lines) p q.runner t.taken t.fell r (nets, x.played) found.1 t.drives t.told)
          (ap (has_started a) (sym all-said) ∙ e))

      -- it takes a turn, and runs on
      pub plays-turn : has_ended r.channel.stage ≡ false → Plays log failed meaning group (slice_set states k (with_process (Some (record { address = q.address; runner = r })))) gone (lines ++ more) (nets ++ turn-lists)
      plays-turn on =
          plays-set log failed meaning group states gone lines nets x k old (with_process (Some (record { address = q.address; runner = r }))) here refl p found.0 its.0 its.1 (Some r) refl on was later
          gone (lines ++ more) (nets ++ turn-lists) turned starts

      closed : PlayedOver log failed meaning group (with_runner p None x.at) (gone ++ record { by = p; net = r.net } ∷ []) (events_in (lines ++ more)) (nets ++ turn-lists)
      closed = subst (λ (at : Address → Option (Driven N S)). PlayedOver log failed meaning group at (gone ++ record { by = p; net = r.net } ∷ []) (events_in (lines ++ more)) (nets ++ turn-lists))
          (with-twice p (Some r) None x.at)
          (Closes (with_runner p (Some r) x.at) gone (events_in (lines ++ more)) (nets ++ turn-lists) p r turned (ap (λ (b : Bool). cond b (Some r) (x.at p)) (same_address-refl p)))

      -- it takes a turn, and is let go
      pub plays-ended : Plays log failed meaning group (slice_set states k (with_process None)) (gone ++ record { by = q.address; net = r.net } ∷ []) (lines ++ more) (nets ++ turn-lists)
      plays-ended =
          plays-set log failed meaning group states gone lines nets x k old (with_process None) here refl p found.0 its.0 its.1 None refl tt was later
          (gone ++ record { by = p; net = r.net } ∷ []) (lines ++ more) (nets ++ turn-lists) closed starts

      -- it takes a turn, whatever becomes of it
      pub turn-played : (at : Address → Option (Driven N S)) × (all : List (Gone N)) × Played log failed meaning group at all (events_in (lines ++ more))
      turn-played = (with_runner p (Some r) x.at, gone, (nets ++ turn-lists, turned))

    crashed-said : events_in (lines ++ Happens (Crashed p) ∷ []) ≡ events_in lines ++ Crashed p ∷ []
    crashed-said = events-then lines (Happens (Crashed p) ∷ [])

    died : PlayedOver log failed meaning group (with_runner p None x.at) (gone ++ record { by = p; net = q.runner.net } ∷ []) (events_in (lines ++ Happens (Crashed p) ∷ [])) nets
    died = subst (λ (l : List Event). PlayedOver log failed meaning group (with_runner p None x.at) (gone ++ record { by = p; net = q.runner.net } ∷ []) l nets) (sym crashed-said)
        (Dies x.at gone (events_in lines) nets p q.runner x.played found.1 found.2)

    -- it is killed
    pub plays-killed : Plays log failed meaning group (slice_set states k (with_process None)) (gone ++ record { by = q.address; net = q.runner.net } ∷ [])
        (lines ++ Happens (Crashed q.address) ∷ []) nets
    plays-killed =
        plays-set log failed meaning group states gone lines nets x k old (with_process None) here refl p found.0 its.0 its.1 None refl tt was later
        (gone ++ record { by = p; net = q.runner.net } ∷ []) (lines ++ Happens (Crashed p) ∷ []) nets died
        (λ a e. inl (started-before a p (events_in lines) [] true refl (ap (has_started a) (sym crashed-said) ∙ e)))

    pub killed-played : (at : Address → Option (Driven N S)) × (all : List (Gone N)) × Played log failed meaning group at all (events_in (lines ++ Happens (Crashed q.address) ∷ []))
    killed-played = (with_runner p None x.at, gone ++ record { by = p; net = q.runner.net } ∷ [], (nets, died))

  -- ---- what starts there

  module _ (p : Address) (next : IsNext old p) (first : IsFirst old.node k states) where
    abbrev started_at : Option (Process N S) → NodeState N S
    started_at o = record { node = old.node; last = Some p; process = o }

    its-next : (l : Address) → old.last ≡ Some l → p ≡ record { node = l.node; incarnation = l.incarnation + 1 }
    its-next l is = subst (λ (o : Option Address). IfSome o (λ q. p ≡ record { node = q.node; incarnation = q.incarnation + 1 })) is next.next

    its-node : (l : Option Address) → old.last ≡ l → p.node ≡ old.node
    its-node None is = ap (λ (a : Address). a.node) (next.first is)
    its-node (Some l) is = ap (λ (a : Address). a.node) (its-next l is) ∙ (x.last k old l here is).0

    is-later : (l : Address) → old.last ≡ Some l → (l.node ≡ p.node) × (l.incarnation ≤ p.incarnation)
    is-later l is = let z = ap (λ (a : Address). a.incarnation) (its-next l is) in (sym (ap (λ (a : Address). a.node) (its-next l is)), omega arith)

    was-free : (q : Process N S) → old.process ≡ Some q → q.address ≡ p
    was-free q is = absurd (none-some q (sym next.free ∙ is))

    -- nothing was started at the address
    is-unused : has_started p (events_in lines) ≡ false
    is-unused = by (has_started p (events_in lines)) refl
      where
        never : (j : ℕ) × (y : NodeState N S) × (q : Address) × (slice_get states j ≡ Some y) × (y.last ≡ Some q) × (p.node ≡ q.node) × (p.incarnation ≤ q.incarnation) → ⊥
        never (j, y, q, at, is_last, n, i) = here-or (places j k)
          where
            off : (j ≡ k → ⊥) → ⊥
            off other =
                let l = x.last j y q at is_last in
                apart log failed meaning group states k j old y other here at first l.1 (sym (its-node old.last refl) ∙ n ∙ l.0)

            here-or : (j ≡ k) ⊎ ((j < k) ⊎ (k < j)) → ⊥
            here-or (inl same) =
                let is = ap (λ (w : NodeState N S). w.last) (sym (same_Some y old (sym at ∙ ap (slice_get states) same ∙ here))) ∙ is_last in
                let z = ap (λ (a : Address). a.incarnation) (its-next q is) in
                omega arith
            here-or (inr (inl l)) = off (λ e. omega arith)
            here-or (inr (inr l)) = off (λ e. omega arith)

        by : (b : Bool) → has_started p (events_in lines) ≡ b → b ≡ false
        by false e = refl
        by true e = absurd (never (x.fresh p e))

    -- a process starts
    pub plays-started : (r : Driven N S) → r.channel ≡ new_channel meaning p → ForSome (log r.net) (λ l. l ≡ [])
        → Plays log failed meaning group (slice_set states k (started_at (Some (record { address = p; runner = r })))) gone (lines ++ Happens (Started p) ∷ []) nets
    plays-started r channel lists =
        let said = events-then lines (Happens (Started p) ∷ []) in
        plays-set log failed meaning group states gone lines nets x k old (started_at (Some (record { address = p; runner = r }))) here refl p refl (its-node old.last refl) first (Some r) refl
        (ap (λ c. has_ended c.stage) channel) was-free is-later gone (lines ++ Happens (Started p) ∷ []) nets
        (subst (λ (l : List Event). PlayedOver log failed meaning group (with_runner p (Some r) x.at) gone l nets) (sym said)
        (Begins x.at gone (events_in lines) nets p r x.played next.real is-unused channel lists))
        (λ a e. started-or a p (events_in lines) [] (ap (has_started a) (sym said) ∙ e) refl)

    failing : PlayedOver log failed meaning group x.at gone (events_in (lines ++ Happens (Started p) ∷ Happens (Crashed p) ∷ [])) nets
    failing = subst (λ (l : List Event). PlayedOver log failed meaning group x.at gone l nets) (sym (events-then lines (Happens (Started p) ∷ Happens (Crashed p) ∷ [])))
        (Fails x.at gone (events_in lines) nets p x.played next.real is-unused)

    -- it ends as it starts; nobody is there
    pub start-failed : (at : Address → Option (Driven N S)) × (all : List (Gone N))
        × Played log failed meaning group at all (events_in (lines ++ Happens (Started p) ∷ Happens (Crashed p) ∷ []))
    start-failed = (x.at, gone, (nets, failing))

    -- no runner is there
    at-none : (o : Option (Driven N S)) → x.at p ≡ o → o ≡ None
    at-none None is = refl
    at-none (Some r) is = absurd (never (x.there p r is))
      where
        never : (j : ℕ) × (y : NodeState N S) × (slice_get states j ≡ Some y) × (y.process ≡ Some (record { address = p; runner = r })) → ⊥
        never (j, y, at, process) = here-or (places j k)
          where
            off : (j ≡ k → ⊥) → ⊥
            off other =
                let z = x.last j y p at (x.runs j y (record { address = p; runner = r }) at process).0 in
                apart log failed meaning group states k j old y other here at first z.1 (sym (its-node old.last refl) ∙ z.0)

            here-or : (j ≡ k) ⊎ ((j < k) ⊎ (k < j)) → ⊥
            here-or (inl same) =
                none-some (record { address = p; runner = r }) (sym next.free ∙ ap (λ (w : NodeState N S). w.process) (sym (same_Some y old (sym at ∙ ap (slice_get states) same ∙ here))) ∙ process)
            here-or (inr (inl l)) = off (λ e. omega arith)
            here-or (inr (inr l)) = off (λ e. omega arith)

    without-own : with_runner p None x.at ≡ x.at
    without-own = λ i a. by (same_address a p) a refl i
      where
        by : (b : Bool) (a : Address) → same_address a p ≡ b → cond b None (x.at a) ≡ x.at a
        by true a same = sym (ap x.at (same_address-true a p same) ∙ at-none (x.at p) refl)
        by false a same = refl

    pub plays-failed : Plays log failed meaning group (slice_set states k (started_at None)) gone (lines ++ Happens (Started p) ∷ Happens (Crashed p) ∷ []) nets
    plays-failed =
        plays-set log failed meaning group states gone lines nets x k old (started_at None) here refl p refl (its-node old.last refl) first None refl tt was-free is-later
        gone (lines ++ Happens (Started p) ∷ Happens (Crashed p) ∷ []) nets
        (subst (λ (at : Address → Option (Driven N S)). PlayedOver log failed meaning group at gone (events_in (lines ++ Happens (Started p) ∷ Happens (Crashed p) ∷ [])) nets) (sym without-own) failing)
        (λ a e. started-or a p (events_in lines) (Crashed p ∷ []) (ap (has_started a) (sym (events-then lines (Happens (Started p) ∷ Happens (Crashed p) ∷ []))) ∙ e) refl)
