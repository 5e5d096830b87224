-- What stands beside a run's events, one event further.
use Rattle.std.proofs.Common.{◌≡◌, ℕ, ◌+◌, ◌<◌, Bool, List, [], ◌∷◌, ◌++◌, length, take, length-take, drop, get_or, Option, Some, None, sym, ap, ◌∙◌, subst, refl, arith, append_assoc}
use Rattle.std.proofs.lemmas.List.{take_more, same_from_push}
use Rattle.std.specs.List.{cons_option}
use Rattle.state_transfer.specs.Meanings.{Meaning}
use Rattle.world_model.specs.declared.WorldEvent.{WorldEvent}
use Rattle.world.specs.Worlds.{WorldModel, no_world, WorldStep, Runs}
use Rattle.world.specs.Worlds.Runs.{Still, Next}
use Rattle.vsync_text.specs.declared.script.Script.{Script}
use Rattle.trace_props.specs.declared.verdict.Verdict.TheVariants.{Holds}
use Rattle.trace_drawing.specs.declared.aside.Aside.{Aside}
use Rattle.commands.specs.Asides.{put_out_at, asides_between, line_at, HasAsides}
use Rattle.commands.specs.Asides.HasAsides.{Nothing, Next as OneMore}
use Rattle.commands.specs.Draws.{TellsRun}
use Rattle.commands.proofs.RunsPrint.{OwnedReport}

-- ASIDES, ONE MORE

-- two asides and some others, added one behind another
pub added-all : (a b c d : List Aside) (x y : Option Aside) (zs : List Aside) → b ≡ a ++ cons_option x [] → c ≡ b ++ cons_option y [] → d ≡ c ++ zs → d ≡ a ++ cons_option x (cons_option y zs)
added-all a b c d None None zs e f g = g ∙ ap (λ u. u ++ zs) (f ∙ ap (λ u. u ++ []) e ∙ append_assoc a [] []) ∙ append_assoc a [] zs
added-all a b c d None (Some y) zs e f g = g ∙ ap (λ u. u ++ zs) (f ∙ ap (λ u. u ++ y ∷ []) e ∙ append_assoc a [] (y ∷ [])) ∙ append_assoc a (y ∷ []) zs
added-all a b c d (Some x) None zs e f g = g ∙ ap (λ u. u ++ zs) (f ∙ ap (λ u. u ++ []) e ∙ append_assoc a (x ∷ []) []) ∙ append_assoc a (x ∷ []) zs
added-all a b c d (Some x) (Some y) zs e f g = g ∙ ap (λ u. u ++ zs) (f ∙ ap (λ u. u ++ y ∷ []) e ∙ append_assoc a (x ∷ []) (y ∷ [])) ∙ append_assoc a (x ∷ y ∷ []) zs

-- the same packets, put out at the same place and node
pub put-out-same : (place end past count : ℕ) (site node : Option ℕ) (pool packets : List (List ℕ)) → place ≡ end → site ≡ node → past ≡ count → pool ≡ packets
    → put_out_at place site past (drop past pool) ≡ put_out_at end node count (drop count packets)
put-out-same place end past count site node pool packets e f g h =
    ap (λ n. put_out_at n site past (drop past pool)) e ∙ ap (λ s. put_out_at end s past (drop past pool)) f
    ∙ ap (λ n. put_out_at end node n (drop n pool)) g ∙ ap (λ p. put_out_at end node count (drop count p)) h

-- RUNS

module _ {S : Type 0} (meaning : Meaning S) where
  no-more : (events : List WorldEvent) (e : WorldEvent) → events ++ e ∷ [] ≡ [] → ⊥
  no-more [] e same = let bad : 1 ≡ 0 = ap length same in omega (arith, bad)
  no-more (x ∷ xs) e same = let bad : length (x ∷ (xs ++ e ∷ [])) ≡ 0 = ap length same in omega (arith, bad)

  -- no event leaves the world
  none-ran : (from w : WorldModel S) (events : List WorldEvent) → Runs meaning from events w → events ≡ [] → w ≡ from
  none-ran from _ _ Still same = refl
  none-ran from _ _ (Next events mid e new so step) same = absurd (no-more events e same)

  pub nothing-ran : (from w : WorldModel S) → Runs meaning from [] w → w ≡ from
  nothing-ran from w ran = none-ran from w [] ran refl

  one-of : (from w : WorldModel S) (all : List WorldEvent) (e : WorldEvent) → Runs meaning from all w → all ≡ [] ++ e ∷ [] → WorldStep meaning from e w
  one-of from _ _ e Still same = absurd (no-more [] e (sym same))
  one-of from _ _ e (Next events mid f new so step) same =
      let both = same_from_push events [] f e same in
      subst (λ (x : WorldEvent). WorldStep meaning from x new) both.1
      (subst (λ (w : WorldModel S). WorldStep meaning w f new) (none-ran from mid events so both.0) step)

  -- one event is one step
  pub one-ran : (from w : WorldModel S) (e : WorldEvent) → Runs meaning from (e ∷ []) w → WorldStep meaning from e w
  one-ran from w e ran = one-of from w (e ∷ []) e ran refl

  -- a run with asides is a run
  pub runs-beside : (packets : Bool) (lines : List ℕ) (events : List WorldEvent) (w : WorldModel S) (asides : List Aside) → HasAsides meaning packets lines events w asides → Runs meaning no_world events w
  runs-beside packets lines _ _ _ Nothing = Still
  runs-beside packets lines _ _ _ (OneMore events mid asides e new so step) = Next events mid e new (runs-beside packets lines events mid asides so) step

  -- nothing yet
  pub none-beside : (packets : Bool) (lines : List ℕ) (events : List WorldEvent) (from w : WorldModel S) (asides : List Aside) → from ≡ no_world → Runs meaning from [] w → asides ≡ [] → HasAsides meaning packets lines (take 0 events) w asides
  none-beside packets lines events from w asides new ran none =
      subst (λ (x : List Aside). HasAsides meaning packets lines [] w x) (sym none)
      (subst (λ (x : WorldModel S). HasAsides meaning packets lines [] x []) (sym (nothing-ran from w ran ∙ new)) Nothing)

  -- one event more
  pub more-beside : (packets : Bool) (lines : List ℕ) (events : List WorldEvent) (i line : ℕ) (e : WorldEvent) (mid new : WorldModel S) (asides more : List Aside) → i < length events → e ≡ get_or events i e
      → HasAsides meaning packets lines (take i events) mid asides → WorldStep meaning mid e new → line ≡ line_at lines i → more ≡ asides ++ asides_between packets line e mid.history new.history
      → HasAsides meaning packets lines (take (i + 1) events) new more
  more-beside packets lines events i line e mid new asides more inside is so step at adds =
      let whole : i ≡ length (take i events) = omega (arith, length-take i events, inside) in
      let all : take i events ++ e ∷ [] ≡ take (i + 1) events = ap (λ (d : WorldEvent). take i events ++ d ∷ []) is ∙ sym (take_more events i e inside) in
      subst (λ (x : List Aside). HasAsides meaning packets lines (take (i + 1) events) new x)
      (sym (adds ∙ ap (λ n. asides ++ asides_between packets n e mid.history new.history) (at ∙ ap (line_at lines) whole)))
      (subst (λ (l : List WorldEvent). HasAsides meaning packets lines l new (asides ++ asides_between packets (line_at lines (length (take i events))) e mid.history new.history)) all
      (OneMore (take i events) mid asides e new so step))

  -- all events
  pub all-beside : (packets : Bool) (lines : List ℕ) (events : List WorldEvent) (i : ℕ) (w : WorldModel S) (asides : List Aside) → take i events ≡ events
      → HasAsides meaning packets lines (take i events) w asides → HasAsides meaning packets lines events w asides
  all-beside packets lines events i w asides all so = subst (λ (l : List WorldEvent). HasAsides meaning packets lines l w asides) all so

  -- what was drawn is of a run of a script
  pub ran-beside : (packets : Bool) (script : Script) (lines : List ℕ) (events : List WorldEvent) (w : WorldModel S) (asides shown : List Aside) → lines ≡ script.lines → events ≡ script.events → shown ≡ asides
      → OwnedReport meaning w → HasAsides meaning packets lines events w asides → TellsRun meaning packets script w.history.trace shown w.history.pool Holds
  ran-beside packets script lines events w asides shown same_lines same_events same kept beside =
      let all : HasAsides meaning packets script.lines script.events w shown = subst (λ (x : List Aside). HasAsides meaning packets script.lines script.events w x) (sym same)
      (subst (λ (l : List WorldEvent). HasAsides meaning packets script.lines l w asides) same_events (subst (λ (l : List ℕ). HasAsides meaning packets l events w asides) same_lines beside)) in
      record {
        world = w;
        ran = record { ran = runs-beside packets script.lines script.events w shown all; faithful = kept.faithful; ordered = kept.ordered; synchronous = kept.synchronous; agreeing = kept.agreeing };
        is = refl;
        beside = all;
        pool = refl;
        holds = refl;
      }
