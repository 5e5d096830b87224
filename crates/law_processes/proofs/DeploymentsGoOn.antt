-- A deployment that was played goes on, and keeps what deployments keep.
use Rattle.std.proofs.Common.{◌≡◌, ℕ, List, [], ◌∷◌, ◌++◌, refl, sym, ap, ◌∙◌, subst}
use Rattle.state_transfer.specs.Meanings.{Meaning}
use Rattle.law_acts.proofs.KeepBySteps as agree
use Rattle.law_processes.specs.Deployments.{Step, Deployment, nothing_yet, after, after_steps, EachStep, DoesSo, StartsOnce, HandsOver, IsHistory, IsPlayed}
use Rattle.law_processes.proofs.KeepBySteps.{IsDeployment, nothing, steps-keep}

module _ {S : Type 0} where
  after-more : (d : Deployment S) (steps : List (Step S)) (x : Step S) → after_steps d (steps ++ x ∷ []) ≡ after (after_steps d steps) x
  after-more d [] x = refl
  after-more d (y ∷ steps) x = after-more (after d y) steps x

  each-more : (Holds : Deployment S → Step S → Type 0) (d : Deployment S) (steps : List (Step S)) (x : Step S) → EachStep Holds d steps → Holds (after_steps d steps) x
      → EachStep Holds d (steps ++ x ∷ [])
  each-more Holds d [] x each now = (now, tt)
  each-more Holds d (y ∷ steps) x each now = (each.0, each-more Holds (after d y) steps x each.1 now)

module _ {S : Type 0} (meaning : Meaning S) (group : List ℕ) where
  -- nothing was done yet
  pub nothing-played : IsPlayed meaning group nothing_yet
  nothing-played = record { steps = []; history = record { does = tt; once = tt; network = tt }; end = refl }

  -- one step more
  pub step-plays : (d : Deployment S) (x : Step S) → IsPlayed meaning group d → DoesSo meaning group d x → StartsOnce d x → HandsOver group d x → IsPlayed meaning group (after d x)
  step-plays d x y does once over = record {
    steps = y.steps ++ x ∷ [];
    history = record {
      does = each-more (DoesSo meaning group) nothing_yet y.steps x y.history.does (subst (λ (e : Deployment S). DoesSo meaning group e x) (sym y.end) does);
      once = each-more StartsOnce nothing_yet y.steps x y.history.once (subst (λ (e : Deployment S). StartsOnce e x) (sym y.end) once);
      network = each-more (HandsOver group) nothing_yet y.steps x y.history.network (subst (λ (e : Deployment S). HandsOver group e x) (sym y.end) over);
    };
    end = after-more nothing_yet y.steps x ∙ ap (λ (e : Deployment S). after e x) y.end;
  }

  -- what holds of each history holds of what was played
  pub of-played : (P : Deployment S → Type 0) → ((steps : List (Step S)) → IsHistory meaning group steps → P (after_steps nothing_yet steps)) → (d : Deployment S) → IsPlayed meaning group d → P d
  of-played P law d y = subst P y.end (law y.steps y.history)

  -- what deployments keep: agreement's invariant, and that each packet that was put out is one of the group
  pub played-keeps : (laws : agree.Laws meaning) (d : Deployment S) → IsPlayed meaning group d → IsDeployment meaning laws group d
  played-keeps laws d y = of-played (IsDeployment meaning laws group) (λ steps h. steps-keep meaning laws group nothing_yet steps (nothing meaning laws group) h.does h.once h.network) d y
