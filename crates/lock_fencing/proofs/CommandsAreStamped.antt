-- Where each caller stamps what it sends, each command spells the view in which it is sent.
use Rattle.std.proofs.Common.{ℕ, List, inl, inr, sym, ap, subst, ◌∙◌}
use Rattle.std.proofs.lemmas.Option.{same_Some}
use Rattle.address.specs.Ids.{ViewId}
use Rattle.trace_props.specs.declared.event.Event.TheVariants.{Sent}
use Rattle.law_processes.specs.Deployments.{nothing_yet, trace_of}
use Rattle.law_processes.proofs.SendsWereAsked.{said-at, steps-said}
use Rattle.keyed_state.specs.Tokens.{IsViewId}
use Rattle.lock_table.specs.Commands.{command_of}
use Rattle.lock_table.specs.Meanings.{table_meaning}
use Rattle.lock_table.specs.Stamps.{FirstSpells, SaidSpells}
use Rattle.lock_fencing.specs.Stamped.{Spells, StampedSpell, MaySay, SaidSpell}

pub stamped-spell : StampedSpell
stamped-spell group all h stamps k s c at = said-at Spells (trace_of all) k (Sent s) (steps-said Spells table_meaning group nothing_yet all tt h.does stamps) at c

module _ (said : SaidSpells) (first : FirstSpells) where
  -- what a node may say spells the view
  may-spell : (v : ViewId) (payload : List ℕ) → MaySay v payload → Spells v payload
  may-spell v payload (is, inl (text, says)) = λ c e. said v text payload c (record { counter = is.0; counter_fits = is.1; creator = is.2 }) says e
  may-spell v payload (is, inr (view, same, says)) = λ c e.
      first view c (subst IsViewId (sym same) (record { counter = is.0; counter_fits = is.1; creator = is.2 })) (ap command_of (same_Some _ payload says) ∙ e) ∙ same

  pub said-spell : SaidSpell
  said-spell events all k s c at = may-spell s.view s.message.payload (said-at MaySay events k (Sent s) all at) c
