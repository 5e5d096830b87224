use Rattle.replicated_map.proofs.StampsSpellViews.{stamped-spells, said-spells}
use Rattle.replicated_map.proofs.law.stamps_spell.Goals as goal

pub returns-clause-stamped : goal.returns-clause-stamped
returns-clause-stamped c = stamped-spells

pub returns-clause-said : goal.returns-clause-said
returns-clause-said c = said-spells
