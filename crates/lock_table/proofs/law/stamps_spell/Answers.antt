use Rattle.lock_table.proofs.StampsSpellViews.{stamped-spells, said-spells, first-spells}
use Rattle.lock_table.proofs.law.stamps_spell.Goals as goal

pub returns-clause-stamped : goal.returns-clause-stamped
returns-clause-stamped c = stamped-spells

pub returns-clause-said : goal.returns-clause-said
returns-clause-said c = said-spells

pub returns-clause-first : goal.returns-clause-first
returns-clause-first c = first-spells
