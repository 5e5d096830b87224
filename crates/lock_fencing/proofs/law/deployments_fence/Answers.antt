use Rattle.lock_fencing.proofs.CommandsAreStamped.{said-spell, stamped-spell}
use Rattle.lock_fencing.proofs.law.deployments_fence.Goals as goal

pub returns-clause-of_tables : goal.returns-clause-of_tables
returns-clause-of_tables c = λ group steps h. record {
  synchronous = c.deployments_are_synchronous.ensures.histories group steps h;
  messages = λ k d at. let both = c.deployments_are_synchronous.ensures.short group steps h k d at in record { from = both.0; payload = both.1 };
  own = c.deployments_are_synchronous.ensures.own group steps h;
}

pub returns-clause-stamped : goal.returns-clause-stamped
returns-clause-stamped c = stamped-spell

pub returns-clause-said : goal.returns-clause-said
returns-clause-said c = said-spell c.stamps_spell.ensures.said c.stamps_spell.ensures.first
