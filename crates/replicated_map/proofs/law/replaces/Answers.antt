use Rattle.replicated_map.proofs.ReplacementsChange.{replaced, not-replaced, replaced-once, replaced-at, kept-at-another, removed-at, not-removed}
use Rattle.replicated_map.proofs.law.replaces.Goals as goal

pub returns-clause-puts : goal.returns-clause-puts
returns-clause-puts c = replaced

pub returns-clause-otherwise : goal.returns-clause-otherwise
returns-clause-otherwise c = not-replaced

pub returns-clause-once : goal.returns-clause-once
returns-clause-once c = replaced-once

pub returns-clause-at_version : goal.returns-clause-at_version
returns-clause-at_version c = replaced-at

pub returns-clause-at_another : goal.returns-clause-at_another
returns-clause-at_another c = kept-at-another

pub returns-clause-removes : goal.returns-clause-removes
returns-clause-removes c = removed-at

pub returns-clause-keeps : goal.returns-clause-keeps
returns-clause-keeps c = not-removed
