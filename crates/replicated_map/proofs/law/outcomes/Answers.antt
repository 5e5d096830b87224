use Rattle.replicated_map.proofs.OutcomesSay.{stored-stands, replace-stands, version-stands, removal-stands, version-removal, full-kept-out, different, other-version, not-removed, missing, clears, no-command}
use Rattle.replicated_map.proofs.law.outcomes.Goals as goal

pub returns-clause-stored : goal.returns-clause-stored
returns-clause-stored c = stored-stands

pub returns-clause-replaced : goal.returns-clause-replaced
returns-clause-replaced c = replace-stands

pub returns-clause-replaced_version : goal.returns-clause-replaced_version
returns-clause-replaced_version c = version-stands

pub returns-clause-removed : goal.returns-clause-removed
returns-clause-removed c = removal-stands

pub returns-clause-removed_version : goal.returns-clause-removed_version
returns-clause-removed_version c = version-removal

pub returns-clause-kept_out : goal.returns-clause-kept_out
returns-clause-kept_out c = full-kept-out

pub returns-clause-different : goal.returns-clause-different
returns-clause-different c = different

pub returns-clause-other_version : goal.returns-clause-other_version
returns-clause-other_version c = other-version

pub returns-clause-not_removed : goal.returns-clause-not_removed
returns-clause-not_removed c = not-removed

pub returns-clause-missing : goal.returns-clause-missing
returns-clause-missing c = missing

pub returns-clause-cleared : goal.returns-clause-cleared
returns-clause-cleared c = clears

pub returns-clause-no_command : goal.returns-clause-no_command
returns-clause-no_command c = no-command
