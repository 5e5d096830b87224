use Rattle.replicated_map.proofs.ReplacementsChange.{put-fits, put-kept-out, replace-kept-out, version-kept-out, key-takes, value-takes, removal}
use Rattle.replicated_map.proofs.law.sizes.Goals as goal

pub returns-clause-fits : goal.returns-clause-fits
returns-clause-fits c = put-fits

pub returns-clause-put_kept_out : goal.returns-clause-put_kept_out
returns-clause-put_kept_out c = put-kept-out

pub returns-clause-replace_kept_out : goal.returns-clause-replace_kept_out
returns-clause-replace_kept_out c = replace-kept-out

pub returns-clause-version_kept_out : goal.returns-clause-version_kept_out
returns-clause-version_kept_out c = version-kept-out

pub returns-clause-new_key : goal.returns-clause-new_key
returns-clause-new_key c = key-takes

pub returns-clause-new_value : goal.returns-clause-new_value
returns-clause-new_value c = value-takes

pub returns-clause-removal : goal.returns-clause-removal
returns-clause-removal c = removal
