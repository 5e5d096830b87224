-- After which errors a channel has ended.
use Rattle.std.specs.Prelude.{Bool, ◌||◌}
use Rattle.member.specs.declared.error.Error.{Error}
use Rattle.member.specs.Errors.{is_closed, is_memory}

-- after 6 and 7
abbrev pub is_end : Error → Bool
is_end e = is_closed e || is_memory e
