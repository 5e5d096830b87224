-- Which counters of a sender were taken.
use Rattle.std.specs.Prelude.{ℕ, ◌+◌, ◌%◌, Bool, nat_lt, List, slice_set, get_or, if◌then◌else◌}

-- a counter is used where one as high of its remainder was taken
abbrev pub is_used : ℕ → List ℕ → Bool
is_used counter least = nat_lt counter (get_or least (counter % 256) 0)

-- a counter that is not used is taken
abbrev pub window_after : ℕ → List ℕ → List ℕ
window_after counter least = if is_used counter least then least else slice_set least (counter % 256) (counter + 1)
