-- What waits to be sent.
use Rattle.std.specs.Prelude.{ℕ, Bool, true, false, ◌&&◌, not, List, [], ◌++◌, Option, None, Some, is_some, unwrap_or, if◌then◌else◌}
use Rattle.std.specs.Option.{option_map_or}
use Rattle.vsync_text.specs.Lines.{behind_byte}

-- what waits; and whether that is what follows a line of which the beginning was dropped, and the end has not come
pub record OutboxModel : Type 0 where
  pub waiting : List ℕ
  pub is_cut : Bool

abbrev pub nothing_waits : OutboxModel
nothing_waits = record { waiting = []; is_cut = false }

-- whether a text has a whole line
abbrev pub is_whole : List ℕ → Bool
is_whole text = is_some (behind_byte 10 text)

-- what is left of what came: all of it, or what stands behind the line of which the beginning was dropped
abbrev pub left_of : Bool → List ℕ → List ℕ
left_of is_cut came = if is_cut then unwrap_or (behind_byte 10 came) [] else came

-- whether that line goes on
abbrev pub is_cut_by : Bool → List ℕ → Bool
is_cut_by is_cut came = is_cut && not (is_whole came)

-- more came
abbrev pub with_more : List ℕ → OutboxModel → OutboxModel
with_more came o = record { waiting = o.waiting ++ left_of o.is_cut came; is_cut = is_cut_by o.is_cut came }

-- the next line is gone
abbrev pub without_next : OutboxModel → OutboxModel
without_next o = record o { waiting = unwrap_or (behind_byte 10 o.waiting) (o.waiting) }

-- the next line is gone, or the beginning of one that is not whole
abbrev pub without_long : OutboxModel → OutboxModel
without_long o = option_map_or (λ rest. record { waiting = rest; is_cut = o.is_cut }) (behind_byte 10 o.waiting) (record { waiting = []; is_cut = true })
