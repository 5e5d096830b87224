-- What members keep, by the flags of a command.
use Rattle.std.specs.Prelude.{◌&&◌, ◌||◌, Bool, true, false, codes, if◌then◌else◌}
use Rattle.std.specs.Prelude.{List}
use Rattle.std.specs.Option.{option_map_or}
use Rattle.std.specs.Str.{bytes_eq}
use Rattle.clap.specs.Words.{Row, Text, first_of}
use Rattle.vsync.specs.declared.kept_words.Kept.{Kept}
use Rattle.vsync.specs.declared.kept_words.Kept.TheVariants as kept
use Rattle.vsync.specs.declared.kept_words.KeptFlags.{KeptFlags}

-- what they keep: the first of the table of locks, the map and the long chat whose flag is there, else the chat
abbrev pub flags_keep : KeptFlags → Kept
flags_keep flags = if flags.locks then kept.Locks else if flags.map then kept.Map else if flags.long then kept.LongChat else kept.Chat

-- they would keep a map and locks
abbrev pub flags_keep_two : KeptFlags → Bool
flags_keep_two flags = flags.map && flags.locks

-- the flags of members that keep this alone
abbrev pub flags_of : Kept → KeptFlags
flags_of kept.Chat = record { long = false; map = false; locks = false }
flags_of kept.LongChat = record { long = true; map = false; locks = false }
flags_of kept.Map = record { long = false; map = true; locks = false }
flags_of kept.Locks = record { long = false; map = false; locks = true }

-- a flag stands there: clap's text for it is `true`
abbrev pub stands : Text → List Row → Bool
stands name rows = option_map_or (λ value. bytes_eq value (codes "true")) (first_of name rows) false

-- the flags that a subcommand has; `map` and `locks` are such a flag themselves
abbrev pub flags_said : Text × List Row → KeptFlags
flags_said said = record {
  long = stands (codes "long") said.1;
  map = bytes_eq said.0 (codes "map") || stands (codes "map") said.1;
  locks = bytes_eq said.0 (codes "locks") || stands (codes "locks") said.1;
}
