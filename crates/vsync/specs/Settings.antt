-- The settings of a file's bytes, and how a command ends where they are none.
use Rattle.std.specs.Prelude.{◌≡◌, ◌⊎◌, ℕ, List, Option, None, Some, Result, Ok, Err, if◌then◌else◌}
use Rattle.std.specs.Option.{option_and_then}
use Rattle.std.specs.Str.{is_utf8}
use Rattle.toml.specs.Parse.{parse_document}
use Rattle.udp_net.specs.Settings.{SettingsModel, settings_in}
use Rattle.vsync_text.specs.declared.status.Status.{Status}
use Rattle.vsync_text.specs.declared.status.Status.TheVariants.{Memory, Refused}
use Rattle.vsync.specs.Ends.{EndsBy}

-- the settings that bytes spell, if they are UTF-8 and spell some
abbrev pub settings_of_bytes : List ℕ → Option SettingsModel
settings_of_bytes bytes = if is_utf8 bytes then option_and_then settings_in (parse_document bytes) else None

-- the settings of bytes; or the status of a command that ends because they are none, or for want of memory
abbrev pub GivesSettings : List ℕ → Result SettingsModel Status → Type 0
GivesSettings bytes (Ok found) = settings_of_bytes bytes ≡ Some found
GivesSettings bytes (Err status) = ((settings_of_bytes bytes ≡ None) × EndsBy Refused status) ⊎ EndsBy Memory status

-- a command ends because its input is refused, or for want of memory, or because the outside failed
abbrev pub EndsWithout : Status → Type 0
EndsWithout status = EndsBy Refused status ⊎ EndsBy Memory status
