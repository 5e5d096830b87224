-- The numbers of what settings and sockets are refused for.
use Rattle.std.specs.Prelude.{ℕ}
use Rattle.udp_net.specs.declared.error.SettingsError.{SettingsError}
use Rattle.udp_net.specs.declared.error.SettingsError.TheVariants as settings
use Rattle.udp_net.specs.declared.error.BindError.{BindError}
use Rattle.udp_net.specs.declared.error.BindError.TheVariants as bind

abbrev pub settings_number : SettingsError → ℕ
settings_number settings.Config = 50
settings_number settings.Memory = 7

abbrev pub bind_number : BindError → ℕ
bind_number bind.Config = 50
bind_number bind.Bind = 51
bind_number bind.Memory = 7
