use Rattle.std.proofs.Common.{inl}
use Rattle.vsync.proofs.SettingsOfBytes.{none_of, those_of}
use Rattle.vsync.proofs.udp_programs.settings_in.Goals as goal

pub returns-in_default : goal.returns-in_default
returns-in_default c = inl (none_of c.args.bytes.now c.in_default.ensures.cases.0, c.refuse.ensures)

pub returns-in-Ok-settings : goal.returns-in-Ok-settings
returns-in-Ok-settings c = those_of c.args.bytes.now c.in-Ok.text.now _ c.in-Ok.ensures.cases.1 c.in-Ok.ensures.cases.0 c.in-Ok-settings.ensures
