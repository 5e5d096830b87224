-- The first view of a member.
use Rattle.std.specs.Prelude.{None, [], ◌∷◌}
use Rattle.address.specs.Ids.{Address}
use Rattle.trace_props.specs.declared.event.Install.{Install}
use Rattle.law_acts.specs.Acts.{lone_view}

-- the install of a member's first view
abbrev pub lone_install : Address → Install
lone_install p = record {
  member = p;
  previous = None;
  view = lone_view p;
  together = p ∷ [];
  handed_back = [];
  given = None;
}
