-- The kinds of packets: their numbers, and what a packet says, if it is of one of these.
use Rattle.std.specs.Prelude.{ℕ, Option, Some, None}
use Rattle.address.specs.Ids.{ViewId}
use Rattle.view.specs.Members.{View}
use Rattle.wire_values.specs.Values.{Report, Install}
use Rattle.wire_values.specs.declared.packet.Body.{Body}
use Rattle.wire_values.specs.declared.packet.Body.TheVariants as bodies

-- the number of its kind
abbrev pub kind_of : Body → ℕ
kind_of bodies.Join = 1
kind_of (bodies.Redirect coordinator) = 2
kind_of bodies.Leave = 3
kind_of (bodies.Forward view number payload) = 4
kind_of (bodies.Order view place entry) = 5
kind_of (bodies.Nak view missing) = 6
kind_of (bodies.Ack view delivered) = 7
kind_of (bodies.Status view progress) = 8
kind_of (bodies.Flush proposal) = 9
kind_of (bodies.Behind proposal counter) = 10
kind_of (bodies.Report proposal report) = 11
kind_of (bodies.Install install) = 12
kind_of (bodies.Merge view) = 13
kind_of (bodies.State proposal chunk) = 14

-- the proposal of a FLUSH
abbrev pub flush_said : Body → Option View
flush_said bodies.Join = None
flush_said (bodies.Redirect coordinator) = None
flush_said bodies.Leave = None
flush_said (bodies.Forward view number payload) = None
flush_said (bodies.Order view place entry) = None
flush_said (bodies.Nak view missing) = None
flush_said (bodies.Ack view delivered) = None
flush_said (bodies.Status view progress) = None
flush_said (bodies.Flush proposal) = Some proposal
flush_said (bodies.Behind proposal counter) = None
flush_said (bodies.Report proposal report) = None
flush_said (bodies.Install install) = None
flush_said (bodies.Merge view) = None
flush_said (bodies.State proposal chunk) = None

-- the report of a REPORT, with the proposal that it is for
abbrev pub report_said : Body → Option (ViewId × Report)
report_said bodies.Join = None
report_said (bodies.Redirect coordinator) = None
report_said bodies.Leave = None
report_said (bodies.Forward view number payload) = None
report_said (bodies.Order view place entry) = None
report_said (bodies.Nak view missing) = None
report_said (bodies.Ack view delivered) = None
report_said (bodies.Status view progress) = None
report_said (bodies.Flush proposal) = None
report_said (bodies.Behind proposal counter) = None
report_said (bodies.Report proposal report) = Some (proposal, report)
report_said (bodies.Install install) = None
report_said (bodies.Merge view) = None
report_said (bodies.State proposal chunk) = None

-- the instruction of an INSTALL
abbrev pub install_said : Body → Option Install
install_said bodies.Join = None
install_said (bodies.Redirect coordinator) = None
install_said bodies.Leave = None
install_said (bodies.Forward view number payload) = None
install_said (bodies.Order view place entry) = None
install_said (bodies.Nak view missing) = None
install_said (bodies.Ack view delivered) = None
install_said (bodies.Status view progress) = None
install_said (bodies.Flush proposal) = None
install_said (bodies.Behind proposal counter) = None
install_said (bodies.Report proposal report) = None
install_said (bodies.Install install) = Some install
install_said (bodies.Merge view) = None
install_said (bodies.State proposal chunk) = None
