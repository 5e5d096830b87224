-- What is counted of a node that runs by itself.
use Rattle.std.specs.Prelude.{false, None}
use Rattle.udp_runs.specs.declared.manner.Tally.{Tally}

-- nothing happened yet, and nothing stopped it
abbrev pub nothing_happened : Tally
nothing_happened =
    record {
      sent = 0;
      delivered = 0;
      installed = 0;
      garbled = 0;
      foreign = 0;
      unsent = 0;
      unreceived = 0;
      has_ended = false;
      trouble = None;
      gives_up = false;
      rounds = 0;
      is_unsaid = false;
      strange = 0;
      sieved = 0;
    }
