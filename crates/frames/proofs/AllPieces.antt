-- All pieces of a long packet go, one after another.
use Rattle.std.proofs.Common.{◌≡◌, ◌<◌, ◌+◌, ℕ, suc, List, Option}
use Rattle.std.specs.Prelude.{min}
use Rattle.udp_net.specs.Logs.{Log, Lists, offering}
use Rattle.frames.specs.declared.outlet.Seal.{Seal}
use Rattle.frames.specs.Carried.{count_of, offering_long, offering_pieces, piece_at, piece_frame}
use Rattle.frames.specs.Longs.{number_for}
use Rattle.frames.specs.Outlets.{OutletModel, counter_behind, flushing}
use Rattle.frames.proofs.Logs.{lists-none, lists-on}

-- no piece is left
pub no-pieces : (s : Seal) (node counter number index left : ℕ) (packet : List ℕ) (log : Option Log) → left ≡ 0
    → Lists log (offering_pieces s node counter number index left packet) log
no-pieces s node counter number index left packet log e = rw e (lists-none log)

-- one, and then the others
pub pieces-on : (s : Seal) (node counter number index left : ℕ) (packet : List ℕ) (one two three : Option Log) (m c k n : ℕ)
    → Lists two (offering_pieces s m c number k n packet) three → Lists one (offering node (piece_frame s node counter (piece_at number index packet))) two
    → m ≡ node → c ≡ min (counter + 1) 18446744073709551615 → k ≡ suc index → left ≡ suc n → Lists one (offering_pieces s node counter number index left packet) three
pieces-on s node counter number index left packet one two three m c k n rest first e f g h =
    let next : ℕ = min (counter + 1) 18446744073709551615 in
    rw h
    (lists-on one two three (offering node (piece_frame s node counter (piece_at number index packet))) (offering_pieces s node next number (suc index) n packet) first (rw (e, f, g) at rest))

pub all-pieces : (s : Seal) (node counter n number m : ℕ) (packet : List ℕ) (one two : Option Log) → Lists one (offering_pieces s node counter n 0 m packet) two → n ≡ number → m ≡ count_of packet
    → Lists one (offering_long s node counter number packet) two
all-pieces s node counter n number m packet one two pieces e f = rw (e, f) at pieces

-- behind those that waited
pub long-behind : (s : Seal) (packet : List ℕ) (o m : OutletModel) (next : ℕ) (one two three : Option Log) → m.node ≡ o.node → m.frames ≡ counter_behind o → m.longs ≡ o.longs
    → (number_for packet m.longs < next → Lists two (offering_long s m.node m.frames (number_for packet m.longs) packet) three) → Lists one (flushing s o) two
    → number_for packet o.longs < next
    → Lists one (λ l. offering_long s o.node (counter_behind o) (number_for packet o.longs) packet (flushing s o l)) three
long-behind s packet o m next one two three e f g pieces flushed lt =
    let others = pieces (rw g lt) in
    lists-on one two three (flushing s o) (offering_long s o.node (counter_behind o) (number_for packet o.longs) packet) flushed (rw (e, f, g) at others)
