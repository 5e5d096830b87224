-- What is known of long packets of which some pieces came, and of what was opened.
use Rattle.std.specs.Prelude.{◌≡◌, ℕ, List, length}
use Rattle.std.specs.List.{AllByRecursion}
use Rattle.udp_net.specs.Logs.{Log}
use Rattle.frames.specs.declared.opener.Opener.{Opener}
use Rattle.frames.specs.declared.partial.Partial.{Partial}
use Rattle.frames.specs.declared.head.Head.{Head}
use Rattle.frames.specs.declared.head.Kind.{Kind}
use Rattle.frames.specs.declared.head.Kind.TheVariants.{Packets, Piece, Several}
use Rattle.frames.specs.declared.peers.Peer.{Peer}
use Rattle.frames.specs.Frames.{Opens}
use Rattle.frames.specs.Taken.{WasTaken}
use Rattle.frames.specs.Arrivals.{Arrived, ArrivedPiece, GivenIn, PiecesCame}
use Rattle.frames.specs.Partials.{PieceModel}

-- each piece of a packet that is there came, by a net's list
abbrev pub IsPartOf : Log → List ℕ → ℕ → Partial → Type 0
IsPartOf l key node p = PiecesCame (GivenIn l) key node p.boot p.number (length p.pieces.items) 0 p.pieces.items

abbrev pub AreParts : Log → List ℕ → ℕ → List Partial → Type 0
AreParts l key node partials = AllByRecursion (IsPartOf l key node) partials

-- a piece came from a start
abbrev pub ComesIn : Log → List ℕ → ℕ → List ℕ → PieceModel → Type 0
ComesIn l key node boot piece = ArrivedPiece (GivenIn l) key node boot piece.number piece.count piece.index piece.bytes

-- a piece of a start is one of this packet
pub record IsPartialOf (boot : List ℕ) (piece : PieceModel) (p : Partial) : Type 0 where
  pub boot_is : p.boot ≡ boot
  pub number : p.number ≡ piece.number
  pub count : length p.pieces.items ≡ piece.count

-- each packet that was opened came
abbrev pub AllArrived : Log → List ℕ → ℕ → List (List ℕ) → Type 0
AllArrived l key node opened = AllByRecursion (Arrived (GivenIn l) key node) opened

-- all that is kept came, by a net's list
abbrev pub Stands : Log → List ℕ → Opener → Type 0
Stands l key o = AreParts l key o.node o.partials × AllArrived l key o.node o.opened

-- a frame was opened: by a list in which it came all that is kept came, if it did before
abbrev pub OpensTo : List ℕ → List ℕ → Opener → Opener → Type 0
OpensTo key frame old new = (l : Log) → GivenIn l frame → Stands l key old → Stands l key new

-- the senders whose counters count for a frame of some kind: those for several nodes have counters of their own
abbrev pub peers_for : Kind → Opener → List Peer
peers_for Packets o = o.peers.peers.items
peers_for Piece o = o.peers.peers.items
peers_for Several o = o.several.peers.items

-- a frame is opened whose counter was not taken before of its boot id, and is taken then
pub record OpensOnce (key frame : List ℕ) (old new : Opener) : Type 0 where
  pub head : Head
  pub part : List ℕ
  pub opens : Opens key old.node frame head part
  pub fresh : WasTaken head.boot head.counter (peers_for head.kind old) → ⊥
  pub taken : WasTaken head.boot head.counter (peers_for head.kind new)
