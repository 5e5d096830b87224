-- What a frame brings came.
use Rattle.std.proofs.Common.{◌≡◌, ◌≢◌, ℕ, suc, List, [], ◌∷◌, ◌++◌, refl, sym, ◌∙◌, subst, inl, inr, Some}
use Rattle.std.specs.Prelude.{slice_get, Result, Ok, Err, IfOk}
use Rattle.std.specs.List.{AllByRecursion}
use Rattle.udp_net.specs.Logs.{Log}
use Rattle.frames.specs.declared.head.Head.{Head}
use Rattle.frames.specs.declared.head.Kind.{Kind}
use Rattle.frames.specs.declared.head.Kind.TheVariants.{Packets, Piece, Several}
use Rattle.frames.specs.declared.opener.Opener.{Opener}
use Rattle.frames.specs.Frames.{Opens, packed, IsSealed, IsShort}
use Rattle.frames.specs.Parts.{IsPart, part_of}
use Rattle.frames.specs.Taken.{WasTaken}
use Rattle.frames.specs.Partials.{PieceModel, IsPieceIn}
use Rattle.frames.specs.Arrivals.{Arrived, ArrivedInPieces, GivenIn, StandsIn}
use Rattle.frames.specs.Openers.{AllArrived, ComesIn, OpensOnce, peers_for}
use Rattle.frames.proofs.PiecesCome.{all-push}

module _ (l : Log) (key : List ℕ) (node : ℕ) where
  -- the packets of a frame
  each : (frame : List ℕ) (h : Head) (content : List ℕ) (all : List (List ℕ)) → GivenIn l frame → Opens key node frame h content → h.kind ≢ Piece → AllByRecursion IsShort all
      → content ≡ packed all → (some : List (List ℕ)) → ((k : ℕ) (p : List ℕ) → slice_get some k ≡ Some p → StandsIn all p) → AllByRecursion (Arrived (GivenIn l) key node) some
  each frame h content all g o kind short e [] within = tt
  each frame h content all g o kind short e (p ∷ some) within = (
    inl (record { frame = frame; head = h; content = content; packets = all; given = g; opens = o; kind = kind; short = short; packed_is = e; among = within 0 p refl }),
    each frame h content all g o kind short e some (λ k q at. within (suc k) q at),
  )

  pub packets-come : (frame : List ℕ) (h : Head) (content : List ℕ) (packets : List (List ℕ)) → GivenIn l frame → Opens key node frame h content → h.kind ≢ Piece
      → AllByRecursion IsShort packets → packed packets ≡ content → AllArrived l key node packets
  packets-come frame h content packets g o kind short e = each frame h content packets g o kind short (sym e) packets (λ k p at. (k, at))

  -- a piece
  pub piece-comes : (frame : List ℕ) (h : Head) (content boot : List ℕ) (piece : PieceModel) → GivenIn l frame → Opens key node frame h content → h.kind ≡ Piece → h.boot ≡ boot
      → IsPieceIn content piece → ComesIn l key node boot piece
  piece-comes frame h content boot piece g o kind b i = record {
    frame = frame;
    head = h;
    content = content;
    given = g;
    opens = o;
    kind = kind;
    boot_is = b;
    piece = i;
  }

  pub packet-comes : (opened : List (List ℕ)) (packet : List ℕ) → AllArrived l key node opened → ArrivedInPieces (GivenIn l) key node packet → AllArrived l key node (opened ++ packet ∷ [])
  packet-comes opened packet all x = all-push (Arrived (GivenIn l) key node) opened packet all (inr x)

-- ---- a frame that is for a node

pub opens-several : (key : List ℕ) (node : ℕ) (frame : List ℕ) (h : Head) (content part : List ℕ) → h.kind ≡ Several → IsSealed key frame h content → part_of node h.to content ≡ Some part
    → Opens key node frame h part
opens-several key node frame h content part kind sealed is = record {
  content = content;
  sealed_is = sealed;
  part_is = subst (λ (k : Kind). IsPart k node h.to content part) (sym kind) is;
}

one-part : (k : Kind) (node to : ℕ) (content : List ℕ) → k ≢ Several → to ≡ node → IsPart k node to content content
one-part Packets node to content other e = (refl, e)
one-part Piece node to content other e = (refl, e)
one-part Several node to content other e = absurd (other refl)

pub opens-one : (key : List ℕ) (node : ℕ) (frame : List ℕ) (h : Head) (content : List ℕ) → h.kind ≢ Several → IsSealed key frame h content → h.to ≡ node → Opens key node frame h content
opens-one key node frame h content kind sealed to = record { content = content; sealed_is = sealed; part_is = one-part h.kind node h.to content kind to }

pub several-no-piece : (k : Kind) → k ≡ Several → k ≢ Piece
several-no-piece k e f = let bad : Several ≡ Piece = sym e ∙ f in cc

pub packets-no-piece : (k : Kind) → k ≡ Packets → k ≢ Piece
packets-no-piece k e f = let bad : Packets ≡ Piece = sym e ∙ f in cc

pub once-several : (key frame : List ℕ) (old new : Opener) (h : Head) (part : List ℕ) → h.kind ≡ Several → Opens key old.node frame h part
    → (WasTaken h.boot h.counter old.several.peers.items → ⊥) → WasTaken h.boot h.counter new.several.peers.items → OpensOnce key frame old new
once-several key frame old new h part kind opens fresh taken = record {
  head = h;
  part = part;
  opens = opens;
  fresh = λ was. fresh (subst (λ (k : Kind). WasTaken h.boot h.counter (peers_for k old)) kind was);
  taken = subst (λ (k : Kind). WasTaken h.boot h.counter (peers_for k new)) (sym kind) taken;
}

one-peers : (k : Kind) (o : Opener) → k ≢ Several → peers_for k o ≡ o.peers.peers.items
one-peers Packets o other = refl
one-peers Piece o other = refl
one-peers Several o other = absurd (other refl)

pub once-one : (key frame : List ℕ) (old new : Opener) (h : Head) (part : List ℕ) → h.kind ≢ Several → Opens key old.node frame h part
    → (WasTaken h.boot h.counter old.peers.peers.items → ⊥) → WasTaken h.boot h.counter new.peers.peers.items → OpensOnce key frame old new
once-one key frame old new h part kind opens fresh taken = record {
  head = h;
  part = part;
  opens = opens;
  fresh = λ was. fresh (subst (WasTaken h.boot h.counter) (one-peers h.kind old kind) was);
  taken = subst (WasTaken h.boot h.counter) (sym (one-peers h.kind new kind)) taken;
}

-- what holds of each answer
pub if-ok : {A E : Type 0} (r : Result A E) (Holds : A → Type 0) → ((x : A) → Holds x) → IfOk r Holds
if-ok (Ok x) Holds each = each x
if-ok (Err e) Holds each = tt
