use Rattle.std.proofs.Common.{◌≡◌, ◌+◌, ◌-◌, ◌*◌, ◌++◌, ◌∙◌, ap, arith, drop, length, refl, rules, subst, take, ℕ, List}
use Rattle.std.proofs.lemmas.Result.{on_ok_weaker}
use Rattle.udp_net.specs.Logs.{Lists, offering}
use Rattle.frames.specs.declared.head.Kind.TheVariants.{Piece}
use Rattle.frames.specs.declared.outlet.Seal.{Seal}
use Rattle.frames.specs.Carried.{count_of, piece_at}
use Rattle.frames.specs.Frames.{head_bytes, sealed}
use Rattle.frames.specs.Outlets.{OutletModel, head_for}
use Rattle.frames.specs.Partials.{PieceModel, piece_bytes}
use Rattle.frames.specs.Sendings.{IsFrameOf}
use Rattle.frames.proofs.Ends.{behind-head, index-within, length-piece, longer, on-err}
use Rattle.frames.proofs.AllPieces.{no-pieces, pieces-on}
use Rattle.frames.proofs.Logs.{grows-none, grows-on, up}
use Rattle.frames.proofs.SendsCarried.{adds-none, adds-on, piece-adds}
use Rattle.frames.specs.declared.head.Head.{Head}
use Rattle.frames.proofs.ReadAsPut.{length-head}
use Rattle.frames.proofs.outlet.Outlet.+send_pieces.Goals as goal

-- the body of the frame of a piece
body-is : (o : OutletModel) (s : Seal) (number index count : ℕ) (bytes packet body : List ℕ)
    → body ≡ head_bytes (head_for Piece o s) ++ piece_bytes (record { number = number; index = index; count = count; bytes = bytes })
    → bytes ≡ take 1344 (drop (1344 * index) packet) → count ≡ count_of packet → body ≡ head_bytes (head_for Piece o s) ++ piece_bytes (piece_at number index packet)
body-is o s number index count bytes packet body e f g = rw (e, f, g) refl

pub returns-clause-sends : goal.returns-clause-sends
returns-clause-sends g t c = λ long sent of same.
    let body = body-is c.args.self.now c.args.seal.now c.args.number c.args.index c.args.count _ c.args.packet.now c.put_piece.new.out.items
    (behind-head c.head.result (head_for Piece c.args.self.now c.args.seal.now) c.in_ok-body.body.items c.put_head.new.out.items _ c.put_piece.new.out.items
    c.in_ok-body.ensures.items c.put_head.ensures.items c.head.ensures c.put_piece.ensures.items) c.piece_at-bytes.ensures.piece c.requires.count in
    let first =
    piece-adds c.args.seal.now long sent c.args.self.now (g.N.Net.log c.args.net.now) (g.N.Net.log c.offer.new.net) c.put_piece.new.out.items c.args.packet.now c.args.number c.args.index body
    (omega (arith, c.number-node.ensures.value, c.number-node.type_inv, ap (λ (x : OutletModel). x.node) c.self.view_is)) c.ranges.number.fits c.ranges.index.fits
    (omega (arith, c.requires.count, c.ranges.count.fits)) same of c.offer.ensures.lists in
    adds-on (IsFrameOf c.args.seal.now long sent) (g.N.Net.log c.args.net.now) (g.N.Net.log c.offer.new.net) (g.N.Net.log c.send_pieces.new.net) first
    (c.send_pieces.ensures.sends long sent of (ap (λ (n : ℕ). long n c.args.number) c.offer.ensures.node ∙ same))

pub returns-clause-pieces : goal.returns-clause-pieces
returns-clause-pieces g t c =
    let body = body-is c.args.self.now c.args.seal.now c.args.number c.args.index c.args.count _ c.args.packet.now c.put_piece.new.out.items
    (behind-head c.head.result (head_for Piece c.args.self.now c.args.seal.now) c.in_ok-body.body.items c.put_head.new.out.items _ c.put_piece.new.out.items
    c.in_ok-body.ensures.items c.put_head.ensures.items c.head.ensures c.put_piece.ensures.items) c.piece_at-bytes.ensures.piece c.requires.count in
    let first =
    subst (λ (b : List ℕ). Lists (g.N.Net.log c.args.net.now) (offering c.args.self.now.node (sealed c.args.seal.now.key b)) (g.N.Net.log c.offer.new.net)) body c.offer.ensures.lists in
    on_ok_weaker c.send_pieces.result
    (λ rest.
    pieces-on c.args.seal.now c.args.self.now.node c.args.self.now.frames c.args.number c.args.index (c.args.count - c.args.index) c.args.packet.now (g.N.Net.log c.args.net.now) (g.N.Net.log c.offer.new.net)
    (g.N.Net.log c.send_pieces.new.net) c.offer.new.self.node c.offer.new.self.frames (c.args.index + 1) (c.args.count - (c.args.index + 1)) rest first c.offer.ensures.node c.offer.ensures.frames (omega arith)
    (omega (arith, c.if-index-count.false)))
    c.send_pieces.ensures.pieces

pub returns-clause-grows : goal.returns-clause-grows
returns-clause-grows g t c =
    grows-on (g.N.Net.log c.args.net.now) (g.N.Net.log c.offer.new.net) (g.N.Net.log c.send_pieces.new.net)
    c.offer.ensures.grows c.send_pieces.ensures.grows

pub returns-then-index-count-clause-pieces : goal.returns-then-index-count-clause-pieces
returns-then-index-count-clause-pieces g t c =
    no-pieces c.args.seal.now c.args.self.now.node c.args.self.now.frames c.args.number c.args.index (c.args.count - c.args.index) c.args.packet.now
    (g.N.Net.log c.args.net.now) (omega (arith, c.if-index-count.true))

pub returns-then-index-count-clause-grows : goal.returns-then-index-count-clause-grows
returns-then-index-count-clause-grows g t c = grows-none (g.N.Net.log c.args.net.now)

pub returns-clause-failed : goal.returns-clause-failed
returns-clause-failed g t c = c.send_pieces.ensures.failed ∙ c.offer.ensures.failed

pub returns-clause-unsent : goal.returns-clause-unsent
returns-clause-unsent g t c = up _ _ _ _ c.offer.ensures.unsent refl c.send_pieces.ensures.unsent

pub returns-clause-node : goal.returns-clause-node
returns-clause-node g t c = c.send_pieces.ensures.node ∙ c.offer.ensures.node

pub returns-clause-waiting : goal.returns-clause-waiting
returns-clause-waiting g t c = c.send_pieces.ensures.waiting ∙ c.offer.ensures.waiting

pub returns-clause-longs : goal.returns-clause-longs
returns-clause-longs g t c = c.send_pieces.ensures.longs ∙ c.offer.ensures.longs

pub returns-then-index-count-clause-sends : goal.returns-then-index-count-clause-sends
returns-then-index-count-clause-sends g t c = λ long sent of same. adds-none (IsFrameOf c.args.seal.now long sent) (g.N.Net.log c.args.net.now)

pub returns-in_err-body-clause-pieces : goal.returns-in_err-body-clause-pieces
returns-in_err-body-clause-pieces g t c = on-err _ c.from_residual.result c.from_residual.ensures.0

pub returns-in_err-body-clause-grows : goal.returns-in_err-body-clause-grows
returns-in_err-body-clause-grows g t c = grows-none (g.N.Net.log c.args.net.now)

pub returns-in_err-body-clause-sends : goal.returns-in_err-body-clause-sends
returns-in_err-body-clause-sends g t c = λ long sent of same. adds-none (IsFrameOf c.args.seal.now long sent) (g.N.Net.log c.args.net.now)

pub piece_at-bytes-requires : goal.piece_at-bytes-requires
piece_at-bytes-requires g t c = index-within _ _ _ c.if-index-count.false c.requires.count

pub put_head-requires : goal.put_head-requires
put_head-requires g t c = omega (arith, c.in_ok-body.ensures.len, c.in_ok-body.ensures.capacity)

pub put_piece-requires : goal.put_piece-requires
put_piece-requires g t c =
    let boot : length c.args.seal.now.boot ≡ 16 = search rules in
    let front : length c.put_head.new.out.items ≡ 28 =
    longer c.in_ok-body.body.items (head_bytes c.head.result) c.put_head.new.out.items 0 28 c.put_head.ensures.items (ap length c.in_ok-body.ensures.items)
    (ap (λ (h : Head). length (head_bytes h)) c.head.ensures ∙ length-head (head_for Piece c.args.self.now c.args.seal.now) boot) in
    omega (arith, c.put_head.new.out.ok.0, front, c.put_head.ensures.room, c.in_ok-body.ensures.capacity, c.piece_at-bytes.ensures.short)

pub offer-requires : goal.offer-requires
offer-requires g t c =
    let boot : length c.args.seal.now.boot ≡ 16 = search rules in
    let front : length c.put_head.new.out.items ≡ 28 =
    longer c.in_ok-body.body.items (head_bytes c.head.result) c.put_head.new.out.items 0 28 c.put_head.ensures.items (ap length c.in_ok-body.ensures.items)
    (ap (λ (h : Head). length (head_bytes h)) c.head.ensures ∙ length-head (head_for Piece c.args.self.now c.args.seal.now) boot) in
    let piece : PieceModel = record { number = c.args.number; index = c.args.index; count = c.args.count; bytes = c.piece_at-bytes.result.now } in
    let both = longer c.put_head.new.out.items (piece_bytes piece) c.put_piece.new.out.items 28 (12 + length c.piece_at-bytes.result.now) c.put_piece.ensures.items front (length-piece piece) in
    omega (arith, c.put_piece.new.out.ok.0, both, c.put_piece.ensures.room, c.put_head.ensures.room, c.in_ok-body.ensures.capacity, c.piece_at-bytes.ensures.short)
