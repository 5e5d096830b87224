use Rattle.std.proofs.Common.{◌++◌, ◌∷◌, [], ◌∙◌, ap, append_assoc}
use Rattle.std.specs.Fmt.{decimal}
use Rattle.wire.specs.Packets.{packet_of}
use Rattle.vsync_text.specs.TraceText.{field, hex_of}
use Rattle.vsync_text.specs.PacketText.{packet_fields}
use Rattle.vsync_text.proofs.KeepFront.{goes_on, three_texts}
use Rattle.vsync_text.proofs.packet_lines.put_packet.Goals as goal

pub returns-clause-text : goal.returns-clause-text
returns-clause-text c =
    three_texts _ _ _ _ _ _ _ c.in_ok-kind.ensures.text c.in_ok-put_hex_behind.ensures.text c.in_ok-put.ensures.text
    ∙ ap (λ x. c.args.out.now.items ++ (x ++ 10 ∷ [])) (append_assoc (decimal c.args.number) (packet_fields (packet_of c.args.bytes.now)) (field (hex_of c.args.bytes.now)))

pub returns-clause-kind : goal.returns-clause-kind
returns-clause-kind c = c.in_ok-kind.ensures.kind

pub returns-clause-kept : goal.returns-clause-kept
returns-clause-kept c = goes_on _ _ _ c.in_ok-kind.ensures.kept (goes_on _ _ _ c.in_ok-put_hex_behind.ensures.kept c.in_ok-put.ensures.kept)

pub returns-in_err-put_hex_behind-clause-kept : goal.returns-in_err-put_hex_behind-clause-kept
returns-in_err-put_hex_behind-clause-kept c = goes_on _ _ _ c.in_ok-kind.ensures.kept c.put_hex_behind.ensures.kept

pub returns-in_err-put-clause-kept : goal.returns-in_err-put-clause-kept
returns-in_err-put-clause-kept c = goes_on _ _ _ c.in_ok-kind.ensures.kept (goes_on _ _ _ c.in_ok-put_hex_behind.ensures.kept c.put.ensures.kept)
