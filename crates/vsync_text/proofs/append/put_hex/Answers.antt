use Rattle.std.proofs.Common.{◌/◌, ◌++◌, ◌∷◌, [], ◌∙◌, ap, sym, get_or, append_assoc, append-nil, refl, rules}
use Rattle.std.proofs.lemmas.List.{take_all}
use Rattle.vsync_text.specs.TraceText.{hex_digit, hex_of, hex_of_byte}
use Rattle.vsync_text.proofs.KeepFront.{puts_next, at_once, same}
use Rattle.vsync_text.proofs.append.put_hex.Goals as goal

-- two digits more
pub loop-byte-preserved : goal.loop-byte-preserved
loop-byte-preserved c =
    let before = c.loop-byte.out.items in
    let byte = get_or c.args.bytes.now c.loop-byte.byte-index 0 in
    let low = c.hex_digit-in-loop-byte.result in
    let both = c.push_reserved-in-loop-byte.ensures.items ∙ ap (λ xs. xs ++ low ∷ []) c.push_reserved.ensures.items ∙ append_assoc before _ _
    ∙ ap (λ high. before ++ high ∷ low ∷ []) c.hex_digit.ensures ∙ ap (λ digit. before ++ hex_digit (byte / 16) ∷ digit ∷ []) c.hex_digit-in-loop-byte.ensures in
    (puts_next hex_of_byte _ _ _ c.args.bytes.now c.loop-byte.byte-index byte 0 refl c.loop-byte-test.true c.loop-byte.invariant.0 both (at_once _ _ _ both), search rules)

pub loop-byte-init : goal.loop-byte-init
loop-byte-init c =
    let all = c.in_ok-reserve.ensures.items in
    ((all ∙ sym (append-nil c.args.out.now.items), same _ _ all), search rules)

pub returns : goal.returns
returns c =
    let so_far = c.loop-byte.invariant.0 in
    record { text = so_far.0 ∙ ap (λ bytes. c.args.out.now.items ++ hex_of bytes) (take_all c.loop-byte.byte-index c.args.bytes.now c.loop-byte-test.false); kept = so_far.1 }
