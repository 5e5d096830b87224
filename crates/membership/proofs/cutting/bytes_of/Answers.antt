use Rattle.std.proofs.Common.{◌≡◌, ◌*◌, ◌-◌, ◌∙◌, length, take, drop, min, ap, arith}
use Rattle.std.proofs.lemmas.List.{take_all, length-drop}
use Rattle.address.specs.declared.limits.TheConstants.{CHUNK}
use Rattle.membership.proofs.Pieces.{front_is}
use Rattle.membership.proofs.cutting.bytes_of.Goals as goal

pub returns-clause-bytes : goal.returns-clause-bytes
returns-clause-bytes c =
    let rest = drop (CHUNK * (c.args.index - 1)) c.args.state.now in
    let whole = take_all (length c.args.state.now - CHUNK * (c.args.index - 1)) rest (omega (arith, length-drop (CHUNK * (c.args.index - 1)) c.args.state.now)) in
    let few : c.min.result ≡ min (length rest) CHUNK = c.min.ensures ∙ ap (λ l. min (length l) CHUNK) whole in
    ap (take c.min.result) whole
    ∙ ap (λ n. take n rest) few
    ∙ front_is CHUNK rest
