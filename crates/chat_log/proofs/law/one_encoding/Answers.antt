use Rattle.std.proofs.Common.{◌∙◌, sym, ap}
use Rattle.chat_log.specs.Encoding.{chat_decode}
use Rattle.chat_log.specs.ChatLaws.{decoded_is_chat, decoded_is_encoded, encoded_is_decoded, encoded_few}
use Rattle.chat_log.proofs.law.one_encoding.Goals as goal

pub returns-clause-exact : goal.returns-clause-exact
returns-clause-exact g c =
    let size = g.L.ChatSize in
    λ bytes s. (
      λ e. (decoded_is_chat size.LINES size.WIDTH size.fits bytes s e, decoded_is_encoded size.LINES size.WIDTH size.fits bytes s e),
      λ p. ap (chat_decode size.LINES size.WIDTH) (sym p.1) ∙ encoded_is_decoded size.LINES size.WIDTH size.fits s p.0,
    )

pub returns-clause-short : goal.returns-clause-short
returns-clause-short g c = encoded_few g.L.ChatSize.LINES g.L.ChatSize.WIDTH
