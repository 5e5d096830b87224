use Rattle.std.proofs.Common.{◌∙◌, sym, ap}
use Rattle.lock_table.specs.Encoding.{table_decode}
use Rattle.lock_table.specs.TableLaws.{decoded_is_table, decoded_is_encoded, encoded_is_decoded, encoded_short}
use Rattle.lock_table.proofs.law.one_encoding.Goals as goal

pub returns-clause-exact : goal.returns-clause-exact
returns-clause-exact c = λ bytes s. (λ e. (decoded_is_table bytes s e, decoded_is_encoded bytes s e), λ p. ap table_decode (sym p.1) ∙ encoded_is_decoded s p.0)

pub returns-clause-short : goal.returns-clause-short
returns-clause-short c = encoded_short
