use Rattle.std.proofs.Common.{sym, ◌∙◌, ne_eqb}
use Rattle.std.proofs.lemmas.Bool.{eq-eqb}
use Rattle.udp_net.proofs.TablesOfKeys.{keys-are, tested, untested}
use Rattle.udp_net.proofs.document.only_keys.Goals as goal

pub returns-then-len-count : goal.returns-then-len-count
returns-then-len-count c =
    let k = keys-are c.args.table.now.entries in untested _ _ _ (ne_eqb _ c.args.count (λ e. c.if-len-count.true (c.len.ensures.len ∙ sym k ∙ e)))

pub returns : goal.returns
returns c =
    let k = keys-are c.args.table.now.entries in tested _ _ _ (eq-eqb _ c.args.count (k ∙ sym c.len.ensures.len ∙ c.if-len-count.false))
