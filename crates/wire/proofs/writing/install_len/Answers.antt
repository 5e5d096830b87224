use Rattle.std.proofs.Common.{List, length, ap, arith}
use Rattle.std.specs.List.{flat_map}
use Rattle.wire_values.specs.Values.{Entry}
use Rattle.wire_values.specs.declared.values.state.GivenState.{GivenState}
use Rattle.view.specs.Members.{View}
use Rattle.wire_values.specs.Fields.{entry_bytes}
use Rattle.wire_values.specs.Lists.{view_bytes, state_bytes}
use Rattle.wire.proofs.Sizes.{length-install, length-view}
use Rattle.wire.proofs.writing.install_len.Goals as goal

pub returns-clause-size : goal.returns-clause-size
returns-clause-size c =
    omega (
      arith,
      length-install c.args.install.now,
      length-view c.args.install.now.view,
      c.view_len-view.ensures.size,
      ap (λ (v : View). length (view_bytes v)) c.view.ensures.view,
      c.len-together.ensures.count,
      ap length c.together.ensures,
      ap length c.text.ensures.text,
      ap (λ (l : List Entry). length (flat_map entry_bytes l)) c.items.ensures,
      c.state_len.ensures.size,
      ap (λ (s : GivenState). length (state_bytes s)) c.state.ensures,
    )
