use Rattle.std.proofs.Common.{◌+◌, ◌++◌, ◌∷◌, [], ◌∙◌, ap, sym, drop, append_assoc}
use Rattle.std.proofs.lemmas.List.{at_drop_more}
use Rattle.commands.specs.Asides.{put_out, put_out_behind}
use Rattle.commands.proofs.asides.add_put_out.Goals as goal

-- one packet more
pub loop-index-preserved : goal.loop-index-preserved
loop-index-preserved c =
    let behind = put_out_behind c.args.place c.args.node in
    let index = c.loop-index.index in
    let so_far = c.loop-index.asides.items in
    let added = c.put_out.ensures ∙ ap (put_out c.args.place c.args.node (index + 1)) (c.as_slice.ensures ∙ c.index-packets-index.is) in
    ap (λ a. a ++ behind (index + 1) (drop (index + 1) c.args.packets.now)) (c.in_ok-push.ensures.items ∙ ap (λ a. so_far ++ a ∷ []) added)
    ∙ append_assoc so_far _ _ ∙ ap (λ l. so_far ++ l) (sym (at_drop_more (behind index) c.args.packets.now index _ c.loop-index-test.true)) ∙ c.loop-index.invariant
