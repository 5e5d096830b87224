use Rattle.std.proofs.Common.{◌∙◌, ◌++◌, [], sym, ap, length}
use Rattle.std.specs.List.{cons_option}
use Rattle.world_model.specs.Histories.{target_of}
use Rattle.std.proofs.lemmas.Result.{on_ok_weaker}
use Rattle.commands.specs.Asides.{site_of, handed_over, refused_between, put_out_between, asides_between}
use Rattle.commands.proofs.AsidesGrow.{added-all, put-out-same}
use Rattle.commands.proofs.asides.play_event.Goals as goal

-- what was handed over, refused and put out
pub returns-clause-asides : goal.returns-clause-asides
returns-clause-asides g c = on_ok_weaker c.add_put_out_at.result
    (λ put_out. added-all _ _ _ _ (handed_over (target_of c.args.event.now) c.args.world.now.history) (refused_between c.args.line c.args.event.now c.args.world.now.history c.play_alone-2.new.world.history)
    (put_out_between c.args.event.now c.args.world.now.history c.play_alone-2.new.world.history)
    (c.in_ok-add.ensures ∙ ap (λ o. c.args.asides.now.items ++ cons_option o []) (c.handed_over.ensures (c.as_ref.ensures.value ∙ c.site_of-site.ensures ∙ ap (λ t. site_of t c.args.world.now.history.pool) (c.target.ensures ∙ sym c.target-2.ensures))
    ∙ ap (λ t. handed_over t c.args.world.now.history) c.target-2.ensures))
    c.in_ok-play_alone.ensures.asides
    (put_out ∙ ap (λ zs. c.play_alone-2.new.asides.items ++ zs)
    (put-out-same _ _ _ _ _ _ _ _ (ap length (c.events.ensures.value ∙ c.trace.ensures)) (c.site_of-site.ensures ∙ ap (λ t. site_of t c.args.world.now.history.pool) c.target.ensures) (ap length c.packets-past.ensures)
    c.packets.ensures))
    ∙ ap (λ packets. c.args.asides.now.items ++ asides_between packets c.args.line c.args.event.now c.args.world.now.history c.play_alone-2.new.world.history) (sym c.if-not-packets.false))
    c.add_put_out_at.ensures
