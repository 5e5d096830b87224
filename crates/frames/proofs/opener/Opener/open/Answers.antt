use Rattle.frames.proofs.opener.Opener.open.Goals as goal

pub returns-in-Several-clause-stands : goal.returns-in-Several-clause-stands
returns-in-Several-clause-stands c = c.open_several.ensures.stands c.args.key.now c.args.frame.now c.in-Some.ensures

pub returns-in-Several-clause-once : goal.returns-in-Several-clause-once
returns-in-Several-clause-once c = c.open_several.ensures.once c.args.key.now c.args.frame.now c.in-Some.ensures

pub returns-in-Packets-clause-stands : goal.returns-in-Packets-clause-stands
returns-in-Packets-clause-stands c = c.open_one.ensures.stands c.args.key.now c.args.frame.now c.in-Some.ensures

pub returns-in-Packets-clause-once : goal.returns-in-Packets-clause-once
returns-in-Packets-clause-once c = c.open_one.ensures.once c.args.key.now c.args.frame.now c.in-Some.ensures
