use Rattle.std.proofs.Common.{arith}
use Rattle.chat_log.proofs.HalvesOfChats.{halves}
use Rattle.chat_log.proofs.writing.put_chat.Goals as goal

pub overflow_add-WIDTH : goal.overflow_add-WIDTH
overflow_add-WIDTH g c =
    let h = halves _ _ g.L.ChatSize.fits _ c.as_slices.result.0.now c.as_slices.result.1.now c.requires c.as_slices.ensures.items in
    omega (arith, h.short, c.WIDTH.ensures, c.length_of.ensures)

pub length_of-requires-2-clause-lines : goal.length_of-requires-2-clause-lines
length_of-requires-2-clause-lines g c =
    (halves _ _ g.L.ChatSize.fits _ _ _ c.requires c.as_slices.ensures.items).of_newer

pub overflow_add-WIDTH-2 : goal.overflow_add-WIDTH-2
overflow_add-WIDTH-2 g c =
    let h = halves _ _ g.L.ChatSize.fits _ c.as_slices.result.0.now c.as_slices.result.1.now c.requires c.as_slices.ensures.items in
    omega (arith, h.short, c.WIDTH.ensures, c.length_of.ensures, c.length_of-2.ensures)

pub put_lines-requires-clause-lines : goal.put_lines-requires-clause-lines
put_lines-requires-clause-lines g c =
    (halves _ _ g.L.ChatSize.fits _ _ _ c.requires c.as_slices.ensures.items).of_older

pub put_lines-requires-2-clause-lines : goal.put_lines-requires-2-clause-lines
put_lines-requires-2-clause-lines g c =
    (halves _ _ g.L.ChatSize.fits _ _ _ c.requires c.as_slices.ensures.items).of_newer
