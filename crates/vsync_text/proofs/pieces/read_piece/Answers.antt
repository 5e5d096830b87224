use Rattle.vsync_text.proofs.PiecesRead.{unread_there}
use Rattle.vsync_text.proofs.pieces.read_piece.Goals as goal

pub returns-in-Err : goal.returns-in-Err
returns-in-Err c = unread_there _ _ _ _ _ c.as_slice.ensures.value c.in-Err.ensures
