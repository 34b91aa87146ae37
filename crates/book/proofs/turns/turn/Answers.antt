use Rattle.book.proofs.Turning.{handed_none}
use Rattle.book.proofs.turns.turn.Goals as goal

pub returns-in-None : goal.returns-in-None
returns-in-None g c = rw c.in-None.is (handed_none _ _ _)
