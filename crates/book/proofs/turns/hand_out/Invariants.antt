use Rattle.book.specs.InPlace.{turn_of}
use Rattle.book.proofs.Turning.{Underway}
use Rattle.book.proofs.turns.hand_out.Given as goal

abbrev pub invariant-loop-left : goal.invariant-loop-left
invariant-loop-left g l =
    Underway (g.P.Priority.ahead l.priority l.seeker.incoming.subscriber) l.seeker.quote l.seeker.price l.mark l.seeker.incoming l.initial.intents l.initial.page l.seeker.incoming.volume
    (turn_of (g.P.Priority.ahead l.priority l.seeker.incoming.subscriber) l.seeker.quote l.seeker.price l.mark l.seeker.incoming l.seeker.incoming.volume l.initial.intents)
    l.left l.intents l.page l.slips

abbrev pub decreases-loop-left : goal.decreases-loop-left
decreases-loop-left g l = l.left
