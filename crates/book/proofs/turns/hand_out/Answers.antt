use Rattle.std.proofs.Common.{arith}
use Rattle.book.proofs.Turning.{underway_spent, underway_none, underway_room, underway_more}
use Rattle.book.proofs.turns.hand_out.Goals as goal

pub bounds-page-slips : goal.bounds-page-slips
bounds-page-slips g c =
    omega (arith, underway_room c.loop-left.invariant (g.met.P.Priority.total c.args.priority.now c.args.seeker.now.incoming.subscriber) c.in-Some.i c.loop-left-test.true c.in-Some.ensures c.min-volume.result c.min-volume.ensures, c.requires.room)

pub loop-left-preserved : goal.loop-left-preserved
loop-left-preserved g c =
    rw c.active_number-active.ensures (underway_more c.loop-left.invariant (g.met.P.Priority.total c.args.priority.now c.args.seeker.now.incoming.subscriber) c.in-Some.i c.loop-left-test.true c.in-Some.ensures c.min-volume.result c.min-volume.ensures)

pub returns-after-loop-left : goal.returns-after-loop-left
returns-after-loop-left g c = underway_spent c.loop-left.invariant c.loop-left-test.false

pub returns-in_default : goal.returns-in_default
returns-in_default g c = underway_none c.loop-left.invariant c.in_default.ensures
