use Rattle.std.proofs.Common.{arith}
use Rattle.std.proofs.lemmas.List.{get_or_default}
use Rattle.std.proofs.lemmas.Bool.{lt-ltb, le-ltb}
use Rattle.std.proofs.lemmas.List.Filters.{FiltersInPlace-more_no, FiltersInPlace-more_set}
use Rattle.rules.specs.Blanks.{blank_intent}
use Rattle.ledger.specs.Places.{at}
use Rattle.ledger.proofs.tables.close_up.Goals as goal
use Rattle.ledger.proofs.tables.close_up.Goals.{then-table-i-gt0, else-table-i-gt0}

pub loop-i-preserved : goal.loop-i-preserved
loop-i-preserved c =
    let x = at c.loop-i.table c.loop-i.i in
    let read = get_or_default c.loop-i.table c.loop-i.i blank_intent x (omega arith) in
    elim c.if-table-i-gt0.branch [
      | then-table-i-gt0 w ↦ rw (w.table-is, w.left-is) (FiltersInPlace-more_set {x = x} c.loop-i.invariant (omega arith) (lt-ltb 0 x.remaining w.if-table-i-gt0.true) read)
      | else-table-i-gt0 w ↦ rw (w.table-is, w.left-is) (FiltersInPlace-more_no {x = x} c.loop-i.invariant (omega arith) (le-ltb 0 x.remaining w.if-table-i-gt0.false) read)
    ]
