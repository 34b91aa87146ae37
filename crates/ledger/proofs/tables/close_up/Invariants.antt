use Rattle.std.proofs.lemmas.List.Filters.{FiltersInPlace}
use Rattle.ledger.specs.Places.{live}
use Rattle.ledger.proofs.tables.close_up.Given as goal

abbrev pub invariant-loop-i : goal.invariant-loop-i
invariant-loop-i l = FiltersInPlace live l.initial.table l.table l.left l.i
