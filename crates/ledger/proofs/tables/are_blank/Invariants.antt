use Rattle.std.proofs.Common.{◌≡◌, drop}
use Rattle.std.specs.List.{list_all}
use Rattle.rules.specs.Intents.{is_blank}
use Rattle.ledger.proofs.tables.are_blank.Given as goal

abbrev pub invariant-loop-i : goal.invariant-loop-i
invariant-loop-i l = list_all is_blank l.places ≡ list_all is_blank (drop l.i l.places)
