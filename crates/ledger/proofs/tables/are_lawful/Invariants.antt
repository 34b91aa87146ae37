use Rattle.std.proofs.Common.{◌≡◌, drop}
use Rattle.law.specs.Memories.{lawful_intents}
use Rattle.ledger.proofs.tables.are_lawful.Given as goal

abbrev pub invariant-loop-i : goal.invariant-loop-i
invariant-loop-i l = lawful_intents 0 l.next l.intents ≡ lawful_intents l.last l.next (drop l.i l.intents)
