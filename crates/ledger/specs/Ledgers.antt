-- The ledger's part of the memory that a call reads and writes.
use Rattle.std.specs.Prelude.{ℕ, List, [], Result, slice_set}
use Rattle.rules.specs.declared.intents.Intent.{Intent}
use Rattle.rules.specs.declared.phases.Phase.TheVariants.{PreOpen}
use Rattle.rules.specs.declared.refusals.Refusal.{Refusal}
use Rattle.rules.specs.declared.slips.Slip.{Slip}
use Rattle.rules.specs.Securities.{none_listed, just_listed}
use Rattle.law.specs.Checks.{checked, list_checks}
use Rattle.law.specs.Memories.{Memory}
use Rattle.law.specs.Outcomes.{unless_refused}
use Rattle.ledger.specs.declared.ledgers.Ledger.{Ledger}

-- a new book's
abbrev pub new_ledger : Ledger
new_ledger = record { phase = PreOpen; day = 1; next = 1; securities = none_listed; count = 0 }

-- with the table and the page that are lent
abbrev pub memory : Ledger → List Intent → List Slip → Memory
memory l table page = record { phase = l.phase; day = l.day; next = l.next; securities = l.securities; count = l.count; table = table; page = page }

abbrev pub ledger_of : Memory → Ledger
ledger_of m = record { phase = m.phase; day = m.day; next = m.next; securities = m.securities; count = m.count }

abbrev pub with_listed : Ledger → ℕ → Ledger
with_listed l s = record l { securities = slice_set l.securities s just_listed }

-- what the call list answers: refused above 63, and where the security is listed already
abbrev pub list_answer : Ledger → ℕ → Result (Unit {0}) Refusal
list_answer l s = checked (list_checks (memory l [] []) s) tt

-- and what it leaves: a refusal changes nothing
abbrev pub list_after : Ledger → ℕ → Ledger
list_after l s = unless_refused (list_checks (memory l [] []) s) (with_listed l s) l
