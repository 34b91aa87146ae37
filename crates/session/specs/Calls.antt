-- What a call on a session answers, and the ledger after it.
use Rattle.std.specs.Prelude.{Ok, Err, Result}
use Rattle.rules.specs.declared.calls.Answer.{Answer}
use Rattle.rules.specs.declared.calls.Answer.TheVariants.{Listed}
use Rattle.rules.specs.declared.calls.Call.{Call}
use Rattle.rules.specs.declared.calls.Call.TheVariants.{List as list_call}
use Rattle.rules.specs.declared.refusals.Refusal.{Refusal}
use Rattle.ledger.specs.declared.ledgers.Ledger.{Ledger}
use Rattle.ledger.specs.Ledgers.{list_answer, list_after}
use Rattle.session.specs.declared.sessions.Session.{Session}

-- the book's refusal passes unchanged
abbrev pub listed_answer : Result (Unit {0}) Refusal → Result Answer Refusal
listed_answer (Ok u) = Ok Listed
listed_answer (Err refusal) = Err refusal

abbrev pub call_answer : Ledger → Call → Result Answer Refusal
call_answer l (list_call s) = listed_answer (list_answer l s)

abbrev pub call_after : Ledger → Call → Ledger
call_after l (list_call s) = list_after l s

-- the rules, the table and the page stay
abbrev pub with_ledger : Session → Ledger → Session
with_ledger s l = record s { book = record s.book { ledger = l } }
