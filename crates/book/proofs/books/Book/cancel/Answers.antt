use Rattle.std.proofs.Common.{[]}
use Rattle.ledger.specs.Ledgers.{memory}
use Rattle.book.proofs.Cancelling.{cancel_answered}
use Rattle.book.proofs.books.Book.cancel.Goals as goal

pub returns-clause-answer : goal.returns-clause-answer
returns-clause-answer g c = cancel_answered (memory c.args.self.now.ledger c.args.table.now []) c.args.reference.now c.in_ok-place.place c.in_ok-place.ensures.answer
