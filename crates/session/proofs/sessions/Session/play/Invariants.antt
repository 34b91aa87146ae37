use Rattle.std.proofs.Common.{◌≡◌, string_bytes}
use Rattle.text.specs.Progress.{to_read, left}
use Rattle.text.specs.Readings.{start}
use Rattle.session.specs.Calls.{with_ledger}
use Rattle.session.proofs.Underway.{Underway}
use Rattle.session.proofs.sessions.Session.play.Given as goal

abbrev pub invariant-loop-call : goal.invariant-loop-call
invariant-loop-call l =
    Underway (to_read l.initial.reader start) l.initial.self.book.ledger (string_bytes l.initial.listing) (to_read l.reader start) l.self.book.ledger (string_bytes l.listing)
    × (l.self ≡ with_ledger l.initial.self l.self.book.ledger)

abbrev pub decreases-loop-call : goal.decreases-loop-call
decreases-loop-call l = left l.reader
