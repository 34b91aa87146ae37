use Rattle.book.proofs.Matching.{lawful_distinct, matched}
use Rattle.book.proofs.books.Book.match_incoming.Goals as goal

pub turn_among-turned-requires-clause-apart : goal.turn_among-turned-requires-clause-apart
turn_among-turned-requires-clause-apart g c = lawful_distinct c.args.self.now.ledger.count c.args.self.now.ledger.next c.args.table.now c.requires.lawful

pub returns-clause-matched : goal.returns-clause-matched
returns-clause-matched g c =
    matched _ _ _ c.requires.lawful c.requires.new _ c.quote_in_force-quote.ensures c.turn_among-turned.new.table _ _ _ _
    c.requires.room c.turn_among-turned.ensures.handed c.turn_among-turned.ensures.beyond c.close_among-self.ensures.count c.close_among-self.ensures.table
