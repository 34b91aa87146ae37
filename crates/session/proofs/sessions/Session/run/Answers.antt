use Rattle.std.proofs.Common.{string_bytes, ap, ◌∙◌}
use Rattle.session.specs.Calls.{with_ledger}
use Rattle.text.specs.Readings.{reading}
use Rattle.session.proofs.Closings.{finished}
use Rattle.session.proofs.sessions.Session.run.Goals as goal

pub returns : goal.returns
returns c =
    let f = finished
    (reading c.args.script.now)
    c.args.self.book.ledger
    (string_bytes c.new-listing.result)
    c.play-ended.new.self.book.ledger
    (string_bytes c.play-ended.new.listing)
    (string_bytes c.close.new.listing)
    c.play-ended.result
    c.new-listing.ensures.bytes
    c.play-ended.ensures.played
    c.in_ok-close.ensures
    in
    record { listing = f.printed; session = c.play-ended.ensures.stays ∙ ap (with_ledger c.args.self) f.stands }
