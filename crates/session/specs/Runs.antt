-- The run of a script from a ledger on: what it prints, and the ledger after it.
use Rattle.std.specs.Prelude.{ℕ, List, [], ◌++◌}
use Rattle.ledger.specs.declared.ledgers.Ledger.{Ledger}
use Rattle.text.specs.Listings.{outcome_text, fault_text}
use Rattle.text.specs.Readings.{Reading, end, fault, call}
use Rattle.session.specs.Calls.{call_answer, call_after}

-- the outcomes of the calls in order, then the fault, if there is one
abbrev pub listing_text : Ledger → Reading → List ℕ
listing_text ledger end = []
listing_text ledger (fault f) = fault_text f
listing_text ledger (call c rest) = outcome_text c (call_answer ledger c) ++ listing_text (call_after ledger c) rest

-- a fault leaves what the calls before it left
abbrev pub after_run : Ledger → Reading → Ledger
after_run ledger end = ledger
after_run ledger (fault f) = ledger
after_run ledger (call c rest) = after_run (call_after ledger c) rest
