-- The end of a listing.
use Rattle.std.proofs.Common.{◌≡◌, ℕ, List, [], ◌++◌, Ok, Err, Result, sym, refl, ap, ◌∙◌, append_assoc, append-nil}
use Rattle.ledger.specs.declared.ledgers.Ledger.{Ledger}
use Rattle.text.specs.Listings.{outcome_text, fault_text}
use Rattle.text.specs.Readings.{Reading, end, fault, call}
use Rattle.session.specs.declared.faults.Fault.{Fault}
use Rattle.session.specs.declared.faults.Fault.TheVariants.{Script, Memory}
use Rattle.session.specs.Calls.{call_answer, call_after}
use Rattle.session.specs.Plays.{outcomes, ending, Played, UnlessMemory, Closed}
use Rattle.session.specs.Runs.{listing_text, after_run}

abbrev closing : Result (Unit {0}) Fault → List ℕ
closing (Ok u) = []
closing (Err (Script f)) = fault_text f
closing (Err (Memory error)) = []

whole : (ledger : Ledger) (reading : Reading) → outcomes ledger reading ++ closing (ending reading) ≡ listing_text ledger reading
whole ledger end = refl
whole ledger (fault f) = refl
whole ledger (call c rest) =
    append_assoc (outcome_text c (call_answer ledger c)) (outcomes (call_after ledger c) rest) (closing (ending rest))
    ∙ ap (λ (t : List ℕ). outcome_text c (call_answer ledger c) ++ t) (whole (call_after ledger c) rest)

closed : (reading : Reading) (before : Ledger) (text : List ℕ) (after : Ledger) (text_after : List ℕ) (r : Result (Unit {0}) Fault) →
    text ≡ [] → Played reading before text after text_after r → text_after ++ closing r ≡ listing_text before reading
closed reading before text after text_after r empty p = rw (p.printed, p.ended, empty) (whole before reading)

pub record Finished (reading : Reading) (before : Ledger) (after : Ledger) (text : List ℕ) : Type 0 where
  pub printed : text ≡ listing_text before reading
  pub stands : after ≡ after_run before reading

-- a run whose listing began empty and is closed by how it ended
pub finished : (reading : Reading) (before : Ledger) (text : List ℕ) (after : Ledger) (text_after final : List ℕ) (r : Result (Unit {0}) Fault) →
    text ≡ [] → UnlessMemory r (Played reading before text after text_after r) → Closed r text_after final → Finished reading before after final
finished reading before text after text_after final (Ok u) empty p e =
    record { printed = e ∙ sym (append-nil text_after) ∙ closed reading before text after text_after (Ok u) empty p; stands = p.stands }
finished reading before text after text_after final (Err (Script f)) empty p e =
    record { printed = e ∙ closed reading before text after text_after (Err (Script f)) empty p; stands = p.stands }
finished reading before text after text_after final (Err (Memory error)) empty p e = absurd e
