-- A run that is underway: what is still to come makes it whole.
use Rattle.std.proofs.Common.{◌≡◌, ℕ, List, ◌++◌, Result, refl, sym, ap, ◌∙◌, append_assoc}
use Rattle.rules.specs.declared.calls.Answer.{Answer}
use Rattle.rules.specs.declared.calls.Call.{Call}
use Rattle.rules.specs.declared.refusals.Refusal.{Refusal}
use Rattle.ledger.specs.declared.ledgers.Ledger.{Ledger}
use Rattle.text.specs.Listings.{outcome_text}
use Rattle.text.specs.Readings.{Reading, call}
use Rattle.session.specs.declared.sessions.Session.{Session}
use Rattle.session.specs.Calls.{call_answer, call_after, with_ledger}
use Rattle.session.specs.Plays.{outcomes, ending}
use Rattle.session.specs.Runs.{after_run}

-- from where the run began to where it is now
pub record Underway (reading : Reading) (before : Ledger) (text : List ℕ) (rest : Reading) (now : Ledger) (text_now : List ℕ) : Type 0 where
  pub ended : ending rest ≡ ending reading
  pub printed : text_now ++ outcomes now rest ≡ text ++ outcomes before reading
  pub stands : after_run now rest ≡ after_run before reading

module _ (reading : Reading) (before : Ledger) (text : List ℕ) where
  -- one call more
  pub onward : (c : Call) (rest rest_after : Reading) (now after : Ledger) (text_now text_after : List ℕ) (r : Result Answer Refusal) →
      Underway reading before text rest now text_now → rest ≡ call c rest_after → r ≡ call_answer now c → after ≡ call_after now c → text_after ≡ text_now ++ outcome_text c r →
      Underway reading before text rest_after after text_after
  onward c rest rest_after now after text_now text_after r u read answer book written =
      let stood : after_run after rest_after ≡ after_run now rest = rw (book, read) refl in
      let ended : ending rest_after ≡ ending rest = rw read refl in
      let printed : text_after ++ outcomes after rest_after ≡ text_now ++ outcomes now rest = rw (written, answer, book, read) (append_assoc text_now _ _) in
      record { ended = ended ∙ u.ended; printed = printed ∙ u.printed; stands = stood ∙ u.stands }

-- a call leaves all but the ledger as it was, and so do two
pub still : (first before after : Session) (l : Ledger) → before ≡ with_ledger first before.book.ledger → after ≡ with_ledger before l → after ≡ with_ledger first after.book.ledger
still first before after l stood called = called ∙ ap (λ (s : Session). with_ledger s l) stood ∙ sym (ap (λ (s : Session). with_ledger first s.book.ledger) called)
