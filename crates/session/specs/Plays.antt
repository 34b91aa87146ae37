-- A run in two parts: the calls are made and their outcomes written, then the listing is closed by how the script ended.
use Rattle.std.specs.Prelude.{◌≡◌, ℕ, List, [], ◌++◌, Ok, Err, Result}
use Rattle.ledger.specs.declared.ledgers.Ledger.{Ledger}
use Rattle.text.specs.Listings.{outcome_text, fault_text}
use Rattle.text.specs.Readings.{Reading, end, fault, call}
use Rattle.session.specs.declared.faults.Fault.{Fault}
use Rattle.session.specs.declared.faults.Fault.TheVariants.{Script, Memory}
use Rattle.session.specs.Calls.{call_answer, call_after}
use Rattle.session.specs.Faults.{fault_of}
use Rattle.session.specs.Runs.{after_run}

-- what the calls print
abbrev pub outcomes : Ledger → Reading → List ℕ
outcomes ledger end = []
outcomes ledger (fault f) = []
outcomes ledger (call c rest) = outcome_text c (call_answer ledger c) ++ outcomes (call_after ledger c) rest

-- how the script ends
abbrev pub ending : Reading → Result (Unit {0}) Fault
ending end = Ok tt
ending (fault f) = Err (fault_of f)
ending (call c rest) = ending rest

-- A script has been run from this ledger and behind this text to that one.
pub record Played (reading : Reading) (before : Ledger) (text : List ℕ) (after : Ledger) (text_after : List ℕ) (r : Result (Unit {0}) Fault) : Type 0 where
  pub ended : r ≡ ending reading
  pub printed : text_after ≡ text ++ outcomes before reading
  pub stands : after ≡ after_run before reading

-- a run that found no memory stops somewhere
abbrev pub UnlessMemory : Result (Unit {0}) Fault → Type 0 → Type 0
UnlessMemory (Ok u) P = P
UnlessMemory (Err (Script f)) P = P
UnlessMemory (Err (Memory error)) P = Unit {0}

-- The fault that ended a script closes its text; want of memory leaves no listing.
abbrev pub Closed : Result (Unit {0}) Fault → List ℕ → List ℕ → Type 0
Closed (Ok u) text closed = closed ≡ text
Closed (Err (Script f)) text closed = closed ≡ text ++ fault_text f
Closed (Err (Memory error)) text closed = ⊥
