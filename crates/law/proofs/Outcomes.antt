-- A call that its checks accept or refuse, and what it then leaves behind.
use Rattle.std.proofs.Common.{◌≡◌, true, false, is_ok, refl}
use Rattle.law.specs.declared.calls.Call.{Call}
use Rattle.law.specs.Calls.{answer_of}
use Rattle.law.specs.Checks.{checked, checks}
use Rattle.law.specs.Memories.{Memory, account}
use Rattle.law.specs.Outcomes.{call_fills, accepted, outcome, after}
use Rattle.law.specs.Turns.{Rules}

module _ (rules : Rules) (m : Memory) (c : Call) where
  -- what a call of any kind answers, for the runs to come
  pub outcome_is : outcome rules m c ≡ checked (checks m c) (answer_of (account m) c (call_fills rules (account m) c))
  unfolding outcome
  outcome_is = refl

  -- a refused call leaves all as it was
  pub after_refused : is_ok (checked {A = Unit {0}} (checks m c) tt) ≡ false → after rules m c ≡ m
  unfolding after
  after_refused e = rw e

  pub after_accepted : is_ok (checked {A = Unit {0}} (checks m c) tt) ≡ true → after rules m c ≡ accepted rules m c
  unfolding after
  after_accepted e = rw e
