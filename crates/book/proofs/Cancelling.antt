-- The call cancel: the intent that is emptied leaves.
use Rattle.std.proofs.Common.{◌≡◌, ℕ, zero, suc, ◌-◌, ◌<◌, ◌≤◌, true, false, not, eqb, List, [], ◌∷◌, ◌++◌, length, take, drop, set, replicate, Some, Ok, is_ok, sym, refl, ap, ◌∙◌, arith, drop-set-lt}
use Rattle.std.specs.List.{filter, AllByRecursion, position_or_len}
use lib.Seq.{take-set-lt}
use Rattle.std.proofs.lemmas.List.{get_or-take}
use Rattle.std.proofs.lemmas.Bool.Decides.{nat_tests}
use Rattle.rules.specs.declared.intents.Intent.{Intent}
use Rattle.rules.specs.Blanks.{blank_intent}
use Rattle.law.specs.declared.calls.Call.TheVariants.{Cancel as cancel_call}
use Rattle.law.specs.declared.calls.Reference.{Reference}
use Rattle.law.specs.Accounts.{with_left, without, left_of, find}
use Rattle.law.specs.Checks.{Check, checked, is_of, cancel_checks}
use Rattle.law.specs.Lists.{Pairwise}
use Rattle.law.specs.Memories.{Memory, lawful_intents}
use Rattle.law.specs.Outcomes.{cancel_answer, after}
use Rattle.law.specs.Turns.{Rules}
use Rattle.law.proofs.Lawful.{table_parts, lawful_count, lawful_left, lawful_rising}
use Rattle.law.proofs.Lessened.{left_found}
use Rattle.law.proofs.Lists.{each_weaker, filter_all, filter_short}
use Rattle.law.proofs.Numbers.{Apart, rising_apart}
use Rattle.law.proofs.Outcomes.{after_accepted, after_refused}
use Rattle.ledger.specs.Places.{at, live, has_number}
use Rattle.ledger.proofs.Scans.{found}
use Rattle.book.proofs.Matching.{laid_out_less}

-- the place of the intent with a number
abbrev place_in : ℕ → List Intent → ℕ
place_in n ps = position_or_len (has_number n) ps

-- an emptied intent is the one that leaves
emptied_leaves : (n : ℕ) (ps : List Intent) (k : ℕ) → AllByRecursion (λ (p : Intent). 1 ≤ p.remaining) ps → Pairwise Apart ps → k ≡ place_in n ps → k < length ps →
    filter live (set ps k (with_left (at ps k) 0)) ≡ without n ps
emptied_leaves n [] k some apart is here = absurd (omega arith)
emptied_leaves n (p ∷ ps) zero some apart is here =
    grind (
      arith,
      nat_tests,
      filter_all live ps (each_weaker _ _ (λ q h. grind (arith, nat_tests)) ps some.1),
      λ (e : p.number ≡ n). filter_all (λ (q : Intent). not (eqb q.number n)) ps (each_weaker _ _ (λ q d. grind (arith, nat_tests)) ps apart.0),
    )
emptied_leaves n (p ∷ ps) (suc k) some apart is here = grind (arith, nat_tests, emptied_leaves n ps k some.1 apart.1)

-- where the check passes, the number is that of a resting intent
is_there : (subscriber n : ℕ) (ps : List Intent) → is_of subscriber (find n ps) ≡ true → place_in n ps < length ps
is_there subscriber n ps e = grind (arith, nat_tests, found n ps)

-- a refused cancel leaves all as it was
pub cancel_refused : (rules : Rules) (m : Memory) (r : Reference) → is_ok (checked (cancel_checks m r.subscriber r.number) (place_in r.number (take m.count m.table))) ≡ false → after rules m (cancel_call r) ≡ m
cancel_refused rules m r failed = after_refused rules m (cancel_call r) (grind (arith, nat_tests))

module _ (m : Memory) (r : Reference) (passed : is_ok (checked (cancel_checks m r.subscriber r.number) (place_in r.number (take m.count m.table))) ≡ true) where
  abbrev ps : List Intent
  ps = take m.count m.table

  abbrev place : ℕ
  place = place_in r.number ps

  -- the table with the intent emptied
  abbrev emptied : List Intent
  emptied = set m.table place (with_left (at m.table place) 0)

  tests : AllByRecursion (λ (c : Check). c.0 ≡ true) (cancel_checks m r.subscriber r.number)
  tests = grind (arith, nat_tests)

  intents : lawful_intents 0 m.next ps ≡ true
  intents = (table_parts m.count m.next m.table tests.0).intents

  apart : Pairwise Apart ps
  apart = rising_apart ps (lawful_rising 0 m.next ps intents)

  here : place < length ps
  here = is_there r.subscriber r.number ps tests.1.0

  inside : place < m.count
  inside = omega (arith, here, lawful_count m.count m.next m.table tests.0)

  same : at m.table place ≡ at ps place
  same = sym (get_or-take m.count m.table place blank_intent inside)

  leaves : filter live (take m.count emptied) ≡ without r.number ps
  leaves =
      ap (filter live) (take-set-lt m.count m.table place (with_left (at m.table place) 0) inside ∙ ap (λ (x : Intent). set ps place (with_left x 0)) same)
      ∙ emptied_leaves r.number ps place (lawful_left 0 m.next ps intents) apart refl here

  -- what is withdrawn is what remained of the intent
  withdrawn_is : left_of r.number ps ≡ (at m.table place).remaining
  withdrawn_is =
      let place_here = here in
      let there : find r.number ps ≡ Some (at ps place) = grind (arith, nat_tests, found r.number ps) in
      left_found r.number ps (at ps place) apart there ∙ sym (ap (λ (x : Intent). x.remaining) same)

  -- the places are closed up behind it
  pub cancel_after : (rules : Rules) →
      let rs : List Intent = filter live (take m.count emptied) in
      after rules m (cancel_call r) ≡ record m { count = length rs; table = rs ++ (replicate (m.count - length rs) blank_intent ++ drop m.count emptied) }
  cancel_after rules =
      let rs : List Intent = without r.number ps in
      let closed = laid_out_less m.count m.next m.table rs tests.0 (omega (arith, filter_short (λ (p : Intent). not (eqb p.number r.number)) ps, lawful_count m.count m.next m.table tests.0)) in
      let beyond = drop-set-lt m.count m.table place (with_left (at m.table place) 0) inside in
      after_accepted rules m (cancel_call r) (grind (arith, nat_tests))
      ∙ sym (rw (leaves, beyond) (λ j. record m { count = length rs; table = closed j }))

-- the answer is what remained in the place that the check found
pub cancel_answered : (m : Memory) (r : Reference) (place : ℕ) → Ok place ≡ checked (cancel_checks m r.subscriber r.number) (place_in r.number (take m.count m.table)) →
    Ok (at m.table place).remaining ≡ cancel_answer m r.subscriber r.number
cancel_answered m r place passed = grind (arith, nat_tests, withdrawn_is m r (sym (ap is_ok passed)))
