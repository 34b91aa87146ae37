-- CHECKS: what is checked comes out as it is, or as the refusal of a test, whatever it is.
use Rattle.std.proofs.Common.{◌≡◌, ℕ, true, cond, List, [], ◌∷◌, is_ok, Ok, Err, Result, refl, ap, arith}
use Rattle.std.specs.List.{AllByRecursion}
use Rattle.rules.specs.declared.refusals.Refusal.{Refusal}
use Rattle.law.specs.Checks.{Check, checked}
use Rattle.law.specs.Outcomes.{unless_refused}

-- nothing is both accepted and refused
pub ok_err : {A : Type 0} {x : A} {e : Refusal} → ◌≡◌ {A = Result A Refusal} (Ok x) (Err e) → ⊥
ok_err {A} {x} {e} k = let z : ◌≡◌ {A = ℕ} 0 1 = cc in omega arith

-- all tests hold of what comes out
pub checked_passes : {A : Type 0} (cs : List Check) (x x' : A) → checked cs x ≡ Ok x' → AllByRecursion (λ (c : Check). c.0 ≡ true) cs
checked_passes [] x x' h = tt
checked_passes (c ∷ cs) x x' h = grind (arith, checked_passes cs x x')

-- where all tests hold, it comes out as it is
pub passes_checked : {A : Type 0} (cs : List Check) (x : A) → AllByRecursion (λ (c : Check). c.0 ≡ true) cs → checked cs x ≡ Ok x
passes_checked [] x h = refl
passes_checked (c ∷ cs) x h = grind (arith, passes_checked cs x)

-- what passes for one value passes for any other
pub checked_ok : {A B : Type 0} (cs : List Check) (x x' : A) (y : B) → checked cs x ≡ Ok x' → checked cs y ≡ Ok y
checked_ok cs x x' y h = passes_checked cs y (checked_passes cs x x' h)

-- and what is refused for one value is refused alike for any other
pub checked_err : {A B : Type 0} (cs : List Check) (x : A) (y : B) (e : Refusal) → checked cs x ≡ Err e → checked cs y ≡ Err e
checked_err [] x y e h = cc
checked_err (c ∷ cs) x y e h = grind (arith, checked_err cs x y e)

-- AFTERWARDS

-- what is accepted goes on
pub unless_ok : {A B : Type 0} (cs : List Check) (z z' : B) (x y : A) → checked cs z ≡ Ok z' → unless_refused cs x y ≡ x
unless_ok cs z z' x y h = ap (λ (r : Result (Unit {0}) Refusal). cond (is_ok r) x y) (checked_ok cs z z' tt h)

-- what is refused stays as it was
pub unless_err : {A B : Type 0} (cs : List Check) (z : B) (e : Refusal) (x y : A) → checked cs z ≡ Err e → unless_refused cs x y ≡ y
unless_err cs z e x y h = ap (λ (r : Result (Unit {0}) Refusal). cond (is_ok r) x y) (checked_err cs z tt e h)
