-- What fill slips give to a number, and what its party trades by them.
use Rattle.std.proofs.Common.{◌≡◌, ℕ, List, [], ◌∷◌, refl, arith}
use Rattle.std.specs.List.{AllByRecursion}
use Rattle.std.proofs.lemmas.Bool.Decides.{nat_tests}
use Rattle.rules.specs.declared.slips.Fill.{Fill}
use Rattle.law.specs.Accounts.{traded, volume_of}
use Rattle.law.specs.Turns.{given}

pub given_nothing : (n : ℕ) (fs : List Fill) → AllByRecursion (λ (f : Fill). f.passive ≡ n → ⊥) fs → given fs n ≡ 0
given_nothing n [] h = refl
given_nothing n (f ∷ fs) h = grind (arith, nat_tests, given_nothing n fs h.1)

-- a party that no slip names as active trades what it is given
pub traded_passive : (n : ℕ) (fs : List Fill) → AllByRecursion (λ (f : Fill). f.active ≡ n → ⊥) fs → traded n fs ≡ given fs n
traded_passive n [] h = refl
traded_passive n (f ∷ fs) h = grind (arith, nat_tests, traded_passive n fs h.1)

-- the active party trades all of it
pub traded_active : (n : ℕ) (fs : List Fill) → AllByRecursion (λ (f : Fill). f.active ≡ n) fs → traded n fs ≡ volume_of fs
traded_active n [] h = refl
traded_active n (f ∷ fs) h = grind (arith, nat_tests, traded_active n fs h.1)
