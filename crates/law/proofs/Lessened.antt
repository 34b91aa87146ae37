-- What fills leave of the intents, and what is left of one by its number.
use Rattle.std.proofs.Common.{◌≡◌, ℕ, ◌+◌, ◌-◌, ◌≤◌, List, [], ◌∷◌, ◌++◌, length, Some, sym, refl, ◌∙◌, arith}
use Rattle.std.specs.List.{AllByRecursion}
use Rattle.std.proofs.lemmas.Bool.Decides.{nat_tests}
use Rattle.rules.specs.declared.intents.Intent.{Intent}
use Rattle.rules.specs.declared.slips.Fill.{Fill}
use Rattle.law.specs.Accounts.{traded, with_left, lessen, left_of, find}
use Rattle.law.specs.Lists.{Pairwise}
use Rattle.law.proofs.Lists.{each_weaker}
use Rattle.law.proofs.Numbers.{Apart}

-- LESSENING

pub lessen_append : (fs : List Fill) (ps qs : List Intent) → lessen fs (ps ++ qs) ≡ lessen fs ps ++ lessen fs qs
lessen_append fs [] qs = refl
lessen_append fs (p ∷ ps) qs = grind (arith, nat_tests, lessen_append fs ps qs)

-- intents only leave
pub lessen_short : (fs : List Fill) (ps : List Intent) → length (lessen fs ps) ≤ length ps
lessen_short fs [] = omega arith
lessen_short fs (p ∷ ps) = grind (arith, nat_tests, lessen_short fs ps)

-- a fact of each that knows nothing of what remains stays
pub each_lessen : (P : Intent → Type 0) → ((p : Intent) (v : ℕ) → P p → P (with_left p v)) → (fs : List Fill) (ps : List Intent) → AllByRecursion P ps → AllByRecursion P (lessen fs ps)
each_lessen P f fs [] h = tt
each_lessen P f fs (p ∷ ps) h = grind (arith, nat_tests, f, each_lessen P f fs ps h.1)

-- WHAT IS LEFT OF ONE

pub left_none : (n : ℕ) (ps : List Intent) → AllByRecursion (λ (p : Intent). p.number ≡ n → ⊥) ps → left_of n ps ≡ 0
left_none n [] h = refl
left_none n (p ∷ ps) h = grind (arith, nat_tests, left_none n ps h.1)

pub left_append : (n : ℕ) (ps qs : List Intent) → left_of n (ps ++ qs) ≡ left_of n ps + left_of n qs
left_append n [] qs = omega arith
left_append n (p ∷ ps) qs = omega (arith, left_append n ps qs)

-- all that one alone has left
pub left_one : (fs : List Fill) (p : Intent) → left_of p.number (lessen fs (p ∷ [])) ≡ p.remaining - traded p.number fs
left_one fs p = grind (arith, nat_tests)

-- the intent that is found has all that is left under its number
pub left_found : (n : ℕ) (ps : List Intent) (p : Intent) → Pairwise Apart ps → find n ps ≡ Some p → left_of n ps ≡ p.remaining
left_found n [] p h e = cc
left_found n (q ∷ qs) p h e =
    grind (arith, nat_tests, left_found n qs p h.1, λ (mine : q.number ≡ n). left_none n qs (each_weaker (Apart q) _ (λ r d same. d (mine ∙ sym same)) qs h.0))
