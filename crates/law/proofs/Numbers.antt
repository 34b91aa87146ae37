-- Intents by their numbers: what `find` gives, where numbers differ or rise.
use Rattle.std.proofs.Common.{◌≡◌, ℕ, ◌<◌, List, [], ◌∷◌, Some, None, Option, sym, ap, ◌∙◌, arith}
use Rattle.std.specs.List.{AllByRecursion}
use Rattle.std.proofs.lemmas.Bool.Decides.{nat_tests}
use Rattle.rules.specs.declared.intents.Intent.{Intent}
use Rattle.law.specs.Lists.{Pairwise}
use Rattle.law.specs.Accounts.{find}
use Rattle.law.proofs.Lists.{each_join, pairwise_weaker}

-- two intents with different numbers
abbrev pub Apart : Intent → Intent → Type 0
Apart p q = p.number ≡ q.number → ⊥

-- each number is above all that stand before it
abbrev pub Rising : List Intent → Type 0
Rising ps = Pairwise (λ (p q : Intent). p.number < q.number) ps

pub rising_apart : (ps : List Intent) → Rising ps → Pairwise Apart ps
rising_apart ps r = pairwise_weaker _ _ (λ p q h e. omega arith) ps r

pub none_some : {A : Type 0} (p : A) → ◌≡◌ {A = Option A} None (Some p) → ⊥
none_some p e = let z : ◌≡◌ {A = ℕ} 0 1 = cc in omega arith

-- what is found has the number that it was sought by
pub find_number : (n : ℕ) (ps : List Intent) (p : Intent) → find n ps ≡ Some p → p.number ≡ n
find_number n [] p e = cc
find_number n (q ∷ qs) p e = grind (arith, nat_tests, find_number n qs p)

-- a fact of each holds of the one that is found
pub each_find : (P : Intent → Type 0) (n : ℕ) (ps : List Intent) (p : Intent) → AllByRecursion P ps → find n ps ≡ Some p → P p
each_find P n [] p h e = cc
each_find P n (q ∷ qs) p h e = grind (arith, nat_tests, each_find P n qs p h.1)

-- where it is found: at the first with the number, or behind it
pub find_later : (n : ℕ) (q : Intent) (qs : List Intent) → (q.number ≡ n → ⊥) → find n (q ∷ qs) ≡ find n qs
find_later n q qs h = grind (arith, nat_tests)

pub find_first : (n : ℕ) (q : Intent) (qs : List Intent) → q.number ≡ n → find n (q ∷ qs) ≡ Some q
find_first n q qs e = grind (arith, nat_tests)

-- each intent is the one under its number
pub find_each : (ps : List Intent) → Pairwise Apart ps → AllByRecursion (λ (p : Intent). find p.number ps ≡ Some p) ps
find_each [] h = tt
find_each (q ∷ qs) h = (grind (arith, nat_tests), each_join _ _ _ (λ p d e. grind (arith, nat_tests)) qs h.0 (find_each qs h.1))

-- what is found in one list is found in another that has the same under each number
pub find_in : (ps qs : List Intent) → AllByRecursion (λ (p : Intent). find p.number qs ≡ Some p) ps → (n : ℕ) (p : Intent) → find n ps ≡ Some p → find n qs ≡ Some p
find_in ps qs h n p e = ap (λ (m : ℕ). find m qs) (sym (find_number n ps p e)) ∙ each_find _ n ps p h e
