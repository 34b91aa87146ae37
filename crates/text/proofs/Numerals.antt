-- A number read digit by digit.
use Rattle.std.proofs.Common.{◌≡◌, ℕ, ◌+◌, ◌-◌, ◌*◌, ◌<◌, ◌≤◌, Bool, true, false, cond, ◌⊎◌, List, [], ◌∷◌, length, get_or, drop, Some, None, ap, ◌∙◌, arith}
use Rattle.std.proofs.lemmas.List.{drop_more, drop_all, at_drop_more}
use Rattle.std.proofs.lemmas.Bool.Decides.{nat_tests}
use Rattle.text.specs.Numbers.{digit, value_on, within}

grows : (n : ℕ) (cs : List ℕ) → n ≤ value_on n cs
grows n [] = omega arith
grows n (c ∷ cs) = omega (arith, grows (n * 10 + (c - 48)) cs)

pub within_over : (n : ℕ) (cs : List ℕ) → 4294967295 < n → within n cs ≡ None
within_over n cs h = let g = grows n cs in grind (arith, nat_tests)

-- by whether the first byte is a digit
within_by : (n c : ℕ) (cs : List ℕ) (b : Bool) → digit c ≡ b → within n (c ∷ cs) ≡ cond b (within (n * 10 + (c - 48)) cs) None
within_by n c cs true e = rw e
within_by n c cs false e = rw e

pub next : (s : List ℕ) (i n : ℕ) → i < length s → 48 ≤ get_or s i 0 → get_or s i 0 ≤ 57 → within n (drop i s) ≡ within (n * 10 + (get_or s i 0 - 48)) (drop (i + 1) s)
next s i n h lo hi =
    let d : digit (get_or s i 0) ≡ true = grind (arith, nat_tests) in
    ap (within n) (drop_more s i 0 h) ∙ within_by n (get_or s i 0) (drop (i + 1) s) true d

pub stops : (s : List ℕ) (i n : ℕ) → i < length s → (get_or s i 0 < 48) ⊎ (57 < get_or s i 0) → within n (drop i s) ≡ None
stops s i n h e =
    let d : digit (get_or s i 0) ≡ false = grind (arith, nat_tests) in
    ap (within n) (drop_more s i 0 h) ∙ within_by n (get_or s i 0) (drop (i + 1) s) false d

pub ends : (s : List ℕ) (i n : ℕ) → length s ≤ i → n ≤ 4294967295 → within n (drop i s) ≡ Some n
ends s i n h le = ap (within n) (drop_all i s h) ∙ grind (arith, nat_tests)

-- where the byte at i takes the number past the largest, the bytes write none
pub too_large : (s : List ℕ) (i n : ℕ) → i < length s → 4294967295 < n * 10 + (get_or s i 0 - 48) → within n (drop i s) ≡ None
too_large s i n h over =
    grind (arith, nat_tests, at_drop_more (within n) s i 0 h, grows (n * 10 + (get_or s i 0 - 48)) (drop (i + 1) s))
