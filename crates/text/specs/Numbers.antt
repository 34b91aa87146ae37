-- The numbers that bytes write.
use Rattle.std.specs.Prelude.{ℕ, ◌+◌, ◌-◌, ◌*◌, Bool, if◌then◌else◌, ◌&&◌, ◌||◌, List, [], ◌∷◌, length, Some, None, Option, ◌==◌, nat_le, nat_lt, slice_index}
use Rattle.std.specs.List.{list_all}

abbrev pub digit : ℕ → Bool
digit c = nat_le 48 c && nat_le c 57

abbrev pub digits : List ℕ → Bool
digits s = list_all digit s

-- the value of the digits behind the number n
abbrev pub value_on : ℕ → List ℕ → ℕ
value_on n [] = n
value_on n (c ∷ cs) = value_on (n * 10 + (c - 48)) cs

-- the same, where all are digits and the value is not too large
abbrev pub within : ℕ → List ℕ → Option ℕ
within n cs = if digits cs && nat_le (value_on n cs) 4294967295 then Some (value_on n cs) else None

-- no digit at all, or a zero in front of more
abbrev pub unfit : List ℕ → Bool
unfit s = length s == 0 || (nat_lt 1 (length s) && slice_index s 0 == 48)

abbrev pub number_of : List ℕ → Option ℕ
number_of s = if unfit s then None else within 0 s
