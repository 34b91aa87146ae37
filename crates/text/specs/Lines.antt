-- A script cut into lines at each byte 10. What stands behind the last one is a line that has not ended.
use Rattle.std.specs.Prelude.{ℕ, ◌+◌, Bool, true, false, if◌then◌else◌, List, [], ◌∷◌, take, drop, Some, None, Option, ◌==◌}

pub record Line : Type 0 where
  pub text : List ℕ
  pub ended : Bool

-- one byte in front of the first line
abbrev pub grown : ℕ → List Line → List Line
grown c [] = record { text = c ∷ []; ended = false } ∷ []
grown c (l ∷ ls) = record { text = c ∷ l.text; ended = l.ended } ∷ ls

abbrev pub lines : List ℕ → List Line
lines [] = []
lines (c ∷ cs) = if c == 10 then record { text = []; ended = true } ∷ lines cs else grown c (lines cs)

abbrev pub unended : List ℕ → List Line
unended [] = []
unended (c ∷ cs) = record { text = c ∷ cs; ended = false } ∷ []

-- the same lines, where the first one ends at an index or does not end
abbrev pub cut : Option ℕ → List ℕ → List Line
cut None text = unended text
cut (Some i) text = record { text = take i text; ended = true } ∷ lines (drop (i + 1) text)
