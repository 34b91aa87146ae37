-- A line is key=value. Its front is the key with the equals sign.
use Rattle.std.specs.Prelude.{ℕ, if◌then◌else◌, List, [], ◌∷◌, Some, None, Option, ◌==◌}

-- the value behind a front, where the line begins with it
abbrev pub behind : List ℕ → List ℕ → Option (List ℕ)
behind [] line = Some line
behind (f ∷ fs) [] = None
behind (f ∷ fs) (c ∷ cs) = if f == c then behind fs cs else None
