-- Places of the table while a call runs: an emptied intent keeps its place until the table is closed up.
use Rattle.std.specs.Prelude.{ℕ, Bool, ◌&&◌, List, ◌==◌, nat_lt, slice_index_or}
use Rattle.rules.specs.declared.intents.Intent.{Intent}
use Rattle.rules.specs.Blanks.{blank_intent}
use Rattle.rules.specs.Intents.{in_range}

abbrev pub at : List Intent → ℕ → Intent
at ps k = slice_index_or ps k blank_intent

-- something is left of it
abbrev pub live : Intent → Bool
live p = nat_lt 0 p.remaining

-- it is in range, with a number above `last` and below `next`
abbrev pub may_follow : ℕ → ℕ → Intent → Bool
may_follow last next p = in_range p && (nat_lt last p.number && nat_lt p.number next)

-- whether it is the intent with a number
abbrev pub has_number : ℕ → Intent → Bool
has_number n p = p.number == n
