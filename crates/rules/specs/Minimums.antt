-- What an intent asks of the quote before it trades.
use Rattle.std.specs.Prelude.{Bool, ◌&&◌, ◌==◌}
use Rattle.rules.specs.Ranges.{is_min_spread, is_min_volume}
use Rattle.rules.specs.declared.minimums.Minimums.{Minimums}

-- both in their ranges
abbrev pub are_minimums : Minimums → Bool
are_minimums m = is_min_spread m.spread && is_min_volume m.volume

abbrev pub no_minimums : Minimums
no_minimums = record { spread = 0; volume = 0 }

abbrev pub asks_nothing : Minimums → Bool
asks_nothing m = (m.spread == 0) && (m.volume == 0)
