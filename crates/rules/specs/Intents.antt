-- What an intent's fields may be, and what a priority may read of it.
use Rattle.std.specs.Prelude.{Bool, true, false, ◌&&◌, ◌==◌}
use Rattle.rules.specs.Minimums.{are_minimums, asks_nothing}
use Rattle.rules.specs.Ranges.{within, is_security, is_subscriber, is_group, is_volume, is_price, is_day, is_number}
use Rattle.rules.specs.declared.intents.Intent.{Intent}
use Rattle.rules.specs.declared.intents.Standing.{Standing}
use Rattle.rules.specs.declared.intents.Side.{Side}
use Rattle.rules.specs.declared.intents.Side.TheVariants.{Buy, Sell}

-- every field in its range; something remains, and no more than was entered
abbrev pub in_range : Intent → Bool
in_range p =
    is_security p.security &&
    (is_subscriber p.subscriber &&
    (is_group p.group &&
    (is_volume p.entered &&
    (within 1 p.entered p.remaining &&
    (is_price p.limit &&
    (are_minimums p.minimums &&
    (is_day p.last_day &&
    is_number p.number)))))))

abbrev pub standing : Intent → Standing
standing p = record { subscriber = p.subscriber; group = p.group; entered = p.entered; number = p.number }

abbrev pub is_buy : Side → Bool
is_buy Buy = true
is_buy Sell = false

-- what stands where no intent rests: zeros, side buy
abbrev pub is_blank : Intent → Bool
is_blank p =
    (p.security == 0) &&
    (p.subscriber == 0 &&
    (p.group == 0 &&
    (is_buy p.side &&
    (p.entered == 0 &&
    (p.remaining == 0 &&
    (p.limit == 0 &&
    (asks_nothing p.minimums &&
    (p.last_day == 0 &&
    (p.number == 0)))))))))
