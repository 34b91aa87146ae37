-- Who may trade with whom, given the quote in force and the price.
use Rattle.std.specs.Prelude.{ℕ, ◌*◌, Bool, true, false, not, ◌&&◌, Some, None, Option, ◌==◌, nat_le, nat_lt}
use Rattle.rules.specs.Quotes.{reaches}
use Rattle.rules.specs.declared.incoming.Incoming.{Incoming}
use Rattle.rules.specs.declared.intents.Intent.{Intent}
use Rattle.rules.specs.declared.intents.Side.{Side}
use Rattle.rules.specs.declared.intents.Side.TheVariants.{Buy, Sell}
use Rattle.rules.specs.declared.quotes.Quote.{Quote}

abbrev pub opposite : Side → Side → Bool
opposite Buy Buy = false
opposite Buy Sell = true
opposite Sell Buy = true
opposite Sell Sell = false

-- an order came after all that rest
abbrev pub arrived_before : ℕ → Option ℕ → Bool
arrived_before n None = true
arrived_before n (Some m) = nat_lt n m

-- a price in half ticks is no worse than a limit in ticks
abbrev pub within_limit : Side → ℕ → ℕ → Bool
within_limit Buy limit price = nat_le price (2 * limit)
within_limit Sell limit price = nat_le (2 * limit) price

-- the same where there may be no limit: a market order has none
abbrev pub within_any_limit : Side → Option ℕ → ℕ → Bool
within_any_limit side None price = true
within_any_limit side (Some limit) price = within_limit side limit price

-- p is eligible for i under the quote q in force, at the price for i's side
abbrev pub eligible : Quote → ℕ → Incoming → Intent → Bool
eligible q price i p =
    (p.security == i.security) &&
    (opposite i.side p.side &&
    (arrived_before p.number i.number &&
    (within_limit p.side p.limit price &&
    (within_any_limit i.side i.limit price &&
    (reaches q p.side p.minimums &&
    (reaches q i.side i.minimums &&
    not i.jitney))))))
