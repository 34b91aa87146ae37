-- What a quote is, and what it offers to a side.
use Rattle.std.specs.Prelude.{ℕ, ◌-◌, Bool, ◌&&◌, nat_le, nat_lt}
use Rattle.rules.specs.Ranges.{is_price, is_quoted_volume}
use Rattle.rules.specs.declared.intents.Side.{Side}
use Rattle.rules.specs.declared.intents.Side.TheVariants.{Buy, Sell}
use Rattle.rules.specs.declared.minimums.Minimums.{Minimums}
use Rattle.rules.specs.declared.quotes.Quote.{Quote}

-- prices and volumes in range, the bid below the offer
abbrev pub lawful_quote : Quote → Bool
lawful_quote q =
    is_price q.bid &&
    (is_price q.offer &&
    (is_quoted_volume q.bid_volume &&
    (is_quoted_volume q.offer_volume &&
    nat_lt q.bid q.offer)))

abbrev pub spread : Quote → ℕ
spread q = q.offer - q.bid

-- the quoted volume on a side
abbrev pub volume_on : Quote → Side → ℕ
volume_on q Buy = q.bid_volume
volume_on q Sell = q.offer_volume

-- the quote is as wide as the minimum spread and, on this side, as deep as the minimum volume
abbrev pub reaches : Quote → Side → Minimums → Bool
reaches q side minimums = nat_le minimums.spread (spread q) && nat_le minimums.volume (volume_on q side)
