-- What the price rules ask, in half ticks, and their marks.
use Rattle.std.specs.Prelude.{ℕ, ◌+◌, ◌-◌, ◌*◌, ◌≤◌, min}
use Rattle.rules.specs.Quotes.{spread}
use Rattle.rules.specs.declared.intents.Side.{Side}
use Rattle.rules.specs.declared.intents.Side.TheVariants.{Buy, Sell}
use Rattle.rules.specs.declared.quotes.Quote.{Quote}

-- a price in half ticks lies within a quote in ticks
pub record WithinQuote (q : Quote) (price : ℕ) : Type 0 where
  pub above_bid : 2 * q.bid ≤ price
  pub below_offer : price ≤ 2 * q.offer

-- k ticks, but no more than 100 and no more than the spread
abbrev pub step : ℕ → Quote → ℕ
step k q = min (min k 100) (spread q)

-- a buyer pays the offer less the step, a seller gets the bid and the step
abbrev pub step_price : ℕ → Quote → Side → ℕ
step_price k q Buy = 2 * (q.offer - step k q)
step_price k q Sell = 2 * (q.bid + step k q)

-- the letter S
abbrev pub step_mark : ℕ
step_mark = 83

-- halfway between bid and offer, whichever side comes in
abbrev pub midpoint_price : Quote → ℕ
midpoint_price q = q.bid + q.offer

-- the letter M
abbrev pub midpoint_mark : ℕ
midpoint_mark = 77
