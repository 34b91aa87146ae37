-- Worked examples of prices and eligibility, computed from the definitions that the contracts cite.
use Rattle.std.specs.Prelude.{◌≡◌, ℕ, Bool, true, false, None}
use Rattle.rules.specs.Eligibility.{eligible}
use Rattle.rules.specs.Incoming.{intent_incoming, order_incoming}
use Rattle.rules.specs.Minimums.{no_minimums}
use Rattle.rules.specs.Prices.{step_price, midpoint_price}
use Rattle.rules.specs.Quotes.{lawful_quote}
use Rattle.rules.specs.declared.orders.Order.{Order}
use Rattle.rules.specs.declared.intents.Intent.{Intent}
use Rattle.rules.specs.declared.minimums.Minimums.{Minimums}
use Rattle.rules.specs.declared.intents.Side.{Side}
use Rattle.rules.specs.declared.intents.Side.TheVariants.{Buy, Sell}
use Rattle.rules.specs.declared.quotes.Quote.{Quote}

abbrev pub wide : Quote
wide = record { bid = 1000; bid_volume = 3000; offer = 1010; offer_volume = 4000 }

abbrev pub narrow : Quote
narrow = record { bid = 1000; bid_volume = 3000; offer = 1001; offer_volume = 4000 }

abbrev pub market_order : Side → Order
market_order side = record { security = 0; subscriber = 7; side = side; volume = 100; limit = None; jitney = false }

-- by arrival number, side, limit and minimums
abbrev pub intent : ℕ → Side → ℕ → Minimums → Intent
intent number side limit minimums = record {
  security = 0;
  subscriber = 8;
  group = 1;
  side = side;
  entered = 500;
  remaining = 500;
  limit = limit;
  minimums = minimums;
  last_day = 1;
  number = number;
}

pub record OneStepInsideAWideSpread : Type 0 where
  pub lawful : lawful_quote wide ≡ true
  pub buy : step_price 1 wide Buy ≡ 2018
  pub sell : step_price 1 wide Sell ≡ 2002
  pub midpoint : midpoint_price wide ≡ 2010

pub record AStepStopsAtTheFarSide : Type 0 where
  pub lawful : lawful_quote narrow ≡ true
  pub buy : step_price 2 narrow Buy ≡ 2000
  pub sell : step_price 2 narrow Sell ≡ 2002
  pub midpoint : midpoint_price narrow ≡ 2001

-- whether a buy with a limit is eligible for a market order to sell, at the midpoint of the narrow quote
abbrev pub buys_as_passive : ℕ → Bool
buys_as_passive limit = eligible narrow (midpoint_price narrow) (order_incoming (market_order Sell)) (intent 1 Buy limit no_minimums)

-- whether a resting sell is eligible for an incoming buy with a limit, at the midpoint of the narrow quote
abbrev pub buys_as_active : ℕ → Bool
buys_as_active limit = eligible narrow (midpoint_price narrow) (intent_incoming (intent 2 Buy limit no_minimums)) (intent 1 Sell 1000 no_minimums)

pub record HalfATickAboveALimitFails : Type 0 where
  pub passive_1000 : buys_as_passive 1000 ≡ false
  pub passive_1001 : buys_as_passive 1001 ≡ true
  pub active_1000 : buys_as_active 1000 ≡ false
  pub active_1001 : buys_as_active 1001 ≡ true

-- whether a sell with these minimums is eligible for a market order to buy, at the wide quote
abbrev pub sells_as_passive : ℕ → ℕ → Bool
sells_as_passive spread volume =
    eligible wide (step_price 1 wide Buy) (order_incoming (market_order Buy)) (intent 1 Sell 1000 (record { spread = spread; volume = volume }))

-- whether a resting buy is eligible for an incoming sell with these minimums, at the wide quote
abbrev pub sells_as_active : ℕ → ℕ → Bool
sells_as_active spread volume =
    eligible wide (step_price 1 wide Sell) (intent_incoming (intent 2 Sell 1000 (record { spread = spread; volume = volume }))) (intent 1 Buy 1010 no_minimums)

pub record AMinimumSpreadJustReached : Type 0 where
  pub passive_10 : sells_as_passive 10 0 ≡ true
  pub passive_11 : sells_as_passive 11 0 ≡ false
  pub active_10 : sells_as_active 10 0 ≡ true
  pub active_11 : sells_as_active 11 0 ≡ false

pub record AMinimumVolumeJustReached : Type 0 where
  pub passive_4000 : sells_as_passive 0 4000 ≡ true
  pub passive_4001 : sells_as_passive 0 4001 ≡ false
  pub active_4000 : sells_as_active 0 4000 ≡ true
  pub active_4001 : sells_as_active 0 4001 ≡ false
