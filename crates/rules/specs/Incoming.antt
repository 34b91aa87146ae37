-- The party that has its turn, made from an intent or from an order.
use Rattle.std.specs.Prelude.{false, Some, None}
use Rattle.rules.specs.Minimums.{no_minimums}
use Rattle.rules.specs.declared.incoming.Incoming.{Incoming}
use Rattle.rules.specs.declared.orders.Order.{Order}
use Rattle.rules.specs.declared.intents.Intent.{Intent}

-- an intent comes in with what remains of it
abbrev pub intent_incoming : Intent → Incoming
intent_incoming p = record {
  number = Some p.number;
  security = p.security;
  subscriber = p.subscriber;
  side = p.side;
  volume = p.remaining;
  limit = Some p.limit;
  minimums = p.minimums;
  jitney = false;
}

abbrev pub order_incoming : Order → Incoming
order_incoming o = record {
  number = None;
  security = o.security;
  subscriber = o.subscriber;
  side = o.side;
  volume = o.volume;
  limit = o.limit;
  minimums = no_minimums;
  jitney = o.jitney;
}
