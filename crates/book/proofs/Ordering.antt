-- The call order, from its turn.
use Rattle.std.proofs.Common.{◌≡◌, is_ok, sym, ap}
use Rattle.rules.specs.declared.orders.Order.{Order}
use Rattle.rules.specs.Incoming.{order_incoming}
use Rattle.law.specs.declared.calls.Call.TheVariants.{Order as order_call}
use Rattle.law.specs.Checks.{order_checks}
use Rattle.law.specs.Memories.{Memory, account}
use Rattle.law.specs.Models.{turn_fills}
use Rattle.law.specs.Outcomes.{after}
use Rattle.law.specs.Turns.{Rules}
use Rattle.law.proofs.Outcomes.{after_accepted}
use Rattle.book.specs.Matches.{after_fills}
use Rattle.book.proofs.Calling.{Passed}

-- an order that passes has its turn, and leaves nothing else behind
pub order_after : (rules : Rules) (m : Memory) (o : Order) → Passed (order_checks m o) → after rules m (order_call o) ≡ after_fills m (turn_fills rules (account m) (order_incoming o))
order_after rules m o passed = after_accepted rules m (order_call o) (sym (ap is_ok passed))
