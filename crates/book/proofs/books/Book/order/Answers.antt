use Rattle.std.proofs.Common.{arith}
use Rattle.std.proofs.lemmas.Grind.{common_steps}
use Rattle.law.specs.Checks.{order_checks}
use Rattle.ledger.specs.Ledgers.{memory}
use Rattle.book.proofs.Calling.{refused_alike, turned_by_law}
use Rattle.book.proofs.books.Book.order.Goals as goal

pub returns-in_err-check_order-clause-answer : goal.returns-in_err-check_order-clause-answer
returns-in_err-check_order-clause-answer g c =
    refused_alike (order_checks (memory c.args.self.now.ledger c.args.table.now c.args.page.now) c.args.order.now) _ _ _ c.from_residual.ensures.1 c.in_err-check_order.ensures

pub returns-clause-turn : goal.returns-clause-turn
returns-clause-turn g c =
    turned_by_law (record { total = g.met.P.Priority.total c.args.self.now.rule_set.priority; transitive = g.met.P.Priority.transitive c.args.self.now.rule_set.priority; between = g.met.R.PriceRule.between c.args.self.now.rule_set.rule })
    (rw c.from.ensures at c.match_incoming-turned.ensures.matched) (grind (arith, common_steps))
