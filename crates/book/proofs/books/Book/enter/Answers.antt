use Rattle.std.proofs.Common.{arith}
use Rattle.std.proofs.lemmas.Grind.{common_steps}
use Rattle.law.specs.Checks.{enter_checks}
use Rattle.ledger.specs.Ledgers.{memory}
use Rattle.book.proofs.Calling.{refused_alike, turned_by_law}
use Rattle.book.proofs.Entering.{open_by, free, enter_answered}
use Rattle.book.proofs.books.Book.enter.Goals as goal

pub returns-in_err-check_enter-clause-answer : goal.returns-in_err-check_enter-clause-answer
returns-in_err-check_enter-clause-answer g c =
    refused_alike (enter_checks (memory c.args.self.now.ledger c.args.table.now c.args.page.now) c.args.terms.now) _ _ _ c.from_residual.ensures.1 c.in_err-check_enter.ensures

pub overflow_add-self : goal.overflow_add-self
overflow_add-self g c = omega (arith, (open_by (memory c.args.self.now.ledger c.args.table.now c.args.page.now) c.args.terms.now c.in_ok-check_enter.ensures).numbers)

pub rest_behind-self-requires : goal.rest_behind-self-requires
rest_behind-self-requires g c = grind (arith, common_steps, free (memory c.args.self.now.ledger c.args.table.now c.args.page.now) c.args.terms.now c.in_ok-check_enter.ensures)

pub returns-clause-answer : goal.returns-clause-answer
returns-clause-answer g c =
    enter_answered _ (memory c.args.self.now.ledger c.args.table.now c.args.page.now) c.args.terms.now c.in_ok-check_enter.ensures
    (rw (c.from.ensures, c.intent-intent.ensures) at c.match_incoming-turned.ensures.matched)

pub returns-clause-turn : goal.returns-clause-turn
returns-clause-turn g c =
    let set = c.args.self.now.rule_set in
    turned_by_law (record { total = g.met.P.Priority.total set.priority; transitive = g.met.P.Priority.transitive set.priority; between = g.met.R.PriceRule.between set.rule })
    (rw (c.from.ensures, c.intent-intent.ensures) at c.match_incoming-turned.ensures.matched)
    (open_by (memory c.args.self.now.ledger c.args.table.now c.args.page.now) c.args.terms.now c.in_ok-check_enter.ensures).lawful
