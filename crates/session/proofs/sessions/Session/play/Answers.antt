use Rattle.std.proofs.Common.{Ok, Option, ap, ◌∙◌}
use Rattle.rules.specs.declared.calls.Call.{Call}
use Rattle.text.specs.Progress.{to_read, followed_by}
use Rattle.text.specs.Readings.{start}
use Rattle.session.specs.declared.sessions.Session.{Session}
use Rattle.session.specs.Calls.{call_after}
use Rattle.session.proofs.Underway.{onward, still}
use Rattle.session.proofs.sessions.Session.play.Goals as goal

pub loop-call-preserved : goal.loop-call-preserved
loop-call-preserved c =
    let rest = to_read c.next_call.new.self start in
    let read = c.in_ok-call.ensures.reads ∙ ap (λ (o : Option Call). followed_by (Ok o) rest) c.in-Some.is in (
      onward _ _ _ c.in-Some.call _ rest _ _ _ _ _ c.loop-call.invariant.0 read c.call-outcome.ensures.answer (ap (λ (s : Session). s.book.ledger) c.call-outcome.ensures.after) c.in_ok-write_outcome.ensures,
      still c.args.self.now c.loop-call.self c.call-outcome.new.self (call_after c.loop-call.self.book.ledger c.in-Some.call) c.loop-call.invariant.1 c.call-outcome.ensures.after,
    )
