use Rattle.std.specs.Option.{MatchOption}
use Rattle.book.specs.InPlace.{ready, Nowhere, Foremost}
use Rattle.book.proofs.turns.foremost.Given as goal

abbrev pub invariant-loop-i : goal.invariant-loop-i
invariant-loop-i g l =
    MatchOption l.best (Nowhere (ready l.seeker.quote l.seeker.price l.seeker.incoming) l.intents l.i)
    (λ b. Foremost (g.P.Priority.ahead l.priority l.seeker.incoming.subscriber) (ready l.seeker.quote l.seeker.price l.seeker.incoming) l.intents l.i b)
