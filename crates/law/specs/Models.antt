-- What a turn gives, step by step: the eligible intents in a queue, foremost first.
use Rattle.std.specs.Prelude.{ℕ, ◌-◌, min, Bool, if◌then◌else◌, List, [], ◌∷◌, Some, None, Option, nat_lt}
use Rattle.rules.specs.declared.incoming.Incoming.{Incoming}
use Rattle.rules.specs.declared.intents.Intent.{Intent}
use Rattle.rules.specs.declared.intents.Standing.{Standing}
use Rattle.rules.specs.declared.quotes.Quote.{Quote}
use Rattle.rules.specs.declared.slips.Fill.{Fill}
use Rattle.rules.specs.Intents.{standing}
use Rattle.law.specs.Accounts.{Account, quote_in_force, eligible_for}
use Rattle.law.specs.Turns.{Rules, active_number}

-- into its place, behind all that it is not ahead of
abbrev pub place : (Standing → Standing → Bool) → Intent → List Intent → List Intent
place ahead p [] = p ∷ []
place ahead p (q ∷ qs) = if ahead (standing p) (standing q) then p ∷ (q ∷ qs) else q ∷ place ahead p qs

-- foremost first
abbrev pub queue : (Standing → Standing → Bool) → List Intent → List Intent
queue ahead [] = []
queue ahead (p ∷ ps) = place ahead p (queue ahead ps)

-- each takes the smaller of what it has left and what is left of the incoming volume
abbrev pub serve : ℕ → ℕ → ℕ → ℕ → List Intent → List Fill
serve active price mark left [] = []
serve active price mark left (p ∷ ps) =
    if nat_lt 0 left
    then record { active = active; passive = p.number; volume = min p.remaining left; price = price; mark = mark } ∷ serve active price mark (left - min p.remaining left) ps
    else []

abbrev pub fills_under : Rules → Option Quote → Account → Incoming → List Fill
fills_under rules None a i = []
fills_under rules (Some q) a i =
    serve (active_number i.number) (rules.price q i.side) rules.mark i.volume (queue (rules.ahead i.subscriber) (eligible_for rules.price a i))

-- the fill slips of i's turn
abbrev pub turn_fills : Rules → Account → Incoming → List Fill
turn_fills rules a i = fills_under rules (quote_in_force a i.security) a i
