-- The account of a run: what calls and fill slips come to.
use Rattle.std.specs.Prelude.{ℕ, ◌+◌, ◌-◌, if◌then◌else◌, not, ◌||◌, List, [], ◌∷◌, Some, None, Option, ◌==◌, nat_lt, slice_index_or}
use Rattle.std.specs.List.{filter, find as find_first}
use Rattle.rules.specs.declared.intents.Intent.{Intent}
use Rattle.rules.specs.declared.intents.Side.{Side}
use Rattle.rules.specs.declared.incoming.Incoming.{Incoming}
use Rattle.rules.specs.declared.phases.Phase.{Phase}
use Rattle.rules.specs.declared.phases.Phase.TheVariants.{PreOpen}
use Rattle.rules.specs.declared.quotes.Quote.{Quote}
use Rattle.rules.specs.declared.securities.Security.{Security}
use Rattle.rules.specs.declared.slips.Fill.{Fill}
use Rattle.rules.specs.Eligibility.{eligible}
use Rattle.rules.specs.Securities.{unlisted, none_listed, in_force}
use Rattle.law.specs.declared.calls.Terms.{Terms}
use Rattle.law.specs.Lists.{total}

pub record Account : Type 0 where
  pub phase : Phase
  pub day : ℕ
  -- the number that the next intent gets
  pub next : ℕ
  pub securities : List Security
  -- by rising number
  pub resting : List Intent

-- as a new book stands
abbrev pub opened : Account
opened = record { phase = PreOpen; day = 1; next = 1; securities = none_listed; resting = [] }

abbrev pub security : Account → ℕ → Security
security a s = slice_index_or a.securities s unlisted

-- the quote that a security trades under now
abbrev pub quote_in_force : Account → ℕ → Option Quote
quote_in_force a s = in_force a.phase (security a s)

-- the resting intents that are eligible for i, by a price rule, under the quote in force
abbrev pub eligible_under : (Quote → Side → ℕ) → Option Quote → Incoming → List Intent → List Intent
eligible_under price None i ps = []
eligible_under price (Some q) i ps = filter (eligible q (price q i.side) i) ps

abbrev pub eligible_for : (Quote → Side → ℕ) → Account → Incoming → List Intent
eligible_for price a i = eligible_under price (quote_in_force a i.security) i a.resting

-- the shares of some fill slips
abbrev pub volume_of : List Fill → ℕ
volume_of fs = total (λ (f : Fill). f.volume) fs

-- the shares that fill slips give an intent, as either party
abbrev pub traded : ℕ → List Fill → ℕ
traded n fs = total (λ (f : Fill). if f.active == n || f.passive == n then f.volume else 0) fs

abbrev pub with_left : Intent → ℕ → Intent
with_left p v = record p { remaining = v }

-- what is left of the intents after some fills; an emptied one leaves
abbrev pub lessen : List Fill → List Intent → List Intent
lessen fs [] = []
lessen fs (p ∷ ps) =
    let left : ℕ = p.remaining - traded p.number fs in
    if nat_lt 0 left then with_left p left ∷ lessen fs ps else lessen fs ps

-- all but the intent with this number
abbrev pub without : ℕ → List Intent → List Intent
without n ps = filter (λ (p : Intent). not (p.number == n)) ps

-- the volume that an intent has left: 0 where it does not rest
abbrev pub left_of : ℕ → List Intent → ℕ
left_of n ps = total (λ (p : Intent). if p.number == n then p.remaining else 0) ps

-- the intent with a number
abbrev pub find : ℕ → List Intent → Option Intent
find n ps = find_first (λ (p : Intent). p.number == n) ps

-- an account with other resting intents
abbrev pub holding : Account → List Intent → Account
holding a ps = record a { resting = ps }

abbrev pub with_securities : Account → List Security → Account
with_securities a ss = record a { securities = ss }

-- one arrival number is used up
abbrev pub numbered : Account → Account
numbered a = record a { next = a.next + 1 }

-- an intent as it comes in, under its number
abbrev pub new_intent : ℕ → Terms → Intent
new_intent n t = record {
  security = t.security;
  subscriber = t.subscriber;
  group = t.group;
  side = t.side;
  entered = t.volume;
  remaining = t.volume;
  limit = t.limit;
  minimums = t.minimums;
  last_day = t.last_day;
  number = n;
}
