-- A turn over the table in place: an emptied intent keeps its place, with nothing remaining, until the table is closed up.
use Rattle.std.specs.Prelude.{◌≡◌, ℕ, ◌+◌, ◌-◌, ◌<◌, ◌≤◌, min, Bool, true, false, ◌&&◌, List, [], ◌∷◌, map, length, Some, None, Option, ◌≢◌, slice_set}
use Rattle.std.specs.List.{filter}
use Rattle.rules.specs.declared.incoming.Incoming.{Incoming}
use Rattle.rules.specs.declared.intents.Intent.{Intent}
use Rattle.rules.specs.declared.intents.Standing.{Standing}
use Rattle.rules.specs.declared.quotes.Quote.{Quote}
use Rattle.rules.specs.declared.slips.Fill.{Fill}
use Rattle.rules.specs.declared.slips.Slip.{Slip}
use Rattle.rules.specs.declared.slips.Slip.TheVariants.{Filled}
use Rattle.rules.specs.Eligibility.{eligible}
use Rattle.rules.specs.Intents.{standing}
use Rattle.law.specs.Accounts.{with_left, volume_of}
use Rattle.law.specs.Models.{queue, serve}
use Rattle.law.specs.Turns.{Rules, given, active_number}
use Rattle.ledger.specs.Places.{at, live}
use Rattle.book.specs.declared.turns.Turned.{Turned}

-- something is left of it, and it is eligible
unfoldable pub ready : Quote → ℕ → Incoming → Intent → Bool
ready q price i p = live p && eligible q price i p

-- none of the first n passes the test
abbrev pub Nowhere : (Intent → Bool) → List Intent → ℕ → Type 0
Nowhere t ps n = (k : ℕ) → k < n → t (at ps k) ≡ false

-- the one at i passes the test, and no other of the first n that passes it is ahead
pub record Foremost (ahead : Standing → Standing → Bool) (t : Intent → Bool) (ps : List Intent) (n i : ℕ) : Type 0 where
  pub within : i < n
  pub ready_there : t (at ps i) ≡ true
  pub best : (k : ℕ) → k < n → (k ≢ i) → t (at ps k) ≡ true → ahead (standing (at ps k)) (standing (at ps i)) ≡ false

-- no two of the first n have one number
abbrev pub Distinct : List Intent → ℕ → Type 0
Distinct ps n = (j k : ℕ) → j < n → k < n → (j ≢ k) → (at ps j).number ≢ (at ps k).number

-- what a turn with this volume left gives, over a table with emptied intents in it
abbrev pub turn_of : (Standing → Standing → Bool) → Quote → ℕ → ℕ → Incoming → ℕ → List Intent → List Fill
turn_of ahead q price mark i left ps = serve (active_number i.number) price mark left (queue ahead (filter (ready q price i) ps))

-- what i's turn gives under a quote, if there is one
abbrev pub turn_under : Rules → Option Quote → Incoming → List Intent → List Fill
turn_under rules None i ps = []
turn_under rules (Some q) i ps = turn_of (rules.ahead i.subscriber) q (rules.price q i.side) rules.mark i i.volume ps

-- what fills leave of a passive intent: it keeps its place
abbrev pub relieved : List Fill → Intent → Intent
relieved fs p = with_left p (p.remaining - given fs p.number)

-- a page with the fills' slips from a place on
abbrev pub written_from : List Slip → ℕ → List Fill → List Slip
written_from page place [] = page
written_from page place (f ∷ fs) = written_from (slice_set page place (Filled f)) (place + 1) fs

-- how many have something left
abbrev pub alive : List Intent → ℕ
alive ps = length (filter live ps)

-- fs are handed out: a slip for each from the page's first place on, and each intent has what they leave of it
pub record Handed (fs : List Fill) (volume : ℕ) (ps ps' : List Intent) (page page' : List Slip) (r : Turned) : Type 0 where
  pub counted : r.slips ≡ length fs
  pub rest : r.left ≡ volume - volume_of fs
  pub pages : page' ≡ written_from page 0 fs
  pub table : ps' ≡ map (relieved fs) ps
  -- each slip empties an intent, or uses up the volume
  pub few : r.slips ≤ alive ps
  pub emptied : r.slips + alive ps' + min r.left 1 ≤ alive ps + min volume 1
