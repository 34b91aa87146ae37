-- A turn and the closing up behind it, in the words of the model.
use Rattle.std.specs.Prelude.{◌≡◌, ℕ, ◌-◌, ◌≤◌, List, map, length, IfSome, Option}
use Rattle.rules.specs.declared.incoming.Incoming.{Incoming}
use Rattle.rules.specs.declared.slips.Fill.{Fill}
use Rattle.rules.specs.declared.slips.Slip.TheVariants.{Filled}
use Rattle.law.specs.Accounts.{volume_of, lessen, holding}
use Rattle.law.specs.Memories.{Memory, account, stored}
use Rattle.law.specs.Models.{turn_fills}
use Rattle.law.specs.Turns.{Rules}
use Rattle.book.specs.declared.turns.Turned.{Turned}

-- the party has no number, or one that no resting intent has yet
abbrev pub ComesNew : Option ℕ → ℕ → Type 0
ComesNew o next = IfSome o (λ n. next ≤ n)

-- the memory after fills against resting intents, with a slip for each
abbrev pub after_fills : Memory → List Fill → Memory
after_fills m fs = stored m (holding (account m) (lessen fs (account m).resting)) (map Filled fs)

-- i's turn took the memory from m to m'
pub record Matched (rules : Rules) (i : Incoming) (m m' : Memory) (r : Turned) : Type 0 where
  pub slips : r.slips ≡ length (turn_fills rules (account m) i)
  pub left : r.left ≡ i.volume - volume_of (turn_fills rules (account m) i)
  pub fits : r.slips ≤ length m.page
  pub after : m' ≡ after_fills m (turn_fills rules (account m) i)
