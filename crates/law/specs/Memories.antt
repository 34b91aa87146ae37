-- All that a call reads and writes: what the book keeps, and the table and page that are lent to it.
use Rattle.std.specs.Prelude.{ℕ, ◌-◌, min, Bool, true, ◌&&◌, List, [], ◌∷◌, ◌++◌, length, take, drop, replicate, nat_le, nat_lt}
use Rattle.std.specs.List.{list_all}
use Rattle.rules.specs.declared.intents.Intent.{Intent}
use Rattle.rules.specs.declared.phases.Phase.{Phase}
use Rattle.rules.specs.declared.securities.Security.{Security}
use Rattle.rules.specs.declared.slips.Slip.{Slip}
use Rattle.rules.specs.Blanks.{blank_intent}
use Rattle.rules.specs.Intents.{in_range, is_blank}
use Rattle.law.specs.Accounts.{Account}

pub record Memory : Type 0 where
  pub phase : Phase
  pub day : ℕ
  pub next : ℕ
  pub securities : List Security
  -- how many intents rest
  pub count : ℕ
  pub table : List Intent
  pub page : List Slip

-- places beyond the capacity are neither read nor written
abbrev pub capacity : List Intent → ℕ
capacity table = min (length table) 4096

-- the account that a book and the first places of its table come to
abbrev pub account : Memory → Account
account m = record { phase = m.phase; day = m.day; next = m.next; securities = m.securities; resting = take m.count m.table }

-- intents in range, their numbers rising from above `last` and below `next`
abbrev pub lawful_intents : ℕ → ℕ → List Intent → Bool
lawful_intents last next [] = true
lawful_intents last next (p ∷ ps) = in_range p && (nat_lt last p.number && (nat_lt p.number next && lawful_intents p.number next ps))

-- as many intents as the book counts come first, and all later places up to the capacity are blank
abbrev pub lawful_table : ℕ → ℕ → List Intent → Bool
lawful_table count next table =
    nat_le count (capacity table) &&
    (lawful_intents 0 next (take count table) &&
    list_all is_blank (drop count (take (capacity table) table)))

-- the intents in their order, blanks up to the capacity, and what stood beyond it
abbrev pub laid_out : List Intent → List Intent → List Intent
laid_out resting table = resting ++ (replicate (capacity table - length resting) blank_intent ++ drop (capacity table) table)

-- the slips from the first place on, and what stood behind them
abbrev pub written : List Slip → List Slip → List Slip
written slips page = slips ++ drop (length slips) page

-- the memory with the account b in it and these slips on the page
abbrev pub stored : Memory → Account → List Slip → Memory
stored m b slips = record {
  phase = b.phase;
  day = b.day;
  next = b.next;
  securities = b.securities;
  count = length b.resting;
  table = laid_out b.resting m.table;
  page = written slips m.page;
}
