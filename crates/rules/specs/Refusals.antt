-- The one place where a refusal gets its number.
use Rattle.std.specs.Prelude.{ℕ}
use Rattle.rules.specs.declared.refusals.Refusal.{Refusal}
use Rattle.rules.specs.declared.refusals.Refusal.TheVariants.{Table, Page, Listing, NotListed, Party, Volume, Limit, LastDay, NotResting, Full, NumbersUsedUp}

abbrev pub number : Refusal → ℕ
number Table = 1
number Page = 2
number Listing = 10
number NotListed = 11
number Party = 20
number Volume = 21
number Limit = 22
number LastDay = 23
number NotResting = 24
number Full = 25
number NumbersUsedUp = 26
