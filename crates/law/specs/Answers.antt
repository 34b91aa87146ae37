-- How many slips an answer counts.
use Rattle.std.specs.Prelude.{ℕ}
use Rattle.law.specs.declared.answers.Answer.{Answer}
use Rattle.law.specs.declared.answers.Answer.TheVariants.{Listed, Entered, Cancelled, Ordered}

abbrev pub slip_count : Answer → ℕ
slip_count Listed = 0
slip_count (Entered e) = e.slips
slip_count (Cancelled withdrawn) = 0
slip_count (Ordered o) = o.slips
