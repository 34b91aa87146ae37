-- The one place where a fault gets its number.
use Rattle.std.specs.Prelude.{ℕ}
use Rattle.text.specs.declared.faults.Cause.{Cause}
use Rattle.text.specs.declared.faults.Cause.TheVariants.{TooLong, Key, Value, Unfinished}

abbrev pub number : Cause → ℕ
number TooLong = 40
number Key = 41
number Value = 42
number Unfinished = 43
