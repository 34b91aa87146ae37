use Rattle.std.proofs.Common.{◌≡◌, ◌≤◌, drop}
use Rattle.text.specs.Numbers.{within, number_of}
use Rattle.text.proofs.numbers.number.Given as goal

-- the bytes still to come, behind the number so far, give the whole number
abbrev pub invariant-loop-b : goal.invariant-loop-b
invariant-loop-b l = (l.n ≤ 4294967295) × (number_of l.value ≡ within l.n (drop l.b-index l.value))
