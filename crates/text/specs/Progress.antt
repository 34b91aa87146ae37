-- How far a reader has come, and what it has still to read.
use Rattle.std.specs.Prelude.{◌≡◌, ℕ, ◌-◌, length, drop, Some, None, Ok, Err, Option, Result}
use Rattle.rules.specs.declared.calls.Call.{Call}
use Rattle.text.specs.declared.faults.ReadFault.{ReadFault}
use Rattle.text.specs.declared.reader.Reader.{Reader}
use Rattle.text.specs.Lines.{lines}
use Rattle.text.specs.Readings.{Reading, end, fault, call, Due, read}

-- what it has still to read, with one line due
abbrev pub to_read : Reader → Due → Reading
to_read x = read (lines (drop x.at x.text.now)) x.line

-- the next call and then the rest, or the end of the script, or its fault
abbrev pub followed_by : Result (Option Call) ReadFault → Reading → Reading
followed_by (Ok None) rest = end
followed_by (Ok (Some c)) rest = call c rest
followed_by (Err f) rest = fault f

-- at the end and at a fault nothing is read
abbrev pub Stays : Result (Option Call) ReadFault → Reading → Reading → Type 0
Stays (Ok None) before after = after ≡ before
Stays (Ok (Some c)) before after = Unit {0}
Stays (Err f) before after = after ≡ before

-- how many bytes are left to read
abbrev pub left : Reader → ℕ
left x = length x.text.now - x.at
