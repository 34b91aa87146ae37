-- One step of a reader inside a call: what was to be read is what came of it, and what is to be read now.
use Rattle.std.specs.Prelude.{ℕ, ◌<◌, List, Ok, Err, Result}
use Rattle.std.specs.Borrow.{Bor}
use Rattle.text.specs.declared.faults.ReadFault.{ReadFault}
use Rattle.text.specs.declared.reader.Reader.{Reader}
use Rattle.text.specs.Grammar.{Form}
use Rattle.text.specs.Keys.{behind}
use Rattle.text.specs.Progress.{to_read, left}
use Rattle.text.specs.Readings.{Reading, fault, onward, keyed}

abbrev pub onward_from : Reader → Form → Reading
onward_from x = onward (to_read x) x.line

-- with what came of the step the form goes on from where the reader is now
abbrev pub went : {A : Type 0} → Result A ReadFault → (A → Form) → Reader → Reading
went (Ok a) next x = onward_from x (next a)
went (Err f) next x = fault f

-- the same for a whole line, whose front is yet to be tested
abbrev pub lined : Result (Bor (List ℕ)) ReadFault → List ℕ → (List ℕ → Form) → Reader → Reading
lined (Ok l) front next x = keyed (to_read x) x.line next (behind front l.now)
lined (Err f) front next x = fault f

-- what has been read is not read again
abbrev pub Advanced : {A : Type 0} → Result A ReadFault → Reader → Reader → Type 0
Advanced (Ok a) x y = left y < left x
Advanced (Err f) x y = Unit {0}
