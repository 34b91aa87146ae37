-- What a script says: its calls, one after another, up to its end or its first fault.
use Rattle.std.specs.Prelude.{ℕ, ◌+◌, Bool, true, false, if◌then◌else◌, List, [], ◌∷◌, length, Some, None, Ok, Err, codes, Option, Result, nat_lt}
use Rattle.rules.specs.declared.calls.Call.{Call}
use Rattle.text.specs.declared.faults.Cause.{Cause}
use Rattle.text.specs.declared.faults.Cause.TheVariants.{TooLong, Key, Unfinished}
use Rattle.text.specs.declared.faults.ReadFault.{ReadFault}
use Rattle.text.specs.Keys.{behind}
use Rattle.text.specs.Lines.{Line, lines}
use Rattle.text.specs.Grammar.{Form, done, wrong, ask, form_of}

pub data Reading : Type 0 where
  end : Reading
  fault : ReadFault → Reading
  call : Call → Reading → Reading

abbrev pub faulty : Cause → ℕ → Reading
faulty cause line = fault (record { cause = cause; line = line })

-- what the next line has to begin with, what its value leads to, and whether a call has begun
pub record Due : Type 0 where
  pub front : List ℕ
  pub next : List ℕ → Form
  pub inside : Bool

abbrev pub start : Due
start = record { front = codes "call="; next = form_of; inside = false }

-- inside a call
abbrev pub asked : List ℕ → (List ℕ → Form) → Due
asked front next = record { front = front; next = next; inside = true }

-- onward from line n: `go` reads the lines behind it
abbrev pub onward : (Due → Reading) → ℕ → Form → Reading
onward go n (done c) = call c (go start)
onward go n (wrong cause) = faulty cause n
onward go n (ask front next) = go (asked front next)

abbrev pub keyed : (Due → Reading) → ℕ → (List ℕ → Form) → Option (List ℕ) → Reading
keyed go n next None = faulty Key n
keyed go n next (Some value) = onward go n (next value)

-- the lines behind line n
abbrev pub read : List Line → ℕ → Due → Reading
read [] n due = if due.inside then faulty Unfinished n else end
read (l ∷ ls) n due =
    if l.ended then keyed (read ls (n + 1)) (n + 1) due.next (behind due.front l.text) else faulty Unfinished (n + 1)

-- a script of more than 16,384 bytes is not read at all
abbrev pub length_check : List ℕ → Result (Unit {0}) ReadFault
length_check script = if nat_lt 16384 (length script) then Err (record { cause = TooLong; line = 0 }) else Ok tt

abbrev pub if_fit : Result (Unit {0}) ReadFault → Reading → Reading
if_fit (Ok u) rest = rest
if_fit (Err f) rest = fault f

abbrev pub reading : List ℕ → Reading
reading script = if_fit (length_check script) (read (lines script) 0 start)
