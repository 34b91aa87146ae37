-- The calls of a script: what each line begins with, and what its value leads to.
use Rattle.std.specs.Prelude.{ℕ, List, Some, None, codes, Option}
use Rattle.rules.specs.declared.calls.Call.{Call}
use Rattle.rules.specs.declared.calls.Call.TheVariants.{List as list_call}
use Rattle.text.specs.declared.faults.Cause.{Cause}
use Rattle.text.specs.declared.faults.Cause.TheVariants.{Key, Value}
use Rattle.text.specs.declared.names.CallName.{CallName}
use Rattle.text.specs.declared.names.CallName.TheVariants.{List as list_name}
use Rattle.text.specs.Names.{named}
use Rattle.text.specs.Numbers.{number_of}

-- A call that is complete, a fault in the line just read, or a line more: its front, and what the value behind it leads to.
pub data Form : Type 0 where
  done : Call → Form
  wrong : Cause → Form
  ask : List ℕ → (List ℕ → Form) → Form

abbrev pub if_number : (ℕ → Form) → Option ℕ → Form
if_number next None = wrong Value
if_number next (Some n) = next n

abbrev pub number_then : (ℕ → Form) → List ℕ → Form
number_then next value = if_number next (number_of value)

abbrev pub list_form : Form
list_form = ask (codes "sec=") (number_then (λ security. done (list_call security)))

abbrev pub call_form : Option CallName → Form
call_form None = wrong Key
call_form (Some list_name) = list_form

-- by the name of the call
abbrev pub form_of : List ℕ → Form
form_of name = call_form (named name)
