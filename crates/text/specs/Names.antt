-- The names of the calls, as scripts and listings have them.
use Rattle.std.specs.Prelude.{ℕ, if◌then◌else◌, List, Some, None, codes, Option, Ok, Err, Result}
use Rattle.std.specs.Str.{bytes_eq}
use Rattle.rules.specs.declared.calls.Call.{Call}
use Rattle.rules.specs.declared.calls.Call.TheVariants.{List as list_call}
use Rattle.text.specs.declared.faults.Cause.{Cause}
use Rattle.text.specs.declared.faults.Cause.TheVariants.{Key}
use Rattle.text.specs.declared.names.CallName.{CallName}
use Rattle.text.specs.declared.names.CallName.TheVariants.{List as list_name}

abbrev pub spelled : CallName → List ℕ
spelled list_name = codes "list"

abbrev pub named : List ℕ → Option CallName
named bytes = if bytes_eq bytes (spelled list_name) then Some list_name else None

-- a name, or the cause of the fault where there is none
abbrev pub known : Option CallName → Result CallName Cause
known None = Err Key
known (Some name) = Ok name

abbrev pub name_of : Call → CallName
name_of (list_call security) = list_name
