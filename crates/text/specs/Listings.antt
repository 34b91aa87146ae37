-- The lines of a listing, byte for byte.
use Rattle.std.specs.Prelude.{ℕ, List, [], ◌∷◌, ◌++◌, Ok, Err, codes, decimal, Result}
use Rattle.rules.specs.declared.calls.Answer.{Answer}
use Rattle.rules.specs.declared.calls.Answer.TheVariants.{Listed}
use Rattle.rules.specs.declared.calls.Call.{Call}
use Rattle.rules.specs.declared.refusals.Refusal.{Refusal}
use Rattle.rules.specs.Refusals.{number as refusal_number}
use Rattle.text.specs.declared.faults.ReadFault.{ReadFault}
use Rattle.text.specs.Faults.{number as fault_number}
use Rattle.text.specs.Names.{spelled, name_of}

abbrev pub line : List ℕ → List ℕ → List ℕ
line front value = front ++ (value ++ (10 ∷ []))

-- what an accepted call prints below its name
abbrev pub answer_text : Answer → List ℕ
answer_text Listed = []

abbrev pub outcome_text : Call → Result Answer Refusal → List ℕ
outcome_text c (Ok answer) = line (codes "ok=") (spelled (name_of c)) ++ answer_text answer
outcome_text c (Err refusal) = line (codes "refused=") (decimal (refusal_number refusal))

abbrev pub fault_text : ReadFault → List ℕ
fault_text f = line (codes "fault=") (decimal (fault_number f.cause)) ++ line (codes "line=") (decimal f.line)
