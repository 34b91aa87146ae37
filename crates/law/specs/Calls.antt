-- What each call sets, answers and writes on an account, given the fill slips of its turn.
use Rattle.std.specs.Prelude.{ℕ, ◌-◌, List, [], ◌∷◌, ◌++◌, map, length, slice_set}
use Rattle.rules.specs.declared.orders.Order.{Order}
use Rattle.rules.specs.declared.slips.Fill.{Fill}
use Rattle.rules.specs.declared.slips.Slip.{Slip}
use Rattle.rules.specs.declared.slips.Slip.TheVariants.{Filled}
use Rattle.rules.specs.Securities.{just_listed}
use Rattle.law.specs.declared.answers.Answer.{Answer}
use Rattle.law.specs.declared.answers.Answer.TheVariants.{Listed, Entered as entered_answer, Cancelled, Ordered as ordered_answer}
use Rattle.law.specs.declared.answers.Entered.{Entered}
use Rattle.law.specs.declared.answers.Ordered.{Ordered}
use Rattle.law.specs.declared.calls.Call.{Call}
use Rattle.law.specs.declared.calls.Call.TheVariants.{List as list_call, Enter as enter_call, Cancel as cancel_call, Order as order_call}
use Rattle.law.specs.declared.calls.Terms.{Terms}
use Rattle.law.specs.Accounts.{Account, volume_of, lessen, without, left_of, holding, with_securities, numbered, new_intent}

-- the new intent is noted behind the others, and fills lessen both parties
abbrev pub with_entry : Account → Terms → List Fill → Account
with_entry a t fs = numbered (holding a (lessen fs (a.resting ++ (new_intent a.next t ∷ []))))

-- the account after an accepted call with the fill slips fs
abbrev pub advanced : Account → Call → List Fill → Account
advanced a (list_call s) fs = with_securities a (slice_set a.securities s just_listed)
advanced a (enter_call t) fs = with_entry a t fs
advanced a (cancel_call r) fs = holding a (without r.number a.resting)
advanced a (order_call o) fs = holding a (lessen fs a.resting)

-- the slips that a call with the fills fs writes
abbrev pub slips_of : Call → List Fill → List Slip
slips_of (list_call s) fs = []
slips_of (enter_call t) fs = map Filled fs
slips_of (cancel_call r) fs = []
slips_of (order_call o) fs = map Filled fs

abbrev pub entered : Account → Terms → List Fill → Entered
entered a t fs = record { number = a.next; resting = left_of a.next (with_entry a t fs).resting; slips = length fs }

abbrev pub withdrawn : Account → ℕ → ℕ
withdrawn a n = left_of n a.resting

abbrev pub ordered : Order → List Fill → Ordered
ordered o fs = record { residual = o.volume - volume_of fs; slips = length fs }

abbrev pub answer_of : Account → Call → List Fill → Answer
answer_of a (list_call s) fs = Listed
answer_of a (enter_call t) fs = entered_answer (entered a t fs)
answer_of a (cancel_call r) fs = Cancelled (withdrawn a r.number)
answer_of a (order_call o) fs = ordered_answer (ordered o fs)
