-- What each call comes to: the answer or refusal, and all that it leaves behind.
use Rattle.std.specs.Prelude.{ℕ, if◌then◌else◌, List, [], is_ok, Ok, Err, Result}
use Rattle.rules.specs.declared.orders.Order.{Order}
use Rattle.rules.specs.declared.refusals.Refusal.{Refusal}
use Rattle.rules.specs.declared.slips.Fill.{Fill}
use Rattle.rules.specs.Incoming.{intent_incoming, order_incoming}
use Rattle.law.specs.declared.answers.Answer.{Answer}
use Rattle.law.specs.declared.answers.Entered.{Entered}
use Rattle.law.specs.declared.answers.Ordered.{Ordered}
use Rattle.law.specs.declared.calls.Call.{Call}
use Rattle.law.specs.declared.calls.Call.TheVariants.{List as list_call, Enter as enter_call, Cancel as cancel_call, Order as order_call}
use Rattle.law.specs.declared.calls.Terms.{Terms}
use Rattle.law.specs.Accounts.{Account, new_intent}
use Rattle.law.specs.Answers.{slip_count}
use Rattle.law.specs.Calls.{advanced, slips_of, entered, withdrawn, ordered, answer_of}
use Rattle.law.specs.Checks.{Check, checked, enter_checks, cancel_checks, order_checks, checks}
use Rattle.law.specs.Memories.{Memory, account, stored}
use Rattle.law.specs.Models.{turn_fills}
use Rattle.law.specs.Turns.{Rules}

-- the fill slips of a call's turn
abbrev pub call_fills : Rules → Account → Call → List Fill
call_fills rules a (list_call s) = []
call_fills rules a (enter_call t) = turn_fills rules a (intent_incoming (new_intent a.next t))
call_fills rules a (cancel_call r) = []
call_fills rules a (order_call o) = turn_fills rules a (order_incoming o)

-- what an accepted call with the fills fs leaves; list needs no table, and leaves table, count and page as they are
abbrev pub left_by : Memory → Call → List Fill → Memory
left_by m (list_call s) fs = record m { securities = (advanced (account m) (list_call s) fs).securities }
left_by m (enter_call t) fs = stored m (advanced (account m) (enter_call t) fs) (slips_of (enter_call t) fs)
left_by m (cancel_call r) fs = stored m (advanced (account m) (cancel_call r) fs) (slips_of (cancel_call r) fs)
left_by m (order_call o) fs = stored m (advanced (account m) (order_call o) fs) (slips_of (order_call o) fs)

abbrev pub accepted : Rules → Memory → Call → Memory
accepted rules m c = left_by m c (call_fills rules (account m) c)

-- y where the checks refuse, and else x
abbrev pub unless_refused : {A : Type 0} → List Check → A → A → A
unless_refused cs x y = if is_ok (checked {A = Unit {0}} cs tt) then x else y

abbrev pub enter_answer : Rules → Memory → Terms → Result Entered Refusal
enter_answer rules m t = checked (enter_checks m t) (entered (account m) t (call_fills rules (account m) (enter_call t)))

-- the volume withdrawn
abbrev pub cancel_answer : Memory → ℕ → ℕ → Result ℕ Refusal
cancel_answer m subscriber n = checked (cancel_checks m subscriber n) (withdrawn (account m) n)

abbrev pub order_answer : Rules → Memory → Order → Result Ordered Refusal
order_answer rules m o = checked (order_checks m o) (ordered o (call_fills rules (account m) (order_call o)))

unfoldable pub outcome : Rules → Memory → Call → Result Answer Refusal
outcome rules m c = checked (checks m c) (answer_of (account m) c (call_fills rules (account m) c))

-- a refused call changes nothing
unfoldable pub after : Rules → Memory → Call → Memory
after rules m c = unless_refused (checks m c) (accepted rules m c) m

-- how many slips a call wrote
abbrev pub slips_told : Result Answer Refusal → ℕ
slips_told (Ok answer) = slip_count answer
slips_told (Err refusal) = 0
