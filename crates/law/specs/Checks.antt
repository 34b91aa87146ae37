-- What is refused: for each call the tests that have to hold, in order, each with the refusal where it does not.
use Rattle.std.specs.Prelude.{ℕ, Bool, true, false, if◌then◌else◌, not, ◌&&◌, List, [], ◌∷◌, length, Some, None, Ok, Err, Option, Result, ◌==◌, nat_le, nat_lt}
use Rattle.rules.specs.declared.intents.Intent.{Intent}
use Rattle.rules.specs.declared.orders.Order.{Order}
use Rattle.rules.specs.declared.refusals.Refusal.{Refusal}
use Rattle.rules.specs.declared.refusals.Refusal.TheVariants.{Table, Page, Listing, NotListed, Party, Volume, Limit, LastDay, NotResting, Full, NumbersUsedUp}
use Rattle.rules.specs.declared.minimums.Minimums.{Minimums}
use Rattle.rules.specs.Minimums.{are_minimums}
use Rattle.rules.specs.Securities.{is_listed}
use Rattle.rules.specs.Ranges.{is_security, is_subscriber, is_group, is_volume, is_price, is_day}
use Rattle.law.specs.declared.calls.Call.{Call}
use Rattle.law.specs.declared.calls.Call.TheVariants.{List as list_call, Enter as enter_call, Cancel as cancel_call, Order as order_call}
use Rattle.law.specs.declared.calls.Terms.{Terms}
use Rattle.law.specs.Accounts.{security, find}
use Rattle.law.specs.Memories.{Memory, capacity, account, lawful_table}

abbrev pub Check : Type 0
Check = Bool × Refusal

-- x, unless a test fails: then the refusal of the first that does
abbrev pub checked : {A : Type 0} → List Check → A → Result A Refusal
checked [] x = Ok x
checked (c ∷ cs) x = if c.0 then checked cs x else Err c.1

abbrev pub is_price_if_any : Option ℕ → Bool
is_price_if_any None = true
is_price_if_any (Some limit) = is_price limit

-- it is there, and the subscriber's
abbrev pub is_of : ℕ → Option Intent → Bool
is_of subscriber None = false
is_of subscriber (Some p) = p.subscriber == subscriber

module _ (m : Memory) where
  abbrev pub table_check : Check
  table_check = (lawful_table m.count m.next m.table, Table)

  abbrev pub page_check : Check
  page_check = (nat_le m.count (length m.page), Page)

  abbrev pub unlisted_check : ℕ → Check
  unlisted_check s = (not (is_listed (security (account m) s)), Listing)

  abbrev pub listed_check : ℕ → Check
  listed_check s = (is_security s && is_listed (security (account m) s), NotListed)

  abbrev pub party_check : ℕ → ℕ → Check
  party_check subscriber group = (is_subscriber subscriber && is_group group, Party)

  abbrev pub volume_check : ℕ → Check
  volume_check volume = (is_volume volume, Volume)

  abbrev pub limit_check : ℕ → Minimums → Check
  limit_check limit minimums = (is_price limit && are_minimums minimums, Limit)

  -- the present day is early enough, and there is such a day
  abbrev pub last_day_check : ℕ → Check
  last_day_check last = (nat_le m.day last && is_day last, LastDay)

  abbrev pub resting_check : ℕ → ℕ → Check
  resting_check subscriber n = (is_of subscriber (find n (account m).resting), NotResting)

  abbrev pub room_check : Check
  room_check = (nat_lt m.count (capacity m.table), Full)

  abbrev pub number_check : Check
  number_check = (nat_le m.next 999999999, NumbersUsedUp)

  abbrev pub list_checks : ℕ → List Check
  list_checks s = (is_security s, Listing) ∷ (unlisted_check s ∷ [])

  abbrev pub enter_checks : Terms → List Check
  enter_checks t =
      table_check ∷ (page_check ∷ (listed_check t.security ∷
      (party_check t.subscriber t.group ∷ (volume_check t.volume ∷
      (limit_check t.limit t.minimums ∷ (last_day_check t.last_day ∷
      (room_check ∷ (number_check ∷ []))))))))

  abbrev pub cancel_checks : ℕ → ℕ → List Check
  cancel_checks subscriber n = table_check ∷ (resting_check subscriber n ∷ [])

  abbrev pub order_checks : Order → List Check
  order_checks o =
      table_check ∷ (page_check ∷ (listed_check o.security ∷
      ((is_subscriber o.subscriber, Party) ∷ (volume_check o.volume ∷ ((is_price_if_any o.limit, Limit) ∷ [])))))

  abbrev pub checks : Call → List Check
  checks (list_call s) = list_checks s
  checks (enter_call t) = enter_checks t
  checks (cancel_call r) = cancel_checks r.subscriber r.number
  checks (order_call o) = order_checks o
