-- The call enter: its turn, and what is left of it behind the others.
use Rattle.std.proofs.Common.{◌≡◌, ℕ, suc, ◌+◌, ◌-◌, ◌<◌, ◌≤◌, Bool, true, false, cond, ltb, List, [], ◌∷◌, ◌++◌, length, take, drop, set, replicate, Some, None, Ok, is_ok, Option, sym, refl, ap, ◌∙◌, append_assoc, arith}
use Rattle.std.specs.List.{AllByRecursion}
use lib.Seq.{set_at}
use Rattle.std.proofs.lemmas.List.{append-nil, length_push}
use Rattle.std.proofs.lemmas.Bool.{ltb-true, leb-true}
use Rattle.std.proofs.lemmas.Grind.{common_steps}
use Rattle.rules.specs.declared.incoming.Incoming.{Incoming}
use Rattle.rules.specs.declared.intents.Intent.{Intent}
use Rattle.rules.specs.declared.quotes.Quote.{Quote}
use Rattle.rules.specs.declared.slips.Fill.{Fill}
use Rattle.rules.specs.Blanks.{blank_intent}
use Rattle.rules.specs.Incoming.{intent_incoming}
use Rattle.law.specs.declared.calls.Call.TheVariants.{Enter as enter_call}
use Rattle.law.specs.declared.calls.Terms.{Terms}
use Rattle.law.specs.Accounts.{Account, volume_of, traded, with_left, lessen, left_of, quote_in_force, eligible_for, new_intent}
use Rattle.law.specs.Calls.{entered}
use Rattle.law.specs.Checks.{enter_checks}
use Rattle.law.specs.Memories.{Memory, account, capacity, lawful_table, laid_out}
use Rattle.law.specs.Models.{queue, fills_under, turn_fills}
use Rattle.law.specs.Outcomes.{enter_answer, after}
use Rattle.law.specs.Turns.{Rules, active_number}
use Rattle.law.proofs.Checked.{checked_ok}
use Rattle.law.proofs.Fills.{traded_active}
use Rattle.law.proofs.Lawful.{table_parts, lawful_count, lawful_numbers}
use Rattle.law.proofs.Lessened.{lessen_append, lessen_short, each_lessen, left_none, left_append, left_one}
use Rattle.law.proofs.Lists.{each_weaker}
use Rattle.law.proofs.Outcomes.{after_accepted}
use Rattle.law.proofs.Serve.{serve_active}
use Rattle.book.specs.declared.turns.Turned.{Turned}
use Rattle.book.specs.Matches.{Matched, after_fills}
use Rattle.book.proofs.Calling.{Passed, passed_tests}

-- every slip of a turn carries the party's number
fills_active : (rules : Rules) (a : Account) (i : Incoming) (o : Option Quote) → AllByRecursion (λ (f : Fill). f.active ≡ active_number i.number) (fills_under rules o a i)
fills_active rules a i None = tt
fills_active rules a i (Some q) = serve_active (active_number i.number) (rules.price q i.side) rules.mark i.volume (queue (rules.ahead i.subscriber) (eligible_for rules.price a i))

-- one more behind, or none
rest_count : (b : Bool) (rs : List Intent) (x : Intent) → cond b (length rs + 1) (length rs) ≡ length (rs ++ cond b (x ∷ []) [])
rest_count b rs x = grind (arith, common_steps)

rest_table : (b : Bool) (rs : List Intent) (x : Intent) (table : List Intent) → length rs < capacity table →
    cond b (set (laid_out rs table) (length rs) x) (laid_out rs table) ≡ laid_out (rs ++ cond b (x ∷ []) []) table
rest_table true rs x table room =
    let beyond : List Intent = drop (capacity table) table in
    let more : capacity table - length rs ≡ suc (capacity table - length (rs ++ (x ∷ []))) = omega (arith, length_push rs x) in
    let rest : List Intent = replicate (capacity table - length (rs ++ (x ∷ []))) blank_intent ++ beyond in
    rw more (set_at rs blank_intent rest x (length rs) refl ∙ sym (append_assoc rs (x ∷ []) rest))
rest_table false rs x table room = rw append-nil

-- what the checks of enter say of the memory
pub record Open (m : Memory) : Type 0 where
  pub lawful : lawful_table m.count m.next m.table ≡ true
  pub room : m.count < capacity m.table
  pub numbers : m.next ≤ 999999999

pub open_by : (m : Memory) (t : Terms) → Passed (enter_checks m t) → Open m
open_by m t passed =
    let tests = passed_tests (enter_checks m t) passed in
    record { lawful = tests.0; room = ltb-true m.count (capacity m.table) tests.1.1.1.1.1.1.1.0; numbers = leb-true m.next 999999999 tests.1.1.1.1.1.1.1.1.0 }

-- there is a place behind those that fills leave
pub free : (m : Memory) (t : Terms) → Passed (enter_checks m t) → (fs : List Fill) → length (lessen fs (take m.count m.table)) < capacity m.table
free m t passed fs =
    let open_now = open_by m t passed in
    omega (arith, lessen_short fs (take m.count m.table), lawful_count m.count m.next m.table open_now.lawful)

module _ (rules : Rules) (m : Memory) (t : Terms) (passed : Passed (enter_checks m t)) where
  abbrev new : Intent
  new = new_intent m.next t

  abbrev ps : List Intent
  ps = take m.count m.table

  abbrev fs : List Fill
  fs = turn_fills rules (account m) (intent_incoming new)

  abbrev left : ℕ
  left = t.volume - volume_of fs

  lawful : lawful_table m.count m.next m.table ≡ true
  lawful = (open_by m t passed).lawful

  mine : traded m.next fs ≡ volume_of fs
  mine = traded_active m.next fs (fills_active rules (account m) (intent_incoming new) (quote_in_force (account m) t.security))

  -- who rests then
  resting : lessen fs (ps ++ (new ∷ [])) ≡ lessen fs ps ++ cond (ltb 0 left) (with_left new left ∷ []) []
  resting = lessen_append fs ps (new ∷ []) ∙ ap (λ (n : ℕ). lessen fs ps ++ cond (ltb 0 (t.volume - n)) (with_left new (t.volume - n) ∷ []) []) mine

  left_is : left ≡ left_of m.next (lessen fs (ps ++ (new ∷ [])))
  left_is =
      let others : left_of m.next (lessen fs ps) ≡ 0 =
      left_none m.next (lessen fs ps) (each_lessen (λ (p : Intent). p.number ≡ m.next → ⊥) (λ p v h. h) fs ps
      (each_weaker _ _ (λ p h e. omega arith) ps (lawful_numbers 0 m.next ps (table_parts m.count m.next m.table lawful).intents))) in
      let both = ap (left_of m.next) (lessen_append fs ps (new ∷ [])) ∙ left_append m.next (lessen fs ps) (lessen fs (new ∷ [])) in
      omega (arith, mine, left_one fs new)

  -- the turn's answer, with what rests under the new number
  pub enter_answered : {m' : Memory} {r : Turned} → Matched rules (intent_incoming new) m m' r → Ok (record { number = m.next; resting = r.left; slips = r.slips }) ≡ enter_answer rules m t
  enter_answered {m'} {r} matched =
      let same : record { number = m.next; resting = r.left; slips = r.slips } ≡ entered (account m) t fs = λ j. record { number = m.next; resting = (matched.left ∙ left_is) j; slips = matched.slips j } in
      ap Ok same ∙ sym (checked_ok (enter_checks m t) (tt {0}) tt (entered (account m) t fs) (sym passed))

  -- behind its turn the intent takes a number, and a place if anything is left of it
  pub enter_after :
      let m' : Memory = after_fills m fs in
      after rules m (enter_call t) ≡ record {
        phase = m'.phase;
        day = m'.day;
        next = m.next + 1;
        securities = m'.securities;
        count = cond (ltb 0 left) (m'.count + 1) m'.count;
        table = cond (ltb 0 left) (set m'.table m'.count (with_left new left)) m'.table;
        page = m'.page;
      }
  enter_after =
      let rs : List Intent = lessen fs ps in
      let x : Intent = with_left new left in
      let b : Bool = ltb 0 left in
      let count_is = ap length resting ∙ sym (rest_count b rs x) in
      let table_is = ap (λ (l : List Intent). laid_out l m.table) resting ∙ sym (rest_table b rs x m.table (free m t passed fs)) in
      let m' : Memory = after_fills m fs in
      after_accepted rules m (enter_call t) (sym (ap is_ok passed))
      ∙ (λ j. record { phase = m'.phase; day = m'.day; next = m.next + 1; securities = m'.securities; count = count_is j; table = table_is j; page = m'.page })
