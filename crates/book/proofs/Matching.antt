-- From a turn over the table in place to the model's turn on the account.
use Rattle.std.proofs.Common.{◌≡◌, ℕ, suc, ◌+◌, ◌-◌, ◌<◌, ◌≤◌, true, List, [], ◌∷◌, ◌++◌, map, length, take, drop, set, replicate, Some, None, Option, sym, refl, ap, ◌∙◌, subst, ⊎_elim, append_assoc, add-one, arith}
use Rattle.std.proofs.lemmas.List.Edits.{sets, sets-eq}
use Rattle.std.proofs.lemmas.Bool.Decides.{nat_tests}
use Rattle.std.proofs.lemmas.List.{length-take, length-map, get_or-take, drop_at, replicate-append-replicate}
use Rattle.std.proofs.lemmas.Bool.{cases_lt}
use Rattle.std.specs.List.{filter, AllByRecursion}
use Rattle.rules.specs.declared.incoming.Incoming.{Incoming}
use Rattle.rules.specs.declared.intents.Intent.{Intent}
use Rattle.rules.specs.declared.quotes.Quote.{Quote}
use Rattle.rules.specs.declared.slips.Fill.{Fill}
use Rattle.rules.specs.declared.slips.Slip.{Slip}
use Rattle.rules.specs.declared.slips.Slip.TheVariants.{Filled}
use Rattle.rules.specs.Blanks.{blank_intent}
use Rattle.rules.specs.Eligibility.{eligible}
use Rattle.law.specs.Accounts.{Account, quote_in_force, traded, volume_of, lessen}
use Rattle.law.specs.Memories.{Memory, capacity, account, lawful_intents, lawful_table, laid_out, written}
use Rattle.law.specs.Models.{queue, serve, fills_under, turn_fills}
use Rattle.law.specs.Turns.{Rules, given, active_number}
use Rattle.law.proofs.Eligibility.{eligible_some}
use Rattle.law.proofs.Fills.{traded_passive}
use Rattle.law.proofs.Lawful.{table_parts, lawful_count, lawful_layout, lawful_numbers, lawful_rising, lawful_left}
use Rattle.law.proofs.Lessened.{lessen_short}
use Rattle.law.proofs.Lists.{each_weaker, filter_short, places_from_pairwise}
use Rattle.law.proofs.Serve.{serve_active}
use Rattle.ledger.specs.Places.{at, live}
use Rattle.book.specs.declared.turns.Turned.{Turned}
use Rattle.book.specs.InPlace.{ready, turn_under, relieved, written_from, alive, Distinct, Handed}
use Rattle.book.specs.Matches.{ComesNew, Matched}

-- THE FILLS

-- where all have something left, the ready ones are the eligible ones
filter_ready : (q : Quote) (price : ℕ) (i : Incoming) (ps : List Intent) → AllByRecursion (λ (p : Intent). 1 ≤ p.remaining) ps → filter (ready q price i) ps ≡ filter (eligible q price i) ps
unfolding ready
filter_ready q price i [] h = refl
filter_ready q price i (p ∷ ps) h = grind (arith, nat_tests, filter_ready q price i ps h.1)

module _ (rules : Rules) (a : Account) (i : Incoming) (some : AllByRecursion (λ (p : Intent). 1 ≤ p.remaining) a.resting) where
  under : (o : Option Quote) → quote_in_force a i.security ≡ o → turn_under rules o i a.resting ≡ fills_under rules o a i
  under None e = refl
  under (Some q) e =
      let price : ℕ = rules.price q i.side in
      ap (λ (l : List Intent). serve (active_number i.number) price rules.mark i.volume (queue (rules.ahead i.subscriber) l))
      (filter_ready q price i a.resting some ∙ sym (eligible_some rules.price a i q e))

  pub in_place : turn_under rules (quote_in_force a i.security) i a.resting ≡ turn_fills rules a i
  in_place = under (quote_in_force a i.security) refl

turn_active : (rules : Rules) (o : Option Quote) (i : Incoming) (ps : List Intent) → AllByRecursion (λ (f : Fill). f.active ≡ active_number i.number) (turn_under rules o i ps)
turn_active rules None i ps = tt
turn_active rules (Some q) i ps = serve_active (active_number i.number) (rules.price q i.side) rules.mark i.volume (queue (rules.ahead i.subscriber) (filter (ready q (rules.price q i.side) i) ps))

-- WHO IS LEFT

-- intents that are passive only: what is closed up is what the account has left
pub closed_lessen : (fs : List Fill) (ps : List Intent) → AllByRecursion (λ (p : Intent). traded p.number fs ≡ given fs p.number) ps → filter live (map (relieved fs) ps) ≡ lessen fs ps
closed_lessen fs [] h = refl
closed_lessen fs (p ∷ ps) h = grind (arith, nat_tests, closed_lessen fs ps h.1)

-- a new party's number is that of no resting intent
not_active : (o : Option ℕ) (next n : ℕ) → ComesNew o next → 0 < n → n < next → active_number o ≡ n → ⊥
not_active o next n new some below e = grind arith

-- PAGES

written_sets : (page : List Slip) (n : ℕ) (fs : List Fill) → written_from page n fs ≡ sets page n (map Filled fs)
written_sets page n [] = refl
written_sets page n (f ∷ fs) = ap (λ (m : ℕ). written_from (set page n (Filled f)) m fs) (add-one n) ∙ written_sets (set page n (Filled f)) (suc n) fs

pub written_whole : (page : List Slip) (fs : List Fill) → length fs ≤ length page → written_from page 0 fs ≡ written (map Filled fs) page
written_whole page fs h = grind (arith, written_sets page 0 fs, sets-eq (map Filled fs) page 0, length-map fs Filled)

-- TABLES

-- behind fewer intents than before, the freed places join the blanks
pub laid_out_less : (count next : ℕ) (table rs : List Intent) → lawful_table count next table ≡ true → length rs ≤ count →
    rs ++ (replicate (count - length rs) blank_intent ++ drop count table) ≡ laid_out rs table
laid_out_less count next table rs lawful short =
    let room : ℕ = capacity table in
    let fits : count ≤ room = (table_parts count next table lawful).fits in
    let many = lawful_count count next table lawful in
    let beyond : List Intent = drop room table in
    let layout = lawful_layout count next table lawful in
    let behind : drop count table ≡ replicate (room - count) blank_intent ++ beyond =
    cc (drop_at (take count table) (replicate (room - length (take count table)) blank_intent ++ beyond) count many) in
    let whole : count - length rs + (room - count) ≡ room - length rs = omega arith in
    cc (append_assoc (replicate (count - length rs) blank_intent) (replicate (room - count) blank_intent) beyond, replicate-append-replicate (count - length rs) (room - count) blank_intent)

-- among the first places no more are alive than there are places
pub few_alive : (count : ℕ) (table : List Intent) → alive (take count table) ≤ count
few_alive count table = omega (arith, filter_short live (take count table), length-take count table)

-- numbers of a lawful table are apart, by places
pub lawful_distinct : (count next : ℕ) (table : List Intent) → lawful_table count next table ≡ true → Distinct table count
lawful_distinct count next table lawful j k x y other e = ⊎_elim (λ l. apart j k l y e) (λ l. apart k j (omega arith) x (sym e)) (cases_lt j k)
  where
    apart : (j k : ℕ) → j < k → k < count → (at table j).number ≡ (at table k).number → ⊥
    apart j k l y e =
        let ps : List Intent = take count table in
        let many : length ps ≡ count = lawful_count count next table lawful in
        let up : (at ps j).number < (at ps k).number = places_from_pairwise blank_intent (λ (p q : Intent). p.number < q.number) ps (lawful_rising 0 next ps (table_parts count next table lawful).intents) j k l (omega arith) in
        grind (arith, get_or-take count table j blank_intent, get_or-take count table k blank_intent)

-- THE WHOLE

module _ (rules : Rules) (m : Memory) (i : Incoming) (lawful : lawful_table m.count m.next m.table ≡ true) (new : ComesNew i.number m.next) (o : Option Quote) (quote : o ≡ quote_in_force (account m) i.security) where
  abbrev ps : List Intent
  ps = take m.count m.table

  abbrev fs : List Fill
  fs = turn_fills rules (account m) i

  intents : lawful_intents 0 m.next ps ≡ true
  intents = (table_parts m.count m.next m.table lawful).intents

  same_fills : turn_under rules o i ps ≡ fs
  same_fills = ap (λ (q : Option Quote). turn_under rules q i ps) quote ∙ in_place rules (account m) i (lawful_left 0 m.next ps intents)

  passive_only : AllByRecursion (λ (p : Intent). traded p.number fs ≡ given fs p.number) ps
  passive_only =
      let active : AllByRecursion (λ (f : Fill). f.active ≡ active_number i.number) fs = subst (AllByRecursion (λ (f : Fill). f.active ≡ active_number i.number)) same_fills (turn_active rules o i ps) in
      each_weaker _ _ (λ p h. traded_passive p.number fs (each_weaker _ _ (λ f e k. not_active i.number m.next p.number new h.0 h.1 (sym e ∙ k)) fs active)) ps (lawful_numbers 0 m.next ps intents)

  -- what a turn in place and a closing up come to
  pub matched : (table table' : List Intent) (page' : List Slip) (count' : ℕ) (r : Turned) → m.count ≤ length m.page →
      Handed (turn_under rules o i ps) i.volume ps (take m.count table) m.page page' r → drop m.count table ≡ drop m.count m.table →
      count' ≡ length (filter live (take m.count table)) → table' ≡ filter live (take m.count table) ++ (replicate (m.count - count') blank_intent ++ drop m.count table) →
      Matched rules i m (record { phase = m.phase; day = m.day; next = m.next; securities = m.securities; count = count'; table = table'; page = page' }) r
  matched table table' page' count' r room handed beyond counted closed =
      let rs : List Intent = lessen fs ps in
      let left : filter live (take m.count table) ≡ rs = ap (filter live) handed.table ∙ ap (λ (gs : List Fill). filter live (map (relieved gs) ps)) same_fills ∙ closed_lessen fs ps passive_only in
      let many = lawful_count m.count m.next m.table lawful in
      let count_is : count' ≡ length rs = counted ∙ ap length left in
      let table_is : table' ≡ laid_out rs m.table = cc (laid_out_less m.count m.next m.table rs lawful (omega (arith, lessen_short fs ps))) in
      let few : length fs ≤ length m.page = omega (arith, handed.few, handed.counted, ap length same_fills, filter_short live ps) in
      let page_is : page' ≡ written (map Filled fs) m.page = cc (same_fills, written_whole m.page fs few) in
      record {
        slips = handed.counted ∙ ap length same_fills;
        left = handed.rest ∙ ap (λ (gs : List Fill). i.volume - volume_of gs) same_fills;
        fits = omega (arith, handed.counted, ap length same_fills);
        after = λ j. record { phase = m.phase; day = m.day; next = m.next; securities = m.securities; count = count_is j; table = table_is j; page = page_is j };
      }
