-- A LAWFUL TABLE holds a sound account, and its places from `count` to the capacity are blank.
use Rattle.std.proofs.Common.{◌≡◌, ℕ, ◌-◌, ◌<◌, ◌≤◌, true, List, [], ◌∷◌, length, take, drop, replicate, refl, append_assoc, arith}
use Rattle.std.proofs.lemmas.List.{length-take, length-drop, length-take-le, take-append-drop, take-take}
use Rattle.std.proofs.lemmas.Bool.Decides.{nat_tests}
use Rattle.std.specs.List.{list_all, AllByRecursion}
use Rattle.rules.specs.declared.intents.Intent.{Intent}
use Rattle.rules.specs.Blanks.{blank_intent}
use Rattle.rules.specs.Intents.{in_range, is_blank}
use Rattle.law.specs.Memories.{Memory, capacity, account, lawful_intents, lawful_table, laid_out}
use Rattle.law.specs.Turns.{LawfulQuotes, Sound}
use Rattle.law.proofs.Lists.{each_weaker}
use Rattle.law.proofs.Numbers.{Rising}

-- LAWFUL INTENTS

-- what the test says of the first intent, and that the others pass it behind that one
pub record LawfulFirst (last next : ℕ) (p : Intent) (ps : List Intent) : Type 0 where
  pub range : in_range p ≡ true
  pub above : last < p.number
  pub below : p.number < next
  pub others : lawful_intents p.number next ps ≡ true

-- the test, taken apart at the first intent
pub lawful_first : (last next : ℕ) (p : Intent) (ps : List Intent) → lawful_intents last next (p ∷ ps) ≡ true → LawfulFirst last next p ps
lawful_first last next p ps h = grind (arith, nat_tests)

-- every intent is in range
pub lawful_ranges : (last next : ℕ) (ps : List Intent) → lawful_intents last next ps ≡ true → AllByRecursion (λ (p : Intent). in_range p ≡ true) ps
lawful_ranges last next [] h = tt
lawful_ranges last next (p ∷ ps) h = grind (arith, nat_tests, lawful_ranges p.number next ps)

-- every number is above the last one before, and below the next one to be given
pub lawful_numbers : (last next : ℕ) (ps : List Intent) → lawful_intents last next ps ≡ true → AllByRecursion (λ (p : Intent). (last < p.number) × (p.number < next)) ps
lawful_numbers last next [] h = tt
lawful_numbers last next (p ∷ ps) h =
    let first = lawful_first last next p ps h in
    ((first.above, first.below), each_weaker _ _ (λ q k. (omega arith, k.1)) ps (lawful_numbers p.number next ps first.others))

-- the numbers rise
pub lawful_rising : (last next : ℕ) (ps : List Intent) → lawful_intents last next ps ≡ true → Rising ps
lawful_rising last next [] h = tt
lawful_rising last next (p ∷ ps) h =
    let first = lawful_first last next p ps h in
    (each_weaker _ _ (λ q k. k.0) ps (lawful_numbers p.number next ps first.others), lawful_rising p.number next ps first.others)

-- an intent in range has something left
pub in_range_left : (p : Intent) → in_range p ≡ true → 1 ≤ p.remaining
in_range_left p h = grind (arith, nat_tests)

-- every intent has something left
pub lawful_left : (last next : ℕ) (ps : List Intent) → lawful_intents last next ps ≡ true → AllByRecursion (λ (p : Intent). 1 ≤ p.remaining) ps
lawful_left last next ps h = each_weaker _ _ in_range_left ps (lawful_ranges last next ps h)

-- BLANKS

-- what passes the test is the blank intent
pub blank_is : (p : Intent) → is_blank p ≡ true → p ≡ blank_intent
blank_is p h = grind (arith, nat_tests)

-- places that all pass it are so many blanks
pub blanks_are : (ps : List Intent) → list_all is_blank ps ≡ true → ps ≡ replicate (length ps) blank_intent
blanks_are [] h = refl
blanks_are (p ∷ ps) h = grind (arith, nat_tests, blank_is p, blanks_are ps)

-- A LAWFUL TABLE

-- the parts of the test
pub record LawfulTable (count next : ℕ) (table : List Intent) : Type 0 where
  pub fits : count ≤ capacity table
  pub intents : lawful_intents 0 next (take count table) ≡ true
  pub blanks : list_all is_blank (drop count (take (capacity table) table)) ≡ true

pub table_parts : (count next : ℕ) (table : List Intent) → lawful_table count next table ≡ true → LawfulTable count next table
table_parts count next table h = grind (arith, nat_tests)

-- as many intents rest as are counted
pub lawful_count : (count next : ℕ) (table : List Intent) → lawful_table count next table ≡ true → length (take count table) ≡ count
lawful_count count next table h = let fits = (table_parts count next table h).fits in length-take-le count table (omega arith)

-- behind the intents come blanks up to the capacity, and then what stands beyond it
pub lawful_layout : (count next : ℕ) (table : List Intent) → lawful_table count next table ≡ true → table ≡ laid_out (take count table) table
lawful_layout count next table h =
    let parts = table_parts count next table h in
    let room : ℕ = capacity table in
    let inside : List Intent = take room table in
    let fits : count ≤ room = parts.fits in
    let many : length (drop count inside) ≡ room - length (take count table) = omega (arith, length-drop count inside, length-take room table, lawful_count count next table h) in
    let front : take count inside ≡ take count table = take-take count room table fits in
    cc (blanks_are (drop count inside) parts.blanks, take-append-drop count inside, take-append-drop room table, append_assoc (take count table) (replicate (room - length (take count table)) blank_intent) (drop room table))

-- THE ACCOUNT

-- the account of a lawful table and lawful quotes is sound
pub sound_account : (m : Memory) → lawful_table m.count m.next m.table ≡ true → LawfulQuotes m.securities → Sound (account m)
sound_account m h quotes =
    let ps : List Intent = take m.count m.table in
    let intents : lawful_intents 0 m.next ps ≡ true = (table_parts m.count m.next m.table h).intents in
    record {
      rising = lawful_rising 0 m.next ps intents;
      numbers = each_weaker _ _ (λ p k. (omega arith, k.1)) ps (lawful_numbers 0 m.next ps intents);
      something_left = lawful_left 0 m.next ps intents;
      quotes = quotes;
    }
