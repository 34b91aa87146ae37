-- What a scan of the table finds.
use Rattle.std.proofs.Common.{◌≡◌, ℕ, ◌+◌, ◌-◌, ◌≤◌, cond, ◌&&◌, ltb, List, length, take, drop, Some, None, ap, arith}
use Rattle.std.proofs.lemmas.List.Folds.{find_at}
use Rattle.std.proofs.lemmas.List.{drop-take}
use Rattle.std.proofs.lemmas.Bool.Decides.{nat_tests}
use Rattle.std.proofs.lemmas.Option.{slice_get-get_or, slice_get_past}
use Rattle.std.specs.List.{position_or_len, list_all}
use Rattle.rules.specs.Blanks.{blank_intent}
use Rattle.rules.specs.declared.intents.Intent.{Intent}
use Rattle.rules.specs.Intents.{is_blank}
use Rattle.law.specs.Accounts.{find}
use Rattle.law.specs.Memories.{capacity, lawful_intents, lawful_table}
use Rattle.ledger.specs.Places.{at, has_number}

-- a table whose count fits is judged by its two parts
pub lawful_parts : (count next : ℕ) (table : List Intent) → count ≤ capacity table →
    lawful_table count next table ≡ lawful_intents 0 next (take (count - 0) table) && list_all is_blank (take (capacity table - count) (drop count table))
lawful_parts count next table h =
    let whole : capacity table ≡ count + (capacity table - count) = omega arith in
    grind (arith, nat_tests, ap (λ (k : ℕ). drop count (take k table)) whole, drop-take count (capacity table - count) table)

-- the intent with a number stands in the first place that has it
pub found : (n : ℕ) (ps : List Intent) → find n ps ≡ cond (ltb (position_or_len (has_number n) ps) (length ps)) (Some (at ps (position_or_len (has_number n) ps))) None
found n ps =
    let k : ℕ = position_or_len (has_number n) ps in
    grind (arith, nat_tests, find_at (has_number n) ps, slice_get-get_or ps k blank_intent, slice_get_past ps k)
