-- A table of blanks that is opened is the table that it was.
use Rattle.std.proofs.Common.{◌≡◌, ℕ, ◌+◌, ◌-◌, [], List, ◌++◌, replicate, ap, ◌∙◌, arith}
use Rattle.std.proofs.lemmas.List.{drop-replicate, length-replicate, replicate-append-replicate}
use Rattle.rules.specs.declared.intents.Intent.{Intent}
use Rattle.rules.specs.Blanks.{blank_intent}
use Rattle.law.specs.Memories.{capacity, laid_out}

pub blanked : (places : ℕ) → laid_out [] (replicate places blank_intent) ≡ replicate places blank_intent
blanked places =
    let table : List Intent = replicate places blank_intent in
    let room : ℕ = capacity table in
    let whole : room - 0 + (places - room) ≡ places = omega (arith, length-replicate places blank_intent) in
    ap (λ (l : List Intent). replicate (room - 0) blank_intent ++ l) (drop-replicate room places blank_intent)
    ∙ replicate-append-replicate (room - 0) (places - room) blank_intent
    ∙ ap (λ (n : ℕ). replicate n blank_intent) whole
