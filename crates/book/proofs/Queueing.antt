-- The queue's head is the one that no other ready one is ahead of.
use Rattle.std.proofs.Common.{◌≡◌, ℕ, zero, suc, ◌<◌, Bool, true, false, not, List, [], ◌∷◌, length, set, refl, ap, ◌∙◌, arith}
use Rattle.std.specs.List.{filter, AllByRecursion}
use Rattle.rules.specs.declared.intents.Standing.{Standing}
use Rattle.rules.specs.declared.intents.Intent.{Intent}
use Rattle.rules.specs.Intents.{standing}
use Rattle.law.specs.Accounts.{with_left}
use Rattle.law.specs.Models.{place, queue}
use Rattle.rules.specs.Blanks.{blank_intent}
use Rattle.ledger.specs.Places.{at}
use Rattle.book.specs.InPlace.{Distinct}
use Rattle.law.proofs.Lists.{each_join, each_filter, each_passes, each_from_places}
use Rattle.law.proofs.Queue.{each_queue}

module _ (ahead : Standing → Standing → Bool) where
  pub place_first : (p : Intent) (qs : List Intent) → AllByRecursion (λ (q : Intent). ahead (standing p) (standing q) ≡ true) qs → place ahead p qs ≡ p ∷ qs
  place_first p [] h = refl
  place_first p (q ∷ qs) h = grind arith

  place_behind : (p q : Intent) (qs : List Intent) → ahead (standing p) (standing q) ≡ false → place ahead p (q ∷ qs) ≡ q ∷ place ahead p qs
  place_behind p q qs h = grind arith

-- of two standings with different numbers one is ahead
abbrev pub Sided : (Standing → Standing → Bool) → Type 0
Sided ahead = (a b : Standing) → (a.number ≡ b.number → ⊥) → ahead a b ≡ not (ahead b a)

-- at the intent i no other that passes t is ahead
abbrev pub Best : (Standing → Standing → Bool) → (Intent → Bool) → List Intent → ℕ → Type 0
Best ahead t ps i = (k : ℕ) → k < length ps → (k ≡ i → ⊥) → t (at ps k) ≡ true → ahead (standing (at ps k)) (standing (at ps i)) ≡ false

module _ (ahead : Standing → Standing → Bool) (sided : Sided ahead) (t : Intent → Bool) (emptied : (p : Intent) → t (with_left p 0) ≡ false) where
  pub queue_head : (ps : List Intent) (i : ℕ) → i < length ps → t (at ps i) ≡ true → Distinct ps (length ps) → Best ahead t ps i →
      queue ahead (filter t ps) ≡ at ps i ∷ queue ahead (filter t (set ps i (with_left (at ps i) 0)))
  queue_head [] i l r d b = absurd (omega arith)
  queue_head (p ∷ ps) zero l r d b =
      let behind : AllByRecursion (λ (q : Intent). t q ≡ true → ahead (standing p) (standing q) ≡ true) ps =
      each_from_places blank_intent (λ (q : Intent). t q ≡ true → ahead (standing p) (standing q) ≡ true) ps
      (λ k h e. sided (standing p) (standing (at ps k)) (d 0 (suc k) (omega arith) (omega arith) (λ x. omega arith)) ∙ ap not (b (suc k) (omega arith) (λ x. omega arith) e)) in
      let firsts = each_queue ahead (λ (q : Intent). ahead (standing p) (standing q) ≡ true) (filter t ps) (each_join _ _ _ (λ q e h. h e) (filter t ps) (each_passes t ps) (each_filter _ t ps behind)) in
      grind (arith, emptied p, place_first ahead p (queue ahead (filter t ps)) firsts)
  queue_head (p ∷ ps) (suc i) l r d b =
      let rest = queue_head ps i (omega arith) r (λ j k x y z. d (suc j) (suc k) (omega arith) (omega arith) (λ e. z (omega arith))) (λ k x y. b (suc k) (omega arith) (λ e. y (omega arith))) in
      let first : t p ≡ true → ahead (standing p) (standing (at ps i)) ≡ false = b 0 (omega arith) (λ x. omega arith) in
      grind (arith, rest, first, place_behind ahead p (at ps i) (queue ahead (filter t (set ps i (with_left (at ps i) 0)))))
