-- The queue: it holds what it is given, no more and no less, foremost first.
-- `Orderly` is what it asks of a priority.
use Rattle.std.proofs.Common.{◌≡◌, ℕ, ◌+◌, Bool, true, false, not, List, [], ◌∷◌, refl, arith}
use Rattle.std.specs.List.{AllByRecursion}
use Rattle.rules.specs.declared.intents.Standing.{Standing}
use Rattle.rules.specs.declared.intents.Intent.{Intent}
use Rattle.rules.specs.Intents.{standing}
use Rattle.law.specs.Lists.{total, Pairwise}
use Rattle.law.specs.Models.{place, queue}
use Rattle.law.proofs.Lists.{each_join, pairwise_weaker}
use Rattle.law.proofs.Numbers.{Apart}

-- p stands ahead of q, under another number
abbrev pub Before : (Standing → Standing → Bool) → Intent → Intent → Type 0
Before ahead p q = Apart p q × (ahead (standing p) (standing q) ≡ true)

-- ahead puts standings with different numbers in a line
pub record Orderly (ahead : Standing → Standing → Bool) : Type 0 where
  pub either : (a b : Standing) → (a.number ≡ b.number → ⊥) → ahead a b ≡ not (ahead b a)
  pub onward : (a b c : Standing) → ahead a b ≡ true → ahead b c ≡ true → ahead a c ≡ true

module _ (ahead : Standing → Standing → Bool) where
  -- what holds of the new one and of all others holds of each in the line
  pub each_place : (P : Intent → Type 0) (p : Intent) (qs : List Intent) → P p → AllByRecursion P qs → AllByRecursion P (place ahead p qs)
  each_place P p [] h hs = (h, tt)
  each_place P p (q ∷ qs) h hs = grind (arith, each_place P p qs h hs.1)

  -- the queue holds nobody else
  pub each_queue : (P : Intent → Type 0) (ps : List Intent) → AllByRecursion P ps → AllByRecursion P (queue ahead ps)
  each_queue P [] h = tt
  each_queue P (p ∷ ps) h = each_place P p (queue ahead ps) h.0 (each_queue P ps h.1)

  -- and the other way round
  pub place_each : (P : Intent → Type 0) (p : Intent) (qs : List Intent) → AllByRecursion P (place ahead p qs) → P p × AllByRecursion P qs
  place_each P p [] h = h
  place_each P p (q ∷ qs) h = grind (arith, place_each P p qs)

  -- the queue leaves nobody out
  pub queue_each : (P : Intent → Type 0) (ps : List Intent) → AllByRecursion P (queue ahead ps) → AllByRecursion P ps
  queue_each P [] h = tt
  queue_each P (p ∷ ps) h = let parts = place_each P p (queue ahead ps) h in (parts.0, queue_each P ps parts.1)

  pub total_place : (f : Intent → ℕ) (p : Intent) (qs : List Intent) → total f (place ahead p qs) ≡ f p + total f qs
  total_place f p [] = refl
  total_place f p (q ∷ qs) = grind (arith, total_place f p qs)

  -- nor has it anybody twice: every sum stays the same
  pub total_queue : (f : Intent → ℕ) (ps : List Intent) → total f (queue ahead ps) ≡ total f ps
  total_queue f [] = refl
  total_queue f (p ∷ ps) = omega (arith, total_place f p (queue ahead ps), total_queue f ps)

module _ (ahead : Standing → Standing → Bool) (order : Orderly ahead) where
  pub before_onward : (p q r : Intent) → Before ahead p q → Apart p r → Before ahead q r → Before ahead p r
  before_onward p q r h k l = (k, order.onward (standing p) (standing q) (standing r) h.1 l.1)

  -- of two with different numbers, one is ahead of the other
  pub before_other : (p q : Intent) → Apart p q → ahead (standing p) (standing q) ≡ false → Before ahead q p
  before_other p q h e = grind (arith, order.either (standing q) (standing p))

  -- who is behind is not ahead
  pub behind_not : (p q : Intent) → Before ahead p q → ahead (standing q) (standing p) ≡ false
  behind_not p q h = grind (arith, order.either (standing q) (standing p))

  pub ordered_place : (p : Intent) (qs : List Intent) → AllByRecursion (Apart p) qs → Pairwise (Before ahead) qs → Pairwise (Before ahead) (place ahead p qs)
  ordered_place p [] h k = (tt, tt)
  ordered_place p (q ∷ qs) h k =
      grind (
        arith,
        ordered_place p qs h.1 k.1,
        before_other p q h.0,
        each_place ahead (Before ahead q) p qs,
        λ (first : Before ahead p q). each_join (Apart p) (Before ahead q) (Before ahead p) (λ r. before_onward p q r first) qs h.1 k.0,
      )

  -- foremost first
  pub ordered_queue : (ps : List Intent) → Pairwise Apart ps → Pairwise (Before ahead) (queue ahead ps)
  ordered_queue [] h = tt
  ordered_queue (p ∷ ps) h = ordered_place p (queue ahead ps) (each_queue ahead (Apart p) ps h.0) (ordered_queue ps h.1)

  pub apart_queue : (ps : List Intent) → Pairwise Apart ps → Pairwise Apart (queue ahead ps)
  apart_queue ps h = pairwise_weaker (Before ahead) Apart (λ p q b. b.0) (queue ahead ps) (ordered_queue ps h)
