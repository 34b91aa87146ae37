-- Serving a queue: what its slips are, what they give to each, and that they are an allotment.
-- A leading group of the queue gets all that there is, up to all that it has left.
use Rattle.std.proofs.Common.{◌≡◌, ℕ, ◌+◌, ◌-◌, ◌<◌, ◌≤◌, min, Bool, cond, ◌||◌, eqb, List, [], ◌∷◌, sym, refl, ap, ◌∙◌, arith}
use Rattle.std.specs.List.{filter, AllByRecursion}
use Rattle.std.proofs.lemmas.Bool.Decides.{nat_tests}
use Rattle.rules.specs.declared.intents.Standing.{Standing}
use Rattle.rules.specs.declared.intents.Intent.{Intent}
use Rattle.rules.specs.declared.slips.Fill.{Fill}
use Rattle.rules.specs.Intents.{standing}
use Rattle.law.specs.Lists.{total, Pairwise}
use Rattle.law.specs.Turns.{handed, leading_group, given}
use Rattle.law.specs.Models.{serve}
use Rattle.law.proofs.Lists.{each_weaker, each_join, each_filter, filter_none, total_same}
use Rattle.law.proofs.Numbers.{Apart}
use Rattle.law.proofs.Queue.{Before, Orderly, behind_not}

module _ (active price mark : ℕ) where
  -- the slip of one passive intent
  abbrev pub slip : Intent → ℕ → Fill
  slip p v = record { active = active; passive = p.number; volume = v; price = price; mark = mark }

  -- where nothing is left, nobody is served
  pub serve_spent : (left : ℕ) → left ≡ 0 → (qs : List Intent) → serve active price mark left qs ≡ []
  serve_spent left h [] = refl
  serve_spent left h (p ∷ ps) = grind (arith, nat_tests)

  -- a fact of the intents in the queue is one of their slips
  pub each_serve : (P : Intent → Type 0) (Q : Fill → Type 0) → ((p : Intent) (left : ℕ) → 0 < left → P p → Q (slip p (min p.remaining left))) →
      (left : ℕ) (qs : List Intent) → AllByRecursion P qs → AllByRecursion Q (serve active price mark left qs)
  each_serve P Q f left [] h = tt
  each_serve P Q f left (p ∷ ps) h = grind (arith, nat_tests, f p left, each_serve P Q f (left - min p.remaining left) ps h.1)

  -- every slip carries the active number
  pub serve_active : (left : ℕ) (qs : List Intent) → AllByRecursion (λ (f : Fill). f.active ≡ active) (serve active price mark left qs)
  serve_active left [] = tt
  serve_active left (p ∷ ps) = grind (arith, nat_tests, serve_active (left - min p.remaining left) ps)

  -- and a fact of two of them is one of their slips
  pub pairwise_serve : (R : Intent → Intent → Type 0) (S : Fill → Fill → Type 0) → ((p q : Intent) (v w : ℕ) → R p q → S (slip p v) (slip q w)) →
      (left : ℕ) (qs : List Intent) → Pairwise R qs → Pairwise S (serve active price mark left qs)
  pairwise_serve R S f left [] h = tt
  pairwise_serve R S f left (p ∷ ps) h =
      let v : ℕ = min p.remaining left in
      grind (arith, nat_tests, pairwise_serve R S f (left - v) ps h.1, each_serve (R p) (S (slip p v)) (λ q l _. f p q v (min q.remaining l)) (left - v) ps h.0)

  -- WHAT IS GIVEN TO EACH

  module _ (left : ℕ) (p : Intent) (ps : List Intent) where
    -- the first gets the smaller of what it has left and what there is, and the others share the rest
    pub given_more : (n : ℕ) →
        given (serve active price mark left (p ∷ ps)) n ≡ cond (eqb p.number n) (min p.remaining left) 0 + given (serve active price mark (left - min p.remaining left) ps) n
    given_more n = grind (arith, nat_tests, ap (λ (fs : List Fill). given fs n) (serve_spent 0 refl ps))

    pub given_later : (n : ℕ) → (p.number ≡ n → ⊥) → given (serve active price mark left (p ∷ ps)) n ≡ given (serve active price mark (left - min p.remaining left) ps) n
    given_later n h = grind (arith, nat_tests, given_more n)

  -- who is not in the queue gets nothing
  pub given_none : (n : ℕ) (left : ℕ) (qs : List Intent) → AllByRecursion (λ (q : Intent). q.number ≡ n → ⊥) qs → given (serve active price mark left qs) n ≡ 0
  given_none n left [] h = refl
  given_none n left (p ∷ ps) h = given_later left p ps n h.0 ∙ given_none n (left - min p.remaining left) ps h.1

  module _ (left : ℕ) (p : Intent) (ps : List Intent) (apart : AllByRecursion (Apart p) ps) where
    pub given_first : given (serve active price mark left (p ∷ ps)) p.number ≡ min p.remaining left
    given_first =
        grind (arith, nat_tests, given_more left p ps p.number, given_none p.number (left - min p.remaining left) ps (each_weaker (Apart p) (λ (q : Intent). q.number ≡ p.number → ⊥) (λ q h k. h (sym k)) ps apart))

    pub given_others : AllByRecursion (λ (q : Intent). given (serve active price mark left (p ∷ ps)) q.number ≡ given (serve active price mark (left - min p.remaining left) ps) q.number) ps
    given_others = each_weaker (Apart p) _ (λ q h. given_later left p ps q.number h) ps apart

    -- the same for any part of the others
    pub handed_others : (t : Intent → Bool) → handed (given (serve active price mark left (p ∷ ps))) (filter t ps) ≡ handed (given (serve active price mark (left - min p.remaining left) ps)) (filter t ps)
    handed_others t = total_same _ _ (filter t ps) (each_filter _ t ps given_others)

  -- THE ALLOTMENT

  -- nobody gets more than it has left
  pub served_each : (left : ℕ) (qs : List Intent) → Pairwise Apart qs → AllByRecursion (λ (q : Intent). given (serve active price mark left qs) q.number ≤ q.remaining) qs
  served_each left [] h = tt
  served_each left (p ∷ ps) h =
      (omega (arith, given_first left p ps h.0), each_join _ _ _ (λ q e k. omega arith) ps (given_others left p ps h.0) (served_each (left - min p.remaining left) ps h.1))

  -- no more is handed out than there is
  pub served_all : (left : ℕ) (qs : List Intent) → Pairwise Apart qs → handed (given (serve active price mark left qs)) qs ≤ left
  served_all left [] h = omega arith
  served_all left (p ∷ ps) h =
      omega (arith, given_first left p ps h.0, total_same _ _ ps (given_others left p ps h.0), served_all (left - min p.remaining left) ps h.1)

-- THE LEADING GROUPS OF A QUEUE ARE ITS FRONTS

-- p is in the leading group of g
abbrev pub leads : (Standing → Standing → Bool) → Intent → Intent → Bool
leads ahead g p = eqb p.number g.number || ahead (standing p) (standing g)

module _ (ahead : Standing → Standing → Bool) (order : Orderly ahead) where
  -- the foremost leads alone
  pub group_first : (p : Intent) (ps : List Intent) → AllByRecursion (Before ahead p) ps → leading_group ahead p (p ∷ ps) ≡ p ∷ []
  group_first p ps h =
      grind (arith, nat_tests, filter_none (leads ahead p) ps (each_weaker _ _ (λ q b. grind (arith, nat_tests, behind_not ahead order p q b)) ps h))

  -- whoever else leads a group has the foremost in it
  pub group_later : (p g : Intent) (ps : List Intent) → Before ahead p g → leading_group ahead g (p ∷ ps) ≡ p ∷ leading_group ahead g ps
  group_later p g ps h = grind (arith, nat_tests)

  -- a leading group gets all that there is, up to all that it has left
  pub groups_served : (active price mark left : ℕ) (qs : List Intent) → Pairwise (Before ahead) qs →
      AllByRecursion (λ (g : Intent). handed (given (serve active price mark left qs)) (leading_group ahead g qs) ≡ min left (total (λ (p : Intent). p.remaining) (leading_group ahead g qs))) qs
  groups_served active price mark left [] h = tt
  groups_served active price mark left (p ∷ ps) h =
      let apart : AllByRecursion (Apart p) ps = each_weaker (Before ahead p) (Apart p) (λ q b. b.0) ps h.0 in
      let first = given_first active price mark left p ps apart in (
        rw (group_first p ps h.0) (omega arith),
        each_join (Before ahead p) _ _ (λ g b k. rw (group_later p g ps b) (omega (arith, handed_others active price mark left p ps apart (leads ahead g)))) ps h.0
            (groups_served active price mark (left - min p.remaining left) ps h.1),
      )
