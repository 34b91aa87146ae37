-- THE TURN IS THE ONLY ONE: the law of a turn leaves no choice of fills.
-- `turn_unique` compares two turns, `turn_only` says that a turn's fills are the model's.
use Rattle.std.proofs.Common.{◌≡◌, ℕ, ◌<◌, Bool, cond, ltb, List, [], ◌∷◌, Some, None, Option, sym, refl, ap, ◌∙◌, ⊎_elim, arith}
use Rattle.std.proofs.lemmas.Bool.{both_ways, cases_eq}
use Rattle.std.specs.List.{AllByRecursion}
use Rattle.std.proofs.lemmas.Bool.Decides.{nat_tests}
use Rattle.rules.specs.declared.quotes.Quote.{Quote}
use Rattle.rules.specs.declared.intents.Standing.{Standing}
use Rattle.rules.specs.declared.intents.Intent.{Intent}
use Rattle.rules.specs.declared.slips.Fill.{Fill}
use Rattle.rules.specs.declared.incoming.Incoming.{Incoming}
use Rattle.law.specs.Lists.{Pairwise}
use Rattle.law.specs.Accounts.{Account, quote_in_force, eligible_for, find}
use Rattle.law.specs.Turns.{Rules, LawfulRules, handed, leading_group, given, active_number, DueSlip, Precedes, Turn, OnlyTurn, Sound}
use Rattle.law.specs.Models.{queue, turn_fills}
use Rattle.law.proofs.Lists.{each_weaker, each_join}
use Rattle.law.proofs.Numbers.{Apart, each_find, find_each, find_in}
use Rattle.law.proofs.Fills.{given_nothing}
use Rattle.law.proofs.Queue.{Before, Orderly, each_queue, queue_each, behind_not, ordered_queue, apart_queue}
use Rattle.law.proofs.Serve.{slip, leads, group_first, group_later}
use Rattle.law.proofs.Eligibility.{eligible_apart, eligible_resting}
use Rattle.law.proofs.TurnRight.{part_queue, orderly, turn_right}

-- a slip for each that gets shares, in the order of the line
abbrev pub slips_along : ℕ → ℕ → ℕ → (ℕ → ℕ) → List Intent → List Fill
slips_along active price mark give [] = []
slips_along active price mark give (p ∷ ps) =
    cond (ltb 0 (give p.number)) (slip active price mark p (give p.number) ∷ slips_along active price mark give ps) (slips_along active price mark give ps)

module _ (active price mark : ℕ) where
  -- equal shares have equal slips
  pub along_same : (x y : ℕ → ℕ) (ps : List Intent) → AllByRecursion (λ (p : Intent). x p.number ≡ y p.number) ps → slips_along active price mark x ps ≡ slips_along active price mark y ps
  along_same x y [] h = refl
  along_same x y (p ∷ ps) h = rw (h.0, along_same x y ps h.1)

  -- a slip of the turn, for one of ps
  pub record Due (ps : List Intent) (f : Fill) : Type 0 where
    pub some : 0 < f.volume
    pub active_is : f.active ≡ active
    pub price_is : f.price ≡ price
    pub mark_is : f.mark ≡ mark
    pub passive : Intent
    pub found : find f.passive ps ≡ Some passive

  -- such a slip is told by its number and volume
  slip_is : (p : Intent) (f : Fill) (ps : List Intent) → Due ps f → f.passive ≡ p.number → slip active price mark p f.volume ≡ f
  slip_is p f ps d e = grind arith

  -- where nobody stands in the line, no slip is due
  none_due : (fs : List Fill) → AllByRecursion (Due []) fs → fs ≡ []
  none_due [] h = refl
  none_due (f ∷ fs) h = let e = h.0.found in cc

  -- slips that are not for the first are for the rest of the line
  due_later : (p : Intent) (ps : List Intent) (fs : List Fill) → AllByRecursion (λ (f : Fill). f.passive ≡ p.number → ⊥) fs → AllByRecursion (Due (p ∷ ps)) fs → AllByRecursion (Due ps) fs
  due_later p ps fs h k = each_join _ _ _ (λ f n d. grind (arith, nat_tests)) fs h k

  -- slips that stand in the order of the line are those along it
  module _ (ahead : Standing → Standing → Bool) (line : Orderly ahead) (resting : List Intent) where
    -- where the first slip is not for the first of the line, none is
    none_for_first : (p : Intent) (ps : List Intent) (f : Fill) (fs : List Fill) → (f.passive ≡ p.number → ⊥) → Due (p ∷ ps) f → find p.number resting ≡ Some p →
        AllByRecursion (λ (q : Intent). find q.number resting ≡ Some q) ps → AllByRecursion (Before ahead p) ps → AllByRecursion (Precedes ahead resting f) fs → AllByRecursion (λ (g : Fill). g.passive ≡ p.number → ⊥) fs
    none_for_first p ps f fs other due mine found before order =
        let r : Intent = due.passive in
        let behind : find f.passive ps ≡ Some r = let found_first = due.found in grind (arith, nat_tests) in
        let r_found : find f.passive resting ≡ Some r = find_in ps resting found f.passive r behind in
        let p_r : Before ahead p r = each_find (Before ahead p) f.passive ps r before behind in
        each_weaker _ _ (λ g o e. both_ways _ (behind_not ahead line p r p_r) (o.first r p r_found (ap (λ (n : ℕ). find n resting) e ∙ mine))) fs order

    -- who gets no slip adds none
    not_first : (p : Intent) (ps : List Intent) (fs : List Fill) → AllByRecursion (λ (f : Fill). f.passive ≡ p.number → ⊥) fs → slips_along active price mark (given fs) (p ∷ ps) ≡ slips_along active price mark (given fs) ps
    not_first p ps fs h = grind (arith, nat_tests, given_nothing p.number fs h)

    -- where the first slip is for the first of the line, the others are along the rest
    for_first : (p : Intent) (ps : List Intent) (f : Fill) (fs : List Fill) → f.passive ≡ p.number → Due (p ∷ ps) f → AllByRecursion (Apart p) ps → AllByRecursion (λ (g : Fill). g.passive ≡ p.number → ⊥) fs →
        slips_along active price mark (given (f ∷ fs)) (p ∷ ps) ≡ f ∷ slips_along active price mark (given fs) ps
    for_first p ps f fs e due apart others =
        grind (
          arith,
          nat_tests,
          slip_is p f (p ∷ ps) due,
          given_nothing p.number fs others,
          along_same (given (f ∷ fs)) (given fs) ps (each_weaker (Apart p) _ (λ q k. grind (arith, nat_tests)) ps apart),
        )

    -- slips in the order of the line are told by what they give
    pub read_back : (ps : List Intent) (fs : List Fill) → AllByRecursion (λ (p : Intent). find p.number resting ≡ Some p) ps → Pairwise (Before ahead) ps →
        AllByRecursion (Due ps) fs → Pairwise (Precedes ahead resting) fs → slips_along active price mark (given fs) ps ≡ fs
    read_back [] fs found before due order = sym (none_due fs due)
    read_back (p ∷ ps) [] found before due order = read_back ps [] found.1 before.1 tt tt
    read_back (p ∷ ps) (f ∷ fs) found before due order =
        ⊎_elim
        (λ e.
        let others = each_weaker (Precedes ahead resting f) (λ (g : Fill). g.passive ≡ p.number → ⊥) (λ g o k. o.other (e ∙ sym k)) fs order.0 in
        for_first p ps f fs e due.0 (each_weaker (Before ahead p) (Apart p) (λ q b. b.0) ps before.0) others ∙
        ap (λ (l : List Fill). f ∷ l) (read_back ps fs found.1 before.1 (due_later p ps fs others due.1) order.1))
        (λ other.
        let others : AllByRecursion (λ (g : Fill). g.passive ≡ p.number → ⊥) (f ∷ fs) = (other, none_for_first p ps f fs other due.0 found.0 found.1 before.0 order.0) in
        not_first p ps (f ∷ fs) others ∙ read_back ps (f ∷ fs) found.1 before.1 (due_later p ps (f ∷ fs) others due) order)
        (cases_eq f.passive p.number)

-- what each leading group gets tells what each one gets
module _ (ahead : Standing → Standing → Bool) (order : Orderly ahead) (x y : ℕ → ℕ) where
  abbrev Alike : List Intent → Intent → Type 0
  Alike ps g = handed x (leading_group ahead g ps) ≡ handed y (leading_group ahead g ps)

  groups_tell : (ps : List Intent) → Pairwise (Before ahead) ps → AllByRecursion (Alike ps) ps → AllByRecursion (λ (p : Intent). x p.number ≡ y p.number) ps
  groups_tell [] h k = tt
  groups_tell (p ∷ ps) h k =
      let first = rw (group_first ahead order p ps h.0) at k.0 in
      let same : x p.number ≡ y p.number = omega arith in
      let rest : AllByRecursion (Alike ps) ps = each_join (Before ahead p) (Alike (p ∷ ps)) (Alike ps) (λ g b l. let later = rw (group_later ahead order p g ps b) at l in omega arith) ps h.0 k.1 in
      (same, groups_tell ps h.1 rest)

  -- the same of a list that is not in order
  pub groups_decide : (ps : List Intent) → Pairwise Apart ps → AllByRecursion (Alike ps) ps → AllByRecursion (λ (p : Intent). x p.number ≡ y p.number) (queue ahead ps)
  groups_decide ps apart k =
      groups_tell (queue ahead ps) (ordered_queue ahead order ps apart)
      (each_queue ahead (Alike (queue ahead ps)) ps (each_weaker (Alike ps) (Alike (queue ahead ps)) (λ g same.
      part_queue ahead (λ (p : Intent). x p.number) (leads ahead g) ps ∙ same ∙ sym (part_queue ahead (λ (p : Intent). y p.number) (leads ahead g) ps)) ps k))

module _ (rules : Rules) (a : Account) (i : Incoming) (lawful : LawfulRules rules) (sound : Sound a) where
  -- no quote in force, no slips
  turn_empty : quote_in_force a i.security ≡ None → (fs : List Fill) → Turn rules a i fs → fs ≡ []
  turn_empty e [] t = refl
  turn_empty e (f ∷ fs) t = let k = t.slips.0.priced.in_force in cc

  module _ (q : Quote) (e : quote_in_force a i.security ≡ Some q) where
    abbrev ahead : Standing → Standing → Bool
    ahead = rules.ahead i.subscriber

    abbrev passives : List Intent
    passives = eligible_for rules.price a i

    ordered : Pairwise (Before ahead) (queue ahead passives)
    ordered = ordered_queue ahead (orderly rules i.subscriber lawful) passives (eligible_apart rules.price a i sound)

    queue_found : AllByRecursion (λ (p : Intent). find p.number (queue ahead passives) ≡ Some p) passives
    queue_found = queue_each ahead _ passives (find_each (queue ahead passives) (apart_queue ahead (orderly rules i.subscriber lawful) passives (eligible_apart rules.price a i sound)))

    due : (f : Fill) → DueSlip rules a i f → Due (active_number i.number) (rules.price q i.side) rules.mark (queue ahead passives) f
    due f slip =
        let quote : slip.priced.quote ≡ q = let k = slip.priced.in_force in cc in
        record {
          some = slip.some;
          active_is = slip.active;
          price_is = slip.priced.at_price ∙ ap (λ (x : Quote). rules.price x i.side) quote;
          mark_is = slip.mark;
          passive = slip.priced.passive;
          found = find_in passives (queue ahead passives) queue_found f.passive slip.priced.passive slip.priced.found;
        }

    -- the slips of a turn, from what they give
    turn_read : (fs : List Fill) → Turn rules a i fs → slips_along (active_number i.number) (rules.price q i.side) rules.mark (given fs) (queue ahead passives) ≡ fs
    turn_read fs t =
        read_back (active_number i.number) (rules.price q i.side) rules.mark ahead (orderly rules i.subscriber lawful) a.resting (queue ahead passives) fs
        (each_queue ahead _ passives (eligible_resting rules.price a i sound)) ordered
        (each_weaker _ _ due fs t.slips) t.foremost_first

    turn_same : (fs gs : List Fill) → Turn rules a i fs → Turn rules a i gs → fs ≡ gs
    turn_same fs gs t u =
        let groups = each_join _ _ _ (λ g l m. omega arith) passives (t.most (given gs) u.allotment) (u.most (given fs) t.allotment) in
        let shares = groups_decide ahead (orderly rules i.subscriber lawful) (given fs) (given gs) passives (eligible_apart rules.price a i sound) groups in
        sym (turn_read fs t) ∙ along_same (active_number i.number) (rules.price q i.side) rules.mark (given fs) (given gs) (queue ahead passives) shares ∙ turn_read gs u

  unique_under : (o : Option Quote) → quote_in_force a i.security ≡ o → (fs gs : List Fill) → Turn rules a i fs → Turn rules a i gs → fs ≡ gs
  unique_under None e fs gs t u = turn_empty e fs t ∙ sym (turn_empty e gs u)
  unique_under (Some q) e fs gs t u = turn_same q e fs gs t u

-- two lists of fills that the law allows for one turn are the same
pub turn_unique : (rules : Rules) (a : Account) (i : Incoming) → LawfulRules rules → Sound a → (fs gs : List Fill) → Turn rules a i fs → Turn rules a i gs → fs ≡ gs
turn_unique rules a i lawful sound fs gs t u = unique_under rules a i lawful sound (quote_in_force a i.security) refl fs gs t u

-- the fills that the law asks for are those of the model
pub turn_only : (rules : Rules) (a : Account) (i : Incoming) → LawfulRules rules → Sound a → (fs : List Fill) → Turn rules a i fs → fs ≡ turn_fills rules a i
turn_only rules a i lawful sound fs t = turn_unique rules a i lawful sound fs (turn_fills rules a i) t (turn_right rules a i lawful sound)

-- the model's fills are a turn's, and the only ones
pub turn_theorem : (rules : Rules) (a : Account) (i : Incoming) → LawfulRules rules → Sound a → OnlyTurn rules a i (turn_fills rules a i)
turn_theorem rules a i lawful sound = record { turn = turn_right rules a i lawful sound; only = turn_only rules a i lawful sound }
