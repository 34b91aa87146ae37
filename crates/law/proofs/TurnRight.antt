-- THE TURN IS RIGHT: the model's fills of a turn are those that the law asks for.
-- `turn_right` is the end; before it, that the served queue is an allotment and the most for each leading group.
use Rattle.std.proofs.Common.{◌≡◌, ℕ, ◌≤◌, min, Bool, IsTrue, List, [], Some, None, Option, sym, refl, ◌∙◌, subst₂, arith}
use Rattle.std.specs.List.{filter, AllByRecursion}
use Rattle.rules.specs.declared.quotes.Quote.{Quote}
use Rattle.rules.specs.declared.intents.Standing.{Standing}
use Rattle.rules.specs.declared.intents.Intent.{Intent}
use Rattle.rules.specs.declared.slips.Fill.{Fill}
use Rattle.rules.specs.declared.incoming.Incoming.{Incoming}
use Rattle.rules.specs.Eligibility.{eligible}
use Rattle.rules.specs.Intents.{standing}
use Rattle.law.specs.Lists.{total, Pairwise}
use Rattle.law.specs.Accounts.{Account, quote_in_force, eligible_for, find}
use Rattle.law.specs.Turns.{Rules, LawfulRules, handed, Allotment, leading_group, given, active_number, Priced, DueSlip, Precedes, Turn, LawfulIfAny, Sound}
use Rattle.law.specs.Models.{queue, serve, fills_under, turn_fills}
use Rattle.law.proofs.Lists.{each_weaker, each_join, each_filter, each_passes, pairwise_beside, total_least, total_filter, total_part}
use Rattle.law.proofs.Numbers.{Apart, find_each}
use Rattle.law.proofs.Queue.{Before, Orderly, each_queue, queue_each, total_queue, ordered_queue, apart_queue}
use Rattle.law.proofs.Serve.{slip, each_serve, pairwise_serve, served_each, served_all, leads, groups_served}
use Rattle.law.proofs.Eligibility.{in_force_lawful, eligible_within, eligible_none, eligible_some, each_eligible, eligible_apart, eligible_resting}

-- the queue hands the same to any part
pub part_queue : (ahead : Standing → Standing → Bool) (f : Intent → ℕ) (t : Intent → Bool) (ps : List Intent) → total f (filter t (queue ahead ps)) ≡ total f (filter t ps)
part_queue ahead f t ps = total_filter f t (queue ahead ps) ∙ total_queue ahead _ ps ∙ sym (total_filter f t ps)

abbrev pub remaining_of : List Intent → ℕ
remaining_of ps = total (λ (p : Intent). p.remaining) ps

-- no way to hand out shares gives a part more than there is, or more than it has left
pub part_capped : (volume : ℕ) (ps : List Intent) (give : ℕ → ℕ) (t : Intent → Bool) → Allotment volume ps give → handed give (filter t ps) ≤ min volume (remaining_of (filter t ps))
part_capped volume ps give t h =
    omega (
      arith,
      h.all,
      total_part (λ (p : Intent). give p.number) t ps,
      total_least (λ (p : Intent). give p.number) (λ (p : Intent). p.remaining) (filter t ps) (each_filter _ t ps h.each),
    )

module _ (ahead : Standing → Standing → Bool) (order : Orderly ahead)
    (active price mark volume : ℕ) (ps : List Intent) (apart : Pairwise Apart ps) where
  abbrev served : List Fill
  served = serve active price mark volume (queue ahead ps)

  -- serving the queue is an allotment
  pub served_allotment : Allotment volume ps (given served)
  served_allotment = record {
    each = queue_each ahead _ ps (served_each active price mark volume (queue ahead ps) (apart_queue ahead order ps apart));
    all = rw (total_queue ahead (λ (p : Intent). given served p.number) ps) at (served_all active price mark volume (queue ahead ps) (apart_queue ahead order ps apart));
  }

  -- each leading group gets all that there is, up to all that it has left
  pub served_groups : AllByRecursion (λ (g : Intent). handed (given served) (leading_group ahead g ps) ≡ min volume (remaining_of (leading_group ahead g ps))) ps
  served_groups =
      queue_each ahead _ ps (each_weaker _ _ (λ g k.
      omega (arith, part_queue ahead (λ (p : Intent). given served p.number) (leads ahead g) ps, part_queue ahead (λ (p : Intent). p.remaining) (leads ahead g) ps))
      (queue ahead ps) (groups_served ahead order active price mark volume (queue ahead ps) (ordered_queue ahead order ps apart)))

  -- so no allotment gives it more
  pub served_most : (give : ℕ → ℕ) → Allotment volume ps give → AllByRecursion (λ (g : Intent). handed give (leading_group ahead g ps) ≤ handed (given served) (leading_group ahead g ps)) ps
  served_most give h = each_weaker _ _ (λ g k. omega (arith, part_capped volume ps give (leads ahead g) h)) ps served_groups

-- a lawful priority lines up those that it is asked of
pub orderly : (rules : Rules) (s : ℕ) → LawfulRules rules → Orderly (rules.ahead s)
orderly rules s lawful = record { either = lawful.total s; onward = lawful.transitive s }

module _ (rules : Rules) (a : Account) (i : Incoming) (lawful : LawfulRules rules) (sound : Sound a) where
  -- no quote in force, no fills
  turn_none : quote_in_force a i.security ≡ None → Turn rules a i []
  turn_none e =
      let none = eligible_none rules.price a i e in
      record {
        slips = tt;
        foremost_first = tt;
        allotment = record { each = rw none tt; all = rw none (omega arith) };
        most = λ give h. rw none tt;
      }

  module _ (q : Quote) (e : quote_in_force a i.security ≡ Some q) where
    abbrev passives : List Intent
    passives = eligible_for rules.price a i

    abbrev ahead : Standing → Standing → Bool
    ahead = rules.ahead i.subscriber

    abbrev price : ℕ
    price = rules.price q i.side

    abbrev line : List Intent
    line = queue ahead passives

    abbrev fills : List Fill
    fills = fills_under rules (Some q) a i

    -- who stands among the eligible passes the test
    passives_eligible : AllByRecursion (λ (p : Intent). IsTrue (eligible q price i p)) passives
    passives_eligible = rw (eligible_some rules.price a i q e) (each_passes (eligible q price i) a.resting)

    -- p has a place in the line
    abbrev Lined : Intent → Type 0
    Lined p = (1 ≤ p.remaining) × IsTrue (eligible q price i p) × (find p.number passives ≡ Some p)

    lined : AllByRecursion Lined line
    lined =
        each_queue ahead Lined passives
        (each_join _ _ Lined (λ p l w. (l, w.0, w.1)) passives (each_eligible rules.price a i _ sound.something_left)
        (each_join _ _ (λ (p : Intent). IsTrue (eligible q price i p) × (find p.number passives ≡ Some p)) (λ p t f. (t, f)) passives passives_eligible (find_each passives (eligible_apart rules.price a i sound))))

    found : AllByRecursion (λ (p : Intent). find p.number a.resting ≡ Some p) line
    found = each_queue ahead _ passives (eligible_resting rules.price a i sound)

    -- the slip of anybody in the line is at the price, within the quote and both limits
    priced : (p : Intent) (v : ℕ) → Lined p → Priced rules a i passives (slip (active_number i.number) price rules.mark p v)
    priced p v h =
        let quoted : LawfulIfAny (Some q) = rw e at (in_force_lawful a sound i.security) in
        let within = eligible_within q price i p h.1 in
        record {
          quote = q;
          in_force = e;
          passive = p;
          found = h.2;
          at_price = refl;
          within_quote = lawful.between q i.side quoted;
          within_passive = within.0;
          within_active = within.1;
        }

    ahead_line : Pairwise (Before ahead) line
    ahead_line = ordered_queue ahead (orderly rules i.subscriber lawful) passives (eligible_apart rules.price a i sound)

    -- the resting intents under the two numbers stand as the two in the line do
    ahead_found : (p r p' r' : Intent) → (find p.number a.resting ≡ Some p) × (find r.number a.resting ≡ Some r) × Before ahead p r →
        find p.number a.resting ≡ Some p' → find r.number a.resting ≡ Some r' → IsTrue (ahead (standing p') (standing r'))
    ahead_found p r p' r' h e f =
        let one : p ≡ p' = cc in
        let two : r ≡ r' = cc in
        subst₂ (λ (x y : Intent). IsTrue (ahead (standing x) (standing y))) one two h.2.1

    turn_some : Turn rules a i fills
    turn_some = record {
      slips = each_serve (active_number i.number) price rules.mark Lined (DueSlip rules a i) (λ p left some h. record { active = refl; some = omega arith; mark = refl; priced = priced p _ h }) i.volume line lined;
      foremost_first = pairwise_serve (active_number i.number) price rules.mark _ (Precedes ahead a.resting) (λ p r v w h. record { other = h.2.0; first = λ p' r'. ahead_found p r p' r' h }) i.volume line (pairwise_beside _ _ line found ahead_line);
      allotment = served_allotment ahead (orderly rules i.subscriber lawful) (active_number i.number) price rules.mark i.volume passives (eligible_apart rules.price a i sound);
      most = served_most ahead (orderly rules i.subscriber lawful) (active_number i.number) price rules.mark i.volume passives (eligible_apart rules.price a i sound);
    }

  turn_under : (o : Option Quote) → quote_in_force a i.security ≡ o → Turn rules a i (fills_under rules o a i)
  turn_under None e = turn_none e
  turn_under (Some q) e = turn_some q e

pub turn_right : (rules : Rules) (a : Account) (i : Incoming) → LawfulRules rules → Sound a → Turn rules a i (turn_fills rules a i)
turn_right rules a i lawful sound = turn_under rules a i lawful sound (quote_in_force a i.security) refl
