-- One handing of a turn, over the table in place.
use Rattle.std.proofs.Common.{◌≡◌, ℕ, zero, suc, ◌+◌, ◌-◌, ◌<◌, ◌≤◌, min, Bool, true, false, List, [], ◌∷◌, map, length, set, sym, refl, ap, ◌∙◌, arith}
use Rattle.std.proofs.lemmas.Bool.Decides.{nat_tests}
use Rattle.std.proofs.lemmas.Grind.{common_steps}
use Rattle.std.proofs.lemmas.List.{length-map, length-set, get_or-map, get_or-set_same, get_or-set_other, ext_get_or}
use Rattle.std.specs.List.{filter}
use Rattle.rules.specs.declared.quotes.Quote.{Quote}
use Rattle.rules.specs.declared.intents.Standing.{Standing}
use Rattle.rules.specs.declared.intents.Intent.{Intent}
use Rattle.rules.specs.declared.incoming.Incoming.{Incoming}
use Rattle.rules.specs.declared.slips.Fill.{Fill}
use Rattle.rules.specs.declared.slips.Slip.{Slip}
use Rattle.rules.specs.declared.slips.Slip.TheVariants.{Filled}
use Rattle.law.specs.Accounts.{with_left, volume_of}
use Rattle.law.specs.Turns.{active_number}
use Rattle.law.specs.Models.{queue, serve}
use Rattle.rules.specs.Blanks.{blank_intent}
use Rattle.ledger.specs.Places.{at}
use Rattle.book.specs.InPlace.{ready, Distinct, Foremost, Nowhere, turn_of, relieved, written_from, alive, Handed}
use Rattle.law.proofs.Lists.{each_from_places, filter_none}
use Rattle.law.proofs.Serve.{serve_spent}
use Rattle.book.proofs.Queueing.{Sided, queue_head}

pub emptied : (q : Quote) (price : ℕ) (i : Incoming) (p : Intent) → ready q price i (with_left p 0) ≡ false
unfolding ready
emptied q price i p = refl

-- the intent with v shares less
abbrev pub less : Intent → ℕ → Intent
less p v = with_left p (p.remaining - v)

pub distinct_set : (ps : List Intent) (n k v : ℕ) → k < length ps → Distinct ps n → Distinct (set ps k (with_left (at ps k) v)) n
distinct_set ps n k v h d i j x y z e = d i j x y z (sym (same i) ∙ e ∙ same j)
  where
    same : (j : ℕ) → (at (set ps k (with_left (at ps k) v)) j).number ≡ (at ps j).number
    same j = grind (arith, common_steps)

-- a fill is taken off where its number stands
pub relieved_more : (ps : List Intent) (k v : ℕ) (f : Fill) (fs : List Fill) → k < length ps → Distinct ps (length ps) → f.passive ≡ (at ps k).number → f.volume ≡ v →
    map (relieved (f ∷ fs)) ps ≡ map (relieved fs) (set ps k (less (at ps k) v))
relieved_more ps k v f fs h d named big =
    let y : Intent = less (at ps k) v in
    ext_get_or blank_intent (map (relieved (f ∷ fs)) ps) (map (relieved fs) (set ps k y)) (simp (length-map, length-set))
    (λ j l.
    let in_ps : j < length ps = omega (arith, length-map ps (relieved (f ∷ fs))) in
    grind (
      arith,
      nat_tests,
      get_or-map (relieved (f ∷ fs)) ps j blank_intent blank_intent in_ps,
      get_or-map (relieved fs) (set ps k y) j blank_intent blank_intent,
      length-set ps k y,
      get_or-set_same ps k y blank_intent h,
      get_or-set_other ps k j y blank_intent,
      d j k in_ps h,
    ))

pub relieved_none : (ps : List Intent) → map (relieved []) ps ≡ ps
relieved_none [] = refl
relieved_none (p ∷ ps) = grind (arith, relieved_none ps)

module _ (ahead : Standing → Standing → Bool) (q : Quote) (price mark : ℕ) (i : Incoming) where
  abbrev pub slip : Intent → ℕ → Fill
  slip p v = record { active = active_number i.number; passive = p.number; volume = v; price = price; mark = mark }

  pub turn_spent : (left : ℕ) (ps : List Intent) → left ≡ 0 → turn_of ahead q price mark i left ps ≡ []
  turn_spent left ps h = serve_spent (active_number i.number) price mark left h (queue ahead (filter (ready q price i) ps))

  pub turn_none : (left : ℕ) (ps : List Intent) → Nowhere (ready q price i) ps (length ps) → turn_of ahead q price mark i left ps ≡ []
  turn_none left ps h =
      ap (λ (l : List Intent). serve (active_number i.number) price mark left (queue ahead l)) (filter_none (ready q price i) ps (each_from_places blank_intent (λ (p : Intent). ready q price i p ≡ false) ps h))

  pub turn_more : Sided ahead → (left : ℕ) (ps : List Intent) (k : ℕ) → 0 < left → Distinct ps (length ps) → Foremost ahead (ready q price i) ps (length ps) k →
      turn_of ahead q price mark i left ps ≡ slip (at ps k) (min (at ps k).remaining left) ∷ turn_of ahead q price mark i (left - min (at ps k).remaining left) (set ps k (less (at ps k) (min (at ps k).remaining left)))
  turn_more sided left ps k some d best =
      let p : Intent = at ps k in
      let v : ℕ = min p.remaining left in
      let rest : List Intent = queue ahead (filter (ready q price i) (set ps k (with_left p 0))) in
      grind (
        arith,
        nat_tests,
        queue_head ahead sided (ready q price i) (emptied q price i) ps k best.within best.ready_there d best.best,
        serve_spent (active_number i.number) price mark 0 refl rest,
        turn_spent 0 (set ps k (less p v)) refl,
      )

-- an intent that is emptied is one less with something left
pub alive_set : (ps : List Intent) (k w : ℕ) → k < length ps → 0 < (at ps k).remaining → alive (set ps k (with_left (at ps k) w)) + (1 - min w 1) ≡ alive ps
alive_set [] k w h some = absurd (omega arith)
alive_set (p ∷ ps) zero w h some = grind (arith, nat_tests)
alive_set (p ∷ ps) (suc k) w h some = grind (arith, nat_tests, alive_set ps k w)

-- what is still to come, from where a turn stands, is what the turn gives
pub record Underway (ahead : Standing → Standing → Bool) (q : Quote) (price mark : ℕ) (i : Incoming) (ps : List Intent) (page : List Slip) (volume : ℕ) (fs : List Fill) (left : ℕ) (ps' : List Intent) (page' : List Slip) (count : ℕ) : Type 0 where
  pub slips : count + length (turn_of ahead q price mark i left ps') ≡ length fs
  pub rest : left - volume_of (turn_of ahead q price mark i left ps') ≡ volume - volume_of fs
  pub few : count ≤ alive ps
  pub emptied_each : count + alive ps' + min left 1 ≤ alive ps + min volume 1
  pub written_on : written_from page' count (turn_of ahead q price mark i left ps') ≡ written_from page 0 fs
  pub lessened : map (relieved (turn_of ahead q price mark i left ps')) ps' ≡ map (relieved fs) ps
  pub apart : Distinct ps' (length ps')

pub ready_live : (q : Quote) (price : ℕ) (i : Incoming) (p : Intent) → ready q price i p ≡ true → 0 < p.remaining
unfolding ready
ready_live q price i p h = grind (arith, nat_tests)

module _ {ahead : Standing → Standing → Bool} {q : Quote} {price mark : ℕ} {i : Incoming} {ps : List Intent} {page : List Slip} {volume : ℕ} {fs : List Fill}
    {left : ℕ} {ps' : List Intent} {page' : List Slip} {count : ℕ} (u : Underway ahead q price mark i ps page volume fs left ps' page' count) where
  pub underway_end : turn_of ahead q price mark i left ps' ≡ [] → Handed fs volume ps ps' page page' (record { slips = count; left = left })
  underway_end e =
      let none : length (turn_of ahead q price mark i left ps') ≡ 0 = ap length e in
      let nothing : volume_of (turn_of ahead q price mark i left ps') ≡ 0 = ap volume_of e in
      record {
        counted = omega (arith, u.slips);
        rest = omega (arith, u.rest);
        few = u.few;
        emptied = u.emptied_each;
        pages = sym (ap (written_from page' count) e) ∙ u.written_on;
        table = sym (ap (λ (gs : List Fill). map (relieved gs) ps') e ∙ relieved_none ps') ∙ u.lessened;
      }

  pub underway_spent : left ≤ 0 → Handed fs volume ps ps' page page' (record { slips = count; left = left })
  underway_spent h = underway_end (turn_spent ahead q price mark i left ps' (omega arith))

  pub underway_none : Nowhere (ready q price i) ps' (length ps') → Handed fs volume ps ps' page page' (record { slips = count; left = left })
  underway_none h = underway_end (turn_none ahead q price mark i left ps' h)

  module _ (sided : Sided ahead) (k : ℕ) (some : 0 < left) (best : Foremost ahead (ready q price i) ps' (length ps') k) (v : ℕ) (is : v ≡ min (at ps' k).remaining left) where
    pub underway_next : turn_of ahead q price mark i left ps' ≡ slip ahead q price mark i (at ps' k) v ∷ turn_of ahead q price mark i (left - v) (set ps' k (less (at ps' k) v))
    underway_next =
        turn_more ahead q price mark i sided left ps' k some u.apart best
        ∙ sym (ap (λ (w : ℕ). slip ahead q price mark i (at ps' k) w ∷ turn_of ahead q price mark i (left - w) (set ps' k (less (at ps' k) w))) is)

    pub underway_room : count + 1 ≤ alive ps
    underway_room = omega (arith, u.emptied_each, alive_set ps' k 0 best.within (ready_live q price i (at ps' k) best.ready_there))

    pub underway_more : Underway ahead q price mark i ps page volume fs (left - v) (set ps' k (less (at ps' k) v)) (set page' count (Filled (slip ahead q price mark i (at ps' k) v))) (count + 1)
    underway_more =
        let f : Fill = slip ahead q price mark i (at ps' k) v in
        let rest : List Fill = turn_of ahead q price mark i (left - v) (set ps' k (less (at ps' k) v)) in
        let long : length (set ps' k (less (at ps' k) v)) ≡ length ps' = length-set ps' k (less (at ps' k) v) in
        let taken = alive_set ps' k ((at ps' k).remaining - v) best.within (ready_live q price i (at ps' k) best.ready_there) in
        let some_left : 0 < (at ps' k).remaining = ready_live q price i (at ps' k) best.ready_there in
        record {
          slips = omega (arith, u.slips, ap length underway_next);
          rest = omega (arith, u.rest, ap volume_of underway_next);
          few = underway_room;
          emptied_each = omega (arith, u.emptied_each, taken);
          written_on = sym (ap (written_from page' count) underway_next) ∙ u.written_on;
          lessened = sym (relieved_more ps' k v f rest best.within u.apart refl refl) ∙ sym (ap (λ (gs : List Fill). map (relieved gs) ps') underway_next) ∙ u.lessened;
          apart = rw long (distinct_set ps' (length ps') k ((at ps' k).remaining - v) best.within u.apart);
        }

-- nothing is handed out
pub handed_none : (volume : ℕ) (ps : List Intent) (page : List Slip) → Handed [] volume ps ps page page (record { slips = 0; left = volume })
handed_none volume ps page =
    record { counted = refl; rest = omega arith; pages = refl; table = sym (relieved_none ps); few = omega arith; emptied = omega arith }
