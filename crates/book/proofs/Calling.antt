-- What the calls of the book come to, from a turn that was matched.
use Rattle.std.proofs.Common.{◌≡◌, ℕ, true, List, [], ◌∷◌, map, length, take, drop, Ok, Err, Result, IsErrAnd, sym, refl, ap, ◌∙◌, subst, arith}
use Rattle.std.specs.List.{AllByRecursion}
use Rattle.std.proofs.lemmas.List.{length-map, take_at}
use Rattle.rules.specs.declared.incoming.Incoming.{Incoming}
use Rattle.rules.specs.declared.refusals.Refusal.{Refusal}
use Rattle.rules.specs.declared.slips.Fill.{Fill}
use Rattle.rules.specs.declared.slips.Slip.{Slip}
use Rattle.rules.specs.declared.slips.Slip.TheVariants.{Filled}
use Rattle.law.specs.Checks.{Check, checked}
use Rattle.law.specs.Memories.{Memory, account, lawful_table, written}
use Rattle.law.specs.Models.{turn_fills}
use Rattle.law.specs.Turns.{Rules, LawfulRules, LawfulQuotes, OnlyTurn, fills}
use Rattle.law.proofs.Checked.{checked_passes, checked_err}
use Rattle.law.proofs.Lawful.{sound_account}
use Rattle.law.proofs.TurnUnique.{turn_theorem}
use Rattle.book.specs.declared.turns.Turned.{Turned}
use Rattle.book.specs.Matches.{Matched}

-- no check failed
abbrev pub Passed : List Check → Type 0
Passed cs = Ok tt ≡ checked {A = Unit {0}} cs tt

pub passed_tests : (cs : List Check) → Passed cs → AllByRecursion (λ (c : Check). c.0 ≡ true) cs
passed_tests cs passed = checked_passes cs (tt {0}) tt (sym passed)

-- a refusal is answered as it came
pub refused_alike : {A : Type 0} (cs : List Check) (x : A) (r : Result A Refusal) (e : Refusal) → IsErrAnd r (λ y. y ≡ e) → Err e ≡ checked {A = Unit {0}} cs tt → r ≡ checked cs x
refused_alike cs x (Ok y) e came failed = absurd came
refused_alike cs x (Err y) e came failed = ap Err came ∙ sym (checked_err cs (tt {0}) x e (sym failed))

-- SLIPS

fills_filled : (fs : List Fill) → fills (map Filled fs) ≡ fs
fills_filled [] = refl
fills_filled (f ∷ fs) = grind (arith, fills_filled fs)

-- the fills that were written stand first on the page
front_fills : (fs : List Fill) (page : List Slip) → fills (take (length fs) (written (map Filled fs) page)) ≡ fs
front_fills fs page = ap fills (take_at (map Filled fs) (drop (length (map Filled fs)) page) (length fs) (length-map fs Filled)) ∙ fills_filled fs

-- TURNS

-- the slips on the page are those of the turn, and the law allows no others
pub turned_by_law : {rules : Rules} {m m' : Memory} {i : Incoming} {r : Turned} → LawfulRules rules → Matched rules i m m' r → lawful_table m.count m.next m.table ≡ true →
    LawfulQuotes m.securities → OnlyTurn rules (account m) i (fills (take r.slips m'.page))
turned_by_law {rules} {m} {m'} {i} {r} lawful matched table quotes =
    let fs : List Fill = turn_fills rules (account m) i in
    let on_page : fills (take r.slips m'.page) ≡ fs =
    ap (λ (n : ℕ). fills (take n m'.page)) matched.slips ∙ ap (λ (x : Memory). fills (take (length fs) x.page)) matched.after ∙ front_fills fs m.page in
    subst (OnlyTurn rules (account m) i) (sym on_page) (turn_theorem rules (account m) i lawful (sound_account m table quotes))
