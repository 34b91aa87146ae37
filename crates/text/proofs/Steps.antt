-- One step of the reader. `r` is the rest of the script s from `at` on, behind line n.
use Rattle.std.proofs.Common.{◌≡◌, ℕ, ◌+◌, ◌-◌, ◌<◌, Bool, true, false, cond, eqb, List, [], ◌∷◌, length, take, drop, Some, None, codes, sym, refl, ap, ◌∙◌, arith}
use Rattle.std.proofs.lemmas.List.{drop-drop, length-drop, nil_from_length}
use Rattle.text.specs.declared.faults.Cause.TheVariants.{Unfinished}
use Rattle.text.specs.Keys.{behind}
use Rattle.text.specs.Lines.{Line, grown, lines, unended, cut}
use Rattle.text.specs.declared.reader.Reader.{Reader}
use Rattle.text.specs.Grammar.{Form, ask, form_of}
use Rattle.text.specs.Progress.{to_read}
use Rattle.text.specs.Steps.{onward_from}
use Rattle.text.specs.Readings.{Due, start, asked, read, keyed, faulty, end}

unended_read : (n : ℕ) (due : Due) (r : List ℕ) → (length r ≡ 0 → ⊥) → read (unended r) n due ≡ faulty Unfinished (n + 1)
unended_read n due [] some = absurd (some refl)
unended_read n due (c ∷ cs) some = refl

module _ (s r : List ℕ) (at n : ℕ) (rest : r ≡ drop at s) where
  pub line_read : (i : ℕ) → lines r ≡ cut (Some i) r → (front : List ℕ) (next : List ℕ → Form) →
      read (lines (drop at s)) n (asked front next) ≡ keyed (read (lines (drop (at + (i + 1)) s)) (n + 1)) (n + 1) next (behind front (take (i - 0) r))
  line_read i ends front next =
      let z : i ≡ i - 0 = omega arith in
      ap (λ (t : List ℕ). read (lines t) n (asked front next)) (sym rest)
      ∙ ap (λ (ls : List Line). read ls n (asked front next)) ends
      ∙ ap (λ (t : List ℕ). keyed (read (lines t) (n + 1)) (n + 1) next (behind front (take i r))) (ap (drop (i + 1)) rest ∙ drop-drop (i + 1) at s)
      ∙ ap (λ (k : ℕ). keyed (read (lines (drop (at + (i + 1)) s)) (n + 1)) (n + 1) next (behind front (take k r))) z

  -- nothing is left, or a line that does not end
  pub none_left : length r ≡ 0 → (due : Due) → due.inside ≡ true → read (lines (drop at s)) n due ≡ faulty Unfinished n
  none_left empty due inside =
      ap (λ (t : List ℕ). read (lines t) n due) (sym rest ∙ nil_from_length r empty) ∙ ap (λ (b : Bool). cond b (faulty Unfinished n) end) inside

  pub not_ended : lines r ≡ cut None r → (length r ≡ 0 → ⊥) → (due : Due) → read (lines (drop at s)) n due ≡ faulty Unfinished (n + 1)
  not_ended ends some due =
      ap (λ (t : List ℕ). read (lines t) n due) (sym rest) ∙ ap (λ (ls : List Line). read ls n due) ends ∙ unended_read n due r some

-- where something is left, it makes no difference that no call has begun
begun : (n : ℕ) (s : List ℕ) → 0 < length s → (front : List ℕ) (next : List ℕ → Form) → read (lines s) n (record { front = front; next = next; inside = false }) ≡ read (lines s) n (asked front next)
begun n [] h front next = absurd (omega arith)
begun n (c ∷ cs) h front next = by (eqb c 10) (lines cs)
  where
    by : (b : Bool) (ls : List Line) →
        read (cond b (record { text = []; ended = true } ∷ ls) (grown c ls)) n (record { front = front; next = next; inside = false }) ≡ read (cond b (record { text = []; ended = true } ∷ ls) (grown c ls)) n (asked front next)
    by true ls = refl
    by false [] = refl
    by false (l ∷ ls) = refl

pub started : (x : Reader) → x.at < length x.text.now → to_read x start ≡ onward_from x (ask (codes "call=") form_of)
started x more =
    let some : 0 < length (drop x.at x.text.now) = omega (arith, length-drop x.at x.text.now) in
    begun x.line (drop x.at x.text.now) some (codes "call=") form_of
