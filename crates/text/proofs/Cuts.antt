-- The first line of a text: byte by byte, and at its first byte 10.
use Rattle.std.proofs.Common.{◌≡◌, ℕ, ◌+◌, ◌<◌, ◌≤◌, Bool, true, false, cond, eqb, List, [], ◌∷◌, ◌++◌, length, get_or, take, drop, Some, None, sym, refl, ap, ◌∙◌, arith}
use Rattle.std.proofs.lemmas.List.{drop_more, drop_all, take_more, take_all}
use Rattle.std.proofs.lemmas.Bool.{eq-eqb, ne_eqb}
use Rattle.std.proofs.lemmas.Bool.Decides.{nat_tests}
use Rattle.std.specs.List.{position}
use Rattle.text.specs.Lines.{Line, grown, lines, unended, cut}

-- bytes in front of the first line
abbrev pub prefixed : List ℕ → List Line → List Line
prefixed [] ls = ls
prefixed (c ∷ cs) ls = grown c (prefixed cs ls)

prefixed_push : (cs : List ℕ) (c : ℕ) (ls : List Line) → prefixed (cs ++ c ∷ []) ls ≡ prefixed cs (grown c ls)
prefixed_push [] c ls = refl
prefixed_push (d ∷ cs) c ls = ap (grown d) (prefixed_push cs c ls)

prefixed_ended : (cs : List ℕ) (ls : List Line) → prefixed cs (record { text = []; ended = true } ∷ ls) ≡ record { text = cs; ended = true } ∷ ls
prefixed_ended [] ls = refl
prefixed_ended (c ∷ cs) ls = ap (grown c) (prefixed_ended cs ls)

grown_unended : (c : ℕ) (cs : List ℕ) → grown c (unended cs) ≡ unended (c ∷ cs)
grown_unended c [] = refl
grown_unended c (d ∷ cs) = refl

prefixed_unended : (cs : List ℕ) → prefixed cs [] ≡ unended cs
prefixed_unended [] = refl
prefixed_unended (c ∷ cs) = ap (grown c) (prefixed_unended cs) ∙ grown_unended c cs

lines_by : (c : ℕ) (cs : List ℕ) (b : Bool) → eqb c 10 ≡ b → lines (c ∷ cs) ≡ cond b (record { text = []; ended = true } ∷ lines cs) (grown c (lines cs))
lines_by c cs b e = ap (λ (t : Bool). cond t (record { text = []; ended = true } ∷ lines cs) (grown c (lines cs))) e

pub more : (s : List ℕ) (i : ℕ) → i < length s → (get_or s i 0 ≡ 10 → ⊥) → lines s ≡ prefixed (take i s) (lines (drop i s)) → lines s ≡ prefixed (take (i + 1) s) (lines (drop (i + 1) s))
more s i h other inv =
    inv
    ∙ ap (λ (t : List ℕ). prefixed (take i s) (lines t)) (drop_more s i 0 h)
    ∙ ap (prefixed (take i s)) (lines_by (get_or s i 0) (drop (i + 1) s) false (ne_eqb _ _ other))
    ∙ sym (prefixed_push (take i s) (get_or s i 0) (lines (drop (i + 1) s)))
    ∙ ap (λ (t : List ℕ). prefixed t (lines (drop (i + 1) s))) (sym (take_more s i 0 h))

pub found_end : (s : List ℕ) (i : ℕ) → i < length s → get_or s i 0 ≡ 10 → lines s ≡ prefixed (take i s) (lines (drop i s)) → lines s ≡ cut (Some i) s
found_end s i h here inv =
    inv
    ∙ ap (λ (t : List ℕ). prefixed (take i s) (lines t)) (drop_more s i 0 h)
    ∙ ap (prefixed (take i s)) (lines_by (get_or s i 0) (drop (i + 1) s) true (eq-eqb _ _ here))
    ∙ prefixed_ended (take i s) (lines (drop (i + 1) s))

pub no_end : (s : List ℕ) (i : ℕ) → length s ≤ i → lines s ≡ prefixed (take i s) (lines (drop i s)) → lines s ≡ cut None s
no_end s i h inv =
    inv
    ∙ ap (λ (t : List ℕ). prefixed (take i s) (lines t)) (drop_all i s h)
    ∙ ap (λ (t : List ℕ). prefixed t []) (take_all i s h)
    ∙ prefixed_unended s

pub lines_cut : (s : List ℕ) → lines s ≡ cut (position (λ c. eqb c 10) s) s
lines_cut [] = refl
lines_cut (c ∷ cs) = grind (arith, nat_tests, lines_cut cs)
