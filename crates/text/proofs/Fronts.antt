-- What stands behind a front: by the parts of the text, and by the test that `strip_prefix` makes.
use Rattle.std.proofs.Common.{◌≡◌, ℕ, Bool, true, false, cond, eqb, List, [], ◌∷◌, ◌++◌, length, take, drop, Some, None, Option, refl, ap, ◌∙◌, Bor, MatchOption, arith}
use Rattle.std.proofs.lemmas.Bool.{eq-eqb, eqb-true}
use Rattle.std.proofs.lemmas.Bool.Decides.{nat_tests}
use Rattle.std.specs.Cmp.Lexicographic.{pointwise}
use Rattle.std.specs.Option.{option_map}
use Rattle.text.specs.Keys.{behind}

behind_front : (front rest : List ℕ) → behind front (front ++ rest) ≡ Some rest
behind_front [] rest = refl
behind_front (f ∷ fs) rest = rw (eq-eqb f f refl) (behind_front fs rest)

behind_none : (front text : List ℕ) → ((rest : List ℕ) → text ≡ front ++ rest → ⊥) → behind front text ≡ None
behind_none [] text apart = absurd (apart text refl)
behind_none (f ∷ fs) [] apart = refl
behind_none (f ∷ fs) (c ∷ cs) apart =
    by (eqb f c) refl (λ same. behind_none fs cs (λ rest e. apart rest (cc (e, eqb-true f c same))))
  where
    by : (b : Bool) → eqb f c ≡ b → (eqb f c ≡ true → behind fs cs ≡ None) → cond b (behind fs cs) None ≡ None
    by true e more = more e
    by false e more = refl

-- `strip_prefix` finds it
pub stripped : (text front : List ℕ) (r : Option (Bor (List ℕ))) → MatchOption r ((rest : List ℕ) → text ≡ front ++ rest → ⊥) (λ x. text ≡ front ++ x.now) → behind front text ≡ option_map (λ x. x.now) r
stripped text front None apart = behind_none front text apart
stripped text front (Some x) same = ap (behind front) same ∙ behind_front front x.now

pub behind_by : (front line : List ℕ) → behind front line ≡ cond (pointwise eqb (take (length front) line) front) (Some (drop (length front) line)) None
behind_by [] line = refl
behind_by (f ∷ fs) [] = refl
behind_by (f ∷ fs) (c ∷ cs) = grind (arith, nat_tests, behind_by fs cs)
