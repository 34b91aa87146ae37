-- Lists: what holds of `AllByRecursion`, `Pairwise`, `filter` and `total`, of any element type.
use Rattle.std.proofs.Common.{◌≡◌, ℕ, zero, suc, ◌+◌, ◌<◌, ◌≤◌, Bool, true, false, cond, List, [], ◌∷◌, length, get_or, refl, ap₂, arith}
use Rattle.std.specs.List.{filter, AllByRecursion}
use Rattle.std.proofs.lemmas.Bool.{cond_both}
use Rattle.std.proofs.lemmas.List.Elements.{All-from_recursion, recursion_from_All, All-filter, All-get_or, All-from_get_or, filter_passes}
use Rattle.std.proofs.lemmas.List.Sums.{length-filter, count_by-le-length}
use Rattle.law.specs.Lists.{total, Pairwise}

module _ {A : Type 0} where
  -- EACH

  -- what holds of anything holds of each
  pub each_all : (P : A → Type 0) → ((x : A) → P x) → (xs : List A) → AllByRecursion P xs
  each_all P f [] = tt
  each_all P f (x ∷ xs) = (f x, each_all P f xs)

  pub each_weaker : (P Q : A → Type 0) → ((x : A) → P x → Q x) → (xs : List A) → AllByRecursion P xs → AllByRecursion Q xs
  each_weaker P Q f [] h = tt
  each_weaker P Q f (x ∷ xs) h = (f x h.0, each_weaker P Q f xs h.1)

  pub each_join : (P Q R : A → Type 0) → ((x : A) → P x → Q x → R x) → (xs : List A) → AllByRecursion P xs → AllByRecursion Q xs → AllByRecursion R xs
  each_join P Q R f [] h k = tt
  each_join P Q R f (x ∷ xs) h k = (f x h.0 k.0, each_join P Q R f xs h.1 k.1)

  -- past the end the default stands
  pub each_get_or : (P : A → Type 0) (xs : List A) (n : ℕ) (d : A) → P d → AllByRecursion P xs → P (get_or xs n d)
  each_get_or P [] n d h k = h
  each_get_or P (y ∷ ys) zero d h k = k.0
  each_get_or P (y ∷ ys) (suc n) d h k = each_get_or P ys n d h k.1

  pub each_from_places : (d : A) (P : A → Type 0) (xs : List A) → ((k : ℕ) → k < length xs → P (get_or xs k d)) → AllByRecursion P xs
  each_from_places d P xs h = recursion_from_All P xs (All-from_get_or P xs d h)

  pub places_from_each : (d : A) (P : A → Type 0) (xs : List A) → AllByRecursion P xs → (k : ℕ) → k < length xs → P (get_or xs k d)
  places_from_each d P xs h k l = All-get_or P xs k d l (All-from_recursion P xs h)

  -- FILTER

  -- the elements that a test keeps, with the test's answer
  pub each_kept : (P Q : A → Type 0) (t : A → Bool) → ((x : A) → t x ≡ true → P x → Q x) → (xs : List A) → AllByRecursion P xs → AllByRecursion Q (filter t xs)
  each_kept P Q t f [] h = tt
  each_kept P Q t f (x ∷ xs) h =
      let rest = each_kept P Q t f xs h.1 in
      cond_both (t x) (x ∷ filter t xs) (filter t xs) (AllByRecursion Q) (λ e. (f x e h.0, rest)) (λ _. rest)

  pub each_filter : (P : A → Type 0) (t : A → Bool) (xs : List A) → AllByRecursion P xs → AllByRecursion P (filter t xs)
  each_filter P t xs h = recursion_from_All P (filter t xs) (All-filter t P xs (All-from_recursion P xs h))

  pub each_passes : (t : A → Bool) (xs : List A) → AllByRecursion (λ (x : A). t x ≡ true) (filter t xs)
  each_passes t xs = recursion_from_All _ _ (filter_passes t xs)

  -- nothing is kept where all fail
  pub filter_none : (t : A → Bool) (xs : List A) → AllByRecursion (λ (x : A). t x ≡ false) xs → filter t xs ≡ []
  filter_none t [] h = refl
  filter_none t (x ∷ xs) h = grind (arith, filter_none t xs)

  -- where all pass, all are kept
  pub filter_all : (t : A → Bool) (xs : List A) → AllByRecursion (λ (x : A). t x ≡ true) xs → filter t xs ≡ xs
  filter_all t [] h = refl
  filter_all t (x ∷ xs) h = grind (arith, filter_all t xs)

  -- no more are kept than there are
  pub filter_short : (t : A → Bool) (xs : List A) → length (filter t xs) ≤ length xs
  filter_short t xs = omega (arith, length-filter t xs, count_by-le-length t xs)

  -- PAIRWISE

  pub pairwise_weaker : (R S : A → A → Type 0) → ((x y : A) → R x y → S x y) → (xs : List A) → Pairwise R xs → Pairwise S xs
  pairwise_weaker R S f [] h = tt
  pairwise_weaker R S f (x ∷ xs) h = (each_weaker (R x) (S x) (f x) xs h.0, pairwise_weaker R S f xs h.1)

  pub pairwise_filter : (R : A → A → Type 0) (t : A → Bool) (xs : List A) → Pairwise R xs → Pairwise R (filter t xs)
  pairwise_filter R t [] h = tt
  pairwise_filter R t (x ∷ xs) h = grind (arith, each_filter (R x) t xs h.0, pairwise_filter R t xs h.1)

  -- a fact of each element beside a fact of each pair
  pub pairwise_beside : (P : A → Type 0) (R : A → A → Type 0) (xs : List A) → AllByRecursion P xs → Pairwise R xs → Pairwise (λ (x y : A). P x × P y × R x y) xs
  pairwise_beside P R [] h k = tt
  pairwise_beside P R (x ∷ xs) h k =
      (each_join P (R x) (λ (y : A). P x × P y × R x y) (λ y p r. (h.0, p, r)) xs h.1 k.0, pairwise_beside P R xs h.1 k.1)

  pub places_from_pairwise : (d : A) (R : A → A → Type 0) (xs : List A) → Pairwise R xs → (j k : ℕ) → j < k → k < length xs → R (get_or xs j d) (get_or xs k d)
  places_from_pairwise d R [] h j k l m = absurd (omega arith)
  places_from_pairwise d R (x ∷ xs) h j zero l m = absurd (omega arith)
  places_from_pairwise d R (x ∷ xs) h zero (suc k) l m = places_from_each d (R x) xs h.0 k (omega arith)
  places_from_pairwise d R (x ∷ xs) h (suc j) (suc k) l m = places_from_pairwise d R xs h.1 j k (omega arith) (omega arith)

  -- TOTAL

  pub total_same : (f g : A → ℕ) (xs : List A) → AllByRecursion (λ (x : A). f x ≡ g x) xs → total f xs ≡ total g xs
  total_same f g [] h = refl
  total_same f g (x ∷ xs) h = ap₂ ◌+◌ h.0 (total_same f g xs h.1)

  pub total_least : (f g : A → ℕ) (xs : List A) → AllByRecursion (λ (x : A). f x ≤ g x) xs → total f xs ≤ total g xs
  total_least f g [] h = omega arith
  total_least f g (x ∷ xs) h = omega (arith, total_least f g xs h.1)

  pub total_none : (f : A → ℕ) (xs : List A) → AllByRecursion (λ (x : A). f x ≡ 0) xs → total f xs ≡ 0
  total_none f [] h = refl
  total_none f (x ∷ xs) h = omega (arith, h.0, total_none f xs h.1)

  pub total_filter : (f : A → ℕ) (t : A → Bool) (xs : List A) → total f (filter t xs) ≡ total (λ (x : A). cond (t x) (f x) 0) xs
  total_filter f t [] = refl
  total_filter f t (x ∷ xs) = grind (arith, total_filter f t xs)

  -- a part comes to no more
  pub total_part : (f : A → ℕ) (t : A → Bool) (xs : List A) → total f (filter t xs) ≤ total f xs
  total_part f t [] = omega arith
  total_part f t (x ∷ xs) = grind (arith, total_part f t xs)
