-- Who is eligible: a part of those that rest, within both limits.
-- The quote in force is a lawful one.
use Rattle.std.proofs.Common.{◌≡◌, ℕ, Bool, ◌&&◌, IsTrue, List, [], Some, None, Option, refl, arith}
use Rattle.std.proofs.lemmas.Bool.{cond_both}
use Rattle.std.specs.List.{filter, AllByRecursion}
use Rattle.std.proofs.lemmas.Bool.Decides.{nat_tests}
use Rattle.rules.specs.declared.intents.Side.{Side}
use Rattle.rules.specs.declared.quotes.Quote.{Quote}
use Rattle.rules.specs.declared.intents.Intent.{Intent}
use Rattle.rules.specs.declared.securities.Security.{Security}
use Rattle.rules.specs.declared.incoming.Incoming.{Incoming}
use Rattle.rules.specs.Eligibility.{within_limit, within_any_limit, eligible}
use Rattle.rules.specs.Securities.{unlisted, is_regular, is_open}
use Rattle.law.specs.Lists.{Pairwise}
use Rattle.law.specs.Accounts.{Account, security, quote_in_force, eligible_for, find}
use Rattle.law.specs.Turns.{LawfulIfAny, Sound}
use Rattle.law.proofs.Lists.{each_get_or, each_filter, pairwise_filter}
use Rattle.law.proofs.Numbers.{Apart, rising_apart, find_each}

module _ (a : Account) (sound : Sound a) where
  -- no two resting intents have the same number
  pub resting_apart : Pairwise Apart a.resting
  resting_apart = rising_apart a.resting sound.rising

  -- the quote in force, if any, is lawful
  pub in_force_lawful : (s : ℕ) → LawfulIfAny (quote_in_force a s)
  in_force_lawful s =
      cond_both (is_regular a.phase && is_open (security a s).state) (security a s).quote None LawfulIfAny
      (λ _. each_get_or (λ (x : Security). LawfulIfAny x.quote) a.securities s unlisted tt sound.quotes) (λ _. tt)

-- ONE INTENT

-- what is eligible is within both limits
pub eligible_within : (q : Quote) (price : ℕ) (i : Incoming) (p : Intent) → IsTrue (eligible q price i p) →
    IsTrue (within_limit p.side p.limit price) × IsTrue (within_any_limit i.side i.limit price)
eligible_within q price i p h = grind (arith, nat_tests)

-- WHAT IS ELIGIBLE

module _ (price : Quote → Side → ℕ) (a : Account) (i : Incoming) where
  -- nobody is eligible where no quote is in force
  pub eligible_none : quote_in_force a i.security ≡ None → eligible_for price a i ≡ []
  eligible_none e = rw e

  -- under a quote in force, those that pass the test are
  pub eligible_some : (q : Quote) → quote_in_force a i.security ≡ Some q → eligible_for price a i ≡ filter (eligible q (price q i.side) i) a.resting
  eligible_some q e = rw e

  -- the eligible ones are a part of those that rest
  eligible_part : (Q : List Intent → Type 0) → Q [] → ((t : Intent → Bool) → Q (filter t a.resting)) → Q (eligible_for price a i)
  eligible_part Q none some = under (quote_in_force a i.security) refl
    where
      under : (o : Option Quote) → quote_in_force a i.security ≡ o → Q (eligible_for price a i)
      under None e = rw (eligible_none e) none
      under (Some q) e = rw (eligible_some q e) (some (eligible q (price q i.side) i))

  -- what holds of all that rest holds of the eligible ones
  pub each_eligible : (P : Intent → Type 0) → AllByRecursion P a.resting → AllByRecursion P (eligible_for price a i)
  each_eligible P h = eligible_part (AllByRecursion P) tt (λ t. each_filter P t a.resting h)

  module _ (sound : Sound a) where
    pub eligible_apart : Pairwise Apart (eligible_for price a i)
    eligible_apart = eligible_part (Pairwise Apart) tt (λ t. pairwise_filter Apart t a.resting (resting_apart a sound))

    -- each eligible intent is the resting one under its number
    pub eligible_resting : AllByRecursion (λ (p : Intent). find p.number a.resting ≡ Some p) (eligible_for price a i)
    eligible_resting = each_eligible _ (find_each a.resting (resting_apart a sound))
