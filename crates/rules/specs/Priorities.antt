-- Who is ahead of whom: time, the tiers over any ranking below them, and the pile of Rule 4-108(6).
use Rattle.std.specs.Prelude.{ℕ, Bool, true, false, if◌then◌else◌, ◌==◌, nat_eq, nat_le, nat_lt}
use Rattle.rules.specs.declared.intents.Standing.{Standing}

-- of two intents, whether the first is ahead of the second
abbrev pub Ahead : Type 0
Ahead = Standing → Standing → Bool

abbrev pub by_time : Ahead
by_time a b = nat_lt a.number b.number

-- the smaller group, and in one group the earlier
abbrev pub by_group : Ahead
by_group a b = if a.group == b.group then by_time a b else nat_lt a.group b.group

-- those that pass the test are ahead of those that fail it; two alike go by the ranking of their kind
abbrev pub tier : (Standing → Bool) → Ahead → Ahead → Ahead
tier test passed failed a b = if test a then (if test b then passed a b else true) else (if test b then false else failed a b)

-- the entered volume reaches the threshold, however little remains
abbrev pub is_large : ℕ → Standing → Bool
is_large threshold x = nat_le threshold x.entered

abbrev pub large_first : ℕ → Ahead → Ahead
large_first threshold below = tier (is_large threshold) below below

-- the incoming subscriber's own, by group; strangers by the ranking below
abbrev pub house_first : ℕ → Ahead → Ahead
house_first subscriber below = tier (λ (x : Standing). nat_eq x.subscriber subscriber) by_group below

-- house over large over time, for an incoming subscriber
abbrev pub rule_4_108 : ℕ → Ahead
rule_4_108 subscriber = house_first subscriber (large_first 5000 by_time)
