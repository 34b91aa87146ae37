-- The ranges of the quantities, both ends included.
use Rattle.std.specs.Prelude.{ℕ, Bool, ◌&&◌, nat_le}

abbrev pub within : ℕ → ℕ → ℕ → Bool
within low high x = nat_le low x && nat_le x high

abbrev pub is_security : ℕ → Bool
is_security x = within 0 63 x

abbrev pub is_subscriber : ℕ → Bool
is_subscriber x = within 1 999 x

abbrev pub is_group : ℕ → Bool
is_group x = within 1 9 x

abbrev pub is_day : ℕ → Bool
is_day x = within 1 99999 x

-- of a limit, a bid or an offer, in ticks
abbrev pub is_price : ℕ → Bool
is_price x = within 1 1000000 x

-- of an intent or an order, in shares
abbrev pub is_volume : ℕ → Bool
is_volume x = within 1 100000000 x

abbrev pub is_quoted_volume : ℕ → Bool
is_quoted_volume x = within 1 1000000000 x

abbrev pub is_min_spread : ℕ → Bool
is_min_spread x = within 0 1000000 x

abbrev pub is_min_volume : ℕ → Bool
is_min_volume x = within 0 1000000000 x

abbrev pub is_number : ℕ → Bool
is_number x = within 1 999999999 x
