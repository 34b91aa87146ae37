-- What a security is before it is listed, how it is listed, and the quote that it trades under.
use Rattle.std.specs.Prelude.{Bool, true, false, if◌then◌else◌, ◌&&◌, List, replicate, None, Ok, Err, Option, Result}
use Rattle.rules.specs.declared.refusals.Refusal.{Refusal}
use Rattle.rules.specs.declared.refusals.Refusal.TheVariants.{Listing}
use Rattle.rules.specs.declared.quotes.Quote.{Quote}
use Rattle.rules.specs.declared.phases.Phase.{Phase}
use Rattle.rules.specs.declared.phases.Phase.TheVariants.{PreOpen, Regular, Extended}
use Rattle.rules.specs.declared.securities.Security.{Security}
use Rattle.rules.specs.declared.securities.State.{State}
use Rattle.rules.specs.declared.securities.State.TheVariants.{Open, Halted, Delayed, Frozen, Inhibited}

abbrev pub unlisted : Security
unlisted = record { listed = false; state = Open; quote = None }

-- a new book's securities
abbrev pub none_listed : List Security
none_listed = replicate 64 unlisted

abbrev pub just_listed : Security
just_listed = record { listed = true; state = Open; quote = None }

abbrev pub is_listed : Security → Bool
is_listed s = s.listed

-- a security is listed once
abbrev pub list_outcome : Security → Result (Unit {0}) Refusal
list_outcome s = if is_listed s then Err Listing else Ok tt

abbrev pub is_regular : Phase → Bool
is_regular PreOpen = false
is_regular Regular = true
is_regular Extended = false

abbrev pub is_open : State → Bool
is_open Open = true
is_open Halted = false
is_open Delayed = false
is_open Frozen = false
is_open Inhibited = false

-- a security trades in the regular phase, while it is open, under the quote that it has
abbrev pub in_force : Phase → Security → Option Quote
in_force phase s = if is_regular phase && is_open s.state then s.quote else None
