-- What stands in an empty place of a table, and in a place of a new page.
use Rattle.rules.specs.Minimums.{no_minimums}
use Rattle.rules.specs.declared.intents.Intent.{Intent}
use Rattle.rules.specs.declared.intents.Side.TheVariants.{Buy}
use Rattle.rules.specs.declared.slips.Slip.{Slip}
use Rattle.rules.specs.declared.slips.Slip.TheVariants.{Lapsed}

abbrev pub blank_intent : Intent
blank_intent = record {
  security = 0;
  subscriber = 0;
  group = 0;
  side = Buy;
  entered = 0;
  remaining = 0;
  limit = 0;
  minimums = no_minimums;
  last_day = 0;
  number = 0;
}

abbrev pub blank_slip : Slip
blank_slip = Lapsed (record { number = 0; volume = 0 })
