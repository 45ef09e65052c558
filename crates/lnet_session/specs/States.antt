-- The state of a session between two commands.
use Rattle.std.specs.Prelude.{Option}
use Rattle.lnet_model.specs.Networks.{NetworkValue}
use Rattle.lnet_names.specs.NameLists.{NamesValue}
use Rattle.lnet_subscriptions.specs.Rolls.{Roll}

-- the network that is in place, and the names of its inputs and outputs
pub record Held : Type 0 where
  pub network : NetworkValue
  pub names : NamesValue

-- what is in place, where something is; the live views by number and spec, the next number, and the kinds on the shelf
pub record State : Type 0 where
  pub held : Option Held
  pub roll : Roll
