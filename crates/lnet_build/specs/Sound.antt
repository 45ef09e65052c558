-- What a network that was built is like. Source: structural hashing of and-inverter graphs (Kuehlmann and Krohm 1997).
use Rattle.std.specs.Prelude.{ℕ, ◌<◌}
use Rattle.lnet_model.specs.Changes.{IsGateAt}
use Rattle.lnet_model.specs.Dags.{IsStored}
use Rattle.lnet_model.specs.Fanouts.{references}
use Rattle.lnet_model.specs.Networks.{NetworkValue}
use Rattle.lnet_hashed.specs.Strashed.{IsStrashed}

-- no cycle, live fanins, each gate in normal form and no two with one key, and each gate has a reference
pub record IsSound (N : NetworkValue) : Type 0 where
  pub stored : IsStored N
  pub strashed : IsStrashed N.kind N
  pub tidy : (n : ℕ) → IsGateAt N n → 0 < references N n
