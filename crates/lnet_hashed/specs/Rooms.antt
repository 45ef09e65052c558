-- For how many numbers a network has memory.
use Rattle.std.specs.Prelude.{◌≤◌, ◌+◌}
use Rattle.lnet_model.specs.Networks.{live_count}
use Rattle.lnet_model.specs.Dags.{AreBelow, NUMBERS}
use Rattle.lnet_hashed.specs.Indexed.{AllClean, IsIndexed}
use Rattle.lnet_hashed.specs.Noted.{AreBlank, CanNote}
use Rattle.lnet_hashed.specs.declared.hashed.Hashed.{Hashed}

-- the network's numbers are below the room, the store has memory for so many, there is room for notes of each, none is noted, and
-- all gates are clean and stand in the table of keys
pub record HasRoom (h : Hashed) : Type 0 where
  pub below : AreBelow h.store.network h.room
  pub stored : h.room ≤ live_count h.store.network + h.store.spare
  pub limit : h.room ≤ NUMBERS
  pub noting : CanNote h.notes h.room
  pub blank : AreBlank h.notes
  pub indexed : IsIndexed h.store.network h.keys h.room
  pub clean : AllClean h.keys
