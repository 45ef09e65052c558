-- A hashed store within a substitution.
use Rattle.std.specs.Prelude.{◌≡◌, ◌≤◌, ◌+◌}
use Rattle.lnet_model.specs.Networks.{live_count}
use Rattle.lnet_model.specs.Dags.{AreBelow, NUMBERS}
use Rattle.lnet_hashed.specs.declared.hashed.Hashed.{Hashed}
use Rattle.lnet_hashed.specs.Indexed.{IsIndexed}
use Rattle.lnet_hashed.specs.Noted.{CanNote}
use Rattle.lnet_cascade.specs.Noting.{NotesFollow}

-- as between two calls, but that gates may be dirty and numbers noted
pub record IsMidway (h : Hashed) : Type 0 where
  pub below : AreBelow h.store.network h.room
  pub stored : h.room ≤ live_count h.store.network + h.store.spare
  pub limit : h.room ≤ NUMBERS
  pub noting : CanNote h.notes h.room
  pub indexed : IsIndexed h.store.network h.keys h.room

-- with the room that it had, and notes that tell of the same beginning
pub record StaysMidway (old new : Hashed) : Type 0 where
  pub midway : IsMidway new
  pub room : new.room ≡ old.room
  pub noted : NotesFollow old.store.network old.notes new.store.network new.notes
