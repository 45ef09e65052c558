use Rattle.std.proofs.Common.{◌≡◌, ◌<◌, ◌≤◌, ℕ, IsTrue, false}
use Rattle.lnet_model.specs.Networks.{live_count}
use Rattle.lnet_model.specs.Dags.{IsStored}
use Rattle.lnet_hashed.specs.Swept.{IsTrimmed, IsUnnamed}
use Rattle.lnet_hashed.specs.Watches.{AreToldIn}
use Rattle.lnet_hashed.specs.Rooms.{HasRoom}
use Rattle.lnet_hashed.proofs.sweeping.pass.Given as goal

-- the numbers from n on are done
abbrev pub invariant-loop-n : goal.invariant-loop-n
invariant-loop-n g l = record {
  trimmed : IsTrimmed l.initial.hashed.store.network l.hashed.store.network;
  stored : IsStored l.hashed.store.network;
  at_most : live_count l.hashed.store.network ≤ live_count l.initial.hashed.store.network;
  fewer : IsTrue l.removed → live_count l.hashed.store.network < live_count l.initial.hashed.store.network;
  unchanged : l.removed ≡ false → l.hashed.store.network ≡ l.initial.hashed.store.network;
  none : l.removed ≡ false → (m : ℕ) → l.n ≤ m → IsUnnamed l.hashed.store.network m → ⊥;
  room : HasRoom l.hashed;
  same : l.hashed.room ≡ l.initial.hashed.room;
  told : AreToldIn (λ b. goal.View-dyn g (b.vtable, b.value)) l.hashed.store.network l.hashed.room l.initial.watch l.watch;
}
