use Rattle.std.proofs.Common.{◌≡◌, ◌+◌, ◌*◌, ◌<◌, ℕ, get_or}
use Rattle.lnet_tables.specs.Bits.{is_set}
use Rattle.lnet_simulate.proofs.inputs.set_block.Given as goal

abbrev pub invariant-loop-i : goal.invariant-loop-i
invariant-loop-i l = (k j : ℕ) → k < l.i → j < 64 → is_set (get_or l.inputs k 0) j ≡ is_set (64 * l.block + j) k
