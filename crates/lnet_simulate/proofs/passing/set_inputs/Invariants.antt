use Rattle.std.proofs.Common.{◌≡◌, ◌<◌, ℕ, length, get_or, slice_get, Some}
use Rattle.lnet_simulate.proofs.passing.set_inputs.Given as goal

abbrev pub invariant-loop-k : goal.invariant-loop-k
invariant-loop-k g l = record {
  sized : length l.words ≡ length l.fn.words;
  set : (i n : ℕ) → i < l.k → slice_get l.net.core.network.inputs i ≡ Some n → get_or l.words n 0 ≡ get_or l.inputs i 0;
}
