use Rattle.std.proofs.Common.{◌≡◌, ◌+◌, ◌≤◌, ◌++◌, replicate, false}
use Rattle.std.specs.Vec.{vec_len, vec_capacity}
use Rattle.lnet_fanouts.proofs.live.extend.Given as goal

abbrev pub invariant-numbers : goal.invariant-numbers
invariant-numbers l = record {
  items : l.live.items ≡ l.fn.live.items ++ replicate l.counter false;
  len : vec_len l.live ≡ vec_len l.fn.live + l.counter;
  room : vec_len l.fn.live + l.more ≤ vec_capacity l.live;
}
