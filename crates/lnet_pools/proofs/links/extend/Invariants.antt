use Rattle.std.proofs.Common.{◌≡◌, ◌+◌, ◌≤◌, ◌++◌, replicate, None}
use Rattle.std.specs.Vec.{vec_len, vec_capacity}
use Rattle.lnet_pools.proofs.links.extend.Given as goal

abbrev pub invariant-links : goal.invariant-links
invariant-links l = record {
  items : l.links.items ≡ l.fn.links.items ++ replicate l.counter None;
  len : vec_len l.links ≡ vec_len l.fn.links + l.counter;
  room : vec_len l.fn.links + l.more ≤ vec_capacity l.links;
}
