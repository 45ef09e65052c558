use Rattle.std.proofs.Common.{◌≡◌, length, nat_eq}
use Rattle.indexmap.specs.IndexMap.{get}
use Rattle.lnet_resyn.specs.Underway.{AreOfLess, HoldBelow}
use Rattle.lnet_resyn.proofs.classes.NpnCache.new.Given as goal

abbrev pub invariant-loop-number : goal.invariant-loop-number
invariant-loop-number l = record {
  marks : AreOfLess l.number l.marks.items;
  recipes : HoldBelow l.number (λ n. get nat_eq l.recipes n);
  long : length l.marks.items ≡ 65536;
}
