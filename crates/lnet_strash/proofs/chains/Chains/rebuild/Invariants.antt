use Rattle.std.proofs.Common.{◌≡◌, length}
use Rattle.lnet_strash.specs.Chains.{AreChains, home_below}
use Rattle.lnet_strash.proofs.chains.Chains.rebuild.Given as goal

abbrev pub invariant-numbers : goal.invariant-numbers
invariant-numbers l = record {
  standing : l.self.standing.items ≡ l.fn.self.standing.items;
  heads : length l.self.heads.items ≡ length l.fn.self.heads.items;
  next : length l.self.next.items ≡ length l.fn.self.next.items;
  chains : AreChains l.self.heads.items l.self.next.items (home_below l.number (length l.self.heads.items) l.self.standing.items);
}
