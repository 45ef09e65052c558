use Rattle.std.proofs.Common.{get_or, arith}
use Rattle.lnet_store.proofs.SearchLemmas.{true-within, index-in}
use Rattle.lnet_store.proofs.reaching.unmark.Goals as goal

pub index_mut-requires : goal.index_mut-requires
index_mut-requires c =
    let lt = true-within c.args.marks.now.items (get_or c.args.queue.now c.numbers.n-index 0) (c.requires.marked (get_or c.args.queue.now c.numbers.n-index 0) (index-in c.args.queue.now c.numbers.n-index c.numbers-test.true)) in
    let same = c.numbers.invariant.1 in
    omega arith
