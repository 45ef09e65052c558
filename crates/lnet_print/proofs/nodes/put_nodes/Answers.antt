use Rattle.std.proofs.Common.{◌++◌, ◌+◌, string_bytes, ap, arith}
use Rattle.lnet_print.specs.Printed.{node_lines, line_at}
use Rattle.lnet_print.proofs.Numbered.{lines_from, lines-all, lines-next, lines-end}
use Rattle.lnet_model.specs.Networks.{entry_at}
use Rattle.lnet_print.proofs.Listed.{onward, complete}
use Rattle.lnet_print.proofs.nodes.put_nodes.Goals as goal

pub loop-n-init : goal.loop-n-init
loop-n-init g c = ap (λ t. string_bytes c.args.out.now ++ t) (lines-all c.args.net.now.core.network)

pub loop-n-preserved : goal.loop-n-preserved
loop-n-preserved g c =
    let N = c.args.net.now.core.network in
    let lt = c.loop-n-test.true in let v = c.numbers-n-end.ensures.value in
    onward (string_bytes c.loop-n.out) (string_bytes c.put_node.new.out) (line_at c.loop-n.n (entry_at N c.loop-n.n)) (lines_from N (c.loop-n.n + 1)) (lines_from N c.loop-n.n) (string_bytes c.args.out.now ++ node_lines N) c.in_ok-put_node.ensures (lines-next N c.loop-n.n (omega arith)) c.loop-n.invariant

pub returns : goal.returns
returns g c =
    let N = c.args.net.now.core.network in
    let le = c.loop-n-test.false in let v = c.numbers-n-end.ensures.value in
    complete (string_bytes c.loop-n.out) (lines_from N c.loop-n.n) (string_bytes c.args.out.now ++ node_lines N) (lines-end N c.loop-n.n (omega arith)) c.loop-n.invariant
