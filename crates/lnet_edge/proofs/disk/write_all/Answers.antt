use Rattle.std.proofs.Common.{◌≤◌, length, arith}
use Rattle.lnet_edge.proofs.KnownBytes.{written_more}
use Rattle.lnet_edge.proofs.disk.write_all.Goals as goal

pub loop-rest-preserved : goal.loop-rest-preserved
loop-rest-preserved g c =
    let n = c.in-Ok.count in
    let rest = c.loop-rest.rest.now in
    let le : n ≤ length rest = omega (arith, c.in-Ok.ensures.bound) in
    written_more _ _ _ c.args.bytes.now rest _ n c.loop-rest.invariant le c.in-Ok.ensures.bytes c.split_at.ensures.back
