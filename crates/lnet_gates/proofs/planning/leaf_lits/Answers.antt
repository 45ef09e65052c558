use Rattle.std.proofs.Common.{rules, refl, ap, length, ◌≡◌, map, arith}
use Rattle.std.specs.List.{range_with_len}
use Rattle.std.proofs.lemmas.List.FromFn.{map-range_with_len_more, length-map-range_with_len}
use Rattle.lnet_tables.specs.Shannon.{plain}
use Rattle.lnet_gates.proofs.planning.leaf_lits.Goals as goal

pub push-requires : goal.push-requires
push-requires c =
    let e : length c.loop-p.lits.items ≡ length (map plain (range_with_len 0 c.loop-p.p)) = ap length c.loop-p.invariant in
    (search rules, omega (arith, e, length-map-range_with_len plain 0 c.loop-p.p))

pub loop-p-preserved : goal.loop-p-preserved
loop-p-preserved c = rw (c.push.ensures.items, c.loop-p.invariant, map-range_with_len_more plain 0 c.loop-p.p c.loop-p.p (omega arith)) refl
