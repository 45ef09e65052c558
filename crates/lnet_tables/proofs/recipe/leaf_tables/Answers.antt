use Rattle.std.proofs.Common.{rules, refl, ap, length, ◌≡◌, suc, map, arith}
use Rattle.std.specs.List.{range_with_len}
use Rattle.std.proofs.lemmas.List.FromFn.{map-range_with_len_more, length-map-range_with_len}
use Rattle.lnet_tables.specs.Bits.{variable_rows}
use Rattle.lnet_tables.specs.WholeTables.{leaf_rows}
use Rattle.lnet_tables.proofs.recipe.leaf_tables.Goals as goal

pub push-requires-in-loop-i : goal.push-requires-in-loop-i
push-requires-in-loop-i c =
    let e : length c.loop-i.tables.items ≡ suc (length (map (variable_rows c.args.leaves) (range_with_len 0 c.loop-i.i))) = ap length c.loop-i.invariant in
    (search rules, omega (arith, e, length-map-range_with_len (variable_rows c.args.leaves) 0 c.loop-i.i))

pub loop-i-preserved : goal.loop-i-preserved
loop-i-preserved c =
    rw (c.push-in-loop-i.ensures.items, c.loop-i.invariant, c.variable.ensures, map-range_with_len_more (variable_rows c.args.leaves) 0 c.loop-i.i c.loop-i.i (omega arith)) refl

pub returns : goal.returns
unfolding leaf_rows
returns c =
    let e : c.loop-i.i ≡ c.args.leaves = omega arith in
    rw (c.loop-i.invariant, e) refl
