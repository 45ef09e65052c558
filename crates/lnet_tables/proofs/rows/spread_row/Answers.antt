use Rattle.std.proofs.Common.{◌≡◌, ℕ, ◌+◌, arith, sym, ◌∙◌, ap}
use Rattle.std.proofs.lemmas.Nat.Bits.{shr_and_one, bit_at-lt}
use Rattle.lnet_tables.specs.Kept.{spread}
use Rattle.lnet_tables.proofs.Constants.{pow_within}
use Rattle.lnet_tables.proofs.Places.{rank_none, rank_more, spread_none, spread_more, spread_below}
use Rattle.lnet_tables.proofs.rows.spread_row.Goals as goal

pub loop-index-init : goal.loop-index-init
loop-index-init c = record { value = sym (spread_none c.args.row c.args.support); count = sym (rank_none c.args.support); few = omega arith }

pub overflow_add-out : goal.overflow_add-out
overflow_add-out c =
    let r : ℕ = c.args.row in
    let m : ℕ = c.args.support in
    let i : ℕ = c.loop-index.index in
    record {
      fits = rw (c.loop-index.invariant.value, spread_more r m c.loop-index.kept i (omega arith) c.loop-index.invariant.count)
          (omega (arith, spread_below r m (i + 1), pow_within (i + 1) 10 (omega arith)));
    }

pub loop-index-preserved : goal.loop-index-preserved
loop-index-preserved c = record {
  value = rw c.loop-index.invariant.value (spread_more c.args.row c.args.support c.loop-index.kept c.loop-index.index (omega arith) c.loop-index.invariant.count);
  count = rw (shr_and_one, c.loop-index.invariant.count) (sym (rank_more c.args.support c.loop-index.index));
  few = rw shr_and_one (omega (arith, bit_at-lt c.args.support c.loop-index.index));
}

pub returns-clause-value : goal.returns-clause-value
returns-clause-value c =
    let e : c.loop-index.index ≡ c.args.vars = omega arith in
    c.loop-index.invariant.value ∙ ap (λ n. spread c.args.row c.args.support n) e

pub returns-clause-inside : goal.returns-clause-inside
returns-clause-inside c =
    let e : c.loop-index.index ≡ c.args.vars = omega arith in
    rw (c.loop-index.invariant.value, e) (spread_below c.args.row c.args.support c.args.vars)
