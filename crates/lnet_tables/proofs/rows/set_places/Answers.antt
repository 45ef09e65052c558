use Rattle.std.proofs.Common.{◌≡◌, ℕ, ◌+◌, arith, sym, ◌∙◌, true, false}
use Rattle.std.proofs.lemmas.Bool.{eq-eqb, ne_eqb}
use Rattle.lnet_tables.specs.Bits.{is_set}
use Rattle.lnet_tables.specs.Kept.{places}
use Rattle.lnet_tables.proofs.Constants.{test_bit}
use Rattle.lnet_tables.proofs.Places.{rank_none, padded_none, padded_more, places_unset, rank_set}
use Rattle.lnet_tables.proofs.rows.set_places.Goals as goal
use Rattle.lnet_tables.proofs.rows.set_places.Goals.{then-support-index-eq1, else-support-index-eq1}

pub loop-index-init : goal.loop-index-init
loop-index-init c = record { value = sym (padded_none c.args.support); count = sym (rank_none c.args.support); few = omega arith }

pub loop-index-preserved : goal.loop-index-preserved
loop-index-preserved c =
    let m : ℕ = c.args.support in
    let i : ℕ = c.loop-index.index in
    elim c.if-support-index-eq1.branch [
      | then-support-index-eq1 w ↦
          let yes : is_set m i ≡ true = sym (test_bit m i) ∙ eq-eqb _ _ w.if-support-index-eq1.true in
          record {
            value = rw (w.out-is, c.loop-index.invariant.value) (padded_more m i c.loop-index.kept yes c.loop-index.invariant.count (omega arith));
            count = rw (w.kept-is, c.loop-index.invariant.count) (rank_set m i yes);
            few = rw w.kept-is (omega arith);
          }
      | else-support-index-eq1 w ↦
          let not_set : is_set m i ≡ false = sym (test_bit m i) ∙ ne_eqb _ _ w.if-support-index-eq1.false in
          let same : places m (i + 1) ≡ places m i = places_unset m i not_set in
          record {
            value = rw (w.out-is, same) c.loop-index.invariant.value;
            count = rw (w.kept-is, same) c.loop-index.invariant.count;
            few = rw w.kept-is (omega arith);
          }
    ]
