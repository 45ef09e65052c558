use Rattle.std.proofs.Common.{◌≡◌, ◌+◌, ℕ, refl, sym, ap, ◌∙◌, arith, lit≤, lit<}
use Rattle.lnet_tables.specs.declared.step.Lit.{Lit}
use Rattle.lnet_sop.specs.Factored.{most_common, uses}
use Rattle.lnet_sop.proofs.Factors.{most_common_later, most_common_stays}
use Rattle.lnet_sop.proofs.factoring.most_common.Goals as goal
use Rattle.lnet_sop.proofs.factoring.most_common.Goals.{then-most-count, else-most-count}

pub loop-k-init : goal.loop-k-init
unfolding most_common
loop-k-init c = record { value = refl; most = c.uses-most.ensures; leaf = lit≤ tt; last = lit< tt }

pub loop-k-preserved : goal.loop-k-preserved
loop-k-preserved c =
    let best : Lit = c.loop-k.best in
    let k : ℕ = c.loop-k.k in
    let literal : Lit = record { 0 = k + 2 } in
    elim c.if-most-count.branch [
      | then-most-count w ↦
          let value : literal ≡ most_common (k + 1) c.args.cubes.now =
          most_common_later k c.loop-k.most c.uses-count.result c.args.cubes.now best literal c.loop-k.invariant.value refl c.loop-k.invariant.most c.uses-count.ensures (omega arith) in
          record {
            value = w.best-is ∙ value;
            most = w.most-is ∙ c.uses-count.ensures ∙ ap (λ (l : Lit). uses c.args.cubes.now l) (sym w.best-is);
            leaf = omega (arith, ap (λ (l : Lit). l.0) w.best-is);
            last = omega (arith, ap (λ (l : Lit). l.0) w.best-is);
          }
      | else-most-count w ↦
          let value : best ≡ most_common (k + 1) c.args.cubes.now =
          most_common_stays k c.loop-k.most c.uses-count.result c.args.cubes.now best literal c.loop-k.invariant.value refl c.loop-k.invariant.most c.uses-count.ensures (omega arith) in
          record {
            value = w.best-is ∙ value;
            most = w.most-is ∙ c.loop-k.invariant.most ∙ ap (λ (l : Lit). uses c.args.cubes.now l) (sym w.best-is);
            leaf = omega (arith, ap (λ (l : Lit). l.0) w.best-is, c.loop-k.invariant.leaf);
            last = omega (arith, ap (λ (l : Lit). l.0) w.best-is, c.loop-k.invariant.last);
          }
    ]
