use Rattle.std.proofs.Common.{◌≡◌, ℕ, get_or, ap, subst, ◌∙◌, inl, inr, arith}
use Rattle.std.proofs.lemmas.Bool.{cases_lt}
use Rattle.std.proofs.lemmas.List.{get_or_default}
use Rattle.lnet_gates.specs.declared.signal.Node.{Node}
use Rattle.lnet_simulate.specs.Cones.{IsListed}
use Rattle.lnet_simulate.proofs.cone.visit_all.Goals as goal

abbrev zero_node : Node
zero_node = record { 0 = 0 }

pub loop-root-preserved : goal.loop-root-preserved
loop-root-preserved g c = record {
  cone = c.in_ok-visit.ensures.cone;
  found = λ k d below. elim (cases_lt k c.loop-root.root-index) as (λ _. IsListed c.visit.new.order.items (get_or c.args.roots.now k d).0) [
    | inl low ↦ c.in_ok-visit.ensures.kept (get_or c.args.roots.now k d).0 (c.loop-root.invariant.found k d low)
    | inr high ↦
        let here : c.loop-root.root-index ≡ k = omega arith in
        let node : get_or c.args.roots.now c.loop-root.root-index zero_node ≡ get_or c.args.roots.now k d = get_or_default c.args.roots.now c.loop-root.root-index zero_node d c.loop-root-test.true ∙ ap (λ (j : ℕ). get_or c.args.roots.now j d) here in
        subst (λ (q : Node). IsListed c.visit.new.order.items q.0) node c.in_ok-visit.ensures.found
  ];
  start = c.in_ok-visit.ensures.end;
}
