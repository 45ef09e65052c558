use Rattle.std.proofs.Common.{◌∙◌, ap, sym, Bool, ◌-◌, ◌/◌}
use Rattle.lnet_tables.proofs.Constants.{test_bit}
use Rattle.lnet_npn.specs.Rewiring.{complemented_if, renamed}
use Rattle.lnet_npn.proofs.Rewired.{LeafOr, leaf_range, leaf_lit, kept_lit}
use Rattle.lnet_npn.proofs.transforms.Transform.on_lit.Goals as goal

pub returns-then-not-is_leaf : goal.returns-then-not-is_leaf
returns-then-not-is_leaf c = sym (kept_lit c.args.self.now c.args.lit (sym c.is_leaf.ensures ∙ c.if-not-is_leaf.true))

pub returns : goal.returns
returns c =
    let r : LeafOr (c.args.lit.0 / 2) = leaf_range _ (sym c.is_leaf.ensures ∙ c.if-not-is_leaf.false) in
    c.complement_if.ensures
    ∙ ap (λ (b : Bool). complemented_if b (renamed c.args.self.now c.args.lit)) (test_bit c.args.self.now.flips (c.args.lit.0 / 2 - 1))
    ∙ sym (leaf_lit c.args.self.now c.args.lit r.low r.high)
