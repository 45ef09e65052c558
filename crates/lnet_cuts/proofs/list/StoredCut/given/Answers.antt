use Rattle.std.proofs.Common.{◌≡◌, ◌≤◌, ◌∙◌, ℕ, length, map, sym, ap, subst}
use Rattle.std.proofs.lemmas.List.{take_all}
use Rattle.lnet_gates.specs.declared.signal.Node.{Node}
use Rattle.lnet_model.specs.Cuts.{CutValue}
use Rattle.lnet_cuts.proofs.KeptCuts.{given-as}
use Rattle.lnet_cuts.proofs.list.StoredCut.given.Goals as goal

pub returns : goal.returns
returns c =
    let numbers = c.leaves-numbers.result.now in
    let e : numbers ≡ c.self.inside.leaves.items = c.leaves-numbers.ensures.value ∙ sym (ap (λ (z : CutValue). z.leaves) c.self.view_is) in
    let done : length numbers ≤ c.loop-leaf.leaf-index = c.loop-leaf-test.false in
    given-as (map {B = ℕ} (λ (n : Node). n.0) c.loop-leaf.leaves.items) c.self.inside.leaves.items c.widened.result c.self.inside.table c.from_words-table.result (length numbers)
    (c.loop-leaf.invariant.value ∙ take_all c.loop-leaf.leaf-index numbers done ∙ e) c.from_words-table.ensures (ap length e)
    (subst (λ z. length z ≤ 8) e c.leaves-numbers.ensures.few) c.widened.ensures
    ∙ c.self.view_is
