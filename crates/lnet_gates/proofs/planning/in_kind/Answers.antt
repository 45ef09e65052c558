use Rattle.std.proofs.Common.{List, sym, ◌∙◌, ap, subst, arith}
use Rattle.lnet_tables.specs.declared.step.Lit.{Lit}
use Rattle.lnet_tables.specs.Recipes.{next_place}
use Rattle.lnet_gates.specs.Remade.{renamed}
use Rattle.lnet_gates.specs.StepPlans.{step_plan}
use Rattle.lnet_gates.specs.Laying.{HasLaid}
use Rattle.lnet_gates.proofs.Underway.{underway_begun, underway_more, underway_done, renamed_inside}
use Rattle.lnet_gates.proofs.planning.in_kind.Goals as goal

pub loop-i-init : goal.loop-i-init
loop-i-init c =
    underway_begun c.args.kind c.args.whole.now c.new-recipe.result c.leaf_lits-lits.result.items
    (rw (sym c.leaves.ensures.value) c.new-recipe.ensures) (rw (sym c.leaves-2.ensures.value) c.leaf_lits-lits.ensures) c.requires

pub loop-i-preserved : goal.loop-i-preserved
loop-i-preserved c =
    let s = c.step.result in
    let laid = subst (λ (ls : List Lit). HasLaid c.loop-i.recipe c.lay_renamed-lit.new.recipe c.lay_renamed-lit.result
    (step_plan c.args.kind s.op (next_place c.loop-i.recipe) (renamed ls s.a) (renamed ls s.b) (renamed ls s.c))) c.as_slice.ensures.value c.lay_renamed-lit.ensures in
    rw c.push.ensures.items
    (underway_more c.args.kind c.args.whole.now c.loop-i.i s c.loop-i.recipe c.lay_renamed-lit.new.recipe c.loop-i.lits.items c.lay_renamed-lit.result
    c.step.ensures.value (omega arith) c.loop-i.invariant laid)

pub set_root-requires : goal.set_root-requires
set_root-requires c =
    rw (c.renamed-root.ensures, c.as_slice-2.ensures.value)
    (renamed_inside (next_place c.loop-i.recipe) c.loop-i.lits.items c.root.result c.loop-i.invariant.inside (omega arith))

pub returns : goal.returns
returns c =
    underway_done c.args.kind c.args.whole.now c.loop-i.i c.loop-i.recipe c.set_root.new.self c.loop-i.lits.items c.renamed-root.result (omega arith) c.loop-i.invariant
    (c.renamed-root.ensures ∙ ap (λ (ls : List Lit). renamed ls c.root.result) c.as_slice-2.ensures.value ∙ ap (renamed c.loop-i.lits.items) c.root.ensures.value)
    c.set_root.ensures
