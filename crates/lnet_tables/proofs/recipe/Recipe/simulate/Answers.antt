use Rattle.std.proofs.Common.{◌∙◌, sym, ap, arith, ◌+◌, ◌≡◌, take, List}
use Rattle.std.proofs.lemmas.List.{take_all, length_push}
use Rattle.lnet_tables.specs.Bits.{Rows}
use Rattle.lnet_tables.specs.declared.step.Step.{Step}
use Rattle.lnet_tables.specs.Recipes.{sim}
use Rattle.lnet_tables.specs.WholeTables.{lit_rows, run_rows, leaf_rows}
use Rattle.lnet_tables.proofs.Agree.{leaves_long, leaves_hold, all_from_holds, run_more, all_more, root_sim}
use Rattle.lnet_tables.proofs.recipe.Recipe.simulate.Goals as goal

pub loop-step-init : goal.loop-step-init
loop-step-init c =
    (c.leaf_tables-tables.ensures, rw c.leaf_tables-tables.ensures (leaves_long _ ∙ omega arith), rw c.leaf_tables-tables.ensures (all_from_holds _ _ _ (leaves_hold _)))

pub loop-step-preserved : goal.loop-step-preserved
loop-step-preserved c =
    let same = c.as_slice-step-items.ensures.value in
    let lt = rw same at c.loop-step-test.true in (
      rw (c.push.ensures.items, c.step_table-next.ensures.value, c.as_slice.ensures.value, same, c.loop-step.invariant.0)
          (sym (run_more c.self.inside.steps.items c.loop-step.step-index _ _ lt)),
      rw c.push.ensures.items (length_push _ _ ∙ ap (λ k. k + 1) c.loop-step.invariant.1 ∙ omega arith),
      rw c.push.ensures.items (all_more _ _ _ c.loop-step.invariant.2 c.step_table-next.ensures.vars),
    )

pub returns : goal.returns
returns c =
    let ge = rw c.as_slice-step-items.ensures.value at c.loop-step-test.false in
    let all : take c.loop-step.step-index c.self.inside.steps.items ≡ c.self.inside.steps.items = take_all _ _ ge in
    c.lit_table.ensures.value
    ∙ ap (λ (ts : List Rows). lit_rows ts c.self.inside.root) (c.as_slice-2.ensures.value ∙ c.loop-step.invariant.0 ∙ ap (λ (ss : List Step). run_rows ss (leaf_rows c.self.inside.leaves)) all)
    ∙ root_sim c.self.inside.leaves c.self.inside.steps.items c.self.inside.root c.self.invariant
    ∙ ap sim c.self.view_is
