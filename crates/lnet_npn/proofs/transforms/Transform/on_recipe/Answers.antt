use Rattle.std.proofs.Common.{◌≡◌, ◌<◌, ◌+◌, ℕ, sym, ap, ◌∙◌, arith, map, take, length, List, ◌++◌, ◌∷◌, []}
use Rattle.lnet_tables.specs.declared.step.Step.{Step}
use Rattle.lnet_tables.specs.Recipes.{RecipeValue, next_place, place, sim}
use Rattle.lnet_npn.specs.Rewiring.{complemented_if, rewired_lit, rewired_step}
use Rattle.lnet_npn.proofs.Rewired.{step_fits, root_fits, taken_long, taken_more, taken_all, from_ok, rewired_is, rewired_sim}
use Rattle.lnet_npn.proofs.transforms.Transform.on_recipe.Goals as goal

pub push-requires : goal.push-requires
push-requires c =
    let i : ℕ = c.loop-i.i in
    let long : length c.loop-i.result.steps ≡ i = ap length c.loop-i.invariant.steps ∙ taken_long (rewired_step c.args.self.now) c.args.recipe.now.steps i (omega arith) in
    let n : c.args.recipe.now.leaves + 1 + i ≡ next_place c.loop-i.result = omega (arith, long, c.loop-i.invariant.leaves, c.requires.four) in
    rw (c.on_step.ensures, ← n) (step_fits c.args.self.now c.step.result _ c.requires.lawful (omega arith) c.step.ensures.before)

pub loop-i-preserved : goal.loop-i-preserved
loop-i-preserved c =
    let i : ℕ = c.loop-i.i in
    let long : length c.loop-i.result.steps ≡ i = ap length c.loop-i.invariant.steps ∙ taken_long (rewired_step c.args.self.now) c.args.recipe.now.steps i (omega arith) in
    let new = from_ok _ _ (c.push.ensures.room.1 (omega arith)) c.push.ensures.ok in
    record {
      leaves = ap (λ (r : RecipeValue). r.leaves) new ∙ c.loop-i.invariant.leaves;
      steps =
          ap (λ (r : RecipeValue). r.steps) new
          ∙ ap (λ (ss : List Step). ss ++ c.on_step.result ∷ []) c.loop-i.invariant.steps
          ∙ ap (λ (s : Step). map (rewired_step c.args.self.now) (take i c.args.recipe.now.steps) ++ s ∷ []) c.on_step.ensures
          ∙ taken_more (rewired_step c.args.self.now) c.args.recipe.now.steps i c.step.result (omega arith) c.step.ensures.value;
    }

pub set_root-requires : goal.set_root-requires
set_root-requires c =
    let i : ℕ = c.loop-i.i in
    let t = c.args.self.now in
    let long : length c.loop-i.result.steps ≡ i = ap length c.loop-i.invariant.steps ∙ taken_long (rewired_step t) c.args.recipe.now.steps i (omega arith) in
    let n : next_place c.args.recipe.now ≡ next_place c.loop-i.result = omega (arith, long, c.loop-i.invariant.leaves, c.requires.four) in
    let r : place (complemented_if t.out (rewired_lit t c.root.result)) < next_place c.args.recipe.now = root_fits t c.root.result _ c.requires.lawful (omega arith) c.root.ensures.inside in
    rw (c.complement_if.ensures, c.on_lit-root.ensures, ← n) r

pub returns-clause-value : goal.returns-clause-value
returns-clause-value c =
    let t = c.args.self.now in
    let r : RecipeValue = c.args.recipe.now in
    c.set_root.ensures
    ∙ rewired_is t r c.loop-i.result c.complement_if.result
    (c.loop-i.invariant.leaves ∙ sym c.requires.four)
    (c.loop-i.invariant.steps ∙ taken_all (rewired_step t) r.steps c.loop-i.i (omega arith))
    (c.complement_if.ensures ∙ ap (complemented_if t.out) (c.on_lit-root.ensures ∙ ap (rewired_lit t) c.root.ensures.value))

pub returns-clause-function : goal.returns-clause-function
returns-clause-function c = ap sim (returns-clause-value c) ∙ rewired_sim c.args.self.now c.args.recipe.now c.requires.lawful c.requires.four
