use Rattle.std.proofs.Common.{◌≡◌, ◌<◌, ◌*◌, ℕ, List, [], length, refl, sym, ap, ◌∙◌, subst, arith, Ok, Err}
use Rattle.std.specs.Prelude.{All}
use Rattle.std.specs.List.{sum_by}
use Rattle.lnet_tables.specs.declared.step.Lit.{Lit}
use Rattle.lnet_tables.specs.Recipes.{RecipeValue, next_place}
use Rattle.lnet_tables.specs.Shannon.{Laid, or_at}
use Rattle.lnet_tables.proofs.ShannonSteps.{lays_given}
use Rattle.lnet_sop.specs.declared.cover.Cube.{Cube}
use Rattle.lnet_sop.specs.declared.factoring.FactorError.TheVariants.{Full}
use Rattle.lnet_sop.specs.Covers.{IsCube}
use Rattle.lnet_sop.specs.Factored.{Forms, form_of, most_common, uses, quotient, remainder, multiple_at, divided, disjunction}
use Rattle.lnet_sop.proofs.Pushing.{forms_lays, forms_full, error_is, forms_leaves, form_short, division, product_refused, quotient_refused, rest_none, rest_some, rest_refused, rest_as, none_left, some_left, lays_leaves, lays_short}
use Rattle.lnet_sop.proofs.Factors.{form_true, form_apart, form_divided, quotient_each, remainder_each, quotient_less, remainder_less, literal_inside}
use Rattle.lnet_sop.proofs.factoring.+lay.Goals as goal

pub returns-then-has_universe : goal.returns-then-has_universe
returns-then-has_universe t c =
    let s : RecipeValue = c.args.recipe.now in
    subst (λ (x : Laid). Forms s s (Ok (record { 0 = 1 })) x) (sym (form_true s.leaves (next_place s) c.args.cubes.now (sym c.has_universe.ensures ∙ c.if-has_universe.true)))
    (forms_lays s s _ _ (lays_given s (record { 0 = 1 }) (record { 0 = 1 }) refl c.requires.short (omega arith)))

pub returns-in_err-lit : goal.returns-in_err-lit
returns-in_err-lit t c =
    let s : RecipeValue = c.args.recipe.now in
    let common : c.most_common-literal.result ≡ most_common (2 * s.leaves) c.args.cubes.now = c.most_common-literal.ensures.value ∙ ap (λ (k : ℕ). most_common (2 * k) c.args.cubes.now) c.leaves.ensures.value in
    subst (λ (x : Laid). Forms s c.disjunction.new.recipe c.from_residual.result x)
    (sym (form_apart s.leaves (next_place s) c.args.cubes.now c.most_common-literal.result (sym c.has_universe.ensures ∙ c.if-has_universe.false) common (omega (arith, c.uses.ensures, c.if-uses-le1.true))))
    (forms_full s c.disjunction.new.recipe c.in_err-lit.field-0.0 c.from_residual.result (disjunction (length c.args.cubes.now) s.leaves (next_place s) c.args.cubes.now)
    (error_is c.from_residual.result Full c.from_residual.ensures.0 c.from_residual.ensures.1) c.in_err-lit.ensures)

pub returns-then-uses-le1 : goal.returns-then-uses-le1
returns-then-uses-le1 t c =
    let s : RecipeValue = c.args.recipe.now in
    let common : c.most_common-literal.result ≡ most_common (2 * s.leaves) c.args.cubes.now = c.most_common-literal.ensures.value ∙ ap (λ (k : ℕ). most_common (2 * k) c.args.cubes.now) c.leaves.ensures.value in
    subst (λ (x : Laid). Forms s c.disjunction.new.recipe (Ok c.in_ok-lit.lit) x)
    (sym (form_apart s.leaves (next_place s) c.args.cubes.now c.most_common-literal.result (sym c.has_universe.ensures ∙ c.if-has_universe.false) common (omega (arith, c.uses.ensures, c.if-uses-le1.true))))
    (forms_lays s c.disjunction.new.recipe c.in_ok-lit.lit (disjunction (length c.args.cubes.now) s.leaves (next_place s) c.args.cubes.now) c.in_ok-lit.ensures)

pub lay-requires : goal.lay-requires
lay-requires t c =
    let cs : List Cube = c.args.cubes.now in
    let l : Lit = c.most_common-literal.result in
    let items : c.deref.result.now ≡ quotient l cs = c.deref.ensures.value ∙ c.in_ok-divided.ensures in
    let less : sum_by (λ (x : Cube). x.care) c.deref.result.now < sum_by (λ (x : Cube). x.care) cs =
    subst (λ (ds : List Cube). sum_by (λ (x : Cube). x.care) ds < sum_by (λ (x : Cube). x.care) cs) (sym items) (quotient_less l cs (omega (arith, c.uses.ensures, c.if-uses-le1.false))) in
    let each : All (IsCube c.args.recipe.now.leaves) c.deref.result.now =
    subst (λ (ds : List Cube). All (IsCube c.args.recipe.now.leaves) ds) (sym items) (quotient_each c.args.recipe.now.leaves l cs c.requires.each) in
    let falls : sum_by (λ (x : Cube). x.care) c.deref.result.now < t = subst (λ (k : ℕ). sum_by (λ (x : Cube). x.care) c.deref.result.now < k) c.decreases less in
    (falls, (c.requires.few, (c.requires.short, each)))

pub returns-in_err-quotient : goal.returns-in_err-quotient
returns-in_err-quotient t c =
    let s : RecipeValue = c.args.recipe.now in
    let cs : List Cube = c.args.cubes.now in
    let l : Lit = c.most_common-literal.result in
    let n : ℕ = s.leaves in
    let common : l ≡ most_common (2 * n) cs = c.most_common-literal.ensures.value ∙ ap (λ (k : ℕ). most_common (2 * k) cs) c.leaves.ensures.value in
    let two : 1 < uses cs l = omega (arith, c.uses.ensures, c.if-uses-le1.false) in
    let whole : form_of n (next_place s) cs ≡ divided (λ q ds. form_of n q ds) (next_place s) l cs =
    form_divided n (next_place s) cs l (sym c.has_universe.ensures ∙ c.if-has_universe.false) common two in
    let items : c.deref.result.now ≡ quotient l cs = c.deref.ensures.value ∙ c.in_ok-divided.ensures in
    subst (λ (x : Laid). Forms s c.lay.new.recipe c.from_residual-in_err-quotient.result x) (sym whole)
    (quotient_refused (λ q ds. form_of n q ds) s c.lay.new.recipe c.in_err-quotient.field-0.0 c.from_residual-in_err-quotient.result l cs
    (subst (λ (ds : List Cube). Forms s c.lay.new.recipe (Err c.in_err-quotient.field-0.0) (form_of n (next_place s) ds)) items c.in_err-quotient.ensures)
    (error_is c.from_residual-in_err-quotient.result c.in_err-quotient.field-0.0 c.from_residual-in_err-quotient.ensures.0 c.from_residual-in_err-quotient.ensures.1))

pub multiple-requires-clause-literal : goal.multiple-requires-clause-literal
multiple-requires-clause-literal t c =
    let s : RecipeValue = c.args.recipe.now in
    let two : 1 < uses c.args.cubes.now c.most_common-literal.result = omega (arith, c.uses.ensures, c.if-uses-le1.false) in
    let leaves : c.lay.new.recipe.leaves ≡ s.leaves = forms_leaves _ _ _ _ c.in_ok-quotient.ensures in
    omega (arith, leaves, literal_inside c.most_common-literal.result c.args.cubes.now s.leaves two c.requires.each)

pub returns-in_err-product : goal.returns-in_err-product
returns-in_err-product t c =
    let s : RecipeValue = c.args.recipe.now in
    let cs : List Cube = c.args.cubes.now in
    let l : Lit = c.most_common-literal.result in
    let n : ℕ = s.leaves in
    let common : l ≡ most_common (2 * n) cs = c.most_common-literal.ensures.value ∙ ap (λ (k : ℕ). most_common (2 * k) cs) c.leaves.ensures.value in
    let two : 1 < uses cs l = omega (arith, c.uses.ensures, c.if-uses-le1.false) in
    let whole : form_of n (next_place s) cs ≡ divided (λ q ds. form_of n q ds) (next_place s) l cs =
    form_divided n (next_place s) cs l (sym c.has_universe.ensures ∙ c.if-has_universe.false) common two in
    let items : c.deref.result.now ≡ quotient l cs = c.deref.ensures.value ∙ c.in_ok-divided.ensures in
    let first : Forms s c.lay.new.recipe (Ok c.in_ok-quotient.quotient) (form_of n (next_place s) (quotient l cs)) =
    subst (λ (ds : List Cube). Forms s c.lay.new.recipe (Ok c.in_ok-quotient.quotient) (form_of n (next_place s) ds)) items c.in_ok-quotient.ensures in
    subst (λ (x : Laid). Forms s c.multiple.new.recipe c.from_residual-in_err-product.result x) (sym whole)
    (product_refused (λ q ds. form_of n q ds) s c.lay.new.recipe c.multiple.new.recipe c.in_ok-quotient.quotient c.in_err-product.field-0.0 c.from_residual-in_err-product.result l cs
    first c.in_err-product.ensures
    (error_is c.from_residual-in_err-product.result Full c.from_residual-in_err-product.ensures.0 c.from_residual-in_err-product.ensures.1))

pub returns-then-is_empty : goal.returns-then-is_empty
returns-then-is_empty t c =
    let s : RecipeValue = c.args.recipe.now in
    let cs : List Cube = c.args.cubes.now in
    let l : Lit = c.most_common-literal.result in
    let n : ℕ = s.leaves in
    let common : l ≡ most_common (2 * n) cs = c.most_common-literal.ensures.value ∙ ap (λ (k : ℕ). most_common (2 * k) cs) c.leaves.ensures.value in
    let two : 1 < uses cs l = omega (arith, c.uses.ensures, c.if-uses-le1.false) in
    let whole : form_of n (next_place s) cs ≡ divided (λ q ds. form_of n q ds) (next_place s) l cs =
    form_divided n (next_place s) cs l (sym c.has_universe.ensures ∙ c.if-has_universe.false) common two in
    let items : c.deref.result.now ≡ quotient l cs = c.deref.ensures.value ∙ c.in_ok-divided.ensures in
    let first : Forms s c.lay.new.recipe (Ok c.in_ok-quotient.quotient) (form_of n (next_place s) (quotient l cs)) =
    subst (λ (ds : List Cube). Forms s c.lay.new.recipe (Ok c.in_ok-quotient.quotient) (form_of n (next_place s) ds)) items c.in_ok-quotient.ensures in
    let second : Forms c.lay.new.recipe c.multiple.new.recipe (Ok c.in_ok-product.product) (multiple_at (next_place c.lay.new.recipe) l c.in_ok-quotient.quotient) =
    forms_lays c.lay.new.recipe c.multiple.new.recipe c.in_ok-product.product (multiple_at (next_place c.lay.new.recipe) l c.in_ok-quotient.quotient) c.in_ok-product.ensures in
    let none : remainder l cs ≡ [] = sym c.in_ok-left.ensures ∙ none_left c.in_ok-left.left.items c.in_ok-left.left.len c.in_ok-left.left.ok.0 (sym c.is_empty.ensures ∙ c.if-is_empty.true) in
    subst (λ (x : Laid). Forms s c.multiple.new.recipe (Ok c.in_ok-product.product) x) (sym whole)
    (division (λ q ds. form_of n q ds) s c.lay.new.recipe c.multiple.new.recipe c.multiple.new.recipe c.in_ok-quotient.quotient c.in_ok-product.product (Ok c.in_ok-product.product) l cs
    first second
    (rest_none (λ q ds. form_of n q ds) c.multiple.new.recipe c.in_ok-product.product (remainder l cs) none (form_short _ _ _ _ second) second.inside))

pub lay-requires-2 : goal.lay-requires-2
lay-requires-2 t c =
    let s : RecipeValue = c.args.recipe.now in
    let cs : List Cube = c.args.cubes.now in
    let l : Lit = c.most_common-literal.result in
    let u : RecipeValue = c.multiple.new.recipe in
    let leaves : u.leaves ≡ s.leaves = lays_leaves _ _ _ _ c.in_ok-product.ensures ∙ forms_leaves _ _ _ _ c.in_ok-quotient.ensures in
    let others : c.deref-2.result.now ≡ remainder l cs = c.deref-2.ensures.value ∙ c.in_ok-left.ensures in
    let less : sum_by (λ (x : Cube). x.care) c.deref-2.result.now < sum_by (λ (x : Cube). x.care) cs =
    subst (λ (ds : List Cube). sum_by (λ (x : Cube). x.care) ds < sum_by (λ (x : Cube). x.care) cs) (sym others) (remainder_less l cs (omega (arith, c.uses.ensures, c.if-uses-le1.false))) in
    let each : All (IsCube u.leaves) c.deref-2.result.now =
    subst (λ (k : ℕ). All (IsCube k) c.deref-2.result.now) (sym leaves) (subst (λ (ds : List Cube). All (IsCube s.leaves) ds) (sym others) (remainder_each s.leaves l cs c.requires.each)) in
    let falls : sum_by (λ (x : Cube). x.care) c.deref-2.result.now < t = subst (λ (k : ℕ). sum_by (λ (x : Cube). x.care) c.deref-2.result.now < k) c.decreases less in
    (falls, (omega (arith, leaves, c.requires.few), (lays_short _ _ _ _ c.in_ok-product.ensures, each)))

pub returns-in_err-rest : goal.returns-in_err-rest
returns-in_err-rest t c =
    let s : RecipeValue = c.args.recipe.now in
    let cs : List Cube = c.args.cubes.now in
    let l : Lit = c.most_common-literal.result in
    let n : ℕ = s.leaves in
    let common : l ≡ most_common (2 * n) cs = c.most_common-literal.ensures.value ∙ ap (λ (k : ℕ). most_common (2 * k) cs) c.leaves.ensures.value in
    let two : 1 < uses cs l = omega (arith, c.uses.ensures, c.if-uses-le1.false) in
    let whole : form_of n (next_place s) cs ≡ divided (λ q ds. form_of n q ds) (next_place s) l cs =
    form_divided n (next_place s) cs l (sym c.has_universe.ensures ∙ c.if-has_universe.false) common two in
    let items : c.deref.result.now ≡ quotient l cs = c.deref.ensures.value ∙ c.in_ok-divided.ensures in
    let first : Forms s c.lay.new.recipe (Ok c.in_ok-quotient.quotient) (form_of n (next_place s) (quotient l cs)) =
    subst (λ (ds : List Cube). Forms s c.lay.new.recipe (Ok c.in_ok-quotient.quotient) (form_of n (next_place s) ds)) items c.in_ok-quotient.ensures in
    let second : Forms c.lay.new.recipe c.multiple.new.recipe (Ok c.in_ok-product.product) (multiple_at (next_place c.lay.new.recipe) l c.in_ok-quotient.quotient) =
    forms_lays c.lay.new.recipe c.multiple.new.recipe c.in_ok-product.product (multiple_at (next_place c.lay.new.recipe) l c.in_ok-quotient.quotient) c.in_ok-product.ensures in
    let u : RecipeValue = c.multiple.new.recipe in
    let leaves : u.leaves ≡ n = lays_leaves _ _ _ _ c.in_ok-product.ensures ∙ forms_leaves _ _ _ _ c.in_ok-quotient.ensures in
    let others : c.deref-2.result.now ≡ remainder l cs = c.deref-2.ensures.value ∙ c.in_ok-left.ensures in
    let some : remainder l cs ≡ [] → ⊥ = λ e. some_left c.in_ok-left.left.items c.in_ok-left.left.len c.in_ok-left.left.ok.0 (sym c.is_empty.ensures ∙ c.if-is_empty.false) (c.in_ok-left.ensures ∙ e) in
    subst (λ (x : Laid). Forms s c.lay-2.new.recipe c.from_residual-in_err-rest.result x) (sym whole)
    (division (λ q ds. form_of n q ds) s c.lay.new.recipe u c.lay-2.new.recipe c.in_ok-quotient.quotient c.in_ok-product.product c.from_residual-in_err-rest.result l cs first second
    (rest_refused (λ q ds. form_of n q ds) u c.lay-2.new.recipe c.in_ok-product.product c.in_err-rest.field-0.0 c.from_residual-in_err-rest.result (remainder l cs) some
    (rest_as u c.lay-2.new.recipe (Err c.in_err-rest.field-0.0) u.leaves n c.deref-2.result.now (remainder l cs) leaves others c.in_err-rest.ensures)
    (error_is c.from_residual-in_err-rest.result c.in_err-rest.field-0.0 c.from_residual-in_err-rest.ensures.0 c.from_residual-in_err-rest.ensures.1)))

pub returns-in_err-lit-2 : goal.returns-in_err-lit-2
returns-in_err-lit-2 t c =
    let s : RecipeValue = c.args.recipe.now in
    let cs : List Cube = c.args.cubes.now in
    let l : Lit = c.most_common-literal.result in
    let n : ℕ = s.leaves in
    let common : l ≡ most_common (2 * n) cs = c.most_common-literal.ensures.value ∙ ap (λ (k : ℕ). most_common (2 * k) cs) c.leaves.ensures.value in
    let two : 1 < uses cs l = omega (arith, c.uses.ensures, c.if-uses-le1.false) in
    let whole : form_of n (next_place s) cs ≡ divided (λ q ds. form_of n q ds) (next_place s) l cs =
    form_divided n (next_place s) cs l (sym c.has_universe.ensures ∙ c.if-has_universe.false) common two in
    let items : c.deref.result.now ≡ quotient l cs = c.deref.ensures.value ∙ c.in_ok-divided.ensures in
    let first : Forms s c.lay.new.recipe (Ok c.in_ok-quotient.quotient) (form_of n (next_place s) (quotient l cs)) =
    subst (λ (ds : List Cube). Forms s c.lay.new.recipe (Ok c.in_ok-quotient.quotient) (form_of n (next_place s) ds)) items c.in_ok-quotient.ensures in
    let second : Forms c.lay.new.recipe c.multiple.new.recipe (Ok c.in_ok-product.product) (multiple_at (next_place c.lay.new.recipe) l c.in_ok-quotient.quotient) =
    forms_lays c.lay.new.recipe c.multiple.new.recipe c.in_ok-product.product (multiple_at (next_place c.lay.new.recipe) l c.in_ok-quotient.quotient) c.in_ok-product.ensures in
    let u : RecipeValue = c.multiple.new.recipe in
    let leaves : u.leaves ≡ n = lays_leaves _ _ _ _ c.in_ok-product.ensures ∙ forms_leaves _ _ _ _ c.in_ok-quotient.ensures in
    let others : c.deref-2.result.now ≡ remainder l cs = c.deref-2.ensures.value ∙ c.in_ok-left.ensures in
    let some : remainder l cs ≡ [] → ⊥ = λ e. some_left c.in_ok-left.left.items c.in_ok-left.left.len c.in_ok-left.left.ok.0 (sym c.is_empty.ensures ∙ c.if-is_empty.false) (c.in_ok-left.ensures ∙ e) in
    let third : Forms u c.lay-2.new.recipe (Ok c.in_ok-rest.rest) (form_of n (next_place u) (remainder l cs)) =
    rest_as u c.lay-2.new.recipe (Ok c.in_ok-rest.rest) u.leaves n c.deref-2.result.now (remainder l cs) leaves others c.in_ok-rest.ensures in
    subst (λ (x : Laid). Forms s c.or.new.recipe c.from_residual-in_err-lit-2.result x) (sym whole)
    (division (λ q ds. form_of n q ds) s c.lay.new.recipe u c.or.new.recipe c.in_ok-quotient.quotient c.in_ok-product.product c.from_residual-in_err-lit-2.result l cs first second
    (rest_some (λ q ds. form_of n q ds) u c.lay-2.new.recipe c.or.new.recipe c.in_ok-product.product c.in_ok-rest.rest c.from_residual-in_err-lit-2.result (remainder l cs) some third
    (forms_full c.lay-2.new.recipe c.or.new.recipe c.in_err-lit-2.field-0.0 c.from_residual-in_err-lit-2.result (or_at (next_place c.lay-2.new.recipe) c.in_ok-product.product c.in_ok-rest.rest)
    (error_is c.from_residual-in_err-lit-2.result Full c.from_residual-in_err-lit-2.ensures.0 c.from_residual-in_err-lit-2.ensures.1) c.in_err-lit-2.ensures)))

pub returns : goal.returns
returns t c =
    let s : RecipeValue = c.args.recipe.now in
    let cs : List Cube = c.args.cubes.now in
    let l : Lit = c.most_common-literal.result in
    let n : ℕ = s.leaves in
    let common : l ≡ most_common (2 * n) cs = c.most_common-literal.ensures.value ∙ ap (λ (k : ℕ). most_common (2 * k) cs) c.leaves.ensures.value in
    let two : 1 < uses cs l = omega (arith, c.uses.ensures, c.if-uses-le1.false) in
    let whole : form_of n (next_place s) cs ≡ divided (λ q ds. form_of n q ds) (next_place s) l cs =
    form_divided n (next_place s) cs l (sym c.has_universe.ensures ∙ c.if-has_universe.false) common two in
    let items : c.deref.result.now ≡ quotient l cs = c.deref.ensures.value ∙ c.in_ok-divided.ensures in
    let first : Forms s c.lay.new.recipe (Ok c.in_ok-quotient.quotient) (form_of n (next_place s) (quotient l cs)) =
    subst (λ (ds : List Cube). Forms s c.lay.new.recipe (Ok c.in_ok-quotient.quotient) (form_of n (next_place s) ds)) items c.in_ok-quotient.ensures in
    let second : Forms c.lay.new.recipe c.multiple.new.recipe (Ok c.in_ok-product.product) (multiple_at (next_place c.lay.new.recipe) l c.in_ok-quotient.quotient) =
    forms_lays c.lay.new.recipe c.multiple.new.recipe c.in_ok-product.product (multiple_at (next_place c.lay.new.recipe) l c.in_ok-quotient.quotient) c.in_ok-product.ensures in
    let u : RecipeValue = c.multiple.new.recipe in
    let leaves : u.leaves ≡ n = lays_leaves _ _ _ _ c.in_ok-product.ensures ∙ forms_leaves _ _ _ _ c.in_ok-quotient.ensures in
    let others : c.deref-2.result.now ≡ remainder l cs = c.deref-2.ensures.value ∙ c.in_ok-left.ensures in
    let some : remainder l cs ≡ [] → ⊥ = λ e. some_left c.in_ok-left.left.items c.in_ok-left.left.len c.in_ok-left.left.ok.0 (sym c.is_empty.ensures ∙ c.if-is_empty.false) (c.in_ok-left.ensures ∙ e) in
    let third : Forms u c.lay-2.new.recipe (Ok c.in_ok-rest.rest) (form_of n (next_place u) (remainder l cs)) =
    rest_as u c.lay-2.new.recipe (Ok c.in_ok-rest.rest) u.leaves n c.deref-2.result.now (remainder l cs) leaves others c.in_ok-rest.ensures in
    subst (λ (x : Laid). Forms s c.or.new.recipe (Ok c.in_ok-lit-2.lit) x) (sym whole)
    (division (λ q ds. form_of n q ds) s c.lay.new.recipe u c.or.new.recipe c.in_ok-quotient.quotient c.in_ok-product.product (Ok c.in_ok-lit-2.lit) l cs first second
    (rest_some (λ q ds. form_of n q ds) u c.lay-2.new.recipe c.or.new.recipe c.in_ok-product.product c.in_ok-rest.rest (Ok c.in_ok-lit-2.lit) (remainder l cs) some third
    (forms_lays c.lay-2.new.recipe c.or.new.recipe c.in_ok-lit-2.lit (or_at (next_place c.lay-2.new.recipe) c.in_ok-product.product c.in_ok-rest.rest) c.in_ok-lit-2.ensures)))
