use Rattle.std.proofs.Common.{◌≡◌, ◌+◌, ◌-◌, sym, ap, ◌∙◌, subst, arith, Ok, Err, length}
use Rattle.lnet_tables.specs.Bits.{Rows, bit_of}
use Rattle.lnet_tables.specs.declared.step.Lit.{Lit}
use Rattle.lnet_tables.specs.declared.expansion.Case.TheVariants.{Unused, Plain, Complement, Neither}
use Rattle.lnet_tables.specs.Recipes.{place, next_place}
use Rattle.lnet_tables.specs.Shannon.{Laid, Lays, after, plain, other, expansion, one_step_at, choice_at}
use Rattle.lnet_tables.proofs.ShannonSteps.{lays_given, lays_after, lays_refused, refused_as, one_step_lays, place_plain, other_plain, expansion_none, expansion_by_case, one_step_case}
use Rattle.lnet_tables.proofs.expansion.+lay.Goals as goal

pub returns-then-count-eq0 : goal.returns-then-count-eq0
returns-then-count-eq0 t c =
    let s = c.args.recipe.now in
    let e = c.constant.ensures.value ∙ ap (λ b. let l : Lit = record { 0 = bit_of b } in l) c.get.ensures in
    subst (λ (x : Laid). Lays s s (Ok c.constant.result) x) (sym (expansion_none c.args.count (next_place s) c.args.table c.if-count-eq0.true))
    (lays_given s _ c.constant.result e c.requires.short (omega (arith, c.constant.ensures.place)))

pub returns-in_err-lit-in-Unused : goal.returns-in_err-lit-in-Unused
returns-in_err-lit-in-Unused t c =
    let s = c.args.recipe.now in
    subst (λ (x : Laid). Lays s c.lay.new.recipe c.from_residual.result x)
    (sym (expansion_by_case c.args.count (c.args.count - 1) (next_place s) c.args.table _ _ Unused (omega arith) c.cofactor-high.ensures c.cofactor-low.ensures (sym c.in-Unused.is ∙ c.decide-case.ensures)))
    (refused_as s _ _ c.from_residual.result _ c.from_residual.ensures.0 c.in_err-lit-in-Unused.ensures)

pub returns-in_ok-lit-in-Unused : goal.returns-in_ok-lit-in-Unused
returns-in_ok-lit-in-Unused t c =
    let s = c.args.recipe.now in
    subst (λ (x : Laid). Lays s c.lay.new.recipe (Ok c.in_ok-lit-in-Unused.lit) x)
    (sym (expansion_by_case c.args.count (c.args.count - 1) (next_place s) c.args.table _ _ Unused (omega arith) c.cofactor-high.ensures c.cofactor-low.ensures (sym c.in-Unused.is ∙ c.decide-case.ensures)))
    c.in_ok-lit-in-Unused.ensures

pub returns-in-Plain : goal.returns-in-Plain
returns-in-Plain t c =
    let s = c.args.recipe.now in
    subst (λ (x : Laid). Lays s s (Ok c.leaf-leaf.result) x)
    (sym (expansion_by_case c.args.count (c.args.count - 1) (next_place s) c.args.table _ _ Plain (omega arith) c.cofactor-high.ensures c.cofactor-low.ensures (sym c.in-Plain.is ∙ c.decide-case.ensures)))
    (lays_given s _ c.leaf-leaf.result c.leaf-leaf.ensures c.requires.short
    (let p : place c.leaf-leaf.result ≡ c.args.count - 1 + 1 = ap place c.leaf-leaf.ensures ∙ place_plain (c.args.count - 1 + 1) in omega arith))

pub returns-in-Complement : goal.returns-in-Complement
returns-in-Complement t c =
    let s = c.args.recipe.now in
    subst (λ (x : Laid). Lays s s (Ok c.complement.result) x)
    (sym (expansion_by_case c.args.count (c.args.count - 1) (next_place s) c.args.table _ _ Complement (omega arith) c.cofactor-high.ensures c.cofactor-low.ensures (sym c.in-Complement.is ∙ c.decide-case.ensures)))
    (lays_given s _ c.complement.result (c.complement.ensures.value ∙ ap other c.leaf-leaf.ensures ∙ other_plain (c.args.count - 1 + 1)) c.requires.short
    (let p : place c.complement.result ≡ c.args.count - 1 + 1 = c.complement.ensures.place ∙ ap place c.leaf-leaf.ensures ∙ place_plain (c.args.count - 1 + 1) in omega arith))

pub returns-in_err-if_true-in-Neither : goal.returns-in_err-if_true-in-Neither
returns-in_err-if_true-in-Neither t c =
    let s = c.args.recipe.now in
    subst (λ (x : Laid). Lays s c.lay-in-Neither.new.recipe c.from_residual-in_err-if_true-in-Neither.result x)
    (sym (expansion_by_case c.args.count (c.args.count - 1) (next_place s) c.args.table _ _ Neither (omega arith) c.cofactor-high.ensures c.cofactor-low.ensures (sym c.in-Neither.is ∙ c.decide-case.ensures)))
    (lays_refused s _ _ _ _ _ c.from_residual-in_err-if_true-in-Neither.ensures.0 c.in_err-if_true-in-Neither.ensures)

pub returns-in_err-if_false-in-Neither : goal.returns-in_err-if_false-in-Neither
returns-in_err-if_false-in-Neither t c =
    let s = c.args.recipe.now in
    let n = c.args.count - 1 in
    subst (λ (x : Laid). Lays s c.lay-in-Neither-2.new.recipe c.from_residual-in_err-if_false-in-Neither.result x)
    (sym (expansion_by_case c.args.count n (next_place s) c.args.table _ _ Neither (omega arith) c.cofactor-high.ensures c.cofactor-low.ensures (sym c.in-Neither.is ∙ c.decide-case.ensures)))
    (lays_after s c.lay-in-Neither.new.recipe _ c.in_ok-if_true-in-Neither.if_true _ (expansion n (next_place s) c.cofactor-high.result)
    (λ p a. let y : Laid = expansion n p c.cofactor-low.result in after y (choice_at (p + length y.steps) (plain (n + 1)) a y.root))
    c.in_ok-if_true-in-Neither.ensures
    (lays_refused _ _ _ _ _ _ c.from_residual-in_err-if_false-in-Neither.ensures.0 c.in_err-if_false-in-Neither.ensures))

pub returns-in_err-lit-in-Neither : goal.returns-in_err-lit-in-Neither
returns-in_err-lit-in-Neither t c =
    let s = c.args.recipe.now in
    let n = c.args.count - 1 in
    let k = c.in_err-lit-in-Neither.ensures in
    subst (λ (x : Laid). Lays s c.choice.new.recipe c.from_residual-in_err-lit-in-Neither.result x)
    (sym (expansion_by_case c.args.count n (next_place s) c.args.table _ _ Neither (omega arith) c.cofactor-high.ensures c.cofactor-low.ensures (sym c.in-Neither.is ∙ c.decide-case.ensures)))
    (lays_after s c.lay-in-Neither.new.recipe _ c.in_ok-if_true-in-Neither.if_true _ (expansion n (next_place s) c.cofactor-high.result)
    (λ p a. let y : Laid = expansion n p c.cofactor-low.result in after y (choice_at (p + length y.steps) (plain (n + 1)) a y.root))
    c.in_ok-if_true-in-Neither.ensures
    (lays_after _ c.lay-in-Neither-2.new.recipe _ c.in_ok-if_false-in-Neither.if_false _ (expansion n (next_place c.lay-in-Neither.new.recipe) c.cofactor-low.result)
    (λ p b. choice_at p (plain (n + 1)) c.in_ok-if_true-in-Neither.if_true b)
    c.in_ok-if_false-in-Neither.ensures
    (refused_as _ _ c.in_err-lit-in-Neither.field-0.0 _ _ c.from_residual-in_err-lit-in-Neither.ensures.0
    (record { fits = k.fits; steps = tt; root = tt; inside = tt }))))

pub returns-in_ok-lit-in-Neither : goal.returns-in_ok-lit-in-Neither
returns-in_ok-lit-in-Neither t c =
    let s = c.args.recipe.now in
    let n = c.args.count - 1 in
    let k = c.in_ok-lit-in-Neither.ensures in
    subst (λ (x : Laid). Lays s c.choice.new.recipe (Ok c.in_ok-lit-in-Neither.lit) x)
    (sym (expansion_by_case c.args.count n (next_place s) c.args.table _ _ Neither (omega arith) c.cofactor-high.ensures c.cofactor-low.ensures (sym c.in-Neither.is ∙ c.decide-case.ensures)))
    (lays_after s c.lay-in-Neither.new.recipe _ c.in_ok-if_true-in-Neither.if_true _ (expansion n (next_place s) c.cofactor-high.result)
    (λ p a. let y : Laid = expansion n p c.cofactor-low.result in after y (choice_at (p + length y.steps) (plain (n + 1)) a y.root))
    c.in_ok-if_true-in-Neither.ensures
    (lays_after _ c.lay-in-Neither-2.new.recipe _ c.in_ok-if_false-in-Neither.if_false _ (expansion n (next_place c.lay-in-Neither.new.recipe) c.cofactor-low.result)
    (λ p b. choice_at p (plain (n + 1)) c.in_ok-if_true-in-Neither.if_true b)
    c.in_ok-if_false-in-Neither.ensures
    (subst (λ (l : Lit). Lays c.lay-in-Neither-2.new.recipe c.choice.new.recipe (Ok c.in_ok-lit-in-Neither.lit) (choice_at (next_place c.lay-in-Neither-2.new.recipe) l c.in_ok-if_true-in-Neither.if_true c.in_ok-if_false-in-Neither.if_false)) c.leaf-leaf.ensures
    (record { fits = k.fits; steps = k.steps; root = k.root; inside = k.inside }))))

pub returns-in_err-other-in_default : goal.returns-in_err-other-in_default
returns-in_err-other-in_default t c =
    let s = c.args.recipe.now in
    let n = c.args.count - 1 in
    let k = c.in_default in
    subst (λ (x : Laid). Lays s c.lay-in_default.new.recipe c.from_residual-in_err-other-in_default.result x)
    (sym (expansion_by_case c.args.count n (next_place s) c.args.table _ _ c.decide-case.result (omega arith) c.cofactor-high.ensures c.cofactor-low.ensures c.decide-case.ensures
    ∙ one_step_case (λ q u. expansion n q u) c.decide-case.result n (next_place s) c.cofactor-high.result c.cofactor-low.result k.not-Unused k.not-Plain k.not-Complement k.not-Neither
    ∙ ap (λ (u : Rows). let rest : Laid = expansion n (next_place s) u in after rest (one_step_at c.decide-case.result (next_place s + length rest.steps) (plain (n + 1)) rest.root)) (sym c.rest.ensures)))
    (lays_refused s _ _ _ _ _ c.from_residual-in_err-other-in_default.ensures.0 c.in_err-other-in_default.ensures)

pub returns-in_err-lit-in_default : goal.returns-in_err-lit-in_default
returns-in_err-lit-in_default t c =
    let s = c.args.recipe.now in
    let n = c.args.count - 1 in
    let k = c.in_default in
    let f = c.in_err-lit-in_default.ensures in
    subst (λ (x : Laid). Lays s c.one_step.new.recipe c.from_residual-in_err-lit-in_default.result x)
    (sym (expansion_by_case c.args.count n (next_place s) c.args.table _ _ c.decide-case.result (omega arith) c.cofactor-high.ensures c.cofactor-low.ensures c.decide-case.ensures
    ∙ one_step_case (λ q u. expansion n q u) c.decide-case.result n (next_place s) c.cofactor-high.result c.cofactor-low.result k.not-Unused k.not-Plain k.not-Complement k.not-Neither
    ∙ ap (λ (u : Rows). let rest : Laid = expansion n (next_place s) u in after rest (one_step_at c.decide-case.result (next_place s + length rest.steps) (plain (n + 1)) rest.root)) (sym c.rest.ensures)))
    (lays_after s c.lay-in_default.new.recipe _ c.in_ok-other-in_default.other _ (expansion n (next_place s) c.rest.result)
    (λ p l. one_step_at c.decide-case.result p (plain (n + 1)) l)
    c.in_ok-other-in_default.ensures
    (refused_as _ _ c.in_err-lit-in_default.field-0.0 _ _ c.from_residual-in_err-lit-in_default.ensures.0
    (one_step_lays _ _ (Err c.in_err-lit-in_default.field-0.0) c.decide-case.result (plain (n + 1)) c.in_ok-other-in_default.other f.fits tt tt tt)))

pub returns-in_ok-lit-in_default : goal.returns-in_ok-lit-in_default
returns-in_ok-lit-in_default t c =
    let s = c.args.recipe.now in
    let n = c.args.count - 1 in
    let k = c.in_default in
    let f = c.in_ok-lit-in_default.ensures in
    subst (λ (x : Laid). Lays s c.one_step.new.recipe (Ok c.in_ok-lit-in_default.lit) x)
    (sym (expansion_by_case c.args.count n (next_place s) c.args.table _ _ c.decide-case.result (omega arith) c.cofactor-high.ensures c.cofactor-low.ensures c.decide-case.ensures
    ∙ one_step_case (λ q u. expansion n q u) c.decide-case.result n (next_place s) c.cofactor-high.result c.cofactor-low.result k.not-Unused k.not-Plain k.not-Complement k.not-Neither
    ∙ ap (λ (u : Rows). let rest : Laid = expansion n (next_place s) u in after rest (one_step_at c.decide-case.result (next_place s + length rest.steps) (plain (n + 1)) rest.root)) (sym c.rest.ensures)))
    (lays_after s c.lay-in_default.new.recipe _ c.in_ok-other-in_default.other _ (expansion n (next_place s) c.rest.result)
    (λ p l. one_step_at c.decide-case.result p (plain (n + 1)) l)
    c.in_ok-other-in_default.ensures
    (subst (λ (l : Lit). Lays c.lay-in_default.new.recipe c.one_step.new.recipe (Ok c.in_ok-lit-in_default.lit) (one_step_at c.decide-case.result (next_place c.lay-in_default.new.recipe) l c.in_ok-other-in_default.other)) c.leaf-leaf.ensures
    (one_step_lays _ _ (Ok c.in_ok-lit-in_default.lit) c.decide-case.result c.leaf-leaf.result c.in_ok-other-in_default.other f.fits f.steps f.root f.inside)))
