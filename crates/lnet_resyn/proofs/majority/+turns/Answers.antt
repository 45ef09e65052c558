use Rattle.std.proofs.Common.{arith, ap, sym, ◌∙◌, ◌++◌, ◌∷◌, []}
use Rattle.std.proofs.lemmas.List.{length-map}
use Rattle.lnet_tables.specs.Bits.{Rows}
use Rattle.lnet_tables.specs.declared.step.Step.{Step}
use Rattle.lnet_resyn.specs.Majority.{word_rows, words_rows, candidate_rows, score, pool_reach, best_candidate}
use Rattle.lnet_resyn.proofs.Turns.{turned-none, turned-stuck, turned-ended, turned-on, leb_yes, leb_no, eqb_yes, eqb_no, longer-pool}
use Rattle.lnet_resyn.proofs.majority.+turns.Goals as goal

pub returns-then-left-eq0 : goal.returns-then-left-eq0
returns-then-left-eq0 t c = turned-none c.args.recipe.now c.args.left _ _ c.if-left-eq0.true

pub returns-then-best-greatest_reach : goal.returns-then-best-greatest_reach
returns-then-best-greatest_reach t c =
    let f : Rows = word_rows c.args.vars c.args.target in
    let best = c.best_candidate-best.ensures.candidate ∙ ap (λ ws. best_candidate f (words_rows c.args.vars ws)) c.as_slice.ensures.value in
    let scored = c.best_candidate-best.ensures.scored ∙ ap (λ ws. score f (words_rows c.args.vars ws) c.best_candidate-best.result.candidate) c.as_slice.ensures.value in
    let reached = c.greatest_reach.ensures ∙ ap (λ ws. pool_reach f (words_rows c.args.vars ws)) c.as_slice-2.ensures.value in
    let some = c.if-left-eq0.false in
    turned-stuck c.args.recipe.now c.args.left f (words_rows c.args.vars c.args.pool.now.items) c.best_candidate-best.result.candidate c.best_candidate-best.result.agreements c.greatest_reach.result (omega arith) best scored reached (leb_yes _ _ c.if-best-greatest_reach.true)

pub returns-then-best-row_count : goal.returns-then-best-row_count
returns-then-best-row_count t c =
    let f : Rows = word_rows c.args.vars c.args.target in
    let best = c.best_candidate-best.ensures.candidate ∙ ap (λ ws. best_candidate f (words_rows c.args.vars ws)) c.as_slice.ensures.value in
    let scored = c.best_candidate-best.ensures.scored ∙ ap (λ ws. score f (words_rows c.args.vars ws) c.best_candidate-best.result.candidate) c.as_slice.ensures.value in
    let reached = c.greatest_reach.ensures ∙ ap (λ ws. pool_reach f (words_rows c.args.vars ws)) c.as_slice-2.ensures.value in
    let some = c.if-left-eq0.false in
    let gains = c.if-best-greatest_reach.false in
    turned-ended c.args.recipe.now _ c.args.left f (words_rows c.args.vars c.args.pool.now.items) c.best_candidate-best.result.candidate c.best_candidate-best.result.agreements c.greatest_reach.result _ (omega arith) best scored reached
    (leb_no _ _ (omega arith)) (eqb_yes _ _ (c.if-best-row_count.true ∙ c.row_count.ensures)) (c.in-Ok.ensures.ok ∙ ap (λ (s : Step). record { leaves = c.args.recipe.now.leaves; steps = c.args.recipe.now.steps ++ s ∷ []; root = c.args.recipe.now.root }) c.step_of.ensures) c.in-Ok.ensures.lit (c.requires.places ∙ sym (length-map c.args.pool.now.items (word_rows c.args.vars)))

pub returns : goal.returns
returns t c =
    let f : Rows = word_rows c.args.vars c.args.target in
    let best = c.best_candidate-best.ensures.candidate ∙ ap (λ ws. best_candidate f (words_rows c.args.vars ws)) c.as_slice.ensures.value in
    let scored = c.best_candidate-best.ensures.scored ∙ ap (λ ws. score f (words_rows c.args.vars ws) c.best_candidate-best.result.candidate) c.as_slice.ensures.value in
    let reached = c.greatest_reach.ensures ∙ ap (λ ws. pool_reach f (words_rows c.args.vars ws)) c.as_slice-2.ensures.value in
    let some = c.if-left-eq0.false in
    let gains = c.if-best-greatest_reach.false in
    turned-on c.args.recipe.now _ _ _ c.args.left f (words_rows c.args.vars c.args.pool.now.items) _ c.best_candidate-best.result.candidate c.best_candidate-best.result.agreements c.greatest_reach.result (omega arith) best scored reached
    (leb_no _ _ (omega arith)) (eqb_no _ _ (λ e. c.if-best-row_count.false (e ∙ sym c.row_count.ensures))) (c.in-Ok.ensures.ok ∙ ap (λ (s : Step). record { leaves = c.args.recipe.now.leaves; steps = c.args.recipe.now.steps ++ s ∷ []; root = c.args.recipe.now.root }) c.step_of.ensures)
    (longer-pool c.args.vars c.args.pool.now.items _ _ _ c.push-2.ensures.items (c.candidate_word.ensures c.args.vars c.requires.few ∙ ap (λ ws. candidate_rows c.args.vars (words_rows c.args.vars ws) c.best_candidate-best.result.candidate) c.as_slice-3.ensures.value))
    c.turns.ensures
