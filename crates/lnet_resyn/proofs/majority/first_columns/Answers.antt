use Rattle.std.proofs.Common.{◌≡◌, ℕ, ◌+◌, ◌++◌, ◌∷◌, [], arith, ap, sym, ◌∙◌, false, map, List, length}
use Rattle.std.specs.List.{range_with_len}
use Rattle.std.proofs.lemmas.List.FromFn.{map-range_with_len_more}
use Rattle.lnet_tables.specs.Bits.{Rows, constant_rows, variable_rows}
use Rattle.lnet_resyn.specs.Majority.{word_rows, words_rows, first_pool}
use Rattle.lnet_resyn.proofs.Columns.{no-word}
use Rattle.lnet_resyn.proofs.Turns.{longer-pool}
use Rattle.lnet_resyn.proofs.majority.first_columns.Goals as goal

pub loop-i-init : goal.loop-i-init
loop-i-init c = record {
  value = ap (words_rows c.args.vars) (c.push.ensures.items ∙ ap (λ ws. ws ++ 0 ∷ []) c.new-pool.ensures) ∙ ap (λ t. t ∷ []) (no-word c.args.vars);
  count = c.push.ensures.len ∙ ap (λ (ws : List ℕ). length ws + 1) c.new-pool.ensures;
}

pub loop-i-preserved : goal.loop-i-preserved
loop-i-preserved c = record {
  value =
      longer-pool c.args.vars c.loop-i.pool.items _ _ (variable_rows c.args.vars c.loop-i.i) c.push-in-loop-i.ensures.items
      (ap (λ n. word_rows n c.word_of.result) (sym (ap (λ (t : Rows). t.vars) c.variable.ensures)) ∙ c.word_of.ensures ∙ c.variable.ensures)
      ∙ ap (λ ts. ts ++ variable_rows c.args.vars c.loop-i.i ∷ []) c.loop-i.invariant.value
      ∙ ap (λ ts. constant_rows c.args.vars false ∷ ts) (sym (map-range_with_len_more (variable_rows c.args.vars) 0 c.loop-i.i c.loop-i.i (omega arith)));
  count = c.push-in-loop-i.ensures.len ∙ ap (λ n. n + 1) c.loop-i.invariant.count;
}

pub returns-clause-value : goal.returns-clause-value
unfolding first_pool
returns-clause-value c =
    let e : c.loop-i.i ≡ c.args.vars = omega arith in
    c.loop-i.invariant.value ∙ ap (λ n. constant_rows c.args.vars false ∷ map (variable_rows c.args.vars) (range_with_len 0 n)) e
