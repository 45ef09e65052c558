-- The columns at the beginning, and the literals over them.
use Rattle.std.proofs.Common.{◌≡◌, ℕ, suc, ◌+◌, ◌-◌, ◌^◌, ◌<◌, ◌≤◌, true, false, cond, List, get_or, None, Some, refl, sym, ap, ◌∙◌, arith, pow_mono, ◌==◌}
use Rattle.std.specs.List.{range_with_len}
use Rattle.std.proofs.lemmas.List.FromFn.{get_or-map-range_with_len}
use Rattle.std.proofs.lemmas.Nat.Bits.{bit_at-zero}
use Rattle.lnet_tables.specs.Bits.{Rows, by_rows, is_set, constant_rows, variable_rows, equal_rows}
use Rattle.lnet_tables.specs.Words.{word_bit}
use Rattle.lnet_tables.proofs.Ops.{same_rows}
use Rattle.lnet_tables.proofs.WordRows.{first_row}
use Rattle.lnet_resyn.specs.Majority.{word_rows, first_pool, column, literal_rows, literal_among}

pub no-word : (n : ℕ) → word_rows n 0 ≡ constant_rows n false
unfolding is_set
no-word n = same_rows n _ _ (λ r h. ap (λ b. b == 1) (bit_at-zero r))

pub first-word : (n : ℕ) (t : Rows) (ws : List ℕ) → n ≤ 4 → t.vars ≡ n → t ≡ by_rows t.vars (word_bit ws) → word_rows t.vars (get_or ws 0 0) ≡ t
first-word n t ws few e is = same_rows t.vars _ _ (λ r h. let k : 2 ^ n ≤ 2 ^ 4 = pow_mono few in let p = ap (λ z. 2 ^ z) e in sym (first_row ws r (omega arith))) ∙ sym is

pub column-none : (n : ℕ) → column n (first_pool n) 0 ≡ constant_rows n false
unfolding first_pool
column-none n = refl

pub column-some : (n p i : ℕ) → p ≡ suc i → i < n → column n (first_pool n) p ≡ variable_rows n i
unfolding first_pool
column-some n p i e h = ap (column n (first_pool n)) e ∙ get_or-map-range_with_len (variable_rows n) 0 n i i (constant_rows n false) h (omega arith)

-- one literal passed over
pub among-next : (f : Rows) (pool : List Rows) (l total : ℕ) → l < total → equal_rows (literal_rows f.vars pool l) f ≡ false → literal_among f pool (range_with_len l (total - l)) ≡ literal_among f pool (range_with_len (l + 1) (total - (l + 1)))
unfolding literal_among
among-next f pool l total h not_it =
    let e : total - l ≡ suc (total - (l + 1)) = omega arith in
    ap (λ k. literal_among f pool (range_with_len l k)) e
    ∙ ap (λ b. cond b (Some (record { 0 = l })) (literal_among f pool (range_with_len (l + 1) (total - (l + 1))))) not_it

-- the literal is the function
pub among-found : (f : Rows) (pool : List Rows) (l total : ℕ) → l < total → equal_rows (literal_rows f.vars pool l) f ≡ true → literal_among f pool (range_with_len l (total - l)) ≡ Some (record { 0 = l })
unfolding literal_among
among-found f pool l total h it =
    let e : total - l ≡ suc (total - (l + 1)) = omega arith in
    ap (λ k. literal_among f pool (range_with_len l k)) e
    ∙ ap (λ b. cond b (Some (record { 0 = l })) (literal_among f pool (range_with_len (l + 1) (total - (l + 1))))) it

-- no literal is left
pub among-none : (f : Rows) (pool : List Rows) (l total : ℕ) → total ≤ l → literal_among f pool (range_with_len l (total - l)) ≡ None
unfolding literal_among
among-none f pool l total h = let e : total - l ≡ 0 = omega arith in ap (λ k. literal_among f pool (range_with_len l k)) e
