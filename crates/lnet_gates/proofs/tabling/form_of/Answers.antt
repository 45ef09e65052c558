use Rattle.std.proofs.Common.{◌≡◌, ◌<◌, ◌^◌, ℕ, Bool, false, not, List, [], ◌∷◌, length, get_or, nat_eq, bit_and, refl, sym, ap, subst, ◌∙◌, rules}
use mathlib.Core.Bool.{beq}
use Rattle.std.proofs.lemmas.Bool.{eqb-true}
use Rattle.lnet_tables.specs.Bits.{is_set}
use Rattle.lnet_gates.specs.declared.signal.Signal.{Signal}
use Rattle.lnet_gates.specs.Gates.{flip}
use Rattle.lnet_gates.specs.Operands.{constant, flipped, read}
use Rattle.lnet_gates.proofs.FormLemmas.{first-bit, none-value, one-value, key-value, key-proper, list-none, list-one, two-more}
use Rattle.lnet_gates.proofs.tabling.form_of.Goals as goal

pub returns-then-is_empty-clause-value : goal.returns-then-is_empty-clause-value
returns-then-is_empty-clause-value c =
    let long : length c.args.wired.operands ≡ 6 = search rules in
    let first : Bool = nat_eq (bit_and c.args.wired.table 1) 1 in
    let none : c.named-fanins.result.items ≡ [] = list-none c.named-fanins.result.items (eqb-true (length c.named-fanins.result.items) 0 (sym c.is_empty.ensures ∙ c.if-is_empty.true)) in
    λ V zero_false. ap (read V) c.constant.ensures
    ∙ none-value c.args.wired c.requires.reduced c.requires.ordered long c.args.phase first (first-bit c.args.wired.table) (sym c.named-fanins.ensures ∙ none) V zero_false

pub returns-then-len-eq1-clause-value : goal.returns-then-len-eq1-clause-value
returns-then-len-eq1-clause-value c =
    let long : length c.args.wired.operands ≡ 6 = search rules in
    let first : Bool = nat_eq (bit_and c.args.wired.table 1) 1 in
    let items : List Signal = c.named-fanins.result.items in
    let one : items ≡ get_or items 0 (constant false) ∷ [] = list-one items (constant false) (sym c.len.ensures.value ∙ c.if-len-eq1.true) in
    λ V zero_false. ap (read V) (c.flipped.ensures ∙ ap (λ (ss : List Signal). flipped (not (beq c.args.phase first)) (get_or ss 0 (constant false))) c.as_slice.ensures.value)
    ∙ one-value c.args.wired c.requires.reduced c.requires.ordered long c.args.phase first (first-bit c.args.wired.table) (get_or items 0 (constant false)) (sym c.named-fanins.ensures ∙ one) V zero_false

pub returns-else-len-eq1-clause-proper : goal.returns-else-len-eq1-clause-proper
returns-else-len-eq1-clause-proper c =
    let long : length c.args.wired.operands ≡ 6 = search rules in
    let first : Bool = nat_eq (bit_and c.args.wired.table 1) 1 in
    let count : c.len-else-len-eq1.result ≡ length c.named-fanins.result.items = c.len-else-len-eq1.ensures.value in
    key-proper c.args.wired c.requires.reduced c.requires.ordered long c.args.phase first (first-bit c.args.wired.table) _ c.key_table.result refl c.named-fanins.ensures
    (subst (λ n. (r : ℕ) → r < 2 ^ n → is_set c.key_table.result r ≡ flip first (is_set c.args.wired.table r)) count c.key_table.ensures.rows)
    (subst (λ n. c.key_table.result < 2 ^ 2 ^ n) count c.key_table.ensures.clear)
    (two-more (length c.named-fanins.result.items) c.len.result (sym c.is_empty.ensures ∙ c.if-is_empty.false) c.len.ensures.value c.if-len-eq1.false)

pub returns-else-len-eq1-clause-value : goal.returns-else-len-eq1-clause-value
returns-else-len-eq1-clause-value c =
    let long : length c.args.wired.operands ≡ 6 = search rules in
    let first : Bool = nat_eq (bit_and c.args.wired.table 1) 1 in
    let count : c.len-else-len-eq1.result ≡ length c.named-fanins.result.items = c.len-else-len-eq1.ensures.value in
    key-value c.args.wired c.requires.reduced c.requires.ordered long c.args.phase first (first-bit c.args.wired.table) _ c.key_table.result refl c.named-fanins.ensures
    (subst (λ n. (r : ℕ) → r < 2 ^ n → is_set c.key_table.result r ≡ flip first (is_set c.args.wired.table r)) count c.key_table.ensures.rows)
