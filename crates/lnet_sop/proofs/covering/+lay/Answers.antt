use Rattle.std.proofs.Common.{◌≡◌, ◌-◌, ◌++◌, ℕ, true, false, List, map, refl, sym, ap, ◌∙◌}
use Rattle.lnet_tables.specs.Bits.{Rows, expand_rows, and_rows}
use Rattle.lnet_tables.specs.Shannon.{is_constant}
use Rattle.lnet_sop.specs.declared.cover.Cube.{Cube}
use Rattle.lnet_sop.specs.Covers.{union_rows}
use Rattle.lnet_sop.specs.Isop.{in_context, minus_rows, or_rows, cubes_of}
use Rattle.lnet_sop.proofs.Cubes.{Turn, turn_of, none_added, none_union, whole_added, whole_union, cubes_each, union_passed, union_step, context_step, cubes_passed, cubes_split, same_union, same_added, some_left, left_is, literal_added, joined_as}
use Rattle.lnet_sop.proofs.covering.+lay.Goals as goal

pub returns-then-is_constant-clause-cubes : goal.returns-then-is_constant-clause-cubes
returns-then-is_constant-clause-cubes t c =
    none_added c.args.lower.vars c.args.lower c.args.upper c.args.context c.args.cubes.now.items (sym c.is_constant.ensures ∙ c.if-is_constant.true)

pub returns-then-is_constant-clause-function : goal.returns-then-is_constant-clause-function
returns-then-is_constant-clause-function t c =
    none_union c.args.lower.vars c.vars-vars.result c.args.lower c.args.upper c.constant.result c.constant.ensures c.vars-vars.ensures.value (sym c.is_constant.ensures ∙ c.if-is_constant.true)

pub returns-then-is_whole-clause-cubes : goal.returns-then-is_whole-clause-cubes
returns-then-is_whole-clause-cubes t c =
    whole_added c.args.lower c.args.upper c.args.context c.args.cubes.now.items c.push.new.self.items c.requires.vars (sym c.is_constant.ensures ∙ c.if-is_constant.false)
    (sym c.is_whole.ensures ∙ c.if-is_whole.true) c.in_ok-push.ensures.items

pub returns-then-is_whole-clause-function : goal.returns-then-is_whole-clause-function
returns-then-is_whole-clause-function t c =
    whole_union c.args.lower c.args.upper c.constant-then-is_whole.result c.vars-vars.result c.constant-then-is_whole.ensures c.vars-vars.ensures.value c.requires.vars
    (sym c.is_constant.ensures ∙ c.if-is_constant.false) (sym c.is_whole.ensures ∙ c.if-is_whole.true)

pub returns-then-are_same-clause-cubes : goal.returns-then-are_same-clause-cubes
returns-then-are_same-clause-cubes t c =
    let n : ℕ = c.args.lower.vars in
    let turn : Turn c.args.lower c.args.upper c.half-low.result c.half-high.result c.half-under.result c.half-over.result =
    turn_of c.args.lower c.args.upper c.half-low.result c.half-high.result c.half-under.result c.half-over.result c.requires.vars
    (sym c.is_constant.ensures ∙ c.if-is_constant.false) (sym c.is_whole.ensures ∙ c.if-is_whole.false)
    c.half-low.ensures.rows c.half-high.ensures.rows c.half-under.ensures.rows c.half-over.ensures.rows in
    same_added c.half-low.result.vars (n - 1) c.half-low.result c.half-low.result c.half-under.result c.half-under.result c.args.context c.args.cubes.now.items c.lay.new.cubes.items
    c.in_ok-table.ensures.cubes c.half-low.ensures.vars refl refl
    ∙ ap (λ (cs : List Cube). c.args.cubes.now.items ++ map (in_context c.args.context) cs)
    (sym (cubes_passed c.args.lower c.args.upper c.half-low.result c.half-high.result c.half-under.result c.half-over.result turn (sym c.are_same.ensures ∙ c.if-are_same.true)))

pub returns-then-are_same-clause-function : goal.returns-then-are_same-clause-function
returns-then-are_same-clause-function t c =
    let n : ℕ = c.args.lower.vars in
    let turn : Turn c.args.lower c.args.upper c.half-low.result c.half-high.result c.half-under.result c.half-over.result =
    turn_of c.args.lower c.args.upper c.half-low.result c.half-high.result c.half-under.result c.half-over.result c.requires.vars
    (sym c.is_constant.ensures ∙ c.if-is_constant.false) (sym c.is_whole.ensures ∙ c.if-is_whole.false)
    c.half-low.ensures.rows c.half-high.ensures.rows c.half-under.ensures.rows c.half-over.ensures.rows in
    c.expand.ensures ∙ ap (λ (k : ℕ). expand_rows c.in_ok-table.table k) c.vars-vars.ensures.value
    ∙ ap (λ (x : Rows). expand_rows x n) (same_union c.half-low.result.vars (n - 1) c.half-low.result c.half-low.result c.half-under.result c.half-under.result c.in_ok-table.table c.in_ok-table.ensures.function c.half-low.ensures.vars refl refl)
    ∙ union_passed n (n - 1) (cubes_of (n - 1) c.half-low.result c.half-under.result) (some_left n (is_constant c.args.upper true) turn.later) (cubes_each (n - 1) c.half-low.result c.half-under.result)
    ∙ ap (λ (cs : List Cube). union_rows n cs)
    (sym (cubes_passed c.args.lower c.args.upper c.half-low.result c.half-high.result c.half-under.result c.half-over.result turn (sym c.are_same.ensures ∙ c.if-are_same.true)))

pub returns-clause-cubes : goal.returns-clause-cubes
returns-clause-cubes t c =
    let n : ℕ = c.args.lower.vars in
    let m : ℕ = n - 1 in
    let low : Rows = c.half-low.result in
    let high : Rows = c.half-high.result in
    let under : Rows = c.half-under.result in
    let over : Rows = c.half-over.result in
    let turn : Turn c.args.lower c.args.upper c.half-low.result c.half-high.result c.half-under.result c.half-over.result =
    turn_of c.args.lower c.args.upper c.half-low.result c.half-high.result c.half-under.result c.half-over.result c.requires.vars
    (sym c.is_constant.ensures ∙ c.if-is_constant.false) (sym c.is_whole.ensures ∙ c.if-is_whole.false)
    c.half-low.ensures.rows c.half-high.ensures.rows c.half-under.ensures.rows c.half-over.ensures.rows in
    let c0 : List Cube = cubes_of m (minus_rows low over) under in
    let c1 : List Cube = cubes_of m (minus_rows high under) over in
    let v0 : c.minus.result.vars ≡ m = c.minus.ensures.vars ∙ c.half-low.ensures.vars in
    let v1 : c.minus-2.result.vars ≡ m = c.minus-2.ensures.vars ∙ c.half-high.ensures.vars in
    let f0 : c.in_ok-if_false.if_false ≡ union_rows m c0 =
    same_union c.minus.result.vars m c.minus.result (minus_rows low over) under under c.in_ok-if_false.if_false c.in_ok-if_false.ensures.function v0 c.minus.ensures.rows refl in
    let f1 : c.in_ok-if_true.if_true ≡ union_rows m c1 =
    same_union c.minus-2.result.vars m c.minus-2.result (minus_rows high under) over over c.in_ok-if_true.if_true c.in_ok-if_true.ensures.function v1 c.minus-2.ensures.rows refl in
    let left : Rows = or_rows (minus_rows low (union_rows m c0)) (minus_rows high (union_rows m c1)) in
    let el : c.or-left.result ≡ left =
    left_is low high c.in_ok-if_false.if_false c.in_ok-if_true.if_true (union_rows m c0) (union_rows m c1) c.minus-3.result c.minus-4.result c.or-left.result
    c.or-left.ensures.rows c.minus-3.ensures.rows c.minus-4.ensures.rows f0 f1 in
    let vd : c.or-left.result.vars ≡ m = c.or-left.ensures.vars ∙ c.minus-3.ensures.vars ∙ c.half-low.ensures.vars in
    context_step m c.args.context c.with_literal.result c.with_literal-2.result c0 c1 (cubes_of m left (and_rows under over))
    c.args.cubes.now.items c.lay-2.new.cubes.items c.lay-3.new.cubes.items c.lay-4.new.cubes.items
    (literal_added c.args.context c.with_literal.result false (c.vars-vars.result - 1) m c.with_literal.ensures (ap (λ (k : ℕ). k - 1) c.vars-vars.ensures.value))
    (literal_added c.args.context c.with_literal-2.result true (c.vars-vars.result - 1) m c.with_literal-2.ensures (ap (λ (k : ℕ). k - 1) c.vars-vars.ensures.value))
    (same_added c.minus.result.vars m c.minus.result (minus_rows low over) under under c.with_literal.result c.args.cubes.now.items c.lay-2.new.cubes.items c.in_ok-if_false.ensures.cubes v0 c.minus.ensures.rows refl)
    (same_added c.minus-2.result.vars m c.minus-2.result (minus_rows high under) over over c.with_literal-2.result c.lay-2.new.cubes.items c.lay-3.new.cubes.items c.in_ok-if_true.ensures.cubes v1 c.minus-2.ensures.rows refl)
    (same_added c.or-left.result.vars m c.or-left.result left c.and.result (and_rows under over) c.args.context c.lay-3.new.cubes.items c.lay-4.new.cubes.items c.in_ok-for_both.ensures.cubes vd el c.and.ensures)
    ∙ ap (λ (cs : List Cube). c.args.cubes.now.items ++ map (in_context c.args.context) cs)
    (sym (cubes_split c.args.lower c.args.upper low high under over turn (sym c.are_same.ensures ∙ c.if-are_same.false)))

pub returns-clause-function : goal.returns-clause-function
returns-clause-function t c =
    let n : ℕ = c.args.lower.vars in
    let m : ℕ = n - 1 in
    let low : Rows = c.half-low.result in
    let high : Rows = c.half-high.result in
    let under : Rows = c.half-under.result in
    let over : Rows = c.half-over.result in
    let turn : Turn c.args.lower c.args.upper c.half-low.result c.half-high.result c.half-under.result c.half-over.result =
    turn_of c.args.lower c.args.upper c.half-low.result c.half-high.result c.half-under.result c.half-over.result c.requires.vars
    (sym c.is_constant.ensures ∙ c.if-is_constant.false) (sym c.is_whole.ensures ∙ c.if-is_whole.false)
    c.half-low.ensures.rows c.half-high.ensures.rows c.half-under.ensures.rows c.half-over.ensures.rows in
    let c0 : List Cube = cubes_of m (minus_rows low over) under in
    let c1 : List Cube = cubes_of m (minus_rows high under) over in
    let f0 : c.in_ok-if_false.if_false ≡ union_rows m c0 =
    same_union c.minus.result.vars m c.minus.result (minus_rows low over) under under c.in_ok-if_false.if_false c.in_ok-if_false.ensures.function (c.minus.ensures.vars ∙ c.half-low.ensures.vars) c.minus.ensures.rows refl in
    let f1 : c.in_ok-if_true.if_true ≡ union_rows m c1 =
    same_union c.minus-2.result.vars m c.minus-2.result (minus_rows high under) over over c.in_ok-if_true.if_true c.in_ok-if_true.ensures.function (c.minus-2.ensures.vars ∙ c.half-high.ensures.vars) c.minus-2.ensures.rows refl in
    let left : Rows = or_rows (minus_rows low (union_rows m c0)) (minus_rows high (union_rows m c1)) in
    let el : c.or-left.result ≡ left =
    left_is low high c.in_ok-if_false.if_false c.in_ok-if_true.if_true (union_rows m c0) (union_rows m c1) c.minus-3.result c.minus-4.result c.or-left.result
    c.or-left.ensures.rows c.minus-3.ensures.rows c.minus-4.ensures.rows f0 f1 in
    let cd : List Cube = cubes_of m left (and_rows under over) in
    let fd : c.in_ok-for_both.for_both ≡ union_rows m cd =
    same_union c.or-left.result.vars m c.or-left.result left c.and.result (and_rows under over) c.in_ok-for_both.for_both c.in_ok-for_both.ensures.function (c.or-left.ensures.vars ∙ c.minus-3.ensures.vars ∙ c.half-low.ensures.vars) el c.and.ensures in
    joined_as c.in_ok-if_false.if_false c.in_ok-if_true.if_true c.in_ok-for_both.for_both (union_rows m c0) (union_rows m c1) (union_rows m cd) c.or.result c.or-2.result c.joined.result
    c.joined.ensures c.or.ensures.rows c.or-2.ensures.rows f0 f1 fd
    ∙ union_step n m c0 c1 cd (some_left n (is_constant c.args.upper true) turn.later) (cubes_each m (minus_rows low over) under) (cubes_each m (minus_rows high under) over) (cubes_each m left (and_rows under over))
    ∙ ap (λ (cs : List Cube). union_rows n cs)
    (sym (cubes_split c.args.lower c.args.upper low high under over turn (sym c.are_same.ensures ∙ c.if-are_same.false)))
