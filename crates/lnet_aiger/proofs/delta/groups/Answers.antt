use Rattle.std.proofs.Common.{◌≡◌, ℕ, ◌+◌, ◌-◌, ◌^◌, ◌<◌, ◌≤◌, suc, true, false, eqb, sym, ◌∙◌, ap, arith, List, [], length, Result}
use Rattle.std.proofs.lemmas.Bool.{eqb-true}
use Rattle.std.proofs.lemmas.List.{nil_from_length}
use Rattle.lnet_edge.specs.declared.fault.Fault.{Fault}
use Rattle.lnet_aiger.specs.Deltas.{groups_at}
use Rattle.lnet_aiger.proofs.DeltaLemmas.{with_low, groups_more, groups_last, groups_missing, groups_too_many, scale_small, scale_next, group_small, product_small}
use Rattle.lnet_aiger.proofs.delta.groups.Goals as goal

small_scale : (scale i : ℕ) → scale ≡ 128 ^ i → i < 5 → scale ≤ 268435456
small_scale scale i e lt = omega (arith, scale_small i lt)

at_suc : (value scale i : ℕ) (bytes : List ℕ) (total : Result (ℕ × List ℕ) Fault) → i < 5 → with_low value scale (groups_at (5 - i) bytes) ≡ total → with_low value scale (groups_at (suc (5 - (i + 1))) bytes) ≡ total
at_suc value scale i bytes total lt e = let k : suc (5 - (i + 1)) ≡ 5 - i = omega arith in rw k e

at_zero : (value scale i : ℕ) (bytes : List ℕ) (total : Result (ℕ × List ℕ) Fault) → 5 ≤ i → with_low value scale (groups_at (5 - i) bytes) ≡ total → with_low value scale (groups_at 0 bytes) ≡ total
at_zero value scale i bytes total le e = let k : 5 - i ≡ 0 = omega arith in rw k at e

not_nil : (bytes : List ℕ) → eqb (length bytes) 0 ≡ false → bytes ≡ [] → ⊥
not_nil bytes e is = let z : eqb (length bytes) 0 ≡ true = ap (λ (bs : List ℕ). eqb (length bs) 0) is in cc

pub returns-in_default-clause-number : goal.returns-in_default-clause-number
returns-in_default-clause-number c = groups_missing c.loop-group.value c.loop-group.scale _ c.loop-group.rest.now _ (nil_from_length _ c.in_default.ensures.cases) c.loop-group.invariant.read

pub overflow_mul-result : goal.overflow_mul-result
overflow_mul-result c =
    let s = small_scale c.loop-group.scale c.loop-group.group c.loop-group.invariant.scale c.loop-group-test.true in
    let p = product_small c.from.result c.loop-group.scale (omega arith) s in omega arith

pub overflow_add-result : goal.overflow_add-result
overflow_add-result c =
    let s = small_scale c.loop-group.scale c.loop-group.group c.loop-group.invariant.scale c.loop-group-test.true in
    let p = product_small c.from.result c.loop-group.scale (omega arith) s in omega arith

pub returns-then-byte-lt128-clause-number : goal.returns-then-byte-lt128-clause-number
returns-then-byte-lt128-clause-number c =
    rw c.from.ensures (groups_last c.loop-group.value c.loop-group.scale (5 - (c.loop-group.group + 1)) c.in-Some.byte.now c.loop-group.rest.now c.in-Some.after.now _ c.in-Some.ensures.cases.0 c.if-byte-lt128.true (at_suc c.loop-group.value c.loop-group.scale c.loop-group.group c.loop-group.rest.now _ c.loop-group-test.true c.loop-group.invariant.read))

pub overflow_mul-value : goal.overflow_mul-value
overflow_mul-value c =
    let s = small_scale c.loop-group.scale c.loop-group.group c.loop-group.invariant.scale c.loop-group-test.true in
    let p = product_small c.from-in-loop-group.result c.loop-group.scale (omega arith) s in omega arith

pub overflow_add-value : goal.overflow_add-value
overflow_add-value c =
    let s = small_scale c.loop-group.scale c.loop-group.group c.loop-group.invariant.scale c.loop-group-test.true in
    let p = product_small c.from-in-loop-group.result c.loop-group.scale (omega arith) s in omega arith

pub overflow_mul-scale : goal.overflow_mul-scale
overflow_mul-scale c = let s = small_scale c.loop-group.scale c.loop-group.group c.loop-group.invariant.scale c.loop-group-test.true in omega arith

pub loop-group-preserved : goal.loop-group-preserved
loop-group-preserved c = record {
  read = rw c.from-in-loop-group.ensures (groups_more c.loop-group.value c.loop-group.scale (5 - (c.loop-group.group + 1)) c.in-Some.byte.now c.loop-group.rest.now c.in-Some.after.now _ c.in-Some.ensures.cases.0 c.if-byte-lt128.false (at_suc c.loop-group.value c.loop-group.scale c.loop-group.group c.loop-group.rest.now _ c.loop-group-test.true c.loop-group.invariant.read));
  scale = scale_next c.loop-group.scale c.loop-group.group c.loop-group.invariant.scale;
  shorter = omega (arith, c.in-Some.ensures.cases.1);
  low = group_small c.loop-group.value c.loop-group.scale c.from-in-loop-group.result c.loop-group.invariant.low (omega arith);
}

pub returns-then-is_empty-clause-number : goal.returns-then-is_empty-clause-number
returns-then-is_empty-clause-number c = groups_missing c.loop-group.value c.loop-group.scale _ c.loop-group.rest.now _ (nil_from_length _ (eqb-true _ _ (sym c.is_empty.ensures ∙ c.if-is_empty.true))) c.loop-group.invariant.read

pub returns-else-is_empty-clause-number : goal.returns-else-is_empty-clause-number
returns-else-is_empty-clause-number c = groups_too_many c.loop-group.value c.loop-group.scale c.loop-group.rest.now _ (not_nil c.loop-group.rest.now (sym c.is_empty.ensures ∙ c.if-is_empty.false)) (at_zero c.loop-group.value c.loop-group.scale c.loop-group.group c.loop-group.rest.now _ c.loop-group-test.false c.loop-group.invariant.read)
