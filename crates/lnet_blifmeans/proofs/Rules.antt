-- The circuit of covers in order keeps the rules of circuits.
use Rattle.std.proofs.Common.{◌≡◌, ◌≢◌, ℕ, ◌+◌, ◌<◌, ◌≤◌, true, List, [], ◌∷◌, ◌++◌, length, map, refl, sym, ap, subst, ◌∙◌, inr, arith}
use Rattle.std.specs.Prelude.{◌⊎◌, Contains, flat_map}
use Rattle.std.specs.List.{AllByRecursion}
use Rattle.std.proofs.lemmas.List.{map-append, length-map}
use Rattle.std.proofs.lemmas.List.Elements.{All-from_recursion, recursion_from_All, All-contains, All-contains_itself}
use Rattle.lnet_edge.specs.declared.circuit.WireRef.{WireRef}
use Rattle.lnet_edge.specs.Circuits.{EquationValue}
use Rattle.lnet_edge.specs.Wires.{input_wires, output_wires, targets, operand_wires, driven_wires, used_wires, IsUndriven, IsTwice, IsCyclic, HasArity, IsCircuit}
use Rattle.lnet_wires.specs.Naming.{is_seen, wire_of}
use Rattle.lnet_wires.proofs.WireLaws.{apart}
use Rattle.lnet_blif.specs.Numbering.{use_of, input_of, output_of}
use Rattle.lnet_benchmeans.proofs.Differing.{Differ, all_both, all_weak, all_first, all_second, differ_mapped, differ_second, differ_apart}
use Rattle.lnet_benchmeans.proofs.Falling.{IsAhead, all_used, never_back}
use Rattle.lnet_benchmeans.proofs.Ordering.{HoldsOf, holds_all, behind}
use Rattle.lnet_benchmeans.proofs.Wires.{above_zero, once_differ}
use Rattle.lnet_bliftext.specs.Written.{CoverLines}
use Rattle.lnet_bliftext.proofs.CoverForms.{IsRowOf, FitsRows}
use Rattle.lnet_blifmeans.proofs.Shape.{cover_targets, equation_of, shaped}

-- behind these names, each cover uses names that are driven before it
abbrev pub AreAhead : List (List ℕ) → List CoverLines → Type 0
AreAhead known [] = Unit {0}
AreAhead known (k ∷ ks) = AllByRecursion (λ x. is_seen known x ≡ true) k.operands × AreAhead (k.target ∷ known) ks

-- covers in order between ports: no name is driven twice, each cover uses names driven before it, outputs are driven
pub record IsOrderly (names ins outs : List (List ℕ)) (ks : List CoverLines) : Type 0 where
  pub once : Differ (ins ++ cover_targets ks)
  pub seen : AllByRecursion (λ x. is_seen names x ≡ true) (ins ++ cover_targets ks)
  pub ahead : AreAhead ins ks
  pub shown : AllByRecursion (λ x. is_seen (ins ++ cover_targets ks) x ≡ true) outs
  pub rows : AllByRecursion FitsRows ks

-- ---- the wires that are driven

ports_wired : (names ins : List (List ℕ)) → input_wires (map (input_of names) ins) ≡ map (wire_of names) ins
ports_wired names [] = refl
ports_wired names (x ∷ xs) = ap (λ (ws : List ℕ). wire_of names x ∷ ws) (ports_wired names xs)

covers_wired : (names : List (List ℕ)) (ks : List CoverLines) → targets (map (equation_of names) ks) ≡ map (wire_of names) (cover_targets ks)
covers_wired names [] = refl
covers_wired names (k ∷ ks) = ap (λ (ws : List ℕ). wire_of names k.target ∷ ws) (covers_wired names ks)

driven_are : (names ins outs : List (List ℕ)) (ks : List CoverLines) → driven_wires (shaped names ins outs ks) ≡ 0 ∷ map (wire_of names) (ins ++ cover_targets ks)
driven_are names ins outs ks =
    ap (λ (ws : List ℕ). 0 ∷ (ws ++ targets (map (equation_of names) ks))) (ports_wired names ins)
    ∙ ap (λ (ws : List ℕ). 0 ∷ (map (wire_of names) ins ++ ws)) (covers_wired names ks)
    ∙ ap (λ (ws : List ℕ). 0 ∷ ws) (sym (map-append (wire_of names) ins (cover_targets ks)))

wires_differ : (names ins outs : List (List ℕ)) (ks : List CoverLines) → IsOrderly names ins outs ks → Differ (driven_wires (shaped names ins outs ks))
wires_differ names ins outs ks is =
    let all = ins ++ cover_targets ks in
    subst Differ (sym (driven_are names ins outs ks)) (above_zero names all, differ_mapped (λ x. is_seen names x ≡ true) (wire_of names) all (λ x y p q e. apart names x y p q e) is.seen is.once)

never_twice : (names ins outs : List (List ℕ)) (ks : List CoverLines) → IsOrderly names ins outs ks → ¬ (IsTwice (shaped names ins outs ks))
never_twice names ins outs ks is = once_differ (driven_wires (shaped names ins outs ks)) (wires_differ names ins outs ks is)

-- ---- order

uses_hold : (P : ℕ → Type 0) (names known : List (List ℕ)) → HoldsOf P names known → (xs : List (List ℕ)) → AllByRecursion (λ x. is_seen known x ≡ true) xs → AllByRecursion (λ v. (v ≡ 0) ⊎ P v) (map (λ (r : WireRef). r.wire.0) (map (use_of names) xs))
uses_hold P names known each [] all = tt
uses_hold P names known each (x ∷ xs) all = (inr (each x all.0), uses_hold P names known each xs all.1)

covers_ahead : (K : ℕ → Type 0) (names known : List (List ℕ)) (ks : List CoverLines) → HoldsOf K names known → AreAhead known ks → IsAhead K (map (equation_of names) ks)
covers_ahead K names known [] each ahead = tt
covers_ahead K names known (k ∷ ks) each ahead = (
  uses_hold K names known each k.operands ahead.0,
  covers_ahead (λ v. (v ≡ wire_of names k.target) ⊎ K v) names (k.target ∷ known) ks (behind K names known k.target each) ahead.1,
)

never_cyclic : (names ins outs : List (List ℕ)) (ks : List CoverLines) → IsOrderly names ins outs ks → ¬ (IsCyclic (shaped names ins outs ks))
never_cyclic names ins outs ks is (w, back) =
    let d = shaped names ins outs ks in
    let ps = input_wires d.inputs in
    let ts = targets d.equations in
    let wires = wires_differ names ins outs ks is in
    let K : ℕ → Type 0 = λ v. AllByRecursion (λ t. v ≢ t) ts in
    let held = subst (AllByRecursion K) (ports_wired names ins) (differ_apart ps ts wires.1) in
    never_back K d.equations (differ_second ps ts wires.1) (all_second (λ t. 0 ≢ t) ps ts wires.0) (λ v k. k) (covers_ahead K names ins ks (holds_all K names ins held) is.ahead) w back

-- ---- what is used is driven

shown_hold : (P : ℕ → Type 0) (names known : List (List ℕ)) → HoldsOf P names known → (xs : List (List ℕ)) → AllByRecursion (λ x. is_seen known x ≡ true) xs → AllByRecursion P (output_wires (map (output_of names) xs))
shown_hold P names known each [] all = tt
shown_hold P names known each (x ∷ xs) all = (each x all.0, shown_hold P names known each xs all.1)

never_undriven : (names ins outs : List (List ℕ)) (ks : List CoverLines) → IsOrderly names ins outs ks → ¬ (IsUndriven (shaped names ins outs ks))
never_undriven names ins outs ks is (w, used, undriven) =
    let d = shaped names ins outs ks in
    let ps = input_wires d.inputs in
    let ts = targets d.equations in
    let P : ℕ → Type 0 = Contains (driven_wires d) in
    let own = recursion_from_All P (driven_wires d) (All-contains_itself (driven_wires d)) in
    let wired = subst (AllByRecursion P) (driven_are names ins outs ks) own in
    let inputs_held = subst (AllByRecursion P) (ports_wired names ins) (all_first P ps ts own.1) in
    let shown = shown_hold P names (ins ++ cover_targets ks) (holds_all P names (ins ++ cover_targets ks) wired.1) outs is.shown in
    let ahead = covers_ahead P names ins ks (holds_all P names ins inputs_held) is.ahead in
    let all = all_both P (output_wires d.outputs) (flat_map operand_wires d.equations) shown (all_used P P d.equations own.0 (λ v p. p) (all_second P ps ts own.1) ahead) in
    undriven (All-contains P (used_wires d) w (All-from_recursion P (used_wires d) all) used)

-- ---- all rules

rows_fit : (names : List (List ℕ)) (ks : List CoverLines) → AllByRecursion FitsRows ks → AllByRecursion (λ (e : EquationValue). HasArity e.rule (length e.operands)) (map (equation_of names) ks)
rows_fit names [] all = tt
rows_fit names (k ∷ ks) all = (
  subst (λ (n : ℕ). HasArity (equation_of names k).rule n) (sym (length-map k.operands (use_of names))) (All-from_recursion (λ (row : List ℕ). length row ≡ length k.operands) k.rows (all_weak (IsRowOf (length k.operands)) (λ (row : List ℕ). length row ≡ length k.operands) k.rows (λ row fits. fits.1) all.0)),
  rows_fit names ks all.1,
)

pub keeps_rules : (names ins outs : List (List ℕ)) (ks : List CoverLines) → IsOrderly names ins outs ks → length ins + length ks < 4294967296 → length outs ≤ 100000000 → IsCircuit (shaped names ins outs ks)
keeps_rules names ins outs ks is few few_outputs =
    let m = length-map ins (input_of names) in
    let n = length-map ks (equation_of names) in
    let o = length-map outs (output_of names) in
    record {
      driven = never_undriven names ins outs ks is;
      once = never_twice names ins outs ks is;
      acyclic = never_cyclic names ins outs ks is;
      arities = All-from_recursion (λ (e : EquationValue). HasArity e.rule (length e.operands)) (map (equation_of names) ks) (rows_fit names ks is.rows);
      few = omega arith;
      few_outputs = omega arith;
    }
