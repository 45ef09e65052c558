-- Written differences are binary gates.
use Rattle.std.proofs.Common.{◌≡◌, ℕ, zero, suc, ◌+◌, ◌-◌, ◌*◌, ◌/◌, ◌%◌, ◌^◌, ◌<◌, ◌≤◌, List, [], ◌∷◌, ◌++◌, length, map, flat_map, max, min, get_or, refl, sym, ap, subst, ◌∙◌, ⊎_elim, append_assoc, arith, lit<}
use Rattle.std.proofs.Math.Nat.{pow-suc}
use Rattle.std.proofs.lemmas.Bool.{cases_lt}
use Rattle.std.proofs.lemmas.List.Concat.{flat_map-cons}
use Rattle.lnet_edge.specs.declared.circuit.WireRef.{WireRef}
use Rattle.lnet_edge.specs.declared.circuit.Rule.{Rule}
use Rattle.lnet_edge.specs.Circuits.{EquationValue}
use Rattle.lnet_aiger.specs.declared.body.Gate.{Gate}
use Rattle.lnet_aiger.specs.LineRules.{equation_of}
use Rattle.lnet_aiger.specs.Texts.{literal_of, gate_of, groups_text, delta_text}
use Rattle.lnet_aiger.specs.Grammar.{IsGroups, IsDelta, IsGate, AreGates}
use Rattle.lnet_aiger.proofs.Gates.{more_groups}
use Rattle.lnet_aiger.proofs.WritingSteps.{groups_text-last, groups_text-more}
use Rattle.lnet_aiger.proofs.NumberedOf.{GateOk, literal_low}

-- ---- differences

abbrev GroupsOk : ℕ → ℕ → Type 0
GroupsOk k n = IsGroups (groups_text k n) n × (length (groups_text k n) ≤ k)

groups_last : (k n : ℕ) → n < 128 → GroupsOk (suc k) n
groups_last k n small = subst (λ (t : List ℕ). IsGroups t n × (length t ≤ suc k)) (sym (groups_text-last k n small)) ((small, refl), omega arith)

groups_more : (k n : ℕ) → 128 ≤ n → GroupsOk k (n / 128) → GroupsOk (suc k) n
groups_more k n big ok =
    let whole : ((128 + n % 128) - 128) + 128 * (n / 128) ≡ n = omega arith in
    let g = more_groups (128 + n % 128) (n / 128) (groups_text k (n / 128)) (omega arith) ok.0 in
    subst (λ (t : List ℕ). IsGroups t n × (length t ≤ suc k)) (sym (groups_text-more k n big)) (subst (λ (m : ℕ). IsGroups ((128 + n % 128) ∷ groups_text k (n / 128)) m) whole g, omega (arith, ok.1))

groups_ok : (k n : ℕ) → n < 128 ^ (suc k) → GroupsOk (suc k) n
groups_ok zero n small = groups_last zero n small
groups_ok (suc k) n small =
    let p = pow-suc 128 (suc k) in
    ⊎_elim (λ lt. groups_last (suc k) n lt) (λ ge. groups_more (suc k) n ge (groups_ok k (n / 128) (omega arith))) (cases_lt n 128)

delta_is : (n : ℕ) (rest : List ℕ) → n ≤ 2147483647 → IsDelta (groups_text 5 n ++ rest) n rest
delta_is n rest small =
    let limit : 2147483647 < 128 ^ 5 = lit< tt in
    let ok = groups_ok 4 n (omega arith) in
    record { text = groups_text 5 n; front = refl; groups = ok.0; short = ok.1; small = small }

-- ---- gates

-- the literals of a gate, in order
pub record InOrder (t : ℕ) (g : Gate) : Type 0 where
  pub target : g.target ≡ 2 * t
  pub first : g.first < 2 * t
  pub second : g.second ≤ g.first

in_order_by : (variable : ℕ → ℕ) (t target : ℕ) (rule : Rule) (os : List WireRef) (a b : WireRef) → variable target ≡ t → os ≡ a ∷ b ∷ [] → variable a.wire.0 < t → variable b.wire.0 < t → InOrder t (gate_of variable (record { target = target; rule = rule; operands = os }))
in_order_by variable t target rule os a b is two low lower =
    let la = literal_low variable a t low in
    let lb = literal_low variable b t lower in
    let made : ℕ → Gate = λ n. record { target = n; first = max (literal_of variable a) (literal_of variable b); second = min (literal_of variable a) (literal_of variable b) } in
    let at : InOrder t (made (2 * variable target)) = record { target = ap (λ (n : ℕ). 2 * n) is; first = omega arith; second = omega arith } in
    subst (λ (rs : List WireRef). InOrder t (gate_of variable (record { target = target; rule = rule; operands = rs }))) (sym two) at

pub gate_in_order : (variable : ℕ → ℕ) (t : ℕ) (e : EquationValue) → GateOk variable t e → InOrder t (gate_of variable e)
gate_in_order variable t e ok = in_order_by variable t e.target e.rule e.operands ok.first ok.second ok.target ok.operands ok.first_low ok.second_low

gate_is : (t : ℕ) (g : Gate) (rest : List ℕ) → 2 * t ≤ 2147483647 → InOrder t g → IsGate (delta_text g ++ rest) g rest
gate_is t g rest small ok =
    let middle : List ℕ = groups_text 5 (g.first - g.second) ++ rest in
    let t0 = ok.target in
    let t1 = ok.first in
    let t2 = ok.second in
    record {
      first = g.target - g.first;
      second = g.first - g.second;
      middle = middle;
      first_delta = subst (λ (bytes : List ℕ). IsDelta bytes (g.target - g.first) middle) (sym (append_assoc (groups_text 5 (g.target - g.first)) (groups_text 5 (g.first - g.second)) rest)) (delta_is (g.target - g.first) middle (omega arith));
      second_delta = delta_is (g.first - g.second) rest (omega arith);
      below = omega arith;
      first_is = omega arith;
      second_is = omega arith;
    }

pub gates_text : (variable : ℕ → ℕ) (t : ℕ) (es : List EquationValue) (rest : List ℕ) → 2 * (t + length es) ≤ 2147483647 → ((k : ℕ) (d : EquationValue) → k < length es → GateOk variable (t + k) (get_or es k d)) → AreGates (2 * t) (flat_map (λ e. delta_text (gate_of variable e)) es ++ rest) (map (λ e. equation_of (gate_of variable e)) es) rest
gates_text variable t [] rest small each = refl
gates_text variable t (e ∷ es) rest small each =
    let f : EquationValue → List ℕ = λ e. delta_text (gate_of variable e) in
    let g : Gate = gate_of variable e in
    let first : t + 0 ≡ t = omega arith in
    let ok = gate_in_order variable t e (subst (λ (k : ℕ). GateOk variable k e) first (each 0 e (omega arith))) in
    let behind : List ℕ = flat_map f es ++ rest in
    let whole : flat_map f (e ∷ es) ++ rest ≡ delta_text g ++ behind = ap (λ (u : List ℕ). u ++ rest) (flat_map-cons f e es) ∙ append_assoc (delta_text g) (flat_map f es) rest in
    let others = gates_text variable (t + 1) es rest (omega arith) (λ k d low. let next : t + suc k ≡ (t + 1) + k = omega arith in subst (λ (j : ℕ). GateOk variable j (get_or es k d)) next (each (suc k) d (omega arith))) in
    let up : 2 * (t + 1) ≡ 2 * t + 2 = omega arith in
    subst (λ (bytes : List ℕ). AreGates (2 * t) bytes (equation_of g ∷ map (λ e. equation_of (gate_of variable e)) es) rest) (sym whole)
    (g, behind, ok.target, gate_is t g behind (omega arith) ok, refl, subst (λ (k : ℕ). AreGates k behind (map (λ e. equation_of (gate_of variable e)) es) rest) up others)
