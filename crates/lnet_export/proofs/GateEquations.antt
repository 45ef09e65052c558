-- The equations of a network's gates: which they are, and what they drive.
use Rattle.std.proofs.Common.{◌≡◌, ℕ, suc, ◌+◌, ◌<◌, List, [], ◌∷◌, length, Contains, filter_map, option_map, Option, None, Some, refl, sym, ap, subst, ◌∙◌, inl, inr, arith}
use Rattle.std.specs.List.{AllByRecursion, cons_option}
use Rattle.std.proofs.lemmas.List.Elements.{All-from_recursion, All-contains}
use Rattle.lnet_gates.specs.Gates.{GateValue}
use Rattle.lnet_model.specs.Networks.{NetworkValue, Entry, Constant, Input, IsGate, entry_at, gate_at, gate_in}
use Rattle.lnet_model.specs.Along.{In}
use Rattle.lnet_model.specs.Changes.{GateAt, IsGateAt}
use Rattle.lnet_edge.specs.Circuits.{EquationValue}
use Rattle.lnet_edge.specs.Wires.{targets}
use Rattle.lnet_export.specs.Exported.{equation_in, equation_at, gates_in_order, equations_in}
use Rattle.lnet_export.proofs.Orders.{order-gates, order-has}

-- the equation is that of the gate at its target
pub record IsEquationOf (N : NetworkValue) (e : EquationValue) : Type 0 where
  pub gate : GateValue
  pub at : GateAt N e.target gate
  pub same : e ≡ equation_in N e.target gate

pub equation-some : (N : NetworkValue) (n : ℕ) (g : GateValue) → GateAt N n g → equation_at N n ≡ Some (equation_in N n g)
equation-some N n g is = ap (λ o. option_map (equation_in N n) (gate_in o)) is

equation-found : (N : NetworkValue) (n : ℕ) (e : EquationValue) → equation_at N n ≡ Some e → IsEquationOf N e × (e.target ≡ n)
equation-found N n e is = by (entry_at N n) refl
  where
    by : (o : Option Entry) → entry_at N n ≡ o → IsEquationOf N e × (e.target ≡ n)
    by None at = absurd (let z : None ≡ Some e = sym (ap (λ o. option_map (equation_in N n) (gate_in o)) at) ∙ is in cc)
    by (Some Constant) at = absurd (let z : None ≡ Some e = sym (ap (λ o. option_map (equation_in N n) (gate_in o)) at) ∙ is in cc)
    by (Some (Input k)) at = absurd (let z : None ≡ Some e = sym (ap (λ o. option_map (equation_in N n) (gate_in o)) at) ∙ is in cc)
    by (Some (IsGate g)) at =
        let z : Some (equation_in N n g) ≡ Some e = sym (equation-some N n g at) ∙ is in
        let here : equation_in N n g ≡ e = cc in
        subst (λ f. IsEquationOf N f × (f.target ≡ n)) here (record { gate = g; at = at; same = refl }, refl)

-- the equations of the gates at these numbers
abbrev pub listed : NetworkValue → List ℕ → List EquationValue
listed N ns = filter_map (equation_at N) ns

listed-each : (N : NetworkValue) (ns : List ℕ) → AllByRecursion (IsEquationOf N) (listed N ns)
listed-each N [] = tt
listed-each N (n ∷ ns) = by (listed-each N ns) (equation_at N n) refl
  where
    by : AllByRecursion (IsEquationOf N) (listed N ns) → (o : Option EquationValue) → equation_at N n ≡ o → AllByRecursion (IsEquationOf N) (listed N (n ∷ ns))
    by rest None is = subst (λ o. AllByRecursion (IsEquationOf N) (cons_option o (listed N ns))) (sym is) rest
    by rest (Some e) is = subst (λ o. AllByRecursion (IsEquationOf N) (cons_option o (listed N ns))) (sym is) ((equation-found N n e is).0, rest)

listed-targets : (N : NetworkValue) (ns : List ℕ) → AllByRecursion (IsGateAt N) ns → targets (listed N ns) ≡ ns
listed-targets N [] all = refl
listed-targets N (n ∷ ns) all =
    ap (λ o. targets (cons_option o (listed N ns))) (equation-some N n all.0.0 all.0.1)
    ∙ ap (λ ms. n ∷ ms) (listed-targets N ns all.1)

listed-has : (N : NetworkValue) (n : ℕ) (g : GateValue) (ns : List ℕ) → GateAt N n g → In n ns → Contains (listed N ns) (equation_in N n g)
listed-has N n g [] is i = absurd i
listed-has N n g (m ∷ ns) is (inl e) =
    let here : equation_at N m ≡ Some (equation_in N n g) = subst (λ z. equation_at N z ≡ Some (equation_in N n g)) e (equation-some N n g is) in
    subst (λ o. Contains (cons_option o (listed N ns)) (equation_in N n g)) (sym here) (0, omega arith, refl)
listed-has N n g (m ∷ ns) is (inr i) =
    let rest = listed-has N n g ns is i in
    elim (equation_at N m) as (λ o. Contains (cons_option o (listed N ns)) (equation_in N n g)) [
      | None ↦ rest
      | Some e ↦ (suc rest.0, (let h = rest.1 in omega arith), rest.2)
    ]

-- ---- all equations

pub equations-each : (N : NetworkValue) → AllByRecursion (IsEquationOf N) (equations_in N)
unfolding equations_in
equations-each N = listed-each N (gates_in_order N)

pub equations-targets : (N : NetworkValue) → targets (equations_in N) ≡ gates_in_order N
unfolding equations_in
equations-targets N = listed-targets N (gates_in_order N) (order-gates N)

pub equations-have : (N : NetworkValue) (n : ℕ) (g : GateValue) → GateAt N n g → Contains (equations_in N) (equation_in N n g)
unfolding equations_in
equations-have N n g is = listed-has N n g (gates_in_order N) is (order-has N n g is)

pub equation-of : (N : NetworkValue) (e : EquationValue) → Contains (equations_in N) e → IsEquationOf N e
equation-of N e stands = All-contains (IsEquationOf N) (equations_in N) e (All-from_recursion (IsEquationOf N) (equations_in N) (equations-each N)) stands
