-- The values of gates with words and of complements, gate by gate.
use Rattle.std.proofs.Common.{◌≡◌, ℕ, Bool, true, false, cond, eqb, List, [], ◌∷◌, map, Option, refl, sym, ap, subst, ◌∙◌, inl, inr}
use Rattle.std.specs.Prelude.{◌⊎◌, not}
use Rattle.std.specs.List.{AllByRecursion, flat_map}
use Rattle.std.proofs.lemmas.Bool.{eqb-true}
use Rattle.lnet_edge.specs.declared.circuit.WireRef.{WireRef}
use Rattle.lnet_edge.specs.Circuits.{EquationValue}
use Rattle.lnet_edge.specs.Wires.{targets}
use Rattle.lnet_edge.specs.Values.{complemented, under_rule}
use Rattle.lnet_naming.specs.Settling.{made_name}
use Rattle.lnet_nodes.specs.Nodes.{node_name}
use Rattle.lnet_benchwriter.specs.Nodes.{constant_name, use_name, equation_uses}
use Rattle.lnet_benchtext.specs.Written.{complement_statement, word_statements}
use Rattle.lnet_benchmeans.proofs.Differing.{all_first, all_second}
use Rattle.lnet_benchmeans.proofs.Falling.{IsAhead}
use Rattle.lnet_benchmeans.proofs.Plain.{IsOneOf}
use Rattle.lnet_benchmeans.proofs.Turned.{IsTurnedBy}
use Rattle.lnet_benchvalues.specs.Named.{Holds}
use Rattle.lnet_benchvalues.proofs.NameValues.{of_false}
use Rattle.lnet_benchvalues.proofs.RowValues.{uses_in}
use Rattle.lnet_benchvalues.proofs.Known.{AreKnown, known_more}
use Rattle.lnet_benchvalues.proofs.TableValues.{Gives, and_true}

-- the name of the complement of each node of these wires has the complement of the node's value, where it is used
abbrev pub AreOpposed : (List ℕ → Bool) → (ℕ → Bool) → (ℕ → Bool) → (ℕ → Type 0) → Type 0
AreOpposed v V turned K = (w : ℕ) → K w → turned w ≡ true → v (made_name 99 w) ≡ not (V w)

-- ---- uses

pub use_value : (v : List ℕ → Bool) (V : ℕ → Bool) (label : ℕ → Option (List ℕ)) (turned : ℕ → Bool) (K : ℕ → Type 0) → V 0 ≡ false → ((value : Bool) → v (constant_name value) ≡ value) → AreKnown v V label K → AreOpposed v V turned K → (r : WireRef) → ((r.wire.0 ≡ 0) ⊎ K r.wire.0) → IsTurnedBy turned r → v (use_name label r) ≡ complemented r.complement (V r.wire.0)
use_value v V label turned K none constants each others r (inl is) is_turned =
    ap (λ (w : ℕ). v (cond (eqb w 0) (constant_name r.complement) (cond r.complement (made_name 99 w) (node_name label w)))) is
    ∙ constants r.complement
    ∙ sym (ap (complemented r.complement) (ap V is ∙ none) ∙ of_false r.complement)
use_value v V label turned K none constants each others r (inr k) is_turned = by (eqb r.wire.0 0) refl where
  flipped : (b : Bool) → r.complement ≡ b → v (cond b (made_name 99 r.wire.0) (node_name label r.wire.0)) ≡ complemented b (V r.wire.0)
  flipped true complement = others r.wire.0 k (is_turned complement)
  flipped false complement = each r.wire.0 k

  by : (b : Bool) → eqb r.wire.0 0 ≡ b → v (cond b (constant_name r.complement) (cond r.complement (made_name 99 r.wire.0) (node_name label r.wire.0))) ≡ complemented r.complement (V r.wire.0)
  by true zero_is = constants r.complement ∙ sym (ap (complemented r.complement) (ap V (eqb-true r.wire.0 0 zero_is) ∙ none) ∙ of_false r.complement)
  by false some = flipped r.complement refl

uses_value : (v : List ℕ → Bool) (V : ℕ → Bool) (label : ℕ → Option (List ℕ)) (turned : ℕ → Bool) (K : ℕ → Type 0) → V 0 ≡ false → ((value : Bool) → v (constant_name value) ≡ value) → AreKnown v V label K → AreOpposed v V turned K → (rs : List WireRef) → AllByRecursion (λ w. (w ≡ 0) ⊎ K w) (map (λ (r : WireRef). r.wire.0) rs) → AllByRecursion (IsTurnedBy turned) rs → map v (map (use_name label) rs) ≡ uses_in V rs
uses_value v V label turned K none constants each others [] all are = refl
uses_value v V label turned K none constants each others (r ∷ rs) all are =
    let own = use_value v V label turned K none constants each others r all.0 are.0 in
    let rest = uses_value v V label turned K none constants each others rs all.1 are.1 in
    λ i. own i ∷ rest i

-- ---- complements

opposite : (v : List ℕ → Bool) (V : ℕ → Bool) (label : ℕ → Option (List ℕ)) (t : ℕ) → Holds v (complement_statement label t) → v (node_name label t) ≡ V t → v (made_name 99 t) ≡ not (V t)
opposite v V label t holds is = holds ∙ ap not (and_true (v (node_name label t)) ∙ is)

pub complements_hold : (v : List ℕ → Bool) (V : ℕ → Bool) (label : ℕ → Option (List ℕ)) (ms : List ℕ) → AllByRecursion (Holds v) (map (complement_statement label) ms) → (w : ℕ) → IsOneOf ms w → v (node_name label w) ≡ V w → v (made_name 99 w) ≡ not (V w)
complements_hold v V label [] holds w one known = absurd one
complements_hold v V label (m ∷ ms) holds w (inl is) known = opposite v V label w (subst (λ (u : ℕ). Holds v (complement_statement label u)) (sym is) holds.0) known
complements_hold v V label (m ∷ ms) holds w (inr one) known = complements_hold v V label ms holds.1 w one known

-- one more complement is known
opposed_more : (v : List ℕ → Bool) (V turned : ℕ → Bool) (K : ℕ → Type 0) (t : ℕ) → AreOpposed v V turned K → (turned t ≡ true → v (made_name 99 t) ≡ not (V t)) → AreOpposed v V turned (λ w. (w ≡ t) ⊎ K w)
opposed_more v V turned K t each one w (inl is) turn = ap (λ (u : ℕ). v (made_name 99 u)) is ∙ one (ap turned (sym is) ∙ turn) ∙ ap (λ (u : ℕ). not (V u)) (sym is)
opposed_more v V turned K t each one w (inr k) turn = each w k turn

-- ---- gate after gate

-- a gate's name has its value, and its complement's name the complement where it is used
abbrev pub IsKnownGate : (List ℕ → Bool) → (ℕ → Bool) → (ℕ → Option (List ℕ)) → (ℕ → Bool) → ℕ → Type 0
IsKnownGate v V label turned t = (v (node_name label t) ≡ V t) × (turned t ≡ true → v (made_name 99 t) ≡ not (V t))

pub words_known : (v : List ℕ → Bool) (V : ℕ → Bool) (label : ℕ → Option (List ℕ)) (turned : ℕ → Bool) → V 0 ≡ false → ((value : Bool) → v (constant_name value) ≡ value) → (es : List EquationValue) (K : ℕ → Type 0) → IsAhead K es → AreKnown v V label K → AreOpposed v V turned K → AllByRecursion (λ t. node_name label t ≡ made_name 110 t) (targets es) → AllByRecursion (IsTurnedBy turned) (equation_uses es) → AllByRecursion (Gives V) es → AllByRecursion (Holds v) (flat_map (word_statements label turned) es) → AllByRecursion (IsKnownGate v V label turned) (targets es)
words_known v V label turned none constants [] K ahead each others named uses gives holds = tt
words_known v V label turned none constants (e ∷ es) K ahead each others named uses gives holds =
    let P = IsTurnedBy turned in
    let first = all_first (Holds v) (word_statements label turned e) (flat_map (word_statements label turned) es) holds in
    let rest = all_second (Holds v) (word_statements label turned e) (flat_map (word_statements label turned) es) holds in
    let one : v (node_name label e.target) ≡ V e.target =
    ap v named.0
    ∙ first.0
    ∙ ap (under_rule e.rule) (uses_value v V label turned K none constants each others e.operands ahead.0 (all_first P e.operands (equation_uses es) uses))
    ∙ sym gives.0 in
    let other : turned e.target ≡ true → v (made_name 99 e.target) ≡ not (V e.target) = λ turn.
    opposite v V label e.target (subst (λ (b : Bool). AllByRecursion (Holds v) (cond b (complement_statement label e.target ∷ []) [])) turn first.1).0 one in
    ((one, other), words_known v V label turned none constants es (λ w. (w ≡ e.target) ⊎ K w) ahead.1 (known_more v V label K e.target each one) (opposed_more v V turned K e.target others other) named.1 (all_second P e.operands (equation_uses es) uses) gives.1 rest)
