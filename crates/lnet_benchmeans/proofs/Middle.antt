-- The names of gates and complements differ from one another and from those of ports.
use Rattle.std.proofs.Common.{◌≡◌, ◌≢◌, ℕ, ◌<◌, ◌^◌, Bool, true, false, cond, List, [], ◌∷◌, ◌++◌, map, Option, Some, refl, sym, ap, ◌∙◌, inl, inr, arith}
use Rattle.std.specs.Prelude.{◌⊎◌}
use Rattle.std.specs.List.{AllByRecursion, filter, flat_map, cons_option}
use Rattle.std.proofs.lemmas.List.Elements.{filter_map-append}
use Rattle.lnet_edge.specs.declared.circuit.WireRef.{WireRef}
use Rattle.lnet_edge.specs.Circuits.{EquationValue}
use Rattle.lnet_edge.specs.Wires.{targets}
use Rattle.lnet_naming.specs.Settling.{made_name}
use Rattle.lnet_nodes.specs.Rows.{variables}
use Rattle.lnet_bench.specs.Statements.{StatementValue}
use Rattle.lnet_bench.specs.Texts.{target_of}
use Rattle.lnet_benchwriter.specs.Texts.{ascending}
use Rattle.lnet_benchtext.specs.Written.{complement_statement, word_statements, table_statement}
use Rattle.lnet_benchmeans.specs.Driving.{driven_names}
use Rattle.lnet_benchmeans.proofs.Differing.{Differ, Apart, all_both, all_weak, all_with, all_mapped, all_kept, differ_both, differ_mapped, apart_by, all_ascending, ascending_differ}
use Rattle.lnet_benchmeans.proofs.Settled.{letters_apart, made_once, made_apart, IsLabel}

abbrev pub IsSmall : ℕ → Type 0
IsSmall n = n < 2 ^ 64

-- ---- the names of nodes

-- the name of a gate, or that of the complement of a node, whose number is one of these
abbrev pub IsNodeName : (ℕ → Type 0) → List ℕ → Type 0
IsNodeName P x = (n : ℕ) × P n × ((x ≡ made_name 110 n) ⊎ (x ≡ made_name 99 n))

-- a gate's name, and that of its complement where that is used
abbrev pub gate_names : (ℕ → Bool) → ℕ → List (List ℕ)
gate_names turned n = made_name 110 n ∷ cond (turned n) (made_name 99 n ∷ []) []

nodes_apart : (P Q : ℕ → Type 0) → ((m n : ℕ) → P m → Q n → IsSmall m × IsSmall n × (m ≢ n)) → (x y : List ℕ) → IsNodeName P x → IsNodeName Q y → x ≢ y
nodes_apart P Q each x y (m, p, inl f) (n, q, inl g) e = let t = each m n p q in t.2 (made_once 110 m n t.0 t.1 (sym f ∙ e ∙ g))
nodes_apart P Q each x y (m, p, inl f) (n, q, inr g) e = letters_apart 110 99 m n (λ h. omega arith) (sym f ∙ e ∙ g)
nodes_apart P Q each x y (m, p, inr f) (n, q, inl g) e = letters_apart 99 110 m n (λ h. omega arith) (sym f ∙ e ∙ g)
nodes_apart P Q each x y (m, p, inr f) (n, q, inr g) e = let t = each m n p q in t.2 (made_once 99 m n t.0 t.1 (sym f ∙ e ∙ g))

-- the letter is that of a port
abbrev pub IsPortLetter : ℕ → Type 0
IsPortLetter letter = (letter ≢ 110) × (letter ≢ 99)

pub label_node : (letter low high : ℕ) (kept : List (List ℕ)) (seen : Bool) → IsPortLetter letter → (x y : List ℕ) → IsLabel letter low high kept seen x → IsNodeName IsSmall y → x ≢ y
label_node letter low high kept seen port x y (inl m) (n, small, inl g) e = letters_apart letter 110 m.0 n port.0 (sym m.3 ∙ e ∙ g)
label_node letter low high kept seen port x y (inl m) (n, small, inr g) e = letters_apart letter 99 m.0 n port.1 (sym m.3 ∙ e ∙ g)
label_node letter low high kept seen port x y (inr p) (n, small, inl g) e = made_apart 110 n x refl small p.0 (sym (e ∙ g))
label_node letter low high kept seen port x y (inr p) (n, small, inr g) e = made_apart 99 n x refl small p.0 (sym (e ∙ g))

-- ---- gates

gate_are : (P : ℕ → Type 0) (turned : ℕ → Bool) (n : ℕ) → P n → AllByRecursion (IsNodeName P) (gate_names turned n)
gate_are P turned n p = ((n, p, inl refl), elim (turned n) as (λ b. AllByRecursion (IsNodeName P) (cond b (made_name 99 n ∷ []) [])) [ true ↦ ((n, p, inr refl), tt) | false ↦ tt ])

pub gates_are : (P : ℕ → Type 0) (turned : ℕ → Bool) (ns : List ℕ) → AllByRecursion P ns → AllByRecursion (IsNodeName P) (flat_map (gate_names turned) ns)
gates_are P turned [] all = tt
gates_are P turned (n ∷ ns) all = all_both (IsNodeName P) (gate_names turned n) (flat_map (gate_names turned) ns) (gate_are P turned n all.0) (gates_are P turned ns all.1)

gate_differ : (turned : ℕ → Bool) (n : ℕ) → Differ (gate_names turned n)
gate_differ turned n = elim (turned n) as (λ b. Differ (made_name 110 n ∷ cond b (made_name 99 n ∷ []) [])) [ true ↦ ((letters_apart 110 99 n n (λ h. omega arith), tt), (tt, tt)) | false ↦ (tt, tt) ]

pub gates_differ : (turned : ℕ → Bool) (ns : List ℕ) → AllByRecursion IsSmall ns → Differ ns → Differ (flat_map (gate_names turned) ns)
gates_differ turned [] all differ = tt
gates_differ turned (n ∷ ns) all differ =
    let P : ℕ → Type 0 = λ m. IsSmall m × (m ≡ n) in
    let Q : ℕ → Type 0 = λ m. IsSmall m × (n ≢ m) in
    differ_both (gate_names turned n) (flat_map (gate_names turned) ns) (gate_differ turned n) (gates_differ turned ns all.1 differ.1)
    (apart_by (IsNodeName P) (IsNodeName Q) (gate_names turned n) (flat_map (gate_names turned) ns)
    (nodes_apart P Q (λ k m p q. (p.0, q.0, λ e. q.1 (sym p.1 ∙ e))))
    (gate_are P turned n (all.0, refl))
    (gates_are Q turned ns (all_with IsSmall (λ m. n ≢ m) ns all.1 differ.0)))

-- ---- complements of inputs, and gates

-- the names between those of the ports
pub record IsMiddle (names : List (List ℕ)) : Type 0 where
  pub differ : Differ names
  pub nodes : AllByRecursion (IsNodeName IsSmall) names

pub gates_middle : (turned : ℕ → Bool) (ns : List ℕ) → AllByRecursion IsSmall ns → Differ ns → IsMiddle (flat_map (gate_names turned) ns)
gates_middle turned ns all differ = record { differ = gates_differ turned ns all differ; nodes = gates_are IsSmall turned ns all }

apart_gates : (turned : ℕ → Bool) (ms ns : List ℕ) → AllByRecursion IsSmall ms → AllByRecursion IsSmall ns → Apart ms ns → Apart (map (made_name 99) ms) (flat_map (gate_names turned) ns)
apart_gates turned [] ns first second apart = tt
apart_gates turned (m ∷ ms) ns first second apart =
    let P : ℕ → Type 0 = λ k. IsSmall k × (k ≡ m) in
    let Q : ℕ → Type 0 = λ k. IsSmall k × (m ≢ k) in (
      all_weak (IsNodeName Q) (λ y. made_name 99 m ≢ y) (flat_map (gate_names turned) ns)
          (λ y. nodes_apart P Q (λ k j p q. (p.0, q.0, λ e. q.1 (sym p.1 ∙ e))) (made_name 99 m) y (m, (first.0, refl), inr refl))
          (gates_are Q turned ns (all_with IsSmall (λ k. m ≢ k) ns second apart.0)),
      apart_gates turned ms ns first.1 second apart.1,
    )

pub words_middle : (turned : ℕ → Bool) (is ns : List ℕ) → AllByRecursion IsSmall is → AllByRecursion IsSmall ns → Differ ns → Apart is ns → IsMiddle (map (made_name 99) (ascending (filter turned is)) ++ flat_map (gate_names turned) ns)
words_middle turned is ns first second differ apart =
    let ms = ascending (filter turned is) in
    let small = all_ascending IsSmall (filter turned is) (all_kept IsSmall turned is first) in
    let other = all_ascending (λ m. AllByRecursion (λ n. m ≢ n) ns) (filter turned is) (all_kept (λ m. AllByRecursion (λ n. m ≢ n) ns) turned is apart) in
    record {
      differ = differ_both (map (made_name 99) ms) (flat_map (gate_names turned) ns) (differ_mapped IsSmall (made_name 99) ms (λ m n p q e. made_once 99 m n p q e) small (ascending_differ (filter turned is))) (gates_differ turned ns second differ) (apart_gates turned ms ns small second other);
      nodes = all_both (IsNodeName IsSmall) (map (made_name 99) ms) (flat_map (gate_names turned) ns) (all_mapped IsSmall (IsNodeName IsSmall) (made_name 99) ms (λ m p. (m, p, inr refl)) small) (gates_are IsSmall turned ns second);
    }

-- ---- the names that statements drive

pub names_both : (ss ts : List StatementValue) → driven_names (ss ++ ts) ≡ driven_names ss ++ driven_names ts
names_both ss ts = filter_map-append target_of ss ts

pub complements_drive : (label : ℕ → Option (List ℕ)) (ns : List ℕ) → driven_names (map (complement_statement label) ns) ≡ map (made_name 99) ns
complements_drive label [] = refl
complements_drive label (n ∷ ns) = ap (λ (xs : List (List ℕ)). made_name 99 n ∷ xs) (complements_drive label ns)

gate_drives : (label : ℕ → Option (List ℕ)) (turned : ℕ → Bool) (e : EquationValue) → driven_names (word_statements label turned e) ≡ gate_names turned e.target
gate_drives label turned e = ap (λ (xs : List (List ℕ)). made_name 110 e.target ∷ xs) (elim (turned e.target) as (λ b. driven_names (cond b (complement_statement label e.target ∷ []) []) ≡ cond b (made_name 99 e.target ∷ []) []) [ true ↦ refl | false ↦ refl ])

pub words_drive : (label : ℕ → Option (List ℕ)) (turned : ℕ → Bool) (es : List EquationValue) → driven_names (flat_map (word_statements label turned) es) ≡ flat_map (gate_names turned) (targets es)
words_drive label turned [] = refl
words_drive label turned (e ∷ es) =
    names_both (word_statements label turned e) (flat_map (word_statements label turned) es)
    ∙ ap (λ (xs : List (List ℕ)). xs ++ driven_names (flat_map (word_statements label turned) es)) (gate_drives label turned e)
    ∙ ap (λ (xs : List (List ℕ)). gate_names turned e.target ++ xs) (words_drive label turned es)

table_drives : (label : ℕ → Option (List ℕ)) (e : EquationValue) → target_of (table_statement label e) ≡ Some (made_name 110 e.target)
table_drives label e = by (variables e.operands) refl where
  by : (vs : List WireRef) → variables e.operands ≡ vs → target_of (table_statement label e) ≡ Some (made_name 110 e.target)
  by [] is = rw is refl
  by (r ∷ rs) is = rw is refl

pub tables_drive : (label : ℕ → Option (List ℕ)) (es : List EquationValue) → driven_names (map (table_statement label) es) ≡ flat_map (gate_names (λ n. false)) (targets es)
tables_drive label [] = refl
tables_drive label (e ∷ es) =
    ap (λ (o : Option (List ℕ)). cons_option o (driven_names (map (table_statement label) es))) (table_drives label e)
    ∙ ap (λ (xs : List (List ℕ)). made_name 110 e.target ∷ xs) (tables_drive label es)
