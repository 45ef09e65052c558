-- The statements of gates with words use names that are driven before them.
use Rattle.std.proofs.Common.{◌≡◌, ℕ, Bool, true, false, cond, eqb, List, [], ◌∷◌, ◌++◌, map, Option, refl, sym, ap, subst, ◌∙◌, inl, inr}
use Rattle.std.specs.Prelude.{◌⊎◌, ◌||◌}
use Rattle.std.specs.List.{AllByRecursion, flat_map}
use Rattle.std.specs.Str.{bytes_eq}
use Rattle.std.proofs.lemmas.Bool.{false≢true}
use Rattle.lnet_edge.specs.declared.circuit.OutputPort.{OutputPort}
use Rattle.lnet_edge.specs.declared.circuit.WireRef.{WireRef}
use Rattle.lnet_edge.specs.Circuits.{EquationValue}
use Rattle.lnet_edge.specs.Wires.{output_wires, targets}
use Rattle.lnet_wires.specs.Naming.{is_seen}
use Rattle.lnet_naming.specs.Settling.{made_name}
use Rattle.lnet_nodes.specs.Nodes.{node_name}
use Rattle.lnet_bench.specs.Statements.{StatementValue}
use Rattle.lnet_benchwriter.specs.Nodes.{constant_name, use_name, output_uses, equation_uses}
use Rattle.lnet_benchtext.specs.Written.{complement_statement, word_statements, output_statements, word_output_statement}
use Rattle.lnet_benchmeans.specs.Driving.{IsUsable, IsOrderedBehind}
use Rattle.lnet_benchmeans.proofs.Differing.{all_first, all_second}
use Rattle.lnet_benchmeans.proofs.Falling.{IsAhead}
use Rattle.lnet_benchmeans.proofs.Plain.{IsOneOf, one-sooner, one-none}
use Rattle.lnet_benchmeans.proofs.Tables.{AreNamed, more_seen, first_seen, more_named}
use Rattle.lnet_benchmeans.proofs.Turned.{IsTurnedBy}

-- the complement of each node of these wires has one of these names, where it is used
abbrev pub AreTurned : (ℕ → Bool) → (ℕ → Type 0) → List (List ℕ) → Type 0
AreTurned turned K known = (w : ℕ) → K w → turned w ≡ true → is_seen known (made_name 99 w) ≡ true

-- ---- uses

use_usable : (label : ℕ → Option (List ℕ)) (turned : ℕ → Bool) (K : ℕ → Type 0) (known : List (List ℕ)) → AreNamed label K known → AreTurned turned K known → (r : WireRef) → ((r.wire.0 ≡ 0) ⊎ K r.wire.0) → IsTurnedBy turned r → IsUsable known (use_name label r)
use_usable label turned K known each others r (inl is) is_turned = subst (λ (w : ℕ). IsUsable known (cond (eqb w 0) (constant_name r.complement) (cond r.complement (made_name 99 w) (node_name label w)))) (sym is) (inl (r.complement, refl))
use_usable label turned K known each others r (inr k) is_turned = elim (eqb r.wire.0 0) as (λ b. IsUsable known (cond b (constant_name r.complement) (cond r.complement (made_name 99 r.wire.0) (node_name label r.wire.0)))) [ true ↦ inl (r.complement, refl) | false ↦ by r.complement refl ] where
  by : (b : Bool) → r.complement ≡ b → IsUsable known (cond b (made_name 99 r.wire.0) (node_name label r.wire.0))
  by true complement = inr (others r.wire.0 k (is_turned complement))
  by false complement = inr (each r.wire.0 k)

uses_usable : (label : ℕ → Option (List ℕ)) (turned : ℕ → Bool) (K : ℕ → Type 0) (known : List (List ℕ)) → AreNamed label K known → AreTurned turned K known → (rs : List WireRef) → AllByRecursion (λ v. (v ≡ 0) ⊎ K v) (map (λ (r : WireRef). r.wire.0) rs) → AllByRecursion (IsTurnedBy turned) rs → AllByRecursion (IsUsable known) (map (use_name label) rs)
uses_usable label turned K known each others [] all is_turned = tt
uses_usable label turned K known each others (r ∷ rs) all is_turned = (use_usable label turned K known each others r all.0 is_turned.0, uses_usable label turned K known each others rs all.1 is_turned.1)

-- ---- complements of inputs

pub complements_then : (label : ℕ → Option (List ℕ)) (ms : List ℕ) (known : List (List ℕ)) (ss : List StatementValue) → AllByRecursion (λ m. is_seen known (node_name label m) ≡ true) ms → ((known' : List (List ℕ)) → ((x : List ℕ) → ((is_seen known x ≡ true) ⊎ (is_seen (map (made_name 99) ms) x ≡ true)) → is_seen known' x ≡ true) → IsOrderedBehind known' ss) → IsOrderedBehind known (map (complement_statement label) ms ++ ss)
complements_then label [] known ss all rest = rest known at_end where
  at_end : (x : List ℕ) → ((is_seen known x ≡ true) ⊎ (is_seen [] x ≡ true)) → is_seen known x ≡ true
  at_end x (inl seen) = seen
  at_end x (inr seen) = absurd (false≢true seen)
complements_then label (m ∷ ms) known ss all rest = (
  (inr all.0, tt),
  complements_then label ms (made_name 99 m ∷ known) ss (all_more ms all.1) (λ known' later. rest known' (λ x h. later x (sooner x h))),
)
  where
    all_more : (ns : List ℕ) → AllByRecursion (λ n. is_seen known (node_name label n) ≡ true) ns → AllByRecursion (λ n. is_seen (made_name 99 m ∷ known) (node_name label n) ≡ true) ns
    all_more [] a = tt
    all_more (n ∷ ns) a = (more_seen known (made_name 99 m) (node_name label n) a.0, all_more ns a.1)

    sooner : (x : List ℕ) → ((is_seen known x ≡ true) ⊎ (is_seen (map (made_name 99) (m ∷ ms)) x ≡ true)) → ((is_seen (made_name 99 m ∷ known) x ≡ true) ⊎ (is_seen (map (made_name 99) ms) x ≡ true))
    sooner x (inl seen) = inl (more_seen known (made_name 99 m) x seen)
    sooner x (inr seen) = elim (bytes_eq x (made_name 99 m)) as (λ b. (b || is_seen (map (made_name 99) ms) x) ≡ true → (((b || is_seen known x) ≡ true) ⊎ (is_seen (map (made_name 99) ms) x ≡ true))) [ true ↦ λ h. inl refl | false ↦ λ h. inr h ] seen

-- ---- gates

-- a gate's complement, where it is used, and what stands behind it
complement_then : (label : ℕ → Option (List ℕ)) (turned : ℕ → Bool) (K : ℕ → Type 0) (known : List (List ℕ)) (t : ℕ) (gates ss : List StatementValue) → AreNamed label (λ v. (v ≡ t) ⊎ K v) (made_name 110 t ∷ known) → AreTurned turned K known → ((known' : List (List ℕ)) → AreNamed label (λ v. (v ≡ t) ⊎ K v) known' → AreTurned turned (λ v. (v ≡ t) ⊎ K v) known' → IsOrderedBehind known' (gates ++ ss)) → IsOrderedBehind (made_name 110 t ∷ known) ((cond (turned t) (complement_statement label t ∷ []) [] ++ gates) ++ ss)
complement_then label turned K known t gates ss each others rest = by (turned t) refl where
  with_complement : AreTurned turned (λ v. (v ≡ t) ⊎ K v) (made_name 99 t ∷ made_name 110 t ∷ known)
  with_complement w (inl is) turn = ap (λ (v : ℕ). is_seen (made_name 99 t ∷ made_name 110 t ∷ known) (made_name 99 v)) is ∙ first_seen (made_name 110 t ∷ known) (made_name 99 t)
  with_complement w (inr k) turn = more_seen (made_name 110 t ∷ known) (made_name 99 t) (made_name 99 w) (more_seen known (made_name 110 t) (made_name 99 w) (others w k turn))

  without : turned t ≡ false → AreTurned turned (λ v. (v ≡ t) ⊎ K v) (made_name 110 t ∷ known)
  without unused w (inl is) turn = absurd (false≢true (sym unused ∙ ap turned (sym is) ∙ turn))
  without unused w (inr k) turn = more_seen known (made_name 110 t) (made_name 99 w) (others w k turn)

  by : (b : Bool) → turned t ≡ b → IsOrderedBehind (made_name 110 t ∷ known) ((cond b (complement_statement label t ∷ []) [] ++ gates) ++ ss)
  by true used = ((inr (each t (inl refl)), tt), rest (made_name 99 t ∷ made_name 110 t ∷ known) (λ w k. more_seen (made_name 110 t ∷ known) (made_name 99 t) (node_name label w) (each w k)) with_complement)
  by false unused = rest (made_name 110 t ∷ known) each (without unused)

-- gates with words, their complements, and what stands behind them
pub words_then : (label : ℕ → Option (List ℕ)) (turned : ℕ → Bool) (es : List EquationValue) (ss : List StatementValue) (known : List (List ℕ)) (K : ℕ → Type 0) → IsAhead K es → AreNamed label K known → AreTurned turned K known → AllByRecursion (λ t. node_name label t ≡ made_name 110 t) (targets es) → AllByRecursion (IsTurnedBy turned) (equation_uses es) → ((known' : List (List ℕ)) (L : ℕ → Type 0) → ((w : ℕ) → (K w ⊎ IsOneOf (targets es) w) → L w) → AreNamed label L known' → AreTurned turned L known' → IsOrderedBehind known' ss) → IsOrderedBehind known (flat_map (word_statements label turned) es ++ ss)
words_then label turned [] ss known K ahead each others named uses rest = rest known K (one-none K) each others
words_then label turned (e ∷ es) ss known K ahead each others named uses rest = (
  uses_usable label turned K known each others e.operands ahead.0 (all_first (IsTurnedBy turned) e.operands (equation_uses es) uses),
  complement_then label turned K known e.target (flat_map (word_statements label turned) es) ss (more_named label K known e.target named.0 each) others (λ known' each' others'.
      words_then label turned es ss known' (λ v. (v ≡ e.target) ⊎ K v) ahead.1 each' others' named.1 (all_second (IsTurnedBy turned) e.operands (equation_uses es) uses) (λ known'' L later. rest known'' L (λ w h. later w (one-sooner K e.target (targets es) w h)))),
)

-- ---- outputs

pub words_last : (label : ℕ → Option (List ℕ)) (turned : ℕ → Bool) (L : ℕ → Type 0) (names : List (List ℕ)) (ps : List OutputPort) (known : List (List ℕ)) → AreNamed label L known → AreTurned turned L known → AllByRecursion (λ w. (w ≡ 0) ⊎ L w) (output_wires ps) → AllByRecursion (IsTurnedBy turned) (output_uses ps) → IsOrderedBehind known (output_statements (word_output_statement label) names ps)
words_last label turned L [] ps known each others all uses = tt
words_last label turned L (name ∷ names) [] known each others all uses = tt
words_last label turned L (name ∷ names) (p ∷ ps) known each others all uses = (
  (use_usable label turned L known each others p.source all.0 uses.0, tt),
  words_last label turned L names ps (name ∷ known) (λ w k. more_seen known name (node_name label w) (each w k)) (λ w k turn. more_seen known name (made_name 99 w) (others w k turn)) all.1 uses.1,
)
