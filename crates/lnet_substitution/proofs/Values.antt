-- What stands for a node has its value, and so a substitution has the outputs of the network with the node replaced.
use Rattle.std.proofs.Common.{◌≡◌, ◌≢◌, ℕ, Bool, false, cond, List, [], ◌∷◌, map, IsSome, None, Some, refl, sym, ap, subst, ◌∙◌, inl, inr}
use Rattle.std.specs.Prelude.{option_map}
use Rattle.std.proofs.lemmas.Bool.Decides.{eqb_tells}
use Rattle.lnet_gates.specs.declared.signal.Signal.{Signal}
use Rattle.lnet_gates.specs.declared.gate.Kind.{Kind}
use Rattle.lnet_gates.specs.declared.normal.Normal.{Normal}
use Rattle.lnet_gates.specs.declared.normal.Normal.TheVariants.{Is, Gate}
use Rattle.lnet_gates.specs.Gates.{GateValue, flip, operate, apply}
use Rattle.lnet_gates.specs.Operands.{flipped, moved, read}
use Rattle.lnet_gates.specs.Natives.{IsNativeGate}
use Rattle.lnet_gates.specs.NormalLaws.{replaced_in, form_reading}
use Rattle.lnet_gates.specs.Lawful.OperandLemmas.{flip-flip, read-flipped}
use Rattle.lnet_gates.specs.Forms.{form_of}
use Rattle.lnet_gates.specs.Lawful.KindLaws.{kind_laws}
use Rattle.lnet_model.specs.Networks.{Constant, Input, IsGate, NetworkValue, entry_at, fanins_of, IsLive}
use Rattle.lnet_model.specs.Along.{at_entry, once, In, Depends, Acyclic, IsClosed, IsWhole, fanin_nodes, nodes_read}
use Rattle.lnet_model.specs.Values.{value_step, node_value, signal_value, network_outputs}
use Rattle.lnet_model.specs.Changes.{GateAt}
use Rattle.lnet_model.proofs.Over.{over-once, once-entry, along_induction}
use Rattle.lnet_model.proofs.Values.{map-pairs, gate_value}
use Rattle.lnet_substitution.specs.Replaced.{redirected, redirected_entry, replaced}
use Rattle.lnet_substitution.specs.Representatives.{StandsFor, Represents}
use Rattle.lnet_substitution.specs.Substitutions.{SameLeaves, DropsLost}
use Rattle.lnet_substitution.proofs.Replaced.{replaced-apart, replaced-outputs, replaced-Acyclic}
use Rattle.lnet_substitution.proofs.Resolving.{native-again}
use Rattle.lnet_substitution.proofs.OneReplaced.{gate-fanin}
use Rattle.lnet_substitution.proofs.Dropping.{over-dropped, output-stays}

-- what is read through representatives
pub reads-moved : (V W : ℕ → Bool) (rep : ℕ → Signal) (ss : List Signal) → ((m : ℕ) → In m (nodes_read ss) → read V (rep m) ≡ W m) → map (read V) (map (moved rep) ss) ≡ map (read W) ss
reads-moved V W rep [] same = refl
reads-moved V W rep (s ∷ ss) same = λ i. (read-flipped V s.complement (rep s.node.0) ∙ ap (flip s.complement) (same s.node.0 (inl refl))) i ∷ reads-moved V W rep ss (λ m j. same m (inr j)) i

value-constant : (N : NetworkValue) (a : ℕ → Bool) (n : ℕ) → Acyclic N → entry_at N n ≡ Some Constant → node_value N a n ≡ false
value-constant N a n acyclic at =
    over-once N (value_step a) false acyclic n
    ∙ ap (at_entry false (λ e. value_step a n e (map {B = Signal × Bool} (λ s. (s, node_value N a s.node.0)) (fanins_of e)))) at

value-input : (N : NetworkValue) (a : ℕ → Bool) (n k : ℕ) → Acyclic N → entry_at N n ≡ Some (Input k) → node_value N a n ≡ a k
value-input N a n k acyclic at =
    over-once N (value_step a) false acyclic n
    ∙ ap (at_entry false (λ e. value_step a n e (map {B = Signal × Bool} (λ s. (s, node_value N a s.node.0)) (fanins_of e)))) at

-- what stands for a normal form has its value
stands-read : (P : NetworkValue) (a : ℕ → Bool) → Acyclic P → (f : Normal) (t : Signal) → StandsFor P f t → read (node_value P a) t ≡ form_reading (node_value P a) f
stands-read P a acyclic (Is s) t h = ap (read (node_value P a)) (sym h)
stands-read P a acyclic (Gate k phase) t (g, at, key, phases) =
    ap (flip t.complement) (gate_value P a t.node.0 g acyclic at)
    ∙ sym (flip-flip t.complement g.phase (operate g.op (map (signal_value P a) g.fanins)))
    ∙ ap (λ c. flip c (operate g.op (map (signal_value P a) g.fanins))) (sym phases)
    ∙ ap (λ k. flip phase (operate k.op (map (read (node_value P a)) k.fanins))) (sym key)

module _ (kind : Kind) (P M : NetworkValue) (rep : ℕ → Signal) (a : ℕ → Bool) (cp : Acyclic P) (cm : Acyclic M) (closed : IsClosed M) (first : entry_at P 0 ≡ Some Constant) (leaves : SameLeaves M P) (native : (n : ℕ) (g : GateValue) → GateAt M n g → IsNativeGate kind g) (R : Represents kind P M rep) where
  gate-represented : (n : ℕ) (g : GateValue) → GateAt M n g → ((m : ℕ) → In m (nodes_read g.fanins) → read (node_value P a) (rep m) ≡ node_value M a m) → read (node_value P a) (rep n) ≡ node_value M a n
  gate-represented n g at up =
      stands-read P a cp (form_of kind (replaced_in rep g)) (rep n) (R.gate n g at)
      ∙ (kind_laws kind).value (node_value P a) (replaced_in rep g) (value-constant P a 0 cp first) (native-again kind rep g (native n g at))
      ∙ ap (apply g.op g.phase) (reads-moved (node_value P a) (node_value M a) rep g.fanins up)
      ∙ sym (gate_value M a n g cm at)

  pub represented-value : (n : ℕ) → IsLive M n → read (node_value P a) (rep n) ≡ node_value M a n
  represented-value = along_induction M (λ n. IsLive M n → read (node_value P a) (rep n) ≡ node_value M a n) cm (λ n below live.
      elim (entry_at M n) as (λ o. entry_at M n ≡ o → IsSome o → read (node_value P a) (rep n) ≡ node_value M a n) [
        | None ↦ λ _ l. cc
        | Some e ↦ elim e as (λ e. entry_at M n ≡ Some e → IsSome (Some e) → read (node_value P a) (rep n) ≡ node_value M a n) [
          | Constant ↦ λ at _. ap (read (node_value P a)) (R.leaf n (inl at)) ∙ value-constant P a n cp ((leaves.constant n).0 at) ∙ sym (value-constant M a n cm at)
          | Input k ↦ λ at _. ap (read (node_value P a)) (R.leaf n (inr (k, at))) ∙ value-input P a n k cp ((leaves.input n k).0 at) ∙ sym (value-input M a n k cm at)
          | IsGate g ↦ λ at _. gate-represented n g at (λ m i. (let j = gate-fanin M n m g at i in below m j (closed n m j)))
        ]
      ] refl live)

  pub outputs-represented : P.outputs ≡ map (moved rep) M.outputs → ((m : ℕ) → In m (nodes_read M.outputs) → IsLive M m) → network_outputs P a ≡ network_outputs M a
  unfolding network_outputs
  outputs-represented same live = ap (map (signal_value P a)) same ∙ reads-moved (node_value P a) (node_value M a) rep M.outputs (λ m i. represented-value m (live m i))

-- ---- where the gates that lost their references went

module _ (N P Q : NetworkValue) (a : ℕ → Bool) (cp : Acyclic P) (whole : IsWhole P) (drops : DropsLost N P Q) where
  read-staying : (ss : List Signal) → ((m : ℕ) → In m (nodes_read ss) → node_value Q a m ≡ node_value P a m) → map (signal_value Q a) ss ≡ map (signal_value P a) ss
  read-staying [] same = refl
  read-staying (s ∷ ss) same = λ i. flip s.complement (same s.node.0 (inl refl) i) ∷ read-staying ss (λ m j. same m (inr j)) i

  pub outputs-dropped : network_outputs Q a ≡ network_outputs P a
  unfolding network_outputs
  outputs-dropped = ap (map (signal_value Q a)) drops.outputs ∙ read-staying P.outputs (λ m i. over-dropped N P Q cp whole drops (value_step a) false m (output-stays N P Q cp whole drops m i))

-- ---- s for a node of its value changes no value

module _ (V W : ℕ → Bool) (o : ℕ) (s : Signal) (apart : s.node.0 ≢ o) (equal : read V s ≡ V o) where
  read-redirected : (x : Signal) → ((redirected o s x).node.0 ≢ o → W (redirected o s x).node.0 ≡ V (redirected o s x).node.0) → read W (redirected o s x) ≡ read V x
  read-redirected x below =
      let P : Bool → Type 0 = λ b. (let y : Signal = cond b (flipped x.complement s) x in (y.node.0 ≢ o → W y.node.0 ≡ V y.node.0) → read W y ≡ read V x) in
      elim (eqb_tells x.node.0 o) as (λ _. read W (redirected o s x) ≡ read V x) [
        | inl p ↦ subst P (sym p.0) (λ k. read-flipped W x.complement s ∙ ap (flip x.complement) (ap (flip s.complement) (k apart) ∙ equal) ∙ ap (λ n. flip x.complement (V n)) (sym p.1)) below
        | inr p ↦ subst P (sym p.0) (λ k. ap (flip x.complement) (k p.1)) below
      ]

  map-redirected : (xs : List Signal) → ((m : ℕ) → In m (nodes_read (map (redirected o s) xs)) → m ≢ o → W m ≡ V m) → map (read W) (map (redirected o s) xs) ≡ map (read V) xs
  map-redirected [] below = refl
  map-redirected (x ∷ xs) below = λ i. read-redirected x (below (redirected o s x).node.0 (inl refl)) i ∷ map-redirected xs (λ m j. below m (inr j)) i

module _ (N : NetworkValue) (o : ℕ) (s : Signal) (a : ℕ → Bool) (cn : Acyclic N) (live : IsLive N o) (free : Depends N s o → ⊥) (apart : s.node.0 ≢ o) (equal : signal_value N a s ≡ node_value N a o) where
  value_replaced : (n : ℕ) → n ≢ o → node_value (replaced N o s) a n ≡ node_value N a n
  value_replaced =
      let M = replaced N o s in
      let cm = replaced-Acyclic N o s live cn free in
      along_induction M (λ n. n ≢ o → node_value M a n ≡ node_value N a n) cm (λ n below ne.
      over-once M (value_step a) false cm n
      ∙ once-entry (entry_at M) (λ q. option_map (redirected_entry o s) (entry_at N q)) (value_step a) false (node_value M a) n (replaced-apart N o s n ne)
      ∙ elim (entry_at N n) as (λ e. ((m : ℕ) → In m (fanin_nodes (option_map (redirected_entry o s) e)) → m ≢ o → node_value M a m ≡ node_value N a m) → once (λ _. option_map (redirected_entry o s) e) (value_step a) false (node_value M a) n ≡ once (λ _. e) (value_step a) false (node_value N a) n) [
        | None ↦ λ _. refl
        | Some e ↦ elim e as (λ e. ((m : ℕ) → In m (fanin_nodes (Some (redirected_entry o s e))) → m ≢ o → node_value M a m ≡ node_value N a m) → once (λ _. Some (redirected_entry o s e)) (value_step a) false (node_value M a) n ≡ once (λ _. Some e) (value_step a) false (node_value N a) n) [
          | Constant ↦ λ _. refl
          | Input k ↦ λ _. refl
          | IsGate g ↦ λ k. ap (apply g.op g.phase) (map-pairs (node_value M a) (λ r. flip r.0.complement r.1) (map (redirected o s) g.fanins) ∙ map-redirected (node_value N a) (node_value M a) o s apart equal g.fanins k ∙ sym (map-pairs (node_value N a) (λ r. flip r.0.complement r.1) g.fanins))
        ]
      ] (subst (λ e. (m : ℕ) → In m (fanin_nodes e) → m ≢ o → node_value M a m ≡ node_value N a m) (replaced-apart N o s n ne) below)
      ∙ sym (over-once N (value_step a) false cn n))

  pub outputs-replaced : network_outputs (replaced N o s) a ≡ network_outputs N a
  unfolding network_outputs
  outputs-replaced =
      ap (map (signal_value (replaced N o s) a)) (replaced-outputs N o s)
      ∙ map-redirected (node_value N a) (node_value (replaced N o s) a) o s apart equal N.outputs (λ m _ ne. value_replaced m ne)
