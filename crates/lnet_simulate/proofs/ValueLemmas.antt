-- The values of nodes by what stands at them, and the words that have them.
use Rattle.std.proofs.Common.{◌≡◌, ◌≢◌, ℕ, ◌+◌, ◌<◌, ◌≤◌, Bool, false, List, [], ◌∷◌, length, map, get_or, set, Option, None, Some, is_some, slice_get, refl, sym, ap, subst, ◌∙◌, inl, inr, arith, get_or-set_same, get_or-set_other}
use Rattle.std.proofs.lemmas.Bool.Decides.{eqb_tells}
use Rattle.std.proofs.lemmas.Option.{slice_get_within}
use Rattle.lnet_tables.specs.Bits.{is_set}
use Rattle.lnet_gates.specs.declared.signal.Signal.{Signal}
use Rattle.lnet_gates.specs.Gates.{GateValue, flip, apply}
use Rattle.lnet_model.specs.Networks.{NetworkValue, Entry, Constant, Input, IsGate, entry_at, gate_at, gate_in, fanins_of}
use Rattle.lnet_model.specs.Along.{In, Acyclic, at_entry, nodes_read, fanin_nodes}
use Rattle.lnet_model.specs.Dags.{IsStored, numbers_of}
use Rattle.lnet_model.proofs.Numbers.{live-below-numbers}
use Rattle.lnet_simulate.specs.Cones.{IsBefore, InOrder}
use Rattle.lnet_gates.specs.declared.signal.Node.{Node}
use Rattle.lnet_model.specs.Values.{value_step, node_value, signal_value}
use Rattle.lnet_model.proofs.Over.{over-once, along_induction}
use Rattle.lnet_model.proofs.Values.{gate_value}
use Rattle.lnet_simulate.specs.Lanes.{lane, lane_of, IsRight, AreSet, IsWordOf}
use Rattle.lnet_simulate.proofs.FaninLemmas.{gate-from}
use Rattle.lnet_simulate.proofs.LaneLemmas.{no-lane}

value-once : (N : NetworkValue) (a : ℕ → Bool) (n : ℕ) (o : Option Entry) → Acyclic N → entry_at N n ≡ o → node_value N a n ≡ at_entry false (λ e. value_step a n e (map {B = Signal × Bool} (λ s. (s, node_value N a s.node.0)) (fanins_of e))) o
value-once N a n o acyclic is = over-once N (value_step a) false acyclic n ∙ ap (at_entry false (λ e. value_step a n e (map {B = Signal × Bool} (λ s. (s, node_value N a s.node.0)) (fanins_of e)))) is

pub input-value : (N : NetworkValue) (a : ℕ → Bool) (n k : ℕ) → Acyclic N → entry_at N n ≡ Some (Input k) → node_value N a n ≡ a k
input-value N a n k acyclic is = value-once N a n (Some (Input k)) acyclic is

-- what is neither a gate nor an input is false
pub other-value : (N : NetworkValue) (a : ℕ → Bool) (n : ℕ) → Acyclic N → gate_at N n ≡ None → ((k : ℕ) → entry_at N n ≡ Some (Input k) → ⊥) → node_value N a n ≡ false
other-value N a n acyclic none no_input = by (entry_at N n) refl
  where
    by : (o : Option Entry) → entry_at N n ≡ o → node_value N a n ≡ false
    by None at = value-once N a n None acyclic at
    by (Some Constant) at = value-once N a n (Some Constant) acyclic at
    by (Some (Input k)) at = absurd (no_input k at)
    by (Some (IsGate g)) at = absurd (let z : Some g ≡ None = sym (ap gate_in at) ∙ none in cc)

-- ---- words of a number

lanes-right : (N : NetworkValue) (inputs ws : List ℕ) (j : ℕ) → j < 64 → (ss : List Signal) → ((m : ℕ) → In m (nodes_read ss) → IsRight N inputs ws m) → map (lane_of ws j) ss ≡ map (signal_value N (lane inputs j)) ss
lanes-right N inputs ws j lt [] right = refl
lanes-right N inputs ws j lt (s ∷ ss) right = λ i. flip s.complement (right s.node.0 (inl refl) j lt i) ∷ lanes-right N inputs ws j lt ss (λ m h. right m (inr h)) i

pub word-of-gate : (N : NetworkValue) (ws : List ℕ) (n w : ℕ) (g : GateValue) → Acyclic N → gate_at N n ≡ Some g → ((j : ℕ) → j < 64 → is_set w j ≡ apply g.op g.phase (map (lane_of ws j) g.fanins)) → IsWordOf N ws n w
word-of-gate N ws n w g acyclic is computes inputs inputs_set read j lt =
    let at = gate-from N n g is in
    let right : (m : ℕ) → In m (nodes_read g.fanins) → IsRight N inputs ws m = (λ m i. read m (subst (λ o. In m (fanin_nodes o)) (sym at) i)) in
    computes j lt ∙ ap (apply g.op g.phase) (lanes-right N inputs ws j lt g.fanins right) ∙ sym (gate_value N (lane inputs j) n g acyclic at)

pub word-of-other : (N : NetworkValue) (ws : List ℕ) (n : ℕ) → Acyclic N → gate_at N n ≡ None → ((k : ℕ) → entry_at N n ≡ Some (Input k) → ⊥) → IsWordOf N ws n 0
word-of-other N ws n acyclic none no_input inputs inputs_set read j lt = no-lane j ∙ sym (other-value N (lane inputs j) n acyclic none no_input)

-- a right word more leaves the others right
pub right-more : (N : NetworkValue) (inputs ws : List ℕ) (n w m : ℕ) → n < length ws → ((j : ℕ) → j < 64 → is_set w j ≡ node_value N (lane inputs j) n) → (m ≢ n → IsRight N inputs ws m) → IsRight N inputs (set ws n w) m
right-more N inputs ws n w m low right old j lt = elim (eqb_tells m n) as (λ _. is_set (get_or (set ws n w) m 0) j ≡ node_value N (lane inputs j) m) [
  | inl p ↦ ap (λ (q : ℕ). is_set (get_or (set ws n w) q 0) j) p.1 ∙ ap (λ (v : ℕ). is_set v j) (get_or-set_same ws n w 0 low) ∙ right j lt ∙ ap (node_value N (lane inputs j)) (sym p.1)
  | inr p ↦ ap (λ (v : ℕ). is_set v j) (get_or-set_other ws n m w 0 p.1) ∙ old p.1 j lt
]

-- ---- the words of the inputs

pub input-below : (N : NetworkValue) (n k : ℕ) → IsStored N → slice_get N.inputs k ≡ Some n → n < numbers_of N
input-below N n k stored at = live-below-numbers N n (ap is_some ((stored.inputs n k).1 at))

same-place : (N : NetworkValue) (n i k : ℕ) → IsStored N → slice_get N.inputs i ≡ Some n → slice_get N.inputs k ≡ Some n → i ≡ k
same-place N n i k stored at_i at_k =
    let z : Some (Input i) ≡ Some (Input k) = sym ((stored.inputs n i).1 at_i) ∙ (stored.inputs n k).1 at_k in
    let e : Input i ≡ Input k = cc in
    cc

-- one input more
pub inputs-more : (N : NetworkValue) (inputs ws : List ℕ) (n k : ℕ) → IsStored N → slice_get N.inputs k ≡ Some n → n < length ws
    → ((i m : ℕ) → i < k → slice_get N.inputs i ≡ Some m → get_or ws m 0 ≡ get_or inputs i 0)
    → (i m : ℕ) → i < k + 1 → slice_get N.inputs i ≡ Some m → get_or (set ws n (get_or inputs k 0)) m 0 ≡ get_or inputs i 0
inputs-more N inputs ws n k stored at low old i m below here = elim (eqb_tells m n) as (λ _. get_or (set ws n (get_or inputs k 0)) m 0 ≡ get_or inputs i 0) [
  | inl p ↦
      let same : i ≡ k = same-place N n i k stored (here ∙ ap (λ (q : ℕ). Some q) p.1) at in
      ap (λ (q : ℕ). get_or (set ws n (get_or inputs k 0)) q 0) p.1 ∙ get_or-set_same ws n (get_or inputs k 0) 0 low ∙ ap (λ (q : ℕ). get_or inputs q 0) (sym same)
  | inr p ↦
      let apart : i ≢ k = (λ e. p.1 (let z : Some m ≡ Some n = sym here ∙ ap (slice_get N.inputs) e ∙ at in cc)) in
      get_or-set_other ws n m (get_or inputs k 0) 0 p.1 ∙ old i m (let ne = apart in omega arith) here
]

-- all inputs
pub inputs-set : (N : NetworkValue) (inputs ws : List ℕ) (k : ℕ) → IsStored N → length inputs ≡ length N.inputs → length inputs ≤ k
    → ((i m : ℕ) → i < k → slice_get N.inputs i ≡ Some m → get_or ws m 0 ≡ get_or inputs i 0) → AreSet N inputs ws
inputs-set N inputs ws k stored sized all set_so n i is j lt =
    let at = (stored.inputs n i).0 is in
    let low = slice_get_within N.inputs i n at in
    ap (λ (v : ℕ). is_set v j) (set_so i n (omega arith) at) ∙ sym (input-value N (lane inputs j) n i stored.dag.acyclic is)

-- ---- one number more of the order

pub pass-more : (N : NetworkValue) (inputs ws : List ℕ) (order : List Node) (i w : ℕ) (d : Node) → length ws ≡ numbers_of N → InOrder N order → i < length order
    → AreSet N inputs ws → ((m : ℕ) → IsBefore order i m → IsRight N inputs ws m) → IsWordOf N ws (get_or order i d).0 w
    → AreSet N inputs (set ws (get_or order i d).0 w) × ((m : ℕ) → IsBefore order (i + 1) m → IsRight N inputs (set ws (get_or order i d).0 w) m)
pass-more N inputs ws order i w d sized ordered within inputs_set right word = (
  λ n k is. right-more N inputs ws (get_or order i d).0 w n low here (λ _. inputs_set n k is),
  λ m before. right-more N inputs ws (get_or order i d).0 w m low here (λ ne. right m (earlier m before ne)),
)
  where
    low : (get_or order i d).0 < length ws
    low = let h = ordered.below i d within in omega arith

    here : (j : ℕ) → j < 64 → is_set w j ≡ node_value N (lane inputs j) (get_or order i d).0
    here = word inputs inputs_set (λ m reads. right m (ordered.after i d m within reads))

    earlier : (m : ℕ) → IsBefore order (i + 1) m → m ≢ (get_or order i d).0 → IsBefore order i m
    earlier m (k, below, at) ne = (
      k,
      let apart : k ≢ i = (λ e. ne (sym (ap (λ (q : Node). q.0) (ap (λ (p : ℕ). get_or order p d) (sym e) ∙ at d)))) in omega arith,
      at,
    )

-- ---- assignments that agree at the inputs give the same values

pub same-values : (N : NetworkValue) (a b : ℕ → Bool) → IsStored N → ((k : ℕ) → k < length N.inputs → a k ≡ b k) → (n : ℕ) → node_value N a n ≡ node_value N b n
same-values N a b stored same n = along_induction N (λ m. node_value N a m ≡ node_value N b m) stored.dag.acyclic step n
  where
    agree : (ss : List Signal) → ((m : ℕ) → In m (nodes_read ss) → node_value N a m ≡ node_value N b m) → map (signal_value N a) ss ≡ map (signal_value N b) ss
    agree [] below = refl
    agree (s ∷ ss) below = λ i. flip s.complement (below s.node.0 (inl refl) i) ∷ agree ss (λ m h. below m (inr h)) i

    place : (k m : ℕ) → entry_at N m ≡ Some (Input k) → k < length N.inputs
    place k m is = slice_get_within N.inputs k m ((stored.inputs m k).0 is)

    step : (m : ℕ) → ((p : ℕ) → In p (fanin_nodes (entry_at N m)) → node_value N a p ≡ node_value N b p) → node_value N a m ≡ node_value N b m
    step m below = by (entry_at N m) refl
      where
        by : (o : Option Entry) → entry_at N m ≡ o → node_value N a m ≡ node_value N b m
        by None at = value-once N a m None stored.dag.acyclic at ∙ sym (value-once N b m None stored.dag.acyclic at)
        by (Some Constant) at = value-once N a m (Some Constant) stored.dag.acyclic at ∙ sym (value-once N b m (Some Constant) stored.dag.acyclic at)
        by (Some (Input k)) at = input-value N a m k stored.dag.acyclic at ∙ same k (place k m at) ∙ sym (input-value N b m k stored.dag.acyclic at)
        by (Some (IsGate g)) at =
            gate_value N a m g stored.dag.acyclic at
            ∙ ap (apply g.op g.phase) (agree g.fanins (λ p i. below p (subst (λ o. In p (fanin_nodes o)) (sym at) i)))
            ∙ sym (gate_value N b m g stored.dag.acyclic at)
