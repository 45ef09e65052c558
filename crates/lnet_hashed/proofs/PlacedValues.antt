-- What is placed has the gate's value, and the rest keeps its values.
use Rattle.std.proofs.Common.{◌≡◌, ℕ, ◌<◌, ◌≤◌, Bool, true, false, map, length, IsSome, Option, None, Some, refl, sym, ap, subst, ◌∙◌, inl, inr, arith}
use Rattle.lnet_gates.specs.declared.signal.Signal.{Signal}
use Rattle.lnet_gates.specs.declared.gate.Kind.{Kind}
use Rattle.lnet_gates.specs.declared.normal.Normal.{Normal}
use Rattle.lnet_gates.specs.declared.normal.Normal.TheVariants.{Is, Gate}
use Rattle.lnet_gates.specs.Gates.{GateValue, KeyValue, flip, operate, apply}
use Rattle.lnet_gates.specs.Natives.{IsNativeGate}
use Rattle.lnet_gates.specs.Plans.{Takes}
use Rattle.lnet_gates.specs.Operands.{flipped}
use Rattle.lnet_gates.specs.NormalLaws.{NamesOnly, IsNativeForm, keyed_gate, form_reading}
use Rattle.lnet_gates.specs.Lawful.OperandLemmas.{read-flipped}
use Rattle.lnet_gates.specs.Forms.{form_of}
use Rattle.lnet_gates.specs.Lawful.KindLaws.{kind_laws}
use Rattle.lnet_model.specs.Networks.{NetworkValue, IsGate, IsLive, live_count}
use Rattle.lnet_model.specs.Along.{nodes_read}
use Rattle.lnet_model.specs.Values.{node_value, signal_value}
use Rattle.lnet_model.specs.Changes.{AreLive}
use Rattle.lnet_model.specs.Dags.{IsStored, NUMBERS}
use Rattle.lnet_model.proofs.Values.{gate_value}
use Rattle.lnet_model.proofs.Changes.{with_entry-here}
use Rattle.lnet_model.proofs.Stored.{stored-add}
use Rattle.lnet_hashed.specs.Strashed.{found, least_free, Placed, placed, placed_form, placed_key, newly_placed}
use Rattle.lnet_hashed.proofs.Adding.{count-added, least-free-is, least-low}
use Rattle.lnet_hashed.proofs.Places.{named-read, first-live, key-live}
use Rattle.lnet_hashed.proofs.KeyLemmas.{IsFound, found-key}
use Rattle.lnet_hashed.proofs.Extensions.{Extends, extends-self, extends-signals, extends-added, value-first}

-- a network that a store can keep, which extends the one before, and a live signal of it with this value under each assignment
pub record Stands (N : NetworkValue) (value : (ℕ → Bool) → Bool) (p : Placed) : Type 0 where
  pub stored : IsStored p.network
  pub extends : Extends N p.network
  pub live : IsLive p.network p.signal.node.0
  pub valued : (a : ℕ → Bool) → signal_value p.network a p.signal ≡ value a

-- the same for another account of the value
pub stands-as : (N : NetworkValue) (v w : (ℕ → Bool) → Bool) (p : Placed) → ((a : ℕ → Bool) → v a ≡ w a) → Stands N v p → Stands N w p
stands-as N v w p same h = record { stored = h.stored; extends = h.extends; live = h.live; valued = λ a. h.valued a ∙ same a }

-- the value of a gate on the values of a network
abbrev pub value_on : NetworkValue → GateValue → (ℕ → Bool) → Bool
value_on N g a = apply g.op g.phase (map (signal_value N a) g.fanins)

-- ---- how many nodes there are

grows-key : (N : NetworkValue) (k : KeyValue) (phase : Bool) (o : Option Signal) → live_count N ≤ live_count (placed_key N k phase o).network
grows-key N k phase None = let more = count-added N (least_free N) (IsGate (keyed_gate k false)) (least-free-is N).free in omega arith
grows-key N k phase (Some s) = omega arith

grows-form : (N : NetworkValue) (f : Normal) → live_count N ≤ live_count (placed_form N f).network
grows-form N (Is s) = omega arith
grows-form N (Gate k phase) = grows-key N k phase (found N k)

-- no node goes as a gate is placed
pub placed-grows : (kind : Kind) (N : NetworkValue) (g : GateValue) → live_count N ≤ live_count (placed kind N g).network
unfolding placed
placed-grows kind N g = grows-form N (form_of kind g)

-- ---- at the gate that has the key

flip-twice : (c b : Bool) → flip c (flip c b) ≡ b
flip-twice true true = refl
flip-twice true false = refl
flip-twice false b = refl

found-value : (N : NetworkValue) (k : KeyValue) (s : Signal) → IsStored N → IsFound N k s → (a : ℕ → Bool) → signal_value N a s ≡ operate k.op (map (signal_value N a) k.fanins)
found-value N k s stored f a =
    ap (flip s.complement) (gate_value N a s.node.0 f.gate stored.dag.acyclic f.at)
    ∙ ap (λ c. flip s.complement (flip c (operate f.gate.op (map (signal_value N a) f.gate.fanins)))) f.phase
    ∙ flip-twice s.complement (operate f.gate.op (map (signal_value N a) f.gate.fanins))
    ∙ ap (λ (l : KeyValue). operate l.op (map (signal_value N a) l.fanins)) f.key

pub stands-found : (N : NetworkValue) (k : KeyValue) (phase : Bool) (s : Signal) → IsStored N → IsFound N k s → Stands N (value_on N (keyed_gate k phase)) (record { network = N; signal = flipped phase s })
stands-found N k phase s stored f = record {
  stored = stored;
  extends = extends-self N;
  live = subst IsSome (sym f.at) refl;
  valued = λ a. read-flipped (node_value N a) phase s ∙ ap (flip phase) (found-value N k s stored f a);
}

-- ---- newly

module _ (N : NetworkValue) (k : KeyValue) (phase : Bool) (stored : IsStored N) (live : AreLive N (nodes_read k.fanins)) (takes : Takes k.op (length k.fanins)) (few : live_count (newly_placed N k phase).network ≤ NUMBERS) where
  below : least_free N < NUMBERS
  below =
      let free = least-free-is N in
      let low = least-low N (least_free N) free in
      let more = count-added N (least_free N) (IsGate (keyed_gate k false)) free.free in
      omega arith

  new-stored : IsStored (newly_placed N k phase).network
  new-stored = stored-add N (least_free N) (keyed_gate k false) stored (least-free-is N).free live takes below

  new-extends : Extends N (newly_placed N k phase).network
  new-extends = extends-added N (least_free N) (keyed_gate k false) stored (least-free-is N).free live

  pub stands-new : Stands N (value_on N (keyed_gate k phase)) (newly_placed N k phase)
  stands-new = record {
    stored = new-stored;
    extends = new-extends;
    live = subst IsSome (sym (with_entry-here N (least_free N) (IsGate (keyed_gate k false)))) refl;
    valued = λ a.
        ap (flip phase) (gate_value (newly_placed N k phase).network a (least_free N) (keyed_gate k false) new-stored.dag.acyclic (with_entry-here N (least_free N) (IsGate (keyed_gate k false))))
        ∙ ap (λ vs. flip phase (operate k.op vs)) (extends-signals N (newly_placed N k phase).network new-extends a k.fanins live);
  }

-- ---- what is placed

stands-key : (N : NetworkValue) (k : KeyValue) (phase : Bool) (o : Option Signal) → found N k ≡ o → IsStored N → AreLive N (nodes_read k.fanins) → Takes k.op (length k.fanins) → live_count (placed_key N k phase o).network ≤ NUMBERS → Stands N (value_on N (keyed_gate k phase)) (placed_key N k phase o)
stands-key N k phase None is stored live takes few = stands-new N k phase stored live takes few
stands-key N k phase (Some s) is stored live takes few = stands-found N k phase s stored (found-key N k s is)

module _ (kind : Kind) (N : NetworkValue) (g : GateValue) (stored : IsStored N) (native : IsNativeGate kind g) (live : AreLive N (nodes_read g.fanins)) where
  -- the value of the normal form is the gate's
  form-valued : (f : Normal) → form_of kind g ≡ f → (a : ℕ → Bool) → form_reading (node_value N a) f ≡ value_on N g a
  form-valued f is a = ap (form_reading (node_value N a)) (sym is) ∙ (kind_laws kind).value (node_value N a) g (value-first N a stored.dag.acyclic stored.whole) native

  stands-form : (f : Normal) → form_of kind g ≡ f → live_count (placed_form N f).network ≤ NUMBERS → Stands N (value_on N g) (placed_form N f)
  stands-form (Is s) is few = record {
    stored = stored;
    extends = extends-self N;
    live = elim (subst (NamesOnly g.fanins) is ((kind_laws kind).names g native)) as (λ _. IsLive N s.node.0) [
      | inl named ↦ live s.node.0 (named-read s.node.0 g.fanins named)
      | inr zero ↦ subst (IsLive N) (sym zero) (first-live N stored.whole)
    ];
    valued = form-valued (Is s) is;
  }
  stands-form (Gate k phase) is few =
      stands-as N (value_on N (keyed_gate k phase)) (value_on N g) (placed_key N k phase (found N k)) (form-valued (Gate k phase) is)
      (stands-key N k phase (found N k) refl stored (key-live N g (form_of kind g) k phase stored.whole live ((kind_laws kind).names g native) is) (subst (IsNativeForm (IsNativeGate kind)) is ((kind_laws kind).native g native)).takes few)

  -- a gate of the kind on live fanins is placed: the signal has its value, and the rest keeps its values
  pub placed-stands : live_count (placed kind N g).network ≤ NUMBERS → Stands N (value_on N g) (placed kind N g)
  unfolding placed
  placed-stands few = stands-form (form_of kind g) refl few
