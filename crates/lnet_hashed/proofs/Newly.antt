-- What placing a gate does to the nodes that are there, and how a new node is taken back.
use Rattle.std.proofs.Common.{◌≡◌, ℕ, ◌<◌, ◌≤◌, ◌⊎◌, Bool, false, List, [], ◌∷◌, ◌++◌, Option, None, Some, reverse, refl, sym, ap, subst, inl, inr, arith}
use Rattle.lnet_gates.specs.declared.signal.Signal.{Signal}
use Rattle.lnet_gates.specs.declared.signal.Node.{Node}
use Rattle.lnet_gates.specs.declared.normal.Normal.{Normal}
use Rattle.lnet_gates.specs.declared.normal.Normal.TheVariants.{Is, Gate}
use Rattle.lnet_gates.specs.Gates.{GateValue, KeyValue}
use Rattle.lnet_gates.specs.NormalLaws.{NamesOnly, keyed_gate}
use Rattle.lnet_gates.specs.Forms.{form_of}
use Rattle.lnet_gates.specs.declared.gate.Kind.{Kind}
use Rattle.lnet_model.specs.Networks.{NetworkValue, IsGate, IsLive, entry_at, live_count}
use Rattle.lnet_model.specs.Along.{nodes_read}
use Rattle.lnet_model.specs.Changes.{with_entry, AreLive}
use Rattle.lnet_model.specs.Dags.{IsStored}
use Rattle.lnet_model.proofs.Changes.{with_entry-here}
use Rattle.lnet_model.proofs.Stored.{with-live, take_back}
use Rattle.lnet_hashed.proofs.Unnamed.{references-new}
use Rattle.lnet_hashed.specs.Strashed.{Placed, found, least_free, placed, placed_form, placed_key, newly_placed}
use Rattle.lnet_hashed.specs.Undoing.{undone, IsUndoable}
use Rattle.lnet_hashed.proofs.Adding.{count-added, least-free-is}
use Rattle.lnet_hashed.proofs.Places.{key-live}
use Rattle.std.proofs.lemmas.List.{reverse-append}

-- a form that is placed newly
pub record IsPlacedNewly (N : NetworkValue) (form : Normal) : Type 0 where
  pub key : KeyValue
  pub phase : Bool
  pub form_is : form ≡ Gate key phase
  pub placed_is : placed_form N form ≡ newly_placed N key phase

pub placed-either : (N : NetworkValue) (form : Normal) → ((placed_form N form).network ≡ N) ⊎ IsPlacedNewly N form
placed-either N (Is s) = inl refl
placed-either N (Gate k phase) = go (found N k) refl
  where
    go : (o : Option Signal) → found N k ≡ o → ((placed_form N (Gate k phase)).network ≡ N) ⊎ IsPlacedNewly N (Gate k phase)
    go None e = inr (record { key = k; phase = phase; form_is = refl; placed_is = ap (placed_key N k phase) e })
    go (Some s) e = inl (ap (λ o. (placed_key N k phase o).network) e)

-- what is live stays so
pub form-keeps-live : (N : NetworkValue) (form : Normal) (m : ℕ) → IsLive N m → IsLive (placed_form N form).network m
form-keeps-live N form m live = elim (placed-either N form) [
  | inl same ↦ subst (λ X. IsLive X m) (sym same) live
  | inr new ↦ subst (λ (p : Placed). IsLive p.network m) (sym new.placed_is) (with-live N (least_free N) (IsGate (keyed_gate new.key false)) m live)
]

pub placed-keeps-live : (kind : Kind) (N : NetworkValue) (g : GateValue) (m : ℕ) → IsLive N m → IsLive (placed kind N g).network m
unfolding placed
placed-keeps-live kind N g m live = form-keeps-live N (form_of kind g) m live

form-grows : (N : NetworkValue) (form : Normal) → live_count N ≤ live_count (placed_form N form).network
form-grows N form = elim (placed-either N form) [
  | inl same ↦ (let e = ap live_count same in omega arith)
  | inr new ↦ (
      let e = ap (λ (p : Placed). live_count p.network) new.placed_is in
      let more = count-added N (least_free N) (IsGate (keyed_gate new.key false)) (least-free-is N).free in
      omega arith
      )
]

pub placed-grows : (kind : Kind) (N : NetworkValue) (g : GateValue) → live_count N ≤ live_count (placed kind N g).network
unfolding placed
placed-grows kind N g = form-grows N (form_of kind g)

-- with no more nodes than before, nothing was added
pub form-same : (N : NetworkValue) (form : Normal) → live_count (placed_form N form).network ≤ live_count N → (placed_form N form).network ≡ N
form-same N form few = elim (placed-either N form) [
  | inl same ↦ same
  | inr new ↦ (
      let e = ap (λ (p : Placed). live_count p.network) new.placed_is in
      let more = count-added N (least_free N) (IsGate (keyed_gate new.key false)) (least-free-is N).free in
      absurd (omega arith)
      )
]

pub placed-same : (kind : Kind) (N : NetworkValue) (g : GateValue) → live_count (placed kind N g).network ≤ live_count N → (placed kind N g).network ≡ N
unfolding placed
placed-same kind N g few = form-same N (form_of kind g) few

-- what takes back the new node n of M, and then the others
pub record IsTakenBack (N M : NetworkValue) (n : Node) (ns : List Node) : Type 0 where
  pub may : IsUndoable (n ∷ ns) M
  pub back : undone (n ∷ ns) M ≡ undone ns N

new-taken : (N : NetworkValue) (g : GateValue) (n : Node) (ns : List Node) → IsStored N → entry_at N n.0 ≡ None → AreLive N (nodes_read g.fanins) → IsUndoable ns N → IsTakenBack N (with_entry N n.0 (IsGate g)) n ns
new-taken N g n ns stored free live may =
    let back = take_back N n.0 (IsGate g) free in
    record {
      may = ((g, with_entry-here N n.0 (IsGate g)), references-new N n.0 g stored free live, subst (IsUndoable ns) (sym back) may);
      back = ap (undone ns) back;
    }

pub form-taken : (N : NetworkValue) (g : GateValue) (form : Normal) (ns : List Node) → IsStored N → AreLive N (nodes_read g.fanins) → NamesOnly g.fanins form → IsUndoable ns N → live_count N < live_count (placed_form N form).network → IsTakenBack N (placed_form N form).network (placed_form N form).signal.node ns
form-taken N g form ns stored live names may more = elim (placed-either N form) [
  | inl same ↦ (let e = ap live_count same in absurd (omega arith))
  | inr new ↦ subst (λ (p : Placed). IsTakenBack N p.network p.signal.node ns) (sym new.placed_is) (
      new-taken N (keyed_gate new.key false) (record { 0 = least_free N }) ns stored (least-free-is N).free (key-live N g form new.key new.phase stored.whole live names new.form_is) may
      )
]

pub placed-taken : (kind : Kind) (N : NetworkValue) (g : GateValue) (ns : List Node) → IsStored N → AreLive N (nodes_read g.fanins) → NamesOnly g.fanins (form_of kind g) → IsUndoable ns N → live_count N < live_count (placed kind N g).network → IsTakenBack N (placed kind N g).network (placed kind N g).signal.node ns
unfolding placed
placed-taken kind N g ns stored live names may more = form-taken N g (form_of kind g) ns stored live names may more

pub reverse-after : (ns : List Node) (n : Node) → reverse (ns ++ n ∷ []) ≡ n ∷ reverse ns
reverse-after ns n = reverse-append ns (n ∷ [])
