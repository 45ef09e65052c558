-- One replacement in any network: what stays, and what is named afterwards.
use Rattle.std.proofs.Common.{◌≡◌, ◌≢◌, ℕ, cond, List, [], ◌∷◌, map, IsSome, Option, None, Some, refl, sym, ap, subst, ◌∙◌, inl, inr}
use Rattle.std.specs.Prelude.{option_map}
use Rattle.std.proofs.lemmas.Bool.Decides.{eqb_tells}
use Rattle.lnet_gates.specs.declared.signal.Signal.{Signal}
use Rattle.lnet_gates.specs.Gates.{GateValue}
use Rattle.lnet_gates.specs.Operands.{flipped}
use Rattle.lnet_model.specs.Networks.{Entry, Constant, Input, IsGate, NetworkValue, entry_at, fanins_of, IsLive}
use Rattle.lnet_model.specs.Along.{In, IsWhole, Reaches, fanin_nodes, nodes_read}
use Rattle.lnet_model.specs.Changes.{GateAt}
use Rattle.lnet_model.proofs.Along.{live_parent}
use Rattle.lnet_substitution.specs.Replaced.{redirected, redirected_entry, replaced}
use Rattle.lnet_substitution.specs.Substitutions.{SameLeaves}
use Rattle.lnet_substitution.proofs.Replaced.{replaced-apart, replaced-kind, replaced-inputs, replaced-outputs, replaced-some, redirected-constant, redirected-input, redirected-gate, redirected_gate, in_redirected}
use Rattle.lnet_substitution.proofs.Resolving.{redirected-apart}

pub not_constant : (g : GateValue) {P : Type 0} → Some (IsGate g) ≡ Some Constant → P
not_constant g e = cc

pub not_input : (g : GateValue) (k : ℕ) {P : Type 0} → Some (IsGate g) ≡ Some (Input k) → P
not_input g k e = cc

pub gate-live : (N : NetworkValue) (n : ℕ) (g : GateValue) → GateAt N n g → IsLive N n
gate-live N n g at = subst IsSome (sym at) refl

-- the gate's fanins are those of its number
pub gate-fanin : (N : NetworkValue) (n m : ℕ) (g : GateValue) → GateAt N n g → In m (nodes_read g.fanins) → In m (fanin_nodes (entry_at N n))
gate-fanin N n m g at i = subst (λ e. In m (fanin_nodes e)) (sym at) i

pub fanin-gate : (N : NetworkValue) (n m : ℕ) (g : GateValue) → GateAt N n g → In m (fanin_nodes (entry_at N n)) → In m (nodes_read g.fanins)
fanin-gate N n m g at i = subst (λ e. In m (fanin_nodes e)) at i

-- what has a fanin is a gate
pub parent-gate : (N : NetworkValue) (n m : ℕ) → In m (fanin_nodes (entry_at N n)) → (g : GateValue) × GateAt N n g
parent-gate N n m i =
    elim (entry_at N n) as (λ o. In m (fanin_nodes o) → (g : GateValue) × (o ≡ Some (IsGate g))) [
      | None ↦ λ j. absurd j
      | Some e ↦ elim e as (λ e. In m (nodes_read (fanins_of e)) → (g : GateValue) × (Some e ≡ Some (IsGate g))) [ Constant ↦ λ j. absurd j | Input k ↦ λ j. absurd j | IsGate g ↦ λ _. (g, refl) ]
    ] i

pub gate-apart-zero : (N : NetworkValue) (x : ℕ) (g : GateValue) → GateAt N x g → IsWhole N → x ≢ 0
gate-apart-zero N x g at whole e = not_constant g (sym at ∙ ap (entry_at N) e ∙ whole.first)

-- a parent of what reaches o reaches o
pub reaches-up : (N : NetworkValue) (n x o : ℕ) → In x (fanin_nodes (entry_at N n)) → Reaches N x o → Reaches N n o
reaches-up N n x o i d = (x ∷ d.0, (live_parent (entry_at N) n x i, i, d.1), d.2)

pub map-apart : (x : ℕ) (t : Signal) (ss : List Signal) → (In x (nodes_read ss) → ⊥) → map (redirected x t) ss ≡ ss
map-apart x t [] none = refl
map-apart x t (s ∷ ss) none = λ i. redirected-apart x t s (λ e. none (inl (sym e))) i ∷ map-apart x t ss (λ j. none (inr j)) i

-- nothing that was redirected names x
pub not_redirected : (x m : ℕ) (t : Signal) (ss : List Signal) → t.node.0 ≢ x → In m (nodes_read (map (redirected x t) ss)) → m ≢ x
not_redirected x m t [] ne i = absurd i
not_redirected x m t (s ∷ ss) ne (inr i) = not_redirected x m t ss ne i
not_redirected x m t (s ∷ ss) ne (inl e) =
    elim (eqb_tells s.node.0 x) as (λ _. m ≢ x) [
      | inl p ↦ λ is. ne (sym (subst (λ b. m ≡ (cond b (flipped s.complement t) s).node.0) p.0 e) ∙ is)
      | inr p ↦ λ is. p.1 (sym (subst (λ b. m ≡ (cond b (flipped s.complement t) s).node.0) p.0 e) ∙ is)
    ]

some_after : (x : ℕ) (t : Signal) (o : Option Entry) → IsSome o → IsSome (option_map (redirected_entry x t) o)
some_after x t None h = h
some_after x t (Some e) h = refl

module _ (C : NetworkValue) (x : ℕ) (t : Signal) (gx : GateValue) (at_x : GateAt C x gx) where
  pub leaves-replaced : SameLeaves C (replaced C x t)
  leaves-replaced = record {
    kind = replaced-kind C x t;
    inputs = replaced-inputs C x t;
    constant = λ n. (
      λ h. replaced-apart C x t n (λ e. not_constant gx (sym at_x ∙ sym (ap (entry_at C) e) ∙ h)) ∙ ap (option_map (redirected_entry x t)) h,
      λ h. let r = replaced-some C x t n Constant h in r.1 ∙ ap Some (redirected-constant x t r.0 r.2),
    );
    input = λ n k. (
      λ h. replaced-apart C x t n (λ e. not_input gx k (sym at_x ∙ sym (ap (entry_at C) e) ∙ h)) ∙ ap (option_map (redirected_entry x t)) h,
      λ h. let r = replaced-some C x t n (Input k) h in r.1 ∙ ap Some (redirected-input x k t r.0 r.2),
    );
  }

  -- a gate was one before, with its fanins redirected
  pub replaced-gate : (n : ℕ) (g : GateValue) → GateAt (replaced C x t) n g → (h : GateValue) × GateAt C n h × (redirected_gate x t h ≡ g) × (n ≢ x)
  replaced-gate n g at =
      let r = replaced-some C x t n (IsGate g) at in
      let q = redirected-gate x t r.0 g r.2 in
      (q.0, r.1 ∙ ap Some q.1, q.2, r.3)

  pub gate-after : (n : ℕ) (g : GateValue) → GateAt C n g → n ≢ x → GateAt (replaced C x t) n (redirected_gate x t g)
  gate-after n g at ne = replaced-apart C x t n ne ∙ ap (option_map (redirected_entry x t)) at

  pub gate-stays : (n : ℕ) (g : GateValue) → GateAt C n g → n ≢ x → (In x (nodes_read g.fanins) → ⊥) → GateAt (replaced C x t) n g
  gate-stays n g at ne none = gate-after n g at ne ∙ ap (λ ss. Some (IsGate (record { op = g.op; phase = g.phase; fanins = ss }))) (map-apart x t g.fanins none)

  -- a gate that x was no fanin of is as it was
  pub gate-was : (n : ℕ) (g : GateValue) → GateAt (replaced C x t) n g → (In x (fanin_nodes (entry_at C n)) → ⊥) → GateAt C n g
  gate-was n g at none =
      let r = replaced-gate n g at in
      r.1 ∙ ap (λ ss. Some (IsGate (record { op = r.0.op; phase = r.0.phase; fanins = ss }))) (sym (map-apart x t r.0.fanins (λ i. none (gate-fanin C n x r.0 r.1 i)))) ∙ ap (λ g. Some (IsGate g)) r.2

  pub live-stays : (n : ℕ) → n ≢ x → IsLive C n → IsLive (replaced C x t) n
  live-stays n ne live = subst IsSome (sym (replaced-apart C x t n ne)) (some_after x t (entry_at C n) live)

  named-live : (m : ℕ) (ss : List Signal) → t.node.0 ≢ x → IsLive C t.node.0 → ((k : ℕ) → In k (nodes_read ss) → IsLive C k) → In m (nodes_read (map (redirected x t) ss)) → IsLive (replaced C x t) m
  named-live m ss ne live all i =
      live-stays m (not_redirected x m t ss ne i) (elim (in_redirected x m t ss i) as (λ _. IsLive C m) [ inl j ↦ all m j | inr p ↦ subst (IsLive C) (sym p.0) live ])

  pub whole-replaced : IsWhole C → t.node.0 ≢ x → IsLive C t.node.0 → IsWhole (replaced C x t)
  whole-replaced whole ne live = record {
    first = (leaves-replaced.constant 0).0 whole.first;
    closed = λ n m i. (
        let p = parent-gate (replaced C x t) n m i in
        let r = replaced-gate n p.0 p.1 in
        let j = fanin-gate (replaced C x t) n m p.0 p.1 i in
        named-live m r.0.fanins ne live (λ k l. whole.closed n k (gate-fanin C n k r.0 r.1 l)) (subst (λ (g : GateValue). In m (nodes_read g.fanins)) (sym r.2) j)
        );
    outputs_live = λ m i. named-live m C.outputs ne live whole.outputs_live (subst (λ ss. In m (nodes_read ss)) (replaced-outputs C x t) i);
  }

pub leaves-twice : (A B C : NetworkValue) → SameLeaves A B → SameLeaves B C → SameLeaves A C
leaves-twice A B C p q = record {
  kind = q.kind ∙ p.kind;
  inputs = q.inputs ∙ p.inputs;
  constant = λ n. (λ h. (q.constant n).0 ((p.constant n).0 h), λ h. (p.constant n).1 ((q.constant n).1 h));
  input = λ n k. (λ h. (q.input n k).0 ((p.input n k).0 h), λ h. (p.input n k).1 ((q.input n k).1 h));
}
