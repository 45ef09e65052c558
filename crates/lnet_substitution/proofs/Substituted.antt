-- What a substitution keeps, and that what stands for the nodes is determined.
use Rattle.std.proofs.Common.{◌≡◌, ◌≢◌, ℕ, Bool, true, false, List, [], ◌∷◌, map, IsSome, None, Some, refl, sym, ap, subst, ◌∙◌, inl, inr}
use Rattle.lnet_gates.specs.declared.signal.Signal.{Signal}
use Rattle.lnet_gates.specs.declared.gate.Kind.{Kind}
use Rattle.lnet_gates.specs.declared.normal.Normal.{Normal}
use Rattle.lnet_gates.specs.declared.normal.Normal.TheVariants.{Is, Gate}
use Rattle.lnet_gates.specs.Gates.{GateValue, flip}
use Rattle.lnet_gates.specs.Operands.{flipped, moved}
use Rattle.lnet_gates.specs.Natives.{IsNativeGate}
use Rattle.lnet_gates.specs.NormalLaws.{replaced_in}
use Rattle.lnet_gates.specs.Forms.{form_of}
use Rattle.lnet_model.specs.Networks.{Constant, Input, IsGate, NetworkValue, entry_at, IsLive}
use Rattle.lnet_model.specs.Along.{In, Acyclic, IsClosed, IsWhole, nodes_read}
use Rattle.lnet_model.specs.Values.{node_value, signal_value, network_outputs}
use Rattle.lnet_model.specs.Changes.{GateAt}
use Rattle.lnet_model.proofs.Over.{along_induction}
use Rattle.lnet_hashed.specs.Strashed.{IsStrashed}
use Rattle.lnet_hashed.proofs.Strashing.{strashed-fewer}
use Rattle.lnet_substitution.specs.Replaced.{replaced}
use Rattle.lnet_substitution.specs.Representatives.{StandsFor, Represents}
use Rattle.lnet_substitution.specs.Substitutions.{CanSubstitute, SameLeaves, IsTidy, Substitutes}
use Rattle.lnet_substitution.proofs.Replaced.{replaced-Acyclic}
use Rattle.lnet_substitution.proofs.Resolving.{same-gates}
use Rattle.lnet_substitution.proofs.OneReplaced.{gate-live, gate-fanin, leaves-replaced, whole-replaced}
use Rattle.lnet_substitution.proofs.Merging.{natives-replaced}
use Rattle.lnet_substitution.proofs.Dropping.{dropped-Acyclic, dropped-IsWhole, dropped-named}
use Rattle.lnet_substitution.proofs.Values.{outputs-represented, outputs-dropped, outputs-replaced}

pub leaves-between : (A B C : NetworkValue) → SameLeaves A B → SameLeaves A C → SameLeaves B C
leaves-between A B C p q = record {
  kind = q.kind ∙ sym p.kind;
  inputs = q.inputs ∙ sym p.inputs;
  constant = λ n. (λ h. (q.constant n).0 ((p.constant n).1 h), λ h. (p.constant n).0 ((q.constant n).1 h));
  input = λ n k. (λ h. (q.input n k).0 ((p.input n k).1 h), λ h. (p.input n k).0 ((q.input n k).1 h));
}

module _ (kind : Kind) (N : NetworkValue) (o : ℕ) (s : Signal) (can : CanSubstitute kind N o s) where
  pub target-apart : s.node.0 ≢ o
  target-apart e = can.free ([], can.live, e)

  pub replaced-is-Acyclic : Acyclic (replaced N o s)
  replaced-is-Acyclic = replaced-Acyclic N o s (gate-live N o can.gate.0 can.gate.1) can.acyclic can.free

  pub replaced-is-IsWhole : IsWhole (replaced N o s)
  replaced-is-IsWhole = whole-replaced N o s can.gate.0 can.gate.1 can.whole target-apart can.live

  pub replaced-natives : (n : ℕ) (g : GateValue) → GateAt (replaced N o s) n g → IsNativeGate kind g
  replaced-natives = natives-replaced kind N o s can.gate.0 can.gate.1 can.strashed.native

  module _ (Q : NetworkValue) (h : Substitutes kind N o s Q) where
    -- a substitution has the outputs of the network with the node replaced
    pub substituted-outputs : (a : ℕ → Bool) → network_outputs Q a ≡ network_outputs (replaced N o s) a
    substituted-outputs a =
        outputs-dropped N h.merged Q a h.merges.acyclic h.merges.whole h.drops
        ∙ outputs-represented kind h.merged (replaced N o s) h.rep a h.merges.acyclic replaced-is-Acyclic replaced-is-IsWhole.closed h.merges.whole.first
        (leaves-between N (replaced N o s) h.merged (leaves-replaced N o s can.gate.0 can.gate.1) h.merges.leaves)
        replaced-natives h.merges.nodes h.merges.outputs replaced-is-IsWhole.outputs_live

    pub substituted-same : (a : ℕ → Bool) → signal_value N a s ≡ node_value N a o → network_outputs Q a ≡ network_outputs N a
    substituted-same a same = substituted-outputs a ∙ outputs-replaced N o s a can.acyclic (gate-live N o can.gate.0 can.gate.1) can.free target-apart same

    pub substituted-Acyclic : Acyclic Q
    substituted-Acyclic = dropped-Acyclic N h.merged Q h.merges.acyclic h.merges.whole h.drops

    pub substituted-IsWhole : IsWhole Q
    substituted-IsWhole = dropped-IsWhole N h.merged Q h.merges.acyclic h.merges.whole h.drops

    pub substituted-IsStrashed : IsStrashed kind Q
    substituted-IsStrashed = strashed-fewer kind Q h.merged (λ n g at. (h.drops.gates n g at).0) h.merges.strashed

    pub substituted-IsTidy : IsTidy N → IsTidy Q
    substituted-IsTidy tidy = dropped-named N h.merged Q h.merges.acyclic h.merges.whole h.drops (λ n g. tidy n (h.merges.own n g.0 g.1).1)

-- ---- in a hashed network a node has one representative

back-again : (c p q : Bool) → flip c p ≡ q → c ≡ flip q p
back-again true true q e = ap (λ z. flip z true) e
back-again true false q e = ap (λ z. flip z false) e
back-again false true q e = ap (λ z. flip z true) e
back-again false false q e = ap (λ z. flip z false) e

-- one signal stands for a normal form
one-stands : (kind : Kind) (P : NetworkValue) → IsStrashed kind P → (f : Normal) (t u : Signal) → StandsFor P f t → StandsFor P f u → t ≡ u
one-stands kind P strashed (Is s) t u h k = sym h ∙ k
one-stands kind P strashed (Gate k phase) t u (g, at, key, phases) (j, bt, other, turned) =
    let node : t.node.0 ≡ u.node.0 = strashed.apart t.node.0 u.node.0 g j at bt (sym key ∙ other) in
    let gate : g ≡ j = same-gates (sym at ∙ ap (entry_at P) node ∙ bt) in
    let left : t.complement ≡ flip phase g.phase = back-again t.complement g.phase phase (sym phases) in
    let right : u.complement ≡ flip phase j.phase = back-again u.complement j.phase phase (sym turned) in
    let complement : t.complement ≡ u.complement = left ∙ ap (λ (x : GateValue). flip phase x.phase) gate ∙ sym right in
    λ i. record { node = record { 0 = node i }; complement = complement i }

moved-same : (r q : ℕ → Signal) (ss : List Signal) → ((m : ℕ) → In m (nodes_read ss) → r m ≡ q m) → map (moved r) ss ≡ map (moved q) ss
moved-same r q [] same = refl
moved-same r q (s ∷ ss) same = λ i. flipped s.complement (same s.node.0 (inl refl) i) ∷ moved-same r q ss (λ m j. same m (inr j)) i

pub one-representative : (kind : Kind) (P M : NetworkValue) (r q : ℕ → Signal) → IsStrashed kind P → Acyclic M → IsClosed M → Represents kind P M r → Represents kind P M q → (n : ℕ) → IsLive M n → r n ≡ q n
one-representative kind P M r q strashed acyclic closed R S = along_induction M (λ n. IsLive M n → r n ≡ q n) acyclic (λ n below live.
    elim (entry_at M n) as (λ o. entry_at M n ≡ o → IsSome o → r n ≡ q n) [
      | None ↦ λ _ l. cc
      | Some e ↦ elim e as (λ e. entry_at M n ≡ Some e → IsSome (Some e) → r n ≡ q n) [
        | Constant ↦ λ at _. R.leaf n (inl at) ∙ sym (S.leaf n (inl at))
        | Input k ↦ λ at _. R.leaf n (inr (k, at)) ∙ sym (S.leaf n (inr (k, at)))
        | IsGate g ↦ λ at _.
            let fanins = moved-same r q g.fanins (λ m i. (let j = gate-fanin M n m g at i in below m j (closed n m j))) in
            one-stands kind P strashed (form_of kind (replaced_in r g)) (r n) (q n) (R.gate n g at)
            (subst (λ ss. StandsFor P (form_of kind (record { op = g.op; phase = g.phase; fanins = ss })) (q n)) (sym fanins) (S.gate n g at))
      ]
    ] refl live)
