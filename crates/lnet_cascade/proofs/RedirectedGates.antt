-- One gate reads t in place of x.
use Rattle.std.proofs.Common.{◌≡◌, ◌≢◌, ℕ, ◌<◌, ◌⊎◌, [], ◌∷◌, map, IsSome, Option, None, Some, refl, sym, ap, subst, ◌∙◌, inl, inr}
use Rattle.std.specs.Prelude.{option_map}
use Rattle.std.proofs.lemmas.Bool.Decides.{eqb_tells}
use Rattle.lnet_gates.specs.declared.signal.Signal.{Signal}
use Rattle.lnet_gates.specs.Gates.{GateValue}
use Rattle.lnet_model.specs.Networks.{Entry, Constant, Input, IsGate, NetworkValue, entry_at, IsLive, live_count}
use Rattle.lnet_model.specs.Along.{In, Depends, Reaches, fanin_nodes, nodes_read}
use Rattle.lnet_model.specs.Changes.{GateAt, AreLive, with_entry}
use Rattle.lnet_model.specs.Dags.{IsStored, AreBelow}
use Rattle.lnet_model.proofs.Changes.{with_entry-here, with_entry-apart}
use Rattle.lnet_substitution.specs.Replaced.{redirected, redirected_entry}
use Rattle.lnet_substitution.proofs.Jumps.{jumps-free, reaches-on}
use Rattle.lnet_substitution.proofs.Replaced.{in_redirected, redirected_gate}
use Rattle.lnet_substitution.proofs.OneReplaced.{gate-live, gate-fanin, map-apart, not_redirected}
use Rattle.lnet_cascade.specs.Redirections.{RedirectedAt}

-- one gate stands at one number
pub one-gate : {g h : GateValue} → Some (IsGate g) ≡ Some (IsGate h) → g ≡ h
one-gate e = cc

-- numbers stay below where a gate is set
pub below-set : (N : NetworkValue) (n room : ℕ) (g h : GateValue) → GateAt N n h → AreBelow N room → AreBelow (with_entry N n (IsGate g)) room
below-set N n room g h at below m live = elim (eqb_tells m n) as (λ _. m < room) [
  | inl p ↦ below m (subst (IsLive N) (sym p.1) (gate-live N n h at))
  | inr p ↦ below m (subst IsSome (with_entry-apart N n (IsGate g) m p.1) live)
]

-- a gate that reads x is another one afterwards
pub redirected-differs : (x : ℕ) (t : Signal) (g : GateValue) → In x (nodes_read g.fanins) → t.node.0 ≢ x → redirected_gate x t g ≡ g → ⊥
redirected-differs x t g names apart is = not_redirected x x t g.fanins apart (subst (λ (h : GateValue). In x (nodes_read h.fanins)) (sym is) names) refl

module _ (N : NetworkValue) (i x : ℕ) (t : Signal) (g : GateValue) (at : GateAt N i g) (names : In x (nodes_read g.fanins)) (stored : IsStored N) (live : IsLive N t.node.0) (free : Depends N t x → ⊥) where
  abbrev after : NetworkValue
  after = with_entry N i (IsGate (redirected_gate x t g))

  live_x : IsLive N x
  live_x = stored.whole.closed i x (gate-fanin N i x g at names)

  pub redirected-live : AreLive N (nodes_read (map (redirected x t) g.fanins))
  redirected-live m j = elim (in_redirected x m t g.fanins j) as (λ _. IsLive N m) [
    | inl k ↦ stored.whole.closed i m (gate-fanin N i m g at k)
    | inr p ↦ subst (IsLive N) (sym p.0) live
  ]

  -- no fanin depends on the gate
  pub redirected-free : (m : ℕ) → In m (nodes_read (map (redirected x t) g.fanins)) → Reaches N m i → ⊥
  redirected-free m j r = elim (in_redirected x m t g.fanins j) as (λ _. ⊥) [
    | inl k ↦ stored.dag.acyclic i m r.0 (gate-live N i g at, gate-fanin N i m g at k, r.1) r.2
    | inr p ↦ free (reaches-on N t.node.0 i x (subst (λ z. Reaches N z i) p.0 r) (x ∷ [], (gate-live N i g at, gate-fanin N i x g at names, live_x), refl))
  ]

  live_old : (n : ℕ) → IsLive after n → IsLive N n
  live_old n h =
      elim (eqb_tells n i) as (λ _. IsLive N n) [
        | inl p ↦ subst (IsLive N) (sym p.1) (gate-live N i g at)
        | inr p ↦ subst IsSome (with_entry-apart N i (IsGate (redirected_gate x t g)) n p.1) h
      ]

  step_old : (n m : ℕ) → In m (fanin_nodes (entry_at after n)) → In m (fanin_nodes (entry_at N n)) ⊎ ((m ≡ t.node.0) × In x (fanin_nodes (entry_at N n)))
  step_old n m j =
      elim (eqb_tells n i) as (λ _. In m (fanin_nodes (entry_at N n)) ⊎ ((m ≡ t.node.0) × In x (fanin_nodes (entry_at N n)))) [
        | inl p ↦ elim (in_redirected x m t g.fanins (subst (λ o. In m (fanin_nodes o)) (ap (entry_at after) p.1 ∙ with_entry-here N i (IsGate (redirected_gate x t g))) j)) as (λ _. In m (fanin_nodes (entry_at N n)) ⊎ ((m ≡ t.node.0) × In x (fanin_nodes (entry_at N n)))) [
          | inl k ↦ inl (gate-fanin N n m g (ap (entry_at N) p.1 ∙ at) k)
          | inr q ↦ inr (q.0, gate-fanin N n x g (ap (entry_at N) p.1 ∙ at) q.1)
        ]
        | inr p ↦ inl (subst (λ o. In m (fanin_nodes o)) (with_entry-apart N i (IsGate (redirected_gate x t g)) n p.1) j)
      ]

  pub redirected-at : live_count (with_entry N i (IsGate (redirected_gate x t g))) ≡ live_count N → RedirectedAt N x t i (with_entry N i (IsGate (redirected_gate x t g)))
  unfolding with_entry
  redirected-at count = record {
    kind = refl;
    inputs = refl;
    outputs = refl;
    here = with_entry-here N i (IsGate (redirected_gate x t g)) ∙ ap (option_map (redirected_entry x t)) (sym at);
    apart = λ n ne. with_entry-apart N i (IsGate (redirected_gate x t g)) n ne;
    free = jumps-free N after x t live_x live_old step_old free;
    count = count;
  }

-- what doesn't read x is redirected as it is
pub unread : (x : ℕ) (t : Signal) (e : Option Entry) → (In x (fanin_nodes e) → ⊥) → e ≡ option_map (redirected_entry x t) e
unread x t None h = refl
unread x t (Some Constant) h = refl
unread x t (Some (Input k)) h = refl
unread x t (Some (IsGate g)) h = ap (λ ss. Some (IsGate (record { op = g.op; phase = g.phase; fanins = ss }))) (sym (map-apart x t g.fanins h))

pub redirected-same : (N : NetworkValue) (i x : ℕ) (t : Signal) → (In x (fanin_nodes (entry_at N i)) → ⊥) → (Depends N t x → ⊥) → RedirectedAt N x t i N
redirected-same N i x t none free = record {
  kind = refl;
  inputs = refl;
  outputs = refl;
  here = unread x t (entry_at N i) none;
  apart = λ n _. refl;
  free = free;
  count = refl;
}
