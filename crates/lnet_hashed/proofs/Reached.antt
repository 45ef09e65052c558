-- What the outputs reach stays as gates that they don't reach go.
use Rattle.std.proofs.Common.{◌≡◌, ℕ, zero, suc, ◌+◌, ◌<◌, List, [], ◌∷◌, ◌++◌, IsSome, Option, None, Some, refl, sym, subst, ◌∙◌, inl, inr, arith}
use Rattle.std.specs.Prelude.{◌⊎◌}
use Rattle.lnet_gates.specs.Gates.{GateValue}
use Rattle.lnet_model.specs.Networks.{NetworkValue, Lookup, Entry, Constant, Input, IsGate, IsLive, entry_at, live_count}
use Rattle.lnet_model.specs.Along.{In, fanin_nodes, IsWalk, end_of, nodes_read}
use Rattle.lnet_model.specs.Changes.{without, IsGateAt}
use Rattle.lnet_model.specs.Fanouts.{references, IsParent}
use Rattle.lnet_model.specs.Levels.{level}
use Rattle.lnet_model.specs.Dags.{IsStored}
use Rattle.lnet_model.proofs.Changes.{without-apart}
use Rattle.lnet_model.proofs.Removals.{left-apart}
use Rattle.lnet_model.proofs.Stored.{joined, joined-end, live-gate, no-parent, no-output}
use Rattle.lnet_hashed.proofs.Unnamed.{references-none}
use Rattle.lnet_model.proofs.Levels.{level-falls, level-small}
use Rattle.lnet_hashed.specs.Swept.{IsReached, IsSwept, IsTrimmed, IsUnnamed}

-- the first node of a walk is live
walk-first : (g : Lookup) (n : ℕ) (ns : List ℕ) → IsWalk g n ns → IsSome (g n)
walk-first g n [] w = w
walk-first g n (m ∷ ns) w = w.0

-- a node that an output names is reached
pub reached-output : (N : NetworkValue) (n : ℕ) → In n (nodes_read N.outputs) → IsLive N n → IsReached N n
reached-output N n i live = (n, i, ([], live, refl))

-- so is a live fanin of one that is
pub reached-fanin : (N : NetworkValue) (n m : ℕ) → IsReached N n → In m (fanin_nodes (entry_at N n)) → IsLive N m → IsReached N m
reached-fanin N n m r i live =
    let ns = r.2.0 in
    let w = r.2.1 in
    let to = r.2.2 in
    let here : IsLive N n = subst (IsLive N) to (end-live r.0 ns w) in
    (r.0, r.1, (ns ++ (m ∷ []), joined (entry_at N) r.0 ns (m ∷ []) w (subst (λ z. IsWalk (entry_at N) z (m ∷ [])) (sym to) (here, i, live)), joined-end r.0 ns (m ∷ [])))
  where
    end-live : (n : ℕ) (ns : List ℕ) → IsWalk (entry_at N) n ns → IsLive N (end_of n ns)
    end-live n [] w = w
    end-live n (m ∷ ns) w = end-live m ns w.2

-- ---- a gate that nothing names

-- a walk to n begins there, or goes through a parent
walk-last : (N : NetworkValue) (n a : ℕ) (ns : List ℕ) → IsWalk (entry_at N) a ns → end_of a ns ≡ n → (a ≡ n) ⊎ ((p : ℕ) × IsParent N n p)
walk-last N n a [] w e = inl e
walk-last N n a (m ∷ ns) w e = elim (walk-last N n m ns w.2 e) as (λ _. (a ≡ n) ⊎ ((p : ℕ) × IsParent N n p)) [
  | inl is ↦ inr (a, subst (λ z. In z (fanin_nodes (entry_at N a))) is w.1)
  | inr p ↦ inr p
]

-- no output reaches it
pub unnamed-unreached : (N : NetworkValue) (n : ℕ) → references N n ≡ 0 → IsReached N n → ⊥
unnamed-unreached N n free r = elim (walk-last N n r.0 r.2.0 r.2.1 r.2.2) as (λ _. ⊥) [
  | inl is ↦ no-output N n free (subst (λ z. In z (nodes_read N.outputs)) is r.1)
  | inr p ↦ no-parent N n free p.0 p.1
]

pub trimmed-without : (N : NetworkValue) (n : ℕ) → IsUnnamed N n → IsTrimmed N (without N n)
unfolding without
trimmed-without N n h = record {
  kind = refl;
  inputs = refl;
  outputs = refl;
  reached = λ q r. without-apart N n q (λ e. unnamed-unreached N n h.free (subst (IsReached N) e r));
  others = λ q other. without-apart N n q (λ e. other (subst (IsGateAt N) (sym e) h.gate));
  left = λ q live. without-apart N n q (left-apart N n q live);
}

-- ---- what is trimmed

module _ (N M : NetworkValue) (t : IsTrimmed N M) where
  walk-kept : (n : ℕ) (ns : List ℕ) → IsReached N n → IsWalk (entry_at N) n ns → IsWalk (entry_at M) n ns
  walk-kept n [] r w = subst IsSome (sym (t.reached n r)) w
  walk-kept n (m ∷ ns) r w = (
    subst IsSome (sym (t.reached n r)) w.0,
    subst (λ o. In m (fanin_nodes o)) (sym (t.reached n r)) w.1,
    walk-kept m ns (reached-fanin N n m r w.1 (walk-first (entry_at N) m ns w.2)) w.2,
  )

  pub walk-back : (n : ℕ) (ns : List ℕ) → IsWalk (entry_at M) n ns → IsWalk (entry_at N) n ns
  walk-back n [] w = subst IsSome (t.left n w) w
  walk-back n (m ∷ ns) w = (subst IsSome (t.left n w.0) w.0, subst (λ o. In m (fanin_nodes o)) (t.left n w.0) w.1, walk-back m ns w.2)

  -- what the outputs reach, they reach after
  pub reached-kept : (n : ℕ) → IsReached N n → IsReached M n
  reached-kept n r = (
    r.0,
    subst (λ os. In r.0 (nodes_read os)) (sym t.outputs) r.1,
    (r.2.0, walk-kept r.0 r.2.0 (reached-output N r.0 r.1 (walk-first (entry_at N) r.0 r.2.0 r.2.1)) r.2.1, r.2.2),
  )

  -- and nothing else
  pub reached-before : (n : ℕ) → IsReached M n → IsReached N n
  reached-before n r = (r.0, subst (λ os. In r.0 (nodes_read os)) t.outputs r.1, (r.2.0, walk-back r.0 r.2.0 r.2.1, r.2.2))

pub trimmed-twice : (N M L : NetworkValue) → IsTrimmed N M → IsTrimmed M L → IsTrimmed N L
trimmed-twice N M L t u = record {
  kind = u.kind ∙ t.kind;
  inputs = u.inputs ∙ t.inputs;
  outputs = u.outputs ∙ t.outputs;
  reached = λ n r. u.reached n (reached-kept N M t n r) ∙ t.reached n r;
  others = λ n other. u.others n (λ g. other (g.0, sym (t.others n other) ∙ g.1)) ∙ t.others n other;
  left = λ n live. u.left n live ∙ t.left n (subst IsSome (u.left n live) live);
}

-- ---- where each gate is named

-- what has fanins is a gate
parent-gate : (o : Option Entry) (m : ℕ) → In m (fanin_nodes o) → (g : GateValue) × (o ≡ Some (IsGate g))
parent-gate None m i = absurd i
parent-gate (Some Constant) m i = absurd i
parent-gate (Some (Input k)) m i = absurd i
parent-gate (Some (IsGate g)) m i = (g, refl)

module _ (N : NetworkValue) (stored : IsStored N) (named : (n : ℕ) → IsUnnamed N n → ⊥) where
  -- a gate isn't unreached: each of its parents would be so too, at a level above, and no level is above the count of nodes
  climb : (fuel n : ℕ) → IsGateAt N n → live_count N < level N n + fuel → (IsReached N n → ⊥) → ⊥
  climb zero n gate high unreached = let low = level-small N n in absurd (omega arith)
  climb (suc fuel) n gate high unreached = named n (record {
    gate = gate;
    free = references-none N n
        (λ p i. let up = level-falls N stored.dag.acyclic p n i in climb fuel p (parent-gate (entry_at N p) n i) (omega arith) (λ r. unreached (reached-fanin N p n r i (live-gate N n gate))))
        (λ i. unreached (reached-output N n i (live-gate N n gate)));
  })

  pub gate-reached : (n : ℕ) → IsGateAt N n → (IsReached N n → ⊥) → ⊥
  gate-reached n gate = climb (suc (live_count N)) n gate (omega arith)

-- what is trimmed until each gate is named is swept
pub trimmed-swept : (N M : NetworkValue) → IsTrimmed N M → IsStored M → ((n : ℕ) → IsUnnamed M n → ⊥) → IsSwept N M
trimmed-swept N M t stored named = record {
  trimmed = t;
  gone = λ n gate unreached. (elim (entry_at M n) as (λ o. entry_at M n ≡ o → o ≡ None) [
    | None ↦ λ _. refl
    | Some e ↦ λ is. (
        let live : IsLive M n = subst IsSome (sym is) refl in
        absurd (gate-reached M stored named n (gate.0, t.left n live ∙ gate.1) (λ r. unreached (reached-before N M t n r)))
        )
  ]) refl;
}
