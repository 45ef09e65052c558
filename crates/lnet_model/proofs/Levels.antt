-- A fanin's level is below its parent's.
use Rattle.std.proofs.Common.{ℕ, zero, suc, ◌<◌, ◌≤◌, List, [], ◌∷◌, map, None, Some, sym, ap, subst, inl, inr, arith}
use Rattle.lnet_gates.specs.declared.signal.Signal.{Signal}
use Rattle.lnet_model.specs.Networks.{Constant, Input, IsGate, NetworkValue, Lookup, entry_at, live_count, fanins_of}
use Rattle.lnet_model.specs.Along.{at_entry, along, over, In, fanin_nodes, Acyclic}
use Rattle.lnet_model.specs.Levels.{greatest, level_step, level}
use Rattle.lnet_model.proofs.Over.{over-once}

le_greatest : (V : ℕ → ℕ) (m : ℕ) (ss : List Signal) → In m (map (λ (s : Signal). s.node.0) ss) → V m ≤ greatest (map (λ r. r.1) (map {B = Signal × ℕ} (λ s. (s, V s.node.0)) ss))
le_greatest V m [] i = absurd i
le_greatest V m (s ∷ ss) (inl e) = let h = ap V e in omega arith
le_greatest V m (s ∷ ss) (inr i) = let h = le_greatest V m ss i in omega arith

pub level-falls : (N : NetworkValue) → Acyclic N → (n m : ℕ) → In m (fanin_nodes (entry_at N n)) → level N m < level N n
level-falls N acyclic n m i =
    let below = elim (entry_at N n) as (λ o. In m (fanin_nodes o) → level N m < at_entry 0 (λ e. level_step n e (map {B = Signal × ℕ} (λ s. (s, level N s.node.0)) (fanins_of e))) o) [
      | None ↦ λ h. absurd h
      | Some e ↦ elim e as (λ e. In m (map (λ (s : Signal). s.node.0) (fanins_of e)) → level N m < level_step n e (map {B = Signal × ℕ} (λ s. (s, level N s.node.0)) (fanins_of e))) [
        | Constant ↦ λ h. absurd h
        | Input k ↦ λ h. absurd h
        | IsGate g ↦ λ h. let k = le_greatest (level N) m g.fanins h in omega arith
      ]
    ] i in
    let is = over-once N level_step 0 acyclic n in
    subst (λ z. level N m < z) (sym is) below

greatest-le : (V : ℕ → ℕ) (d : ℕ) (ss : List Signal) → ((m : ℕ) → V m ≤ d) → greatest (map (λ r. r.1) (map {B = Signal × ℕ} (λ s. (s, V s.node.0)) ss)) ≤ d
greatest-le V d [] h = omega arith
greatest-le V d (s ∷ ss) h = let a = h s.node.0 in let b = greatest-le V d ss h in omega arith

along-le : (g : Lookup) (d n : ℕ) → along g level_step 0 d n ≤ d
unfolding along
along-le g zero n = omega arith
along-le g (suc d) n = elim (g n) as (λ o. at_entry 0 (λ e. level_step n e (map {B = Signal × ℕ} (λ s. (s, along g level_step 0 d s.node.0)) (fanins_of e))) o ≤ suc d) [
  | None ↦ omega arith
  | Some e ↦ elim e as (λ e. level_step n e (map {B = Signal × ℕ} (λ s. (s, along g level_step 0 d s.node.0)) (fanins_of e)) ≤ suc d) [
    | Constant ↦ omega arith
    | Input k ↦ omega arith
    | IsGate g2 ↦ (let h = greatest-le (along g level_step 0 d) d g2.fanins (along-le g d) in omega arith)
  ]
]

-- no level is above the count of live nodes
pub level-small : (N : NetworkValue) (n : ℕ) → level N n ≤ live_count N
unfolding over
level-small N n = along-le (entry_at N) (live_count N) n
