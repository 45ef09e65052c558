-- Networks whose steps are those of another, but that some go to s in place of o.
use Rattle.std.proofs.Common.{◌≡◌, ℕ, ◌⊎◌, List, [], ◌∷◌, ◌++◌, refl, sym, ap, subst, ◌∙◌, inl, inr}
use Rattle.lnet_gates.specs.declared.signal.Signal.{Signal}
use Rattle.lnet_model.specs.Networks.{NetworkValue, Lookup, entry_at, IsLive}
use Rattle.lnet_model.specs.Along.{In, IsWalk, end_of, Depends, Reaches, Acyclic, fanin_nodes}

pub joined : (g : Lookup) (n : ℕ) (ns ms : List ℕ) → IsWalk g n ns → IsWalk g (end_of n ns) ms → IsWalk g n (ns ++ ms)
joined g n [] ms v w = w
joined g n (m ∷ ns) ms v w = (v.0, v.1, joined g m ns ms v.2 w)

pub joined_end : (n : ℕ) (ns ms : List ℕ) → end_of n (ns ++ ms) ≡ end_of (end_of n ns) ms
joined_end n [] ms = refl
joined_end n (m ∷ ns) ms = joined_end m ns ms

-- what is reached from what is reached
pub reaches-on : (N : NetworkValue) (a b c : ℕ) → Reaches N a b → Reaches N b c → Reaches N a c
reaches-on N a b c p q = (
  p.0 ++ q.0,
  joined (entry_at N) a p.0 q.0 p.1 (subst (λ z. IsWalk (entry_at N) z q.0) (sym p.2) q.1),
  joined_end a p.0 q.0 ∙ ap (λ z. end_of z q.0) p.2 ∙ q.2,
)

-- M's steps are N's, but for those to s from parents of o
module _ (N M : NetworkValue) (o : ℕ) (s : Signal) (live : IsLive N o) (live_old : (n : ℕ) → IsLive M n → IsLive N n) (step_old : (n m : ℕ) → In m (fanin_nodes (entry_at M n)) → In m (fanin_nodes (entry_at N n)) ⊎ ((m ≡ s.node.0) × In o (fanin_nodes (entry_at N n)))) where
  -- the walk comes to o, and goes on from s
  abbrev Jumps : ℕ → List ℕ → Type 0
  Jumps n ns = Reaches N n o × Reaches N s.node.0 (end_of n ns)

  pub walk_old : (n : ℕ) (ns : List ℕ) → IsWalk (entry_at M) n ns → IsWalk (entry_at N) n ns ⊎ Jumps n ns
  walk_old n [] w = inl (live_old n w)
  walk_old n (m ∷ ns) w =
      let rest = walk_old m ns w.2 in
      elim (step_old n m w.1) as (λ _. IsWalk (entry_at N) n (m ∷ ns) ⊎ Jumps n (m ∷ ns)) [
        | inl i ↦ elim rest as (λ _. IsWalk (entry_at N) n (m ∷ ns) ⊎ Jumps n (m ∷ ns)) [
          | inl v ↦ inl (live_old n w.0, i, v)
          | inr j ↦ inr ((m ∷ j.0.0, (live_old n w.0, i, j.0.1), j.0.2), j.1)
        ]
        | inr p ↦ elim rest as (λ _. IsWalk (entry_at N) n (m ∷ ns) ⊎ Jumps n (m ∷ ns)) [
          | inl v ↦ inr ((o ∷ [], (live_old n w.0, p.1, live), refl), (ns, subst (λ z. IsWalk (entry_at N) z ns) p.0 v, ap (λ z. end_of z ns) (sym p.0)))
          | inr j ↦ inr ((o ∷ [], (live_old n w.0, p.1, live), refl), j.1)
        ]
      ]

  pub jumps-Acyclic : Acyclic N → (Depends N s o → ⊥) → Acyclic M
  jumps-Acyclic acyclic free n m ns w is =
      elim (walk_old n (m ∷ ns) w) as (λ _. ⊥) [
        | inl v ↦ acyclic n m ns v is
        | inr j ↦ free (reaches-on N s.node.0 n o (subst (Reaches N s.node.0) is j.1) j.0)
      ]

  pub jumps-free : (Depends N s o → ⊥) → Depends M s o → ⊥
  jumps-free free (ns, w, e) = elim (walk_old s.node.0 ns w) as (λ _. ⊥) [ inl v ↦ free (ns, v, e) | inr j ↦ free j.0 ]
