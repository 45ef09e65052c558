-- In a network that is swept each gate is named.
use Rattle.std.proofs.Common.{◌≡◌, ℕ, ◌<◌, List, [], ◌∷◌, IsSome, None, Some, refl, sym, subst, ◌∙◌, inl, inr, arith}
use Rattle.std.proofs.lemmas.Bool.Decides.{eqb_tells}
use Rattle.lnet_model.specs.Networks.{NetworkValue, Lookup, IsLive, IsGate, entry_at}
use Rattle.lnet_model.specs.Along.{In, IsWalk, fanin_nodes, nodes_read}
use Rattle.lnet_model.specs.Changes.{IsGateAt}
use Rattle.lnet_model.specs.Fanouts.{references}
use Rattle.lnet_hashed.specs.Swept.{IsReached, IsSwept}
use Rattle.lnet_hashed.proofs.Reached.{reached-output, reached-fanin, unnamed-unreached}

first-live : (g : Lookup) (n : ℕ) (ns : List ℕ) → IsWalk g n ns → IsSome (g n)
first-live g n [] w = w
first-live g n (m ∷ ns) w = w.0

module _ (N M : NetworkValue) (swept : IsSwept N M) where
  walk-over : (n : ℕ) (ns : List ℕ) → IsReached N n → IsWalk (entry_at N) n ns → IsWalk (entry_at M) n ns
  walk-over n [] r w = subst IsSome (sym (swept.trimmed.reached n r)) w
  walk-over n (m ∷ ns) r w = (
    subst IsSome (sym (swept.trimmed.reached n r)) w.0,
    subst (λ o. In m (fanin_nodes o)) (sym (swept.trimmed.reached n r)) w.1,
    walk-over m ns (reached-fanin N n m r w.1 (first-live (entry_at N) m ns w.2)) w.2,
  )

  -- what an output reaches it reaches still
  reached-still : (n : ℕ) → IsReached N n → IsReached M n
  reached-still n (m, i, (ns, w, end)) =
      let start = reached-output N m i (first-live (entry_at N) m ns w) in
      (m, subst (λ os. In m (nodes_read os)) (sym swept.trimmed.outputs) i, (ns, walk-over m ns start w, end))

  unnamed-gone : (n : ℕ) → IsGateAt M n → references M n ≡ 0 → ⊥
  unnamed-gone n (g, at) none =
      let live : IsLive M n = subst IsSome (sym at) refl in
      let gone = swept.gone n (g, sym (swept.trimmed.left n live) ∙ at) (λ r. unnamed-unreached M n none (reached-still n r)) in
      let z : None ≡ Some (IsGate g) = sym gone ∙ at in
      cc

  pub swept-tidy : (n : ℕ) → IsGateAt M n → 0 < references M n
  swept-tidy n gate = elim (eqb_tells (references M n) 0) as (λ _. 0 < references M n) [
    | inl p ↦ absurd (unnamed-gone n gate p.1)
    | inr p ↦ (let ne = p.1 in omega arith)
  ]
