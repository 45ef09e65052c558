-- Names referred to one after the other.
use Rattle.std.proofs.Common.{◌≡◌, ℕ, List, [], ◌∷◌, ◌++◌, ap, ◌∙◌, append_assoc}
use Rattle.lnet_edge.specs.declared.circuit.WireRef.{WireRef}
use Rattle.lnet_bench.specs.declared.wiring.Driven.{Driven}
use Rattle.lnet_bench.specs.Wiring.{refer, refer_all}

-- behind the references so far
abbrev pub onto : List WireRef → List WireRef × List (List ℕ) → List WireRef × List (List ℕ)
onto refs r = (refs ++ r.0, r.1)

-- one more name
pub onto_next : (driven : Driven) (refs : List WireRef) (names : List (List ℕ)) (x : List ℕ) (xs : List (List ℕ)) (r : WireRef) (after : List (List ℕ)) → (r, after) ≡ refer driven names x
    → onto (refs ++ r ∷ []) (refer_all driven after xs) ≡ onto refs (refer_all driven names (x ∷ xs))
onto_next driven refs names x xs r after e =
    ap (λ (rs : List WireRef). (rs, (refer_all driven after xs).1)) (append_assoc refs (r ∷ []) (refer_all driven after xs).0)
    ∙ ap (λ (p : WireRef × List (List ℕ)). (refs ++ p.0 ∷ (refer_all driven p.1 xs).0, (refer_all driven p.1 xs).1)) e
