-- The laws of the Shannon expansion: its recipe computes the table, and few variables give few steps.
use Rattle.std.proofs.Common.{◌≡◌, ℕ, ◌+◌, ◌^◌, ◌≤◌, [], length, refl, subst, arith, add-zero}
use Rattle.lnet_tables.specs.Bits.{Rows, row}
use Rattle.lnet_tables.specs.Recipes.{RecipeValue, next_place, sim}
use Rattle.lnet_tables.specs.Means.{Means}
use Rattle.lnet_tables.specs.Shannon.{expansion, shannon_of}
use Rattle.lnet_tables.proofs.Below.{Below, below_all}
use Rattle.lnet_tables.proofs.Growing.{sim_is, means_rooted}
use Rattle.lnet_tables.proofs.ShannonMeans.{grown, expansion_means}
use Rattle.lnet_tables.proofs.ShannonLength.{expansion_short, most_small}

-- the recipe without steps
begun : ℕ → RecipeValue
begun n = record { leaves = n; steps = []; root = record { 0 = 0 } }

pub shannon_function : (t : Rows) → length t.bits ≡ 2 ^ t.vars → sim (shannon_of t) ≡ t
unfolding begun
shannon_function t long =
    let s : RecipeValue = begun t.vars in
    let m : Means (grown s (expansion t.vars (t.vars + 1) t)) (expansion t.vars (t.vars + 1) t).root (row t) =
    subst (λ (p : ℕ). Means (grown s (expansion t.vars p t)) (expansion t.vars p t).root (row t)) (add-zero (t.vars + 1))
    (expansion_means t.vars s t refl (omega arith) (below_all t)) in
    sim_is (shannon_of t) t refl long (means_rooted (grown s (expansion t.vars (t.vars + 1) t)) (expansion t.vars (t.vars + 1) t).root (row t) m)

pub laid_short : (t : Rows) (v : ℕ) (s : RecipeValue) → v ≡ t.vars → length s.steps ≡ 0 → t.vars ≤ 7 → length s.steps + length (expansion v (next_place s) t).steps ≤ 128
laid_short t v s e none few =
    let all : Below v t = rw e (below_all t) in
    omega (arith, expansion_short v (next_place s) t (omega arith) all, most_small v (omega arith))
