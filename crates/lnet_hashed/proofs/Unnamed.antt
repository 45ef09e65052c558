-- What nothing names has no reference.
use Rattle.std.proofs.Common.{◌≡◌, ℕ, Bool, true, false, cond, eqb, List, [], ◌∷◌, map, length, Option, None, Some, refl, sym, ap, ◌∙◌, inl, inr, arith}
use Rattle.std.specs.Prelude.{is_some}
use Rattle.std.proofs.lemmas.Bool.Decides.{eqb_tells}
use Rattle.std.proofs.lemmas.List.Sums.{sum_by-cons}
use Rattle.lnet_gates.specs.declared.signal.Signal.{Signal}
use Rattle.lnet_gates.specs.Gates.{GateValue}
use Rattle.lnet_model.specs.Networks.{NetworkValue, Entry, IsGate, IsLive, entry_at, fanins_of}
use Rattle.lnet_model.specs.Along.{In, fanin_nodes, nodes_read}
use Rattle.lnet_model.specs.Changes.{with_entry, AreLive}
use Rattle.lnet_model.specs.Fanouts.{fan, references, IsParent}
use Rattle.lnet_model.specs.Dags.{IsStored}
use Rattle.lnet_model.proofs.Changes.{with_entry-here, with_entry-apart}
use Rattle.lnet_model.proofs.References.{naming, names_in, references-changed}
use Rattle.lnet_views.proofs.Parents.{fan-parent}

one-or-none : (b : Bool) → b ≡ false → ◌≡◌ {A = ℕ} (cond b 1 0) 0
one-or-none true e = cc
one-or-none false e = refl

naming-none : (n : ℕ) (ss : List Signal) → (In n (nodes_read ss) → ⊥) → naming n ss ≡ 0
naming-none n [] h = refl
naming-none n (s ∷ ss) h =
    let both = sum_by-cons (λ (s : Signal). cond (eqb s.node.0 n) 1 0) s ss in
    let rest = naming-none n ss (λ i. h (inr i)) in
    elim (eqb_tells s.node.0 n) as (λ _. naming n (s ∷ ss) ≡ 0) [
      | inl p ↦ absurd (h (inl (sym p.1)))
      | inr p ↦ (let zero = one-or-none (eqb s.node.0 n) p.0 in omega (arith, zero, both, rest))
    ]

pub names_in-none : (n : ℕ) (o : Option Entry) → (In n (fanin_nodes o) → ⊥) → names_in n o ≡ 0
names_in-none n None h = refl
names_in-none n (Some e) h = naming-none n (fanins_of e) h

no-pairs : (ps : List (ℕ × ℕ)) → ((p : ℕ) → In p (map (λ r. r.0) ps) → ⊥) → length ps ≡ 0
no-pairs [] h = refl
no-pairs (x ∷ xs) h = absurd (h x.0 (inl refl))

-- a node without parents that no output names has no reference
pub references-none : (N : NetworkValue) (n : ℕ) → ((p : ℕ) → IsParent N n p → ⊥) → (In n (nodes_read N.outputs) → ⊥) → references N n ≡ 0
unfolding references
references-none N n parents outs =
    let none = no-pairs (fan N n) (λ p i. parents p (fan-parent N n p i)) in
    let o = naming-none n N.outputs outs in
    omega arith

not-free : (N : NetworkValue) (n : ℕ) → entry_at N n ≡ None → IsLive N n → ⊥
not-free N n free live = let no : false ≡ true = sym (ap is_some free) ∙ live in cc

-- what isn't live has no reference
pub references-free : (N : NetworkValue) (n : ℕ) → IsStored N → entry_at N n ≡ None → references N n ≡ 0
references-free N n stored free =
    references-none N n (λ p i. not-free N n free (stored.whole.closed p n i)) (λ i. not-free N n free (stored.whole.outputs_live n i))

with_entry-outputs : (N : NetworkValue) (n : ℕ) (e : Entry) → (with_entry N n e).outputs ≡ N.outputs
unfolding with_entry
with_entry-outputs N n e = refl

-- a new gate on live fanins has none, too
pub references-new : (N : NetworkValue) (n : ℕ) (g : GateValue) → IsStored N → entry_at N n ≡ None → AreLive N (nodes_read g.fanins) → references (with_entry N n (IsGate g)) n ≡ 0
references-new N n g stored free live =
    let M : NetworkValue = with_entry N n (IsGate g) in
    let changed = references-changed M N n (λ q ne. with_entry-apart N n (IsGate g) q ne) (with_entry-outputs N n (IsGate g)) n in
    let before = references-free N n stored free in
    let here = ap (names_in n) (with_entry-here N n (IsGate g)) in
    let none = names_in-none n (Some (IsGate g)) (λ i. not-free N n free (live n i)) in
    let was = ap (names_in n) free in
    omega arith
