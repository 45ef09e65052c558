-- The network with one node replaced: what stands where, and that no cycle comes.
use Rattle.std.proofs.Common.{◌≡◌, ◌≢◌, ℕ, true, false, cond, ◌⊎◌, List, [], ◌∷◌, map, IsSome, Option, None, Some, refl, sym, ap, subst, ◌∙◌, inl, inr}
use Rattle.std.specs.Prelude.{option_map}
use Rattle.std.proofs.lemmas.Bool.Decides.{eqb_tells}
use Rattle.std.proofs.lemmas.Cmp.{nat_cmp_total}
use Rattle.std.specs.Ordering.{nat_cmp, eq_by_cmp}
use Rattle.std.specs.FinMap.{remove, entries, find, get-entries, get-from_entries}
use Rattle.lnet_gates.specs.declared.signal.Signal.{Signal}
use Rattle.lnet_gates.specs.Gates.{GateValue}
use Rattle.lnet_gates.specs.Operands.{flipped}
use Rattle.lnet_model.specs.Networks.{Entry, Constant, Input, IsGate, NetworkValue, entry_at, IsLive}
use Rattle.lnet_model.specs.Along.{In, Depends, Acyclic, fanin_nodes, nodes_read}
use Rattle.lnet_model.specs.Changes.{without}
use Rattle.lnet_model.proofs.Changes.{without-here, without-apart}
use Rattle.lnet_substitution.specs.Replaced.{redirected, redirected_entry, replaced}
use Rattle.lnet_substitution.proofs.Jumps.{jumps-Acyclic}

find-map : (f : Entry → Entry) (q : ℕ) (es : List (ℕ × Entry)) → find nat_cmp q (map (λ e. (e.0, f e.1)) es) ≡ option_map f (find nat_cmp q es)
find-map f q [] = refl
find-map f q (e ∷ es) =
    elim (eq_by_cmp nat_cmp q e.0) as (λ b. cond b (Some (f e.1)) (find nat_cmp q (map (λ e. (e.0, f e.1)) es)) ≡ option_map f (cond b (Some e.1) (find nat_cmp q es))) [
      | true ↦ refl
      | false ↦ find-map f q es
    ]

replaced-at : (N : NetworkValue) (o : ℕ) (s : Signal) (q : ℕ) → entry_at (replaced N o s) q ≡ option_map (redirected_entry o s) (entry_at (without N o) q)
unfolding replaced entry_at without
replaced-at N o s q =
    get-from_entries nat_cmp_total (map (λ e. (e.0, redirected_entry o s e.1)) (entries (remove N.nodes o))) q
    ∙ find-map (redirected_entry o s) q (entries (remove N.nodes o))
    ∙ ap (option_map (redirected_entry o s)) (sym (get-entries (remove N.nodes o) q))

pub replaced-here : (N : NetworkValue) (o : ℕ) (s : Signal) → entry_at (replaced N o s) o ≡ None
replaced-here N o s = replaced-at N o s o ∙ ap (option_map (redirected_entry o s)) (without-here N o)

pub replaced-apart : (N : NetworkValue) (o : ℕ) (s : Signal) (q : ℕ) → q ≢ o → entry_at (replaced N o s) q ≡ option_map (redirected_entry o s) (entry_at N q)
replaced-apart N o s q ne = replaced-at N o s q ∙ ap (option_map (redirected_entry o s)) (without-apart N o q ne)

pub replaced-kind : (N : NetworkValue) (o : ℕ) (s : Signal) → (replaced N o s).kind ≡ N.kind
unfolding replaced
replaced-kind N o s = refl

pub replaced-inputs : (N : NetworkValue) (o : ℕ) (s : Signal) → (replaced N o s).inputs ≡ N.inputs
unfolding replaced
replaced-inputs N o s = refl

pub replaced-outputs : (N : NetworkValue) (o : ℕ) (s : Signal) → (replaced N o s).outputs ≡ map (redirected o s) N.outputs
unfolding replaced
replaced-outputs N o s = refl

-- ---- no cycle comes

pub in_redirected : (o m : ℕ) (s : Signal) (xs : List Signal) → In m (nodes_read (map (redirected o s) xs)) → In m (nodes_read xs) ⊎ ((m ≡ s.node.0) × In o (nodes_read xs))
in_redirected o m s [] i = inl i
in_redirected o m s (x ∷ xs) (inr i) = elim (in_redirected o m s xs i) [ inl j ↦ inl (inr j) | inr p ↦ inr (p.0, inr p.1) ]
in_redirected o m s (x ∷ xs) (inl e) =
    elim (eqb_tells x.node.0 o) as (λ _. In m (nodes_read (x ∷ xs)) ⊎ ((m ≡ s.node.0) × In o (nodes_read (x ∷ xs)))) [
      | inl p ↦ inr (subst (λ b. m ≡ (cond b (flipped x.complement s) x).node.0) p.0 e, inl (sym p.1))
      | inr p ↦ inl (inl (subst (λ b. m ≡ (cond b (flipped x.complement s) x).node.0) p.0 e))
    ]

pub in_redirected_entry : (o m : ℕ) (s : Signal) (e : Option Entry) → In m (fanin_nodes (option_map (redirected_entry o s) e)) → In m (fanin_nodes e) ⊎ ((m ≡ s.node.0) × In o (fanin_nodes e))
in_redirected_entry o m s None i = inl i
in_redirected_entry o m s (Some Constant) i = inl i
in_redirected_entry o m s (Some (Input k)) i = inl i
in_redirected_entry o m s (Some (IsGate g)) i = in_redirected o m s g.fanins i

some_before : (o : ℕ) (s : Signal) (e : Option Entry) → IsSome (option_map (redirected_entry o s) e) → IsSome e
some_before o s None h = h
some_before o s (Some e) h = refl

module _ (N : NetworkValue) (o : ℕ) (s : Signal) (live : IsLive N o) where
  live_old : (n : ℕ) → IsLive (replaced N o s) n → IsLive N n
  live_old n h =
      elim (eqb_tells n o) as (λ _. IsLive N n) [
        | inl p ↦ subst (IsLive N) (sym p.1) live
        | inr p ↦ some_before o s _ (subst IsSome (replaced-apart N o s n p.1) h)
      ]

  pub step_old : (n m : ℕ) → In m (fanin_nodes (entry_at (replaced N o s) n)) → In m (fanin_nodes (entry_at N n)) ⊎ ((m ≡ s.node.0) × In o (fanin_nodes (entry_at N n)))
  step_old n m i =
      elim (eqb_tells n o) as (λ _. In m (fanin_nodes (entry_at N n)) ⊎ ((m ≡ s.node.0) × In o (fanin_nodes (entry_at N n)))) [
        | inl p ↦ absurd (subst (λ e. In m (fanin_nodes e)) (ap (entry_at (replaced N o s)) p.1 ∙ replaced-here N o s) i)
        | inr p ↦ in_redirected_entry o m s (entry_at N n) (subst (λ e. In m (fanin_nodes e)) (replaced-apart N o s n p.1) i)
      ]

  pub replaced-Acyclic : Acyclic N → (Depends N s o → ⊥) → Acyclic (replaced N o s)
  replaced-Acyclic = jumps-Acyclic N (replaced N o s) o s live live_old step_old

-- ---- what stands in it stood before

pub some_mapped : {A B : Type 0} (f : A → B) (o : Option A) (y : B) → option_map f o ≡ Some y → (x : A) × (o ≡ Some x) × (f x ≡ y)
some_mapped f None y e = cc
some_mapped f (Some x) y e = (x, refl, (let same : f x ≡ y = cc in same))

pub nothing-some : (e : Entry) {P : Type 0} → None ≡ Some e → P
nothing-some e h = cc

pub replaced-some : (N : NetworkValue) (o : ℕ) (s : Signal) (n : ℕ) (e : Entry) → entry_at (replaced N o s) n ≡ Some e → (x : Entry) × (entry_at N n ≡ Some x) × (redirected_entry o s x ≡ e) × (n ≢ o)
replaced-some N o s n e h =
    elim (eqb_tells n o) as (λ _. (x : Entry) × (entry_at N n ≡ Some x) × (redirected_entry o s x ≡ e) × (n ≢ o)) [
      | inl p ↦ nothing-some e (sym (ap (entry_at (replaced N o s)) p.1 ∙ replaced-here N o s) ∙ h)
      | inr p ↦ (let r = some_mapped (redirected_entry o s) (entry_at N n) e (sym (replaced-apart N o s n p.1) ∙ h) in (r.0, r.1, r.2, p.1))
    ]

pub redirected-constant : (o : ℕ) (s : Signal) (e : Entry) → redirected_entry o s e ≡ Constant → e ≡ Constant
redirected-constant o s Constant h = refl
redirected-constant o s (Input k) h = cc
redirected-constant o s (IsGate g) h = cc

pub redirected-input : (o k : ℕ) (s : Signal) (e : Entry) → redirected_entry o s e ≡ Input k → e ≡ Input k
redirected-input o k s Constant h = cc
redirected-input o k s (Input j) h = h
redirected-input o k s (IsGate g) h = cc

-- the gate with its fanins redirected
abbrev pub redirected_gate : ℕ → Signal → GateValue → GateValue
redirected_gate o s g = record { op = g.op; phase = g.phase; fanins = map (redirected o s) g.fanins }

pub redirected-gate : (o : ℕ) (s : Signal) (e : Entry) (g : GateValue) → redirected_entry o s e ≡ IsGate g → (h : GateValue) × (e ≡ IsGate h) × (redirected_gate o s h ≡ g)
redirected-gate o s Constant g is = cc
redirected-gate o s (Input k) g is = cc
redirected-gate o s (IsGate h) g is = (h, refl, (let same : redirected_gate o s h ≡ g = cc in same))
