-- Cut lists that the definition takes for one are one, so the reads are within the bound of a cut view.
use Rattle.std.proofs.Common.{◌≡◌, ℕ, ◌≤◌, Bool, true, false, not, List, [], ◌∷◌, ◌++◌, length, map, IsSome, None, Some, refl, sym, ap, subst, ◌∙◌, inl, inr, arith, true≢false}
use Rattle.std.specs.Prelude.{◌&&◌, ◌||◌}
use Rattle.lnet_gates.specs.declared.signal.Signal.{Signal}
use Rattle.lnet_tables.proofs.Equal.{equal_rows_decides}
use Rattle.lnet_tables.specs.Bits.{equal_rows}
use Rattle.lnet_model.specs.Networks.{Entry, Constant, Input, IsGate, NetworkValue, entry_at, fanins_of, IsLive}
use Rattle.lnet_model.specs.Along.{Acyclic, at_entry}
use Rattle.lnet_model.specs.Changes.{was}
use Rattle.lnet_model.specs.Dags.{IsDag}
use Rattle.lnet_model.specs.Cuts.{CutValue, trivial_cut, constant_cut, cut_step, cuts, same_leaves, is_subset, candidates, merged, best}
use Rattle.lnet_model.specs.Visits.{visit_bound, same_cut, same_cuts}
use Rattle.lnet_model.specs.declared.event.Event.{Event}
use Rattle.lnet_model.specs.declared.view_spec.CutRule.{CutRule}
use Rattle.lnet_model.specs.declared.view_spec.ViewSpec.TheVariants.{Cuts}
use Rattle.lnet_model.proofs.Over.{over-once}
use Rattle.lnet_views.specs.Rules.{made, rule_bound}
use Rattle.lnet_views.proofs.Bounds.{bounds-grow}
use Rattle.lnet_cuts.specs.Stored.{first_cuts, equal_lists}
use Rattle.lnet_cuts.specs.Agreeing.{both, equal_lists_decides}
use Rattle.lnet_cuts.proofs.LeafSets.{Ascends, and-true, subset-is, subset-length}
use Rattle.lnet_cuts.proofs.Unions.{all-ascends}
use Rattle.lnet_cuts.proofs.Items.{Every, every-append, every-take, every-sorted, every-filter, every-made}
use Rattle.lnet_cuts.proofs.Meaning.{over-at}
use Rattle.lnet_cuts.proofs.MadeCuts.{IsPlaced, gives, made-cuts}

-- the leaves of each cut ascend
abbrev AllAscend : List CutValue → Type 0
AllAscend cs = Every (λ (c : CutValue). Ascends c.leaves) cs

step-ascends : (size limit n : ℕ) (e : Entry) (rs : List (Signal × List CutValue)) → AllAscend (cut_step size limit n e rs)
step-ascends size limit n Constant rs = (tt, tt)
step-ascends size limit n (Input k) rs = ((λ d i. absurd i, tt), tt)
step-ascends size limit n (IsGate g) rs =
    let A : CutValue → Type 0 = λ c. Ascends c.leaves in
    let all : Every A (candidates size g rs) = every-made A (merged g) _ (λ cs. all-ascends cs) in
    every-append A (best limit (candidates size g rs)) (trivial_cut n ∷ []) (every-take A limit _ (every-sorted A _ (every-filter A _ (candidates size g rs) all))) ((λ d i. absurd i, tt), tt)

dead-cuts : (N : NetworkValue) (size limit n : ℕ) → Acyclic N → entry_at N n ≡ None → cuts N size limit n ≡ []
dead-cuts N size limit n acyclic at = over-once N (cut_step size limit) [] acyclic n
    ∙ ap (at_entry [] (λ e. cut_step size limit n e (map {B = Signal × List CutValue} (λ s. (s, cuts N size limit s.node.0)) (fanins_of e)))) at

cuts-ascend : (N : NetworkValue) (size limit n : ℕ) → Acyclic N → AllAscend (cuts N size limit n)
cuts-ascend N size limit n acyclic = elim (entry_at N n) as (λ o. entry_at N n ≡ o → AllAscend (cuts N size limit n)) [
  | None ↦ λ at. subst AllAscend (sym (dead-cuts N size limit n acyclic at)) tt
  | Some e ↦ λ at. subst AllAscend (sym (over-at N (cut_step size limit) [] acyclic n e at)) (step-ascends size limit n e _)
] refl

one-set : (xs ys : List ℕ) → Ascends xs → Ascends ys → same_leaves xs ys ≡ true → xs ≡ ys
one-set xs ys A B e =
    let t = and-true (is_subset xs ys) (is_subset ys xs) e in
    elim (subset-length xs ys A B (subset-is xs ys t.0)) as (λ _. xs ≡ ys) [
      | inr s ↦ s
      | inl k ↦ elim (subset-length ys xs B A (subset-is ys xs t.1)) as (λ _. xs ≡ ys) [ inr s ↦ sym s | inl m ↦ absurd (omega arith) ]
    ]

one-cut : (c d : CutValue) → Ascends c.leaves → Ascends d.leaves → same_cut c d ≡ true → c ≡ d
one-cut c d A B e =
    let t = and-true (same_leaves c.leaves d.leaves) (equal_rows c.table d.table) e in
    both c d (one-set c.leaves d.leaves A B t.0) ((equal_rows_decides c.table d.table).0 t.1)

one-list : (cs ds : List CutValue) → AllAscend cs → AllAscend ds → same_cuts cs ds ≡ true → cs ≡ ds
one-list [] [] A B e = refl
one-list [] (d ∷ ds) A B e = absurd (true≢false (sym e))
one-list (c ∷ cs) [] A B e = absurd (true≢false (sym e))
one-list (c ∷ cs) (d ∷ ds) A B e =
    let t = and-true (same_cut c d) (same_cuts cs ds) e in
    λ i. one-cut c d A.0 B.0 t.0 i ∷ one-list cs ds A.1 B.1 t.1 i

some-last : (cs : List CutValue) (c : CutValue) → cs ++ c ∷ [] ≡ [] → ⊥
some-last [] c e = let z = ap length e in omega arith
some-last (d ∷ cs) c e = let z = ap length e in omega arith

-- a live node has a cut
step-some : (size limit n : ℕ) (e : Entry) (rs : List (Signal × List CutValue)) → cut_step size limit n e rs ≡ [] → ⊥
step-some size limit n Constant rs e = some-last [] constant_cut e
step-some size limit n (Input k) rs e = some-last [] (trivial_cut n) e
step-some size limit n (IsGate g) rs e = some-last (best limit (candidates size g rs)) (trivial_cut n) e

cuts-some : (N : NetworkValue) (size limit n : ℕ) → Acyclic N → IsLive N n → cuts N size limit n ≡ [] → ⊥
cuts-some N size limit n acyclic live none = elim (entry_at N n) as (λ o. entry_at N n ≡ o → ⊥) [
  | None ↦ λ at. let z : false ≡ true = subst IsSome at live in true≢false (sym z)
  | Some e ↦ λ at. step-some size limit n e _ (sym (over-at N (cut_step size limit) [] acyclic n e at) ∙ none)
] refl

-- a change that the rule tells is one that the definition tells
told : (a b c d : Bool) → (a ≡ true → d ≡ true → c ≡ true) → (a && (b || not c)) ≡ true → (a && (b || not d)) ≡ true
told true true c d h e = refl
told true false c false h e = refl
told true false c true h e = absurd (true≢false (sym e ∙ ap not (h refl refl)))
told false b c d h e = e

module _ (rule : CutRule) (M N : NetworkValue) (old : IsDag M) (new : IsDag N) (old_placed : IsPlaced M) (new_placed : IsPlaced N) where
  abbrev MadeBy : NetworkValue → ℕ → List CutValue
  MadeBy L n = made {V = List CutValue} first_cuts (gives rule.size rule.limit) L n

  pub same-made : (n : ℕ) → IsLive M n → same_cuts (cuts M rule.size rule.limit n) (cuts N rule.size rule.limit n) ≡ true → equal_lists (MadeBy M n) (MadeBy N n) ≡ true
  same-made n live e =
      let same : cuts M rule.size rule.limit n ≡ cuts N rule.size rule.limit n = one-list _ _ (cuts-ascend M rule.size rule.limit n old.acyclic) (cuts-ascend N rule.size rule.limit n new.acyclic) e in
      let before : MadeBy M n ≡ cuts M rule.size rule.limit n = made-cuts rule.size rule.limit M old.acyclic old.closed old_placed n live in
      elim (entry_at N n) as (λ o. entry_at N n ≡ o → equal_lists (MadeBy M n) (MadeBy N n) ≡ true) [
        | None ↦ λ at. absurd (cuts-some M rule.size rule.limit n old.acyclic live (same ∙ dead-cuts N rule.size rule.limit n new.acyclic at))
        | Some x ↦ λ at. (equal_lists_decides _ _).1 (before ∙ same ∙ sym (made-cuts rule.size rule.limit N new.acyclic new.closed new_placed n (subst IsSome (sym at) refl)))
      ] refl

pub cut-visits : (rule : CutRule) (e : Event) (N : NetworkValue) → IsDag (was e N) → IsDag N → IsPlaced (was e N) → IsPlaced N
    → rule_bound equal_lists first_cuts (gives rule.size rule.limit) e N ≤ visit_bound e N (Some (Cuts rule))
unfolding rule_bound visit_bound
cut-visits rule e N old new old_placed new_placed = bounds-grow N _ _ (λ x d. told _ _ _ _ (λ live same. same-made rule (was e N) N old new old_placed new_placed x live same) d)
