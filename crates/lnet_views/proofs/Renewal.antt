-- A gate's answer made anew.
use Rattle.std.proofs.Common.{◌≡◌, ◌≢◌, ℕ, ◌+◌, ◌<◌, max, Bool, true, false, List, [], ◌∷◌, length, map, IsSome, Option, None, Some, refl, sym, ap, subst, ◌∙◌, inl, inr, arith, get_or, set, get_or-set_same, get_or-set_other}
use Rattle.std.specs.Prelude.{is_some}
use Rattle.std.proofs.lemmas.Bool.Decides.{eqb_tells}
use Rattle.lnet_gates.specs.declared.signal.Signal.{Signal}
use Rattle.lnet_gates.specs.Gates.{GateValue}
use Rattle.lnet_model.specs.Networks.{Entry, Constant, Input, IsGate, NetworkValue, entry_at, fanins_of, gate_in, IsLive}
use Rattle.lnet_model.specs.Along.{at_entry, once, In, fanin_nodes, nodes_read, IsClosed, Acyclic}
use Rattle.lnet_model.specs.Levels.{greatest}
use Rattle.lnet_model.specs.Fanouts.{IsParent}
use Rattle.lnet_views.specs.Repair.{IsSettled, pair_step, pair_eq}
use Rattle.lnet_views.specs.Rules.{rule_step}
use Rattle.lnet_views.specs.Keeping.{at_level, answer, mark, level_or, height, tallest, IsSound}
use Rattle.lnet_model.proofs.Along.{Step, pairs-same}
use Rattle.lnet_model.proofs.Values.{map-pairs}
use Rattle.lnet_model.proofs.Levels.{level-falls}
use Rattle.lnet_views.proofs.Pair.{both, eqb-same}

pub gate-is : (o : Option Entry) (g : GateValue) → Some g ≡ gate_in o → o ≡ Some (IsGate g)
gate-is None g e = cc
gate-is (Some Constant) g e = cc
gate-is (Some (Input k)) g e = cc
gate-is (Some (IsGate h)) g e = ap (λ x. Some (IsGate x)) (let f : Some g ≡ Some h = e in let z : h ≡ g = cc in z)

pub gate-live : (o : Option Entry) → IsSome (gate_in o) → IsSome o
gate-live None h = h
gate-live (Some e) h = refl

module _ {V : Type 0} (none : V) (values : List V) (levels : List (Option ℕ)) where
  pub answer-level : (m : ℕ) → (answer none values levels m).1 ≡ height levels m
  answer-level m = elim (get_or levels m None) as (λ o. (at_level none (get_or values m none) o).1 ≡ level_or o) [ None ↦ refl | Some l ↦ refl ]

  pub answer-value : (m : ℕ) → IsSome (get_or levels m None) → (answer none values levels m).0 ≡ get_or values m none
  answer-value m = elim (get_or levels m None) as (λ o. IsSome o → (at_level none (get_or values m none) o).0 ≡ get_or values m none) [ None ↦ λ h. (let z : false ≡ true = h in cc) | Some l ↦ λ h. refl ]

  tallest-is : (ss : List Signal) → tallest levels ss ≡ greatest (map (λ s. (answer none values levels s.node.0).1) ss)
  tallest-is [] = refl
  tallest-is (s ∷ ss) = λ i. max (sym (answer-level s.node.0) i) (tallest-is ss i)

  greatest-pairs : (X : ℕ → V × ℕ) (ss : List Signal) → greatest (map (λ s. (X s.node.0).1) ss) ≡ greatest (map (λ r. r.1) (map {B = Signal × ℕ} (λ r. (r.0, r.1.1)) (map {B = Signal × (V × ℕ)} (λ s. (s, X s.node.0)) ss)))
  greatest-pairs X [] = refl
  greatest-pairs X (s ∷ ss) = ap (max (X s.node.0).1) (greatest-pairs X ss)

  -- what the code computes from the lists is the step over the answers
  pub renewed-is : (eq : V → V → Bool) (first : ℕ → V) (gives : ℕ → GateValue → List (Signal × V) → V) (N : NetworkValue) (n : ℕ) (g : GateValue) (v : V) (l : ℕ) → entry_at N n ≡ Some (IsGate g) → ((m : ℕ) → IsParent N m n → IsSome (get_or levels m None)) → eq v (gives n g (map {B = Signal × V} (λ s. (s, get_or values s.node.0 none)) g.fanins)) ≡ true → l ≡ 1 + tallest levels g.fanins → pair_eq eq (v, l) (once (entry_at N) (pair_step (rule_step first gives)) (none, 0) (answer none values levels) n) ≡ true
  renewed-is eq first gives N n g v l at known is height =
      let A : ℕ → V × ℕ = answer none values levels in
      let inside : (m : ℕ) → In m (map (λ (s : Signal). s.node.0) g.fanins) → get_or values m none ≡ (answer none values levels m).0 = λ m i. sym (answer-value m (known m (subst (λ o. In m (fanin_nodes o)) (sym at) i))) in
      let reads = pairs-same g.fanins (λ m. get_or values m none) (λ m. (answer none values levels m).0) inside ∙ sym (map-pairs (answer none values levels) (λ r. (r.0, r.1.0)) g.fanins) in
      subst (λ z. pair_eq eq (v, l) z ≡ true) (sym (ap (at_entry (none, 0) (λ e. pair_step (rule_step first gives) n e (map {B = Signal × (V × ℕ)} (λ s. (s, answer none values levels s.node.0)) (fanins_of e)))) at))
      (both _ _ (subst (λ z. eq v (gives n g z) ≡ true) reads is) (eqb-same _ _ (height ∙ ap (λ z. 1 + z) (tallest-is g.fanins ∙ greatest-pairs (answer none values levels) g.fanins))))

  module _ (n : ℕ) (v : V) (l : ℕ) (values2 : List V) (levels2 : List (Option ℕ)) (vs : values2 ≡ set values n v) (ls : levels2 ≡ set levels n (Some l)) where
    pub renewed-here : n < length values → n < length levels → answer none values2 levels2 n ≡ (v, l)
    renewed-here iv il = (λ i. at_level none (get_or (vs i) n none) (get_or (ls i) n None)) ∙ (λ i. at_level none (get_or-set_same values n v none iv i) (get_or-set_same levels n (Some l) None il i))

    pub renewed-apart : (q : ℕ) → q ≢ n → answer none values2 levels2 q ≡ answer none values levels q
    renewed-apart q ne = (λ i. at_level none (get_or (vs i) q none) (get_or (ls i) q None)) ∙ (λ i. at_level none (get_or-set_other values n q v none ne i) (get_or-set_other levels n q (Some l) None ne i))

-- a gate's fanins are live
pub fanin-live : (N : NetworkValue) (n : ℕ) (g : GateValue) → IsClosed N → entry_at N n ≡ Some (IsGate g) → (m : ℕ) → In m (map (λ (s : Signal). s.node.0) g.fanins) → IsLive N m
fanin-live N n g closed at m i = closed n m (subst (λ o. In m (fanin_nodes o)) (sym at) i)

pub read-inside : {V : Type 0} (N : NetworkValue) (values : List V) (levels : List (Option ℕ)) (waits : List (Option ℕ)) (n : ℕ) (g : GateValue) → IsClosed N → IsSound N values levels waits → entry_at N n ≡ Some (IsGate g) → (m : ℕ) → In m (nodes_read g.fanins) → m < length values
read-inside N values levels waits n g closed S at m i = S.room m (fanin-live N n g closed at m i)

pub read-known : {V : Type 0} (N : NetworkValue) (values : List V) (levels : List (Option ℕ)) (waits : List (Option ℕ)) (n : ℕ) → IsClosed N → IsSound N values levels waits → (m : ℕ) → IsParent N m n → IsSome (get_or levels m None)
read-known N values levels waits n closed S m i = S.known m (closed n m i)

pub renewed-settled : {V : Type 0} (eq : V → V → Bool) (none : V) (step : Step (V × ℕ)) (N : NetworkValue) (n : ℕ) (X Y : ℕ → V × ℕ) (before cleared after : List (Option ℕ)) (same : Bool) → Acyclic N → n < length before → ((q : ℕ) → q ≢ n → Y q ≡ X q) → pair_eq eq (Y n) (once (entry_at N) step (none, 0) X n) ≡ true → same ≡ pair_eq eq (Y n) (X n) → cleared ≡ set before n None → ((m : ℕ) → mark cleared m ≡ true → mark after m ≡ true) → (same ≡ false → (p : ℕ) → IsParent N n p → mark after p ≡ true) → ((m : ℕ) → mark after m ≡ true → mark cleared m ≡ false → IsParent N n m) → IsSettled (pair_eq eq) N n step (none, 0) X Y (mark before) (mark after)
renewed-settled eq none step N n X Y before cleared after same acyclic inside each is told clears keeps parents only = record {
  each = each;
  is = is;
  taken = record {
    taken = elim (mark after n) as (λ b. (mark after n ≡ b) → mark after n ≡ false) [
      | true ↦ λ e. (let f = level-falls N acyclic n n (only n e own) in absurd (omega arith))
      | false ↦ λ e. e
    ] refl;
    stays = λ m ne t. keeps m (other m ne ∙ t);
    parents = λ changed p i. parents (told ∙ changed) p i;
    only = λ m t f. only m t (elim (eqb_tells m n) as (λ _. mark cleared m ≡ false) [ inl p ↦ ap (mark cleared) p.1 ∙ own | inr p ↦ other m p.1 ∙ f ]);
  };
}
  where
    own : mark cleared n ≡ false
    own = ap (λ z. mark z n) clears ∙ ap is_some (get_or-set_same before n None None inside)

    other : (m : ℕ) → m ≢ n → mark cleared m ≡ mark before m
    other m ne = ap (λ z. mark z m) clears ∙ ap is_some (get_or-set_other before n m None None ne)

-- the same where the values were read through a slice of them
pub renewed-read : {V : Type 0} (none : V) (values read : List V) (levels : List (Option ℕ)) (eq : V → V → Bool) (first : ℕ → V) (gives : ℕ → GateValue → List (Signal × V) → V) (N : NetworkValue) (n : ℕ) (g : GateValue) (v : V) (l : ℕ) → read ≡ values → entry_at N n ≡ Some (IsGate g) → ((m : ℕ) → IsParent N m n → IsSome (get_or levels m None)) → eq v (gives n g (map {B = Signal × V} (λ s. (s, get_or read s.node.0 none)) g.fanins)) ≡ true → l ≡ 1 + tallest levels g.fanins → pair_eq eq (v, l) (once (entry_at N) (pair_step (rule_step first gives)) (none, 0) (answer none values levels) n) ≡ true
renewed-read {V} none values read levels eq first gives N n g v l same at known is height =
    renewed-is none values levels eq first gives N n g v l at known (subst (λ xs. eq v (gives n g (map {B = Signal × V} (λ s. (s, get_or xs s.node.0 none)) g.fanins)) ≡ true) same is) height

-- a live number without a gate
pub first-is : {V : Type 0} (eq : V → V → Bool) (first : ℕ → V) (gives : ℕ → GateValue → List (Signal × V) → V) (N : NetworkValue) (n : ℕ) (v : V) (X : ℕ → V × ℕ) → IsLive N n → None ≡ gate_in (entry_at N n) → eq v (first n) ≡ true → pair_eq eq (v, 0) (once (entry_at N) (pair_step (rule_step first gives)) (first 0, 0) X n) ≡ true
first-is {V} eq first gives N n v X live bare is =
    elim (entry_at N n) as (λ o. IsSome o → None ≡ gate_in o → pair_eq eq (v, 0) (at_entry (first 0, 0) (λ e. pair_step (rule_step first gives) n e (map {B = Signal × (V × ℕ)} (λ s. (s, X s.node.0)) (fanins_of e))) o) ≡ true) [
      | None ↦ λ l f. (let z : false ≡ true = l in cc)
      | Some e ↦ elim e as (λ e. IsSome (Some e) → None ≡ gate_in (Some e) → pair_eq eq (v, 0) (pair_step (rule_step first gives) n e (map {B = Signal × (V × ℕ)} (λ s. (s, X s.node.0)) (fanins_of e))) ≡ true) [
        | Constant ↦ λ l f. both _ _ is refl
        | Input k ↦ λ l f. both _ _ is refl
        | IsGate g ↦ λ l f. cc
      ]
    ] live bare
