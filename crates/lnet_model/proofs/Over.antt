-- What is defined by recursion along the fanins of a network without cycles.
use Rattle.std.proofs.Common.{◌≡◌, ◌≢◌, ℕ, zero, suc, [], map, sym, ap, subst, ◌∙◌, inl, inr, arith}
use Rattle.std.proofs.lemmas.Bool.Decides.{eqb_tells}
use Rattle.lnet_gates.specs.declared.signal.Signal.{Signal}
use Rattle.lnet_model.specs.Networks.{NetworkValue, Lookup, entry_at, live_count, fanins_of}
use Rattle.lnet_model.specs.Along.{at_entry, once, along, over, In, fanin_nodes, Acyclic}
use Rattle.lnet_model.proofs.Along.{Step, Short, once-same, along-deeper, along-unique, live_parent, short_fanin}
use Rattle.lnet_model.proofs.Walks.{short_walks}

-- the equation
pub over-once : {A : Type 0} (N : NetworkValue) (step : Step A) (none : A) → Acyclic N → (n : ℕ) → over N step none n ≡ once (entry_at N) step none (over N step none) n
unfolding over along
over-once N step none acyclic n = sym (along-deeper (entry_at N) step none (live_count N) n (short_walks N acyclic n))

-- and its one solution
pub over-unique : {A : Type 0} (N : NetworkValue) (step : Step A) (none : A) (V : ℕ → A) → Acyclic N → ((n : ℕ) → V n ≡ once (entry_at N) step none V n) → (n : ℕ) → over N step none n ≡ V n
unfolding over
over-unique N step none V acyclic solves n = along-unique (entry_at N) step none V solves (live_count N) n (short_walks N acyclic n)

short_induction : (g : Lookup) (P : ℕ → Type 0) → ((n : ℕ) → ((m : ℕ) → In m (fanin_nodes (g n)) → P m) → P n) → (d n : ℕ) → Short g d n → P n
short_induction g P up zero n short = up n (λ m i. let k = short [] (live_parent g n m i) in absurd (omega arith))
short_induction g P up (suc d) n short = up n (λ m i. short_induction g P up d m (short_fanin g d n m short i))

-- what holds of a node where it holds of its fanins holds of each
pub along_induction : (N : NetworkValue) (P : ℕ → Type 0) → Acyclic N → ((n : ℕ) → ((m : ℕ) → In m (fanin_nodes (entry_at N n)) → P m) → P n) → (n : ℕ) → P n
along_induction N P acyclic up n = short_induction (entry_at N) P up (live_count N) n (short_walks N acyclic n)

-- a step reads one entry
pub once-entry : {A : Type 0} (g h : Lookup) (step : Step A) (none : A) (V : ℕ → A) (n : ℕ) → g n ≡ h n → once g step none V n ≡ once h step none V n
once-entry {A} g h step none V n e = ap (at_entry none (λ x. step n x (map {B = Signal × A} (λ s. (s, V s.node.0)) (fanins_of x)))) e

-- two networks that have the same at each number but k, where what is at k is no one's fanin: the same elsewhere
pub over-apart : {A : Type 0} (M N : NetworkValue) (k : ℕ) (step : Step A) (none : A) → Acyclic M → Acyclic N → ((n : ℕ) → n ≢ k → entry_at M n ≡ entry_at N n) → ((n : ℕ) → n ≢ k → In k (fanin_nodes (entry_at N n)) → ⊥) → (n : ℕ) → n ≢ k → over M step none n ≡ over N step none n
over-apart M N k step none cm cn same free =
    let P : ℕ → Type 0 = λ n. n ≢ k → over M step none n ≡ over N step none n in
    along_induction N P cn (λ n below ne.
    over-once M step none cm n
    ∙ once-entry (entry_at M) (entry_at N) step none (over M step none) n (same n ne)
    ∙ once-same (entry_at N) step none (over M step none) (over N step none) n (λ m i. below m i (λ e. free n ne (subst (λ z. In z (fanin_nodes (entry_at N n))) e i)))
    ∙ sym (over-once N step none cn n))

-- a change of one entry under which the old answers still solve the equation there changes no answer
pub over-kept : {A : Type 0} (M N : NetworkValue) (k : ℕ) (step : Step A) (none : A) → Acyclic M → Acyclic N → ((n : ℕ) → n ≢ k → entry_at M n ≡ entry_at N n) → over N step none k ≡ once (entry_at M) step none (over N step none) k → (n : ℕ) → over M step none n ≡ over N step none n
over-kept {A} M N k step none cm cn same here n = over-unique M step none (over N step none) cm solves n
  where
    solves : (q : ℕ) → over N step none q ≡ once (entry_at M) step none (over N step none) q
    solves q =
        elim (eqb_tells q k) as (λ _. over N step none q ≡ once (entry_at M) step none (over N step none) q) [
          | inl p ↦ subst (λ z. over N step none z ≡ once (entry_at M) step none (over N step none) z) (sym p.1) here
          | inr p ↦ over-once N step none cn q ∙ sym (once-entry (entry_at M) (entry_at N) step none (over N step none) q (same q p.1))
        ]
