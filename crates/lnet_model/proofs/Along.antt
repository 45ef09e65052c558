-- Recursion along fanins: its equation, that it is the only solution, and what it reads.
use Rattle.std.proofs.Common.{◌≡◌, ℕ, zero, suc, ◌<◌, List, [], ◌∷◌, map, length, IsSome, None, Some, refl, sym, ap, ◌∙◌, inl, inr, arith}
use Rattle.lnet_gates.specs.declared.signal.Signal.{Signal}
use Rattle.lnet_model.specs.Networks.{Entry, Lookup, fanins_of}
use Rattle.lnet_model.specs.Along.{at_entry, once, along, In, fanin_nodes, IsWalk}

abbrev pub Step : Type 0 → Type 0
Step A = ℕ → Entry → List (Signal × A) → A

pub pairs-same : {A : Type 0} (ss : List Signal) (V W : ℕ → A) → ((m : ℕ) → In m (map (λ (s : Signal). s.node.0) ss) → V m ≡ W m) → ◌≡◌ {A = List (Signal × A)} (map (λ s. (s, V s.node.0)) ss) (map (λ s. (s, W s.node.0)) ss)
pairs-same [] V W same = refl
pairs-same (s ∷ ss) V W same = λ i. (s, same s.node.0 (inl refl) i) ∷ pairs-same ss V W (λ m h. same m (inr h)) i

-- a step reads V at the fanins alone
pub once-same : {A : Type 0} (g : Lookup) (step : Step A) (none : A) (V W : ℕ → A) (n : ℕ) → ((m : ℕ) → In m (fanin_nodes (g n)) → V m ≡ W m) → once g step none V n ≡ once g step none W n
once-same {A} g step none V W n same =
    elim (g n) as (λ o. ((m : ℕ) → In m (fanin_nodes o) → V m ≡ W m) → at_entry none (λ e. step n e (map {B = Signal × A} (λ s. (s, V s.node.0)) (fanins_of e))) o ≡ at_entry none (λ e. step n e (map {B = Signal × A} (λ s. (s, W s.node.0)) (fanins_of e))) o) [
      | None ↦ λ _. refl
      | Some e ↦ λ k. ap (step n e) (pairs-same (fanins_of e) V W k)
    ] same

-- each walk from n has at most d nodes
abbrev pub Short : Lookup → ℕ → ℕ → Type 0
Short g d n = (ns : List ℕ) → IsWalk g n ns → length ns < d

pub live_parent : (g : Lookup) (n m : ℕ) → In m (fanin_nodes (g n)) → IsSome (g n)
live_parent g n m = elim (g n) as (λ o. In m (fanin_nodes o) → IsSome o) [ None ↦ λ h. absurd h | Some e ↦ λ _. refl ]

pub short_fanin : (g : Lookup) (d n m : ℕ) → Short g (suc d) n → In m (fanin_nodes (g n)) → Short g d m
short_fanin g d n m short i ns w = let k = short (m ∷ ns) (live_parent g n m i, i, w) in omega arith

no_walk : {A : Type 0} (g : Lookup) (step : Step A) (none : A) (V : ℕ → A) (n : ℕ) → Short g 0 n → once g step none V n ≡ none
no_walk {A} g step none V n short =
    elim (g n) as (λ o. (IsSome o → ⊥) → at_entry none (λ e. step n e (map {B = Signal × A} (λ s. (s, V s.node.0)) (fanins_of e))) o ≡ none) [
      | None ↦ λ _. refl
      | Some e ↦ λ k. absurd (k refl)
    ] (λ live. let k = short [] live in omega arith)

-- a greater depth changes nothing where no walk is longer
pub along-deeper : {A : Type 0} (g : Lookup) (step : Step A) (none : A) (d n : ℕ) → Short g d n → along g step none (suc d) n ≡ along g step none d n
unfolding along
along-deeper g step none zero n short = no_walk g step none _ n short
along-deeper g step none (suc d) n short =
    once-same g step none _ _ n (λ m i. along-deeper g step none d m (short_fanin g d n m short i))

-- there is one solution of the equations
pub along-unique : {A : Type 0} (g : Lookup) (step : Step A) (none : A) (V : ℕ → A) → ((n : ℕ) → V n ≡ once g step none V n) → (d n : ℕ) → Short g d n → along g step none d n ≡ V n
unfolding along
along-unique g step none V solves zero n short = sym (solves n ∙ no_walk g step none V n short)
along-unique g step none V solves (suc d) n short =
    once-same g step none _ V n (λ m i. along-unique g step none V solves d m (short_fanin g d n m short i)) ∙ sym (solves n)
