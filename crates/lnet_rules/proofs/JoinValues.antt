-- The values of joined signals.
use Rattle.std.proofs.Common.{◌≡◌, ℕ, ◌≤◌, Bool, true, false, ◌&&◌, ◌||◌, List, [], ◌∷◌, map, refl, ap, ◌∙◌, inl, inr, arith}
use Rattle.lnet_gates.specs.declared.signal.Signal.{Signal}
use Rattle.lnet_gates.specs.declared.gate.Kind.{Kind}
use Rattle.lnet_gates.specs.declared.gate.Op.TheVariants as op
use Rattle.lnet_gates.specs.Gates.{flip}
use Rattle.lnet_gates.specs.Operands.{complemented, constant}
use Rattle.lnet_gates.specs.Lawful.OperandLemmas.{read-flipped}
use Rattle.lnet_model.specs.Networks.{NetworkValue, IsLive, live_count}
use Rattle.lnet_model.specs.Along.{nodes_read}
use Rattle.lnet_model.specs.Values.{node_value, signal_value}
use Rattle.lnet_model.specs.Changes.{AreLive}
use Rattle.lnet_model.specs.Dags.{IsStored, NUMBERS}
use Rattle.lnet_hashed.specs.Strashed.{Placed}
use Rattle.lnet_hashed.proofs.Extensions.{extends-self, extends-twice, extends-live, extends-signal, value-first}
use Rattle.lnet_hashed.proofs.Places.{first-live}
use Rattle.lnet_hashed.proofs.PlacedValues.{Stands, stands-as}
use Rattle.lnet_hashed.proofs.LaidValues.{made-stands}
use Rattle.lnet_edge.specs.Values.{all_bits, any_bit, parity}
use Rattle.lnet_edge.specs.Values.{complemented as turned_bit}
use Rattle.lnet_rules.specs.declared.joining.Join.{Join}
use Rattle.lnet_rules.specs.declared.joining.Join.TheVariants.{And, Or, Xor}
use Rattle.lnet_rules.specs.Joins.{turned, by_join, joined_from, folded}
use Rattle.lnet_rules.proofs.JoinLemmas.{both-live, joined_from-grows}

-- two bits joined
abbrev pub join_bits : Join → Bool → Bool → Bool
join_bits And x y = x && y
join_bits Or x y = x || y
join_bits Xor x y = flip x y

-- further bits joined one after another
abbrev pub joined_bits : Join → Bool → List Bool → Bool
joined_bits how b [] = b
joined_bits how b (x ∷ xs) = joined_bits how (join_bits how b x) xs

abbrev pub folded_bits : Join → Bool → List Bool → Bool
folded_bits how none [] = none
folded_bits how none (x ∷ xs) = joined_bits how x xs

-- ---- what stands, complemented or after more

pub stands-turned : (N : NetworkValue) (v : (ℕ → Bool) → Bool) (c : Bool) (p : Placed) → Stands N v p → Stands N (λ a. flip c (v a)) (turned c p)
stands-turned N v c p h = record {
  stored = h.stored;
  extends = h.extends;
  live = h.live;
  valued = λ a. read-flipped (node_value p.network a) c p.signal ∙ ap (flip c) (h.valued a);
}

pub stands-after : (N : NetworkValue) (v w : (ℕ → Bool) → Bool) (p q : Placed) → Stands N v p → Stands p.network w q → Stands N w q
stands-after N v w p q h k = record { stored = k.stored; extends = extends-twice N p.network q.network h.extends k.extends; live = k.live; valued = k.valued }

pub stands-self : (N : NetworkValue) (s : Signal) → IsStored N → IsLive N s.node.0 → Stands N (λ a. signal_value N a s) (record { network = N; signal = s })
stands-self N s stored live = record { stored = stored; extends = extends-self N; live = live; valued = λ a. refl }

pub stands-constant : (N : NetworkValue) (b : Bool) → IsStored N → Stands N (λ a. b) (record { network = N; signal = constant b })
stands-constant N b stored = record {
  stored = stored;
  extends = extends-self N;
  live = first-live N stored.whole;
  valued = λ a. ap (flip b) (value-first N a stored.dag.acyclic stored.whole) ∙ flip-false b;
}
  where
    flip-false : (c : Bool) → flip c false ≡ c
    flip-false true = refl
    flip-false false = refl

or-by-and : (x y : Bool) → flip true (flip true x && flip true y) ≡ (x || y)
or-by-and true true = refl
or-by-and true false = refl
or-by-and false true = refl
or-by-and false false = refl

module _ (kind : Kind) where
  pub join-stands : (how : Join) (N : NetworkValue) (s t : Signal) → IsStored N → IsLive N s.node.0 → IsLive N t.node.0 → live_count (by_join kind how N s t).network ≤ NUMBERS → Stands N (λ a. join_bits how (signal_value N a s) (signal_value N a t)) (by_join kind how N s t)
  join-stands And N s t stored here there few = made-stands kind N op.And (s ∷ t ∷ []) refl tt stored (both-live N s t here there) few
  join-stands Xor N s t stored here there few = made-stands kind N op.Xor (s ∷ t ∷ []) refl tt stored (both-live N s t here there) few
  join-stands Or N s t stored here there few =
      let both = made-stands kind N op.And (complemented s ∷ complemented t ∷ []) refl tt stored (both-live N (complemented s) (complemented t) here there) few in
      stands-as N _ (λ a. signal_value N a s || signal_value N a t) (by_join kind Or N s t)
      (λ a. (λ i. flip true (read-flipped (node_value N a) true s i && read-flipped (node_value N a) true t i)) ∙ or-by-and (signal_value N a s) (signal_value N a t))
      (stands-turned N _ true _ both)

  pub joined_from-stands : (how : Join) (N : NetworkValue) (v : (ℕ → Bool) → Bool) (p : Placed) (ss : List Signal) → Stands N v p → AreLive N (nodes_read ss) → live_count (joined_from kind how p ss).network ≤ NUMBERS → Stands N (λ a. joined_bits how (v a) (map (signal_value N a) ss)) (joined_from kind how p ss)
  unfolding joined_from
  joined_from-stands how N v p [] h live few = h
  joined_from-stands how N v p (s ∷ ss) h live few =
      let q : Placed = by_join kind how p.network p.signal s in
      let more = joined_from-grows kind how q ss in
      let old = live s.node.0 (inl refl) in
      let step = join-stands how p.network p.signal s h.stored h.live (extends-live N p.network h.extends s.node.0 old) (omega arith) in
      let next = stands-as N _ (λ a. join_bits how (v a) (signal_value N a s)) q
      (λ a i. join_bits how (h.valued a i) (extends-signal N p.network h.extends a s old i))
      (stands-after N v _ p q h step) in
      joined_from-stands how N (λ a. join_bits how (v a) (signal_value N a s)) q ss next (λ m i. live m (inr i)) few

  -- signals folded have the folded value
  pub folded-stands : (how : Join) (none : Bool) (N : NetworkValue) (ss : List Signal) → IsStored N → AreLive N (nodes_read ss) → live_count (folded kind how none N ss).network ≤ NUMBERS → Stands N (λ a. folded_bits how none (map (signal_value N a) ss)) (folded kind how none N ss)
  folded-stands how none N [] stored live few = stands-constant N none stored
  folded-stands how none N (s ∷ ss) stored live few =
      joined_from-stands how N (λ a. signal_value N a s) (record { network = N; signal = s }) ss (stands-self N s stored (live s.node.0 (inl refl))) (λ m i. live m (inr i)) few

-- ---- what the folded value is

joined-all : (b : Bool) (xs : List Bool) → joined_bits And b xs ≡ (b && all_bits xs)
joined-all b [] = go b
  where
    go : (b : Bool) → b ≡ (b && true)
    go true = refl
    go false = refl
joined-all b (x ∷ xs) = joined-all (b && x) xs ∙ go b
  where
    go : (b : Bool) → ((b && x) && all_bits xs) ≡ (b && (x && all_bits xs))
    go true = refl
    go false = refl

joined-any : (b : Bool) (xs : List Bool) → joined_bits Or b xs ≡ (b || any_bit xs)
joined-any b [] = go b
  where
    go : (b : Bool) → b ≡ (b || false)
    go true = refl
    go false = refl
joined-any b (x ∷ xs) = joined-any (b || x) xs ∙ go b
  where
    go : (b : Bool) → ((b || x) || any_bit xs) ≡ (b || (x || any_bit xs))
    go true = refl
    go false = refl

joined-odd : (b : Bool) (xs : List Bool) → joined_bits Xor b xs ≡ turned_bit b (parity xs)
joined-odd b [] = go b
  where
    go : (b : Bool) → b ≡ turned_bit b false
    go true = refl
    go false = refl
joined-odd b (x ∷ xs) = joined-odd (flip b x) xs ∙ go b x (parity xs)
  where
    go : (b x p : Bool) → turned_bit (flip b x) p ≡ turned_bit b (turned_bit x p)
    go true true true = refl
    go true true false = refl
    go true false p = refl
    go false true p = refl
    go false false p = refl

pub folded-all : (xs : List Bool) → folded_bits And true xs ≡ all_bits xs
folded-all [] = refl
folded-all (x ∷ xs) = joined-all x xs

pub folded-any : (xs : List Bool) → folded_bits Or false xs ≡ any_bit xs
folded-any [] = refl
folded-any (x ∷ xs) = joined-any x xs

pub folded-odd : (xs : List Bool) → folded_bits Xor false xs ≡ parity xs
folded-odd [] = refl
folded-odd (x ∷ xs) = joined-odd x xs
