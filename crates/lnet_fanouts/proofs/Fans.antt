-- A fanout as an ascending list of places.
use Rattle.std.proofs.Common.{◌≡◌, ℕ, zero, suc, ◌+◌, ◌*◌, ◌/◌, ◌%◌, ◌<◌, ◌≤◌, cond, List, [], ◌∷◌, ◌++◌, map, length, None, Some, refl, sym, ap, subst, ◌∙◌, inl, inr, arith}
use Rattle.std.specs.Prelude.{◌⊎◌}
use Rattle.std.proofs.lemmas.Bool.Decides.{eqb_tells}
use Rattle.lnet_gates.specs.declared.signal.Signal.{Signal}
use Rattle.lnet_model.specs.Networks.{NetworkValue, Lookup, Constant, Input, IsGate, entry_at, fanins_of}
use Rattle.lnet_model.specs.Along.{at_entry}
use Rattle.lnet_model.specs.Fanouts.{fan, slots_naming}
use Rattle.lnet_model.specs.Dags.{IsDag, numbers_of}
use Rattle.lnet_model.proofs.Numbers.{live-below-numbers}
use Rattle.lnet_model.proofs.References.{takes-six}
use Rattle.lnet_model.proofs.Rising.{by_number, entries-by_number}
use Rattle.lnet_chains.specs.Lists.{Within}
use Rattle.lnet_pools.specs.Ascending.{IsAscending}
use Rattle.lnet_store.specs.Cursors.{slot_at}

-- the place of a pair
abbrev pub place_of : ℕ × ℕ → ℕ
place_of r = 6 * r.0 + r.1

in-either : (d : ℕ) (xs ys : List ℕ) → Within d (xs ++ ys) → Within d xs ⊎ Within d ys
in-either d [] ys i = inr i
in-either d (x ∷ xs) ys (inl e) = inl (inl e)
in-either d (x ∷ xs) ys (inr i) = elim (in-either d xs ys i) as (λ _. Within d (x ∷ xs) ⊎ Within d ys) [ inl a ↦ inl (inr a) | inr b ↦ inr b ]

joined-ascend : (b : ℕ) (xs ys : List ℕ) → IsAscending xs → IsAscending ys → ((d : ℕ) → Within d xs → d < b) → ((d : ℕ) → Within d ys → b ≤ d) → IsAscending (xs ++ ys)
joined-ascend b [] ys A B under over = B
joined-ascend b (x ∷ xs) ys A B under over = (
  λ d i. elim (in-either d xs ys i) as (λ _. x < d) [ inl j ↦ A.0 d j | inr j ↦ (let h = under x (inl refl) in let k = over d j in omega arith) ],
  joined-ascend b xs ys A.1 B (λ d i. under d (inr i)) over,
)

map-joined : (rs qs : List (ℕ × ℕ)) → map place_of (rs ++ qs) ≡ map place_of rs ++ map place_of qs
map-joined [] qs = refl
map-joined (r ∷ rs) qs = ap (λ z. place_of r ∷ z) (map-joined rs qs)

-- ---- the slots of one gate

module _ (n p : ℕ) where
  slots-bounds : (k : ℕ) (ss : List Signal) (d : ℕ) → Within d (map place_of (slots_naming n p k ss)) → (6 * p + k ≤ d) × (d < 6 * p + k + length ss)
  slots-bounds k [] d i = absurd i
  slots-bounds k (s ∷ ss) d i = elim (eqb_tells s.node.0 n) as (λ _. (6 * p + k ≤ d) × (d < 6 * p + k + length (s ∷ ss))) [
    | inl h ↦ elim (subst (λ b. Within d (map place_of (cond b ((p, k) ∷ slots_naming n p (suc k) ss) (slots_naming n p (suc k) ss)))) h.0 i)
        as (λ _. (6 * p + k ≤ d) × (d < 6 * p + k + length (s ∷ ss))) [
          | inl e ↦ (omega arith, omega arith)
          | inr j ↦ (let t = slots-bounds (suc k) ss d j in let a = t.0 in let b = t.1 in (omega arith, omega arith))
        ]
    | inr h ↦ (let t = slots-bounds (suc k) ss d (subst (λ b. Within d (map place_of (cond b ((p, k) ∷ slots_naming n p (suc k) ss) (slots_naming n p (suc k) ss)))) h.0 i) in let a = t.0
        in let b = t.1 in (omega arith, omega arith))
  ]

  slots-ascend : (k : ℕ) (ss : List Signal) → IsAscending (map place_of (slots_naming n p k ss))
  slots-ascend k [] = tt
  slots-ascend k (s ∷ ss) = elim (eqb_tells s.node.0 n) as (λ _. IsAscending (map place_of (slots_naming n p k (s ∷ ss)))) [
    | inl h ↦ subst (λ b. IsAscending (map place_of (cond b ((p, k) ∷ slots_naming n p (suc k) ss) (slots_naming n p (suc k) ss)))) (sym h.0)
        (λ d i. (let a = (slots-bounds (suc k) ss d i).0 in omega arith), slots-ascend (suc k) ss)
    | inr h ↦ subst (λ b. IsAscending (map place_of (cond b ((p, k) ∷ slots_naming n p (suc k) ss) (slots_naming n p (suc k) ss)))) (sym h.0) (slots-ascend (suc k) ss)
  ]

-- the pairs of a list that their places tell
pairs-joined : (rs qs : List (ℕ × ℕ)) → map slot_at (map place_of rs) ≡ rs → map slot_at (map place_of qs) ≡ qs → map slot_at (map place_of (rs ++ qs)) ≡ rs ++ qs
pairs-joined [] qs a b = b
pairs-joined (r ∷ rs) qs a b = λ i. pair-one i ∷ pairs-joined rs qs rest b i
  where
    head : List (ℕ × ℕ) → ℕ × ℕ
    head [] = r
    head (z ∷ zs) = z

    tail : List (ℕ × ℕ) → List (ℕ × ℕ)
    tail [] = []
    tail (z ∷ zs) = zs

    pair-one : slot_at (place_of r) ≡ r
    pair-one = ap head a

    rest : map slot_at (map place_of rs) ≡ rs
    rest = ap tail a

told-back : (n p k : ℕ) (ss : List Signal) → k + length ss ≤ 6 → map slot_at (map place_of (slots_naming n p k ss)) ≡ slots_naming n p k ss
told-back n p k [] few = refl
told-back n p k (s ∷ ss) few = elim (eqb_tells s.node.0 n) as (λ _. map slot_at (map place_of (slots_naming n p k (s ∷ ss))) ≡ slots_naming n p k (s ∷ ss)) [
  | inl h ↦ subst (λ b. map slot_at (map place_of (cond b ((p, k) ∷ slots_naming n p (suc k) ss) (slots_naming n p (suc k) ss))) ≡ cond b ((p, k) ∷ slots_naming n p (suc k) ss)
      (slots_naming n p (suc k) ss)) (sym h.0)
      (let q : (6 * p + k) / 6 ≡ p = omega arith in let r : (6 * p + k) % 6 ≡ k = omega arith in λ i. (q i, r i) ∷ told-back n p (suc k) ss (let f = few in omega arith) i)
  | inr h ↦ subst (λ b. map slot_at (map place_of (cond b ((p, k) ∷ slots_naming n p (suc k) ss) (slots_naming n p (suc k) ss))) ≡ cond b ((p, k) ∷ slots_naming n p (suc k) ss)
      (slots_naming n p (suc k) ss)) (sym h.0) (told-back n p (suc k) ss (omega arith))
]

-- ---- the slots of all gates, of six fanins at most

-- those of the gate at m
abbrev named_from : Lookup → ℕ → ℕ → List (ℕ × ℕ)
named_from g n m = slots_naming n m 0 (at_entry [] fanins_of (g m))

-- those of so many numbers from m on
abbrev named_after : Lookup → ℕ → ℕ → ℕ → List (ℕ × ℕ)
named_after g n m zero = []
named_after g n m (suc k) = named_from g n m ++ named_after g n (suc m) k

named-by_number : (g : Lookup) (n a k : ℕ) → by_number g (λ m e. slots_naming n m 0 (fanins_of e)) a k ≡ named_after g n a k
named-by_number g n a zero = refl
named-by_number g n a (suc k) =
    ap (λ zs. at_entry [] (λ e. slots_naming n a 0 (fanins_of e)) (g a) ++ zs) (named-by_number g n (suc a) k)
    ∙ ap (λ zs. zs ++ named_after g n (suc a) k)
    (elim (g a) as (λ o. at_entry [] (λ e. slots_naming n a 0 (fanins_of e)) o ≡ slots_naming n a 0 (at_entry [] fanins_of o)) [ None ↦ refl | Some e ↦ refl ])

fan-after : (N : NetworkValue) (n : ℕ) → fan N n ≡ named_after (entry_at N) n 0 (numbers_of N)
unfolding entry_at fan
fan-after N n =
    entries-by_number (λ m e. slots_naming n m 0 (fanins_of e)) N.nodes (numbers_of N) (live-below-numbers N)
    ∙ named-by_number (entry_at N) n 0 (numbers_of N)

module _ (g : Lookup) (n : ℕ) (six : (m : ℕ) → length (at_entry [] fanins_of (g m)) ≤ 6) where
  after-bounds : (m k d : ℕ) → Within d (map place_of (named_after g n m k)) → 6 * m ≤ d
  after-bounds m zero d i = absurd i
  after-bounds m (suc k) d i = elim (in-either d (map place_of (named_from g n m)) (map place_of (named_after g n (suc m) k))
      (subst (Within d) (map-joined (named_from g n m) (named_after g n (suc m) k)) i)) as (λ _. 6 * m ≤ d) [
        | inl j ↦ (let a = (slots-bounds n m 0 (at_entry [] fanins_of (g m)) d j).0 in omega arith)
        | inr j ↦ (let a = after-bounds (suc m) k d j in omega arith)
      ]

  after-ascend : (m k : ℕ) → IsAscending (map place_of (named_after g n m k))
  after-ascend m zero = tt
  after-ascend m (suc k) = subst IsAscending (sym (map-joined (named_from g n m) (named_after g n (suc m) k)))
      (joined-ascend (6 * suc m) (map place_of (named_from g n m)) (map place_of (named_after g n (suc m) k)) (slots-ascend n m 0 (at_entry [] fanins_of (g m))) (after-ascend (suc m) k)
      (λ d i. let b = (slots-bounds n m 0 (at_entry [] fanins_of (g m)) d i).1 in let h = six m in omega arith)
      (λ d i. after-bounds (suc m) k d i))

  after-back : (m k : ℕ) → map slot_at (map place_of (named_after g n m k)) ≡ named_after g n m k
  after-back m zero = refl
  after-back m (suc k) = pairs-joined (named_from g n m) (named_after g n (suc m) k) (told-back n m 0 (at_entry [] fanins_of (g m)) (let h = six m in omega arith)) (after-back (suc m) k)

-- a gate has six fanins at most
pub short-gates : (N : NetworkValue) → IsDag N → (m : ℕ) → length (at_entry [] fanins_of (entry_at N m)) ≤ 6
short-gates N D m = elim (entry_at N m) as (λ o. entry_at N m ≡ o → length (at_entry [] fanins_of o) ≤ 6) [
  | None ↦ λ e. omega arith
  | Some x ↦ elim x as (λ x. entry_at N m ≡ Some x → length (fanins_of x) ≤ 6) [
    | Constant ↦ λ e. omega arith
    | Input k ↦ λ e. omega arith
    | IsGate h ↦ λ e. takes-six h.op (length h.fanins)
        (D.arities m h e)
  ]
] refl

pub fan-ascends : (N : NetworkValue) (n : ℕ) → IsDag N → IsAscending (map place_of (fan N n))
fan-ascends N n D = subst (λ rs. IsAscending (map place_of rs)) (sym (fan-after N n)) (after-ascend (entry_at N) n (short-gates N D) 0 (numbers_of N))

pub fan-back : (N : NetworkValue) (n : ℕ) → IsDag N → map slot_at (map place_of (fan N n)) ≡ fan N n
fan-back N n D = subst (λ rs. map slot_at (map place_of rs) ≡ rs) (sym (fan-after N n)) (after-back (entry_at N) n (short-gates N D) 0 (numbers_of N))

-- ---- one ascending list for a set of numbers

cut-down : (zs : List ℕ) (u v d : ℕ) → u ≡ v → u < d → Within d (v ∷ zs) → Within d zs
cut-down zs u v d e l (inl s) = absurd (omega arith)
cut-down zs u v d e l (inr j) = j

pub one-list : (xs ys : List ℕ) → IsAscending xs → IsAscending ys → ((d : ℕ) → Within d xs → Within d ys) → ((d : ℕ) → Within d ys → Within d xs) → xs ≡ ys
one-list [] [] A B f g = refl
one-list [] (y ∷ ys) A B f g = absurd (g y (inl refl))
one-list (x ∷ xs) [] A B f g = absurd (f x (inl refl))
one-list (x ∷ xs) (y ∷ ys) A B f g = λ i. same i ∷ one-list xs ys A.1 B.1 (λ d j. cut-down ys x y d same (A.0 d j) (f d (inr j))) (λ d j. cut-down xs y x d (sym same) (B.0 d j) (g d (inr j))) i
  where
    same : x ≡ y
    same = elim (f x (inl refl)) as (λ _. x ≡ y) [ inl e ↦ e | inr i ↦ elim (g y (inl refl)) as (λ _. x ≡ y) [ inl e ↦ sym e | inr j ↦ (let a = B.0 x i in let b = A.0 y j in absurd (omega arith)) ] ]
