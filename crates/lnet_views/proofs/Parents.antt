-- What stands in a fanout is a parent, and so is what stands in a list of the same pairs.
use Rattle.std.proofs.Common.{◌≡◌, ◌≢◌, ℕ, suc, ◌<◌, Bool, true, false, cond, ◌&&◌, eqb, List, [], ◌∷◌, ◌++◌, map, Some, refl, sym, ap, subst, ◌∙◌, inl, inr, arith, T}
use Rattle.std.specs.Prelude.{◌⊎◌}
use Rattle.std.specs.List.{flat_map}
use Rattle.std.specs.Cmp.{ranks}
use Rattle.std.specs.Ordering.{nat_cmp, is_lt, MatchOrdering}
use Rattle.std.specs.declared.cmp.Ordering.TheVariants.{Less, Equal, Greater}
use Rattle.std.specs.FinMap.{find, entries, get-entries, entries_sorted}
use Rattle.std.specs.FinMap.Entries.{below_all, is_sorted}
use Rattle.std.proofs.lemmas.Bool.Decides.{eqb_tells}
use Rattle.lnet_gates.specs.declared.signal.Signal.{Signal}
use Rattle.lnet_model.specs.Networks.{Entry, NetworkValue, entry_at, fanins_of}
use Rattle.lnet_model.specs.Along.{In, fanin_nodes, nodes_read}
use Rattle.lnet_model.specs.Fanouts.{fan, slots_naming, IsParent}
use Rattle.lnet_model.proofs.Map.{tied, apart}
use Rattle.lnet_model.proofs.Fan.{parent-in-fan}
use Rattle.lnet_store.specs.StoreValues.{IsOneOf}

in-append : (x : ℕ) (xs ys : List (ℕ × ℕ)) → In x (map (λ r. r.0) (xs ++ ys)) → In x (map (λ r. r.0) xs) ⊎ In x (map (λ r. r.0) ys)
in-append x [] ys i = inr i
in-append x (r ∷ rs) ys (inl e) = inl (inl e)
in-append x (r ∷ rs) ys (inr i) = elim (in-append x rs ys i) [ inl a ↦ inl (inr a) | inr b ↦ inr b ]

-- the slots of one parent
slots-parent : (n p x k : ℕ) (ss : List Signal) → In x (map (λ r. r.0) (slots_naming n p k ss)) → (x ≡ p) × In n (nodes_read ss)
slots-parent n p x k [] i = absurd i
slots-parent n p x k (s ∷ ss) i = (elim (eqb_tells s.node.0 n) as (λ _. In x (map (λ r. r.0) (cond (eqb s.node.0 n) ((p, k) ∷ slots_naming n p (suc k) ss) (slots_naming n p (suc k) ss))) → (x ≡ p) × In n (nodes_read (s ∷ ss))) [
  | inl e ↦ λ i. elim (subst (λ b. In x (map (λ (r : ℕ × ℕ). r.0) (cond b ((p, k) ∷ slots_naming n p (suc k) ss) (slots_naming n p (suc k) ss)))) e.0 i) as (λ _. (x ≡ p) × In n (nodes_read (s ∷ ss))) [ inl h ↦ (h, inl (sym e.1)) | inr j ↦ (let t = slots-parent n p x (suc k) ss j in (t.0, inr t.1)) ]
  | inr e ↦ λ i. let t = slots-parent n p x (suc k) ss (subst (λ b. In x (map (λ (r : ℕ × ℕ). r.0) (cond b ((p, k) ∷ slots_naming n p (suc k) ss) (slots_naming n p (suc k) ss)))) e.0 i) in (t.0, inr t.1)
]) i

abbrev pub InPairs : ℕ × Entry → List (ℕ × Entry) → Type 0
InPairs x [] = ⊥
InPairs x (y ∷ ys) = (x ≡ y) ⊎ InPairs x ys

-- what is in a list of entries stands somewhere in it
from-listed : (n p : ℕ) (es : List (ℕ × Entry)) → In p (map (λ r. r.0) (flat_map (λ e. slots_naming n e.0 0 (fanins_of e.1)) es)) → (e : ℕ × Entry) × InPairs e es × (p ≡ e.0) × In n (nodes_read (fanins_of e.1))
from-listed n p [] i = absurd i
from-listed n p (e ∷ es) i = elim (in-append p (slots_naming n e.0 0 (fanins_of e.1)) (flat_map (λ e. slots_naming n e.0 0 (fanins_of e.1)) es) i) as (λ _. (f : ℕ × Entry) × InPairs f (e ∷ es) × (p ≡ f.0) × In n (nodes_read (fanins_of f.1))) [
  | inl j ↦ (let t = slots-parent n e.0 p 0 (fanins_of e.1) j in (e, inl refl, t.0, t.1))
  | inr j ↦ (let t = from-listed n p es j in (t.0, inr t.1, t.2, t.3))
]

pub first : (a b : Bool) → T (a && b) → T a
first true b p = tt
first false b p = p

pub second : (a b : Bool) → T (a && b) → T b
second true b p = p
second false b p = absurd p

lt-from : (x y : ℕ) → T (is_lt (nat_cmp x y)) → x < y
lt-from x y h = elim (nat_cmp x y) as (λ r. MatchOrdering r (x < y) (x ≡ y) (y < x) → T (is_lt r) → x < y) [
  | Less ↦ λ m h. m
  | Equal ↦ λ m h. absurd h
  | Greater ↦ λ m h. absurd h
] (ranks x y) h

pub above : (x : ℕ) (es : List (ℕ × Entry)) → T (below_all nat_cmp x es) → (e : ℕ × Entry) → InPairs e es → x < e.0
above x [] h e i = absurd i
above x (f ∷ fs) h e (inl is) = subst (λ (z : ℕ × Entry). x < z.0) (sym is) (lt-from x f.0 (first _ _ h))
above x (f ∷ fs) h e (inr i) = above x fs (second _ _ h) e i

-- each entry is found at its key
pub found : (es : List (ℕ × Entry)) → T (is_sorted nat_cmp es) → (e : ℕ × Entry) → InPairs e es → find nat_cmp e.0 es ≡ Some e.1
found [] s e i = absurd i
found (f ∷ fs) s e (inl is) = subst (λ (z : ℕ × Entry). find nat_cmp z.0 (f ∷ fs) ≡ Some z.1) (sym is) (ap (λ b. cond b (Some f.1) (find nat_cmp f.0 fs)) (tied f.0))
found (f ∷ fs) s e (inr i) =
    let lt = above f.0 fs (first _ _ s) e i in
    let ne : e.0 ≢ f.0 = omega arith in
    ap (λ b. cond b (Some f.1) (find nat_cmp e.0 fs)) (apart e.0 f.0 ne) ∙ found fs (second _ _ s) e i

-- what stands in a fanout is a parent
pub fan-parent : (N : NetworkValue) (n p : ℕ) → In p (map (λ r. r.0) (fan N n)) → IsParent N n p
unfolding fan entry_at
fan-parent N n p i =
    let t = from-listed n p (entries N.nodes) i in
    let at = get-entries N.nodes p ∙ subst (λ z. find nat_cmp z (entries N.nodes) ≡ Some t.0.1) (sym t.2) (found (entries N.nodes) (entries_sorted N.nodes) t.0 t.1) in
    subst (λ o. In n (fanin_nodes o)) (sym at) t.3

in-one : (p : ℕ) (rs : List (ℕ × ℕ)) → In p (map (λ r. r.0) rs) → (q : ℕ × ℕ) × IsOneOf q rs × (p ≡ q.0)
in-one p [] i = absurd i
in-one p (r ∷ rs) (inl e) = (r, inl refl, e)
in-one p (r ∷ rs) (inr i) = let t = in-one p rs i in (t.0, inr t.1, t.2)

one-in : (q : ℕ × ℕ) (rs : List (ℕ × ℕ)) → IsOneOf q rs → In q.0 (map (λ r. r.0) rs)
one-in q [] i = absurd i
one-in q (r ∷ rs) (inl e) = inl (ap (λ (z : ℕ × ℕ). z.0) e)
one-in q (r ∷ rs) (inr i) = inr (one-in q rs i)

moved : (p : ℕ) (rs ss : List (ℕ × ℕ)) → ((q : ℕ × ℕ) → IsOneOf q rs → IsOneOf q ss) → In p (map (λ r. r.0) rs) → In p (map (λ r. r.0) ss)
moved p rs ss h i = let t = in-one p rs i in subst (λ z. In z (map (λ (r : ℕ × ℕ). r.0) ss)) (sym t.2) (one-in t.0 ss (h t.0 t.1))

-- a list of the fanout's pairs names the parents
pub each-parent : (N : NetworkValue) (n : ℕ) (rest : List (ℕ × ℕ)) → ((q : ℕ × ℕ) → IsOneOf q rest → IsOneOf q (fan N n)) → (p : ℕ) → In p (map (λ r. r.0) rest) → IsParent N n p
each-parent N n rest each p i = fan-parent N n p (moved p rest (fan N n) each i)

pub all-parents : (N : NetworkValue) (n : ℕ) (rest : List (ℕ × ℕ)) → ((q : ℕ × ℕ) → IsOneOf q (fan N n) → IsOneOf q rest) → (p : ℕ) → IsParent N n p → In p (map (λ r. r.0) rest)
all-parents N n rest all p i = moved p (fan N n) rest all (parent-in-fan N n p i)
