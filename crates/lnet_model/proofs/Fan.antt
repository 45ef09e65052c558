-- The parents in the fanout are those that name the node.
use Rattle.std.proofs.Common.{◌≡◌, ℕ, suc, cond, eqb, List, [], ◌∷◌, ◌++◌, map, Some, refl, sym, subst, ◌∙◌, inl, inr}
use Rattle.std.specs.Prelude.{◌⊎◌}
use Rattle.std.specs.List.{flat_map}
use Rattle.std.proofs.lemmas.Bool.Decides.{eqb_tells}
use Rattle.std.specs.Cmp.{unsigned_tied}
use Rattle.std.specs.Ordering.{nat_cmp, eq_by_cmp}
use Rattle.std.specs.FinMap.{find, entries, get-entries}
use Rattle.lnet_gates.specs.declared.signal.Signal.{Signal}
use Rattle.lnet_model.specs.Networks.{Entry, NetworkValue, entry_at, fanins_of}
use Rattle.lnet_model.specs.Along.{In, fanin_nodes}
use Rattle.lnet_model.specs.Fanouts.{fan, slots_naming, IsParent}

pub parents : List (ℕ × ℕ) → List ℕ
parents rs = map (λ r. r.0) rs

in-append : (x : ℕ) (xs ys : List (ℕ × ℕ)) → In x (map (λ r. r.0) (xs ++ ys)) → In x (map (λ r. r.0) xs) ⊎ In x (map (λ r. r.0) ys)
in-append x [] ys i = inr i
in-append x (r ∷ rs) ys (inl e) = inl (inl e)
in-append x (r ∷ rs) ys (inr i) = elim (in-append x rs ys i) [ inl a ↦ inl (inr a) | inr b ↦ inr b ]

append-left : (x : ℕ) (xs ys : List (ℕ × ℕ)) → In x (map (λ r. r.0) xs) → In x (map (λ r. r.0) (xs ++ ys))
append-left x [] ys i = absurd i
append-left x (r ∷ rs) ys (inl e) = inl e
append-left x (r ∷ rs) ys (inr i) = inr (append-left x rs ys i)

append-right : (x : ℕ) (xs ys : List (ℕ × ℕ)) → In x (map (λ r. r.0) ys) → In x (map (λ r. r.0) (xs ++ ys))
append-right x [] ys i = i
append-right x (r ∷ rs) ys i = inr (append-right x rs ys i)

-- the slots of one parent
slots-parent : (n p x k : ℕ) (ss : List Signal) → In x (map (λ r. r.0) (slots_naming n p k ss)) → (x ≡ p) × In n (map (λ (s : Signal). s.node.0) ss)
slots-parent n p x k [] i = absurd i
slots-parent n p x k (s ∷ ss) i = (elim (eqb_tells s.node.0 n) as (λ _. In x (map (λ r. r.0) (cond (eqb s.node.0 n) ((p, k) ∷ slots_naming n p (suc k) ss) (slots_naming n p (suc k) ss))) → (x ≡ p) × In n (s.node.0 ∷ map (λ (s : Signal). s.node.0) ss)) [
  | inl e ↦ λ i. elim (subst (λ b. In x (map (λ (r : ℕ × ℕ). r.0) (cond b ((p, k) ∷ slots_naming n p (suc k) ss) (slots_naming n p (suc k) ss)))) e.0 i) as (λ _. (x ≡ p) × In n (s.node.0 ∷ map (λ (s : Signal). s.node.0) ss)) [ inl h ↦ (h, inl (sym e.1)) | inr j ↦ (let t = slots-parent n p x (suc k) ss j in (t.0, inr t.1)) ]
  | inr e ↦ λ i. let t = slots-parent n p x (suc k) ss (subst (λ b. In x (map (λ (r : ℕ × ℕ). r.0) (cond b ((p, k) ∷ slots_naming n p (suc k) ss) (slots_naming n p (suc k) ss)))) e.0 i) in (t.0, inr t.1)
]) i

parent-slots : (n p k : ℕ) (ss : List Signal) → In n (map (λ (s : Signal). s.node.0) ss) → In p (map (λ r. r.0) (slots_naming n p k ss))
parent-slots n p k [] i = absurd i
parent-slots n p k (s ∷ ss) i = elim (eqb_tells s.node.0 n) as (λ _. In p (map (λ r. r.0) (cond (eqb s.node.0 n) ((p, k) ∷ slots_naming n p (suc k) ss) (slots_naming n p (suc k) ss)))) [
  | inl e ↦ subst (λ b. In p (map (λ (r : ℕ × ℕ). r.0) (cond b ((p, k) ∷ slots_naming n p (suc k) ss) (slots_naming n p (suc k) ss)))) (sym e.0) (inl refl)
  | inr e ↦ subst (λ b. In p (map (λ (r : ℕ × ℕ). r.0) (cond b ((p, k) ∷ slots_naming n p (suc k) ss) (slots_naming n p (suc k) ss)))) (sym e.0) (parent-slots n p (suc k) ss (elim i as (λ _. In n (map (λ (s : Signal). s.node.0) ss)) [ inl h ↦ absurd (e.1 (sym h)) | inr j ↦ j ]))
]

abbrev InPairs : ℕ × Entry → List (ℕ × Entry) → Type 0
InPairs x [] = ⊥
InPairs x (y ∷ ys) = (x ≡ y) ⊎ InPairs x ys

-- over a list of entries
listed : (n : ℕ) → List (ℕ × Entry) → List (ℕ × ℕ)
listed n es = flat_map (λ e. slots_naming n e.0 0 (fanins_of e.1)) es

named : (n p : ℕ) (es : List (ℕ × Entry)) → In n (fanin_nodes (find nat_cmp p es)) → In p (map (λ r. r.0) (flat_map (λ e. slots_naming n e.0 0 (fanins_of e.1)) es))
named n p [] i = absurd i
named n p (e ∷ es) i = (elim (eqb_tells p e.0) as (λ _. In n (fanin_nodes (cond (eq_by_cmp nat_cmp p e.0) (Some e.1) (find nat_cmp p es))) → In p (map (λ r. r.0) (slots_naming n e.0 0 (fanins_of e.1) ++ flat_map (λ e. slots_naming n e.0 0 (fanins_of e.1)) es))) [
  | inl h ↦ λ i. append-left p (slots_naming n e.0 0 (fanins_of e.1)) (flat_map (λ e. slots_naming n e.0 0 (fanins_of e.1)) es) (subst (λ z. In p (map (λ (r : ℕ × ℕ). r.0) (slots_naming n z 0 (fanins_of e.1)))) h.1 (parent-slots n p 0 (fanins_of e.1) (subst (λ b. In n (fanin_nodes (cond b (Some e.1) (find nat_cmp p es)))) (unsigned_tied p e.0 ∙ h.0) i)))
  | inr h ↦ λ i. append-right p (slots_naming n e.0 0 (fanins_of e.1)) (flat_map (λ e. slots_naming n e.0 0 (fanins_of e.1)) es) (named n p es (subst (λ b. In n (fanin_nodes (cond b (Some e.1) (find nat_cmp p es)))) (unsigned_tied p e.0 ∙ h.0) i))
]) i

-- each parent is in the fanout
pub parent-in-fan : (N : NetworkValue) (n p : ℕ) → IsParent N n p → In p (map (λ r. r.0) (fan N n))
unfolding fan entry_at
parent-in-fan N n p i = named n p (entries N.nodes) (subst (λ o. In n (fanin_nodes o)) (get-entries N.nodes p) i)

-- what is in a list of entries stands somewhere in it
from-listed : (n p : ℕ) (es : List (ℕ × Entry)) → In p (map (λ r. r.0) (flat_map (λ e. slots_naming n e.0 0 (fanins_of e.1)) es)) → (e : ℕ × Entry) × InPairs e es × (p ≡ e.0) × In n (map (λ (s : Signal). s.node.0) (fanins_of e.1))
from-listed n p [] i = absurd i
from-listed n p (e ∷ es) i = elim (in-append p (slots_naming n e.0 0 (fanins_of e.1)) (flat_map (λ e. slots_naming n e.0 0 (fanins_of e.1)) es) i) as (λ _. (f : ℕ × Entry) × InPairs f (e ∷ es) × (p ≡ f.0) × In n (map (λ (s : Signal). s.node.0) (fanins_of f.1))) [
  | inl j ↦ (let t = slots-parent n e.0 p 0 (fanins_of e.1) j in (e, inl refl, t.0, t.1))
  | inr j ↦ (let t = from-listed n p es j in (t.0, inr t.1, t.2, t.3))
]
