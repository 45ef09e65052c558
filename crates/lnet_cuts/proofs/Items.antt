-- What holds of each item of a list holds of each item of the lists that are made of it.
use Rattle.std.proofs.Common.{ℕ, zero, suc, Bool, true, false, cond, List, [], ◌∷◌, ◌++◌, map, take, arith}
use Rattle.std.specs.Prelude.{⊤}
use Rattle.std.specs.List.{All, filter, flat_map}
use Rattle.lnet_model.specs.Cuts.{CutValue, place, sorted, before, same_leaves}

-- what holds of each item of a list, as it is gone through
abbrev pub Every : {X : Type 0} → (X → Type 0) → List X → Type 0
Every P [] = ⊤
Every P (x ∷ xs) = P x × Every P xs

pub all-of : {X : Type 0} (P : X → Type 0) (xs : List X) → Every P xs → All P xs
all-of P [] h k d lt = absurd (omega arith)
all-of P (x ∷ xs) h zero d lt = h.0
all-of P (x ∷ xs) h (suc k) d lt = all-of P xs h.1 k d (omega arith)

-- ---- what holds of each cut on the way holds of each that is kept

pub every-filter : {X : Type 0} (P : X → Type 0) (t : X → Bool) (xs : List X) → Every P xs → Every P (filter t xs)
every-filter P t [] h = tt
every-filter P t (x ∷ xs) h = elim (t x) as (λ b. Every P (cond b (x ∷ filter t xs) (filter t xs))) [ true ↦ (h.0, every-filter P t xs h.1) | false ↦ every-filter P t xs h.1 ]

pub every-take : {X : Type 0} (P : X → Type 0) (n : ℕ) (xs : List X) → Every P xs → Every P (take n xs)
every-take P zero xs h = tt
every-take P (suc n) [] h = tt
every-take P (suc n) (x ∷ xs) h = (h.0, every-take P n xs h.1)

pub every-append : {X : Type 0} (P : X → Type 0) (xs ys : List X) → Every P xs → Every P ys → Every P (xs ++ ys)
every-append P [] ys h k = k
every-append P (x ∷ xs) ys h k = (h.0, every-append P xs ys h.1 k)

pub every-map : {X Y : Type 0} (P : X → Type 0) (Q : Y → Type 0) (f : X → Y) (xs : List X) → ((x : X) → P x → Q (f x)) → Every P xs → Every Q (map f xs)
every-map P Q f [] k h = tt
every-map P Q f (x ∷ xs) k h = (k x h.0, every-map P Q f xs k h.1)

pub every-flat_map : {X Y : Type 0} (P : X → Type 0) (Q : Y → Type 0) (f : X → List Y) (xs : List X) → ((x : X) → P x → Every Q (f x)) → Every P xs → Every Q (flat_map f xs)
every-flat_map P Q f [] k h = tt
every-flat_map P Q f (x ∷ xs) k h = every-append Q (f x) (flat_map f xs) (k x h.0) (every-flat_map P Q f xs k h.1)

every-place : (P : CutValue → Type 0) (c : CutValue) (ds : List CutValue) → P c → Every P ds → Every P (place c ds)
every-place P c [] p h = (p, tt)
every-place P c (d ∷ ds) p h =
    elim (same_leaves c.leaves d.leaves) as (λ b. Every P (elim b as (λ _. List CutValue) [ true ↦ d ∷ ds | false ↦ cond (before c d) (c ∷ d ∷ ds) (d ∷ place c ds) ])) [
      | true ↦ h
      | false ↦ elim (before c d) as (λ b. Every P (cond b (c ∷ d ∷ ds) (d ∷ place c ds))) [ true ↦ (p, h) | false ↦ (h.0, every-place P c ds p h.1) ]
    ]

pub every-sorted : (P : CutValue → Type 0) (cs : List CutValue) → Every P cs → Every P (sorted cs)
every-sorted P [] h = tt
every-sorted P (c ∷ cs) h = every-place P c (sorted cs) h.0 (every-sorted P cs h.1)

pub every-made : {X Y : Type 0} (Q : Y → Type 0) (f : X → Y) (xs : List X) → ((x : X) → Q (f x)) → Every Q (map f xs)
every-made Q f [] k = tt
every-made Q f (x ∷ xs) k = (k x, every-made Q f xs k)
