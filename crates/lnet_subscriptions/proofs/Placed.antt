-- Where the first of a kind stands, and where a number stands.
use Rattle.std.proofs.Common.{◌≡◌, ◌<◌, ◌+◌, ℕ, zero, suc, Bool, true, false, not, cond, List, [], ◌∷◌, length, map, get_or, None, Some, refl, sym, ap, ◌∙◌, arith}
use Rattle.std.specs.Prelude.{nat_lt}
use Rattle.std.proofs.lemmas.Bool.{lt-ltb, le-ltb}
use Rattle.std.specs.List.{position, position_or_len, prefix_len}
use Rattle.lnet_model.specs.declared.view_spec.ViewKind.{ViewKind}
use Rattle.lnet_model.specs.declared.view_spec.ViewKind.TheVariants as kinds
use Rattle.lnet_subscriptions.specs.Rolls.{Roll, same_kind, place_of}
use Rattle.lnet_model.specs.declared.view_spec.ViewSpec.{ViewSpec}
use Rattle.std.proofs.lemmas.List.Quantifiers.{position-Some}
use Rattle.lnet_subscriptions.proofs.Shelved.{get-map, get-default, map-len}

-- the first place at which a test fails
prefix-to : {A : Type 0} (q : A → Bool) (xs : List A) (i : ℕ) (d : A) → i < length xs → ((k : ℕ) → k < i → q (get_or xs k d) ≡ true) → q (get_or xs i d) ≡ false → prefix_len q xs ≡ i
prefix-to q [] i d lt all last = absurd (omega arith)
prefix-to q (x ∷ xs) zero d lt all last = ap (λ b. cond b (1 + prefix_len q xs) 0) last
prefix-to q (x ∷ xs) (suc i) d lt all last =
    let first = all 0 (omega arith) in
    let rest = prefix-to q xs i d (omega arith) (λ k h. all (suc k) (omega arith)) last in
    ap (λ b. cond b (1 + prefix_len q xs) 0) first ∙ (omega arith)

prefix-all : {A : Type 0} (q : A → Bool) (xs : List A) (d : A) → ((k : ℕ) → k < length xs → q (get_or xs k d) ≡ true) → prefix_len q xs ≡ length xs
prefix-all q [] d all = refl
prefix-all q (x ∷ xs) d all =
    let first = all 0 (omega arith) in
    let rest = prefix-all q xs d (λ k h. all (suc k) (omega arith)) in
    ap (λ b. cond b (1 + prefix_len q xs) 0) first ∙ (omega arith)

negated : {b : Bool} → b ≡ false → not b ≡ true
negated e = ap not e

pub position-first : {A : Type 0} (p : A → Bool) (xs : List A) (i : ℕ) (d : A) → i < length xs → ((k : ℕ) → k < i → p (get_or xs k d) ≡ false) → p (get_or xs i d) ≡ true → position p xs ≡ Some i
position-first p xs i d lt none here =
    let at : position_or_len p xs ≡ i = prefix-to (λ x. not (p x)) xs i d lt (λ k h. negated (none k h)) (ap not here) in
    ap (λ n. cond (nat_lt n (length xs)) (Some n) None) at ∙ ap (λ b. cond b (Some i) None) (lt-ltb i (length xs) lt)

pub position-none : {A : Type 0} (p : A → Bool) (xs : List A) (d : A) → ((k : ℕ) → k < length xs → p (get_or xs k d) ≡ false) → position p xs ≡ None
position-none p xs d none =
    let at : position_or_len p xs ≡ length xs = prefix-all (λ x. not (p x)) xs d (λ k h. negated (none k h)) in
    ap (λ n. cond (nat_lt n (length xs)) (Some n) None) at ∙ ap (λ b. cond b (Some (length xs)) None) (le-ltb (length xs) (length xs) (omega arith))

-- kinds that are one
pub kinds-same : (a b : ViewKind) → same_kind a b ≡ true → a ≡ b
kinds-same kinds.Depth kinds.Depth e = refl
kinds-same kinds.Depth kinds.Fanout e = cc
kinds-same kinds.Depth kinds.Cuts e = cc
kinds-same kinds.Fanout kinds.Depth e = cc
kinds-same kinds.Fanout kinds.Fanout e = refl
kinds-same kinds.Fanout kinds.Cuts e = cc
kinds-same kinds.Cuts kinds.Depth e = cc
kinds-same kinds.Cuts kinds.Fanout e = cc
kinds-same kinds.Cuts kinds.Cuts e = refl

-- where the first of a kind stands, something of the kind does
pub place-found : {B : Type 0} (f : B → ViewKind) (xs : List B) (kind : ViewKind) (i : ℕ) (d : B) → place_of kind (map f xs) ≡ Some i → (i < length xs) × (kind ≡ f (get_or xs i d))
place-found f xs kind i d at =
    let found = position-Some (same_kind kind) (map f xs) i (f d) at in
    let len = map-len f xs in
    let within = found.0 in
    (omega arith, kinds-same kind (f (get_or xs i d)) (ap (same_kind kind) (sym (get-map f xs i d)) ∙ found.1))

-- rolls of the same parts
pub same-roll : {l m : List (ℕ × ViewSpec)} {a b : ℕ} {s t : List ViewKind} → l ≡ m → a ≡ b → s ≡ t → ◌≡◌ {A = Roll} (record { live = l; next = a; shelf = s }) (record { live = m; next = b; shelf = t })
same-roll {l} {m} {a} {b} {s} {t} e f h = ap (λ x. record { live = x; next = a; shelf = s }) e ∙ ap (λ x. record { live = m; next = x; shelf = s }) f ∙ ap (λ x. record { live = m; next = b; shelf = x }) h

-- whether the view at a place is of the kind
pub kind-told : {B : Type 0} (f : B → ViewKind) (xs : List B) (kind : ViewKind) (i : ℕ) (b : B) (told : Bool) → i < length xs → b ≡ get_or xs i b → told ≡ same_kind kind (f b) → same_kind kind (get_or (map f xs) i kinds.Depth) ≡ told
kind-told f xs kind i b told lt here is =
    let len = map-len f xs in
    ap (same_kind kind) (get-default f (map f xs) i kinds.Depth (f b) (omega arith) ∙ get-map f xs i b ∙ ap f (sym here)) ∙ sym is
