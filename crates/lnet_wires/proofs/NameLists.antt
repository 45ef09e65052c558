-- Lists of names, seen through what stands for them.
use Rattle.std.proofs.Common.{◌≡◌, ℕ, ◌+◌, Bool, true, false, cond, List, [], ◌∷◌, ◌++◌, refl, sym, ap, ◌∙◌}
use Rattle.std.specs.Prelude.{map, not, ◌||◌}
use Rattle.std.specs.List.{list_any, position_or_len}
use Rattle.std.specs.Str.{bytes_eq}
use Rattle.std.proofs.lemmas.List.{map-append}
use Rattle.lnet_wires.specs.Naming.{with_name, wire_of}

place-map : {X : Type 0} (f : X → List ℕ) (p : List ℕ → Bool) (ks : List X) → position_or_len p (map f ks) ≡ position_or_len (λ k. p (f k)) ks
place-map f p [] = refl
place-map f p (k ∷ ks) = ap (λ (n : ℕ). cond (not (p (f k))) (1 + n) 0) (place-map f p ks)

any-map : {X : Type 0} (f : X → List ℕ) (p : List ℕ → Bool) (ks : List X) → list_any p (map f ks) ≡ list_any (λ k. p (f k)) ks
any-map f p [] = refl
any-map f p (k ∷ ks) = ap (λ (b : Bool). p (f k) || b) (any-map f p ks)

map-if : {X : Type 0} (f : X → List ℕ) (b : Bool) (xs ys : List X) → map f (cond b xs ys) ≡ cond b (map f xs) (map f ys)
map-if f true xs ys = refl
map-if f false xs ys = refl

-- the wire of a name, by the place of what stands for it
pub wire_by : {X : Type 0} (f : X → List ℕ) (x : X) (ks : List X) (names : List (List ℕ)) → map f ks ≡ names → position_or_len (λ k. bytes_eq (f x) (f k)) ks + 1 ≡ wire_of names (f x)
wire_by f x ks names e = ap (λ (n : ℕ). n + 1) (sym (place-map f (bytes_eq (f x)) ks)) ∙ ap (λ (ns : List (List ℕ)). wire_of ns (f x)) e

-- the names once one is seen, by what stands for them
pub seen_by : {X : Type 0} (f : X → List ℕ) (x : X) (ks : List X) (names : List (List ℕ)) → map f ks ≡ names → map f (cond (list_any (λ k. bytes_eq (f x) (f k)) ks) ks (ks ++ x ∷ [])) ≡ with_name names (f x)
seen_by f x ks names e =
    map-if f (list_any (λ k. bytes_eq (f x) (f k)) ks) ks (ks ++ x ∷ [])
    ∙ ap (λ (r : List (List ℕ)). cond (list_any (λ k. bytes_eq (f x) (f k)) ks) (map f ks) r) (map-append f ks (x ∷ []))
    ∙ ap (λ (b : Bool). cond b (map f ks) (map f ks ++ f x ∷ [])) (sym (any-map f (bytes_eq (f x)) ks))
    ∙ ap (λ (ns : List (List ℕ)). with_name ns (f x)) e
