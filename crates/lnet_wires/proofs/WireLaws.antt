-- Names and their places.
use Rattle.std.proofs.Common.{◌≡◌, ℕ, ◌+◌, ◌<◌, ◌≤◌, Bool, true, false, cond, List, [], ◌∷◌, ◌++◌, length, refl, sym, ap, ◌∙◌, arith}
use Rattle.std.specs.Prelude.{not, ◌||◌}
use Rattle.std.specs.List.{list_any, position_or_len}
use Rattle.std.specs.Str.{bytes_eq}
use Rattle.std.proofs.lemmas.Slice.Eq.{bytes_eq-Decides}
use Rattle.lnet_wires.specs.Naming.{is_seen, with_name, wire_of}

pub place-seen : (p : List ℕ → Bool) (ns ms : List (List ℕ)) → list_any p ns ≡ true → position_or_len p (ns ++ ms) ≡ position_or_len p ns
place-seen p [] ms seen = absurd cc
place-seen p (n ∷ ns) ms seen =
    elim (p n) as (λ b. (b || list_any p ns) ≡ true → cond (not b) (1 + position_or_len p (ns ++ ms)) 0 ≡ cond (not b) (1 + position_or_len p ns) 0) [
      | true ↦ λ h. refl
      | false ↦ λ h. ap (λ (k : ℕ). 1 + k) (place-seen p ns ms h)
    ] seen

place-least : (p : List ℕ → Bool) (ns : List (List ℕ)) → list_any p ns ≡ true → position_or_len p ns < length ns
place-least p [] seen = absurd cc
place-least p (n ∷ ns) seen =
    elim (p n) as (λ b. (b || list_any p ns) ≡ true → cond (not b) (1 + position_or_len p ns) 0 < length (n ∷ ns)) [
      | true ↦ λ h. omega arith
      | false ↦ λ h. omega (arith, place-least p ns h)
    ] seen

apart_at : (ns : List (List ℕ)) (a b : List ℕ) → is_seen ns a ≡ true → is_seen ns b ≡ true → position_or_len (bytes_eq a) ns ≡ position_or_len (bytes_eq b) ns → a ≡ b
apart_at [] a b sa sb e = absurd cc
apart_at (n ∷ ns) a b sa sb e =
    elim (bytes_eq a n) as (λ s. bytes_eq a n ≡ s → (s || list_any (bytes_eq a) ns) ≡ true → cond (not s) (1 + position_or_len (bytes_eq a) ns) 0 ≡ cond (not (bytes_eq b n)) (1 + position_or_len (bytes_eq b) ns) 0 → a ≡ b) [
      | true ↦ λ isa _ f. elim (bytes_eq b n) as (λ t. bytes_eq b n ≡ t → 0 ≡ cond (not t) (1 + position_or_len (bytes_eq b) ns) 0 → a ≡ b) [
        | true ↦ λ isb _. (bytes_eq-Decides a n).0 isa ∙ sym ((bytes_eq-Decides b n).0 isb)
        | false ↦ λ _ g. absurd (omega arith)
      ] refl f
      | false ↦ λ _ ha f. elim (bytes_eq b n) as (λ t. (t || list_any (bytes_eq b) ns) ≡ true → 1 + position_or_len (bytes_eq a) ns ≡ cond (not t) (1 + position_or_len (bytes_eq b) ns) 0 → a ≡ b) [
        | true ↦ λ _ g. absurd (omega arith)
        | false ↦ λ hb g. apart_at ns a b ha hb (omega arith)
      ] sb f
    ] refl sa e

pub apart : (ns : List (List ℕ)) (a b : List ℕ) → is_seen ns a ≡ true → is_seen ns b ≡ true → wire_of ns a ≡ wire_of ns b → a ≡ b
apart ns a b sa sb e = apart_at ns a b sa sb (omega arith)

pub in_range : (ns : List (List ℕ)) (a : List ℕ) → is_seen ns a ≡ true → (0 < wire_of ns a) × (wire_of ns a ≤ length ns)
in_range ns a seen = (omega arith, omega (arith, place-least (bytes_eq a) ns seen))

pub stays : (ns : List (List ℕ)) (a b : List ℕ) → is_seen ns a ≡ true → wire_of (with_name ns b) a ≡ wire_of ns a
stays ns a b seen =
    elim (is_seen ns b) as (λ s. wire_of (cond s ns (ns ++ b ∷ [])) a ≡ wire_of ns a) [
      | true ↦ refl
      | false ↦ ap (λ (k : ℕ). k + 1) (place-seen (bytes_eq a) ns (b ∷ []) seen)
    ]

any-append : (p : List ℕ → Bool) (ns : List (List ℕ)) (a : List ℕ) → p a ≡ true → list_any p (ns ++ a ∷ []) ≡ true
any-append p [] a h = rw h refl
any-append p (n ∷ ns) a h =
    elim (p n) as (λ b. (b || list_any p (ns ++ a ∷ [])) ≡ true) [ true ↦ refl | false ↦ any-append p ns a h ]

pub sees : (ns : List (List ℕ)) (a : List ℕ) → is_seen (with_name ns a) a ≡ true
sees ns a =
    elim (is_seen ns a) as (λ s. is_seen ns a ≡ s → is_seen (cond s ns (ns ++ a ∷ [])) a ≡ true) [
      | true ↦ λ h. h
      | false ↦ λ h. any-append (bytes_eq a) ns a ((bytes_eq-Decides a a).1 refl)
    ] refl
