-- Lists whose elements differ.
use Rattle.std.proofs.Common.{◌≡◌, ◌≢◌, ℕ, suc, ◌<◌, Bool, true, false, cond, List, [], ◌∷◌, ◌++◌, length, map, get_or, nat_cmp, Less, Equal, Greater, refl, arith}
use Rattle.std.specs.Prelude.{fold, nat_lt, ◌==◌}
use Rattle.std.specs.List.{AllByRecursion, IsDistinct, filter}
use Rattle.std.specs.Ordering.{match_ordering}
use Rattle.std.specs.BTreeSet.{insert_key}
use Rattle.std.specs.Str.{bytes_eq}
use Rattle.std.proofs.lemmas.Bool.Decides.{nat_tests}
use Rattle.std.proofs.lemmas.Slice.Eq.{bytes_eq-Decides}
use Rattle.lnet_edge.specs.Wires.{Repeats}
use Rattle.lnet_benchwriter.specs.Texts.{ascending}

-- no element is equal to one after it
abbrev pub Differ : {X : Type 0} → List X → Type 0
Differ [] = Unit {0}
Differ (x ∷ xs) = AllByRecursion (λ y. x ≢ y) xs × Differ xs

-- no element of one list is equal to one of the other
abbrev pub Apart : {X : Type 0} → List X → List X → Type 0
Apart xs ys = AllByRecursion (λ x. AllByRecursion (λ y. x ≢ y) ys) xs

-- ---- all elements

pub all_both : {X : Type 0} (P : X → Type 0) (xs ys : List X) → AllByRecursion P xs → AllByRecursion P ys → AllByRecursion P (xs ++ ys)
all_both P [] ys a b = b
all_both P (x ∷ xs) ys a b = (a.0, all_both P xs ys a.1 b)

pub all_first : {X : Type 0} (P : X → Type 0) (xs ys : List X) → AllByRecursion P (xs ++ ys) → AllByRecursion P xs
all_first P [] ys a = tt
all_first P (x ∷ xs) ys a = (a.0, all_first P xs ys a.1)

pub all_second : {X : Type 0} (P : X → Type 0) (xs ys : List X) → AllByRecursion P (xs ++ ys) → AllByRecursion P ys
all_second P [] ys a = a
all_second P (x ∷ xs) ys a = all_second P xs ys a.1

pub all_weak : {X : Type 0} (P Q : X → Type 0) (xs : List X) → ((x : X) → P x → Q x) → AllByRecursion P xs → AllByRecursion Q xs
all_weak P Q [] each a = tt
all_weak P Q (x ∷ xs) each a = (each x a.0, all_weak P Q xs each a.1)

pub all_with : {X : Type 0} (P Q : X → Type 0) (xs : List X) → AllByRecursion P xs → AllByRecursion Q xs → AllByRecursion (λ x. P x × Q x) xs
all_with P Q [] a b = tt
all_with P Q (x ∷ xs) a b = ((a.0, b.0), all_with P Q xs a.1 b.1)

pub all_mapped : {X Y : Type 0} (P : X → Type 0) (Q : Y → Type 0) (f : X → Y) (xs : List X) → ((x : X) → P x → Q (f x)) → AllByRecursion P xs → AllByRecursion Q (map f xs)
all_mapped P Q f [] each a = tt
all_mapped P Q f (x ∷ xs) each a = (each x a.0, all_mapped P Q f xs each a.1)

pub all_kept : {X : Type 0} (P : X → Type 0) (keep : X → Bool) (xs : List X) → AllByRecursion P xs → AllByRecursion P (filter keep xs)
all_kept P keep [] a = tt
all_kept P keep (x ∷ xs) a = elim (keep x) as (λ b. AllByRecursion P (cond b (x ∷ filter keep xs) (filter keep xs))) [ true ↦ (a.0, all_kept P keep xs a.1) | false ↦ all_kept P keep xs a.1 ]

-- ---- lists that differ

pub differ_both : {X : Type 0} (xs ys : List X) → Differ xs → Differ ys → Apart xs ys → Differ (xs ++ ys)
differ_both [] ys a b c = b
differ_both (x ∷ xs) ys a b c = (all_both (λ y. x ≢ y) xs ys a.0 c.0, differ_both xs ys a.1 b c.1)

pub differ_second : {X : Type 0} (xs ys : List X) → Differ (xs ++ ys) → Differ ys
differ_second [] ys d = d
differ_second (x ∷ xs) ys d = differ_second xs ys d.1

pub differ_apart : {X : Type 0} (xs ys : List X) → Differ (xs ++ ys) → Apart xs ys
differ_apart [] ys d = tt
differ_apart (x ∷ xs) ys d = (all_second (λ y. x ≢ y) xs ys d.0, differ_apart xs ys d.1)

pub apart_by : {X : Type 0} (P Q : X → Type 0) (xs ys : List X) → ((x y : X) → P x → Q y → x ≢ y) → AllByRecursion P xs → AllByRecursion Q ys → Apart xs ys
apart_by P Q xs ys each a b = all_weak P (λ x. AllByRecursion (λ y. x ≢ y) ys) xs (λ x p. all_weak Q (λ y. x ≢ y) ys (λ y q. each x y p q) b) a

pub differ_mapped : {X Y : Type 0} (P : X → Type 0) (f : X → Y) (xs : List X) → ((x y : X) → P x → P y → f x ≡ f y → x ≡ y) → AllByRecursion P xs → Differ xs → Differ (map f xs)
differ_mapped P f [] once a d = tt
differ_mapped P f (x ∷ xs) once a d = (
  all_mapped (λ y. P y × (x ≢ y)) (λ z. f x ≢ z) f xs (λ y h e. h.1 (once x y a.0 h.0 e)) (all_with P (λ y. x ≢ y) xs a.1 d.0),
  differ_mapped P f xs once a.1 d.1,
)

-- ---- names and numbers

no_match : (x y : List ℕ) → x ≢ y → bytes_eq x y ≡ false
no_match x y apart = elim (bytes_eq x y) as (λ b. bytes_eq x y ≡ b → b ≡ false) [ true ↦ λ t. absurd (apart ((bytes_eq-Decides x y).0 t)) | false ↦ λ t. refl ] refl

pub distinct_names : (xs : List (List ℕ)) → Differ xs → IsDistinct bytes_eq xs
unfolding IsDistinct
distinct_names [] d = tt
distinct_names (x ∷ xs) d = (all_weak (λ y. x ≢ y) (λ y. bytes_eq x y ≡ false) xs (λ y apart. no_match x y apart) d.0, distinct_names xs d.1)

apart_at : (x : ℕ) (xs : List ℕ) → ((k : ℕ) → k < length xs → x ≢ get_or xs k 0) → AllByRecursion (λ y. x ≢ y) xs
apart_at x [] each = tt
apart_at x (y ∷ ys) each = (each 0 (omega arith), apart_at x ys (λ k low. each (suc k) (omega arith)))

repeats_later : (x : ℕ) (xs : List ℕ) → Repeats xs → Repeats (x ∷ xs)
repeats_later x xs (i, j, below, within, same) = (suc i, suc j, omega arith, omega arith, same)

pub differ_once : (xs : List ℕ) → ¬ (Repeats xs) → Differ xs
differ_once [] once = tt
differ_once (x ∷ xs) once = (apart_at x xs (λ k low e. once (0, suc k, omega arith, omega arith, e)), differ_once xs (λ r. once (repeats_later x xs r)))

-- ---- numbers in ascending order

-- each number is below those after it
abbrev Rises : List ℕ → Type 0
Rises [] = Unit {0}
Rises (x ∷ xs) = AllByRecursion (λ y. x < y) xs × Rises xs

all_insert : (P : ℕ → Type 0) (xs : List ℕ) (k : ℕ) → AllByRecursion P xs → P k → AllByRecursion P (insert_key nat_cmp xs k)
all_insert P [] k a p = (p, tt)
all_insert P (x ∷ xs) k a p = elim (nat_cmp k x) as (λ o. AllByRecursion P (match_ordering o (k ∷ x ∷ xs) (x ∷ xs) (x ∷ insert_key nat_cmp xs k))) [
  | Less ↦ (p, a)
  | Equal ↦ a
  | Greater ↦ (a.0, all_insert P xs k a.1 p)
]

rises_insert : (xs : List ℕ) (k : ℕ) → Rises xs → Rises (insert_key nat_cmp xs k)
rises_insert [] k r = (tt, tt)
rises_insert (x ∷ xs) k r = by (nat_lt k x) refl (rises_insert xs k r.1) where
  again : (e : Bool) → nat_lt k x ≡ false → (k == x) ≡ e → Rises (insert_key nat_cmp xs k) → Rises (match_ordering (cond e Equal Greater) (k ∷ x ∷ xs) (x ∷ xs) (x ∷ insert_key nat_cmp xs k))
  again true above same rest = r
  again false least same rest =
      let over : x < k = grind (arith, nat_tests) in
      (all_insert (λ y. x < y) xs k r.0 over, rest)

  by : (b : Bool) → nat_lt k x ≡ b → Rises (insert_key nat_cmp xs k) → Rises (match_ordering (cond b Less (cond (k == x) Equal Greater)) (k ∷ x ∷ xs) (x ∷ xs) (x ∷ insert_key nat_cmp xs k))
  by true low rest =
      let below : k < x = grind (arith, nat_tests) in
      ((below, all_weak (λ y. x < y) (λ y. k < y) xs (λ y h. omega arith) r.0), r)
  by false least rest = again (k == x) least refl rest

all_folded : (P : ℕ → Type 0) (xs ys : List ℕ) → AllByRecursion P xs → AllByRecursion P ys → AllByRecursion P (fold (insert_key nat_cmp) xs ys)
all_folded P xs [] a b = a
all_folded P xs (y ∷ ys) a b = all_folded P (insert_key nat_cmp xs y) ys (all_insert P xs y a b.0) b.1

rises_folded : (xs ys : List ℕ) → Rises xs → Rises (fold (insert_key nat_cmp) xs ys)
rises_folded xs [] r = r
rises_folded xs (y ∷ ys) r = rises_folded (insert_key nat_cmp xs y) ys (rises_insert xs y r)

rises_differ : (xs : List ℕ) → Rises xs → Differ xs
rises_differ [] r = tt
rises_differ (x ∷ xs) r = (all_weak (λ y. x < y) (λ y. x ≢ y) xs (λ y h e. omega arith) r.0, rises_differ xs r.1)

pub all_ascending : (P : ℕ → Type 0) (xs : List ℕ) → AllByRecursion P xs → AllByRecursion P (ascending xs)
all_ascending P xs a = all_folded P [] xs tt a

pub ascending_differ : (xs : List ℕ) → Differ (ascending xs)
ascending_differ xs = rises_differ (ascending xs) (rises_folded [] xs tt)
