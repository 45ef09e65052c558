-- The entries of a network number by number.
use Rattle.std.proofs.Common.{◌≡◌, ◌≢◌, ℕ, zero, suc, ◌+◌, ◌<◌, ◌≤◌, Bool, true, false, cond, ◌&&◌, List, [], ◌∷◌, ◌++◌, None, Some, refl, sym, ap, subst, ◌∙◌, inl, inr, arith, T, IsSome}
use Rattle.std.specs.Prelude.{⊤}
use Rattle.std.specs.List.{flat_map}
use Rattle.std.proofs.lemmas.Bool.Decides.{eqb_tells}
use Rattle.std.specs.Cmp.{ranks}
use Rattle.std.specs.Ordering.{nat_cmp, eq_by_cmp, is_lt, MatchOrdering}
use Rattle.std.specs.declared.cmp.Ordering.TheVariants.{Less, Equal, Greater}
use Rattle.std.specs.FinMap.{FinMap, get, find, entries, get-entries, entries_sorted}
use Rattle.std.specs.FinMap.Entries.{below_all, is_sorted}
use Rattle.lnet_model.specs.Networks.{Entry, Lookup}
use Rattle.lnet_model.specs.Along.{at_entry}
use Rattle.lnet_model.proofs.Map.{tied, apart}

first : (a b : Bool) → T (a && b) → T a
first true b p = tt
first false b p = p

second : (a b : Bool) → T (a && b) → T b
second true b p = p
second false b p = absurd p

lt-from : (x y : ℕ) → T (is_lt (nat_cmp x y)) → x < y
lt-from x y h = elim (nat_cmp x y) as (λ r. MatchOrdering r (x < y) (x ≡ y) (y < x) → T (is_lt r) → x < y) [
  | Less ↦ λ m h. m
  | Equal ↦ λ m h. absurd h
  | Greater ↦ λ m h. absurd h
] (ranks x y) h

-- keys from a on, strictly rising
abbrev pub Rising : ℕ → List (ℕ × Entry) → Type 0
Rising a [] = ⊤
Rising a (e ∷ es) = (a ≤ e.0) × Rising (suc e.0) es

rising-from : (x a : ℕ) (es : List (ℕ × Entry)) → a ≤ suc x → T (below_all nat_cmp x es) → T (is_sorted nat_cmp es) → Rising a es
rising-from x a [] h below sorted = tt
rising-from x a (e ∷ es) h below sorted =
    let lt = lt-from x e.0 (first _ _ below) in
    let le : suc e.0 ≤ suc e.0 = omega arith in
    (omega arith, rising-from e.0 (suc e.0) es le (first _ _ sorted) (second _ _ sorted))

rising : (es : List (ℕ × Entry)) → T (is_sorted nat_cmp es) → Rising 0 es
rising [] sorted = tt
rising (e ∷ es) sorted = let le : suc e.0 ≤ suc e.0 = omega arith in (omega arith, rising-from e.0 (suc e.0) es le (first _ _ sorted) (second _ _ sorted))

abbrev pub Under : ℕ → List (ℕ × Entry) → Type 0
Under b [] = ⊤
Under b (e ∷ es) = (e.0 < b) × Under b es

under-found : (b : ℕ) (es : List (ℕ × Entry)) → ((q : ℕ) → IsSome (find nat_cmp q es) → q < b) → Under b es
under-found b [] h = tt
under-found b (e ∷ es) h = (
  h e.0 (subst (λ t. IsSome (cond t (Some e.1) (find nat_cmp e.0 es))) (sym (tied e.0)) refl),
  under-found b es (λ q i. h q (elim (eq_by_cmp nat_cmp q e.0) as (λ t. IsSome (cond t (Some e.1) (find nat_cmp q es))) [ true ↦ refl | false ↦ i ])),
)

find-under : (q a : ℕ) (es : List (ℕ × Entry)) → q < a → Rising a es → find nat_cmp q es ≡ None
find-under q a [] h r = refl
find-under q a (e ∷ es) h r =
    let le = r.0 in
    let ne : q ≢ e.0 = omega arith in
    let k : q < suc e.0 = omega arith in
    ap (λ t. cond t (Some e.1) (find nat_cmp q es)) (apart q e.0 ne) ∙ find-under q (suc e.0) es k r.1

-- what F gives for the entries at so many numbers from a on
abbrev pub by_number : {A : Type 0} → Lookup → (ℕ → Entry → List A) → ℕ → ℕ → List A
by_number g F a zero = []
by_number g F a (suc k) = at_entry [] (F a) (g a) ++ by_number g F (suc a) k

rising-later : (a : ℕ) (e : ℕ × Entry) (es : List (ℕ × Entry)) → a ≢ e.0 → Rising a (e ∷ es) → Rising (suc a) (e ∷ es)
rising-later a e es ne r = let le = r.0 in (omega arith, r.1)

each-number : {A : Type 0} (g : Lookup) (F : ℕ → Entry → List A) (k a : ℕ) (es : List (ℕ × Entry)) → ((m : ℕ) → a ≤ m → g m ≡ find nat_cmp m es) → Rising a es → Under (a + k) es → flat_map (λ e. F e.0 e.1) es ≡ by_number g F a k
each-number g F zero a [] same r u = refl
each-number g F zero a (e ∷ es) same r u = let p = r.0 in let q = u.0 in absurd (omega arith)
each-number g F (suc k) a [] same r u =
    let le : a ≤ a = omega arith in
    each-number g F k (suc a) [] (λ m h. same m (omega arith)) tt tt ∙ ap (λ o. at_entry [] (F a) o ++ by_number g F (suc a) k) (sym (same a le))
each-number {A} g F (suc k) a (e ∷ es) same r u =
    let le : a ≤ a = omega arith in
    let sum : a + suc k ≡ suc a + k = omega arith in
    elim (eqb_tells a e.0) as (λ _. flat_map (λ e. F e.0 e.1) (e ∷ es) ≡ by_number g F a (suc k)) [
      | inl p ↦
          let found = same a le ∙ ap (λ t. cond t (Some e.1) (find nat_cmp a es)) (ap (λ z. eq_by_cmp nat_cmp z e.0) p.1 ∙ tied e.0) in
          let later : (m : ℕ) → suc a ≤ m → g m ≡ find nat_cmp m es = λ m h. (let ne : m ≢ e.0 = (let pe = p.1 in omega arith) in let am : a ≤ m = omega arith in same m am ∙ ap (λ t. cond t (Some e.1) (find nat_cmp m es)) (apart m e.0 ne)) in
          ap (λ zs. F e.0 e.1 ++ zs) (each-number g F k (suc a) es later (subst (λ z. Rising (suc z) es) (sym p.1) r.1) (subst (λ z. Under z es) sum u.1))
          ∙ ap (λ z. F z e.1 ++ by_number g F (suc a) k) (sym p.1) ∙ ap (λ o. at_entry [] (F a) o ++ by_number g F (suc a) k) (sym found)
      | inr p ↦
          let r2 = rising-later a e es p.1 r in
          let lt : a < suc a = omega arith in
          let nothing = same a le ∙ find-under a (suc a) (e ∷ es) lt r2 in
          each-number g F k (suc a) (e ∷ es) (λ m h. same m (omega arith)) r2 (subst (λ z. Under z (e ∷ es)) sum u) ∙ ap (λ o. at_entry [] (F a) o ++ by_number g F (suc a) k) (sym nothing)
    ]

-- over the entries of a map whose keys are below k
pub entries-by_number : {A : Type 0} (F : ℕ → Entry → List A) (m : FinMap nat_cmp Entry) (k : ℕ) → ((q : ℕ) → IsSome (get m q) → q < k) → flat_map (λ e. F e.0 e.1) (entries m) ≡ by_number (get m) F 0 k
entries-by_number F m k below =
    let e : k ≡ 0 + k = omega arith in
    each-number (get m) F k 0 (entries m) (λ q h. get-entries m q) (rising (entries m) (entries_sorted m)) (subst (λ z. Under z (entries m)) e (under-found k (entries m) (λ q h. below q (subst IsSome (sym (get-entries m q)) h))))
