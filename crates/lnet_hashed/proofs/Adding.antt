-- What a new number does to the counts, the room and the least free number.
use Rattle.std.proofs.Common.{◌≡◌, ◌≢◌, ℕ, zero, suc, ◌+◌, ◌<◌, ◌≤◌, Bool, true, false, cond, List, [], ◌∷◌, map, length, IsSome, Option, None, Some, refl, sym, ap, subst, ◌∙◌, inl, inr, arith}
use Rattle.std.specs.Prelude.{is_some, eqb}
use Rattle.std.specs.FinMap.{find, get-entries}
use Rattle.std.proofs.lemmas.Bool.{cases_lt}
use Rattle.std.proofs.lemmas.Bool.Decides.{eqb_tells}
use Rattle.std.proofs.lemmas.Cmp.{nat_cmp_total}
use Rattle.std.specs.Ordering.{nat_cmp, eq_by_cmp}
use Rattle.std.specs.FinMap.{len, entries, len-insert}
use Rattle.lnet_model.specs.Networks.{NetworkValue, Entry, IsGate, IsLive, entry_at, live_count}
use Rattle.lnet_model.specs.Along.{In}
use Rattle.lnet_model.specs.Changes.{with_entry, IsLeastFree}
use Rattle.lnet_model.specs.Dags.{AreBelow}
use Rattle.lnet_model.proofs.Map.{Apart, count_apart, tied, apart}
use Rattle.lnet_model.proofs.Rising.{Rising}
use Rattle.lnet_hashed.proofs.Ascending.{entries-rising}
use Rattle.lnet_gates.specs.Gates.{KeyValue}
use Rattle.lnet_gates.specs.NormalLaws.{keyed_gate}
use Rattle.lnet_hashed.specs.Strashed.{first_gap, least_free, found, placed_key}
use Rattle.lnet_model.proofs.Changes.{with_entry-here, with_entry-apart}

pub count-added : (N : NetworkValue) (n : ℕ) (e : Entry) → entry_at N n ≡ None → live_count (with_entry N n e) ≡ live_count N + 1
unfolding live_count with_entry entry_at
count-added N n e free = len-insert nat_cmp_total N.nodes n e ∙ ap (λ o. cond (is_some o) (len N.nodes) (len N.nodes + 1)) free

-- the numbers below n, from the greatest
abbrev numbers-below : ℕ → List ℕ
numbers-below zero = []
numbers-below (suc n) = n ∷ numbers-below n

below-low : (n x : ℕ) → In x (numbers-below n) → x < n
below-low zero x i = absurd i
below-low (suc n) x (inl e) = omega arith
below-low (suc n) x (inr i) = let h = below-low n x i in omega arith

below-apart : (n : ℕ) → Apart (numbers-below n)
below-apart zero = tt
below-apart (suc n) = (λ i. let h = below-low n n i in absurd (omega arith), below-apart n)

below-length : (n : ℕ) → length (numbers-below n) ≡ n
below-length zero = refl
below-length (suc n) = ap suc (below-length n)

-- the least free number is at most the count of the live ones
pub least-low : (N : NetworkValue) (n : ℕ) → IsLeastFree N n → n ≤ live_count N
unfolding live_count entry_at
least-low N n h =
    let k = count_apart (numbers-below n) N.nodes (below-apart n) (λ x i. h.least x (below-low n x i)) in
    let l = below-length n in
    omega arith

pub below-added : (N : NetworkValue) (n r : ℕ) (e : Entry) → AreBelow N r → n < r → AreBelow (with_entry N n e) r
below-added N n r e below h m live = elim (eqb_tells m n) [
  | inl p ↦ (let q = p.1 in omega arith)
  | inr p ↦ below m (subst IsSome (with_entry-apart N n e m p.1) live)
]

-- ---- the least free number

-- the first gap of rising entries, from a on: nothing stands there, and something at each number from a on before it
pub record IsGap (a : ℕ) (es : List (ℕ × Entry)) (n : ℕ) : Type 0 where
  pub from : a ≤ n
  pub free : find nat_cmp n es ≡ None
  pub full : (m : ℕ) → a ≤ m → m < n → IsSome (find nat_cmp m es)

find-low : (q a : ℕ) (es : List (ℕ × Entry)) → q < a → Rising a es → find nat_cmp q es ≡ None
find-low q a [] h r = refl
find-low q a (e ∷ es) h r =
    let le = r.0 in
    let ne : q ≢ e.0 = omega arith in
    ap (λ t. cond t (Some e.1) (find nat_cmp q es)) (apart q e.0 ne) ∙ find-low q (suc e.0) es (omega arith) r.1

gap-is : (a : ℕ) (es : List (ℕ × Entry)) → Rising a es → IsGap a es (first_gap a (map (λ e. e.0) es))
gap-is a [] r = record { from = omega arith; free = refl; full = λ m h l. absurd (omega arith) }
gap-is a (e ∷ es) r = elim (eqb_tells a e.0) as (λ _. IsGap a (e ∷ es) (cond (eqb a e.0) (first_gap (suc a) (map (λ e. e.0) es)) a)) [
  | inl p ↦
      let n : ℕ = first_gap (suc a) (map (λ e. e.0) es) in
      let g = gap-is (suc a) es (subst (λ z. Rising (suc z) es) (sym p.1) r.1) in
      let from = g.from in
      let here = p.1 in
      subst (λ b. IsGap a (e ∷ es) (cond b n a)) (sym p.0) (record {
        from = omega arith;
        free = ap (λ t. cond t (Some e.1) (find nat_cmp n es)) (apart n e.0 (omega arith)) ∙ g.free;
        full = λ m h l. elim (eqb_tells m e.0) [
          | inl q ↦ subst (λ t. IsSome (cond t (Some e.1) (find nat_cmp m es))) (sym (ap (λ z. eq_by_cmp nat_cmp z e.0) q.1 ∙ tied e.0)) refl
          | inr q ↦ subst (λ t. IsSome (cond t (Some e.1) (find nat_cmp m es))) (sym (apart m e.0 q.1)) (g.full m (let ne = q.1 in omega arith) l)
        ];
      })
  | inr p ↦
      let le = r.0 in
      let ne = p.1 in
      subst (λ b. IsGap a (e ∷ es) (cond b (first_gap (suc a) (map (λ e. e.0) es)) a)) (sym p.0) (record {
        from = omega arith;
        free = find-low a (suc a) (e ∷ es) (omega arith) (omega arith, r.1);
        full = λ m h l. absurd (omega arith);
      })
]

pub least-free-is : (N : NetworkValue) → IsLeastFree N (least_free N)
unfolding least_free entry_at
least-free-is N =
    let g = gap-is 0 (entries N.nodes) (entries-rising N.nodes) in
    record { free = get-entries N.nodes _ ∙ g.free; least = λ m l. subst IsSome (sym (get-entries N.nodes m)) (g.full m (omega arith) l) }

not-both : {X : Type 0} (o : Option X) → o ≡ None → IsSome o → ⊥
not-both o e h = let k : false ≡ true = subst IsSome e h in cc

-- there is one least free number
pub least-is : (N : NetworkValue) (n : ℕ) → IsLeastFree N n → n ≡ least_free N
least-is N n h =
    let g = least-free-is N in
    elim (cases_lt n (least_free N)) [
      | inl l ↦ absurd (not-both (entry_at N n) h.free (g.least n l))
      | inr p ↦ elim (cases_lt (least_free N) n) [
        | inl l ↦ absurd (not-both (entry_at N (least_free N)) g.free (h.least (least_free N) l))
        | inr q ↦ omega arith
      ]
    ]

-- ---- what was added, by the equation of the network

pub added-live : (N M : NetworkValue) (n : ℕ) (e : Entry) → M ≡ with_entry N n e → IsLive M n
added-live N M n e is = subst (λ X. IsLive X n) (sym is) (subst IsSome (sym (with_entry-here N n e)) refl)

pub added-below : (N M : NetworkValue) (n r : ℕ) (e : Entry) → M ≡ with_entry N n e → IsLeastFree N n → live_count N < r → AreBelow N r → AreBelow M r
added-below N M n r e is least more below =
    let low = least-low N n least in
    subst (λ X. AreBelow X r) (sym is) (below-added N n r e below (omega arith))

pub added-count : (N M : NetworkValue) (n : ℕ) (e : Entry) → M ≡ with_entry N n e → IsLeastFree N n → live_count M ≡ live_count N + 1
added-count N M n e is least = ap live_count is ∙ count-added N n e least.free

-- ---- what is placed

pub placed-more : (N : NetworkValue) (k : KeyValue) (phase : Bool) → found N k ≡ None → live_count (placed_key N k phase (found N k)).network ≡ live_count N + 1
placed-more N k phase none =
    ap (λ o. live_count (placed_key N k phase o).network) none ∙ count-added N (least_free N) (IsGate (keyed_gate k false)) (least-free-is N).free
