-- The path of the search for levels: what it keeps, and that it ends.
use Rattle.std.proofs.Common.{◌≡◌, ◌≢◌, ℕ, zero, suc, ◌+◌, ◌*◌, ◌<◌, ◌≤◌, ◌⊎◌, List, [], ◌∷◌, ◌++◌, length, get_or, set, All, AllPairs, IsSome, Option, None, Some, sum_by, refl, sym, ap, subst, ◌∙◌, inl, inr, arith, length-append, length-set, get_or-set_same, get_or-set_other}
use Rattle.std.proofs.lemmas.Bool.Decides.{eqb_tells}
use Rattle.std.proofs.lemmas.List.{set_past, get_or_append_left, get_or-append-add}
use Rattle.std.proofs.lemmas.List.Elements.{All-push, All-append, All-nil}
use Rattle.std.proofs.lemmas.List.Quantifiers.{all_pairs_push}
use Rattle.std.proofs.lemmas.List.Sums.{sum_by-set}
use Rattle.lnet_gates.specs.declared.signal.Node.{Node}
use Rattle.lnet_model.specs.Networks.{NetworkValue, entry_at, live_count}
use Rattle.lnet_model.specs.Along.{In, fanin_nodes}
use Rattle.lnet_model.specs.Dags.{IsStored, numbers_of}
use Rattle.lnet_model.specs.Levels.{level}
use Rattle.lnet_model.proofs.Levels.{level-falls, level-small}
use Rattle.lnet_export.specs.Settling.{known_at, AreLevels, KeepsKnown, IsUnknown, IsPath, StartsAt}
use Rattle.lnet_export.proofs.LevelLemmas.{fanin-below}

-- ---- a path but its last number

pushed-left : {X : Type 0} (xs : List X) (x : X) (i : ℕ) (d : X) → i < length xs → get_or (xs ++ x ∷ []) i d ≡ get_or xs i d
pushed-left xs x i d low = get_or_append_left xs (x ∷ []) d i low

pushed-last : {X : Type 0} (xs : List X) (x : X) (i : ℕ) (d : X) → i ≡ length xs → get_or (xs ++ x ∷ []) i d ≡ x
pushed-last xs x i d at = let e : i ≡ length xs + 0 = omega arith in ap (λ (j : ℕ). get_or (xs ++ x ∷ []) j d) e ∙ get_or-append-add xs (x ∷ []) 0 d

pushed-length : {X : Type 0} (xs : List X) (x : X) → length (xs ++ x ∷ []) ≡ suc (length xs)
pushed-length xs x = let e = length-append xs (x ∷ []) in omega arith

path-but-last : (N : NetworkValue) (ls : List (Option ℕ)) (path : List Node) (n : Node) → IsPath N ls (path ++ n ∷ []) → IsPath N ls path
path-but-last N ls path n p = record {
  unknown = λ k d low. subst (IsUnknown N ls) (pushed-left path n k d low) (p.unknown k d (let e = pushed-length path n in omega arith));
  falls = λ i j d below within.
      let within_i : i < length path = omega arith in
      let h = p.falls i j d below (let e = pushed-length path n in omega arith) in
      let a = ap (λ (m : Node). level N m.0) (pushed-left path n i d within_i) in
      let b = ap (λ (m : Node). level N m.0) (pushed-left path n j d within) in
      omega arith;
}

pub last-unknown : (N : NetworkValue) (ls : List (Option ℕ)) (path : List Node) (n : Node) → IsPath N ls (path ++ n ∷ []) → IsUnknown N ls n
last-unknown N ls path n p = subst (IsUnknown N ls) (pushed-last path n (length path) n refl) (p.unknown (length path) n (let e = pushed-length path n in omega arith))

last-lower : (N : NetworkValue) (ls : List (Option ℕ)) (path : List Node) (n : Node) → IsPath N ls (path ++ n ∷ []) → (k : ℕ) (d : Node) → k < length path → level N n.0 < level N (get_or path k d).0
last-lower N ls path n p k d low =
    let h = p.falls k (length path) d low (let e = pushed-length path n in omega arith) in
    let a = ap (λ (m : Node). level N m.0) (pushed-left path n k d low) in
    let b = ap (λ (m : Node). level N m.0) (pushed-last path n (length path) d refl) in
    omega arith

-- ---- one number more

pub path-more : (N : NetworkValue) (ls : List (Option ℕ)) (path : List Node) (n m : Node) → IsStored N → IsPath N ls (path ++ n ∷ []) → In m.0 (fanin_nodes (entry_at N n.0)) → known_at ls m.0 ≡ None → IsPath N ls ((path ++ n ∷ []) ++ m ∷ [])
path-more N ls path n m stored p read unknown =
    let falls = level-falls N stored.dag.acyclic n.0 m.0 read in
    record {
      unknown = All-push (IsUnknown N ls) (path ++ n ∷ []) m p.unknown (fanin-below N n.0 m.0 stored read, unknown);
      falls = all_pairs_push (λ a b. level N b.0 < level N a.0) (path ++ n ∷ []) m p.falls (λ k d low. by k d low (cases k (length path)) falls);
    }
  where
    cases : (i k : ℕ) → (i < k) ⊎ (k ≤ i)
    cases i k = grind arith

    by : (k : ℕ) (d : Node) → k < length (path ++ n ∷ []) → (k < length path) ⊎ (length path ≤ k) → level N m.0 < level N n.0 → level N m.0 < level N (get_or (path ++ n ∷ []) k d).0
    by k d low (inl h) falls =
        let a = last-lower N ls path n p k d h in
        let b = ap (λ (q : Node). level N q.0) (pushed-left path n k d h) in
        omega arith
    by k d low (inr h) falls =
        let e = pushed-length path n in
        let b = ap (λ (q : Node). level N q.0) (pushed-last path n k d (omega arith)) in
        omega arith

-- ---- one level more

pub levels-more : (N : NetworkValue) (ls : List (Option ℕ)) (n l : ℕ) → AreLevels N ls → l ≡ level N n → AreLevels N (set ls n (Some l))
levels-more N ls n l are is = record {
  sized = length-set ls n (Some l) ∙ are.sized;
  right = λ m k found. elim (eqb_tells m n) as (λ _. k ≡ level N m) [
    | inl p ↦ by m k found p.1 (cases n (length ls))
    | inr p ↦ are.right m k (sym (get_or-set_other ls n m (Some l) None p.1) ∙ found)
  ];
}
  where
    cases : (i k : ℕ) → (i < k) ⊎ (k ≤ i)
    cases i k = grind arith

    by : (m k : ℕ) → known_at (set ls n (Some l)) m ≡ Some k → m ≡ n → (n < length ls) ⊎ (length ls ≤ n) → k ≡ level N m
    by m k found at (inl low) =
        let z : Some l ≡ Some k = sym (get_or-set_same ls n (Some l) None low) ∙ ap (known_at (set ls n (Some l))) (sym at) ∙ found in
        let e : l ≡ k = cc in
        sym e ∙ is ∙ ap (level N) (sym at)
    by m k found at (inr past) = are.right m k (ap (λ (xs : List (Option ℕ)). known_at xs m) (sym (set_past ls n (Some l) past)) ∙ found)

pub known-more : (ls : List (Option ℕ)) (n l : ℕ) → n < length ls → KeepsKnown ls (set ls n (Some l))
known-more ls n l low m known = elim (eqb_tells m n) as (λ _. IsSome (known_at (set ls n (Some l)) m)) [
  | inl p ↦ subst (λ z. IsSome (known_at (set ls n (Some l)) z)) (sym p.1) (known-now ls n l low)
  | inr p ↦ subst IsSome (sym (get_or-set_other ls n m (Some l) None p.1)) known
]
  where
    known-now : (ls : List (Option ℕ)) (n l : ℕ) → n < length ls → IsSome (known_at (set ls n (Some l)) n)
    known-now ls n l low = subst IsSome (sym (get_or-set_same ls n (Some l) None low)) refl

pub path-settled : (N : NetworkValue) (ls : List (Option ℕ)) (path : List Node) (n : Node) (l : ℕ) → IsPath N ls (path ++ n ∷ []) → IsPath N (set ls n.0 (Some l)) path
path-settled N ls path n l p =
    let rest = path-but-last N ls path n p in
    record {
      unknown = λ k d low.
          let here = rest.unknown k d low in
          let lower = last-lower N ls path n p k d low in
          let apart : (get_or path k d).0 ≢ n.0 = (λ e. let z : level N (get_or path k d).0 ≡ level N n.0 = ap (level N) e in omega arith) in
          (here.0, get_or-set_other ls n.0 (get_or path k d).0 (Some l) None apart ∙ here.1);
      falls = rest.falls;
    }

-- ---- the first number

pub starts-more : (ls : List (Option ℕ)) (path : List Node) (n top m : Node) → StartsAt ls (path ++ top ∷ []) n → StartsAt ls ((path ++ top ∷ []) ++ m ∷ []) n
starts-more ls path n top m s =
    let count = pushed-length path top in
    let low : 0 < length (path ++ top ∷ []) = omega arith in
    let more = pushed-length (path ++ top ∷ []) m in
    record {
      first = λ _. pushed-left (path ++ top ∷ []) m 0 n low ∙ s.first low;
      settled = λ none. absurd (omega arith);
    }

pub starts-settled : (ls : List (Option ℕ)) (path : List Node) (n top : Node) (l : ℕ) → top.0 < length ls → StartsAt ls (path ++ top ∷ []) n → StartsAt (set ls top.0 (Some l)) path n
starts-settled ls path n top l within s =
    let count = pushed-length path top in
    let some : 0 < length (path ++ top ∷ []) = omega arith in
    record {
      first = λ low. sym (pushed-left path top 0 n low) ∙ s.first some;
      settled = λ none.
          let at : top ≡ n = sym (pushed-last path top 0 n (sym none)) ∙ s.first some in
          subst (λ (m : Node). IsSome (known_at (set ls top.0 (Some l)) m.0)) at (subst IsSome (sym (get_or-set_same ls top.0 (Some l) None within)) refl);
    }

-- ---- the start

pub path-first : (N : NetworkValue) (ls : List (Option ℕ)) (n : Node) → n.0 < numbers_of N → known_at ls n.0 ≡ None → IsPath N ls (n ∷ [])
path-first N ls n low unknown = record {
  unknown = All-push (IsUnknown N ls) [] n (All-nil (IsUnknown N ls)) (low, unknown);
  falls = λ i j d below within. absurd (omega arith);
}

pub starts-first : (ls : List (Option ℕ)) (n : Node) → StartsAt ls (n ∷ []) n
starts-first ls n = record { first = λ _. refl; settled = λ none. absurd (omega arith) }

-- ---- the end

-- 1 for a level that isn't known
abbrev pub missing : Option ℕ → ℕ
missing None = 1
missing (Some l) = 0

-- one more than the level of the last number, and 0 of none
abbrev pub height : NetworkValue → List Node → ℕ
height N [] = 0
height N (n ∷ []) = suc (level N n.0)
height N (n ∷ m ∷ ns) = height N (m ∷ ns)

-- how many steps are left at most
abbrev pub work : NetworkValue → List (Option ℕ) → List Node → ℕ
work N ls path = sum_by missing ls * (live_count N + 2) + height N path

height-last : (N : NetworkValue) (path : List Node) (n : Node) → height N (path ++ n ∷ []) ≡ suc (level N n.0)
height-last N [] n = refl
height-last N (m ∷ []) n = refl
height-last N (m ∷ k ∷ ns) n = height-last N (k ∷ ns) n

height-small : (N : NetworkValue) (path : List Node) → height N path ≤ suc (live_count N)
height-small N [] = omega arith
height-small N (n ∷ []) = let h = level-small N n.0 in omega arith
height-small N (n ∷ m ∷ ns) = height-small N (m ∷ ns)

less : (u v k h i : ℕ) → suc u ≡ v → h < k → u * k + h < v * k + i
less u v k h i one small = subst (λ (w : ℕ). u * k + h < w * k + i) one (omega arith)

pub work-settled : (N : NetworkValue) (ls : List (Option ℕ)) (path : List Node) (n : Node) (l : ℕ) → n.0 < length ls → known_at ls n.0 ≡ None → work N (set ls n.0 (Some l)) path < work N ls (path ++ n ∷ [])
work-settled N ls path n l within unknown =
    let sums = sum_by-set missing ls n.0 (Some l) None within in
    let was : missing (get_or ls n.0 None) ≡ 1 = ap missing unknown in
    let small = height-small N path in
    less (sum_by missing (set ls n.0 (Some l))) (sum_by missing ls) (live_count N + 2) (height N path) (height N (path ++ n ∷ [])) (omega arith) (omega arith)

pub work-more : (N : NetworkValue) (ls : List (Option ℕ)) (path : List Node) (n m : Node) → IsStored N → In m.0 (fanin_nodes (entry_at N n.0)) → work N ls ((path ++ n ∷ []) ++ m ∷ []) < work N ls (path ++ n ∷ [])
work-more N ls path n m stored read =
    let falls = level-falls N stored.dag.acyclic n.0 m.0 read in
    let a = height-last N path n in
    let b = height-last N (path ++ n ∷ []) m in
    let same : height N ((path ++ n ∷ []) ++ m ∷ []) < height N (path ++ n ∷ []) = omega arith in
    lower (sum_by missing ls * (live_count N + 2)) _ _ same
  where
    lower : (x a b : ℕ) → a < b → x + a < x + b
    lower x a b h = omega arith
