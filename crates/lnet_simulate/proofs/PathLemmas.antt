-- The path of the search for a cone: what it keeps, and that it ends.
use Rattle.std.proofs.Common.{◌≡◌, ◌≢◌, ℕ, suc, ◌+◌, ◌*◌, ◌<◌, ◌≤◌, ◌⊎◌, List, [], ◌∷◌, ◌++◌, length, get_or, set, Bool, true, false, cond, sum_by, refl, sym, ap, subst, ◌∙◌, inl, inr, arith, length-append, get_or-set_same, get_or-set_other}
use Rattle.std.proofs.lemmas.List.{get_or_append_left, get_or-append-add}
use Rattle.std.proofs.lemmas.List.Elements.{All-push, All-nil}
use Rattle.std.proofs.lemmas.List.Quantifiers.{all_pairs_push}
use Rattle.std.proofs.lemmas.List.Sums.{sum_by-set}
use Rattle.lnet_gates.specs.declared.signal.Node.{Node}
use Rattle.lnet_model.specs.Networks.{NetworkValue, entry_at, live_count}
use Rattle.lnet_model.specs.Along.{In, fanin_nodes}
use Rattle.lnet_model.specs.Dags.{IsStored, numbers_of}
use Rattle.lnet_model.specs.Levels.{level}
use Rattle.lnet_model.proofs.Levels.{level-falls, level-small}
use Rattle.lnet_simulate.specs.Cones.{marked_at, IsUnmarked, IsPath, StartsAt}
use Rattle.lnet_simulate.proofs.FaninLemmas.{fanin-below}

-- ---- a path but its last number

pub pushed-left : {X : Type 0} (xs : List X) (x : X) (i : ℕ) (d : X) → i < length xs → get_or (xs ++ x ∷ []) i d ≡ get_or xs i d
pushed-left xs x i d low = get_or_append_left xs (x ∷ []) d i low

pub pushed-last : {X : Type 0} (xs : List X) (x : X) (i : ℕ) (d : X) → i ≡ length xs → get_or (xs ++ x ∷ []) i d ≡ x
pushed-last xs x i d at = let e : i ≡ length xs + 0 = omega arith in ap (λ (j : ℕ). get_or (xs ++ x ∷ []) j d) e ∙ get_or-append-add xs (x ∷ []) 0 d

pub pushed-length : {X : Type 0} (xs : List X) (x : X) → length (xs ++ x ∷ []) ≡ suc (length xs)
pushed-length xs x = let e = length-append xs (x ∷ []) in omega arith

path-but-last : (N : NetworkValue) (ms : List Bool) (path : List Node) (n : Node) → IsPath N ms (path ++ n ∷ []) → IsPath N ms path
path-but-last N ms path n p = record {
  unmarked = λ k d low. subst (IsUnmarked N ms) (pushed-left path n k d low) (p.unmarked k d (let e = pushed-length path n in omega arith));
  falls = λ i j d below within.
      let within_i : i < length path = omega arith in
      let h = p.falls i j d below (let e = pushed-length path n in omega arith) in
      let a = ap (λ (m : Node). level N m.0) (pushed-left path n i d within_i) in
      let b = ap (λ (m : Node). level N m.0) (pushed-left path n j d within) in
      omega arith;
}

pub last-unmarked : (N : NetworkValue) (ms : List Bool) (path : List Node) (n : Node) → IsPath N ms (path ++ n ∷ []) → IsUnmarked N ms n
last-unmarked N ms path n p = subst (IsUnmarked N ms) (pushed-last path n (length path) n refl) (p.unmarked (length path) n (let e = pushed-length path n in omega arith))

last-lower : (N : NetworkValue) (ms : List Bool) (path : List Node) (n : Node) → IsPath N ms (path ++ n ∷ []) → (k : ℕ) (d : Node) → k < length path → level N n.0 < level N (get_or path k d).0
last-lower N ms path n p k d low =
    let h = p.falls k (length path) d low (let e = pushed-length path n in omega arith) in
    let a = ap (λ (m : Node). level N m.0) (pushed-left path n k d low) in
    let b = ap (λ (m : Node). level N m.0) (pushed-last path n (length path) d refl) in
    omega arith

-- ---- one number more

pub path-more : (N : NetworkValue) (ms : List Bool) (path : List Node) (n m : Node) → IsStored N → IsPath N ms (path ++ n ∷ []) → In m.0 (fanin_nodes (entry_at N n.0)) → marked_at ms m.0 ≡ false → IsPath N ms ((path ++ n ∷ []) ++ m ∷ [])
path-more N ms path n m stored p read unmarked =
    let falls = level-falls N stored.dag.acyclic n.0 m.0 read in
    record {
      unmarked = All-push (IsUnmarked N ms) (path ++ n ∷ []) m p.unmarked (fanin-below N n.0 m.0 stored read, unmarked);
      falls = all_pairs_push (λ a b. level N b.0 < level N a.0) (path ++ n ∷ []) m p.falls (λ k d low. by k d low (cases k (length path)) falls);
    }
  where
    cases : (i k : ℕ) → (i < k) ⊎ (k ≤ i)
    cases i k = grind arith

    by : (k : ℕ) (d : Node) → k < length (path ++ n ∷ []) → (k < length path) ⊎ (length path ≤ k) → level N m.0 < level N n.0 → level N m.0 < level N (get_or (path ++ n ∷ []) k d).0
    by k d low (inl h) falls =
        let a = last-lower N ms path n p k d h in
        let b = ap (λ (q : Node). level N q.0) (pushed-left path n k d h) in
        omega arith
    by k d low (inr h) falls =
        let e = pushed-length path n in
        let b = ap (λ (q : Node). level N q.0) (pushed-last path n k d (omega arith)) in
        omega arith

-- ---- one mark more

pub path-settled : (N : NetworkValue) (ms : List Bool) (path : List Node) (n : Node) → IsPath N ms (path ++ n ∷ []) → IsPath N (set ms n.0 true) path
path-settled N ms path n p =
    let rest = path-but-last N ms path n p in
    record {
      unmarked = λ k d low.
          let here = rest.unmarked k d low in
          let lower = last-lower N ms path n p k d low in
          let apart : (get_or path k d).0 ≢ n.0 = (λ e. let z : level N (get_or path k d).0 ≡ level N n.0 = ap (level N) e in omega arith) in
          (here.0, get_or-set_other ms n.0 (get_or path k d).0 true false apart ∙ here.1);
      falls = rest.falls;
    }

-- ---- the first number

pub starts-more : (ms : List Bool) (path : List Node) (n top m : Node) → StartsAt ms (path ++ top ∷ []) n → StartsAt ms ((path ++ top ∷ []) ++ m ∷ []) n
starts-more ms path n top m s =
    let count = pushed-length path top in
    let low : 0 < length (path ++ top ∷ []) = omega arith in
    let more = pushed-length (path ++ top ∷ []) m in
    record {
      first = λ _. pushed-left (path ++ top ∷ []) m 0 n low ∙ s.first low;
      settled = λ none. absurd (omega arith);
    }

pub starts-settled : (ms : List Bool) (path : List Node) (n top : Node) → top.0 < length ms → StartsAt ms (path ++ top ∷ []) n → StartsAt (set ms top.0 true) path n
starts-settled ms path n top within s =
    let count = pushed-length path top in
    let some : 0 < length (path ++ top ∷ []) = omega arith in
    record {
      first = λ low. sym (pushed-left path top 0 n low) ∙ s.first some;
      settled = λ none.
          let at : top ≡ n = sym (pushed-last path top 0 n (sym none)) ∙ s.first some in
          subst (λ (m : Node). marked_at (set ms top.0 true) m.0 ≡ true) at (get_or-set_same ms top.0 true false within);
    }

-- ---- the start

pub path-first : (N : NetworkValue) (ms : List Bool) (n : Node) → n.0 < numbers_of N → marked_at ms n.0 ≡ false → IsPath N ms (n ∷ [])
path-first N ms n low unmarked = record {
  unmarked = All-push (IsUnmarked N ms) [] n (All-nil (IsUnmarked N ms)) (low, unmarked);
  falls = λ i j d below within. absurd (omega arith);
}

pub starts-first : (ms : List Bool) (n : Node) → StartsAt ms (n ∷ []) n
starts-first ms n = record { first = λ _. refl; settled = λ none. absurd (omega arith) }

-- ---- the end

-- 1 for a number that isn't marked
abbrev pub missing : Bool → ℕ
missing b = cond b 0 1

-- one more than the level of the last number, and 0 of none
abbrev pub height : NetworkValue → List Node → ℕ
height N [] = 0
height N (n ∷ []) = suc (level N n.0)
height N (n ∷ m ∷ ns) = height N (m ∷ ns)

-- how many steps are left at most
abbrev pub work : NetworkValue → List Bool → List Node → ℕ
work N ms path = sum_by missing ms * (live_count N + 2) + height N path

height-last : (N : NetworkValue) (path : List Node) (n : Node) → height N (path ++ n ∷ []) ≡ suc (level N n.0)
height-last N [] n = refl
height-last N (m ∷ []) n = refl
height-last N (m ∷ k ∷ ns) n = height-last N (k ∷ ns) n

height-small : (N : NetworkValue) (path : List Node) → height N path ≤ suc (live_count N)
height-small N [] = omega arith
height-small N (n ∷ []) = let h = level-small N n.0 in omega arith
height-small N (n ∷ m ∷ ns) = height-small N (m ∷ ns)

less : (u v k h i : ℕ) → suc u ≡ v → h < k → u * k + h < v * k + i
less u v k h i one small = subst (λ (w : ℕ). u * k + h < w * k + i) one (omega arith)

pub work-settled : (N : NetworkValue) (ms : List Bool) (path : List Node) (n : Node) → n.0 < length ms → marked_at ms n.0 ≡ false → work N (set ms n.0 true) path < work N ms (path ++ n ∷ [])
work-settled N ms path n within unmarked =
    let sums = sum_by-set missing ms n.0 true false within in
    let was : missing (get_or ms n.0 false) ≡ 1 = ap missing unmarked in
    let small = height-small N path in
    less (sum_by missing (set ms n.0 true)) (sum_by missing ms) (live_count N + 2) (height N path) (height N (path ++ n ∷ [])) (omega arith) (omega arith)

pub work-more : (N : NetworkValue) (ms : List Bool) (path : List Node) (n m : Node) → IsStored N → In m.0 (fanin_nodes (entry_at N n.0)) → work N ms ((path ++ n ∷ []) ++ m ∷ []) < work N ms (path ++ n ∷ [])
work-more N ms path n m stored read =
    let falls = level-falls N stored.dag.acyclic n.0 m.0 read in
    let a = height-last N path n in
    let b = height-last N (path ++ n ∷ []) m in
    let same : height N ((path ++ n ∷ []) ++ m ∷ []) < height N (path ++ n ∷ []) = omega arith in
    lower (sum_by missing ms * (live_count N + 2)) _ _ same
  where
    lower : (x a b : ℕ) → a < b → x + a < x + b
    lower x a b h = omega arith
