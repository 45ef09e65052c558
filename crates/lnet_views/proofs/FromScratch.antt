-- Answers that are made from scratch, a gate after its fanins.
use Rattle.std.proofs.Common.{◌≡◌, ◌≢◌, ℕ, ◌+◌, ◌*◌, ◌<◌, ◌≤◌, zero, suc, Bool, true, false, List, [], ◌∷◌, ◌++◌, length, IsSome, Option, None, Some, refl, sym, ap, subst, ◌∙◌, inl, inr, arith, get_or, set, drop, get_or-set_same, get_or-set_other, length-set}
use Rattle.std.specs.Prelude.{◌⊎◌, is_some}
use Rattle.std.proofs.lemmas.Bool.Decides.{eqb_tells}
use Rattle.lnet_gates.specs.declared.signal.Node.{Node}
use Rattle.lnet_gates.specs.declared.signal.Signal.{Signal}
use Rattle.lnet_gates.specs.Gates.{GateValue}
use Rattle.lnet_model.specs.Networks.{Entry, Constant, Input, IsGate, NetworkValue, entry_at, live_count, gate_in, IsLive}
use Rattle.lnet_model.specs.Along.{once, In, fanin_nodes, nodes_read, IsClosed, Acyclic}
use Rattle.lnet_model.specs.Levels.{level}
use Rattle.lnet_model.specs.Fanouts.{IsParent}
use Rattle.lnet_model.specs.Dags.{NUMBERS}
use Rattle.lnet_model.proofs.Levels.{level-falls, level-small}
use Rattle.lnet_model.proofs.Over.{over-once}
use Rattle.lnet_views.specs.Repair.{IsLawful, pair_step, pair_eq}
use Rattle.lnet_views.specs.Rules.{rule_step, IsInStep}
use Rattle.lnet_views.specs.Keeping.{at_level, answer, mark, height, IsSound, IsKept, scratch, level_or, kept_at}
use Rattle.lnet_views.specs.Building.{IsBuilding, bottom, Falls, AreTodo}
use Rattle.lnet_views.proofs.Pair.{both, eqb-is, and-right, pair-lawful, pair-over}
use Rattle.lnet_views.proofs.Steps.{dead-scratch, to-step}
use Rattle.lnet_views.proofs.Repair.{once-like}
use Rattle.lnet_views.proofs.Renewal.{answer-level, renewed-here, renewed-apart}

-- ---- fanins in turn

pub none-of : {A : Type 0} (o : Option A) → is_some o ≡ false → o ≡ None
none-of None e = refl
none-of (Some x) e = let z : true ≡ false = e in cc

pub in-item : (xs : List Signal) (i : ℕ) (d : Signal) → i < length xs → In (get_or xs i d).node.0 (nodes_read xs)
in-item [] i d h = absurd (omega arith)
in-item (x ∷ xs) zero d h = inl refl
in-item (x ∷ xs) (suc i) d h = inr (in-item xs i d (omega arith))

next-item : (xs : List Signal) (i : ℕ) (d : Signal) → i < length xs → (m : ℕ) → In m (nodes_read (drop i xs)) → (m ≡ (get_or xs i d).node.0) ⊎ In m (nodes_read (drop (suc i) xs))
next-item [] i d h m k = absurd (omega arith)
next-item (x ∷ xs) zero d h m (inl e) = inl e
next-item (x ∷ xs) zero d h m (inr k) = inr k
next-item (x ∷ xs) (suc i) d h m k = next-item xs i d (omega arith) m k

drop-all : (xs : List Signal) (i : ℕ) → length xs ≤ i → (m : ℕ) → In m (nodes_read (drop i xs)) → ⊥
drop-all [] zero h m k = k
drop-all [] (suc i) h m k = k
drop-all (x ∷ xs) zero h m k = absurd (omega arith)
drop-all (x ∷ xs) (suc i) h m k = drop-all xs i (omega arith) m k

-- while fanins are looked at: each so far has a level
abbrev pub IsLooking : List (Option ℕ) → List Signal → ℕ → Type 0
IsLooking levels ss i = (m : ℕ) → In m (nodes_read ss) → IsSome (get_or levels m None) ⊎ In m (nodes_read (drop i ss))

pub in-items-of : (items ss : List Signal) → items ≡ ss → (i : ℕ) (d : Signal) → i < length items → In (get_or items i d).node.0 (nodes_read ss)
in-items-of items ss e i d h = subst (λ z. In (get_or items i d).node.0 (nodes_read z)) e (in-item items i d h)

-- what is no gate has no fanin
pub bare-fanin : {A : Type 0} (o : Option Entry) → None ≡ gate_in o → (m : ℕ) → In m (fanin_nodes o) → A
bare-fanin None e m i = absurd i
bare-fanin (Some Constant) e m i = absurd i
bare-fanin (Some (Input k)) e m i = absurd i
bare-fanin (Some (IsGate g)) e m i = cc

-- ---- one more answer

module _ {V : Type 0} (eq : V → V → Bool) (first : ℕ → V) (gives : ℕ → GateValue → List (Signal × V) → V) (law : IsLawful eq (rule_step first gives)) (N : NetworkValue) (acyclic : Acyclic N) (values : List V) (levels : List (Option ℕ)) (waits : List (Option ℕ)) (B : IsBuilding eq first gives N values levels waits) where
  -- each level so far is the network's
  pub building-low : (top : ℕ) → ((m : ℕ) → level N m ≤ top) → (m : ℕ) → height levels m ≤ top
  building-low top low m = elim (get_or levels m None) as (λ o. (get_or levels m None ≡ o) → height levels m ≤ top) [
    | None ↦ λ e. (let z = ap level_or e in omega arith)
    | Some l ↦ λ e. (let right = B.done m (subst IsSome (sym e) refl) in
        let is = sym (answer-level (first 0) values levels m) ∙ eqb-is _ _ (and-right (eq (answer (first 0) values levels m).0 (scratch first gives N m).0) _ right.1) ∙ ap (λ (p : V × ℕ). p.1) (pair-over N (rule_step first gives) (first 0) acyclic m) in
        let h = low m in
        omega arith)
  ] refl

  pub building-small : live_count N ≤ NUMBERS → (m : ℕ) → height levels m ≤ NUMBERS
  building-small few = building-low NUMBERS (λ m. let h = level-small N m in omega arith)

  module _ (n : ℕ) (live : IsLive N n) (todo : get_or levels n None ≡ None) (v : V) (l : ℕ) (values2 : List V) (levels2 : List (Option ℕ)) (waits2 : List (Option ℕ)) (vs : values2 ≡ set values n v) (ls : levels2 ≡ set levels n (Some l)) (ws : waits2 ≡ waits) where
    inside : n < length levels
    inside = let r = B.room n live in let e = B.levels_len in omega arith

    pub place-here : get_or levels2 n None ≡ Some l
    place-here = ap (λ z. get_or z n None) ls ∙ get_or-set_same levels n (Some l) None inside

    pub place-apart : (q : ℕ) → q ≢ n → get_or levels2 q None ≡ get_or levels q None
    place-apart q ne = ap (λ z. get_or z q None) ls ∙ get_or-set_other levels n q (Some l) None ne

    pub place-building : ((m : ℕ) → IsParent N m n → IsSome (get_or levels m None)) → pair_eq eq (v, l) (once (entry_at N) (pair_step (rule_step first gives)) (first 0, 0) (answer (first 0) values levels) n) ≡ true → IsBuilding eq first gives N values2 levels2 waits2
    place-building known is = record {
      levels_len = ap length ls ∙ length-set levels n (Some l) ∙ B.levels_len ∙ sym a;
      waits_len = (let c = ap length ws in let d = B.waits_len in let e = a in omega arith);
      room = λ m h. subst (λ z. m < z) (sym a) (B.room m h);
      idle = λ m. ap (λ z. mark z m) ws ∙ B.idle m;
      done = λ m h. elim (eqb_tells m n) as (λ _. IsLive N m × (pair_eq eq (answer (first 0) values2 levels2 m) (scratch first gives N m) ≡ true)) [
        | inl p ↦ (subst (IsLive N) (sym p.1) live, subst (λ z. pair_eq eq (answer (first 0) values2 levels2 z) (scratch first gives N z) ≡ true) (sym p.1) (subst (λ z. pair_eq eq z (scratch first gives N n) ≡ true) (sym (renewed-here (first 0) values levels n v l values2 levels2 vs ls (B.room n live) inside)) right))
        | inr p ↦ (let d = B.done m (subst IsSome (place-apart m p.1) h) in (d.0, subst (λ z. pair_eq eq z (scratch first gives N m) ≡ true) (sym (renewed-apart (first 0) values levels n v l values2 levels2 vs ls m p.1)) d.1))
      ];
    }
      where
        a : length values2 ≡ length values
        a = ap length vs ∙ length-set values n v

        P : IsLawful (pair_eq eq) (pair_step (rule_step first gives))
        P = pair-lawful eq (rule_step first gives) law

        right : pair_eq eq (v, l) (scratch first gives N n) ≡ true
        right = P.joined _ _ _ is (subst (λ z. pair_eq eq (once (entry_at N) (pair_step (rule_step first gives)) (first 0, 0) (answer (first 0) values levels) n) z ≡ true) (sym (over-once N (pair_step (rule_step first gives)) (first 0, 0) acyclic n)) (once-like (pair_eq eq) (pair_step (rule_step first gives)) (first 0, 0) P (entry_at N) (answer (first 0) values levels) (scratch first gives N) n (λ m i. (B.done m (known m i)).1)))

-- where each live number has an answer, all is made
pub building-end : {V : Type 0} (eq : V → V → Bool) (first : ℕ → V) (gives : ℕ → GateValue → List (Signal × V) → V) (N : NetworkValue) (values : List V) (levels : List (Option ℕ)) (waits : List (Option ℕ)) → IsBuilding eq first gives N values levels waits → ((m : ℕ) → IsLive N m → IsSome (get_or levels m None)) → IsSound N values levels waits
building-end eq first gives N values levels waits B all = record {
  levels_len = B.levels_len;
  waits_len = B.waits_len;
  room = B.room;
  known = all;
  dead = λ m d. elim (get_or levels m None) as (λ o. (get_or levels m None ≡ o) → o ≡ None) [
    | None ↦ λ e. refl
    | Some l ↦ λ e. (let z : false ≡ true = subst IsSome d (B.done m (subst IsSome (sym e) refl)).0 in cc)
  ] refl;
}

-- ---- the stack

pub bottom-push : (a m : Node) (xs : List Node) → bottom m (xs ++ a ∷ []) ≡ bottom a xs
bottom-push a m [] = refl
bottom-push a m (x ∷ xs) = refl

falls-push : (N : NetworkValue) (a m : Node) (xs : List Node) → level N m.0 < level N a.0 → Falls N a xs → Falls N m (xs ++ a ∷ [])
falls-push N a m [] l f = (l, tt)
falls-push N a m (x ∷ xs) l f = (subst (λ z. level N z < level N x.0) (sym (bottom-push a m xs)) f.0, falls-push N a m xs l f.1)

falls-pop : (N : NetworkValue) (at b : Node) (xs : List Node) → Falls N at (xs ++ b ∷ []) → Falls N b xs
falls-pop N at b [] f = tt
falls-pop N at b (x ∷ xs) f = (subst (λ z. level N z < level N x.0) (bottom-push b at xs) f.0, falls-pop N at b xs f.1)

bottom-falls : (N : NetworkValue) (at : Node) (xs : List Node) → Falls N at xs → level N at.0 ≤ level N (bottom at xs)
bottom-falls N at [] f = let e : level N at.0 ≤ level N at.0 = omega arith in e
bottom-falls N at (x ∷ xs) f = let h = bottom-falls N at xs f.1 in let k = f.0 in omega arith

todo-push : (N : NetworkValue) (levels : List (Option ℕ)) (a : Node) (xs : List Node) → IsLive N a.0 → get_or levels a.0 None ≡ None → AreTodo N levels xs → AreTodo N levels (xs ++ a ∷ [])
todo-push N levels a [] live todo t = (live, todo, tt)
todo-push N levels a (x ∷ xs) live todo t = (t.0, t.1, todo-push N levels a xs live todo t.2)

todo-pop : (N : NetworkValue) (levels : List (Option ℕ)) (b : Node) (xs : List Node) → AreTodo N levels (xs ++ b ∷ []) → AreTodo N levels xs × IsLive N b.0 × (get_or levels b.0 None ≡ None)
todo-pop N levels b [] t = (tt, t.0, t.1)
todo-pop N levels b (x ∷ xs) t = let r = todo-pop N levels b xs t.2 in ((t.0, t.1, r.0), r.1, r.2)

-- an answer at `at` is none of those on the stack
todo-kept : (N : NetworkValue) (levels levels2 : List (Option ℕ)) (at : Node) (xs : List Node) → Falls N at xs → ((q : ℕ) → q ≢ at.0 → get_or levels2 q None ≡ get_or levels q None) → AreTodo N levels xs → AreTodo N levels2 xs
todo-kept N levels levels2 at [] f same t = tt
todo-kept N levels levels2 at (x ∷ xs) f same t =
    let h = bottom-falls N at xs f.1 in
    let k = f.0 in
    let ne : x.0 ≢ at.0 = λ e. (let z = ap (level N) e in omega arith) in
    (t.0, same x.0 ne ∙ t.1, todo-kept N levels levels2 at xs f.1 same t.2)

pub some-kept : (levels levels2 : List (Option ℕ)) (n : ℕ) → ((q : ℕ) → q ≢ n → get_or levels2 q None ≡ get_or levels q None) → IsSome (get_or levels2 n None) → (q : ℕ) → IsSome (get_or levels q None) → IsSome (get_or levels2 q None)
some-kept levels levels2 n same here q h = elim (eqb_tells q n) as (λ _. IsSome (get_or levels2 q None)) [ inl p ↦ subst (λ z. IsSome (get_or levels2 z None)) (sym p.1) here | inr p ↦ subst IsSome (sym (same q p.1)) h ]

suc-times : (a c : ℕ) → (a + 1) * c ≡ a * c + c
suc-times a c = omega arith

-- a fanin on top of the stack
module _ (N : NetworkValue) (levels : List (Option ℕ)) (at m : Node) (xs ys : List Node) (is : ys ≡ xs ++ at ∷ []) (acyclic : Acyclic N) (closed : IsClosed N) (fanin : In m.0 (fanin_nodes (entry_at N at.0))) where
  pub pushed-live : IsLive N m.0
  pushed-live = closed at.0 m.0 fanin

  pub pushed-lowest : bottom m ys ≡ bottom at xs
  pushed-lowest = ap (bottom m) is ∙ bottom-push at m xs

  pub pushed-falls : Falls N at xs → Falls N m ys
  pushed-falls f = subst (Falls N m) (sym is) (falls-push N at m xs (level-falls N acyclic at.0 m.0 fanin) f)

  pub pushed-todo : IsLive N at.0 → get_or levels at.0 None ≡ None → AreTodo N levels xs → AreTodo N levels ys
  pushed-todo live todo t = subst (AreTodo N levels) (sym is) (todo-push N levels at xs live todo t)

  pub pushed-smaller : (a : ℕ) → a * (live_count N + 1) + level N m.0 < a * (live_count N + 1) + level N at.0
  pushed-smaller a = let h = level-falls N acyclic at.0 m.0 fanin in omega arith

-- an answer made, and the stack's top taken
module _ (N : NetworkValue) (levels levels2 : List (Option ℕ)) (at b : Node) (xs ys : List Node) (is : ys ≡ xs ++ b ∷ []) (f : Falls N at ys) (t : AreTodo N levels ys) (same : (q : ℕ) → q ≢ at.0 → get_or levels2 q None ≡ get_or levels q None) where
  rest : AreTodo N levels2 xs × IsLive N b.0 × (get_or levels2 b.0 None ≡ None)
  rest = todo-pop N levels2 b xs (subst (AreTodo N levels2) is (todo-kept N levels levels2 at ys f same t))

  pub popped-todo : AreTodo N levels2 xs
  popped-todo = rest.0

  pub popped-live : IsLive N b.0
  popped-live = rest.1

  pub popped-none : get_or levels2 b.0 None ≡ None
  popped-none = rest.2

  pub popped-lowest : bottom b xs ≡ bottom at ys
  popped-lowest = sym (ap (bottom at) is ∙ bottom-push b at xs)

  pub popped-falls : Falls N b xs
  popped-falls = falls-pop N at b xs (subst (Falls N at) is f)

pub popped-smaller : (N : NetworkValue) (n m a b : ℕ) → a + 1 ≡ b → a * (live_count N + 1) + level N m < b * (live_count N + 1) + level N n
popped-smaller N n m a b e =
    let h = level-small N m in
    let k : (a + 1) * (live_count N + 1) ≡ a * (live_count N + 1) + (live_count N + 1) = suc-times a (live_count N + 1) in
    let z = ap (λ w. w * (live_count N + 1)) e in
    omega arith

-- and so it is in step
pub building-in-step : {V : Type 0} (eq : V → V → Bool) (first : ℕ → V) (gives : ℕ → GateValue → List (Signal × V) → V) → IsLawful eq (rule_step first gives) → (N : NetworkValue) → Acyclic N → (values : List V) (levels : List (Option ℕ)) (waits : List (Option ℕ)) → IsBuilding eq first gives N values levels waits → ((m : ℕ) → IsLive N m → IsSome (get_or levels m None)) → IsInStep eq first gives (kept_at values levels) N
building-in-step eq first gives law N acyclic values levels waits B all = to-step eq first gives N acyclic values levels waits kept S
  where
    S : IsSound N values levels waits
    S = building-end eq first gives N values levels waits B all

    kept : IsKept eq first gives N values levels
    kept n = elim (entry_at N n) as (λ o. (entry_at N n ≡ o) → pair_eq eq (answer (first 0) values levels n) (scratch first gives N n) ≡ true) [
      | None ↦ λ d. (let is : answer (first 0) values levels n ≡ (first 0, 0) = ap (at_level (first 0) (get_or values n (first 0))) (S.dead n d) in
          (λ i. pair_eq eq (is i) (dead-scratch first gives N acyclic n d i)) ∙ both _ _ (law.same (first 0)) refl)
      | Some e ↦ λ d. (B.done n (all n (subst IsSome (sym d) refl))).1
    ] refl
