-- The signals of other nodes than node 0: those that are kept, their order, and the row that they make.
use Rattle.std.proofs.Common.{◌≡◌, ◌≢◌, ℕ, zero, suc, ◌+◌, ◌*◌, ◌<◌, ◌≤◌, Bool, false, cond, ◌⊎◌, List, [], ◌∷◌, ◌++◌, take, map, length, get_or, eqb, append-nil, length-take-le, refl, sym, ap, subst, ◌∙◌, inl, inr, arith}
use Rattle.std.proofs.lemmas.List.{take_more}
use Rattle.std.proofs.lemmas.Bool.Decides.{nat_tests}
use Rattle.lnet_gates.specs.declared.signal.Signal.{Signal}
use Rattle.lnet_gates.specs.Gates.{flip, row_of}
use Rattle.lnet_gates.specs.Operands.{read, IsNamedBy}
use Rattle.lnet_gates.specs.LutForms.{AscendsFrom}
use Rattle.lnet_gates.specs.Wiring.{named}
use Rattle.lnet_gates.specs.Wiring.{node_at, ArePlain, AreDistinct, AreOrdered, comes_before}
use Rattle.lnet_gates.specs.Lawful.OperandLemmas.{by_test, untrue, eqb-same, eqb-apart, cond-true, cond-false}

-- ---- the signals that are kept

named-last : (ss : List Signal) (s : Signal) → named (ss ++ s ∷ []) ≡ named ss ++ cond (eqb s.node.0 0) [] (s ∷ [])
named-last [] s = by_test (λ r. r ≡ cond (eqb s.node.0 0) [] (s ∷ [])) (eqb s.node.0 0) [] (s ∷ [])
    (λ h. sym (cond-true (eqb s.node.0 0) [] (s ∷ []) h)) (λ h. sym (cond-false (eqb s.node.0 0) [] (s ∷ []) h))
named-last (t ∷ ss) s =
    by_test (λ r. r ≡ cond (eqb t.node.0 0) (named ss) (t ∷ named ss) ++ cond (eqb s.node.0 0) [] (s ∷ [])) (eqb t.node.0 0) (named (ss ++ s ∷ [])) (t ∷ named (ss ++ s ∷ []))
    (λ h. named-last ss s ∙ ap (λ l. l ++ cond (eqb s.node.0 0) [] (s ∷ [])) (sym (cond-true (eqb t.node.0 0) (named ss) (t ∷ named ss) h)))
    (λ h. ap (λ l. t ∷ l) (named-last ss s) ∙ ap (λ l. l ++ cond (eqb s.node.0 0) [] (s ∷ [])) (sym (cond-false (eqb t.node.0 0) (named ss) (t ∷ named ss) h)))

pub named-few : (ss : List Signal) → length (named ss) ≤ length ss
named-few [] = omega arith
named-few (s ∷ ss) = by_test (λ l. length l ≤ suc (length ss)) (eqb s.node.0 0) (named ss) (s ∷ named ss)
    (λ h. let le : length (named ss) ≤ length ss = named-few ss in omega arith) (λ h. let le : length (named ss) ≤ length ss = named-few ss in omega arith)

named-next : (ss : List Signal) (k : ℕ) (d : Signal) → k < length ss → named (take (k + 1) ss) ≡ named (take k ss) ++ cond (eqb (get_or ss k d).node.0 0) [] (get_or ss k d ∷ [])
named-next ss k d lt = ap named (take_more ss k d lt) ∙ named-last (take k ss) (get_or ss k d)

pub named-kept : (ss : List Signal) (k : ℕ) (d : Signal) (old new : List Signal) → k < length ss → old ≡ named (take k ss) → (get_or ss k d).node.0 ≢ 0 → new ≡ old ++ get_or ss k d ∷ [] → new ≡ named (take (k + 1) ss)
named-kept ss k d old new lt is some made =
    made ∙ ap (λ l. l ++ get_or ss k d ∷ []) is
    ∙ sym (named-next ss k d lt ∙ ap (λ l. named (take k ss) ++ l) (cond-false (eqb (get_or ss k d).node.0 0) [] (get_or ss k d ∷ []) (eqb-apart (get_or ss k d).node.0 0 some)))

pub named-left : (ss : List Signal) (k : ℕ) (d : Signal) (old new : List Signal) → k < length ss → old ≡ named (take k ss) → (get_or ss k d).node.0 ≡ 0 → new ≡ old → new ≡ named (take (k + 1) ss)
named-left ss k d old new lt is none made =
    made ∙ is
    ∙ sym (named-next ss k d lt ∙ ap (λ l. named (take k ss) ++ l) (cond-true (eqb (get_or ss k d).node.0 0) [] (get_or ss k d ∷ []) (ap (λ n. eqb n 0) none)) ∙ append-nil (named (take k ss)))

pub named-room : (ss : List Signal) (k : ℕ) (old : List Signal) → k < length ss → length ss ≡ 6 → old ≡ named (take k ss) → length old < 6
named-room ss k old lt long is =
    let e : length old ≡ length (named (take k ss)) = ap length is in
    let f : length (named (take k ss)) ≤ length (take k ss) = named-few (take k ss) in
    let t : length (take k ss) ≡ k = length-take-le k ss (omega arith) in
    omega arith

-- what holds of each node that is read but node 0, holds of each that is kept
pub kept-nodes : (P : ℕ → Type 0) (ss : List Signal) → ((k : ℕ) → node_at ss k ≢ 0 → P (node_at ss k)) → (n : ℕ) → IsNamedBy n (named ss) → P n
kept-nodes P [] all n h = absurd h
kept-nodes P (s ∷ ss) all n h = by_test (λ l. IsNamedBy n l → P n) (eqb s.node.0 0) (named ss) (s ∷ named ss)
    (λ e. kept-nodes P ss (λ k. all (suc k)) n)
    (λ e. each (kept-nodes P ss (λ k. all (suc k)) n) e) h
  where
    each : (IsNamedBy n (named ss) → P n) → eqb s.node.0 0 ≡ false → (n ≡ s.node.0) ⊎ IsNamedBy n (named ss) → P n
    each rest e (inl is) = subst P (sym is) (all 0 (λ z. untrue (eqb s.node.0 0) (ap (λ k. eqb k 0) z) e))
    each rest e (inr later) = rest later

-- ---- their order

before-later : (m n : ℕ) → comes_before m n ≡ false → m ≢ 0 → n ≢ 0 → m ≢ n → suc n ≤ m
before-later zero n h some other ne = absurd (some refl)
before-later (suc m) zero h some other ne = absurd (other refl)
before-later (suc m) (suc n) h some other ne = grind (arith, nat_tests, ne)

before-none : (m : ℕ) → comes_before m 0 ≡ false → m ≡ 0
before-none zero h = refl
before-none (suc m) h = cc

rest-plain : (s : Signal) (ss : List Signal) → ArePlain (s ∷ ss) → ArePlain ss
rest-plain s ss h = record { plain = λ k. h.plain (suc k) }

rest-distinct : (s : Signal) (ss : List Signal) → AreDistinct (s ∷ ss) → AreDistinct ss
rest-distinct s ss h = record { distinct = λ j k ne. h.distinct (suc j) (suc k) (λ e. ne (omega arith)) }

rest-ordered : (s : Signal) (ss : List Signal) → AreOrdered (s ∷ ss) → AreOrdered ss
rest-ordered s ss h = record { ordered = λ j k lt. h.ordered (suc j) (suc k) (omega arith) }

pub named-ascends : (ss : List Signal) (n : ℕ) → ArePlain ss → AreDistinct ss → AreOrdered ss → ((k : ℕ) → node_at ss k ≢ 0 → n ≤ node_at ss k) → AscendsFrom n (named ss)
named-ascends [] n plain distinct ordered from = tt
named-ascends (s ∷ ss) n plain distinct ordered from = by_test (AscendsFrom n) (eqb s.node.0 0) (named ss) (s ∷ named ss)
    (λ e. named-ascends ss n (rest-plain s ss plain) (rest-distinct s ss distinct) (rest-ordered s ss ordered) (λ k. from (suc k)))
    (λ e. let some : s.node.0 ≢ 0 = λ z. untrue (eqb s.node.0 0) (ap (λ k. eqb k 0) z) e in (
      plain.plain 0,
      from 0 some,
      named-ascends ss (suc s.node.0) (rest-plain s ss plain) (rest-distinct s ss distinct) (rest-ordered s ss ordered)
          (λ k other. before-later (node_at ss k) s.node.0 (ordered.ordered 0 (suc k) (omega arith)) other some (λ z. other (distinct.distinct 0 (suc k) (λ h. absurd (omega arith)) (sym z)))),
    ))

-- ---- their row

all-none : (V : ℕ → Bool) → V 0 ≡ false → (ss : List Signal) → ArePlain ss → ((k : ℕ) → node_at ss k ≡ 0) → row_of (map (read V) ss) ≡ 0
all-none V zero_false [] plain none = refl
all-none V zero_false (s ∷ ss) plain none =
    let rest : row_of (map (read V) ss) ≡ 0 = all-none V zero_false ss (rest-plain s ss plain) (λ k. none (suc k)) in
    let low : cond (read V s) 1 0 ≡ 0 = ap (λ b. cond b 1 0) (ap (λ c. flip c (V s.node.0)) (plain.plain 0) ∙ ap V (none 0) ∙ zero_false) in
    λ i. low i + 2 * rest i

none-named : (ss : List Signal) → ((k : ℕ) → node_at ss k ≡ 0) → named ss ≡ []
none-named [] none = refl
none-named (s ∷ ss) none = cond-true (eqb s.node.0 0) (named ss) (s ∷ named ss) (ap (λ k. eqb k 0) (none 0)) ∙ none-named ss (λ k. none (suc k))

pub named-row : (V : ℕ → Bool) → V 0 ≡ false → (ss : List Signal) → ArePlain ss → AreOrdered ss → row_of (map (read V) ss) ≡ row_of (map (read V) (named ss))
named-row V zero_false [] plain ordered = refl
named-row V zero_false (s ∷ ss) plain ordered = by_test (λ l. row_of (map (read V) (s ∷ ss)) ≡ row_of (map (read V) l)) (eqb s.node.0 0) (named ss) (s ∷ named ss)
    (λ e.
    let zero_first : s.node.0 ≡ 0 = eqb-same s.node.0 0 e in
    let none : (k : ℕ) → node_at (s ∷ ss) k ≡ 0 = λ k. at zero_first k in
    all-none V zero_false (s ∷ ss) plain none ∙ sym (ap (λ l. row_of (map (read V) l)) (none-named ss (λ k. none (suc k)))))
    (λ e. ap (λ q. cond (read V s) 1 0 + 2 * q) (named-row V zero_false ss (rest-plain s ss plain) (rest-ordered s ss ordered)))
  where
    at : s.node.0 ≡ 0 → (k : ℕ) → node_at (s ∷ ss) k ≡ 0
    at e zero = e
    at e (suc k) = before-none (node_at ss k) (ap (comes_before (node_at ss k)) (sym e) ∙ ordered.ordered 0 (suc k) (omega arith))
