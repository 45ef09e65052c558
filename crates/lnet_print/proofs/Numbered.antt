-- Texts and counts that are made number by number.
use Rattle.std.proofs.Common.{◌≡◌, ℕ, suc, ◌+◌, ◌-◌, ◌<◌, ◌≤◌, cond, List, [], ◌∷◌, ◌++◌, length, map, count_by, Option, None, Some, IsSome, refl, sym, ap, ◌∙◌, arith}
use Rattle.std.proofs.lemmas.List.Sums.{sum_by-cons}
use Rattle.std.specs.List.{flat_map}
use Rattle.std.specs.FinMap.{entries}
use Rattle.lnet_model.specs.Networks.{NetworkValue, Entry, Constant, Input, IsGate, entry_at, gate_at, gate_in, gate_count, is_gate}
use Rattle.lnet_model.specs.Along.{at_entry}
use Rattle.lnet_model.specs.Dags.{numbers_of}
use Rattle.lnet_model.proofs.Numbers.{live-below-numbers}
use Rattle.lnet_model.proofs.Rising.{by_number, entries-by_number}
use Rattle.lnet_print.specs.Printed.{node_line, node_lines, line_at}

line-is : (n : ℕ) (o : Option Entry) → at_entry [] (node_line n) o ≡ line_at n o
line-is n None = refl
line-is n (Some e) = refl

-- the lines of the numbers from n on
unfoldable pub lines_from : NetworkValue → ℕ → List ℕ
lines_from N n = by_number (entry_at N) node_line n (numbers_of N - n)

pub lines-all : (N : NetworkValue) → lines_from N 0 ≡ node_lines N
unfolding lines_from node_lines entry_at
lines-all N = let e : numbers_of N - 0 ≡ numbers_of N = omega arith in
    ap (by_number (entry_at N) node_line 0) e ∙ sym (entries-by_number node_line N.nodes (numbers_of N) (live-below-numbers N))

pub lines-next : (N : NetworkValue) (n : ℕ) → n < numbers_of N → lines_from N n ≡ line_at n (entry_at N n) ++ lines_from N (n + 1)
unfolding lines_from
lines-next N n lt =
    let more : numbers_of N - n ≡ suc (numbers_of N - (n + 1)) = omega arith in
    let next : suc n ≡ n + 1 = omega arith in
    ap (by_number (entry_at N) node_line n) more ∙ ap (λ t. t ++ by_number (entry_at N) node_line (suc n) (numbers_of N - (n + 1))) (line-is n (entry_at N n)) ∙ ap (λ m. line_at n (entry_at N n) ++ by_number (entry_at N) node_line m (numbers_of N - (n + 1))) next

pub lines-end : (N : NetworkValue) (n : ℕ) → numbers_of N ≤ n → lines_from N n ≡ []
unfolding lines_from
lines-end N n le = let e : numbers_of N - n ≡ 0 = omega arith in ap (by_number (entry_at N) node_line n) e

-- ---- gates

-- one for a gate
abbrev pub tally : ℕ → Entry → List ℕ
tally n Constant = []
tally n (Input k) = []
tally n (IsGate g) = n ∷ []

one-more : (x : Entry) (xs : List Entry) → count_by is_gate (x ∷ xs) ≡ cond (is_gate x) 1 0 + count_by is_gate xs
one-more x xs = sum_by-cons (λ y. cond (is_gate y) 1 0) x xs

tallied-one : (n : ℕ) (x : Entry) (c : ℕ) (rest : List ℕ) → c ≡ length rest → cond (is_gate x) 1 0 + c ≡ length (tally n x ++ rest)
tallied-one n Constant c rest e = omega arith
tallied-one n (Input k) c rest e = omega arith
tallied-one n (IsGate g) c rest e = omega arith

tallied : (es : List (ℕ × Entry)) → count_by is_gate (map (λ e. e.1) es) ≡ length (flat_map (λ e. tally e.0 e.1) es)
tallied [] = refl
tallied (e ∷ es) = one-more e.1 (map (λ x. x.1) es) ∙ tallied-one e.0 e.1 (count_by is_gate (map (λ x. x.1) es)) (flat_map (λ x. tally x.0 x.1) es) (tallied es)

-- how many of the numbers from n on are gates
unfoldable pub gates_from : NetworkValue → ℕ → ℕ
gates_from N n = length (by_number (entry_at N) tally n (numbers_of N - n))

pub gates-all : (N : NetworkValue) → gates_from N 0 ≡ gate_count N
unfolding gates_from gate_count entry_at
gates-all N = let e : numbers_of N - 0 ≡ numbers_of N = omega arith in
    ap (λ k. length (by_number (entry_at N) tally 0 k)) e ∙ ap length (sym (entries-by_number tally N.nodes (numbers_of N) (live-below-numbers N))) ∙ sym (tallied (entries N.nodes))

tally-some : (n : ℕ) (o : Option Entry) (rest : List ℕ) → IsSome (gate_in o) → length (at_entry [] (tally n) o ++ rest) ≡ length rest + 1
tally-some n None rest h = cc
tally-some n (Some Constant) rest h = cc
tally-some n (Some (Input k)) rest h = cc
tally-some n (Some (IsGate g)) rest h = omega arith

tally-none : (n : ℕ) (o : Option Entry) (rest : List ℕ) → gate_in o ≡ None → length (at_entry [] (tally n) o ++ rest) ≡ length rest
tally-none n None rest h = refl
tally-none n (Some Constant) rest h = refl
tally-none n (Some (Input k)) rest h = refl
tally-none n (Some (IsGate g)) rest h = cc

step : (N : NetworkValue) (n : ℕ) → n < numbers_of N → gates_from N n ≡ length (at_entry [] (tally n) (entry_at N n) ++ by_number (entry_at N) tally (n + 1) (numbers_of N - (n + 1)))
unfolding gates_from
step N n lt =
    let more : numbers_of N - n ≡ suc (numbers_of N - (n + 1)) = omega arith in
    let next : suc n ≡ n + 1 = omega arith in
    ap (λ k. length (by_number (entry_at N) tally n k)) more ∙ ap (λ m. length (at_entry [] (tally n) (entry_at N n) ++ by_number (entry_at N) tally m (numbers_of N - (n + 1)))) next

pub gates-one : (N : NetworkValue) (n : ℕ) → n < numbers_of N → IsSome (gate_at N n) → gates_from N n ≡ gates_from N (n + 1) + 1
unfolding gates_from
gates-one N n lt some = step N n lt ∙ tally-some n (entry_at N n) (by_number (entry_at N) tally (n + 1) (numbers_of N - (n + 1))) some

pub gates-none : (N : NetworkValue) (n : ℕ) → n < numbers_of N → gate_at N n ≡ None → gates_from N n ≡ gates_from N (n + 1)
unfolding gates_from
gates-none N n lt none = step N n lt ∙ tally-none n (entry_at N n) (by_number (entry_at N) tally (n + 1) (numbers_of N - (n + 1))) none

pub gates-end : (N : NetworkValue) (n : ℕ) → numbers_of N ≤ n → gates_from N n ≡ 0
unfolding gates_from
gates-end N n le = let e : numbers_of N - n ≡ 0 = omega arith in ap (λ k. length (by_number (entry_at N) tally n k)) e
