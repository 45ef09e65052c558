-- Answers by a rule: what the rule makes of each node from scratch, beside the node's level; when kept answers are in step
-- with a network, and how often the network may be read to bring them in step.
use Rattle.std.specs.Prelude.{◌≡◌, ℕ, Bool, true, not, ◌&&◌, ◌||◌, List, eqb, is_some, Option, None, Some}
use Rattle.lnet_gates.specs.declared.signal.Signal.{Signal}
use Rattle.lnet_gates.specs.Gates.{GateValue}
use Rattle.lnet_model.specs.Networks.{Entry, Constant, Input, IsGate, NetworkValue, entry_at, IsLive}
use Rattle.lnet_model.specs.Along.{over}
use Rattle.lnet_model.specs.Levels.{level}
use Rattle.lnet_model.specs.Changes.{was}
use Rattle.lnet_model.specs.Visits.{reads_of}
use Rattle.lnet_model.specs.declared.event.Event.{Event}

-- the answer for the constant and an input by the first, and for a gate by the second of its fanins' answers
abbrev pub rule_step : {V : Type 0} → (ℕ → V) → (ℕ → GateValue → List (Signal × V) → V) → ℕ → Entry → List (Signal × V) → V
rule_step first gives n Constant rs = first n
rule_step first gives n (Input k) rs = first n
rule_step first gives n (IsGate g) rs = gives n g rs

-- the value that the rule gives node n of N from scratch
abbrev pub made : {V : Type 0} → (ℕ → V) → (ℕ → GateValue → List (Signal × V) → V) → NetworkValue → ℕ → V
made first gives N n = over N (rule_step first gives) (first 0) n

-- each live node has a value that is the rule's up to the test, and its level; no other number has an answer
pub record IsInStep {V : Type 0} (eq : V → V → Bool) (first : ℕ → V) (gives : ℕ → GateValue → List (Signal × V) → V) (kept : ℕ → Option (V × ℕ)) (N : NetworkValue) : Type 0 where
  pub live : (n : ℕ) → IsLive N n → (a : V × ℕ) × (kept n ≡ Some a) × (eq a.0 (made first gives N n) ≡ true) × (a.1 ≡ level N n)
  pub dead : (n : ℕ) → entry_at N n ≡ None → kept n ≡ None

-- whether x was live before the event, too, and its level or the rule's value for it has changed
abbrev pub is_other : {V : Type 0} → (V → V → Bool) → (ℕ → V) → (ℕ → GateValue → List (Signal × V) → V) → Event → NetworkValue → ℕ → Bool
is_other eq first gives e N x = is_some (entry_at (was e N) x) && (not (eqb (level (was e N) x) (level N x)) || not (eq (made first gives (was e N) x) (made first gives N x)))

-- the bound on the reads at the event that made N
unfoldable pub rule_bound : {V : Type 0} → (V → V → Bool) → (ℕ → V) → (ℕ → GateValue → List (Signal × V) → V) → Event → NetworkValue → ℕ
rule_bound eq first gives e N = reads_of N (is_other eq first gives e N)
