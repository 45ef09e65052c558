-- The repair of kept answers after an event at one number: in the order of the levels before the event.
-- Source: event-driven evaluation of levelised circuits, as in selective-trace simulation.
use Rattle.std.specs.Prelude.{◌≡◌, ◌≢◌, ℕ, ◌<◌, ◌≤◌, Bool, true, false, cond, ◌&&◌, List, map, eqb}
use Rattle.lnet_gates.specs.declared.signal.Signal.{Signal}
use Rattle.lnet_model.specs.Networks.{Entry, NetworkValue, entry_at, fanins_of}
use Rattle.lnet_model.specs.Along.{once, over, In, nodes_read}
use Rattle.lnet_model.specs.Levels.{level, level_step}
use Rattle.lnet_model.specs.Fanouts.{IsParent}

-- V with a at n
abbrev pub put : {A : Type 0} → (ℕ → A) → ℕ → A → ℕ → A
put V n a q = cond (eqb q n) a (V q)

-- M and N have the same at each number but k
abbrev pub SameBut : NetworkValue → NetworkValue → ℕ → Type 0
SameBut M N k = (n : ℕ) → n ≢ k → entry_at M n ≡ entry_at N n

-- a test of sameness that is an equivalence, and that a step keeps
pub record IsLawful {A : Type 0} (eq : A → A → Bool) (step : ℕ → Entry → List (Signal × A) → A) : Type 0 where
  pub same : (a : A) → eq a a ≡ true
  pub turned : (a b : A) → eq a b ≡ true → eq b a ≡ true
  pub joined : (a b c : A) → eq a b ≡ true → eq b c ≡ true → eq a c ≡ true
  pub steps : (n : ℕ) (e : Entry) (V W : ℕ → A) → ((m : ℕ) → In m (nodes_read (fanins_of e)) → eq (V m) (W m) ≡ true) → eq (step n e (map {B = Signal × A} (λ s. (s, V s.node.0)) (fanins_of e))) (step n e (map {B = Signal × A} (λ s. (s, W s.node.0)) (fanins_of e))) ≡ true

-- V has what the definitions give, up to the test
abbrev pub IsFromScratch : {A : Type 0} → (A → A → Bool) → NetworkValue → (ℕ → Entry → List (Signal × A) → A) → A → (ℕ → A) → Type 0
IsFromScratch eq N step none V = (n : ℕ) → eq (V n) (over N step none n) ≡ true

-- answers V under repair after an event at k made N; `old` are the answers before, `height` the levels before, and W marks
-- the numbers that wait
pub record IsRepairing {A : Type 0} (eq : A → A → Bool) (N : NetworkValue) (k : ℕ) (step : ℕ → Entry → List (Signal × A) → A) (none : A) (height : ℕ → ℕ) (old V : ℕ → A) (W : ℕ → Bool) : Type 0 where
  -- what doesn't wait agrees with its fanins
  pub settled : (n : ℕ) → W n ≡ false → eq (V n) (once (entry_at N) step none V n) ≡ true
  -- what waits has its old answer
  pub fresh : (n : ℕ) → W n ≡ true → V n ≡ old n
  -- and so has all that stood higher than it
  pub later : (x n : ℕ) → W n ≡ true → height n < height x → V x ≡ old x
  -- what waits is k, or above it in N
  pub above : (n : ℕ) → W n ≡ true → level N k ≤ level N n

-- n waits, and nothing that waits stood lower
pub record IsNext (height : ℕ → ℕ) (W : ℕ → Bool) (n : ℕ) : Type 0 where
  pub waits : W n ≡ true
  pub least : (m : ℕ) → W m ≡ true → height n ≤ height m

-- what waits after n was taken: what waited but n, and n's parents where its answer changed
pub record IsTaken (N : NetworkValue) (n : ℕ) (same : Bool) (W W2 : ℕ → Bool) : Type 0 where
  pub taken : W2 n ≡ false
  pub stays : (m : ℕ) → m ≢ n → W m ≡ true → W2 m ≡ true
  pub parents : same ≡ false → (p : ℕ) → IsParent N n p → W2 p ≡ true
  pub only : (m : ℕ) → W2 m ≡ true → W m ≡ false → IsParent N n m

-- n was taken: V2 differs from V at n alone, and there has what n's fanins give
pub record IsSettled {A : Type 0} (eq : A → A → Bool) (N : NetworkValue) (n : ℕ) (step : ℕ → Entry → List (Signal × A) → A) (none : A) (V V2 : ℕ → A) (W W2 : ℕ → Bool) : Type 0 where
  pub each : (q : ℕ) → q ≢ n → V2 q ≡ V q
  pub is : eq (V2 n) (once (entry_at N) step none V n) ≡ true
  pub taken : IsTaken N n (eq (V2 n) (V n)) W W2

-- ---- a value and a level together

abbrev pub pair_step : {V : Type 0} → (ℕ → Entry → List (Signal × V) → V) → ℕ → Entry → List (Signal × (V × ℕ)) → V × ℕ
pair_step {V} step n e rs = (step n e (map {B = Signal × V} (λ r. (r.0, r.1.0)) rs), level_step n e (map {B = Signal × ℕ} (λ r. (r.0, r.1.1)) rs))

abbrev pub pair_eq : {V : Type 0} → (V → V → Bool) → V × ℕ → V × ℕ → Bool
pair_eq eq a b = eq a.0 b.0 && eqb a.1 b.1
