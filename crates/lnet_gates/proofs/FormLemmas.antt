-- The forms of reduced tables in order: their values, and what their keys are.
use Rattle.std.proofs.Common.{◌≡◌, ◌≢◌, ℕ, zero, suc, ◌+◌, ◌*◌, ◌^◌, ◌<◌, ◌≤◌, Bool, true, false, not, cond, List, [], ◌∷◌, map, length, get_or, eqb, nat_eq, bit_and, pow_pos, refl, sym, ap, subst, ◌∙◌, inl, arith}
use mathlib.Core.Bool.{beq}
use Rattle.std.proofs.lemmas.List.{length-map}
use Rattle.lnet_tables.specs.Bits.{is_set, bit_of}
use Rattle.lnet_tables.specs.Inverse.{bit_of_set}
use Rattle.lnet_tables.proofs.Constants.{test_bit}
use Rattle.lnet_gates.specs.declared.signal.Signal.{Signal}
use Rattle.lnet_gates.specs.declared.wiring.Wired.{Wired}
use Rattle.lnet_gates.specs.declared.gate.Op.{Op}
use Rattle.lnet_gates.specs.declared.gate.Op.TheVariants.{Lut}
use Rattle.lnet_gates.specs.Gates.{GateValue, KeyValue, flip, row_of, operate}
use Rattle.lnet_gates.specs.Operands.{constant, flipped, read, IsNamedBy}
use Rattle.lnet_gates.specs.NormalLaws.{keyed_gate, gate_reading}
use Rattle.lnet_gates.specs.LutForms.{AscendsFrom, IsTableKey, grounded, put, changes_with, function_of, bound_of}
use Rattle.lnet_gates.specs.Wiring.{named}
use Rattle.lnet_gates.specs.Wiring.{node_at, computes, ArePlain, AreNeeded, IsReduced, AreOrdered}
use Rattle.lnet_gates.specs.Lawful.OperandLemmas.{flip-comm, flip-flip}
use Rattle.lnet_gates.specs.Lawful.NodeFunctions.{Ignores, flip-self, not-false, ignores}
use Rattle.lnet_gates.specs.Lawful.LutTables.{row-below, flip-twice}
use Rattle.lnet_gates.specs.Lawful.LutLaws.{reads-gate}
use Rattle.lnet_gates.proofs.GateComputed.{is-bit, row-of-signals}
use Rattle.lnet_gates.proofs.NamedSignals.{kept-nodes, named-ascends, named-row}

-- ---- the value and the parts of the forms

pub carried-phase : (p x : Bool) → not (beq p x) ≡ flip p x
carried-phase true true = refl
carried-phase true false = refl
carried-phase false true = refl
carried-phase false false = refl

pub first-bit : (t : ℕ) → nat_eq (bit_and t 1) 1 ≡ is_set t 0
first-bit t = ap (λ x. nat_eq (bit_and x 1) 1) (omega arith) ∙ test_bit t 0

module _ (w : Wired) (reduced : IsReduced w) (ordered : AreOrdered w.operands) (long : length w.operands ≡ 6) (p first : Bool) (first_is : first ≡ is_set w.table 0) where
  plains : ArePlain w.operands
  plains = reduced.plain

  needs : AreNeeded w
  needs = reduced.needed

  -- the value by the row of the signals that are kept
  pub by-named : (V : ℕ → Bool) → V 0 ≡ false → computes V w ≡ is_set w.table (row_of (map (read V) (named w.operands)))
  by-named V zero_false = ap (is_set w.table) (row-of-signals V zero_false w.operands 6 (omega arith) ∙ named-row V zero_false w.operands plains ordered)

  -- no signal is kept
  pub none-value : named w.operands ≡ [] → (V : ℕ → Bool) → V 0 ≡ false → read V (constant (not (beq p first))) ≡ flip p (computes V w)
  none-value none V zero_false =
      ap (flip (not (beq p first))) zero_false ∙ flip-comm (not (beq p first)) false
      ∙ carried-phase p first
      ∙ ap (flip p) (first_is ∙ sym (by-named V zero_false ∙ ap (λ l. is_set w.table (row_of (map (read V) l))) none))

  -- one signal is kept
  one-row : (s : Signal) → named w.operands ≡ s ∷ [] → s.complement ≡ false → (V : ℕ → Bool) → V 0 ≡ false → computes V w ≡ is_set w.table (cond (V s.node.0) 1 0 + 2 * 0)
  one-row s one plain V zero_false = by-named V zero_false ∙ ap (λ l. is_set w.table (row_of (map (read V) l))) one ∙ ap (λ c. is_set w.table (cond (flip c (V s.node.0)) 1 0 + 2 * 0)) plain

  one-differs : (s : Signal) → named w.operands ≡ s ∷ [] → s.complement ≡ false → is_set w.table 1 ≡ is_set w.table 0 → ⊥
  one-differs s one plain same = kept-nodes (λ n. Ignores (λ V. computes (grounded V) w) n → ⊥) w.operands needs.needed s.node.0 (subst (IsNamedBy s.node.0) (sym one) (inl refl)) (λ V b.
      any (put V s.node.0 b) ∙ sym (any V))
    where
      at : (b : Bool) → is_set w.table (cond b 1 0 + 2 * 0) ≡ is_set w.table 0
      at true = same
      at false = refl

      any : (V : ℕ → Bool) → computes (grounded V) w ≡ is_set w.table 0
      any V = one-row s one plain (grounded V) refl ∙ at (grounded V s.node.0)

  other-row : (x y : Bool) → (x ≡ y → ⊥) → x ≡ flip y true
  other-row true true ne = absurd (ne refl)
  other-row true false ne = refl
  other-row false true ne = refl
  other-row false false ne = absurd (ne refl)

  pub one-value : (s : Signal) → named w.operands ≡ s ∷ [] → (V : ℕ → Bool) → V 0 ≡ false → read V (flipped (not (beq p first)) s) ≡ flip p (computes V w)
  one-value s one V zero_false =
      ap (λ c. flip (flip (not (beq p first)) c) (V s.node.0)) plain
      ∙ ap (λ c. flip c (V s.node.0)) (flip-comm (not (beq p first)) false ∙ carried-phase p first)
      ∙ flip-flip p first (V s.node.0)
      ∙ ap (flip p) (ap (λ x. flip x (V s.node.0)) first_is ∙ each (V s.node.0) ∙ sym (one-row s one plain V zero_false))
    where
      plain : s.complement ≡ false
      plain = (subst (AscendsFrom 0) one (named-ascends w.operands 0 plains reduced.distinct ordered (λ k some. omega arith))).0

      each : (b : Bool) → flip (is_set w.table 0) b ≡ is_set w.table (cond b 1 0 + 2 * 0)
      each true = sym (other-row (is_set w.table 1) (is_set w.table 0) (one-differs s one plain))
      each false = flip-comm (is_set w.table 0) false

  -- two signals or more are kept
  module _ (k : KeyValue) (t : ℕ) (op_is : k.op ≡ Lut t) (fanins_are : k.fanins ≡ named w.operands)
      (rows : (r : ℕ) → r < 2 ^ length k.fanins → is_set t r ≡ flip first (is_set w.table r)) where
    pub key-value : (V : ℕ → Bool) → V 0 ≡ false → gate_reading V (keyed_gate k (not (beq p first))) ≡ flip p (computes V w)
    key-value V zero_false =
        ap (λ (o : Op). flip (not (beq p first)) (operate o (map (read V) k.fanins))) op_is
        ∙ (λ i. flip (carried-phase p first i) (sym (is-bit t (row_of (map (read V) k.fanins))) i))
        ∙ ap (flip (flip p first)) (rows (row_of (map (read V) k.fanins)) (subst (λ n. row_of (map (read V) k.fanins) < 2 ^ n) (length-map k.fanins (read V)) (row-below (map (read V) k.fanins))))
        ∙ flip-flip p first (flip first (is_set w.table (row_of (map (read V) k.fanins))))
        ∙ ap (flip p) (flip-twice first (is_set w.table (row_of (map (read V) k.fanins)))
        ∙ ap (λ l. is_set w.table (row_of (map (read V) l))) fanins_are ∙ sym (by-named V zero_false))

    abbrev own : GateValue
    own = keyed_gate k (not (beq p first))

    cancel : (c x y : Bool) → flip c x ≡ flip c y → x ≡ y
    cancel c x y h = sym (flip-twice c x) ∙ ap (flip c) h ∙ flip-twice c y

    pub key-proper : t < 2 ^ 2 ^ length k.fanins → 2 ≤ length k.fanins → IsTableKey k (not (beq p first))
    key-proper clear two = record {
      table = t;
      op_is = op_is;
      row_zero = sym (bit_of_set t 0) ∙ ap bit_of (rows 0 (pow_pos (length k.fanins)) ∙ ap (flip first) (sym first_is) ∙ flip-self first);
      clear = clear;
      two = two;
      operands = subst (AscendsFrom 1) (sym fanins_are) (named-ascends w.operands 1 plains reduced.distinct ordered (λ j some. positive (node_at w.operands j) some));
      needed = λ n named_by. not-false (changes_with (function_of own) (bound_of k.fanins) n) (λ none.
          kept-nodes (λ m. Ignores (λ V. computes (grounded V) w) m → ⊥) w.operands needs.needed n (subst (IsNamedBy n) fanins_are named_by)
          (λ V b. cancel p (computes (grounded (put V n b)) w) (computes (grounded V) w)
          (sym (key-value (grounded (put V n b)) refl) ∙ ignores (function_of own) (bound_of k.fanins) n (reads-gate own) none V b ∙ key-value (grounded V) refl)));
    }
      where
        positive : (m : ℕ) → m ≢ 0 → 1 ≤ m
        positive zero h = absurd (h refl)
        positive (suc m) h = omega arith

-- ---- lists of no signal and of one

pub list-none : (ss : List Signal) → length ss ≡ 0 → ss ≡ []
list-none [] h = refl
list-none (s ∷ ss) h = absurd (omega arith)

pub list-one : (ss : List Signal) (d : Signal) → length ss ≡ 1 → ss ≡ get_or ss 0 d ∷ []
list-one [] d h = absurd (omega arith)
list-one (s ∷ ss) d h = ap (λ l. s ∷ l) (list-none ss (omega arith))

pub two-more : (n m : ℕ) → eqb n 0 ≡ false → m ≡ n → m ≢ 1 → 2 ≤ n
two-more zero m h e one = cc
two-more (suc zero) m h e one = absurd (one e)
two-more (suc (suc n)) m h e one = omega arith
