-- Look-up tables: their normal forms keep values, names, themselves and replacement.
use Rattle.std.proofs.Common.{◌≡◌, ◌≢◌, ℕ, zero, suc, ◌+◌, ◌^◌, ◌<◌, ◌≤◌, Bool, true, false, cond, not, ◌&&◌, ◌⊎◌, List, [], ◌∷◌, map, length, eqb, refl, sym, ap, subst, ◌∙◌, inl, inr, pow_mono, lt_of_lt_of_le, length-append, arith}
use Rattle.std.proofs.lemmas.List.{length-map}
use Rattle.lnet_tables.proofs.RowNumbers.{number_below}
use Rattle.lnet_gates.specs.declared.signal.Signal.{Signal}
use Rattle.lnet_gates.specs.declared.gate.Op.{Op}
use Rattle.lnet_gates.specs.declared.gate.Op.TheVariants.{And, Xor, Maj, Lut}
use Rattle.lnet_gates.specs.declared.normal.Normal.{Normal}
use Rattle.lnet_gates.specs.declared.normal.Normal.TheVariants.{Is, Gate}
use Rattle.lnet_gates.specs.Gates.{GateValue, KeyValue, flip, operate}
use Rattle.lnet_gates.specs.Operands.{constant, read, moved, IsNamedBy}
use Rattle.lnet_gates.specs.NormalForms.{carried}
use Rattle.lnet_gates.specs.NormalLaws.{NormalLaws, NamesOnly, IsNativeForm, form_reading, gate_reading, formed_again, keyed_gate, replaced_in, rephased}
use Rattle.lnet_gates.specs.LutForms.{HasCount, IsLutGate, grounded, put, changes_with, passing, support, assigned, lowest_bits, all_false, signal_of, form_over, function_form, function_of, bound_of, normal_lut}
use Rattle.lnet_gates.specs.Lawful.OperandLemmas.{by_test, untrue, eqb-self, eqb-apart, flip-flip, read-flipped}
use Rattle.lnet_gates.specs.Lawful.FormLaws.{in_place, moved-in_place}
use Rattle.lnet_gates.specs.Lawful.NodeFunctions.{ReadsBelow, IsIn, by_node, put-other, unchanged, in-passes, passing-none}
use Rattle.lnet_gates.specs.Lawful.LutTables.{form-value, form-bound, literal-form, form-flipped}

-- ---- the nodes that a gate reads

pub grounded-same : (V W : ℕ → Bool) (n : ℕ) → V n ≡ W n → grounded V n ≡ grounded W n
grounded-same V W zero h = refl
grounded-same V W (suc n) h = h

grounded-is : (V : ℕ → Bool) → V 0 ≡ false → grounded V ≡ V
grounded-is V h = λ i. λ n. at n i
  where
    at : (n : ℕ) → grounded V n ≡ V n
    at zero = sym h
    at (suc n) = refl

pub read-same : (V W : ℕ → Bool) (ss : List Signal) → ((n : ℕ) → n < bound_of ss → V n ≡ W n) → map (read (grounded V)) ss ≡ map (read (grounded W)) ss
read-same V W [] h = refl
read-same V W (s ∷ ss) h = λ i. flip s.complement (grounded-same V W s.node.0 (h s.node.0 (omega arith)) i) ∷ read-same V W ss (λ n below. h n (omega arith)) i

pub reads-gate : (g : GateValue) → ReadsBelow (function_of g) (bound_of g.fanins)
reads-gate g V W h = ap (λ bs. flip g.phase (operate g.op bs)) (read-same V W g.fanins h)

-- a node is named by the signals, or they read the same without it
named-or-not : (n : ℕ) (ss : List Signal) → IsNamedBy n ss ⊎ ((V : ℕ → Bool) (b : Bool) → map (read (grounded (put V n b))) ss ≡ map (read (grounded V)) ss)
named-or-not n [] = inr (λ V b. refl)
named-or-not n (s ∷ ss) = by_node n s.node.0 (λ e. inl (inl e)) (λ ne. later ne (named-or-not n ss))
  where
    later : n ≢ s.node.0 → IsNamedBy n ss ⊎ ((V : ℕ → Bool) (b : Bool) → map (read (grounded (put V n b))) ss ≡ map (read (grounded V)) ss)
        → IsNamedBy n (s ∷ ss) ⊎ ((V : ℕ → Bool) (b : Bool) → map (read (grounded (put V n b))) (s ∷ ss) ≡ map (read (grounded V)) (s ∷ ss))
    later ne (inl h) = inl (inr h)
    later ne (inr same) = inr (λ V b i. flip s.complement (grounded-same (put V n b) V s.node.0 (put-other V n b s.node.0 (λ e. ne (sym e))) i) ∷ same V b i)

pub changing-named : (g : GateValue) (n : ℕ) → changes_with (function_of g) (bound_of g.fanins) n ≡ true → IsNamedBy n g.fanins
changing-named g n h = elim (named-or-not n g.fanins) as (λ _. IsNamedBy n g.fanins) [
  | inl named ↦ named
  | inr same ↦ untrue (changes_with (function_of g) (bound_of g.fanins) n) h
      (unchanged (function_of g) (bound_of g.fanins) n (λ V b. ap (λ bs. flip g.phase (operate g.op bs)) (same V b)))
]

support-named : (g : GateValue) (n : ℕ) → IsIn n (support (function_of g) (bound_of g.fanins)) → IsNamedBy n g.fanins
support-named g n h = changing-named g n (in-passes (changes_with (function_of g) (bound_of g.fanins)) (bound_of g.fanins) n h)

pub named-signals : (n : ℕ) (ns : List ℕ) → IsNamedBy n (map (signal_of false) ns) → IsIn n ns
named-signals n [] h = h
named-signals n (m ∷ ns) (inl e) = inl e
named-signals n (m ∷ ns) (inr h) = inr (named-signals n ns h)

names-over : (ss : List Signal) (f : (ℕ → Bool) → Bool) (ns : List ℕ) → ((n : ℕ) → IsIn n ns → IsNamedBy n ss) → NamesOnly ss (form_over f ns)
names-over ss f [] h = inr refl
names-over ss f (n ∷ []) h = inl (h n (inl refl))
names-over ss f (n ∷ m ∷ ns) h = λ k named. inl (h k (named-signals k (n ∷ m ∷ ns) named))

names : (g : GateValue) → IsLutGate g → NamesOnly g.fanins (normal_lut g)
names g of = names-over g.fanins (function_of g) (support (function_of g) (bound_of g.fanins)) (support-named g)

-- ---- how many nodes there are

abbrev without : (ℕ → Bool) → ℕ → ℕ → Bool
without p m n = p n && not (eqb n m)

kept : (p : ℕ → Bool) (m n : ℕ) → n ≢ m → without p m n ≡ p n
kept p m n ne = (λ i. p n && not (eqb-apart n m ne i)) ∙ and-true (p n)
  where
    and-true : (b : Bool) → b && true ≡ b
    and-true true = refl
    and-true false = refl

length-next : (p : ℕ → Bool) (n : ℕ) → length (passing p (suc n)) ≡ length (passing p n) + cond (p n) 1 0
length-next p n = length-append (passing p n) (cond (p n) (n ∷ []) []) ∙ ap (λ k. length (passing p n) + k) (by_test (λ r. length r ≡ cond (p n) 1 0) (p n) (n ∷ []) [] (λ h. sym (ap (λ b. cond b 1 0) h)) (λ h. sym (ap (λ b. cond b 1 0) h)))

bit-most : (b c : Bool) (x y : ℕ) → x ≤ y → x + cond b 1 0 ≤ suc (y + cond c 1 0)
bit-most true c x y h = bit c
  where
    bit : (c : Bool) → x + 1 ≤ suc (y + cond c 1 0)
    bit true = omega arith
    bit false = omega arith
bit-most false c x y h = bit c
  where
    bit : (c : Bool) → x + 0 ≤ suc (y + cond c 1 0)
    bit true = omega arith
    bit false = omega arith

until : (p : ℕ → Bool) (m b : ℕ) → b ≤ m → length (passing p b) ≤ length (passing (without p m) b)
until p m zero h = omega arith
until p m (suc n) h =
    let e : length (passing p (suc n)) ≡ length (passing p n) + cond (p n) 1 0 = length-next p n in
    let w : length (passing (without p m) (suc n)) ≡ length (passing (without p m) n) + cond (p n) 1 0 = length-next (without p m) n ∙ ap (λ b. length (passing (without p m) n) + cond b 1 0) (kept p m n (λ q. absurd (omega arith))) in
    let r : length (passing p n) ≤ length (passing (without p m) n) = until p m n (omega arith) in
    omega arith

one-fewer : (p : ℕ → Bool) (m b : ℕ) → length (passing p b) ≤ suc (length (passing (without p m) b))
one-fewer p m zero = omega arith
one-fewer p m (suc n) =
    let e : length (passing p (suc n)) ≡ length (passing p n) + cond (p n) 1 0 = length-next p n in
    let w : length (passing (without p m) (suc n)) ≡ length (passing (without p m) n) + cond (without p m n) 1 0 = length-next (without p m) n in
    by_node n m
    (λ q. let r : length (passing p n) ≤ length (passing (without p m) n) = until p m n (omega arith) in
    let s : length (passing p n) + cond (p n) 1 0 ≤ suc (length (passing (without p m) n) + cond (without p m n) 1 0) = bit-most (p n) (without p m n) (length (passing p n)) (length (passing (without p m) n)) r in
    omega arith)
    (λ ne. let r : length (passing p n) ≤ suc (length (passing (without p m) n)) = one-fewer p m n in
    let s : length (passing (without p m) n) + cond (without p m n) 1 0 ≡ length (passing (without p m) n) + cond (p n) 1 0 = ap (λ b. length (passing (without p m) n) + cond b 1 0) (kept p m n ne) in
    omega arith)

-- there are no more numbers that pass than signals that name them
few-pass : (ss : List Signal) (p : ℕ → Bool) (b : ℕ) → ((n : ℕ) → p n ≡ true → IsNamedBy n ss) → length (passing p b) ≤ length ss
few-pass [] p b h = let e : length (passing p b) ≡ 0 = ap length (passing-none p b (λ n _. none n (p n) refl)) in omega arith
  where
    none : (n : ℕ) (v : Bool) → p n ≡ v → p n ≡ false
    none n true q = absurd (h n q)
    none n false q = q
few-pass (s ∷ ss) p b h =
    let r : length (passing p b) ≤ suc (length (passing (without p s.node.0) b)) = one-fewer p s.node.0 b in
    let t : length (passing (without p s.node.0) b) ≤ length ss = few-pass ss (without p s.node.0) b named in
    omega arith
  where
    parts : (v w : Bool) → (v && not w) ≡ true → (v ≡ true) × (w ≡ false)
    parts true true q = cc
    parts true false q = (refl, refl)
    parts false w q = cc

    rest : (n : ℕ) → (n ≡ s.node.0) ⊎ IsNamedBy n ss → eqb n s.node.0 ≡ false → IsNamedBy n ss
    rest n (inl e) k = untrue (eqb n s.node.0) (ap (λ x. eqb x s.node.0) e ∙ eqb-self s.node.0) k
    rest n (inr named) k = named

    named : (n : ℕ) → without p s.node.0 n ≡ true → IsNamedBy n ss
    named n q = let d : (p n ≡ true) × (eqb n s.node.0 ≡ false) = parts (p n) (eqb n s.node.0) q in rest n (h n d.0) d.1

pub six : (op : Op) (n : ℕ) → HasCount op n → n ≤ 6
six And n h = omega arith
six Xor n h = omega arith
six Maj n h = omega arith
six (Lut t) n h = h.0

sixty_four : (k : ℕ) → k ≤ 6 → 2 ^ 2 ^ k ≤ 2 ^ 64
sixty_four k h = pow_mono (pow_mono h)

native-over : (f : (ℕ → Bool) → Bool) (ns : List ℕ) → length ns ≤ 6 → IsNativeForm IsLutGate (form_over f ns)
native-over f [] h = tt
native-over f (n ∷ []) h = tt
native-over f (n ∷ m ∷ ns) h = (
  subst (λ k. k ≤ 6) (sym (length-map (n ∷ m ∷ ns) (signal_of false))) h,
  lt_of_lt_of_le (number_below rows (2 ^ length (n ∷ m ∷ ns))) (sixty_four (length (n ∷ m ∷ ns)) h),
)
  where
    rows : ℕ → Bool
    rows r = flip (f all_false) (f (assigned (n ∷ m ∷ ns) (lowest_bits (length (n ∷ m ∷ ns)) r)))

native : (g : GateValue) → IsLutGate g → IsNativeForm IsLutGate (normal_lut g)
native g of = native-over (function_of g) (support (function_of g) (bound_of g.fanins)) (few (few-pass g.fanins (changes_with (function_of g) (bound_of g.fanins)) (bound_of g.fanins) (changing-named g)) (six g.op (length g.fanins) of))
  where
    few : {a b : ℕ} → a ≤ b → b ≤ 6 → a ≤ 6
    few h k = omega arith

-- ---- values and phases

told : (V : ℕ → Bool) (g : GateValue) → V 0 ≡ false → form_reading V (normal_lut g) ≡ gate_reading V g
told V g zero_false = form-value (function_of g) (bound_of g.fanins) (reads-gate g) V zero_false ∙ ap (λ W. gate_reading W g) (grounded-is V zero_false)

value : (V : ℕ → Bool) (g : GateValue) → V 0 ≡ false → IsLutGate g → form_reading V (normal_lut g) ≡ gate_reading V g
value V g zero_false of = told V g zero_false

carries : (c : Bool) (g : GateValue) → normal_lut (rephased c g) ≡ carried c (normal_lut g)
carries c g =
    (λ i. function_form (λ V. flip-flip c g.phase (operate g.op (map (read (grounded V)) g.fanins)) i) (bound_of g.fanins))
    ∙ form-flipped c (function_of g) (bound_of g.fanins)

-- ---- replacement

-- the values of the signals that the nodes give way to
abbrev through : (ℕ → Signal) → (ℕ → Bool) → ℕ → Bool
through place V n = read (grounded V) (place n)

replaced-reading : (place : ℕ → Signal) (V : ℕ → Bool) (g : GateValue) → function_of (replaced_in place g) V ≡ gate_reading (through place V) g
replaced-reading place V g = ap (λ bs. flip g.phase (operate g.op bs)) (each g.fanins)
  where
    each : (ss : List Signal) → map (read (grounded V)) (map (moved place) ss) ≡ map (read (through place V)) ss
    each [] = refl
    each (s ∷ ss) = λ i. read-flipped (grounded V) s.complement (place s.node.0) i ∷ each ss i

again : (place : ℕ → Signal) (g : GateValue) → place 0 ≡ constant false → (n : Normal) → ((V : ℕ → Bool) → V 0 ≡ false → form_reading V n ≡ gate_reading V g)
    → normal_lut (replaced_in place g) ≡ formed_again normal_lut place n
again place g keeps (Is s) means =
    literal-form (function_of (replaced_in place g)) (bound_of (map (moved place) g.fanins)) (moved place s) (reads-gate (replaced_in place g))
    (λ V. replaced-reading place V g ∙ sym (means (through place V) (ap (read (grounded V)) keeps)) ∙ sym (read-flipped (grounded V) s.complement (place s.node.0)))
again place g keeps (Gate k phase) means =
    ap (λ f. function_form f (bound_of (map (moved place) g.fanins))) same
    ∙ form-bound (function_of (replaced_in place (keyed_gate k phase))) (bound_of (map (moved place) g.fanins)) (bound_of (map (moved place) k.fanins))
    (subst (λ f. ReadsBelow f (bound_of (map (moved place) g.fanins))) same (reads-gate (replaced_in place g)))
    (reads-gate (replaced_in place (keyed_gate k phase)))
  where
    same : function_of (replaced_in place g) ≡ function_of (replaced_in place (keyed_gate k phase))
    same = λ i. λ V. (replaced-reading place V g ∙ sym (means (through place V) (ap (read (grounded V)) keeps)) ∙ sym (replaced-reading place V (keyed_gate k phase))) i

agrees : (place : ℕ → Signal) (g : GateValue) → place 0 ≡ constant false → IsLutGate g → normal_lut (replaced_in place g) ≡ formed_again normal_lut place (normal_lut g)
agrees place g keeps of = again place g keeps (normal_lut g) (λ V zero_false. told V g zero_false)

pub stable : (g : GateValue) (k : KeyValue) (phase : Bool) → IsLutGate g → normal_lut g ≡ Gate k phase → normal_lut (keyed_gate k phase) ≡ Gate k phase
stable g k phase of is_key =
    ap (λ ss. normal_lut (record { op = k.op; phase = phase; fanins = ss })) (sym (moved-in_place k.fanins))
    ∙ ap (formed_again normal_lut in_place) (sym is_key)
    ∙ sym (agrees in_place g refl of)
    ∙ ap (λ ss. normal_lut (record { op = g.op; phase = g.phase; fanins = ss })) (moved-in_place g.fanins)
    ∙ is_key

-- the normal form of gates in networks of look-up tables has the laws of normal forms
pub lut_laws : NormalLaws IsLutGate normal_lut
lut_laws = record { value = value; names = λ g of. names g of; native = native; stable = stable; carries = carries; agrees = agrees }

-- gates of one function have one normal form
pub same-form : (g h : GateValue) → ((V : ℕ → Bool) → V 0 ≡ false → gate_reading V g ≡ gate_reading V h) → normal_lut g ≡ normal_lut h
same-form g h same =
    ap (λ f. function_form f (bound_of g.fanins)) one
    ∙ form-bound (function_of h) (bound_of g.fanins) (bound_of h.fanins) (subst (λ f. ReadsBelow f (bound_of g.fanins)) one (reads-gate g)) (reads-gate h)
  where
    one : function_of g ≡ function_of h
    one = λ i. λ V. same (grounded V) refl i
