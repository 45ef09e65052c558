-- Tables over nodes: what their rows are, and the value and the laws of the forms that are made of them.
use Rattle.std.proofs.Common.{◌≡◌, ◌≢◌, ℕ, zero, suc, ◌+◌, ◌*◌, ◌/◌, ◌%◌, ◌^◌, ◌<◌, Bool, true, false, cond, List, [], ◌∷◌, map, length, eqb, refl, sym, ap, subst, ◌∙◌, inl, pow-suc, arith}
use Rattle.std.proofs.lemmas.List.{length-map}
use Rattle.std.specs.Int.{bit_at}
use Rattle.lnet_tables.specs.Bits.{number_by, bit_of}
use Rattle.lnet_tables.specs.Inverse.{bit_inside}
use Rattle.lnet_gates.specs.declared.signal.Signal.{Signal}
use Rattle.lnet_gates.specs.declared.gate.Op.TheVariants.{Lut}
use Rattle.lnet_gates.specs.declared.normal.Normal.TheVariants.{Is, Gate}
use Rattle.lnet_gates.specs.Gates.{flip, row_of}
use Rattle.lnet_gates.specs.Operands.{constant, read}
use Rattle.lnet_gates.specs.NormalForms.{carried}
use Rattle.lnet_gates.specs.NormalLaws.{form_reading}
use Rattle.lnet_gates.specs.LutForms.{grounded, put, all_false, holds_somewhere, changes_with, passing, support, assigned, lowest_bits, table_of, signal_of, form_over, function_form}
use Rattle.lnet_gates.specs.Lawful.OperandLemmas.{by_test, eqb-same, flip-comm, not-not, read-constant}
use Rattle.lnet_gates.specs.Lawful.NodeFunctions.{ReadsBelow, Ignores, IsIn, not-false, put-here, change-is, unchanged, ignores, changes-below, in-passes, passing-none, passing-one, support-bound, on-support}

-- ---- rows

low : (b : Bool) (x : ℕ) → eqb ((cond b 1 0 + 2 * x) % 2) 1 ≡ b
low true x = let e : (1 + 2 * x) % 2 ≡ 1 = omega arith in ap (λ y. eqb y 1) e
low false x = let e : (0 + 2 * x) % 2 ≡ 0 = omega arith in ap (λ y. eqb y 1) e

half : (b : Bool) (x : ℕ) → (cond b 1 0 + 2 * x) / 2 ≡ x
half true x = omega arith
half false x = omega arith

pub lowest-row : (bs : List Bool) → lowest_bits (length bs) (row_of bs) ≡ bs
lowest-row [] = refl
lowest-row (b ∷ bs) = λ i. low b (row_of bs) i ∷ (ap (lowest_bits (length bs)) (half b (row_of bs)) ∙ lowest-row bs) i

pub row-below : (bs : List Bool) → row_of bs < 2 ^ length bs
row-below [] = omega arith
row-below (b ∷ bs) = let h : row_of bs < 2 ^ length bs = row-below bs in let e : 2 ^ suc (length bs) ≡ 2 ^ length bs * 2 = pow-suc 2 (length bs) in bit b (row_of bs) (2 ^ length bs) (2 ^ suc (length bs)) h e
  where
    bit : (b : Bool) (r n m : ℕ) → r < n → m ≡ n * 2 → cond b 1 0 + 2 * r < m
    bit true r n m h e = omega arith
    bit false r n m h e = omega arith

is-one : (b : Bool) → eqb (bit_of b) 1 ≡ b
is-one true = refl
is-one false = refl

table-row : (c : Bool) (f : (ℕ → Bool) → Bool) (ns : List ℕ) (bs : List Bool) → length bs ≡ length ns → eqb (bit_at (table_of c f ns) (row_of bs)) 1 ≡ flip c (f (assigned ns bs))
table-row c f ns bs h =
    ap (λ x. eqb x 1) (bit_inside rows (2 ^ length ns) (row_of bs) (subst (λ k. row_of bs < 2 ^ k) h (row-below bs)))
    ∙ is-one (rows (row_of bs))
    ∙ ap (λ k. flip c (f (assigned ns (lowest_bits k (row_of bs))))) (sym h)
    ∙ ap (λ l. flip c (f (assigned ns l))) (lowest-row bs)
  where
    rows : ℕ → Bool
    rows r = flip c (f (assigned ns (lowest_bits (length ns) r)))

-- ---- values

read-nodes : (V : ℕ → Bool) (ns : List ℕ) → map (read V) (map (signal_of false) ns) ≡ map V ns
read-nodes V [] = refl
read-nodes V (n ∷ ns) = ap (λ r. V n ∷ r) (read-nodes V ns)

pub flip-twice : (c x : Bool) → flip c (flip c x) ≡ x
flip-twice true x = not-not x
flip-twice false x = refl

other-bit : (x y : Bool) → flip x y ≡ true → flip x true ≡ y
other-bit true true h = cc
other-bit true false h = refl
other-bit false true h = refl
other-bit false false h = cc

one-false : (n : ℕ) → assigned (n ∷ []) (false ∷ []) ≡ all_false
one-false n = λ i. λ m. by_test (λ r. r ≡ false) (eqb m n) false false (λ _. refl) (λ _. refl) i

-- a node, or its complement
one-node : (f : (ℕ → Bool) → Bool) (n : ℕ) → ((V : ℕ → Bool) → f (assigned (n ∷ []) (V n ∷ [])) ≡ f V)
    → (V : ℕ → Bool) × (flip (f (put V n false)) (f (put V n true)) ≡ true) → (b : Bool) → flip (f all_false) b ≡ f (assigned (n ∷ []) (b ∷ []))
one-node f n told w false = flip-comm (f all_false) false ∙ ap f (sym (one-false n))
one-node f n told w true = other-bit (f all_false) (f (assigned (n ∷ []) (true ∷ []))) ((λ i. flip ((ap f (sym (one-false n)) ∙ at false) i) (at true i)) ∙ w.1)
  where
    at : (b : Bool) → f (assigned (n ∷ []) (b ∷ [])) ≡ f (put w.0 n b)
    at b = ap (λ x. f (assigned (n ∷ []) (x ∷ []))) (sym (put-here w.0 n b)) ∙ told (put w.0 n b)

over-value : (f : (ℕ → Bool) → Bool) (ns : List ℕ) → ((V : ℕ → Bool) → f (assigned ns (map V ns)) ≡ f V)
    → ((n : ℕ) → IsIn n ns → (V : ℕ → Bool) × (flip (f (put V n false)) (f (put V n true)) ≡ true))
    → (V : ℕ → Bool) → V 0 ≡ false → form_reading V (form_over f ns) ≡ f V
over-value f [] told changes V zero_false = read-constant V (f all_false) zero_false ∙ told V
over-value f (n ∷ []) told changes V zero_false = one-node f n told (changes n (inl refl)) (V n) ∙ told V
over-value f (n ∷ m ∷ ns) told changes V zero_false =
    ap (λ bs. flip (f all_false) (eqb (bit_at (table_of (f all_false) f (n ∷ m ∷ ns)) (row_of bs)) 1)) (read-nodes V (n ∷ m ∷ ns))
    ∙ ap (flip (f all_false)) (table-row (f all_false) f (n ∷ m ∷ ns) (map V (n ∷ m ∷ ns)) (length-map (n ∷ m ∷ ns) V))
    ∙ flip-twice (f all_false) (f (assigned (n ∷ m ∷ ns) (map V (n ∷ m ∷ ns))))
    ∙ told V

-- the form of a function has its value
pub form-value : (f : (ℕ → Bool) → Bool) (bound : ℕ) → ReadsBelow f bound → (V : ℕ → Bool) → V 0 ≡ false → form_reading V (function_form f bound) ≡ f V
form-value f bound reads = over-value f (support f bound) (on-support f bound reads) (λ n h. change-is f bound n (in-passes (changes_with f bound) bound n h))

-- the form of a function does not depend on the bound
pub form-bound : (f : (ℕ → Bool) → Bool) (b c : ℕ) → ReadsBelow f b → ReadsBelow f c → function_form f b ≡ function_form f c
form-bound f b c reads_b reads_c = ap (form_over f) (support-bound f b c reads_b reads_c)

-- ---- literals

literal : (f : (ℕ → Bool) → Bool) (bound n : ℕ) (c : Bool) → ReadsBelow f bound → ((V : ℕ → Bool) → f V ≡ flip c (grounded V n)) → function_form f bound ≡ Is (signal_of c n)
literal f bound zero c reads told =
    ap (form_over f) (passing-none (changes_with f bound) bound (λ n _. unchanged f bound n (λ V b. told (put V n b) ∙ sym (told V))))
    ∙ ap (λ b. Is (constant b)) (told all_false ∙ flip-comm c false)
literal f bound (suc k) c reads told =
    ap (form_over f) (passing-one (changes_with f bound) bound (suc k) (changes-below f bound (suc k) reads changes) changes (λ n ne. unchanged f bound n (others n ne)))
    ∙ ap (λ b. Is (signal_of b (suc k))) (told all_false ∙ flip-comm c false)
  where
    others : (n : ℕ) → n ≢ suc k → Ignores f n
    others n ne V b = told (put V n b) ∙ ap (flip c) (by_test (λ r. r ≡ V (suc k)) (eqb (suc k) n) b (V (suc k)) (λ h. absurd (ne (sym (eqb-same (suc k) n h)))) (λ _. refl)) ∙ sym (told V)

    differ : (c : Bool) → flip c true ≡ flip c false → ⊥
    differ true h = cc
    differ false h = cc

    changes : changes_with f bound (suc k) ≡ true
    changes = not-false (changes_with f bound (suc k)) (λ h. differ c (
        ap (flip c) (sym (put-here all_false (suc k) true))
        ∙ sym (told (put all_false (suc k) true)) ∙ ignores f bound (suc k) reads h all_false true ∙ told all_false))

-- the form of a signal's function is that signal
pub literal-form : (f : (ℕ → Bool) → Bool) (bound : ℕ) (s : Signal) → ReadsBelow f bound → ((V : ℕ → Bool) → f V ≡ read (grounded V) s) → function_form f bound ≡ Is s
literal-form f bound s reads told = literal f bound s.node.0 s.complement reads told

-- ---- phases

-- a complemented function has the form with the phase changed
pub form-flipped : (c : Bool) (f : (ℕ → Bool) → Bool) (bound : ℕ) → function_form (λ V. flip c (f V)) bound ≡ carried c (function_form f bound)
form-flipped c f bound = ap (form_over (λ V. flip c (f V))) (λ i. passing (λ n. same n i) bound) ∙ over (support f bound)
  where
    both : (c x y : Bool) → flip (flip c x) (flip c y) ≡ flip x y
    both true true true = refl
    both true true false = refl
    both true false true = refl
    both true false false = refl
    both false x y = refl

    same : (n : ℕ) → changes_with (λ V. flip c (f V)) bound n ≡ changes_with f bound n
    same n = λ i. holds_somewhere bound (λ V. both c (f (put V n false)) (f (put V n true)) i)

    over : (ns : List ℕ) → form_over (λ V. flip c (f V)) ns ≡ carried c (form_over f ns)
    over [] = refl
    over (n ∷ []) = refl
    over (n ∷ m ∷ ns) = λ i. Gate (record {
      op = Lut (number_by (λ r. both c (f all_false) (f (assigned (n ∷ m ∷ ns) (lowest_bits (length (n ∷ m ∷ ns)) r))) i) (2 ^ length (n ∷ m ∷ ns)));
      fanins = map (signal_of false) (n ∷ m ∷ ns);
    }) (flip c (f all_false))
