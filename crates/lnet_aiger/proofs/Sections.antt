-- Lines under a rule: what is read from them is what they mean, and what they mean is read.
use Rattle.std.proofs.Common.{◌≡◌, ◌≢◌, ℕ, zero, suc, ◌+◌, List, [], ◌∷◌, length, Result, Ok, Err, refl, sym, ap, subst, ◌∙◌, add-zero, arith}
use Rattle.lnet_edge.specs.declared.fault.Fault.{Fault}
use Rattle.lnet_lines.specs.Lines.{Place, first_line, after_line}
use Rattle.lnet_aiger.specs.Chain.{◌>>=◌, at_line}
use Rattle.lnet_aiger.specs.Reading.{item_at, items_at}
use Rattle.lnet_aiger.specs.Grammar.{AreLines}

-- the value of a step that did not fail
pub bind_ok : {A B E : Type 0} (r : Result A E) (f : A → Result B E) (y : B) → (r >>= f) ≡ Ok y → (x : A) × (r ≡ Ok x) × (f x ≡ Ok y)
bind_ok (Ok x) f y e = (x, refl, e)
bind_ok (Err d) f y e = absurd cc

abbrev pub done : {A E : Type 0} → A → Result A E
done x = Ok x

pub ok_is : {A E : Type 0} (x y : A) → done {E = E} x ≡ done y → x ≡ y
ok_is x y e = cc

pub at_line_ok : {A : Type 0} (number : ℕ) (r : Result A Fault) (x : A) → at_line number r ≡ Ok x → r ≡ Ok x
at_line_ok number (Ok y) x e = ap done (ok_is y x e)
at_line_ok number (Err f) x e = absurd cc

abbrev pub at : List ℕ → ℕ → Place
at rest number = record { rest = rest; number = number }

pub not_nil : (b : ℕ) (bs : List ℕ) → (b ∷ bs) ≡ [] → ⊥
not_nil b bs e = cc

-- a line that was read
pub item_takes : {A : Type 0} (rule : List ℕ → Result A Fault) (bytes : List ℕ) (number : ℕ) (x : A × Place) → item_at rule (record { rest = bytes; number = number }) ≡ Ok x → (bytes ≢ []) × (rule (first_line bytes) ≡ Ok x.0) × (x.1 ≡ record { rest = after_line bytes; number = number + 1 })
unfolding item_at
item_takes rule [] number x e = absurd cc
item_takes rule (b ∷ bs) number x e =
    let r = bind_ok (at_line number (rule (first_line (b ∷ bs)))) (λ item. Ok (item, record { rest = after_line (b ∷ bs); number = number + 1 })) x e in
    let same = ok_is (r.0, record { rest = after_line (b ∷ bs); number = number + 1 }) x r.2 in
    (not_nil b bs, at_line_ok number (rule (first_line (b ∷ bs))) r.0 r.1 ∙ ap (λ (y : _ × Place). done y.0) same, sym (ap (λ (y : _ × Place). y.1) same))

pub item_again : {A : Type 0} (rule : List ℕ → Result A Fault) (bytes : List ℕ) (number : ℕ) (x : A) → bytes ≢ [] → rule (first_line bytes) ≡ Ok x → item_at rule (record { rest = bytes; number = number }) ≡ Ok (x, record { rest = after_line bytes; number = number + 1 })
unfolding item_at
item_again rule [] number x some e = absurd (some refl)
item_again rule (b ∷ bs) number x some e = rw e refl

-- lines that were read
pub lines_take : {A : Type 0} (rule : List ℕ → Result A Fault) (n i : ℕ) (bytes : List ℕ) (number : ℕ) (x : List A × Place) → items_at (λ i. item_at rule) n i (record { rest = bytes; number = number }) ≡ Ok x → AreLines rule bytes x.0 x.1.rest × (length x.0 ≡ n) × (x.1.number ≡ number + n)
unfolding items_at
lines_take rule zero i bytes number x e =
    let same = ok_is ([], record { rest = bytes; number = number }) x e in
    subst (λ (y : List _ × Place). AreLines rule bytes y.0 y.1.rest × (length y.0 ≡ 0) × (y.1.number ≡ number + 0)) same (refl, refl, sym (add-zero number))
lines_take rule (suc n) i bytes number x e =
    let a = bind_ok (item_at rule (record { rest = bytes; number = number })) (λ first. items_at (λ i. item_at rule) n (i + 1) first.1 >>= λ others. Ok (first.0 ∷ others.0, others.1)) x e in
    let b = bind_ok (items_at (λ i. item_at rule) n (i + 1) a.0.1) (λ others. Ok (a.0.0 ∷ others.0, others.1)) x a.2 in
    let first = item_takes rule bytes number a.0 a.1 in
    let others = lines_take rule n (i + 1) (after_line bytes) (number + 1) b.0 (sym (ap (λ (p : Place). items_at (λ i. item_at rule) n (i + 1) p) first.2) ∙ b.1) in
    let same = ok_is (a.0.0 ∷ b.0.0, b.0.1) x b.2 in
    subst (λ (y : List _ × Place). AreLines rule bytes y.0 y.1.rest × (length y.0 ≡ suc n) × (y.1.number ≡ number + suc n)) same ((first.0, first.1, others.0), ap suc others.1, omega (arith, others.2))

pub lines_again : {A : Type 0} (rule : List ℕ → Result A Fault) (xs : List A) (i : ℕ) (bytes rest : List ℕ) (number : ℕ) → AreLines rule bytes xs rest → items_at (λ i. item_at rule) (length xs) i (record { rest = bytes; number = number }) ≡ Ok (xs, record { rest = rest; number = number + length xs })
unfolding items_at
lines_again rule [] i bytes rest number are = ap (λ (bs : List ℕ). done ([], at bs number)) are ∙ ap (λ (k : ℕ). done ([], at rest k)) (sym (add-zero number))
lines_again rule (x ∷ xs) i bytes rest number are =
    let k : (number + 1) + length xs ≡ number + suc (length xs) = omega arith in
    rw (item_again rule bytes number x are.0 are.1, lines_again rule xs (i + 1) (after_line bytes) rest (number + 1) are.2, k) refl
