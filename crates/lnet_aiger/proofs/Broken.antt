-- Faults of lines, gates and symbols: what is refused breaks a rule, and what stands before it keeps all.
use Rattle.std.proofs.Common.{◌≡◌, ℕ, zero, suc, ◌+◌, Bool, true, false, cond, List, [], ◌∷◌, Result, Ok, Err, refl, sym, ap, ◌∙◌, inl, inr, ⊎_elim, add-zero, add-one, arith}
use Rattle.std.specs.Prelude.{◌⊎◌}
use Rattle.lnet_edge.specs.declared.fault.Fault.{Fault}
use Rattle.lnet_edge.specs.declared.fault.Fault.TheVariants as fault
use Rattle.lnet_edge.specs.declared.fault.Malformed.{Malformed}
use Rattle.lnet_lines.specs.Lines.{Place, first_line, after_line}
use Rattle.lnet_aiger.specs.Chain.{◌>>=◌, at_line}
use Rattle.lnet_aiger.specs.Symbols.{Ports, begins_comment, naming_line}
use Rattle.lnet_aiger.specs.Reading.{item_at, items_at, symbols_at}
use Rattle.lnet_aiger.specs.Faults.{BreaksLine, BreaksLines, BreaksNames}
use Rattle.lnet_aiger.proofs.Sections.{done, at, at_line_ok, not_nil, item_takes}

-- ---- steps that failed

abbrev pub failed : {A E : Type 0} → E → Result A E
failed e = Err e

pub no_err : {A E : Type 0} (x : A) (d : E) → done x ≡ Err d → ⊥
no_err x d e = cc

pub err_same : {A E : Type 0} (c d : E) → failed {A = A} c ≡ failed d → c ≡ d
err_same c d e = cc

pub bind_err : {A B E : Type 0} (r : Result A E) (f : A → Result B E) (d : E) → (r >>= f) ≡ Err d → (r ≡ Err d) ⊎ ((x : A) × (r ≡ Ok x) × (f x ≡ Err d))
bind_err (Ok x) f d e = inr (x, refl, e)
bind_err {A = A} {B = B} (Err c) f d e = inl (ap failed (err_same {A = B} c d e))

-- the fault of a line, and its number
pub at_line_err : {A : Type 0} (number : ℕ) (r : Result A Fault) (m : Malformed) → at_line number r ≡ Err m → (m.line ≡ number) × (r ≡ Err m.kind)
at_line_err number (Ok x) m e = absurd cc
at_line_err {A = A} number (Err f) m e = let same : record { line = number; kind = f } ≡ m = err_same {A = A} (record { line = number; kind = f }) m e in (sym (ap (λ (k : Malformed). k.line) same), ap (λ (k : Malformed). failed k.kind) same)

-- ---- lines

pub item_fails : {A : Type 0} (rule : List ℕ → Result A Fault) (bytes : List ℕ) (number : ℕ) (m : Malformed) → item_at rule (at bytes number) ≡ Err m → (m.line ≡ number) × BreaksLine rule bytes m.kind
unfolding item_at
item_fails {A = A} rule [] number m e =
    let same : record { line = number; kind = fault.Missing } ≡ m = err_same {A = A × Place} (record { line = number; kind = fault.Missing }) m e in
    (sym (ap (λ (k : Malformed). k.line) same), inl (refl, sym (ap (λ (k : Malformed). k.kind) same)))
item_fails {A = A} rule (b ∷ bs) number m e =
    let next : A → A × Place = λ item. (item, record { rest = after_line (b ∷ bs); number = number + 1 }) in
    ⊎_elim (λ h. let t = at_line_err number (rule (first_line (b ∷ bs))) m h in (t.0, inr (not_nil b bs, t.1)))
    (λ h. absurd (no_err (next h.0) m h.2))
    (bind_err (at_line number (rule (first_line (b ∷ bs)))) (λ item. Ok (next item)) m e)

abbrev FailsLines : {A : Type 0} → (List ℕ → Result A Fault) → ℕ → List ℕ → ℕ → Malformed → Type 0
FailsLines rule n bytes number m = (k : ℕ) × (m.line ≡ number + k) × BreaksLines rule n bytes k m.kind

fails_here : {A : Type 0} (rule : List ℕ → Result A Fault) (n : ℕ) (bytes : List ℕ) (number : ℕ) (m : Malformed) → item_at rule (at bytes number) ≡ Err m → FailsLines rule (suc n) bytes number m
fails_here rule n bytes number m h =
    let t = item_fails rule bytes number m h in
    (0, t.0 ∙ sym (add-zero number), record { items = []; rest = bytes; before = refl; count = refl; due = omega arith; broken = t.1 })

fails_later : {A : Type 0} (rule : List ℕ → Result A Fault) (n : ℕ) (bytes : List ℕ) (number : ℕ) (m : Malformed) (x : A × Place) → item_at rule (at bytes number) ≡ Ok x → FailsLines rule n (after_line bytes) (number + 1) m → FailsLines rule (suc n) bytes number m
fails_later rule n bytes number m x first h =
    let t = item_takes rule bytes number x first in
    let b = h.2 in
    (h.0 + 1, omega (arith, h.1), record { items = x.0 ∷ b.items; rest = b.rest; before = (t.0, t.1, b.before); count = ap suc b.count ∙ sym (add-one h.0); due = omega (arith, b.due); broken = b.broken })

pub lines_fail : {A : Type 0} (rule : List ℕ → Result A Fault) (n i : ℕ) (bytes : List ℕ) (number : ℕ) (m : Malformed) → items_at (λ i. item_at rule) n i (at bytes number) ≡ Err m → FailsLines rule n bytes number m
unfolding items_at
lines_fail {A = A} rule zero i bytes number m e = let x : List A × Place = ([], at bytes number) in absurd (no_err x m e)
lines_fail {A = A} rule (suc n) i bytes number m e =
    let joined : A × Place → List A × Place → List A × Place = λ first others. (first.0 ∷ others.0, others.1) in
    ⊎_elim (λ h. fails_here rule n bytes number m h)
    (λ h. ⊎_elim (λ g. fails_later rule n bytes number m h.0 h.1 (lines_fail rule n (i + 1) (after_line bytes) (number + 1) m (sym (ap (λ (p : Place). items_at (λ i. item_at rule) n (i + 1) p) (item_takes rule bytes number h.0 h.1).2) ∙ g)))
    (λ g. absurd (no_err (joined h.0 g.0) m g.2))
    (bind_err (items_at (λ i. item_at rule) n (i + 1) h.0.1) (λ others. Ok (joined h.0 others)) m h.2))
    (bind_err (item_at rule (at bytes number)) (λ first. items_at (λ i. item_at rule) n (i + 1) first.1 >>= λ others. Ok (joined first others)) m e)

-- ---- symbols

pub symbols_fail : (number : ℕ) (lines : List (List ℕ)) (p : Ports) (m : Malformed) → symbols_at number lines p ≡ Err m → (k : ℕ) × (m.line ≡ number + k) × BreaksNames lines p k m.kind
unfolding symbols_at
symbols_fail number [] p m e = absurd (no_err p m e)
symbols_fail number (line ∷ lines) p m e = by_comment (begins_comment line) refl e (λ q. symbols_fail (number + 1) lines q m) where
  by_comment : (b : Bool) → begins_comment line ≡ b → cond b (Ok p) (at_line number (naming_line p line) >>= λ q. symbols_at (number + 1) lines q) ≡ Err m → ((q : Ports) → symbols_at (number + 1) lines q ≡ Err m → (k : ℕ) × (m.line ≡ (number + 1) + k) × BreaksNames lines q k m.kind) → (k : ℕ) × (m.line ≡ number + k) × BreaksNames (line ∷ lines) p k m.kind
  by_comment true b e rec = absurd (no_err p m e)
  by_comment false b e rec =
      ⊎_elim (λ h. let t = at_line_err number (naming_line p line) m h in (0, t.0 ∙ sym (add-zero number), (b, t.1)))
      (λ h. let r = rec h.0 h.2 in (suc r.0, omega (arith, r.1), (b, h.0, at_line_ok number (naming_line p line) h.0 h.1, r.2)))
      (bind_err (at_line number (naming_line p line)) (λ q. symbols_at (number + 1) lines q) m e)
