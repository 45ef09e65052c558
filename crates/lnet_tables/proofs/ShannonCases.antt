-- What the case that decides tells of the two cofactors.
use Rattle.std.proofs.Common.{◌≡◌, Bool, true, false, cond, refl}
use Rattle.lnet_tables.specs.Bits.{equal_rows, Rows, constant_rows, not_rows}
use Rattle.lnet_tables.specs.declared.expansion.Case.{Case}
use Rattle.lnet_tables.specs.declared.expansion.Case.TheVariants.{Unused, Plain, Complement, HighTrue, HighFalse, LowTrue, LowFalse, Opposite, Neither}
use Rattle.lnet_tables.specs.Shannon.{is_constant, case_of}
use Rattle.lnet_tables.proofs.Equal.{equal_rows_decides}

-- no test holds
pub record NoneHolds (high low : Rows) : Type 0 where
  pub same : equal_rows high low ≡ false
  pub high_true : is_constant high true ≡ false
  pub high_false : is_constant high false ≡ false
  pub low_true : is_constant low true ≡ false
  pub low_false : is_constant low false ≡ false
  pub opposite : equal_rows high (not_rows low) ≡ false

abbrev pub Constant : Rows → Bool → Type 0
Constant t value = t ≡ constant_rows t.vars value

-- what holds of the cofactors in each case
abbrev pub Told : Case → Rows → Rows → Type 0
Told Unused high low = high ≡ low
Told Plain high low = Constant high true × Constant low false
Told Complement high low = Constant high false × Constant low true
Told HighTrue high low = Constant high true
Told HighFalse high low = Constant high false
Told LowTrue high low = Constant low true
Told LowFalse high low = Constant low false
Told Opposite high low = high ≡ not_rows low
Told Neither high low = NoneHolds high low

choose : (P : Case → Type 0) (b : Bool) (x y : Case) → (b ≡ true → P x) → (b ≡ false → P y) → P (cond b x y)
choose P true x y f g = f refl
choose P false x y f g = g refl

constant : (t : Rows) (value : Bool) → is_constant t value ≡ true → Constant t value
constant t value h = (equal_rows_decides t (constant_rows t.vars value)).0 h

pub case_told : (high low : Rows) → high.vars ≡ low.vars → Told (case_of high low) high low
unfolding case_of
case_told high low e =
    let P : Case → Type 0 = λ k. Told k high low in
    choose P (equal_rows high low) _ _ (λ h. (equal_rows_decides high low).0 h) (λ s.
    choose P (is_constant high true) _ _ (λ ht. choose P (is_constant low false) _ _ (λ lf. (constant high true ht, constant low false lf)) (λ _. constant high true ht)) (λ ht.
    choose P (is_constant high false) _ _ (λ hf. choose P (is_constant low true) _ _ (λ lt. (constant high false hf, constant low true lt)) (λ _. constant high false hf)) (λ hf.
    choose P (is_constant low true) _ _ (λ lt. constant low true lt) (λ lt.
    choose P (is_constant low false) _ _ (λ lf. constant low false lf) (λ lf.
    choose P (equal_rows high (not_rows low)) _ _ (λ o. (equal_rows_decides high (not_rows low)).0 o) (λ o.
    record { same = s; high_true = ht; high_false = hf; low_true = lt; low_false = lf; opposite = o }))))))
