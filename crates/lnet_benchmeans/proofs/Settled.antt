-- The names of ports differ from one another.
use Rattle.std.proofs.Common.{◌≡◌, ◌≢◌, ℕ, suc, ◌+◌, ◌<◌, ◌≤◌, ◌^◌, Bool, true, false, cond, List, [], ◌∷◌, ◌++◌, length, drop, get_or, Option, Some, None, refl, sym, ap, ◌∙◌, inl, inr, arith}
use Rattle.std.specs.Prelude.{not, ◌&&◌, ◌||◌, ◌⊎◌, nat_lt, slice_index, ◌==◌}
use Rattle.std.specs.Char.{is_ascii_digit}
use Rattle.std.specs.Fmt.{decimal}
use Rattle.std.specs.List.{list_all, list_any, AllByRecursion}
use Rattle.std.specs.Str.{bytes_eq, all_ascii_digits}
use Rattle.std.specs.Str.Parse.{digits_value}
use Rattle.std.proofs.lemmas.Bool.{false≢true}
use Rattle.std.proofs.lemmas.Bool.Decides.{nat_tests}
use Rattle.std.proofs.lemmas.Fmt.{digits_decimal, decimal_nonempty, decimal_injective}
use Rattle.std.proofs.lemmas.Str.Parse.{IsNumeralModel, numerals_by_value, tells_all_ascii_digits}
use Rattle.lnet_wires.specs.Naming.{is_seen, with_name}
use Rattle.lnet_wires.proofs.WireLaws.{sees}
use Rattle.lnet_naming.specs.Settling.{is_text_byte, is_letter, is_constant, is_made, is_plain, made_name, settle_by, settle, settle_all}
use Rattle.lnet_benchtext.proofs.Cutting.{both_true, true_both}
use Rattle.lnet_benchmeans.proofs.Differing.{Differ, all_weak}

-- ---- made names

own : IsNumeralModel (λ ds. all_ascii_digits ds ≡ true) (digits_value 10)
own = numerals_by_value _ tells_all_ascii_digits

digits_all : (ds : List ℕ) → all_ascii_digits ds ≡ true → list_all is_ascii_digit ds ≡ true
digits_all [] all = refl
digits_all (d ∷ ds) all = let t = both_true (is_ascii_digit d) (all_ascii_digits ds) all in true_both (is_ascii_digit d) (list_all is_ascii_digit ds) t.0 (digits_all ds t.1)

long_name : (ds : List ℕ) (letter : ℕ) → 0 < length ds → nat_lt 2 (length (95 ∷ letter ∷ ds)) ≡ true
long_name ds letter some = grind (arith, nat_tests)

pub made_made : (letter n : ℕ) → is_letter letter ≡ true → n < 2 ^ 64 → is_made (made_name letter n) ≡ true
made_made letter n is small =
    let long = long_name (decimal n) letter (decimal_nonempty n small) in
    let all = digits_all (decimal n) (digits_decimal own n small) in
    true_both (nat_lt 2 (length (made_name letter n)) && true && is_letter letter) (list_all is_ascii_digit (decimal n))
    (true_both (nat_lt 2 (length (made_name letter n)) && true) (is_letter letter) (true_both (nat_lt 2 (length (made_name letter n))) true long refl) is)
    all

pub letters_apart : (a b m n : ℕ) → a ≢ b → made_name a m ≢ made_name b n
letters_apart a b m n apart e = apart (ap (λ (name : List ℕ). get_or name 1 0) e)

pub made_once : (letter m n : ℕ) → m < 2 ^ 64 → n < 2 ^ 64 → made_name letter m ≡ made_name letter n → m ≡ n
made_once letter m n first second e = decimal_injective m n first second (ap (λ (name : List ℕ). drop 2 name) e)

pub plain_unmade : (name : List ℕ) → is_plain name ≡ true → not (is_made name) ≡ true
plain_unmade name plain = (both_true (list_all is_text_byte name && not (slice_index name 0 == 46) && not (is_constant name)) (not (is_made name)) plain).1

-- a made name isn't a plain one
pub made_apart : (letter n : ℕ) (name : List ℕ) → is_letter letter ≡ true → n < 2 ^ 64 → is_plain name ≡ true → made_name letter n ≢ name
made_apart letter n name is small plain e = false≢true (sym (ap not (ap is_made (sym e) ∙ made_made letter n is small)) ∙ plain_unmade name plain)

-- ---- names that are kept

any_before : (p : List ℕ → Bool) (ns ms : List (List ℕ)) → list_any p ns ≡ true → list_any p (ns ++ ms) ≡ true
any_before p [] ms seen = absurd (false≢true seen)
any_before p (n ∷ ns) ms seen = elim (p n) as (λ b. (b || list_any p ns) ≡ true → (b || list_any p (ns ++ ms)) ≡ true) [ true ↦ λ t. refl | false ↦ λ t. any_before p ns ms t ] seen

pub still_seen : (kept : List (List ℕ)) (name x : List ℕ) → is_seen kept x ≡ true → is_seen (with_name kept name) x ≡ true
still_seen kept name x seen = elim (is_seen kept name) as (λ s. is_seen (cond s kept (kept ++ name ∷ [])) x ≡ true) [ true ↦ seen | false ↦ any_before (bytes_eq x) kept (name ∷ []) seen ]

-- what was not seen later was not seen before
unseen : (a b : Bool) → (a ≡ true → b ≡ true) → b ≡ false → a ≡ false
unseen a b more later_unseen = elim a as (λ t. a ≡ t → t ≡ false) [ true ↦ λ is. absurd (false≢true (sym later_unseen ∙ more is)) | false ↦ λ is. refl ] refl

-- the name of a port, and what is kept then
abbrev Settles : ℕ → ℕ → List (List ℕ) → List ℕ × List (List ℕ) → Type 0
Settles letter place kept r = ((r.0 ≡ made_name letter place) × (r.1 ≡ kept)) ⊎ ((is_plain r.0 ≡ true) × (is_seen kept r.0 ≡ false) × (r.1 ≡ with_name kept r.0))

settles : (letter place : ℕ) (kept : List (List ℕ)) (name : Option (List ℕ)) → Settles letter place kept (settle letter place kept name)
settles letter place kept None = inl (refl, refl)
settles letter place kept (Some name) =
    elim (is_plain name) as (λ b. is_plain name ≡ b → Settles letter place kept (settle_by (made_name letter place) name (cond b (not (is_seen kept name), with_name kept name) (false, kept)))) [
      | true ↦ λ plain. elim (is_seen kept name) as (λ s. is_seen kept name ≡ s → Settles letter place kept (settle_by (made_name letter place) name (not s, cond s kept (kept ++ name ∷ [])))) [
        | true ↦ λ seen. inl (refl, refl)
        | false ↦ λ seen. inr (plain, seen, sym (ap (λ (s : Bool). cond s kept (kept ++ name ∷ [])) seen))
      ] refl
      | false ↦ λ plain. inl (refl, refl)
    ] refl

-- made with the letter of a place in a range
abbrev pub IsMadeIn : ℕ → ℕ → ℕ → List ℕ → Type 0
IsMadeIn letter low high x = (k : ℕ) × (low ≤ k) × (k < high) × (x ≡ made_name letter k)

-- a name of a port: a made one, or a plain one that is kept or isn't
abbrev pub IsLabel : ℕ → ℕ → ℕ → List (List ℕ) → Bool → List ℕ → Type 0
IsLabel letter low high kept seen x = IsMadeIn letter low high x ⊎ ((is_plain x ≡ true) × (is_seen kept x ≡ seen))

-- the names of ports one after the other
pub record IsRun (letter low high : ℕ) (kept : List (List ℕ)) (r : List (List ℕ) × List (List ℕ)) : Type 0 where
  pub differ : Differ r.0
  pub fresh : AllByRecursion (IsLabel letter low high kept false) r.0
  pub stand : AllByRecursion (IsLabel letter low high r.1 true) r.0
  pub more : (x : List ℕ) → is_seen kept x ≡ true → is_seen r.1 x ≡ true

more_by : (letter place : ℕ) (kept : List (List ℕ)) (r : List ℕ × List (List ℕ)) → Settles letter place kept r → (x : List ℕ) → is_seen kept x ≡ true → is_seen r.1 x ≡ true
more_by letter place kept r (inl h) x seen = ap (λ (k : List (List ℕ)). is_seen k x) h.1 ∙ seen
more_by letter place kept r (inr h) x seen = ap (λ (k : List (List ℕ)). is_seen k x) h.2 ∙ still_seen kept r.0 x seen

later : (letter place n : ℕ) (kept : List (List ℕ)) (r : List ℕ × List (List ℕ)) → is_letter letter ≡ true → place + suc n ≤ 2 ^ 64 → Settles letter place kept r → (y : List ℕ) → IsLabel letter (place + 1) ((place + 1) + n) r.1 false y → r.0 ≢ y
later letter place n kept r is few (inl h) y (inl m) e =
    let low = m.1 in
    let high = m.2 in
    let same = made_once letter place m.0 (omega arith) (omega arith) (sym h.0 ∙ e ∙ m.3) in
    omega arith
later letter place n kept r is few (inl h) y (inr p) e = made_apart letter place y is (omega arith) p.0 (sym h.0 ∙ e)
later letter place n kept r is few (inr h) y (inl m) e =
    let high = m.2 in
    made_apart letter m.0 r.0 is (omega arith) h.0 (sym (e ∙ m.3))
later letter place n kept r is few (inr h) y (inr p) e =
    false≢true (sym p.1 ∙ ap (is_seen r.1) (sym e) ∙ ap (λ (k : List (List ℕ)). is_seen k r.0) h.2 ∙ sees kept r.0)

sooner : (letter place n : ℕ) (kept more : List (List ℕ)) → ((x : List ℕ) → is_seen kept x ≡ true → is_seen more x ≡ true) → (y : List ℕ) → IsLabel letter (place + 1) ((place + 1) + n) more false y → IsLabel letter place (place + suc n) kept false y
sooner letter place n kept more still y (inl m) =
    let low = m.1 in
    let high = m.2 in
    inl (m.0, omega arith, omega arith, m.3)
sooner letter place n kept more still y (inr p) = inr (p.0, unseen (is_seen kept y) (is_seen more y) (still y) p.1)

wider : (letter place n : ℕ) (kept : List (List ℕ)) (y : List ℕ) → IsLabel letter (place + 1) ((place + 1) + n) kept true y → IsLabel letter place (place + suc n) kept true y
wider letter place n kept y (inl m) =
    let low = m.1 in
    let high = m.2 in
    inl (m.0, omega arith, omega arith, m.3)
wider letter place n kept y (inr p) = inr p

fresh_by : (letter place n : ℕ) (kept : List (List ℕ)) (r : List ℕ × List (List ℕ)) → Settles letter place kept r → IsLabel letter place (place + suc n) kept false r.0
fresh_by letter place n kept r (inl h) = inl (place, omega arith, omega arith, h.0)
fresh_by letter place n kept r (inr h) = inr (h.0, h.1)

stand_by : (letter place n : ℕ) (kept kept' : List (List ℕ)) (r : List ℕ × List (List ℕ)) → ((x : List ℕ) → is_seen r.1 x ≡ true → is_seen kept' x ≡ true) → Settles letter place kept r → IsLabel letter place (place + suc n) kept' true r.0
stand_by letter place n kept kept' r still (inl h) = inl (place, omega arith, omega arith, h.0)
stand_by letter place n kept kept' r still (inr h) = inr (h.0, still r.0 (ap (λ (k : List (List ℕ)). is_seen k r.0) h.2 ∙ sees kept r.0))

pub runs : (letter place : ℕ) (kept : List (List ℕ)) (names : List (Option (List ℕ))) → is_letter letter ≡ true → place + length names ≤ 2 ^ 64 → IsRun letter place (place + length names) kept (settle_all letter place kept names)
runs letter place kept [] is few = record { differ = tt; fresh = tt; stand = tt; more = λ x seen. seen }
runs letter place kept (name ∷ names) is few =
    let r = settle letter place kept name in
    let n = length names in
    let first = settles letter place kept name in
    let rest = settle_all letter (place + 1) r.1 names in
    let run = runs letter (place + 1) r.1 names is (omega arith) in
    record {
      differ = (all_weak (IsLabel letter (place + 1) ((place + 1) + n) r.1 false) (λ y. r.0 ≢ y) rest.0 (later letter place n kept r is few first) run.fresh, run.differ);
      fresh = (fresh_by letter place n kept r first, all_weak (IsLabel letter (place + 1) ((place + 1) + n) r.1 false) (IsLabel letter place (place + suc n) kept false) rest.0 (sooner letter place n kept r.1 (more_by letter place kept r first)) run.fresh);
      stand = (stand_by letter place n kept rest.1 r run.more first, all_weak (IsLabel letter (place + 1) ((place + 1) + n) rest.1 true) (IsLabel letter place (place + suc n) rest.1 true) rest.0 (wider letter place n rest.1) run.stand);
      more = λ x seen. run.more x (more_by letter place kept r first x seen);
    }
