-- Numbers in groups of seven bits.
use Rattle.std.proofs.Common.{◌≡◌, ℕ, zero, suc, ◌+◌, ◌-◌, ◌*◌, ◌^◌, ◌<◌, ◌≤◌, Bool, true, false, cond, ltb, List, [], ◌∷◌, Result, Ok, Err, refl, sym, ap, ◌∙◌, add-one, arith, lit≤}
use Rattle.std.proofs.lemmas.Bool.Decides.{nat_tests}
use Rattle.std.proofs.Math.Nat.{pow-suc}
use Rattle.lnet_edge.specs.declared.fault.Fault.{Fault}
use Rattle.lnet_edge.specs.declared.fault.Fault.TheVariants as fault
use Rattle.lnet_aiger.specs.Chain.{◌>>=◌}
use Rattle.lnet_aiger.specs.Deltas.{groups_at}

-- the low groups, and then the others
abbrev pub with_low : ℕ → ℕ → Result (ℕ × List ℕ) Fault → Result (ℕ × List ℕ) Fault
with_low value scale read = read >>= λ high. Ok (value + high.0 * scale, high.1)

abbrev made : ℕ → List ℕ → Result (ℕ × List ℕ) Fault
made n rest = Ok (n, rest)

regroup : (value scale b : ℕ) (read : Result (ℕ × List ℕ) Fault) → with_low value scale (read >>= λ high. Ok ((b - 128) + 128 * high.0, high.1)) ≡ with_low (value + (b - 128) * scale) (scale * 128) read
regroup value scale b (Ok high) = ap (λ (n : ℕ). made n high.1) (omega arith)
regroup value scale b (Err f) = refl

by_test : (n b : ℕ) (bs : List ℕ) (t : Bool) → ltb b 128 ≡ t → groups_at (suc n) (b ∷ bs) ≡ cond t (Ok (b, bs)) (groups_at n bs >>= λ high. Ok ((b - 128) + 128 * high.0, high.1))
unfolding groups_at
by_test n b bs t e = ap (λ (u : Bool). cond u (made b bs) (groups_at n bs >>= λ high. Ok ((b - 128) + 128 * high.0, high.1))) e

pub groups_more : (value scale n b : ℕ) (bytes bs : List ℕ) (total : Result (ℕ × List ℕ) Fault) → bytes ≡ b ∷ bs → 128 ≤ b → with_low value scale (groups_at (suc n) bytes) ≡ total → with_low (value + (b - 128) * scale) (scale * 128) (groups_at n bs) ≡ total
groups_more value scale n b bytes bs total e big so_far =
    let t : ltb b 128 ≡ false = grind (arith, nat_tests) in
    sym (regroup value scale b (groups_at n bs)) ∙ sym (ap (with_low value scale) (ap (groups_at (suc n)) e ∙ by_test n b bs false t)) ∙ so_far

pub groups_last : (value scale n b : ℕ) (bytes bs : List ℕ) (total : Result (ℕ × List ℕ) Fault) → bytes ≡ b ∷ bs → b < 128 → with_low value scale (groups_at (suc n) bytes) ≡ total → total ≡ Ok (value + b * scale, bs)
groups_last value scale n b bytes bs total e small so_far =
    let t : ltb b 128 ≡ true = grind (arith, nat_tests) in
    sym so_far ∙ ap (with_low value scale) (ap (groups_at (suc n)) e ∙ by_test n b bs true t)

pub groups_missing : (value scale n : ℕ) (bytes : List ℕ) (total : Result (ℕ × List ℕ) Fault) → bytes ≡ [] → with_low value scale (groups_at n bytes) ≡ total → total ≡ Err fault.Missing
unfolding groups_at
groups_missing value scale n bytes total e so_far = sym so_far ∙ ap (λ (bs : List ℕ). with_low value scale (groups_at n bs)) e

pub groups_too_many : (value scale : ℕ) (bytes : List ℕ) (total : Result (ℕ × List ℕ) Fault) → (bytes ≡ [] → ⊥) → with_low value scale (groups_at 0 bytes) ≡ total → total ≡ Err fault.Delta
unfolding groups_at
groups_too_many value scale [] total some so_far = absurd (some refl)
groups_too_many value scale (b ∷ bs) total some so_far = sym so_far

whole : (read : Result (ℕ × List ℕ) Fault) → with_low 0 1 read ≡ read
whole (Ok x) = ap (λ (n : ℕ). made n x.1) (omega arith)
whole (Err f) = refl

-- the scale of a group
pub scale_small : (i : ℕ) → i < 5 → 128 ^ i ≤ 268435456
scale_small zero lt = lit≤ tt
scale_small (suc zero) lt = lit≤ tt
scale_small (suc (suc zero)) lt = lit≤ tt
scale_small (suc (suc (suc zero))) lt = lit≤ tt
scale_small (suc (suc (suc (suc zero)))) lt = lit≤ tt
scale_small (suc (suc (suc (suc (suc i))))) lt = absurd (omega arith)

pub group_small : (value scale b : ℕ) → value < scale → b < 128 → value + b * scale < scale * 128
group_small value scale b low small =
    let m : b * scale ≤ 127 * scale = grind arith in
    omega arith

pub product_small : (b scale : ℕ) → b < 256 → scale ≤ 268435456 → b * scale ≤ 255 * 268435456
product_small b scale small le = grind arith

pub scale_next : (scale i : ℕ) → scale ≡ 128 ^ i → scale * 128 ≡ 128 ^ (i + 1)
scale_next scale i e = rw e (sym (ap (λ (k : ℕ). 128 ^ k) (add-one i) ∙ pow-suc 128 i))
