-- Rows that change places within a number of sixteen.
use Rattle.std.proofs.Common.{◌≡◌, ℕ, ◌+◌, ◌-◌, ◌*◌, ◌^◌, ◌/◌, ◌%◌, ◌<◌, ◌≤◌, Bool, true, false, cond, refl, sym, ◌∙◌, ap, arith, inl, inr, bit_and, leb}
use Rattle.std.specs.Prelude.{bit_xor}
use mathlib.Core.Bool.{◌&&◌}
use Rattle.std.specs.Int.{bit_at}
use Rattle.std.proofs.lemmas.Nat.{pow_pos}
use Rattle.std.proofs.lemmas.Nat.Bits.{bit_at-zero, bit_at_cat_low, bit_at_cat_high}
use Rattle.std.proofs.lemmas.Bool.{cases_lt, lt-leb, le-leb, leb-true, false≢true}
use Rattle.lnet_tables.specs.Bits.{is_set, bit_xor2}
use Rattle.lnet_tables.proofs.Ops.{set_and, set_xor}
use Rattle.lnet_tables.proofs.Swap.{set_shr}
use Rattle.lnet_tables.proofs.WordBits.{mod_bit}
use Rattle.lnet_npn.specs.declared.exchanges.Exchange.{Exchange}
use Rattle.lnet_npn.specs.Exchanges.{fetched, IsExchange}

shl_low : (n s b : ℕ) → b < 16 → b < s → bit_at (n * 2 ^ s % 65536) b ≡ 0
shl_low n s b h lt =
    let e : n * 2 ^ s + 0 ≡ n * 2 ^ s = omega arith in
    mod_bit (n * 2 ^ s) 16 b h ∙ ap (λ m. bit_at m b) (sym e) ∙ bit_at_cat_low n s 0 b lt ∙ bit_at-zero b

shl_high : (n s b : ℕ) → b < 16 → s ≤ b → bit_at (n * 2 ^ s % 65536) b ≡ bit_at n (b - s)
shl_high n s b h le =
    let e : n * 2 ^ s + 0 ≡ n * 2 ^ s = omega arith in
    mod_bit (n * 2 ^ s) 16 b h ∙ ap (λ m. bit_at m b) (sym e) ∙ bit_at_cat_high n s 0 b (pow_pos s) le

set_shl : (n d b : ℕ) → b < 16 → is_set (n * 2 ^ d % 65536) b ≡ (leb d b && is_set n (b - d))
unfolding is_set
set_shl n d b h =
    elim (cases_lt b d) [
      | inl lt ↦ rw (lt-leb d b lt, shl_low n d b h lt) refl
      | inr ge ↦ rw (le-leb d b ge, shl_high n d b h ge) refl
    ]

and_false : (x : Bool) → (x && false) ≡ false
and_false true = refl
and_false false = refl

-- a row that comes from above
from_above : (w u z : Bool) → z ≡ false → bit_xor2 (bit_xor2 w (bit_xor2 u w && true)) z ≡ u
from_above true true z e = rw e refl
from_above true false z e = rw e refl
from_above false true z e = rw e refl
from_above false false z e = rw e refl

-- a row that comes from below
from_below : (w v y : Bool) → y ≡ false → bit_xor2 (bit_xor2 w y) (bit_xor2 w v && true) ≡ v
from_below true true y e = rw e refl
from_below true false y e = rw e refl
from_below false true y e = rw e refl
from_below false false y e = rw e refl

-- a row that stays
stays : (w y z : Bool) → y ≡ false → z ≡ false → bit_xor2 (bit_xor2 w y) z ≡ w
stays true y z e d = rw (e, d) refl
stays false y z e d = rw (e, d) refl

pick : (word x up down : ℕ) (r l s w2 : Bool) → (r && (l && s)) ≡ false → (l ≡ true → w2 ≡ is_set word x)
    → bit_xor2 (bit_xor2 (is_set word x) (bit_xor2 (is_set word up) (is_set word x) && r)) (l && (bit_xor2 w2 (is_set word down) && s))
    ≡ is_set word (cond r up (cond (l && s) down x))
pick word x up down true true true w2 h e = absurd (false≢true (sym h))
pick word x up down true true false w2 h e = from_above (is_set word x) (is_set word up) _ (and_false _)
pick word x up down true false s w2 h e = from_above (is_set word x) (is_set word up) false refl
pick word x up down false true true w2 h e = rw (e refl) (from_below (is_set word x) (is_set word down) _ (and_false _))
pick word x up down false true false w2 h e = stays (is_set word x) _ _ (and_false _) (and_false _)
pick word x up down false false s w2 h e = stays (is_set word x) _ _ (and_false _) refl

-- the code's two steps
abbrev pub changed : ℕ → ℕ → ℕ → ℕ
changed word rows d = bit_and (bit_xor (word / 2 ^ d) word) rows

changed_at : (word rows d x : ℕ) → is_set (changed word rows d) x ≡ (bit_xor2 (is_set word (x + d)) (is_set word x) && is_set rows x)
changed_at word rows d x =
    set_and (bit_xor (word / 2 ^ d) word) rows x
    ∙ ap (λ b. b && is_set rows x) (set_xor (word / 2 ^ d) word x ∙ ap (λ b. bit_xor2 b (is_set word x)) (set_shr word d x))

pub exchanged_at : (word : ℕ) (e : Exchange) (x : ℕ) → IsExchange e → x < 16
    → is_set (bit_xor (bit_xor word (changed word e.rows e.distance)) (changed word e.rows e.distance * 2 ^ e.distance % 65536)) x ≡ is_set word (fetched e x)
unfolding fetched
exchanged_at word e x ok lt =
    let d : ℕ = e.distance in
    let c : ℕ = changed word e.rows d in
    set_xor (bit_xor word c) (c * 2 ^ d % 65536) x
    ∙ ap (λ b. bit_xor2 b (is_set (c * 2 ^ d % 65536) x)) (set_xor word c x ∙ ap (λ b. bit_xor2 (is_set word x) b) (changed_at word e.rows d x))
    ∙ ap (λ b. bit_xor2 (bit_xor2 (is_set word x) (bit_xor2 (is_set word (x + d)) (is_set word x) && is_set e.rows x)) b)
    (set_shl c d x lt ∙ ap (λ b. leb d x && b) (changed_at word e.rows d (x - d)))
    ∙ pick word x (x + d) (x - d) (is_set e.rows x) (leb d x) (is_set e.rows (x - d)) (is_set word ((x - d) + d)) (ok.apart x lt)
    (λ t. ap (is_set word) (let h : d ≤ x = leb-true d x t in omega arith))
