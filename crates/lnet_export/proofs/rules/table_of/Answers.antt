use Rattle.std.proofs.Common.{◌≡◌, ◌^◌, ◌<◌, ◌≤◌, ℕ, Bool, true, nat_lt, not, sym, ap, ◌∙◌, arith, pow_mono}
use Rattle.std.specs.Prelude.{bit_and}
use Rattle.std.specs.Int.{bit_not, w64}
use Rattle.std.proofs.lemmas.Nat.{and_le_r}
use Rattle.lnet_tables.specs.Bits.{is_set, number_by}
use Rattle.lnet_tables.proofs.Ops.{set_not}
use Rattle.lnet_tables.proofs.Shrunk.{number_same, number_self}
use Rattle.lnet_gates.proofs.WordLemmas.{first-kept}
use Rattle.lnet_export.specs.Exported.{turned, phased}
use Rattle.lnet_export.proofs.rules.table_of.Goals as goal

turned-word : (t n mask : ℕ) → n ≤ 6 → t < 2 ^ 64 → ((q : ℕ) → q < 64 → is_set mask q ≡ nat_lt q (2 ^ n)) → mask < 2 ^ 2 ^ n → bit_and (bit_not w64 t) mask ≡ turned n t
turned-word t n mask few fits rows below =
    let under : bit_and (bit_not w64 t) mask < 2 ^ 2 ^ n = (let h = and_le_r (bit_not w64 t) mask in omega arith) in
    sym (number_self (bit_and (bit_not w64 t) mask) (2 ^ n) under)
    ∙ number_same (is_set (bit_and (bit_not w64 t) mask)) (λ r. not (is_set t r)) (2 ^ n)
    (λ r low. let h : 2 ^ n ≤ 2 ^ 6 = pow_mono few in first-kept (bit_not w64 t) mask n r few low rows ∙ set_not t r fits (omega arith))

pub returns-then-phase : goal.returns-then-phase
returns-then-phase c = turned-word c.args.table c.args.count c.first_rows.result c.requires c.ranges.table.fits c.first_rows.ensures.rows c.first_rows.ensures.fits ∙ ap (λ b. phased b c.args.count c.args.table) (sym c.if-phase.true)
