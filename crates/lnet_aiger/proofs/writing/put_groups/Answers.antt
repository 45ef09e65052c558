use Rattle.std.proofs.Common.{◌≡◌, ℕ, suc, ◌+◌, ◌-◌, ◌%◌, ◌/◌, ◌<◌, ◌≤◌, ◌++◌, ◌∷◌, [], List, sym, ap, ◌∙◌, append_assoc, arith}
use Rattle.std.proofs.lemmas.List.{append-nil}
use Rattle.lnet_aiger.specs.Texts.{groups_text}
use Rattle.lnet_aiger.proofs.WritingSteps.{groups_text-last, groups_text-more, groups_text-zero}
use Rattle.lnet_aiger.proofs.writing.put_groups.Goals as goal

last : (out : List ℕ) (n i : ℕ) (total : List ℕ) → n < 128 → i < 5 → out ++ groups_text (5 - i) n ≡ total → out ++ n ∷ [] ≡ total
last out n i total small lt e = let k : 5 - i ≡ suc (5 - (i + 1)) = omega arith in sym (ap (λ (t : List ℕ). out ++ t) (ap (λ (j : ℕ). groups_text j n) k ∙ groups_text-last (5 - (i + 1)) n small)) ∙ e

more : (out : List ℕ) (n i : ℕ) (total : List ℕ) → 128 ≤ n → i < 5 → out ++ groups_text (5 - i) n ≡ total → (out ++ (128 + n % 128) ∷ []) ++ groups_text (5 - (i + 1)) (n / 128) ≡ total
more out n i total big lt e =
    let k : 5 - i ≡ suc (5 - (i + 1)) = omega arith in
    append_assoc out ((128 + n % 128) ∷ []) (groups_text (5 - (i + 1)) (n / 128)) ∙ sym (ap (λ (t : List ℕ). out ++ t) (ap (λ (j : ℕ). groups_text j n) k ∙ groups_text-more (5 - (i + 1)) n big)) ∙ e

ends : (out : List ℕ) (n i : ℕ) (total : List ℕ) → 5 ≤ i → out ++ groups_text (5 - i) n ≡ total → out ≡ total
ends out n i total le e =
    let k : 5 - i ≡ 0 = omega arith in
    sym (append-nil out) ∙ sym (ap (λ (t : List ℕ). out ++ t) (ap (λ (j : ℕ). groups_text j n) k ∙ groups_text-zero n)) ∙ e

pub returns-then-rest-lt128 : goal.returns-then-rest-lt128
returns-then-rest-lt128 c = rw c.in_ok-push.ensures.items (last c.loop-group.out.items c.loop-group.rest c.loop-group.group _ c.if-rest-lt128.true c.loop-group-test.true c.loop-group.invariant)

pub loop-group-preserved : goal.loop-group-preserved
loop-group-preserved c = rw c.in_ok-push-2.ensures.items (more c.loop-group.out.items c.loop-group.rest c.loop-group.group _ c.if-rest-lt128.false c.loop-group-test.true c.loop-group.invariant)

pub returns : goal.returns
returns c = ends c.loop-group.out.items c.loop-group.rest c.loop-group.group _ c.loop-group-test.false c.loop-group.invariant
