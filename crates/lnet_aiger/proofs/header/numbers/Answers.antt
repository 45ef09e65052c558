use Rattle.std.proofs.Common.{◌≡◌, ℕ, ◌<◌, ◌≤◌, eqb, false, List, length, sym, ◌∙◌, arith}
use Rattle.std.proofs.lemmas.Bool.{eqb-true}
use Rattle.std.proofs.lemmas.Bool.Decides.{nat_tests}
use Rattle.lnet_aiger.proofs.Words.{stops_at, too_many, ends_at, goes_on}
use Rattle.lnet_aiger.proofs.header.numbers.Goals as goal

pub returns-in_default : goal.returns-in_default
returns-in_default c =
    stops_at c.loop-next.numbers.items c.loop-next.rest.now c.cut_word.result.0.now _ (sym c.cut_word.ensures.word) (sym c.number.ensures ∙ c.in_default.is) c.loop-next.invariant

pub returns-then-is_full : goal.returns-then-is_full
returns-then-is_full c =
    let full : length c.loop-next.numbers.items ≡ 9 = eqb-true _ _ (sym c.is_full.ensures.value ∙ c.if-is_full.true) in
    too_many c.loop-next.numbers.items c.loop-next.rest.now c.cut_word.result.0.now c.in-Some.next _ (sym c.cut_word.ensures.word) (sym c.number.ensures ∙ c.in-Some.is) full c.loop-next.invariant

pub loop-next-preserved : goal.loop-next-preserved
loop-next-preserved c =
    let r = rw c.in-Some-after.is at c.cut_word.ensures.rest in
    let g = goes_on c.loop-next.numbers.items c.loop-next.rest.now c.cut_word.result.0.now c.in-Some.next _ (sym c.cut_word.ensures.word) (sym c.number.ensures ∙ c.in-Some.is) r.0 c.loop-next.invariant in
    rw (c.push.ensures.items, r.1) g

pub returns-in-None : goal.returns-in-None
returns-in-None c =
    let r = rw c.in-None.is at c.cut_word.ensures.rest in
    let few : length c.loop-next.numbers.items < 9 = few_of c.loop-next.numbers.items (sym c.is_full.ensures.value ∙ c.if-is_full.false) c.is_full.ensures.fits in
    rw c.push.ensures.items (ends_at c.loop-next.numbers.items c.loop-next.rest.now c.cut_word.result.0.now c.in-Some.next _ (sym c.cut_word.ensures.word) (sym c.number.ensures ∙ c.in-Some.is) r few c.loop-next.invariant)
  where
    few_of : (xs : List ℕ) → eqb (length xs) 9 ≡ false → length xs ≤ 9 → length xs < 9
    few_of xs e le = grind (arith, nat_tests)
