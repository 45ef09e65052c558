use Rattle.std.proofs.Common.{◌≡◌, ◌∙◌, ◌<◌, ◌*◌, ◌%◌, ◌+◌, List, length, get_or, drop, arith, ap}
use Rattle.std.proofs.lemmas.List.{get_or_read}
use Rattle.std.proofs.lemmas.Nat.{mod_below}
use Rattle.lnet_model.specs.Cuts.{CutValue, constant_cut}
use Rattle.lnet_cuts.specs.Stored.{first_cuts}
use Rattle.lnet_cuts.specs.Candidates.{count_of, lists_of}
use Rattle.lnet_cuts.proofs.Combos.{in-at, none, picked-more, place-more, some-left, rest-below}
use Rattle.lnet_cuts.proofs.combining.picked.Goals as goal

pub bounds-values-s : goal.bounds-values-s
bounds-values-s c = c.requires.inside _ (in-at c.args.fanins.now c.loop-s.s-index none c.loop-s-test.true)

read : (c : goal.After-cuts-1) → c.as_slice-list.result.now ≡ get_or c.args.values.now (get_or c.args.fanins.now c.loop-s.s-index none).node.0 (first_cuts 0)
read c = c.as_slice-list.ensures.value ∙ get_or_read c.args.values.now (get_or c.args.fanins.now c.loop-s.s-index none).node.0 c.index-values-s.result
    (c.requires.inside _ (in-at c.args.fanins.now c.loop-s.s-index none c.loop-s-test.true)) c.index-values-s.is (first_cuts 0)

left : (c : goal.After-cuts-1) → c.loop-s.rest < length c.as_slice-list.result.now * count_of (lists_of c.args.values.now (drop (c.loop-s.s-index + 1) c.args.fanins.now))
left c = place-more c.args.values.now c.args.fanins.now c.loop-s.s-index c.loop-s.rest none c.as_slice-list.result.now c.loop-s-test.true (read c) c.loop-s.invariant.place

some : (c : goal.After-cuts-1) → 0 < length c.as_slice-list.result.now
some c = some-left (length c.as_slice-list.result.now) (count_of (lists_of c.args.values.now (drop (c.loop-s.s-index + 1) c.args.fanins.now))) c.loop-s.rest (left c)

pub nonzero_rem-rest : goal.nonzero_rem-rest
nonzero_rem-rest c = some c

pub bounds-list-rest : goal.bounds-list-rest
bounds-list-rest c = mod_below c.loop-s.rest (length c.as_slice-list.result.now) (some c)

pub offset_bounds-list-rest : goal.offset_bounds-list-rest
offset_bounds-list-rest c = let h : c.loop-s.rest % length c.as_slice-list.result.now < length c.as_slice-list.result.now = mod_below c.loop-s.rest (length c.as_slice-list.result.now)
    (some c) in record { fits = omega (arith, c.as_slice-list.ensures.few) }

pub nonzero_div-rest : goal.nonzero_div-rest
nonzero_div-rest c = some-left (length c.as_slice-list.result.now) (count_of (lists_of c.args.values.now (drop (c.loop-s.s-index + 1) c.args.fanins.now))) c.loop-s.rest
    (place-more c.args.values.now c.args.fanins.now c.loop-s.s-index c.loop-s.rest none c.as_slice-list.result.now c.loop-s-test.true (c.as_slice-list.ensures.value
    ∙ get_or_read c.args.values.now (get_or c.args.fanins.now c.loop-s.s-index none).node.0 c.index-values-s.result
    (c.requires.inside _ (in-at c.args.fanins.now c.loop-s.s-index none c.loop-s-test.true)) c.index-values-s.is (first_cuts 0)) c.loop-s.invariant.place)

pub loop-s-preserved : goal.loop-s-preserved
loop-s-preserved c =
    let xs : List CutValue = c.as_slice-list.result.now in
    let e : xs ≡ get_or c.args.values.now (get_or c.args.fanins.now c.loop-s.s-index none).node.0 (first_cuts 0) = c.as_slice-list.ensures.value
    ∙ get_or_read c.args.values.now (get_or c.args.fanins.now c.loop-s.s-index none).node.0 c.index-values-s.result
    (c.requires.inside _ (in-at c.args.fanins.now c.loop-s.s-index none c.loop-s-test.true)) c.index-values-s.is (first_cuts 0) in
    let l : c.loop-s.rest < length xs * count_of (lists_of c.args.values.now (drop (c.loop-s.s-index + 1) c.args.fanins.now)) = place-more c.args.values.now c.args.fanins.now
    c.loop-s.s-index c.loop-s.rest none xs c.loop-s-test.true e c.loop-s.invariant.place in
    let n : 0 < length xs = some-left (length xs) (count_of (lists_of c.args.values.now (drop (c.loop-s.s-index + 1) c.args.fanins.now))) c.loop-s.rest l in
    record {
      value = picked-more c.args.values.now c.args.fanins.now c.loop-s.s-index c.loop-s.rest c.loop-s.cuts.items c.push.new.self.items _ none xs c.copied.result c.loop-s-test.true e
          (c.copied.ensures ∙ get_or_read xs (c.loop-s.rest % length xs) c.index-list-rest.result (mod_below c.loop-s.rest (length xs) n) c.index-list-rest.is constant_cut)
          c.push.ensures.items c.loop-s.invariant.value;
      place = rest-below (length xs) (count_of (lists_of c.args.values.now (drop (c.loop-s.s-index + 1) c.args.fanins.now))) c.loop-s.rest l;
      long = c.push.ensures.len ∙ ap (λ v. v + 1) c.loop-s.invariant.long;
    }
