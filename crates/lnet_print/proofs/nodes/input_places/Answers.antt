use Rattle.std.proofs.Common.{◌≡◌, ◌<◌, ◌+◌, IsSome, None, Some, slice_get, slice_index_or, slice_set, length, inl, inr, sym, ap, subst, ◌∙◌, refl, arith}
use Rattle.lnet_model.specs.Networks.{entry_at, Input}
use Rattle.lnet_print.specs.Places.{place_of, place_below}
use Rattle.std.proofs.lemmas.Bool.Decides.{eqb_tells}
use Rattle.std.proofs.lemmas.List.{length-set, get_or-set_other}
use Rattle.std.proofs.lemmas.Grind.{get_or-set_at}
use Rattle.std.proofs.lemmas.Option.{slice_get_within, slice_get-get_or}
use Rattle.lnet_print.proofs.PlaceLemmas.{place-input, below-none, below-other, below-here, below-all}
use Rattle.lnet_print.proofs.nodes.input_places.Goals as goal
use Rattle.lnet_print.proofs.nodes.input_places.Goals.{in-Some, in_default}

same-some : {A : Type 0} {x y : A} → Some x ≡ Some y → x ≡ y
same-some e = cc

no-some : {A : Type 0} {x : A} → None ≡ Some x → ⊥
no-some e = cc

pub index_mut-requires : goal.index_mut-requires
index_mut-requires g c =
    let at : slice_get c.args.net.now.core.network.inputs c.loop-k.k ≡ Some c.in-Some.node.0 = sym c.in-Some.ensures in
    let here : entry_at c.args.net.now.core.network c.in-Some.node.0 ≡ Some (Input c.loop-k.k) = (c.live_count-live.ensures.stored.inputs c.in-Some.node.0 c.loop-k.k).1 at in
    let within = c.numbers-numbers.ensures.within c.in-Some.node.0 (subst IsSome (sym here) refl) in
    let len = c.loop-k.invariant.len in
    omega arith

pub loop-k-init : goal.loop-k-init
loop-k-init g c = record {
  len = c.in_ok-places.ensures.len ∙ c.numbers-numbers.ensures.value;
  noted = λ n. c.in_ok-places.ensures.none n ∙ sym (below-none (place_of (entry_at c.args.net.now.core.network n)));
}

pub loop-k-preserved : goal.loop-k-preserved
loop-k-preserved g c = elim c.match-input_at.branch [
  | in-Some w ↦
      let N = c.args.net.now.core.network in
      let at : slice_get N.inputs c.loop-k.k ≡ Some w.in-Some.node.0 = sym w.in-Some.ensures in
      let here : entry_at N w.in-Some.node.0 ≡ Some (Input c.loop-k.k) = (c.live_count-live.ensures.stored.inputs w.in-Some.node.0 c.loop-k.k).1 at in
      let within = c.numbers-numbers.ensures.within w.in-Some.node.0 (subst IsSome (sym here) refl) in
      let len = c.loop-k.invariant.len in
      let items = ap (λ p. p.items) w.places-is in
      record {
        len = ap length items ∙ length-set c.loop-k.places.items w.in-Some.node.0 (Some c.loop-k.k) ∙ len;
        noted = λ n. ap (λ xs. slice_index_or xs n None) items ∙ elim (eqb_tells n w.in-Some.node.0) as (λ _. slice_index_or (slice_set c.loop-k.places.items w.in-Some.node.0 (Some c.loop-k.k)) n None ≡ place_below (c.loop-k.k + 1) (place_of (entry_at N n))) [
          | inl p ↦ get_or-set_at c.loop-k.places.items w.in-Some.node.0 n (Some c.loop-k.k) None p.1 (omega arith) ∙ sym (ap (λ m. place_below (c.loop-k.k + 1) (place_of (entry_at N m))) p.1 ∙ ap (λ o. place_below (c.loop-k.k + 1) (place_of o)) here ∙ below-here c.loop-k.k)
          | inr p ↦ get_or-set_other c.loop-k.places.items w.in-Some.node.0 n (Some c.loop-k.k) None p.1 ∙ c.loop-k.invariant.noted n ∙ sym (below-other c.loop-k.k (place_of (entry_at N n)) (λ is. p.1 (same-some (sym ((c.live_count-live.ensures.stored.inputs n c.loop-k.k).0 (place-input (entry_at N n) c.loop-k.k is)) ∙ at))))
        ];
      }
  | in_default w ↦
      let below : c.loop-k.k < length c.args.net.now.core.network.inputs = (let lt = c.loop-k-test.true in let count = c.input_count-k-end.ensures in omega arith) in
      absurd (no-some (w.in_default.ensures ∙ slice_get-get_or c.args.net.now.core.network.inputs c.loop-k.k 0 below))
]

pub returns : goal.returns
returns g c n =
    let N = c.args.net.now.core.network in
    let past = c.loop-k-test.false in
    c.loop-k.invariant.noted n ∙ below-all c.loop-k.k (place_of (entry_at N n)) (λ j is. (let within = slice_get_within N.inputs j n ((c.live_count-live.ensures.stored.inputs n j).0 (place-input (entry_at N n) j is)) in let count = c.input_count-k-end.ensures in omega arith))
