use Rattle.std.proofs.Common.{◌≡◌, length-set, set, subst, ap, ◌∙◌, arith}
use Rattle.std.specs.Prelude.{◌⊎◌, ◌↔◌}
use Rattle.lnet_model.specs.Networks.{NetworkValue, entry_at}
use Rattle.lnet_model.specs.Along.{In, nodes_read}
use Rattle.lnet_chains.specs.Lists.{Within, list_of}
use Rattle.lnet_store.specs.StoreValues.{StoreValue}
use Rattle.lnet_store.specs.Linked.{IsSlotOf}
use Rattle.lnet_fanouts.specs.FanoutViews.{slots_at}
use Rattle.lnet_fanouts.proofs.Events.{has-list, known, slots-same}
use Rattle.lnet_fanouts.proofs.Filling.{absent-yet, filled-more, living-more}
use Rattle.lnet_fanouts.proofs.linking.fill.Goals as goal

pub link-requires-clause-known : goal.link-requires-clause-known
link-requires-clause-known c m i =
    let network : c.look-look.result.0.network ≡ c.args.store.now.network = ap (λ (s : StoreValue). s.network) c.look-look.ensures.look in
    let len = c.numbers.invariant.len in
    let room = c.requires.room in
    let value = c.numbers-i-end.ensures.value in
    known c.args.store.now.network c.numbers.pool c.numbers.live.items c.numbers.i c.numbers-i-end.ensures.stored
    (λ q live. let lt = c.numbers-i-end.ensures.within q live in omega arith) c.numbers.invariant.slots m
    (subst (λ (N : NetworkValue). In m (nodes_read (slots_at (entry_at N) c.numbers.i))) network i)

pub link-requires-clause-within : goal.link-requires-clause-within
link-requires-clause-within c =
    let len = c.numbers.invariant.len in
    let room = c.requires.room in
    let test = c.numbers-test.true in
    let value = c.numbers-i-end.ensures.value in
    let limit = c.numbers-i-end.ensures.limit in
    has-list c.numbers.pool c.numbers.live.items c.numbers.i c.numbers.invariant.slots (omega arith) (omega arith)

pub link-requires-clause-absent : goal.link-requires-clause-absent
link-requires-clause-absent c = absent-yet (entry_at c.args.store.now.network) c.numbers.pool c.numbers.i c.numbers.invariant.listed

pub numbers-preserved : goal.numbers-preserved
numbers-preserved c =
    let network : c.look-look.result.0.network ≡ c.args.store.now.network = ap (λ (s : StoreValue). s.network) c.look-look.ensures.look in
    let old_len = c.numbers.invariant.len in
    let room = c.requires.room in
    let test = c.numbers-test.true in
    let value = c.numbers-i-end.ensures.value in
    let set_len = length-set c.numbers.live.items c.numbers.i c.is_live.result in
    record {
      slots = slots-same c.numbers.pool c.link.new.pool c.numbers.live.items (set c.numbers.live.items c.numbers.i c.is_live.result) c.numbers.invariant.slots c.link.ensures.room set_len;
      len = set_len ∙ old_len;
      stamp = c.link.ensures.stamp ∙ c.numbers.invariant.stamp;
      listed = filled-more c.args.store.now.network c.numbers.pool c.link.new.pool c.numbers.i c.numbers-i-end.ensures.stored.dag c.numbers.invariant.listed
          (λ m p. subst (λ (N : NetworkValue). Within p (list_of c.link.new.pool m) ↔ (Within p (list_of c.numbers.pool m) ⊎ IsSlotOf c.numbers.i (slots_at (entry_at N) c.numbers.i) m p)) network
          (c.link.ensures.named m p));
      living = living-more c.args.store.now.network c.numbers.live.items c.numbers.i c.is_live.result (omega arith) c.is_live.ensures c.numbers.invariant.living;
    }
