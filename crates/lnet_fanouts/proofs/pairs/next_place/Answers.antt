use Rattle.std.proofs.Common.{◌≡◌, ℕ, suc, ◌+◌, map, Option, Some, slice_get, sym, subst, ap, ◌∙◌, arith}
use Rattle.std.specs.Prelude.{IfSome, option_map}
use Rattle.lnet_gates.specs.declared.signal.Node.{Node}
use Rattle.lnet_model.specs.Answers.{IsListed, follower, next_in}
use Rattle.lnet_chains.specs.Lists.{list_of}
use Rattle.lnet_store.specs.Cursors.{slot_at}
use Rattle.lnet_store.specs.Linked.{place}
use Rattle.lnet_store.proofs.Cursors.{stands-at}
use Rattle.lnet_fanouts.proofs.NextPlaces.{listed-place, next-follows, first-pair}
use Rattle.lnet_fanouts.proofs.pairs.next_place.Goals as goal

pub overflow_mul-parent : goal.overflow_mul-parent
overflow_mul-parent c =
    let listed = subst (λ (o : Option (Node × ℕ)). IfSome o (λ p. IsListed (Some (map slot_at (list_of c.args.pool.now c.args.n.0))) (p.0.0, p.1))) c.in-Some.is c.requires in
    let low = c.places-places.ensures.ascending.inside c.args.n.0 (place c.in-Some.parent.0 c.in-Some.slot)
    (listed-place c.in-Some.parent.0 c.in-Some.slot (list_of c.args.pool.now c.args.n.0) listed).0 in
    let count = c.places-places.ensures.count in
    omega arith

pub overflow_add-parent : goal.overflow_add-parent
overflow_add-parent c =
    let listed = subst (λ (o : Option (Node × ℕ)). IfSome o (λ p. IsListed (Some (map slot_at (list_of c.args.pool.now c.args.n.0))) (p.0.0, p.1))) c.in-Some.is c.requires in
    let low = c.places-places.ensures.ascending.inside c.args.n.0 (place c.in-Some.parent.0 c.in-Some.slot)
    (listed-place c.in-Some.parent.0 c.in-Some.slot (list_of c.args.pool.now c.args.n.0) listed).0 in
    let count = c.places-places.ensures.count in
    omega arith

pub returns-in-Some : goal.returns-in-Some
returns-in-Some c =
    let xs = list_of c.args.pool.now c.args.n.0 in
    let listed = subst (λ (o : Option (Node × ℕ)). IfSome o (λ p. IsListed (Some (map slot_at (list_of c.args.pool.now c.args.n.0))) (p.0.0, p.1))) c.in-Some.is c.requires in
    let there = listed-place c.in-Some.parent.0 c.in-Some.slot (list_of c.args.pool.now c.args.n.0) listed in
    let at = stands-at (list_of c.args.pool.now c.args.n.0) (place c.in-Some.parent.0 c.in-Some.slot) there.0 in
    let after : at.0 + 1 ≡ suc at.0 = omega arith in
    ap (option_map slot_at) (c.next.ensures c.args.n.0 at.0 at.1 ∙ ap (slice_get (list_of c.args.pool.now c.args.n.0)) after)
    ∙ next-follows (list_of c.args.pool.now c.args.n.0) at.0 (place c.in-Some.parent.0 c.in-Some.slot) (c.places-places.ensures.ascending.ascending c.args.n.0) at.1
    ∙ ap (λ r. follower r (map slot_at (list_of c.args.pool.now c.args.n.0))) there.1
    ∙ sym (ap (λ (o : Option (Node × ℕ)). next_in (Some (map slot_at (list_of c.args.pool.now c.args.n.0))) (option_map {T = Node × ℕ} {U = ℕ × ℕ} (λ p. (p.0.0, p.1)) o)) c.in-Some.is)

pub returns-in-None : goal.returns-in-None
returns-in-None c =
    ap (option_map slot_at) c.first.ensures
    ∙ first-pair (list_of c.args.pool.now c.args.n.0)
    ∙ sym (ap (λ (o : Option (Node × ℕ)). next_in (Some (map slot_at (list_of c.args.pool.now c.args.n.0))) (option_map {T = Node × ℕ} {U = ℕ × ℕ} (λ p. (p.0.0, p.1)) o)) c.in-None.is)
