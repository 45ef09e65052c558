use Rattle.std.proofs.Common.{Bool, ◌≡◌, ◌<◌, ◌∷◌, [], List, ℕ, false, IsSome, get_or, length, subst, sym, ap, ◌∙◌, inl, inr, arith}
use Rattle.std.specs.Vec.{vec_capacity}
use Rattle.std.specs.FinMap.{get}
use Rattle.lnet_model.specs.Along.{In, fanin_nodes}
use Rattle.lnet_model.proofs.Map.{count_apart}
use Rattle.lnet_store.specs.Search.{Enters}
use Rattle.lnet_store.proofs.CountLemmas.{get-default}
use Rattle.lnet_store.proofs.SearchLemmas.{places-live, underway-first, underway-live, underway-more, underway-all}
use Rattle.lnet_store.proofs.reaching.search.Goals as goal
use Rattle.lnet_store.proofs.reaching.search.Goals.{then-search-test+else-not-is_marked, else-search-test}

pub enter-requires-clause-places : goal.enter-requires-clause-places
enter-requires-clause-places c =
    let few = c.requires.fitting.few in
    let fit = c.requires.places in
    places-live c.args.nodes.now.nodes c.args.queue.now.items (c.args.from ∷ []) (vec_capacity c.args.queue.now) (λ m i. absurd (subst (λ (q : List ℕ). In m q) c.requires.empty i)) (λ m i. elim i as (λ _. IsSome (get c.args.nodes.now.nodes m)) [ inl e ↦ subst (λ z. IsSome (get c.args.nodes.now.nodes z)) (sym e) c.requires.live | inr j ↦ absurd j ]) (omega arith)

pub search-init : goal.search-init
search-init c = (
  c.enter.ensures.marked,
  underway-first (get c.args.nodes.now.nodes) c.args.from c.enter.new.queue.items c.requires.live (subst (λ (q : List ℕ). Enters q c.enter.new.queue.items (c.args.from ∷ [])) c.requires.empty c.enter.ensures.enters),
  c.enter.ensures.len,
  c.enter.ensures.capacity,
)

pub enter_fanins-requires-clause-known : goal.enter_fanins-requires-clause-known
enter_fanins-requires-clause-known c m i =
    let live = c.requires.closed c.index-n.result.now m i in
    let lt = c.requires.fitting.within m live in
    let known = c.requires.known in
    let same = c.search.invariant.2 in
    omega arith

pub enter_fanins-requires-clause-places : goal.enter_fanins-requires-clause-places
enter_fanins-requires-clause-places c =
    let few = c.requires.fitting.few in
    let fit = c.requires.places in
    let same = c.search.invariant.3 in
    places-live c.args.nodes.now.nodes c.search.queue.items (fanin_nodes (get c.args.nodes.now.nodes c.index-n.result.now)) (vec_capacity c.search.queue) (underway-live (get c.args.nodes.now.nodes) c.args.from c.search.queue.items c.search.head c.search.invariant.1) (c.requires.closed c.index-n.result.now) (omega arith)

pub search-smaller : goal.search-smaller
search-smaller c =
    let few = count_apart c.search.queue.items c.args.nodes.now.nodes c.search.invariant.0.apart (underway-live (get c.args.nodes.now.nodes) c.args.from c.search.queue.items c.search.head c.search.invariant.1) in
    let lt : c.search.head < length c.search.queue.items = omega (arith, c.search-test.true, c.len.ensures) in
    omega arith

pub search-preserved : goal.search-preserved
search-preserved c =
    let lt : c.search.head < length c.search.queue.items = omega (arith, c.search-test.true, c.len.ensures) in
    let here : c.index-n.result.now ≡ get_or c.search.queue.items c.search.head 0 = c.index-n.ensures ∙ get-default c.search.queue.items c.search.head c.index-n.result.now 0 lt in (
      c.enter_fanins.ensures.marked,
      underway-more (get c.args.nodes.now.nodes) c.args.from c.search.queue.items c.search.head c.search.invariant.1 c.enter_fanins.new.queue.items lt (c.requires.closed (get_or c.search.queue.items c.search.head 0)) (subst (λ n. Enters c.search.queue.items c.enter_fanins.new.queue.items (fanin_nodes (get c.args.nodes.now.nodes n))) here c.enter_fanins.ensures.enters),
      c.enter_fanins.ensures.len ∙ c.search.invariant.2,
      c.enter_fanins.ensures.capacity ∙ c.search.invariant.3,
    )

pub returns-clause-answer : goal.returns-clause-answer
returns-clause-answer c =
    let mark : c.is_marked-2.result ≡ get_or c.search.marks.items c.args.to false = c.is_marked-2.ensures ∙ ap (λ (bs : List Bool). get_or bs c.args.to false) c.deref-2.ensures.value in (
      λ is. c.search.invariant.1.reached c.args.to (c.search.invariant.0.listed c.args.to (sym mark ∙ is)),
      λ comes. elim c.search-test.branch [
        | then-search-test+else-not-is_marked w ↦ mark ∙ sym (w.is_marked.ensures ∙ ap (λ (bs : List Bool). get_or bs c.args.to false) w.deref.ensures.value) ∙ w.if-not-is_marked.false
        | else-search-test w ↦ (let le = w.search-test.false in let len = c.len.ensures in mark ∙ c.search.invariant.0.marked c.args.to (underway-all (get c.args.nodes.now.nodes) c.args.from c.search.queue.items c.search.head c.search.invariant.1 (omega arith) c.args.to comes))
      ],
    )
