use Rattle.std.proofs.Common.{◌≡◌, List, inl, sym, ap, subst, ◌∙◌, arith}
use Rattle.lnet_gates.specs.declared.signal.Signal.{Signal}
use Rattle.lnet_gates.specs.Gates.{GateValue}
use Rattle.lnet_store.specs.Linked.{AreRelinked, IsSlotOf, place}
use Rattle.lnet_store.proofs.KeptLemmas.{one-gate}
use Rattle.lnet_store.proofs.linking.relink.Goals as goal

pub unlink_all-requires-clause-linked : goal.unlink_all-requires-clause-linked
unlink_all-requires-clause-linked c m p s =
    let fanins : c.deref.result.now ≡ c.in-Some.gate.now.fanins = c.deref.ensures.0 ∙ ap (λ (g : GateValue). g.fanins) c.gate.view_is in
    c.requires.ready.linked c.in-Some.gate.now (sym c.in-Some.ensures) m p (subst (λ (ss : List Signal). IsSlotOf c.args.n.0 ss m p) fanins s)

pub link_all-requires-clause-known : goal.link_all-requires-clause-known
link_all-requires-clause-known c m i = let k = c.requires.ready.known m i in let e = c.unlink_all.ensures.len in omega arith

pub link_all-requires-clause-absent : goal.link_all-requires-clause-absent
link_all-requires-clause-absent c m j lt h =
    let fanins : c.deref.result.now ≡ c.in-Some.gate.now.fanins = c.deref.ensures.0 ∙ ap (λ (g : GateValue). g.fanins) c.gate.view_is in
    c.unlink_all.ensures.gone m (place c.args.n.0 j) h
    (subst (λ (ss : List Signal). IsSlotOf c.args.n.0 ss m (place c.args.n.0 j)) (sym fanins)
    (c.requires.ready.absent c.in-Some.gate.now (sym c.in-Some.ensures) m j lt ((c.unlink_all.ensures.named m (place c.args.n.0 j)).1 (inl h))))

pub returns-clause-relinked : goal.returns-clause-relinked
returns-clause-relinked c g at =
    let fanins : c.deref.result.now ≡ c.in-Some.gate.now.fanins = c.deref.ensures.0 ∙ ap (λ (g : GateValue). g.fanins) c.gate.view_is in
    let same : c.in-Some.gate.now ≡ g = one-gate c.in-Some.gate.now g (c.in-Some.ensures ∙ at) in
    subst (λ (rs : List Signal). AreRelinked c.args.n.0 rs c.args.signals.now c.args.chains.now c.link_all.new.chains) (fanins ∙ ap (λ (g : GateValue). g.fanins) same) (record {
      between = c.unlink_all.new.chains;
      taken = c.unlink_all.ensures.named;
      gone = c.unlink_all.ensures.gone;
      fewer = c.unlink_all.ensures.counted;
      named = c.link_all.ensures.named;
      more = c.link_all.ensures.counted;
    })
