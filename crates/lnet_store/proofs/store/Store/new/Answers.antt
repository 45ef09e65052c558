use Rattle.std.proofs.Common.{◌≡◌, ℕ, zero, suc, [], ◌∷◌, ◌++◌, length, false, get_or, refl, ap, subst, sym, ◌∙◌, arith}
use Rattle.lnet_model.specs.Dags.{IsStored}
use Rattle.lnet_store.specs.Fields.{AreReferences, network_of}
use Rattle.lnet_store.specs.Linked.{AreLinked}
use Rattle.lnet_chains.specs.Lists.{list_of}
use Rattle.lnet_store.proofs.LinkLemmas.{linked-first}
use Rattle.lnet_store.proofs.StoreLemmas.{network-first, first-stored, first-references}
use Rattle.lnet_store.proofs.store.Store.new.Goals as goal

one-mark : (n : ℕ) → get_or (false ∷ []) n false ≡ false
one-mark zero = refl
one-mark (suc n) = refl

pub returns-clause-network : goal.returns-clause-network
returns-clause-network c = network-first c.in_ok-nodes.nodes.nodes c.in_ok-inputs.inputs.items c.new-2.result.items c.in_ok-nodes.ensures.nodes c.in_ok-inputs.ensures.items c.new-2.ensures.items

pub invariant_of-result : goal.invariant_of-result
invariant_of-result c =
    let first = network-first c.in_ok-nodes.nodes.nodes c.in_ok-inputs.inputs.items c.new-2.result.items c.in_ok-nodes.ensures.nodes c.in_ok-inputs.ensures.items c.new-2.ensures.items in
    let counts : c.push.new.self.items ≡ 0 ∷ [] = c.in_ok-push.ensures.items ∙ ap (λ xs. xs ++ 0 ∷ []) c.new-counts.ensures.items in
    let named : AreReferences (0 ∷ []) (network_of c.in_ok-nodes.nodes.nodes c.in_ok-inputs.inputs.items c.new-2.result.items) = subst (AreReferences (0 ∷ [])) (sym first) first-references in
    let marks : c.push-2.new.self.items ≡ false ∷ [] = c.in_ok-push-2.ensures.items ∙ ap (λ xs. xs ++ false ∷ []) c.new-marks.ensures.items in (
      subst IsStored (sym first) first-stored,
      record {
        fitting = c.in_ok-nodes.ensures.fitting;
        inputs_fit = omega (arith, c.in_ok-inputs.ensures.capacity, c.in_ok-nodes.ensures.room);
        few_inputs = omega (arith, ap length c.in_ok-inputs.ensures.items);
        counts_fit = omega (arith, ap length counts, c.in_ok-nodes.ensures.room);
        marks_fit = omega (arith, ap length marks, c.in_ok-nodes.ensures.room);
        unmarked = λ n. subst (λ bs. get_or bs n false ≡ false) (sym marks) (one-mark n);
        queue_fits = omega (arith, c.in_ok-queue.ensures.capacity, c.in_ok-nodes.ensures.room);
      },
      subst (λ xs. AreReferences xs (network_of c.in_ok-nodes.nodes.nodes c.in_ok-inputs.inputs.items c.new-2.result.items)) (sym counts) named,
      subst (AreLinked c.grow_chains.new.chains c.in_ok-nodes.nodes.room) (sym first)
          (linked-first c.grow_chains.new.chains c.in_ok-nodes.nodes.room c.in_ok-grow_chains.ensures.chains.places
          (let r = c.in_ok-nodes.ensures.room in let k = c.in_ok-grow_chains.ensures.ok in omega arith) (λ m. c.in_ok-grow_chains.ensures.chains.same m ∙ ap (λ v. list_of v m) c.new-chains.ensures)),
    )
