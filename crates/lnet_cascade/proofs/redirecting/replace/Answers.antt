use Rattle.std.proofs.Common.{◌≡◌, IsSome, refl, sym, ap, subst, ◌∙◌, arith}
use Rattle.std.specs.Prelude.{option_map}
use Rattle.lnet_model.specs.Networks.{entry_at, gate_in, live_count}
use Rattle.lnet_model.specs.Along.{In, fanin_nodes}
use Rattle.lnet_model.specs.Changes.{IsGateAt, without}
use Rattle.lnet_model.specs.Fanouts.{references}
use Rattle.lnet_model.specs.Dags.{AreBelow}
use Rattle.lnet_hashed.specs.Watches.{AreFitIn}
use Rattle.lnet_hashed.proofs.Indexing.{indexed-same}
use Rattle.lnet_cascade.proofs.DirtySteps.{no_self}
use Rattle.lnet_cascade.proofs.Marking.{marks-around}
use Rattle.lnet_substitution.specs.Replaced.{redirected_entry}
use Rattle.lnet_cascade.proofs.NoteSteps.{can-note, follow-twice, still-noting}
use Rattle.lnet_cascade.proofs.RedirectedAll.{all-gate, all-free, all-replaced, outputs-count, outputs-entry}
use Rattle.lnet_cascade.proofs.SameViews.{fit-outputs, below-outputs}
use Rattle.lnet_cascade.proofs.redirecting.replace.Goals as goal

pub redirect_outputs-requires-clause-live_from : goal.redirect_outputs-requires-clause-live_from
redirect_outputs-requires-clause-live_from g c =
    subst IsSome (sym (c.redirect_gates.ensures.redirected.each c.args.redirection.from.0 ∙ ap (option_map (redirected_entry c.args.redirection.from.0 c.args.redirection.to)) c.requires.gate.1)) refl

pub redirect_outputs-requires-clause-room : goal.redirect_outputs-requires-clause-room
redirect_outputs-requires-clause-room g c =
    let after = c.redirect_gates.ensures.midway.midway in
    can-note c.redirect_gates.new.hashed.store.network c.redirect_gates.new.hashed.notes c.redirect_gates.new.hashed.room after.below after.noting

pub remove-requires-clause-gate : goal.remove-requires-clause-gate
remove-requires-clause-gate g c =
    let C = c.args.hashed.now.store.network in
    subst (λ N. IsGateAt N c.args.redirection.from.0) (sym c.redirect_outputs.ensures.network)
    (all-gate C c.redirect_gates.new.hashed.store.network c.args.redirection.from.0 c.args.redirection.to c.redirect_gates.ensures.redirected c.requires.free c.requires.live c.requires.gate)

pub remove-requires-clause-free : goal.remove-requires-clause-free
remove-requires-clause-free g c =
    let C = c.args.hashed.now.store.network in
    ap (λ N. references N c.args.redirection.from.0) c.redirect_outputs.ensures.network
    ∙ all-free C c.redirect_gates.new.hashed.store.network c.args.redirection.from.0 c.args.redirection.to c.redirect_gates.ensures.redirected c.requires.free c.requires.live c.requires.gate

pub remove-requires-clause-midway : goal.remove-requires-clause-midway
remove-requires-clause-midway g c =
    let D = c.redirect_gates.new.hashed.store.network in
    let is = c.redirect_outputs.ensures.network in
    let count = ap live_count is ∙ outputs-count D c.args.redirection.from.0 c.args.redirection.to in
    let spare = c.redirect_outputs.ensures.spare in
    let stored = c.redirect_gates.ensures.midway.midway.stored in
    record {
      below = subst (λ N. AreBelow N c.redirect_gates.new.hashed.room) (sym is) (below-outputs D c.args.redirection.from.0 c.args.redirection.to c.redirect_gates.new.hashed.room c.redirect_gates.ensures.midway.midway.below);
      stored = omega arith;
      limit = c.redirect_gates.ensures.midway.midway.limit;
      noting = still-noting c.redirect_gates.new.hashed.room c.redirect_outputs.ensures.noted c.redirect_gates.ensures.midway.midway.noting;
      indexed =
          indexed-same D c.redirect_outputs.new.store.network c.redirect_gates.new.hashed.keys c.redirect_gates.new.hashed.room
          (λ m. ap gate_in (ap (λ N. entry_at N m) c.redirect_outputs.ensures.network ∙ outputs-entry D c.args.redirection.from.0 c.args.redirection.to m))
          c.redirect_gates.ensures.midway.midway.indexed;
    }

pub remove-requires-clause-fit : goal.remove-requires-clause-fit
remove-requires-clause-fit g c =
    subst (λ N. AreFitIn (λ b. goal.View-dyn g (b.vtable, b.value)) N c.redirect_gates.new.hashed.room c.redirect_gates.new.watch) (sym c.redirect_outputs.ensures.network)
    (fit-outputs _ _ _ c.redirect_gates.new.hashed.store.network c.args.redirection.from.0 c.args.redirection.to c.redirect_gates.new.hashed.room c.redirect_gates.new.watch c.redirect_gates.ensures.told.fit)

pub returns-clause-dirty : goal.returns-clause-dirty
returns-clause-dirty g c =
    marks-around (λ m. In c.args.redirection.from.0 (fanin_nodes (entry_at c.args.hashed.now.store.network m))) c.args.redirection.from.0 c.args.hashed.now.keys.dirty c.redirect_gates.new.hashed.keys.dirty c.remove.new.hashed.keys.dirty
    (no_self c.args.hashed.now.store.network c.args.redirection.from.0 c.numbers-first.ensures.stored) c.redirect_gates.ensures.dirty c.remove.ensures.dirty

pub returns-clause-network : goal.returns-clause-network
returns-clause-network g c =
    let C = c.args.hashed.now.store.network in
    c.remove.ensures.network ∙ ap (λ N. without N c.args.redirection.from.0) c.redirect_outputs.ensures.network
    ∙ all-replaced C c.redirect_gates.new.hashed.store.network c.args.redirection.from.0 c.args.redirection.to c.redirect_gates.ensures.redirected c.requires.free c.requires.live c.requires.gate

pub returns-clause-count : goal.returns-clause-count
returns-clause-count g c =
    let rest = c.remove.ensures.count in
    let same : live_count c.redirect_outputs.new.store.network ≡ live_count c.args.hashed.now.store.network = ap live_count c.redirect_outputs.ensures.network ∙ outputs-count c.redirect_gates.new.hashed.store.network c.args.redirection.from.0 c.args.redirection.to ∙ c.redirect_gates.ensures.redirected.count in
    rest ∙ same

pub returns-clause-midway : goal.returns-clause-midway
returns-clause-midway g c = record {
  midway = c.remove.ensures.midway.midway;
  room = c.remove.ensures.midway.room ∙ c.redirect_gates.ensures.midway.room;
  noted = follow-twice c.redirect_gates.ensures.midway.noted (follow-twice c.redirect_outputs.ensures.noted c.remove.ensures.midway.noted);
}
