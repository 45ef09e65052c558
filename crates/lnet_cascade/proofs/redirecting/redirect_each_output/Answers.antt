use Rattle.std.proofs.Common.{◌≡◌, length, sym, ap, subst, ◌∙◌, arith, IsSome}
use Rattle.std.specs.Prelude.{slice_get}
use Rattle.lnet_gates.specs.declared.signal.Signal.{Signal}
use Rattle.lnet_model.specs.Networks.{NetworkValue, IsLive}
use Rattle.lnet_store.specs.StoreValues.{with_output}
use Rattle.lnet_substitution.specs.Replaced.{redirected}
use Rattle.lnet_cascade.proofs.Outputs.{outputs_half, half-entry, half-start, half-count, half-all, half-next, half-past, redirected-is-live}
use Rattle.lnet_cascade.proofs.redirecting.redirect_each_output.Goals as goal
use Rattle.lnet_cascade.proofs.redirecting.redirect_each_output.Goals.{in-Some, in_default}

pub loop-k-init : goal.loop-k-init
loop-k-init c = record { half = half-start c.args.store.now.network c.args.redirection.from.0 c.args.redirection.to; spare = omega arith }

pub set_output-requires-clause-place : goal.set_output-requires-clause-place
set_output-requires-clause-place c =
    let e = ap (λ (N : NetworkValue). length N.outputs) c.loop-k.invariant.half ∙ half-count c.args.store.now.network c.args.redirection.from.0 c.args.redirection.to c.loop-k.k in
    let count = c.output_count-k-end.ensures in
    let test = c.loop-k-test.true in
    omega arith

pub set_output-requires-clause-live : goal.set_output-requires-clause-live
set_output-requires-clause-live c =
    subst (λ (u : Signal). IsLive c.loop-k.store.network u.node.0) (sym c.of.ensures)
    (redirected-is-live c.loop-k.store.network c.args.redirection.from.0 c.args.redirection.to c.in-Some.signal
    (subst (λ N. IsLive N c.args.redirection.to.node.0) (sym c.loop-k.invariant.half)
    (subst IsSome (sym (half-entry c.args.store.now.network c.args.redirection.from.0 c.args.redirection.to c.loop-k.k c.args.redirection.to.node.0)) c.requires))
    c.in-Some.ensures.live)

pub loop-k-preserved : goal.loop-k-preserved
loop-k-preserved c =
    let N = c.args.store.now.network in
    let x = c.args.redirection.from.0 in
    let t = c.args.redirection.to in
    let H = c.loop-k.invariant.half in
    let least = c.loop-k.invariant.spare in
    elim c.match-output.branch [
      | in-Some w ↦
          let more = w.set_output.ensures.spare in
          record {
            half = ap (λ s. s.network) w.store-is
                ∙ w.set_output.ensures.network ∙ ap (with_output c.loop-k.store.network c.loop-k.k) w.of.ensures ∙ ap (λ M. with_output M c.loop-k.k (redirected x t w.in-Some.signal)) H
                ∙ half-next N x t w.in-Some.signal c.loop-k.k (ap (λ (M : NetworkValue). slice_get M.outputs c.loop-k.k) (sym H) ∙ sym w.in-Some.ensures.value);
            spare = (let s = ap (λ s. s.spare) w.store-is in omega arith);
          }
      | in_default w ↦ record {
        half = ap (λ s. s.network) w.store-is ∙ H ∙ half-past N x t c.loop-k.k (ap (λ (M : NetworkValue). slice_get M.outputs c.loop-k.k) (sym H) ∙ sym c.output.ensures.value ∙ w.in_default.is);
        spare = (let s = ap (λ s. s.spare) w.store-is in omega arith);
      }
    ]

pub returns-clause-network : goal.returns-clause-network
returns-clause-network c =
    let N = c.args.store.now.network in
    let count = c.output_count-k-end.ensures in
    let test = c.loop-k-test.false in
    let auto = c.loop-k.auto.k-end in
    let e : c.loop-k.k ≡ length c.args.store.now.network.outputs = omega arith in
    c.loop-k.invariant.half ∙ ap (outputs_half N c.args.redirection.from.0 c.args.redirection.to) e ∙ half-all N c.args.redirection.from.0 c.args.redirection.to
