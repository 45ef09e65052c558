-- What the outputs reach keeps its values and levels as gates that they don't reach go.
use Rattle.std.proofs.Common.{◌≡◌, ℕ, zero, suc, ◌+◌, Bool, false, List, [], ◌∷◌, map, refl, sym, ap, ◌∙◌, inl, inr, arith}
use Rattle.lnet_gates.specs.declared.signal.Signal.{Signal}
use Rattle.lnet_gates.specs.Gates.{flip}
use Rattle.lnet_model.specs.Networks.{NetworkValue, entry_at, live_count}
use Rattle.lnet_model.specs.Along.{along, over, In, Acyclic, nodes_read}
use Rattle.lnet_model.specs.Values.{value_step, node_value, signal_value, network_outputs}
use Rattle.lnet_model.specs.Dags.{IsStored}
use Rattle.lnet_model.proofs.Along.{Step, once-same}
use Rattle.lnet_model.proofs.Over.{once-entry}
use Rattle.lnet_model.proofs.Values.{along-enough}
use Rattle.lnet_hashed.specs.Swept.{IsReached, IsTrimmed}
use Rattle.lnet_hashed.proofs.Reached.{reached-output, reached-fanin, walk-back}

-- signals of nodes with equal values have equal values
values-same : (N M : NetworkValue) (a : ℕ → Bool) (ss : List Signal) → ((n : ℕ) → In n (nodes_read ss) → node_value M a n ≡ node_value N a n) → map (signal_value M a) ss ≡ map (signal_value N a) ss
values-same N M a [] same = refl
values-same N M a (s ∷ ss) same = λ i. flip s.complement (same s.node.0 (inl refl) i) ∷ values-same N M a ss (λ n k. same n (inr k)) i

module _ (N M : NetworkValue) (t : IsTrimmed N M) (stored : IsStored N) where
  acyclic-left : Acyclic M
  acyclic-left n m ns w is = stored.dag.acyclic n m ns (walk-back N M t n (m ∷ ns) w) is

  along-kept : {A : Type 0} (step : Step A) (none : A) (d n : ℕ) → IsReached N n → along (entry_at M) step none d n ≡ along (entry_at N) step none d n
  unfolding along
  along-kept step none zero n r = refl
  along-kept step none (suc d) n r =
      once-entry (entry_at M) (entry_at N) step none (along (entry_at M) step none d) n (t.reached n r)
      ∙ once-same (entry_at N) step none _ _ n (λ m i. along-kept step none d m (reached-fanin N n m r i (stored.dag.closed n m i)))

  -- what is defined by recursion along fanins
  pub over-kept : {A : Type 0} (step : Step A) (none : A) (n : ℕ) → IsReached N n → over M step none n ≡ over N step none n
  over-kept step none n r =
      let d : ℕ = live_count M + live_count N in
      sym (along-enough M step none acyclic-left d n (omega arith))
      ∙ along-kept step none d n r
      ∙ along-enough N step none stored.dag.acyclic d n (omega arith)

  output-reached : (n : ℕ) → In n (nodes_read N.outputs) → IsReached N n
  output-reached n i = reached-output N n i (stored.whole.outputs_live n i)

  -- the outputs' values
  pub outputs-kept : (a : ℕ → Bool) → network_outputs M a ≡ network_outputs N a
  unfolding network_outputs
  outputs-kept a =
      ap (map (signal_value M a)) t.outputs
      ∙ values-same N M a N.outputs (λ n i. over-kept (value_step a) false n (output-reached n i))
