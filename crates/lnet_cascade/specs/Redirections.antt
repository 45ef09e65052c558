-- A replacement in the middle: some gates read t in place of x already.
use Rattle.std.specs.Prelude.{◌≡◌, ◌≢◌, ◌⊎◌, ℕ, map, option_map}
use Rattle.lnet_gates.specs.declared.signal.Signal.{Signal}
use Rattle.lnet_model.specs.Networks.{NetworkValue, entry_at, live_count}
use Rattle.lnet_model.specs.Along.{In, Depends, fanin_nodes}
use Rattle.lnet_substitution.specs.Replaced.{redirected, redirected_entry}

-- what stands at i reads t in place of x, and nothing else differs; t still doesn't depend on x
pub record RedirectedAt (N : NetworkValue) (x : ℕ) (t : Signal) (i : ℕ) (M : NetworkValue) : Type 0 where
  pub kind : M.kind ≡ N.kind
  pub inputs : M.inputs ≡ N.inputs
  pub outputs : M.outputs ≡ N.outputs
  pub here : entry_at M i ≡ option_map (redirected_entry x t) (entry_at N i)
  pub apart : (n : ℕ) → n ≢ i → entry_at M n ≡ entry_at N n
  pub free : Depends M t x → ⊥
  pub count : live_count M ≡ live_count N

-- some of what read x reads t in place of it, and nothing else differs; t still doesn't depend on x
pub record RedirectedSome (N : NetworkValue) (x : ℕ) (t : Signal) (M : NetworkValue) : Type 0 where
  pub kind : M.kind ≡ N.kind
  pub inputs : M.inputs ≡ N.inputs
  pub outputs : M.outputs ≡ N.outputs
  pub each : (n : ℕ) → (entry_at M n ≡ entry_at N n) ⊎ (entry_at M n ≡ option_map (redirected_entry x t) (entry_at N n))
  pub free : Depends M t x → ⊥
  pub count : live_count M ≡ live_count N

-- each gate that read x reads t in place of it, and nothing else differs; t still doesn't depend on x
pub record RedirectedAll (N : NetworkValue) (x : ℕ) (t : Signal) (M : NetworkValue) : Type 0 where
  pub kind : M.kind ≡ N.kind
  pub inputs : M.inputs ≡ N.inputs
  pub outputs : M.outputs ≡ N.outputs
  pub each : (n : ℕ) → entry_at M n ≡ option_map (redirected_entry x t) (entry_at N n)
  pub free : Depends M t x → ⊥
  pub count : live_count M ≡ live_count N

-- what stands at n read x in N and doesn't in M
pub record IsRedirected (N : NetworkValue) (x : ℕ) (M : NetworkValue) (n : ℕ) : Type 0 where
  pub read : In x (fanin_nodes (entry_at N n))
  pub reads_no_more : In x (fanin_nodes (entry_at M n)) → ⊥

-- each output that read x reads t
unfoldable pub outputs_redirected : NetworkValue → ℕ → Signal → NetworkValue
outputs_redirected N x t = record N { outputs = map (redirected x t) N.outputs }
