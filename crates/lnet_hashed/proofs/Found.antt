-- The gate with a key, number by number.
use Rattle.std.proofs.Common.{◌≡◌, ℕ, List, ap}
use Rattle.std.specs.Prelude.{slice_get}
use Rattle.lnet_gates.specs.declared.signal.Signal.{Signal}
use Rattle.lnet_gates.specs.Gates.{KeyValue}
use Rattle.lnet_model.specs.Networks.{NetworkValue, entry_at}
use Rattle.lnet_model.specs.Dags.{numbers_of}
use Rattle.lnet_model.proofs.Rising.{by_number, entries-by_number}
use Rattle.lnet_model.proofs.Numbers.{live-below-numbers}
use Rattle.lnet_hashed.specs.Strashed.{held_by, found}

-- the signals of the gates with the key at so many numbers from a on
abbrev pub held_from : NetworkValue → KeyValue → ℕ → ℕ → List Signal
held_from N k a count = by_number (entry_at N) (held_by k) a count

pub found-begins : (N : NetworkValue) (k : KeyValue) → found N k ≡ slice_get (held_from N k 0 (numbers_of N)) 0
unfolding found entry_at
found-begins N k = ap (λ ss. slice_get ss 0) (entries-by_number (held_by k) N.nodes (numbers_of N) (live-below-numbers N))
