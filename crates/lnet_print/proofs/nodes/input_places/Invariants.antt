use Rattle.std.proofs.Common.{◌≡◌, ℕ, None, length, slice_index_or}
use Rattle.lnet_model.specs.Networks.{entry_at}
use Rattle.lnet_model.specs.Dags.{numbers_of}
use Rattle.lnet_print.specs.Places.{place_of, place_below}
use Rattle.lnet_print.proofs.nodes.input_places.Given as goal

-- the inputs before k are noted
abbrev pub invariant-loop-k : goal.invariant-loop-k
invariant-loop-k g l = record {
  len : length l.places.items ≡ numbers_of l.net.core.network;
  noted : (n : ℕ) → slice_index_or l.places.items n None ≡ place_below l.k (place_of (entry_at l.net.core.network n));
}
