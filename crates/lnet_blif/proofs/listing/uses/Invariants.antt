use Rattle.std.proofs.Common.{◌≡◌, ◌+◌, ◌≤◌, ◌++◌, length, drop}
use Rattle.lnet_bliflines.specs.Words.{word_lists}
use Rattle.lnet_blif.specs.Numbering.{with_names}
use Rattle.lnet_blif.specs.Listing.{uses_of}
use Rattle.lnet_blif.proofs.listing.uses.Given as goal

abbrev pub invariant-loop-name : goal.invariant-loop-name
invariant-loop-name l = record {
  uses : l.refs.items ++ uses_of l.wires (word_lists (drop l.name-index l.names)) ≡ uses_of l.initial.wires (word_lists l.names);
  names : with_names l.wires (word_lists (drop l.name-index l.names)) ≡ with_names l.initial.wires (word_lists l.names);
  few : length l.wires ≤ length l.initial.wires + l.name-index;
}
