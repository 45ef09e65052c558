use Rattle.std.proofs.Common.{◌≡◌, ◌+◌, ◌≤◌, length, drop}
use Rattle.std.specs.Prelude.{IsTrue}
use Rattle.std.specs.List.{list_all}
use Rattle.lnet_bliflines.specs.Words.{is_word, word_lists}
use Rattle.lnet_blif.specs.Listing.{add_inputs, lists_view}
use Rattle.lnet_blif.proofs.listing.Lists.add_inputs.Given as goal

abbrev pub invariant-loop-name : goal.invariant-loop-name
invariant-loop-name l = record {
  value : add_inputs (lists_view l.self) (word_lists (drop l.name-index l.names)) ≡ add_inputs (lists_view l.initial.self) (word_lists l.names);
  words : IsTrue (list_all is_word (word_lists (drop l.name-index l.names)));
  few : length l.self.wires ≤ length l.initial.self.wires + l.name-index;
}
