use Rattle.std.proofs.Common.{ℕ, List, [], drop, get_or, ◌+◌, ◌∙◌, arith}
use Rattle.std.specs.Borrow.{Bor}
use Rattle.lnet_bliflines.specs.Words.{word_lists}
use Rattle.lnet_blif.proofs.Uses.{next_name, next_use, next_seen}
use Rattle.lnet_blif.proofs.listing.uses.Goals as goal

pub loop-name-preserved : goal.loop-name-preserved
loop-name-preserved c =
    let d : Bor (List ℕ) = record { ref_ptr = (0, 0); now = [] } in
    let is = next_name c.args.names.now c.loop-name.name-index d c.loop-name-test.true in
    let name = (get_or c.args.names.now c.loop-name.name-index d).now in
    let rest = word_lists (drop (c.loop-name.name-index + 1) c.args.names.now) in
    let due = word_lists (drop c.loop-name.name-index c.args.names.now) in
    record {
      uses = next_use c.loop-name.refs.items c.push.new.self.items c.loop-name.wires c.wire.new.self c.in_ok-wire.field-0 name rest due is c.in_ok-wire.ensures.seen c.in_ok-wire.ensures.number c.in_ok-push.ensures.ok ∙ c.loop-name.invariant.uses;
      names = next_seen c.loop-name.wires c.wire.new.self name rest due is c.in_ok-wire.ensures.seen ∙ c.loop-name.invariant.names;
      few = omega (arith, c.loop-name.invariant.few, c.in_ok-wire.ensures.few);
    }
