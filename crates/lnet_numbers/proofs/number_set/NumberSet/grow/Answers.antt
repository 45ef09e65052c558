use Rattle.std.proofs.Common.{◌≡◌, ◌≤◌, ◌-◌, ◌++◌, ◌∙◌, ap, length, length-take, replicate, arith}
use Rattle.lnet_numbers.proofs.Extending.{take-extended}
use Rattle.lnet_numbers.proofs.Rooms.{IsWithin-extended, IsFilled, take-filled}
use Rattle.lnet_numbers.proofs.number_set.NumberSet.grow.Goals as goal

pub fill-requires-clause-clear : goal.fill-requires-clause-clear
fill-requires-clause-clear c =
    (IsWithin-extended c.self.inside.levels c.extend.new.self c.self.inside.room c.self.invariant c.extend.ensures.bits).past

pub returns-clause-ok : goal.returns-clause-ok
returns-clause-ok c =
    let old = c.self.inside.levels in
    let more = c.extend.new.self in
    let from = c.self.inside.room in
    let within = c.self.invariant in
    let long : length c.args.self.now ≡ from = (let fits = within.fits in omega (arith, ap length c.self.view_is, length-take from old)) in
    let inside : c.args.room ≤ length more = c.in_ok-extend.ensures.ok in
    let order : from ≤ c.args.room = (let grows = c.requires.more in omega arith) in
    let filled : IsFilled more c.fill.new.levels from c.args.room c.args.full = record { filled = c.fill.ensures.filled; others = c.fill.ensures.others; len = c.fill.ensures.len } in
    take-filled more c.fill.new.levels from c.args.room c.args.full (IsWithin-extended old more from within c.extend.ensures.bits) order inside filled
    ∙ ap (λ bits. bits ++ replicate (c.args.room - from) c.args.full) (take-extended old more from c.extend.ensures.bits within.fits ∙ c.self.view_is)
    ∙ ap (λ k. c.args.self.now ++ replicate (c.args.room - k) c.args.full) (omega arith)
