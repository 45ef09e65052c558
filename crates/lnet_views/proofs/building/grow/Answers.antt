use Rattle.std.proofs.Common.{sym, refl, ◌∙◌, ◌≡◌, length, arith}
use Rattle.lnet_views.proofs.Steps.{kept-grown, prefix-gets, cut-gets, cut-levels}
use Rattle.lnet_views.proofs.building.grow.Goals as goal

pub returns-in_err-make_room-clause-same : goal.returns-in_err-make_room-clause-same
returns-in_err-make_room-clause-same g c = kept-grown c.args.kept.now.values.items c.args.kept.now.values.items c.args.kept.now.levels.items c.make_room.new.levels.items c.requires.values (λ n h. refl) c.make_room.ensures.levels

pub returns-in-Ok-clause-same : goal.returns-in-Ok-clause-same
returns-in-Ok-clause-same g c = kept-grown c.args.kept.now.values.items c.fill.new.values.items c.args.kept.now.levels.items c.make_room.new.levels.items c.requires.values (prefix-gets c.args.kept.now.values.items c.fill.new.values.items c.fill.ensures.prefix) c.make_room.ensures.levels

pub returns-in-Err-clause-same : goal.returns-in-Err-clause-same
returns-in-Err-clause-same g c =
    let is = c.len-old.ensures in
    let ok = c.args.kept.now.levels.ok in
    let same = c.requires.values in
    let at : c.len-old.result ≡ length c.args.kept.now.levels.items = omega arith in
    kept-grown c.args.kept.now.values.items c.truncate.new.self.items c.args.kept.now.levels.items c.truncate-in-Err.new.self.items c.requires.values (cut-gets c.args.kept.now.values.items c.fill.new.values.items c.truncate.new.self.items c.len-old.result (at ∙ sym c.requires.values) c.fill.ensures.prefix c.truncate.ensures.items) (cut-levels c.args.kept.now.levels.items c.make_room.new.levels.items c.truncate-in-Err.new.self.items c.len-old.result at c.make_room.ensures.levels c.truncate-in-Err.ensures.items)
