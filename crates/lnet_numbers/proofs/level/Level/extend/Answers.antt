use Rattle.std.proofs.Common.{length, ap, arith}
use Rattle.lnet_numbers.proofs.WordBits.{length-bits_of, bits_of-gains}
use Rattle.lnet_numbers.proofs.level.Level.extend.Goals as goal

pub returns-in_err-lengthen-clause-bits : goal.returns-in_err-lengthen-clause-bits
returns-in_err-lengthen-clause-bits c = bits_of-gains c.self.inside.packed.items c.lengthen.new.packed.items c.args.self.now c.self.view_is c.lengthen.ensures.items

pub returns-in_err-lengthen-clause-most : goal.returns-in_err-lengthen-clause-most
returns-in_err-lengthen-clause-most c =
    let ok = c.self.inside.packed.ok in
    let most = c.lengthen.ensures.most in
    omega (arith, ap length c.self.view_is, length-bits_of c.self.inside.packed.items, length-bits_of c.lengthen.new.packed.items)

pub returns-clause-bits : goal.returns-clause-bits
returns-clause-bits c = bits_of-gains c.self.inside.packed.items c.lengthen.new.packed.items c.args.self.now c.self.view_is c.lengthen.ensures.items

pub returns-clause-most : goal.returns-clause-most
returns-clause-most c =
    let ok = c.self.inside.packed.ok in
    let most = c.lengthen.ensures.most in
    omega (arith, ap length c.self.view_is, length-bits_of c.self.inside.packed.items, length-bits_of c.lengthen.new.packed.items)

pub returns-clause-ok : goal.returns-clause-ok
returns-clause-ok c =
    let ok = c.self.inside.packed.ok in
    let long = c.in_ok-lengthen.ensures.ok in
    omega (arith, length-bits_of c.lengthen.new.packed.items)
