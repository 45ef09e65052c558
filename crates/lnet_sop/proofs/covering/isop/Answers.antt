use Rattle.std.proofs.Common.{◌≡◌, arith, refl}
use Rattle.lnet_sop.specs.Isop.{cubes_of}
use Rattle.lnet_sop.proofs.TurnLaws.{Lawful, isop_lawful, isop_due, isop_within}
use Rattle.lnet_sop.proofs.Cubes.{begun, cover_fits, value_is, room}
use Rattle.lnet_sop.proofs.covering.isop.Goals as goal

pub lay-requires-clause-care : goal.lay-requires-clause-care
lay-requires-clause-care c = omega (arith, room c.args.lower.vars (omega (arith, c.vars-vars.ensures.value, c.vars-vars.ensures.few)))

pub invariant_of-result : goal.invariant_of-result
invariant_of-result c =
    let e : c.lay.new.cubes.items ≡ cubes_of c.args.lower.vars c.args.lower c.args.upper = begun _ _ _ _ c.new-cubes.ensures.items refl refl c.in_ok-lay.ensures.cubes in
    cover_fits c.vars-vars.result c.args.lower c.args.upper c.lay.new.cubes.items e c.vars-vars.ensures.value c.vars-vars.ensures.few

pub returns-clause-cubes : goal.returns-clause-cubes
returns-clause-cubes c =
    let e : c.lay.new.cubes.items ≡ cubes_of c.args.lower.vars c.args.lower c.args.upper = begun _ _ _ _ c.new-cubes.ensures.items refl refl c.in_ok-lay.ensures.cubes in
    value_is c.vars-vars.result c.args.lower.vars c.lay.new.cubes.items (cubes_of c.args.lower.vars c.args.lower c.args.upper) c.vars-vars.ensures.value e

pub returns-clause-due : goal.returns-clause-due
returns-clause-due c =
    let e : c.lay.new.cubes.items ≡ cubes_of c.args.lower.vars c.args.lower c.args.upper = begun _ _ _ _ c.new-cubes.ensures.items refl refl c.in_ok-lay.ensures.cubes in
    let law : Lawful c.vars-vars.result c.args.lower c.args.upper c.lay.new.cubes.items =
    isop_lawful c.vars-vars.result c.args.lower c.args.upper c.lay.new.cubes.items e c.vars-vars.ensures.value c.vars-vars.ensures.long c.requires.vars c.requires.implies in
    isop_due c.vars-vars.result c.args.lower c.args.upper c.lay.new.cubes.items law c.vars-vars.ensures.value

pub returns-clause-within : goal.returns-clause-within
returns-clause-within c =
    let e : c.lay.new.cubes.items ≡ cubes_of c.args.lower.vars c.args.lower c.args.upper = begun _ _ _ _ c.new-cubes.ensures.items refl refl c.in_ok-lay.ensures.cubes in
    let law : Lawful c.vars-vars.result c.args.lower c.args.upper c.lay.new.cubes.items =
    isop_lawful c.vars-vars.result c.args.lower c.args.upper c.lay.new.cubes.items e c.vars-vars.ensures.value c.vars-vars.ensures.long c.requires.vars c.requires.implies in
    isop_within c.vars-vars.result c.args.lower c.args.upper c.lay.new.cubes.items law c.vars-vars.ensures.value

pub returns-clause-prime : goal.returns-clause-prime
returns-clause-prime c =
    let e : c.lay.new.cubes.items ≡ cubes_of c.args.lower.vars c.args.lower c.args.upper = begun _ _ _ _ c.new-cubes.ensures.items refl refl c.in_ok-lay.ensures.cubes in
    let law : Lawful c.vars-vars.result c.args.lower c.args.upper c.lay.new.cubes.items =
    isop_lawful c.vars-vars.result c.args.lower c.args.upper c.lay.new.cubes.items e c.vars-vars.ensures.value c.vars-vars.ensures.long c.requires.vars c.requires.implies in
    law.primes

pub returns-clause-irredundant : goal.returns-clause-irredundant
returns-clause-irredundant c =
    let e : c.lay.new.cubes.items ≡ cubes_of c.args.lower.vars c.args.lower c.args.upper = begun _ _ _ _ c.new-cubes.ensures.items refl refl c.in_ok-lay.ensures.cubes in
    let law : Lawful c.vars-vars.result c.args.lower c.args.upper c.lay.new.cubes.items =
    isop_lawful c.vars-vars.result c.args.lower c.args.upper c.lay.new.cubes.items e c.vars-vars.ensures.value c.vars-vars.ensures.long c.requires.vars c.requires.implies in
    law.needed
