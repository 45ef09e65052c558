use Rattle.std.proofs.Common.{arith, ◌≡◌, ◌<◌, ℕ, List, Option, None, Some, length, set, sym, subst}
use Rattle.lnet_strash.specs.declared.chains.Chains.{Chains}
use Rattle.lnet_strash.specs.Chains.{link, home_of, IsTable, IsLinkAfter}
use Rattle.lnet_strash.proofs.Links.{get_or-is}
use Rattle.lnet_strash.proofs.Tables.{table-remove-first, table-remove-later, inside-remove}
use Rattle.lnet_strash.proofs.chains.Chains.take_out.Goals as goal
use Rattle.lnet_strash.proofs.chains.Chains.take_out.Goals.{in-Some, in-None}

pub returns-clause-table : goal.returns-clause-table
returns-clause-table c =
    let heads : List (Option ℕ) = c.args.self.now.heads.items in
    let next : List (Option ℕ) = c.args.self.now.next.items in
    let inside = inside-remove heads next c.args.self.now.standing.items c.requires.table c.args.found.number c.args.chain c.requires.chain c.requires.home in
    let long = c.requires.table.links in
    let within : c.args.found.number < length next = omega arith in
    let after : c.index-after.result.now ≡ link next c.args.found.number = get_or-is next c.args.found.number c.index-after.result.now None within c.index-after.ensures in
    let Remains : Chains → Type 0 = λ s. IsTable s.heads.items s.next.items (set s.standing.items c.args.found.number None) in
    let Leads : Option ℕ → Type 0 = λ b. IsLinkAfter heads next (home_of (length heads) c.args.self.now.standing.items) c.args.chain b (Some c.args.found.number) in
    elim c.match-found.branch [
      | in-Some w ↦
          let leads = subst Leads w.in-Some.is c.requires.after in
          subst Remains (sym w.self-is) (subst (λ z. IsTable heads (set next w.in-Some.before z) (set c.args.self.now.standing.items c.args.found.number None)) (sym after)
          (table-remove-later heads next c.args.self.now.standing.items c.requires.table c.args.found.number c.args.chain c.requires.chain c.requires.home w.in-Some.before leads.0 leads.1))
      | in-None w ↦
          let leads = subst Leads w.in-None.is c.requires.after in
          subst Remains (sym w.self-is) (subst (λ z. IsTable (set heads c.args.chain z) next (set c.args.self.now.standing.items c.args.found.number None)) (sym after)
          (table-remove-first heads next c.args.self.now.standing.items c.requires.table c.args.found.number c.args.chain c.requires.chain c.requires.home leads))
    ]
