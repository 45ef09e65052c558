use Rattle.std.proofs.Common.{◌-◌, IsTrue, false, refl, sym, ap, subst, ◌∙◌, inl, inr, arith}
use Rattle.std.proofs.lemmas.Bool.Decides.{eqb_tells}
use Rattle.lnet_model.specs.Networks.{live_count}
use Rattle.lnet_model.specs.Dags.{IsStored}
use Rattle.lnet_model.proofs.Stored.{stored-remove, count-remove}
use Rattle.lnet_hashed.specs.Swept.{IsTrimmed, IsUnnamed}
use Rattle.lnet_hashed.proofs.KeptViews.{told_twice}
use Rattle.lnet_hashed.proofs.Reached.{trimmed-twice, trimmed-without}
use Rattle.lnet_hashed.proofs.sweeping.pass.Goals as goal

pub loop-n-preserved-then-remove_unnamed : goal.loop-n-preserved-then-remove_unnamed
loop-n-preserved-then-remove_unnamed g c =
    let network = c.if-remove_unnamed.ensures.network in
    let unnamed : IsUnnamed c.loop-n.hashed.store.network (c.loop-n.n - 1) = c.if-remove_unnamed.ensures.answer.0 refl in
    let count = count-remove c.loop-n.hashed.store.network (c.loop-n.n - 1) c.loop-n.invariant.stored unnamed.gate unnamed.free in
    let new = ap live_count network in
    let at_most = c.loop-n.invariant.at_most in
    record {
      trimmed = trimmed-twice c.args.hashed.now.store.network c.loop-n.hashed.store.network c.remove_unnamed.new.hashed.store.network c.loop-n.invariant.trimmed (subst (IsTrimmed c.loop-n.hashed.store.network) (sym network) (trimmed-without c.loop-n.hashed.store.network (c.loop-n.n - 1) unnamed));
      stored = subst IsStored (sym network) (stored-remove c.loop-n.hashed.store.network (c.loop-n.n - 1) c.loop-n.invariant.stored unnamed.gate unnamed.free);
      at_most = omega arith;
      fewer = λ _. omega arith;
      unchanged = λ e. cc;
      none = λ e. cc;
      room = c.remove_unnamed.ensures.room;
      same = omega arith;
      told = told_twice c.loop-n.invariant.told c.remove_unnamed.ensures.told;
    }

pub loop-n-preserved : goal.loop-n-preserved
loop-n-preserved g c =
    let network = c.if-remove_unnamed.ensures.network in
    let new = ap live_count network in
    let at_most = c.loop-n.invariant.at_most in
    record {
      trimmed = subst (IsTrimmed c.args.hashed.now.store.network) (sym network) c.loop-n.invariant.trimmed;
      stored = subst IsStored (sym network) c.loop-n.invariant.stored;
      at_most = omega arith;
      fewer = λ is. (let before = c.loop-n.invariant.fewer is in omega arith);
      unchanged = λ is. network ∙ c.loop-n.invariant.unchanged is;
      none = λ is m le h. (
          let old : IsUnnamed c.loop-n.hashed.store.network m = subst (λ N. IsUnnamed N m) network h in
          elim (eqb_tells m (c.loop-n.n - 1)) as (λ _. ⊥) [
            | inl p ↦ (let no : IsTrue false = c.if-remove_unnamed.ensures.answer.1 (subst (IsUnnamed c.loop-n.hashed.store.network) p.1 old) in cc)
            | inr p ↦ (let ne = p.1 in c.loop-n.invariant.none is m (omega arith) old)
          ]
          );
      room = c.remove_unnamed.ensures.room;
      same = omega arith;
      told = told_twice c.loop-n.invariant.told c.remove_unnamed.ensures.told;
    }
