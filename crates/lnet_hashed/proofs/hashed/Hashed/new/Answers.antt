use Rattle.std.proofs.Common.{sym, ap, subst, ◌∙◌, arith}
use Rattle.lnet_model.specs.Networks.{gate_at}
use Rattle.lnet_model.specs.Dags.{AreBelow}
use Rattle.lnet_hashed.proofs.First.{some-live, first-low, first-gates}
use Rattle.lnet_hashed.proofs.hashed.Hashed.new.Goals as goal

pub returns-clause-room : goal.returns-clause-room
returns-clause-room c =
    let some = some-live c.in_ok-store.store.network c.live_count-live.ensures.stored.whole in
    record {
      below = subst (λ N. AreBelow N 1) (sym c.in_ok-store.ensures.network) first-low;
      stored = omega arith;
      limit = omega arith;
      noting = c.in_ok-reserve-2.ensures.long;
      blank = c.in_ok-reserve-2.ensures.blank c.new-notes.ensures;
      indexed = c.in_ok-reserve.ensures.long c.in_ok-store.store.network 0 (c.in_ok-keys.ensures.indexed c.in_ok-store.store.network (λ n. ap (λ N. gate_at N n) c.in_ok-store.ensures.network ∙ first-gates n));
      clean = λ n. c.in_ok-reserve.ensures.dirty n ∙ c.in_ok-keys.ensures.clean n;
    }
