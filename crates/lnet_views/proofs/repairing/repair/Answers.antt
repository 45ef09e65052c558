use Rattle.std.proofs.Common.{arith, refl, sym, ap, ◌∙◌, ◌<◌, ◌≤◌, ◌+◌, ◌*◌, length, ◌≡◌, ℕ, None, get_or}
use Rattle.std.specs.Prelude.{is_some}
use Rattle.lnet_model.specs.Networks.{NetworkValue, IsGate, live_count}
use Rattle.lnet_model.specs.Levels.{level}
use Rattle.lnet_model.specs.Fanouts.{fan}
use Rattle.lnet_model.specs.Changes.{with_entry}
use Rattle.lnet_model.specs.Dags.{NUMBERS}
use Rattle.lnet_model.specs.Visits.{reads_of}
use Rattle.lnet_model.proofs.Changes.{with_entry-apart}
use Rattle.lnet_model.proofs.Levels.{level-small}
use Rattle.lnet_views.specs.Repair.{pair_eq}
use Rattle.lnet_views.specs.Chains.{waiting}
use Rattle.lnet_views.specs.Keeping.{answer}
use Rattle.lnet_views.proofs.Counts.{level-low}
use Rattle.lnet_views.proofs.Links.{queue-idle}
use Rattle.lnet_views.proofs.Queueing.{tied-alone, kept-same}
use Rattle.lnet_views.proofs.Renewal.{gate-live}
use Rattle.lnet_views.proofs.Running.{rule-lawful, run-start, run-rises, run-low, run-step, run-end, spread-step, spread-end, spread-limit, cond-twice}
use Rattle.lnet_views.proofs.Waits.{waiting-put, all-idle}
use Rattle.lnet_views.proofs.repairing.repair.Goals as goal

level-limit : (N : NetworkValue) → live_count N ≤ NUMBERS → (m : ℕ) → level N m ≤ NUMBERS
level-limit N few m = let h = level-small N m in omega arith

pub repairs-init : goal.repairs-init
repairs-init g c =
    let room = c.requires.sound.room c.args.n.0 (gate-live _ c.requires.gate) in
    let long = c.requires.sound.waits_len in
    let inside : c.args.n.0 < length c.args.kept.now.queue.levels.items = omega arith in
    let one = waiting-put c.args.kept.now.queue.levels.items c.args.n.0 c.height_of.result inside (c.requires.idle.levels c.args.n.0) in
    let none = all-idle c.args.kept.now.queue.levels.items c.requires.idle.levels in
    let is = ap waiting c.begin.ensures.levels in
    record {
      running = run-start g.R.Value.PartialEq.eq (g.R.Rule.first_of c.args.rule.now) (g.R.Rule.gives c.args.rule.now) (rule-lawful g.R.Value.PartialEq.eq (g.R.Rule.first_of c.args.rule.now) (g.R.Rule.gives c.args.rule.now) g.met.R.Value.Eq.laws (g.met.R.Rule.agrees c.args.rule.now)) (with_entry c.args.look.now.network c.args.n.0 (IsGate c.args.old.now)) c.args.look.now.network c.args.n.0 c.requires.before.acyclic c.requires.stored.dag.acyclic (with_entry-apart c.args.look.now.network c.args.n.0 (IsGate c.args.old.now)) c.args.kept.now.values.items c.args.kept.now.levels.items c.requires.in_step c.args.kept.now.queue.levels.items c.begin.new.self.levels.items c.height_of.result c.requires.sound (λ m. ap is_some (c.requires.idle.levels m)) c.requires.gate c.requires.small c.begin.ensures.levels;
      queue = c.begin.ensures.queue;
      tied = tied-alone c.args.kept.now.levels.items c.args.kept.now.queue.levels.items c.begin.new.self.levels.items c.args.n.0 c.height_of.result c.requires.idle.levels inside c.begin.ensures.levels c.height_of.ensures;
      low = c.requires.low;
      heads = c.begin.ensures.heads;
      len = refl;
      stamp = refl;
      count = omega arith;
    }

pub advance-requires-clause-rises : goal.advance-requires-clause-rises
advance-requires-clause-rises g c = run-rises g.R.Value.PartialEq.eq (g.R.Rule.first_of c.args.rule.now) (g.R.Rule.gives c.args.rule.now) (rule-lawful g.R.Value.PartialEq.eq (g.R.Rule.first_of c.args.rule.now) (g.R.Rule.gives c.args.rule.now) g.met.R.Value.Eq.laws (g.met.R.Rule.agrees c.args.rule.now)) (with_entry c.args.look.now.network c.args.n.0 (IsGate c.args.old.now)) c.args.look.now.network c.args.n.0 c.requires.before.acyclic c.requires.stored.dag.acyclic (with_entry-apart c.args.look.now.network c.args.n.0 (IsGate c.args.old.now)) c.args.kept.now.values.items c.args.kept.now.levels.items c.requires.in_step c.repairs.kept.values.items c.repairs.kept.levels.items c.repairs.kept.queue.levels.items c.repairs.invariant.running

pub repairs-smaller : goal.repairs-smaller
repairs-smaller g c =
    let more = spread-step g.R.Value.PartialEq.eq (g.R.Rule.first_of c.args.rule.now) (g.R.Rule.gives c.args.rule.now) (rule-lawful g.R.Value.PartialEq.eq (g.R.Rule.first_of c.args.rule.now) (g.R.Rule.gives c.args.rule.now) g.met.R.Value.Eq.laws (g.met.R.Rule.agrees c.args.rule.now)) (with_entry c.args.look.now.network c.args.n.0 (IsGate c.args.old.now)) c.args.look.now.network c.args.n.0 c.requires.before.acyclic c.requires.stored.dag.acyclic (with_entry-apart c.args.look.now.network c.args.n.0 (IsGate c.args.old.now)) c.args.kept.now.values.items c.args.kept.now.levels.items c.requires.in_step c.repairs.kept.values.items c.repairs.kept.levels.items c.repairs.kept.queue.levels.items c.repairs.invariant.running c.in-Some.field-0.0 c.in-Some.ensures.next c.advance.new.kept.values.items c.advance.new.kept.levels.items c.advance.new.kept.queue.levels.items c.in-Some.ensures.sound c.in-Some.ensures.settled in
    let limit = spread-limit g.R.Value.PartialEq.eq (g.R.Rule.first_of c.args.rule.now 0) c.args.look.now.network c.args.kept.now.values.items c.args.kept.now.levels.items c.advance.new.kept.values.items c.advance.new.kept.levels.items in
    let fewer = c.in-Some.ensures.fewer in
    omega arith

pub repairs-preserved : goal.repairs-preserved
repairs-preserved g c =
    let more = spread-step g.R.Value.PartialEq.eq (g.R.Rule.first_of c.args.rule.now) (g.R.Rule.gives c.args.rule.now) (rule-lawful g.R.Value.PartialEq.eq (g.R.Rule.first_of c.args.rule.now) (g.R.Rule.gives c.args.rule.now) g.met.R.Value.Eq.laws (g.met.R.Rule.agrees c.args.rule.now)) (with_entry c.args.look.now.network c.args.n.0 (IsGate c.args.old.now)) c.args.look.now.network c.args.n.0 c.requires.before.acyclic c.requires.stored.dag.acyclic (with_entry-apart c.args.look.now.network c.args.n.0 (IsGate c.args.old.now)) c.args.kept.now.values.items c.args.kept.now.levels.items c.requires.in_step c.repairs.kept.values.items c.repairs.kept.levels.items c.repairs.kept.queue.levels.items c.repairs.invariant.running c.in-Some.field-0.0 c.in-Some.ensures.next c.advance.new.kept.values.items c.advance.new.kept.levels.items c.advance.new.kept.queue.levels.items c.in-Some.ensures.sound c.in-Some.ensures.settled in
    let count = c.in-Some.ensures.count in
    let before = c.repairs.invariant.count in
    let twice = cond-twice (pair_eq g.R.Value.PartialEq.eq (answer (g.R.Rule.first_of c.args.rule.now 0) c.advance.new.kept.values.items c.advance.new.kept.levels.items c.in-Some.field-0.0) (answer (g.R.Rule.first_of c.args.rule.now 0) c.repairs.kept.values.items c.repairs.kept.levels.items c.in-Some.field-0.0)) (length (fan c.args.look.now.network c.in-Some.field-0.0)) in
    record {
      running = run-step g.R.Value.PartialEq.eq (g.R.Rule.first_of c.args.rule.now) (g.R.Rule.gives c.args.rule.now) (rule-lawful g.R.Value.PartialEq.eq (g.R.Rule.first_of c.args.rule.now) (g.R.Rule.gives c.args.rule.now) g.met.R.Value.Eq.laws (g.met.R.Rule.agrees c.args.rule.now)) (with_entry c.args.look.now.network c.args.n.0 (IsGate c.args.old.now)) c.args.look.now.network c.args.n.0 c.requires.before.acyclic c.requires.stored.dag.acyclic (with_entry-apart c.args.look.now.network c.args.n.0 (IsGate c.args.old.now)) c.args.kept.now.values.items c.args.kept.now.levels.items c.requires.in_step c.repairs.kept.values.items c.repairs.kept.levels.items c.repairs.kept.queue.levels.items c.repairs.invariant.running c.in-Some.field-0.0 c.in-Some.ensures.next c.advance.new.kept.values.items c.advance.new.kept.levels.items c.advance.new.kept.queue.levels.items c.in-Some.ensures.sound c.in-Some.ensures.settled (level-limit c.args.look.now.network c.live_count-live_count.ensures.limit);
      queue = c.in-Some.ensures.queue;
      tied = c.in-Some.ensures.tied;
      low = run-low g.R.Value.PartialEq.eq (g.R.Rule.first_of c.args.rule.now) (g.R.Rule.gives c.args.rule.now) (rule-lawful g.R.Value.PartialEq.eq (g.R.Rule.first_of c.args.rule.now) (g.R.Rule.gives c.args.rule.now) g.met.R.Value.Eq.laws (g.met.R.Rule.agrees c.args.rule.now)) (with_entry c.args.look.now.network c.args.n.0 (IsGate c.args.old.now)) c.args.look.now.network c.args.n.0 c.requires.before.acyclic c.requires.stored.dag.acyclic (with_entry-apart c.args.look.now.network c.args.n.0 (IsGate c.args.old.now)) c.args.kept.now.values.items c.args.kept.now.levels.items c.requires.in_step c.repairs.kept.values.items c.repairs.kept.levels.items c.repairs.kept.queue.levels.items c.repairs.invariant.running c.in-Some.field-0.0 c.in-Some.ensures.next c.advance.new.kept.values.items c.advance.new.kept.levels.items c.advance.new.kept.queue.levels.items c.in-Some.ensures.sound c.in-Some.ensures.settled (length c.args.kept.now.values.items) (level-low c.args.look.now.network (length c.args.kept.now.values.items) c.requires.sound.room) c.repairs.invariant.low;
      heads = c.in-Some.ensures.heads ∙ c.repairs.invariant.heads;
      len = c.in-Some.ensures.len ∙ c.repairs.invariant.len;
      stamp = c.in-Some.ensures.stamp ∙ c.repairs.invariant.stamp;
      count = omega arith;
    }

pub returns-in-None-clause-idle : goal.returns-in-None-clause-idle
returns-in-None-clause-idle g c = queue-idle c.advance.new.kept.queue c.in-None.ensures.queue (c.in-None.ensures.none refl)

pub returns-in-None-clause-in_step : goal.returns-in-None-clause-in_step
returns-in-None-clause-in_step g c =
    let stays = c.in-None.ensures.stays refl in
    kept-same g.R.Value.PartialEq.eq (g.R.Rule.first_of c.args.rule.now) (g.R.Rule.gives c.args.rule.now) c.args.look.now.network c.repairs.kept.values.items c.advance.new.kept.values.items c.repairs.kept.levels.items c.advance.new.kept.levels.items stays.0 stays.1
    (run-end g.R.Value.PartialEq.eq (g.R.Rule.first_of c.args.rule.now) (g.R.Rule.gives c.args.rule.now) (rule-lawful g.R.Value.PartialEq.eq (g.R.Rule.first_of c.args.rule.now) (g.R.Rule.gives c.args.rule.now) g.met.R.Value.Eq.laws (g.met.R.Rule.agrees c.args.rule.now)) (with_entry c.args.look.now.network c.args.n.0 (IsGate c.args.old.now)) c.args.look.now.network c.args.n.0 c.requires.before.acyclic c.requires.stored.dag.acyclic (with_entry-apart c.args.look.now.network c.args.n.0 (IsGate c.args.old.now)) c.args.kept.now.values.items c.args.kept.now.levels.items c.requires.in_step c.repairs.kept.values.items c.repairs.kept.levels.items c.repairs.kept.queue.levels.items c.repairs.invariant.running (λ m. ap (λ xs. is_some (get_or xs m None)) (sym stays.2) ∙ ap is_some (c.in-None.ensures.none refl m)))

bound-of : (x a w c s t : ℕ) → x ≡ a → a + w ≤ c + (1 + 2 * s) → s ≤ t → x ≤ c + (1 + 2 * t)
bound-of x a w c s t e h l = omega arith

pub returns-in-None-clause-visits : goal.returns-in-None-clause-visits
unfolding reads_of
returns-in-None-clause-visits g c =
    let stays = c.in-None.ensures.stays refl in
    let kept = run-end g.R.Value.PartialEq.eq (g.R.Rule.first_of c.args.rule.now) (g.R.Rule.gives c.args.rule.now) (rule-lawful g.R.Value.PartialEq.eq (g.R.Rule.first_of c.args.rule.now) (g.R.Rule.gives c.args.rule.now) g.met.R.Value.Eq.laws (g.met.R.Rule.agrees c.args.rule.now)) (with_entry c.args.look.now.network c.args.n.0 (IsGate c.args.old.now)) c.args.look.now.network c.args.n.0 c.requires.before.acyclic c.requires.stored.dag.acyclic (with_entry-apart c.args.look.now.network c.args.n.0 (IsGate c.args.old.now)) c.args.kept.now.values.items c.args.kept.now.levels.items c.requires.in_step c.repairs.kept.values.items c.repairs.kept.levels.items c.repairs.kept.queue.levels.items c.repairs.invariant.running (λ m. ap (λ xs. is_some (get_or xs m None)) (sym stays.2) ∙ ap is_some (c.in-None.ensures.none refl m)) in
    let last = spread-end g.R.Value.PartialEq.eq (g.R.Rule.first_of c.args.rule.now) (g.R.Rule.gives c.args.rule.now) (rule-lawful g.R.Value.PartialEq.eq (g.R.Rule.first_of c.args.rule.now) (g.R.Rule.gives c.args.rule.now) g.met.R.Value.Eq.laws (g.met.R.Rule.agrees c.args.rule.now)) (with_entry c.args.look.now.network c.args.n.0 (IsGate c.args.old.now)) c.args.look.now.network c.args.n.0 c.requires.before.acyclic c.requires.stored.dag.acyclic (with_entry-apart c.args.look.now.network c.args.n.0 (IsGate c.args.old.now)) c.args.kept.now.values.items c.args.kept.now.levels.items c.requires.in_step c.repairs.kept.values.items c.repairs.kept.levels.items kept in
    bound-of _ _ (waiting c.repairs.kept.queue.levels.items) _ _ _ c.in-None.ensures.count c.repairs.invariant.count last
