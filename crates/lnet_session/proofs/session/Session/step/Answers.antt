use Rattle.std.proofs.Common.{rules, refl, sym, subst, inl, inr, ◌∙◌}
use Rattle.lnet_session.specs.Steps.{Steps, World, world_of}
use Rattle.lnet_session.proofs.Put.{put_counted, put_done, put_failed, steps-of}
use Rattle.lnet_session.specs.Sessions.{state_of}
use Rattle.lnet_session.specs.declared.stepping.StepEnd.{StepEnd}
use Rattle.lnet_session.proofs.session.Session.step.Goals as goal

pub returns-in-Err-Failed-clause-step : goal.returns-in-Err-Failed-clause-step
returns-in-Err-Failed-clause-step g c =
    inr (record {
      answer = c.in-Ok.answer;
      source = c.in-Ok.ensures.effect.0;
      effect = c.in-Ok.ensures.effect.1;
      text = put_failed (g.S.Sink.written c.args.out.now) c.as_bytes.result.now _ (g.S.Sink.written c.put.new.self) c.in-Err-Failed.field-0 c.in-Err-Failed.field-0-is (c.as_bytes.ensures.value ∙ c.in-Ok-text_of_reply.ensures) c.in-Err-Failed.ensures.written;
      file_faults = c.in-Ok.ensures.faults;
      last = c.in-Ok.ensures.last;
      sink_faults = put_counted (g.S.Sink.faults c.args.out.now) _ c.in-Err-Failed.field-0 c.in-Err-Failed.field-0-is c.in-Err-Failed.ensures.faults;
    })

pub returns-in-Ok-put-clause-step : goal.returns-in-Ok-put-clause-step
returns-in-Ok-put-clause-step g c =
    let old : World = world_of g.F.Files g.S.Sink (state_of (λ b. goal.View-dyn g (b.vtable, b.value)) c.args.self.now) c.args.files.now c.args.out.now in
    let new : World = world_of g.F.Files g.S.Sink (state_of (λ b. goal.View-dyn g (b.vtable, b.value)) c.effect.new.self) c.effect.new.files c.put.new.self in
    subst (λ (stop : StepEnd). Steps c.args.command.now c.args.index stop old new) (sym c.end_of-end.ensures) (steps-of c.in-Ok.answer c.args.command.now c.args.index old new (record {
      answer = c.in-Ok.answer;
      source = c.in-Ok.ensures.effect.0;
      effect = c.in-Ok.ensures.effect.1;
      text = put_done c.in-Ok-put.field-0 (g.S.Sink.written c.args.out.now) c.as_bytes.result.now _ (g.S.Sink.written c.put.new.self) (c.as_bytes.ensures.value ∙ c.in-Ok-text_of_reply.ensures) c.in-Ok-put.ensures.written;
      end = refl;
      quiet = record { file_faults = c.in-Ok.ensures.faults; last = c.in-Ok.ensures.last; sink_faults = c.in-Ok-put.ensures.faults };
    }))

pub returns-in-Err-NoMemory-clause-step : goal.returns-in-Err-NoMemory-clause-step
returns-in-Err-NoMemory-clause-step g c = record { written = refl; effect = inl (search rules); quiet = record { file_faults = search rules; last = search rules; sink_faults = refl } }

pub returns-in_default-clause-step : goal.returns-in_default-clause-step
returns-in_default-clause-step g c =
    record {
      written = refl;
      effect = inr (record { answer = c.in-Ok.answer; source = c.in-Ok.ensures.effect.0; effect = c.in-Ok.ensures.effect.1 });
      quiet = record { file_faults = c.in-Ok.ensures.faults; last = c.in-Ok.ensures.last; sink_faults = refl };
    }

pub returns-clause-step : goal.returns-clause-step
returns-clause-step g c =
    record {
      written = search rules;
      effect = inr (record { answer = c.in-Ok.answer; source = c.in-Ok.ensures.effect.0; effect = c.in-Ok.ensures.effect.1 });
      quiet = record { file_faults = c.in-Ok.ensures.faults; last = c.in-Ok.ensures.last; sink_faults = search rules };
    }
