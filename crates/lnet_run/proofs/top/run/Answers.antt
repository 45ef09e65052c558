use Rattle.std.proofs.Common.{refl, ◌∙◌}
use Rattle.lnet_run.proofs.Accepted.{from_start}
use Rattle.lnet_run.proofs.Origins.{end_follows}
use Rattle.lnet_run.proofs.Statuses.{status_faulty, free_status, end_quiet, status_refused, refused_status}
use Rattle.lnet_run.proofs.top.run.Goals as goal

pub returns-clause-outcome : goal.returns-clause-outcome
returns-clause-outcome g c =
    let e = from_start _ c.run_words-ending.result _ _ (g.F.Files.contents c.args.files.now) (g.S.Sink.written c.args.out.now) (g.F.Files.faults c.args.files.now) (g.F.Files.last c.args.files.now) (g.S.Sink.faults c.args.out.now) _ c.new-session.ensures.state c.run_words-ending.ensures.ends in
    record { end = c.run_words-ending.result; origin = e.0; ends = e.1; status_is = c.status_of.ensures; follows = end_follows _ _ _ _ e.0 refl e.1 }

pub returns-clause-refused : goal.returns-clause-refused
returns-clause-refused g c =
    let e = from_start _ c.run_words-ending.result _ _ (g.F.Files.contents c.args.files.now) (g.S.Sink.written c.args.out.now) (g.F.Files.faults c.args.files.now) (g.F.Files.last c.args.files.now) (g.S.Sink.faults c.args.out.now) _ c.new-session.ensures.state c.run_words-ending.ensures.ends in
    status_refused _ _ _ _ _ e.0 c.status_of.ensures e.1

pub returns-clause-refuses : goal.returns-clause-refuses
returns-clause-refuses g c =
    let e = from_start _ c.run_words-ending.result _ _ (g.F.Files.contents c.args.files.now) (g.S.Sink.written c.args.out.now) (g.F.Files.faults c.args.files.now) (g.F.Files.last c.args.files.now) (g.S.Sink.faults c.args.out.now) _ c.new-session.ensures.state c.run_words-ending.ensures.ends in
    refused_status _ _ _ _ _ e.0 c.status_of.ensures e.1

pub returns-clause-fault : goal.returns-clause-fault
returns-clause-fault g c =
    let e = from_start _ c.run_words-ending.result _ _ (g.F.Files.contents c.args.files.now) (g.S.Sink.written c.args.out.now) (g.F.Files.faults c.args.files.now) (g.F.Files.last c.args.files.now) (g.S.Sink.faults c.args.out.now) _ c.new-session.ensures.state c.run_words-ending.ensures.ends in
    status_faulty _ _ _ _ _ e.0 c.status_of.ensures e.1

pub returns-clause-complete : goal.returns-clause-complete
returns-clause-complete g c =
    let e = from_start _ c.run_words-ending.result _ _ (g.F.Files.contents c.args.files.now) (g.S.Sink.written c.args.out.now) (g.F.Files.faults c.args.files.now) (g.F.Files.last c.args.files.now) (g.S.Sink.faults c.args.out.now) _ c.new-session.ensures.state c.run_words-ending.ensures.ends in
    free_status _ _ _ _ _ e.0 c.status_of.ensures e.1

pub returns-clause-quiet : goal.returns-clause-quiet
returns-clause-quiet g c other =
    let quiet = end_quiet _ c.run_words-ending.result _ _ _ c.run_words-ending.ensures.ends.1 (λ three. other (c.status_of.ensures ∙ three)) in
    (quiet.file_faults, quiet.last, quiet.sink_faults)
