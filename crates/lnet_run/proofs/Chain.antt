-- A run goes on by one command, and what stands where one stopped.
use Rattle.std.proofs.Common.{◌≡◌, ℕ, suc, ◌+◌, ◌≤◌, ◌<◌, Bool, true, false, List, [], ◌∷◌, ◌++◌, length, take, get_or, Option, Some, None, refl, sym, ap, subst, ◌∙◌, inl, inr, append_assoc, arith}
use Rattle.std.specs.Prelude.{◌||◌}
use Rattle.std.proofs.lemmas.List.{append-nil, length-take-le, take_more, take_all}
use Rattle.std.proofs.lemmas.Option.{slice_get_read}
use Rattle.lnet_edge.specs.Circuits.{CircuitValue}
use Rattle.lnet_script.specs.declared.command.Command.{Command}
use Rattle.lnet_session.specs.declared.stepping.StepEnd.{StepEnd}
use Rattle.lnet_session.specs.declared.stepping.StepEnd.TheVariants as ends
use Rattle.lnet_replies.specs.declared.reply.Reply.{Reply}
use Rattle.lnet_replies.specs.declared.reply.Unmet.{Unmet}
use Rattle.lnet_replies.specs.Texts.{is_unmet, reply_text}
use Rattle.lnet_session.specs.Steps.{World, IsQuiet, Steps, Ended, Grows, end_of}
use Rattle.lnet_run.specs.Runs.{Scene, Turn, Runs, Ran, Stopped, AfterStop, latest, scene_of}

or_false : (b : Bool) → (b || false) ≡ b
or_false true = refl
or_false false = refl

or_assoc : (a b c : Bool) → ((a || b) || c) ≡ (a || (b || c))
or_assoc true b c = refl
or_assoc false b c = refl

-- a run and one more command are a run
pub runs_push : (cs : List Command) (c : Command) (index : ℕ) (old mid : Scene) (text : List ℕ) (u : Bool) (new : Scene) (more : List ℕ) (b : Bool)
    → Runs index cs old mid text u → Turn (index + length cs) c mid new more b → Runs index (cs ++ c ∷ []) old new (text ++ more) (u || b)
runs_push [] c index old mid text u new more b r t =
    let t0 : Turn index c mid new more b = let e : index + 0 ≡ index = omega arith in subst (λ (i : ℕ). Turn i c mid new more b) e t in
    let t1 = subst (λ (m : Scene). Turn index c m new more b) r.0 t0 in
    (new, more, [], b, false, t1, (refl, refl, refl), ap (λ (x : List ℕ). x ++ more) r.1 ∙ sym (append-nil more), ap (λ (x : Bool). x || b) r.2 ∙ sym (or_false b))
runs_push (d ∷ ds) c index old mid text u new more b r t =
    let t0 : Turn ((index + 1) + length ds) c mid new more b = let e : index + suc (length ds) ≡ (index + 1) + length ds = omega arith in subst (λ (i : ℕ). Turn i c mid new more b) e t in
    let rest = runs_push ds c (index + 1) r.0 mid r.2 r.4 new more b r.6 t0 in
    (r.0, r.1, r.2 ++ more, r.3, (r.4 || b), r.5, rest, ap (λ (x : List ℕ). x ++ more) r.7 ∙ append_assoc r.1 r.2 more, ap (λ (x : Bool). x || b) r.8 ∙ or_assoc r.3 r.4 b)

pub grows_more : (old : Option (List ℕ)) (mid new : Option (List ℕ)) (a b : List ℕ) → Grows old a mid → Grows mid b new → Grows old (a ++ b) new
grows_more None mid new a b e f = subst (λ (m : Option (List ℕ)). Grows m b new) e f
grows_more (Some o) mid new a b e f = subst (λ (m : Option (List ℕ)). Grows m b new) e f ∙ ap Some (append_assoc o a b)

pub quiet_more : (old mid new : World) → IsQuiet old mid → IsQuiet mid new → IsQuiet old new
quiet_more old mid new before after = record { file_faults = after.file_faults ∙ before.file_faults; last = after.last ∙ before.last; sink_faults = after.sink_faults ∙ before.sink_faults }

-- an ended command is the next turn
pub ran_more : (cs : List Command) (c : Command) (stop : StepEnd) (u b : Bool) (start : Option CircuitValue) (old mid new : World) (origin : Option CircuitValue) → Ran cs u start old mid origin → (ended : Ended c (length cs + 1) stop mid new) → ((answer : Reply) → stop ≡ end_of answer → b ≡ is_unmet answer) → Ran (cs ++ c ∷ []) (u || b) start old new (latest ended.source origin)
ran_more cs c stop u b start old mid new origin ran ended which =
    let turn : Turn (1 + length cs) c (scene_of mid origin) (scene_of new (latest ended.source origin)) (reply_text (length cs + 1) ended.answer) b =
    record { answer = ended.answer; source = ended.source; effect = ended.effect; origin_is = refl; text_is = (let e : length cs + 1 ≡ 1 + length cs = omega arith in ap (λ (i : ℕ). reply_text i ended.answer) e); unmet_is = which ended.answer ended.end } in
    record {
      text = ran.text ++ reply_text (length cs + 1) ended.answer;
      runs = runs_push cs c 1 (scene_of old start) (scene_of mid origin) ran.text u (scene_of new (latest ended.source origin)) (reply_text (length cs + 1) ended.answer) b ran.runs turn;
      grows = grows_more old.written mid.written new.written ran.text (reply_text (length cs + 1) ended.answer) ran.grows ended.text;
      quiet = quiet_more old mid new ran.quiet ended.quiet;
    }

-- how an end says whether the command was met
pub met_is : (answer : Reply) → ends.Met ≡ end_of answer → false ≡ is_unmet answer
met_is answer e = grind arith

pub unmet_is : (cause : Unmet) (answer : Reply) → ends.Unmet cause ≡ end_of answer → true ≡ is_unmet answer
unmet_is cause answer e = grind arith

pub with_met : (u v : Bool) → v ≡ u → v ≡ (u || false)
with_met u v e = e ∙ sym (or_false u)

pub with_unmet : (u v : Bool) → v ≡ true → v ≡ (u || true)
with_unmet true v e = e
with_unmet false v e = e

-- a run to some origin
abbrev pub RanSomehow : List Command → Bool → Option CircuitValue → World → World → Type 0
RanSomehow commands unmet start old new = (origin : Option CircuitValue) × Ran commands unmet start old new origin

-- the next command of a list is the next turn
pub ran_next : (cmds : List Command) (i : ℕ) (c : Command) (stop : StepEnd) (u v b : Bool) (start : Option CircuitValue) (old mid new : World) → i < length cmds → c ≡ get_or cmds i c → RanSomehow (take i cmds) u start old mid → Ended c (i + 1) stop mid new → ((answer : Reply) → stop ≡ end_of answer → b ≡ is_unmet answer) → v ≡ (u || b) → RanSomehow (take (i + 1) cmds) v start old new
ran_next cmds i c stop u v b start old mid new lt is ran ended which v-is =
    let len : length (take i cmds) ≡ i = length-take-le i cmds (omega arith) in
    let at : Ended c (length (take i cmds) + 1) stop mid new = subst (λ (k : ℕ). Ended c (k + 1) stop mid new) (sym len) ended in
    let origin = latest at.source ran.0 in
    let more = ran_more (take i cmds) c stop u b start old mid new ran.0 ran.1 at which in
    let list : take i cmds ++ c ∷ [] ≡ take (i + 1) cmds = ap (λ (x : Command). take i cmds ++ x ∷ []) is ∙ sym (take_more cmds i c lt) in
    (origin, subst (λ (cs : List Command). Ran cs v start old new origin) list (subst (λ (x : Bool). Ran (take i cmds ++ c ∷ []) x start old new origin) (sym v-is) more))

-- ---- where a command stopped

pub after_fault : (c : Command) (i : ℕ) (mid new : World) (origin : Option CircuitValue) → Steps c i ends.Fault mid new → (after : Option CircuitValue) × AfterStop c mid new origin after
after_fault c i mid new origin (inl f) = (origin, inl (f.state, refl))
after_fault c i mid new origin (inr f) = (latest f.source origin, inr (f.answer, f.source, f.effect, refl))

pub after_memory : (c : Command) (i : ℕ) (mid new : World) (origin : Option CircuitValue) → Steps c i ends.NoMemory mid new → (after : Option CircuitValue) × AfterStop c mid new origin after
after_memory c i mid new origin step =
    elim step.effect [
      | inl f ↦ (origin, inl (f.state, refl))
      | inr f ↦ (latest f.source origin, inr (f.answer, f.source, f.effect, refl))
    ]

-- ---- a run of a list of commands, from its front

grows_by_nothing : (old : Option (List ℕ)) → Grows old [] old
grows_by_nothing None = refl
grows_by_nothing (Some o) = ap Some (sym (append-nil o))

pub ran_nothing : (old : World) (start : Option CircuitValue) → RanSomehow [] false start old old
ran_nothing old start = (
  start,
  record {
    text = [];
    runs = (refl, refl, refl);
    grows = grows_by_nothing old.written;
    quiet = record { file_faults = refl; last = refl; sink_faults = refl };
  },
)

pub ran_all : (cmds : List Command) (i : ℕ) (u v : Bool) (start : Option CircuitValue) (old new : World) → length cmds ≤ i → u ≡ v → RanSomehow (take i cmds) u start old new → RanSomehow cmds v start old new
ran_all cmds i u v start old new le same ran =
    let list : take i cmds ≡ cmds = take_all i cmds le in
    subst (λ (cs : List Command). RanSomehow cs v start old new) list (subst (λ (b : Bool). RanSomehow (take i cmds) b start old new) same ran)

-- a stop to some origin
abbrev pub StoppedSomehow : List Command → StepEnd → Option CircuitValue → World → World → Type 0
StoppedSomehow commands stop start old new = (origin : Option CircuitValue) × Stopped commands stop start old new origin

pub stopped_at : (cmds : List Command) (i : ℕ) (c : Command) (stop : StepEnd) (u : Bool) (start : Option CircuitValue) (old mid new : World) → i < length cmds → c ≡ get_or cmds i c → RanSomehow (take i cmds) u start old mid → Steps c (i + 1) stop mid new
    → ((origin : Option CircuitValue) → (after : Option CircuitValue) × AfterStop c mid new origin after) → StoppedSomehow cmds stop start old new
stopped_at cmds i c stop u start old mid new lt is ran step after =
    let later = after ran.0 in (
      later.0,
      record {
        done = i;
        command = c;
        next = slice_get_read cmds (length cmds) i c refl lt is;
        unmet = u;
        mid = mid;
        mid_origin = ran.0;
        ran = ran.1;
        step = step;
        after = later.1;
      },
    )
