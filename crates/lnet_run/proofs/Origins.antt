-- Over each run the network computes what the circuit of the file last read computes.
use Rattle.std.proofs.Common.{◌≡◌, ℕ, suc, ◌+◌, Bool, true, false, List, [], ◌∷◌, ◌++◌, length, take, Option, Some, None, refl, sym, ap, subst, ◌∙◌, inl, inr, append_assoc, cond, arith}
use Rattle.std.specs.Prelude.{◌||◌}
use Rattle.std.specs.declared.cmp.Ordering.{Ordering}
use Rattle.std.specs.Ordering.{is_eq}
use Rattle.std.specs.Cmp.{tied_itself}
use Rattle.std.specs.Cmp.Lexicographic.{nat_list_cmp_total}
use Rattle.std.specs.FinMap.{get, insert, get-insert}
use Rattle.lnet_edge.specs.Outside.{Contents}
use Rattle.lnet_edge.specs.Circuits.{CircuitValue}
use Rattle.lnet_script.specs.declared.command.Command.{Command}
use Rattle.lnet_script.specs.declared.command.Command.TheVariants.{Write}
use Rattle.lnet_script.specs.declared.command.WriteFormat.{WriteFormat}
use Rattle.lnet_replies.specs.declared.reply.Reply.{Reply}
use Rattle.lnet_replies.specs.declared.reply.Reply.TheVariants as reply
use Rattle.lnet_replies.specs.Texts.{is_unmet}
use Rattle.lnet_session.specs.declared.stepping.StepEnd.{StepEnd}
use Rattle.lnet_session.specs.declared.stepping.StepEnd.TheVariants as ends
use Rattle.lnet_run.specs.declared.running.RunEnd.{RunEnd}
use Rattle.lnet_run.specs.declared.running.RunEnd.TheVariants as run
use Rattle.lnet_run.specs.declared.top.Ending.{Ending}
use Rattle.lnet_run.specs.declared.top.Ending.TheVariants as ending
use Rattle.lnet_run.specs.Ends.{EndsAs, Untouched}
use Rattle.lnet_session.specs.States.{Held, State}
use Rattle.lnet_session.specs.Effects.{Writes, written_text, with_content}
use Rattle.lnet_session.specs.Steps.{World}
use Rattle.lnet_run.specs.Runs.{Scene, Turn, Runs, SplitsAt, Ran, Stopped, AfterStop, RunsTo, FollowsOrigin, scene_of}
use Rattle.lnet_session.specs.Formats.{reader_of}
use Rattle.lnet_run.specs.Written.{HoldsOrigin}
use Rattle.lnet_run.proofs.Following.{effect-follows}

turn-follows : (i : ℕ) (c : Command) (old new : Scene) (text : List ℕ) (u : Bool) → FollowsOrigin old.state.held old.origin → Turn i c old new text u → FollowsOrigin new.state.held new.origin
turn-follows i c old new text u h t = subst (FollowsOrigin new.state.held) (sym t.origin_is) (effect-follows c old.state new.state old.contents new.contents t.answer t.source old.origin h t.effect)

runs-follow : (i : ℕ) (cs : List Command) (old new : Scene) (text : List ℕ) (u : Bool) → FollowsOrigin old.state.held old.origin → Runs i cs old new text u → FollowsOrigin new.state.held new.origin
runs-follow i [] old new text u h r = subst (λ (s : Scene). FollowsOrigin s.state.held s.origin) (sym r.0) h
runs-follow i (c ∷ cs) old new text u h r = runs-follow (i + 1) cs r.0 new r.2 r.4 (turn-follows i c old r.0 r.1 r.3 h r.5) r.6

none-follows : (h : Option Held) (origin : Option CircuitValue) → h ≡ None → FollowsOrigin h origin
none-follows h origin e = subst (λ (m : Option Held). FollowsOrigin m origin) (sym e) tt

pub runs_follow : (i : ℕ) (cs : List Command) (old new : Scene) (text : List ℕ) (u : Bool) → old.state.held ≡ None → Runs i cs old new text u → FollowsOrigin new.state.held new.origin
runs_follow i cs old new text u none r = runs-follow i cs old new text u (none-follows old.state.held old.origin none) r

-- ---- what is written

held : (k : Contents) (name text : List ℕ) → get (insert k name text) name ≡ Some text
held k name text = get-insert nat_list_cmp_total k name text name ∙ ap (λ (r : Ordering). cond (is_eq r) (Some text) (get k name)) (tied_itself nat_list_cmp_total name)

or_else : Option Contents → Contents → Contents
or_else None d = d
or_else (Some x) d = x

same_some : (x y : Contents) → Some x ≡ Some y → x ≡ y
unfolding or_else
same_some x y e = ap (λ (o : Option Contents). or_else o x) e

told : (before : Option Contents) (name text : List ℕ) (m : Contents) → with_content before name text ≡ Some m → get m name ≡ Some text
told None name text m e = absurd cc
told (Some k) name text m e = ap (λ (x : Contents). get x name) (sym (same_some (insert k name text) m e)) ∙ held k name text

wrote : (format : WriteFormat) (h : Option Held) (before after : Option Contents) (name : List ℕ) (count : ℕ) (origin : Option CircuitValue) (m : Contents) → FollowsOrigin h origin → Writes format h before name (reply.Wrote count) after → after ≡ Some m → HoldsOrigin (reader_of format) m name origin
wrote format None before after name count origin m f e is = absurd e
wrote format (Some h) before after name count origin m f e is =
    (written_text format h, told before name (written_text format h) m (sym e.2 ∙ is), (f.0, f.1, (e.3.circuit, e.3.means, λ a. e.3.shown a ∙ f.3 a)))

-- a met write wrote
met-wrote : (format : WriteFormat) (h : Option Held) (before after : Option Contents) (name : List ℕ) (answer : Reply) (origin : Option CircuitValue) (m : Contents) → FollowsOrigin h origin → Writes format h before name answer after → false ≡ is_unmet answer → after ≡ Some m → HoldsOrigin (reader_of format) m name origin
met-wrote format h before after name (reply.Wrote count) origin m f w met is = wrote format h before after name count origin m f w is
met-wrote format h before after name _ origin m f w met is = absurd (grind arith)

pub writes_follow : (i : ℕ) (cs : List Command) (old mid new : Scene) (text line : List ℕ) (u : Bool) (j : ℕ) (format : WriteFormat) (name : List ℕ) (m : Contents) → old.state.held ≡ None → Runs i cs old mid text u → Turn j (Write format name) mid new line false → new.contents ≡ Some m → HoldsOrigin (reader_of format) m name mid.origin
writes_follow i cs old mid new text line u j format name m none r t is =
    met-wrote format mid.state.held mid.contents new.contents name t.answer mid.origin m (runs_follow i cs old mid text u none r) t.effect.0 t.unmet_is is

-- ---- each end of a run

ran-follows : (cs : List Command) (u : Bool) (start : Option CircuitValue) (old new : World) (origin : Option CircuitValue) → FollowsOrigin old.state.held start → Ran cs u start old new origin → FollowsOrigin new.state.held origin
ran-follows cs u start old new origin h ran = runs-follow 1 cs (scene_of old start) (scene_of new origin) ran.text u h ran.runs

stop-follows : (c : Command) (old new : World) (before after : Option CircuitValue) → FollowsOrigin old.state.held before → AfterStop c old new before after → FollowsOrigin new.state.held after
stop-follows c old new before after h (inl s) = subst (FollowsOrigin new.state.held) (sym s.1) (subst (λ (t : State). FollowsOrigin t.held before) (sym s.0) h)
stop-follows c old new before after h (inr s) = subst (FollowsOrigin new.state.held) (sym s.3) (effect-follows c old.state new.state old.contents new.contents s.0 s.1 before h s.2)

stopped-follows : (cs : List Command) (stop : StepEnd) (start : Option CircuitValue) (old new : World) (origin : Option CircuitValue) → FollowsOrigin old.state.held start → Stopped cs stop start old new origin → FollowsOrigin new.state.held origin
stopped-follows cs stop start old new origin h s = stop-follows s.command s.mid new s.mid_origin origin (ran-follows (take s.done cs) s.unmet start old s.mid s.mid_origin h s.ran) s.after

runs_to-follow : (cs : List Command) (end : RunEnd) (start : Option CircuitValue) (old new : World) (origin : Option CircuitValue) → FollowsOrigin old.state.held start → RunsTo cs end start old new origin → FollowsOrigin new.state.held origin
runs_to-follow cs run.AllMet start old new origin h r = ran-follows cs false start old new origin h r
runs_to-follow cs run.SomeUnmet start old new origin h r = ran-follows cs true start old new origin h r
runs_to-follow cs run.Fault start old new origin h r = stopped-follows cs ends.Fault start old new origin h r
runs_to-follow cs run.NoMemory start old new origin h r = stopped-follows cs ends.NoMemory start old new origin h r

untouched-follows : (old new : World) (origin : Option CircuitValue) → old.state.held ≡ None → Untouched old new → FollowsOrigin new.state.held origin
untouched-follows old new origin none same = none-follows new.state.held origin (ap (λ (t : State). t.held) same.state ∙ none)

pub end_follows : (words : List (List ℕ)) (end : Ending) (old new : World) (origin : Option CircuitValue) → old.state.held ≡ None → EndsAs words end old new origin → FollowsOrigin new.state.held origin
end_follows words (ending.Ran end) old new origin none e = runs_to-follow e.commands end None old new origin (none-follows old.state.held None none) e.runs
end_follows words (ending.Refused r) old new origin none e = untouched-follows old new origin none e.0.untouched
end_follows words (ending.NotPut r) old new origin none e = untouched-follows old new origin none e.0.untouched
end_follows words ending.NoMemory old new origin none e = untouched-follows old new origin none e.0.untouched

-- ---- the states within a run

pub runs_split : (index : ℕ) (front rest : List Command) (old new : Scene) (text : List ℕ) (u : Bool) → Runs index (front ++ rest) old new text u → SplitsAt index front rest old new text
runs_split index [] rest old new text u r = let e : index + 0 ≡ index = omega arith in (old, [], text, false, u, (refl, refl, refl), subst (λ (i : ℕ). Runs i rest old new text u) (sym e) r, refl)
runs_split index (c ∷ cs) rest old new text u r =
    let s = runs_split (index + 1) cs rest r.0 new r.2 r.4 r.6 in
    let e : (index + 1) + length cs ≡ index + suc (length cs) = omega arith in
    (s.0, r.1 ++ s.1, s.2, (r.3 || s.3), s.4, (r.0, r.1, s.1, r.3, s.3, r.5, s.5, refl, refl), subst (λ (i : ℕ). Runs i rest s.0 new s.2 s.4) e s.6, r.7 ∙ ap (λ (x : List ℕ). r.1 ++ x) s.7 ∙ sym (append_assoc r.1 s.1 s.2))
