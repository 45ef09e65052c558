-- When a run ends with each status.
use Rattle.std.proofs.Common.{◌≡◌, ℕ, ◌+◌, ◌⊎◌, Bool, true, false, List, [], ◌∷◌, length, Option, Some, None, Result, Ok, Err, refl, sym, ap, subst, ◌∙◌, inl, inr, arith}
use Rattle.std.specs.Prelude.{◌||◌}
use Rattle.std.proofs.lemmas.Option.{get_or_from_slice_get, slice_get_within}
use Rattle.lnet_edge.specs.Outside.{Rose, one_more}
use Rattle.lnet_edge.specs.Circuits.{CircuitValue}
use Rattle.lnet_script.specs.declared.command.Command.{Command}
use Rattle.lnet_session.specs.declared.stepping.StepEnd.TheVariants as ends
use Rattle.lnet_run.specs.declared.running.RunEnd.TheVariants as run
use Rattle.lnet_run.specs.declared.top.Refusal.{Refusal}
use Rattle.lnet_run.specs.declared.top.Refusal.TheVariants as refusal
use Rattle.lnet_run.specs.declared.top.Ending.{Ending}
use Rattle.lnet_run.specs.declared.top.Ending.TheVariants as ending
use Rattle.lnet_script.specs.Scripts.{IsScript, commands_in}
use Rattle.lnet_session.specs.Steps.{World, IsQuiet, CallFailed, PutFailed}
use Rattle.lnet_run.specs.Runs.{Scene, Turn, Runs, Stopped, scene_of}
use Rattle.lnet_run.specs.Ends.{script_of, IsRefused, IsAccepted, EndsAs, status_number, IsRefusedSomehow, Untouched, IsFaulty, MeetsNoCause, IsUnhindered, IsOrMemory}
use Rattle.lnet_script.specs.Pieces.{pieces_of}
use Rattle.lnet_script.proofs.ScriptLaws.{bad_read, spelled_read, ok_is}
use Rattle.lnet_run.proofs.Following.{call-some}
use Rattle.lnet_run.proofs.Chain.{quiet_more}

-- ---- the words and the script are accepted or refused, and not both

same_bytes : (words : List (List ℕ)) (x y : List ℕ) → script_of words ≡ Some x → script_of words ≡ Some y → x ≡ y
same_bytes words x y e f = ap (or_else x) (sym e ∙ f) where
  or_else : List ℕ → Option (List ℕ) → List ℕ
  or_else d None = d
  or_else d (Some z) = z

-- bytes are a script of one list of commands alone
one_script : (bytes : List ℕ) (cs ds : List Command) → IsScript bytes cs → IsScript bytes ds → cs ≡ ds
one_script bytes cs ds is also = ok_is cs ds (sym (spelled_read (pieces_of bytes) cs is) ∙ spelled_read (pieces_of bytes) ds also)

accepted_once : (words : List (List ℕ)) (cs ds : List Command) → IsAccepted words cs → IsAccepted words ds → cs ≡ ds
accepted_once words cs ds a b = one_script a.bytes cs ds a.script (subst (λ (t : List ℕ). IsScript t ds) (same_bytes words b.bytes a.bytes b.word a.word) b.script)

ok_apart : (r : Result (List Command) ℕ) (cs : List Command) (line : ℕ) → r ≡ Ok cs → r ≡ Err line → ⊥
ok_apart r cs line is bad = absurd (cc (is, bad))

not_both : (words : List (List ℕ)) (cs : List Command) (r : Refusal) → IsAccepted words cs → IsRefused words r → ⊥
not_both words cs refusal.Words a r = absurd (cc (a.word, r))
not_both words cs (refusal.Script line) a r =
    let same = same_bytes words r.0 a.bytes r.1 a.word in
    elim r.2 [
      | inl long ↦ let le = a.short in let e = ap length same in absurd (omega (arith, long.0))
      | inr other ↦ ok_apart (commands_in (pieces_of r.0)) cs line (spelled_read (pieces_of r.0) cs (subst (λ (t : List ℕ). IsScript t cs) (sym same) a.script)) (bad_read (pieces_of r.0) line other.1)
    ]

-- ---- counts

rose_more : (a b c : ℕ) → b ≡ a → c ≡ one_more b → Rose a c
rose_more a b c same more = omega (arith, same, more)

quiet-untouched : (old new : World) → Untouched old new → new.sink_faults ≡ old.sink_faults → IsQuiet old new
quiet-untouched old new same sink = record { file_faults = same.file_faults; last = same.last; sink_faults = sink }

-- ---- where no command meets a cause

turn_met : (i : ℕ) (c : Command) (cs : List Command) (old new : Scene) (text : List ℕ) (u : Bool) → MeetsNoCause (c ∷ cs) old.state old.contents → Turn i c old new text u → (u ≡ false) × MeetsNoCause cs new.state new.contents
turn_met i c cs old new text u none t =
    let n = none t.answer t.source new.state new.contents t.effect in
    (t.unmet_is ∙ n.0, n.1)

runs_met : (i : ℕ) (cs : List Command) (old new : Scene) (text : List ℕ) (u : Bool) → MeetsNoCause cs old.state old.contents → Runs i cs old new text u → u ≡ false
runs_met i [] old new text u none r = r.2
runs_met i (c ∷ cs) old new text u none r =
    let t = turn_met i c cs old r.0 r.1 r.3 none r.5 in
    let rest = runs_met (i + 1) cs r.0 new r.2 r.4 t.1 r.6 in
    r.8 ∙ ap (λ (b : Bool). b || r.4) t.0 ∙ rest

-- ---- faults

faulty : (words : List (List ℕ)) (cs : List Command) (old new : World) (origin : Option CircuitValue) → IsAccepted words cs → Stopped cs ends.Fault None old new origin → IsFaulty words old new
faulty words cs old new origin a s = by_step s.step where
  by_step : (CallFailed s.command s.mid new ⊎ PutFailed s.command (s.done + 1) s.mid new) → IsFaulty words old new
  by_step (inl f) = inr (record {
    rose = rose_more old.file_faults s.mid.file_faults new.file_faults s.ran.quiet.file_faults f.file_faults;
    commands = cs;
    accepted = a;
    command = s.command;
    of_script = (s.done, slice_get_within cs s.done s.command s.next, get_or_from_slice_get cs s.done s.command s.command s.next);
    makes = call-some s.command s.mid.state f.allowed;
    last = f.last;
  })
  by_step (inr f) = inl (rose_more old.sink_faults s.mid.sink_faults new.sink_faults s.ran.quiet.sink_faults f.sink_faults)

-- ---- the statuses of the ends

abbrev Is : ℕ → ℕ → Type 0
Is number status = status ≡ number

end_refused : (words : List (List ℕ)) (end : Ending) (old new : World) (origin : Option CircuitValue) → EndsAs words end old new origin → status_number end ≡ 2 → IsRefusedSomehow words
end_refused words (ending.Ran run.AllMet) old new origin e s = absurd cc
end_refused words (ending.Ran run.SomeUnmet) old new origin e s = absurd cc
end_refused words (ending.Ran run.Fault) old new origin e s = absurd cc
end_refused words (ending.Ran run.NoMemory) old new origin e s = absurd cc
end_refused words (ending.Refused r) old new origin e s = (r, e.0.refused)
end_refused words (ending.NotPut r) old new origin e s = absurd cc
end_refused words ending.NoMemory old new origin e s = absurd cc

refused_end : (words : List (List ℕ)) (end : Ending) (old new : World) (origin : Option CircuitValue) → EndsAs words end old new origin → IsRefusedSomehow words → (status_number end ≡ 2) ⊎ IsOrMemory 3 (status_number end)
refused_end words (ending.Ran end) old new origin e r = absurd (not_both words e.commands r.0 e.accepted r.1)
refused_end words (ending.Refused r) old new origin e q = inl refl
refused_end words (ending.NotPut r) old new origin e q = inr (inl refl)
refused_end words ending.NoMemory old new origin e q = inr (inr refl)

end_faulty : (words : List (List ℕ)) (end : Ending) (old new : World) (origin : Option CircuitValue) → EndsAs words end old new origin → status_number end ≡ 3 → IsFaulty words old new
end_faulty words (ending.Ran run.AllMet) old new origin e s = absurd cc
end_faulty words (ending.Ran run.SomeUnmet) old new origin e s = absurd cc
end_faulty words (ending.Ran run.Fault) old new origin e s = faulty words e.commands old new origin e.accepted e.runs
end_faulty words (ending.Ran run.NoMemory) old new origin e s = absurd cc
end_faulty words (ending.Refused r) old new origin e s = absurd cc
end_faulty words (ending.NotPut r) old new origin e s = inl (rose_more old.sink_faults old.sink_faults new.sink_faults refl e.0.sink_faults)
end_faulty words ending.NoMemory old new origin e s = absurd cc

free_end : (words : List (List ℕ)) (end : Ending) (old new : World) (origin : Option CircuitValue) → EndsAs words end old new origin → IsUnhindered words old new → IsOrMemory 0 (status_number end)
free_end words (ending.Ran run.AllMet) old new origin e u = inl refl
free_end words (ending.Ran run.SomeUnmet) old new origin e u =
    let same = accepted_once words e.commands u.commands e.accepted u.accepted in
    let met = runs_met 1 u.commands (scene_of old None) (scene_of new origin) e.runs.text true u.no_cause (subst (λ (cs : List Command). Runs 1 cs (scene_of old None) (scene_of new origin) e.runs.text true) same e.runs.runs) in
    absurd (cc met)
free_end words (ending.Ran run.Fault) old new origin e u = elim (faulty words e.commands old new origin e.accepted e.runs) [ inl f ↦ absurd (u.no_sink_fault f) | inr f ↦ absurd (u.no_file_fault f.rose) ]
free_end words (ending.Ran run.NoMemory) old new origin e u = inr refl
free_end words (ending.Refused r) old new origin e u = absurd (not_both words u.commands r u.accepted e.0.refused)
free_end words (ending.NotPut r) old new origin e u = absurd (u.no_sink_fault (rose_more old.sink_faults old.sink_faults new.sink_faults refl e.0.sink_faults))
free_end words ending.NoMemory old new origin e u = inr refl

pub end_quiet : (words : List (List ℕ)) (end : Ending) (old new : World) (origin : Option CircuitValue) → EndsAs words end old new origin → (status_number end ≡ 3 → ⊥) → IsQuiet old new
end_quiet words (ending.Ran run.AllMet) old new origin e other = e.runs.quiet
end_quiet words (ending.Ran run.SomeUnmet) old new origin e other = e.runs.quiet
end_quiet words (ending.Ran run.Fault) old new origin e other = absurd (other refl)
end_quiet words (ending.Ran run.NoMemory) old new origin e other = quiet_more old e.runs.mid new e.runs.ran.quiet e.runs.step.quiet
end_quiet words (ending.Refused r) old new origin e other = quiet-untouched old new e.0.untouched e.0.sink_faults
end_quiet words (ending.NotPut r) old new origin e other = absurd (other refl)
end_quiet words ending.NoMemory old new origin e other = quiet-untouched old new e.0.untouched e.0.sink_faults

-- ---- the same of a status

pub status_refused : (words : List (List ℕ)) (end : Ending) (status : ℕ) (old new : World) (origin : Option CircuitValue) → status ≡ status_number end → EndsAs words end old new origin → status ≡ 2 → IsRefusedSomehow words
status_refused words end status old new origin is e two = end_refused words end old new origin e (sym is ∙ two)

pub refused_status : (words : List (List ℕ)) (end : Ending) (status : ℕ) (old new : World) (origin : Option CircuitValue) → status ≡ status_number end → EndsAs words end old new origin → IsRefusedSomehow words → (status ≡ 2) ⊎ IsOrMemory 3 status
refused_status words end status old new origin is e r = subst (λ (n : ℕ). (n ≡ 2) ⊎ IsOrMemory 3 n) (sym is) (refused_end words end old new origin e r)

pub status_faulty : (words : List (List ℕ)) (end : Ending) (status : ℕ) (old new : World) (origin : Option CircuitValue) → status ≡ status_number end → EndsAs words end old new origin → status ≡ 3 → IsFaulty words old new
status_faulty words end status old new origin is e three = end_faulty words end old new origin e (sym is ∙ three)

pub free_status : (words : List (List ℕ)) (end : Ending) (status : ℕ) (old new : World) (origin : Option CircuitValue) → status ≡ status_number end → EndsAs words end old new origin → IsUnhindered words old new → IsOrMemory 0 status
free_status words end status old new origin is e u = subst (IsOrMemory 0) (sym is) (free_end words end old new origin e u)
