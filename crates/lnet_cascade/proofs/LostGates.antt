-- A number that was noted as lost is taken.
use Rattle.std.proofs.Common.{◌≡◌, ℕ, true, false, length, sym, ap, subst, ◌∙◌, inl, inr, length-set, get_or-set_other}
use Rattle.std.specs.Prelude.{slice_set}
use Rattle.std.proofs.lemmas.Bool.Decides.{eqb_tells}
use Rattle.lnet_model.specs.Networks.{IsGate, NetworkValue}
use Rattle.lnet_model.specs.Changes.{IsGateAt, without}
use Rattle.lnet_model.specs.Fanouts.{references}
use Rattle.lnet_model.proofs.Changes.{without-here}
use Rattle.lnet_hashed.specs.declared.notes.Notes.{Notes}
use Rattle.lnet_substitution.proofs.Dropping.{drop-step}
use Rattle.lnet_substitution.proofs.Merging.{not-both}
use Rattle.lnet_substitution.proofs.Replaced.{nothing-some}
use Rattle.lnet_cascade.specs.Marks.{marks_of}
use Rattle.lnet_cascade.specs.Noting.{NotesFollow, NotesGoOn}
use Rattle.lnet_cascade.specs.Losing.{Drops}
use Rattle.lnet_cascade.proofs.Marking.{clear-here}
use Rattle.lnet_cascade.proofs.Named.{referenced-named, unreferenced-unnamed}

-- the notes stay true and complete where a number is noted no more at which no gate stands without a reference
taken-goes_on : (C : NetworkValue) (old new : Notes) (k : ℕ) → new.fresh ≡ old.fresh → new.lost ≡ slice_set old.lost k false →
    (IsGateAt C k → references C k ≡ 0 → ⊥) → NotesGoOn C old C new
taken-goes_on C old new k fresh lost none N noted n gate =
    let I = noted n gate in record {
      had_none = λ h. I.had_none (subst (λ bs. marks_of bs n ≡ true) fresh h);
      had_one = λ h. I.had_one (was n (subst (λ bs. marks_of bs n ≡ true) lost h));
      gain = λ some zero. subst (λ bs. marks_of bs n ≡ true) (sym fresh) (I.gain some zero);
      loss = λ zero some. subst (λ bs. marks_of bs n ≡ true) (sym lost) (elim (eqb_tells n k) as (λ _. marks_of (slice_set old.lost k false) n ≡ true) [
        | inl p ↦ absurd (none (subst (IsGateAt C) p.1 gate) (subst (λ z. references C z ≡ 0) p.1 zero))
        | inr p ↦ get_or-set_other old.lost k n false false p.1 ∙ I.loss zero some
      ]);
    }
  where
    was : (n : ℕ) → marks_of (slice_set old.lost k false) n ≡ true → marks_of old.lost n ≡ true
    was n h = elim (eqb_tells n k) as (λ _. marks_of old.lost n ≡ true) [
      | inl p ↦ absurd (not-both (marks_of (slice_set old.lost k false) k) (clear-here old.lost k) (subst (λ z. marks_of (slice_set old.lost k false) z ≡ true) p.1 h))
      | inr p ↦ sym (get_or-set_other old.lost k n false false p.1) ∙ h
    ]

pub notes-taken : (C : NetworkValue) (old new : Notes) (k : ℕ) → new.fresh ≡ old.fresh → new.lost ≡ slice_set old.lost k false →
    (IsGateAt C k → references C k ≡ 0 → ⊥) → NotesFollow C old C new
notes-taken C old new k fresh lost none = record {
  goes_on = taken-goes_on C old new k fresh lost none;
  fresh_long = ap length fresh;
  lost_long = ap length lost ∙ length-set old.lost k false;
}

pub no-gate : (C : NetworkValue) (k : ℕ) → IsGateAt (without C k) k → ⊥
no-gate C k gate = nothing-some (IsGate gate.0) (sym (without-here C k) ∙ gate.1)

-- a gate that lost its last reference goes
pub drops-gate : (C : NetworkValue) (notes : Notes) (k : ℕ) → IsGateAt C k → references C k ≡ 0 → marks_of notes.lost k ≡ true → Drops C notes (without C k)
drops-gate C notes k gate free lost N P noted S = drop-step N P C S k gate (unreferenced-unnamed C k free) (referenced-named N k ((noted k gate).had_one lost))
