-- Notes at the beginning, from step to step, and their room.
use Rattle.std.proofs.Common.{ℕ, ◌≤◌, refl, sym, subst, ◌∙◌, arith}
use Rattle.lnet_model.specs.Networks.{NetworkValue}
use Rattle.lnet_model.specs.Dags.{AreBelow}
use Rattle.lnet_hashed.specs.declared.notes.Notes.{Notes}
use Rattle.lnet_hashed.specs.Noted.{AreBlank, CanNote}
use Rattle.lnet_substitution.proofs.Merging.{not-both}
use Rattle.lnet_cascade.specs.Marks.{marks_of}
use Rattle.lnet_cascade.specs.Noting.{AreNoted, CanNoteAll, NotesFollow}

-- at the beginning nothing is to be noted
pub notes-begin : (N : NetworkValue) (notes : Notes) → AreBlank notes → AreNoted N N notes
notes-begin N notes blank n gate = record {
  had_none = λ h. absurd (not-both (marks_of notes.fresh n) (blank.no_fresh n) h);
  had_one = λ h. absurd (not-both (marks_of notes.lost n) (blank.no_lost n) h);
  gain = λ some none. absurd (omega arith);
  loss = λ none some. absurd (omega arith);
}

pub follow-same : (C : NetworkValue) (notes : Notes) → NotesFollow C notes C notes
follow-same C notes = record { goes_on = λ N noted. noted; fresh_long = refl; lost_long = refl }

pub follow-twice : {C D E : NetworkValue} {old mid new : Notes} → NotesFollow C old D mid → NotesFollow D mid E new → NotesFollow C old E new
follow-twice a b = record {
  goes_on = λ N noted. b.goes_on N (a.goes_on N noted);
  fresh_long = b.fresh_long ∙ a.fresh_long;
  lost_long = b.lost_long ∙ a.lost_long;
}

-- ---- room

pub can-note : (C : NetworkValue) (notes : Notes) (room : ℕ) → AreBelow C room → CanNote notes room → CanNoteAll C notes
can-note C notes room below can = record {
  fresh = λ m live. (let low = below m live in let long = can.fresh_long in omega arith);
  lost = λ m live. (let low = below m live in let long = can.lost_long in omega arith);
}

pub still-noting : {C D : NetworkValue} {old new : Notes} (room : ℕ) → NotesFollow C old D new → CanNote old room → CanNote new room
still-noting room follow can = record {
  fresh_long = subst (λ z. room ≤ z) (sym follow.fresh_long) can.fresh_long;
  lost_long = subst (λ z. room ≤ z) (sym follow.lost_long) can.lost_long;
}
