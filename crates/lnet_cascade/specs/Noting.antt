-- Notes of the gates that gain a first reference and of those that lose their last one while a substitution runs.
use Rattle.std.specs.Prelude.{◌≡◌, ℕ, ◌<◌, ◌≤◌, Bool, true, false, List, length}
use Rattle.lnet_model.specs.Networks.{NetworkValue, live_count}
use Rattle.lnet_model.specs.Changes.{IsGateAt}
use Rattle.lnet_model.specs.Fanouts.{references}
use Rattle.lnet_model.specs.Dags.{AreBelow}
use Rattle.lnet_store.specs.StoreValues.{StoreValue}
use Rattle.lnet_hashed.specs.declared.notes.Notes.{Notes}
use Rattle.lnet_cascade.specs.Marks.{marks_of}

-- of a gate that had `before` references when the substitution began and has `now`: what is noted is true, and it is noted where it
-- lost all that it had, or gained some and had none
pub record IsNoted (before now : ℕ) (fresh lost : Bool) : Type 0 where
  pub had_none : fresh ≡ true → before ≡ 0
  pub had_one : lost ≡ true → 0 < before
  pub gain : 0 < now → before ≡ 0 → fresh ≡ true
  pub loss : now ≡ 0 → 0 < before → lost ≡ true

-- so it is of each gate of C, in a substitution that began with N
abbrev pub AreNoted : NetworkValue → NetworkValue → Notes → Type 0
AreNoted N C notes = (n : ℕ) → IsGateAt C n → IsNoted (references N n) (references C n) (marks_of notes.fresh n) (marks_of notes.lost n)

-- whatever the substitution began with, the notes stay true and complete
abbrev pub NotesGoOn : NetworkValue → Notes → NetworkValue → Notes → Type 0
NotesGoOn C old D new = (N : NetworkValue) → AreNoted N C old → AreNoted N D new

-- nothing names n, and it isn't marked
abbrev pub IsUnread : NetworkValue → List Bool → ℕ → Type 0
IsUnread C bs n = (references C n ≡ 0) × (marks_of bs n ≡ false)

-- there is room for notes of each live number
pub record CanNoteAll (C : NetworkValue) (notes : Notes) : Type 0 where
  pub fresh : AreBelow C (length notes.fresh)
  pub lost : AreBelow C (length notes.lost)

-- so they stay, and there is room for notes of as many numbers
pub record NotesFollow (C : NetworkValue) (old : Notes) (D : NetworkValue) (new : Notes) : Type 0 where
  pub goes_on : NotesGoOn C old D new
  pub fresh_long : length new.fresh ≡ length old.fresh
  pub lost_long : length new.lost ≡ length old.lost

-- as many numbers are live, and there is memory for no fewer further ones
pub record KeepsCount (old new : StoreValue) : Type 0 where
  pub count : live_count new.network ≡ live_count old.network
  pub spare : old.spare ≤ new.spare
