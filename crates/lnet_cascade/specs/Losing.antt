-- Gates that lost their last reference.
use Rattle.std.specs.Prelude.{◌≡◌, ℕ, ◌<◌}
use Rattle.lnet_model.specs.Networks.{NetworkValue}
use Rattle.lnet_model.specs.Changes.{IsGateAt}
use Rattle.lnet_model.specs.Fanouts.{references}
use Rattle.lnet_hashed.specs.declared.notes.Notes.{Notes}
use Rattle.lnet_substitution.specs.Cascades.{IsDropping}
use Rattle.lnet_cascade.specs.Noting.{AreNoted}

-- x is a gate that had a reference in N, and has none any more
pub record IsLost (N Q : NetworkValue) (x : ℕ) : Type 0 where
  pub gate : IsGateAt Q x
  pub had_one : 0 < references N x
  pub free : references Q x ≡ 0

-- whichever sweep of lost gates it was that the notes told of, it still is
abbrev pub Drops : NetworkValue → Notes → NetworkValue → Type 0
Drops old notes new = (N P : NetworkValue) → AreNoted N old notes → IsDropping N P old → IsDropping N P new
