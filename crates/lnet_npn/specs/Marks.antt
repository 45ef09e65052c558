-- Marks on functions of four variables, by their numbers.
use Rattle.std.specs.Prelude.{◌≡◌, ℕ, Bool, false, List}
use lib.ListN.{get_or}
use Rattle.lnet_npn.specs.declared.transforms.Transform.{Transform}
use Rattle.lnet_npn.specs.Transforms.{IsTransform, image_of}

-- whether a function is marked
abbrev pub is_marked : List Bool → ℕ → Bool
is_marked marks m = get_or marks m false

-- some transform makes m of a function
pub record IsImage (word m : ℕ) : Type 0 where
  pub by : Transform
  pub lawful : IsTransform by
  pub makes : m ≡ image_of by word
