-- The views of a session as contracts see them: those that are live, by number and spec, and the kinds of those on the shelf.
use Rattle.std.specs.Prelude.{◌≡◌, ℕ, ◌+◌, ◌==◌, Bool, true, false, List, [], ◌∷◌, ◌++◌, map, Option, None, Some, slice_get, option_map}
use Rattle.std.specs.List.{position, remove}
use Rattle.lnet_model.specs.Answers.{kind_for}
use Rattle.lnet_model.specs.declared.view_spec.ViewKind.{ViewKind}
use Rattle.lnet_model.specs.declared.view_spec.ViewKind.TheVariants as kinds
use Rattle.lnet_model.specs.declared.view_spec.ViewSpec.{ViewSpec}

-- the live views, by number and spec, in the order of their numbers; the number that the next one gets; and the kinds of the
-- views on the shelf, in order
pub record Roll : Type 0 where
  pub live : List (ℕ × ViewSpec)
  pub next : ℕ
  pub shelf : List ViewKind

-- whether two kinds are one
abbrev pub same_kind : ViewKind → ViewKind → Bool
same_kind kinds.Depth kinds.Depth = true
same_kind kinds.Fanout kinds.Fanout = true
same_kind kinds.Cuts kinds.Cuts = true
same_kind _ _ = false

-- where the first of a kind stands on a shelf
abbrev pub place_of : ViewKind → List ViewKind → Option ℕ
place_of kind shelf = position (same_kind kind) shelf

-- where a number stands among the live views
abbrev pub place_among : ℕ → List (ℕ × ViewSpec) → Option ℕ
place_among number live = position (λ p. p.0 == number) live

-- the spec of the live view at a place
abbrev pub spec_at : List (ℕ × ViewSpec) → Option ℕ → Option ViewSpec
spec_at live None = None
spec_at live (Some i) = option_map (λ p. p.1) (slice_get live i)

-- the spec of the live view with a number, where there is one
abbrev pub spec_under : ℕ → List (ℕ × ViewSpec) → Option ViewSpec
spec_under number live = spec_at live (place_among number live)

-- the first view of the spec's kind leaves the shelf, and is live under the next number
pub record Attaches (old : Roll) (spec : ViewSpec) (new : Roll) : Type 0 where
  pub at : ℕ
  pub found : place_of (kind_for spec) old.shelf ≡ Some at
  pub becomes : new ≡ record { live = old.live ++ (old.next, spec) ∷ []; next = old.next + 1; shelf = remove old.shelf at }

-- the live view with the number goes to the end of the shelf
pub record Drops (old : Roll) (number : ℕ) (new : Roll) : Type 0 where
  pub at : ℕ
  pub spec : ViewSpec
  pub found : place_among number old.live ≡ Some at
  pub stands : slice_get old.live at ≡ Some (number, spec)
  pub becomes : new ≡ record { live = remove old.live at; next = old.next; shelf = old.shelf ++ kind_for spec ∷ [] }

-- all live views go to the end of the shelf, in order
abbrev pub all_shelved : Roll → Roll
all_shelved old = record { live = []; next = old.next; shelf = old.shelf ++ map (λ p. kind_for p.1) old.live }
