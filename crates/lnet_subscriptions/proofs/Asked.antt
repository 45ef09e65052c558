-- What a live view answers of a node.
use Rattle.std.proofs.Common.{◌≡◌, ℕ, List, Option, None, Some, IsSome, IfSome, option_map, slice_get, refl, sym, ap, ◌∙◌}
use Rattle.std.specs.Prelude.{IsSomeAnd}
use Rattle.lnet_model.specs.Networks.{NetworkValue, Entry, IsLive, entry_at}
use Rattle.lnet_model.specs.Levels.{level}
use Rattle.lnet_model.specs.Answers.{Answer, from_scratch, level_in}
use Rattle.lnet_model.specs.declared.view_spec.ViewSpec.{ViewSpec}
use Rattle.lnet_model.specs.declared.view_spec.ViewSpec.TheVariants.{Depth}
use Rattle.lnet_model.specs.declared.view_spec.ViewKind.{ViewKind}
use Rattle.lnet_hashed.specs.Views.{Fits, StandsAs}
use Rattle.lnet_network.specs.Kept.{level_kept}
use Rattle.lnet_subscriptions.specs.Rolls.{place_among, spec_at, spec_under}

-- the spec of the live view at the place of its number
pub spec-here : (number : ℕ) (live : List (ℕ × ViewSpec)) (i : ℕ) (p : ℕ × ViewSpec) → place_among number live ≡ Some i → slice_get live i ≡ Some p → spec_under number live ≡ Some p.1
spec-here number live i p at here = ap (spec_at live) at ∙ ap (option_map (λ q. q.1)) here

-- a view that stands as a depth view is attached for levels
pub stands-depth : {B : Type 0} (kind_of : B → ViewKind) (spec_of : B → Option ViewSpec) (o : Option B) (kind : ViewKind) (spec : ViewSpec) → spec ≡ Depth → IsSomeAnd o (StandsAs kind_of spec_of kind spec) → IsSomeAnd o (λ b. spec_of b ≡ Some Depth)
stands-depth kind_of spec_of None kind spec e h = h
stands-depth kind_of spec_of (Some b) kind spec e h = h.of_spec ∙ ap Some e

same-some : {A : Type 0} {x y : A} → Some x ≡ Some y → x ≡ y
same-some e = cc

scratch-level : (N : NetworkValue) (n : ℕ) (o : Option Entry) → level_in (option_map (λ _. from_scratch Depth N n) o) ≡ option_map (λ _. level N n) o
unfolding from_scratch
scratch-level N n None = refl
scratch-level N n (Some e) = refl

-- a depth view in step keeps the levels of the live nodes, and nothing else
pub level-read : {B : Type 0} (spec_of : B → Option ViewSpec) (kept : B → ℕ → Option Answer) (room : B → ℕ) (N : NetworkValue) (numbers : ℕ) (slot : Option B) (n : ℕ) → IsSomeAnd slot (λ b. spec_of b ≡ Some Depth) → IfSome slot (Fits spec_of kept room N numbers) → level_kept (option_map (λ b. kept b n) slot) ≡ option_map (λ _. level N n) (entry_at N n)
level-read spec_of kept room N numbers None n of_depth fits = absurd of_depth
level-read spec_of kept room N numbers (Some b) n of_depth fits =
    let asked : fits.in_step.asked ≡ Depth = same-some (sym fits.in_step.attached ∙ of_depth) in
    ap level_in (fits.in_step.answers n) ∙ ap (λ (s : ViewSpec). level_in (option_map (λ _. from_scratch s N n) (entry_at N n))) asked ∙ scratch-level N n (entry_at N n)

pub level-some : (N : NetworkValue) (n l : ℕ) → Some l ≡ option_map (λ _. level N n) (entry_at N n) → (l ≡ level N n) × IsLive N n
level-some N n l e = by_entry (entry_at N n) e where
  by_entry : (o : Option Entry) → Some l ≡ option_map (λ _. level N n) o → (l ≡ level N n) × IsSome o
  by_entry None e = cc
  by_entry (Some x) e = (same-some e, refl)

pub level-none : (N : NetworkValue) (n : ℕ) → None ≡ option_map (λ _. level N n) (entry_at N n) → IsLive N n → ⊥
level-none N n e live = by_entry (entry_at N n) e live where
  by_entry : (o : Option Entry) → None ≡ option_map (λ _. level N n) o → IsSome o → ⊥
  by_entry None e h = cc
  by_entry (Some x) e h = cc
