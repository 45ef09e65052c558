-- What a view keeps for each live node, and when it is in step with a network.
use Rattle.std.specs.Prelude.{◌≡◌, ℕ, ◌≤◌, Bool, true, cond, ◌&&◌, List, [], ◌∷◌, eqb, option_map, slice_get, Option, None, Some}
use Rattle.std.specs.List.{list_any}
use Rattle.lnet_model.specs.Networks.{NetworkValue, entry_at}
use Rattle.lnet_model.specs.Levels.{level}
use Rattle.lnet_model.specs.Fanouts.{fan}
use Rattle.lnet_model.specs.Cuts.{CutValue, cuts}
use Rattle.lnet_model.specs.declared.view_spec.CutRule.{CutRule}
use Rattle.lnet_model.specs.declared.view_spec.ViewKind.{ViewKind}
use Rattle.lnet_model.specs.declared.view_spec.ViewSpec.{ViewSpec}
use Rattle.lnet_model.specs.declared.view_spec.ViewKind.TheVariants as kinds
use Rattle.lnet_model.specs.declared.view_spec.ViewSpec.TheVariants.{Depth, Fanout, Cuts}

-- the answer that a view keeps for a node: its level; its fanout; its level and its cut list
pub data Answer : Type 0 where
  Level : ℕ → Answer
  Parents : List (ℕ × ℕ) → Answer
  CutList : ℕ → List CutValue → Answer

-- the kind of the views that a spec is for
abbrev pub kind_for : ViewSpec → ViewKind
kind_for Depth = kinds.Depth
kind_for Fanout = kinds.Fanout
kind_for (Cuts rule) = kinds.Cuts

-- cuts of 3 to 8 leaves, and lists of 1 to 16 cuts beside the trivial one
pub record IsCutRule (rule : CutRule) : Type 0 where
  pub least_size : 3 ≤ rule.size
  pub greatest_size : rule.size ≤ 8
  pub least_limit : 1 ≤ rule.limit
  pub greatest_limit : rule.limit ≤ 16

-- a spec within the limits
abbrev pub IsSpec : ViewSpec → Type 0
IsSpec Depth = Unit {0}
IsSpec Fanout = Unit {0}
IsSpec (Cuts rule) = IsCutRule rule

-- what the definitions give for node n of N
unfoldable pub from_scratch : ViewSpec → NetworkValue → ℕ → Answer
from_scratch Depth N n = Level (level N n)
from_scratch Fanout N n = Parents (fan N n)
from_scratch (Cuts rule) N n = CutList (level N n) (cuts N rule.size rule.limit n)

-- attached for a spec, and the answers kept are those of the definitions at the live nodes, and none elsewhere
pub record InStep (spec : Option ViewSpec) (kept : ℕ → Option Answer) (N : NetworkValue) : Type 0 where
  pub asked : ViewSpec
  pub attached : spec ≡ Some asked
  pub answers : (n : ℕ) → kept n ≡ option_map (λ _. from_scratch asked N n) (entry_at N n)

-- ---- what a query reads of the answer that is kept

abbrev pub level_in : Option Answer → Option ℕ
level_in (Some (Level l)) = Some l
level_in _ = None

abbrev pub parents_in : Option Answer → Option (List (ℕ × ℕ))
parents_in (Some (Parents ps)) = Some ps
parents_in _ = None

abbrev pub cuts_in : Option Answer → Option (List CutValue)
cuts_in (Some (CutList l cs)) = Some cs
cuts_in _ = None

-- item i of a list, where there is a list and it has one
abbrev pub item_in : {A : Type 0} → Option (List A) → ℕ → Option A
item_in None i = None
item_in (Some xs) i = slice_get xs i

-- ---- pairs one after another

-- whether two pairs are one
abbrev pub same_pair : ℕ × ℕ → ℕ × ℕ → Bool
same_pair p q = eqb p.0 q.0 && eqb p.1 q.1

-- what stands after the first p of a list
abbrev pub follower : ℕ × ℕ → List (ℕ × ℕ) → Option (ℕ × ℕ)
follower p [] = None
follower p (q ∷ qs) = cond (same_pair q p) (slice_get qs 0) (follower p qs)

-- the pair after the last one, and the first pair where there is no last one
abbrev pub next_in : Option (List (ℕ × ℕ)) → Option (ℕ × ℕ) → Option (ℕ × ℕ)
next_in None last = None
next_in (Some ps) None = slice_get ps 0
next_in (Some ps) (Some p) = follower p ps

-- the pair is one of the list
abbrev pub IsListed : Option (List (ℕ × ℕ)) → ℕ × ℕ → Type 0
IsListed None p = ⊥
IsListed (Some ps) p = list_any (same_pair p) ps ≡ true
