-- The greatest level of the outputs, output by output, and levels as a view keeps them.
use Rattle.std.proofs.Common.{◌≡◌, ℕ, zero, suc, max, List, [], ◌∷◌, map, Option, None, Some, refl, sym, ap, ◌∙◌, arith, slice_get}
use Rattle.lnet_gates.specs.declared.signal.Signal.{Signal}
use Rattle.std.specs.Option.{unwrap_or, option_map}
use Rattle.lnet_model.specs.Networks.{NetworkValue, Lookup, entry_at, live_count, fanins_of}
use Rattle.lnet_model.specs.Along.{nodes_read, at_entry, along, over}
use Rattle.lnet_model.specs.Levels.{greatest, level, level_step}
use Rattle.lnet_model.specs.Answers.{Answer, InStep, from_scratch, level_in}
use Rattle.lnet_model.specs.declared.view_spec.ViewSpec.{ViewSpec}
use Rattle.lnet_model.specs.declared.view_spec.ViewSpec.TheVariants.{Depth}

-- the list without its first k items
abbrev pub rest_of : {A : Type 0} → ℕ → List A → List A
rest_of zero xs = xs
rest_of (suc k) [] = []
rest_of (suc k) (x ∷ xs) = rest_of k xs

-- the greatest of so many and of V at the nodes of the signals from k on
abbrev pub greatest_from : (ℕ → ℕ) → ℕ → ℕ → List Signal → ℕ
greatest_from V d k ss = max d (greatest (map V (nodes_read (rest_of k ss))))

pub greatest-next : (V : ℕ → ℕ) (d k : ℕ) (ss : List Signal) (s : Signal) → slice_get ss k ≡ Some s → greatest_from V d k ss ≡ greatest_from V (max (V s.node.0) d) (suc k) ss
greatest-next V d k [] s e = cc
greatest-next V d zero (x ∷ ss) s e = let is : x ≡ s = cc in let v = ap (λ (z : Signal). V z.node.0) is in omega arith
greatest-next V d (suc k) (x ∷ ss) s e = greatest-next V d k ss s e

-- ---- levels that a view keeps

along-free : (g : Lookup) (d n : ℕ) → g n ≡ None → along g level_step 0 d n ≡ 0
unfolding along
along-free g zero n e = refl
along-free g (suc d) n e = ap (at_entry 0 (λ x. level_step n x (map {B = Signal × ℕ} (λ s. (s, along g level_step 0 d s.node.0)) (fanins_of x)))) e

level-free : (N : NetworkValue) (n : ℕ) → entry_at N n ≡ None → level N n ≡ 0
unfolding over
level-free N n e = along-free (entry_at N) (live_count N) n e

from-depth : (N : NetworkValue) (n : ℕ) → unwrap_or (level_in (option_map (λ _. from_scratch Depth N n) (entry_at N n))) 0 ≡ level N n
unfolding from_scratch
from-depth N n = (elim (entry_at N n) as (λ o. entry_at N n ≡ o → unwrap_or (level_in (option_map (λ _. from_scratch Depth N n) o)) 0 ≡ level N n) [
  | None ↦ λ e. sym (level-free N n e)
  | Some x ↦ λ e. refl
]) refl

-- the level that a view for levels keeps, and 0 where nothing is live
pub kept-level : (N : NetworkValue) (spec : Option ViewSpec) (kept : ℕ → Option Answer) → InStep spec kept N → spec ≡ Some Depth → (n : ℕ) → unwrap_or (level_in (kept n)) 0 ≡ level N n
kept-level N spec kept h is n =
    let same : h.asked ≡ Depth = (let both : Some h.asked ≡ Some Depth = sym h.attached ∙ is in cc) in
    ap (λ o. unwrap_or (level_in o) 0) (h.answers n)
    ∙ ap (λ s. unwrap_or (level_in (option_map (λ _. from_scratch s N n) (entry_at N n))) 0) same
    ∙ from-depth N n
