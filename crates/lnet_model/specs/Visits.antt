-- How often a view may read the network for one event.
use Rattle.std.specs.Prelude.{ℕ, ◌+◌, ◌*◌, Bool, true, false, not, cond, ◌&&◌, ◌||◌, List, [], ◌∷◌, length, is_some, eqb, Option, None, Some}
use Rattle.std.specs.FinMap.{keys}
use Rattle.lnet_tables.specs.Bits.{equal_rows}
use Rattle.lnet_model.specs.Networks.{NetworkValue, entry_at}
use Rattle.lnet_model.specs.Levels.{level}
use Rattle.lnet_model.specs.Fanouts.{fan}
use Rattle.lnet_model.specs.Cuts.{CutValue, cuts, same_leaves}
use Rattle.lnet_model.specs.Changes.{was}
use Rattle.lnet_model.specs.declared.event.Event.{Event}
use Rattle.lnet_model.specs.declared.view_spec.ViewSpec.{ViewSpec}
use Rattle.lnet_model.specs.declared.view_spec.ViewSpec.TheVariants.{Depth, Fanout, Cuts}

-- the fanout lengths of those of the numbers that the test picks, added up
abbrev pub fanouts : NetworkValue → (ℕ → Bool) → List ℕ → ℕ
fanouts N picks [] = 0
fanouts N picks (x ∷ xs) = cond (picks x) (length (fan N x)) 0 + fanouts N picks xs

-- the fanout lengths of those of the live numbers that the test picks, added up
unfoldable pub fanouts_in : NetworkValue → (ℕ → Bool) → ℕ
fanouts_in N picks = fanouts N picks (keys N.nodes)

-- one read, and two for each place in the fanout of a picked number
unfoldable pub reads_of : NetworkValue → (ℕ → Bool) → ℕ
reads_of N picks = 1 + 2 * fanouts_in N picks

-- whether two cuts are one
abbrev pub same_cut : CutValue → CutValue → Bool
same_cut c d = same_leaves c.leaves d.leaves && equal_rows c.table d.table

-- whether two lists of cuts are one
abbrev pub same_cuts : List CutValue → List CutValue → Bool
same_cuts [] [] = true
same_cuts [] (d ∷ ds) = false
same_cuts (c ∷ cs) [] = false
same_cuts (c ∷ cs) (d ∷ ds) = same_cut c d && same_cuts cs ds

-- whether n has another level, or for a cut view another level or cut list, in M than in N; a fanout view repairs no other
-- node's answer by what it reads
abbrev pub differs : ViewSpec → NetworkValue → NetworkValue → ℕ → Bool
differs Depth M N n = not (eqb (level M n) (level N n))
differs Fanout M N n = false
differs (Cuts rule) M N n = not (eqb (level M n) (level N n)) || not (same_cuts (cuts M rule.size rule.limit n) (cuts N rule.size rule.limit n))

-- whether x was live before the event, too, and its answer has changed
abbrev pub is_changed : Event → NetworkValue → ViewSpec → ℕ → Bool
is_changed e N spec x = is_some (entry_at (was e N) x) && differs spec (was e N) N x

-- the bound on the reads of a view of the spec at the event that made N
unfoldable pub visit_bound : Event → NetworkValue → Option ViewSpec → ℕ
visit_bound e N None = 0
visit_bound e N (Some spec) = reads_of N (is_changed e N spec)
