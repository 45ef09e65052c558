-- The definitions at the worked network.
use Rattle.std.proofs.Common.{◌≡◌, ℕ, ◌+◌, true, false, not, eqb, List, [], ◌∷◌, map, length, ap, ◌∙◌}
use Rattle.std.specs.Ordering.{nat_cmp}
use Rattle.std.specs.List.{flat_map, count_by}
use Rattle.std.specs.FinMap.{from_sorted, find, get-from_sorted, entries-from_sorted, len-entries}
use Rattle.lnet_gates.specs.declared.signal.Signal.{Signal}
use Rattle.lnet_tables.specs.Bits.{tabulate, is_set, number_by}
use Rattle.lnet_model.specs.Networks.{Entry, entry_at, live_count, fanins_of}
use Rattle.lnet_model.specs.Along.{along, over}
use Rattle.lnet_model.specs.Levels.{greatest, level_step, level, depth}
use Rattle.lnet_model.specs.Values.{value_step, network_outputs}
use Rattle.lnet_model.specs.Fanouts.{fan, references, slots_naming}
use Rattle.lnet_model.specs.Cuts.{cuts}
use Rattle.lnet_model.specs.Worked.{signal, worked_entries, worked_network, cut}

pub worked-at : entry_at worked_network ≡ (λ n. find nat_cmp n worked_entries)
unfolding worked_network entry_at
worked-at i n = get-from_sorted nat_cmp worked_entries n tt i

worked-count : live_count worked_network ≡ 11
unfolding worked_network live_count
worked-count = len-entries (from_sorted worked_entries) ∙ ap length (entries-from_sorted nat_cmp worked_entries tt)

pub over-worked : {A : Type 0} (step : ℕ → Entry → List (Signal × A) → A) (none : A) (n : ℕ) → over worked_network step none n ≡ along (λ k. find nat_cmp k worked_entries) step none 11 n
unfolding over
over-worked step none n i = along (worked-at i) step none (worked-count i) n

pub levels-worked : map (level worked_network) (0 ∷ 4 ∷ 5 ∷ 6 ∷ 7 ∷ 8 ∷ 9 ∷ 10 ∷ []) ≡ 0 ∷ 0 ∷ 1 ∷ 2 ∷ 3 ∷ 4 ∷ 2 ∷ 3 ∷ []
unfolding along
levels-worked i = map (λ n. over-worked level_step 0 n i) (0 ∷ 4 ∷ 5 ∷ 6 ∷ 7 ∷ 8 ∷ 9 ∷ 10 ∷ [])

pub fan-worked : fan worked_network 5 ≡ (6, 1) ∷ (9, 1) ∷ []
unfolding fan worked_network
fan-worked = ap (λ es. flat_map (λ (e : ℕ × Entry). slots_naming 5 e.0 0 (fanins_of e.1)) es) (entries-from_sorted nat_cmp worked_entries tt)

pub depth-worked : depth worked_network ≡ 4
unfolding depth along worked_network
depth-worked i = greatest (map (λ n. over-worked level_step 0 n i) (8 ∷ 10 ∷ []))

pub outputs-worked : network_outputs worked_network (λ k. true) ≡ true ∷ false ∷ []
unfolding network_outputs along worked_network
outputs-worked i = over-worked (value_step (λ k. true)) false 8 i ∷ not (over-worked (value_step (λ k. true)) false 10 i) ∷ []

reads-worked :
    (n : ℕ) →
    references worked_network n ≡ length (flat_map (λ (e : ℕ × Entry). slots_naming n e.0 0 (fanins_of e.1)) worked_entries) + count_by (λ (s : Signal). eqb s.node.0 n)
    (signal 8 false ∷ signal 10 true ∷ [])
unfolding references fan worked_network
reads-worked n =
    ap (λ es. length (flat_map (λ (e : ℕ × Entry). slots_naming n e.0 0 (fanins_of e.1)) es) + count_by (λ (s : Signal). eqb s.node.0 n) (signal 8 false ∷ signal 10 true ∷ []))
    (entries-from_sorted nat_cmp worked_entries tt)

pub references-worked : map (references worked_network) (5 ∷ 8 ∷ 9 ∷ []) ≡ 2 ∷ 1 ∷ 1 ∷ []
references-worked i = reads-worked 5 i ∷ reads-worked 8 i ∷ reads-worked 9 i ∷ []

pub narrow-worked : cuts worked_network 3 4 10 ≡ cut (4 ∷ 9 ∷ []) 8 ∷ cut (3 ∷ 4 ∷ 5 ∷ []) 128 ∷ cut (10 ∷ []) 2 ∷ []
unfolding along tabulate is_set number_by
narrow-worked = over-worked _ _ 10

pub wide-worked : cuts worked_network 4 8 10 ≡ cut (4 ∷ 9 ∷ []) 8 ∷ cut (3 ∷ 4 ∷ 5 ∷ []) 128 ∷ cut (1 ∷ 2 ∷ 3 ∷ 4 ∷ []) 32768 ∷ cut (10 ∷ []) 2 ∷ []
unfolding along tabulate is_set number_by
wide-worked = over-worked _ _ 10
