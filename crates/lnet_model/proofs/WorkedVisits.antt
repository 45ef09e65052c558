-- How often a view may read the worked network after the worked event.
use Rattle.std.proofs.Common.{◌≡◌, ℕ, ◌+◌, ◌*◌, Bool, false, not, cond, ◌&&◌, ◌||◌, eqb, List, [], ◌∷◌, map, length, None, Some, refl, ap, ◌∙◌}
use Rattle.std.specs.Prelude.{is_some}
use Rattle.std.proofs.lemmas.Cmp.{nat_cmp_total}
use Rattle.std.specs.Ordering.{nat_cmp}
use Rattle.std.specs.List.{flat_map}
use Rattle.std.specs.FinMap.{from_sorted, find, keys, entries, get-entries, len-entries, entries-insert, entries-from_sorted}
use Rattle.std.specs.FinMap.Entries.{put}
use Rattle.lnet_gates.specs.declared.signal.Signal.{Signal}
use Rattle.lnet_tables.specs.Bits.{tabulate, is_set, number_by}
use Rattle.lnet_model.specs.declared.view_spec.ViewSpec.{ViewSpec}
use Rattle.lnet_model.specs.declared.view_spec.ViewSpec.TheVariants.{Depth, Fanout, Cuts}
use Rattle.lnet_model.specs.Networks.{NetworkValue, Entry, entry_at, live_count, fanins_of}
use Rattle.lnet_model.specs.Along.{along, over}
use Rattle.lnet_model.specs.Levels.{level_step}
use Rattle.lnet_model.specs.Cuts.{cut_step}
use Rattle.lnet_model.specs.Fanouts.{fan, slots_naming}
use Rattle.lnet_model.specs.Changes.{was, with_entry}
use Rattle.lnet_model.specs.Visits.{fanouts, fanouts_in, reads_of, is_changed, same_cuts, visit_bound}
use Rattle.lnet_model.specs.Worked.{and_of_nodes, worked_entries, worked_network, worked_event}
use Rattle.lnet_model.proofs.WorkedRows.{over-worked}

-- ---- the network before

abbrev before : NetworkValue
before = was worked_event worked_network

abbrev before_listed : List (ℕ × Entry)
before_listed = put nat_cmp 9 (and_of_nodes 3 6) worked_entries

before-entries : entries before.nodes ≡ before_listed
unfolding with_entry worked_network
before-entries =
    entries-insert nat_cmp_total (from_sorted worked_entries) 9 (and_of_nodes 3 6)
    ∙ ap (put nat_cmp 9 (and_of_nodes 3 6)) (entries-from_sorted nat_cmp worked_entries tt)

before-at : entry_at before ≡ (λ n. find nat_cmp n before_listed)
unfolding entry_at
before-at i n = (get-entries before.nodes n ∙ ap (find nat_cmp n) before-entries) i

before-count : live_count before ≡ 11
unfolding live_count
before-count = len-entries before.nodes ∙ ap length before-entries

over-before : {A : Type 0} (step : ℕ → Entry → List (Signal × A) → A) (none : A) (n : ℕ) → over before step none n ≡ along (λ k. find nat_cmp k before_listed) step none 11 n
unfolding over
over-before step none n i = along (before-at i) step none (before-count i) n

-- ---- the reads

abbrev fan_listed : ℕ → List (ℕ × ℕ)
fan_listed x = flat_map (λ (e : ℕ × Entry). slots_naming x e.0 0 (fanins_of e.1)) worked_entries

fan-at : (x : ℕ) → fan worked_network x ≡ fan_listed x
unfolding fan worked_network
fan-at x = ap (λ es. flat_map (λ (e : ℕ × Entry). slots_naming x e.0 0 (fanins_of e.1)) es) (entries-from_sorted nat_cmp worked_entries tt)

-- the fanout lengths of the numbers that the test picks, by the list
abbrev counted : (ℕ → Bool) → List ℕ → ℕ
counted p [] = 0
counted p (x ∷ xs) = cond (p x) (length (fan_listed x)) 0 + counted p xs

fanouts-counted : (p q : ℕ → Bool) → ((x : ℕ) → p x ≡ q x) → (xs : List ℕ) → fanouts worked_network p xs ≡ counted q xs
fanouts-counted p q same [] i = 0
fanouts-counted p q same (x ∷ xs) i = cond (same x i) (length (fan-at x i)) 0 + fanouts-counted p q same xs i

keys-worked : keys worked_network.nodes ≡ map (λ (e : ℕ × Entry). e.0) worked_entries
unfolding worked_network
keys-worked = ap (λ (es : List (ℕ × Entry)). map (λ (e : ℕ × Entry). e.0) es) (entries-from_sorted nat_cmp worked_entries tt)

bound-counted :
    (spec : ViewSpec) (q : ℕ → Bool) → ((x : ℕ) → is_changed worked_event worked_network spec x ≡ q x) →
    visit_bound worked_event worked_network (Some spec) ≡ 1 + 2 * counted q (map (λ (e : ℕ × Entry). e.0) worked_entries)
unfolding visit_bound reads_of fanouts_in
bound-counted spec q same =
    ap (λ ks. 1 + 2 * fanouts worked_network (is_changed worked_event worked_network spec) ks) keys-worked
    ∙ ap (λ c. 1 + 2 * c) (fanouts-counted (is_changed worked_event worked_network spec) q same (map (λ (e : ℕ × Entry). e.0) worked_entries))

-- ---- each spec

none-visits : visit_bound worked_event worked_network None ≡ 0
unfolding visit_bound
none-visits = refl

depth-visits : visit_bound worked_event worked_network (Some Depth) ≡ 3
unfolding along
depth-visits = bound-counted Depth _ (λ x i. is_some (before-at i x) && not (eqb (over-before level_step 0 x i) (over-worked level_step 0 x i)))

fanout-visits : visit_bound worked_event worked_network (Some Fanout) ≡ 1
fanout-visits = bound-counted Fanout _ (λ x i. is_some (before-at i x) && false)

cut-visits : visit_bound worked_event worked_network (Some (Cuts (record { size = 3; limit = 4 }))) ≡ 3
unfolding along tabulate is_set number_by
cut-visits =
    bound-counted (Cuts (record { size = 3; limit = 4 })) _
    (λ x i. is_some (before-at i x) && (not (eqb (over-before level_step 0 x i) (over-worked level_step 0 x i))
    || not (same_cuts (over-before (cut_step 3 4) [] x i) (over-worked (cut_step 3 4) [] x i))))

pub visits-worked :
    map (visit_bound worked_event worked_network) (None ∷ Some Depth ∷ Some Fanout ∷ Some (Cuts (record { size = 3; limit = 4 })) ∷ []) ≡ 0 ∷ 3 ∷ 1 ∷ 3 ∷ []
visits-worked i = none-visits i ∷ depth-visits i ∷ fanout-visits i ∷ cut-visits i ∷ []
