-- Which wires are used with complement, and the names of the complements of inputs.
use Rattle.std.proofs.Common.{◌≡◌, ℕ, Bool, true, false, cond, eqb, List, [], ◌∷◌, map, nat_cmp, Less, Equal, Greater, refl, sym, ap, subst, ◌∙◌, inl, inr}
use Rattle.std.specs.Prelude.{◌⊎◌, ◌&&◌, ◌||◌, fold, nat_lt, ◌==◌}
use Rattle.std.specs.List.{AllByRecursion, filter}
use Rattle.std.specs.Ordering.{match_ordering}
use Rattle.std.specs.BTreeSet.{insert_key}
use Rattle.std.proofs.lemmas.Bool.{false≢true}
use Rattle.std.proofs.lemmas.Bool.Decides.{eqb_tells}
use Rattle.lnet_edge.specs.declared.circuit.WireRef.{WireRef}
use Rattle.lnet_wires.specs.Naming.{is_seen}
use Rattle.lnet_naming.specs.Settling.{made_name}
use Rattle.lnet_benchwriter.specs.Nodes.{is_turned}
use Rattle.lnet_benchwriter.specs.Texts.{ascending}
use Rattle.lnet_benchmeans.proofs.Differing.{all_weak}
use Rattle.lnet_benchmeans.proofs.Plain.{IsOneOf}
use Rattle.lnet_benchmeans.proofs.Nodes.{eqb_same}
use Rattle.lnet_benchmeans.proofs.Tables.{more_seen, first_seen}

-- ---- uses

-- a wire that is used with complement counts as such
abbrev pub IsTurnedBy : (ℕ → Bool) → WireRef → Type 0
IsTurnedBy turned r = r.complement ≡ true → turned r.wire.0 ≡ true

turned_more : (r : WireRef) (uses : List WireRef) (w : ℕ) → is_turned uses w ≡ true → is_turned (r ∷ uses) w ≡ true
turned_more r uses w turned = elim (r.complement && eqb r.wire.0 w) as (λ b. (b || is_turned uses w) ≡ true) [ true ↦ refl | false ↦ turned ]

turned_itself : (r : WireRef) (uses : List WireRef) → IsTurnedBy (is_turned (r ∷ uses)) r
turned_itself r uses complement =
    ap (λ (b : Bool). (b && eqb r.wire.0 r.wire.0) || is_turned uses r.wire.0) complement
    ∙ ap (λ (b : Bool). b || is_turned uses r.wire.0) (eqb_same r.wire.0 r.wire.0 refl)

pub all_turned : (uses : List WireRef) → AllByRecursion (IsTurnedBy (is_turned uses)) uses
all_turned [] = tt
all_turned (r ∷ uses) = (
  turned_itself r uses,
  all_weak (IsTurnedBy (is_turned uses)) (IsTurnedBy (is_turned (r ∷ uses))) uses (λ x turned complement. turned_more r uses x.wire.0 (turned complement)) (all_turned uses),
)

-- ---- numbers in ascending order

same_by : (p q : ℕ) → eqb p q ≡ true → p ≡ q
same_by p q same = elim (eqb_tells p q) as (λ _. p ≡ q) [ inl h ↦ h.1 | inr h ↦ absurd (false≢true (sym h.0 ∙ same)) ]

one_insert : (xs : List ℕ) (k w : ℕ) → ((w ≡ k) ⊎ IsOneOf xs w) → IsOneOf (insert_key nat_cmp xs k) w
one_insert [] k w h = h
one_insert (x ∷ xs) k w h = by (nat_lt k x) (one_insert xs k w) h where
  again : (e : Bool) → (k == x) ≡ e → (((w ≡ k) ⊎ IsOneOf xs w) → IsOneOf (insert_key nat_cmp xs k) w) → ((w ≡ k) ⊎ IsOneOf (x ∷ xs) w) → IsOneOf (match_ordering (cond e Equal Greater) (k ∷ x ∷ xs) (x ∷ xs) (x ∷ insert_key nat_cmp xs k)) w
  again true same rest (inl is) = inl (is ∙ same_by k x same)
  again true same rest (inr one) = one
  again false same rest (inl is) = inr (rest (inl is))
  again false same rest (inr (inl is)) = inl is
  again false same rest (inr (inr one)) = inr (rest (inr one))

  by : (b : Bool) → (((w ≡ k) ⊎ IsOneOf xs w) → IsOneOf (insert_key nat_cmp xs k) w) → ((w ≡ k) ⊎ IsOneOf (x ∷ xs) w) → IsOneOf (match_ordering (cond b Less (cond (k == x) Equal Greater)) (k ∷ x ∷ xs) (x ∷ xs) (x ∷ insert_key nat_cmp xs k)) w
  by true rest h = h
  by false rest h = again (k == x) refl rest h

one_folded : (xs ys : List ℕ) (w : ℕ) → (IsOneOf xs w ⊎ IsOneOf ys w) → IsOneOf (fold (insert_key nat_cmp) xs ys) w
one_folded xs [] w (inl one) = one
one_folded xs [] w (inr one) = absurd one
one_folded xs (y ∷ ys) w (inl one) = one_folded (insert_key nat_cmp xs y) ys w (inl (one_insert xs y w (inr one)))
one_folded xs (y ∷ ys) w (inr (inl is)) = one_folded (insert_key nat_cmp xs y) ys w (inl (one_insert xs y w (inl is)))
one_folded xs (y ∷ ys) w (inr (inr one)) = one_folded (insert_key nat_cmp xs y) ys w (inr one)

one_kept : (keep : ℕ → Bool) (xs : List ℕ) (w : ℕ) → keep w ≡ true → IsOneOf xs w → IsOneOf (filter keep xs) w
one_kept keep [] w kept one = one
one_kept keep (x ∷ xs) w kept (inl is) = subst (λ (b : Bool). IsOneOf (cond b (x ∷ filter keep xs) (filter keep xs)) w) (sym kept ∙ ap keep is) (inl is)
one_kept keep (x ∷ xs) w kept (inr one) = elim (keep x) as (λ b. IsOneOf (cond b (x ∷ filter keep xs) (filter keep xs)) w) [ true ↦ inr (one_kept keep xs w kept one) | false ↦ one_kept keep xs w kept one ]

-- ---- names of complements

seen_mapped : (ms : List ℕ) (w : ℕ) → IsOneOf ms w → is_seen (map (made_name 99) ms) (made_name 99 w) ≡ true
seen_mapped [] w one = absurd one
seen_mapped (m ∷ ms) w (inl is) = ap (λ (v : ℕ). is_seen (map (made_name 99) (m ∷ ms)) (made_name 99 v)) is ∙ first_seen (map (made_name 99) ms) (made_name 99 m)
seen_mapped (m ∷ ms) w (inr one) = more_seen (map (made_name 99) ms) (made_name 99 m) (made_name 99 w) (seen_mapped ms w one)

pub turned_one : (turned : ℕ → Bool) (ins : List ℕ) (w : ℕ) → IsOneOf ins w → turned w ≡ true → IsOneOf (ascending (filter turned ins)) w
turned_one turned ins w one is = one_folded [] (filter turned ins) w (inr (one_kept turned ins w is one))

-- the complement of an input that is used so has its name
pub turned_seen : (turned : ℕ → Bool) (ins : List ℕ) (w : ℕ) → IsOneOf ins w → turned w ≡ true → is_seen (map (made_name 99) (ascending (filter turned ins))) (made_name 99 w) ≡ true
turned_seen turned ins w one is = seen_mapped (ascending (filter turned ins)) w (turned_one turned ins w one is)
