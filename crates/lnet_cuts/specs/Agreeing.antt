-- Equal cut lists at the fanins give equal cut lists.
use Rattle.std.proofs.Common.{◌≡◌, ℕ, Bool, true, false, sym, List, [], ◌∷◌, map, refl, ap, ◌∙◌, inl, inr, ◌==◌}
use Rattle.std.specs.Bool.{Decides}
use Rattle.std.specs.Cmp.{IsEquivalence, IsPartialEquivalence}
use Rattle.std.specs.Cmp.Lexicographic.{pointwise}
use Rattle.std.proofs.lemmas.Bool.Decides.{Decides-eqb, Decides-and, Decides-like}
use Rattle.std.proofs.lemmas.Slice.Eq.{slice_eq-Decides}
use Rattle.lnet_gates.specs.declared.signal.Signal.{Signal}
use Rattle.lnet_gates.specs.Gates.{GateValue}
use Rattle.lnet_tables.specs.Bits.{Rows, equal_rows}
use Rattle.lnet_tables.proofs.Equal.{equal_rows_decides}
use Rattle.lnet_model.specs.Networks.{IsGate}
use Rattle.lnet_model.specs.Along.{In, nodes_read}
use Rattle.lnet_model.specs.Cuts.{CutValue, cut_step}
use Rattle.lnet_cuts.specs.Stored.{equal_cuts, equal_lists}

pub both : (c d : CutValue) → c.leaves ≡ d.leaves → c.table ≡ d.table → c ≡ d
both c d l t =
    ap (λ (xs : List ℕ). let z : CutValue = record { leaves = xs; table = c.table } in z) l
    ∙ ap (λ (r : Rows). let z : CutValue = record { leaves = d.leaves; table = r } in z) t

pub equal_cuts_decides : (c d : CutValue) → Decides (equal_cuts c d) (c ≡ d)
equal_cuts_decides c d = Decides-like (equal_cuts c d) (λ p. both c d p.0 p.1) (λ e. (ap (λ (z : CutValue). z.leaves) e, ap (λ (z : CutValue). z.table) e))
    (Decides-and (pointwise (λ x y. x == y) c.leaves d.leaves) (equal_rows c.table d.table) (slice_eq-Decides (λ x y. Decides-eqb x y) c.leaves d.leaves _ refl) (equal_rows_decides c.table d.table))

pub equal_lists_decides : (cs ds : List CutValue) → Decides (equal_lists cs ds) (cs ≡ ds)
equal_lists_decides cs ds = slice_eq-Decides equal_cuts_decides cs ds _ refl

pub pairs-same : (ss : List Signal) (V W : ℕ → List CutValue) → ((m : ℕ) → In m (nodes_read ss) → V m ≡ W m)
    → map {B = Signal × List CutValue} (λ (s : Signal). (s, V s.node.0)) ss ≡ map {B = Signal × List CutValue} (λ (s : Signal). (s, W s.node.0)) ss
pairs-same [] V W h = refl
pairs-same (s ∷ ss) V W h = λ i. (s, h s.node.0 (inl refl) i) ∷ pairs-same ss V W (λ m j. h m (inr j)) i

pub gives-agree : (size limit n : ℕ) (g : GateValue) (V W : ℕ → List CutValue) → ((m : ℕ) → In m (nodes_read g.fanins) → equal_lists (V m) (W m) ≡ true)
    → equal_lists (cut_step size limit n (IsGate g) (map {B = Signal × List CutValue} (λ (s : Signal). (s, V s.node.0)) g.fanins))
    (cut_step size limit n (IsGate g) (map {B = Signal × List CutValue} (λ (s : Signal). (s, W s.node.0)) g.fanins)) ≡ true
gives-agree size limit n g V W same =
    let e = pairs-same g.fanins V W (λ m i. (equal_lists_decides (V m) (W m)).0 (same m i)) in
    (equal_lists_decides _ _).1 (ap (λ rs. cut_step size limit n (IsGate g) rs) e)

-- ---- the test is an equivalence

tests-agree : {P Q : Type 0} (b c : Bool) → Decides b P → Decides c Q → (P → Q) → (Q → P) → b ≡ c
tests-agree true c d e f g = sym (e.1 (f (d.0 refl)))
tests-agree false true d e f g = d.1 (g (e.0 refl))
tests-agree false false d e f g = refl

pub lists-turn : (x y : List CutValue) → equal_lists x y ≡ equal_lists y x
lists-turn x y = tests-agree (equal_lists x y) (equal_lists y x) (equal_lists_decides x y) (equal_lists_decides y x) sym sym

pub lists-join : (x y z : List CutValue) → equal_lists x y ≡ true → equal_lists y z ≡ true → equal_lists x z ≡ true
lists-join x y z p q = (equal_lists_decides x z).1 ((equal_lists_decides x y).0 p ∙ (equal_lists_decides y z).0 q)

pub lists-refl : (x : List CutValue) → equal_lists x x ≡ true
lists-refl x = (equal_lists_decides x x).1 refl

pub lists-per : IsPartialEquivalence equal_lists
lists-per = record { symm = lists-turn; trans = lists-join }

pub lists-equiv : IsEquivalence equal_lists
lists-equiv = record { refl = lists-refl; symm = lists-turn; congr = λ x y z p. ap (λ (w : List CutValue). equal_lists w z) ((equal_lists_decides x y).0 p) }

pub cuts-turn : (x y : CutValue) → equal_cuts x y ≡ equal_cuts y x
cuts-turn x y = tests-agree (equal_cuts x y) (equal_cuts y x) (equal_cuts_decides x y) (equal_cuts_decides y x) sym sym

pub cuts-join : (x y z : CutValue) → equal_cuts x y ≡ true → equal_cuts y z ≡ true → equal_cuts x z ≡ true
cuts-join x y z p q = (equal_cuts_decides x z).1 ((equal_cuts_decides x y).0 p ∙ (equal_cuts_decides y z).0 q)

pub cuts-per : IsPartialEquivalence equal_cuts
cuts-per = record { symm = cuts-turn; trans = cuts-join }
