-- When a recipe is to be used.
use Rattle.std.proofs.Common.{◌≡◌, ◌≤◌, ◌<◌, ◌^◌, ℕ, Bool, true, false, cond, length, refl, sym, ap, ◌∙◌, inl, inr}
use Rattle.std.specs.Prelude.{IsTrue}
use Rattle.lnet_tables.specs.Bits.{Rows, row, by_rows}
use Rattle.lnet_tables.proofs.Ops.{same_rows}
use Rattle.lnet_tables.proofs.Rowwise.{eta_rows}
use Rattle.lnet_sop.specs.Covers.{CoverValue, covers, cover_rows}
use Rattle.lnet_sop.specs.Isop.{isop_of}
use Rattle.std.proofs.lemmas.Bool.Decides.{leb_tells}
use Rattle.lnet_tables.specs.Recipes.{RecipeValue}
use Rattle.lnet_resyn.specs.declared.proposal.Proposal.TheVariants.{Use, None as Nothing}
use Rattle.lnet_resyn.specs.Procedures.{proposal_of}
use Rattle.lnet_resyn.proofs.Turns.{leb_yes, leb_no}

pub used : (r s : RecipeValue) → r ≡ s → length s.steps ≤ 128 → Use r ≡ proposal_of s
unfolding proposal_of
used r s e h = ap Use e ∙ ap (λ b. cond b (Use s) Nothing) (sym (leb_yes (length s.steps) 128 h))

pub unused : (s : RecipeValue) → 128 < length s.steps → Nothing ≡ proposal_of s
unfolding proposal_of
unused s h = ap (λ b. cond b (Use s) Nothing) (sym (leb_no (length s.steps) 128 h))

pub unused-as : (s : RecipeValue) → (length s.steps ≤ 128 → false ≡ true) → Nothing ≡ proposal_of s
unused-as s h = elim (leb_tells (length s.steps) 128) [ inl p ↦ let k = h p.1 in cc | inr p ↦ unused s p.1 ]

-- two tests that hold where the other does
same_test : (a b : Bool) → (IsTrue a → IsTrue b) → (IsTrue b → IsTrue a) → a ≡ b
same_test true true f g = refl
same_test true false f g = sym (f refl)
same_test false true f g = g refl
same_test false false f g = refl

-- a cover between a function and itself is the function
pub cover-between : (t : Rows) (c : CoverValue) → length t.bits ≡ 2 ^ t.vars → c ≡ isop_of t t → ((r : ℕ) → r < 2 ^ t.vars → IsTrue (row t r) → IsTrue (covers c.vars c.cubes r)) → ((r : ℕ) → r < 2 ^ t.vars → IsTrue (covers c.vars c.cubes r) → IsTrue (row t r)) → cover_rows c ≡ t
cover-between t c long is due within =
    ap (λ n. by_rows n (covers c.vars c.cubes)) (ap (λ (d : CoverValue). d.vars) is)
    ∙ same_rows t.vars (covers c.vars c.cubes) (row t) (λ r h. same_test (covers c.vars c.cubes r) (row t r) (within r h) (due r h))
    ∙ sym (eta_rows t long)
