use Rattle.std.proofs.Common.{ℕ, List, ◌≡◌, ◌∙◌, sym, ap}
use Rattle.std.specs.Bool.{Decides}
use Rattle.std.proofs.lemmas.Bool.Decides.{Decides-eqb, same_from_decides}
use Rattle.std.proofs.lemmas.Slice.Eq.{slice_eq-Decides}
use Rattle.lnet_tables.specs.Bits.{by_rows}
use Rattle.lnet_tables.specs.Words.{word_bit, words_of}
use Rattle.lnet_tables.specs.Inverse.{same_words}
use Rattle.lnet_tables.proofs.Equal.{equal_rows_decides}
use Rattle.lnet_tables.proofs.table.TablePartialEq.eq.Goals as goal

pub returns-then-self-other : goal.returns-then-self-other
returns-then-self-other c =
    let d : Decides c.eq.result (c.self.inside.words ≡ c.other.inside.words) = slice_eq-Decides Decides-eqb _ _ _ c.eq.ensures in
    let whole : Decides c.eq.result (c.args.self.now ≡ c.args.other.now) = (
      λ yes. sym c.self.view_is ∙ ap (λ (n : ℕ). by_rows n (word_bit c.self.inside.words)) c.if-self-other.true
          ∙ ap (λ (ws : List ℕ). by_rows c.other.inside.vars (word_bit ws)) (d.0 yes) ∙ c.other.view_is,
      λ e. d.1 (sym (same_words c.self.inside.vars c.self.inside.words c.self.invariant) ∙ ap words_of (c.self.view_is ∙ e ∙ sym c.other.view_is)
          ∙ same_words c.other.inside.vars c.other.inside.words c.other.invariant),
    ) in
    record {
      value = same_from_decides _ _ whole (equal_rows_decides _ _);
      same = whole;
    }
