-- What a word stands for, and the word that it is.
use Rattle.std.proofs.Common.{◌≡◌, ℕ, Bool, true, false, cond, List, [], ◌∷◌, Some, refl, sym}
use Rattle.std.specs.Prelude.{find, IsTrue}
use Rattle.std.specs.Str.{bytes_eq}
use Rattle.std.proofs.lemmas.Option.{cond_some}
use Rattle.std.proofs.lemmas.Slice.Eq.{bytes_eq-Decides}
use Rattle.lnet_gates.specs.declared.gate.Kind.{Kind}
use Rattle.lnet_gates.specs.declared.gate.Kind.TheVariants.{Aig, Xag, Mig, Klut}
use Rattle.lnet_script.specs.declared.keywords.Verb.{Verb}
use Rattle.lnet_script.specs.declared.keywords.Verb.TheVariants as verbs
use Rattle.lnet_script.specs.declared.command.ReadFormat.{ReadFormat}
use Rattle.lnet_script.specs.declared.command.ReadFormat.TheVariants as reads
use Rattle.lnet_script.specs.declared.command.WriteFormat.{WriteFormat}
use Rattle.lnet_script.specs.declared.command.WriteFormat.TheVariants as writes
use Rattle.lnet_gates.specs.KindWords.{kind_word}
use Rattle.lnet_script.specs.Spelling.{read_word, write_word}
use Rattle.lnet_script.specs.Pieces.{is_word}
use Rattle.lnet_script.specs.Keywords.{verb_word, verb_of, kind_of, read_format_of, write_format_of, if_word, name_of}

some_is : {A : Type 0} (x y : A) → Some x ≡ Some y → x ≡ y
some_is x y e = cc

pub found_passes : {A : Type 0} (p : A → Bool) (xs : List A) (y : A) → find p xs ≡ Some y → p y ≡ true
found_passes p [] y e = absurd cc
found_passes p (x ∷ xs) y e =
    elim (p x) as (λ t. p x ≡ t → cond t (Some x) (find p xs) ≡ Some y → p y ≡ true) [
      | true ↦ λ t h. let same : x ≡ y = some_is x y h in rw (← same) t
      | false ↦ λ t h. found_passes p xs y h
    ] refl e

pub verb_is : (word : List ℕ) (v : Verb) → verb_of word ≡ Some v → word ≡ verb_word v
verb_is word v e = sym ((bytes_eq-Decides (verb_word v) word).0 (found_passes (λ v. bytes_eq (verb_word v) word) (verbs.Read ∷ verbs.Write ∷ verbs.Gen ∷ verbs.View ∷ verbs.Drop ∷ verbs.Ask ∷ verbs.Print ∷ verbs.Stats ∷ verbs.Simulate ∷ verbs.Merge ∷ verbs.Convert ∷ []) v e))

pub kind_is : (word : List ℕ) (k : Kind) → kind_of word ≡ Some k → word ≡ kind_word k
kind_is word k e = sym ((bytes_eq-Decides (kind_word k) word).0 (found_passes (λ k. bytes_eq (kind_word k) word) (Aig ∷ Xag ∷ Mig ∷ Klut ∷ []) k e))

pub kind_again : (k : Kind) → kind_of (kind_word k) ≡ Some k
kind_again Aig = refl
kind_again Xag = refl
kind_again Mig = refl
kind_again Klut = refl

pub read_format_is : (word : List ℕ) (f : ReadFormat) → read_format_of word ≡ Some f → word ≡ read_word f
read_format_is word f e = sym ((bytes_eq-Decides (read_word f) word).0 (found_passes (λ f. bytes_eq (read_word f) word) (reads.Aiger ∷ reads.Blif ∷ reads.Bench ∷ []) f e))

pub read_format_again : (f : ReadFormat) → read_format_of (read_word f) ≡ Some f
read_format_again reads.Aiger = refl
read_format_again reads.Blif = refl
read_format_again reads.Bench = refl

pub write_format_is : (word : List ℕ) (f : WriteFormat) → write_format_of word ≡ Some f → word ≡ write_word f
write_format_is word f e = sym ((bytes_eq-Decides (write_word f) word).0 (found_passes (λ f. bytes_eq (write_word f) word) (writes.Aag ∷ writes.Aig ∷ writes.Blif ∷ writes.Bench ∷ []) f e))

pub write_format_again : (f : WriteFormat) → write_format_of (write_word f) ≡ Some f
write_format_again writes.Aag = refl
write_format_again writes.Aig = refl
write_format_again writes.Blif = refl
write_format_again writes.Bench = refl

pub word_is : {A : Type 0} (text : List ℕ) (x : A) (word : List ℕ) (y : A) → if_word text x word ≡ Some y → (word ≡ text) × (x ≡ y)
word_is text x word y e =
    let g = cond_some (bytes_eq text word) x y e in
    (sym ((bytes_eq-Decides text word).0 g.0), g.1)

pub name_of_is : (word name : List ℕ) → name_of word ≡ Some name → (word ≡ name) × IsTrue (is_word name)
unfolding name_of
name_of_is word name e =
    let g = cond_some (is_word word) word name e in
    (g.1, rw (← g.1) g.0)

pub name_again : (name : List ℕ) → IsTrue (is_word name) → name_of name ≡ Some name
unfolding name_of
name_again name is = rw is refl
