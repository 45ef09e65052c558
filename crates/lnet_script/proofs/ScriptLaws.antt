-- Scripts as the definitions and as the function of their commands.
use Rattle.std.proofs.Common.{◌≡◌, ℕ, ◌≤◌, true, List, [], ◌∷◌, ◌++◌, length, leb, Option, Some, None, Result, Ok, Err, refl, sym, ap, subst, ◌∙◌, inr, arith}
use Rattle.std.specs.Prelude.{IfOk, IfErr}
use Rattle.std.specs.Global.{Vec}
use Rattle.std.proofs.lemmas.Bool.Decides.{nat_tests}
use Rattle.lnet_script.specs.declared.command.Command.{Command}
use Rattle.lnet_script.specs.declared.script.ScriptError.{ScriptError}
use Rattle.lnet_script.specs.declared.script.ScriptError.TheVariants as errors
use Rattle.lnet_script.specs.Pieces.{Piece, pieces_of}
use Rattle.lnet_script.specs.Spelling.{Spells}
use Rattle.lnet_script.specs.Reading.{command_of}
use Rattle.lnet_script.specs.Scripts.{script_limit, AreSpelled, IsScript, IsBadAt, Refuses, with_first, commands_in, commands_of, FailsScript, GivesScript}
use Rattle.lnet_script.proofs.CommandLaws.{command_is, command_again}

abbrev read : List Command → Result (List Command) ℕ
read cs = Ok cs

abbrev bad : ℕ → Result (List Command) ℕ
bad line = Err line

pub ok_is : (x y : List Command) → read x ≡ read y → x ≡ y
ok_is x y e = cc

err_is : (x y : ℕ) → bad x ≡ bad y → x ≡ y
err_is x y e = cc

-- ---- commands

read_first : (o : Option Command) (line : ℕ) (r : Result (List Command) ℕ) (cs : List Command) → with_first o line r ≡ Ok cs → (c : Command) × (ds : List Command) × (o ≡ Some c) × (r ≡ Ok ds) × (cs ≡ c ∷ ds)
read_first None line r cs e = absurd cc
read_first (Some c) line (Ok ds) cs e = (c, ds, refl, refl, sym (ok_is (c ∷ ds) cs e))
read_first (Some c) line (Err l) cs e = absurd cc

pub read_spelled : (ps : List Piece) (cs : List Command) → commands_in ps ≡ Ok cs → AreSpelled ps cs
read_spelled [] cs e = subst (AreSpelled []) (ok_is [] cs e) tt
read_spelled (p ∷ ps) cs e =
    let f = read_first (command_of p.words) p.line (commands_in ps) cs e in
    subst (AreSpelled (p ∷ ps)) (sym f.4) (command_is p.words f.0 f.2, read_spelled ps f.1 f.3)

pub spelled_read : (ps : List Piece) (cs : List Command) → AreSpelled ps cs → commands_in ps ≡ Ok cs
spelled_read [] [] is = refl
spelled_read [] (c ∷ cs) is = absurd is
spelled_read (p ∷ ps) [] is = absurd is
spelled_read (p ∷ ps) (c ∷ cs) is = rw (command_again p.words c is.0, spelled_read ps cs is.1) refl

-- ---- bad lines

no_spelling : (words : List (List ℕ)) → command_of words ≡ None → (c : Command) → Spells words c → ⊥
no_spelling words none c is = absurd (cc (none, command_again words c is))

none_read : (words : List (List ℕ)) → ((c : Command) → Spells words c → ⊥) → command_of words ≡ None
none_read words none = by (command_of words) refl where
  by : (o : Option Command) → command_of words ≡ o → command_of words ≡ None
  by None e = e
  by (Some c) e = absurd (none c (command_is words c e))

later : (p : Piece) (c : Command) (ps : List Piece) (line : ℕ) → Spells p.words c → IsBadAt ps line → IsBadAt (p ∷ ps) line
later p c ps line is bad = record { front = p ∷ bad.front; commands = c ∷ bad.commands; piece = bad.piece; back = bad.back; is = ap (λ (qs : List Piece). p ∷ qs) bad.is; before = (is, bad.before); no_command = bad.no_command; on = bad.on }

read_bad_by : (p : Piece) (ps : List Piece) (line : ℕ) (o : Option Command) (r : Result (List Command) ℕ) → ((l : ℕ) → commands_in ps ≡ Err l → IsBadAt ps l) → command_of p.words ≡ o → commands_in ps ≡ r → with_first o p.line r ≡ Err line → IsBadAt (p ∷ ps) line
read_bad_by p ps line None r below o e h = record { front = []; commands = []; piece = p; back = ps; is = refl; before = tt; no_command = no_spelling p.words o; on = err_is p.line line h }
read_bad_by p ps line (Some c) (Ok ds) below o e h = absurd cc
read_bad_by p ps line (Some c) (Err l) below o e h = later p c ps line (command_is p.words c o) (below line (e ∙ h))

pub read_bad : (ps : List Piece) (line : ℕ) → commands_in ps ≡ Err line → IsBadAt ps line
read_bad [] line e = absurd cc
read_bad (p ∷ ps) line e = read_bad_by p ps line (command_of p.words) (commands_in ps) (λ l. read_bad ps l) refl refl e

bad_after : (front : List Piece) (cs : List Command) (p : Piece) (back : List Piece) → AreSpelled front cs → command_of p.words ≡ None → commands_in (front ++ p ∷ back) ≡ Err p.line
bad_after [] [] p back is none = rw none refl
bad_after [] (c ∷ cs) p back is none = absurd is
bad_after (q ∷ qs) [] p back is none = absurd is
bad_after (q ∷ qs) (c ∷ cs) p back is none = rw (command_again q.words c is.0, bad_after qs cs p back is.1 none) refl

pub bad_read : (ps : List Piece) (line : ℕ) → IsBadAt ps line → commands_in ps ≡ Err line
bad_read ps line bad = ap commands_in bad.is ∙ bad_after bad.front bad.commands bad.piece bad.back bad.before (none_read bad.piece.words bad.no_command) ∙ ap Err bad.on

-- ---- whole scripts

pub within : (bytes : List ℕ) → length bytes ≤ script_limit → commands_of bytes ≡ commands_in (pieces_of bytes)
within bytes short = let t : leb (length bytes) script_limit ≡ true = grind (arith, nat_tests) in rw t refl

pub refuses_within : (bytes : List ℕ) (e : ScriptError) → length bytes ≤ script_limit → FailsScript e (commands_in (pieces_of bytes)) → Refuses bytes e
refuses_within bytes errors.NoMemory short h = tt
refuses_within bytes (errors.BadLine line) short h = inr (short, read_bad (pieces_of bytes) line h)

pub is_spelled : (bytes : List ℕ) (r : Result (Vec Command) ScriptError) → length bytes ≤ script_limit → GivesScript (λ v. v.items) r (commands_in (pieces_of bytes)) → IfOk r (λ v. (length bytes ≤ script_limit) × IsScript bytes v.items)
is_spelled bytes (Ok v) short given = (short, read_spelled (pieces_of bytes) v.items given)
is_spelled bytes (Err e) short given = tt

pub is_refused : (bytes : List ℕ) (r : Result (Vec Command) ScriptError) → length bytes ≤ script_limit → GivesScript (λ v. v.items) r (commands_in (pieces_of bytes)) → IfErr r (Refuses bytes)
is_refused bytes (Ok v) short given = tt
is_refused bytes (Err e) short given = refuses_within bytes e short given
