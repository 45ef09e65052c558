-- A text line by line, and by its statements.
use Rattle.std.proofs.Common.{◌≡◌, ℕ, ◌+◌, ◌≤◌, Bool, true, false, cond, List, [], ◌∷◌, length, Result, Ok, Err, refl, sym, ap, subst, arith}
use Rattle.std.specs.Prelude.{◌||◌}
use Rattle.lnet_edge.specs.declared.fault.Fault.{Fault}
use Rattle.lnet_edge.specs.declared.fault.Malformed.{Malformed}
use Rattle.lnet_bench.specs.declared.wiring.Driven.{Driven}
use Rattle.lnet_bench.specs.Statements.{StatementValue, statement_of}
use Rattle.lnet_bench.specs.Listing.{Fits, Listed, add, add_all}
use Rattle.lnet_bench.specs.Texts.{is_blank_line, uncommented, with_first, statements_from, target_of, is_target, drives, drives_in}
use Rattle.lnet_bench.specs.Reading.{added, onward, lines_after}
use Rattle.lnet_bench.proofs.Fitting.{statement_fits}

abbrev pub Statements : Type 0
Statements = Result (List StatementValue) Malformed

-- the lists of statements, where they were read
abbrev pub listed : Driven → Listed → Result (List StatementValue) Malformed → Result Listed Malformed
listed driven l (Ok ss) = Ok (add_all driven l ss)
listed driven l (Err f) = Err f

listed_first : (driven : Driven) (n : ℕ) (l : Listed) (s : Result StatementValue Fault) (r : Result (List StatementValue) Malformed) (go : Listed → Result Listed Malformed) → ((m : Listed) → go m ≡ listed driven m r) → onward (added driven n l s) go ≡ listed driven l (with_first n s r)
listed_first driven n l (Err kind) r go h = refl
listed_first driven n l (Ok s) (Ok ss) go h = h (add driven l s)
listed_first driven n l (Ok s) (Err f) go h = h (add driven l s)

pub by_statements : (driven : Driven) (n : ℕ) (l : Listed) (ls : List (List ℕ)) → lines_after driven n l ls ≡ listed driven l (statements_from n ls)
by_statements driven n l [] = refl
by_statements driven n l (line ∷ ls) =
    elim (is_blank_line line) as (λ b. onward (cond b (Ok l) (added driven n l (statement_of (uncommented line)))) (λ m. lines_after driven (n + 1) m ls) ≡ listed driven l (cond b (statements_from (n + 1) ls) (with_first n (statement_of (uncommented line)) (statements_from (n + 1) ls)))) [
      | true ↦ by_statements driven (n + 1) l ls
      | false ↦ listed_first driven n l (statement_of (uncommented line)) (statements_from (n + 1) ls) (λ m. lines_after driven (n + 1) m ls) (λ m. by_statements driven (n + 1) m ls)
    ]

-- ---- the statements of lines

abbrev read : List StatementValue → Result (List StatementValue) Malformed
read ss = Ok ss

read_is : (ss ts : List StatementValue) → read ss ≡ read ts → ss ≡ ts
read_is ss ts e = cc

first_read : (n : ℕ) (s : Result StatementValue Fault) (r : Result (List StatementValue) Malformed) (ss : List StatementValue) → with_first n s r ≡ Ok ss → (t : StatementValue) × (ts : List StatementValue) × (s ≡ Ok t) × (r ≡ Ok ts) × (ss ≡ t ∷ ts)
first_read n (Err kind) r ss e = absurd cc
first_read n (Ok s) (Ok ts) ss e = (s, ts, refl, refl, sym (read_is (s ∷ ts) ss e))
first_read n (Ok s) (Err f) ss e = absurd cc

-- an induction over the statements of lines
along : (P : List (List ℕ) → List StatementValue → Type 0) → P [] [] → ((line : List ℕ) (ls : List (List ℕ)) (ss : List StatementValue) → is_blank_line line ≡ true → P ls ss → P (line ∷ ls) ss)
    → ((line : List ℕ) (ls : List (List ℕ)) (s : StatementValue) (ss : List StatementValue) → is_blank_line line ≡ false → statement_of (uncommented line) ≡ Ok s → P ls ss → P (line ∷ ls) (s ∷ ss))
    → (n : ℕ) (ls : List (List ℕ)) (ss : List StatementValue) → statements_from n ls ≡ Ok ss → P ls ss
along P none blank some n [] ss e = subst (P []) (read_is [] ss e) none
along P none blank some n (line ∷ ls) ss e =
    elim (is_blank_line line) as (λ b. is_blank_line line ≡ b → cond b (statements_from (n + 1) ls) (with_first n (statement_of (uncommented line)) (statements_from (n + 1) ls)) ≡ Ok ss → P (line ∷ ls) ss) [
      | true ↦ λ t h. blank line ls ss t (along P none blank some (n + 1) ls ss h)
      | false ↦ λ t h. let f = first_read n (statement_of (uncommented line)) (statements_from (n + 1) ls) ss h in
          subst (P (line ∷ ls)) (sym f.4) (some line ls f.0 f.1 t f.2 (along P none blank some (n + 1) ls f.1 f.3))
    ] refl e

pub same_drives : (name : List ℕ) (n : ℕ) (ls : List (List ℕ)) (ss : List StatementValue) → statements_from n ls ≡ Ok ss → drives_in ls name ≡ drives ss name
same_drives name = along (λ ls ss. drives_in ls name ≡ drives ss name) refl
    (λ line ls ss blank h. rw blank h)
    (λ line ls s ss full is h. rw (full, is) (ap (λ (b : Bool). is_target name (target_of s) || b) h))

pub few_statements : (n : ℕ) (ls : List (List ℕ)) (ss : List StatementValue) → statements_from n ls ≡ Ok ss → length ss ≤ length ls
few_statements = along (λ ls ss. length ss ≤ length ls) (omega arith) (λ line ls ss blank h. omega (arith, h)) (λ line ls s ss full is h. omega (arith, h))

abbrev pub AllFit : List StatementValue → Type 0
AllFit [] = Unit {0}
AllFit (s ∷ ss) = Fits s × AllFit ss

pub all_fit : (n : ℕ) (ls : List (List ℕ)) (ss : List StatementValue) → statements_from n ls ≡ Ok ss → AllFit ss
all_fit = along (λ ls ss. AllFit ss) tt (λ line ls ss blank h. h) (λ line ls s ss full is h. (statement_fits (uncommented line) s is, h))
