-- The words of a piece are read as the command that they spell.
use Rattle.std.proofs.Common.{◌≡◌, ℕ, List, [], ◌∷◌, Option, Some, None, refl, sym, ap, subst, arith}
use Rattle.std.specs.Prelude.{codes}
use Rattle.std.specs.Fmt.{decimal}
use Rattle.lnet_script.specs.declared.command.Query.TheVariants.{Level}
use Rattle.lnet_model.specs.declared.view_spec.ViewSpec.TheVariants as views
use Rattle.lnet_script.specs.declared.command.Command.{Command}
use Rattle.lnet_script.specs.declared.command.Command.TheVariants.{Read, Write, Gen, View, Drop, Ask, Print, Stats, Simulate, Merge, Convert}
use Rattle.lnet_script.specs.declared.keywords.Verb.{Verb}
use Rattle.lnet_script.specs.declared.keywords.Verb.TheVariants as verbs
use Rattle.lnet_gates.specs.KindWords.{kind_word}
use Rattle.lnet_script.specs.Spelling.{signal_word, read_word, write_word, Spells}
use Rattle.lnet_script.specs.Given.{◌>>=◌}
use Rattle.lnet_script.specs.Keywords.{verb_word, verb_of, kind_of, read_format_of, write_format_of, view_of, query_of, long_number_of, number_of, signal_of, count_of, name_of}
use Rattle.lnet_script.specs.Reading.{no_word, one_word, two_words, three_words, five_words, read_of, write_of, generate_of, attach_of, drop_of, ask_of, simulate_of, merge_of, convert_of, behind, command_of}
use Rattle.lnet_script.proofs.Digits.{signal_is, signal_again, number_is, number_again, count_is, count_again, long_number_is, long_number_again}
use Rattle.lnet_gates.specs.declared.gate.Kind.{Kind}
use Rattle.lnet_script.proofs.KeywordLaws.{verb_is, kind_is, kind_again, read_format_is, read_format_again, write_format_is, write_format_again, word_is, name_of_is, name_again}

bind_some : {A B : Type 0} (r : Option A) (f : A → Option B) (y : B) → (r >>= f) ≡ Some y → (x : A) × (r ≡ Some x) × (f x ≡ Some y)
bind_some (Some x) f y e = (x, refl, e)
bind_some None f y e = absurd cc

some_is : {A : Type 0} (x y : A) → Some x ≡ Some y → x ≡ y
some_is x y e = cc

none_left : (words : List (List ℕ)) (u : Unit {0}) → no_word words ≡ Some u → words ≡ []
none_left [] u e = refl
none_left (w ∷ ws) u e = absurd cc

one_left : (words : List (List ℕ)) (a : List ℕ) → one_word words ≡ Some a → words ≡ a ∷ []
one_left [] a e = absurd cc
one_left (w ∷ ws) a e =
    let end = bind_some (no_word ws) (λ _. Some w) a e in
    let same : w ≡ a = some_is w a end.2 in
    rw (same, none_left ws end.0 end.1) refl

two_left : (words : List (List ℕ)) (x : List ℕ × List ℕ) → two_words words ≡ Some x → words ≡ x.0 ∷ x.1 ∷ []
two_left [] x e = absurd cc
two_left (w ∷ ws) x e =
    let second = bind_some (one_word ws) (λ b. Some (w, b)) x e in
    let same : (w, second.0) ≡ x = some_is (w, second.0) x second.2 in
    subst (λ (y : List ℕ × List ℕ). w ∷ ws ≡ y.0 ∷ y.1 ∷ []) same (ap (λ (r : List (List ℕ)). w ∷ r) (one_left ws second.0 second.1))

three_left : (words : List (List ℕ)) (x : List ℕ × List ℕ × List ℕ) → three_words words ≡ Some x → words ≡ x.0 ∷ x.1 ∷ x.2 ∷ []
three_left [] x e = absurd cc
three_left (w ∷ ws) x e =
    let others = bind_some (two_words ws) (λ b. Some (w, b.0, b.1)) x e in
    let same : (w, others.0.0, others.0.1) ≡ x = some_is (w, others.0.0, others.0.1) x others.2 in
    subst (λ (y : List ℕ × List ℕ × List ℕ). w ∷ ws ≡ y.0 ∷ y.1 ∷ y.2 ∷ []) same (ap (λ (r : List (List ℕ)). w ∷ r) (two_left ws others.0 others.1))

five_left : (words : List (List ℕ)) (x : List ℕ × List ℕ × List ℕ × List ℕ × List ℕ) → five_words words ≡ Some x → words ≡ x.0 ∷ x.1 ∷ x.2 ∷ x.3 ∷ x.4 ∷ []
five_left [] x e = absurd cc
five_left (w ∷ []) x e = absurd cc
five_left (w ∷ v ∷ ws) x e =
    let others = bind_some (three_words ws) (λ b. Some (w, v, b.0, b.1, b.2)) x e in
    let same : (w, v, others.0.0, others.0.1, others.0.2) ≡ x = some_is (w, v, others.0.0, others.0.1, others.0.2) x others.2 in
    subst (λ (y : List ℕ × List ℕ × List ℕ × List ℕ × List ℕ). w ∷ v ∷ ws ≡ y.0 ∷ y.1 ∷ y.2 ∷ y.3 ∷ y.4 ∷ []) same (ap (λ (r : List (List ℕ)). w ∷ v ∷ r) (three_left ws others.0 others.1))

one_as : (v : List ℕ) (ws : List (List ℕ)) (w x : List ℕ) → ws ≡ w ∷ [] → w ≡ x → v ∷ ws ≡ v ∷ x ∷ []
one_as v ws w x whole first = cc

two_as : (v : List ℕ) (ws : List (List ℕ)) (w : List ℕ × List ℕ) (x y : List ℕ) → ws ≡ w.0 ∷ w.1 ∷ [] → w.0 ≡ x → w.1 ≡ y → v ∷ ws ≡ v ∷ x ∷ y ∷ []
two_as v ws w x y whole first second = cc

three_as : (v : List ℕ) (ws : List (List ℕ)) (w : List ℕ × List ℕ × List ℕ) (x y z : List ℕ) → ws ≡ w.0 ∷ w.1 ∷ w.2 ∷ [] → w.0 ≡ x → w.1 ≡ y → w.2 ≡ z → v ∷ ws ≡ v ∷ x ∷ y ∷ z ∷ []
three_as v ws w x y z whole first second third = cc

five_as : (v : List ℕ) (ws : List (List ℕ)) (w : List ℕ × List ℕ × List ℕ × List ℕ × List ℕ) (a b c d e : List ℕ) → ws ≡ w.0 ∷ w.1 ∷ w.2 ∷ w.3 ∷ w.4 ∷ [] → w.0 ≡ a → w.1 ≡ b → w.2 ≡ c → w.3 ≡ d → w.4 ≡ e → v ∷ ws ≡ v ∷ a ∷ b ∷ c ∷ d ∷ e ∷ []
five_as v ws w a b c d e whole first second third fourth fifth = cc

-- ---- what is read is spelled

read_is : (ws : List (List ℕ)) (c : Command) → read_of ws ≡ Some c → Spells (codes "read" ∷ ws) c
unfolding read_of
read_is ws c e =
    let w = bind_some (three_words ws) (λ w. read_format_of w.0 >>= λ format. kind_of w.2 >>= λ kind. name_of w.1 >>= λ name. Some (Read format name kind)) c e in
    let f = bind_some (read_format_of w.0.0) (λ format. kind_of w.0.2 >>= λ kind. name_of w.0.1 >>= λ name. Some (Read format name kind)) c w.2 in
    let k = bind_some (kind_of w.0.2) (λ kind. name_of w.0.1 >>= λ name. Some (Read f.0 name kind)) c f.2 in
    let n = bind_some (name_of w.0.1) (λ name. Some (Read f.0 name k.0)) c k.2 in
    let format = read_format_is w.0.0 f.0 f.1 in
    let kind = kind_is w.0.2 k.0 k.1 in
    let name = name_of_is w.0.1 n.0 n.1 in
    let same : Read f.0 n.0 k.0 ≡ c = some_is (Read f.0 n.0 k.0) c n.2 in
    subst (λ (d : Command). Spells (codes "read" ∷ ws) d) same
    (name.1, three_as (codes "read") ws w.0 (read_word f.0) n.0 (kind_word k.0) (three_left ws w.0 w.1) format name.0 kind)

write_is : (ws : List (List ℕ)) (c : Command) → write_of ws ≡ Some c → Spells (codes "write" ∷ ws) c
unfolding write_of
write_is ws c e =
    let w = bind_some (two_words ws) (λ w. write_format_of w.0 >>= λ format. name_of w.1 >>= λ name. Some (Write format name)) c e in
    let f = bind_some (write_format_of w.0.0) (λ format. name_of w.0.1 >>= λ name. Some (Write format name)) c w.2 in
    let n = bind_some (name_of w.0.1) (λ name. Some (Write f.0 name)) c f.2 in
    let format = write_format_is w.0.0 f.0 f.1 in
    let name = name_of_is w.0.1 n.0 n.1 in
    let same : Write f.0 n.0 ≡ c = some_is (Write f.0 n.0) c n.2 in
    subst (λ (d : Command). Spells (codes "write" ∷ ws) d) same
    (name.1, two_as (codes "write") ws w.0 (write_word f.0) n.0 (two_left ws w.0 w.1) format name.0)

abbrev generated : Kind → ℕ → ℕ → ℕ → ℕ → Command
generated kind inputs gates outputs start = Gen kind (record { inputs = inputs; gates = gates; outputs = outputs; start = start })

generate_is : (ws : List (List ℕ)) (c : Command) → generate_of ws ≡ Some c → Spells (codes "gen" ∷ ws) c
unfolding generate_of
generate_is ws c e =
    let w = bind_some (five_words ws) (λ w. kind_of w.0 >>= λ kind. count_of 1 4096 w.1 >>= λ inputs. count_of 0 262144 w.2 >>= λ gates. count_of 1 4096 w.3 >>= λ outputs. long_number_of w.4 >>= λ start. Some (generated kind inputs gates outputs start)) c e in
    let k = bind_some (kind_of w.0.0) (λ kind. count_of 1 4096 w.0.1 >>= λ inputs. count_of 0 262144 w.0.2 >>= λ gates. count_of 1 4096 w.0.3 >>= λ outputs. long_number_of w.0.4 >>= λ start. Some (generated kind inputs gates outputs start)) c w.2 in
    let i = bind_some (count_of 1 4096 w.0.1) (λ inputs. count_of 0 262144 w.0.2 >>= λ gates. count_of 1 4096 w.0.3 >>= λ outputs. long_number_of w.0.4 >>= λ start. Some (generated k.0 inputs gates outputs start)) c k.2 in
    let g = bind_some (count_of 0 262144 w.0.2) (λ gates. count_of 1 4096 w.0.3 >>= λ outputs. long_number_of w.0.4 >>= λ start. Some (generated k.0 i.0 gates outputs start)) c i.2 in
    let o = bind_some (count_of 1 4096 w.0.3) (λ outputs. long_number_of w.0.4 >>= λ start. Some (generated k.0 i.0 g.0 outputs start)) c g.2 in
    let s = bind_some (long_number_of w.0.4) (λ start. Some (generated k.0 i.0 g.0 o.0 start)) c o.2 in
    let kind = kind_is w.0.0 k.0 k.1 in
    let inputs = count_is 1 4096 w.0.1 i.0 i.1 in
    let gates = count_is 0 262144 w.0.2 g.0 g.1 in
    let outputs = count_is 1 4096 w.0.3 o.0 o.1 in
    let start = long_number_is w.0.4 s.0 s.1 in
    let same : generated k.0 i.0 g.0 o.0 s.0 ≡ c = some_is (generated k.0 i.0 g.0 o.0 s.0) c s.2 in
    subst (λ (d : Command). Spells (codes "gen" ∷ ws) d) same
    (inputs.1, gates.1, outputs.1, start.1, five_as (codes "gen") ws w.0 (kind_word k.0) (decimal i.0) (decimal g.0) (decimal o.0) (decimal s.0) (five_left ws w.0 w.1) kind inputs.0 gates.0 outputs.0 start.0)

attach_is : (ws : List (List ℕ)) (c : Command) → attach_of ws ≡ Some c → Spells (codes "view" ∷ ws) c
unfolding attach_of
attach_is ws c e =
    let w = bind_some (one_word ws) (λ w. view_of w >>= λ view. Some (View view)) c e in
    let v = bind_some (view_of w.0) (λ view. Some (View view)) c w.2 in
    let view = word_is (codes "depth") views.Depth w.0 v.0 v.1 in
    let same : View v.0 ≡ c = some_is (View v.0) c v.2 in
    subst (λ (d : Command). Spells (codes "view" ∷ ws) d) same
    (subst (λ v. Spells (codes "view" ∷ ws) (View v)) view.1 (one_as (codes "view") ws w.0 (codes "depth") (one_left ws w.0 w.1) view.0))

drop_is : (ws : List (List ℕ)) (c : Command) → drop_of ws ≡ Some c → Spells (codes "drop" ∷ ws) c
unfolding drop_of
drop_is ws c e =
    let w = bind_some (one_word ws) (λ w. number_of w >>= λ v. Some (Drop v)) c e in
    let v = bind_some (number_of w.0) (λ v. Some (Drop v)) c w.2 in
    let number = number_is w.0 v.0 v.1 in
    let same : Drop v.0 ≡ c = some_is (Drop v.0) c v.2 in
    subst (λ (d : Command). Spells (codes "drop" ∷ ws) d) same (number.1, one_as (codes "drop") ws w.0 (decimal v.0) (one_left ws w.0 w.1) number.0)

ask_is : (ws : List (List ℕ)) (c : Command) → ask_of ws ≡ Some c → Spells (codes "ask" ∷ ws) c
unfolding ask_of
ask_is ws c e =
    let w = bind_some (three_words ws) (λ w. number_of w.0 >>= λ v. query_of w.1 >>= λ query. number_of w.2 >>= λ node. Some (Ask v query node)) c e in
    let v = bind_some (number_of w.0.0) (λ v. query_of w.0.1 >>= λ query. number_of w.0.2 >>= λ node. Some (Ask v query node)) c w.2 in
    let q = bind_some (query_of w.0.1) (λ query. number_of w.0.2 >>= λ node. Some (Ask v.0 query node)) c v.2 in
    let n = bind_some (number_of w.0.2) (λ node. Some (Ask v.0 q.0 node)) c q.2 in
    let view = number_is w.0.0 v.0 v.1 in
    let query = word_is (codes "level") Level w.0.1 q.0 q.1 in
    let node = number_is w.0.2 n.0 n.1 in
    let same : Ask v.0 q.0 n.0 ≡ c = some_is (Ask v.0 q.0 n.0) c n.2 in
    subst (λ (d : Command). Spells (codes "ask" ∷ ws) d) same
    (subst (λ q. Spells (codes "ask" ∷ ws) (Ask v.0 q n.0)) query.1 (view.1, node.1, three_as (codes "ask") ws w.0 (decimal v.0) (codes "level") (decimal n.0) (three_left ws w.0 w.1) view.0 query.0 node.0))

simulate_is : (ws : List (List ℕ)) (c : Command) → simulate_of ws ≡ Some c → Spells (codes "simulate" ∷ ws) c
unfolding simulate_of
simulate_is ws c e =
    let w = bind_some (one_word ws) (λ w. name_of w >>= λ bits. Some (Simulate bits)) c e in
    let b = bind_some (name_of w.0) (λ bits. Some (Simulate bits)) c w.2 in
    let bits = name_of_is w.0 b.0 b.1 in
    let same : Simulate b.0 ≡ c = some_is (Simulate b.0) c b.2 in
    subst (λ (d : Command). Spells (codes "simulate" ∷ ws) d) same (bits.1, one_as (codes "simulate") ws w.0 b.0 (one_left ws w.0 w.1) bits.0)

merge_is : (ws : List (List ℕ)) (c : Command) → merge_of ws ≡ Some c → Spells (codes "merge" ∷ ws) c
unfolding merge_of
merge_is ws c e =
    let w = bind_some (two_words ws) (λ w. number_of w.0 >>= λ node. signal_of w.1 >>= λ x. Some (Merge node x)) c e in
    let n = bind_some (number_of w.0.0) (λ node. signal_of w.0.1 >>= λ x. Some (Merge node x)) c w.2 in
    let s = bind_some (signal_of w.0.1) (λ x. Some (Merge n.0 x)) c n.2 in
    let node = number_is w.0.0 n.0 n.1 in
    let signal = signal_is w.0.1 s.0 s.1 in
    let same : Merge n.0 s.0 ≡ c = some_is (Merge n.0 s.0) c s.2 in
    subst (λ (d : Command). Spells (codes "merge" ∷ ws) d) same (node.1, signal.1, two_as (codes "merge") ws w.0 (decimal n.0) (signal_word s.0) (two_left ws w.0 w.1) node.0 signal.0)

convert_is : (ws : List (List ℕ)) (c : Command) → convert_of ws ≡ Some c → Spells (codes "convert" ∷ ws) c
unfolding convert_of
convert_is ws c e =
    let w = bind_some (one_word ws) (λ w. kind_of w >>= λ kind. Some (Convert kind)) c e in
    let k = bind_some (kind_of w.0) (λ kind. Some (Convert kind)) c w.2 in
    let same : Convert k.0 ≡ c = some_is (Convert k.0) c k.2 in
    subst (λ (d : Command). Spells (codes "convert" ∷ ws) d) same (one_as (codes "convert") ws w.0 (kind_word k.0) (one_left ws w.0 w.1) (kind_is w.0 k.0 k.1))

behind_is : (v : Verb) (ws : List (List ℕ)) (c : Command) → behind v ws ≡ Some c → Spells (verb_word v ∷ ws) c
behind_is verbs.Read ws c e = read_is ws c e
behind_is verbs.Write ws c e = write_is ws c e
behind_is verbs.Gen ws c e = generate_is ws c e
behind_is verbs.View ws c e = attach_is ws c e
behind_is verbs.Drop ws c e = drop_is ws c e
behind_is verbs.Ask ws c e = ask_is ws c e
behind_is verbs.Simulate ws c e = simulate_is ws c e
behind_is verbs.Merge ws c e = merge_is ws c e
behind_is verbs.Convert ws c e = convert_is ws c e
behind_is verbs.Print ws c e =
    let w = bind_some (no_word ws) (λ _. Some Print) c e in
    let same : Print ≡ c = some_is Print c w.2 in
    subst (λ (d : Command). Spells (codes "print" ∷ ws) d) same (rw (none_left ws w.0 w.1) refl)
behind_is verbs.Stats ws c e =
    let w = bind_some (no_word ws) (λ _. Some Stats) c e in
    let same : Stats ≡ c = some_is Stats c w.2 in
    subst (λ (d : Command). Spells (codes "stats" ∷ ws) d) same (rw (none_left ws w.0 w.1) refl)

pub command_is : (words : List (List ℕ)) (c : Command) → command_of words ≡ Some c → Spells words c
unfolding command_of
command_is [] c e = absurd cc
command_is (w ∷ ws) c e =
    let v = bind_some (verb_of w) (λ verb. behind verb ws) c e in
    subst (λ (first : List ℕ). Spells (first ∷ ws) c) (sym (verb_is w v.0 v.1)) (behind_is v.0 ws c v.2)

-- ---- what is spelled is read

pub command_again : (words : List (List ℕ)) (c : Command) → Spells words c → command_of words ≡ Some c
unfolding command_of read_of write_of generate_of attach_of drop_of ask_of simulate_of merge_of convert_of
command_again words (Read format name kind) is = rw is.1 (rw (read_format_again format, kind_again kind, name_again name is.0) refl)
command_again words (Write format name) is = rw is.1 (rw (write_format_again format, name_again name is.0) refl)
command_again words (Gen kind g) is = rw is.4 (rw (kind_again kind, count_again 1 4096 g.inputs is.0 (omega arith), count_again 0 262144 g.gates is.1 (omega arith), count_again 1 4096 g.outputs is.2 (omega arith), long_number_again g.start is.3) refl)
command_again words (View views.Depth) is = rw is refl
command_again words (View views.Fanout) is = absurd is
command_again words (View (views.Cuts rule)) is = absurd is
command_again words (Drop v) is = rw is.1 (rw (number_again v is.0) refl)
command_again words (Ask v Level node) is = rw is.2 (rw (number_again v is.0, number_again node is.1) refl)
command_again words Print is = rw is refl
command_again words Stats is = rw is refl
command_again words (Simulate bits) is = rw is.1 (rw (name_again bits is.0) refl)
command_again words (Merge node s) is = rw is.2 (rw (number_again node is.0, signal_again s is.1) refl)
command_again words (Convert kind) is = rw is (rw (kind_again kind) refl)
