-- The answer that each promise leaves at a telling input: a program that answers otherwise there, as the theorem's name says, cannot be
-- proved. `FUNCTION_gives` is what the promise of FUNCTION answers at arguments, which is the definition's value there.
use Prim.Native.Nat.{ℕ}
use mathlib.Core.List.{List}
use mathlib.Core.Path.{◌≡◌, ap, ◌∙◌}
use Rattle.std.specs.Prelude.{None, Option, Some}
use Rattle.scan.specs.Ascii.{ascii}
use Rattle.scan.specs.Byte.{is_within, lowered, is_space, is_in}
use Rattle.proving.proofs.One.{Answers}
use Rattle.scan.specs.Run.{run_length}
use Rattle.scan.specs.Text.{same_text, has}
use Rattle.token.specs.Kinds.{identifier, metric_identifier, lor, fill, fill_right}
use Rattle.munch.specs.declared.word.Rule.{Rule}
use Rattle.munch.specs.declared.word.Rule.TheVariants.{Or, InBraces, Table, FillCalled, FillAlone, WithColon, Plain}
use Rattle.munch.specs.Word.{is_fill, rule_by, is_or, brace_rule, kind_by}
use Rattle.munch.proofs.word.table_rule.Kinds as table_rule
use Rattle.munch.proofs.word.table_rule.Reads as table_rule_reads
use Rattle.munch.proofs.word.rule_by.Kinds as rule_by_kinds
use Rattle.munch.proofs.word.rule_by.Reads as rule_by_reads
use Rattle.munch.proofs.word.brace_rule.Kinds as brace_rule_kinds
use Rattle.munch.proofs.word.brace_rule.Reads as brace_rule_reads
use Rattle.munch.proofs.word.kind_by.Kinds as kind_by_kinds
use Rattle.munch.proofs.word.kind_by.Reads as kind_by_reads

abbrev table_rule_gives : ℕ → List ℕ → ℕ → Rule → Type 0
table_rule_gives kind xs n v =
    Answers table_rule.ps table_rule.r table_rule_reads.Post (λ κs a. (a.0 ≡ kind) × (a.1.0.now ≡ xs) × (a.1.1.0 ≡ n)) (λ κs. v)

table_rule_at : (kind : ℕ) (xs : List ℕ) (n : ℕ) → table_rule_gives kind xs n (rule_by (Some kind) xs n)
table_rule_at kind xs n κs a x e p h = cc (p, h.0, h.1, h.2)

pub comment_behind_fill_is_not_passed : table_rule_gives fill (ascii "fill#\n(") 4 FillAlone
unfolding rule_by is_fill is_within is_in is_space run_length
comment_behind_fill_is_not_passed = table_rule_at _ _ _

pub fill_right_is_a_fill_word : table_rule_gives fill_right (ascii "fill_right") 10 FillAlone
unfolding rule_by is_fill is_within is_in is_space run_length
fill_right_is_a_fill_word = table_rule_at _ _ _

pub or_is_no_fill_word : table_rule_gives lor (ascii "or(") 2 (Table lor)
unfolding rule_by is_fill is_within is_in is_space run_length
or_is_no_fill_word = table_rule_at _ _ _

abbrev rule_by_gives : Option ℕ → List ℕ → ℕ → Rule → Type 0
rule_by_gives own xs n v =
    Answers rule_by_kinds.ps rule_by_kinds.r rule_by_reads.Post (λ κs a. (a.0 ≡ own) × (a.1.0.now ≡ xs) × (a.1.1.0 ≡ n)) (λ κs. v)

rule_by_at : (own : Option ℕ) (xs : List ℕ) (n : ℕ) → rule_by_gives own xs n (rule_by own xs n)
rule_by_at own xs n κs a x e p h = cc (p, h.0, h.1, h.2)

pub fill_with_a_paren_next_is_called : rule_by_gives (Some fill) (ascii "fill (") 4 (FillCalled fill)
unfolding rule_by is_fill is_within is_in is_space run_length
fill_with_a_paren_next_is_called = rule_by_at _ _ _

pub colon_behind_the_word_is_not_in_it : rule_by_gives None (ascii "a:") 1 Plain
unfolding rule_by has
colon_behind_the_word_is_not_in_it = rule_by_at _ _ _

abbrev brace_rule_gives : List ℕ → ℕ → Rule → Type 0
brace_rule_gives xs n v = Answers brace_rule_kinds.ps brace_rule_kinds.r brace_rule_reads.Post (λ κs a. (a.0.now ≡ xs) × (a.1.0 ≡ n)) (λ κs. v)

brace_rule_at : (xs : List ℕ) (n : ℕ) → brace_rule_gives xs n (brace_rule xs n)
brace_rule_at xs n κs a x e p h = cc (p, h.0, h.1)

pub or_before_a_space_is_an_operator : brace_rule_gives (ascii "OR ") 2 Or
unfolding brace_rule is_or same_text lowered is_within
or_before_a_space_is_an_operator = brace_rule_at _ _

pub or_before_a_tab_is_none : brace_rule_gives (ascii "or\t") 2 InBraces
unfolding brace_rule is_or same_text lowered is_within
or_before_a_tab_is_none = brace_rule_at _ _

pub order_is_no_operator : brace_rule_gives (ascii "order ") 5 InBraces
unfolding brace_rule is_or same_text lowered is_within
order_is_no_operator = brace_rule_at _ _

abbrev kind_by_gives : Rule → ℕ → Type 0
kind_by_gives rule v = Answers kind_by_kinds.ps kind_by_kinds.r kind_by_reads.Post (λ κs a. a.0 ≡ rule) (λ κs. v)

kind_by_at : (rule : Rule) → kind_by_gives rule (kind_by rule)
kind_by_at rule κs a x e p h = p ∙ ap kind_by h

pub word_with_a_colon_is_a_metric : kind_by_gives WithColon metric_identifier
unfolding kind_by
word_with_a_colon_is_a_metric = kind_by_at _

pub fill_alone_is_an_identifier : kind_by_gives FillAlone identifier
unfolding kind_by
fill_alone_is_an_identifier = kind_by_at _

pub fill_called_keeps_its_kind : kind_by_gives (FillCalled fill_right) fill_right
unfolding kind_by
fill_called_keeps_its_kind = kind_by_at _
