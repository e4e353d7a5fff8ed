-- A pass over a query, which writes lexemes to four lists as far as they have room. What a part of it has done is said by what is left to do: all ends
-- as it would have (`Leads`). A store past the end of a list changes nothing, so that room is no condition.
use Rattle.std.specs.Prelude.{ℕ, ◌≤◌, Bool, true, false, List, ◌++◌, map, ◌≡◌, length, take, drop, Err, Ok, Result}
use Rattle.std.proofs.lemmas.List.Edits.{sets}
use Rattle.utf8.specs.declared.Reading.{Reading}
use Rattle.munch.specs.declared.Inside.{Inside}
use Rattle.munch.specs.declared.Inside.TheVariants.{Nothing, Braces, Brackets}
use Rattle.munch.specs.declared.Mode.{Mode}
use Rattle.munch.specs.Munch.{mode}
use Rattle.quoted.specs.declared.Fault.{Fault}
use Rattle.lex.specs.declared.query.Run.{Run}
use Rattle.lex.specs.Outcome.{Entry, Outcome, refuses, steps_past, read_from}
use Rattle.lex.specs.Lex.{entries, entries_of, kind_of, starts_at, length_of, depth_of}
use Rattle.lex.specs.steps.Tally.{tallied}

-- a list once the lexemes of a query are written from its front on, as far as there is room
abbrev pub filled : Reading → (Entry → ℕ) → List ℕ → List ℕ → List ℕ
filled r f q d = take (length d) (map f (entries_of r q)) ++ drop (length (entries_of r q)) d

-- whether braces are open, and whether brackets that have their colon
abbrev pub in_braces : Inside → Bool
in_braces Nothing = false
in_braces Braces = true
in_braces (Brackets seen fresh) = false

abbrev pub has_colon : Inside → Bool
has_colon Nothing = false
has_colon Braces = false
has_colon (Brackets seen fresh) = seen

-- what is open, where something is
abbrev pub inside_by : Bool → Bool → Bool → Inside
inside_by true seen fresh = Braces
inside_by false seen fresh = Brackets seen fresh

-- what comes of a query from an offset on, in a mode
abbrev pub outcome_at : Reading → List ℕ → ℕ → Mode → Outcome
outcome_at r q at m = read_from at (steps_past r 0 m (drop at q))

-- the four lists are equally long
abbrev pub Alike : List ℕ → List ℕ → List ℕ → List ℕ → Type 0
Alike ks ss ls ds = (length ss ≡ length ks) × (length ls ≡ length ks) × (length ds ≡ length ks)

-- where a pass is: its lists, the number of the next lexeme, and what is still to come
pub record State : Type 0 where
  pub kinds : List ℕ
  pub starts : List ℕ
  pub lengths : List ℕ
  pub depths : List ℕ
  pub next : ℕ
  pub rest : Outcome

abbrev pub state : List ℕ → List ℕ → List ℕ → List ℕ → ℕ → Outcome → State
state ks ss ls ds i r = record { kinds = ks; starts = ss; lengths = ls; depths = ds; next = i; rest = r }

-- a list with what is still to come written to it
abbrev pub ending : (Entry → ℕ) → List ℕ → ℕ → Outcome → List ℕ
ending f d i r = sets d i (map f (entries r))

pub record Kept (f : Entry → ℕ) (d : List ℕ) (a : State) (e : List ℕ) (b : State) : Type 0 where
  pub same : length e ≡ length d
  pub goes : ending f d a.next a.rest ≡ ending f e b.next b.rest

-- all ends from a on as it does from b on
pub record Leads (a b : State) : Type 0 where
  pub tally : tallied a.next a.rest ≡ tallied b.next b.rest
  pub kinds : Kept kind_of a.kinds a b.kinds b
  pub starts : Kept starts_at a.starts a b.starts b
  pub lengths : Kept length_of a.lengths a b.lengths b
  pub depths : Kept depth_of a.depths a b.depths b

-- where a pass is behind braces or brackets in so many parentheses; once refused, no lexeme is to come
abbrev pub state_behind : Reading → List ℕ → List ℕ → List ℕ → List ℕ → List ℕ → ℕ → Result Run Fault → State
state_behind r q ks ss ls ds d (Ok run) = state ks ss ls ds run.count (outcome_at r q run.at (mode d Nothing))
state_behind r q ks ss ls ds d (Err f) = state ks ss ls ds 0 (refuses f.number f.at)

-- a run goes on from where it began, within the query, and no lexeme is empty
abbrev pub Reached : List ℕ → ℕ → Result Run Fault → Type 0
Reached q from (Ok run) = (from ≤ run.at) × (run.at ≤ length q) × (run.count ≤ run.at)
Reached q from (Err f) = Unit {0}
