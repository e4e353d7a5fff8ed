-- A turn has its step's share of what is still to come (`Turns`). In braces and brackets no parenthesis opens or closes, and behind a lexeme they are closed or still
-- open, with their colon or without (`step_leads`).
use Prim.Native.Nat.{ℕ, ◌+◌, ◌≤◌}
use native.Mathlib.Omega.{arith}
use mathlib.Core.Bool.{Bool, true, false}
use mathlib.Core.List.{List}
use mathlib.Core.Logic.{inl, inr}
use mathlib.Core.Path.{◌≡◌, refl, sym, ap, ap₂, subst, ◌∙◌}
use denote.Enum.Declared.{tag_of}
use lib.ListN.{length, drop}
use Rattle.munch.specs.contracts.Inside as inside
use Rattle.utf8.specs.declared.Reading.{Reading}
use Rattle.munch.specs.declared.Inside.{Inside}
use Rattle.munch.specs.declared.Inside.TheVariants.{Nothing, Braces, Brackets}
use Rattle.munch.specs.declared.Mode.{Mode}
use Rattle.munch.specs.declared.Step.{Step}
use Rattle.munch.specs.declared.Step.TheVariants.{Lexeme}
use Rattle.munch.specs.Munch.{mode, munched}
use Rattle.munch.specs.laws.Modes.{Opens, Behind, past, LeadsTo}
use Rattle.munch.proofs.Modes.{step_leads}
use Rattle.lex.specs.steps.Pass.{in_braces, has_colon, inside_by, outcome_at, State, state, Leads, Alike}
use Rattle.lex.proofs.Lists.{leads_alike}
use Rattle.lex.proofs.Turns.{same_depth, lexeme_further, space_further, comment_further, refused_within, turn_lexeme, turn_space, turn_comment, turn_refused, in_mode, same_mode, Stands, stands_start}
use Rattle.lex.proofs.query.Query.opened.Goals as goal
use Rattle.lex.proofs.query.Query.opened.Goals.{After-inner_step, In-Lexeme, After-slice_known-in-Lexeme-4-1, Start}

-- what is open at first, by whether it is braces
opening : (i : Inside) {b : Bool} → Opens i → (i ≡ Nothing → ⊥) → b ≡ in_braces i → i ≡ inside_by b false true
opening Nothing o t e = absurd (t refl)
opening Braces o t e = ap (λ x. inside_by x false true) (sym e)
opening (Brackets seen fresh) o t e = ap₂ Brackets o.0 o.1 ∙ ap (λ x. inside_by x false true) (sym e)

module _ (d : ℕ) (m : Mode) where
  shut : m ≡ mode d Nothing → (m.inside ≡ Nothing → ⊥) → ⊥
  shut e t = t (ap (λ (n : Mode). n.inside) e)

  -- behind a lexeme as many parentheses are open
  stays : (b s f : Bool) → Behind d (inside_by b s f) m → m.depth ≡ d
  stays true s f (inl e) = ap (λ (x : Mode). x.depth) e
  stays true s f (inr e) = ap (λ (x : Mode). x.depth) e
  stays false s f (inl e) = ap (λ (x : Mode). x.depth) e
  stays false s f (inr (n, e)) = ap (λ (x : Mode). x.depth) e

  -- and, where it does not close them, the braces or brackets
  onward : (b s f : Bool) → Behind d (inside_by b s f) m → (m.inside ≡ Nothing → ⊥) → m ≡ mode d (inside_by b (has_colon m.inside) false)
  onward true s f (inl e) t = absurd (shut e t)
  onward true s f (inr e) t = e
  onward false s f (inl e) t = absurd (shut e t)
  onward false s f (inr (n, e)) t = e ∙ ap (λ x. mode d (Brackets x false)) (sym (ap (λ (x : Mode). has_colon x.inside) e))

-- white space ends that they are just opened
passed : (b s f : Bool) → past (inside_by b s f) ≡ inside_by b s false
passed true s f = refl
passed false s f = refl

-- something is open
never : (b s f : Bool) → inside_by b s f ≡ Nothing → ⊥
never true s f e = let z = ap (tag_of inside.the_type) e in omega arith
never false s f e = let z = ap (tag_of inside.the_type) e in omega arith

-- once a step is known: where the loop stood
module _ (c : After-inner_step) where
  abbrev start : Start
  start = (goal.at.After-inner_step c).Start

  abbrev bytes : List ℕ
  bytes = start.args.self.now.text.now

  abbrev reading : Reading
  reading = start.args.self.now.reading

  abbrev depth : ℕ
  depth = start.args.next.depth

  abbrev at : ℕ
  at = c.loop-kind.at

  abbrev braces : Bool
  braces = c.in_braces-braces.result

  abbrev here : Inside
  here = inside_by braces c.loop-kind.seen c.loop-kind.fresh

  abbrev begun : State
  begun = let a = start.args in state a.kinds.now a.starts.now a.lengths.now a.depths.now a.first (outcome_at reading bytes a.from (mode depth (inside_by braces false true)))

  stand : let l = c.loop-kind in Stands reading begun bytes l.kinds l.starts l.lengths l.depths l.i at (mode depth here)
  stand = c.loop-kind.invariant.2

  alike : let l = c.loop-kind in Alike l.kinds l.starts l.lengths l.depths
  alike = leads_alike stand.leads start.requires.alike

  stepped : {s : Step} → c.inner_step.result ≡ s → munched reading (mode depth here) (drop at bytes) ≡ s
  stepped e = sym c.inner_step.ensures ∙ e

  leads_to : {s : Step} → c.inner_step.result ≡ s → LeadsTo depth here s
  leads_to e = rw (stepped e) at (step_leads reading depth here (drop at bytes))

  -- the query goes on as it does from what is open at first
  begins : {b : State} → Leads begun b → let a = start.args in Leads (state a.kinds.now a.starts.now a.lengths.now a.depths.now a.first (outcome_at reading bytes a.from a.next)) b
  begins {b} w =
      let a = start.args in
      let e : a.next ≡ mode depth (inside_by braces false true) = ap (mode depth) (opening _ start.requires.opens c.in_default.not-Nothing c.in_braces-braces.ensures) in
      subst (λ (m : Mode). Leads (state a.kinds.now a.starts.now a.lengths.now a.depths.now a.first (outcome_at reading bytes a.from m)) b) (sym e) w

-- where the step is a lexeme, and how far it goes
module _ (c : In-Lexeme) where
  abbrev place : After-inner_step
  place = (goal.at.In-Lexeme c).After-inner_step

  abbrev size : ℕ
  size = c.in-Lexeme.length

  abbrev behind : Mode
  behind = c.in-Lexeme.mode

  lexed : munched (reading place) (mode (depth place) (here place)) (drop (at place) (bytes place)) ≡ Lexeme c.in-Lexeme.kind size behind
  lexed = stepped place c.in-Lexeme.is

  leads_behind : Behind (depth place) (here place) behind
  leads_behind = leads_to place c.in-Lexeme.is

  kept : behind.depth ≡ depth place
  kept = let l = place.loop-kind in stays (depth place) behind (braces place) l.seen l.fresh leads_behind

  further : (1 ≤ size) × (at place + size ≤ length (bytes place))
  further = lexeme_further (stand place) lexed

pub returns-in-Nothing : goal.returns-in-Nothing
returns-in-Nothing c =
    let g = (goal.at.returns-in-Nothing c).Start in
    record {
      reached = (omega arith, omega (arith, g.requires), omega (arith, g.requires));
      leads = same_mode _ _ _ (ap (mode g.args.next.depth) c.in-Nothing.is);
    }

pub loop-kind-init : goal.loop-kind-init
loop-kind-init c = let g = c.requires.placed in (omega arith, omega (arith, g), stands_start _ _ _ _ (omega (arith, g)))

pub put-requires : goal.put-requires
put-requires c =
    let d = (goal.at.put-requires c).In-Lexeme in
    let p = place d in
    let g = further d in
    let h = (start p).requires in
    record {
      alike = alike p;
      small = (omega (arith, h), omega (arith, h), omega (arith, h));
    }

pub overflow_add-at : goal.overflow_add-at
overflow_add-at c = let d = (goal.at.overflow_add-at c).In-Lexeme in omega (arith, further d, (start (place d)).args.self.now.limited)

pub overflow_add-i : goal.overflow_add-i
overflow_add-i c = let p = place (goal.at.overflow_add-i c).In-Lexeme in let v = p.loop-kind.invariant in omega (arith, (start p).args.self.now.limited, (stand p).inside)

-- the lexeme is written, and what is behind it is still to come
wrote : (c : After-slice_known-in-Lexeme-4-1) →
    let d = (goal.at.After-slice_known-in-Lexeme-4-1 c).In-Lexeme in
    let p = place d in
    let w = c.put.new in
    Stands (reading p) (begun p) (bytes p) w.kinds w.starts w.lengths w.depths (p.loop-kind.i + 1) (at p + size d) (behind d)
wrote c =
    let d = (goal.at.After-slice_known-in-Lexeme-4-1 c).In-Lexeme in
    let p = place d in
    turn_lexeme (stand p) (lexed d) (same_depth (stand p) (lexed d) (omega (arith, (start p).requires)) (kept d)) (c.put.ensures.kinds_after, (c.put.ensures.starts_after, (c.put.ensures.lengths_after, c.put.ensures.depths_after)))

pub returns-in-Nothing-inside : goal.returns-in-Nothing-inside
returns-in-Nothing-inside c =
    let d = (goal.at.returns-in-Nothing-inside c).In-Lexeme in
    let p = place d in
    let g = further d in
    let v = p.loop-kind.invariant in
    record {
      reached = (omega arith, g.1, omega arith);
      leads = begins p (in_mode (ap₂ mode (kept d) c.in-Nothing-inside.is) (wrote (goal.at.returns-in-Nothing-inside c).After-slice_known-in-Lexeme-4-1)).leads;
    }

pub loop-kind-smaller-in-Lexeme : goal.loop-kind-smaller-in-Lexeme
loop-kind-smaller-in-Lexeme c = let d = (goal.at.loop-kind-smaller-in-Lexeme c).In-Lexeme in omega (arith, further d)

pub loop-kind-preserved-in-Lexeme : goal.loop-kind-preserved-in-Lexeme
loop-kind-preserved-in-Lexeme c =
    let d = (goal.at.loop-kind-preserved-in-Lexeme c).In-Lexeme in
    let p = place d in
    let g = further d in
    let v = p.loop-kind.invariant in
    let l = p.loop-kind in
    let e = onward (depth p) (behind d) (braces p) l.seen l.fresh (leads_behind d) c.in_default-inside.not-Nothing ∙ ap (λ x. mode (depth p) (inside_by (braces p) x false)) (sym c.has_colon-seen.ensures) in
    (omega arith, omega arith, in_mode e (wrote (goal.at.loop-kind-preserved-in-Lexeme c).After-slice_known-in-Lexeme-4-1))

pub overflow_add-at-in-Space : goal.overflow_add-at-in-Space
overflow_add-at-in-Space c = let p = (goal.at.overflow_add-at-in-Space c).After-inner_step in omega (arith, space_further (stand p) (stepped p c.in-Space.is), (start p).args.self.now.limited)

pub loop-kind-smaller-in-Space : goal.loop-kind-smaller-in-Space
loop-kind-smaller-in-Space c = let p = (goal.at.loop-kind-smaller-in-Space c).After-inner_step in omega (arith, space_further (stand p) (stepped p c.in-Space.is))

pub loop-kind-preserved-in-Space : goal.loop-kind-preserved-in-Space
loop-kind-preserved-in-Space c =
    let p = (goal.at.loop-kind-preserved-in-Space c).After-inner_step in
    let e = c.in-Space.is in
    let v = p.loop-kind.invariant in
    (omega arith, omega arith, in_mode (leads_to p e ∙ ap (mode (depth p)) (passed (braces p) p.loop-kind.seen p.loop-kind.fresh)) (turn_space (stand p) (stepped p e)))

pub overflow_add-at-in-Comment : goal.overflow_add-at-in-Comment
overflow_add-at-in-Comment c = let p = (goal.at.overflow_add-at-in-Comment c).After-inner_step in omega (arith, comment_further (stand p) (stepped p c.in-Comment.is), (start p).args.self.now.limited)

pub loop-kind-smaller : goal.loop-kind-smaller
loop-kind-smaller c = let p = (goal.at.loop-kind-smaller c).After-inner_step in omega (arith, comment_further (stand p) (stepped p c.in-Comment.is))

pub loop-kind-preserved : goal.loop-kind-preserved
loop-kind-preserved c =
    let p = (goal.at.loop-kind-preserved c).After-inner_step in
    let e = stepped p c.in-Comment.is in
    let v = p.loop-kind.invariant in
    let g = comment_further (stand p) e in
    (omega arith, omega arith, turn_comment (stand p) e)

pub overflow_add-at-in-Refused : goal.overflow_add-at-in-Refused
overflow_add-at-in-Refused c = let p = (goal.at.overflow_add-at-in-Refused c).After-inner_step in omega (arith, refused_within (stand p) (stepped p c.in-Refused.is), (start p).args.self.now.limited)

pub returns-in-Refused : goal.returns-in-Refused
returns-in-Refused c = let p = (goal.at.returns-in-Refused c).After-inner_step in rw c.refused_by.ensures record { reached = tt; leads = begins p (turn_refused (stand p) (stepped p c.in-Refused.is)) }

pub returns-in-Finished : goal.returns-in-Finished
returns-in-Finished c = let p = (goal.at.returns-in-Finished c).After-inner_step in let l = p.loop-kind in absurd (never (braces p) l.seen l.fresh (leads_to p c.in-Finished.is))
