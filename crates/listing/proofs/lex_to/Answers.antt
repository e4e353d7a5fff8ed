-- The arms are those of the definition. The first entries of the four lists are the lexemes (`lists_hold`), and a refusal is short.
use Rattle.utf8.specs.declared.Refusal.{Refusal}
use Rattle.std.specs.Prelude.{Result, ℕ}
use Rattle.listing.proofs.Puts.{puts}
use Rattle.listing.proofs.Few.{refused_few}
use Rattle.listing.proofs.Lexemes.{lists_hold}
use Rattle.listing.specs.Listing.{most_lexemes, printed_by, refusal}
use Rattle.utf8.specs.declared.Reading.TheVariants.{Crate}
use Rattle.lex.specs.Lex.{lexed, shortest}
use lib.ListN.{length}
use mathlib.Core.Path.{◌≡◌, sym, ap, ◌∙◌}
use native.Mathlib.Omega.{arith}
use Rattle.listing.proofs.lex_to.Goals as goal
use Rattle.listing.proofs.lex_to.Goals.{After-lexer, In-Ok, Start}

-- the four lists are as long as there may be lexemes, which is their room
answered : (c : After-lexer) {x : Result ℕ Refusal} → c.lexer.result ≡ x → lexed Crate most_lexemes c.args.query.now ≡ x
answered c e =
    let a = c.args in
    let h = c.requires.kinds_len in
    let same : most_lexemes ≡ shortest (length a.kinds.now) (length a.starts.now) (length a.lengths.now) (length a.depths.now) = omega (arith, h) in
    ap (λ room. lexed Crate room a.query.now) same ∙ sym c.lexer.ensures.value ∙ e

pub returns-in-Ok : goal.returns-in-Ok
unfolding printed_by
returns-in-Ok c =
    let a = c.args in
    let p = c.lexer.ensures in
    let held = lists_hold a.query.now a.kinds.now a.starts.now a.lengths.now a.depths.now (p.value, (p.kinds_after, (p.starts_after, (p.lengths_after, p.depths_after)))) c.in-Ok.is in
    rw (answered (goal.at.returns-in-Ok c).After-lexer c.in-Ok.is, ← held) c.put_lexemes.ensures

pub returns-in-Err : goal.returns-in-Err
unfolding printed_by
returns-in-Err c =
    let d = c.in-Err in
    let start = (goal.at.returns-in-Err c).Start in
    let e = answered (goal.at.returns-in-Err c).After-lexer d.is in
    rw e (puts _ 0 (refusal d.refusal) c.put_refusal.ensures.value c.put_refusal.ensures.out_after (omega (arith, start.requires, refused_few most_lexemes start.args.query.now d.refusal e)))
