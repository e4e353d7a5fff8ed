-- What an accepted call of `lexer` leaves in its lists accounts for its query: they are the query's lexemes (`leaves`).
use mathlib.Core.Path.{sym, subst}
use Rattle.calls.proofs.Calls.{counted, leaves}
use Rattle.pieces.specs.laws.Pieces.{Accounted, CallAccounted}
use Rattle.pieces.proofs.Accounted.{query_accounted}

pub call_accounted : CallAccounted
call_accounted r q c n e = subst (Accounted r q) (sym (leaves r q c n e)) (query_accounted r q n (counted r q c n e).0)
