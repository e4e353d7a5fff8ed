-- The facts that tests give, as the equations of the flags that a definition by cases asks for.
use borrow.Author.Tests.{eq-eqb, ne_eqb, le-leb, lt-leb, lt-ltb, le-ltb}

pub ruleset ways = (eq-eqb, ne_eqb, le-leb, lt-leb, lt-ltb, le-ltb)
