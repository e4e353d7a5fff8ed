-- A unit of whole days goes into milliseconds without rest just where it goes so into their days and nothing is under a day.
use Prim.Native.Nat.{ℕ, ◌+◌, ◌-◌, ◌*◌, ◌/◌, ◌%◌, ◌<◌}
use native.Mathlib.Nat.{div-add-mod', mod-eq-sub-div-mul, mul_assoc, mul-div_left, mul-mod_left}
use native.Mathlib.Omega.{arith}
use mathlib.Core.Bool.{Bool, true, false, cond, not}
use mathlib.Core.List.{List, [], ◌∷◌, ◌++◌}
use mathlib.Core.Path.{◌≡◌, ap, sym, ◌∙◌}
use lib.Dec.{eqb, ltb}
use lib.ListN.{drop}
use borrow.Author.Tests.{eq-eqb, ne_eqb}
use Rattle.scan.specs.Ascii.{ascii}
use Rattle.duration.specs.Unit.{Unit, units, milli, second, minute, hour, day}
use Rattle.duration.specs.Display.{count_text, part_text, rest_of, written}
use Rattle.duration.specs.steps.Display.{whole_of}

module _ (days rest k : ℕ) (some : 0 < k) (under : rest < day) where
  abbrev ms : ℕ
  ms = days * day + rest

  pub whole_some : rest ≡ 0 → days % k ≡ 0 → days / k ≡ whole_of (k * day) ms
  whole_some r d =
      let q = days / k in
      let is : ms ≡ q * (k * day) = omega (arith, div-add-mod' days k, mul_assoc q k day) in
      rw (is, eq-eqb (q * (k * day) % (k * day)) 0 (mul-mod_left q (k * day))) (sym (mul-div_left q (omega arith)))

  pub whole_none : (rest ≡ 0 → days % k ≡ 0 → ⊥) → 0 ≡ whole_of (k * day) ms
  whole_none other =
      let q = ms / (k * day) in
      rw (ne_eqb (ms % (k * day)) 0 (λ e.
      let is : ms ≡ q * k * day = omega (arith, div-add-mod' ms (k * day), mul_assoc q k day) in
      let d : days ≡ q * k = omega arith in
      other (omega arith) (ap (λ (n : ℕ). n % k) d ∙ mul-mod_left q k)))

-- what a unit that is written only where nothing remains writes, and what it leaves
pub whole_unit : (u : Unit) (us : List Unit) (ms : ℕ) {n : ℕ} → ltb day u.size ≡ true → n ≡ whole_of u.size ms → written (u ∷ us) ms ≡ count_text n u.text ++ written us (ms - n * u.size)
unfolding part_text rest_of count_text
whole_unit u us ms l e = rw (l, e) (go (eqb (ms % u.size) 0))
  where
    go : (b : Bool) → cond (not b) [] (count_text (ms / u.size) u.text) ++ written us (cond (not b) ms (ms % u.size))
        ≡ count_text (cond b (ms / u.size) 0) u.text ++ written us (ms - cond b (ms / u.size) 0 * u.size)
    go true = rw (mod-eq-sub-div-mul ms u.size)
    go false = ap (written us) (omega arith)

in_minutes : (n : ℕ) → n % hour % minute ≡ n % minute
in_minutes n = omega arith

in_seconds : (n : ℕ) → n % minute % second / milli ≡ n % second
in_seconds n = omega arith

-- what days and the rest write below years and weeks
pub below_weeks : (days rest : ℕ) → rest < day
    → written (drop 2 units) (days * day + rest)
    ≡ count_text days (ascii "d") ++ (count_text (rest / hour) (ascii "h") ++ (count_text (rest % hour / minute) (ascii "m") ++ (count_text (rest % minute / second) (ascii "s") ++ (count_text (rest % second) (ascii "ms") ++ []))))
unfolding part_text rest_of
below_weeks days rest h =
    let ms = days * day + rest in
    let d : ms / day ≡ days = omega arith in
    let r : ms % day ≡ rest = omega arith in
    rw (d, r, in_minutes rest, in_seconds rest)
