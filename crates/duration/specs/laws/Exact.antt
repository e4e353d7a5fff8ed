-- Document 02, L13, as statements: how the exact reading stands to the present one, and that what is written reads back in both. `proofs/Exact`,
-- `proofs/Back` and, for the bound, `proofs/Wrong` have the proofs.
use Rattle.std.specs.Prelude.{ℕ, ◌+◌, ◌*◌, ◌/◌, ◌%◌, ◌<◌, ◌≤◌, false, List, ◌↔◌, ◌≡◌, Err, Ok}
use Rattle.scan.specs.Ascii.{ascii}
use Rattle.duration.specs.declared.span.Duration.{Duration}
use Rattle.duration.specs.declared.Oversized.{Oversized}
use Rattle.duration.specs.Unit.{units, second, day, nanos_a_milli, nanos_a_second}
use Rattle.duration.specs.Spans.{is_zero}
use Rattle.duration.specs.Units.{sum_by, most_counted, unit_sum, lasting}
use Rattle.duration.specs.Duration.{zero_duration, oversized_part, timing_by, timing_of, exact_timing_of}
use Rattle.duration.specs.Display.{duration_text}
use Rattle.duration.specs.laws.Refusals.{Read, UnitText}

-- where the exact reading accepts, both agree; and so they do but for 55
abbrev pub ExactAgrees : Type 0
ExactAgrees = (xs : List ℕ) (d : Duration) → exact_timing_of xs ≡ Ok d → timing_of xs ≡ Ok d

abbrev pub ExactElse : Type 0
ExactElse = (xs : List ℕ) → (¬ (exact_timing_of xs ≡ Err oversized_part)) → exact_timing_of xs ≡ timing_of xs

-- 55 is given exactly where the present reading counts a part as nothing: where the parts amount to more, each counted for what it is
abbrev pub CountsNothing : List ℕ → Type 0
CountsNothing xs = unit_sum xs < sum_by (λ v. v) units xs

abbrev pub ExactRefuses : Type 0
ExactRefuses = (xs : List ℕ) → exact_timing_of xs ≡ Err oversized_part ↔ Read xs × UnitText xs × CountsNothing xs

-- and what the exact reading accepts lasts what its parts amount to, each counted for what it is
abbrev pub AllCounted : Type 0
AllCounted = (xs : List ℕ) (d : Duration) → UnitText xs → exact_timing_of xs ≡ Ok d → d ≡ lasting (sum_by (λ v. v) units xs)

-- "a duration of whole milliseconds, above zero and with at most 4,294,967,295 whole days", whose nanoseconds are in range, so that 54 is not given
pub record Recoverable (d : Duration) : Type 0 where
  pub in_range : d.nanos < nanos_a_second
  pub whole : d.nanos % nanos_a_milli ≡ 0
  pub some : is_zero d ≡ false
  pub few_days : d.secs / (day / second) ≤ most_counted

-- "is recovered from what the writer gives", in both readings
abbrev pub ReadsAgain : Type 0
ReadsAgain = (o : Oversized) (d : Duration) → Recoverable d → timing_by o (duration_text d) ≡ Ok d

-- one day more than the bound is written, and not recovered: its part counts as nothing, or is refused
abbrev pub past_bound : Duration
past_bound = record { secs = (most_counted + 1) * (day / second); nanos = 0 }

abbrev pub PastBound : Type 0
PastBound =
    (duration_text past_bound ≡ ascii "4294967296d")
    × (timing_of (ascii "4294967296d") ≡ Err zero_duration)
    × (exact_timing_of (ascii "4294967296d") ≡ Err oversized_part)
