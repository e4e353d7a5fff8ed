-- The table of powers of ten: entry k is 5 ^ k * 2 ^ k, by one test that antt computes over the whole table.
use mathlib.Core.Path.{◌≡◌, ap₂}
use mathlib.Core.Bool.{Bool, true, false, ◌&&◌}
use mathlib.Core.List.{List, [], ◌∷◌}
use Prim.Native.Nat.{ℕ, ◌^◌, ◌<◌}
use lib.Dec.{T, eqb, eqb→eq}
use lib.IntN.{pos, negsuc}
use lib.ListN.{get_or}
use lib.Ieee.{Float, nan, inf, fin, binary64, of_bits}
use lib.Ieee.Fits.{and_l, and_r}
use Rattle.decimal.proofs.Table.{at}

-- x is 5 ^ k * 2 ^ k, written with the odd 5 ^ k
unfoldable pub is_ten : ℕ → Float → Bool
is_ten k nan = false
is_ten k (inf s) = false
is_ten k (fin true m e) = false
is_ten k (fin false m (pos e)) = eqb m (5 ^ k) && eqb e k
is_ten k (fin false m (negsuc e)) = false

pub is_ten_is : (k : ℕ) (x : Float) → T (is_ten k x) → x ≡ fin false (5 ^ k) (pos k)
unfolding is_ten
is_ten_is k nan t = absurd t
is_ten_is k (inf s) t = absurd t
is_ten_is k (fin true m e) t = absurd t
is_ten_is k (fin false m (negsuc e)) t = absurd t
is_ten_is k (fin false m (pos e)) t =
    ap₂ (λ (a b : ℕ). fin false a (pos b)) (eqb→eq m (5 ^ k) (and_l (eqb m (5 ^ k)) (eqb e k) t)) (eqb→eq e k (and_r (eqb m (5 ^ k)) (eqb e k) t))

abbrev b : ℕ → Float
b = of_bits binary64

-- the entries by their bit patterns, as MIR has them
abbrev pub powers : List Float
powers =
    b 4607182418800017408 ∷ b 4621819117588971520 ∷ b 4636737291354636288 ∷ b 4652007308841189376 ∷ b 4666723172467343360 ∷ b 4681608360884174848 ∷ b 4696837146684686336 ∷ b 4711630319722168320 ∷ b 4726483295884279808 ∷ b 4741671816366391296 ∷ b 4756540486875873280 ∷ b 4771362005757984768 ∷ b 4786511204640096256 ∷ b 4801453603149578240 ∷ b 4816244402031689728 ∷ b 4831355200913801216 ∷ b 4846369599423283200 ∷ b 4861130398305394688 ∷ b 4876203697187506176 ∷ b 4891288408196988160 ∷ b 4906019910204099648 ∷ b 4921056587992461136 ∷ b 4936209963552724370 ∷ []

pub power_at : (k : ℕ) → k < 23 → get_or powers k nan ≡ fin false (5 ^ k) (pos k)
unfolding is_ten of_bits
power_at k h = is_ten_is k (get_or powers k nan) (at is_ten powers nan tt k h)
