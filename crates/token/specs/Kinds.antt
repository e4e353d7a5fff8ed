-- The kinds of lexemes, each once: document 01, "Kinds", in its order, under the Rust's names without their `T_`; where such a name is taken here, or
-- says nothing by itself, it is longer: `eof_kind`, `modulo`, `at_sign`, `count_kind`, `end_kind`.
use Rattle.std.specs.Prelude.{ℕ}

-- "EOF 0, IDENTIFIER 1, METRIC_IDENTIFIER 2, STRING 3, NUMBER 4, DURATION 5, .."
abbrev pub eof_kind : ℕ
eof_kind = 0

abbrev pub identifier : ℕ
identifier = 1

abbrev pub metric_identifier : ℕ
metric_identifier = 2

abbrev pub string : ℕ
string = 3

abbrev pub number : ℕ
number = 4

abbrev pub duration : ℕ
duration = 5

-- ".. `(` 6, `)` 7, `{` 8, `}` 9, `[` 10, `]` 11, `,` 12, `:` 13, `=` 14; .."
abbrev pub left_paren : ℕ
left_paren = 6

abbrev pub right_paren : ℕ
right_paren = 7

abbrev pub left_brace : ℕ
left_brace = 8

abbrev pub right_brace : ℕ
right_brace = 9

abbrev pub left_bracket : ℕ
left_bracket = 10

abbrev pub right_bracket : ℕ
right_bracket = 11

abbrev pub comma : ℕ
comma = 12

abbrev pub colon : ℕ
colon = 13

abbrev pub eql : ℕ
eql = 14

-- ".. `+ - * / % ^ == != <= < >= > =~ !~ @` 20 to 34; .."
abbrev pub add : ℕ
add = 20

abbrev pub sub : ℕ
sub = 21

abbrev pub mul : ℕ
mul = 22

abbrev pub div : ℕ
div = 23

abbrev pub modulo : ℕ
modulo = 24

abbrev pub pow : ℕ
pow = 25

abbrev pub eqlc : ℕ
eqlc = 26

abbrev pub neq : ℕ
neq = 27

abbrev pub lte : ℕ
lte = 28

abbrev pub lss : ℕ
lss = 29

abbrev pub gte : ℕ
gte = 30

abbrev pub gtr : ℕ
gtr = 31

abbrev pub eql_regex : ℕ
eql_regex = 32

abbrev pub neq_regex : ℕ
neq_regex = 33

abbrev pub at_sign : ℕ
at_sign = 34

-- ".. and, or, unless, atan2 35 to 38."
abbrev pub land : ℕ
land = 35

abbrev pub lor : ℕ
lor = 36

abbrev pub lunless : ℕ
lunless = 37

abbrev pub atan2 : ℕ
atan2 = 38

-- ".. sum to limit_ratio 40 to 53, .."
abbrev pub sum : ℕ
sum = 40

abbrev pub avg : ℕ
avg = 41

abbrev pub count_kind : ℕ
count_kind = 42

abbrev pub min : ℕ
min = 43

abbrev pub max : ℕ
max = 44

abbrev pub group : ℕ
group = 45

abbrev pub stddev : ℕ
stddev = 46

abbrev pub stdvar : ℕ
stdvar = 47

abbrev pub topk : ℕ
topk = 48

abbrev pub bottomk : ℕ
bottomk = 49

abbrev pub count_values : ℕ
count_values = 50

abbrev pub quantile : ℕ
quantile = 51

abbrev pub limitk : ℕ
limitk = 52

abbrev pub limit_ratio : ℕ
limit_ratio = 53

-- ".. offset to fill_right 60 to 72, .."
abbrev pub offset : ℕ
offset = 60

abbrev pub by : ℕ
by = 61

abbrev pub without : ℕ
without = 62

abbrev pub on : ℕ
on = 63

abbrev pub ignoring : ℕ
ignoring = 64

abbrev pub group_left : ℕ
group_left = 65

abbrev pub group_right : ℕ
group_right = 66

abbrev pub bool : ℕ
bool = 67

abbrev pub smoothed : ℕ
smoothed = 68

abbrev pub anchored : ℕ
anchored = 69

abbrev pub fill : ℕ
fill = 70

abbrev pub fill_left : ℕ
fill_left = 71

abbrev pub fill_right : ℕ
fill_right = 72

-- ".. start 80, end 81; .."
abbrev pub start : ℕ
start = 80

abbrev pub end_kind : ℕ
end_kind = 81
