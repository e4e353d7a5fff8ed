-- What it is for a promise to pin a thing: any two ways to keep the promise, on the same arguments, agree on it; and, at an input
-- that is named, what it pins. A crate's files `Unique` and `Wrong` state these of each public function, over the promise itself as
-- the check reads it: a program that answers otherwise at such an input cannot be proved.
use Prim.Native.Nat.{ℕ}
use mathlib.Core.List.{List}
use mathlib.Core.Path.{◌≡◌}
use contract.Lifetimes.{Lfts}
use borrow.Fn.Kinds.{ParamKind, ResultKind, Out, Dens, res_t, ended_of}
use denote.Triple.Clauses.{AtExit}

-- the promise allows one answer
abbrev pub OneAnswer : {n : ℕ} (ps : List (ParamKind n)) (r : ResultKind n) → Out n ps r → Type 0
OneAnswer {n} ps r Post =
    (κs : Lfts n) (a : Dens κs ps) (x y : (res_t r κs).Denot) (e f : AtExit (ended_of n ps r) κs) →
    Post κs a x e →
    Post κs a y f →
    x ≡ y

-- and one content of what `lent` reads off the arguments as the function leaves them
abbrev pub OneContent : {A : Type 0} {n : ℕ} (ps : List (ParamKind n)) (r : ResultKind n) → Out n ps r → ((κs : Lfts n) → AtExit (ended_of n ps r) κs → A) → Type 0
OneContent {n = n} ps r Post lent =
    (κs : Lfts n) (a : Dens κs ps) (x y : (res_t r κs).Denot) (e f : AtExit (ended_of n ps r) κs) →
    Post κs a x e →
    Post κs a y f →
    lent κs e ≡ lent κs f

-- and one content of what `shown` reads off a returned part
abbrev pub OnePart : {A : Type 0} {n : ℕ} (ps : List (ParamKind n)) (r : ResultKind n) → Out n ps r → ((κs : Lfts n) → (res_t r κs).Denot → A) → Type 0
OnePart {n = n} ps r Post shown =
    (κs : Lfts n) (a : Dens κs ps) (x y : (res_t r κs).Denot) (e f : AtExit (ended_of n ps r) κs) →
    Post κs a x e →
    Post κs a y f →
    shown κs x ≡ shown κs y

-- the answer that the promise allows where `given` holds of the arguments
abbrev pub Answers : {n : ℕ} (ps : List (ParamKind n)) (r : ResultKind n) → Out n ps r → ((κs : Lfts n) → Dens κs ps → Type 0) → ((κs : Lfts n) → (res_t r κs).Denot) → Type 0
Answers {n} ps r Post given v =
    (κs : Lfts n) (a : Dens κs ps) (x : (res_t r κs).Denot) (e : AtExit (ended_of n ps r) κs) →
    Post κs a x e →
    given κs a →
    x ≡ v κs

-- and the content of what `lent` reads off the arguments as the function leaves them
abbrev pub Leaves : {A : Type 0} {n : ℕ} (ps : List (ParamKind n)) (r : ResultKind n) → Out n ps r → ((κs : Lfts n) → Dens κs ps → Type 0) → ((κs : Lfts n) → AtExit (ended_of n ps r) κs → A) → A → Type 0
Leaves {n = n} ps r Post given lent v =
    (κs : Lfts n) (a : Dens κs ps) (x : (res_t r κs).Denot) (e : AtExit (ended_of n ps r) κs) →
    Post κs a x e →
    given κs a →
    lent κs e ≡ v

-- and the content of what `shown` reads off a returned part
abbrev pub Shows : {A : Type 0} {n : ℕ} (ps : List (ParamKind n)) (r : ResultKind n) → Out n ps r → ((κs : Lfts n) → Dens κs ps → Type 0) → ((κs : Lfts n) → (res_t r κs).Denot → A) → A → Type 0
Shows {n = n} ps r Post given shown v =
    (κs : Lfts n) (a : Dens κs ps) (x : (res_t r κs).Denot) (e : AtExit (ended_of n ps r) κs) →
    Post κs a x e →
    given κs a →
    shown κs x ≡ v
