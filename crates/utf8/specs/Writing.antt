-- Writing a text to a lent buffer, of whatever crate the text is: what is answered, and what the buffer holds then. Document 01, "Text is
-- written from its buffer's start; the rest stays", and 3, "result needs more room".
use Rattle.std.specs.Prelude.{ℕ, cond, List, ◌++◌, leb, length, take, drop, Err, Ok, Result}
use Rattle.utf8.specs.declared.Refusal.{Refusal}
use Rattle.utf8.specs.Answers.{no_room}

-- 3, or the length
abbrev pub fitted : ℕ → List ℕ → Result ℕ Refusal
fitted room text = cond (leb (length text) room) (Ok (length text)) (Err no_room)

-- what the buffer holds then
abbrev pub left_by : Result ℕ Refusal → List ℕ → List ℕ → List ℕ
left_by (Ok n) text d = text ++ drop n d
left_by (Err r) text d = d

-- and where the text is written at an offset: what stands before it, and then the same
abbrev pub left_at : ℕ → Result ℕ Refusal → List ℕ → List ℕ → List ℕ
left_at at w text d = take at d ++ left_by w text (drop at d)
