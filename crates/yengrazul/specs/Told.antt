-- What a caller from C is told.
use Rattle.std.specs.Prelude.{ℕ, List, [], ◌∷◌}
use Rattle.meaning.specs.declared.Answer.{Answer}
use Rattle.meaning.specs.declared.MendAnswer.{MendAnswer}
use Rattle.meaning.specs.declared.Reply.{Reply}
use Rattle.meaning.specs.declared.WalkAnswer.{WalkAnswer}

-- an answer as the numbers that a caller lends room for; a call with room for two tells the first two
abbrev pub told : Answer → List ℕ
told a = a.number ∷ a.place ∷ a.length ∷ []

-- the same of a lowering, whose answer has the visits too
abbrev pub told_reply : Reply → List ℕ
told_reply a = a.number ∷ a.place ∷ a.length ∷ a.visits ∷ []

-- of a walk
abbrev pub walk_told : WalkAnswer → List ℕ
walk_told a = a.number ∷ a.place ∷ a.steps ∷ a.index ∷ a.ending ∷ []

-- of who mends an image: the entries in the list too
abbrev pub mend_told : MendAnswer → List ℕ
mend_told a = a.number ∷ a.place ∷ a.length ∷ a.entries ∷ []
