-- 02, E14, computed: a program in a name gives one image in that name, whichever it is from 9 on. Of a definition in which a name steers the row is
-- false; that none does is proved of every tree, in the crate `names`.
use Prim.Native.Nat.{ℕ}
use mathlib.Core.Path.{◌≡◌, refl}
use mathlib.Core.List.{List, [], ◌∷◌, ◌++◌, map}
use Rattle.meaning.specs.Image.{word, field}
use Rattle.meaning.specs.Answer.{Finished, imaged, finished}
use Rattle.meaning.proofs.Computing.{computing}

-- a field of words
abbrev words : List ℕ → List ℕ
words [] = []
words (w ∷ ws) = word w ++ words ws

abbrev node : (tag : ℕ) → List ℕ → List ℕ
node tag ws = field tag (words ws)

-- an instruction
abbrev step : (op a b c mark : ℕ) → List ℕ
step op a b c mark = field 0x43 (op ∷ a ∷ b ∷ c ∷ word mark)

abbrev bytes : List (List ℕ) → List ℕ
bytes [] = []
bytes (f ∷ fs) = f ++ bytes fs

-- the first name that is no builtin, the last that a program may have, and one between them
abbrev given : List ℕ
given = 9 ∷ 300 ∷ 65534 ∷ []

-- what is answered, and what is due
abbrev told : (tree : ℕ → List (List ℕ)) → List Finished
told tree = map (λ a. finished 0 (bytes (tree a)) 20000 200) given

abbrev due : (image : ℕ → List (List ℕ)) → List Finished
due image = map (λ a. imaged (bytes (image a))) given

-- fn a() {}  a: what is declared is read as a global, and as no builtin
global_alike : told (λ a. node 0x1C (a ∷ 1 ∷ 0 ∷ []) ∷ node 0x04 (a ∷ 5 ∷ []) ∷ node 0x10 (1 ∷ []) ∷ node 0x1E (0 ∷ 2 ∷ []) ∷ [])
    ≡ due (λ a.
    node 0x41 (a ∷ 0 ∷ 1 ∷ 0 ∷ 2 ∷ [])
    ∷ step 0x2E 0 0 0 1
    ∷ step 0x14 0 0 0 65535
    ∷ node 0x41 (65535 ∷ 0 ∷ 2 ∷ 0 ∷ 4 ∷ [])
    ∷ step 0x17 0 0 0 1
    ∷ step 0x2D 0 0 0 1
    ∷ step 0x2C 1 0 1 5
    ∷ step 0x14 0 0 0 65535
    ∷ node 0x45 (a ∷ [])
    ∷ node 0x45 (a ∷ [])
    ∷ [])
unfolding computing
global_alike = refl
