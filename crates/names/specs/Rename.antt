-- 02, E14, "Names must not steer a test": "change every name by a one-to-one rule that keeps names 0 to 8 and 65,535".
use Prim.Native.Nat.{ℕ, ◌+◌, ◌*◌, ◌<◌, ◌≤◌}
use mathlib.Core.Path.{◌≡◌}
use mathlib.Core.Bool.{Bool, ◌||◌, cond}
use mathlib.Core.List.{List, [], ◌∷◌, ◌++◌, map}
use lib.ListN.{drop}
use lib.Dec.{eqb, ltb}
use Rattle.meaning.specs.Fields.{Field, word_at, fields, left}
use Rattle.meaning.specs.Grammar.{Item, one, name, items_of, spread, kind_of, due_after, wide_marks}
use Rattle.meaning.specs.Image.{word, field}
use Rattle.meaning.specs.Answer.{Finished, imaged, stopped}

-- names 0 to 8 and 65,535 stay, and a word becomes a word
pub record Kept (f : ℕ → ℕ) : Type 0 where
  pub builtin : (n : ℕ) → n ≤ 8 → f n ≡ n
  pub empty : f 65535 ≡ 65535
  pub within : (n : ℕ) → n < 65536 → f n < 65536

-- a rule
pub record Rule (f : ℕ → ℕ) : Type 0 where
  pub one_to_one : (m n : ℕ) → f m ≡ f n → m ≡ n
  pub kept : Kept f

-- a rule that is one-to-one on words alone
pub record WordRule (f : ℕ → ℕ) : Type 0 where
  pub one_to_one : (m n : ℕ) → m < 65536 → n < 65536 → f m ≡ f n → m ≡ n
  pub kept : Kept f

-- it, with what is no word as it was
abbrev pub extended : (ℕ → ℕ) → ℕ → ℕ
extended f n = cond (ltb n 65536) (f n) n

-- two names exchanged
abbrev pub exchanged : (a b : ℕ) → ℕ → ℕ
exchanged a b n = cond (eqb n a) b (cond (eqb n b) a n)

-- where names stand: at the kind `name` of the grammar, and in a text, tag 02
unfoldable pub naming_of : (tag : ℕ) → List Item
naming_of tag = cond (eqb tag 0x02) (one name ∷ []) (items_of tag)

-- a word of a kind, in two bytes: a name is changed, every other word stays
unfoldable pub renamed_word : (f : ℕ → ℕ) → (kind a b : ℕ) → List ℕ
renamed_word f kind a b = cond (eqb kind name) (word (f (a * 256 + b))) (a ∷ b ∷ [])

-- a payload, word by word
unfoldable pub renamed_payload : (f : ℕ → ℕ) → List Item → List ℕ → List ℕ
renamed_payload f is [] = []
renamed_payload f is (a ∷ []) = a ∷ []
renamed_payload f is (a ∷ b ∷ p) = renamed_word f (kind_of is) a b ++ renamed_payload f (due_after is (a * 256 + b)) p

-- a node, in words of a file whose marks have two bytes or four
unfoldable pub renamed_field : (f : ℕ → ℕ) (wide : Bool) → Field → Field
renamed_field f wide x = record { tag = x.tag; payload = renamed_payload f (spread wide (naming_of x.tag)) x.payload }

-- fields one after the other
unfoldable pub bytes_by : List Field → List ℕ
bytes_by [] = []
bytes_by (x ∷ xs) = field x.tag x.payload ++ bytes_by xs

-- a tree file: its fields, and what stands after them
unfoldable pub renamed : (f : ℕ → ℕ) → List ℕ → List ℕ
renamed f tree = bytes_by (map (renamed_field f (wide_marks (fields tree))) (fields tree)) ++ left tree

-- "the rule applied to prototype names and text constants": tags 41 and 45
unfoldable pub renamed_part : (f : ℕ → ℕ) → Field → Field
renamed_part f x = cond (eqb x.tag 0x41 || eqb x.tag 0x45) (record { tag = x.tag; payload = word (f (word_at x.payload 0)) ++ drop 2 x.payload }) x

-- an image file
unfoldable pub renamed_image : (f : ℕ → ℕ) → List ℕ → List ℕ
renamed_image f image = bytes_by (map (renamed_part f) (fields image))

-- what a lowering ends with: "an accepted tree gives the same image with the rule applied .., and a refused one the same number and place"
unfoldable pub renamed_finished : (f : ℕ → ℕ) → Finished → Finished
renamed_finished f (imaged bytes) = imaged (renamed_image f bytes)
renamed_finished f (stopped c place) = stopped c place
