-- What stands at a node: its tag and words, the syntax tree that unfolds from it, and the rows of its payload. The lowering's contracts cite
-- these; `Read.antt` says what they are.
use Rattle.std.specs.Prelude.{ℕ, zero, suc, ◌+◌, ◌*◌, ◌<◌, ◌≤◌, ◌≡◌, Bool, cond, List, [], ◌∷◌, length}
use Rattle.std.proofs.Math.Seq.{slice}
use Rattle.meaning.specs.Fields.{Field, field_at, words}
use Rattle.meaning.specs.Grammar.{wide_marks, short_mark}
use Rattle.meaning.specs.declared.Token.{Token}
use Rattle.meaning.specs.Syntax.{Expr, Exprs, Stmt, Stmts, Elifs, Fun, Funs, Super}
use Rattle.meaning.specs.Read.{Readers, readers, at, words_at, token, tokens, exprs, stmts, funs, elifs, initializer, superclass}

-- ---- a node's tag, its words, and how many they are

-- the tag of node i, 0 where there is no such node
abbrev pub tag_of : List Field → (node : ℕ) → ℕ
tag_of fs i = (field_at fs i).tag

-- word k of its payload, from 0 on
abbrev pub word_of : List Field → (node k : ℕ) → ℕ
word_of fs i k = at (words_at fs i) k

-- how many words its payload has
abbrev pub count_of : List Field → (node : ℕ) → ℕ
count_of fs i = length (words_at fs i)

-- E5: the words of its payload as they stand in the file, where a wide mark takes two
abbrev pub file_words : List Field → (node : ℕ) → List ℕ
file_words fs i = words (field_at fs i).payload

-- the mark at word p of the words of a file, two bytes or four
abbrev pub mark_at : (wide : Bool) → List ℕ → (p : ℕ) → ℕ
mark_at wide vs p = cond wide (at vs p * 65536 + at vs (p + 1)) (short_mark (at vs p))

-- the words of the file that a wide mark takes more than another
abbrev pub extra : (wide : Bool) → ℕ
extra wide = cond wide 1 0

-- the words of the file that a mark takes
abbrev pub mark_words : (wide : Bool) → ℕ
mark_words wide = 1 + extra wide

-- from word k on the words of node i stand d places further in the file
pub record Behind (fs : List Field) (i k d : ℕ) : Type 0 where
  pub same : (j : ℕ) → k ≤ j → word_of fs i j ≡ at (file_words fs i) (j + d)
  pub size : length (file_words fs i) ≡ count_of fs i + d

-- the words of the file before pair k
abbrev pub pair_place : (wide : Bool) → (k : ℕ) → ℕ
pair_place wide k = 2 * k + cond wide k 0

-- n pairs n m from word p of the file's words on
abbrev pub pairs_in : (wide : Bool) → List ℕ → (p n : ℕ) → List Token
pairs_in wide vs p zero = []
pairs_in wide vs p (suc n) = token (at vs p) (mark_at wide vs (p + 1)) ∷ pairs_in wide vs (p + 1 + mark_words wide) n

-- the first four words of node i by the words of the file, where word m is a mark, and no other; 4 where none is
pub record Heads (fs : List Field) (i m : ℕ) : Type 0 where
  pub before : (k : ℕ) → k < m → k ≤ 3 → word_of fs i k ≡ at (file_words fs i) k
  pub mark : m ≤ 3 → word_of fs i m ≡ mark_at (wide_marks fs) (file_words fs i) m
  pub after : (k : ℕ) → m < k → k ≤ 3 → word_of fs i k ≡ at (file_words fs i) (k + extra (wide_marks fs))

-- ---- the syntax tree at a node, by the node's role; children stand below their node, so its number and one more is fuel enough

-- node i as an expression
unfoldable pub expr_at : List Field → ℕ → Expr
expr_at fs i = (readers fs (suc i)).expr i

-- node i as a statement
unfoldable pub stmt_at : List Field → ℕ → Stmt
stmt_at fs i = (readers fs (suc i)).stmt i

-- node i as a function statement, which a class's method is too
unfoldable pub fun_at : List Field → ℕ → Fun
fun_at fs i = (readers fs (suc i)).fun i

-- node i, a variable, as a superclass
unfoldable pub variable_at : List Field → ℕ → Super
variable_at fs i = (readers fs (suc i)).variable i

-- node i as an elif, before the elifs `es`
unfoldable pub elif_at : List Field → ℕ → Elifs → Elifs
elif_at fs i es = (readers fs (suc i)).elif i es

-- these five, as what reads a row of children takes them
abbrev pub readers_at : List Field → Readers
readers_at fs = record { expr = expr_at fs; stmt = stmt_at fs; fun = fun_at fs; variable = variable_at fs; elif = elif_at fs }

-- ---- the children, and the pairs, in the words `from` up to `to` of a node

-- expressions: the arguments of a call
unfoldable pub exprs_at : List Field → (node from to : ℕ) → Exprs
exprs_at fs i from to = exprs (readers_at fs) (slice from to (words_at fs i))

-- statements: of a block, a branch, a function's body, the program
unfoldable pub stmts_at : List Field → (node from to : ℕ) → Stmts
stmts_at fs i from to = stmts (readers_at fs) (slice from to (words_at fs i))

-- function statements: the methods of a class
unfoldable pub funs_at : List Field → (node from to : ℕ) → Funs
funs_at fs i from to = funs (readers_at fs) (slice from to (words_at fs i))

-- the elifs of an if
unfoldable pub elifs_at : List Field → (node from to : ℕ) → Elifs
elifs_at fs i from to = elifs (readers_at fs) (slice from to (words_at fs i))

-- pairs n m: parameters, the names of a for-in
unfoldable pub tokens_at : List Field → (node from to : ℕ) → List Token
tokens_at fs i from to = tokens (slice from to (words_at fs i))

-- ---- the two children that may be absent

-- a for's initializer: a statement, or none where the child is 65,535
unfoldable pub init_at : List Field → (child : ℕ) → Stmts
init_at fs c = initializer (readers_at fs) c

-- a class's superclass: a variable, or none where the child is 65,535
unfoldable pub super_at : List Field → (child : ℕ) → Super
super_at fs c = superclass (readers_at fs) c

-- ---- node c stands below i, in the role of an expression, of a statement

-- an expression: tags 01 to 09
pub record ExprBelow (fs : List Field) (i c : ℕ) : Type 0 where
  pub below : c < i
  pub low : 0x01 ≤ tag_of fs c
  pub high : tag_of fs c ≤ 0x09

-- a statement: tags 10 to 1D without 1A, an elif's
pub record StmtBelow (fs : List Field) (i c : ℕ) : Type 0 where
  pub below : c < i
  pub low : 0x10 ≤ tag_of fs c
  pub high : tag_of fs c ≤ 0x1D
  pub no_elif : tag_of fs c ≡ 0x1A → ⊥

-- the same in a role that one tag has: 1A an elif, 1C a method, 04 a superclass
pub record TagBelow (fs : List Field) (t i c : ℕ) : Type 0 where
  pub below : c < i
  pub tag : tag_of fs c ≡ t
