-- What a node of each kind holds, by name, in the order of 01's table of tags. Word k of node i is `word_of fs i k`, at either width of the marks.
use Rattle.std.specs.Prelude.{ℕ, ◌+◌, ◌-◌, ◌*◌, ◌/◌, ◌<◌, ◌≡◌, Bool, true, cond, List, length, ltb, Option, None, Some}
use Rattle.meaning.specs.Fields.{Field, fields}
use Rattle.meaning.specs.Grammar.{shape_at, wide_marks, absent}
use Rattle.meaning.specs.declared.Token.{Token}
use Rattle.meaning.specs.Read.{at, words_at, token}
use Rattle.meaning.specs.At.{extra, mark_at, word_of, count_of, tokens_at}
use Rattle.meaning.specs.Functions.{first_mark}
use Rattle.nodes.specs.declared.expressions.Unary.{Unary}
use Rattle.nodes.specs.declared.expressions.Binary.{Binary}
use Rattle.nodes.specs.declared.expressions.Call.{Call}
use Rattle.nodes.specs.declared.expressions.Function.{Function}
use Rattle.nodes.specs.declared.statements.Let.{Let}
use Rattle.nodes.specs.declared.statements.While.{While}
use Rattle.nodes.specs.declared.statements.For.{For}
use Rattle.nodes.specs.declared.statements.ForIn.{ForIn}
use Rattle.nodes.specs.declared.statements.Return.{Return}
use Rattle.nodes.specs.declared.statements.If.{If}
use Rattle.nodes.specs.declared.statements.Elif.{Elif}
use Rattle.nodes.specs.declared.statements.Try.{Try}
use Rattle.nodes.specs.declared.statements.Define.{Define}
use Rattle.nodes.specs.declared.statements.Class.{Class}
use Rattle.nodes.specs.Offsets.{Readable}

-- ---- what a reader is given

-- a node that can be read, of a tree whose nodes all have the right shape
pub record Node (tree work : List ℕ) (node : ℕ) : Type 0 where
  pub readable : Readable tree work node
  pub shapes : (j : ℕ) → j < length (fields tree) → shape_at (fields tree) j ≡ true

-- the words of the file that a mark of the tree takes more than one: 1 where marks are wide, else 0
abbrev pub Width : (tree : List ℕ) (wide : ℕ) → Type 0
Width tree wide = wide ≡ extra (wide_marks (fields tree))

-- ---- expressions

-- 04 variable: n m
abbrev pub variable_of : List Field → (node : ℕ) → Token
variable_of fs i = token (word_of fs i 0) (word_of fs i 1)

-- 05 unary: op m x
abbrev pub unary_of : List Field → (node : ℕ) → Unary
unary_of fs i = record { op = word_of fs i 0; mark = word_of fs i 1; operand = word_of fs i 2 }

-- 06 binary, 07 logical: op m x x, in the words of a payload
abbrev pub binary_in : (wide_marks : Bool) → List ℕ → (wide : ℕ) → Binary
binary_in b ws wide = record { op = at ws 0; mark = mark_at b ws 1; left = at ws (2 + wide); right = at ws (3 + wide) }

-- 06 binary: op m x x
abbrev pub binary_of : List Field → (node : ℕ) → Binary
binary_of fs i = record { op = word_of fs i 0; mark = word_of fs i 1; left = word_of fs i 2; right = word_of fs i 3 }

-- 07 logical: op m x x
abbrev pub logical_of : List Field → (node : ℕ) → Binary
logical_of fs i = record { op = word_of fs i 0; mark = word_of fs i 1; left = word_of fs i 2; right = word_of fs i 3 }

-- 08 call: callee m arguments..; how many arguments
abbrev pub call_of : List Field → (node : ℕ) → Call
call_of fs i = record { callee = word_of fs i 0; mark = word_of fs i 1; arguments = count_of fs i - 2 }

-- 09 function: k, k pairs n m, body..; how many parameters, the mark of the first, if there is one, and where the body ends
abbrev pub function_of : List Field → (node : ℕ) → Function
function_of fs i = record { params = word_of fs i 0; mark = first_mark (tokens_at fs i 1 (1 + 2 * word_of fs i 0)); end = count_of fs i }

-- ---- statements

-- word k, or none where the words end before it
abbrev pub word_or_absent : List ℕ → (k : ℕ) → Option ℕ
word_or_absent ws k = cond (ltb k (length ws)) (Some (at ws k)) None

-- a child, or none: "Child 65,535 means absent"
abbrev pub unless_absent : ℕ → Option ℕ
unless_absent n = cond (absent n) None (Some n)

-- 10 expression: x
abbrev pub expr_stmt_of : List Field → (node : ℕ) → ℕ
expr_stmt_of fs i = word_of fs i 0

-- 11 let: n m and perhaps x
abbrev pub let_of : List Field → (node : ℕ) → Let
let_of fs i = record { token = token (word_of fs i 0) (word_of fs i 1); value = word_or_absent (words_at fs i) 2 }

-- 13 while: m condition body
abbrev pub while_of : List Field → (node : ℕ) → While
while_of fs i = record { mark = word_of fs i 0; condition = word_of fs i 1; body = word_of fs i 2 }

-- 14 for: m initializer condition increment body
abbrev pub for_of : List Field → (node : ℕ) → For
for_of fs i = record { mark = word_of fs i 0; initializer = unless_absent (word_of fs i 1); condition = word_of fs i 2; increment = word_of fs i 3; body = word_of fs i 4 }

-- 15 for-in: m collection body, pairs n m; how many names
abbrev pub for_in_of : List Field → (node : ℕ) → ForIn
for_in_of fs i = record { mark = word_of fs i 0; collection = word_of fs i 1; body = word_of fs i 2; names = (count_of fs i - 3) / 2 }

-- 16 break, 17 continue: m
abbrev pub jump_of : List Field → (node : ℕ) → ℕ
jump_of fs i = word_of fs i 0

-- 18 return: m and perhaps x
abbrev pub return_of : List Field → (node : ℕ) → Return
return_of fs i = record { mark = word_of fs i 0; value = word_or_absent (words_at fs i) 1 }

-- 19 if: m condition t, t x, e, e elifs, else x..; where its statements, its elifs and its else end
abbrev pub if_of : List Field → (node : ℕ) → If
if_of fs i =
    record {
      mark = word_of fs i 0;
      condition = word_of fs i 1;
      thens = 3 + word_of fs i 2;
      elifs = 4 + word_of fs i 2 + word_of fs i (3 + word_of fs i 2);
      end = count_of fs i;
    }

-- 1A elif: condition x..; where it ends
abbrev pub elif_of : List Field → (node : ℕ) → Elif
elif_of fs i = record { condition = word_of fs i 0; end = count_of fs i }

-- 1B try: body n m catch body
abbrev pub try_of : List Field → (node : ℕ) → Try
try_of fs i = record { body = word_of fs i 0; token = token (word_of fs i 1) (word_of fs i 2); catch = word_of fs i 3 }

-- 1C function statement: n m k, k pairs n m, body..; how many parameters, and where the body ends
abbrev pub define_of : List Field → (node : ℕ) → Define
define_of fs i = record { token = token (word_of fs i 0) (word_of fs i 1); params = word_of fs i 2; end = count_of fs i }

-- 1D class: n m superclass s, s methods, static methods..; how many methods, and where the static ones end
abbrev pub class_of : List Field → (node : ℕ) → Class
class_of fs i = record { token = token (word_of fs i 0) (word_of fs i 1); superclass = unless_absent (word_of fs i 2); methods = word_of fs i 3; end = count_of fs i }
