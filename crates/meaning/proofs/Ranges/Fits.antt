-- What fits the fields of an image: instructions, prototypes, constants, all that a lowering ends with; and the syntax trees from which
-- such things are made.
-- The idea: a mark fits where `Marks` holds of it, which is a parameter: `MarkIn tag`, by the tag of instructions.
use Prim.Native.Nat.{ℕ, ◌+◌, ◌*◌, ◌≤◌, ◌<◌}
use mathlib.Core.Path.{◌≡◌, refl}
use mathlib.Core.Bool.{Bool, true, false, ◌||◌, cond}
use lib.ListN.{length}
use lib.Dec.{eqb, ltb}
use native.Mathlib.Omega.{arith}
use borrow.Author.Tests.{lt-ltb, eqb-false}
use Rattle.meaning.specs.Grammar.{short_mark}
use Rattle.meaning.specs.Opcode.{opcodes_written, no_mark}
use Rattle.meaning.specs.Images.{inst_tag}
use Rattle.meaning.specs.Constant.{Constant, number, text, other}
use Rattle.meaning.specs.declared.Token.{Token}
use Rattle.meaning.specs.Syntax.{Expr, literal, variable, unary, binary, logical, call, function, Exprs, no_expr, and_expr, Stmt, expression, let_only, let_as, block, while, classic_for, for_in, break, continue, return_none, return, if, try, define, class, Stmts, no_stmt, and_stmt, Elifs, no_elif, and_elif, Fun, fun, Funs, no_fun, and_fun, Super, no_super, super}
use Rattle.meaning.specs.State.{State, Capture, Proto, among}
use Rattle.meaning.specs.Safety.{All}
use Rattle.meaning.specs.declared.Instruction.{Instruction}

-- ---- what an image holds

-- one of the 38 opcodes that this lowering writes
abbrev pub Written : ℕ → Type 0
Written op = among op opcodes_written ≡ true

-- a mark that the instructions of this tag can have: with 47 four bytes; else two, or none
abbrev pub mark_fits : (tag m : ℕ) → Bool
mark_fits tag m = cond (eqb tag 0x47) (ltb m 4294967296) (ltb m 65535 || eqb m 4294967295)

abbrev pub MarkIn : (tag m : ℕ) → Type 0
MarkIn tag m = mark_fits tag m ≡ true

-- what two bytes and what four bytes stand for
pub short_in : (v : ℕ) → v < 65536 → MarkIn 0x43 (short_mark v)
short_in v h = go (eqb v 65535) refl
  where
    go : (c : Bool) → eqb v 65535 ≡ c → (ltb (cond c 4294967295 v) 65535 || eqb (cond c 4294967295 v) 4294967295) ≡ true
    go true q = refl
    go false q = simp (lt-ltb v 65535 (let n = eqb-false v 65535 q in omega (arith, n)))

pub long_in : (v u : ℕ) → v < 65536 → u < 65536 → MarkIn 0x47 (v * 65536 + u)
long_in v u h k = lt-ltb (v * 65536 + u) 4294967296 (omega arith)

pub none_in : (wide : Bool) → MarkIn (inst_tag wide) no_mark
none_in true = refl
none_in false = refl

-- an instruction fits: the opcode is written, the operands are bytes
pub record InstFits (Marks : ℕ → Type 0) (x : Instruction) : Type 0 where
  pub written : Written x.opcode
  pub a : x.a < 256
  pub b : x.b < 256
  pub c : x.c < 256
  pub mark : Marks x.mark

pub record ProtoFits (Marks : ℕ → Type 0) (p : Proto) : Type 0 where
  pub name : p.name < 65536
  pub params : p.params ≤ 255
  pub registers : p.registers ≤ 255
  pub few_captures : length p.captures ≤ 255
  pub captures : All (λ (c : Capture). c.index ≤ 255) p.captures
  pub some : 1 ≤ length p.code
  pub short : length p.code ≤ 32767
  pub code : All (InstFits Marks) p.code

abbrev pub ConstantFits : Constant → Type 0
ConstantFits (number bits) = bits < 18446744073709551616
ConstantFits (text name) = name < 65536
ConstantFits (other word) = word < 65536

-- all that a lowering ends with
pub record Ranged (Marks : ℕ → Type 0) (s : State) : Type 0 where
  pub some_prototypes : 1 ≤ length s.prototypes
  pub few_prototypes : length s.prototypes ≤ 256
  pub prototypes : All (ProtoFits Marks) s.prototypes
  pub few_constants : length s.constants ≤ 1024
  pub constants : All ConstantFits s.constants

-- ---- syntax trees: the names, the marks and the constants in them fit

module _ (Marks : ℕ → Type 0) where
  pub record TokenFits (x : Token) : Type 0 where
    pub name : x.name < 65536
    pub mark : Marks x.mark

  abbrev pub SuperFits : Super → Type 0
  SuperFits no_super = Unit {0}
  SuperFits (super node x) = TokenFits x

  unfoldable mutual
    pub ExprFits : Expr → Type 0
    ExprFits (literal node v) = ConstantFits v
    ExprFits (variable node x) = TokenFits x
    ExprFits (unary node op mark x) = Marks mark × ExprFits x
    ExprFits (binary node op mark x y) = Marks mark × ExprFits x × ExprFits y
    ExprFits (logical node op mark x y) = Marks mark × ExprFits x × ExprFits y
    ExprFits (call node f mark xs) = Marks mark × ExprFits f × ExprsFit xs
    ExprFits (function node ps b) = All TokenFits ps × StmtsFit b

    pub ExprsFit : Exprs → Type 0
    ExprsFit no_expr = Unit {0}
    ExprsFit (and_expr e es) = ExprFits e × ExprsFit es

    pub StmtFits : Stmt → Type 0
    StmtFits (expression node e) = ExprFits e
    StmtFits (let_only node x) = TokenFits x
    StmtFits (let_as node x e) = TokenFits x × ExprFits e
    StmtFits (block node ss) = StmtsFit ss
    StmtFits (while node mark e s) = Marks mark × ExprFits e × StmtFits s
    StmtFits (classic_for node mark i c n s) = Marks mark × StmtsFit i × ExprFits c × ExprFits n × StmtFits s
    StmtFits (for_in node mark e s xs) = Marks mark × ExprFits e × StmtFits s × All TokenFits xs
    StmtFits (break node mark) = Marks mark
    StmtFits (continue node mark) = Marks mark
    StmtFits (return_none node mark) = Marks mark
    StmtFits (return node mark e) = Marks mark × ExprFits e
    StmtFits (if node mark e ss es ts) = Marks mark × ExprFits e × StmtsFit ss × ElifsFit es × StmtsFit ts
    StmtFits (try node s x t) = StmtFits s × TokenFits x × StmtFits t
    StmtFits (define f) = FunFits f
    StmtFits (class node x p ms ts) = TokenFits x × SuperFits p × FunsFit ms × FunsFit ts

    pub StmtsFit : Stmts → Type 0
    StmtsFit no_stmt = Unit {0}
    StmtsFit (and_stmt s ss) = StmtFits s × StmtsFit ss

    pub ElifsFit : Elifs → Type 0
    ElifsFit no_elif = Unit {0}
    ElifsFit (and_elif e ss es) = ExprFits e × StmtsFit ss × ElifsFit es

    pub FunFits : Fun → Type 0
    FunFits (fun node x ps b) = TokenFits x × All TokenFits ps × StmtsFit b

    pub FunsFit : Funs → Type 0
    FunsFit no_fun = Unit {0}
    FunsFit (and_fun f fs) = FunFits f × FunsFit fs
