-- 01, the table of tags, and 02, E5: what each tag's payload holds, item by item; what it is to fit; the children that a payload names; its words as they are due.
use Rattle.std.specs.Prelude.{ℕ, zero, suc, ◌+◌, ◌-◌, ◌*◌, Bool, true, false, not, ◌&&◌, ◌||◌, cond, List, [], ◌∷◌, ◌++◌, map, length, get_or, drop, replicate, eqb, leb, ltb}
use Rattle.meaning.specs.Fields.{Field, field_at, words}

-- ---- the kinds of words

-- nothing is lawful there
abbrev pub none : ℕ
none = 0

-- a piece of a number, a text, another literal, a mark's two bytes
abbrev pub any : ℕ
any = 1

-- a name, which is not 65,535, the empty text
abbrev pub name : ℕ
name = 2

-- the operator of a unary or a logical node
abbrev pub op : ℕ
op = 3

-- the operator of a binary one
abbrev pub op12 : ℕ
op12 = 4

-- how many groups of words follow
abbrev pub count : ℕ
count = 5

-- from here on children, by their role: an expression
abbrev pub expr : ℕ
expr = 6

-- a statement
abbrev pub stmt : ℕ
stmt = 7

-- an elif under an if
abbrev pub elif : ℕ
elif = 8

-- a function statement as a class's method
abbrev pub method : ℕ
method = 9

-- a variable as superclass; it and the initializer below may be absent
abbrev pub super : ℕ
super = 10

-- a let or an expression statement as a for's initializer
abbrev pub init : ℕ
init = 11

-- a mark, which has two bytes, or four in a wide tree; every one is lawful
abbrev pub mark : ℕ
mark = 12

-- of each kind the lowest, the highest and one more that is not lawful: of the word, and from `expr` on of the child's tag
unfoldable pub bounds : List ℕ
bounds =
    -- none
    1 ∷ 0 ∷ 65536 ∷
    -- any
    0 ∷ 65535 ∷ 65536 ∷
    -- name: not 65,535
    0 ∷ 65535 ∷ 65535 ∷
    -- op, op12
    1 ∷ 2 ∷ 65536 ∷
    1 ∷ 12 ∷ 65536 ∷
    -- count
    0 ∷ 65535 ∷ 65536 ∷
    -- expr: tags 01 to 09
    0x01 ∷ 0x09 ∷ 65536 ∷
    -- stmt: tags 10 to 1D without 1A
    0x10 ∷ 0x1D ∷ 0x1A ∷
    -- elif
    0x1A ∷ 0x1A ∷ 65536 ∷
    -- method: a function statement
    0x1C ∷ 0x1C ∷ 65536 ∷
    -- super: a variable
    0x04 ∷ 0x04 ∷ 65536 ∷
    -- init: an expression statement or a let
    0x10 ∷ 0x11 ∷ 65536 ∷
    []

-- the entry of a kind in a column: 0 the lowest, 1 the highest, 2 the one that is not lawful
unfoldable pub bound : (kind column : ℕ) → ℕ
bound kind column = get_or bounds (kind * 3 + column) 0

-- a number is within a kind's bounds
unfoldable pub inside : (kind v : ℕ) → Bool
inside kind v = leb (bound kind 0) v && leb v (bound kind 1) && not (eqb v (bound kind 2))

-- "Child 65,535 means absent"
abbrev pub absent : ℕ → Bool
absent w = eqb w 65535

-- the word names a child
unfoldable pub names : (kind w : ℕ) → Bool
names kind w = cond (ltb kind expr) false (cond (ltb kind super) true (ltb kind mark && not (absent w)))

-- the word w is lawful at a kind in node i: a child stands below i, and its tag has the right role
unfoldable pub lawful : (tags : List ℕ) (i kind w : ℕ) → Bool
lawful tags i kind w = cond (names kind w) (ltb w i && inside kind (get_or tags w 0)) (cond (ltb kind expr) (inside kind w) true)

-- ---- payloads

-- a piece of a payload: what may stand there
pub data Item : Type 0 where
  -- a word of a kind
  one : ℕ → Item
  -- such a word, or the end
  perhaps : ℕ → Item
  -- any number of groups of words of these kinds, to the end
  many : List ℕ → Item
  -- a count, and as many groups
  counted : List ℕ → Item

-- what fits no payload
abbrev pub never : List Item
never = one none ∷ []

-- the payload of each tag, from 00 on
unfoldable pub grammar : List (List Item)
grammar =
    never ∷
    -- 01 number: 8 bytes binary64
    (one any ∷ one any ∷ one any ∷ one any ∷ []) ∷
    -- 02 text, 03 other literal
    (one any ∷ []) ∷
    (one any ∷ []) ∷
    -- 04 variable
    (one name ∷ one mark ∷ []) ∷
    -- 05 unary, 06 binary, 07 logical
    (one op ∷ one mark ∷ one expr ∷ []) ∷
    (one op12 ∷ one mark ∷ one expr ∷ one expr ∷ []) ∷
    (one op ∷ one mark ∷ one expr ∷ one expr ∷ []) ∷
    -- 08 call, 09 function
    (one expr ∷ one mark ∷ many (expr ∷ []) ∷ []) ∷
    (counted (name ∷ mark ∷ []) ∷ many (stmt ∷ []) ∷ []) ∷
    never ∷ never ∷ never ∷ never ∷ never ∷ never ∷
    -- 10 expression, 11 let, 12 block
    (one expr ∷ []) ∷
    (one name ∷ one mark ∷ perhaps expr ∷ []) ∷
    (many (stmt ∷ []) ∷ []) ∷
    -- 13 while, 14 for, 15 for-in
    (one mark ∷ one expr ∷ one stmt ∷ []) ∷
    (one mark ∷ one init ∷ one expr ∷ one expr ∷ one stmt ∷ []) ∷
    (one mark ∷ one expr ∷ one stmt ∷ one name ∷ one mark ∷ many (name ∷ mark ∷ []) ∷ []) ∷
    -- 16 break, 17 continue, 18 return
    (one mark ∷ []) ∷
    (one mark ∷ []) ∷
    (one mark ∷ perhaps expr ∷ []) ∷
    -- 19 if, 1A elif, 1B try
    (one mark ∷ one expr ∷ counted (stmt ∷ []) ∷ counted (elif ∷ []) ∷ many (stmt ∷ []) ∷ []) ∷
    (one expr ∷ many (stmt ∷ []) ∷ []) ∷
    (one stmt ∷ one name ∷ one mark ∷ one stmt ∷ []) ∷
    -- 1C function statement, 1D class, 1E program; and 02, E5: 3E, a program whose tree has wide marks
    (one name ∷ one mark ∷ counted (name ∷ mark ∷ []) ∷ many (stmt ∷ []) ∷ []) ∷
    (one name ∷ one mark ∷ one super ∷ counted (method ∷ []) ∷ many (method ∷ []) ∷ []) ∷
    (many (stmt ∷ []) ∷ []) ∷
    (replicate 31 never ++ (many (stmt ∷ []) ∷ []) ∷ [])

-- the payload of a tag; nothing fits a number that is no tag
unfoldable pub items_of : (tag : ℕ) → List Item
items_of tag = get_or grammar tag never

-- ---- what it is to fit

-- a word of each of the kinds, before the items
abbrev pub ones : List ℕ → List Item → List Item
ones [] is = is
ones (k ∷ ks) is = one k ∷ ones ks is

-- so many groups of words of the kinds, before the items
abbrev pub copies : ℕ → List ℕ → List Item → List Item
copies zero ks is = is
copies (suc n) ks is = ones ks (copies n ks is)

-- kinds as the words of a file have them: a mark is two bytes, "in a wide tree four"
unfoldable pub spread_kinds : (wide : Bool) → List ℕ → List ℕ
spread_kinds wide [] = []
spread_kinds wide (k ∷ ks) = cond (eqb k mark) (cond wide (any ∷ any ∷ spread_kinds wide ks) (any ∷ spread_kinds wide ks)) (k ∷ spread_kinds wide ks)

-- the same of items
unfoldable pub spread : (wide : Bool) → List Item → List Item
spread wide [] = []
spread wide (one k ∷ is) = ones (spread_kinds wide (k ∷ [])) (spread wide is)
spread wide (perhaps k ∷ is) = perhaps k ∷ spread wide is
spread wide (many ks ∷ is) = many (spread_kinds wide ks) ∷ spread wide is
spread wide (counted ks ∷ is) = counted (spread_kinds wide ks) ∷ spread wide is

-- the payload of a tag, in words of a file
unfoldable pub items_in : (wide : Bool) → (tag : ℕ) → List Item
items_in wide tag = spread wide (items_of tag)

-- 1E, or "tag 3E in place of 1E"
abbrev pub is_program : (tag : ℕ) → Bool
is_program tag = eqb tag 0x1E || eqb tag 0x3E

-- the last node is a program, and no other is
unfoldable pub items_for : (wide : Bool) → (tag : ℕ) → (last : Bool) → List Item
items_for wide tag true = cond (is_program tag) (items_in wide tag) never
items_for wide tag false = cond (is_program tag) never (items_in wide tag)

-- the payload may end before these items
unfoldable pub ends : List Item → Bool
ends [] = true
ends (one k ∷ is) = false
ends (perhaps k ∷ is) = ends is
ends (many ks ∷ is) = ends is
ends (counted ks ∷ is) = false

-- the kind of the next word
unfoldable pub kind_of : List Item → ℕ
kind_of [] = none
kind_of (one k ∷ is) = k
kind_of (perhaps k ∷ is) = k
kind_of (many ks ∷ is) = get_or ks 0 none
kind_of (counted ks ∷ is) = count

-- what is due after the next word w
unfoldable pub due_after : List Item → (w : ℕ) → List Item
due_after [] w = []
due_after (one k ∷ is) w = is
due_after (perhaps k ∷ is) w = is
due_after (many ks ∷ is) w = ones (drop 1 ks) (many ks ∷ is)
due_after (counted ks ∷ is) w = copies w ks is

-- a payload's bytes fit, where `ok` says which word is lawful at which kind
unfoldable pub fits : (ok : ℕ → ℕ → Bool) → List Item → List ℕ → Bool
fits ok is [] = ends is
fits ok is (a ∷ []) = false
fits ok is (a ∷ b ∷ p) = ok (kind_of is) (a * 256 + b) && fits ok (due_after is (a * 256 + b)) p

-- the children that a payload names, in order
unfoldable pub kids : List Item → List ℕ → List ℕ
kids is [] = []
kids is (a ∷ []) = []
kids is (a ∷ b ∷ p) = cond (names (kind_of is) (a * 256 + b)) ((a * 256 + b) ∷ []) [] ++ kids (due_after is (a * 256 + b)) p

-- the nodes' tags, in the order of the nodes
abbrev pub tags_of : List Field → List ℕ
tags_of fs = map (λ f. f.tag) fs

-- E5: "A last field with tag 3E in place of 1E says that every mark in its tree has four bytes"
unfoldable pub wide_marks : List Field → Bool
wide_marks fs = eqb (field_at fs (length fs - 1)).tag 0x3E

-- "A node has the right shape when .."
unfoldable pub shape_at : List Field → ℕ → Bool
shape_at fs i = fits (lawful (tags_of fs) i) (items_for (wide_marks fs) (field_at fs i).tag (eqb (i + 1) (length fs))) (field_at fs i).payload

-- ---- words as they are due

-- the next word is a mark
unfoldable pub marked : List Item → Bool
marked is = eqb (kind_of is) mark

-- a mark of two bytes: 65,535 is none, which is 4,294,967,295 at either width
abbrev pub short_mark : ℕ → ℕ
short_mark v = cond (eqb v 65535) 4294967295 v

-- a word of two bytes
unfoldable pub short : List Item → ℕ → ℕ
short is v = cond (marked is) (short_mark v) v

-- the words of a payload, where a mark is one: a wide one is made of two words of the file
unfoldable pub due_words : (wide : Bool) → List Item → List ℕ → List ℕ
due_words wide is [] = []
due_words wide is (v ∷ []) = cond (wide && marked is) (v * 65536 ∷ []) (short is v ∷ [])
due_words wide is (v ∷ u ∷ vs) =
    let long = due_words wide (due_after is (v * 65536 + u)) vs in
    let next = due_words wide (due_after is (short is v)) (u ∷ vs) in
    cond (wide && marked is) ((v * 65536 + u) ∷ long) (short is v ∷ next)

-- the words of a node
unfoldable pub words_of : (wide : Bool) → Field → List ℕ
words_of wide f = due_words wide (items_of f.tag) (words f.payload)
